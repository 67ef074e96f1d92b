-- What a window of items received was offered, and what follows.
use Rattle.std.specs.Prelude.{⊤, ◌≡◌, ℕ, ◌+◌, ◌/◌, ◌<◌, ◌==◌, List, [], ◌∷◌, map, length, Bool, true, false, not, ◌||◌, nat_lt, nat_le, Option, Some, None, slice_get, ℤ, pos, negsuc, if◌then◌else◌}
use Rattle.std.specs.Bool.{then_some}
use Rattle.protocol_model.specs.Limits.{sequence_modulus, held_limit}
use Rattle.protocol_model.specs.Bits.{near}
use Rattle.protocol_model.specs.Search.{is_among, least_from, newest_of}
use Rattle.reliable_window.specs.declared.offered.Offered.{Offered}
use Rattle.reliable_window.specs.declared.offered.Offered.TheVariants as offered
use Rattle.reliable_window.specs.declared.place.Place.{Place}
use Rattle.reliable_window.specs.declared.place.Place.TheVariants as place

-- the items received, each with the number as which it was, the newest first
abbrev pub Received : Type 0 → Type 0
Received T = List (ℕ × T)

-- the least number that wasn't received
abbrev pub next_of : {T : Type 0} → Received T → ℕ
next_of {T} got = least_from (λ n. not (is_among n (map (λ (r : ℕ × T). r.0) got))) (length got) 1

-- the number of a sequence: the one nearest to the next
abbrev pub number_as : {T : Type 0} → Received T → (seq : ℕ) → ℤ
number_as got seq = near seq (pos (next_of got)) sequence_modulus

-- it is not new: below the next, or received before
abbrev pub is_repeat : {T : Type 0} → Received T → ℤ → Bool
is_repeat got (negsuc n) = true
is_repeat {T} got (pos n) = nat_lt n (next_of got) || is_among n (map (λ (r : ℕ × T). r.0) got)

-- the number, where there is one
abbrev pub natural_of : ℤ → ℕ
natural_of (pos n) = n
natural_of (negsuc n) = 0

-- the answer to an item that is offered, where `held` are held already
abbrev pub IsOffered : {T : Type 0} → Received T → (seq : ℕ) → (item : T) → (held : ℕ) → Offered T → Type 0
IsOffered got seq item held offered.Repeat = is_repeat got (number_as got seq) ≡ true
IsOffered got seq item held (offered.Ready ready) = (number_as got seq ≡ pos (next_of got)) × (ready ≡ item)
IsOffered got seq item held offered.Held =
    (is_repeat got (number_as got seq) ≡ false)
    × (nat_lt (next_of got) (natural_of (number_as got seq)) ≡ true) × (held < held_limit)
IsOffered got seq item held offered.Overrun =
    (is_repeat got (number_as got seq) ≡ false)
    × (nat_lt (next_of got) (natural_of (number_as got seq)) ≡ true) × (nat_lt held held_limit ≡ false)

-- where this number stands
abbrev pub IsPlaced : {T : Type 0} → Received T → ℤ → Place → Type 0
IsPlaced got number place.Repeat = is_repeat got number ≡ true
IsPlaced got number place.Next = number ≡ pos (next_of got)
IsPlaced got number (place.Ahead n) =
    (number ≡ pos n) × (next_of got < n) × (is_repeat got number ≡ false)

-- a number ahead of the next is less than half the modulus above it
abbrev pub IsAhead : (next : ℕ) → Place → Type 0
IsAhead next place.Repeat = ⊤
IsAhead next place.Next = ⊤
IsAhead next (place.Ahead n) = (next < n) × (n < next + sequence_modulus / 2)

-- what was received with this item, if it was taken
abbrev pub with_offer : {T : Type 0} → Received T → (seq : ℕ) → (item : T) → Offered T → Received T
with_offer got seq item offered.Repeat = got
with_offer got seq item offered.Overrun = got
with_offer got seq item (offered.Ready ready) = (natural_of (number_as got seq), item) ∷ got
with_offer got seq item offered.Held = (natural_of (number_as got seq), item) ∷ got

-- the number of the next item to be handed over, and those held at or above it
pub record Window (T : Type 0) : Type 0 where
  pub next : ℕ
  pub held : List (ℕ × T)

-- the item of a number
abbrev pub item_of : {T : Type 0} → List (ℕ × T) → ℕ → Option T
item_of {T} got n = newest_of (λ (r : ℕ × T). then_some (r.0 == n) r.1) got

-- the item that is kept at a place
abbrev pub kept_at : {T : Type 0} → List (Option T) → ℕ → Option T
kept_at items i = elim (slice_get items i) [ None ↦ None | Some kept ↦ kept ]

-- the items kept, where the first place is that of a number
abbrev pub held_from : {T : Type 0} → ℕ → List (Option T) → List (ℕ × T)
held_from n [] = []
held_from n (None ∷ items) = held_from (n + 1) items
held_from n (Some item ∷ items) = (n, item) ∷ held_from (n + 1) items

-- the window stands for what was received, of which those below `next` were handed over
pub record Stands {T : Type 0} (w : Window T) (got : Received T) : Type 0 where
  pub next : next_of got ≡ w.next
  pub held : (n : ℕ) → item_of w.held n ≡ (if nat_lt n w.next then None else item_of got n)

-- the same in the middle of handing over: `next` is not above the least number that wasn't received
pub record HandsOver {T : Type 0} (w : Window T) (got : Received T) : Type 0 where
  pub next : nat_le w.next (next_of got) ≡ true
  pub held : (n : ℕ) → item_of w.held n ≡ (if nat_lt n w.next then None else item_of got n)

-- where the item isn't the next, the window stands for what was received at once
abbrev pub RestsAfter : {T : Type 0} → Window T → Received T → (seq : ℕ) → (item : T) → Offered T → Type 0
RestsAfter w got seq item offered.Repeat = Stands w got
RestsAfter w got seq item offered.Overrun = Stands w got
RestsAfter w got seq item offered.Held = Stands w (with_offer got seq item offered.Held)
RestsAfter w got seq item (offered.Ready ready) = ⊤
