-- All channels are told of a move.
use Rattle.std.proofs.Common.{◌≡◌, ℕ, zero, suc, ◌+◌, ◌-◌, ◌<◌, ◌≤◌, ◌==◌, List, [], ◌∷◌, length, map, take, drop, set, get_or, Option, Some, None, if◌then◌else◌, refl, sym, ap, subst, ◌∙◌, arith, ⊎_elim}
use Rattle.std.specs.List.{sum_by}
use Rattle.std.proofs.lemmas.Bool.{cases_lt, cases_eq}
use Rattle.std.proofs.lemmas.Bool.Decides.{nat_tests}
use Rattle.std.proofs.lemmas.List.{get_or-set_other, get_or-set_same, get_or_past, get_or_read, nil_from_length}
use Rattle.std.proofs.lemmas.List.Sums.{sum_by-cons}
use Rattle.reliable_window.specs.Bits.{bit_in}
use Rattle.reliable_window.specs.Out.{Window, moved_to}
use Rattle.outgoing_channels.specs.declared.made_bunch.MadeBunch.{MadeBunch}
use Rattle.outgoing_channels.specs.declared.slot.OutSlot.{OutSlot}
use Rattle.outgoing_channels.specs.Made.{Outgoing}
use Rattle.outgoing_channels.specs.Slots.{outgoing_of, slot_at, empty_slot, kept_of, WindowFits, Marks, MovesOut}

-- ---- sums over the first items

pub sum_step : {A : Type 0} (f : A → ℕ) (d : A) (xs : List A) (n : ℕ) → n < length xs
    → sum_by f (take (n + 1) xs) ≡ sum_by f (take n xs) + f (get_or xs n d)
sum_step f d [] n h = absurd (omega arith)
sum_step f d (x ∷ xs) zero h = sum_by-cons f x [] ∙ omega arith
sum_step f d (x ∷ xs) (suc n) h =
    let e : suc n + 1 ≡ suc (n + 1) = omega arith in
    rw e (omega (arith, sum_by-cons f x (take (n + 1) xs), sum_by-cons f x (take n xs), sum_step f d xs n (omega arith)))

-- items that count for nothing
pub sum_quiet : {A : Type 0} (f : A → ℕ) (d : A) (xs : List A) (n k : ℕ) → n + k ≤ length xs
    → ((i : ℕ) → n ≤ i → i < n + k → f (get_or xs i d) ≡ 0) → sum_by f (take (n + k) xs) ≡ sum_by f (take n xs)
sum_quiet f d xs n zero most none = (let e : n + 0 ≡ n = omega arith in ap (λ i. sum_by f (take i xs)) e)
sum_quiet f d xs n (suc k) most none =
    let e : n + suc k ≡ n + k + 1 = omega arith in
    ap (λ i. sum_by f (take i xs)) e
    ∙ omega (arith, sum_step f d xs (n + k) (omega arith), none (n + k) (omega arith) (omega arith), sum_quiet f d xs n k (omega arith) (λ i lo hi. none i lo (omega arith)))

pub sum_upto : {A : Type 0} (f : A → ℕ) (d : A) (xs : List A) (n m : ℕ) → n ≤ m → m ≤ length xs
    → ((i : ℕ) → n ≤ i → i < m → f (get_or xs i d) ≡ 0) → sum_by f (take m xs) ≡ sum_by f (take n xs)
sum_upto f d xs n m le most none =
    let e : m ≡ n + (m - n) = omega arith in
    ap (λ i. sum_by f (take i xs)) e ∙ sum_quiet f d xs n (m - n) (omega arith) (λ i lo hi. none i lo (omega arith))

pub sum_rest : {A : Type 0} (f : A → ℕ) (d : A) (xs : List A) (n : ℕ) → ((i : ℕ) → n ≤ i → f (get_or xs i d) ≡ 0)
    → sum_by f (take n xs) ≡ sum_by f xs
sum_rest f d [] zero none = refl
sum_rest f d [] (suc n) none = refl
sum_rest f d (x ∷ xs) zero none =
    omega (arith, sum_by-cons f x xs, none 0 (omega arith), sum_rest f d xs 0 (λ i h. none (suc i) (omega arith)))
sum_rest f d (x ∷ xs) (suc n) none =
    omega (arith, sum_by-cons f x (take n xs), sum_by-cons f x xs, sum_rest f d xs n (λ i h. none (suc i) (omega arith)))

-- ---- one channel

pub other_slot : (xs ys : List OutSlot) (ch c : ℕ) (y : OutSlot) → ys ≡ set xs ch y → (c ≡ ch → ⊥)
    → slot_at ys c ≡ slot_at xs c
other_slot xs ys ch c y e ne = ap (λ zs. slot_at zs c) e ∙ get_or-set_other xs ch c y empty_slot ne

if_none : (n b : ℕ) → b ≡ (if n == 0 then 0 else 1) → b ≡ 0 → n ≡ 0
if_none n b e z = grind (arith, nat_tests)

-- a channel that isn't marked keeps nothing
pub unmarked : (active : List ℕ) (xs : List OutSlot) (ch : ℕ) → Marks active xs → ch < 32768 → bit_in active ch ≡ 0
    → kept_of (slot_at xs ch) ≡ []
unmarked active xs ch m h e =
    nil_from_length (kept_of (slot_at xs ch)) (if_none (length (kept_of (slot_at xs ch))) (bit_in active ch) (m ch h) e)

if_some : (n b : ℕ) → b ≡ (if n == 0 then 0 else 1) → b ≡ 1 → n ≡ 0 → ⊥
if_some n b e z q = grind (arith, nat_tests)

-- one that is marked has a slot
pub marked_within : (active : List ℕ) (xs : List OutSlot) (ch : ℕ) → Marks active xs → ch < 32768
    → bit_in active ch ≡ 1 → ch < length xs
marked_within active xs ch m h e = ⊎_elim
    (λ (low : ch < length xs). low)
    (λ (high : length xs ≤ ch).
    absurd (if_some (length (kept_of (slot_at xs ch))) (bit_in active ch) (m ch h) e (ap (λ s. length (kept_of s)) (get_or_past xs ch empty_slot high))))
    (cases_lt ch (length xs))

-- the slot that stands at a place
pub slot_read : (xs : List OutSlot) (ch : ℕ) (s : OutSlot) → ch < length xs → s ≡ get_or xs ch s → s ≡ slot_at xs ch
slot_read xs ch s within e = get_or_read xs ch s within e empty_slot

pub slot_set : (xs : List OutSlot) (ch : ℕ) (s : OutSlot) → ch < length xs → slot_at (set xs ch s) ch ≡ s
slot_set xs ch s within = get_or-set_same xs ch s empty_slot within

-- it stays as it is
pub rests_out : (to : ℕ) (o : Outgoing) → o.kept ≡ [] → MovesOut to o o
rests_out to o e = record {
  gone = 0;
  most = omega arith;
  next = refl;
  kept = e ∙ sym (ap (λ ks. drop 0 (map (moved_to to) ks)) e);
  arrived = λ i k low at. absurd (omega arith);
  left = λ k at. absurd (let at' = rw e at at in cc);
}

pub moves_as : (to : ℕ) (a b c d : OutSlot) → a ≡ b → c ≡ d → MovesOut to (outgoing_of b) (outgoing_of d)
    → MovesOut to (outgoing_of a) (outgoing_of c)
moves_as to a b c d e f h = rw (e, f) h

pub fits_as : (to : ℕ) (a b : OutSlot) → a ≡ b → WindowFits to b.next b.window → WindowFits to a.next a.window
fits_as to a b e h = rw e h

pub fits_later : (high to next : ℕ) (o : Option (Window MadeBunch)) → high < to → WindowFits high next o
    → WindowFits to next o
fits_later high to next None lt h = h
fits_later high to next (Some w) lt h = (h.0, omega (arith, h.1))

-- the set is right once bunches are made on one channel
pub marks_made : (active later : List ℕ) (xs ys : List OutSlot) (ch : ℕ) → Marks active xs
    → ((c : ℕ) → (c ≡ ch → ⊥) → slot_at ys c ≡ slot_at xs c)
    → ((c : ℕ) → c < 32768 → (c ≡ ch → ⊥) → bit_in later c ≡ bit_in active c)
    → bit_in later ch ≡ (if length (kept_of (slot_at ys ch)) == 0 then 0 else 1)
    → Marks later ys
marks_made active later xs ys ch m others same here c low = ⊎_elim
    (λ (q : c ≡ ch). subst (λ (k : ℕ). bit_in later k ≡ (if length (kept_of (slot_at ys k)) == 0 then 0 else 1)) (sym q) here)
    (λ (ne : c ≡ ch → ⊥). same c low ne ∙ m c low ∙ ap (λ s. if length (kept_of s) == 0 then 0 else 1) (sym (others c ne)))
    (cases_eq c ch)

-- the set is right once one channel has changed
pub marks_after : (active later : List ℕ) (xs ys : List OutSlot) (ch : ℕ) (y : OutSlot) → Marks active xs
    → ys ≡ set xs ch y
    → ((c : ℕ) → c < 32768 → (c ≡ ch → ⊥) → bit_in later c ≡ bit_in active c)
    → bit_in later ch ≡ (if length (kept_of (slot_at ys ch)) == 0 then 0 else 1)
    → Marks later ys
marks_after active later xs ys ch y m e same here =
    marks_made active later xs ys ch m (λ c ne. other_slot xs ys ch c y e ne) same here

pub bit_zero : (i ch x y z : ℕ) → (i ≡ ch → ⊥) → x ≡ (if i == ch then y else z) → x ≡ z
bit_zero i ch x y z ne e = grind (arith, nat_tests)

pub bit_same : (i x y z : ℕ) → x ≡ (if i == i then y else z) → x ≡ y
bit_same i x y z e = grind (arith, nat_tests)

pub none_kept : (n : ℕ) → n ≡ 0 → ◌≡◌ {A = ℕ} 0 (if n == 0 then 0 else 1)
none_kept n e = grind (arith, nat_tests)

pub some_kept : (n : ℕ) → (n ≡ 0 → ⊥) → ◌≡◌ {A = ℕ} 1 (if n == 0 then 0 else 1)
some_kept n e = grind (arith, nat_tests)
