-- Pieces of a payload, as they are cut and made.
use Rattle.std.proofs.Common.{◌≡◌, inl, inr, ℕ, suc, zero, ◌+◌, ◌-◌, ◌*◌, ◌/◌, ◌<◌, ◌≤◌, List, [], ◌∷◌, ◌++◌, take, drop, set, length, min, Bool, nat_lt, nat_le, Option, Some, None, unwrap_or, Result, Ok, Err, IfOk, sym, ap, subst, ◌∙◌, arith, length-drop, slice_get, ⊎_elim}
use Rattle.std.proofs.lemmas.Bool.{cases_Bool, cases_lt}
use Rattle.std.proofs.lemmas.Bool.Decides.{nat_tests}
use Rattle.std.proofs.lemmas.List.{take_all, length-set, drop-drop}
use Rattle.circular_buffer.proofs.Places.{slice_get-drop, slice_get-append_left, slice_get-append_right}
use Rattle.protocol_model.specs.Numbers.{leading_bits}
use Rattle.protocol_model.specs.Payload.{part_count, piece_at}
use Rattle.reliable_window.specs.Out.{Window, carried_by}
use Rattle.reliable_window.specs.declared.slot.Slot.{Slot}
use Rattle.outgoing_channels.specs.declared.made_bunch.MadeBunch.{MadeBunch}
use Rattle.outgoing_channels.specs.declared.mark.Mark.{Mark}
use Rattle.outgoing_channels.specs.Made.{part_made, part_of, uncarried, window_of}
use Rattle.outgoing_channels.specs.Slots.{ArePieces, WindowFits, IsDueAt, kept_in}

some_pair : {A B : Type 0} (a c : A) (b d : B) → ◌≡◌ {A = Option (A × B)} (Some (a, b)) (Some (c, d))
    → (c ≡ a) × (d ≡ b)
some_pair {A} {B} a c b d e =
    let p : (a, b) ≡ (c, d) = ap (λ (o : Option (A × B)). unwrap_or o (a, b)) e in
    (sym (ap (λ (x : A × B). x.0) p), sym (ap (λ (x : A × B). x.1) p))

-- the bits that are read, and those behind them
pub taken : (n : ℕ) (bits s rest : List Bool) → leading_bits n bits ≡ Some (s, rest)
    → (s ≡ take n bits) × (rest ≡ drop n bits)
taken n bits s rest e = elim (cases_Bool (nat_lt (length bits) n)) [
  | inl t ↦ (let e' = rw t at e in absurd cc)
  | inr t ↦ (let e' = rw t at e in some_pair (take n bits) s (drop n bits) rest e')
]

most_taken : (n k : ℕ) (bits : List Bool) → n ≡ min (length bits) k → take n bits ≡ take k bits
most_taken n k bits e = elim (cases_lt (length bits) k) [
  | inl h ↦ take_all n bits (omega arith) ∙ sym (take_all k bits (omega arith))
  | inr h ↦ (let same : n ≡ k = omega arith in ap (λ i. take i bits) same)
]

-- what is cut out of a payload is its piece
pub piece_taken : (payload rest s more : List Bool) (i : ℕ) → rest ≡ drop (7000 * i) payload
    → leading_bits (min (length payload) (7000 * i + 7000) - 7000 * i) rest ≡ Some (s, more) → s ≡ piece_at payload i
piece_taken payload rest s more i r e =
    (taken (min (length payload) (7000 * i + 7000) - 7000 * i) rest s more e).0
    ∙ ap (take (min (length payload) (7000 * i + 7000) - 7000 * i)) r
    ∙ most_taken (min (length payload) (7000 * i + 7000) - 7000 * i) 7000 (drop (7000 * i) payload) (omega (arith, length-drop (7000 * i) payload))

short : (len : ℕ) → part_count len ≡ 1 → len ≤ 7000
short len e = elim (cases_Bool (nat_le len 7000)) [
  | inl t ↦ (let h : len ≤ 7000 = grind (arith, nat_tests) in h)
  | inr t ↦ (let e' : (len + 6999) / 7000 ≡ 1 = rw t at e in omega arith)
]

-- a payload that is one piece is that piece
pub one_piece : (payload : List Bool) (rest : List (List Bool)) → part_count (length payload) ≡ 1
    → ArePieces payload payload rest
one_piece payload rest e zero h =
    ap Some (sym (take_all 7000 (drop 0 payload) (omega (arith, length-drop 0 payload, short (length payload) e))))
one_piece payload rest e (suc i) h = absurd (omega arith)

pub kept_as : {E : Type 0} (r : Result (List Bool) E) (s bits : List Bool) → s ≡ bits → IfOk r (λ b. b ≡ s)
    → IfOk r (λ b. b ≡ bits)
kept_as (Ok b) s bits e h = h ∙ e
kept_as (Err x) s bits e h = h

-- ---- the parts go into a window

behind : {A : Type 0} (first : A) (rest : List A) (j : ℕ) (x : A) → 1 ≤ j → slice_get (first ∷ rest) j ≡ Some x
    → slice_get rest (j - 1) ≡ Some x
behind first rest zero x some h = absurd (omega arith)
behind first rest (suc k) x some h = (let e : suc k - 1 ≡ k = omega arith in rw e h)

some_is : {A : Type 0} (a b : A) → Some a ≡ Some b → a ≡ b
some_is a b e = cc

pub parts_are : (mark : Mark) (ch len : ℕ) (payload first : List Bool) (rest : List (List Bool)) (n number i : ℕ) (slots : List (Slot MadeBunch))
    → length payload ≡ len → ArePieces payload first rest
    → slice_get slots n ≡ Some (uncarried (part_made mark ch len first number 0))
    → ((j : ℕ) (bits : List Bool) → 1 ≤ j → j < i → slice_get rest (j - 1) ≡ Some bits
    → slice_get slots (n + j) ≡ Some (uncarried (part_made mark ch len bits (number + j) j)))
    → part_count len ≤ i → (j : ℕ) → j < part_count len
    → slice_get slots (n + j) ≡ Some (uncarried (part_of mark ch payload (number + j) j))
parts_are mark ch len payload first rest n number i slots e pieces here more most zero low =
    let z : n + 0 ≡ n = omega arith in
    let y : number + 0 ≡ number = omega arith in
    let is : first ≡ piece_at payload 0 = some_is first (piece_at payload 0) (pieces 0 (subst (λ (k : ℕ). 0 < part_count k) (sym e) low)) in
    rw (z, y) (here ∙ ap (λ (x : List Bool). Some (uncarried (part_made mark ch len x number 0))) is
    ∙ ap (λ (k : ℕ). Some (uncarried (part_made mark ch k (piece_at payload 0) number 0))) (sym e))
parts_are mark ch len payload first rest n number i slots e pieces here more most (suc j) low =
    more (suc j) (piece_at payload (suc j)) (omega arith) (omega arith)
    (behind first rest (suc j) (piece_at payload (suc j)) (omega arith) (pieces (suc j) (subst (λ (k : ℕ). suc j < part_count k) (sym e) low)))
    ∙ ap (λ (k : ℕ). Some (uncarried (part_made mark ch k (piece_at payload (suc j)) (number + suc j) (suc j)))) (sym e)

-- one more part behind those that were made
pub one_more : {A : Type 0} (xs : List A) (x : A) (j : ℕ) → j < length xs → slice_get (xs ++ x ∷ []) j ≡ slice_get xs j
one_more xs x j h = slice_get-append_left xs (x ∷ []) j h

pub last_one : {A : Type 0} (xs : List A) (x : A) (j : ℕ) → j ≡ length xs → slice_get (xs ++ x ∷ []) j ≡ Some x
last_one xs x j e = slice_get-append_right xs (x ∷ []) j 0 (omega arith)

pub parts_more : (mark : Mark) (ch len : ℕ) (rest : List (List Bool)) (n number i : ℕ) (old new : List (Slot MadeBunch)) (bits : List Bool)
    → new ≡ old ++ uncarried (part_made mark ch len bits (number + i) i) ∷ [] → length old ≡ n + i → 1 ≤ i → slice_get rest (i - 1) ≡ Some bits
    → ((j : ℕ) (bits : List Bool) → 1 ≤ j → j < i → slice_get rest (j - 1) ≡ Some bits
    → slice_get old (n + j) ≡ Some (uncarried (part_made mark ch len bits (number + j) j)))
    → (j : ℕ) (bits : List Bool) → 1 ≤ j → j < i + 1 → slice_get rest (j - 1) ≡ Some bits
    → slice_get new (n + j) ≡ Some (uncarried (part_made mark ch len bits (number + j) j))
parts_more mark ch len rest n number i old new bits e count some at was j found lo hi there =
    ⊎_elim
    (λ (h : j < i). ap (λ xs. slice_get xs (n + j)) e ∙ one_more old _ (n + j) (omega arith) ∙ was j found lo h there)
    (λ (h : i ≤ j).
    let same : j ≡ i = omega arith in
    let is : found ≡ bits = some_is found bits (sym there ∙ ap (λ k. slice_get rest (k - 1)) same ∙ at) in
    rw same (rw is (ap (λ xs. slice_get xs (n + i)) e ∙ last_one old _ (n + i) (omega arith))))
    (cases_lt j i)

-- what is popped off the pieces that are left
pub popped : (rest left new : List (List Bool)) (i : ℕ) (bits : List Bool) → 1 ≤ i → left ≡ drop (i - 1) rest
    → left ≡ bits ∷ new
    → (slice_get rest (i - 1) ≡ Some bits) × (new ≡ drop (i + 1 - 1) rest)
popped rest left new i bits some e f = (
  sym (slice_get-drop (i - 1) rest 0 (i - 1) (omega arith)) ∙ ap (λ xs. slice_get xs 0) (sym e ∙ f),
  ap (drop 1) (sym f ∙ e) ∙ drop-drop 1 (i - 1) rest ∙ ap (λ k. drop k rest) next,
)
  where
    next : i - 1 + 1 ≡ i + 1 - 1
    next = omega arith

pub none_left : (rest left new : List (List Bool)) (i : ℕ) → i - 1 < length rest → left ≡ drop (i - 1) rest
    → left ≡ new → length new ≡ 0 → ⊥
none_left rest left new i some e f none = absurd (omega (arith, ap length e, ap length f, length-drop (i - 1) rest))

-- ---- a bunch is carried

pub carried_fits : (high next n p : ℕ) (o : Option (Window MadeBunch)) (w new : Window MadeBunch) → o ≡ Some w
    → WindowFits high next o
    → IsDueAt (window_of (record { next = next; kept = kept_in o })) n
    → ((s : Slot MadeBunch) → slice_get w.slots (n - w.first) ≡ Some s → new ≡ record w { slots = set w.slots (n - w.first) (carried_by p s) })
    → (new.first + length new.slots ≡ next) × (new.told ≤ high)
carried_fits high next n p None w new e fits due is = absurd cc
carried_fits high next n p (Some v) w new e fits due is =
    let same : v ≡ w = some_is v w e in
    let first : next - length v.slots ≡ v.first = omega (arith, fits.0) in
    let at : slice_get w.slots (n - w.first) ≡ Some due.1 =
    ap (λ (u : Window MadeBunch). slice_get u.slots (n - u.first)) (sym same) ∙ ap (λ (k : ℕ). slice_get v.slots (n - k)) (sym first) ∙ due.2 in
    let done = is due.1 at in
    let long : length new.slots ≡ length w.slots = ap (λ (u : Window MadeBunch). length u.slots) done ∙ length-set w.slots (n - w.first) (carried_by p due.1) in
    let start : new.first ≡ w.first = ap (λ (u : Window MadeBunch). u.first) done in
    let told : new.told ≡ w.told = ap (λ (u : Window MadeBunch). u.told) done in
    let first' : v.first ≡ w.first = ap (λ (u : Window MadeBunch). u.first) same in
    let told' : v.told ≡ w.told = ap (λ (u : Window MadeBunch). u.told) same in
    let long' : length v.slots ≡ length w.slots = ap (λ (u : Window MadeBunch). length u.slots) same in
    (omega (arith, long, start, first', long', fits.0), omega (arith, told, told', fits.1))

pub all_pieces : (payload first : List Bool) (rest : List (List Bool)) → first ≡ piece_at payload 0
    → ((j : ℕ) → j + 1 < part_count (length payload) → slice_get rest j ≡ Some (piece_at payload (j + 1)))
    → ArePieces payload first rest
all_pieces payload first rest e more zero h = ap Some e
all_pieces payload first rest e more (suc i) h =
    (let s : i + 1 ≡ suc i = omega arith in more i (omega arith) ∙ ap (λ k. Some (piece_at payload k)) s)
