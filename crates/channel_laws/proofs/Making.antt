-- The bunches of a message that is made.
use Rattle.std.proofs.Common.{◌≡◌, inl, inr, ℕ, suc, ◌+◌, ◌<◌, ◌≤◌, ◌==◌, max, [], ◌∷◌, Bool, true, false, ◌&&◌, refl, ap, ◌∙◌, arith, Some, None}
use Rattle.std.specs.Bool.{then_some}
use Rattle.std.proofs.lemmas.Bool.{cases_eq, eq-eqb, ne_eqb}
use Rattle.protocol_model.specs.Payload.{Message, parts_of}
use Rattle.protocol_model.specs.Search.{newest_of}
use Rattle.connection_model.specs.Feed.{Past, Ticked, Made, Waits, Sent, Took, Ended}
use Rattle.connection_model.specs.Bunches.{made_count, made_bunch, after_making}
use Rattle.connection_model.specs.Items.{made_as}
use Rattle.connection_laws.proofs.Searches.{newest_hit, newest_miss}
use Rattle.connection_laws.proofs.Moves.{making_keeps}
use Rattle.connection_laws.proofs.Counts.{made_count_same, made_count_other}

as_this : (ch n : ℕ) (m : Message) (i : ℕ) → made_as ch n (Made ch n m i) ≡ Some (made_bunch ch n m i)
as_this ch n m i =
    ap (λ b. then_some (b && n == n) (made_bunch ch n m i)) (eq-eqb ch ch refl)
    ∙ ap (λ b. then_some b (made_bunch ch n m i)) (eq-eqb n n refl)

as_number : (c ch n k : ℕ) (m : Message) (i : ℕ) → (k ≡ n → ⊥) → made_as c n (Made ch k m i) ≡ None
as_number c ch n k m i ne = ap (λ b. then_some (ch == c && b) (made_bunch ch k m i)) (ne_eqb k n ne) ∙ no (ch == c)
  where
    no : (b : Bool) → then_some (b && false) (made_bunch ch k m i) ≡ None
    no true = refl
    no false = refl

as_channel : (c ch n k : ℕ) (m : Message) (i : ℕ) → (ch ≡ c → ⊥) → made_as c n (Made ch k m i) ≡ None
as_channel c ch n k m i ne = ap (λ b. then_some (b && k == n) (made_bunch ch k m i)) (ne_eqb ch c ne)

-- each part is found by its number
pub made_part : (past : Past) (ch : ℕ) (m : Message) (j : ℕ) → j < parts_of m
    → newest_of (made_as ch (made_count past ch + 1 + j)) (after_making past ch m) ≡ Some (made_bunch ch (made_count past ch + 1 + j) m j)
made_part past ch m j h =
    making_keeps (λ i before. j < i → newest_of (made_as ch (made_count past ch + 1 + j)) before ≡ Some (made_bunch ch (made_count past ch + 1 + j) m j)) past ch m
    (λ low. absurd (omega arith)) step h
  where
    step : (i : ℕ) (before : Past) → i < parts_of m
        → (j < i → newest_of (made_as ch (made_count past ch + 1 + j)) before ≡ Some (made_bunch ch (made_count past ch + 1 + j) m j))
        → j < suc i → newest_of (made_as ch (made_count past ch + 1 + j)) (Made ch (made_count past ch + 1 + i) m i ∷ before) ≡ Some (made_bunch ch (made_count past ch + 1 + j) m j)
    step i before lt was low = elim (cases_eq i j) [
      | inl e ↦ rw e (newest_hit (made_as ch (made_count past ch + 1 + j)) (Made ch (made_count past ch + 1 + j) m j) before _ (as_this ch (made_count past ch + 1 + j) m j))
      | inr ne ↦ newest_miss (made_as ch (made_count past ch + 1 + j)) (Made ch (made_count past ch + 1 + i) m i) before (as_number ch ch (made_count past ch + 1 + j) (made_count past ch + 1 + i) m i (λ q. ne (omega arith)))
          ∙ was (omega (arith, ne))
    ]

-- the bunches made before stay
pub made_before : (past : Past) (ch : ℕ) (m : Message) (n : ℕ) → n ≤ made_count past ch
    → newest_of (made_as ch n) (after_making past ch m) ≡ newest_of (made_as ch n) past
made_before past ch m n h =
    making_keeps (λ i before. newest_of (made_as ch n) before ≡ newest_of (made_as ch n) past) past ch m refl
    (λ i before lt was. newest_miss (made_as ch n) (Made ch (made_count past ch + 1 + i) m i) before (as_number ch ch n (made_count past ch + 1 + i) m i (λ q. absurd (omega arith))) ∙ was)

-- and those of other channels
pub made_elsewhere : (past : Past) (c ch : ℕ) (m : Message) (n : ℕ) → (ch ≡ c → ⊥)
    → newest_of (made_as c n) (after_making past ch m) ≡ newest_of (made_as c n) past
made_elsewhere past c ch m n ne =
    making_keeps (λ i before. newest_of (made_as c n) before ≡ newest_of (made_as c n) past) past ch m refl
    (λ i before lt was. newest_miss (made_as c n) (Made ch (made_count past ch + 1 + i) m i) before (as_channel c ch n (made_count past ch + 1 + i) m i ne) ∙ was)

-- ---- above the last

made_or : (c ch k n : ℕ) (m : Message) (i : ℕ) (past : Past) → made_count (Made c k m i ∷ past) ch < n
    → (made_as ch n (Made c k m i) ≡ None) × (made_count past ch < n)
made_or c ch k n m i past h = elim (cases_eq c ch) [
  | inl e ↦ (
      let top : made_count (Made ch k m i ∷ past) ch ≡ max k (made_count past ch) = made_count_same ch k m i past in
      let same : made_count (Made c k m i ∷ past) ch ≡ made_count (Made ch k m i ∷ past) ch = ap (λ (x : ℕ). made_count (Made x k m i ∷ past) ch) e in
      (as_number ch c n k m i (λ q. absurd (omega (arith, top, same))), omega (arith, top, same)))
  | inr ne ↦ (as_channel ch c n k m i ne, omega (arith, made_count_other ch c k m i past ne))
]

pub unmade_none : (past : Past) (ch n : ℕ) → made_count past ch < n → newest_of (made_as ch n) past ≡ None
unmade_none [] ch n h = refl
unmade_none (Made c k m i ∷ past) ch n h =
    let or = made_or c ch k n m i past h in
    newest_miss (made_as ch n) (Made c k m i) past or.0 ∙ unmade_none past ch n or.1
unmade_none (Ticked t s ∷ past) ch n h = unmade_none past ch n h
unmade_none (Waits m ∷ past) ch n h = unmade_none past ch n h
unmade_none (Sent k t items ∷ past) ch n h = unmade_none past ch n h
unmade_none (Took k es ds ∷ past) ch n h = unmade_none past ch n h
unmade_none (Ended e ∷ past) ch n h = unmade_none past ch n h
