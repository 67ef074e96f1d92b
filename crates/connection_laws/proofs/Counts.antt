-- The numbers of bunches and of packets, after one more deed or one more message.
use Rattle.std.proofs.Common.{◌≡◌, inl, inr, ℕ, ◌+◌, ◌≤◌, max, List, ◌∷◌, refl, ap, ◌∙◌, arith, Some, None}
use Rattle.std.specs.List.{filter_map, cons_option}
use Rattle.std.specs.Bool.{then_some}
use Rattle.std.proofs.lemmas.Bool.{eq-eqb, ne_eqb, cases_eq}
use Rattle.protocol_model.specs.Payload.{Message, parts_of}
use Rattle.protocol_model.specs.Search.{greatest_of}
use Rattle.connection_model.specs.Feed.{Past, Made, Item}
use Rattle.connection_model.specs.Fates.{last_sent, sent_in}
use Rattle.connection_model.specs.Bunches.{made_count, made_on, after_making}
use Rattle.connection_model.specs.Pack.{after_sending}
use Rattle.connection_laws.proofs.Moves.{making_keeps}
use Rattle.protocol_laws.proofs.Greatest.{greatest_of-cons}

-- ---- one part

-- a bunch made on the index counts there
pub made_on_same : (ch n : ℕ) (m : Message) (i : ℕ) → made_on ch (Made ch n m i) ≡ Some n
made_on_same ch n m i = ap (λ b. then_some b n) (eq-eqb ch ch refl)

-- a bunch made elsewhere does not
pub made_on_other : (ch c n : ℕ) (m : Message) (i : ℕ) → (c ≡ ch → ⊥) → made_on ch (Made c n m i) ≡ None
made_on_other ch c n m i h = ap (λ b. then_some b n) (ne_eqb c ch h)

-- the count after a bunch of the index
pub made_count_same : (ch n : ℕ) (m : Message) (i : ℕ) (past : Past) → made_count (Made ch n m i ∷ past) ch ≡ max n (made_count past ch)
made_count_same ch n m i past =
    ap (λ o. greatest_of (cons_option o (filter_map (made_on ch) past))) (made_on_same ch n m i)
    ∙ greatest_of-cons n (filter_map (made_on ch) past)

-- the count after a bunch of another index
pub made_count_other : (ch c n : ℕ) (m : Message) (i : ℕ) (past : Past) → (c ≡ ch → ⊥) → made_count (Made c n m i ∷ past) ch ≡ made_count past ch
made_count_other ch c n m i past h =
    ap (λ o. greatest_of (cons_option o (filter_map (made_on ch) past))) (made_on_other ch c n m i h)

-- the next number counts
pub made_count_next : (ch n : ℕ) (m : Message) (i : ℕ) (past : Past) → n ≡ made_count past ch + 1 → made_count (Made ch n m i ∷ past) ch ≡ n
made_count_next ch n m i past e = omega (arith, made_count_same ch n m i past)

-- ---- a whole message

-- the count grows by the parts of a message made there
pub made_count_made : (past : Past) (ch : ℕ) (m : Message) → made_count (after_making past ch m) ch ≡ made_count past ch + parts_of m
made_count_made past ch m =
    making_keeps (λ i before. made_count before ch ≡ made_count past ch + i) past ch m (omega arith)
    (λ i before lt e. omega (arith, made_count_same ch (made_count past ch + 1 + i) m i before))

-- a message made elsewhere leaves the count
pub made_count_elsewhere : (past : Past) (ch c : ℕ) (m : Message) → (c ≡ ch → ⊥) → made_count (after_making past c m) ch ≡ made_count past ch
made_count_elsewhere past ch c m h =
    making_keeps (λ i before. made_count before ch ≡ made_count past ch) past c m refl
    (λ i before lt e. made_count_other ch c (made_count past c + 1 + i) m i before h ∙ e)

-- no message lowers a count
pub made_count_grows : (past : Past) (ch c : ℕ) (m : Message) → made_count past ch ≤ made_count (after_making past c m) ch
made_count_grows past ch c m = elim (cases_eq c ch) [
  | inl e ↦ (let same : made_count (after_making past ch m) ch ≡ made_count past ch + parts_of m = made_count_made past ch m in rw e (omega arith))
  | inr e ↦ omega (arith, made_count_elsewhere past ch c m e)
]

-- ---- packets

-- a packet that is sent has the next number
pub last_sent_sent : (past : Past) (items : List Item) → last_sent (after_sending past items) ≡ last_sent past + 1
last_sent_sent past items = omega (arith, greatest_of-cons (last_sent past + 1) (filter_map sent_in past))
