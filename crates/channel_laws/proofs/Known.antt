-- What is known of the packet that carried a bunch last says whether it arrived, and whether it is due.
use Rattle.std.proofs.Common.{◌≡◌, inl, inr, ℕ, ◌<◌, ◌≤◌, ◌==◌, ◌||◌, List, ◌∷◌, Bool, true, false, not, nat_lt, nat_le, refl, sym, ap, ◌∙◌, arith, Option, Some, None, unwrap_or, if◌then◌else◌}
use Rattle.std.proofs.lemmas.Bool.{cases_Bool, ltb-true, ltb-false}
use Rattle.std.proofs.lemmas.Bool.Decides.{nat_tests}
use Rattle.protocol_model.specs.Search.{is_among, greatest_of}
use Rattle.connection_model.specs.Feed.{Past}
use Rattle.connection_model.specs.Fates.{fate_of, is_arrived, is_lost, moved_of, high_of}
use Rattle.connection_model.specs.Bunches.{has_arrived, is_due, carrier_of, shows_arrival, shows_need, option_fate}
use Rattle.channel_laws.specs.Known.{known, known_by, known_then, arrived_by, needed_by}
use Rattle.protocol_laws.proofs.Greatest.{among_above, greatest_of-cons}

arrived_packet : (past : Past) (p : ℕ) → is_arrived (fate_of past p) ≡ unwrap_or (known past p) false
arrived_packet past p = elim (cases_Bool (nat_lt (high_of past) p)) [
  | inl e ↦ rw e refl
  | inr e ↦ rw e (elim (cases_Bool (is_among p (moved_of past))) [ inl t ↦ rw t refl | inr t ↦ rw t refl ])
]

lost_packet : (past : Past) (p : ℕ) → is_lost (fate_of past p) ≡ not (unwrap_or (known past p) true)
lost_packet past p = elim (cases_Bool (nat_lt (high_of past) p)) [
  | inl e ↦ rw e refl
  | inr e ↦ rw e (elim (cases_Bool (is_among p (moved_of past))) [ inl t ↦ rw t refl | inr t ↦ rw t refl ])
]

pub arrived_is : (past : Past) (ch n : ℕ) → has_arrived past ch n ≡ arrived_by (known past) (carrier_of past ch n)
arrived_is past ch n = by (carrier_of past ch n)
  where
    by : (o : Option ℕ) → shows_arrival (option_fate past o) ≡ arrived_by (known past) o
    by None = refl
    by (Some p) = arrived_packet past p

pub due_is : (past : Past) (ch n : ℕ) → is_due past ch n ≡ needed_by (known past) (carrier_of past ch n)
due_is past ch n = by (carrier_of past ch n)
  where
    by : (o : Option ℕ) → shows_need (option_fate past o) ≡ needed_by (known past) o
    by None = refl
    by (Some p) = lost_packet past p

-- what has arrived isn't due
pub arrived_not_due : (past : Past) (ch n : ℕ) → has_arrived past ch n ≡ true → is_due past ch n ≡ false
arrived_not_due past ch n h = due_is past ch n ∙ by (carrier_of past ch n) (sym (arrived_is past ch n) ∙ h)
  where
    fates : (f : Option Bool) → unwrap_or f false ≡ true → not (unwrap_or f true) ≡ false
    fates None h = cc
    fates (Some true) h = refl
    fates (Some false) h = cc

    by : (o : Option ℕ) → arrived_by (known past) o ≡ true → needed_by (known past) o ≡ false
    by None h = cc
    by (Some p) h = fates (known past p) h

-- a packet above all that moved isn't known of
pub unknown : (past : Past) (p : ℕ) → high_of past < p → known past p ≡ None
unknown past p h = (let e : nat_lt (high_of past) p ≡ true = grind (arith, nat_tests) in rw e refl)

-- ---- a packet moves

among_first : (to p : ℕ) (ms : List ℕ) → is_among p ms ≡ false → is_among p (to ∷ ms) ≡ (p == to)
among_first to p ms e = swap (is_among p ms) e
  where
    swap : (b : Bool) → b ≡ false → ((to == p) || b) ≡ (p == to)
    swap true h = cc
    swap false h = grind (arith, nat_tests)

among_rest : (to p : ℕ) (ms : List ℕ) → (to ≡ p → ⊥) → is_among p (to ∷ ms) ≡ is_among p ms
among_rest to p ms ne = rest (is_among p ms)
  where
    rest : (b : Bool) → ((to == p) || b) ≡ b
    rest b = grind (arith, nat_tests)

pub known_more : (from to p : ℕ) (ms : List ℕ) → greatest_of ms ≡ from → from < to
    → known_by (to ∷ ms) p ≡ known_then to p (known_by ms p)
known_more from to p ms g lt =
    let high : greatest_of (to ∷ ms) ≡ to = omega (arith, greatest_of-cons to ms) in
    rw high (rw g (elim (cases_Bool (nat_lt from p)) [
      | inl e ↦ rw e (over (ltb-true from p e) (nat_lt to p) refl)
      | inr e ↦ (
          let under : p ≤ from = ltb-false from p e in
          let low : nat_lt to p ≡ false = grind (arith, nat_tests) in
          rw (e, low) (ap Some (among_rest to p ms (λ q. omega arith))))
    ]))
  where
    over : from < p → (b : Bool) → nat_lt to p ≡ b
        → (if b then None else Some (is_among p (to ∷ ms))) ≡ (if nat_le p to then Some (p == to) else None)
    over lt true e = (let most : nat_le p to ≡ false = grind (arith, nat_tests) in rw most refl)
    over lt false e = (
        let most : nat_le p to ≡ true = grind (arith, nat_tests) in
        rw most (ap Some (among_first to p ms (among_above p ms (omega (arith, g))))))
