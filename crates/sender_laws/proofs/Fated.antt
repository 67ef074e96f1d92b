-- What a move of fates changes: packets between are lost, the last one arrived, and what had arrived stays so.
use Rattle.std.proofs.Common.{◌≡◌, ◌⊎◌, inl, inr, ℕ, ◌<◌, ◌≤◌, List, ◌∷◌, Bool, true, false, cond, ◌==◌, ◌||◌, nat_lt, refl, sym, ap, ◌∙◌, arith, Option, Some, None}
use Rattle.std.proofs.lemmas.Bool.{ltb-true, ltb-false, cases_eq, eq-eqb, ne_eqb}
use Rattle.protocol_model.specs.Search.{is_among, greatest_of}
use Rattle.protocol_model.specs.declared.Fate.TheVariants.{Open, Arrived, Lost}
use Rattle.connection_model.specs.Feed.{Past}
use Rattle.connection_model.specs.Fates.{moved_of, high_of, fate_of, is_lost}
use Rattle.connection_model.specs.Bunches.{carrier_of}
use Rattle.connection_laws.proofs.Searches.{among_here, among_there}
use Rattle.connection_laws.proofs.Arrivals.{arrival_is, carried_among}
use Rattle.connection_laws.proofs.ActorMarks.{Grows}
use Rattle.sender_laws.specs.Acts.{MovesTo}
use Rattle.sender_laws.proofs.Views.{carrier_alike}
use Rattle.protocol_laws.proofs.Greatest.{among_above, greatest_of-cons}

-- ---- the greatest moved

-- the packet that moved is the greatest now
pub high_moved : (from to : ℕ) (past later : Past) → MovesTo from to past later → high_of later ≡ to
high_moved from to past later h =
    ap greatest_of h.moved ∙ omega (arith, greatest_of-cons to (moved_of past), h.high, h.above)

-- ---- fates

-- whether a packet is known to be lost
pub lost_where : (past : Past) (n : ℕ) → n ≤ high_of past → is_among n (moved_of past) ≡ false
    → is_lost (fate_of past n) ≡ true
lost_where past n low e = by (nat_lt (high_of past) n) refl
  where
    by : (b : Bool) → nat_lt (high_of past) n ≡ b
        → is_lost (cond b Open (cond (is_among n (moved_of past)) Arrived Lost)) ≡ true
    by true q = (let up : high_of past < n = ltb-true (high_of past) n q in absurd (omega arith))
    by false q = ap (λ (x : Bool). is_lost (cond x Arrived Lost)) e

-- above the greatest that moved all fates are open
pub open_above : (past : Past) (n : ℕ) → high_of past < n → fate_of past n ≡ Open
open_above past n up = by (nat_lt (high_of past) n) refl
  where
    by : (b : Bool) → nat_lt (high_of past) n ≡ b → cond b Open (cond (is_among n (moved_of past)) Arrived Lost) ≡ Open
    by true q = refl
    by false q = (let low : n ≤ high_of past = ltb-false (high_of past) n q in absurd (omega arith))

-- up to it they are known
pub known_below : (past : Past) (n : ℕ) → n ≤ high_of past
    → fate_of past n ≡ cond (is_among n (moved_of past)) Arrived Lost
known_below past n low = by (nat_lt (high_of past) n) refl
  where
    by : (b : Bool) → nat_lt (high_of past) n ≡ b
        → cond b Open (cond (is_among n (moved_of past)) Arrived Lost) ≡ cond (is_among n (moved_of past)) Arrived Lost
    by true q = (let up : high_of past < n = ltb-true (high_of past) n q in absurd (omega arith))
    by false q = refl

-- another number than the first is among the rest
among_other : (x n : ℕ) (ns : List ℕ) → (x ≡ n → ⊥) → is_among n (x ∷ ns) ≡ is_among n ns
among_other x n ns h = ap (λ (b : Bool). b || is_among n ns) (ne_eqb x n h)

-- outside of the move a fate stays
pub fate_before : (from to : ℕ) (past later : Past) → MovesTo from to past later → (n : ℕ) → n ≤ from
    → fate_of later n ≡ fate_of past n
fate_before from to past later h n low =
    known_below later n (omega (arith, high_moved from to past later h, h.above))
    ∙ ap (λ (ns : List ℕ). cond (is_among n ns) Arrived Lost) h.moved
    ∙ ap (λ (b : Bool). cond b Arrived Lost)
    (among_other to n (moved_of past) (λ e. absurd (omega (arith, h.above, e, low))))
    ∙ sym (known_below past n (omega (arith, h.high)))

-- and above it too
pub fate_after : (from to : ℕ) (past later : Past) → MovesTo from to past later → (n : ℕ) → to < n
    → fate_of later n ≡ fate_of past n
fate_after from to past later h n up =
    open_above later n (omega (arith, high_moved from to past later h))
    ∙ sym (open_above past n (omega (arith, h.high, h.above)))

-- in it the last one arrived, and the others are lost
pub fate_within : (from to : ℕ) (past later : Past) → MovesTo from to past later → (n : ℕ) → from < n → n ≤ to
    → fate_of later n ≡ cond (n == to) Arrived Lost
fate_within from to past later h n up low =
    known_below later n (omega (arith, high_moved from to past later h))
    ∙ ap (λ (ns : List ℕ). cond (is_among n ns) Arrived Lost) h.moved
    ∙ ap (λ (b : Bool). cond b Arrived Lost) (same (cases_eq to n))
  where
    same : ((to ≡ n) ⊎ (to ≡ n → ⊥)) → is_among n (to ∷ moved_of past) ≡ (n == to)
    same (inl e) = among_here to (moved_of past) n e ∙ sym (eq-eqb n to (sym e))
    same (inr e) =
        among_other to n (moved_of past) e ∙ among_above n (moved_of past) (omega (arith, h.high, up))
        ∙ sym (ne_eqb n to (λ q. e (sym q)))

-- ---- what has arrived

carried_more : (o : Option ℕ) (x : ℕ) (ns : List ℕ) → carried_among o ns ≡ true → carried_among o (x ∷ ns) ≡ true
carried_more None x ns e = e
carried_more (Some k) x ns e = among_there x ns k e

-- what had arrived stays so
pub moved_grows : (from to : ℕ) (past later : Past) → MovesTo from to past later → Grows past later
moved_grows from to past later h ch n e =
    arrival_is later ch n
    ∙ ap (λ (o : Option ℕ). carried_among o (moved_of later)) (carrier_alike past later h.done ch n)
    ∙ ap (carried_among (carrier_of past ch n)) h.moved
    ∙ carried_more (carrier_of past ch n) to (moved_of past) (sym (arrival_is past ch n) ∙ e)
