-- Copies that sleep, as they are promised.
use Rattle.std.proofs.Common.{◌≡◌, ℕ, zero, suc, List, [], ◌∷◌, ◌++◌, Bool, true, false, ◌==◌, ◌&&◌, refl, ap, ◌∙◌, subst, arith, Option, Some, None}
use Rattle.std.specs.Prelude.{is_some}
use Rattle.std.specs.List.{Contains, AllByRecursion}
use Rattle.std.specs.Bool.{then_some}
use Rattle.std.proofs.lemmas.Bool.{false≢true, eq-eqb}
use Rattle.protocol_model.specs.Payload.{Opens, Closes, Updates, Calls, Gone}
use Rattle.protocol_model.specs.Value.{Class, Pair}
use Rattle.connection_model.specs.Carry.{updatable_pairs}
use Rattle.connection_model.specs.Copies.{copy_class}
use Rattle.connection_model.specs.Feed.{End, Past, Deed, Ticked, Made, Waits, Sent, Took, Ended, seen_in, sight_of}
use Rattle.connection_model.specs.State.{Mark, mark_in}
use Rattle.connection_laws.specs.Deeds.{DeedsFit}
use Rattle.payload_laws.proofs.Bounds.{close_parts}
use Rattle.recovery_laws.specs.Asleep.{SleepsAsSeen, slept_as, IsCopiedAsleep}

-- the last dormant close is the one with no mark after it
slept_by : (end : End) (a : ℕ) (newer : Past) (ch n : ℕ) (older : Past) → DeedsFit end (newer ++ Made ch n (Closes a true) 0 ∷ older) → AllByRecursion (λ (d : Deed). mark_in a d ≡ None) newer
    → slept_as (newer ++ Made ch n (Closes a true) 0 ∷ older) a ≡ seen_in (sight_of older) a
slept_by end a [] ch n older fit none = ap (λ (t : Bool). elim t [ true ↦ seen_in (sight_of older) a | false ↦ slept_as older a ]) (eq-eqb a a refl)
slept_by end a (Ticked t s ∷ newer) ch n older fit none = slept_by end a newer ch n older fit.1 none.1
slept_by end a (Waits m ∷ newer) ch n older fit none = slept_by end a newer ch n older fit.1 none.1
slept_by end a (Sent k t items ∷ newer) ch n older fit none = slept_by end a newer ch n older fit.1 none.1
slept_by end a (Took k es ds ∷ newer) ch n older fit none = slept_by end a newer ch n older fit.1 none.1
slept_by end a (Ended g ∷ newer) ch n older fit none = slept_by end a newer ch n older fit.1 none.1
slept_by end a (Made c k (Opens es b cl vs) i ∷ newer) ch n older fit none = slept_by end a newer ch n older fit.1 none.1
slept_by end a (Made c k (Updates b cl vs) i ∷ newer) ch n older fit none = slept_by end a newer ch n older fit.1 none.1
slept_by end a (Made c k (Calls b x cl vs) i ∷ newer) ch n older fit none = slept_by end a newer ch n older fit.1 none.1
slept_by end a (Made c k (Gone b) i ∷ newer) ch n older fit none = slept_by end a newer ch n older fit.1 none.1
slept_by end a (Made c k (Closes b false) i ∷ newer) ch n older fit none = slept_by end a newer ch n older fit.1 none.1
slept_by end a (Made c k (Closes b true) (suc i) ∷ newer) ch n older fit none = absurd (omega (arith, fit.0.1, close_parts b true))
slept_by end a (Made c k (Closes b true) zero ∷ newer) ch n older fit none = by (b == a) none.0 (slept_by end a newer ch n older fit.1 none.1)
  where
    by : (t : Bool) → then_some ((t && true) && true) (let mark : Mark = record { channel = c; number = k; message = Closes b true } in mark) ≡ None
        → slept_as (newer ++ Made ch n (Closes a true) 0 ∷ older) a ≡ seen_in (sight_of older) a
        → elim t [ true ↦ seen_in (sight_of (newer ++ Made ch n (Closes a true) 0 ∷ older)) a | false ↦ slept_as (newer ++ Made ch n (Closes a true) 0 ∷ older) a ] ≡ seen_in (sight_of older) a
    by true e ih = absurd (let never : Some (let mark : Mark = record { channel = c; number = k; message = Closes b true } in mark) ≡ None = e in cc)
    by false e ih = ih

-- a pair of a list stands between two parts of it
split_at : (pair : Pair) (pairs : List Pair) → Contains pairs pair → (before after : List Pair) × (pairs ≡ before ++ pair ∷ after)
split_at pair [] c = absurd (omega (arith, c.1))
split_at pair (p ∷ pairs) (zero, lt, e) = ([], pairs, ap (λ (x : Pair). x ∷ pairs) e)
split_at pair (p ∷ pairs) (suc k, lt, e) = (let r = split_at pair pairs (k, omega (arith, lt), e) in (p ∷ r.0, r.1, ap (λ (l : List Pair). p ∷ l) r.2))

-- a copy that sleeps as seen sleeps as promised
pub as_promised : (end : End) (server client : Past) (a : ℕ) → DeedsFit end server → SleepsAsSeen server client a → IsCopiedAsleep server client a
as_promised end server client a fit s = by (copy_class client a) refl s.has
  where
    closed : slept_as server a ≡ Some s.seen
    closed = ap (λ (p : Past). slept_as p a) s.made ∙ slept_by end a s.newer s.channel s.number s.older (subst (DeedsFit end) s.made fit) s.unmarked ∙ s.shown

    by : (o : Option Class) → copy_class client a ≡ o → is_some o ≡ true → IsCopiedAsleep server client a
    by None e h = absurd (false≢true h)
    by (Some class) e h = record {
      class = class;
      copied = e;
      asleep = s.asleep;
      seen = s.seen;
      closed = closed;
      values = λ pair c. (let r = split_at pair (updatable_pairs s.seen) c in s.values pair r.0 r.1 r.2);
    }
