-- Values sampled: where no change is noted since a comparison, the value then is the value now.
use Rattle.std.proofs.Common.{◌≡◌, inl, inr, ℕ, ◌<◌, ◌≤◌, List, [], ◌∷◌, ◌++◌, Bool, true, false, not, ◌&&◌, nat_lt, nat_le, refl, sym, ap, ◌∙◌, arith, Option, Some, None, ℤ}
use Rattle.std.specs.Bool.{then_some}
use Rattle.std.specs.Ordering.{int_eq}
use Rattle.std.proofs.lemmas.Bool.{false≢true, ltb-true, ltb-false, le-ltb, le-leb, lt-leb, and_left, and_right, and_cases}
use Rattle.std.proofs.lemmas.Bool.Decides.{Decides-int_eq}
use Rattle.protocol_model.specs.Search.{or_else}
use Rattle.change_model.specs.Changes.{Sample, sampled_value, is_noted, noted_tick}
use Rattle.sender_laws.specs.Values.{value_by, value_now, tick_now, AreInTurn, AreAbove}
use Rattle.connection_laws.proofs.Searches.{newest_hit, newest_miss}

-- a sample at or before the tick gives the value by then
by_here : (s : Sample) (samples : List Sample) (c i : ℕ) → s.tick ≤ c
    → value_by (s ∷ samples) c i ≡ Some (sampled_value s i)
by_here s samples c i h =
    newest_hit (λ (s : Sample). then_some (nat_le s.tick c) (sampled_value s i)) s samples (sampled_value s i)
    (ap (λ (b : Bool). then_some b (sampled_value s i)) (le-leb s.tick c h))

-- a later one doesn't
by_later : (s : Sample) (samples : List Sample) (c i : ℕ) → c < s.tick
    → value_by (s ∷ samples) c i ≡ value_by samples c i
by_later s samples c i h =
    newest_miss (λ (s : Sample). then_some (nat_le s.tick c) (sampled_value s i)) s samples
    (ap (λ (b : Bool). then_some b (sampled_value s i)) (lt-leb s.tick c h))

-- a value that isn't noted is that of the sample before
same_value : (s : Sample) (samples : List Sample) (i : ℕ) → is_noted s samples i ≡ false
    → value_now (s ∷ samples) i ≡ value_now samples i
same_value s [] i e = absurd (false≢true (sym e))
same_value s (t ∷ samples) i e =
    ap (λ (v : ℤ). let o : Option ℤ = Some v in o) (equal (sampled_value s i) (sampled_value t i) e)
  where
    equal : (x y : ℤ) → not (int_eq x y) ≡ false → x ≡ y
    equal x y e = grind (arith, Decides-int_eq x y)

-- nothing is found where neither finds anything
none_parts : (b : Bool) (t : ℕ) (o : Option ℕ) → or_else (then_some b t) o ≡ None → (b ≡ false) × (o ≡ None)
none_parts true t o e = absurd (let no : Some t ≡ None = e in cc)
none_parts false t o e = (refl, e)

-- where nothing is noted above a tick, the value then is the value now
pub value_stays : (samples : List Sample) (c i : ℕ) → noted_tick samples c i ≡ None
    → value_now samples i ≡ value_by samples c i
value_stays [] c i e = refl
value_stays (s ∷ samples) c i e =
    let q = none_parts (nat_lt c s.tick && is_noted s samples i) s.tick (noted_tick samples c i) e in
    step (nat_lt c s.tick) (is_noted s samples i) refl refl q.0 (value_stays samples c i q.1)
  where
    step : (x y : Bool) → nat_lt c s.tick ≡ x → is_noted s samples i ≡ y → (x && y) ≡ false
        → value_now samples i ≡ value_by samples c i
        → value_now (s ∷ samples) i ≡ value_by (s ∷ samples) c i
    step true true p q no_noted ih = absurd (false≢true (sym no_noted))
    step true false p q no_noted ih = same_value s samples i q ∙ ih ∙ sym (by_later s samples c i (ltb-true c s.tick p))
    step false y p q no_noted ih = sym (by_here s samples c i (ltb-false c s.tick p))

-- a later tick has no more noted above it
pub noted_less : (samples : List Sample) (c d i : ℕ) → c ≤ d → noted_tick samples c i ≡ None
    → noted_tick samples d i ≡ None
noted_less [] c d i le e = refl
noted_less (s ∷ samples) c d i le e =
    let q = none_parts (nat_lt c s.tick && is_noted s samples i) s.tick (noted_tick samples c i) e in
    both (nat_lt d s.tick && is_noted s samples i) (less c d s.tick (is_noted s samples i) le q.0)
    (noted_less samples c d i le q.1)
  where
    less : (c d t : ℕ) (y : Bool) → c ≤ d → (nat_lt c t && y) ≡ false → (nat_lt d t && y) ≡ false
    less c d t true le e = elim (and_cases (nat_lt c t) true e) [
      | inl low ↦ and_left (nat_lt d t) true (le-ltb d t (omega (arith, ltb-false c t low, le)))
      | inr wrong ↦ absurd (false≢true (sym wrong))
    ]
    less c d t false le e = and_right (nat_lt d t) false refl

    both : (b : Bool) → b ≡ false → noted_tick samples d i ≡ None
        → or_else (then_some b s.tick) (noted_tick samples d i) ≡ None
    both true e f = absurd (false≢true (sym e))
    both false e f = f

-- no change is noted after the newest sample
pub noted_none : (samples : List Sample) (d i : ℕ) → AreInTurn samples → tick_now samples ≤ d
    → noted_tick samples d i ≡ None
noted_none [] d i h le = refl
noted_none (s ∷ samples) d i h le =
    both (nat_lt d s.tick) (le-ltb d s.tick le) (noted_none samples d i h.1 (omega (arith, h.0)))
  where
    both : (b : Bool) → b ≡ false → noted_tick samples d i ≡ None
        → or_else (then_some (b && is_noted s samples i) s.tick) (noted_tick samples d i) ≡ None
    both true e f = absurd (false≢true (sym e))
    both false e f = f

-- nor after the tick that was noted last
pub noted_last : (samples : List Sample) (c d i t : ℕ) → AreInTurn samples → c ≤ d → noted_tick samples c i ≡ Some t
    → t ≤ d → noted_tick samples d i ≡ None
noted_last [] c d i t h le e lt = refl
noted_last (s ∷ samples) c d i t h le e lt =
    by (nat_lt c s.tick) (is_noted s samples i) refl e (λ q. noted_last samples c d i t h.1 le q lt)
  where
    skip : (x y : Bool) → (x && y) ≡ false → noted_tick samples d i ≡ None
        → or_else (then_some (x && y) s.tick) (noted_tick samples d i) ≡ None
    skip true true e f = absurd (false≢true (sym e))
    skip true false e f = f
    skip false y e f = f

    low : (d t : ℕ) (y : Bool) → t ≤ d → (nat_lt d t && y) ≡ false
    low d t y le = and_left (nat_lt d t) y (le-ltb d t le)

    by : (x y : Bool) → nat_lt c s.tick ≡ x → or_else (then_some (x && y) s.tick) (noted_tick samples c i) ≡ Some t
        → (noted_tick samples c i ≡ Some t → noted_tick samples d i ≡ None)
        → or_else (then_some (nat_lt d s.tick && y) s.tick) (noted_tick samples d i) ≡ None
    by true true p e ih =
        let same : s.tick ≡ t = cc in
        skip (nat_lt d s.tick) true (low d s.tick true (omega (arith, same, lt)))
        (noted_none samples d i h.1 (omega (arith, h.0, same, lt)))
    by true false p e ih = skip (nat_lt d s.tick) false (and_right (nat_lt d s.tick) false refl) (ih e)
    by false y p e ih = skip (nat_lt d s.tick) y (low d s.tick y (omega (arith, ltb-false c s.tick p, le))) (ih e)

-- what is noted has the tick of a sample
pub noted_most : (samples : List Sample) (c i t : ℕ) → AreInTurn samples → noted_tick samples c i ≡ Some t
    → t ≤ tick_now samples
noted_most [] c i t h e = absurd (let no : (let o : Option ℕ = None in o) ≡ Some t = e in cc)
noted_most (s ∷ samples) c i t h e =
    by (nat_lt c s.tick && is_noted s samples i) e (λ q. noted_most samples c i t h.1 q)
  where
    by : (b : Bool) → or_else (then_some b s.tick) (noted_tick samples c i) ≡ Some t
        → (noted_tick samples c i ≡ Some t → t ≤ tick_now samples) → t ≤ s.tick
    by true e ih = (let same : s.tick ≡ t = cc in omega arith)
    by false e ih = omega (arith, ih e, h.0)

-- later samples leave what was sampled by a tick
pub by_stays : (later samples : List Sample) (c i : ℕ) → AreAbove c later
    → value_by (later ++ samples) c i ≡ value_by samples c i
by_stays [] samples c i h = refl
by_stays (s ∷ later) samples c i h = by_later s (later ++ samples) c i h.0 ∙ by_stays later samples c i h.1
