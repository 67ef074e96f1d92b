-- The samples of one actor among those of all.
use Rattle.std.proofs.Common.{◌≡◌, ℕ, List, [], ◌∷◌, Bool, true, false, ◌&&◌, ◌==◌, nat_lt, Some, None, refl, sym, ap, ◌∙◌, subst, arith, length, ℤ, inl, inr}
use Rattle.std.specs.Prelude.{◌⊎◌}
use Rattle.std.specs.Bool.{then_some}
use Rattle.std.specs.List.{cons_option}
use Rattle.std.proofs.lemmas.Bool.{cases_eq, eq-eqb}
use Rattle.std.proofs.lemmas.Bool.Decides.{nat_tests}
use Rattle.change_model.specs.Changes.{Sample}
use Rattle.shadow_changes.specs.Lists.{Lists, KeepsLists}
use Rattle.shadow_changes.specs.Samples.{Samples, Shadows, Keeps, IsSpent, samples_of, lists_in, may_follow}

other : (a b : ℕ) → (a ≡ b → ⊥) → (a == b) ≡ false
other a b h = grind (arith, nat_tests)

own_samples : (actor a : ℕ) (s : Sample) (samples : Samples) → actor ≡ a
    → samples_of ((actor, s) ∷ samples) a ≡ s ∷ samples_of samples a
own_samples actor a s samples e = ap (λ (b : Bool). cons_option (then_some b s) (samples_of samples a))
    (eq-eqb actor a e)

other_samples : (actor a : ℕ) (s : Sample) (samples : Samples) → (actor ≡ a → ⊥)
    → samples_of ((actor, s) ∷ samples) a ≡ samples_of samples a
other_samples actor a s samples e = ap (λ (b : Bool). cons_option (then_some b s) (samples_of samples a))
    (other actor a e)

-- one actor is sampled
pub keeps_more : (old new : Shadows) (samples : Samples) (actor : ℕ) (s : Sample) → Keeps old samples
    → new.spent ≡ false
    → KeepsLists (lists_in new.lists actor) (s ∷ samples_of samples actor)
    → ((a : ℕ) → (actor ≡ a → ⊥) → lists_in new.lists a ≡ lists_in old.lists a)
    → Keeps new ((actor, s) ∷ samples)
keeps_more old new samples actor s h kept own others =
    record {
      each = λ a.
          elim (cases_eq actor a) [
            | inl e ↦ subst (λ (k : ℕ). KeepsLists (lists_in new.lists k) (samples_of ((actor, s) ∷ samples) k)) e
                (subst (KeepsLists (lists_in new.lists actor)) (sym (own_samples actor actor s samples refl)) own)
            | inr e ↦ subst (KeepsLists (lists_in new.lists a)) (sym (other_samples actor a s samples e))
                (subst (λ (l : Lists). KeepsLists l (samples_of samples a)) (sym (others a e)) (h.each a))
          ];
      kept = kept;
    }

-- what may follow some samples that the lists stand for may follow all such samples
pub follows_too : (l : Lists) (some samples : List Sample) (tick count : ℕ) → KeepsLists l some → KeepsLists l samples
    → may_follow some tick count ≡ true → may_follow samples tick count ≡ true
follows_too l [] [] tick count h k e = refl
follows_too l [] (y ∷ ys) tick count h k e = absurd (none_is_some y.tick (sym h.tick ∙ k.tick))
  where
    none_is_some : (t : ℕ) → None ≡ Some t → ⊥
    none_is_some t f = cc
follows_too l (x ∷ xs) [] tick count h k e = absurd (some_is_none x.tick (sym h.tick ∙ k.tick))
  where
    some_is_none : (t : ℕ) → Some t ≡ None → ⊥
    some_is_none t f = cc
follows_too l (x ∷ xs) (y ∷ ys) tick count h k e =
    let ticks : Some x.tick ≡ Some y.tick = sym h.tick ∙ k.tick in
    let same_tick : x.tick ≡ y.tick = cc in
    let values : x.values ≡ y.values = sym h.last ∙ k.last in
    let moved : may_follow (x ∷ xs) tick count ≡ may_follow (y ∷ ys) tick count =
    ap (λ (t : ℕ). nat_lt t tick && (length x.values == count)) same_tick
    ∙ ap (λ (vs : List ℤ). nat_lt y.tick tick && (length vs == count)) values in
    sym moved ∙ e

-- lists that stand for some samples aren't spent, so the sample may follow
pub kept_half : (s : Shadows) (samples : Samples) (actor tick count : ℕ) → Keeps s samples
    → IsSpent s ⊎ ((before : Samples) × Keeps s before × (may_follow (samples_of before actor) tick count ≡ true))
    → (before : Samples) × Keeps s before × (may_follow (samples_of before actor) tick count ≡ true)
kept_half s samples actor tick count h (inl spent) = absurd (both (s.spent) h.kept spent)
  where
    both : (b : Bool) → b ≡ false → b ≡ true → ⊥
    both b e f = cc
kept_half s samples actor tick count h (inr rest) = rest
