-- An index goes on naming the copies of its numbers, whatever one copy becomes.
use Rattle.std.proofs.Common.{◌≡◌, ◌≢◌, ℕ, ◌==◌, Bool, true, false, cond, Option, Some, None, refl, sym, ap, ◌∙◌, subst}
use Rattle.std.specs.Prelude.{option_and_then}
use Rattle.std.proofs.lemmas.Bool.{eqb-true, eq-eqb}
use Rattle.std.proofs.lemmas.Option.{same_Some}
use Rattle.connection_model.specs.Copies.{is_on}
use Rattle.actor_copies.specs.declared.copy.ActorCopy.{ActorCopy}
use Rattle.actor_copies.specs.Index.{Indexes}

-- copies that have the numbers that they had keep an index
pub same_numbers : (number : ActorCopy → Option ℕ) (old new : ℕ → Option ActorCopy) (index : ℕ → Option ℕ)
    → Indexes number old index
    → ((k : ℕ) → option_and_then number (new k) ≡ option_and_then number (old k)) → Indexes number new index
same_numbers number old new index i same = record {
  there = λ n k e. same k ∙ i.there n k e;
  found = λ n k e. i.found n k (sym (same k) ∙ e);
}

-- and so do keys that are the same
pub same_keys : (number : ActorCopy → Option ℕ) (stored : ℕ → Option ActorCopy) (index later : ℕ → Option ℕ)
    → Indexes number stored index → ((n : ℕ) → later n ≡ index n) → Indexes number stored later
same_keys number stored index later i same = record {
  there = λ n k e. i.there n k (sym (same n) ∙ e);
  found = λ n k e. same n ∙ i.found n k e;
}

-- one copy became another, or none: its new number has its key, and its old one has none
pub record Moves (number : ActorCopy → Option ℕ) (old new : ℕ → Option ActorCopy) (index later : ℕ → Option ℕ)
    (key : ℕ) : Type 0 where
  pub others : (k : ℕ) → k ≢ key → new k ≡ old k
  pub at : (n : ℕ) → later n ≡ cond (is_on n (option_and_then number (new key))) (Some key)
      (cond (is_on n (option_and_then number (old key))) None (index n))
  pub free : (n k : ℕ) → option_and_then number (new key) ≡ Some n → index n ≡ Some k → k ≡ key

pub on_is : (n : ℕ) (o : Option ℕ) → is_on n o ≡ true → o ≡ Some n
on_is n None e = absurd (cc)
on_is n (Some m) e = ap (λ (k : ℕ). Some k) (eqb-true m n e)

pub is_there : (n : ℕ) (o : Option ℕ) → o ≡ Some n → is_on n o ≡ true
is_there n o e = ap (is_on n) e ∙ eq-eqb n n refl

pub apart : (k key : ℕ) → (k == key) ≡ false → k ≢ key
apart k key e same = let no : false ≡ true = sym e ∙ eq-eqb k key same in absurd (cc)

pub moved : (number : ActorCopy → Option ℕ) (old new : ℕ → Option ActorCopy) (index later : ℕ → Option ℕ)
    (key : ℕ) → Indexes number old index → Moves number old new index later key → Indexes number new later
moved number old new index later key i m = record {
  there = λ n k e. there n k (is_on n was_now) refl (is_on n was) refl (sym (m.at n) ∙ e);
  found = λ n k e. m.at n ∙ found n k (k == key) refl (is_on n was_now) refl (is_on n was) refl e;
}
  where
    was_now : Option ℕ
    was_now = option_and_then number (new key)

    was : Option ℕ
    was = option_and_then number (old key)

    other : (n k : ℕ) → is_on n was ≡ false → index n ≡ Some k → k ≢ key
    other n k b e same =
        let no : false ≡ true = sym b ∙ is_there n was
        (subst (λ (j : ℕ). option_and_then number (old j) ≡ Some n) same (i.there n k e)) in
        absurd (cc)

    there : (n k : ℕ) (a : Bool) → is_on n was_now ≡ a → (b : Bool) → is_on n was ≡ b
        → cond a (Some key) (cond b None (index n)) ≡ Some k → option_and_then number (new k) ≡ Some n
    there n k true a b f e =
        subst (λ (j : ℕ). option_and_then number (new j) ≡ Some n) (same_Some key k e) (on_is n was_now a)
    there n k false a true f e = absurd (cc)
    there n k false a false f e =
        ap (option_and_then number) (m.others k (other n k f e)) ∙ i.there n k e

    found : (n k : ℕ) (c : Bool) → (k == key) ≡ c → (a : Bool) → is_on n was_now ≡ a → (b : Bool)
        → is_on n was ≡ b → option_and_then number (new k) ≡ Some n
        → cond a (Some key) (cond b None (index n)) ≡ Some k
    found n k true c true a b f e = ap (λ (j : ℕ). Some j) (sym (eqb-true k key c))
    found n k true c false a b f e =
        let no : false ≡ true = sym a ∙ is_there n was_now
        (subst (λ (j : ℕ). option_and_then number (new j) ≡ Some n) (eqb-true k key c) e) in
        absurd (cc)
    found n k false c a g b f e = stays a g b f (i.found n k before)
      where
        before : option_and_then number (old k) ≡ Some n
        before = sym (ap (option_and_then number) (m.others k (apart k key c))) ∙ e

        stays : (a : Bool) → is_on n was_now ≡ a → (b : Bool) → is_on n was ≡ b → index n ≡ Some k
            → cond a (Some key) (cond b None (index n)) ≡ Some k
        stays true g b f at = absurd (apart k key c (m.free n k (on_is n was_now g) at))
        stays false g true f at =
            absurd (apart k key c (same_Some k key (sym at ∙ i.found n key (on_is n was f))))
        stays false g false f at = at
