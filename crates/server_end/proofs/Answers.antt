-- Clauses on an answer, by cases.
use Rattle.std.proofs.Common.{◌≡◌, Result, Ok, Err, OnOk, IfOk, sym, subst}

pub on_ok : {A E : Type 0} {P Q : Type 0} (r : Result A E) → (P → Q) → OnOk r P → OnOk r Q
on_ok (Ok x) f p = f p
on_ok (Err e) f p = tt

pub of_ok : {A E : Type 0} {P : Type 0} (r : Result A E) (x : A) → r ≡ Ok x → OnOk r P → P
of_ok {A} {E} {P} r x e p = subst (λ (r : Result A E). OnOk r P) e p

pub if_ok : {A E : Type 0} {P : Type 0} (r : Result A E) (x : A) → r ≡ Ok x → P → OnOk r P
if_ok {A} {E} {P} r x e p = subst (λ (r : Result A E). OnOk r P) (sym e) p

pub if_err : {A E : Type 0} (P : Type 0) (r : Result A E) (x : E) → r ≡ Err x → OnOk r P
if_err {A} {E} P r x e = subst (λ (r : Result A E). OnOk r P) (sym e) tt

pub each_ok : {A E : Type 0} {P Q : A → Type 0} (r : Result A E) → ((x : A) → P x → Q x) → IfOk r P → IfOk r Q
each_ok (Ok x) f p = f x p
each_ok (Err e) f p = tt

pub both_ok : {A E : Type 0} (P Q : Type 0) (r : Result A E) → OnOk r P → OnOk r Q → OnOk r (P × Q)
both_ok P Q (Ok x) p q = (p, q)
both_ok P Q (Err e) p q = tt
