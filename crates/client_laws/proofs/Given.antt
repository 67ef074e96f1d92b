-- What holds of whatever a reading gives.
use Rattle.std.proofs.Common.{◌≡◌, ℕ, List, Bool, true, false, cond, Result, Ok, Err, refl, ap, subst}
use Rattle.protocol_model.specs.Reading.{Fault, Broken, Reading, ◌>>=◌, give, left, need, fault}

-- each value that the reading gives
abbrev pub Gives : {Why A : Type 0} → Reading Why A → (A → Type 0) → Type 0
Gives {Why} {A} read P = (bits : List Bool) (x : A) (rest : List Bool) → read bits ≡ Ok (x, rest) → P x

never : {B : Type 0} {Why A : Type 0} (fault : Fault Why) (x : A) → Err fault ≡ Ok x → B
never fault x e = absurd (cc)

same_value : {Why A : Type 0} (x y : A) (bits rest : List Bool)
    → ◌≡◌ {A = Result (A × List Bool) (Fault Why)} (Ok (x, bits)) (Ok (y, rest)) → x ≡ y
same_value {A = A} x y bits rest e =
    let pairs : ◌≡◌ {A = A × List Bool} (x, bits) (y, rest) = cc in
    ap (λ (pair : A × List Bool). pair.0) pairs

pub gives_give : {Why A : Type 0} (P : A → Type 0) (x : A) → P x → Gives {Why = Why} (give x) P
gives_give P x p bits y rest e = subst P (same_value x y bits rest e) p

pub gives_fault : {Why A : Type 0} (P : A → Type 0) (why : Fault Why) → Gives {A = A} (fault why) P
gives_fault P why bits x rest e = never why (x, rest) e

pub gives_any : {Why A B : Type 0} (read : Reading Why A) (next : A → Reading Why B) (P : B → Type 0)
    → ((a : A) → Gives (next a) P) → Gives (read >>= next) P
gives_any {Why = Why} {A = A} {B = B} read next P h bits x rest e = by (read bits) e
  where
    by : (got : Result (A × List Bool) (Fault Why))
        → ◌≡◌ {A = Result (B × List Bool) (Fault Why)}
        (elim got [ Ok got ↦ next got.0 got.1 | Err why ↦ Err why ]) (Ok (x, rest))
        → P x
    by (Ok got) e = h got.0 got.1 x rest e
    by (Err why) e = never why (x, rest) e

pub gives_next : {Why A B : Type 0} (read : Reading Why A) (next : A → Reading Why B) (Q : A → Type 0)
    (P : B → Type 0)
    → Gives read Q → ((a : A) → Q a → Gives (next a) P) → Gives (read >>= next) P
gives_next {Why = Why} {A = A} {B = B} read next Q P q h bits x rest e = by (read bits) refl e
  where
    by : (got : Result (A × List Bool) (Fault Why)) → read bits ≡ got
        → ◌≡◌ {A = Result (B × List Bool) (Fault Why)}
        (elim got [ Ok got ↦ next got.0 got.1 | Err why ↦ Err why ]) (Ok (x, rest))
        → P x
    by (Ok got) r e = h got.0 (q bits got.0 got.1 r) got.1 x rest e
    by (Err why) r e = never why (x, rest) e

-- a rule that held
pub gives_need : {Why : Type 0} (rule : Bool) (why : Why) → Gives (need rule why) (λ n. rule ≡ true)
gives_need {Why = Why} rule why =
    gives_any left (λ from. left >>= (λ n. cond rule (give n) (fault (Broken from why)))) (λ n. rule ≡ true)
    (λ from. gives_any left (λ n. cond rule (give n) (fault (Broken from why))) (λ n. rule ≡ true)
    (λ n. by rule from n))
  where
    by : (b : Bool) (from n : ℕ) → Gives (cond b (give n) (fault (Broken from why))) (λ n. b ≡ true)
    by true from n = gives_give (λ n. true ≡ true) n refl
    by false from n = gives_fault (λ n. false ≡ true) (Broken from why)
