-- Lists of arguments and of kinds, an argument at a time.
use Rattle.std.proofs.Common.{◌≡◌, ◌≢◌, ◌∙◌, ◌⊎◌, inl, inr, ℕ, suc, ◌<◌, ◌+◌, List, [], ◌∷◌, ◌++◌, Bool, true, false, ◌&&◌, nat_lt, length, map, drop, get_or, refl, sym, ap, subst, arith, append_assoc, append-nil}
use Rattle.std.specs.Prelude.{IsTrue}
use Rattle.std.specs.List.{list_all}
use Rattle.std.proofs.lemmas.Bool.{false≢true, and_parts, and_from}
use Rattle.std.proofs.lemmas.Bool.Decides.{nat_tests}
use Rattle.std.proofs.lemmas.List.{drop_more, map-append}
use Rattle.protocol_model.specs.declared.Kind.{Kind}
use Rattle.protocol_model.specs.Value as Model
use Rattle.value_codec.specs.declared.args.Arg.{Arg}
use Rattle.value_codec.specs.Values.{arg_is_of, arg_of, args_are_of, arguments_fit}

below_byte : (b : ℕ) → b < 256 → nat_lt b 256 ≡ true
below_byte b h = grind (arith, nat_tests)

pub all_bytes : (bytes : List ℕ) → ((i : ℕ) → get_or bytes i 0 < 256) → list_all (λ b. nat_lt b 256) bytes ≡ true
all_bytes [] h = refl
all_bytes (b ∷ bytes) h = rw (below_byte b (h 0)) (all_bytes bytes (λ i. h (suc i)))

pub and_true : (a b : Bool) → b ≡ true → a ≡ (a && b)
and_true true b h = rw h refl
and_true false b h = refl

-- ---- whether they fit

not_rest : (x p : Bool) → p ≡ false → (x && p) ≡ false
not_rest true p h = h
not_rest false p h = refl

pub other_count : (kinds : List Kind) (args : List Arg) → length kinds ≢ length args
    → Model.args_fit kinds (map arg_of args) ≡ false
other_count [] [] h = absurd (h refl)
other_count [] (a ∷ args) h = refl
other_count (k ∷ kinds) [] h = refl
other_count (k ∷ kinds) (a ∷ args) h =
    not_rest (Model.arg_fits k (arg_of a)) (Model.args_fit kinds (map arg_of args))
    (other_count kinds args (λ e. h (ap (λ m. suc m) e)))

pub one_fits : (kinds : List Kind) (args : List Arg) (i : ℕ) (k : Kind) (a : Arg) → i < length kinds → i < length args
    → Model.arg_fits (get_or kinds i k) (arg_of (get_or args i a)) ≡ true
    → Model.args_fit (drop i kinds) (map arg_of (drop i args))
    ≡ Model.args_fit (drop (i + 1) kinds) (map arg_of (drop (i + 1) args))
one_fits kinds args i k a h1 h2 h =
    rw (drop_more kinds i k h1, drop_more args i a h2)
    (ap (λ (b : Bool). b && Model.args_fit (drop (i + 1) kinds) (map arg_of (drop (i + 1) args))) h)

pub one_fails : (kinds : List Kind) (args : List Arg) (i : ℕ) (k : Kind) (a : Arg) → i < length kinds → i < length args
    → Model.arg_fits (get_or kinds i k) (arg_of (get_or args i a)) ≡ false
    → Model.args_fit (drop i kinds) (map arg_of (drop i args)) ≡ false
one_fails kinds args i k a h1 h2 h =
    rw (drop_more kinds i k h1, drop_more args i a h2)
    (ap (λ (b : Bool). b && Model.args_fit (drop (i + 1) kinds) (map arg_of (drop (i + 1) args))) h)

-- ---- with the tags of their kinds

-- the first fits, and so do the others
pub first_fits : (kind : Kind) (behind : List Kind) (arg : Arg) (after : List Arg) (kinds : List Kind) (args : List Arg)
    → kinds ≡ kind ∷ behind → args ≡ arg ∷ after → IsTrue (Model.args_fit kinds (map arg_of args))
    → (Model.arg_fits kind (arg_of arg) ≡ true) × (Model.args_fit behind (map arg_of after) ≡ true)
first_fits kind behind arg after kinds args e f h =
    and_parts (Model.arg_fits kind (arg_of arg)) (Model.args_fit behind (map arg_of after)) (rw (e, f) at h)

none_tagged : (kinds : List Kind) → args_are_of kinds [] ≡ true
none_tagged [] = refl
none_tagged (k ∷ kinds) = refl

-- one more argument has its kind's tag
pub one_more : (kinds : List Kind) (list : List Arg) (k : Kind) (more : List Kind) (x : Arg)
    → args_are_of kinds list ≡ true → drop (length list) kinds ≡ k ∷ more → arg_is_of k x ≡ true
    → (args_are_of kinds (list ++ x ∷ []) ≡ true) × (drop (length (list ++ x ∷ [])) kinds ≡ more)
one_more [] [] k more x h e t = absurd (let none : ◌≡◌ {A = List Kind} [] (k ∷ more) = e in cc)
one_more [] (a ∷ list) k more x h e t = absurd (let none : ◌≡◌ {A = List Kind} [] (k ∷ more) = e in cc)
one_more (j ∷ kinds) [] k more x h e t =
    let same : j ≡ k = cc in
    let rest : kinds ≡ more = cc in
    (and_from (arg_is_of j x) (args_are_of kinds []) (rw same t) (none_tagged kinds), rest)
one_more (j ∷ kinds) (a ∷ list) k more x h e t =
    let parts = and_parts (arg_is_of j a) (args_are_of kinds list) h in
    let r = one_more kinds list k more x parts.1 e t in
    (and_from (arg_is_of j a) (args_are_of kinds (list ++ x ∷ [])) parts.0 r.0, r.1)

-- the arguments so far and those left are all
pub one_same : (list : List Arg) (x arg : Arg) (args after all : List Arg) → args ≡ arg ∷ after → arg_of x ≡ arg_of arg
    → map arg_of list ++ map arg_of args ≡ map arg_of all
    → map arg_of (list ++ x ∷ []) ++ map arg_of after ≡ map arg_of all
one_same list x arg args after all e f h =
    ap (λ (l : List Model.Arg). l ++ map arg_of after) (map-append arg_of list (x ∷ []))
    ∙ append_assoc (map arg_of list) (arg_of x ∷ []) (map arg_of after)
    ∙ ap (λ (a : Model.Arg). map arg_of list ++ a ∷ map arg_of after) f
    ∙ ap (λ (l : List Arg). map arg_of list ++ map arg_of l) (sym e) ∙ h

none_of : {A : Type 0} (xs : List A) → length xs ≡ 0 → xs ≡ []
none_of [] e = refl
none_of (x ∷ xs) e = absurd (omega (arith, e))

-- where the kinds or the arguments have ended no argument is left
pub none_left : (kinds : List Kind) (args : List Arg) → IsTrue (Model.args_fit kinds (map arg_of args))
    → (length kinds ≡ 0) ⊎ (length args ≡ 0) → args ≡ []
none_left kinds args h (inr e) = none_of args e
none_left [] [] h (inl e) = refl
none_left [] (a ∷ args) h (inl e) = absurd (false≢true h)
none_left (k ∷ kinds) args h (inl e) = absurd (omega (arith, e))

pub all_same : (list args all : List Arg) → args ≡ [] → map arg_of list ++ map arg_of args ≡ map arg_of all
    → map arg_of list ≡ map arg_of all
all_same list args all e h = sym (append-nil (map arg_of list)) ∙ (rw e at h)

pub all_tagged : (kinds : List Kind) (list all : List Arg) → args_are_of kinds list ≡ true
    → map arg_of list ≡ map arg_of all → IsTrue (Model.args_fit kinds (map arg_of all))
    → IsTrue (arguments_fit kinds list)
all_tagged kinds list all tags same h =
    and_from (args_are_of kinds list) (Model.args_fit kinds (map arg_of list)) tags
    (ap (Model.args_fit kinds) same ∙ h)

-- so many arguments have the tags of their kinds, and these are left
pub record Tagging (kinds : List Kind) (args list : List Arg) (behind : List Kind) (after : List Arg) : Type 0 where
  pub same : map arg_of list ++ map arg_of after ≡ map arg_of args
  pub fit : IsTrue (Model.args_fit behind (map arg_of after))
  pub kinds_left : drop (length list) kinds ≡ behind
  pub tags : args_are_of kinds list ≡ true

pub none_yet : (kinds : List Kind) (args list : List Arg) (behind : List Kind) (after : List Arg) → list ≡ []
    → behind ≡ kinds → after ≡ args → IsTrue (Model.args_fit kinds (map arg_of args))
    → Tagging kinds args list behind after
none_yet kinds args list behind after e f g h = rw (e, f, g) (record {
  same = refl;
  fit = h;
  kinds_left = refl;
  tags = none_tagged kinds;
})

pub next_tagged : (kinds : List Kind) (args list later : List Arg) (behind rest : List Kind) (after left : List Arg)
    (kind : Kind) (arg x : Arg)
    → Tagging kinds args list behind after → behind ≡ kind ∷ rest → after ≡ arg ∷ left → later ≡ list ++ x ∷ []
    → arg_of x ≡ arg_of arg → arg_is_of kind x ≡ true → Tagging kinds args later rest left
next_tagged kinds args list later behind rest after left kind arg x h e f g same tag =
    let more = one_more kinds list kind rest x h.tags (h.kinds_left ∙ e) tag in
    subst (λ (l : List Arg). Tagging kinds args l rest left) (sym g) (record {
      same = one_same list x arg after left args f same h.same;
      fit = (first_fits kind rest arg left behind after e f h.fit).1;
      kinds_left = more.1;
      tags = more.0;
    })

pub tagged_all : (kinds : List Kind) (args list : List Arg) (behind : List Kind) (after : List Arg)
    → Tagging kinds args list behind after → (length behind ≡ 0) ⊎ (length after ≡ 0)
    → map arg_of list ≡ map arg_of args
tagged_all kinds args list behind after h ended = all_same list after args (none_left behind after h.fit ended) h.same
