-- Lists of arguments and of kinds, an argument at a time.
use Rattle.std.proofs.Common.{◌≡◌, ◌≢◌, ℕ, suc, ◌<◌, ◌+◌, List, [], ◌∷◌, Bool, true, false, ◌&&◌, nat_lt, length, map, drop, get_or, refl, ap, arith}
use Rattle.std.proofs.lemmas.Bool.Decides.{nat_tests}
use Rattle.std.proofs.lemmas.List.{drop_more}
use Rattle.std.specs.List.{list_all}
use Rattle.protocol_model.specs.declared.Kind.{Kind}
use Rattle.protocol_model.specs.Value as Model
use Rattle.value_codec.specs.declared.args.Arg.{Arg}
use Rattle.value_codec.specs.Values.{arg_is_of, arg_of, args_are_of, argument_fits, arguments_fit}

below_byte : (b : ℕ) → b < 256 → nat_lt b 256 ≡ true
below_byte b h = grind (arith, nat_tests)

pub all_bytes : (bytes : List ℕ) → ((i : ℕ) → get_or bytes i 0 < 256) → list_all (λ b. nat_lt b 256) bytes ≡ true
all_bytes [] h = refl
all_bytes (b ∷ bytes) h = rw (below_byte b (h 0)) (all_bytes bytes (λ i. h (suc i)))

pub and_true : (a b : Bool) → b ≡ true → a ≡ (a && b)
and_true true b h = rw h refl
and_true false b h = refl

both : (x y p q : Bool) → (x && y) ≡ true → ((x && p) && (y && q)) ≡ (p && q)
both true true p q h = refl
both true false p q h = absurd (cc)
both false y p q h = absurd (cc)

not_both : (x y p q : Bool) → (x && y) ≡ false → ((x && p) && (y && q)) ≡ false
not_both true true p q h = absurd (cc)
not_both true false true q h = refl
not_both true false false q h = refl
not_both false y p q h = refl

not_rest : (x y p q : Bool) → (p && q) ≡ false → ((x && p) && (y && q)) ≡ false
not_rest true true p q h = h
not_rest true false true q h = refl
not_rest true false false q h = refl
not_rest false y p q h = refl

pub other_count : (kinds : List Kind) (args : List Arg) → length kinds ≢ length args → arguments_fit kinds args ≡ false
other_count [] [] h = absurd (h refl)
other_count [] (a ∷ args) h = refl
other_count (k ∷ kinds) [] h = refl
other_count (k ∷ kinds) (a ∷ args) h =
    not_rest (arg_is_of k a) (Model.arg_fits k (arg_of a)) (args_are_of kinds args)
    (Model.args_fit kinds (map arg_of args))
    (other_count kinds args (λ e. h (ap (λ m. suc m) e)))

pub one_fits : (kinds : List Kind) (args : List Arg) (i : ℕ) (k : Kind) (a : Arg) → i < length kinds → i < length args
    → argument_fits (get_or kinds i k) (get_or args i a) ≡ true
    → arguments_fit (drop i kinds) (drop i args) ≡ arguments_fit (drop (i + 1) kinds) (drop (i + 1) args)
one_fits kinds args i k a h1 h2 h =
    rw (drop_more kinds i k h1, drop_more args i a h2)
    (both (arg_is_of (get_or kinds i k) (get_or args i a)) (Model.arg_fits (get_or kinds i k)
    (arg_of (get_or args i a)))
    (args_are_of (drop (i + 1) kinds) (drop (i + 1) args)) (Model.args_fit (drop (i + 1) kinds)
    (map arg_of (drop (i + 1) args))) h)

pub one_fails : (kinds : List Kind) (args : List Arg) (i : ℕ) (k : Kind) (a : Arg) → i < length kinds → i < length args
    → argument_fits (get_or kinds i k) (get_or args i a) ≡ false
    → arguments_fit (drop i kinds) (drop i args) ≡ false
one_fails kinds args i k a h1 h2 h =
    rw (drop_more kinds i k h1, drop_more args i a h2)
    (not_both (arg_is_of (get_or kinds i k) (get_or args i a))
    (Model.arg_fits (get_or kinds i k) (arg_of (get_or args i a)))
    (args_are_of (drop (i + 1) kinds) (drop (i + 1) args)) (Model.args_fit (drop (i + 1) kinds)
    (map arg_of (drop (i + 1) args))) h)
