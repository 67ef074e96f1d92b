-- Arguments that fit their kinds, one by one.
use Rattle.std.proofs.Common.{◌≡◌, ◌⊎◌, inl, inr, suc, List, [], ◌∷◌, map, length, Bool, IsTrue, refl, ap, arith}
use Rattle.std.proofs.lemmas.Bool.{false≢true, and_parts, and_from}
use Rattle.protocol_model.specs.declared.Kind.{Kind}
use Rattle.protocol_model.specs.Value.{args_fit, arg_fits}
use Rattle.protocol_model.specs.Payload.{arg_bits, args_bits}
use Rattle.bit_io.specs.Written.{Written, Appends}
use Rattle.value_codec.specs.Values.{arg_of, arg_is_of, args_are_of, argument_fits, arguments_fit}
use Rattle.value_codec.specs.declared.args.Arg.{Arg}
use Rattle.payload_writing.proofs.Loops.{IsLeft, one_put, all_put}

-- the first fits, and so do the others
pub record FitParts (kind : Kind) (kinds : List Kind) (arg : Arg) (args : List Arg) : Type 0 where
  pub first : IsTrue (argument_fits kind arg)
  pub others : IsTrue (arguments_fit kinds args)

pub fit_parts : (kind : Kind) (kinds : List Kind) (arg : Arg) (args : List Arg)
    → IsTrue (arguments_fit (kind ∷ kinds) (arg ∷ args)) → FitParts kind kinds arg args
fit_parts kind kinds arg args h =
    let tags = and_parts (arg_is_of kind arg) (args_are_of kinds args) (and_parts _ _ h).0 in
    let values = and_parts (arg_fits kind (arg_of arg)) (args_fit kinds (map arg_of args)) (and_parts _ _ h).1 in
    record {
      first = and_from (arg_is_of kind arg) (arg_fits kind (arg_of arg)) tags.0 values.0;
      others = and_from (args_are_of kinds args) (args_fit kinds (map arg_of args)) tags.1 values.1;
    }

-- there are as many as kinds
pub as_many : (kinds : List Kind) (args : List Arg) → IsTrue (arguments_fit kinds args) → length kinds ≡ length args
as_many [] [] h = refl
as_many [] (a ∷ args) h = absurd (false≢true h)
as_many (k ∷ kinds) [] h = absurd (false≢true h)
as_many (k ∷ kinds) (a ∷ args) h = ap suc (as_many kinds args (fit_parts k kinds a args h).others)

-- where one of the two has ended both have
pub record HaveEnded (kinds : List Kind) (args : List Arg) : Type 0 where
  pub no_kind : kinds ≡ []
  pub no_arg : args ≡ []

none_left : {A : Type 0} (xs : List A) → length xs ≡ 0 → xs ≡ []
none_left [] e = refl
none_left (x ∷ xs) e = absurd (omega (arith, e))

pub have_ended : (kinds : List Kind) (args : List Arg) → IsTrue (arguments_fit kinds args)
    → (length kinds ≡ 0) ⊎ (length args ≡ 0) → HaveEnded kinds args
have_ended kinds args fit (inl e) =
    record { no_kind = none_left kinds e; no_arg = none_left args (omega (arith, e, as_many kinds args fit)) }
have_ended kinds args fit (inr e) =
    record { no_kind = none_left kinds (omega (arith, e, as_many kinds args fit)); no_arg = none_left args e }

-- one argument more is written
pub arg_put : (old now next : Written) (whole : List Bool) (kinds behind : List Kind) (args after : List Arg)
    (kind : Kind) (arg : Arg)
    → kinds ≡ kind ∷ behind → args ≡ arg ∷ after → IsLeft old now whole (args_bits kinds (map arg_of args))
    → Appends now next (arg_bits kind (arg_of arg)) → IsLeft old next whole (args_bits behind (map arg_of after))
arg_put old now next whole kinds behind args after kind arg e f left put =
    one_put old now next whole (arg_bits kind (arg_of arg)) (args_bits behind (map arg_of after))
    (rw (e, f) at left) put

-- all are
pub args_put : (old now : Written) (whole : List Bool) (kinds : List Kind) (args : List Arg) → HaveEnded kinds args
    → IsLeft old now whole (args_bits kinds (map arg_of args)) → Appends old now whole
args_put old now whole kinds args ended left = all_put old now whole (rw ended.no_kind at left)

-- the others fit once one is taken
pub later_fit : (kinds behind : List Kind) (args after : List Arg) (kind : Kind) (arg : Arg) → kinds ≡ kind ∷ behind
    → args ≡ arg ∷ after → IsTrue (arguments_fit kinds args) → IsTrue (arguments_fit behind after)
later_fit kinds behind args after kind arg e f fit = (fit_parts kind behind arg after (rw (e, f) at fit)).others
