-- Values and arguments, taken one after another.
use Rattle.std.specs.Prelude.{⊤, ◌<◌, ◌^◌, List, [], ◌∷◌, Option, Some, None, option_map, Result, Err, ℤ}
use Rattle.std.specs.Bool.{then_some}
use Rattle.std.specs.Option.{ok_or}
use Rattle.protocol_model.specs.declared.Kind.{Kind}
use Rattle.protocol_model.specs.declared.Kind.TheVariants.{Enum}
use Rattle.protocol_model.specs.declared.LineWhy.{LineWhy}
use Rattle.protocol_model.specs.declared.LineWhy.TheVariants as why
use Rattle.protocol_model.specs.Value.{Arg, fits}
use Rattle.script_model.specs.Lines.{Text}
use Rattle.script_model.specs.ScriptRules.{arg_of}

-- the kind's numbers are told apart
abbrev pub IsSmall : Kind → Type 0
IsSmall (Enum count) = count < 2 ^ 16
IsSmall kind = ⊤

-- the number, one of the kind
abbrev pub in_kind : Kind → Option ℤ → Result ℤ LineWhy
in_kind kind None = Err why.Value
in_kind kind (Some z) = ok_or (then_some (fits kind z) z) why.Value

-- the first field's argument, and the fields after it
abbrev pub take_arg : Kind → List Text → Option (Arg × List Text)
take_arg kind [] = None
take_arg kind (text ∷ texts) = option_map (λ a. (a, texts)) (arg_of kind text)
