use Rattle.std.proofs.Common.{◌≡◌, length, true, map, drop}
use Rattle.value_codec.specs.Values.{arg_of, args_are_of}
use Rattle.script_model.specs.ScriptRules.{args_of}
use Rattle.script_spelling.specs.Fields.{pieces_after}
use Rattle.script_reading.proofs.ArgumentSteps.{joined}
use Rattle.script_reading.proofs.arguments.all_arguments.Given as goal

abbrev pub invariant-loop-kind : goal.invariant-loop-kind
invariant-loop-kind l = record {
  exact : joined (map arg_of l.args) (args_of (drop l.kind-index l.kinds) (pieces_after 32 l.rest))
      ≡ args_of l.kinds (pieces_after 32 l.fn.fields);
  count : l.kind-index ≡ length l.args;
  tags : args_are_of l.kinds l.args ≡ true;
}
