use Rattle.std.proofs.Common.{◌≡◌, map, drop}
use Rattle.table_model.specs.Rules.{arg_kinds}
use Rattle.table_json.specs.Objects.{text_in}
use Rattle.class_members.proofs.ArgKinds.{behind_these}
use Rattle.class_members.proofs.call.arg_kinds.Given as goal

abbrev pub invariant-loop-word : goal.invariant-loop-word
invariant-loop-word l =
    behind_these l.kinds (arg_kinds (map text_in (drop l.word-index l.types))) ≡ arg_kinds (map text_in l.types)
