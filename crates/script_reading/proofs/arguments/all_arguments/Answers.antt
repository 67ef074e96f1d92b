use Rattle.std.proofs.Common.{map, refl, get_or, length, sym, ap, ◌∙◌}
use Rattle.protocol_model.specs.declared.Kind.TheVariants as Kind
use Rattle.value_codec.specs.Values.{arg_of, args_are_of}
use Rattle.script_model.specs.ScriptRules.{args_of}
use Rattle.script_spelling.specs.Fields.{pieces_after}
use Rattle.script_reading.specs.Taken.{take_arg}
use Rattle.script_reading.proofs.ArgumentSteps.{joined, joined_none, taken_step, taken_stop, none_seen, some_seen, one_more_arg}
use Rattle.script_reading.proofs.Tags.{no_more, one_longer, tags_step, tag_taken}
use Rattle.script_reading.proofs.arguments.all_arguments.Goals as goal

pub returns-in_default-clause-exact : goal.returns-in_default-clause-exact
returns-in_default-clause-exact c =
    let kinds = c.args.kinds.now in
    let kind = get_or kinds c.loop-kind.kind-index Kind.Bool in
    taken_stop kinds c.loop-kind.kind-index kind Kind.Bool (map arg_of c.loop-kind.args)
    (pieces_after 32 c.loop-kind.rest)
    (args_of kinds (pieces_after 32 c.args.fields)) c.loop-kind-test.true refl
    (none_seen c.in_ok-arg.field-0 (take_arg kind (pieces_after 32 c.loop-kind.rest)) c.in_default.is
    c.in_ok-arg.ensures.exact)
    c.loop-kind.invariant.exact

pub loop-kind-preserved : goal.loop-kind-preserved
loop-kind-preserved c =
    let kinds = c.args.kinds.now in
    let kind = get_or kinds c.loop-kind.kind-index Kind.Bool in record {
      exact =
          taken_step kinds c.loop-kind.kind-index kind Kind.Bool (map arg_of c.loop-kind.args)
          (map arg_of c.push.new.self)
          (pieces_after 32 c.loop-kind.rest) (pieces_after 32 c.in-Some.later) (arg_of c.in-Some.arg)
          (args_of kinds (pieces_after 32 c.args.fields)) c.loop-kind-test.true refl
          (some_seen c.in_ok-arg.field-0 (take_arg kind (pieces_after 32 c.loop-kind.rest))
          (c.in-Some.arg, c.in-Some.later)
          c.in-Some.is c.in_ok-arg.ensures.exact)
          (one_more_arg c.push.new.self c.loop-kind.args c.in-Some.arg c.in_ok-push.ensures.ok)
          c.loop-kind.invariant.exact;
      count =
          one_longer c.loop-kind.args c.push.new.self c.in-Some.arg c.loop-kind.kind-index c.in_ok-push.ensures.ok
          c.loop-kind.invariant.count;
      tags =
          tags_step kinds c.loop-kind.args c.push.new.self c.in-Some.arg c.loop-kind.kind-index Kind.Bool
          c.loop-kind.invariant.count c.loop-kind.invariant.tags c.in_ok-push.ensures.ok
          (tag_taken kind c.in_ok-arg.field-0 (c.in-Some.arg, c.in-Some.later) c.in-Some.is c.in_ok-arg.ensures.tag);
    }

pub loop-kind-init : goal.loop-kind-init
loop-kind-init c = record {
  exact =
      ap (λ l. joined (map arg_of l) (args_of c.args.kinds.now (pieces_after 32 c.args.fields))) c.new-args.ensures
      ∙ joined_none (args_of c.args.kinds.now (pieces_after 32 c.args.fields));
  count = sym (ap length c.new-args.ensures);
  tags = ap (args_are_of c.args.kinds.now) c.new-args.ensures ∙ no_more c.args.kinds.now;
}
