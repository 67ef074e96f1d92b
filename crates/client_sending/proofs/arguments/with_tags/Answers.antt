use Rattle.std.proofs.Common.{rules, inl, inr}
use Rattle.client_sending.proofs.Fitting.{none_yet, next_tagged, first_fits, tagged_all, all_tagged}
use Rattle.client_sending.proofs.arguments.with_tags.Goals as goal

pub loop-kind-init : goal.loop-kind-init
loop-kind-init c =
    none_yet c.args.kinds.now c.args.args.now c.new-list.result c.into_iter-kind-iterator.result.a.rest.now
    c.into_iter-kind-iterator.result.b.rest.now c.new-list.ensures (search rules) (search rules) c.requires

pub with_tag-requires : goal.with_tag-requires
with_tag-requires c =
    let steps = c.in-Some.ensures.steps in
    (first_fits c.in-Some.kind.now c.next.new.self.a.rest.now c.in-Some.arg.now c.next.new.self.b.rest.now
    c.loop-kind.kind-iterator.a.rest.now c.loop-kind.kind-iterator.b.rest.now steps.0 steps.1
    c.loop-kind.invariant.fit).0

pub loop-kind-preserved : goal.loop-kind-preserved
loop-kind-preserved c =
    let steps = c.in-Some.ensures.steps in
    next_tagged c.args.kinds.now c.args.args.now c.loop-kind.list c.push.new.self c.loop-kind.kind-iterator.a.rest.now
    c.next.new.self.a.rest.now c.loop-kind.kind-iterator.b.rest.now c.next.new.self.b.rest.now c.in-Some.kind.now
    c.in-Some.arg.now c.in_ok-with_tag.field-0 c.loop-kind.invariant steps.0 steps.1 c.in_ok-push.ensures.ok
    c.in_ok-with_tag.ensures.same c.in_ok-with_tag.ensures.tag

pub returns-clause-same : goal.returns-clause-same
returns-clause-same c =
    tagged_all c.args.kinds.now c.args.args.now c.loop-kind.list c.loop-kind.kind-iterator.a.rest.now
    c.loop-kind.kind-iterator.b.rest.now c.loop-kind.invariant
    (elim c.in-None.ensures.steps [ inl e ↦ inl e.1.0 | inr e ↦ inr e.1.0 ])

pub returns-clause-fit : goal.returns-clause-fit
returns-clause-fit c =
    all_tagged c.args.kinds.now c.loop-kind.list c.args.args.now c.loop-kind.invariant.tags
    (tagged_all c.args.kinds.now c.args.args.now c.loop-kind.list c.loop-kind.kind-iterator.a.rest.now
    c.loop-kind.kind-iterator.b.rest.now c.loop-kind.invariant
    (elim c.in-None.ensures.steps [ inl e ↦ inl e.1.0 | inr e ↦ inr e.1.0 ])) c.requires
