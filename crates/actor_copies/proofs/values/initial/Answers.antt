use Rattle.std.proofs.Common.{[], length, ap, arith}
use Rattle.actor_copies.proofs.Initial.{inits_done, values_numbered}
use Rattle.actor_copies.proofs.values.initial.Goals as goal

pub returns-clause-values : goal.returns-clause-values
returns-clause-values c = λ segments.
    (let items = ap length c.as_slice-prop-items.ensures in
    inits_done segments c.args.class.now c.loop-prop.list c.loop-prop.handle c.loop-prop.prop-index
    c.loop-prop.invariant (omega (arith, items)))

pub returns-clause-numbered : goal.returns-clause-numbered
returns-clause-numbered c =
    let items = ap length c.as_slice-prop-items.ensures in
    values_numbered c.args.class.now c.loop-prop.list
    (inits_done [] c.args.class.now c.loop-prop.list c.loop-prop.handle c.loop-prop.prop-index
    c.loop-prop.invariant (omega (arith, items)))
