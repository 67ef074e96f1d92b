use Rattle.std.proofs.Common.{◌≤◌, ◌-◌, rules, arith}
use Rattle.payload_reading.proofs.Handles.{own_is, own_has_values}
use Rattle.payload_reading.proofs.values.kind_of.Goals as goal

pub returns-clause-kind : goal.returns-clause-kind
returns-clause-kind c = λ segments.
    (let from : 4 ≤ c.args.handle = omega arith in
    let here = own_is segments c.args.class.now c.args.handle from in
    cc)

pub returns-clause-values : goal.returns-clause-values
returns-clause-values c =
    let here = own_has_values c.args.class.now (c.args.handle - 4) c.requires in
    search rules
