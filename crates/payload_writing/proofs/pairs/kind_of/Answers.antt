use Rattle.std.proofs.Common.{◌≤◌, arith}
use Rattle.payload_writing.proofs.Handles.{own_from_4}
use Rattle.payload_writing.proofs.pairs.kind_of.Goals as goal

pub returns : goal.returns
returns c = λ segments.
    (let from : 4 ≤ c.args.prop = omega arith in
    let here = own_from_4 segments c.args.class.now c.args.prop from in
    cc)
