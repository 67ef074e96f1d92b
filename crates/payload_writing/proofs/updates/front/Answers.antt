use Rattle.std.proofs.Common.{◌+◌, ◌≤◌, sym, arith}
use Rattle.bit_io.proofs.Places.{length-between, take-between}
use Rattle.payload_writing.proofs.updates.front.Goals as goal

pub overflow_add-result : goal.overflow_add-result
overflow_add-result c =
    let s = c.args.slice in
    let len = length-between s.bytes.now s.from s.to s.ordered s.within in
    let within = s.within in
    let small = s.small in
    omega (arith, len, c.requires, within, small)

pub invariant_of-result-clause-ordered : goal.invariant_of-result-clause-ordered
invariant_of-result-clause-ordered c = omega arith

pub invariant_of-result-clause-within : goal.invariant_of-result-clause-within
invariant_of-result-clause-within c =
    let s = c.args.slice in
    let len = length-between s.bytes.now s.from s.to s.ordered s.within in
    let ordered = s.ordered in
    let within = s.within in
    omega (arith, len, c.requires, ordered, within)

pub returns : goal.returns
returns c =
    let s = c.args.slice in
    let len = length-between s.bytes.now s.from s.to s.ordered s.within in
    let ordered = s.ordered in
    let fits : s.from + c.args.count ≤ s.to = omega (arith, len, c.requires, ordered) in
    sym (take-between s.bytes.now s.from s.to c.args.count fits)
