use Rattle.client_payloads.proofs.ExportSteps.{LearntSoFar}
use Rattle.client_payloads.proofs.exports.segments.Given as goal

abbrev pub invariant-loop : goal.invariant-loop
invariant-loop l = LearntSoFar l.fn.reader l.reader l.fn.names l.names l.count l.counter
