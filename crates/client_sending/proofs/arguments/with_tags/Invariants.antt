use Rattle.client_sending.proofs.Fitting.{Tagging}
use Rattle.client_sending.proofs.arguments.with_tags.Given as goal

abbrev pub invariant-loop-kind : goal.invariant-loop-kind
invariant-loop-kind l =
    Tagging l.kinds l.args l.list l.kind-iterator.a.rest.now l.kind-iterator.b.rest.now
