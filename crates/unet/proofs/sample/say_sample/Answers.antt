use Rattle.std.proofs.Common.{IfOk, subst}
use Rattle.unet.specs.Ends.{EndsWith}
use Rattle.unet.specs.Outcome.{Outcome}
use Rattle.unet.proofs.Answered.{done_sample}
use Rattle.unet.proofs.sample.say_sample.Goals as goal

pub returns-clause-status : goal.returns-clause-status
returns-clause-status g c =
    done_sample c.args.ticks c.tell.result _ _
    (subst (λ (o : Outcome). IfOk c.tell.result (λ status. EndsWith o status (g.S.Sink.taken c.args.out.now) (g.S.Sink.taken c.tell.new.out)))
    c.in_ok-said.ensures c.tell.ensures.done)
