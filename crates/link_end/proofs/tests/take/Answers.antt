use Rattle.link_end.proofs.Trials.{idle_may, taken_idles, ok_no_err}
use Rattle.link_end.proofs.tests.take.Goals as goal

pub take-requires : goal.take-requires
take-requires c = idle_may c.args.link.now c.requires

pub returns-in-None : goal.returns-in-None
returns-in-None c =
    taken_idles c.args.link.now c.take.new.self c.args.bytes.now c.in_ok-arrival.arrival c.requires
    (λ s. ok_no_err _ _ (c.in_ok-arrival.ensures.after s))
    c.in_ok-arrival.ensures.answer c.in_ok-arrival.ensures.stands c.in-None.is
