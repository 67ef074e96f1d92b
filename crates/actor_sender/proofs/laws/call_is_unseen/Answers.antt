use Rattle.sender_steps.proofs.Unseen.{call_keeps}
use Rattle.actor_sender.proofs.laws.call_is_unseen.Goals as goal

pub returns : goal.returns
returns c = λ s past samples ch actor number call args held apart k. call_keeps s past samples ch actor number call
    args held apart k
