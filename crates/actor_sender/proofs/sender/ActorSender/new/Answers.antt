use Rattle.std.proofs.Common.{refl}
use Rattle.sender_steps.proofs.Fresh.{new_keeps}
use Rattle.actor_sender.proofs.sender.ActorSender.new.Goals as goal

pub returns : goal.returns
returns c = new_keeps _ c.new.ensures.empty c.new-4.ensures.items c.new-5.ensures.items c.new-6.ensures.items refl refl
