use Rattle.actor_copies.proofs.Knowing.{class_known, channel_known}
use Rattle.actor_copies.proofs.laws.actors_are_known.Goals as goal

pub returns-clause-class : goal.returns-clause-class
returns-clause-class c = λ layout copies past a stands. class_known layout copies past a stands.shows

pub returns-clause-channel : goal.returns-clause-channel
returns-clause-channel c = λ layout copies past a stands. channel_known layout copies past a stands.shows
