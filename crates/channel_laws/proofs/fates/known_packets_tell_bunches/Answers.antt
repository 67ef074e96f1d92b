use Rattle.channel_laws.proofs.Known.{arrived_is, due_is, arrived_not_due}
use Rattle.channel_laws.proofs.fates.known_packets_tell_bunches.Goals as goal

pub returns : goal.returns
returns c = record { arrived = arrived_is; due = due_is; once = arrived_not_due }
