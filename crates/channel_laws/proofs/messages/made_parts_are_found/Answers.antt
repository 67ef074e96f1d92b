use Rattle.channel_laws.proofs.Making.{made_part, made_before}
use Rattle.channel_laws.proofs.messages.made_parts_are_found.Goals as goal

pub returns : goal.returns
returns c = record { part = made_part; before = made_before }
