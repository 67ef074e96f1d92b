use Rattle.headline_laws.proofs.PacketsSpelled.{end_fits, packets_spell, packets_read}
use Rattle.connection_model.specs.Past.{past_of}
use Rattle.headline_laws.proofs.packets.every_packet_spells.Goals as goal

pub returns : goal.returns
returns c = record {
  fits = λ end entries feed is t e. end_fits end entries is t feed e;
  spells = λ end entries feed k p is t e h. packets_spell end (past_of end feed) k p (end_fits end entries is t feed e) h;
  read = λ end entries feed k p is t e h. packets_read end (past_of end feed) k p (end_fits end entries is t feed e) h;
}
