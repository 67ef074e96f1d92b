use Rattle.std.proofs.Common.{◌∙◌}
use Rattle.packet_text.proofs.Words.{not_hex_is, no_packet_is}
use Rattle.packet_text.proofs.refused.refused_text.Goals as goal
use Rattle.packet_text.proofs.refused.refused_text.Goals.{in-NotHex+in_ok-text-in-NotHex, in-NoPacket+in_ok-text-in-NoPacket}

pub returns : goal.returns
returns c = elim c.match-fault.branch [
  | in-NotHex+in_ok-text-in-NotHex w ↦ rw (w.text-is, w.in-NotHex.is) (not_hex_is _ c.args.line w.in_ok-text-in-NotHex.ensures.ok)
  | in-NoPacket+in_ok-text-in-NoPacket w ↦
      rw (w.text-is, w.in-NoPacket.is)
      (no_packet_is _ c.args.line w.in-NoPacket.at w.in-NoPacket.why
      (rw w.why_word-why.ensures at w.in_ok-text-in-NoPacket.ensures.ok))
]
