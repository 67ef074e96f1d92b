use Rattle.std.proofs.Common.{◌≤◌, ◌+◌, length, string_bytes}
use Rattle.packet_text.proofs.Lines.{IsPart}
use Rattle.packet_text.proofs.file.show.Given as goal

-- so far each line was a packet, whose text was written
abbrev pub invariant-loop-rest : goal.invariant-loop-rest
invariant-loop-rest l =
    (l.number + length l.rest ≤ length l.file + 1) × IsPart l.version l.file l.number l.rest (string_bytes l.text)

abbrev pub decreases-loop-rest : goal.decreases-loop-rest
decreases-loop-rest l = length l.rest
