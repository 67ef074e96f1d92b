use Rattle.bit_io.proofs.numbers.+packed_at.Given as goal

abbrev pub decreases-packed_at : goal.decreases-packed_at
decreases-packed_at l = l.groups
