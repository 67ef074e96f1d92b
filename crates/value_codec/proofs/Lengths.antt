-- How many bits a spelling has, for the search of `get_value`'s proof.
use Rattle.protocol_laws.proofs.Digits.{length-digits}
use Rattle.protocol_laws.proofs.Lengths.{length-signed}

pub ruleset spelled_lengths = (length-digits, length-signed)
