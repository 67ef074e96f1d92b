use Rattle.std.proofs.Common.{◌≡◌, arith, zero, suc, ℕ, refl, replicate}
use Rattle.protocol_laws.specs.Packed.{number_of_bytes}
use Rattle.protocol_model.specs.Bits.{digits}
use Rattle.bit_io.proofs.writer.BitWriter.with_room.Goals as goal

number_of_bytes-replicate : (n : ℕ) → number_of_bytes (replicate n 0) ≡ 0
number_of_bytes-replicate zero = refl
number_of_bytes-replicate (suc n) = rw (number_of_bytes-replicate n) refl

pub invariant_of-result : goal.invariant_of-result
invariant_of-result c =
    let e = c.in_ok-vec.ensures.items_if_clones_equal (λ y h. h) in
    record { within = omega arith; small = omega (arith, c.in_ok-vec.ensures.len); clear = rw (e, number_of_bytes-replicate _) (omega arith) }

pub returns-clause-empty : goal.returns-clause-empty
unfolding digits
returns-clause-empty c = refl
