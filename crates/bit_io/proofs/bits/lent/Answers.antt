use Rattle.std.proofs.Common.{◌≡◌, ◌-◌, ◌/◌, ap, ◌∙◌, arith}
use Rattle.protocol_model.specs.Bits.{digits}
use Rattle.protocol_laws.specs.Packed.{number_of_bytes}
use Rattle.bit_io.proofs.Places.{between-is}
use Rattle.bit_io.proofs.bits.lent.Goals as goal

pub returns : goal.returns
returns c =
    let n = number_of_bytes c.args.bytes.now in
    let all : c.args.len - 0 ≡ c.args.len = omega arith in
    let one : n / 1 ≡ n = omega arith in
    between-is c.args.bytes.now 0 c.args.len (λ i. omega (arith, c.type_inv.bytes i)) (omega arith) c.requires.within ∙ ap (λ k. digits k (n / 1)) all ∙ ap (digits c.args.len) one
