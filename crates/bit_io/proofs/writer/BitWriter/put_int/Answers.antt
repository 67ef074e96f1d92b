use Rattle.std.proofs.Common.{◌≡◌, ◌<◌, ◌-◌, ◌*◌, ◌^◌, ap, ◌∙◌, arith, length}
use Rattle.std.proofs.lemmas.Nat.{mod_below, pow_pos}
use Rattle.protocol_model.specs.Bits.{digits, int_bits}
use Rattle.bit_io.specs.Written.{Written}
use Rattle.protocol_laws.proofs.Digits.{digits-mod}
use Rattle.bit_io.proofs.PutSteps.{put_clear, put_appends}
use Rattle.bit_io.proofs.writer.BitWriter.put_int.Goals as goal

pub invariant_of-self : goal.invariant_of-self
invariant_of-self c =
    let k = c.width_of-width.result in
    let spare : 8 * length c.self.inside.bytes.items - c.self.inside.len ≡ c.args.self.now.spare = ap (λ (w : Written). w.spare) c.self.view_is in
    let small : c.low_bits.result < 2 ^ k = rw c.low_bits.ensures (mod_below _ _ (pow_pos k)) in
    put_clear c.self.inside.bytes.items _ c.self.inside.len c.low_bits.result k c.self.invariant (omega arith) small c.add_bits.ensures.len c.add_bits.ensures.number

pub returns : goal.returns
returns c =
    let k = c.width_of-width.result in
    let spare : 8 * length c.self.inside.bytes.items - c.self.inside.len ≡ c.args.self.now.spare = ap (λ (w : Written). w.spare) c.self.view_is in
    let put = put_appends c.self.inside.bytes.items _ c.self.inside.len c.low_bits.result k c.self.invariant (omega arith) c.add_bits.ensures.len c.add_bits.ensures.number in
    let bits : digits k c.low_bits.result ≡ int_bits c.args.max c.args.value = ap (digits k) c.low_bits.ensures ∙ digits-mod k c.args.value ∙ ap (λ j. digits j c.args.value) c.width_of-width.ensures.width in
    rw (← c.self.view_is, ← bits) put
