use Rattle.std.proofs.Common.{◌≡◌, ◌+◌, ◌-◌, ◌*◌, ◌^◌, ◌/◌, ◌%◌, ap, arith, length}
use Rattle.std.proofs.lemmas.Nat.{mod_below, pow_pos}
use Rattle.protocol_laws.specs.Packed.{number_of_bytes}
use Rattle.bit_io.specs.Written.{Written}
use Rattle.bit_io.specs.Between.{bits_between}
use Rattle.bit_io.specs.Lent.{slice_bits}
use Rattle.bit_io.proofs.Places.{length-between}
use Rattle.bit_io.proofs.PutSteps.{put_clear, put_appends}
use Rattle.bit_io.proofs.writer.BitWriter.put_slice.Goals as goal

pub add_slice-requires-clause-room : goal.add_slice-requires-clause-room
add_slice-requires-clause-room c =
    let s = c.args.slice in
    let count : length (slice_bits s) ≡ s.to - s.from = length-between s.bytes.now s.from s.to s.ordered s.within in
    let spare : 8 * length c.self.inside.bytes.items - c.self.inside.len ≡ c.args.self.now.spare = ap (λ (w : Written). w.spare) c.self.view_is in
    let within = c.self.invariant.within in
    omega (arith, count, within)

pub invariant_of-self : goal.invariant_of-self
invariant_of-self c =
    let s = c.args.slice in
    let count : length (slice_bits s) ≡ s.to - s.from = length-between s.bytes.now s.from s.to s.ordered s.within in
    let spare : 8 * length c.self.inside.bytes.items - c.self.inside.len ≡ c.args.self.now.spare = ap (λ (w : Written). w.spare) c.self.view_is in
    let within = c.self.invariant.within in
    let part = number_of_bytes s.bytes.now / 2 ^ s.from % 2 ^ (s.to - s.from) in
    put_clear c.self.inside.bytes.items _ c.self.inside.len part (s.to - s.from) c.self.invariant (omega (arith, count, within)) (mod_below _ _ (pow_pos (s.to - s.from))) c.add_slice.ensures.len c.add_slice.ensures.number

pub returns : goal.returns
returns c =
    let s = c.args.slice in
    let count : length (slice_bits s) ≡ s.to - s.from = length-between s.bytes.now s.from s.to s.ordered s.within in
    let spare : 8 * length c.self.inside.bytes.items - c.self.inside.len ≡ c.args.self.now.spare = ap (λ (w : Written). w.spare) c.self.view_is in
    let within = c.self.invariant.within in
    let part = number_of_bytes s.bytes.now / 2 ^ s.from % 2 ^ (s.to - s.from) in
    let whole : s.from + (s.to - s.from) ≡ s.to = omega (arith, s.ordered) in
    rw (← c.self.view_is, ← ap (bits_between s.bytes.now s.from) whole, ← c.add_slice.ensures.part)
    (put_appends c.self.inside.bytes.items _ c.self.inside.len part (s.to - s.from) c.self.invariant (omega (arith, count, within)) c.add_slice.ensures.len c.add_slice.ensures.number)
