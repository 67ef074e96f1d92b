use Rattle.std.proofs.Common.{◌≡◌, ◌*◌, ◌/◌, ◌%◌, ◌^◌, arith}
use Rattle.std.proofs.lemmas.List.{get_or_read}
use Rattle.bit_io.proofs.Steps.{fits_byte, byte_clear, added}
use Rattle.bit_io.proofs.words.add_part.Goals as goal

pub overflow_cast-shifted : goal.overflow_cast-shifted
overflow_cast-shifted c =
    let r = c.requires in
    let f = fits_byte c.args.part c.args.count (c.args.place % 8) _ r.fits r.one_byte (byte_clear c.args.bytes.now.items c.args.place r.clear) in
    omega (arith, f)

pub overflow_add-index_mut : goal.overflow_add-index_mut
overflow_add-index_mut c =
    let r = c.requires in
    let f = fits_byte c.args.part c.args.count (c.args.place % 8) _ r.fits r.one_byte (byte_clear c.args.bytes.now.items c.args.place r.clear) in
    omega (arith, f, get_or_read c.args.bytes.now.items (c.args.place / 8) c.index_mut.result.now (omega arith) c.index_mut.ensures.value 0)

pub returns-clause-number : goal.returns-clause-number
returns-clause-number c =
    let r = c.requires in
    let f = fits_byte c.args.part c.args.count (c.args.place % 8) _ r.fits r.one_byte (byte_clear c.args.bytes.now.items c.args.place r.clear) in
    let whole : c.args.part * 2 ^ (c.args.place % 8) % 18446744073709551616 ≡ c.args.part * 2 ^ (c.args.place % 8) = omega (arith, f) in
    rw (whole, get_or_read c.args.bytes.now.items (c.args.place / 8) c.index_mut.result.now (omega arith) c.index_mut.ensures.value 0) (added c.args.bytes.now.items c.args.place c.args.part (omega arith))
