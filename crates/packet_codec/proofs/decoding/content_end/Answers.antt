use Rattle.std.proofs.Common.{◌-◌, sym, length, arith}
use Rattle.std.proofs.lemmas.Option.{get_or_from_slice_get}
use Rattle.packet_codec.proofs.ContentEnd.{content_ends}
use Rattle.packet_codec.proofs.decoding.content_end.Goals as goal

pub returns-clause-exact : goal.returns-clause-exact
returns-clause-exact c =
    let bytes = c.args.bytes.now in
    let last = c.in-Some.last.now in
    let fits = (c.type_inv.bytes (length bytes - 1)).fits in
    let is = get_or_from_slice_get bytes (length bytes - 1) last 0 (sym c.in-Some.ensures.value) in
    content_ends bytes last c.in-Some.ensures.value c.if-last-eq0.false (omega (arith, fits, is)) c.if-bytes-gt-PACKET_BYTES.false
