use Rattle.std.proofs.Common.{◌≡◌, ◌∙◌, ap, arith, length, get_or}
use Rattle.std.proofs.lemmas.List.Folds.{length-flat_map-take}
use Rattle.protocol_model.specs.Packet.{rec_bits, is_rec}
use Rattle.packet_codec.specs.Values.{rec_of}
use Rattle.packet_codec.specs.declared.packet.Rec.{Rec}
use Rattle.packet_codec.proofs.Puts.{list_all-get}
use Rattle.packet_codec.proofs.write.put_recs.Goals as goal

pub put_rec-requires-clause-rec : goal.put_rec-requires-clause-rec
put_rec-requires-clause-rec c =
    ap (λ (r : Rec). is_rec c.args.version (rec_of r)) c.rec-item.is
    ∙ list_all-get (λ (r : Rec). is_rec c.args.version (rec_of r)) c.args.recs.now c.loop-rec.rec-index c.rec-item.result c.requires.recs c.loop-rec-test.true

pub put_rec-requires-clause-room : goal.put_rec-requires-clause-room
put_rec-requires-clause-room c =
    let put = c.loop-rec.invariant.spare in
    let room = c.requires.room in
    let item : length (rec_bits c.args.version (rec_of c.rec-item.result)) ≡ length (rec_bits c.args.version (rec_of (get_or c.args.recs.now c.loop-rec.rec-index c.rec-item.result))) = ap (λ (r : Rec). length (rec_bits c.args.version (rec_of r))) c.rec-item.is in
    let within = length-flat_map-take (λ (r : Rec). rec_bits c.args.version (rec_of r)) c.args.recs.now c.loop-rec.rec-index c.rec-item.result c.loop-rec-test.true in
    omega (arith, put, room, item, within)
