use Rattle.std.proofs.Common.{◌≡◌, ◌∙◌, ap, arith, length, get_or}
use Rattle.std.proofs.lemmas.List.Folds.{length-flat_map-take}
use Rattle.protocol_model.specs.Packet.{rec_bits, is_rec}
use Rattle.packet_codec.specs.Values.{rec_of}
use Rattle.packet_codec.specs.declared.packet.Rec.{Rec}
use Rattle.packet_codec.proofs.Puts.{list_all-get, length_more}
use Rattle.packet_codec.proofs.sizes.entries_bits.Goals as goal

pub entry_bits-bits-requires : goal.entry_bits-bits-requires
entry_bits-bits-requires c =
    ap (λ (r : Rec). is_rec c.args.version (rec_of r)) c.rec-item.is
    ∙ list_all-get (λ (r : Rec). is_rec c.args.version (rec_of r)) c.args.recs.now c.loop-rec.rec-index c.rec-item.result c.requires.recs c.loop-rec-test.true

pub overflow_add-bits : goal.overflow_add-bits
overflow_add-bits c =
    let item : length (rec_bits c.args.version (rec_of c.rec-item.result)) ≡ length (rec_bits c.args.version (rec_of (get_or c.args.recs.now c.loop-rec.rec-index c.rec-item.result))) = ap (λ (r : Rec). length (rec_bits c.args.version (rec_of r))) c.rec-item.is in
    let within = length-flat_map-take (λ (r : Rec). rec_bits c.args.version (rec_of r)) c.args.recs.now c.loop-rec.rec-index c.rec-item.result c.loop-rec-test.true in
    omega (arith, c.loop-rec.invariant, c.entry_bits-bits.ensures, c.requires.few, item, within)

pub loop-rec-preserved : goal.loop-rec-preserved
loop-rec-preserved c =
    let item : length (rec_bits c.args.version (rec_of c.rec-item.result)) ≡ length (rec_bits c.args.version (rec_of (get_or c.args.recs.now c.loop-rec.rec-index c.rec-item.result))) = ap (λ (r : Rec). length (rec_bits c.args.version (rec_of r))) c.rec-item.is in
    let more = length_more (λ (r : Rec). rec_bits c.args.version (rec_of r)) c.args.recs.now c.loop-rec.rec-index c.rec-item.result c.loop-rec-test.true in
    omega (arith, c.loop-rec.invariant, c.entry_bits-bits.ensures, item, more)
