use Rattle.std.proofs.Common.{◌≡◌, List, Bool, [], ◌∷◌, ◌++◌, true, ◌∙◌, sym, ap, arith, length, map}
use Rattle.std.specs.List.{list_all}
use Rattle.std.proofs.lemmas.List.Folds.{list_all-map}
use Rattle.protocol_model.specs.Packet.{is_rec, start_bits}
use Rattle.protocol_model.specs.declared.Version.{Version}
use Rattle.protocol_laws.proofs.FieldLengths.{start_short}
use Rattle.bit_io.specs.HeadOf.{head_of}
use Rattle.packet_codec.specs.Values.{rec_of, are_recs, recs_bits}
use Rattle.packet_codec.specs.declared.packet.Rec.{Rec}
use Rattle.packet_codec.specs.declared.packet.Packet.{Packet}
use Rattle.packet_codec.proofs.Encoded.{encoded, total_fits}
use Rattle.packet_codec.proofs.write.encode.Goals as goal

recs_are : (version : Version) (p : Packet) (recs : List Rec) → recs ≡ p.recs → list_all (λ rec. is_rec version rec) (map rec_of p.recs) ≡ true → are_recs version recs ≡ true
recs_are version p recs e h = ap (λ (recs : List Rec). are_recs version recs) e ∙ sym (list_all-map (λ rec. is_rec version rec) rec_of p.recs) ∙ h

pub entries_bits-bits-requires : goal.entries_bits-bits-requires
entries_bits-bits-requires c =
    let fits = total_fits c.args.version c.args.p.now c.requires.spelled.size in
    let recs : length (recs_bits c.args.version c.as_slice-recs.result.now) ≡ length (recs_bits c.args.version c.args.p.now.recs) = ap (λ (recs : List Rec). length (recs_bits c.args.version recs)) c.as_slice-recs.ensures in
    record {
      recs = recs_are c.args.version c.args.p.now c.as_slice-recs.result.now c.as_slice-recs.ensures c.requires.spelled.recs;
      few = omega (arith, fits, recs);
    }

pub overflow_add-bits : goal.overflow_add-bits
overflow_add-bits c =
    let fits = total_fits c.args.version c.args.p.now c.requires.spelled.size in
    let recs : length (recs_bits c.args.version c.as_slice-recs.result.now) ≡ length (recs_bits c.args.version c.args.p.now.recs) = ap (λ (recs : List Rec). length (recs_bits c.args.version recs)) c.as_slice-recs.ensures in
    omega (arith, fits, recs, c.entries_bits-bits.ensures)

pub put_recs-requires : goal.put_recs-requires
put_recs-requires c =
    let start = c.put_start.ensures.spare in
    let room = c.in_ok-w.ensures.room in
    let short = start_short c.args.version c.args.p.now.number (head_of c.args.p.now.head) c.requires.spelled.head in
    record {
      recs = recs_are c.args.version c.args.p.now c.as_slice-recs.result.now c.as_slice-recs.ensures c.requires.spelled.recs;
      room = omega (arith, start, room, short, c.entries_bits-bits.ensures);
    }

pub put_bit-requires : goal.put_bit-requires
put_bit-requires c =
    let start = c.put_start.ensures.spare in
    let room = c.in_ok-w.ensures.room in
    let short = start_short c.args.version c.args.p.now.number (head_of c.args.p.now.head) c.requires.spelled.head in
    let put = c.put_recs.ensures.spare in
    omega (arith, start, room, short, put, c.entries_bits-bits.ensures)

pub returns-clause-spelling : goal.returns-clause-spelling
returns-clause-spelling c =
    let start : List Bool = start_bits c.args.version c.args.p.now.number (head_of c.args.p.now.head) in
    let bits : c.put_bit.new.self.bits ≡ start ++ recs_bits c.args.version c.args.p.now.recs ++ true ∷ [] =
    c.put_bit.ensures.bits ∙ ap (λ (z : List Bool). z ++ true ∷ []) (c.put_recs.ensures.bits
    ∙ ap (λ (recs : List Rec). c.put_start.new.w.bits ++ recs_bits c.args.version recs) c.as_slice-recs.ensures
    ∙ ap (λ (z : List Bool). z ++ recs_bits c.args.version c.args.p.now.recs) (c.put_start.ensures.bits ∙ ap (λ (z : List Bool). z ++ start) c.in_ok-w.ensures.empty)) in
    c.finish.ensures ∙ encoded c.args.version c.args.p.now c.put_bit.new.self.bits bits

pub returns-clause-spells : goal.returns-clause-spells
returns-clause-spells c =
    let spelled = c.requires.spelled in
    let is = returns-clause-spelling c in
    record {
      number = spelled.number;
      head = spelled.head;
      recs = spelled.recs;
      spelling = is;
      size = let size = spelled.size in omega (arith, ap length is, size);
    }
