use Rattle.std.proofs.Common.{◌++◌, List, Bool, arith, length, sym, subst}
use Rattle.protocol_model.specs.Bits.{int_bits}
use Rattle.protocol_model.specs.Packet.{channel_bits}
use Rattle.bit_io.specs.Written.{Appends}
use Rattle.packet_codec.specs.Values.{bunch_of}
use Rattle.protocol_laws.specs.Parts.{control_bits, standing_bits, numbered_bits}
use Rattle.protocol_laws.proofs.FieldLengths.{bunch_length}
use Rattle.packet_codec.proofs.Puts.{appends_five}
use Rattle.protocol_laws.proofs.BunchBack.{bunch_bits-parts, rules_of}
use Rattle.packet_codec.proofs.write.put_bunch.Goals as goal

pub put_channel-requires-clause-room : goal.put_channel-requires-clause-room
put_channel-requires-clause-room c = let whole = bunch_length c.args.version (bunch_of c.args.b.now) in let room = c.requires.room in let a = c.put_control.ensures.spare in omega (arith, whole, room, a)

pub put_numbered-requires-clause-room : goal.put_numbered-requires-clause-room
put_numbered-requires-clause-room c =
    let whole = bunch_length c.args.version (bunch_of c.args.b.now) in let room = c.requires.room in
    let p = c.put_control.ensures.spare in let q = c.put_channel.ensures.spare in let r = c.put_standing.ensures.spare in
    omega (arith, whole, room, p, q, r)

pub put_payload-requires-clause-size : goal.put_payload-requires-clause-size
put_payload-requires-clause-size c = let rules = rules_of c.args.version (bunch_of c.args.b.now) c.requires.bunch in rules.size

pub put_payload-requires-clause-room : goal.put_payload-requires-clause-room
put_payload-requires-clause-room c =
    let whole = bunch_length c.args.version (bunch_of c.args.b.now) in let room = c.requires.room in
    let p = c.put_control.ensures.spare in let q = c.put_channel.ensures.spare in let r = c.put_standing.ensures.spare in let s = c.put_numbered.ensures.spare in
    omega (arith, whole, room, p, q, r, s)

pub returns : goal.returns
returns c =
    let b = bunch_of c.args.b.now in
    subst (λ (bits : List Bool). Appends c.args.w.now c.put_payload.new.w bits) (sym (bunch_bits-parts c.args.version b))
    (appends_five c.args.w.now c.put_control.new.w c.put_channel.new.w c.put_standing.new.w c.put_numbered.new.w c.put_payload.new.w
    (control_bits b.opens b.closes b.sleeps b.reliable) (channel_bits c.args.version b.channel) (standing_bits b.exports b.part) (numbered_bits b.reliable b.seq b.part b.kind) (int_bits 8192 (length b.payload) ++ b.payload)
    c.put_control.ensures c.put_channel.ensures c.put_standing.ensures c.put_numbered.ensures c.put_payload.ensures)
