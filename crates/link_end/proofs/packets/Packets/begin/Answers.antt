use Rattle.std.proofs.Common.{◌≡◌, ◌∙◌, ◌%◌, ◌++◌, List, Bool, length, ap, arith}
use Rattle.protocol_model.specs.Packet.{start_bits}
use Rattle.bit_io.specs.HeadOf.{head_of}
use Rattle.link_end.proofs.PacketSteps.{holds_begun, start_length}
use Rattle.link_end.proofs.packets.Packets.begin.Goals as goal

pub invariant_of-self : goal.invariant_of-self
invariant_of-self c =
    let start : List Bool = start_bits c.args.version (c.args.number % 16384) (head_of c.args.head) in
    let empty : length c.in_ok-next.next.bits ≡ 0 = ap length c.in_ok-next.ensures.empty in
    let bits : length c.put_start.new.w.bits ≡ length start =
    ap length (c.put_start.ensures.bits ∙ ap (λ (l : List Bool). l ++ start) c.in_ok-next.ensures.empty) in
    holds_begun c.self.inside.first c.self.inside.whole.items c.self.inside.size c.self.inside.current
    c.put_start.new.w c.self.invariant
    (omega (arith, bits, start_length c.args.version (c.args.number % 16384) (head_of c.args.head) c.requires.head))
    (omega (arith, bits, empty, c.put_start.ensures.spare, c.in_ok-next.ensures.room))
