use Rattle.std.proofs.Common.{◌≡◌, ◌∙◌, ◌≤◌, length, ap, sym, subst, arith, Option, Some}
use Rattle.protocol_model.specs.Bits.{bytes_of}
use Rattle.bit_io.specs.Written.{Written}
use Rattle.link_end.specs.Link.{Begun}
use Rattle.link_end.specs.Begun.{all_bytes}
use Rattle.link_end.specs.Holds.{Holds}
use Rattle.link_end.proofs.PacketSteps.{holds_closed, few_whole, closed_most}
use Rattle.link_end.proofs.packets.Packets.close.Goals as goal

pub invariant_of-self-in-Some : goal.invariant_of-self-in-Some
invariant_of-self-in-Some c =
    let P : Option Written → Type 0 = λ o. Holds c.self.inside.first c.self.inside.whole.items c.self.inside.size o in
    let R : Begun → Type 0 = λ b. length (all_bytes b) ≤ 4096 in
    let current : c.self.inside.current ≡ Some c.in-Some.current = sym c.take.ensures.value ∙ c.in-Some.is in
    holds_closed c.self.inside.first c.self.inside.whole.items c.push.new.self.items c.self.inside.size
    c.len-size.result c.in-Some.current c.take.new.self _
    (subst P current c.self.invariant)
    (few_whole c.self.inside.whole.items c.self.inside.current c.in-Some.current current
    (subst R (sym c.self.view_is) c.requires))
    c.in_ok-push.ensures.items (omega (arith, c.len.ensures, c.self.inside.whole.ok.0)) (c.finish-bytes.ensures
    ∙ ap bytes_of c.put_bit.ensures.bits) c.len-size.ensures c.take.ensures.after

pub returns-in_ok-push-clause-most : goal.returns-in_ok-push-clause-most
returns-in_ok-push-clause-most c =
    let P : Option Written → Type 0 = λ o. Holds c.self.inside.first c.self.inside.whole.items c.self.inside.size o in
    let current : c.self.inside.current ≡ Some c.in-Some.current = sym c.take.ensures.value ∙ c.in-Some.is in
    closed_most c.self.inside.first c.self.inside.whole.items c.push.new.self.items c.self.inside.size
    c.in-Some.current _ c.args.self.now.whole
    (subst P current c.self.invariant) c.in_ok-push.ensures.items (c.finish-bytes.ensures
    ∙ ap bytes_of c.put_bit.ensures.bits)
    (ap (λ (b : Begun). b.whole) c.self.view_is)
