use Rattle.std.proofs.Common.{not, sym, ap, subst, ◌∙◌}
use Rattle.protocol_model.specs.Side.{AtServer}
use Rattle.connection_model.specs.Items.{loose_item}
use Rattle.connection_model.specs.Pack.{Packing}
use Rattle.bunch_packing.specs.Both.{PacksBoth}
use Rattle.sender_turns.proofs.Waiting.{none_called, one_called, room_told}
use Rattle.sender_turns.proofs.calls.offer_call.Goals as goal

pub returns-in_default-clause-packs : goal.returns-in_default-clause-packs
returns-in_default-clause-packs c = λ t end before p message h is bits e.
    subst (PacksBoth c.args.link.now t end AtServer before)
    (sym (none_called end p message c.args.actor is (sym e ∙ sym c.in_default.ensures))) h

pub returns-clause-room : goal.returns-clause-room
returns-clause-room c = λ t end before p message h ready is bits e.
    let called = one_called end p message c.args.actor c.in-Some.index is (sym e ∙ sym c.in-Some.ensures) in
    c.is_some.ensures
    ∙ room_told end p (loose_item message c.in-Some.index) c.in_ok-packet.packet ready
    (c.in_ok-packet.ensures.packet t end AtServer before p message h bits)
    ∙ ap (λ (q : Packing). not q.full) (sym called)

pub returns-clause-packs : goal.returns-clause-packs
returns-clause-packs c = λ t end before p message h is bits e.
    let called = one_called end p message c.args.actor c.in-Some.index is (sym e ∙ sym c.in-Some.ensures) in
    subst (PacksBoth c.offer_loose.new.link t end AtServer before) (sym called)
    (c.in_ok-packet.ensures.packs t end AtServer before p message h bits)
