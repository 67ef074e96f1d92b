use Rattle.std.proofs.Common.{not, sym, ap, subst, ◌∙◌}
use Rattle.protocol_model.specs.Side.{AtClient}
use Rattle.connection_model.specs.Items.{loose_item}
use Rattle.connection_model.specs.Pack.{Packing}
use Rattle.bunch_packing.specs.Both.{PacksBoth}
use Rattle.client_sending.proofs.Waiting.{none_called, one_called, room_told}
use Rattle.client_sending.proofs.ticks.offer_call.Goals as goal

pub returns-in_default-clause-room : goal.returns-in_default-clause-room
returns-in_default-clause-room c = λ t end before p message h ready bits e.
    sym (ap not (ap (λ (q : Packing). q.full) (none_called end p message (sym e ∙ c.in_default.is)) ∙ ready))

pub returns-in_default-clause-packs : goal.returns-in_default-clause-packs
returns-in_default-clause-packs c = λ t end before p message h bits e.
    subst (PacksBoth c.args.link.now t end AtClient before)
    (sym (none_called end p message (sym e ∙ c.in_default.is))) h

pub returns-clause-room : goal.returns-clause-room
returns-clause-room c = λ t end before p message h ready bits e.
    let called = one_called end p message c.in-Some.channel (sym e ∙ c.in-Some.is) in
    c.is_some.ensures
    ∙ room_told end p (loose_item message c.in-Some.channel) c.in_ok-packet.packet ready
    (c.in_ok-packet.ensures.packet t end AtClient before p message h bits)
    ∙ ap (λ (q : Packing). not q.full) (sym called)

pub returns-clause-packs : goal.returns-clause-packs
returns-clause-packs c = λ t end before p message h bits e.
    let called = one_called end p message c.in-Some.channel (sym e ∙ c.in-Some.is) in
    subst (PacksBoth c.offer_loose.new.link t end AtClient before) (sym called)
    (c.in_ok-packet.ensures.packs t end AtClient before p message h bits)
