use Rattle.std.proofs.Common.{◌∷◌, length, refl, sym, ap, ◌∙◌, arith}
use Rattle.protocol_model.specs.Side.{AtClient}
use Rattle.protocol_model.specs.Payload.{Calls, Message}
use Rattle.connection_model.specs.Feed.{Waits}
use Rattle.channel_table.specs.Channels.{Channels}
use Rattle.channel_laws.proofs.Alike.{alike_waits}
use Rattle.client_sending.proofs.Making.{few_is, below, call_waits, waiting_ignored}
use Rattle.client_sending.proofs.room.queue_call.Goals as goal

pub returns-then-branch-clause-stands : goal.returns-then-branch-clause-stands
returns-then-branch-clause-stands c = λ l end past call args h bits.
    let m : Message = Calls c.args.actor c.args.number call args in
    let new = c.in_ok-queue.ensures.kept c.if-branch.true in
    let few = sym (few_is past c.args.table.now.waiting h.table.waiting) ∙ sym c.in_ok-queue.ensures.full
    ∙ c.if-branch.true in
    rw few
    (call_waits l c.args.table.now c.queue.new.self end past m
    (record { actor = c.args.actor; call = c.args.number; bits = c.args.payload }) h
    (omega (arith, c.requires.most, ap length bits)) (below _ _ few)
    (c.waiting_is_unseen.ensures l end past m h.link)
    (c.alike_is_unseen.ensures c.queue.new.self AtClient past (Waits m ∷ past) (alike_waits m past)
    (record { received = λ ch. refl; channels = refl; handed = refl })
    (waiting_ignored c.args.table.now c.queue.new.self _ past new h.table.bunches))
    (ap (λ (t : Channels). t.bound) new) (ap (λ (t : Channels). t.waiting) new)
    (ap (λ p. record { actor = c.args.actor; call = c.args.number; bits = p }) (sym bits)))
