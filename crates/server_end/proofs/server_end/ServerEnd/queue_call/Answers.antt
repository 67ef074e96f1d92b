use Rattle.std.proofs.Common.{◌∷◌, refl, sym, ap, ◌∙◌}
use Rattle.protocol_model.specs.Side.{AtServer}
use Rattle.protocol_model.specs.Payload.{Calls, Message}
use Rattle.connection_model.specs.Feed.{Waits}
use Rattle.channel_table.specs.Channels.{Channels}
use Rattle.channel_laws.proofs.Alike.{alike_waits}
use Rattle.server_end.proofs.CallAnswers.{few_is, table_waits, waiting_ignored}
use Rattle.server_end.proofs.server_end.ServerEnd.queue_call.Goals as goal

pub returns-then-branch-clause-stands : goal.returns-then-branch-clause-stands
returns-then-branch-clause-stands c = λ end past samples call args h bits.
    let m : Message = Calls c.args.actor c.args.number call args in
    let new = c.in_ok-queue.ensures.kept c.if-branch.true in
    let few = sym (few_is past c.args.self.now.table.waiting h.table.waiting) ∙ sym c.in_ok-queue.ensures.full
    ∙ c.if-branch.true in
    rw few (record {
      sender = c.alike_is_unseen.ensures _ past (Waits m ∷ past) samples
          (record { done = refl; moved = refl }) h.sender;
      link = c.waiting_is_unseen.ensures _ end past m h.link;
      table = table_waits _ _ past m
          (record { actor = c.args.actor; call = c.args.number; bits = c.args.payload }) h.table
          (c.alike_is_unseen-2.ensures _ AtServer past (Waits m ∷ past) (alike_waits m past)
          (record { received = λ ch. refl; channels = refl; handed = refl })
          (waiting_ignored c.args.self.now.table _ _ past new h.table.bunches))
          (ap (λ (t : Channels). t.bound) new) (ap (λ (t : Channels). t.waiting) new)
          (ap (λ p. record { actor = c.args.actor; call = c.args.number; bits = p }) (sym bits)) (λ a. refl);
    })
