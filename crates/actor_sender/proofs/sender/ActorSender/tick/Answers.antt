use Rattle.std.proofs.Common.{◌≡◌, ◌⊎◌, ◌∙◌, inl, inr, ℕ, List, drop, length, ap, refl, subst, sym}
use Rattle.protocol_model.specs.Sight.{Seen}
use Rattle.connection_model.specs.Feed.{End, Past}
use Rattle.connection_model.specs.Pack.{after_packing, after_tick}
use Rattle.shadow_changes.specs.Samples.{Samples}
use Rattle.link_end.specs.Answers.{numbered, new_packets}
use Rattle.sender_steps.specs.Sights.{sight_value}
use Rattle.sender_steps.specs.Stands.{Stands}
use Rattle.actor_sender.specs.Given.{IsGiven}
use Rattle.actor_sender.proofs.Told.{begins_of, sends_as_shown, stands_as_shown}
use Rattle.actor_sender.proofs.sender.ActorSender.tick.Goals as goal

pub send-requires : goal.send-requires
send-requires c = elim c.requires [
  | inl spent ↦ inl spent
  | inr r ↦ inr (
    r.0,
    r.1,
    r.3,
    begins_of c.args.self.now c.args.link.now c.args.table.now c.args.classes.now c.args.changes.now c.args.sight.now
        r.0 r.1 r.2 r.3 r.4 r.5,
    r.5.made,
  )
]

pub returns-in-Ok-clause-sent : goal.returns-in-Ok-clause-sent
returns-in-Ok-clause-sent c = λ end past before samples shown h.
    c.in-Ok.ensures.sent end past samples
    (begins_of c.args.self.now c.args.link.now c.args.table.now c.args.classes.now c.args.changes.now c.args.sight.now
    end past before samples shown h)
    ∙ sends_as_shown c.args.self.now c.args.link.now c.args.table.now c.args.classes.now c.args.changes.now
    c.args.sight.now end past before samples shown h

pub returns-in-Ok-clause-stands : goal.returns-in-Ok-clause-stands
returns-in-Ok-clause-stands c = λ end past before samples shown h.
    stands_as_shown c.args.self.now c.args.link.now c.args.table.now c.args.classes.now c.args.changes.now
    c.args.sight.now end past before samples shown h c.send.new.self c.send.new.link c.send.new.table
    (c.in-Ok.ensures.stands end past samples
    (begins_of c.args.self.now c.args.link.now c.args.table.now c.args.classes.now c.args.changes.now c.args.sight.now
    end past before samples shown h))
