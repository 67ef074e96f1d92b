use Rattle.std.proofs.Common.{◌≡◌, ◌∙◌, ℕ, ◌==◌, ◌&&◌, Bool, false, ap, sym, Option, unwrap_or}
use Rattle.std.specs.Prelude.{option_map}
use Rattle.connection_model.specs.Feed.{Past}
use Rattle.connection_model.specs.State.{ActorState, state_of, is_asleep}
use Rattle.change_model.specs.Changes.{Sample}
use Rattle.sender_records.specs.declared.actor.ActorRecord.{ActorRecord}
use Rattle.sender_records.specs.Life.{state_value}
use Rattle.sender_records.specs.Actors.{KeepsActor}
use Rattle.sender_steps.specs.States.{is_quiet_as}
use Rattle.std.proofs.Common.{List}
use Rattle.actor_sender.proofs.sender.ActorSender.quiet.Goals as goal

-- whether a record is quiet
abbrev by_record : (dormant : Bool) (flush : ℕ) → ActorRecord → Bool
by_record dormant flush r = is_asleep (state_value r.life.state) && dormant && unwrap_or
    (option_map (λ (kept : ℕ). kept == flush) r.life.flush) false

quiet_by : (past : Past) (samples : List Sample) (a : ℕ) (dormant : Bool) (flush : ℕ) (r : ActorRecord)
    → KeepsActor past samples a r
    → by_record dormant flush r ≡ is_quiet_as past a dormant flush
quiet_by past samples a dormant flush r k =
    ap (λ (s : ActorState). is_asleep s && dormant && unwrap_or
    (option_map (λ (kept : ℕ). kept == flush) r.life.flush) false) k.life.state
    ∙ ap (λ (f : Option ℕ). is_asleep (state_of past a) && dormant && unwrap_or
    (option_map (λ (kept : ℕ). kept == flush) f) false) k.life.flush

pub returns-in-Some : goal.returns-in-Some
returns-in-Some c = λ past samples h.
    c.is_quiet.ensures ∙ ap (by_record c.args.dormant c.args.flush) c.in-Some.ensures
    ∙ quiet_by past _ c.args.actor c.args.dormant c.args.flush _ (h.each c.args.actor)

pub returns-in-None : goal.returns-in-None
returns-in-None c = λ past samples h.
    ap (by_record c.args.dormant c.args.flush) c.in-None.ensures
    ∙ quiet_by past _ c.args.actor c.args.dormant c.args.flush _ (h.each c.args.actor)
