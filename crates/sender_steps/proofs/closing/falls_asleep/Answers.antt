use Rattle.std.proofs.Common.{◌≡◌, ◌∙◌, ℕ, Bool, ◌&&◌, ap, sym, subst, Option, option_map}
use Rattle.std.specs.Option.{option_copied}
use Rattle.protocol_model.specs.Side.{AtServer}
use Rattle.connection_model.specs.Settled.{is_settled_as}
use Rattle.connection_model.specs.Pack.{is_shown}
use Rattle.sender_records.specs.Actors.{KeepsActor}
use Rattle.sender_steps.specs.declared.sight.Seen.{Seen}
use Rattle.sender_steps.specs.Closing.{IsEntry}
use Rattle.sender_steps.specs.Sights.{seen_value}
use Rattle.sender_steps.proofs.closing.falls_asleep.Goals as goal

pub returns-then-seen : goal.returns-then-seen
returns-then-seen c = λ past samples actor k t entry.
    let same : c.in-Some.seen.now.actor ≡ actor = subst (IsEntry actor) (ap option_copied c.in-Some.is) entry in
    c.is_settled.ensures AtServer past samples (subst (λ (x : ℕ). KeepsActor past samples x c.args.kept.now)
    (sym same) k) t
    ∙ ap (λ (b : Bool). b && is_settled_as past (seen_value c.args.classes.now c.in-Some.seen.now)) (sym c.if-seen.true)
    ∙ ap (λ (o : Option Seen). is_shown (λ s. s.dormant && is_settled_as past s)
    (option_map (seen_value c.args.classes.now) o)) (sym (ap option_copied c.in-Some.is))
