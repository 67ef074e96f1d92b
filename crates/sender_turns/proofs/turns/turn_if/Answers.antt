use Rattle.std.proofs.Common.{◌∙◌, ℕ, Bool, ap, sym, Option, Some}
use Rattle.std.specs.Bool.{then_some}
use Rattle.protocol_model.specs.Value.{Class}
use Rattle.sender_turns.specs.declared.turns.Turn.{Turn}
use Rattle.sender_steps.specs.Sights.{seen_value}
use Rattle.sender_turns.proofs.Finding.{turn_as}
use Rattle.sender_turns.proofs.turns.turn_if.Goals as goal

pub returns : goal.returns
returns c = λ layout past class k ticks.
    ap (λ (n : ℕ). let o : Option Turn = Some (record {
      score = n;
      actor = c.args.seen.now.actor;
      place =
          c.args.place;
      opens = c.args.opens;
    }) in o)
    (c.score_of.ensures past (seen_value layout c.args.seen.now) k ticks (ap (λ (m : Class). m.priority) class))
    ∙ sym (ap (λ (b : Bool). then_some b (turn_as layout past c.args.place c.args.seen.now c.args.opens))
    c.if-not-has.false)
