use Rattle.std.proofs.Common.{◌≡◌, ◌∙◌, Bool, true, false, ap, sym, refl}
use Rattle.std.proofs.lemmas.Bool.{false≢true}
use Rattle.std.specs.Bool.{then_some}
use Rattle.connection_model.specs.State.{state_of, is_opened}
use Rattle.shadow_changes.specs.Samples.{samples_of}
use Rattle.sender_steps.specs.Sights.{seen_value}
use Rattle.sender_steps.proofs.Settling.{opened_there}
use Rattle.sender_turns.proofs.Finding.{turn_as, opened_turn, unopened_turn}
use Rattle.sender_turns.proofs.turns.own_turn.Goals as goal

pub returns-then-is_opened-clause-turn : goal.returns-then-is_opened-clause-turn
returns-then-is_opened-clause-turn c = λ layout past samples class relevant ready.
    let there = opened_there past (samples_of samples c.args.seen.now.actor) c.args.seen.now.actor c.args.kept.now
    ready.keeps
    (sym c.is_opened.ensures ∙ c.if-is_opened.true) in
    let compared = c.in_ok-compare.ensures.compared layout past samples class ready.noted (ready.before there.1)
    (ready.values relevant there.1) there.0 in
    record {
      keeps = record {
        life = ready.keeps.life;
        service = ready.keeps.service;
        handles = λ o. c.in_ok-compare.ensures.keeps past samples ready.noted ready.ticks
            (ready.values relevant there.1) there.0;
      };
      compared = λ r o. compared;
      found = c.turn_if.ensures layout past class ready.keeps.service ready.ticks
          ∙ ap (λ (b : Bool). then_some b (turn_as layout past c.args.place c.args.seen.now false))
          (c.has_marked-due.ensures layout class)
          ∙ sym (opened_turn layout past c.args.place c.args.seen.now c.compare.new.handles relevant there.1
          compared.due);
    }

pub returns-clause-turn : goal.returns-clause-turn
returns-clause-turn c = λ layout past samples class relevant ready.
    let unopened : is_opened (state_of past c.args.seen.now.actor) ≡ false = ap is_opened (sym ready.keeps.life.state)
    ∙ sym c.is_opened.ensures ∙ c.if-is_opened.false in
    record {
      keeps = ready.keeps;
      compared = λ r o. absurd (false≢true (sym unopened ∙ o));
      found = c.turn_if-2.ensures layout past class ready.keeps.service ready.ticks
          ∙ ap (λ (b : Bool). then_some b (turn_as layout past c.args.place c.args.seen.now true))
          (c.wants_open-opens.ensures past (seen_value layout c.args.seen.now) ready.keeps.life refl refl)
          ∙ sym (unopened_turn layout past c.args.place c.args.seen.now relevant unopened);
    }

pub returns-then-is_opened-clause-packets : goal.returns-then-is_opened-clause-packets
returns-then-is_opened-clause-packets c = λ layout past samples relevant ready.
    let there = opened_there past (samples_of samples c.args.seen.now.actor) c.args.seen.now.actor c.args.kept.now
    ready.keeps
    (sym c.is_opened.ensures ∙ c.if-is_opened.true) in
    c.in_ok-compare.ensures.packets ((ready.values relevant there.1).0)
