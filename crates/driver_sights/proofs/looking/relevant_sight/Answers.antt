use Rattle.std.proofs.Common.{◌≡◌, ℕ, ◌+◌, ◌≤◌, ◌&&◌, ◌||◌, List, length, get_or, map, take, Some, true, refl, ap, ◌∙◌, arith}
use Rattle.std.specs.Prelude.{slice_get}
use Rattle.std.proofs.lemmas.Option.{slice_get_read}
use Rattle.std.proofs.lemmas.List.{take_all}
use Rattle.protocol_model.specs.Search.{is_among}
use Rattle.protocol_model.specs.Sight.{is_relevant, seen_of}
use Rattle.class_layout.specs.Tables.{table_in}
use Rattle.sender_records.proofs.Writes.{take_step}
use Rattle.driver_laws.specs.Given.{shown_as}
use Rattle.driver_sights.specs.Noted.{is_noted}
use Rattle.driver_sights.specs.Looking.{IsMade, is_awake}
use Rattle.driver_sights.proofs.Walked.{item_at, one_seen, all_pushed, walked, among_now, more_steps, wider_steps, no_steps}
use Rattle.driver_sights.proofs.looking.relevant_sight.Goals as goal

pub see-requires : goal.see-requires
see-requires g c =
    let h = c.requires.looking in
    record {
      looking = (
        h.0,
        h.1,
        h.2,
        h.3,
        c.loop-actor.invariant.looking h.0 h.1 h.2 h.3 h.4 h.5,
        item_at (λ a. is_relevant (table_in c.args.world.now.layout) h.0 c.args.player a ≡ true)
            c.args.relevant.now c.loop-actor.actor-index c.actor-item.result h.5 there,
      );
    }
  where
    there : slice_get c.args.relevant.now c.loop-actor.actor-index ≡ Some c.actor-item.result
    there = slice_get_read c.args.relevant.now (length c.args.relevant.now) c.loop-actor.actor-index
        c.actor-item.result refl
        (let n = ap (λ (xs : List ℕ). length xs) c.as_slice-actor-items.ensures in
        let t = c.loop-actor-test.true in omega (n, t, arith))
        (c.actor-item.is ∙ ap (λ (xs : List ℕ). get_or xs c.loop-actor.actor-index c.actor-item.result)
        c.as_slice-actor-items.ensures)

pub loop-actor-preserved : goal.loop-actor-preserved
loop-actor-preserved g c = record {
  given = λ edits past kept samples look relevant.
      one_seen c.args.world.now.layout
      (λ a. shown_as past (seen_of (table_in c.args.world.now.layout) edits c.args.player a))
      c.loop-actor.sight.items _ c.in_ok-entry.entry (take c.loop-actor.actor-index c.args.relevant.now)
      (take (c.loop-actor.actor-index + 1) c.args.relevant.now) c.actor-item.result c.in_ok-push.ensures.items
      (take_step c.args.relevant.now c.loop-actor.actor-index c.actor-item.result there)
      (c.in_ok-entry.ensures.given edits past kept samples
      (c.loop-actor.invariant.looking edits past kept samples look relevant)
      (item_at (λ a. is_relevant (table_in c.args.world.now.layout) edits c.args.player a ≡ true) c.args.relevant.now
      c.loop-actor.actor-index c.actor-item.result relevant there))
      (c.loop-actor.invariant.given edits past kept samples look relevant);
  made = λ edits past kept samples look relevant.
      all_pushed (IsMade c.args.world.now.layout) c.loop-actor.sight.items _ c.in_ok-entry.entry
      c.in_ok-push.ensures.items (c.loop-actor.invariant.made edits past kept samples look relevant)
      (c.in_ok-entry.ensures.made edits past kept samples
      (c.loop-actor.invariant.looking edits past kept samples look relevant)
      (item_at (λ a. is_relevant (table_in c.args.world.now.layout) edits c.args.player a ≡ true) c.args.relevant.now
      c.loop-actor.actor-index c.actor-item.result relevant there));
  looking = λ edits past kept samples look relevant.
      c.in_ok-entry.ensures.looking edits past kept samples
      (c.loop-actor.invariant.looking edits past kept samples look relevant)
      (item_at (λ a. is_relevant (table_in c.args.world.now.layout) edits c.args.player a ≡ true) c.args.relevant.now
      c.loop-actor.actor-index c.actor-item.result relevant there);
  noted = λ edits past kept samples look relevant.
      walked (is_awake (table_in c.args.world.now.layout) edits c.args.player past) (is_noted c.args.noted.now)
      (is_noted c.loop-actor.noted) (is_noted c.see.new.noted) (take c.loop-actor.actor-index c.args.relevant.now)
      (take (c.loop-actor.actor-index + 1) c.args.relevant.now) c.actor-item.result
      (take_step c.args.relevant.now c.loop-actor.actor-index c.actor-item.result there)
      (c.loop-actor.invariant.noted edits past kept samples look relevant)
      (c.in_ok-entry.ensures.noted edits past kept samples
      (c.loop-actor.invariant.looking edits past kept samples look relevant)
      (item_at (λ a. is_relevant (table_in c.args.world.now.layout) edits c.args.player a ≡ true) c.args.relevant.now
      c.loop-actor.actor-index c.actor-item.result relevant there));
  tick = c.see.ensures.tick ∙ c.loop-actor.invariant.tick;
  steps = λ edits past kept samples look relevant.
      more_steps (table_in c.args.world.now.layout) edits c.args.steps.now c.loop-actor.steps c.see.new.steps
      c.loop-actor.actor-index (c.loop-actor.actor-index + 1) (is_noted c.args.noted.now)
      (is_noted c.loop-actor.noted) (is_noted c.see.new.noted)
      (c.loop-actor.invariant.steps edits past kept samples look relevant)
      (c.in_ok-entry.ensures.steps_ok edits past kept samples
      (c.loop-actor.invariant.looking edits past kept samples look relevant)
      (item_at (λ a. is_relevant (table_in c.args.world.now.layout) edits c.args.player a ≡ true) c.args.relevant.now
      c.loop-actor.actor-index c.actor-item.result relevant there))
      (same c.loop-actor.actor-index);
}
  where
    same : (n : ℕ) → n + 1 ≤ n + 1
    same n = omega arith

    there : slice_get c.args.relevant.now c.loop-actor.actor-index ≡ Some c.actor-item.result
    there = slice_get_read c.args.relevant.now (length c.args.relevant.now) c.loop-actor.actor-index
        c.actor-item.result refl
        (let n = ap (λ (xs : List ℕ). length xs) c.as_slice-actor-items.ensures in
        let t = c.loop-actor-test.true in omega (n, t, arith))
        (c.actor-item.is ∙ ap (λ (xs : List ℕ). get_or xs c.loop-actor.actor-index c.actor-item.result)
        c.as_slice-actor-items.ensures)

pub returns-in_err-sight-clause-steps : goal.returns-in_err-sight-clause-steps
returns-in_err-sight-clause-steps g c = λ edits past kept samples most look relevant first p.
    wider_steps (table_in c.args.world.now.layout) edits c.args.steps.now c.args.steps.now 0
    (length c.args.relevant.now) (is_noted c.args.noted.now) (is_noted c.args.noted.now) most
    (no_steps (table_in c.args.world.now.layout) edits c.args.steps.now (is_noted c.args.noted.now)) first (omega arith)

pub returns-in_err-entry-clause-steps : goal.returns-in_err-entry-clause-steps
returns-in_err-entry-clause-steps g c = λ edits past kept samples most look relevant first p.
    more_steps (table_in c.args.world.now.layout) edits c.args.steps.now c.loop-actor.steps c.see.new.steps
    c.loop-actor.actor-index (length c.args.relevant.now) (is_noted c.args.noted.now)
    (is_noted c.loop-actor.noted) most (c.loop-actor.invariant.steps edits past kept samples look relevant)
    (c.see.ensures.steps edits past kept samples most
    (c.loop-actor.invariant.looking edits past kept samples look relevant)
    (item_at (λ a. is_relevant (table_in c.args.world.now.layout) edits c.args.player a ≡ true) c.args.relevant.now
    c.loop-actor.actor-index c.actor-item.result relevant there)
    (among_now (is_awake (table_in c.args.world.now.layout) edits c.args.player past) (is_noted c.args.noted.now)
    (is_noted c.loop-actor.noted) most (take c.loop-actor.actor-index c.args.relevant.now)
    (c.loop-actor.invariant.noted edits past kept samples look relevant) first p) p)
    within
  where
    within : c.loop-actor.actor-index + 1 ≤ length c.args.relevant.now
    within = (let n = ap (λ (xs : List ℕ). length xs) c.as_slice-actor-items.ensures in
        let t = c.loop-actor-test.true in omega (n, t, arith))

    there : slice_get c.args.relevant.now c.loop-actor.actor-index ≡ Some c.actor-item.result
    there = slice_get_read c.args.relevant.now (length c.args.relevant.now) c.loop-actor.actor-index
        c.actor-item.result refl (omega (arith, within))
        (c.actor-item.is ∙ ap (λ (xs : List ℕ). get_or xs c.loop-actor.actor-index c.actor-item.result)
        c.as_slice-actor-items.ensures)

pub returns-in_err-push-clause-steps : goal.returns-in_err-push-clause-steps
returns-in_err-push-clause-steps g c = λ edits past kept samples most look relevant first p.
    more_steps (table_in c.args.world.now.layout) edits c.args.steps.now c.loop-actor.steps c.see.new.steps
    c.loop-actor.actor-index (length c.args.relevant.now) (is_noted c.args.noted.now)
    (is_noted c.loop-actor.noted) most (c.loop-actor.invariant.steps edits past kept samples look relevant)
    (c.see.ensures.steps edits past kept samples most
    (c.loop-actor.invariant.looking edits past kept samples look relevant)
    (item_at (λ a. is_relevant (table_in c.args.world.now.layout) edits c.args.player a ≡ true) c.args.relevant.now
    c.loop-actor.actor-index c.actor-item.result relevant there)
    (among_now (is_awake (table_in c.args.world.now.layout) edits c.args.player past) (is_noted c.args.noted.now)
    (is_noted c.loop-actor.noted) most (take c.loop-actor.actor-index c.args.relevant.now)
    (c.loop-actor.invariant.noted edits past kept samples look relevant) first p) p)
    within
  where
    within : c.loop-actor.actor-index + 1 ≤ length c.args.relevant.now
    within = (let n = ap (λ (xs : List ℕ). length xs) c.as_slice-actor-items.ensures in
        let t = c.loop-actor-test.true in omega (n, t, arith))

    there : slice_get c.args.relevant.now c.loop-actor.actor-index ≡ Some c.actor-item.result
    there = slice_get_read c.args.relevant.now (length c.args.relevant.now) c.loop-actor.actor-index
        c.actor-item.result refl (omega (arith, within))
        (c.actor-item.is ∙ ap (λ (xs : List ℕ). get_or xs c.loop-actor.actor-index c.actor-item.result)
        c.as_slice-actor-items.ensures)

pub returns-clause-given : goal.returns-clause-given
returns-clause-given g c = λ edits past kept samples look relevant.
    c.loop-actor.invariant.given edits past kept samples look relevant
    ∙ ap (map (λ a. shown_as past (seen_of (table_in c.args.world.now.layout) edits c.args.player a)))
    (take_all c.loop-actor.actor-index c.args.relevant.now past_all)
  where
    past_all : length c.args.relevant.now ≤ c.loop-actor.actor-index
    past_all = (let n = ap (λ (xs : List ℕ). length xs) c.as_slice-actor-items.ensures in
        let t = c.loop-actor-test.false in omega (n, t, arith))

pub returns-clause-noted : goal.returns-clause-noted
returns-clause-noted g c = λ edits past kept samples look relevant b.
    c.loop-actor.invariant.noted edits past kept samples look relevant b
    ∙ ap (λ (xs : List ℕ). is_among b xs && is_awake (table_in c.args.world.now.layout) edits c.args.player past b
    || is_noted c.args.noted.now b)
    (take_all c.loop-actor.actor-index c.args.relevant.now past_all)
  where
    past_all : length c.args.relevant.now ≤ c.loop-actor.actor-index
    past_all = (let n = ap (λ (xs : List ℕ). length xs) c.as_slice-actor-items.ensures in
        let t = c.loop-actor-test.false in omega (n, t, arith))

pub returns-clause-steps_ok : goal.returns-clause-steps_ok
returns-clause-steps_ok g c = λ edits past kept samples look relevant.
    wider_steps (table_in c.args.world.now.layout) edits c.args.steps.now c.loop-actor.steps
    c.loop-actor.actor-index (length c.args.relevant.now) (is_noted c.args.noted.now) (is_noted c.loop-actor.noted)
    (is_noted c.loop-actor.noted) (c.loop-actor.invariant.steps edits past kept samples look relevant)
    (λ b e. e) within
  where
    within : c.loop-actor.actor-index ≤ length c.args.relevant.now
    within = (let n = ap (λ (xs : List ℕ). length xs) c.as_slice-actor-items.ensures in
        let e = c.loop-actor.auto.actor-index-end in omega (n, e, arith))

pub returns-clause-steps : goal.returns-clause-steps
returns-clause-steps g c = λ edits past kept samples most look relevant first p.
    wider_steps (table_in c.args.world.now.layout) edits c.args.steps.now c.loop-actor.steps
    c.loop-actor.actor-index (length c.args.relevant.now) (is_noted c.args.noted.now) (is_noted c.loop-actor.noted)
    most (c.loop-actor.invariant.steps edits past kept samples look relevant)
    (among_now (is_awake (table_in c.args.world.now.layout) edits c.args.player past) (is_noted c.args.noted.now)
    (is_noted c.loop-actor.noted) most (take c.loop-actor.actor-index c.args.relevant.now)
    (c.loop-actor.invariant.noted edits past kept samples look relevant) first p) within
  where
    within : c.loop-actor.actor-index ≤ length c.args.relevant.now
    within = (let n = ap (λ (xs : List ℕ). length xs) c.as_slice-actor-items.ensures in
        let e = c.loop-actor.auto.actor-index-end in omega (n, e, arith))
