use Rattle.std.proofs.Common.{false, true, inr, refl, length}
use Rattle.class_layout.specs.Tables.{table_in}
use Rattle.driver_sights.specs.Noted.{is_noted}
use Rattle.driver_sights.proofs.Noting.{noted_before, asked, few_values, may_sample_so, noted_so, noted_now_so, sample_within}
use Rattle.driver_sights.proofs.noted.Noted.note.Goals as goal

pub returns-then-contains_key-clause-noted : goal.returns-then-contains_key-clause-noted
returns-then-contains_key-clause-noted g c =
    noted_before c.args.self.now c.args.actor
    (asked c.args.self.now _ c.args.actor _ c.contains_key.result true c.self.view_is c.actor.view_is
    c.contains_key.ensures c.if-contains_key.true)

pub sample-requires-clause-most : goal.sample-requires-clause-most
sample-requires-clause-most g c =
    let h = c.requires.notes in
    few_values (table_in c.args.world.now.layout) h.0 c.args.world.now.layout.segments c.args.class.now c.args.actor
    c.in_ok-values.values c.as_slice.result.now c.as_slice.ensures
    (c.in_ok-values.ensures.values h.0 h.2 h.4 h.5) h.5 c.requires.most

pub sample-requires-clause-stands : goal.sample-requires-clause-stands
sample-requires-clause-stands g c =
    let h = c.requires.notes in
    inr (
      h.3.now,
      h.3.keeps,
      may_sample_so c.args.self.now _ c.args.changes.now (table_in c.args.world.now.layout) h.0 h.1 c.args.actor
          c.in_ok-values.values c.as_slice.result.now c.self.view_is c.as_slice.ensures h.3
          (asked c.args.self.now _ c.args.actor _ c.contains_key.result false c.self.view_is c.actor.view_is
          c.contains_key.ensures c.if-contains_key.false)
          (record {
            spawned = h.4;
            are = c.in_ok-values.ensures.values h.0 h.2 h.4 h.5;
            fit = c.in_ok-values.ensures.fit h.0 h.2 h.4 h.5;
          }),
    )

pub returns-in_err-values-clause-steps : goal.returns-in_err-values-clause-steps
returns-in_err-values-clause-steps g c =
    sample_within c.args.steps.now c.sampled.new.steps (length c.args.class.now.props)
    (is_noted c.args.self.now c.args.actor)
    (asked c.args.self.now _ c.args.actor _ c.contains_key.result false c.self.view_is c.actor.view_is
    c.contains_key.ensures c.if-contains_key.false) c.sampled.ensures.steps

pub returns-in_err-sample-clause-steps : goal.returns-in_err-sample-clause-steps
returns-in_err-sample-clause-steps g c =
    sample_within c.args.steps.now c.sampled.new.steps (length c.args.class.now.props)
    (is_noted c.args.self.now c.args.actor)
    (asked c.args.self.now _ c.args.actor _ c.contains_key.result false c.self.view_is c.actor.view_is
    c.contains_key.ensures c.if-contains_key.false) c.sampled.ensures.steps

pub returns-in-Ok-clause-notes : goal.returns-in-Ok-clause-notes
returns-in-Ok-clause-notes g c = λ edits samples world notes spawned class.
    noted_so c.args.self.now _ _ c.args.changes.now c.sample.new.self (table_in c.args.world.now.layout) edits samples
    c.args.actor _ c.in_ok-values.values _ c.as_slice.result.now c.self.view_is c.actor-2.view_is refl
    c.as_slice.ensures notes
    (asked c.args.self.now _ c.args.actor _ c.contains_key.result false c.self.view_is c.actor.view_is
    c.contains_key.ensures c.if-contains_key.false)
    (record {
      spawned = spawned;
      are = c.in_ok-values.ensures.values edits world spawned class;
      fit = c.in_ok-values.ensures.fit edits world spawned class;
    })
    refl c.in-Ok.ensures.updates.1 c.in-Ok.ensures.updates.2 c.in_ok-sample.ensures.keeps

pub returns-in-Ok-clause-noted : goal.returns-in-Ok-clause-noted
returns-in-Ok-clause-noted g c =
    noted_now_so c.args.self.now _ (record { tick = c.self.inside.tick; values = c.insert.new.self.entries })
    c.args.actor _ c.in_ok-values.values _ c.self.view_is c.actor-2.view_is
    refl c.in-Ok.ensures.updates.1 c.in-Ok.ensures.updates.2

pub returns-in-Ok-clause-steps : goal.returns-in-Ok-clause-steps
returns-in-Ok-clause-steps g c =
    sample_within c.args.steps.now c.sampled.new.steps (length c.args.class.now.props)
    (is_noted c.args.self.now c.args.actor)
    (asked c.args.self.now _ c.args.actor _ c.contains_key.result false c.self.view_is c.actor.view_is
    c.contains_key.ensures c.if-contains_key.false) c.sampled.ensures.steps

pub returns-clause-steps : goal.returns-clause-steps
returns-clause-steps g c =
    sample_within c.args.steps.now c.sampled.new.steps (length c.args.class.now.props)
    (is_noted c.args.self.now c.args.actor)
    (asked c.args.self.now _ c.args.actor _ c.contains_key.result false c.self.view_is c.actor.view_is
    c.contains_key.ensures c.if-contains_key.false) c.sampled.ensures.steps
