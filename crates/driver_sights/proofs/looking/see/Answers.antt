use Rattle.std.proofs.Common.{◌+◌, length, map, true, false, sym, ap, ◌∙◌}
use Rattle.protocol_model.specs.Sight.{seen_of}
use Rattle.class_layout.specs.Tables.{table_in}
use Rattle.value_codec.specs.Values.{whole_of}
use Rattle.sender_steps.specs.Sights.{seen_value}
use Rattle.driver_sights.specs.Noted.{is_noted}
use Rattle.driver_sights.specs.Looking.{is_awake}
use Rattle.driver_sights.proofs.Classes.{found_in}
use Rattle.driver_sights.proofs.Made.{made_none, made_seen}
use Rattle.driver_sights.proofs.Looked.{shown_quiet, shown_whole, awake_not, awake_so, noted_none, noted_one, looked_steps, sampled_steps, among_after, own_after, quiet_so}
use Rattle.driver_sights.proofs.looking.see.Goals as goal

pub returns-in_default-clause-steps : goal.returns-in_default-clause-steps
returns-in_default-clause-steps g c = λ edits past kept samples most look relevant first p.
    looked_steps (table_in c.args.world.now.layout) edits c.args.steps.now c.look.new.steps
    (is_noted c.args.noted.now) most first c.look.ensures.step

pub returns-in_default-class-clause-steps : goal.returns-in_default-class-clause-steps
returns-in_default-class-clause-steps g c = λ edits past kept samples most look relevant first p.
    looked_steps (table_in c.args.world.now.layout) edits c.args.steps.now c.look.new.steps
    (is_noted c.args.noted.now) most first c.look.ensures.step

pub returns-then-quiet-clause-steps : goal.returns-then-quiet-clause-steps
returns-then-quiet-clause-steps g c = λ edits past kept samples most look relevant first p.
    looked_steps (table_in c.args.world.now.layout) edits c.args.steps.now c.look.new.steps
    (is_noted c.args.noted.now) most first c.look.ensures.step

pub returns-then-quiet-clause-given : goal.returns-then-quiet-clause-given
returns-then-quiet-clause-given g c = λ edits past kept samples look relevant.
    let found = found_in c.classes-classes.result.now c.args.world.now.layout edits c.args.actor c.in-Some.look
    c.in-Some-class.class.now c.classes-classes.ensures c.keeps_rules.ensures.rules
    (c.in-Some.ensures.look edits look.world) c.in-Some-class.ensures in
    let quiet = quiet_so (table_in c.args.world.now.layout) edits c.args.player past c.args.actor c.in-Some.look
    c.quiet.result true found.is (c.quiet.ensures past kept look.sender) c.if-quiet.true in
    shown_quiet past (seen_of (table_in c.args.world.now.layout) edits c.args.player c.args.actor)
    (seen_value c.args.world.now.layout c.seen_asleep.result) quiet
    (c.seen_asleep.ensures.entry c.args.world.now.layout edits (sym (c.in-Some.ensures.look edits look.world)))

pub returns-then-quiet-clause-made : goal.returns-then-quiet-clause-made
returns-then-quiet-clause-made g c = λ edits past kept samples look relevant.
    let found = found_in c.classes-classes.result.now c.args.world.now.layout edits c.args.actor c.in-Some.look
    c.in-Some-class.class.now c.classes-classes.ensures c.keeps_rules.ensures.rules
    (c.in-Some.ensures.look edits look.world) c.in-Some-class.ensures in
    made_none c.args.world.now.layout c.seen_asleep.result c.in-Some.look.class c.seen_asleep.ensures.class found.there
    c.seen_asleep.ensures.none

pub returns-then-quiet-clause-looking : goal.returns-then-quiet-clause-looking
returns-then-quiet-clause-looking g c = λ edits past kept samples look relevant. look

pub returns-then-quiet-clause-noted : goal.returns-then-quiet-clause-noted
returns-then-quiet-clause-noted g c = λ edits past kept samples look relevant.
    let found = found_in c.classes-classes.result.now c.args.world.now.layout edits c.args.actor c.in-Some.look
    c.in-Some-class.class.now c.classes-classes.ensures c.keeps_rules.ensures.rules
    (c.in-Some.ensures.look edits look.world) c.in-Some-class.ensures in
    let quiet = quiet_so (table_in c.args.world.now.layout) edits c.args.player past c.args.actor c.in-Some.look
    c.quiet.result true found.is (c.quiet.ensures past kept look.sender) c.if-quiet.true in
    noted_none (is_awake (table_in c.args.world.now.layout) edits c.args.player past) (is_noted c.args.noted.now)
    c.args.actor (awake_not (table_in c.args.world.now.layout) edits c.args.player past c.args.actor quiet)

pub returns-then-quiet-clause-steps_ok : goal.returns-then-quiet-clause-steps_ok
returns-then-quiet-clause-steps_ok g c = λ edits past kept samples look relevant.
    looked_steps (table_in c.args.world.now.layout) edits c.args.steps.now c.look.new.steps (is_noted c.args.noted.now)
    (is_noted c.args.noted.now) (λ b e. e) c.look.ensures.step

pub note-requires-clause-most : goal.note-requires-clause-most
note-requires-clause-most g c =
    let h = c.requires.looking in
    let found = found_in c.classes-classes.result.now c.args.world.now.layout h.0 c.args.actor c.in-Some.look
    c.in-Some-class.class.now c.classes-classes.ensures c.keeps_rules.ensures.rules
    (c.in-Some.ensures.look h.0 h.4.world) c.in-Some-class.ensures in
    found.few

pub note-requires-clause-notes : goal.note-requires-clause-notes
note-requires-clause-notes g c =
    let h = c.requires.looking in
    let found = found_in c.classes-classes.result.now c.args.world.now.layout h.0 c.args.actor c.in-Some.look
    c.in-Some-class.class.now c.classes-classes.ensures c.keeps_rules.ensures.rules
    (c.in-Some.ensures.look h.0 h.4.world) c.in-Some-class.ensures in
    (h.0, h.3, h.4.world, h.4.notes, found.is.spawned, found.class)

pub returns-in_err-note-clause-steps : goal.returns-in_err-note-clause-steps
returns-in_err-note-clause-steps g c = λ edits past kept samples most look relevant first p.
    let found = found_in c.classes-classes.result.now c.args.world.now.layout edits c.args.actor c.in-Some.look
    c.in-Some-class.class.now c.classes-classes.ensures c.keeps_rules.ensures.rules
    (c.in-Some.ensures.look edits look.world) c.in-Some-class.ensures in
    let quiet = quiet_so (table_in c.args.world.now.layout) edits c.args.player past c.args.actor c.in-Some.look
    c.quiet.result false found.is (c.quiet.ensures past kept look.sender) c.if-quiet.false in
    sampled_steps (table_in c.args.world.now.layout) edits c.args.steps.now c.look.new.steps c.note.new.steps
    (is_noted c.args.noted.now) most c.args.actor (length c.in-Some-class.class.now.props + 2) found.is.spawned
    found.cells c.look.ensures.step c.note.ensures.steps first
    (p c.args.actor (awake_so (table_in c.args.world.now.layout) edits c.args.player past c.args.actor relevant quiet))

pub returns-in_default-values-clause-steps : goal.returns-in_default-values-clause-steps
returns-in_default-values-clause-steps g c = λ edits past kept samples most look relevant first p.
    let found = found_in c.classes-classes.result.now c.args.world.now.layout edits c.args.actor c.in-Some.look
    c.in-Some-class.class.now c.classes-classes.ensures c.keeps_rules.ensures.rules
    (c.in-Some.ensures.look edits look.world) c.in-Some-class.ensures in
    let quiet = quiet_so (table_in c.args.world.now.layout) edits c.args.player past c.args.actor c.in-Some.look
    c.quiet.result false found.is (c.quiet.ensures past kept look.sender) c.if-quiet.false in
    sampled_steps (table_in c.args.world.now.layout) edits c.args.steps.now c.look.new.steps c.note.new.steps
    (is_noted c.args.noted.now) most c.args.actor (length c.in-Some-class.class.now.props + 2) found.is.spawned
    found.cells c.look.ensures.step c.note.ensures.steps first
    (p c.args.actor (awake_so (table_in c.args.world.now.layout) edits c.args.player past c.args.actor relevant quiet))

pub returns-in_err-entry-clause-steps : goal.returns-in_err-entry-clause-steps
returns-in_err-entry-clause-steps g c = λ edits past kept samples most look relevant first p.
    let found = found_in c.classes-classes.result.now c.args.world.now.layout edits c.args.actor c.in-Some.look
    c.in-Some-class.class.now c.classes-classes.ensures c.keeps_rules.ensures.rules
    (c.in-Some.ensures.look edits look.world) c.in-Some-class.ensures in
    let quiet = quiet_so (table_in c.args.world.now.layout) edits c.args.player past c.args.actor c.in-Some.look
    c.quiet.result false found.is (c.quiet.ensures past kept look.sender) c.if-quiet.false in
    sampled_steps (table_in c.args.world.now.layout) edits c.args.steps.now c.look.new.steps c.note.new.steps
    (is_noted c.args.noted.now) most c.args.actor (length c.in-Some-class.class.now.props + 2) found.is.spawned
    found.cells c.look.ensures.step c.note.ensures.steps first
    (p c.args.actor (awake_so (table_in c.args.world.now.layout) edits c.args.player past c.args.actor relevant quiet))

pub returns-clause-steps : goal.returns-clause-steps
returns-clause-steps g c = λ edits past kept samples most look relevant first p.
    let found = found_in c.classes-classes.result.now c.args.world.now.layout edits c.args.actor c.in-Some.look
    c.in-Some-class.class.now c.classes-classes.ensures c.keeps_rules.ensures.rules
    (c.in-Some.ensures.look edits look.world) c.in-Some-class.ensures in
    let quiet = quiet_so (table_in c.args.world.now.layout) edits c.args.player past c.args.actor c.in-Some.look
    c.quiet.result false found.is (c.quiet.ensures past kept look.sender) c.if-quiet.false in
    sampled_steps (table_in c.args.world.now.layout) edits c.args.steps.now c.look.new.steps c.note.new.steps
    (is_noted c.args.noted.now) most c.args.actor (length c.in-Some-class.class.now.props + 2) found.is.spawned
    found.cells c.look.ensures.step c.note.ensures.steps first
    (p c.args.actor (awake_so (table_in c.args.world.now.layout) edits c.args.player past c.args.actor relevant quiet))

pub seen-requires : goal.seen-requires
seen-requires g c =
    let h = c.requires.looking in
    let found = found_in c.classes-classes.result.now c.args.world.now.layout h.0 c.args.actor c.in-Some.look
    c.in-Some-class.class.now c.classes-classes.ensures c.keeps_rules.ensures.rules
    (c.in-Some.ensures.look h.0 h.4.world) c.in-Some-class.ensures in
    record { most = found.few }

pub returns-clause-given : goal.returns-clause-given
returns-clause-given g c = λ edits past kept samples look relevant.
    let found = found_in c.classes-classes.result.now c.args.world.now.layout edits c.args.actor c.in-Some.look
    c.in-Some-class.class.now c.classes-classes.ensures c.keeps_rules.ensures.rules
    (c.in-Some.ensures.look edits look.world) c.in-Some-class.ensures in
    let quiet = quiet_so (table_in c.args.world.now.layout) edits c.args.player past c.args.actor c.in-Some.look
    c.quiet.result false found.is (c.quiet.ensures past kept look.sender) c.if-quiet.false in
    let notes = c.in_ok-note.ensures.notes edits samples look.world look.notes found.is.spawned found.class in
    let vals = notes.values c.args.actor c.in-Some-values.values.now (sym c.in-Some-values.ensures) in
    shown_whole past (seen_of (table_in c.args.world.now.layout) edits c.args.player c.args.actor)
    (seen_value c.args.world.now.layout c.in_ok-entry.entry) quiet
    (c.in_ok-entry.ensures.entry edits look.world (sym (c.in-Some.ensures.look edits look.world)) found.class
    (ap (map whole_of) c.as_slice.ensures ∙ vals.are))

pub returns-clause-made : goal.returns-clause-made
returns-clause-made g c = λ edits past kept samples look relevant.
    let found = found_in c.classes-classes.result.now c.args.world.now.layout edits c.args.actor c.in-Some.look
    c.in-Some-class.class.now c.classes-classes.ensures c.keeps_rules.ensures.rules
    (c.in-Some.ensures.look edits look.world) c.in-Some-class.ensures in
    let notes = c.in_ok-note.ensures.notes edits samples look.world look.notes found.is.spawned found.class in
    let vals = notes.values c.args.actor c.in-Some-values.values.now (sym c.in-Some-values.ensures) in
    made_seen c.args.world.now.layout edits c.args.actor c.in-Some.look c.in-Some-class.class.now c.in_ok-entry.entry
    c.in-Some-values.values.now c.as_slice.result.now found c.in_ok-entry.ensures.class c.as_slice.ensures vals.fit
    c.in_ok-entry.ensures.fit

pub returns-clause-looking : goal.returns-clause-looking
returns-clause-looking g c = λ edits past kept samples look relevant.
    let found = found_in c.classes-classes.result.now c.args.world.now.layout edits c.args.actor c.in-Some.look
    c.in-Some-class.class.now c.classes-classes.ensures c.keeps_rules.ensures.rules
    (c.in-Some.ensures.look edits look.world) c.in-Some-class.ensures in
    record {
      world = look.world;
      sender = look.sender;
      notes = c.in_ok-note.ensures.notes edits samples look.world look.notes found.is.spawned found.class;
    }

pub returns-clause-noted : goal.returns-clause-noted
returns-clause-noted g c = λ edits past kept samples look relevant.
    let found = found_in c.classes-classes.result.now c.args.world.now.layout edits c.args.actor c.in-Some.look
    c.in-Some-class.class.now c.classes-classes.ensures c.keeps_rules.ensures.rules
    (c.in-Some.ensures.look edits look.world) c.in-Some-class.ensures in
    let quiet = quiet_so (table_in c.args.world.now.layout) edits c.args.player past c.args.actor c.in-Some.look
    c.quiet.result false found.is (c.quiet.ensures past kept look.sender) c.if-quiet.false in
    noted_one (is_awake (table_in c.args.world.now.layout) edits c.args.player past) (is_noted c.args.noted.now)
    (is_noted c.note.new.self) c.args.actor
    (awake_so (table_in c.args.world.now.layout) edits c.args.player past c.args.actor relevant quiet)
    c.in_ok-note.ensures.noted

pub returns-clause-steps_ok : goal.returns-clause-steps_ok
returns-clause-steps_ok g c = λ edits past kept samples look relevant.
    let found = found_in c.classes-classes.result.now c.args.world.now.layout edits c.args.actor c.in-Some.look
    c.in-Some-class.class.now c.classes-classes.ensures c.keeps_rules.ensures.rules
    (c.in-Some.ensures.look edits look.world) c.in-Some-class.ensures in
    sampled_steps (table_in c.args.world.now.layout) edits c.args.steps.now c.look.new.steps c.note.new.steps
    (is_noted c.args.noted.now) (is_noted c.note.new.self) c.args.actor
    (length c.in-Some-class.class.now.props + 2) found.is.spawned found.cells c.look.ensures.step c.note.ensures.steps
    (among_after (is_noted c.args.noted.now) (is_noted c.note.new.self) c.args.actor c.in_ok-note.ensures.noted)
    (own_after (is_noted c.args.noted.now) (is_noted c.note.new.self) c.args.actor c.in_ok-note.ensures.noted)
