use Rattle.std.proofs.Common.{ap, ◌∙◌}
use Rattle.replication_model.specs.Story.{after_line}
use Rattle.class_layout.specs.Tables.{Layout, table_in}
use Rattle.script_lines.specs.LineOf.{line_of}
use Rattle.sample_summary.proofs.Replayed.{none_counted, event_counted, line_counted}
use Rattle.sample_summary.proofs.replaying.count_line.Goals as goal

pub loop-event-init : goal.loop-event-init
loop-event-init c = none_counted c.args.classes.now c.args.tally.now

pub loop-event-preserved : goal.loop-event-preserved
loop-event-preserved c =
    event_counted c.args.classes.now c.args.tally.now c.loop-event.tally c.add.new.self _ c.loop-event.event-index c.event-item.result
    c.event-item.is c.loop-event-test.true c.loop-event.invariant c.in_ok-add.ensures

pub returns-clause-tallies : goal.returns-clause-tallies
returns-clause-tallies c = λ told stands h.
    let is = c.in_ok-events.ensures.told told.0 stands
    ∙ ap (λ (l : Layout). (after_line (table_in l) told.0 (line_of c.args.line.now)).1) c.requires.classes in
    line_counted c.args.replay.now.layout c.args.classes.now c.args.tally.now c.loop-event.tally _ _ c.loop-event.event-index _ told.1
    c.requires.classes c.as_slice-event-items.ensures c.loop-event-test.false is c.loop-event.invariant h
