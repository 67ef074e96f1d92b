use Rattle.std.proofs.Common.{ap, sym, subst}
use Rattle.class_layout.specs.Tables.{table_in}
use Rattle.script_model.specs.Lines as lines
use Rattle.replication_model.specs.Story.{after_line}
use Rattle.replay_core.specs.Kept.{Kept}
use Rattle.replay_core.specs.Stands.{Stands}
use Rattle.replay_core.proofs.Ticks.{all_ticked}
use Rattle.replay_core.proofs.replay.Replay.tick.Goals as goal

pub returns-clause-told : goal.returns-clause-told
returns-clause-told c =
    let now = c.args.self.now in
    let driver = ap (λ (k : Kept). k.driver) c.self.view_is in
    let places = ap (λ (k : Kept). k.places) c.self.view_is in
    λ story s. (all_ticked now story c.tick.new.driver c.keep_all.new.places.items _ _ _ s
    (λ edits players h. c.in_ok-ticks.ensures.serves now.layout edits players (rw driver h))
    (λ edits players h. c.in_ok-ticks.ensures.sent now.layout edits players (rw driver h))
    (λ edits players a t. c.in_ok-keep_all.ensures now.layout edits players (rw places a) t) c.new-events.ensures).1

pub returns-clause-stands : goal.returns-clause-stands
returns-clause-stands c =
    let now = c.args.self.now in
    let driver = ap (λ (k : Kept). k.driver) c.self.view_is in
    let places = ap (λ (k : Kept). k.places) c.self.view_is in
    λ story s. subst (λ (k : Kept). Stands
    (record k { driver = c.tick.new.driver; places = c.keep_all.new.places.items })
    (after_line (table_in now.layout) story lines.TickAll).0) (sym c.self.view_is)
    (all_ticked now story c.tick.new.driver c.keep_all.new.places.items _ _ _ s
    (λ edits players h. c.in_ok-ticks.ensures.serves now.layout edits players (rw driver h))
    (λ edits players h. c.in_ok-ticks.ensures.sent now.layout edits players (rw driver h))
    (λ edits players a t. c.in_ok-keep_all.ensures now.layout edits players (rw places a) t) c.new-events.ensures).0
