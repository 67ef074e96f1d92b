use Rattle.std.proofs.Common.{◌∷◌, ap, sym, ◌∙◌, subst}
use Rattle.world_table.specs.Answers.{edit_of}
use Rattle.class_layout.specs.Tables.{table_in}
use Rattle.replay_core.specs.Kept.{Kept}
use Rattle.replay_core.specs.Stands.{Stands}
use Rattle.replay_core.proofs.Whole.{actor_told, edited}
use Rattle.replay_core.proofs.replay.Replay.edit.Goals as goal

pub returns-clause-told : goal.returns-clause-told
returns-clause-told c =
    let now = c.args.self.now in
    let same = ap (λ (r : Kept). r.driver) c.self.view_is in
    λ story s. c.in_ok-events.ensures (table_in now.layout)
    ∙ actor_told now.layout now.driver story.edits story.players c.args.e _ s.serving (rw same at c.in-Ok.ensures.guid)

pub returns-clause-stands : goal.returns-clause-stands
returns-clause-stands c =
    let now = c.args.self.now in
    let same = ap (λ (r : Kept). r.driver) c.self.view_is in
    λ story s. subst (λ (r : Kept). Stands (record r { driver = c.edit.new.self })
    (record story { edits = edit_of c.args.e ∷ story.edits })) (sym c.self.view_is)
    (edited now story c.args.e c.edit.new.self s (rw same at c.in-Ok.ensures.serves)
    (rw same at c.in-Ok.ensures.layout))
