use Rattle.std.proofs.Common.{◌∙◌, sym, ap, subst, arith}
use Rattle.std.specs.Option.{option_copied}
use Rattle.std.proofs.lemmas.Result.{err_from_is_err_and}
use Rattle.class_layout.specs.Tables.{table_in}
use Rattle.world_table.specs.Answers.{spawned_guid}
use Rattle.world_table.specs.Kept.{Kept}
use Rattle.world_table.specs.RecordChanges.{change_edit}
use Rattle.world_table.specs.Stands.{Stands}
use Rattle.world_table.proofs.Changing.{lives_of}
use Rattle.world_table.proofs.Edits.{flush_below}
use Rattle.world_table.proofs.RecordChanging.{dead_of, change_dead, change_spawns, change_taken, change_refused, change_stands}
use Rattle.world_table.proofs.world.World.change.Goals as goal

pub returns-in_default-clause-answer : goal.returns-in_default-clause-answer
returns-in_default-clause-answer c = λ edits h.
    let inside = subst (λ (w : Kept). Stands w edits) (sym c.self.view_is) h in
    change_dead (table_in c.args.self.now.layout) edits c.args.actor c.args.change
    (dead_of _ edits _ c.args.actor inside c.deref.ensures.value
    (ap option_copied (sym c.in_default.is) ∙ c.living.ensures))

pub changed-requires : goal.changed-requires
changed-requires c =
    let edits = c.requires.0 in
    let inside = subst (λ (w : Kept). Stands w edits) (sym c.self.view_is) c.requires.1 in
    let living = lives_of _ edits _ c.args.actor c.in-Some.kept.now inside c.deref.ensures.value c.in-Some.ensures in
    omega (arith, flush_below _ edits c.args.actor c.in-Some.kept.now inside living.is, c.requires.2)

pub returns-in_err-after-clause-answer : goal.returns-in_err-after-clause-answer
returns-in_err-after-clause-answer c = λ edits h.
    let inside = subst (λ (w : Kept). Stands w edits) (sym c.self.view_is) h in
    let living = lives_of _ edits _ c.args.actor c.in-Some.kept.now inside c.deref.ensures.value c.in-Some.ensures in
    let p = err_from_is_err_and c.from_residual.result c.from_residual.ensures.1 in
    rw (p.1, p.2)
    (change_refused (table_in c.args.self.now.layout) edits c.args.actor c.in-Some.kept.now c.in_err-after.field-0.0
    c.args.change (spawned_guid edits (change_edit c.args.actor c.args.change)) living.lives
    (sym c.in_err-after.ensures))

pub returns-clause-answer : goal.returns-clause-answer
returns-clause-answer c = λ edits h.
    let inside = subst (λ (w : Kept). Stands w edits) (sym c.self.view_is) h in
    let living = lives_of _ edits _ c.args.actor c.in-Some.kept.now inside c.deref.ensures.value c.in-Some.ensures in (
      change_taken (table_in c.args.self.now.layout) edits c.args.actor c.in-Some.kept.now c.in_ok-after.after
          c.args.change living.lives (sym c.in_ok-after.ensures),
      sym (change_spawns edits c.args.actor c.args.change),
    )

pub returns-clause-stands : goal.returns-clause-stands
returns-clause-stands c = λ edits h.
    let inside = subst (λ (w : Kept). Stands w edits) (sym c.self.view_is) h in
    let living = lives_of _ edits _ c.args.actor c.in-Some.kept.now inside c.deref.ensures.value c.in-Some.ensures in
    change_stands _ edits c.args.actor c.in-Some.kept.now c.in_ok-after.after c.args.change
    c.put_record.new.actors.items inside living.is (sym c.in_ok-after.ensures)
    (record { len = c.put_record.ensures.len; each = c.put_record.ensures.each })
