use Rattle.std.proofs.Common.{◌∙◌, true, false, refl, sym, ap, subst}
use Rattle.protocol_model.specs.Value.{Class}
use Rattle.protocol_model.specs.World.{has_switch}
use Rattle.world_table.specs.declared.edit.Edit.{Edit}
use Rattle.world_table.specs.Kept.{Kept}
use Rattle.world_table.specs.Stands.{Stands}
use Rattle.world_table.proofs.Changing.{lives_of}
use Rattle.world_table.proofs.Refusing.{decided}
use Rattle.world_table.proofs.Setting.{own_switch, no_place}
use Rattle.world_table.proofs.world.World.switch.Goals as goal

pub returns-in_default-cell_place-clause-answer : goal.returns-in_default-cell_place-clause-answer
returns-in_default-cell_place-clause-answer c = λ edits h.
    let inside = subst (λ (w : Kept). Stands w edits) (sym c.self.view_is) h in
    let living = lives_of _ edits _ c.args.actor c.in-Some.kept.now inside c.deref.ensures.value c.in-Some.ensures in
    rw (← c.self.view_is)
    (decided _ edits (Edit.Switch c.args.actor c.args.prop c.args.on) true false false true living.lives
    (ap (λ (class : Class). has_switch class c.args.prop) living.class
    ∙ no_place _ edits c.args.actor c.args.prop c.in-Some.kept.now inside living.is
    (sym c.cell_place.ensures ∙ c.in_default-cell_place.is)) refl refl)

pub returns-clause-stands : goal.returns-clause-stands
returns-clause-stands c = λ edits h.
    let inside = subst (λ (w : Kept). Stands w edits) (sym c.self.view_is) h in
    let living = lives_of _ edits _ c.args.actor c.in-Some.kept.now inside c.deref.ensures.value c.in-Some.ensures in
    own_switch _ edits c.args.actor c.args.prop c.in-Some-cell_place.place c.args.on c.in-Some.kept.now
    c.put_switch.new.cells.items inside
    living.is (sym c.cell_place.ensures ∙ c.in-Some-cell_place.is)
    (sym c.is_custom.ensures ∙ c.if-not-is_custom.false) c.put_switch.ensures
