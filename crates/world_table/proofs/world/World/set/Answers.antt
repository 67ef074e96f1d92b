use Rattle.std.proofs.Common.{◌∙◌, List, Bool, Some, None, option_map, refl, sym, ap, subst, if◌then◌else◌}
use Rattle.std.specs.Prelude.{slice_get}
use Rattle.protocol_model.specs.Value.{Class, Prop}
use Rattle.protocol_model.specs.World.{OutOfRange}
use Rattle.world_table.specs.declared.actor.Cell.{Cell}
use Rattle.world_table.specs.Answers.{settable_at}
use Rattle.world_table.specs.Kept.{Kept}
use Rattle.world_table.specs.Stands.{Stands}
use Rattle.world_table.proofs.Changing.{lives_of}
use Rattle.world_table.proofs.Refusing.{set_known}
use Rattle.world_table.proofs.Setting.{kind_held, own_set}
use Rattle.world_table.proofs.world.World.set.Goals as goal

pub returns-then-holds_alike-clause-answer : goal.returns-then-holds_alike-clause-answer
returns-then-holds_alike-clause-answer c = λ edits h.
    let inside = subst (λ (w : Kept). Stands w edits) (sym c.self.view_is) h in
    let living = lives_of _ edits _ c.args.actor c.in-Some.kept.now inside c.deref.ensures.value c.in-Some.ensures in
    let held = kind_held _ edits c.args.actor c.args.prop c.in-Some-cell_place.place c.in-Some.kept.now inside
    c.keeps_rules.ensures.layout living.is (sym c.cell_place.ensures ∙ c.in-Some-cell_place.is) in
    let there = ap (λ (cells : List Cell). slice_get cells c.in-Some-cell_place.place)
    c.deref-in-Some-cell_place.ensures.value
    ∙ held.is in
    let fits = c.holds_alike.ensures.fits c.if-holds_alike.true held.cell there held.kind held.fits in
    let kind = ap (λ (class : Class). option_map (λ (p : Prop). p.kind) (settable_at class c.args.prop)) living.class
    ∙ held.some in
    rw (← c.self.view_is) (
      (set_known _ edits c.args.actor c.args.prop c.args.value held.kind living.lives kind
          ∙ ap (λ (b : Bool). if b then None else Some OutOfRange) fits),
      refl,
    )

pub returns-then-holds_alike-clause-stands : goal.returns-then-holds_alike-clause-stands
returns-then-holds_alike-clause-stands c = λ edits h.
    let inside = subst (λ (w : Kept). Stands w edits) (sym c.self.view_is) h in
    let living = lives_of _ edits _ c.args.actor c.in-Some.kept.now inside c.deref.ensures.value c.in-Some.ensures in
    let place = sym c.cell_place.ensures ∙ c.in-Some-cell_place.is in
    let held = kind_held _ edits c.args.actor c.args.prop c.in-Some-cell_place.place c.in-Some.kept.now inside
    c.keeps_rules.ensures.layout living.is place in
    let there = ap (λ (cells : List Cell). slice_get cells c.in-Some-cell_place.place)
    c.deref-in-Some-cell_place.ensures.value
    ∙ held.is in
    let fits = c.holds_alike.ensures.fits c.if-holds_alike.true held.cell there held.kind held.fits in
    own_set _ edits c.args.actor c.args.prop c.in-Some-cell_place.place c.args.value c.in-Some.kept.now held.kind
    c.put_value.new.cells.items inside living.is place held.some fits c.put_value.ensures
