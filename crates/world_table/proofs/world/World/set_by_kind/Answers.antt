use Rattle.std.proofs.Common.{◌∙◌, Bool, Some, None, option_map, refl, sym, ap, subst, if◌then◌else◌}
use Rattle.protocol_model.specs.Value.{Class, Prop}
use Rattle.protocol_model.specs.World.{OutOfRange}
use Rattle.world_table.specs.Answers.{settable_at}
use Rattle.world_table.specs.Kept.{Kept}
use Rattle.world_table.specs.Stands.{Stands}
use Rattle.world_table.proofs.Changing.{lives_of}
use Rattle.world_table.proofs.Refusing.{set_unknown, set_known}
use Rattle.world_table.proofs.Setting.{own_set, place_set}
use Rattle.world_table.proofs.world.World.set_by_kind.Goals as goal

pub returns-in_default-settable_kind-clause-answer : goal.returns-in_default-settable_kind-clause-answer
returns-in_default-settable_kind-clause-answer c = λ edits h.
    let inside = subst (λ (w : Kept). Stands w edits) (sym c.self.view_is) h in
    let living = lives_of _ edits _ c.args.actor c.in-Some.kept.now inside c.deref.ensures.value c.in-Some.ensures in
    let kind = ap (λ (class : Class). option_map (λ (p : Prop). p.kind) (settable_at class c.args.prop)) living.class
    ∙ sym c.settable_kind.ensures in
    rw (← c.self.view_is)
    (set_unknown _ edits c.args.actor c.args.prop c.args.value living.lives (kind ∙ c.in_default-settable_kind.is))

pub returns-then-not-fits-clause-answer : goal.returns-then-not-fits-clause-answer
returns-then-not-fits-clause-answer c = λ edits h.
    let inside = subst (λ (w : Kept). Stands w edits) (sym c.self.view_is) h in
    let living = lives_of _ edits _ c.args.actor c.in-Some.kept.now inside c.deref.ensures.value c.in-Some.ensures in
    let kind = ap (λ (class : Class). option_map (λ (p : Prop). p.kind) (settable_at class c.args.prop)) living.class
    ∙ sym c.settable_kind.ensures in
    rw (← c.self.view_is)
    (set_known _ edits c.args.actor c.args.prop c.args.value c.in-Some-settable_kind.kind living.lives
    (kind ∙ c.in-Some-settable_kind.is)
    ∙ ap (λ (b : Bool). if b then None else Some OutOfRange) (sym c.fits.ensures ∙ c.if-not-fits.true))

pub returns-in-Some-cell_place-clause-answer : goal.returns-in-Some-cell_place-clause-answer
returns-in-Some-cell_place-clause-answer c = λ edits h.
    let inside = subst (λ (w : Kept). Stands w edits) (sym c.self.view_is) h in
    let living = lives_of _ edits _ c.args.actor c.in-Some.kept.now inside c.deref.ensures.value c.in-Some.ensures in
    let kind = ap (λ (class : Class). option_map (λ (p : Prop). p.kind) (settable_at class c.args.prop)) living.class
    ∙ sym c.settable_kind.ensures in
    rw (← c.self.view_is) (
      (set_known _ edits c.args.actor c.args.prop c.args.value c.in-Some-settable_kind.kind living.lives
          (kind ∙ c.in-Some-settable_kind.is)
          ∙ ap (λ (b : Bool). if b then None else Some OutOfRange) (sym c.fits.ensures ∙ c.if-not-fits.false)),
      refl,
    )

pub returns-in-Some-cell_place-clause-stands : goal.returns-in-Some-cell_place-clause-stands
returns-in-Some-cell_place-clause-stands c = λ edits h.
    let inside = subst (λ (w : Kept). Stands w edits) (sym c.self.view_is) h in
    let living = lives_of _ edits _ c.args.actor c.in-Some.kept.now inside c.deref.ensures.value c.in-Some.ensures in
    own_set _ edits c.args.actor c.args.prop c.in-Some-cell_place.place c.args.value c.in-Some.kept.now
    c.in-Some-settable_kind.kind c.put_value.new.cells.items inside
    living.is (sym c.cell_place.ensures ∙ c.in-Some-cell_place.is)
    (sym c.settable_kind.ensures ∙ c.in-Some-settable_kind.is)
    (sym c.fits.ensures ∙ c.if-not-fits.false) c.put_value.ensures

pub returns-clause-answer : goal.returns-clause-answer
returns-clause-answer c = λ edits h.
    let inside = subst (λ (w : Kept). Stands w edits) (sym c.self.view_is) h in
    let living = lives_of _ edits _ c.args.actor c.in-Some.kept.now inside c.deref.ensures.value c.in-Some.ensures in
    let kind = ap (λ (class : Class). option_map (λ (p : Prop). p.kind) (settable_at class c.args.prop)) living.class
    ∙ sym c.settable_kind.ensures in
    rw (← c.self.view_is) (
      (set_known _ edits c.args.actor c.args.prop c.args.value c.in-Some-settable_kind.kind living.lives
          (kind ∙ c.in-Some-settable_kind.is)
          ∙ ap (λ (b : Bool). if b then None else Some OutOfRange) (sym c.fits.ensures ∙ c.if-not-fits.false)),
      refl,
    )

pub returns-clause-stands : goal.returns-clause-stands
returns-clause-stands c = λ edits h.
    let inside = subst (λ (w : Kept). Stands w edits) (sym c.self.view_is) h in
    let living = lives_of _ edits _ c.args.actor c.in-Some.kept.now inside c.deref.ensures.value c.in-Some.ensures in
    place_set _ edits c.args.actor c.args.prop c.args.value c.in-Some.kept.now c.in-Some-settable_kind.kind
    c.put_moved.new.actors.items inside
    living.is (sym c.cell_place.ensures ∙ c.in_default-cell_place.is)
    (sym c.settable_kind.ensures ∙ c.in-Some-settable_kind.is)
    (sym c.fits.ensures ∙ c.if-not-fits.false)
    (record { len = c.put_moved.ensures.len; each = c.put_moved.ensures.each c.in-Some.kept.now living.is })
