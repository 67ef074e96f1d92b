use Rattle.std.proofs.Common.{◌≡◌, ◌∙◌, Some, sym, ap, subst, option_map}
use Rattle.protocol_model.specs.Value.{prop_at}
use Rattle.protocol_model.specs.World.{class_of}
use Rattle.class_layout.specs.Tables.{table_in}
use Rattle.value_codec.specs.Values.{whole_of}
use Rattle.world_table.specs.Kept.{Kept, actor_at}
use Rattle.world_table.specs.Stands.{Stands}
use Rattle.world_table.proofs.Asked.{value_is}
use Rattle.world_table.proofs.Fitting.{fits_is}
use Rattle.world_table.proofs.world.World.value.Goals as goal

pub returns-clause-value : goal.returns-clause-value
returns-clause-value g c = λ edits h.
    let inside = subst (λ (w : Kept). Stands w edits) (sym c.self.view_is) h in
    let found = subst (λ (w : Kept). Some c.in_ok-kept.kept.now ≡ actor_at w.actors c.args.actor)
    (sym c.self.view_is) c.in_ok-kept.ensures.found in
    let got = rw c.deref.ensures.value at c.value_for.ensures.value in
    rw (← c.self.view_is)
    (ap (option_map whole_of) got ∙ value_is _ edits c.args.actor c.args.prop c.in_ok-kept.kept.now inside found)

pub returns-clause-fits : goal.returns-clause-fits
returns-clause-fits g c = λ edits p h at_prop.
    let inside = subst (λ (w : Kept). Stands w edits) (sym c.self.view_is) h in
    let found = subst (λ (w : Kept). Some c.in_ok-kept.kept.now ≡ actor_at w.actors c.args.actor)
    (sym c.self.view_is) c.in_ok-kept.ensures.found in
    let got = rw c.deref.ensures.value at c.value_for.ensures.value in
    fits_is _ edits c.args.actor c.args.prop p c.in_ok-kept.kept.now c.value_for.result inside
    c.keeps_rules.ensures.layout
    (subst (λ (w : Kept). prop_at (class_of (table_in w.layout) edits c.args.actor) c.args.prop ≡ Some p)
    (sym c.self.view_is) at_prop)
    found got c.value_for.ensures.place
