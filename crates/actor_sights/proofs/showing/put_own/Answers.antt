use Rattle.std.proofs.Common.{◌≡◌, ◌+◌, ◌++◌, ◌∷◌, [], List, length, get_or, map, Some, refl, sym, ap, ◌∙◌, append_assoc, arith}
use Rattle.std.specs.Prelude.{slice_get, option_map}
use Rattle.std.proofs.lemmas.Option.{slice_get_read, slice_get-map}
use Rattle.std.proofs.lemmas.List.{length-map, take_all}
use Rattle.protocol_model.specs.Value.{Class, Prop, Pair, prop_at, numbered_from}
use Rattle.protocol_model.specs.World.{class_of}
use Rattle.class_members.specs.Members.{prop_of}
use Rattle.class_members.specs.declared.members.Prop.{Prop as PropValue}
use Rattle.class_layout.specs.Tables.{table_in}
use Rattle.class_layout.specs.Tables.{class_of as class_value}
use Rattle.sender_records.specs.Handles.{pairs_of}
use Rattle.actor_sights.specs.Visible.{visible_among}
use Rattle.actor_sights.proofs.Property.{own_at}
use Rattle.actor_sights.proofs.Among.{among_more}
use Rattle.actor_sights.proofs.showing.put_own.Goals as goal

pub loop-i-preserved : goal.loop-i-preserved
loop-i-preserved c = record {
  pairs = λ edits player stands own class values.
      let p : Prop = prop_of c.prop-item.result in
      let there : slice_get (map prop_of c.args.class.now.props) c.loop-i.i ≡ Some p =
      slice_get-map prop_of c.args.class.now.props c.loop-i.i
      ∙ ap (option_map prop_of) (slice_get_read c.args.class.now.props
      (length c.args.class.now.props) c.loop-i.i c.prop-item.result refl
      (let n = ap (λ (ps : List PropValue). length ps) c.as_slice-prop-items.ensures in omega (n, arith))
      (c.prop-item.is ∙ ap (λ (ps : List PropValue). get_or ps c.loop-i.i c.prop-item.result)
      c.as_slice-prop-items.ensures)) in
      let at : prop_at (class_of (table_in c.args.world.now.layout) edits c.args.actor) (c.loop-i.i + 4) ≡ Some p =
      ap (λ (k : Class). prop_at k (c.loop-i.i + 4)) class
      ∙ own_at (class_value c.args.world.now.layout.segments c.args.class.now) c.loop-i.i p there in
      c.in_ok-put_property.ensures.pairs edits player p stands own at refl values
      ∙ ap (λ (ps : List Pair). ps ++ visible_among (table_in c.args.world.now.layout) edits player c.args.actor
      ((c.loop-i.i + 4, p) ∷ []))
      (c.loop-i.invariant.pairs edits player stands own class values)
      ∙ append_assoc (pairs_of c.args.pairs.now) _ _
      ∙ ap (λ (ps : List Pair). pairs_of c.args.pairs.now ++ ps)
      (sym (among_more (table_in c.args.world.now.layout) edits player c.args.actor c.loop-i.i (c.loop-i.i + 4)
      (map prop_of c.args.class.now.props) p there refl));
  fit = λ k is values fit.
      let p : Prop = prop_of c.prop-item.result in
      let there : slice_get (map prop_of c.args.class.now.props) c.loop-i.i ≡ Some p =
      slice_get-map prop_of c.args.class.now.props c.loop-i.i
      ∙ ap (option_map prop_of) (slice_get_read c.args.class.now.props
      (length c.args.class.now.props) c.loop-i.i c.prop-item.result refl
      (let n = ap (λ (ps : List PropValue). length ps) c.as_slice-prop-items.ensures in omega (n, arith))
      (c.prop-item.is ∙ ap (λ (ps : List PropValue). get_or ps c.loop-i.i c.prop-item.result)
      c.as_slice-prop-items.ensures)) in
      c.in_ok-put_property.ensures.fit k p
      (ap (λ (k : Class). prop_at k (c.loop-i.i + 4)) is
      ∙ own_at (class_value c.args.world.now.layout.segments c.args.class.now) c.loop-i.i p there) values
      (c.loop-i.invariant.fit k is values fit);
}

pub returns-clause-pairs : goal.returns-clause-pairs
returns-clause-pairs c = λ edits player stands own class values.
    c.loop-i.invariant.pairs edits player stands own class values
    ∙ ap (λ (ps : List Prop). pairs_of c.args.pairs.now
    ++ visible_among (table_in c.args.world.now.layout) edits player c.args.actor (numbered_from 4 ps))
    (take_all c.loop-i.i (map prop_of c.args.class.now.props)
    (let l = length-map c.args.class.now.props prop_of in
    let n = ap (λ (ps : List PropValue). length ps) c.as_slice-prop-items.ensures in omega (l, n, arith)))
