use Rattle.std.proofs.Common.{◌≡◌, ℕ, ◌+◌, ◌<◌, List, length, ap, sym, subst, ◌∙◌, arith, Vec, Global, Option}
use Rattle.std.specs.Prelude.{option_map, IfSome, IsTrue, ℤ}
use Rattle.std.proofs.lemmas.List.{length-map}
use Rattle.std.proofs.lemmas.List.FromFn.{length-map-range_with_len}
use Rattle.protocol_model.specs.Value.{Class, prop_at}
use Rattle.protocol_model.specs.World.{class_of, value_of}
use Rattle.change_model.specs.Changes.{handle_of}
use Rattle.class_members.specs.Members.{prop_of}
use Rattle.class_layout.specs.Tables.{table_in}
use Rattle.value_codec.specs.Values.{whole_of, value_fits}
use Rattle.value_codec.specs.declared.value.Value.{Value}
use Rattle.world_table.specs.Answers.{named_value}
use Rattle.actor_sights.proofs.Fits.{of_more}
use Rattle.actor_sights.proofs.Named.{sampled_more, never_none}
use Rattle.actor_sights.proofs.sampling.sampled.Goals as goal
use Rattle.actor_sights.proofs.sampling.sampled.Goals.{in-Some+in_ok-push, in_default}

pub loop-i-preserved : goal.loop-i-preserved
loop-i-preserved g c = record {
  steps = omega (arith, c.value.ensures.step, c.loop-i.invariant.steps);
  values = λ edits stands spawned class.
      let asked = c.value.ensures.value edits stands
      ∙ ap (named_value (table_in c.args.world.now.layout) edits c.args.actor) c.handle_at.ensures in
      let count : length (class_of (table_in c.args.world.now.layout) edits c.args.actor).props
      ≡ length c.args.class.now.props =
      ap (λ (k : Class). length k.props) class ∙ length-map c.args.class.now.props prop_of in
      let within : c.loop-i.i < length (class_of (table_in c.args.world.now.layout) edits c.args.actor).props + 2 =
      omega (arith, c.loop-i-test.true, count) in
      elim c.match-value.branch [
        | in-Some+in_ok-push w ↦ sampled_more (table_in c.args.world.now.layout) edits c.args.actor c.loop-i.i
            c.loop-i.values.items
            c.match-value.values.items w.in-Some.value (ap (λ (v : Vec Value Global). v.items) w.values-is
            ∙ w.in_ok-push.ensures.items) spawned within
            (ap (option_map whole_of) (sym w.in-Some.is) ∙ asked) (c.loop-i.invariant.values edits stands spawned class)
        | in_default w ↦ absurd (never_none (table_in c.args.world.now.layout) edits c.args.actor c.loop-i.i spawned
            within
            (ap (option_map whole_of) (sym w.in_default.is) ∙ asked))
      ];
  fit = λ edits stands spawned class.
      let asked = c.value.ensures.value edits stands
      ∙ ap (named_value (table_in c.args.world.now.layout) edits c.args.actor) c.handle_at.ensures in
      let before = c.loop-i.invariant.values edits stands spawned class in
      let count : length (class_of (table_in c.args.world.now.layout) edits c.args.actor).props
      ≡ length c.args.class.now.props =
      ap (λ (k : Class). length k.props) class ∙ length-map c.args.class.now.props prop_of in
      let within : c.loop-i.i < length (class_of (table_in c.args.world.now.layout) edits c.args.actor).props + 2 =
      omega (arith, c.loop-i-test.true, count) in
      let many : length c.loop-i.values.items ≡ c.loop-i.i =
      sym (length-map c.loop-i.values.items whole_of) ∙ ap (λ (zs : List ℤ). length zs) before
      ∙ length-map-range_with_len (λ k. value_of (table_in c.args.world.now.layout) edits c.args.actor (handle_of k)) 0
      c.loop-i.i in
      elim c.match-value.branch [
        | in-Some+in_ok-push w ↦ of_more (class_of (table_in c.args.world.now.layout) edits c.args.actor)
            c.loop-i.values.items c.match-value.values.items w.in-Some.value
            (ap (λ (v : Vec Value Global). v.items) w.values-is ∙ w.in_ok-push.ensures.items)
            (c.loop-i.invariant.fit edits stands spawned class)
            (λ p at. subst (λ (o : Option Value). IfSome o (λ (v : Value). IsTrue (value_fits p.kind v))) w.in-Some.is
            (c.value.ensures.fits edits p stands
            (ap (prop_at (class_of (table_in c.args.world.now.layout) edits c.args.actor))
            (c.handle_at.ensures ∙ ap handle_of (sym many)) ∙ at)))
        | in_default w ↦ absurd (never_none (table_in c.args.world.now.layout) edits c.args.actor c.loop-i.i spawned
            within
            (ap (option_map whole_of) (sym w.in_default.is) ∙ asked))
      ];
}
