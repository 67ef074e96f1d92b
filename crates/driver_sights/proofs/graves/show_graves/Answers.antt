use Rattle.std.proofs.Common.{◌≡◌, ◌+◌, List, length, Some, refl, sym, ap, ◌∙◌, subst, arith, Vec, Global}
use Rattle.std.specs.Prelude.{slice_get}
use Rattle.std.specs.List.{AllByRecursion}
use Rattle.std.proofs.lemmas.Option.{slice_get_read}
use Rattle.std.proofs.lemmas.List.{take_all}
use Rattle.connection_model.specs.State.{is_closed}
use Rattle.class_layout.specs.Tables.{table_in}
use Rattle.sender_records.specs.Life.{state_value}
use Rattle.sender_steps.specs.declared.sight.Seen.{Seen}
use Rattle.sender_steps.specs.Sights.{sight_value}
use Rattle.driver_laws.specs.Given.{given_sight}
use Rattle.driver_sights.specs.declared.graves.Grave.{Grave}
use Rattle.driver_sights.specs.Graves.{IsGrave, is_left}
use Rattle.driver_sights.specs.Looking.{IsMade}
use Rattle.driver_sights.proofs.Buried.{grave_at, one_shown, none_shown, left_open, left_closed}
use Rattle.driver_sights.proofs.graves.show_graves.Goals as goal
use Rattle.driver_sights.proofs.graves.show_graves.Goals.{then-is_unclosed+in_ok-put_grave, else-is_unclosed}

pub loop-grave-preserved : goal.loop-grave-preserved
loop-grave-preserved c = record {
  given = λ layout edits player past kept keeps graves start.
      let before = c.loop-grave.invariant.given layout edits player past kept keeps graves start in
      elim c.if-is_unclosed.branch [
        | then-is_unclosed+in_ok-put_grave w ↦ one_shown layout edits player past c.args.graves.now
            c.loop-grave.grave-index (c.loop-grave.grave-index + 1) c.grave-item.result _ _ refl graves there
            (ap is_closed (sym (c.state.ensures past kept keeps))
            ∙ left_open c.is_unclosed.result (is_closed (state_value c.state.result)) c.is_unclosed.ensures
            w.if-is_unclosed.true)
            (ap (λ (v : Vec Seen Global). sight_value layout v.items) w.sight-is
            ∙ w.in_ok-put_grave.ensures.given layout edits
            (grave_at (IsGrave layout edits) c.args.graves.now c.loop-grave.grave-index c.grave-item.result graves.each
            there))
            before
        | else-is_unclosed w ↦ none_shown layout edits player past c.args.graves.now
            c.loop-grave.grave-index (c.loop-grave.grave-index + 1) c.grave-item.result _ _ refl there
            (ap is_closed (sym (c.state.ensures past kept keeps))
            ∙ left_closed c.is_unclosed.result (is_closed (state_value c.state.result)) c.is_unclosed.ensures
            w.if-is_unclosed.false)
            (ap (λ (v : Vec Seen Global). sight_value layout v.items) w.sight-is)
            before
      ];
  made = λ layout edits graves start.
      let before = c.loop-grave.invariant.made layout edits graves start in
      elim c.if-is_unclosed.branch [
        | then-is_unclosed+in_ok-put_grave w ↦
            subst (λ (v : Vec Seen Global). AllByRecursion (IsMade layout) v.items) (sym w.sight-is)
            (w.in_ok-put_grave.ensures.made layout edits
            (grave_at (IsGrave layout edits) c.args.graves.now c.loop-grave.grave-index c.grave-item.result graves.each
            there) before)
        | else-is_unclosed w ↦
            subst (λ (v : Vec Seen Global). AllByRecursion (IsMade layout) v.items) (sym w.sight-is) before
      ];
}
  where
    there : slice_get c.args.graves.now c.loop-grave.grave-index ≡ Some c.grave-item.result
    there = slice_get_read c.args.graves.now (length c.args.graves.now) c.loop-grave.grave-index
        c.grave-item.result refl
        (omega (arith, c.loop-grave-test.true)) c.grave-item.is

pub returns-clause-given : goal.returns-clause-given
returns-clause-given c = λ layout edits player past kept keeps graves start.
    c.loop-grave.invariant.given layout edits player past kept keeps graves start
    ∙ ap (λ (gs : List Grave). given_sight (table_in layout) edits player past (is_left gs past))
    (take_all c.loop-grave.grave-index c.args.graves.now (omega (arith, c.loop-grave-test.false)))
