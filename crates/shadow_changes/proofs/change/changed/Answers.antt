use Rattle.std.proofs.Common.{sym, ap, ◌∙◌, ◌≡◌, ◌+◌, ◌∷◌, ◌++◌, [], List, arith}
use Rattle.std.specs.Prelude.{slice_get, filter_map}
use Rattle.std.specs.List.{range_with_len}
use Rattle.std.proofs.lemmas.Option.{slice_get-get_or}
use Rattle.shadow_changes.specs.declared.change.Change.{Change}
use Rattle.shadow_changes.specs.Lists.{changed_at, is_changed}
use Rattle.shadow_changes.proofs.Ranges.{filter_map_some, filter_map_same}
use Rattle.shadow_changes.proofs.Steps.{changed_is, changed_some, changed_none}
use Rattle.shadow_changes.proofs.Writing.{get_last, next_last}
use Rattle.shadow_changes.proofs.change.changed.Goals as goal
use Rattle.shadow_changes.proofs.change.changed.Goals.{then-branch+in_ok-push, else-branch}

pub loop-i-preserved : goal.loop-i-preserved
loop-i-preserved c =
    let i = c.loop-i.i in
    let old = c.args.last.now.items in
    let last = c.loop-i.last.items in
    let values = c.args.values.now in
    let tested : is_changed old values i ≡ c.in_ok-set_value.field-0 =
    changed_is old values i _ (slice_get last i) (slice_get-get_or values i _ (omega arith)) (sym
    (get_last old last values i (omega arith) c.loop-i.invariant.1))
    ∙ sym c.in_ok-set_value.ensures.other in
    let listed : c.if-branch.changes ≡ filter_map (changed_at old values c.args.tick) (range_with_len 0 (i + 1)) =
    elim c.if-branch.branch [
      | then-branch+in_ok-push w ↦
          let new : Change = record { prop = w.handle_at-prop.result; tick = c.args.tick } in
          let pushed : w.push.new.self ≡ c.loop-i.changes ++ new ∷ [] = w.in_ok-push.ensures.ok in
          w.changes-is ∙ pushed ∙ ap (λ (cs : List Change). cs ++ new ∷ []) c.loop-i.invariant.0
          ∙ sym (filter_map_some (changed_at old values c.args.tick) i new
          (changed_some old values c.args.tick i w.handle_at-prop.result (tested
          ∙ w.if-branch.true) w.handle_at-prop.ensures))
      | else-branch w ↦
          w.changes-is ∙ c.loop-i.invariant.0
          ∙ sym (filter_map_same (changed_at old values c.args.tick) i (changed_none old values c.args.tick i
          (tested ∙ w.if-branch.false)))
    ] in (
      listed,
      c.in_ok-set_value.ensures.set
          ∙ next_last old last values i _ (omega arith) c.loop-i.invariant.1 (slice_get-get_or values i _
          (omega arith)),
    )
