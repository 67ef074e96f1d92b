use Rattle.std.proofs.Common.{◌≡◌, ℕ, ◌∙◌, ap, sym, refl, arith, length, Some, map, List, true, false}
use Rattle.std.proofs.Math.ListN.{get_or}
use Rattle.std.specs.List.{slice_get, list_all, filter}
use Rattle.std.proofs.lemmas.Option.{slice_get_read}
use Rattle.value_codec.specs.declared.pair.Pair.{Pair}
use Rattle.connection_model.specs.Carry.{is_carried, is_updatable}
use Rattle.sender_records.specs.Handles.{pair_value}
use Rattle.sender_steps.specs.Sights.{seen_value}
use Rattle.sender_steps.proofs.Pairs.{fails_at, passes_more, take_whole}
use Rattle.sender_steps.proofs.settled.have_arrived.Goals as goal

pub returns-then-lacks : goal.returns-then-lacks
returns-then-lacks c = λ past actor samples h opened.
    let at : slice_get c.args.seen.now.values c.loop-pair.pair-index ≡ Some c.pair-item.result =
    slice_get_read c.args.seen.now.values (length c.as_slice-pair-items.result.now) c.loop-pair.pair-index
    c.pair-item.result (ap length c.as_slice-pair-items.ensures) (omega arith)
    (c.pair-item.is ∙ ap (λ (xs : List Pair). get_or xs c.loop-pair.pair-index c.pair-item.result)
    c.as_slice-pair-items.ensures) in
    sym (fails_at (is_carried past actor) (is_updatable (seen_value c.args.classes.now c.args.seen.now)) pair_value
    c.args.seen.now.values c.loop-pair.pair-index c.pair-item.result at
    (sym (c.lacks.ensures past actor samples h opened) ∙ c.if-lacks.true))

pub loop-pair-preserved : goal.loop-pair-preserved
loop-pair-preserved c = λ past actor samples h opened.
    let at : slice_get c.args.seen.now.values c.loop-pair.pair-index ≡ Some c.pair-item.result =
    slice_get_read c.args.seen.now.values (length c.as_slice-pair-items.result.now) c.loop-pair.pair-index
    c.pair-item.result (ap length c.as_slice-pair-items.ensures) (omega arith)
    (c.pair-item.is ∙ ap (λ (xs : List Pair). get_or xs c.loop-pair.pair-index c.pair-item.result)
    c.as_slice-pair-items.ensures) in
    passes_more (is_carried past actor) (is_updatable (seen_value c.args.classes.now c.args.seen.now)) pair_value
    c.args.seen.now.values c.loop-pair.pair-index c.pair-item.result at
    (sym (c.lacks.ensures past actor samples h opened) ∙ c.if-lacks.false)
    (c.loop-pair.invariant past actor samples h opened)

pub returns : goal.returns
returns c = λ past actor samples h opened.
    sym (c.loop-pair.invariant past actor samples h opened)
    ∙ ap (λ (vs : List Pair). list_all (is_carried past actor)
    (filter (is_updatable (seen_value c.args.classes.now c.args.seen.now)) (map pair_value vs)))
    (take_whole c.args.seen.now.values c.loop-pair.pair-index (omega (arith, ap length c.as_slice-pair-items.ensures)))
