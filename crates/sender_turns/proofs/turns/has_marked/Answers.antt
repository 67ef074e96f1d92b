use Rattle.std.proofs.Common.{◌≡◌, ◌∙◌, ap, sym, arith, length, Some, map, List, not, ◌&&◌}
use Rattle.std.proofs.Math.ListN.{get_or}
use Rattle.std.specs.List.{slice_get, list_all, filter}
use Rattle.std.proofs.lemmas.Option.{slice_get_read}
use Rattle.protocol_model.specs.Value.{Class}
use Rattle.protocol_model.specs.Value.{Pair as PairSpec}
use Rattle.value_codec.specs.declared.pair.Pair.{Pair}
use Rattle.connection_model.specs.Carry.{is_updatable, updatable_pairs}
use Rattle.sender_records.specs.Handles.{pair_value, handle_in, is_updatable_in}
use Rattle.sender_steps.specs.Sights.{seen_value}
use Rattle.sender_turns.proofs.Comparing.{some_left, marked_fails}
use Rattle.sender_steps.proofs.Pairs.{fails_at, passes_more, take_whole}
use Rattle.sender_turns.proofs.turns.has_marked.Goals as goal

pub returns-then-is_due : goal.returns-then-is_due
returns-then-is_due c = λ layout class.
    let at : slice_get c.args.seen.now.values c.loop-pair.pair-index ≡ Some c.pair-item.result =
    slice_get_read c.args.seen.now.values (length c.as_slice-pair-items.result.now) c.loop-pair.pair-index
    c.pair-item.result (ap length c.as_slice-pair-items.ensures) (omega arith)
    (c.pair-item.is ∙ ap (λ (xs : List Pair). get_or xs c.loop-pair.pair-index c.pair-item.result)
    c.as_slice-pair-items.ensures) in
    sym (some_left (λ (p : PairSpec). (handle_in c.args.handles.now.handles p.handle).marked)
    (updatable_pairs (seen_value layout c.args.seen.now))
    ∙ ap not (fails_at (λ (p : PairSpec). not (handle_in c.args.handles.now.handles p.handle).marked)
    (is_updatable (seen_value layout c.args.seen.now)) pair_value c.args.seen.now.values c.loop-pair.pair-index
    c.pair-item.result at
    (marked_fails c.is_due.result _ _ (c.is_due.ensures layout.segments
    ∙ ap (λ (k : Class). is_updatable_in k c.args.seen.now.owns c.pair-item.result.prop &&
    (handle_in c.args.handles.now.handles c.pair-item.result.prop).marked) (sym class)) ∙ c.if-is_due.true)))

pub loop-pair-preserved : goal.loop-pair-preserved
loop-pair-preserved c = λ layout class.
    let at : slice_get c.args.seen.now.values c.loop-pair.pair-index ≡ Some c.pair-item.result =
    slice_get_read c.args.seen.now.values (length c.as_slice-pair-items.result.now) c.loop-pair.pair-index
    c.pair-item.result (ap length c.as_slice-pair-items.ensures) (omega arith)
    (c.pair-item.is ∙ ap (λ (xs : List Pair). get_or xs c.loop-pair.pair-index c.pair-item.result)
    c.as_slice-pair-items.ensures) in
    passes_more (λ (p : PairSpec). not (handle_in c.args.handles.now.handles p.handle).marked)
    (is_updatable (seen_value layout c.args.seen.now)) pair_value c.args.seen.now.values c.loop-pair.pair-index
    c.pair-item.result at
    (marked_fails c.is_due.result _ _ (c.is_due.ensures layout.segments
    ∙ ap (λ (k : Class). is_updatable_in k c.args.seen.now.owns c.pair-item.result.prop &&
    (handle_in c.args.handles.now.handles c.pair-item.result.prop).marked) (sym class)) ∙ c.if-is_due.false)
    (c.loop-pair.invariant layout class)

pub returns : goal.returns
returns c = λ layout class.
    sym (some_left (λ (p : PairSpec). (handle_in c.args.handles.now.handles p.handle).marked)
    (updatable_pairs (seen_value layout c.args.seen.now))
    ∙ ap not (sym (ap (λ (vs : List Pair). list_all (λ (p : PairSpec). not
    (handle_in c.args.handles.now.handles p.handle).marked)
    (filter (is_updatable (seen_value layout c.args.seen.now)) (map pair_value vs)))
    (take_whole c.args.seen.now.values c.loop-pair.pair-index
    (omega (arith, ap length c.as_slice-pair-items.ensures)))) ∙ c.loop-pair.invariant layout class))
