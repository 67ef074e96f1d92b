use Rattle.std.proofs.Common.{◌≡◌, ◌∙◌, ap, sym, arith, length, Some, List, [], ◌∷◌, ◌++◌, Bool, true, false, Vec, Global}
use Rattle.std.proofs.Math.ListN.{get_or}
use Rattle.std.specs.List.{slice_get, filter}
use Rattle.std.proofs.lemmas.Option.{slice_get_read}
use Rattle.value_codec.specs.declared.pair.Pair.{Pair}
use Rattle.class_layout.specs.Tables.{class_of}
use Rattle.sender_turns.specs.Updating.{is_marked_value}
use Rattle.sender_steps.proofs.Pairs.{take_whole}
use Rattle.sender_turns.proofs.Serving.{filter_in, filter_out}
use Rattle.sender_turns.proofs.updating.marked_values.Goals.{then-is_due+in_ok-push, else-is_due}
use Rattle.sender_turns.proofs.updating.marked_values.Goals as goal

pub loop-pair-preserved : goal.loop-pair-preserved
loop-pair-preserved c = λ segments.
    let at : slice_get c.args.seen.now.values c.loop-pair.pair-index ≡ Some c.pair-item.result =
    slice_get_read c.args.seen.now.values (length c.as_slice-pair-items.result.now) c.loop-pair.pair-index
    c.pair-item.result (ap length c.as_slice-pair-items.ensures) (omega arith)
    (c.pair-item.is ∙ ap (λ (xs : List Pair). get_or xs c.loop-pair.pair-index c.pair-item.result)
    c.as_slice-pair-items.ensures) in
    let goes = λ (b : Bool) (q : c.is_due.result ≡ b). sym (c.is_due.ensures segments) ∙ q in
    elim c.if-is_due.branch [
      | then-is_due+in_ok-push w ↦
          ap (λ (v : Vec Pair Global). v.items) w.due-is ∙ w.in_ok-push.ensures.items
          ∙ ap (λ (xs : List Pair). xs ++ c.pair-item.result ∷ []) (c.loop-pair.invariant segments)
          ∙ sym (filter_in (is_marked_value (class_of segments c.args.class.now) c.args.seen.now.owns
          c.args.handles.now)
          c.args.seen.now.values c.loop-pair.pair-index c.pair-item.result at (goes true w.if-is_due.true))
      | else-is_due w ↦
          ap (λ (v : Vec Pair Global). v.items) w.due-is ∙ c.loop-pair.invariant segments
          ∙ sym (filter_out (is_marked_value (class_of segments c.args.class.now) c.args.seen.now.owns
          c.args.handles.now)
          c.args.seen.now.values c.loop-pair.pair-index c.pair-item.result at (goes false w.if-is_due.false))
    ]

pub returns : goal.returns
returns c = λ segments.
    c.loop-pair.invariant segments
    ∙ ap (filter (is_marked_value (class_of segments c.args.class.now) c.args.seen.now.owns c.args.handles.now))
    (take_whole c.args.seen.now.values c.loop-pair.pair-index (omega (
      arith,
      ap length
          c.as_slice-pair-items.ensures,
    )))
