use Rattle.std.proofs.Common.{◌≡◌, ℕ, ◌+◌, ◌<◌, ◌≤◌, max, ◌∙◌, ap, sym, refl, arith, length, Some, take, List}
use Rattle.std.specs.List.{slice_get}
use Rattle.std.proofs.lemmas.Option.{slice_get_read}
use Rattle.shadow_changes.specs.declared.change.Change.{Change}
use Rattle.sender_records.specs.Handles.{newest_change}
use Rattle.sender_records.proofs.Writes.{take_step, newest_more}
use Rattle.sender_records.proofs.values.newest.Goals as goal
use Rattle.sender_records.proofs.values.newest.Goals.{then-change-newest, else-change-newest}

more : (before i : ℕ) (changes : List Change) (x : Change) (now later : ℕ) → slice_get changes i ≡ Some x
    → now ≡ newest_change before (take i changes)
    → later ≡ max now x.tick → later ≡ newest_change before (take (i + 1) changes)
more before i changes x now later at h e =
    e ∙ ap (λ (n : ℕ). max n x.tick) h ∙ sym (newest_more before (take i changes) x)
    ∙ ap (newest_change before) (sym (take_step changes i x at))

greater : (a b : ℕ) → a < b → b ≡ max a b
greater a b h = omega arith

lesser : (a b : ℕ) → b ≤ a → a ≡ max a b
lesser a b h = omega arith

pub loop-change-preserved : goal.loop-change-preserved
loop-change-preserved c =
    let at : slice_get c.args.changes.now c.loop-change.change-index ≡ Some c.change-item.result =
    slice_get_read c.args.changes.now (length c.args.changes.now) c.loop-change.change-index c.change-item.result refl
    (omega arith) c.change-item.is in
    elim c.if-change-newest.branch [
      | then-change-newest w ↦ more c.args.before c.loop-change.change-index c.args.changes.now c.change-item.result
          c.loop-change.newest c.if-change-newest.newest at c.loop-change.invariant
          (w.newest-is ∙ greater c.loop-change.newest c.change-item.result.tick w.if-change-newest.true)
      | else-change-newest w ↦ more c.args.before c.loop-change.change-index c.args.changes.now c.change-item.result
          c.loop-change.newest c.if-change-newest.newest at c.loop-change.invariant
          (w.newest-is ∙ lesser c.loop-change.newest c.change-item.result.tick w.if-change-newest.false)
    ]
