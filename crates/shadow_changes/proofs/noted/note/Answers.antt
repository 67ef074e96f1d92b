use Rattle.std.proofs.Common.{sym, subst, ◌∙◌, ◌≤◌, arith, length, List}
use Rattle.std.proofs.lemmas.Option.{slice_get_read}
use Rattle.std.proofs.Common.{refl}
use Rattle.shadow_changes.specs.declared.change.Change.{Change}
use Rattle.shadow_changes.proofs.Putting.{put_set, put_insert, placed, none_past, no_other}
use Rattle.shadow_changes.proofs.noted.note.Goals as goal
use Rattle.shadow_changes.proofs.noted.note.Goals.{else-place-len-via-then-place-len+else-eq, else-place-len-via-else-place-len}

pub returns-then-eq : goal.returns-then-eq
returns-then-eq c = λ count newest l.
    let xs = c.args.changes.now.items in
    let p = c.place_of-place.result in
    put_set xs p c.args.change c.index.result.now
    (placed xs c.as_slice.result.now p c.args.change.prop count newest c.as_slice.ensures.value c.place_of-place.ensures.place l)
    (slice_get_read xs (length xs) p c.index.result.now refl (omega arith) c.index.ensures) (sym c.eq.ensures
    ∙ c.if-eq.true)

pub returns : goal.returns
returns c = λ count newest l.
    let xs = c.args.changes.now.items in
    let p = c.place_of-place.result in
    let at = placed xs c.as_slice.result.now p c.args.change.prop count newest c.as_slice.ensures.value c.place_of-place.ensures.place l in
    let low : p ≤ length xs = subst (λ
    (ys : List Change). p ≤ length ys) c.as_slice.ensures.value c.place_of-place.ensures.bound in
    c.in_ok-insert.ensures.items
    ∙ elim c.else-place-len.branch [
      | else-place-len-via-then-place-len+else-eq w ↦
          put_insert xs p c.args.change at low
          (no_other xs p c.args.change.prop w.index.result.now w.index.ensures (sym w.eq.ensures ∙ w.if-eq.false))
      | else-place-len-via-else-place-len w ↦
          put_insert xs p c.args.change at low (none_past xs p c.args.change.prop (omega arith))
    ]
