use Rattle.std.proofs.Common.{subst, sym, length, refl, arith}
use Rattle.std.proofs.lemmas.Option.{slice_get_read}
use Rattle.shadow_changes.proofs.Putting.{IsPutOver, put_over}
use Rattle.shadow_changes.proofs.noted.note_all.Goals as goal

pub loop-change-preserved : goal.loop-change-preserved
loop-change-preserved c = λ count newest old newer.
    let i = c.loop-change.change-index in
    let x = c.change-item.result in
    let before = c.loop-change.invariant count newest old newer in
    subst (IsPutOver count newest _ c.args.changes.now.items c.args.newer.now) (sym
    (c.in_ok-note.ensures count newest before.listed))
    (put_over count newest i c.args.changes.now.items c.args.newer.now c.loop-change.changes.items x newer
    (slice_get_read c.args.newer.now (length c.args.newer.now) i x refl (omega arith) c.change-item.is) before)
