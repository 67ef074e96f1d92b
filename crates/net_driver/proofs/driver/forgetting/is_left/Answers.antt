use Rattle.std.proofs.Common.{◌≡◌, ◌+◌, Some, length, refl, sym, ◌∙◌, arith}
use Rattle.std.specs.List.{slice_get}
use Rattle.std.proofs.lemmas.Option.{slice_get_read}
use Rattle.net_driver.proofs.Forgetting.{next_seat, left_here, left_next, none_left}
use Rattle.net_driver.proofs.Seats.{count}
use Rattle.net_driver.proofs.driver.forgetting.is_left.Goals as goal

pub loop-chair-init : goal.loop-chair-init
loop-chair-init c = λ table edits samples greatest seats h. refl

pub loop-chair-preserved : goal.loop-chair-preserved
loop-chair-preserved c = λ table edits samples greatest seats h.
    let at : slice_get c.args.chairs.now c.loop-chair.chair-index ≡ Some c.chair-item.result =
    slice_get_read c.args.chairs.now (length c.args.chairs.now) c.loop-chair.chair-index c.chair-item.result refl
    (omega arith) c.chair-item.is in
    let n = next_seat table edits samples greatest c.args.ends.now.slots c.loop-chair.chair-index c.chair-item.result
    c.args.chairs.now seats h at in
    c.loop-chair.invariant table edits samples greatest seats h
    ∙ left_next table c.args.actor c.loop-chair.chair-index (c.loop-chair.chair-index + 1) n.seat seats refl n.front
    (sym (c.is_left_at.ensures table edits samples greatest n.seat n.seated) ∙ c.if-is_left_at.false)

pub returns-then-is_left_at : goal.returns-then-is_left_at
returns-then-is_left_at c = λ table edits samples greatest seats h.
    let at : slice_get c.args.chairs.now c.loop-chair.chair-index ≡ Some c.chair-item.result =
    slice_get_read c.args.chairs.now (length c.args.chairs.now) c.loop-chair.chair-index c.chair-item.result refl
    (omega arith) c.chair-item.is in
    let n = next_seat table edits samples greatest c.args.ends.now.slots c.loop-chair.chair-index c.chair-item.result
    c.args.chairs.now seats h at in
    sym (c.loop-chair.invariant table edits samples greatest seats h
    ∙ left_here table c.args.actor c.loop-chair.chair-index n.seat seats n.front
    (sym (c.is_left_at.ensures table edits samples greatest n.seat n.seated) ∙ c.if-is_left_at.true))

pub returns : goal.returns
returns c = λ table edits samples greatest seats h.
    sym (c.loop-chair.invariant table edits samples greatest seats h
    ∙ none_left table c.args.actor c.loop-chair.chair-index seats
    (let l = count table edits samples greatest c.args.ends.now.slots c.args.chairs.now seats h in omega (arith, l)))
