use Rattle.std.proofs.Common.{◌≡◌, ◌<◌, ◌≤◌, [], ap, arith, slice_get, ⊎_elim}
use Rattle.std.proofs.lemmas.Bool.{cases_lt}
use Rattle.std.proofs.lemmas.List.{get_or_past}
use Rattle.outgoing_channels.specs.Slots.{slot_at, kept_of, empty_slot}
use Rattle.outgoing_channels.proofs.Settled.{unmarked}
use Rattle.outgoing_channels.proofs.channels.due_from.Goals as goal

pub returns : goal.returns
returns c = λ k lo i s at over. ⊎_elim
    (λ (h : k < c.loop-next.at). c.loop-next.invariant.none k lo h i s at over)
    (λ (h : c.loop-next.at ≤ k).
    let none : kept_of (slot_at c.args.slots.now.items k) ≡ [] = ⊎_elim
    (λ (low : k < 32768). unmarked c.args.active.now c.args.slots.now.items k c.requires.marks low (c.in_default.ensures.none k h))
    (λ (high : 32768 ≤ k). ap kept_of (get_or_past c.args.slots.now.items k empty_slot (omega (arith, c.requires.most))))
    (cases_lt k 32768) in
    absurd (let e = ap (λ (xs : _). slice_get xs i) none in cc (e, at)))
    (cases_lt k c.loop-next.at)
