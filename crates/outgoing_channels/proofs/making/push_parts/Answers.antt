use Rattle.std.proofs.Common.{◌∙◌, ◌+◌, ◌-◌, [], ◌∷◌, ap, sym, refl, arith, slice_get, length, length-append, length-drop}
use Rattle.outgoing_channels.specs.Made.{part_made, uncarried}
use Rattle.outgoing_channels.proofs.Pieces.{parts_are, parts_more, one_more, last_one, popped}
use Rattle.outgoing_channels.proofs.making.push_parts.Goals as goal
use Rattle.outgoing_channels.proofs.making.push_parts.Goals.{in-Some, in_default}

pub returns-clause-before : goal.returns-clause-before
returns-clause-before c = λ j low.
    c.loop-i.invariant.before j (omega arith) ∙ ap (λ (w : _). slice_get w.slots j) c.push_part.ensures
    ∙ one_more c.args.window.now.slots _ j low

pub returns-clause-parts : goal.returns-clause-parts
returns-clause-parts c = λ payload e pieces j low.
    rw (sym c.next-number.ensures) (parts_are c.args.mark c.args.channel c.args.len payload c.args.first c.args.rest.items (length c.args.window.now.slots) c.next-number.result c.loop-i.i c.loop-i.window.slots e pieces
    (c.loop-i.invariant.before (length c.args.window.now.slots) (omega arith) ∙ ap (λ (w : _). slice_get w.slots (length c.args.window.now.slots)) c.push_part.ensures ∙ last_one c.args.window.now.slots _ _ refl)
    c.loop-i.invariant.parts (omega arith) j low)

pub loop-i-preserved : goal.loop-i-preserved
loop-i-preserved c = elim c.match-pop_front.branch [
  | in-Some w ↦ (
      let inv = c.loop-i.invariant in
      let whole = w.window-is ∙ w.push_part-in-Some.ensures in
      let slots = ap (λ (u : _). u.slots) whole in
      let p = popped c.args.rest.items c.loop-i.rest.items c.pop_front.new.self.items c.loop-i.i w.in-Some.bits (omega arith) inv.rest w.in-Some.ensures.items in record {
        first = ap (λ (u : _). u.first) whole ∙ inv.first;
        told = ap (λ (u : _). u.told) whole ∙ inv.told;
        rest = p.1;
        count = omega (arith, ap length slots, length-append c.loop-i.window.slots (uncarried (part_made c.args.mark c.args.channel c.args.len w.in-Some.bits (c.next-number.result + c.loop-i.i) c.loop-i.i) ∷ []), inv.count);
        before = λ j low. ap (λ (xs : _). slice_get xs j) slots ∙ one_more c.loop-i.window.slots _ j (omega (arith, inv.count)) ∙ inv.before j low;
        parts = parts_more c.args.mark c.args.channel c.args.len c.args.rest.items (length c.args.window.now.slots) c.next-number.result c.loop-i.i c.loop-i.window.slots c.match-pop_front.window.slots w.in-Some.bits slots inv.count (omega arith) p.0 inv.parts;
      })
  | in_default w ↦ absurd (omega (arith, ap length c.loop-i.invariant.rest, ap length w.in_default.ensures.items, length-drop (c.loop-i.i - 1) c.args.rest.items, w.in_default.ensures.len, w.in_default.ensures.cases))
]
