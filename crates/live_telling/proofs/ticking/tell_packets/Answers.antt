use Rattle.std.proofs.Common.{◌≡◌, List, [], ◌∷◌, length, refl, sym, ap, ◌∙◌, subst, append_assoc, append-nil, arith}
use Rattle.std.specs.List.{flat_map}
use Rattle.std.specs.Vec.Iter.{into_iter_items}
use Rattle.link_end.specs.declared.sent.Sent.{Sent}
use Rattle.live_acts.specs.Acts.{AddsActs}
use Rattle.live_telling.specs.Ticked.{packet_acts}
use Rattle.live_telling.proofs.Adding.{adds_more}
use Rattle.live_telling.proofs.ticking.tell_packets.Goals as goal

nothing_left : (l : List Sent) → length l ≡ 0 → l ≡ []
nothing_left [] h = refl
nothing_left (x ∷ xs) h = absurd (omega arith)

pub loop-packet-preserved : goal.loop-packet-preserved
loop-packet-preserved c =
    let at = c.loop-packet in
    let x = c.in-Some.packet in
    let steps : into_iter_items at.packet-iterator ≡ x ∷ into_iter_items c.next.new.self = c.in-Some.ensures.steps.0 in
    record {
      left = append_assoc at.yielded (x ∷ []) _ ∙ rw (← steps) at.invariant.left;
      short = (let was = at.invariant.short in let gone = c.in-Some.ensures.steps.1 in let shorter = ap length steps in
          omega arith);
      told = adds_more (packet_acts c.args.teller.now) _ _ _ at.yielded x at.invariant.told c.in_ok-tell_sent.ensures;
    }

pub returns : goal.returns
returns c =
    let at = c.loop-packet in
    let none = c.in-None.ensures.steps in
    let empty : into_iter_items at.packet-iterator ≡ [] = nothing_left _ (sym at.invariant.short ∙ none.0) in
    let all : at.yielded ≡ c.args.sent = sym (append-nil at.yielded) ∙ rw empty at at.invariant.left in
    subst (λ (l : List Sent). AddsActs c.args.acts.now c.loop-packet.acts (flat_map (packet_acts c.args.teller.now) l)) all
    at.invariant.told
