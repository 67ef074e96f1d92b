use Rattle.std.proofs.Common.{◌≡◌, ℕ, List, [], ◌∷◌, ◌++◌, map, length, refl, sym, ap, ◌∙◌, subst, append_assoc, append-nil, arith}
use Rattle.std.proofs.lemmas.List.{map-append}
use Rattle.std.specs.Vec.Iter.{into_iter_items}
use Rattle.link_end.specs.declared.sent.Sent.{Sent}
use Rattle.replay_places.specs.Doing.{Adds, bytes_of, sent_report, side_of}
use Rattle.replay_places.proofs.Ticked.{adds_both}
use Rattle.replay_places.proofs.sending.keep.Goals as goal

nothing_left : (l : List Sent) → length l ≡ 0 → l ≡ []
nothing_left [] h = refl
nothing_left (x ∷ xs) h = absurd (omega arith)

pub loop-packet-preserved : goal.loop-packet-preserved
loop-packet-preserved c =
    let at = c.loop-packet in
    let x = c.in-Some.packet in
    let steps : into_iter_items at.packet-iterator ≡ x ∷ into_iter_items c.next.new.self = c.in-Some.ensures.steps.0 in
    let side = side_of c.args.sender in
    record {
      left = append_assoc at.yielded (x ∷ []) _ ∙ rw (← steps) at.invariant.left;
      short = (let was = at.invariant.short in let gone = c.in-Some.ensures.steps.1 in let shorter = ap length steps in
          omega arith);
      kept = c.in_ok-keep_one.ensures.kept ∙ ap (λ (l : List (List ℕ)). l ++ x.bytes ∷ []) at.invariant.kept
          ∙ append_assoc c.args.packets.now (map bytes_of at.yielded) (x.bytes ∷ [])
          ∙ ap (λ (l : List (List ℕ)). c.args.packets.now ++ l) (sym (map-append bytes_of at.yielded (x ∷ [])));
      told = λ table. subst (Adds table c.args.events.now c.keep_one.new.events)
          (sym (map-append (sent_report side c.args.player) at.yielded (x ∷ [])))
          (adds_both table c.args.events.now c.loop-packet.events c.keep_one.new.events
          (map (sent_report side c.args.player) at.yielded) (sent_report side c.args.player x ∷ [])
          (at.invariant.told table) (c.in_ok-keep_one.ensures.told table));
    }

pub returns-clause-kept : goal.returns-clause-kept
returns-clause-kept c =
    let at = c.loop-packet in
    let none = c.in-None.ensures.steps in
    let empty : into_iter_items at.packet-iterator ≡ [] = nothing_left _ (sym at.invariant.short ∙ none.0) in
    let all : at.yielded ≡ c.args.sent = sym (append-nil at.yielded) ∙ rw empty at at.invariant.left in
    at.invariant.kept ∙ ap (λ (l : List Sent). c.args.packets.now ++ map bytes_of l) all

pub returns-clause-told : goal.returns-clause-told
returns-clause-told c =
    let at = c.loop-packet in
    let none = c.in-None.ensures.steps in
    let empty : into_iter_items at.packet-iterator ≡ [] = nothing_left _ (sym at.invariant.short ∙ none.0) in
    let all : at.yielded ≡ c.args.sent = sym (append-nil at.yielded) ∙ rw empty at at.invariant.left in
    λ table. subst (λ (l : List Sent). Adds table c.args.events.now c.loop-packet.events
    (map (sent_report (side_of c.args.sender) c.args.player) l)) all (at.invariant.told table)
