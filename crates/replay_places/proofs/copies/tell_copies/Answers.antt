use Rattle.std.proofs.Common.{◌≡◌, List, [], ◌∷◌, map, length, refl, sym, ap, ◌∙◌, subst, append_assoc, append-nil, arith}
use Rattle.std.specs.Borrow.{Bor}
use Rattle.std.specs.Vec.Iter.{into_iter_items}
use Rattle.std.proofs.lemmas.List.{map-append}
use Rattle.class_layout.specs.Tables.{table_in}
use Rattle.actor_copies.specs.declared.copy.ActorCopy.{ActorCopy}
use Rattle.actor_copies.specs.Copies.{copy_value_of}
use Rattle.actor_copies.specs.Kept.{lent_items}
use Rattle.replay_places.specs.Doing.{Adds, copied_report}
use Rattle.replay_places.proofs.Copied.{copy_more, all_told}
use Rattle.replay_places.proofs.copies.tell_copies.Goals as goal

nothing_left : (l : List (Bor ActorCopy)) → length l ≡ 0 → l ≡ []
nothing_left [] h = refl
nothing_left (x ∷ xs) h = absurd (omega arith)

pub loop-copy-preserved : goal.loop-copy-preserved
loop-copy-preserved c =
    let at = c.loop-copy in
    let x = c.in-Some.copy in
    let player = c.args.player in
    let steps : into_iter_items at.copy-iterator ≡ x ∷ into_iter_items c.next.new.self = c.in-Some.ensures.steps.0 in
    record {
      short = (let was = at.invariant.short in let gone = c.in-Some.ensures.steps.1 in let shorter = ap length steps in
          omega arith);
      told = λ layout. subst (λ (cs : List ActorCopy). Adds (table_in layout) c.push.new.self c.tell_copy.new.events
          (map (copied_report player) (map (copy_value_of layout) cs)))
          (sym (map-append (λ (b : Bor ActorCopy). b.now) at.yielded (x ∷ [])))
          (copy_more layout player (lent_items at.yielded) x.now _ _ _ (at.invariant.told layout)
          (c.in_ok-tell_copy.ensures layout));
      left = append_assoc at.yielded (x ∷ []) _ ∙ rw (← steps) at.invariant.left;
    }

pub returns : goal.returns
returns c =
    let at = c.loop-copy in
    let player = c.args.player in
    let none = c.in-None.ensures.steps in
    let empty : into_iter_items at.copy-iterator ≡ [] = nothing_left _ (sym at.invariant.short ∙ none.0) in
    let all = sym (append-nil at.yielded) ∙ rw empty at at.invariant.left in
    let lent : lent_items at.yielded ≡ c.copies-copies.result.now =
    ap lent_items (all ∙ c.into_iter-copy-iterator.ensures.into_iter_gives.0) ∙ c.in_ok-copy-items.ensures in
    λ layout p i. all_told layout c.args.client.now c.args.player p c.len.result c.copies-copies.result.now _ _ _ i
    c.copies-copies.ensures.copies c.copies-copies.ensures.count c.len.ensures
    c.in_ok-push.ensures.ok
    (subst (λ (cs : List ActorCopy). Adds (table_in layout) c.push.new.self c.loop-copy.events
    (map (copied_report player) (map (copy_value_of layout) cs))) lent (at.invariant.told layout))
