use Rattle.std.proofs.Common.{◌≡◌, List, [], ◌∷◌, map, length, sym, ap, ◌∙◌, subst, append_assoc, arith}
use Rattle.std.specs.Vec.Iter.{into_iter_items}
use Rattle.class_layout.specs.Tables.{table_in}
use Rattle.value_codec.specs.declared.handed.Handed.{Handed}
use Rattle.handovers.specs.Handovers.{handover_of}
use Rattle.protocol_model.specs.Side.{AtClient}
use Rattle.replay_places.specs.Doing.{Adds, handover_reports}
use Rattle.replay_places.proofs.Handed.{client_more, all_told}
use Rattle.replay_places.proofs.hearing.tell_handed.Goals as goal

pub loop-handed-preserved : goal.loop-handed-preserved
loop-handed-preserved c =
    let at = c.loop-handed in
    let x = c.in-Some.handed in
    let steps : into_iter_items at.handed-iterator ≡ x ∷ into_iter_items c.next.new.self = c.in-Some.ensures.steps.0 in
    record {
      left = append_assoc at.yielded (x ∷ []) _ ∙ rw (← steps) at.invariant.left;
      short = (let was = at.invariant.short in let gone = c.in-Some.ensures.steps.1 in let shorter = ap length steps in
          omega arith);
      told = λ layout. client_more layout c.args.player at.yielded x _ _ _ (at.invariant.told layout)
          c.in_ok-push.ensures.ok;
    }

pub returns : goal.returns
returns c =
    let at = c.loop-handed in
    let none = sym at.invariant.short ∙ c.in-None.ensures.steps.0 in
    let all : at.yielded ≡ c.args.calls =
    all_told at.yielded (into_iter_items at.handed-iterator) c.args.calls none at.invariant.left in
    λ layout. subst (λ (l : List Handed). Adds (table_in layout) c.args.events.now c.loop-handed.events
    (handover_reports AtClient c.args.player (map (handover_of layout) l)))
    all (at.invariant.told layout)
