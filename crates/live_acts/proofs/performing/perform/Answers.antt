use Rattle.std.proofs.Common.{◌≡◌, [], ◌∷◌, ◌++◌, map, length, sym, ap, ◌∙◌, subst, append_assoc, arith}
use Rattle.std.specs.Vec.Iter.{into_iter_items}
use Rattle.std.proofs.lemmas.List.{map-append}
use Rattle.std.proofs.lemmas.Result.{err_from_is_err_and}
use Rattle.live_acts.specs.Acts.{act_of}
use Rattle.live_acts.specs.Performed.{nothing_heard, Passes, PassesPart}
use Rattle.live_acts.proofs.Passing.{passes_both, passes_then_part, part_longer}
use Rattle.live_acts.proofs.performing.perform.Goals as goal

pub loop-act-preserved : goal.loop-act-preserved
loop-act-preserved g c =
    let at = c.loop-act.invariant in
    let x = c.in-Some.act in
    let steps : into_iter_items c.loop-act.act-iterator ≡ x ∷ into_iter_items c.next.new.self =
    c.in-Some.ensures.steps.0 in
    record {
      left = append_assoc c.loop-act.yielded (x ∷ []) _ ∙ rw (← steps) at.left;
      short = (let was = at.short in let gone = c.in-Some.ensures.steps.1 in let shorter = ap length steps in
          omega arith);
      done = subst (λ acts. Passes nothing_heard acts (g.L.Link.told c.args.link.now)
          (g.S.Sink.taken c.args.out.now) (g.L.Link.told c.perform_one.new.link)
          (g.S.Sink.taken c.perform_one.new.out))
          (sym (map-append act_of c.loop-act.yielded (x ∷ [])))
          (passes_both nothing_heard nothing_heard _ _ _ _ _ _ _ _ at.done c.in_ok-perform_one.ensures.ok);
      open_left = (rw steps at at.open_left).1;
      count = c.in_ok-perform_one.ensures.count ∙ at.count;
      link_faults = c.in_ok-perform_one.ensures.cause.0 ∙ at.link_faults;
      sink_faults = c.in_ok-perform_one.ensures.cause.1 ∙ at.sink_faults;
    }

pub returns-in_err-perform_one-clause-err : goal.returns-in_err-perform_one-clause-err
returns-in_err-perform_one-clause-err g c =
    let at = c.loop-act.invariant in
    let x = c.in-Some.act in
    let rest = into_iter_items c.next.new.self in
    let done = c.loop-act.yielded in
    let steps : into_iter_items c.loop-act.act-iterator ≡ x ∷ rest = c.in-Some.ensures.steps.0 in
    let all : (map act_of done ++ act_of x ∷ []) ++ map act_of rest ≡ map act_of c.args.acts =
    append_assoc (map act_of done) (act_of x ∷ []) (map act_of rest) ∙ sym (map-append act_of done (x ∷ rest))
    ∙ ap (map act_of) (rw steps at at.left) in
    let p = err_from_is_err_and c.from_residual.result c.from_residual.ensures.1 in
    rw p.1
    (subst (λ acts. PassesPart nothing_heard acts (g.L.Link.told c.args.link.now)
    (g.S.Sink.taken c.args.out.now) (g.L.Link.told c.perform_one.new.link) (g.S.Sink.taken c.perform_one.new.out)) all
    (part_longer nothing_heard _ (map act_of rest) _ _ _ _
    (passes_then_part nothing_heard nothing_heard _ _ _ _ _ _ _ _ at.done c.in_err-perform_one.ensures.err)))
