use Rattle.std.proofs.Common.{◌∙◌, refl}
use Rattle.std.proofs.lemmas.Result.{err_from_is_err_and}
use Rattle.transcripts.proofs.Played.{begins, may_come, next_line, goes_on, prefix, prefix_of_line}
use Rattle.transcripts.proofs.playing.play_all.Goals as goal

pub loop-line-init : goal.loop-line-init
loop-line-init g c = record {
  played = begins _ _ _ _ c.requires.first c.requires.classes c.requires.may;
  kept = refl;
}

pub tell-requires-clause-may : goal.tell-requires-clause-may
tell-requires-clause-may g c =
    let next = next_line c.args.lines.now c.loop-line.line-index c.line-item.result c.line-item.is c.loop-line-test.true in
    may_come _ _ _ _ _ _ _ (rw next at c.loop-line.invariant.played)

pub returns-in_err-text-clause-err : goal.returns-in_err-text-clause-err
returns-in_err-text-clause-err g c =
    let p = err_from_is_err_and c.from_residual.result c.from_residual.ensures.1 in
    rw p.1 (prefix _ _ _ _ _ _ c.loop-line.invariant.played)

pub returns-in_err-write_all-clause-err : goal.returns-in_err-write_all-clause-err
returns-in_err-write_all-clause-err g c =
    let next = next_line c.args.lines.now c.loop-line.line-index c.line-item.result c.line-item.is c.loop-line-test.true in
    let p = err_from_is_err_and c.from_residual-in_err-write_all.result c.from_residual-in_err-write_all.ensures.1 in
    rw p.1 (prefix_of_line _ _ _ _ _ _ _ _ _ (rw next at c.loop-line.invariant.played) c.in_ok-text.ensures.text (rw c.as_slice.ensures at c.in_err-write_all.ensures.err))

pub loop-line-preserved : goal.loop-line-preserved
loop-line-preserved g c =
    let next = next_line c.args.lines.now c.loop-line.line-index c.line-item.result c.line-item.is c.loop-line-test.true in
    record {
      played = goes_on _ _ _ _ _ _ _ _ _ _ (rw next at c.loop-line.invariant.played) c.in_ok-text.ensures.text c.in_ok-text.ensures.stands c.tell.ensures.layout (rw c.as_slice.ensures at c.in_ok-write_all.ensures.ok);
      kept = c.in_ok-write_all.ensures.cause ∙ c.loop-line.invariant.kept;
    }
