use Rattle.unet.proofs.Caused.{may_answer}
use Rattle.unet.proofs.Ran.{ends_as, run_built_in_replay, run_replay, run_stopped}
use Rattle.unet.proofs.command.replay.Goals as goal

pub returns-then-is_built_in-clause-runs : goal.returns-then-is_built_in-clause-runs
returns-then-is_built_in-clause-runs g c =
    let may = may_answer _ c.args.script.now c.read-read.result c.read-read.ensures.found c.read-read.ensures.missing in
    run_built_in_replay _ c.args.classes.now c.args.script.now c.read-read.result c.answer.result _ _ _ _ c.if-is_built_in.ensures may
    (ends_as _ c.answer.result _ _ c.answer.ensures.done c.answer.ensures.early) c.read-read.ensures.read

pub returns-in-Ok-clause-runs : goal.returns-in-Ok-clause-runs
returns-in-Ok-clause-runs g c =
    let may = may_answer _ c.args.classes.now c.read-read-2.result c.read-read-2.ensures.found c.read-read-2.ensures.missing in
    let file = c.in-Ok.ensures.table in
    run_replay _ _ c.args.classes.now c.args.script.now c.read-read-2.result file.0 _ c.replay_over.result _ _ _ _ _
    c.if-is_built_in.ensures file.1 file.2 may c.read-read-2.ensures.folder c.read-read-2.ensures.read c.replay_over.ensures.runs

pub returns-in-Err-clause-runs : goal.returns-in-Err-clause-runs
returns-in-Err-clause-runs g c =
    let may = may_answer _ c.args.classes.now c.read-read-2.result c.read-read-2.ensures.found c.read-read-2.ensures.missing in
    run_stopped _ c.args.classes.now c.args.script.now c.in-Err.stop c.read-read-2.result c.tell_stop.result _ _ _ _
    c.if-is_built_in.ensures may c.in-Err.ensures.stop c.tell_stop.ensures.ends c.read-read-2.ensures.read
