use Rattle.unet.proofs.Caused.{may_answer}
use Rattle.unet.proofs.Ran.{ends_as, run_built_in_check, run_check}
use Rattle.unet.proofs.command.check.Goals as goal

pub returns-then-is_built_in-clause-runs : goal.returns-then-is_built_in-clause-runs
returns-then-is_built_in-clause-runs g c =
    run_built_in_check _ c.args.name.now c.say_built_in.result _ _ _ c.if-is_built_in.ensures
    (ends_as _ c.say_built_in.result _ _ c.say_built_in.ensures.done c.say_built_in.ensures.early)

pub returns-clause-runs : goal.returns-clause-runs
returns-clause-runs g c =
    let may = may_answer _ c.args.name.now c.read-read.result c.read-read.ensures.found c.read-read.ensures.missing in
    run_check _ c.args.name.now c.read-read.result c.answer.result _ _ _ _ c.if-is_built_in.ensures may
    (ends_as _ c.answer.result _ _ c.answer.ensures.done c.answer.ensures.early) c.read-read.ensures.read
