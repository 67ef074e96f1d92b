use Rattle.unet.proofs.Caused.{may_answer}
use Rattle.unet.proofs.Ran.{ends_as, run_show}
use Rattle.unet.proofs.command.show.Goals as goal

pub returns-clause-runs : goal.returns-clause-runs
returns-clause-runs g c =
    let may = may_answer _ c.args.name.now c.read-read.result c.read-read.ensures.found c.read-read.ensures.missing in
    run_show _ c.args.version c.args.name.now c.read-read.result c.answer.result _ _ _ _ may
    (ends_as _ c.answer.result _ _ c.answer.ensures.done c.answer.ensures.early) c.read-read.ensures.read
