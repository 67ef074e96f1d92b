use Rattle.unet.proofs.Answered.{of_command}
use Rattle.unet.proofs.Caused.{fault_unread}
use Rattle.unet.proofs.Ran.{ends_as, run_sample}
use Rattle.unet.proofs.command.sample.Goals as goal

pub returns-clause-runs : goal.returns-clause-runs
returns-clause-runs g c =
    run_sample _ c.args.ticks c.say_sample.result _ _ _ (ends_as _ c.say_sample.result _ _ c.say_sample.ensures.done c.say_sample.ensures.early)

pub returns-clause-status : goal.returns-clause-status
returns-clause-status g c = of_command c.say_sample.result c.say_sample.ensures.status

pub returns-clause-cause : goal.returns-clause-cause
returns-clause-cause g c = fault_unread _ _ _ c.say_sample.result c.say_sample.ensures.cause
