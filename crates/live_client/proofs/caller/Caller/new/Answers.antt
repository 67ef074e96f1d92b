use Rattle.std.proofs.Common.{[]}
use Rattle.live_model.specs.Runs.{first_caller}
use Rattle.live_client.proofs.Turns.{first_is}
use Rattle.live_client.proofs.caller.Caller.new.Goals as goal

pub returns-clause-stands : goal.returns-clause-stands
returns-clause-stands c =
    let made = c.in_ok-client.ensures in (
      c.args.classes.now,
      c.args.digest,
      first_caller c.args.version c.args.server c.args.end c.args.player [],
      first_is c.args.classes.now c.args.digest c.args.version c.args.server c.args.end c.args.player
          c.in_ok-client.client [] made.plays made.layout made.version,
    )
