use Rattle.std.proofs.Common.{sym}
use Rattle.world_table.proofs.Records.{put_each}
use Rattle.world_table.proofs.actor.put_record.Goals as goal

pub returns-in-Some-clause-each : goal.returns-in-Some-clause-each
returns-in-Some-clause-each c = λ a.
    put_each c.args.actors.now.items c.args.actor c.in-Some.place a c.args.kept (sym c.in-Some.ensures) c.requires
