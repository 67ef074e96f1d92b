use Rattle.script_reading.proofs.Keeping.{kept_destroyed}
use Rattle.script_reading.proofs.known.Known.destroy_at.Goals as goal

pub returns : goal.returns
returns c = λ table.
    kept_destroyed table c.args.self.now.actors.items c.args.self.now.joined.items c.args.place c.index.result.now
    c.index.ensures
