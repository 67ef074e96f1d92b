use Rattle.protocol_model.specs.World.{class_at}
use Rattle.script_reading.specs.Gives.{table_of, kept_of}
use Rattle.script_reading.proofs.Tags.{set_told}
use Rattle.script_reading.proofs.reader.Reader.set.Goals as goal

pub returns-clause-told : goal.returns-clause-told
returns-clause-told c =
    set_told (kept_of c.args.self.now) _ c.in_ok-actor.actor
    (class_at (table_of c.args.self.now) c.in_ok-actor.class) c.args.name.now c.in_ok-prop.prop c.in_ok-prop.kind
    c.in_ok-value.value c.in_ok-actor.ensures c.in_ok-prop.ensures c.in_ok-value.ensures.tag
