use Rattle.std.proofs.Common.{length, false}
use Rattle.class_members.specs.Members.{call_of}
use Rattle.protocol_model.specs.World.{class_at}
use Rattle.script_spelling.specs.Fields.{pieces_after}
use Rattle.script_reading.specs.Gives.{table_of, kept_of}
use Rattle.script_reading.proofs.Tags.{call_told}
use Rattle.script_reading.proofs.reader.Reader.multi.Goals as goal

pub returns-clause-told : goal.returns-clause-told
returns-clause-told c =
    call_told (kept_of c.args.self.now) false _ c.in_ok-actor.actor
    (class_at (table_of c.args.self.now) c.in_ok-actor.class) c.args.name.now
    (length (pieces_after 32 c.args.fields)) c.in_ok-call.call (call_of c.in_ok-call.found.now) c.in_ok-args.args
    c.in_ok-actor.ensures c.in_ok-call.ensures c.in_ok-args.ensures.tags
