use Rattle.std.proofs.Common.{List, sym, subst, arith, length, ◌≤◌}
use Rattle.protocol_model.specs.PacketReading.{recs_at}
use Rattle.bit_io.specs.Lent.{bits_left}
use Rattle.packet_codec.specs.Reads.{fault_of}
use Rattle.packet_codec.specs.declared.packet.Rec.{Rec}
use Rattle.packet_codec.proofs.Loops.{RecsSoFar, recs_step, recs_stop, recs_done}
use Rattle.packet_codec.proofs.Stopping.{stops_unless_memory}
use Rattle.packet_codec.proofs.read.entries.Goals as goal

pub returns-in_err-rec-clause-exact : goal.returns-in_err-rec-clause-exact
returns-in_err-rec-clause-exact c =
    let fault = c.in_err-rec.field-0.0 in
    let count = c.left.ensures.count in
    stops_unless_memory _ (recs_at c.args.version (length (bits_left c.args.reader.now))) c.args.reader.now c.entry.new.reader c.from_residual.result fault c.from_residual.ensures.1
    (recs_stop c.args.version c.args.reader.now c.loop-version.reader c.loop-version.recs.items (fault_of fault) c.loop-version.invariant (omega (arith, count)) c.in_err-rec.ensures.exact)

pub loop-version-preserved : goal.loop-version-preserved
loop-version-preserved c =
    let count = c.left.ensures.count in
    let some : 1 ≤ length (bits_left c.loop-version.reader) = omega (arith, count) in
    subst (λ (recs : List Rec). RecsSoFar c.args.version c.args.reader.now c.entry.new.reader recs) (sym c.in_ok-push.ensures.items)
    (recs_step c.args.version c.args.reader.now c.loop-version.reader c.entry.new.reader c.loop-version.recs.items c.in_ok-rec.rec c.loop-version.invariant some c.in_ok-rec.ensures.exact c.in_ok-rec.ensures.on c.in_ok-rec.ensures.onward c.in_ok-rec.ensures.lent)

pub returns-clause-exact : goal.returns-clause-exact
returns-clause-exact c =
    let count = c.left.ensures.count in
    recs_done c.args.version c.args.reader.now c.loop-version.reader c.loop-version.recs.items c.loop-version.invariant (omega (arith, count))
