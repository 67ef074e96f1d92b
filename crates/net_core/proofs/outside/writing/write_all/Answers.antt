use Rattle.std.proofs.Common.{◌≡◌, ◌≤◌, ◌-◌, length, take, drop, arith, take-add, length-drop}
use Rattle.std.proofs.lemmas.List.{take_rest}
use Rattle.std.specs.Io.KnownBytes.{Appends}
use Rattle.net_core.proofs.Written.{Appends-append}
use Rattle.net_core.proofs.outside.writing.write_all.Goals as goal

pub loop-done-preserved : goal.loop-done-preserved
loop-done-preserved g c =
    let done = c.loop-done.done in
    let n = c.in_ok-done.field-0 in
    let bytes = c.args.bytes.now in
    let rest : take (length bytes - done) (drop done bytes) ≡ drop done bytes = take_rest bytes done in
    let more : Appends (g.S.Sink.taken c.loop-done.out) (g.S.Sink.taken c.write.new.self) (take n (drop done bytes)) = rw rest at c.in_ok-done.ensures.taken in
    let few : n ≤ length (drop done bytes) = rw rest at c.in_ok-done.ensures.count.1 in
    record {
      within = omega (arith, few, length-drop done bytes);
      taken = rw (take-add done n bytes) (Appends-append _ _ _ (take done bytes) (take n (drop done bytes)) c.loop-done.invariant.taken more);
      no_fault = cc (c.in_ok-done.ensures.cause);
      no_shortage = cc (c.in_ok-done.ensures.shortage);
    }
