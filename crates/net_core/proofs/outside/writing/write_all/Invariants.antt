use Rattle.std.proofs.Common.{◌≡◌, ◌≤◌, ◌-◌, length, take}
use Rattle.std.specs.Io.KnownBytes.{Appends}
use Rattle.net_core.proofs.outside.writing.write_all.Given as goal

-- the sink has taken the first `done` bytes, and no write was refused
abbrev pub invariant-loop-done : goal.invariant-loop-done
invariant-loop-done g l =
    let S = g.S.Sink in
    record {
      within : l.done ≤ length l.bytes;
      taken : Appends (S.taken l.fn.out) (S.taken l.out) (take l.done l.bytes);
      no_fault : S.faults l.out ≡ S.faults l.fn.out;
      no_shortage : S.shortages l.out ≡ S.shortages l.fn.out;
    }

abbrev pub decreases-loop-done : goal.decreases-loop-done
decreases-loop-done g l = length l.bytes - l.done
