use Rattle.std.proofs.Common.{◌≡◌, take}
use Rattle.class_members.proofs.members.copied_calls.Given as goal

abbrev pub invariant-loop-call : goal.invariant-loop-call
invariant-loop-call l = l.copies ≡ take l.call-index l.calls
