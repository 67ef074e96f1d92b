use Rattle.std.proofs.Common.{◌≡◌, ◌++◌, drop}
use Rattle.std.specs.Prelude.{filter}
use Rattle.sender_turns.specs.Opening.{is_unknown}
use Rattle.sender_turns.proofs.opening.needed.Given as goal

abbrev pub invariant-loop-guid : goal.invariant-loop-guid
invariant-loop-guid l =
    l.guids ++ filter (is_unknown l.known) (drop l.guid-index l.path) ≡ filter (is_unknown l.known) l.path
