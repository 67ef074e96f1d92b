use Rattle.std.proofs.Common.{◌≡◌, ℕ, true, drop}
use Rattle.protocol_model.specs.Search.{is_among}
use Rattle.sender_turns.proofs.Noting.{IsPassed}
use Rattle.sender_turns.proofs.opening.past_all.Given as goal

abbrev pub invariant-loop-guid : goal.invariant-loop-guid
invariant-loop-guid l =
    (g : ℕ) → is_among g l.guids ≡ true → IsPassed g l.past (drop l.guid-index l.guids)
