use Rattle.std.proofs.Common.{◌≡◌, ℕ, List, map, take, Bool, true}
use Rattle.std.specs.List.{list_all, filter}
use Rattle.change_model.specs.Changes.{Sample}
use Rattle.connection_model.specs.Feed.{Past}
use Rattle.connection_model.specs.State.{state_of, is_opened}
use Rattle.connection_model.specs.Carry.{is_carried, is_updatable}
use Rattle.sender_records.specs.Handles.{KeepsHandles, pair_value}
use Rattle.sender_steps.specs.Sights.{seen_value}
use Rattle.sender_steps.proofs.settled.have_arrived.Given as goal

abbrev pub invariant-loop-pair : goal.invariant-loop-pair
invariant-loop-pair l = (past : Past) (actor : ℕ) (samples : List Sample)
    → KeepsHandles past samples actor l.kept.handles → is_opened (state_of past actor) ≡ true
    → list_all (is_carried past actor) (filter (is_updatable (seen_value l.classes l.seen))
    (map pair_value (take l.pair-index l.seen.values))) ≡ true
