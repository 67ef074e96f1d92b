use Rattle.std.proofs.Common.{◌≡◌, ℕ, ◌<◌, List, false}
use Rattle.protocol_model.specs.Value.{Segment}
use Rattle.protocol_model.specs.World.{class_at}
use Rattle.class_layout.specs.Tables.{table_in}
use Rattle.netguid_map.specs.Names.{Stands}
use Rattle.netguid_map.specs.Chains.{has_names, names_up, most_above}
use Rattle.netguid_map.proofs.chain.class_place.Given as goal

abbrev pub invariant-loop-place : goal.invariant-loop-place
invariant-loop-place l =
    (learnt : List Segment) → Stands l.names.entries learnt → (k : ℕ) → k < l.place
    → has_names (names_up learnt most_above l.known) (class_at (table_in l.classes) k) ≡ false
