use Rattle.std.proofs.Common.{◌≡◌, ℕ, ◌<◌, ◌||◌, false, length, take}
use Rattle.std.specs.Prelude.{slice_index_or}
use Rattle.std.specs.List.{list_any}
use Rattle.protocol_model.specs.Side.{AtServer}
use Rattle.connection_model.specs.Feed.{Past}
use Rattle.channel_table.specs.Keeps.{Keeps}
use Rattle.sender_steps.specs.Stands.{has_known}
use Rattle.sender_steps.proofs.taking.note_arrived.Given as goal

abbrev pub invariant-loop-open : goal.invariant-loop-open
invariant-loop-open l = record {
  len : length l.known.items ≡ length l.initial.known.items;
  known : (past : Past) → Keeps l.table AtServer past → (g : ℕ) → g < length l.initial.known.items
      → slice_index_or l.known.items g false
      ≡ (list_any (has_known past g) (take l.open-index l.opens) || slice_index_or l.initial.known.items g false);
}
