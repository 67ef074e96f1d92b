use Rattle.std.proofs.Common.{◌≡◌, ℕ, ◌<◌, ◌||◌, false, length, take}
use Rattle.std.specs.Prelude.{slice_index_or}
use Rattle.protocol_model.specs.Search.{is_among}
use Rattle.sender_steps.proofs.taking.note_known.Given as goal

abbrev pub invariant-loop-guid : goal.invariant-loop-guid
invariant-loop-guid l = record {
  len : length l.known.items ≡ length l.initial.known.items;
  known : (g : ℕ) → g < length l.initial.known.items → slice_index_or l.known.items g false
      ≡ (is_among g (take l.guid-index l.guids) || slice_index_or l.initial.known.items g false);
}
