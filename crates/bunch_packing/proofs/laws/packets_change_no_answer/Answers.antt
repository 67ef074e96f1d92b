use Rattle.std.proofs.Common.{ap, ◌∙◌}
use Rattle.connection_model.specs.Feed.{Past}
use Rattle.connection_model.specs.Bunches.{has_arrived}
use Rattle.connection_model.specs.State.{state_of, index_of, free_index}
use Rattle.packing_laws.proofs.Sendings.{arrived_behind, state_behind, index_behind, free_index_behind}
use Rattle.bunch_packing.proofs.Offering.{made_all}
use Rattle.bunch_packing.proofs.Pushing.{behind, room_now}
use Rattle.bunch_packing.proofs.laws.packets_change_no_answer.Goals as goal

pub returns : goal.returns
returns c = record {
  room = λ l t end side before p ch h. room_now l t end side before p ch h;
  count = λ p ch. made_all p.past p.packets ch;
  arrived =
      λ l t end side before p ch n h. let s = behind l t end side before p h in
      ap (λ (past : Past). has_arrived past ch n) s.is ∙ arrived_behind p.past s.sent s.sendings ch n;
  state =
      λ l t end side before p a h. let s = behind l t end side before p h in
      ap (λ (past : Past). state_of past a) s.is ∙ state_behind p.past s.sent s.sendings a;
  index =
      λ l t end side before p a h. let s = behind l t end side before p h in
      ap (λ (past : Past). index_of past a) s.is ∙ index_behind p.past s.sent s.sendings a;
  free =
      λ l t end side before p h. let s = behind l t end side before p h in
      ap free_index s.is ∙ free_index_behind p.past s.sent s.sendings;
}
