-- A sender after a move: each record that was told, or that the move leaves alone, stands for the later past.
use Rattle.std.proofs.Common.{◌≡◌, ◌⊎◌, inl, inr, ◌∙◌, ℕ, ◌<◌, ◌≤◌, nat_le, List, Bool, true, false, cond, not, ◌==◌, ◌&&◌, ◌||◌, ap, sym, refl, subst, arith, length}
use Rattle.std.proofs.lemmas.Bool.{false≢true}
use Rattle.std.proofs.lemmas.Bool.Decides.{nat_tests}
use Rattle.change_model.specs.Changes.{Sample}
use Rattle.connection_model.specs.Feed.{Past}
use Rattle.connection_model.specs.Fates.{high_of}
use Rattle.connection_model.specs.Bunches.{has_arrived}
use Rattle.connection_model.specs.State.{is_open}
use Rattle.sender_laws.specs.Acts.{acts, MovesTo}
use Rattle.sender_laws.specs.States.{is_pending}
use Rattle.sender_laws.proofs.Views.{ticks_alike, sight_alike, service_alike}
use Rattle.sender_laws.proofs.Fated.{moved_grows, high_moved}
use Rattle.sender_records.specs.declared.actor.ActorRecord.{ActorRecord}
use Rattle.sender_records.specs.Life.{KeepsLife, state_value}
use Rattle.sender_records.specs.Service.{KeepsService}
use Rattle.sender_records.specs.Handles.{KeepsHandles, handle_in, is_moved}
use Rattle.sender_records.specs.Actors.{KeepsActor, IsApart}
use Rattle.sender_records.proofs.LifeSteps.{life_rests}
use Rattle.sender_records.proofs.ServiceSteps.{service_same}
use Rattle.sender_records.proofs.HandleSteps.{handle_apart}

-- in the middle of a move: the channel and the handles stand for the later past each, or the move leaves them alone
pub record Told (from to : ℕ) (past later : Past) (samples : List Sample) (a : ℕ) (r : ActorRecord) : Type 0 where
  pub life : KeepsLife later a r.life ⊎ (KeepsLife past a r.life × (is_pending (state_value r.life.state) ≡ false))
  pub service : KeepsService past a r.service
  pub handles : is_open (state_value r.life.state) ≡ true
      → KeepsHandles later samples a r.handles ⊎ (KeepsHandles past samples a r.handles
      × ((h : ℕ) → is_moved from to (handle_in r.handles.handles h).packet ≡ false))

handles_apart : (from to : ℕ) (past later : Past) (samples : List Sample) (a : ℕ) (r : ActorRecord)
    → MovesTo from to past later
    → KeepsHandles past samples a r.handles → ((h : ℕ) → is_moved from to (handle_in r.handles.handles h).packet
    ≡ false) → KeepsHandles later samples a r.handles
handles_apart from to past later samples a r m k apart = record {
  each = λ h. handle_apart from to past later m samples a r.handles.compared r.handles.last h
      (handle_in r.handles.handles h) (apart h) (k.each h);
  compared = k.compared;
  some = k.some;
  now = omega (arith, k.now, ap length (ticks_alike past later m.done));
}

pub told_keeps : (from to : ℕ) (past later : Past) (samples : List Sample) (a : ℕ) (r : ActorRecord)
    → MovesTo from to past later → Told from to past later samples a r
    → KeepsActor later samples a r
told_keeps from to past later samples a r m t = record {
  life = elim t.life [
    | inl k ↦ k
    | inr q ↦ life_rests past later a r.life q.0 m.done (moved_grows from to past later m) q.1
  ];
  service = service_same past later a r.service (ticks_alike past later m.done) (sight_alike past later m.done)
      (service_alike past later m.done a) t.service;
  handles = λ o. elim (t.handles o) [
    | inl k ↦ k
    | inr q ↦ handles_apart from to past later samples a r m q.0 q.1
  ];
}

-- a handle under way in a later packet is apart
pub later_apart : (from to n : ℕ) → ((from < n) → to < n) → is_moved from to n ≡ false
later_apart from to n h = by (nat_le n from) refl
  where
    over : (n to : ℕ) → to < n → nat_le n to ≡ false
    over n to lt = grind (arith, nat_tests)

    above : (n from : ℕ) → nat_le n from ≡ false → from < n
    above n from e = grind (arith, nat_tests)

    by : (b : Bool) → nat_le n from ≡ b → (not b && nat_le n to) ≡ false
    by true e = refl
    by false e = over n to (h (above n from e))
