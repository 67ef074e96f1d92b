-- What a sender keeps of all actors.
use Rattle.std.specs.Prelude.{ℕ, nat_eq, List, Bool, unwrap_or}
use Rattle.std.specs.Map.{lookup}
use Rattle.sender_records.specs.declared.actor.ActorRecord.{ActorRecord}
use Rattle.connection_model.specs.State.{ActorState}
use Rattle.sender_records.specs.Life.{state_value}
use Rattle.sender_records.specs.Handles.{handle_in}
use Rattle.sender_records.specs.Actors.{fresh_actor}
use Rattle.sender_steps.specs.declared.sent.UpdateSent.{UpdateSent}
use Rattle.sender_steps.specs.declared.sent.OpenSent.{OpenSent}

-- a record an actor, by its guid; the updates under way with their packets; the actors with an open
-- or a close under way, and those whose channel isn't closed, ascending; whether each segment, by
-- its guid, was taken for known, and the opens that may have made more known since; and the ticks
-- so far
pub record Sender : Type 0 where
  pub records : List (ℕ × ActorRecord)
  pub updates : List UpdateSent
  pub pending : List ℕ
  pub live : List ℕ
  pub known : List Bool
  pub opens : List OpenSent
  pub ticks : ℕ
  pub spent : Bool

-- the record of an actor; of one without a record nothing was shown or made
abbrev pub record_in : List (ℕ × ActorRecord) → (actor : ℕ) → ActorRecord
record_in records a = unwrap_or (lookup (nat_eq a) records) (fresh_actor a)

abbrev pub record_at : Sender → (actor : ℕ) → ActorRecord
record_at s a = record_in s.records a

-- the state that is kept of it
abbrev pub state_kept : Sender → (actor : ℕ) → ActorState
state_kept s a = state_value (record_at s a).life.state

-- the packet in which a handle of the actor went last
abbrev pub packet_in : List (ℕ × ActorRecord) → (actor handle : ℕ) → ℕ
packet_in records a h = (handle_in (record_in records a).handles.handles h).packet
