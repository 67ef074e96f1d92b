-- What is kept of an actor, and how it follows from what the end did and from the actor's samples.
use Rattle.std.specs.Prelude.{◌≡◌, ℕ, List, true, false}
use Rattle.change_model.specs.Changes.{Sample}
use Rattle.connection_model.specs.Feed.{Past}
use Rattle.connection_model.specs.State.{is_open}
use Rattle.sender_records.specs.declared.actor.ActorRecord.{ActorRecord}
use Rattle.sender_records.specs.Life.{KeepsLife, state_value, fresh_life}
use Rattle.sender_records.specs.Service.{KeepsService, fresh_service}
use Rattle.sender_records.specs.Handles.{KeepsHandles, handle_in, is_moved, no_handles}

-- what is kept of the actor is right; its handles while it is open
pub record KeepsActor (past : Past) (samples : List Sample) (actor : ℕ) (r : ActorRecord) : Type 0 where
  pub life : KeepsLife past actor r.life
  pub service : KeepsService past actor r.service
  pub handles : is_open (state_value r.life.state) ≡ true → KeepsHandles past samples actor r.handles

-- of an actor of which nothing was shown or made
abbrev pub fresh_actor : (actor : ℕ) → ActorRecord
fresh_actor a = record { actor = a; life = fresh_life; service = fresh_service; handles = no_handles }

-- none of its handles went in a packet of this move
abbrev pub IsApart : (from to : ℕ) → ActorRecord → Type 0
IsApart from to r = is_open (state_value r.life.state) ≡ true
    → (h : ℕ) → is_moved from to (handle_in r.handles.handles h).packet ≡ false
