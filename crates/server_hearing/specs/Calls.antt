-- Calls of a player, as the server reads and judges them.
use Rattle.std.specs.Prelude.{◌≡◌, ◌<◌, ℕ, ◌==◌, List, length, Bool, not, ◌&&◌, false, Option, Some, None, Result, Ok, Err, if◌then◌else◌, ⊤}
use Rattle.protocol_model.specs.Value.{Class, Table, goes_up}
use Rattle.protocol_model.specs.World.{Edits, Spawned, spawn_of, class_at}
use Rattle.protocol_model.specs.Reading.{Fault, Broken, ◌>>=◌, bit_at}
use Rattle.protocol_model.specs.Payload.{Message, actor_of}
use Rattle.protocol_model.specs.declared.Cause.TheVariants.{UnknownGuid}
use Rattle.protocol_model.specs.declared.CallVerdict.{CallVerdict}
use Rattle.protocol_model.specs.declared.CallVerdict.TheVariants.{Run, NotOwner, Stale}
use Rattle.connection_model.specs.Feed.{Past, Delivered}
use Rattle.connection_model.specs.State.{opened_class, index_of, holds}
use Rattle.connection_model.specs.Handed.{server_verdict}
use Rattle.connection_model.specs.PayloadReading.{PayloadReading, field, actor_at, class_or, call_at_end}
use Rattle.class_layout.specs.Tables.{Layout, table_in}
use Rattle.world_table.specs.declared.edit.Look.{Look}
use Rattle.world_table.specs.Kept.{Kept}
use Rattle.world_table.specs.Stands.{Stands as StandsWorld}
use Rattle.payload_reading.specs.declared.stop.Stop.{Stop}
use Rattle.payload_reading.specs.Values.{call_message}
use Rattle.handovers.specs.Handovers.{handover_in, handover_of}
use Rattle.value_codec.specs.declared.handed.Handed.{Handed}
use Rattle.incoming_channels.specs.declared.message.Message.{Message as MessageValue}
use Rattle.channel_table.specs.Channels.{Channels}
use Rattle.channel_table.specs.Holders.{channel_bound}
use Rattle.shadow_changes.specs.Samples.{Samples}
use Rattle.sender_steps.specs.Sender.{Sender}
use Rattle.sender_steps.specs.Stands.{Keeps}
use Rattle.server_hearing.specs.declared.calls.PlayerCall.{PlayerCall}

-- ---- what calls are read by

-- the actor was spawned as this class, which the table has
pub record IsSpawnedAs (table : Table) (edits : Edits) (actor : ℕ) (class : Class) : Type 0 where
  pub spawned : Spawned
  pub spawn : spawn_of edits actor ≡ Some spawned
  pub within : spawned.class < length table
  pub is : class ≡ class_at table spawned.class

-- each actor that was ever opened was opened as the class that it was spawned as
abbrev pub AreSpawned : Table → Edits → Past → Type 0
AreSpawned table edits past = (a : ℕ) (class : Class) → opened_class past a ≡ Some class
    → IsSpawnedAs table edits a class

-- the world is that of the edits, and the sender is right about the past, in which actors of the
-- world were opened
pub record Knows (w : Kept) (s : Sender) (edits : Edits) (past : Past) (samples : Samples) : Type 0 where
  pub world : StandsWorld w edits
  pub opened : AreSpawned (table_in w.layout) edits past
  pub sender : Keeps s past samples

-- the channels are bound to those who hold them
abbrev pub AreBound : Channels → Past → Type 0
AreBound t past = (a : ℕ) → channel_bound t.bound a ≡ index_of past a

-- ---- what is read

-- a call of an actor that was ever opened, as reliable as its bunch
abbrev pub opened_call_at : Past → (reliable : Bool) → PayloadReading Message
opened_call_at past reliable = do
  actor ← actor_at
  class ← class_or (UnknownGuid actor) (opened_class past actor)
  call_at_end class actor goes_up reliable

-- a payload at the server: a call, on a channel above 0
abbrev pub player_call_at : Past → (channel : ℕ) → (reliable : Bool) → PayloadReading Message
player_call_at past ch reliable = do
  is_call ← field bit_at (λ is_call. is_call && not (ch == 0))
  opened_call_at past reliable

-- the call that was read
abbrev pub call_payload : Layout → PlayerCall → Message
call_payload layout c = call_message (class_at (table_in layout) c.class) c.actor c.call

-- ---- what is to be done with it

-- the player is the owner
abbrev pub is_owner : (player : ℕ) → Option ℕ → Bool
is_owner player None = false
is_owner player (Some owner) = owner == player

-- what is to be done with a call of an actor that stands so
abbrev pub judged : (player : ℕ) → Look → (held : Bool) → CallVerdict
judged player look held =
    if not (look.alive && held) then Stale
    else if is_owner player look.owner then Run else NotOwner

-- a whole payload as it is handed on, where it is read as this message
abbrev pub delivered_as : Past → MessageValue → Message → Delivered
delivered_as past m message = record {
  channel = m.channel;
  reliable = m.reliable;
  held = holds past (actor_of message) m.channel;
  message = message;
}

-- a whole payload is the call that is handed over with its verdict, or isn't read as the definitions
-- don't; want of memory says nothing
abbrev pub IsJudged : Layout → Edits → (player : ℕ) → Past → MessageValue → Result Handed Stop → Type 0
IsJudged layout edits player past m (Ok h) =
    (message : Message) × (rest : List Bool)
    × (player_call_at past m.channel m.reliable m.bits ≡ Ok (message, rest))
    × (handover_in (server_verdict edits player) (delivered_as past m message)
    ≡ Some (handover_of layout h))
IsJudged layout edits player past m (Err Stop.Short) =
    player_call_at past m.channel m.reliable m.bits ≡ Err Fault.Short
IsJudged layout edits player past m (Err (Stop.Broken left cause)) =
    player_call_at past m.channel m.reliable m.bits ≡ Err (Broken left cause)
IsJudged layout edits player past m (Err Stop.Memory) = ⊤
