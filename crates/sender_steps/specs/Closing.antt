-- The closes of a tick, actor by actor.
use Rattle.std.specs.Prelude.{◌≡◌, ℕ, List, Bool, true, false, ◌&&◌, ◌||◌, Option, Some, None, nat_le, if◌then◌else◌}
use Rattle.protocol_model.specs.Payload.{Closes, Gone}
use Rattle.protocol_model.specs.Sight.{Seen}
use Rattle.connection_model.specs.Feed.{Past, tick_count, sight_of}
use Rattle.connection_model.specs.State.{state_of, is_open, is_asleep, index_of}
use Rattle.connection_model.specs.Settled.{is_settled_as}
use Rattle.connection_model.specs.Pack.{idle_ticks, is_shown, made_if_room}
use Rattle.connection_laws.specs.Run.{Ascends}
use Rattle.class_layout.specs.Tables.{Layout}
use Rattle.channel_table.specs.Channels.{Channels}
use Rattle.shadow_changes.specs.Samples.{Samples}
use Rattle.sender_laws.specs.States.{flush_seen}
use Rattle.sender_records.specs.declared.actor.ActorRecord.{ActorRecord}
use Rattle.sender_steps.specs.declared.closing.Close.{Close}
use Rattle.sender_steps.specs.declared.closing.Close.TheVariants as close
use Rattle.sender_steps.specs.declared.sight.Seen.{Seen as SeenValue}
use Rattle.sender_steps.specs.Sender.{Sender}
use Rattle.sender_steps.specs.Sights.{sight_value, actors_in}
use Rattle.sender_steps.specs.Stands.{KeepsBoth}

-- the sight's entry of the actor shows it as destroyed
abbrev pub is_destroyed : Option Seen → Bool
is_destroyed seen = is_shown (λ s. s.destroyed) seen

-- the close that is called for of an actor that is seen so
abbrev pub close_called : Past → (actor : ℕ) → (seen : Option Seen) → Option Close
close_called past a seen =
    if is_open (state_of past a)
    && (is_destroyed seen || nat_le 5 (idle_ticks past a)) then Some close.Plain
    else if is_shown (λ s. s.dormant && is_settled_as past s) seen then Some close.Dormant
    else if is_asleep (state_of past a) && is_destroyed seen then Some close.Gone
    else None

-- the past with it made, where its channel has room
abbrev pub after_called : Past → (actor : ℕ) → Option Close → Past
after_called past a None = past
after_called past a (Some close.Plain) = made_if_room past (index_of past a) (Closes a false)
after_called past a (Some close.Dormant) = made_if_room past (index_of past a) (Closes a true)
after_called past a (Some close.Gone) = made_if_room past (Some 0) (Gone a)

-- an entry of a sight is of this actor, if there is one
abbrev pub IsEntry : (actor : ℕ) → Option SeenValue → Type 0
IsEntry a None = Unit {0}
IsEntry a (Some s) = s.actor ≡ a

-- the last sight shows this flush number of an actor that a close puts to sleep
abbrev pub IsFlush : Past → (actor : ℕ) → Close → (flush : ℕ) → Type 0
IsFlush past a close.Dormant flush = flush_seen past a ≡ Some flush
IsFlush past a close.Plain flush = Unit {0}
IsFlush past a close.Gone flush = Unit {0}

-- sender and channels stand for a past whose last tick and sight are these, and whose actors ascend
pub record IsTicked (s : Sender) (t : Channels) (past : Past) (samples : Samples)
    (records : List (ℕ × ActorRecord)) (pending live : List ℕ) (layout : Layout)
    (sight : List SeenValue) (tick : ℕ) : Type 0 where
  pub both : KeepsBoth s t past samples
  pub records_are : s.records ≡ records
  pub pending_are : s.pending ≡ pending
  pub live_are : s.live ≡ live
  pub tick_is : tick ≡ tick_count past
  pub sight_is : sight_of past ≡ sight_value layout sight
  pub ascends : Ascends 0 (actors_in sight)
