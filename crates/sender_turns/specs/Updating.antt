-- The update of one actor, in its turn.
use Rattle.std.specs.Prelude.{◌≡◌, ◌⊎◌, ℕ, ◌+◌, ◌<◌, ◌≤◌, ◌&&◌, List, [], ◌∷◌, length, Bool, true, false, Some, nat_lt, IsTrue, if◌then◌else◌}
use Rattle.std.specs.List.{list_any}
use Rattle.protocol_model.specs.Packet.{channel_limit}
use Rattle.protocol_model.specs.Side.{AtServer}
use Rattle.protocol_model.specs.Value.{Class}
use Rattle.protocol_model.specs.World.{class_at}
use Rattle.change_model.specs.Changes.{Sample}
use Rattle.connection_model.specs.Carry.{due_pairs}
use Rattle.connection_model.specs.Fates.{last_sent}
use Rattle.connection_model.specs.Feed.{End, Past, tick_count}
use Rattle.connection_model.specs.Items.{is_update_of}
use Rattle.connection_model.specs.Pack.{Packing}
use Rattle.connection_model.specs.State.{index_of}
use Rattle.class_layout.specs.Tables.{Layout, table_in}
use Rattle.value_codec.specs.declared.pair.Pair.{Pair as PairValue}
use Rattle.link_end.specs.Link.{Link}
use Rattle.link_end.specs.Packs.{sent_now}
use Rattle.channel_table.specs.Channels.{Channels}
use Rattle.bunch_packing.specs.Both.{PacksBoth}
use Rattle.payload_writing.specs.Values.{pairs_fit}
use Rattle.sender_records.specs.declared.actor.ActorRecord.{ActorRecord}
use Rattle.sender_records.specs.Handles.{HandlesKept, handle_in, is_updatable_in}
use Rattle.sender_records.specs.Actors.{KeepsActor}
use Rattle.sender_steps.specs.declared.sight.Seen.{Seen as SeenValue}
use Rattle.sender_steps.specs.declared.sent.UpdateSent.{UpdateSent}
use Rattle.sender_steps.specs.Sights.{seen_value}
use Rattle.sender_steps.specs.Stands.{is_update_sent}
use Rattle.sender_turns.specs.Turning.{AreSampled, IsCompared}

-- an update may hold the handle of the value, and it is marked
abbrev pub is_marked_value : Class → (owns : Bool) → HandlesKept → PairValue → Bool
is_marked_value class owns t p =
    is_updatable_in class owns p.prop && (handle_in t.handles p.prop).marked

-- the note of an update that went into the packet begun last, if it found room
abbrev pub note_of : (actor : ℕ) → Packing → List UpdateSent
note_of a p =
    if p.full then []
    else record { packet = last_sent p.past + length p.packets; actor = a } ∷ []

-- each handle of the actor went last in a packet that these notes name, or in the one that it went in
-- before
abbrev pub AreNoted : (actor : ℕ) → List UpdateSent → (before after : HandlesKept) → Type 0
AreNoted a notes before after = (h : ℕ)
    → (list_any (is_update_sent (handle_in after.handles h).packet a) notes ≡ true)
    ⊎ ((handle_in after.handles h).packet ≡ (handle_in before.handles h).packet)

-- the turn of an actor to be updated, in a tick that began after `before` and in which each item
-- found room: it holds this index, was compared after the deeds `now` and has something due, no
-- update of it was packed since, and its values are those of its newest sample and can be written
pub record IsUpdating (layout : Layout) (s : SeenValue) (r : ActorRecord) (l : Link)
    (t : Channels) (end : End) (before now : Past) (p : Packing) (ch : ℕ) (samples : List Sample)
    (tick : ℕ) : Type 0 where
  pub both : PacksBoth l t end AtServer before p
  pub is_ready : p.full ≡ false
  pub keeps : KeepsActor (sent_now p) samples s.actor r
  pub ticks : tick ≡ tick_count p.past
  pub index : index_of p.past s.actor ≡ Some ch
  pub low : ch < channel_limit end.version
  pub compared : IsCompared layout now samples s r.handles
  pub some : nat_lt 0 (length (due_pairs now (seen_value layout s))) ≡ true
  pub unserved : list_any (list_any (is_update_of s.actor)) p.packets ≡ false
  pub shown : 1 ≤ r.service.relevant_at
  pub class : s.class < length layout.classes
  pub sampled : AreSampled samples s.values
  pub fit : IsTrue (pairs_fit (class_at (table_in layout) s.class) s.values)
