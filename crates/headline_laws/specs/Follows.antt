-- What a client has of its server: the messages that it was handed on, and the copies that these
-- leave.
use Rattle.std.specs.Prelude.{◌≡◌, ℕ, ◌+◌, ◌<◌, ◌≤◌, List, [], ◌∷◌, ◌++◌, map, true, false, Some, None, filter_map}
use Rattle.std.specs.List.{AllByRecursion}
use Rattle.protocol_model.specs.Value.{Segment, Class}
use Rattle.protocol_model.specs.Payload.{Message, Opens, Closes, Updates, Calls, Gone, parts_of}
use Rattle.protocol_model.specs.Side.{AtServer, AtClient}
use Rattle.protocol_model.specs.World.{class_of}
use Rattle.script_model.specs.Lines.{Line}
use Rattle.replication_model.specs.Story.{Player, story_of, past_at}
use Rattle.table_model.specs.Rules.{Entry, segments_of}
use Rattle.table_model.specs.Grammar.{table_of}
use Rattle.connection_model.specs.Feed.{Past, Delivered}
use Rattle.connection_model.specs.State.{Mark, was_opened}
use Rattle.connection_model.specs.Copies.{delivered_of, copy_class, copy_channel, has_copy, actor_opened}
use Rattle.connection_model.specs.Windows.{wholes_of}
use Rattle.connection_laws.specs.Delivered.{Numbered, messages_on, handed_reliably, payload_of}
use Rattle.payload_laws.specs.Delivered.{ExportsStand}
use Rattle.headline_laws.specs.Agree.{CopiesAgree}
use Rattle.headline_laws.specs.Fits.{IsSpawned}
use Rattle.headline_laws.specs.Marks.{marks_of}

-- how many bunches messages have
abbrev pub parts_in : List Numbered → ℕ
parts_in [] = 0
parts_in (made ∷ ms) = parts_of made.1 + parts_in ms

-- of the messages made on the index the first were handed on, each as it was made
pub record HandsOn (from to : Past) (ch : ℕ) : Type 0 where
  pub done : List Numbered
  pub later : List Numbered
  pub split : messages_on from ch ≡ done ++ later
  pub same : map (λ (d : Delivered). d.message) (handed_reliably to ch)
      ≡ map (λ (x : Numbered). x.1) done

-- so on every index
abbrev pub HandsOnAll : (from to : Past) → Type 0
HandsOnAll from to = (ch : ℕ) → HandsOn from to ch

-- what was handed on is all that was received whole
abbrev pub HandsOnWhole : (from to : Past) → HandsOnAll from to → Type 0
HandsOnWhole from to hands = (ch : ℕ) → wholes_of to ch ≡ map (payload_of ch) (hands ch).done

-- the mark was handed on: its number is among those of the messages that were
abbrev pub IsDone : (from to : Past) → HandsOnAll from to → Mark → Type 0
IsDone from to hands mark = mark.number ≤ parts_in (hands mark.channel).done

-- the mark wasn't handed on yet
abbrev pub IsAhead : (from to : Past) → HandsOnAll from to → Mark → Type 0
IsAhead from to hands mark = parts_in (hands mark.channel).done < mark.number

-- the copy that a mark leaves, with this message on this channel: one on the channel after an open, one
-- that sleeps or none after a close, and none else
abbrev pub CopyAfter : Past → (actor : ℕ) → (channel : ℕ) → Message → Type 0
CopyAfter past a ch (Opens exports actor class values) = (has_copy past a ≡ true)
    × (copy_channel past a ≡ Some ch)
CopyAfter past a ch (Closes actor sleeps) = (has_copy past a ≡ sleeps)
    × (copy_channel past a ≡ None)
CopyAfter past a ch (Updates actor class values) = (has_copy past a ≡ false)
    × (copy_channel past a ≡ None)
CopyAfter past a ch (Calls actor number call args) = (has_copy past a ≡ false)
    × (copy_channel past a ≡ None)
CopyAfter past a ch (Gone actor) = (has_copy past a ≡ false) × (copy_channel past a ≡ None)

-- the actor's copy is the one that the newest of these marks leaves; none where there is no mark
abbrev pub CopyBy : Past → (actor : ℕ) → List Mark → Type 0
CopyBy past a [] = (has_copy past a ≡ false) × (copy_channel past a ≡ None)
CopyBy past a (mark ∷ marks) = CopyAfter past a mark.channel mark.message

-- of the actor's marks the older ones were handed on, whatever their channels, the newer ones not yet,
-- and the copy is what the older ones leave
pub record MarksFollow (from to : Past) (hands : HandsOnAll from to) (a : ℕ) : Type 0 where
  pub newer : List Mark
  pub older : List Mark
  pub split : marks_of from a ≡ newer ++ older
  pub ahead : AllByRecursion (IsAhead from to hands) newer
  pub done : AllByRecursion (IsDone from to hands) older
  pub copy : CopyBy to a older

-- the client follows the server, where actors have these classes and the table these segments: on each
-- index a prefix of the messages made was handed on, each as it was made; copies on channels are those
-- of the channels' users; an actor's copy is what its marks so far leave; a copy is of its actor's
-- class, and the server opened the actor; and what opens exported are segments of the table
pub record Follows (segments : List Segment) (classes : ℕ → Class)
    (server client : Past) : Type 0 where
  pub hands : HandsOnAll server client
  pub agree : CopiesAgree client
  pub marks : (a : ℕ) → MarksFollow server client hands a
  pub known : (a : ℕ) (class : Class) → copy_class client a ≡ Some class
      → (class ≡ classes a) × (was_opened server a ≡ true)
  pub exports : ExportsStand segments (delivered_of client)
  pub spawned : AllByRecursion IsSpawned (filter_map actor_opened (delivered_of client))

-- it follows the server, and all that it received whole was handed on
pub record FollowsWhole (segments : List Segment) (classes : ℕ → Class)
    (server client : Past) : Type 0 where
  pub follows : Follows segments classes server client
  pub whole : HandsOnWhole server client follows.hands

-- the player's client follows its server, after these lines over the table of these entries
abbrev pub PlayerFollows : List Entry → List Line → Player → Type 0
PlayerFollows entries lines p =
    FollowsWhole (segments_of entries)
    (class_of (table_of entries) (story_of (table_of entries) lines).0.edits)
    (past_at (table_of entries) AtServer p) (past_at (table_of entries) AtClient p)
