-- The actors that have something to send, as a sender finds them before the first turn of a tick.
use Rattle.std.specs.Prelude.{◌≡◌, ◌≤◌, ◌<◌, ◌+◌, ◌==◌, ◌&&◌, ◌||◌, ℕ, List, [], ◌∷◌, ◌++◌, filter, length, Bool, true, false, nat_lt, Option, Some, None, slice_get, slice_index_or}
use Rattle.std.specs.List.{cons_option}
use Rattle.std.specs.Bool.{then_some}
use Rattle.protocol_model.specs.World.{no_class}
use Rattle.protocol_model.specs.Value.{Pair}
use Rattle.protocol_model.specs.Sight.{Seen}
use Rattle.change_model.specs.Changes.{Sample}
use Rattle.connection_model.specs.Feed.{Past, tick_count, sight_of}
use Rattle.connection_model.specs.State.{state_of, is_opened}
use Rattle.connection_model.specs.Carry.{updatable_pairs, due_pairs}
use Rattle.connection_model.specs.Items.{score_of, wants_open}
use Rattle.connection_laws.specs.Run.{Ascends}
use Rattle.packing_laws.specs.Sendings.{AreSendings}
use Rattle.class_layout.specs.Tables.{Layout}
use Rattle.value_codec.specs.declared.pair.Pair.{Pair as PairValue}
use Rattle.shadow_changes.specs.Samples.{Shadows, Samples, Keeps, samples_of}
use Rattle.sender_laws.specs.Items.{has_update}
use Rattle.sender_laws.specs.Values.{IsCurrent}
use Rattle.sender_records.specs.declared.actor.ActorRecord.{ActorRecord}
use Rattle.sender_records.specs.Life.{state_value}
use Rattle.sender_records.specs.Handles.{HandlesKept, handle_in, pairs_of, AreApart, AllBelow, Agrees}
use Rattle.sender_records.specs.Actors.{KeepsActor}
use Rattle.sight_laws.specs.Sights.{IsSight}
use Rattle.turn_laws.specs.Turns.{has_turn}
use Rattle.sender_steps.specs.declared.sight.Seen.{Seen as SeenValue}
use Rattle.sender_turns.specs.declared.turns.Turn.{Turn}
use Rattle.sender_steps.specs.Sender.{record_in}
use Rattle.sender_steps.specs.Sights.{seen_value, sight_value, actors_in}
use Rattle.sender_steps.specs.Stands.{AreKept, Agrees as AgreesWith}

-- the greater score goes first, ties by lower guid
abbrev pub goes_first : Turn → Turn → Bool
goes_first one other = nat_lt other.score one.score || (other.score == one.score && nat_lt one.actor other.actor)

-- the handles that an update may hold now and that are marked, with their values
abbrev pub marked_pairs : HandlesKept → Seen → List Pair
marked_pairs t seen = filter (λ (p : Pair). (handle_in t.handles p.handle).marked) (updatable_pairs seen)

-- each handle stands once, and the values are those of the newest sample, but for the role, which
-- has none
abbrev pub AreSampled : List Sample → List PairValue → Type 0
AreSampled samples values = AreApart (pairs_of values) × Agrees samples (pairs_of values)

-- the turn of an actor of a sight, if it has something to send
abbrev pub turn_in : Layout → Past → (place : ℕ) → SeenValue → Option Turn
turn_in layout past place s = then_some (s.relevant && has_turn past (seen_value layout s)) (record {
  score = score_of past (seen_value layout s);
  actor = s.actor;
  place = place;
  opens = wants_open past (seen_value layout s);
})

-- the turns in the order of the sight, whose first entry has that place
abbrev pub turned : Layout → Past → (place : ℕ) → List SeenValue → List Turn
turned layout past place [] = []
turned layout past place (s ∷ sight) = cons_option (turn_in layout past place s) (turned layout past (place + 1) sight)

-- what stands in place of an entry that a sight hasn't
abbrev pub no_entry : Seen
no_entry = record {
  actor = 0;
  class = no_class;
  owns = false;
  relevant = false;
  destroyed = false;
  dormant = false;
  flush = 0;
  values = [];
}

-- the entry of a turn
abbrev pub turn_entry : Layout → List SeenValue → Turn → Seen
turn_entry layout sight t = slice_index_or (sight_value layout sight) t.place no_entry

-- a turn is that of an entry which is relevant and has something to send: its open, or else an
-- update
pub record IsTurn (layout : Layout) (past : Past) (sight : List SeenValue) (t : Turn) : Type 0 where
  pub entry : SeenValue
  pub place : slice_get sight t.place ≡ Some entry
  pub actor : t.actor ≡ entry.actor
  pub relevant : entry.relevant ≡ true
  pub has : has_turn past (seen_value layout entry) ≡ true
  pub opens : t.opens ≡ wants_open past (seen_value layout entry)

-- the actor's handles were compared with the values that it is seen with: those that are due are
-- marked, there is a record of each, and no later change is noted
pub record IsCompared (layout : Layout) (past : Past) (samples : List Sample) (s : SeenValue) (t : HandlesKept)
    : Type 0 where
  pub due : due_pairs past (seen_value layout s) ≡ marked_pairs t (seen_value layout s)
  pub room : AllBelow (length t.handles) s.values
  pub current : IsCurrent samples t.compared

-- each relevant actor of the sight that is opened was compared
abbrev pub AreCompared : Layout → Past → Samples → List (ℕ × ActorRecord) → List SeenValue → Type 0
AreCompared layout past samples records sight =
    (i : ℕ) (s : SeenValue) → slice_get sight i ≡ Some s → s.relevant ≡ true
    → is_opened (state_of past s.actor) ≡ true
    → IsCompared layout past (samples_of samples s.actor) s (record_in records s.actor).handles

-- an actor's record before it is compared in a tick whose sight shows it so
pub record IsReady (layout : Layout) (changes : Shadows) (past : Past) (samples : Samples) (tick : ℕ) (s : SeenValue)
    (r : ActorRecord) : Type 0 where
  pub keeps : KeepsActor past (samples_of samples s.actor) s.actor r
  pub noted : Keeps changes samples
  pub ticks : tick ≡ tick_count past
  pub class : s.class < length layout.classes
  pub shown : s.relevant ≡ true → 1 ≤ r.service.relevant_at
  pub values : s.relevant ≡ true → is_opened (state_of past s.actor) ≡ true
      → AreSampled (samples_of samples s.actor) s.values
  pub before : is_opened (state_of past s.actor) ≡ true → r.handles.last < tick

-- the record once it was compared, where it is opened, and the turn that was found
pub record HasTurned (layout : Layout) (past : Past) (samples : Samples) (place : ℕ) (s : SeenValue) (r : ActorRecord)
    (turn : Option Turn) : Type 0 where
  pub keeps : KeepsActor past (samples_of samples s.actor) s.actor r
  pub compared : s.relevant ≡ true → is_opened (state_of past s.actor) ≡ true
      → IsCompared layout past (samples_of samples s.actor) s r.handles
  pub found : turn ≡ turn_in layout past place s

-- each actor's record is right, the sight ascends by actor, and each entry's record is ready
pub record AreReady (layout : Layout) (changes : Shadows) (past : Past) (samples : Samples) (tick : ℕ)
    (records : List (ℕ × ActorRecord)) (sight : List SeenValue) : Type 0 where
  pub keeps : AreKept past samples records
  pub ascends : Ascends 0 (actors_in sight)
  pub each : (i : ℕ) (s : SeenValue) → slice_get sight i ≡ Some s
      → IsReady layout changes past samples tick s (record_in records s.actor)

-- before the first turn of a tick, whose packets so far hold no update: the sight is one and names
-- classes of the table, each relevant actor that is opened is seen with each handle once and with
-- the values of its newest sample, and actors that are opened were compared last in an earlier
-- tick
pub record BeforeTurns (layout : Layout) (changes : Shadows) (sent now : Past) (samples : Samples) (tick : ℕ)
    (records : List (ℕ × ActorRecord)) (sight : List SeenValue) : Type 0 where
  pub keeps : AreKept (sent ++ now) samples records
  pub sendings : AreSendings now sent
  pub unserved : (a : ℕ) → has_update a sent ≡ false
  pub noted : Keeps changes samples
  pub ticks : tick ≡ tick_count now
  pub seen : sight_of now ≡ sight_value layout sight
  pub ascends : IsSight (sight_value layout sight)
  pub classes : (i : ℕ) (s : SeenValue) → slice_get sight i ≡ Some s → s.class < length layout.classes
  pub values : (i : ℕ) (s : SeenValue) → slice_get sight i ≡ Some s → s.relevant ≡ true
      → is_opened (state_of now s.actor) ≡ true
      → AreApart (pairs_of s.values) × AgreesWith samples (seen_value layout s)
  pub before : (a : ℕ) → is_opened (state_of now a) ≡ true → (record_in records a).handles.last < tick
