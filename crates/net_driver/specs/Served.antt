-- What a server was told: the edits of its world, and what each player's connection heard.
use Rattle.std.specs.Prelude.{ℕ, ◌+◌, ◌==◌, List, [], ◌∷◌, ◌++◌, map, reverse, filter, sum_by, Bool, true, false, not, ◌&&◌, nat_lt, Option, find, is_some, if◌then◌else◌}
use Rattle.std.specs.List.{flat_map, list_any}
use Rattle.protocol_model.specs.declared.Version.{Version}
use Rattle.protocol_model.specs.declared.CallAnswer.{CallAnswer}
use Rattle.protocol_model.specs.Value.{Table, Arg}
use Rattle.protocol_model.specs.World.{Edits, actors_of}
use Rattle.protocol_model.specs.Sight.{Seen, sight}
use Rattle.protocol_model.specs.Side.{AtServer}
use Rattle.protocol_model.specs.Search.{insert_in_order}
use Rattle.connection_model.specs.Feed.{End, Event, Tick, Past, Ended, ByStall, has_ended}
use Rattle.connection_model.specs.Past.{past_of}
use Rattle.connection_model.specs.CallAnswers.{answer_of}
use Rattle.connection_model.specs.Settled.{is_settled}
use Rattle.connection_model.specs.Fates.{top_of}
use Rattle.graph_model.specs.Listed.{listed_count}
use Rattle.replication_model.specs.Sampled.{Connection, is_awake_for}
use Rattle.replication_model.specs.Story.{relevant_in}
use Rattle.link_end.specs.Answers.{new_packets}
use Rattle.driver_sights.specs.Noted.{sample_now}
use Rattle.shadow_changes.specs.Samples.{Samples}

-- a player who joined, and what the server's end of its connection heard, the newest event first;
-- `lost` once a want of memory has ended that end
pub record Seat : Type 0 where
  pub number : ℕ
  pub budget : ℕ
  pub version : Version
  pub feed : List Event
  pub lost : Bool

-- the edits so far, the newest first, the players who joined, ascending, the ticks so far, and the
-- samples of actors, the newest first
pub record Served : Type 0 where
  pub edits : Edits
  pub seats : List Seat
  pub ticks : ℕ
  pub samples : Samples

-- before anything
abbrev pub first_served : Served
first_served = record { edits = []; seats = []; ticks = 0; samples = [] }

-- ---- one connection

-- the server's end of a player's connection
abbrev pub end_for : Table → Seat → End
end_for table s = record { side = AtServer; version = s.version; budget = s.budget; table = table }

-- what that end did; of one that a want of memory ended, nothing but its end is told
abbrev pub past_as : (lost : Bool) → End → List Event → Past
past_as true end feed = Ended ByStall ∷ []
past_as false end feed = past_of end feed

abbrev pub past_for : Table → Seat → Past
past_for table s = past_as s.lost (end_for table s) s.feed

-- it hears one more event
abbrev pub heard : Event → Seat → Seat
heard event s = record s { feed = event ∷ s.feed }

-- a want of memory ended it
abbrev pub lost_now : Seat → Seat
lost_now s = record s { lost = true }

-- a player who joins now
abbrev pub new_seat : (player budget : ℕ) → Version → Seat
new_seat player budget version =
    record { number = player; budget = budget; version = version; feed = []; lost = false }

-- ---- all of them

-- the seat of a player
abbrev pub seat_of : Served → (player : ℕ) → Option Seat
seat_of s n = find (λ (seat : Seat). seat.number == n) s.seats

-- the player joined
abbrev pub has_joined : Served → (player : ℕ) → Bool
has_joined s n = is_some (seat_of s n)

-- one seat changes, and the others stay
abbrev pub with_seat : (Seat → Seat) → (player : ℕ) → Served → Served
with_seat change n s =
    record s {
      seats = map
          (λ (seat : Seat). if seat.number == n then change seat else seat) s.seats;
    }

-- the seats by number, with one more
abbrev pub with_joined : Seat → Served → Served
with_joined new s =
    record s {
      seats = insert_in_order
          (λ (one : Seat) (two : Seat). nat_lt one.number two.number) new s.seats;
    }

-- ---- a tick

-- the actors that an earlier sight of the player had as relevant
abbrev pub earlier_for : Seat → List ℕ
earlier_for s = flat_map relevant_in s.feed

-- what a tick shows the player
abbrev pub shown_to : Table → Edits → Seat → List Seen
shown_to table edits s = sight table edits s.number (earlier_for s)

-- its connection hears the tick
abbrev pub ticked : Table → Edits → Seat → Seat
ticked table edits s = heard (Tick (shown_to table edits s)) s

-- a connection: its player, and what its end did
abbrev pub connection_of : Table → Seat → Connection
connection_of table s = (s.number, past_for table s)

-- how many actors the nodes list for a player whose end hasn't ended
abbrev pub listed_for : Table → Edits → Seat → ℕ
listed_for table edits s =
    if has_ended (past_for table s) then 0 else listed_count table edits s.number

-- so many for all players
abbrev pub listed_sum : Table → Served → ℕ
listed_sum table s = sum_by (listed_for table s.edits) s.seats

-- one sample of each actor that is relevant to a connection that hasn't ended and not quiet there
abbrev pub samples_now : Table → Served → Samples
samples_now table s =
    reverse (map (λ a. (a, sample_now table s.edits (s.ticks + 1) a))
    (filter (λ a. list_any (is_awake_for table s.edits a) (map (connection_of table) s.seats))
    (actors_of s.edits)))

-- a tick begins with its samples
abbrev pub with_samples : Table → Served → Served
with_samples table s =
    record s { ticks = s.ticks + 1; samples = samples_now table s ++ s.samples }

-- and then all connections hear it
abbrev pub with_all_ticked : Table → Served → Served
with_all_ticked table s = record s { seats = map (ticked table s.edits) s.seats }

abbrev pub after_ticks : Table → Served → Served
after_ticks table s = with_all_ticked table (with_samples table s)

-- what a tick sends a player: the packets, each with its number; and whether its end stalls in it
pub record TickOf : Type 0 where
  pub player : ℕ
  pub sent : List (ℕ × List ℕ)
  pub stalled : Bool

abbrev pub tick_of : Table → Edits → Seat → TickOf
tick_of table edits s = record {
  player = s.number;
  sent = new_packets (end_for table s) (past_for table s) (past_for table (ticked table edits s));
  stalled = not (has_ended (past_for table s))
      && has_ended (past_for table (ticked table edits s));
}

-- ---- answers

-- what the end answers to a call
abbrev pub answer_for : Table → Seat → (actor number : ℕ) → List Arg → CallAnswer
answer_for table s a n args = answer_of AtServer (past_for table s) a n args

-- the actor is settled for the player
abbrev pub settled_for : Table → Edits → Seat → (actor : ℕ) → Bool
settled_for table edits s a = is_settled table edits s.number (past_for table s) a

-- the greatest packet number taken
abbrev pub top_for : Table → Seat → ℕ
top_for table s = top_of (past_for table s)
