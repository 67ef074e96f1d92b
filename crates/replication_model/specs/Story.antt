-- What the lines of a script do, and what each tells: edits of the world, and events of each player's two ends.
-- The feeds alone say what the ends do: packets, verdicts, answers and copies are asked of their pasts.
use Rattle.std.specs.Prelude.{ℕ, ◌+◌, ◌-◌, ◌*◌, ◌%◌, ◌==◌, List, [], ◌∷◌, ◌++◌, map, length, drop, Bool, not, ◌&&◌, ◌||◌, nat_lt, Option, Some, None, find, filter, filter_map, option_map, unwrap_or, slice_get, if◌then◌else◌, ℤ}
use Rattle.std.specs.List.{flat_map, fold, range_with_len}
use Rattle.protocol_model.specs.Limits.{late_distance}
use Rattle.protocol_model.specs.Value.{Table, Class, Prop, Arg, handles_of}
use Rattle.protocol_model.specs.World.{Edits, Edit, Spawn, spawn_count}
use Rattle.protocol_model.specs.Sight.{sight}
use Rattle.protocol_model.specs.declared.Version.{Version}
use Rattle.protocol_model.specs.Payload.{Calls}
use Rattle.connection_model.specs.Feed.{End, Event, Tick, Got, Past, Delivered, has_ended}
use Rattle.protocol_model.specs.Side.{Side, AtServer, AtClient}
use Rattle.protocol_model.specs.Sight.{Seen}
use Rattle.connection_model.specs.Fates.{top_of}
use Rattle.connection_model.specs.Copies.{copied_actors, copy_class, copy_channel, copy_value}
use Rattle.connection_model.specs.CallAnswers.{answer_of}
use Rattle.protocol_model.specs.declared.Verdict.{Verdict}
use Rattle.connection_model.specs.Verdict.{verdict_of}
use Rattle.connection_model.specs.Past.{past_of, sent_bytes}
use Rattle.protocol_model.specs.declared.CallVerdict.{CallVerdict}
use Rattle.connection_model.specs.Handed.{handed_by, server_verdict, client_verdict}
use Rattle.connection_model.specs.Settled.{is_settled}
use Rattle.protocol_model.specs.Search.{insert_in_order}
use Rattle.script_model.specs.Lines.{Line, Join, ApplyEdit, TickAll, TickClient, Deliver, DeliverNew, CallTo, CallAll, Dump, AskSettled, Forge}
use Rattle.script_model.specs.Reports.{Says, Absent, Late, Report, Joined, Actor, Sent, Stalled, Handed, Answered, Forged, Called, Copies, Copy, Settled}

-- a player who joined: the feeds of the server's and of the client's end, the newest event first, and how many
-- packets had been sent to each when the last line of this player delivered new ones there (`upnew` to the server,
-- `downnew` to the client), 0 before the first such line
pub record Player : Type 0 where
  pub number : ℕ
  pub budget : ℕ
  pub version : Version
  pub server_feed : List Event
  pub client_feed : List Event
  pub told_server : ℕ
  pub told_client : ℕ

-- the edits so far, the newest first, and the players who joined, ascending
pub record Story : Type 0 where
  pub edits : Edits
  pub players : List Player

-- before the first line
abbrev pub first_story : Story
first_story = record { edits = []; players = [] }

-- ---- ends

-- one end of the player's connection
abbrev pub end_of : Table → Side → Player → End
end_of table AtServer p = record { side = AtServer; version = p.version; budget = p.budget; table = table }
end_of table AtClient p = record { side = AtClient; version = p.version; budget = 1000000; table = table }

-- what that end heard, the newest event first
abbrev pub feed_of : Side → Player → List Event
feed_of AtServer p = p.server_feed
feed_of AtClient p = p.client_feed

-- what that end did
abbrev pub past_at : Table → Side → Player → Past
past_at table side p = past_of (end_of table side p) (feed_of side p)

-- the packets that the end sent, oldest first
abbrev pub out_at : Table → Side → Player → List (List ℕ)
out_at table side p = sent_bytes (end_of table side p) (past_at table side p)

-- the end hears one more event
abbrev pub with_event : Side → Event → Player → Player
with_event AtServer event p = record p { server_feed = event ∷ p.server_feed }
with_event AtClient event p = record p { client_feed = event ∷ p.client_feed }

-- the other end
abbrev pub other_side : Side → Side
other_side AtServer = AtClient
other_side AtClient = AtServer

-- ---- ticks

-- the actors that a tick's sight had as relevant
abbrev pub relevant_in : Event → List ℕ
relevant_in (Tick sight) = map (λ (seen : Seen). seen.actor) (filter (λ (seen : Seen). seen.relevant) sight)
relevant_in event = []

-- the actors that an earlier sight of the player had as relevant
abbrev pub earlier_of : Player → List ℕ
earlier_of p = flat_map relevant_in p.server_feed

-- what an end hears at a tick: the server what its player sees, a client nothing
abbrev pub tick_event : Table → Edits → Side → Player → Event
tick_event table edits AtServer p = Tick (sight table edits p.number (earlier_of p))
tick_event table edits AtClient p = Tick []

-- packets with their numbers, the first of them n; an end numbers its packets from 1
abbrev pub numbered_from : Side → (player number : ℕ) → List (List ℕ) → List Report
numbered_from side player n [] = []
numbered_from side player n (bytes ∷ packets) =
    Sent side player n bytes ∷ numbered_from side player (n + 1) packets

-- the packets after the first `count`, numbered on
abbrev pub sent_reports : Side → (player count : ℕ) → List (List ℕ) → List Report
sent_reports side player count out = numbered_from side player (count + 1) (drop count out)

-- the end stalled in this tick: it was alive before, and isn't any more
abbrev pub stalled_report : Side → (player : ℕ) → (before after : Past) → List Report
stalled_report side player before after =
    if not (has_ended before) && has_ended after then Stalled side player ∷ [] else []

-- the packets of a tick, and whether the end stalled
abbrev pub tick_reports : Side → (player : ℕ) → End → (before after : Past) → List Report
tick_reports side player end before after =
    sent_reports side player (length (sent_bytes end before)) (sent_bytes end after)
    ++ stalled_report side player before after

-- ---- deliveries

-- what is to be done with a call, at this side
abbrev pub call_verdict : Side → Edits → (player actor : ℕ) → (held : Bool) → CallVerdict
call_verdict AtServer edits player a held = server_verdict edits player a held
call_verdict AtClient edits player a held = client_verdict held

-- a call that was handed over
abbrev pub call_report : Edits → Side → (player : ℕ) → Delivered → Option Report
call_report edits side player d = elim d.message [
  | Calls actor number call args ↦ Some
      (Handed side player actor call.name (call_verdict side edits player actor d.held) args)
  | _ ↦ None
]

-- the calls that a datagram hands over
abbrev pub handed_reports : Edits → Side → (player : ℕ) → End → Past → List ℕ → List Report
handed_reports edits side player end past bytes =
    filter_map (call_report edits side player) (handed_by end past bytes)

-- a player and what was told
abbrev pub Reported : Type 0
Reported = Player × List Report

-- the end hears a datagram: the calls that it hands over, and then its verdict
abbrev pub after_datagram : Table → Edits → Side → (Verdict → Report) → List ℕ → Player → Reported
after_datagram table edits side report bytes p =
    let past = past_at table side p in
    let end = end_of table side p in (
      with_event side (Got bytes) p,
      handed_reports edits side p.number end past bytes ++ report (verdict_of end past bytes) ∷ [],
    )

-- a packet that wasn't sent is absent, and one more than the late distance below the greatest number taken is late;
-- neither is delivered
abbrev pub after_delivery : Table → Edits → Side → (number : ℕ) → Player → Reported
after_delivery table edits side k p = elim (slice_get (out_at table (other_side side) p) (k - 1)) [
  | None ↦ (p, Answered side p.number k Absent ∷ [])
  | Some bytes ↦ (if nat_lt (k + late_distance) (top_of (past_at table side p))
      then (p, Answered side p.number k Late ∷ [])
      else after_datagram table edits side (λ verdict. Answered side p.number k (Says verdict)) bytes p)
]

-- one more packet delivered
abbrev pub also_delivery : Table → Edits → Side → Reported → (number : ℕ) → Reported
also_delivery table edits side told k =
    let next = after_delivery table edits side k told.0 in (next.0, told.1 ++ next.1)

-- how many packets there were at the last delivery of new ones to this side
abbrev pub told_before : Side → Player → ℕ
told_before AtServer p = p.told_server
told_before AtClient p = p.told_client

-- `count` packets were there at the last delivery of new ones
abbrev pub with_told : Side → (count : ℕ) → Player → Player
with_told AtServer count p = record p { told_server = count }
with_told AtClient count p = record p { told_client = count }

-- the packet's number is no multiple of `every`, or `every` is 0, which loses none
abbrev pub is_kept : (every number : ℕ) → Bool
is_kept every k = every == 0 || not (k % every == 0)

-- each packet sent since the last line of this kind, but those whose number is a multiple
abbrev pub after_new_deliveries : Table → Edits → Side → (every : ℕ) → Player → Reported
after_new_deliveries table edits side every p =
    let count = length (out_at table (other_side side) p) in
    fold (also_delivery table edits side) (with_told side count p, [])
    (filter (is_kept every) (range_with_len (told_before side p + 1) (count - told_before side p)))

-- a datagram that nobody sent
abbrev pub after_forgery : Table → Edits → Side → List ℕ → Player → Reported
after_forgery table edits side bytes p = after_datagram table edits side (Forged side p.number) bytes p

-- ---- calls and copies

-- a call at one end
abbrev pub after_call_of : Table → Side → (actor number : ℕ) → List Arg → Player → Reported
after_call_of table side a n args p = (
  with_event side (Event.Call a n args) p,
  Called side p.number (answer_of side (past_at table side p) a n args) ∷ [],
)

-- whether the actor is settled for the player
abbrev pub settled_answer : Table → Edits → (actor : ℕ) → Player → Reported
settled_answer table edits a p =
    (p, Settled p.number a (is_settled table edits p.number (past_at table AtServer p) a) ∷ [])

-- each property of a copy by its name
abbrev pub copy_values : Past → (actor : ℕ) → Class → List (List ℕ × ℤ)
copy_values past a class =
    map (λ (entry : ℕ × Prop). (entry.1.name, copy_value past a entry.0)) (handles_of class)

-- one copy
abbrev pub copy_report : (player : ℕ) → Past → (actor : ℕ) → Option Report
copy_report player past a =
    option_map (λ (class : Class). Copy player a class.name (copy_channel past a) (copy_values past a class))
    (copy_class past a)

-- a client's copies, ascending by actor
abbrev pub copies_reports : Table → Player → List Report
copies_reports table p =
    let past = past_at table AtClient p in
    Copies p.number (length (copied_actors past)) ∷ filter_map (copy_report p.number past) (copied_actors past)

-- ---- lines

-- the player's own part of the story goes on, and the others stay
abbrev pub with_player : (Player → Reported) → (player : ℕ) → Story → Story × List Report
with_player does n story = (
  record story { players = map (λ (p : Player). if p.number == n then (does p).0 else p) story.players },
  flat_map (λ (p : Player). if p.number == n then (does p).1 else []) story.players,
)

-- each player's part of the story goes on
abbrev pub with_all : (Player → Reported) → Story → Story × List Report
with_all does story = (
  record story { players = map (λ (p : Player). (does p).0) story.players },
  flat_map (λ (p : Player). (does p).1) story.players,
)

-- a tick of one end
abbrev pub after_tick_of : Table → Edits → Side → Player → Reported
after_tick_of table edits side p =
    let new = with_event side (tick_event table edits side p) p in
    (new, tick_reports side p.number (end_of table side p) (past_at table side p) (past_at table side new))

-- a spawn tells its actor
abbrev pub edit_reports : Edits → Edit → List Report
edit_reports edits (Spawn class x y) = Actor (2 * (spawn_count edits + 1)) ∷ []
edit_reports edits edit = []

-- a player who joins now
abbrev pub new_player : (player budget : ℕ) → Version → Player
new_player player budget version =
    record {
      number = player;
      budget = budget;
      version = version;
      server_feed = [];
      client_feed = [];
      told_server = 0;
      told_client = 0;
    }

-- the players by number, with one more
abbrev pub with_joined : Player → List Player → List Player
with_joined p players = insert_in_order (λ (one : Player) (two : Player). nat_lt one.number two.number) p players

-- what a line does to the story, and what it tells
abbrev pub after_line : Table → Story → Line → Story × List Report
after_line table story (Join player budget version) =
    (record story { players = with_joined (new_player player budget version) story.players }, Joined player ∷ [])
after_line table story (ApplyEdit edit) =
    (record story { edits = edit ∷ story.edits }, edit_reports story.edits edit)
after_line table story TickAll = with_all (after_tick_of table story.edits AtServer) story
after_line table story (TickClient player) = with_player (after_tick_of table story.edits AtClient) player story
after_line table story (Deliver side player k) =
    with_player (after_delivery table story.edits side k) player story
after_line table story (DeliverNew side player every) =
    with_player (after_new_deliveries table story.edits side every) player story
after_line table story (CallTo side player a n args) =
    with_player (after_call_of table side a n args) player story
after_line table story (CallAll a n args) = with_all (after_call_of table AtServer a n args) story
after_line table story (Dump player) = with_player (λ (p : Player). (p, copies_reports table p)) player story
after_line table story (AskSettled player a) = with_player (settled_answer table story.edits a) player story
after_line table story (Forge side player bytes) =
    with_player (after_forgery table story.edits side bytes) player story

-- one more line
abbrev pub also_line : Table → Story × List Report → Line → Story × List Report
also_line table told line = let next = after_line table told.0 line in (next.0, told.1 ++ next.1)

-- the story after lines, oldest first, and all that they told
abbrev pub story_of : Table → List Line → Story × List Report
story_of table lines = fold (also_line table) (first_story, []) lines

-- the feed of one end of a player, after lines
abbrev pub feed_after : Table → List Line → Side → (player : ℕ) → List Event
feed_after table lines side n =
    unwrap_or (option_map (feed_of side) (find (λ (p : Player). p.number == n) (story_of table lines).0.players)) []
