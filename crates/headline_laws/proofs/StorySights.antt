-- What the ends of a script's players are shown.
use Rattle.std.proofs.Common.{ℕ, ◌+◌, ◌-◌, ◌==◌, List, [], ◌∷◌, map, filter, fold, length, Bool, nat_lt, refl, sym, subst, Option, Some, None, slice_get, if◌then◌else◌}
use Rattle.std.specs.List.{AllByRecursion, range_with_len}
use Rattle.std.proofs.lemmas.Bool.{cond_both}
use Rattle.protocol_model.specs.Search.{insert_in_order}
use Rattle.protocol_model.specs.Side.{Side, AtServer, AtClient}
use Rattle.protocol_model.specs.Value.{Table, Arg}
use Rattle.protocol_model.specs.World.{Edit, Edits}
use Rattle.script_model.specs.Lines.{Line, Join, ApplyEdit, TickAll, TickClient, Deliver, DeliverNew, CallTo, CallAll, Dump, AskSettled, Forge}
use Rattle.script_model.specs.Reports.{Report, Answered, Absent, Late, Says}
use Rattle.connection_model.specs.Feed.{Got, Call}
use Rattle.connection_model.specs.Fates.{top_of}
use Rattle.replication_model.specs.Headline.{HasJoined}
use Rattle.replication_model.specs.Story.{Player, Story, first_story, past_at, out_at, with_event, other_side, Reported, earlier_of, after_tick_of, after_datagram, after_forgery, after_delivery, also_delivery, told_before, with_told, is_kept, after_new_deliveries, after_call_of, settled_answer, copies_reports, new_player, after_line, also_line, story_of}
use Rattle.connection_laws.proofs.Items.{all_weaker}
use Rattle.connection_laws.proofs.PacketsSay.{IsIn, in_middle, all_at}
use Rattle.headline_laws.specs.Sights.{Seeing}
use Rattle.headline_laws.proofs.Sights.{SeesNothing, shown_by, seeing_later}

-- the server saw this world, the client nothing
pub record ShownTo (table : Table) (edits : Edits) (p : Player) : Type 0 where
  pub sees : Seeing table p.number edits (shown_by p.server_feed)
  pub blind : SeesNothing (shown_by p.client_feed)

-- what a player was shown stays so
abbrev pub Keeps : Table → Edits → (Player → Reported) → Type 0
Keeps table edits does = (p : Player) → ShownTo table edits p → ShownTo table edits (does p).0

-- a datagram shows nothing
got_shown : (table : Table) (edits : Edits) (side : Side) (bytes : List ℕ) (p : Player) → ShownTo table edits p → ShownTo table edits (with_event side (Got bytes) p)
got_shown table edits AtServer bytes p h = record { sees = h.sees; blind = h.blind }
got_shown table edits AtClient bytes p h = record { sees = h.sees; blind = h.blind }

-- a call shows nothing
call_shown : (table : Table) (edits : Edits) (side : Side) (a n : ℕ) (args : List Arg) (p : Player) → ShownTo table edits p → ShownTo table edits (with_event side (Call a n args) p)
call_shown table edits AtServer a n args p h = record { sees = h.sees; blind = h.blind }
call_shown table edits AtClient a n args p h = record { sees = h.sees; blind = h.blind }

-- a report shows nothing
pub told_shown : (table : Table) (edits : Edits) (side : Side) (count : ℕ) (p : Player) → ShownTo table edits p → ShownTo table edits (with_told side count p)
told_shown table edits AtServer count p h = record { sees = h.sees; blind = h.blind }
told_shown table edits AtClient count p h = record { sees = h.sees; blind = h.blind }

-- nor does a datagram, if there is one
delivery_by : (table : Table) (edits : Edits) (side : Side) (k : ℕ) (p : Player) → ShownTo table edits p → (o : Option (List ℕ)) → ShownTo table edits (let told : Reported = elim o [
  | None ↦ (p, Answered side p.number k Absent ∷ [])
  | Some bytes ↦ (if nat_lt (k + 8192) (top_of (past_at table side p)) then (p, Answered side p.number k Late ∷ [])
      else after_datagram table edits side (λ verdict. Answered side p.number k (Says verdict)) bytes p)
] in told.0)
delivery_by table edits side k p h None = h
delivery_by table edits side k p h (Some bytes) =
    cond_both (nat_lt (k + 8192) (top_of (past_at table side p))) (p, Answered side p.number k Late ∷ [])
    (after_datagram table edits side (λ verdict. Answered side p.number k (Says verdict)) bytes p) (λ (told : Reported). ShownTo table edits told.0) (λ q. h) (λ q. got_shown table edits side bytes p h)

-- a delivery shows nothing
pub delivery_keeps : (table : Table) (edits : Edits) (side : Side) (k : ℕ) → Keeps table edits (after_delivery table edits side k)
delivery_keeps table edits side k p h = delivery_by table edits side k p h (slice_get (out_at table (other_side side) p) (k - 1))

-- nor do deliveries
deliveries_keep : (table : Table) (edits : Edits) (side : Side) (ks : List ℕ) (told : Reported) → ShownTo table edits told.0 → ShownTo table edits (fold (also_delivery table edits side) told ks).0
deliveries_keep table edits side [] told h = h
deliveries_keep table edits side (k ∷ ks) told h = deliveries_keep table edits side ks (also_delivery table edits side told k) (delivery_keeps table edits side k told.0 h)

-- nor do deliveries of new packets
new_keeps : (table : Table) (edits : Edits) (side : Side) (every : ℕ) → Keeps table edits (after_new_deliveries table edits side every)
new_keeps table edits side every p h =
    deliveries_keep table edits side (filter (is_kept every) (range_with_len (told_before side p + 1) (length (out_at table (other_side side) p) - told_before side p)))
    (with_told side (length (out_at table (other_side side) p)) p, []) (told_shown table edits side (length (out_at table (other_side side) p)) p h)

-- a tick shows the world as it is
tick_keeps : (table : Table) (edits : Edits) (side : Side) → Keeps table edits (after_tick_of table edits side)
tick_keeps table edits AtServer p h = record { sees = ([], edits, earlier_of p, refl, refl, h.sees); blind = h.blind }
tick_keeps table edits AtClient p h = record { sees = h.sees; blind = (refl, h.blind) }

-- ---- all players

-- each player was shown the worlds
abbrev AllShown : Table → Edits → List Player → Type 0
AllShown table edits players = AllByRecursion (ShownTo table edits) players

-- so where each player does it
all_do : (table : Table) (edits : Edits) (does : Player → Reported) → Keeps table edits does → (players : List Player) → AllShown table edits players → AllShown table edits (map (λ (p : Player). (does p).0) players)
all_do table edits does k [] h = tt
all_do table edits does k (p ∷ players) h = (k p h.0, all_do table edits does k players h.1)

-- so where one player does
one_does : (table : Table) (edits : Edits) (does : Player → Reported) (who : ℕ) → Keeps table edits does → (players : List Player) → AllShown table edits players → AllShown table edits (map (λ (p : Player). if p.number == who then (does p).0 else p) players)
one_does table edits does who k [] h = tt
one_does table edits does who k (p ∷ players) h = (cond_both (p.number == who) (does p).0 p (ShownTo table edits) (λ e. k p h.0) (λ e. h.0), one_does table edits does who k players h.1)

-- so when a player joins
all_joined : (table : Table) (edits : Edits) (before : Player → Player → Bool) (new : Player) (players : List Player) → ShownTo table edits new → AllShown table edits players → AllShown table edits (insert_in_order before new players)
all_joined table edits before new [] one h = (one, tt)
all_joined table edits before new (p ∷ players) one h =
    cond_both (before p new) (p ∷ insert_in_order before new players) (new ∷ p ∷ players) (AllShown table edits) (λ e. (h.0, all_joined table edits before new players one h.1)) (λ e. (one, h))

-- what was shown stays so when the world grows
edit_shown : (table : Table) (edit : Edit) (edits : Edits) (p : Player) → ShownTo table edits p → ShownTo table (edit ∷ edits) p
edit_shown table edit edits p h = record { sees = seeing_later table p.number (edit ∷ []) edits (shown_by p.server_feed) h.sees; blind = h.blind }

-- each line keeps it
line_shown : (table : Table) (story : Story) (line : Line) → AllShown table story.edits story.players → AllShown table (after_line table story line).0.edits (after_line table story line).0.players
line_shown table story (Join player budget version) h = all_joined table story.edits (λ (one : Player) (two : Player). nat_lt one.number two.number) (new_player player budget version) story.players (record { sees = tt; blind = tt }) h
line_shown table story (ApplyEdit edit) h = all_weaker (ShownTo table story.edits) (ShownTo table (edit ∷ story.edits)) (edit_shown table edit story.edits) story.players h
line_shown table story TickAll h = all_do table story.edits (after_tick_of table story.edits AtServer) (tick_keeps table story.edits AtServer) story.players h
line_shown table story (TickClient player) h = one_does table story.edits (after_tick_of table story.edits AtClient) player (tick_keeps table story.edits AtClient) story.players h
line_shown table story (Deliver side player k) h = one_does table story.edits (after_delivery table story.edits side k) player (delivery_keeps table story.edits side k) story.players h
line_shown table story (DeliverNew side player every) h = one_does table story.edits (after_new_deliveries table story.edits side every) player (new_keeps table story.edits side every) story.players h
line_shown table story (CallTo side player a m args) h = one_does table story.edits (after_call_of table side a m args) player (λ p f. call_shown table story.edits side a m args p f) story.players h
line_shown table story (CallAll a m args) h = all_do table story.edits (after_call_of table AtServer a m args) (λ p f. call_shown table story.edits AtServer a m args p f) story.players h
line_shown table story (Dump player) h = one_does table story.edits (λ (p : Player). (p, copies_reports table p)) player (λ p f. f) story.players h
line_shown table story (AskSettled player a) h = one_does table story.edits (settled_answer table story.edits a) player (λ p f. f) story.players h
line_shown table story (Forge side player bytes) h = one_does table story.edits (after_forgery table story.edits side bytes) player (λ p f. got_shown table story.edits side bytes p f) story.players h

-- all lines keep it
lines_shown : (table : Table) (lines : List Line) (told : Story × List Report) → AllShown table told.0.edits told.0.players → AllShown table (fold (also_line table) told lines).0.edits (fold (also_line table) told lines).0.players
lines_shown table [] told h = h
lines_shown table (line ∷ lines) told h = lines_shown table lines (also_line table told line) (line_shown table told.0 line h)

-- each player was shown the worlds of the story
pub players_shown : (table : Table) (lines : List Line) → AllByRecursion (ShownTo table (story_of table lines).0.edits) (story_of table lines).0.players
players_shown table lines = lines_shown table lines (first_story, []) tt

-- each player's ends are shown their own world
pub player_shown : (table : Table) (lines : List Line) (p : Player) → HasJoined (story_of table lines).0 p → ShownTo table (story_of table lines).0.edits p
player_shown table lines p joined =
    all_at (ShownTo table (story_of table lines).0.edits) p (story_of table lines).0.players (players_shown table lines) (subst (IsIn p) (sym joined.2) (in_middle p joined.0 joined.1))
