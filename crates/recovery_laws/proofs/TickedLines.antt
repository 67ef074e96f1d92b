-- Each sight of a player's server was shown in a line of the script, a tick.
use Rattle.std.proofs.Common.{◌≡◌, ℕ, ◌+◌, ◌-◌, ◌==◌, List, [], ◌∷◌, ◌++◌, map, filter, fold, length, Bool, nat_lt, refl, sym, ap, ◌∙◌, subst, Option, Some, None, slice_get, append_assoc, append-nil, if◌then◌else◌}
use Rattle.std.specs.List.{AllByRecursion, range_with_len}
use Rattle.std.proofs.lemmas.Bool.{cond_both}
use Rattle.std.proofs.lemmas.List.Sums.{fold-append}
use Rattle.protocol_model.specs.Search.{insert_in_order}
use Rattle.protocol_model.specs.Side.{Side, AtServer, AtClient}
use Rattle.protocol_model.specs.Sight.{Seen, sight}
use Rattle.protocol_model.specs.Value.{Table, Arg}
use Rattle.protocol_model.specs.World.{Edits}
use Rattle.script_model.specs.Lines.{Line, Join, ApplyEdit, TickAll, TickClient, Deliver, DeliverNew, CallTo, CallAll, Dump, AskSettled, Forge}
use Rattle.script_model.specs.Reports.{Report, Answered, Absent, Late, Says}
use Rattle.connection_model.specs.Feed.{End, Event, Tick, Got, Call}
use Rattle.connection_model.specs.Fates.{top_of}
use Rattle.connection_model.specs.Past.{past_of}
use Rattle.replication_model.specs.Headline.{HasJoined}
use Rattle.replication_model.specs.Story.{Player, Story, first_story, past_at, out_at, with_event, other_side, Reported, earlier_of, after_tick_of, after_datagram, after_forgery, after_delivery, also_delivery, told_before, with_told, is_kept, after_new_deliveries, after_call_of, settled_answer, copies_reports, new_player, after_line, also_line, story_of}
use Rattle.connection_laws.proofs.Feeds.{feed_done}
use Rattle.connection_laws.proofs.Items.{all_weaker}
use Rattle.connection_laws.proofs.PacketsSay.{IsIn, in_middle, all_at}
use Rattle.headline_laws.specs.Sights.{sights_of}
use Rattle.headline_laws.proofs.Sights.{shown_by, tick_sights, call_sights, got_sights}

-- the sight was the player's of the world in which a line of these ticked
pub record TickedAt (table : Table) (lines : List Line) (player : ℕ) (shown : List Seen) : Type 0 where
  pub before : List Line
  pub after : List Line
  pub tick : lines ≡ before ++ TickAll ∷ after
  pub more : Edits
  pub grown : (story_of table lines).0.edits ≡ more ++ (story_of table before).0.edits
  pub earlier : List ℕ
  pub is : shown ≡ sight table (story_of table before).0.edits player earlier

-- each sight of the player's server was
abbrev pub TickedBy : Table → List Line → Player → Type 0
TickedBy table lines p = AllByRecursion (TickedAt table lines p.number) (shown_by p.server_feed)

-- ---- one more line

-- one more line goes on from the story so far
story_more : (table : Table) (lines : List Line) (line : Line)
    → story_of table (lines ++ line ∷ []) ≡ also_line table (story_of table lines) line
story_more table lines line = fold-append (also_line table) (first_story, []) lines (line ∷ [])

-- a line adds an edit or none
added : (table : Table) (story : Story) (line : Line)
    → (more : Edits) × ((after_line table story line).0.edits ≡ more ++ story.edits)
added table story (Join player budget version) = ([], refl)
added table story (ApplyEdit edit) = (edit ∷ [], refl)
added table story TickAll = ([], refl)
added table story (TickClient player) = ([], refl)
added table story (Deliver side player k) = ([], refl)
added table story (DeliverNew side player every) = ([], refl)
added table story (CallTo side player a m args) = ([], refl)
added table story (CallAll a m args) = ([], refl)
added table story (Dump player) = ([], refl)
added table story (AskSettled player a) = ([], refl)
added table story (Forge side player bytes) = ([], refl)

-- what a line of before showed was shown by one of all these
later_shown : (table : Table) (lines : List Line) (line : Line) (n : ℕ) (s : List Seen) → TickedAt table lines n s
    → TickedAt table (lines ++ line ∷ []) n s
later_shown table lines line n s t =
    let more = added table (story_of table lines).0 line in record {
      before = t.before;
      after = t.after ++ line ∷ [];
      tick = ap (λ (l : List Line). l ++ line ∷ []) t.tick ∙ append_assoc t.before (TickAll ∷ t.after) (line ∷ []);
      more = more.0 ++ t.more;
      grown = ap (λ (told : Story × List Report). told.0.edits) (story_more table lines line) ∙ more.1
          ∙ ap (λ (l : Edits). more.0 ++ l) t.grown
          ∙ sym (append_assoc more.0 t.more (story_of table t.before).0.edits);
      earlier = t.earlier;
      is = t.is;
    }

-- so was what any player was shown
later_by : (table : Table) (lines : List Line) (line : Line) (p : Player) → TickedBy table lines p
    → TickedBy table (lines ++ line ∷ []) p
later_by table lines line p h =
    all_weaker (TickedAt table lines p.number) (TickedAt table (lines ++ line ∷ []) p.number)
    (later_shown table lines line p.number) (shown_by p.server_feed) h

-- a tick shows the world as it is
tick_here : (table : Table) (lines : List Line) (p : Player) → TickedBy table lines p
    → TickedBy table (lines ++ TickAll ∷ []) (after_tick_of table (story_of table lines).0.edits AtServer p).0
tick_here table lines p h = (
  record {
    before = lines;
    after = [];
    tick = refl;
    more = [];
    grown = ap (λ (told : Story × List Report). told.0.edits) (story_more table lines TickAll);
    earlier = earlier_of p;
    is = refl;
  },
  later_by table lines TickAll p h,
)

-- ---- what shows nothing

module _ (table : Table) (lines : List Line) where
  -- what a player was shown stays so
  abbrev Keeps : (Player → Reported) → Type 0
  Keeps does = (p : Player) → TickedBy table lines p → TickedBy table lines (does p).0

  got_shown : (side : Side) (bytes : List ℕ) (p : Player) → TickedBy table lines p
      → TickedBy table lines (with_event side (Got bytes) p)
  got_shown AtServer bytes p h = h
  got_shown AtClient bytes p h = h

  call_shown : (side : Side) (a n : ℕ) (args : List Arg) (p : Player) → TickedBy table lines p
      → TickedBy table lines (with_event side (Call a n args) p)
  call_shown AtServer a n args p h = h
  call_shown AtClient a n args p h = h

  told_shown : (side : Side) (count : ℕ) (p : Player) → TickedBy table lines p
      → TickedBy table lines (with_told side count p)
  told_shown AtServer count p h = h
  told_shown AtClient count p h = h

  delivery_by : (edits : Edits) (side : Side) (k : ℕ) (p : Player) → TickedBy table lines p → (o : Option (List ℕ))
      → TickedBy table lines (let told : Reported = elim o [
        | None ↦ (p, Answered side p.number k Absent ∷ [])
        | Some bytes ↦ (if nat_lt (k + 8192) (top_of (past_at table side p)) then (p, Answered side p.number k Late ∷ [])
            else after_datagram table edits side (λ verdict. Answered side p.number k (Says verdict)) bytes p)
      ] in told.0)
  delivery_by edits side k p h None = h
  delivery_by edits side k p h (Some bytes) =
      cond_both (nat_lt (k + 8192) (top_of (past_at table side p))) (p, Answered side p.number k Late ∷ [])
      (after_datagram table edits side (λ verdict. Answered side p.number k (Says verdict)) bytes p)
      (λ (told : Reported). TickedBy table lines told.0) (λ q. h) (λ q. got_shown side bytes p h)

  delivery_keeps : (edits : Edits) (side : Side) (k : ℕ) → Keeps (after_delivery table edits side k)
  delivery_keeps edits side k p h =
      delivery_by edits side k p h (slice_get (out_at table (other_side side) p) (k - 1))

  deliveries_keep : (edits : Edits) (side : Side) (ks : List ℕ) (told : Reported) → TickedBy table lines told.0
      → TickedBy table lines (fold (also_delivery table edits side) told ks).0
  deliveries_keep edits side [] told h = h
  deliveries_keep edits side (k ∷ ks) told h =
      deliveries_keep edits side ks (also_delivery table edits side told k) (delivery_keeps edits side k told.0 h)

  new_keeps : (edits : Edits) (side : Side) (every : ℕ) → Keeps (after_new_deliveries table edits side every)
  new_keeps edits side every p h =
      deliveries_keep edits side
      (filter (is_kept every)
      (range_with_len (told_before side p + 1) (length (out_at table (other_side side) p) - told_before side p)))
      (with_told side (length (out_at table (other_side side) p)) p, [])
      (told_shown side (length (out_at table (other_side side) p)) p h)

  -- ---- all players

  abbrev All : List Player → Type 0
  All players = AllByRecursion (TickedBy table lines) players

  all_do : (does : Player → Reported) → Keeps does → (players : List Player) → All players
      → All (map (λ (p : Player). (does p).0) players)
  all_do does k [] h = tt
  all_do does k (p ∷ players) h = (k p h.0, all_do does k players h.1)

  one_does : (does : Player → Reported) (who : ℕ) → Keeps does → (players : List Player) → All players
      → All (map (λ (p : Player). if p.number == who then (does p).0 else p) players)
  one_does does who k [] h = tt
  one_does does who k (p ∷ players) h = (
    cond_both (p.number == who) (does p).0 p (TickedBy table lines) (λ e. k p h.0) (λ e. h.0),
    one_does does who k
        players h.1,
  )

  all_joined : (before : Player → Player → Bool) (new : Player) (players : List Player) → TickedBy table lines new
      → All players → All (insert_in_order before new players)
  all_joined before new [] one h = (one, tt)
  all_joined before new (p ∷ players) one h =
      cond_both (before p new) (p ∷ insert_in_order before new players) (new ∷ p ∷ players) All
      (λ e. (h.0, all_joined before new players one h.1)) (λ e. (one, h))

  -- with one more line
  all_later : (line : Line) (players : List Player) → All players
      → AllByRecursion (TickedBy table (lines ++ line ∷ [])) players
  all_later line players h =
      all_weaker (TickedBy table lines) (TickedBy table (lines ++ line ∷ [])) (later_by table lines line) players h

  all_tick : (players : List Player) → All players
      → AllByRecursion (TickedBy table (lines ++ TickAll ∷ []))
      (map (λ (p : Player). (after_tick_of table (story_of table lines).0.edits AtServer p).0) players)
  all_tick [] h = tt
  all_tick (p ∷ players) h = (tick_here table lines p h.0, all_tick players h.1)

  -- each line keeps it
  line_shown : (line : Line) → All (story_of table lines).0.players
      → AllByRecursion (TickedBy table (lines ++ line ∷ []))
      (after_line table (story_of table lines).0 line).0.players
  line_shown TickAll h = all_tick (story_of table lines).0.players h
  line_shown (Join player budget version) h =
      all_later (Join player budget version)
      (after_line table (story_of table lines).0 (Join player budget version)).0.players
      (all_joined (λ (one : Player) (two : Player). nat_lt one.number two.number) (new_player player budget version)
      (story_of table lines).0.players tt h)
  line_shown (ApplyEdit edit) h = all_later (ApplyEdit edit) (story_of table lines).0.players h
  line_shown (TickClient player) h =
      all_later (TickClient player) (after_line table (story_of table lines).0 (TickClient player)).0.players
      (one_does (after_tick_of table (story_of table lines).0.edits AtClient) player (λ p f. f)
      (story_of table lines).0.players h)
  line_shown (Deliver side player k) h =
      all_later (Deliver side player k) (after_line table (story_of table lines).0 (Deliver side player k)).0.players
      (one_does (after_delivery table (story_of table lines).0.edits side k) player
      (delivery_keeps (story_of table lines).0.edits side k) (story_of table lines).0.players h)
  line_shown (DeliverNew side player every) h =
      all_later (DeliverNew side player every)
      (after_line table (story_of table lines).0 (DeliverNew side player every)).0.players
      (one_does (after_new_deliveries table (story_of table lines).0.edits side every) player
      (new_keeps (story_of table lines).0.edits side every) (story_of table lines).0.players h)
  line_shown (CallTo side player a m args) h =
      all_later (CallTo side player a m args)
      (after_line table (story_of table lines).0 (CallTo side player a m args)).0.players
      (one_does (after_call_of table side a m args) player (λ p f. call_shown side a m args p f)
      (story_of table lines).0.players h)
  line_shown (CallAll a m args) h =
      all_later (CallAll a m args) (after_line table (story_of table lines).0 (CallAll a m args)).0.players
      (all_do (after_call_of table AtServer a m args) (λ p f. f) (story_of table lines).0.players h)
  line_shown (Dump player) h =
      all_later (Dump player) (after_line table (story_of table lines).0 (Dump player)).0.players
      (one_does (λ (p : Player). (p, copies_reports table p)) player (λ p f. f) (story_of table lines).0.players h)
  line_shown (AskSettled player a) h =
      all_later (AskSettled player a) (after_line table (story_of table lines).0 (AskSettled player a)).0.players
      (one_does (settled_answer table (story_of table lines).0.edits a) player (λ p f. f)
      (story_of table lines).0.players h)
  line_shown (Forge side player bytes) h =
      all_later (Forge side player bytes)
      (after_line table (story_of table lines).0 (Forge side player bytes)).0.players
      (one_does (after_forgery table (story_of table lines).0.edits side bytes) player
      (λ p f. got_shown side bytes p f) (story_of table lines).0.players h)

-- ---- all lines

-- after lines in front of these
lines_shown : (table : Table) (front lines : List Line)
    → AllByRecursion (TickedBy table front) (story_of table front).0.players
    → AllByRecursion (TickedBy table (front ++ lines)) (story_of table (front ++ lines)).0.players
lines_shown table front [] h =
    subst (λ (l : List Line). AllByRecursion (TickedBy table l) (story_of table l).0.players) (sym (append-nil front))
    h
lines_shown table front (line ∷ lines) h =
    subst (λ (l : List Line). AllByRecursion (TickedBy table l) (story_of table l).0.players)
    (append_assoc front (line ∷ []) lines)
    (lines_shown table (front ++ line ∷ []) lines
    (subst (λ (told : Story × List Report). AllByRecursion (TickedBy table (front ++ line ∷ [])) told.0.players)
    (sym (story_more table front line)) (line_shown table front line h)))

-- each sight that a player's server was shown was that of a line's tick
pub shown_in_lines : (table : Table) (lines : List Line) (p : Player) → HasJoined (story_of table lines).0 p
    → TickedBy table lines p
shown_in_lines table lines p joined =
    all_at (TickedBy table lines) p (story_of table lines).0.players (lines_shown table [] lines tt)
    (subst (IsIn p) (sym joined.2) (in_middle p joined.0 joined.1))

-- ---- a feed's past

-- what holds of each sight of a feed holds of each of its past
pub feed_all : (T : List Seen → Type 0) (end : End) (feed : List Event) → AllByRecursion T (shown_by feed)
    → AllByRecursion T (sights_of (past_of end feed))
feed_all T end [] h = tt
feed_all T end (Tick s ∷ feed) h =
    tick_sights end (AllByRecursion T) (past_of end feed) s (feed_done end feed) (feed_all T end feed h.1)
    (λ q. (h.0, q))
feed_all T end (Got bytes ∷ feed) h =
    got_sights end (AllByRecursion T) (past_of end feed) bytes (feed_all T end feed h)
feed_all T end (Call a n args ∷ feed) h =
    call_sights end (AllByRecursion T) (past_of end feed) a n args (feed_done end feed) (feed_all T end feed h)
