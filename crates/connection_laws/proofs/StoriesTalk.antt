-- The ends of a player of whom nothing was forged talk.
use Rattle.std.proofs.Common.{◌≡◌, ℕ, ◌+◌, ◌-◌, ◌≤◌, ◌==◌, List, [], ◌∷◌, ◌++◌, map, filter, fold, length, Bool, false, nat_lt, refl, sym, ap, ◌∙◌, subst, arith, Option, Some, None, Ok, slice_get, append_assoc, append-nil, if◌then◌else◌}
use Rattle.std.specs.List.{AllByRecursion, list_any, range_with_len}
use Rattle.std.proofs.lemmas.Bool.{cond_both, or_parts, not-true, ltb-false, eqb-true, eqb-false}
use Rattle.std.proofs.lemmas.List.Sums.{fold-append}
use Rattle.protocol_model.specs.Packet.{Packet, spelling_of}
use Rattle.protocol_model.specs.PacketReading as Reading
use Rattle.protocol_model.specs.Search.{insert_in_order}
use Rattle.protocol_model.specs.Side.{Side, AtServer, AtClient}
use Rattle.protocol_model.specs.Value.{Table, Arg}
use Rattle.protocol_model.specs.World.{Edits}
use Rattle.protocol_model.specs.declared.Version.{Version}
use Rattle.script_model.specs.Lines.{Line, Join, ApplyEdit, TickAll, TickClient, Deliver, DeliverNew, CallTo, CallAll, Dump, AskSettled, Forge}
use Rattle.script_model.specs.Reports.{Report, Answered, Absent, Late, Says}
use Rattle.connection_model.specs.Feed.{End, Event, Got, Call, Past}
use Rattle.connection_model.specs.Fates.{top_of}
use Rattle.connection_model.specs.Past.{past_of}
use Rattle.replication_model.specs.Headline.{HasJoined, IsHonest, forges}
use Rattle.replication_model.specs.Story.{Player, Story, first_story, end_of, past_at, out_at, with_event, other_side, Reported, tick_event, after_tick_of, after_datagram, after_forgery, after_delivery, also_delivery, told_before, with_told, is_kept, after_new_deliveries, after_call_of, settled_answer, copies_reports, new_player, after_line, also_line, story_of}
use Rattle.connection_laws.specs.Link.{IsLink}
use Rattle.connection_laws.specs.Talk.{packet_at, IsPacketOf, MayHear, IsTalk}
use Rattle.connection_laws.specs.Talk.IsTalk.{start, left_hears, right_hears}
use Rattle.connection_laws.specs.Honest.{IsReadable, AllRead, IsTalking}
use Rattle.connection_laws.proofs.Deeds.{deeds_fit}
use Rattle.connection_laws.proofs.Feeds.{feed_runs}
use Rattle.connection_laws.proofs.PacketsSay.{IsIn, in_middle, all_at}
use Rattle.connection_laws.specs.Delivered.{ReadsRight, ReceivesPrefixes}
use Rattle.connection_laws.proofs.LinkLaws.{reads_there, reads_back, receives_there, receives_back}
use Rattle.connection_laws.proofs.TalksLink.{talked}
use Rattle.connection_laws.proofs.BytesSent.{BytesOf, bytes_of_sent}

-- ---- one player

-- the bytes at a place are a packet that may come
pub comes : (table : Table) (mine theirs : End) (p : Player) (me other : Past) (k : ℕ) (bytes : List ℕ) → mine.version ≡ p.version → theirs.version ≡ p.version → BytesOf theirs other (k - 1 + 1) bytes
    → ((n : ℕ) (packet : Packet) → packet_at theirs other n ≡ Some packet → Reading.packet_of p.version (spelling_of p.version packet) ≡ Ok packet)
    → top_of me ≤ k + 8192 → IsPacketOf mine theirs me other bytes
comes table mine theirs p me other k bytes mv tv b readable late = record {
  number = k - 1 + 1;
  come = record { first = omega arith; sent = b.last; recent = omega arith };
  packet = b.packet;
  sent = b.sent;
  read = ap (λ (v : Version). Reading.packet_of v bytes) mv ∙ ap (Reading.packet_of p.version) (b.spelled ∙ ap (λ (v : Version). spelling_of v b.packet) tv) ∙ readable (k - 1 + 1) b.packet b.sent;
}

-- a player's ends talk, and the packets of the other end are read
abbrev pub Ready : Table → Side → Player → Type 0
Ready table side p = IsTalking table p × IsReadable table (other_side side) p

-- a delivery is a packet that may come
got_talks : (table : Table) (side : Side) (p : Player) (k : ℕ) (bytes : List ℕ) → Ready table side p → slice_get (out_at table (other_side side) p) (k - 1) ≡ Some bytes → top_of (past_at table side p) ≤ k + 8192
    → Ready table side (with_event side (Got bytes) p)
got_talks table AtServer p k bytes h e late = (
  left_hears (Got bytes) h.0
      (comes table (end_of table AtServer p) (end_of table AtClient p) p (past_at table AtServer p) (past_at table AtClient p) k bytes refl refl
      (bytes_of_sent (end_of table AtClient p) (past_at table AtClient p) (deeds_fit (end_of table AtClient p) (past_at table AtClient p) (feed_runs (end_of table AtClient p) p.client_feed)) (k - 1) bytes e) h.1 late),
  h.1,
)
got_talks table AtClient p k bytes h e late = (
  right_hears (Got bytes) h.0
      (comes table (end_of table AtClient p) (end_of table AtServer p) p (past_at table AtClient p) (past_at table AtServer p) k bytes refl refl
      (bytes_of_sent (end_of table AtServer p) (past_at table AtServer p) (deeds_fit (end_of table AtServer p) (past_at table AtServer p) (feed_runs (end_of table AtServer p) p.server_feed)) (k - 1) bytes e) h.1 late),
  h.1,
)

-- what one delivery does
abbrev pub delivered : Table → Edits → Side → ℕ → Player → Option (List ℕ) → Reported
delivered table edits side k p o = elim o [
  | None ↦ (p, Answered side p.number k Absent ∷ [])
  | Some bytes ↦ (if nat_lt (k + 8192) (top_of (past_at table side p)) then (p, Answered side p.number k Late ∷ [])
      else after_datagram table edits side (λ verdict. Answered side p.number k (Says verdict)) bytes p)
]

-- packets are read back after a delivery
delivered_ready : (table : Table) (edits : Edits) (side : Side) (k : ℕ) (p : Player) → Ready table side p → (o : Option (List ℕ)) → slice_get (out_at table (other_side side) p) (k - 1) ≡ o → Ready table side (delivered table edits side k p o).0
delivered_ready table edits side k p h None e = h
delivered_ready table edits side k p h (Some bytes) e =
    cond_both (nat_lt (k + 8192) (top_of (past_at table side p))) (p, Answered side p.number k Late ∷ [])
    (after_datagram table edits side (λ verdict. Answered side p.number k (Says verdict)) bytes p) (λ (told : Reported). Ready table side told.0) (λ q. h)
    (λ q. got_talks table side p k bytes h e (ltb-false (k + 8192) (top_of (past_at table side p)) q))

-- each packet is read back after a delivery
pub delivery_ready : (table : Table) (edits : Edits) (side : Side) (k : ℕ) (p : Player) → Ready table side p → Ready table side (after_delivery table edits side k p).0
delivery_ready table edits side k p h = delivered_ready table edits side k p h (slice_get (out_at table (other_side side) p) (k - 1)) refl

-- and after many
deliveries_ready : (table : Table) (edits : Edits) (side : Side) (ks : List ℕ) (told : Reported) → Ready table side told.0 → Ready table side (fold (also_delivery table edits side) told ks).0
deliveries_ready table edits side [] told h = h
deliveries_ready table edits side (k ∷ ks) told h = deliveries_ready table edits side ks (also_delivery table edits side told k) (delivery_ready table edits side k told.0 h)

-- the number stays
event_number : (side : Side) (event : Event) (p : Player) → (with_event side event p).number ≡ p.number
event_number AtServer event p = refl
event_number AtClient event p = refl

-- a delivery leaves the number of the player
pub delivered_number : (table : Table) (edits : Edits) (side : Side) (k : ℕ) (p : Player) (o : Option (List ℕ)) → (delivered table edits side k p o).0.number ≡ p.number
delivered_number table edits side k p None = refl
delivered_number table edits side k p (Some bytes) =
    cond_both (nat_lt (k + 8192) (top_of (past_at table side p))) (p, Answered side p.number k Late ∷ [])
    (after_datagram table edits side (λ verdict. Answered side p.number k (Says verdict)) bytes p) (λ (told : Reported). told.0.number ≡ p.number) (λ q. refl) (λ q. event_number side (Got bytes) p)

-- deliveries leave the number of the player
deliveries_number : (table : Table) (edits : Edits) (side : Side) (ks : List ℕ) (told : Reported) → (fold (also_delivery table edits side) told ks).0.number ≡ told.0.number
deliveries_number table edits side [] told = refl
deliveries_number table edits side (k ∷ ks) told =
    deliveries_number table edits side ks (also_delivery table edits side told k)
    ∙ delivered_number table edits side k told.0 (slice_get (out_at table (other_side side) told.0) (k - 1))

-- what a line does with a player keeps its number, and its ends talking
pub record KeepsTalk (table : Table) (does : Player → Reported) : Type 0 where
  pub number : (p : Player) → (does p).0.number ≡ p.number
  pub talks : (p : Player) → ((side : Side) → IsReadable table side p) → IsTalking table p → IsTalking table (does p).0

-- an event that may be heard keeps a talk
tick_talks : (table : Table) (side : Side) (event : Event) (p : Player) → ((mine theirs : End) (me other : Past) → MayHear mine theirs me other event) → IsTalking table p → IsTalking table (with_event side event p)
tick_talks table AtServer event p q h = left_hears event h (q (end_of table AtServer p) (end_of table AtClient p) (past_at table AtServer p) (past_at table AtClient p))
tick_talks table AtClient event p q h = right_hears event h (q (end_of table AtClient p) (end_of table AtServer p) (past_at table AtClient p) (past_at table AtServer p))

-- a tick keeps it
tick_keeps : (table : Table) (edits : Edits) (side : Side) → KeepsTalk table (after_tick_of table edits side)
tick_keeps table edits AtServer = record { number = λ p. refl; talks = λ p r h. tick_talks table AtServer (tick_event table edits AtServer p) p (λ mine theirs me other. tt) h }
tick_keeps table edits AtClient = record { number = λ p. refl; talks = λ p r h. tick_talks table AtClient (tick_event table edits AtClient p) p (λ mine theirs me other. tt) h }

-- a call keeps it
call_keeps : (table : Table) (side : Side) (a n : ℕ) (args : List Arg) → KeepsTalk table (after_call_of table side a n args)
call_keeps table side a n args = record { number = λ p. event_number side (Call a n args) p; talks = λ p r h. tick_talks table side (Call a n args) p (λ mine theirs me other. tt) h }

-- a delivery keeps it
deliver_keeps : (table : Table) (edits : Edits) (side : Side) (k : ℕ) → KeepsTalk table (after_delivery table edits side k)
deliver_keeps table edits side k = record {
  number = λ p. delivered_number table edits side k p (slice_get (out_at table (other_side side) p) (k - 1));
  talks = λ p r h. (delivery_ready table edits side k p (h, r (other_side side))).0;
}

-- each packet is read back after a report
pub told_ready : (table : Table) (side : Side) (count : ℕ) (p : Player) → Ready table side p → Ready table side (with_told side count p)
told_ready table AtServer count p h = h
told_ready table AtClient count p h = h

-- a report leaves the number of the player
pub told_number : (side : Side) (count : ℕ) (p : Player) → (with_told side count p).number ≡ p.number
told_number AtServer count p = refl
told_number AtClient count p = refl

-- so do deliveries of new packets
deliver_new_keeps : (table : Table) (edits : Edits) (side : Side) (every : ℕ) → KeepsTalk table (after_new_deliveries table edits side every)
deliver_new_keeps table edits side every = record {
  number = λ p. deliveries_number table edits side (new p) (start_of p) ∙ told_number side (length (out_at table (other_side side) p)) p;
  talks = λ p r h. (deliveries_ready table edits side (new p) (start_of p) (told_ready table side (length (out_at table (other_side side) p)) p (h, r (other_side side)))).0;
}
  where
    new : Player → List ℕ
    new p = filter (is_kept every) (range_with_len (told_before side p + 1) (length (out_at table (other_side side) p) - told_before side p))

    start_of : Player → Reported
    start_of p = (with_told side (length (out_at table (other_side side) p)) p, [])

-- ---- all players

-- the ends of the player of that number talk
abbrev Inv : Table → ℕ → List Player → Type 0
Inv table n players = AllByRecursion (λ (p : Player). p.number ≡ n → IsTalking table p) players

-- their packets are read back
abbrev Reads : Table → ℕ → List Player → Type 0
Reads table n players = AllByRecursion (λ (p : Player). p.number ≡ n → (side : Side) → IsReadable table side p) players

-- it stays so where each player keeps it
inv_all : (table : Table) (n : ℕ) (does : Player → Reported) → KeepsTalk table does → (players : List Player) → Reads table n players → Inv table n players → Inv table n (map (λ (p : Player). (does p).0) players)
inv_all table n does k [] r h = tt
inv_all table n does k (p ∷ players) r h =
    ((λ e. k.talks p (r.0 (sym (k.number p) ∙ e)) (h.0 (sym (k.number p) ∙ e))), inv_all table n does k players r.1 h.1)

-- it stays so where one player does
inv_one : (table : Table) (n who : ℕ) (does : Player → Reported) → KeepsTalk table does → (players : List Player) → Reads table n players → Inv table n players
    → Inv table n (map (λ (p : Player). if p.number == who then (does p).0 else p) players)
inv_one table n who does k [] r h = tt
inv_one table n who does k (p ∷ players) r h = (
  cond_both (p.number == who) (does p).0 p (λ (q : Player). q.number ≡ n → IsTalking table q)
      (λ t e. k.talks p (r.0 (sym (k.number p) ∙ e)) (h.0 (sym (k.number p) ∙ e))) (λ t. h.0),
  inv_one table n who does k players r.1 h.1,
)

-- what is done with another player
inv_other : (table : Table) (n who : ℕ) (does : Player → Reported) → ((p : Player) → (does p).0.number ≡ p.number) → (who == n) ≡ false → (players : List Player) → Inv table n players
    → Inv table n (map (λ (p : Player). if p.number == who then (does p).0 else p) players)
inv_other table n who does k ne [] h = tt
inv_other table n who does k ne (p ∷ players) h = (
  cond_both (p.number == who) (does p).0 p (λ (q : Player). q.number ≡ n → IsTalking table q)
      (λ t e. absurd (eqb-false who n ne (sym (eqb-true p.number who t) ∙ sym (k p) ∙ e))) (λ t. h.0),
  inv_other table n who does k ne players h.1,
)

-- it stays so when a player joins
inv_joined : (table : Table) (n : ℕ) (before : Player → Player → Bool) (new : Player) (players : List Player) → (new.number ≡ n → IsTalking table new) → Inv table n players → Inv table n (insert_in_order before new players)
inv_joined table n before new [] one h = (one, tt)
inv_joined table n before new (p ∷ players) one h =
    cond_both (before p new) (p ∷ insert_in_order before new players) (new ∷ p ∷ players) (Inv table n) (λ e. (h.0, inv_joined table n before new players one h.1)) (λ e. (one, h))

-- a report keeps it
same_keeps : (table : Table) (tell : Player → List Report) → KeepsTalk table (λ (p : Player). (p, tell p))
same_keeps table tell = record { number = λ p. refl; talks = λ p r h. h }

-- each line keeps it
line_talks : (table : Table) (n : ℕ) (story : Story) (line : Line) → forges n line ≡ false → Reads table n story.players → Inv table n story.players → Inv table n (after_line table story line).0.players
line_talks table n story (Join player budget version) f r h =
    inv_joined table n (λ (one : Player) (two : Player). nat_lt one.number two.number) (new_player player budget version) story.players (λ e. start) h
line_talks table n story (ApplyEdit edit) f r h = h
line_talks table n story TickAll f r h = inv_all table n (after_tick_of table story.edits AtServer) (tick_keeps table story.edits AtServer) story.players r h
line_talks table n story (TickClient player) f r h = inv_one table n player (after_tick_of table story.edits AtClient) (tick_keeps table story.edits AtClient) story.players r h
line_talks table n story (Deliver side player k) f r h = inv_one table n player (after_delivery table story.edits side k) (deliver_keeps table story.edits side k) story.players r h
line_talks table n story (DeliverNew side player every) f r h = inv_one table n player (after_new_deliveries table story.edits side every) (deliver_new_keeps table story.edits side every) story.players r h
line_talks table n story (CallTo side player a m args) f r h = inv_one table n player (after_call_of table side a m args) (call_keeps table side a m args) story.players r h
line_talks table n story (CallAll a m args) f r h = inv_all table n (after_call_of table AtServer a m args) (call_keeps table AtServer a m args) story.players r h
line_talks table n story (Dump player) f r h = inv_one table n player (λ (p : Player). (p, copies_reports table p)) (same_keeps table (copies_reports table)) story.players r h
line_talks table n story (AskSettled player a) f r h = inv_one table n player (settled_answer table story.edits a) (record { number = λ p. refl; talks = λ p r h. h }) story.players r h
line_talks table n story (Forge side player bytes) f r h = inv_other table n player (after_forgery table story.edits side bytes) (λ p. event_number side (Got bytes) p) f story.players h

-- ---- all lines

-- what holds of each item in its place holds of all
pub all_from : {A : Type 0} (P : A → Type 0) (xs : List A) → ((x : A) (before after : List A) → xs ≡ before ++ x ∷ after → P x) → AllByRecursion P xs
all_from P [] h = tt
all_from P (x ∷ xs) h = (h x [] xs refl, all_from P xs (λ y before after e. h y (x ∷ before) after (ap (λ l. x ∷ l) e)))

-- all lines keep it
lines_talk : (table : Table) (n : ℕ) (lines : List Line) → AllRead table lines n → (rest some : List Line) → lines ≡ some ++ rest → list_any (forges n) rest ≡ false
    → Inv table n (story_of table some).0.players → Inv table n (story_of table lines).0.players
lines_talk table n lines r [] some e f h = subst (λ (l : List Line). Inv table n (story_of table l).0.players) (sym (e ∙ append-nil some)) h
lines_talk table n lines r (line ∷ rest) some e f h =
    let one = or_parts (forges n line) (list_any (forges n) rest) f in
    let reads : Reads table n (story_of table some).0.players =
    all_from (λ (p : Player). p.number ≡ n → (side : Side) → IsReadable table side p) (story_of table some).0.players
    (λ p before after q number. r some (line ∷ rest) e p (before, after, q) number) in
    let next : story_of table (some ++ line ∷ []) ≡ also_line table (story_of table some) line = fold-append (also_line table) (first_story, []) some (line ∷ []) in
    lines_talk table n lines r rest (some ++ line ∷ []) (e ∙ sym (append_assoc some (line ∷ []) rest)) one.1
    (subst (λ (told : Story × List Report). Inv table n told.0.players) (sym next) (line_talks table n (story_of table some).0 line one.0 reads h))

-- each player of whom no datagram was forged has ends that talk
pub talks_honestly : (table : Table) (lines : List Line) (p : Player) → HasJoined (story_of table lines).0 p → IsHonest lines p.number
    → AllRead table lines p.number → IsTalking table p
talks_honestly table lines p joined honest r =
    let all : Inv table p.number (story_of table lines).0.players = lines_talk table p.number lines r lines [] refl (not-true (list_any (forges p.number) lines) honest) tt in
    all_at (λ (q : Player). q.number ≡ p.number → IsTalking table q) p (story_of table lines).0.players all
    (subst (IsIn p) (sym joined.2) (in_middle p joined.0 joined.1)) refl

-- ---- what follows

-- the pasts of two ends that talk are linked
pub linked : (left right : End) (l r : List Event) → left.version ≡ right.version → IsTalk left right l r → IsLink left right (past_of left l) (past_of right r)
linked left right l r same talk = (talked left.version left right refl (sym same) l r talk).link

-- numbers are read right between the player's ends, and payloads received are a prefix
pub delivers : (table : Table) (lines : List Line) (p : Player) (side : Side) → HasJoined (story_of table lines).0 p → IsHonest lines p.number → AllRead table lines p.number
    → ReadsRight (past_at table (other_side side) p) (past_at table side p) × ReceivesPrefixes (past_at table (other_side side) p) (past_at table side p)
delivers table lines p side joined honest reads = by side
  where
    link : IsLink (end_of table AtServer p) (end_of table AtClient p) (past_at table AtServer p) (past_at table AtClient p)
    link = linked (end_of table AtServer p) (end_of table AtClient p) p.server_feed p.client_feed refl (talks_honestly table lines p joined honest reads)

    by : (side : Side) → ReadsRight (past_at table (other_side side) p) (past_at table side p) × ReceivesPrefixes (past_at table (other_side side) p) (past_at table side p)
    by AtServer = (
      reads_back (end_of table AtServer p) (end_of table AtClient p) (past_at table AtServer p) (past_at table AtClient p) refl link,
      receives_back (end_of table AtServer p) (end_of table AtClient p) (past_at table AtServer p) (past_at table AtClient p) refl link,
    )
    by AtClient = (
      reads_there (end_of table AtServer p) (end_of table AtClient p) (past_at table AtServer p) (past_at table AtClient p) refl link,
      receives_there (end_of table AtServer p) (end_of table AtClient p) (past_at table AtServer p) (past_at table AtClient p) refl link,
    )
