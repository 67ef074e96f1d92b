-- What a tick sends, as ends tell it and as the story reports it.
use Rattle.std.proofs.Common.{◌≡◌, ℕ, ◌+◌, List, [], ◌∷◌, ◌++◌, map, length, drop, Bool, not, ◌&&◌, refl, ap, sym, ◌∙◌, subst, append_assoc, if◌then◌else◌}
use Rattle.std.proofs.Math.Seq.{drop-append_seam}
use Rattle.std.proofs.lemmas.Simd.{map-map}
use Rattle.protocol_model.specs.Side.{Side, AtServer, AtClient}
use Rattle.protocol_model.specs.Value.{Table}
use Rattle.protocol_model.specs.World.{Edits}
use Rattle.connection_model.specs.Feed.{End, Past, has_ended}
use Rattle.connection_model.specs.Past.{sent_bytes}
use Rattle.connection_model.specs.Pack.{after_tick}
use Rattle.connection_laws.proofs.SentStays.{sends_more}
use Rattle.script_model.specs.Reports.{Report, Sent, Stalled}
use Rattle.replication_model.specs.Story.{Player, end_of, past_at, out_at, with_event, tick_event, numbered_from, sent_reports, after_tick_of}
use Rattle.class_layout.specs.Tables.{Layout, table_in}
use Rattle.link_end.specs.Answers.{numbered, new_packets, sent_value}
use Rattle.link_end.specs.declared.sent.Sent.{Sent as SentValue}
use Rattle.script_lines.specs.declared.event.Event.{Event}
use Rattle.script_lines.specs.ReportOf.{report_of}
use Rattle.client_world.specs.Played.{Play, Plays}
use Rattle.client_world.specs.Played as client
use Rattle.replay_places.specs.declared.place.Place.{Place}
use Rattle.replay_places.specs.Places.{IsPlace}
use Rattle.replay_places.specs.Doing.{Adds, IsDone, IsTicked, sent_report, bytes_of, stalled_reports}

-- ---- packets with their numbers

bytes_numbered : (n : ℕ) (packets : List (List ℕ)) → map (λ (p : ℕ × List ℕ). p.1) (numbered n packets) ≡ packets
bytes_numbered n [] = refl
bytes_numbered n (p ∷ packets) = ap (λ (l : List (List ℕ)). p ∷ l) (bytes_numbered (n + 1) packets)

report_numbered : (side : Side) (player n : ℕ) (packets : List (List ℕ))
    → map (λ (p : ℕ × List ℕ). Sent side player p.0 p.1) (numbered n packets) ≡ numbered_from side player n packets
report_numbered side player n [] = refl
report_numbered side player n (p ∷ packets) =
    ap (λ (l : List Report). Sent side player n p ∷ l) (report_numbered side player (n + 1) packets)

-- the packets that were sent from one past to a later one are told as the story tells them
packets_told : (side : Side) (player : ℕ) (end : End) (before after : Past) (sent : List SentValue)
    → map sent_value sent ≡ new_packets end before after
    → map (sent_report side player) sent ≡ sent_reports side player (length (sent_bytes end before))
    (sent_bytes end after)
packets_told side player end before after sent e =
    sym (map-map (λ (p : ℕ × List ℕ). Sent side player p.0 p.1) sent_value sent)
    ∙ ap (map (λ (p : ℕ × List ℕ). Sent side player p.0 p.1)) e
    ∙ report_numbered side player (length (sent_bytes end before) + 1)
    (drop (length (sent_bytes end before)) (sent_bytes end after))

-- and stand behind those sent before, where what was sent stays
packets_kept : (end : End) (before after : Past) (sent : List SentValue) (more : List (List ℕ))
    → sent_bytes end after ≡ sent_bytes end before ++ more → map sent_value sent ≡ new_packets end before after
    → sent_bytes end before ++ map bytes_of sent ≡ sent_bytes end after
packets_kept end before after sent more grows e =
    let left : drop (length (sent_bytes end before)) (sent_bytes end after) ≡ more =
    ap (drop (length (sent_bytes end before))) grows ∙ drop-append_seam (sent_bytes end before) more in
    let bytes : map bytes_of sent ≡ more =
    sym (map-map (λ (p : ℕ × List ℕ). p.1) sent_value sent) ∙ ap (map (λ (p : ℕ × List ℕ). p.1)) e
    ∙ bytes_numbered (length (sent_bytes end before) + 1) (drop (length (sent_bytes end before)) (sent_bytes end after))
    ∙ left in
    ap (λ (l : List (List ℕ)). sent_bytes end before ++ l) bytes ∙ sym grows

-- ---- a tick

-- what the end at this side hears in a tick
abbrev ticked : Table → Edits → Side → Player → Player
ticked table edits side p = with_event side (tick_event table edits side p) p

-- its packets stay, and those that it sends stand behind them
pub out_after : (table : Table) (edits : Edits) (side : Side) (p : Player) (sent : List SentValue) (stalled : Bool)
    → IsTicked table edits side p sent stalled
    → out_at table side p ++ map bytes_of sent ≡ out_at table side (after_tick_of table edits side p).0
out_after table edits AtServer p sent stalled t =
    let more = sends_more (end_of table AtServer p) p.server_feed (tick_event table edits AtServer p) in
    packets_kept (end_of table AtServer p) (past_at table AtServer p)
    (past_at table AtServer (ticked table edits AtServer p)) sent more.0 more.1 t.packets
out_after table edits AtClient p sent stalled t =
    let more = sends_more (end_of table AtClient p) p.client_feed (tick_event table edits AtClient p) in
    packets_kept (end_of table AtClient p) (past_at table AtClient p)
    (past_at table AtClient (ticked table edits AtClient p)) sent more.0 more.1 t.packets

-- what a tick tells
pub told_of : (table : Table) (edits : Edits) (side : Side) (p : Player) (sent : List SentValue) (stalled : Bool)
    → IsTicked table edits side p sent stalled
    → map (sent_report side p.number) sent ++ stalled_reports side p.number stalled
    ≡ (after_tick_of table edits side p).1
told_of table edits side p sent stalled t =
    let before = past_at table side p in
    let after = past_at table side (ticked table edits side p) in
    both _ _ _ _ (packets_told side p.number (end_of table side p) before after sent t.packets) t.stalls
  where
    both : (xs ys : List Report) (s t : Bool) → xs ≡ ys → s ≡ t
        → xs ++ stalled_reports side p.number s ≡ ys ++ (if t then Stalled side p.number ∷ [] else [])
    both xs ys s t e f = rw (e, f) refl

-- two tellings in a row
pub adds_both : (table : Table) (before mid after : List Event) (xs ys : List Report)
    → Adds table before mid xs → Adds table mid after ys → Adds table before after (xs ++ ys)
adds_both table before mid after xs ys one two =
    two ∙ ap (λ (l : List Report). l ++ ys) one ∙ append_assoc (map (report_of table) before) xs ys

-- packets and stall, told one after another
told_by : (layout : Layout) (edits : Edits) (side : Side) (n : ℕ) (p : Player) (sent : List SentValue) (stalled : Bool)
    (before mid told : List Event)
    → n ≡ p.number → IsTicked (table_in layout) edits side p sent stalled
    → ((table : Table) → Adds table before mid (map (sent_report side n) sent))
    → ((table : Table) → Adds table mid told (stalled_reports side n stalled))
    → Adds (table_in layout) before told (after_tick_of (table_in layout) edits side p).1
told_by layout edits side n p sent stalled before mid told who t one two =
    subst (Adds (table_in layout) before told)
    (ap (λ m. map (sent_report side m) sent ++ stalled_reports side m stalled) who
    ∙ told_of (table_in layout) edits side p sent stalled t)
    (adds_both (table_in layout) before mid told (map (sent_report side n) sent) (stalled_reports side n stalled)
    (one (table_in layout)) (two (table_in layout)))

-- the client's tick was kept and told
pub client_ticked : (layout : Layout) (k : Place) (p : Player) (edits : Edits) (after : Play) (up : List (List ℕ))
    (sent : List SentValue) (stalled : Bool)
    (before mid told : List Event) → IsPlace layout k p
    → ((past : Past) → Plays k.client past → Plays after (after_tick (client.end_of k.client) past []))
    → ((past : Past) → Plays k.client past → map sent_value sent
    ≡ new_packets (client.end_of k.client) past (after_tick (client.end_of k.client) past []))
    → ((past : Past) → Plays k.client past → stalled ≡ (not (has_ended past) && has_ended
    (after_tick (client.end_of k.client) past [])))
    → after.layout ≡ k.client.layout → after.version ≡ k.client.version → up ≡ k.up ++ map bytes_of sent
    → ((table : Table) → Adds table before mid (map (sent_report AtClient k.player) sent))
    → ((table : Table) → Adds table mid told (stalled_reports AtClient k.player stalled))
    → IsDone layout (record k { client = after; up = up }) before told
    (after_tick_of (table_in layout) edits AtClient p)
client_ticked layout k p edits after up sent stalled before mid told i plays sends stalls classes version kept one two =
    let table = table_in layout in
    let past = past_at table AtClient p in
    let same : client.end_of k.client ≡ end_of table AtClient p = rw (i.classes, i.version) refl in
    let t : IsTicked table edits AtClient p sent stalled = record {
      packets = subst (λ (e : End). map sent_value sent ≡ new_packets e past (after_tick e past [])) same
          (sends past i.plays);
      stalls = subst (λ (e : End). stalled ≡ (not (has_ended past) && has_ended (after_tick e past []))) same
          (stalls past i.plays);
    } in
    record {
      stands = record {
        number = i.number;
        classes = classes ∙ i.classes;
        version = version ∙ i.version;
        plays = subst (λ (e : End). Plays after (after_tick e past [])) same (plays past i.plays);
        down = i.down;
        up = kept ∙ ap (λ (l : List (List ℕ)). l ++ map bytes_of sent) i.up
            ∙ out_after table edits AtClient p sent stalled t;
        told_down = i.told_down;
        told_up = i.told_up;
      };
      adds = told_by layout edits AtClient k.player p sent stalled before mid told i.number t one two;
    }

-- the server's was
pub server_ticked : (layout : Layout) (k : Place) (p : Player) (edits : Edits) (down : List (List ℕ))
    (sent : List SentValue) (stalled : Bool)
    (before mid told : List Event) → IsPlace layout k p → IsTicked (table_in layout) edits AtServer p sent stalled
    → down ≡ k.down ++ map bytes_of sent
    → ((table : Table) → Adds table before mid (map (sent_report AtServer k.player) sent))
    → ((table : Table) → Adds table mid told (stalled_reports AtServer k.player stalled))
    → IsDone layout (record k { down = down }) before told (after_tick_of (table_in layout) edits AtServer p)
server_ticked layout k p edits down sent stalled before mid told i t kept one two =
    record {
      stands = record {
        number = i.number;
        classes = i.classes;
        version = i.version;
        plays = i.plays;
        down = kept ∙ ap (λ (l : List (List ℕ)). l ++ map bytes_of sent) i.down
            ∙ out_after (table_in layout) edits AtServer p sent stalled t;
        up = i.up;
        told_down = i.told_down;
        told_up = i.told_up;
      };
      adds = told_by layout edits AtServer k.player p sent stalled before mid told i.number t one two;
    }
