-- What a datagram does at a live client.
use Rattle.std.proofs.Common.{◌≡◌, ℕ, List, [], ◌∷◌, ◌++◌, map, Bool, true, false, if◌then◌else◌, refl, ap, sym, ◌∙◌, subst}
use Rattle.protocol_model.specs.Side.{AtClient}
use Rattle.protocol_model.specs.Value.{Table}
use Rattle.protocol_model.specs.declared.Verdict.{Verdict}
use Rattle.connection_model.specs.Feed.{End, Event, Past, Got}
use Rattle.connection_model.specs.Handed.{handed_by}
use Rattle.connection_model.specs.Verdict.{verdict_of, after_got}
use Rattle.script_model.specs.Reports.{Report}
use Rattle.replication_model.specs.Story.{Player, end_of, past_at, with_event, handed_reports}
use Rattle.class_layout.specs.Tables.{Layout, table_in}
use Rattle.client_world.specs.Played.{Play, Plays, handovers_in}
use Rattle.client_world.specs.Played as client
use Rattle.script_lines.specs.declared.event.Event.{Event as EventTold}
use Rattle.script_lines.specs.ReportOf.{report_of}
use Rattle.replay_places.specs.Places.{IsClient}
use Rattle.replay_places.specs.Doing.{Adds, handover_reports}
use Rattle.replay_places.proofs.Handed.{client_reports}
use Rattle.live_model.specs.Outside.{Peer, same_peer, Writes, Datagram}
use Rattle.live_model.specs.Handshake.{ends_in_zero}
use Rattle.live_model.specs.Server.{write, got_text, after_hearing}
use Rattle.live_model.specs.Caller.{Caller, Called, welcomes, refusal_in, after_answer, after_datagram}
use Rattle.live_acts.specs.declared.act.Act.{Act as ActCode}
use Rattle.live_acts.specs.Acts.{AddsActs}
use Rattle.live_telling.proofs.Adding.{adds_none, adds_both}
use Rattle.live_client.specs.Callers.{Calling, IsCaller, Stands, HasCalled, Does, hears}

-- ---- the end of the connection

-- it is the story's
pub same_end : (layout : Layout) (k : Play) (player : ℕ) (p : Player) → IsClient layout k player p
    → client.end_of k ≡ end_of (table_in layout) AtClient p
same_end layout k player p i = rw (i.classes, i.version) refl

-- it went on
pub moved : (layout : Layout) (digest : List ℕ) (k : Calling) (c : Caller) (event : Event) (after : Play)
    → IsCaller layout digest k c
    → Plays after (past_at (table_in layout) AtClient (with_event AtClient event c.player))
    → after.layout ≡ k.client.layout → after.version ≡ k.client.version
    → IsCaller layout digest (record k { client = after }) (record c { player = with_event AtClient event c.player })
moved layout digest k c event after i plays classes version = record {
  classes = i.classes;
  client = record {
    number = i.client.number;
    classes = classes ∙ i.client.classes;
    version = version ∙ i.client.version;
    plays = plays;
  };
  version = i.version;
  server = i.server;
  end = i.end;
  digest = i.digest;
  welcomed = i.welcomed;
  refused = i.refused;
}

-- nothing was done
pub unmoved : (layout : Layout) (digest : List ℕ) (k : Calling) (c : Caller) (acts : List ActCode)
    → IsCaller layout digest k c → HasCalled layout digest k acts acts (c, [])
unmoved layout digest k c acts i = record { stands = i; adds = adds_none acts }

-- ---- a datagram of the connection

datagram_is : (table : Table) (from : Peer) (bytes : List ℕ) (c : Caller) → same_peer from c.server ≡ true
    → ends_in_zero bytes ≡ false
    → after_datagram table from bytes c
    ≡ (let next = after_hearing table [] AtClient bytes c.player in (record c { player = next.0 }, next.1))
datagram_is table from bytes c e f = rw (e, f) refl

-- the server of both
of_server : (layout : Layout) (digest : List ℕ) (k : Calling) (c : Caller) (from : Peer) (b : Bool)
    → IsCaller layout digest k c → same_peer from k.server ≡ b → same_peer from c.server ≡ b
of_server layout digest k c from b i e = ap (same_peer from) (sym i.server) ∙ e

-- what is told of it
hearing_told : (layout : Layout) (k : Play) (player : ℕ) (p : Player) (bytes : List ℕ) (verdict : Verdict)
    (told : List EventTold) → IsClient layout k player p
    → verdict ≡ verdict_of (client.end_of k) (past_at (table_in layout) AtClient p) bytes
    → map (report_of (table_in layout)) told
    ≡ handover_reports AtClient player (handovers_in (client.end_of k) (past_at (table_in layout) AtClient p) bytes)
    → map write (map (report_of (table_in layout)) told) ++ Writes (got_text player verdict) ∷ []
    ≡ (after_hearing (table_in layout) [] AtClient bytes p).1
hearing_told layout k player p bytes verdict told i says tells =
    let past = past_at (table_in layout) AtClient p in
    let end = end_of (table_in layout) AtClient p in
    let same = same_end layout k player p i in
    parts _ (handed_reports [] AtClient p.number end past bytes) verdict (verdict_of end past bytes) player p.number
    (tells ∙ ap (λ (e : End). handover_reports AtClient player (handovers_in e past bytes)) same
    ∙ ap (λ n. handover_reports AtClient n (handovers_in end past bytes)) i.number
    ∙ client_reports [] p.number (handed_by end past bytes))
    (says ∙ ap (λ (e : End). verdict_of e past bytes) same) i.number
  where
    parts : (xs ys : List Report) (v w : Verdict) (m n : ℕ) → xs ≡ ys → v ≡ w → m ≡ n
        → map write xs ++ Writes (got_text m v) ∷ [] ≡ map write ys ++ Writes (got_text n w) ∷ []
    parts xs ys v w m n e f g =
        ap (λ (rs : List Report). map write rs ++ Writes (got_text m v) ∷ []) e
        ∙ ap (λ (x : Verdict). map write ys ++ Writes (got_text m x) ∷ []) f
        ∙ ap (λ k. map write ys ++ Writes (got_text k w) ∷ []) g

-- the calls that it hands over, and the verdict
pub heard : (layout : Layout) (digest : List ℕ) (k : Calling) (c : Caller) (from : Peer) (bytes : List ℕ)
    (verdict : Verdict) (after : Play) (first told : List EventTold) (old mid new : List ActCode)
    → IsCaller layout digest k c → same_peer from k.server ≡ true → ends_in_zero bytes ≡ false → first ≡ []
    → ((past : Past) → Plays k.client past → verdict ≡ verdict_of (client.end_of k.client) past bytes)
    → ((past : Past) → Plays k.client past → Adds (table_in k.client.layout) first told
    (handover_reports AtClient k.player (handovers_in (client.end_of k.client) past bytes)))
    → ((past : Past) → Plays k.client past → Plays after (after_got (client.end_of k.client) past bytes))
    → after.layout ≡ k.client.layout → after.version ≡ k.client.version
    → AddsActs old mid (map write (map (report_of (table_in k.layout)) told))
    → AddsActs mid new (Writes (got_text k.player verdict) ∷ [])
    → HasCalled layout digest (record k { client = after }) old new (after_datagram (table_in layout) from bytes c)
heard layout digest k c from bytes verdict after first told old mid new i e f none says tells plays classes version
    one two =
    let table = table_in layout in
    let p = c.player in
    let past = past_at table AtClient p in
    let same = same_end layout k.client k.player p i.client in
    let now : Plays after (past_at table AtClient (with_event AtClient (Got bytes) p)) =
    subst (λ (e : End). Plays after (after_got e past bytes)) same (plays past i.client.plays) in
    let reports : map (report_of table) told
    ≡ handover_reports AtClient k.player (handovers_in (client.end_of k.client) past bytes) =
    from_none table first told _ none
    (subst (λ (l : Layout). Adds (table_in l) first told
    (handover_reports AtClient k.player (handovers_in (client.end_of k.client) past bytes)))
    i.client.classes (tells past i.client.plays)) in
    let acts : AddsActs old mid (map write (map (report_of table) told)) =
    subst (λ (l : Layout). AddsActs old mid (map write (map (report_of (table_in l)) told))) i.classes one in
    subst (HasCalled layout digest (record k { client = after }) old new)
    (sym (datagram_is table from bytes c (of_server layout digest k c from true i e) f))
    (record {
      stands = moved layout digest k c (Got bytes) after i now classes version;
      adds = subst (AddsActs old new)
          (hearing_told layout k.client k.player p bytes verdict told i.client (says past i.client.plays) reports)
          (adds_both old mid new _ (Writes (got_text k.player verdict) ∷ []) acts two);
    })
  where
    from_none : (table : Table) (first told : List EventTold) (rs : List Report) → first ≡ []
        → Adds table first told rs → map (report_of table) told ≡ rs
    from_none table first told rs e a = a ∙ ap (λ (l : List EventTold). map (report_of table) l ++ rs) e

-- ---- whichever it is

heard_welcomed : (table : Table) (from : Peer) (bytes : List ℕ) (c : Caller) → c.welcomed ≡ true
    → hears from bytes table c ≡ after_datagram table from bytes c
heard_welcomed table from bytes c e = rw e refl

heard_asking : (table : Table) (from : Peer) (bytes : List ℕ) (c : Caller) → c.welcomed ≡ false
    → hears from bytes table c ≡ after_answer c (Datagram from bytes)
heard_asking table from bytes c e = rw e refl

-- an answer does nothing outside
answer_is_quiet : (c : Caller) (from : Peer) (bytes : List ℕ)
    → after_answer c (Datagram from bytes) ≡ ((after_answer c (Datagram from bytes)).0, [])
answer_is_quiet c from bytes = by (welcomes c (Datagram from bytes))
  where
    by : (b : Bool)
        → (let x : Called = if b then (record c { welcomed = true }, [])
        else (record c { refused = refusal_in c (Datagram from bytes) }, []) in x ≡ (x.0, []))
    by true = refl
    by false = refl

pub hears_connection : (k now : Calling) (from : Peer) (bytes : List ℕ) (old new : List ActCode)
    → k.welcomed ≡ true → Does (λ table c. after_datagram table from bytes c) k now old new
    → Does (hears from bytes) k now old new
hears_connection k now from bytes old new e does = λ layout digest c i.
    subst (HasCalled layout digest now old new)
    (sym (heard_welcomed (table_in layout) from bytes c (sym i.welcomed ∙ e))) (does layout digest c i)

pub hears_answer : (k now : Calling) (from : Peer) (bytes : List ℕ) (acts : List ActCode) → k.welcomed ≡ false
    → ((layout : Layout) (digest : List ℕ) (c : Caller) → IsCaller layout digest k c
    → IsCaller layout digest now (after_answer c (Datagram from bytes)).0)
    → Does (hears from bytes) k now acts acts
hears_answer k now from bytes acts e stands = λ layout digest c i.
    subst (HasCalled layout digest now acts acts)
    (sym (heard_asking (table_in layout) from bytes c (sym i.welcomed ∙ e) ∙ answer_is_quiet c from bytes))
    (unmoved layout digest now _ acts (stands layout digest c i))

-- after a call it is some client of the definitions again
pub stands_after : (does : Table → Caller → Called) (k now : Calling) (old new : List ActCode) → Stands k
    → Does does k now old new → Stands now
stands_after does k now old new s done =
    (s.0, s.1, (does (table_in s.0) s.2).0, (done s.0 s.1 s.2 s.3).stands)
