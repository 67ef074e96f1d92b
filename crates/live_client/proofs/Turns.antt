-- What a tick and the end of a run do at a live client, and how it asks.
use Rattle.std.proofs.Common.{◌≡◌, ℕ, List, [], ◌++◌, map, Bool, true, false, not, ◌&&◌, None, refl, ap, sym, ◌∙◌, subst}
use Rattle.protocol_model.specs.Side.{AtClient}
use Rattle.protocol_model.specs.Value.{Table}
use Rattle.protocol_model.specs.World.{Edits}
use Rattle.protocol_model.specs.declared.Version.{Version}
use Rattle.connection_model.specs.Feed.{End, Past, Tick, has_ended}
use Rattle.connection_model.specs.Pack.{after_tick as after_tick_at}
use Rattle.script_model.specs.Reports.{Report}
use Rattle.replication_model.specs.Story.{Player, past_at, with_event, copies_reports}
use Rattle.class_layout.specs.Tables.{Layout, table_in}
use Rattle.client_world.specs.Played.{Play, Plays}
use Rattle.client_world.specs.Played as client
use Rattle.link_end.specs.Answers.{new_packets, sent_value}
use Rattle.link_end.specs.declared.sent.Sent.{Sent as SentValue}
use Rattle.script_lines.specs.declared.event.Event.{Event as EventTold}
use Rattle.script_lines.specs.ReportOf.{report_of}
use Rattle.replay_places.specs.Places.{IsClient}
use Rattle.replay_places.specs.Doing.{Adds, IsTicked}
use Rattle.live_model.specs.Outside.{Peer, Heard}
use Rattle.live_model.specs.Server.{write, after_live_tick}
use Rattle.live_model.specs.Caller.{Caller, after_tick}
use Rattle.live_model.specs.Runs.{first_caller, copies_acts}
use Rattle.live_acts.specs.declared.act.Act.{Act as ActCode}
use Rattle.live_acts.specs.Acts.{AddsActs}
use Rattle.live_telling.specs.declared.ticking.Teller.{Teller}
use Rattle.live_telling.specs.declared.ticking.Side.TheVariants.{Client}
use Rattle.live_telling.specs.Ticked.{Tells}
use Rattle.live_client.specs.Callers.{Calling, IsCaller, HasCalled, Does, last_acts}
use Rattle.live_client.proofs.Hearing.{same_end, moved}

-- ---- before the first turn

pub first_is : (layout : Layout) (digest : List ℕ) (version : Version) (server : Peer) (end player : ℕ) (client : Play)
    (heard : List Heard) → Plays client [] → client.layout ≡ layout → client.version ≡ version
    → IsCaller layout digest
    (record {
      layout = layout;
      client = client;
      player = player;
      version = version;
      server = server;
      end = end;
      digest = digest;
      welcomed = false;
      refused = None;
    }) (first_caller version server end player heard)
first_is layout digest version server end player client heard plays classes is = record {
  classes = refl;
  client = record { number = refl; classes = classes; version = is; plays = plays };
  version = refl;
  server = refl;
  end = refl;
  digest = refl;
  welcomed = refl;
  refused = refl;
}

-- ---- a tick

tick_is : (table : Table) (c : Caller) → c.welcomed ≡ true
    → after_tick table c
    ≡ (let next = after_live_tick table [] AtClient c.end c.server c.player in (record c { player = next.0 }, next.1))
tick_is table c e = rw e refl

-- the client as it tells its tick
abbrev pub teller_of : Calling → Teller
teller_of k = record { side = Client; player = k.player; end = k.end; to = k.server }

-- by the end of the link that it has
same_tick : (s t : Table) (m n : ℕ) (x y : Peer) (p : Player) → s ≡ t → m ≡ n → x ≡ y
    → (after_live_tick s [] AtClient m x p).1 ≡ (after_live_tick t [] AtClient n y p).1
same_tick s t m n x y p e f g =
    ap (λ (u : Table). (after_live_tick u [] AtClient m x p).1) e
    ∙ ap (λ k. (after_live_tick t [] AtClient k x p).1) f
    ∙ ap (λ (z : Peer). (after_live_tick t [] AtClient n z p).1) g

pub ticked : (k : Calling) (after : Play) (sent : List SentValue) (stalled : Bool) (old new : List ActCode)
    → k.welcomed ≡ true
    → ((past : Past) → Plays k.client past → Plays after (after_tick_at (client.end_of k.client) past []))
    → ((past : Past) → Plays k.client past → map sent_value sent
    ≡ new_packets (client.end_of k.client) past (after_tick_at (client.end_of k.client) past []))
    → ((past : Past) → Plays k.client past → stalled
    ≡ (not (has_ended past) && has_ended (after_tick_at (client.end_of k.client) past [])))
    → after.layout ≡ k.client.layout → after.version ≡ k.client.version
    → ((edits : Edits) (p : Player) → Tells (table_in k.layout) edits (teller_of k) sent stalled old new p)
    → Does after_tick k (record k { client = after }) old new
ticked k after sent stalled old new e plays sends stalls classes version tells = λ layout digest c i.
    let table = table_in layout in
    let p = c.player in
    let past = past_at table AtClient p in
    let same = same_end layout k.client k.player p i.client in
    let now : Plays after (past_at table AtClient (with_event AtClient (Tick []) p)) =
    subst (λ (e : End). Plays after (after_tick_at e past [])) same (plays past i.client.plays) in
    let t : IsTicked table [] AtClient p sent stalled = record {
      packets = subst (λ (e : End). map sent_value sent ≡ new_packets e past (after_tick_at e past [])) same
          (sends past i.client.plays);
      stalls = subst (λ (e : End). stalled ≡ (not (has_ended past) && has_ended (after_tick_at e past []))) same
          (stalls past i.client.plays);
    } in
    let layouts : table_in k.layout ≡ table = ap table_in i.classes in
    let told : AddsActs old new (after_live_tick (table_in k.layout) [] AtClient k.end k.server p).1 =
    tells [] p i.client.number (subst (λ (x : Table). IsTicked x [] AtClient p sent stalled) (sym layouts) t) in
    subst (HasCalled layout digest (record k { client = after }) old new)
    (sym (tick_is table c (sym i.welcomed ∙ e)))
    (record {
      stands = moved layout digest k c (Tick []) after i now classes version;
      adds = subst (AddsActs old new)
          (same_tick (table_in k.layout) table k.end c.end k.server c.server p layouts i.end i.server) told;
    })

-- ---- the end of a run

last_copies : (table : Table) (c : Caller) → c.welcomed ≡ true → last_acts table c ≡ copies_acts table c
last_copies table c e = rw e refl

pub told_copies : (layout : Layout) (digest : List ℕ) (k : Calling) (c : Caller) (first told : List EventTold)
    (old new : List ActCode) → IsCaller layout digest k c → k.welcomed ≡ true → first ≡ []
    → ((layout : Layout) (p : Player) → IsClient layout k.client k.player p
    → Adds (table_in layout) first told (copies_reports (table_in layout) p))
    → AddsActs old new (map write (map (report_of (table_in k.layout)) told))
    → AddsActs old new (last_acts (table_in layout) c)
told_copies layout digest k c first told old new i e none copies acts =
    let table = table_in layout in
    let reports : map (report_of table) told ≡ copies_reports table c.player =
    copies layout c.player i.client
    ∙ ap (λ (l : List EventTold). map (report_of table) l ++ copies_reports table c.player) none in
    subst (AddsActs old new)
    (ap (λ (l : Layout). map write (map (report_of (table_in l)) told)) i.classes
    ∙ ap (λ (rs : List Report). map write rs) reports ∙ sym (last_copies table c (sym i.welcomed ∙ e))) acts
