-- What the server's end of one player's connection hears and is asked.
use Rattle.std.proofs.Common.{◌≡◌, ℕ, zero, suc, ◌+◌, ◌-◌, ◌==◌, List, [], ◌∷◌, ◌++◌, map, Bool, true, false, Option, Some, None, refl, ap, sym, ◌∙◌, subst, nat_lt, if◌then◌else◌}
use Rattle.std.specs.Prelude.{slice_get, slice_set, find, is_some}
use Rattle.std.proofs.lemmas.Option.{none-some}
use Rattle.protocol_model.specs.Side.{AtServer, AtClient}
use Rattle.protocol_model.specs.Value.{Arg}
use Rattle.protocol_model.specs.World.{Edits}
use Rattle.protocol_model.specs.declared.Verdict.{Verdict}
use Rattle.protocol_model.specs.declared.CallAnswer.{CallAnswer}
use Rattle.connection_model.specs.Feed.{Event, Got, Call}
use Rattle.connection_model.specs.Fates.{top_of}
use Rattle.connection_model.specs.Verdict.{verdict_of}
use Rattle.connection_model.specs.CallAnswers.{answer_of}
use Rattle.connection_model.specs.Handed.{handed_by}
use Rattle.connection_laws.proofs.SentStays.{got_sends, call_sends}
use Rattle.script_model.specs.Reports.{Report, Answered, Says, Late, Absent, Called, Settled}
use Rattle.replication_model.specs.Story.{Player, Reported, with_event, past_at, out_at, end_of, after_delivery, after_datagram, after_call_of, settled_answer, handed_reports}
use Rattle.class_layout.specs.Tables.{Layout, table_in}
use Rattle.value_codec.specs.declared.handed.Handed.{Handed}
use Rattle.handovers.specs.Handovers.{handover_of}
use Rattle.net_driver.specs.Served.{Seat, Served, seat_of, has_joined, with_seat, heard, answer_for, settled_for}
use Rattle.net_driver.specs.Hearing.{verdict_for, handovers_for}
use Rattle.net_driver.specs.Serves.{Drive, Serves}
use Rattle.script_lines.specs.declared.event.Event.{Event as EventValue}
use Rattle.replay_places.specs.declared.place.Place.{Place}
use Rattle.replay_places.specs.Places.{IsPlace}
use Rattle.replay_places.specs.Doing.{Adds, handover_reports, kept_delivery}
use Rattle.replay_places.proofs.Handed.{server_reports}
use Rattle.replay_places.proofs.Ticked.{adds_both}
use Rattle.replay_places.proofs.NewOnes.{also_kept}
use Rattle.replay_core.specs.Stands.{Serving, seat_in}
use Rattle.replay_core.specs.Lines.{IsAt, IsServed, IsDoneAt, DoesAt, IsHeard}
use Rattle.replay_core.proofs.Players.{seats_set, seats_stay, seat_there, ascend_set}

-- ---- the player's seat

-- it is found
pub seat_found : (layout : Layout) (d : Drive) (edits : Edits) (players : List Player) (i : ℕ) (p : Player) (n : ℕ)
    → (h : Serving layout d edits players) → IsAt players i p → n ≡ p.number → seat_of h.served n ≡ Some (seat_in p)
seat_found layout d edits players i p n h at who =
    ap (find (λ (seat : Seat). seat.number == n)) h.same_seats ∙ seat_there 0 n players i p at.ascend at.there (sym who)

pub has_seat : (layout : Layout) (d : Drive) (edits : Edits) (players : List Player) (i : ℕ) (p : Player) (n : ℕ)
    → (h : Serving layout d edits players) → IsAt players i p → n ≡ p.number → has_joined h.served n ≡ true
has_seat layout d edits players i p n h at who = ap is_some (seat_found layout d edits players i p n h at who)

-- its end hears an event
pub hears : (layout : Layout) (old new : Drive) (edits : Edits) (players : List Player) (i : ℕ) (p q : Player) (n : ℕ)
    (event : Event)
    → (h : Serving layout old edits players) → IsAt players i p → n ≡ p.number → seat_in q ≡ heard event (seat_in p)
    → ((s : Served) → Serves old s → Serves new (with_seat (heard event) n s)) → new.layout ≡ old.layout
    → Serving layout new edits (slice_set players i q)
hears layout old new edits players i p q n event h at who is serves classes = record {
  served = with_seat (heard event) n h.served;
  same_edits = h.same_edits;
  same_seats = ap (map (λ (seat : Seat). if seat.number == n then heard event seat else seat)) h.same_seats
      ∙ seats_set (heard event) n 0 players i p q at.ascend at.there (sym who) is;
  serves = serves h.served h.serves;
  classes = classes ∙ h.classes;
}

-- nothing changes at the server
pub seat_stays : (layout : Layout) (d : Drive) (edits : Edits) (players : List Player) (i : ℕ) (p q : Player)
    → (h : Serving layout d edits players) → slice_get players i ≡ Some p → seat_in q ≡ seat_in p
    → Serving layout d edits (slice_set players i q)
seat_stays layout d edits players i p q h at is = record {
  served = h.served;
  same_edits = h.same_edits;
  same_seats = h.same_seats ∙ sym (seats_stay players i p q at is);
  serves = h.serves;
  classes = h.classes;
}

-- ---- a datagram

-- what the end says of it, and what was told
pub heard_by : (layout : Layout) (old new : Drive) (edits : Edits) (players : List Player) (i : ℕ) (p : Player) (n : ℕ)
    (bytes : List ℕ)
    (verdict : Verdict) (handed : List Handed) (before told : List EventValue)
    → Serving layout old edits players → IsAt players i p → n ≡ p.number
    → ((s : Served) → Serves old s → Serves new (with_seat (heard (Got bytes)) n s)) → new.layout ≡ old.layout
    → ((s : Served) (seat : Seat) → Serves old s → seat_of s n ≡ Some seat
    → verdict ≡ verdict_for (table_in old.layout) seat bytes)
    → ((s : Served) (seat : Seat) → Serves old s → seat_of s n ≡ Some seat
    → map (handover_of old.layout) handed ≡ handovers_for (table_in old.layout) s.edits seat bytes)
    → Adds (table_in layout) before told (handover_reports AtServer n (map (handover_of layout) handed))
    → IsHeard layout bytes verdict new before told edits players i p
heard_by layout old new edits players i p n bytes verdict handed before told h at who serves classes says hands adds =
    let seat = seat_found layout old edits players i p n h at who in
    let end = end_of (table_in layout) AtServer p in
    let past = past_at (table_in layout) AtServer p in
    let said : verdict ≡ verdict_for (table_in old.layout) (seat_in p) bytes =
    says h.served (seat_in p) h.serves seat in
    let calls : map (handover_of old.layout) handed ≡ handovers_for (table_in old.layout) h.served.edits (seat_in p)
    bytes =
    hands h.served (seat_in p) h.serves seat in
    let now : map (handover_of layout) handed ≡ handovers_for (table_in layout) edits (seat_in p) bytes =
    ap (λ (l : Layout). map (handover_of l) handed) (sym h.classes) ∙ calls
    ∙ ap (λ (l : Layout). handovers_for (table_in l) h.served.edits (seat_in p) bytes) h.classes
    ∙ ap (λ (e : Edits). handovers_for (table_in layout) e (seat_in p) bytes) h.same_edits in
    let reports : handover_reports AtServer n (map (handover_of layout) handed)
    ≡ handed_reports edits AtServer p.number end past bytes =
    ap (handover_reports AtServer n) now
    ∙ ap (λ m. handover_reports AtServer m (handovers_for (table_in layout) edits (seat_in p) bytes)) who
    ∙ server_reports edits p.number (handed_by end past bytes) in
    record {
      says = said ∙ ap (λ (l : Layout). verdict_for (table_in l) (seat_in p) bytes) h.classes;
      serving = hears layout old new edits players i p (with_event AtServer (Got bytes) p) n (Got bytes) h at who refl
          serves classes;
      adds = subst (Adds (table_in layout) before told) reports adds;
    }

-- it leaves the player's place
pub place_hears : (layout : Layout) (k : Place) (p : Player) (bytes : List ℕ) → IsPlace layout k p
    → IsPlace layout k (with_event AtServer (Got bytes) p)
place_hears layout k p bytes i = record {
  number = i.number;
  classes = i.classes;
  version = i.version;
  plays = i.plays;
  down = i.down ∙ sym (got_sends (end_of (table_in layout) AtServer p) (past_at (table_in layout) AtServer p) bytes);
  up = i.up;
  told_down = i.told_down;
  told_up = i.told_up;
}

-- with its verdict told by one event
pub datagram_served : (layout : Layout) (d : Drive) (edits : Edits) (players : List Player) (i : ℕ) (p : Player)
    (bytes : List ℕ) (report : Verdict → Report)
    (verdict : Verdict) (before told all : List EventValue) (event : EventValue)
    → IsHeard layout bytes verdict d before told edits players i p → all ≡ told ++ event ∷ []
    → Adds (table_in layout) told (told ++ event ∷ []) (report verdict ∷ [])
    → IsServed layout d before all edits players i (after_datagram (table_in layout) edits AtServer report bytes p)
datagram_served layout d edits players i p bytes report verdict before told all event h pushed tells = record {
  serving = h.serving;
  adds = subst (λ (l : List EventValue). Adds (table_in layout) before l
      (after_datagram (table_in layout) edits AtServer report bytes p).1) (sym pushed)
      (adds_both (table_in layout) before told (told ++ event ∷ [])
      (handed_reports edits AtServer p.number (end_of (table_in layout) AtServer p)
      (past_at (table_in layout) AtServer p) bytes)
      (report (verdict_of (end_of (table_in layout) AtServer p) (past_at (table_in layout) AtServer p) bytes) ∷ [])
      h.adds
      (subst (λ (v : Verdict). Adds (table_in layout) told (told ++ event ∷ []) (report v ∷ [])) h.says tells));
}

-- ---- a delivery

-- something is told where nothing changes
pub stays_at : (layout : Layout) (d : Drive) (k : Place) (edits : Edits) (players : List Player) (i : ℕ) (p : Player)
    (before all : List EventValue)
    (reports : List Report) (done : Reported) → Serving layout d edits players → IsAt players i p → IsPlace layout k p
    → Adds (table_in layout) before all reports → done ≡ (p, reports)
    → IsDoneAt layout d k before all edits players i done
stays_at layout d k edits players i p before all reports done h at stands adds e =
    rw e (record {
      served = record { serving = seat_stays layout d edits players i p p h at.there refl; adds = adds };
      stands = stands;
    })

got_at : (layout : Layout) (k : Place) (p : Player) (n : ℕ) (o : Option (List ℕ)) → IsPlace layout k p
    → slice_get k.up (n - 1) ≡ o → slice_get (out_at (table_in layout) AtClient p) (n - 1) ≡ o
got_at layout k p n o i e = ap (λ (l : List (List ℕ)). slice_get l (n - 1)) (sym i.up) ∙ e

-- a packet that wasn't sent is absent
pub absent : (layout : Layout) (k : Place) (p : Player) (edits : Edits) (n : ℕ) → IsPlace layout k p
    → slice_get k.up (n - 1) ≡ None → after_delivery (table_in layout) edits AtServer n p
    ≡ (p, Answered AtServer p.number n Absent ∷ [])
absent layout k p edits n i get = let got = got_at layout k p n None i get in rw got refl

-- one that is late isn't heard
pub too_late : (layout : Layout) (k : Place) (p : Player) (edits : Edits) (n : ℕ) (bytes : List ℕ) → IsPlace layout k p
    → slice_get k.up (n - 1) ≡ Some bytes → nat_lt (n + 8192) (top_of (past_at (table_in layout) AtServer p)) ≡ true
    → after_delivery (table_in layout) edits AtServer n p ≡ (p, Answered AtServer p.number n Late ∷ [])
too_late layout k p edits n bytes i get late = let got = got_at layout k p n (Some bytes) i get in rw (got, late) refl

-- and any other is
pub in_time : (layout : Layout) (k : Place) (p : Player) (edits : Edits) (n : ℕ) (bytes : List ℕ) → IsPlace layout k p
    → slice_get k.up (n - 1) ≡ Some bytes → nat_lt (n + 8192) (top_of (past_at (table_in layout) AtServer p)) ≡ false
    → after_delivery (table_in layout) edits AtServer n p
    ≡ after_datagram (table_in layout) edits AtServer (λ verdict. Answered AtServer p.number n (Says verdict)) bytes p
in_time layout k p edits n bytes i get late = let got = got_at layout k p n (Some bytes) i get in rw (got, late) refl

-- ---- deliveries one after another

set_get : (players : List Player) (i : ℕ) (p q : Player) → slice_get players i ≡ Some p
    → slice_get (slice_set players i q) i ≡ Some q
set_get [] i p q e = absurd (none-some p e)
set_get (x ∷ players) zero p q e = refl
set_get (x ∷ players) (suc i) p q e = set_get players i p q e

set_twice : (players : List Player) (i : ℕ) (p q : Player) → slice_set (slice_set players i p) i q
    ≡ slice_set players i q
set_twice [] i p q = refl
set_twice (x ∷ players) zero p q = refl
set_twice (x ∷ players) (suc i) p q = ap (λ (l : List Player). x ∷ l) (set_twice players i p q)

-- the player goes on at its place
pub at_set : (players : List Player) (i : ℕ) (p q : Player) → IsAt players i p → q.number ≡ p.number
    → IsAt (slice_set players i q) i q
at_set players i p q at number = record {
  ascend = ascend_set 0 players i p q at.ascend at.there number;
  there = set_get players i p q at.there;
}

-- one more delivery
pub also_done : (layout : Layout) (mid new : Drive) (k l : Place) (before told all : List EventValue) (edits : Edits)
    (players : List Player) (i : ℕ) (p : Player)
    (every n : ℕ) (done : Reported) → IsAt players i p → done.0.number ≡ p.number
    → IsDoneAt layout mid k before told edits players i done
    → DoesAt layout (λ edits. kept_delivery (table_in layout) edits AtServer every n) mid new k l told all
    → IsDoneAt layout new l before all edits players i (also_kept (table_in layout) edits AtServer every done n)
also_done layout mid new k l before told all edits players i p every n done at number so does =
    let next = does edits (slice_set players i done.0) i done.0 so.served.serving (at_set players i p done.0 at number)
    so.stands in
    record {
      served = record {
        serving = subst (λ (ps : List Player). Serving layout new edits ps)
            (set_twice players i done.0 (kept_delivery (table_in layout) edits AtServer every n done.0).0)
            next.served.serving;
        adds = adds_both (table_in layout) before told all done.1
            (kept_delivery (table_in layout) edits AtServer every n done.0).1 so.served.adds next.served.adds;
      };
      stands = next.stands;
    }

-- ---- a call

-- the server made a call
pub call_served : (layout : Layout) (old new : Drive) (edits : Edits) (players : List Player) (i : ℕ) (p : Player)
    (n a number : ℕ) (args : List Arg)
    (answer : CallAnswer) (before all : List EventValue) (event : EventValue)
    → Serving layout old edits players → IsAt players i p → n ≡ p.number
    → ((s : Served) → Serves old s → Serves new (with_seat (heard (Call a number args)) n s)) → new.layout ≡ old.layout
    → ((s : Served) (seat : Seat) → Serves old s → seat_of s n ≡ Some seat
    → answer ≡ answer_for (table_in old.layout) seat a number args)
    → all ≡ before ++ event ∷ [] → Adds (table_in layout) before (before ++ event ∷ []) (Called AtServer n answer ∷ [])
    → IsServed layout new before all edits players i (after_call_of (table_in layout) AtServer a number args p)
call_served layout old new edits players i p n a number args answer before all event h at who serves classes says pushed
    tells =
    let seat = seat_found layout old edits players i p n h at who in
    let said : answer ≡ answer_of AtServer (past_at (table_in layout) AtServer p) a number args =
    says h.served (seat_in p) h.serves seat ∙ ap (λ (l : Layout). answer_for (table_in l) (seat_in p) a number args)
    h.classes in
    record {
      serving = hears layout old new edits players i p (with_event AtServer (Call a number args) p) n
          (Call a number args) h at who refl serves classes;
      adds = subst (λ (l : List EventValue). Adds (table_in layout) before l
          (after_call_of (table_in layout) AtServer a number args p).1) (sym pushed)
          (same n p.number answer _ who said tells);
    }
  where
    same : (m k : ℕ) (x y : CallAnswer) → m ≡ k → x ≡ y → Adds (table_in layout) before (before ++ event ∷ [])
        (Called AtServer m x ∷ [])
        → Adds (table_in layout) before (before ++ event ∷ []) (Called AtServer k y ∷ [])
    same m k x y e f h = rw (← e, ← f) h

-- it leaves the player's place
pub place_calls : (layout : Layout) (k : Place) (p : Player) (a n : ℕ) (args : List Arg) → IsPlace layout k p
    → IsPlace layout k (with_event AtServer (Call a n args) p)
place_calls layout k p a n args i = record {
  number = i.number;
  classes = i.classes;
  version = i.version;
  plays = i.plays;
  down = i.down ∙ sym (call_sends (end_of (table_in layout) AtServer p) (past_at (table_in layout) AtServer p) a n
      args);
  up = i.up;
  told_down = i.told_down;
  told_up = i.told_up;
}

-- ---- a question

-- whether an actor is settled
pub settled_served : (layout : Layout) (d : Drive) (edits : Edits) (players : List Player) (i : ℕ) (p : Player)
    (n a : ℕ) (holds : Bool)
    (before all : List EventValue) (event : EventValue)
    → Serving layout d edits players → IsAt players i p → n ≡ p.number
    → ((s : Served) (seat : Seat) → Serves d s → seat_of s n ≡ Some seat
    → holds ≡ settled_for (table_in d.layout) s.edits seat a)
    → all ≡ before ++ event ∷ [] → Adds (table_in layout) before (before ++ event ∷ []) (Settled n a holds ∷ [])
    → IsServed layout d before all edits players i (settled_answer (table_in layout) edits a p)
settled_served layout d edits players i p n a holds before all event h at who says pushed tells =
    let seat = seat_found layout d edits players i p n h at who in
    let said : holds ≡ settled_for (table_in layout) edits (seat_in p) a =
    says h.served (seat_in p) h.serves seat ∙ ap (λ (l : Layout). settled_for (table_in l) h.served.edits (seat_in p) a)
    h.classes
    ∙ ap (λ (e : Edits). settled_for (table_in layout) e (seat_in p) a) h.same_edits in
    record {
      serving = seat_stays layout d edits players i p p h at.there refl;
      adds = subst (λ (l : List EventValue). Adds (table_in layout) before l
          (settled_answer (table_in layout) edits a p).1) (sym pushed)
          (same n p.number holds _ who said tells);
    }
  where
    same : (m k : ℕ) (x y : Bool) → m ≡ k → x ≡ y → Adds (table_in layout) before (before ++ event ∷ [])
        (Settled m a x ∷ [])
        → Adds (table_in layout) before (before ++ event ∷ []) (Settled k a y ∷ [])
    same m k x y e f h = rw (← e, ← f) h
