-- What a datagram and a call do at a player's client.
use Rattle.std.proofs.Common.{◌≡◌, ℕ, ◌+◌, ◌-◌, List, [], ◌∷◌, ◌++◌, true, false, Option, Some, None, refl, ap, sym, ◌∙◌, subst, nat_lt}
use Rattle.std.specs.Prelude.{slice_get, OnOk, IfOk}
use Rattle.std.proofs.Common.{Result, Ok, Err}
use Rattle.std.proofs.lemmas.List.{map-append}
use Rattle.protocol_model.specs.Side.{AtServer, AtClient}
use Rattle.protocol_model.specs.World.{Edits}
use Rattle.protocol_model.specs.Value.{Arg, Table}
use Rattle.protocol_model.specs.declared.Verdict.{Verdict}
use Rattle.protocol_model.specs.declared.CallAnswer.{CallAnswer}
use Rattle.connection_model.specs.Feed.{End, Past, Got}
use Rattle.connection_model.specs.Fates.{top_of}
use Rattle.connection_model.specs.Verdict.{verdict_of, after_got}
use Rattle.connection_model.specs.CallAnswers.{answer_of, after_call}
use Rattle.connection_model.specs.Handed.{handed_by}
use Rattle.connection_laws.proofs.SentStays.{got_sends, call_sends}
use Rattle.script_model.specs.Reports.{Report, Answered, Says, Late, Absent, Forged, Called}
use Rattle.replication_model.specs.Story.{Player, Reported, with_event, past_at, out_at, after_delivery, after_forgery, after_datagram, after_call_of, end_of}
use Rattle.class_layout.specs.Tables.{Layout, table_in}
use Rattle.client_world.specs.Played.{Play, Plays, handovers_in}
use Rattle.client_world.specs.Played as client
use Rattle.script_lines.specs.declared.event.Event.{Event}
use Rattle.script_lines.specs.declared.event.Event.TheVariants as event
use Rattle.script_lines.specs.declared.event.Delivery.TheVariants as delivery
use Rattle.script_lines.specs.ReportOf.{report_of}
use Rattle.replay_places.specs.declared.place.Place.{Place}
use Rattle.replay_places.specs.Places.{IsPlace}
use Rattle.replay_places.specs.Doing.{Adds, IsDone, handover_reports}
use Rattle.replay_places.proofs.Handed.{client_reports}
use Rattle.replay_places.proofs.Ticked.{adds_both}

-- the client's end is the story's
pub same_end : (layout : Layout) (k : Place) (p : Player) → IsPlace layout k p
    → client.end_of k.client ≡ end_of (table_in layout) AtClient p
same_end layout k p i = rw (i.classes, i.version) refl

-- ---- a datagram

-- the client heard these bytes: what it says, what was told, and what it stands for
pub record Heard (table : Table) (c : Play) (player : ℕ) (bytes : List ℕ) (verdict : Verdict) (after : Play)
    (before told : List Event) : Type 0 where
  pub says : (past : Past) → Plays c past → verdict ≡ verdict_of (client.end_of c) past bytes
  pub tells : (past : Past) → Plays c past → Adds table before told
      (handover_reports AtClient player (handovers_in (client.end_of c) past bytes))
  pub plays : (past : Past) → Plays c past → Plays after (after_got (client.end_of c) past bytes)
  pub layout : after.layout ≡ c.layout
  pub version : after.version ≡ c.version

-- the place after it
took : (layout : Layout) (k : Place) (p : Player) (bytes : List ℕ) (after : Play) → IsPlace layout k p
    → Plays after (after_got (client.end_of k.client) (past_at (table_in layout) AtClient p) bytes)
    → after.layout ≡ k.client.layout → after.version ≡ k.client.version
    → IsPlace layout (record k { client = after }) (with_event AtClient (Got bytes) p)
took layout k p bytes after i plays classes version = record {
  number = i.number;
  classes = classes ∙ i.classes;
  version = version ∙ i.version;
  plays = subst (λ (e : End). Plays after (after_got e (past_at (table_in layout) AtClient p) bytes))
      (same_end layout k p i) plays;
  down = i.down;
  up = i.up ∙ sym (got_sends (end_of (table_in layout) AtClient p) (past_at (table_in layout) AtClient p) bytes);
  told_down = i.told_down;
  told_up = i.told_up;
}

-- what is told of it, with its verdict
datagram_told : (layout : Layout) (k : Place) (p : Player) (edits : Edits) (bytes : List ℕ) (report : Verdict → Report)
    (verdict : Verdict)
    → IsPlace layout k p → verdict ≡ verdict_of (client.end_of k.client) (past_at (table_in layout) AtClient p) bytes
    → handover_reports AtClient k.player (handovers_in (client.end_of k.client) (past_at (table_in layout) AtClient p)
    bytes) ++ report verdict ∷ []
    ≡ (after_datagram (table_in layout) edits AtClient report bytes p).1
datagram_told layout k p edits bytes report verdict i says =
    let past = past_at (table_in layout) AtClient p in
    let end = end_of (table_in layout) AtClient p in
    let same = same_end layout k p i in
    parts _ _ verdict (verdict_of end past bytes)
    (ap (λ (e : End). handover_reports AtClient k.player (handovers_in e past bytes)) same
    ∙ ap (λ n. handover_reports AtClient n (handovers_in end past bytes)) i.number
    ∙ client_reports edits p.number (handed_by end past bytes))
    (says ∙ ap (λ (e : End). verdict_of e past bytes) same)
  where
    parts : (xs ys : List Report) (v w : Verdict) → xs ≡ ys → v ≡ w → xs ++ report v ∷ [] ≡ ys ++ report w ∷ []
    parts xs ys v w e f = rw (e, f) refl

-- all of it: heard, and its verdict told by one event
pub datagram_done : (layout : Layout) (k : Place) (p : Player) (edits : Edits) (bytes : List ℕ)
    (report : Verdict → Report) (verdict : Verdict)
    (after : Play) (before told all : List Event) (event : Event) → IsPlace layout k p
    → Heard (table_in layout) k.client k.player bytes verdict after before told → all ≡ told ++ event ∷ []
    → Adds (table_in layout) told (told ++ event ∷ []) (report verdict ∷ [])
    → IsDone layout (record k { client = after }) before all (after_datagram (table_in layout) edits AtClient report
    bytes p)
datagram_done layout k p edits bytes report verdict after before told all event i h pushed tells =
    let past = past_at (table_in layout) AtClient p in
    record {
      stands = took layout k p bytes after i (h.plays past i.plays) h.layout h.version;
      adds = subst (λ (l : List Event). Adds (table_in layout) before l
          (after_datagram (table_in layout) edits AtClient report bytes p).1) (sym pushed)
          (subst (λ (rs : List Report). Adds (table_in layout) before (told ++ event ∷ []) rs)
          (datagram_told layout k p edits bytes report verdict i (h.says past i.plays))
          (adds_both (table_in layout) before told (told ++ event ∷ []) _ (report verdict ∷ []) (h.tells past i.plays)
          tells));
    }

-- ---- a delivery

got_at : (layout : Layout) (k : Place) (p : Player) (n : ℕ) (o : Option (List ℕ)) → IsPlace layout k p
    → slice_get k.down (n - 1) ≡ o → slice_get (out_at (table_in layout) AtServer p) (n - 1) ≡ o
got_at layout k p n o i e = ap (λ (l : List (List ℕ)). slice_get l (n - 1)) (sym i.down) ∙ e

-- a packet that was sent and isn't late is heard
pub heard : (layout : Layout) (k : Place) (p : Player) (edits : Edits) (n : ℕ) (bytes : List ℕ) → IsPlace layout k p
    → slice_get k.down (n - 1) ≡ Some bytes → nat_lt (n + 8192) (top_of (past_at (table_in layout) AtClient p)) ≡ false
    → after_delivery (table_in layout) edits AtClient n p
    ≡ after_datagram (table_in layout) edits AtClient (λ verdict. Answered AtClient p.number n (Says verdict)) bytes p
heard layout k p edits n bytes i get late =
    let got = got_at layout k p n (Some bytes) i get in rw (got, late) refl

-- one that is late isn't
pub too_late : (layout : Layout) (k : Place) (p : Player) (edits : Edits) (n : ℕ) (bytes : List ℕ) → IsPlace layout k p
    → slice_get k.down (n - 1) ≡ Some bytes → nat_lt (n + 8192) (top_of (past_at (table_in layout) AtClient p)) ≡ true
    → after_delivery (table_in layout) edits AtClient n p ≡ (p, Answered AtClient p.number n Late ∷ [])
too_late layout k p edits n bytes i get late =
    let got = got_at layout k p n (Some bytes) i get in rw (got, late) refl

-- nor one that wasn't sent
pub absent : (layout : Layout) (k : Place) (p : Player) (edits : Edits) (n : ℕ) → IsPlace layout k p
    → slice_get k.down (n - 1) ≡ None → after_delivery (table_in layout) edits AtClient n p
    ≡ (p, Answered AtClient p.number n Absent ∷ [])
absent layout k p edits n i get =
    let got = got_at layout k p n None i get in rw got refl

-- something is told of a place that stays
pub stays : (layout : Layout) (k : Place) (p : Player) (before after : List Event) (event : Event) (report : Report)
    (done : Reported)
    → IsPlace layout k p → after ≡ before ++ event ∷ []
    → Adds (table_in layout) before (before ++ event ∷ []) (report ∷ []) → done ≡ (p, report ∷ [])
    → IsDone layout k before after done
stays layout k p before after event report done i pushed tells e =
    rw e (record {
      stands = i;
      adds = subst (λ (l : List Event). Adds (table_in layout) before l (report ∷ [])) (sym pushed) tells;
    })

-- ---- a call

-- the client was asked to make a call
pub called : (layout : Layout) (k : Place) (p : Player) (a n : ℕ) (args : List Arg) (answer : CallAnswer) (after : Play)
    (before all : List Event)
    → IsPlace layout k p
    → ((past : Past) → Plays k.client past → Plays after (after_call AtClient past a n args))
    → ((past : Past) → Plays k.client past → answer ≡ answer_of AtClient past a n args)
    → after.layout ≡ k.client.layout → after.version ≡ k.client.version
    → all ≡ before ++ event.ClientCalled k.player answer ∷ []
    → Adds (table_in layout) before (before ++ event.ClientCalled k.player answer ∷ [])
    (Called AtClient k.player answer ∷ [])
    → IsDone layout (record k { client = after }) before all (after_call_of (table_in layout) AtClient a n args p)
called layout k p a n args answer after before all i plays answers classes version pushed tells =
    let past = past_at (table_in layout) AtClient p in
    record {
      stands = record {
        number = i.number;
        classes = classes ∙ i.classes;
        version = version ∙ i.version;
        plays = plays past i.plays;
        down = i.down;
        up = i.up ∙ sym (call_sends (end_of (table_in layout) AtClient p) past a n args);
        told_down = i.told_down;
        told_up = i.told_up;
      };
      adds = subst (λ (l : List Event). Adds (table_in layout) before l
          (Called AtClient p.number (answer_of AtClient past a n args) ∷ [])) (sym pushed)
          (same answer (answer_of AtClient past a n args) k.player p.number (answers past i.plays) i.number tells);
    }
  where
    same : (x y : CallAnswer) (m n : ℕ) → x ≡ y → m ≡ n
        → Adds (table_in layout) before (before ++ event.ClientCalled k.player answer ∷ []) (Called AtClient m x ∷ [])
        → Adds (table_in layout) before (before ++ event.ClientCalled k.player answer ∷ []) (Called AtClient n y ∷ [])
    same x y m n e f h = rw (← e, ← f) h

-- ---- the calls of a place

-- an event is told
pub told_one : (table : Table) (before : List Event) (e : Event)
    → Adds table before (before ++ e ∷ []) (report_of table e ∷ [])
told_one table before e = map-append (report_of table) before (e ∷ [])

-- of the player of the place
as_player : (table : Table) (before after : List Event) (report : ℕ → Report) (m n : ℕ) → m ≡ n
    → Adds table before after (report m ∷ [])
    → Adds table before after (report n ∷ [])
as_player table before after report m n e h = subst (λ k. Adds table before after (report k ∷ [])) e h

-- a packet that wasn't sent
pub absent_done : (layout : Layout) (k : Place) (p : Player) (edits : Edits) (n : ℕ) (before after : List Event)
    → IsPlace layout k p
    → slice_get k.down (n - 1) ≡ None → after ≡ before ++ event.Down k.player n delivery.Absent ∷ []
    → IsDone layout k before after (after_delivery (table_in layout) edits AtClient n p)
absent_done layout k p edits n before after i get pushed =
    stays layout k p before after (event.Down k.player n delivery.Absent) (Answered AtClient p.number n Absent) _ i
    pushed
    (as_player (table_in layout) before _ (λ m. Answered AtClient m n Absent) k.player p.number i.number
    (told_one (table_in layout) before (event.Down k.player n delivery.Absent)))
    (absent layout k p edits n i get)

-- one that is late
pub late_done : (layout : Layout) (k : Place) (p : Player) (edits : Edits) (n : ℕ) (bytes : List ℕ)
    (before after : List Event) → IsPlace layout k p
    → slice_get k.down (n - 1) ≡ Some bytes → nat_lt (n + 8192) (top_of (past_at (table_in layout) AtClient p)) ≡ true
    → after ≡ before ++ event.Down k.player n delivery.Late ∷ []
    → IsDone layout k before after (after_delivery (table_in layout) edits AtClient n p)
late_done layout k p edits n bytes before after i get late pushed =
    stays layout k p before after (event.Down k.player n delivery.Late) (Answered AtClient p.number n Late) _ i pushed
    (as_player (table_in layout) before _ (λ m. Answered AtClient m n Late) k.player p.number i.number
    (told_one (table_in layout) before (event.Down k.player n delivery.Late)))
    (too_late layout k p edits n bytes i get late)

-- one that is heard
pub heard_done : (layout : Layout) (k : Place) (p : Player) (edits : Edits) (n : ℕ) (bytes : List ℕ) (verdict : Verdict)
    (after : Play)
    (before told all : List Event) → IsPlace layout k p
    → slice_get k.down (n - 1) ≡ Some bytes → nat_lt (n + 8192) (top_of (past_at (table_in layout) AtClient p)) ≡ false
    → Heard (table_in layout) k.client k.player bytes verdict after before told
    → all ≡ told ++ event.Down k.player n (delivery.Says verdict) ∷ []
    → IsDone layout (record k { client = after }) before all (after_delivery (table_in layout) edits AtClient n p)
heard_done layout k p edits n bytes verdict after before told all i get late h pushed =
    rw (heard layout k p edits n bytes i get late)
    (datagram_done layout k p edits bytes (λ v. Answered AtClient p.number n (Says v)) verdict after before told all
    (event.Down k.player n (delivery.Says verdict)) i h pushed
    (as_player (table_in layout) told _ (λ m. Answered AtClient m n (Says verdict)) k.player p.number i.number
    (told_one (table_in layout) told (event.Down k.player n (delivery.Says verdict)))))

-- bytes that nobody sent
pub forged_done : (layout : Layout) (k : Place) (p : Player) (edits : Edits) (bytes : List ℕ) (verdict : Verdict)
    (after : Play)
    (before told all : List Event) → IsPlace layout k p
    → Heard (table_in layout) k.client k.player bytes verdict after before told
    → all ≡ told ++ event.ClientForged k.player verdict ∷ []
    → IsDone layout (record k { client = after }) before all (after_forgery (table_in layout) edits AtClient bytes p)
forged_done layout k p edits bytes verdict after before told all i h pushed =
    datagram_done layout k p edits bytes (Forged AtClient p.number) verdict after before told all
    (event.ClientForged k.player verdict) i h pushed
    (as_player (table_in layout) told _ (λ m. Forged AtClient m verdict) k.player p.number i.number
    (told_one (table_in layout) told (event.ClientForged k.player verdict)))

-- a call
pub called_done : (layout : Layout) (k : Place) (p : Player) (a n : ℕ) (args : List Arg) (answer : CallAnswer)
    (after : Play) (before all : List Event)
    → IsPlace layout k p
    → ((past : Past) → Plays k.client past → Plays after (after_call AtClient past a n args))
    → ((past : Past) → Plays k.client past → answer ≡ answer_of AtClient past a n args)
    → after.layout ≡ k.client.layout → after.version ≡ k.client.version
    → all ≡ before ++ event.ClientCalled k.player answer ∷ []
    → IsDone layout (record k { client = after }) before all (after_call_of (table_in layout) AtClient a n args p)
called_done layout k p a n args answer after before all i plays answers classes version pushed =
    called layout k p a n args answer after before all i plays answers classes version pushed
    (told_one (table_in layout) before (event.ClientCalled k.player answer))

-- ---- clauses of answers

pub on_ok : {A E : Type 0} (r : Result A E) (P : Type 0) → P → OnOk r P
on_ok (Ok x) P h = h
on_ok (Err e) P h = tt

pub on_ok_then : {A E : Type 0} (r : Result A E) (P Q : Type 0) → OnOk r P → (P → Q) → OnOk r Q
on_ok_then (Ok x) P Q h f = f h
on_ok_then (Err e) P Q h f = tt

-- what the clauses of a call that hears say
pub heard_of : (layout : Layout) (k : Place) (p : Player) → IsPlace layout k p
    → {bytes : List ℕ} {verdict : Verdict} {after : Play} {before told : List Event}
    → ((past : Past) → Plays k.client past → verdict ≡ verdict_of (client.end_of k.client) past bytes)
    → ((past : Past) → Plays k.client past
    → Adds (table_in k.client.layout) before told (handover_reports AtClient k.player
    (handovers_in (client.end_of k.client) past bytes)))
    → ((past : Past) → Plays k.client past → Plays after (after_got (client.end_of k.client) past bytes))
    → after.layout ≡ k.client.layout → after.version ≡ k.client.version
    → Heard (table_in layout) k.client k.player bytes verdict after before told
heard_of layout k p i {bytes} {verdict} {after} {before} {told} says tells plays classes version = record {
  says = says;
  tells = λ past h. subst (λ (l : Layout). Adds (table_in l) before told
      (handover_reports AtClient k.player (handovers_in (client.end_of k.client) past bytes)))
      i.classes (tells past h);
  plays = plays;
  layout = classes;
  version = version;
}

pub if_ok : {A E : Type 0} (r : Result A E) (P Q : A → Type 0) → IfOk r P → ((x : A) → P x → Q x) → IfOk r Q
if_ok (Ok x) P Q h f = f x h
if_ok (Err e) P Q h f = tt
