-- The calls at the server's end of one player's connection, each with what it tells.
use Rattle.std.proofs.Common.{◌≡◌, ℕ, suc, ◌+◌, ◌-◌, ◌≤◌, List, [], ◌∷◌, ◌++◌, map, length, Bool, true, false, Some, None, refl, ap, sym, ◌∙◌, subst, arith, nat_lt, append-nil}
use Rattle.std.specs.Prelude.{slice_get, slice_set, filter}
use Rattle.std.specs.List.{range_with_len}
use Rattle.protocol_model.specs.Side.{AtServer, AtClient}
use Rattle.protocol_model.specs.Value.{Table, Arg}
use Rattle.value_codec.specs.declared.args.Arg.{Arg as ArgValue}
use Rattle.protocol_model.specs.World.{Edits}
use Rattle.protocol_model.specs.declared.Verdict.{Verdict}
use Rattle.protocol_model.specs.declared.CallAnswer.{CallAnswer}
use Rattle.connection_model.specs.Feed.{Call}
use Rattle.connection_model.specs.Fates.{top_of}
use Rattle.script_model.specs.Reports.{Report, Answered, Says, Late, Absent, Forged}
use Rattle.replication_model.specs.Story.{Player, past_at, out_at, with_told, is_kept, after_delivery, after_new_deliveries, after_forgery, after_call_of, settled_answer}
use Rattle.class_layout.specs.Tables.{Layout, table_in}
use Rattle.net_driver.specs.Served.{Seat, Served, seat_of, with_seat, heard, answer_for, settled_for, top_for}
use Rattle.net_driver.specs.Calls.{IsMade}
use Rattle.net_driver.specs.Serves.{Drive, Serves}
use Rattle.script_lines.specs.declared.event.Event.{Event}
use Rattle.script_lines.specs.declared.event.Event.TheVariants as event
use Rattle.script_lines.specs.declared.event.Delivery.TheVariants as delivery
use Rattle.replay_places.specs.declared.place.Place.{Place}
use Rattle.replay_places.specs.Places.{IsPlace}
use Rattle.script_lines.specs.ReportOf.{report_of}
use Rattle.replay_places.specs.Doing.{Adds, kept_delivery}
use Rattle.replay_places.proofs.NewOnes.{also_kept, delivered, one_more}
use Rattle.replay_places.proofs.Delivered.{told_one}
use Rattle.replay_core.specs.Stands.{Serving, seat_in}
use Rattle.replay_core.specs.Lines.{IsAt, IsServed, IsDoneAt, DoesAt, Hears}
use Rattle.replay_core.proofs.Leaves.{by_deliveries}
use Rattle.replay_core.proofs.Heard.{seat_found, seat_stays, at_set, also_done, stays_at, absent, too_late, in_time, datagram_served, place_hears, call_served, settled_served}

-- of the player of the place
as_player : (layout : Layout) (before after : List Event) (report : ℕ → Report) (m n : ℕ) → m ≡ n
    → Adds (table_in layout) before after (report m ∷ [])
    → Adds (table_in layout) before after (report n ∷ [])
as_player layout before after report m n e h = subst (λ k. Adds (table_in layout) before after (report k ∷ [])) e h

-- the event that is told alone
alone : (layout : Layout) (before after : List Event) (e : Event) (reports : List Report) → after ≡ before ++ e ∷ []
    → Adds (table_in layout) before (before ++ e ∷ []) reports → Adds (table_in layout) before after reports
alone layout before after e reports pushed h = subst (λ (l : List Event). Adds (table_in layout) before l reports)
    (sym pushed) h

-- a packet that wasn't sent
pub absent_done : (layout : Layout) (d : Drive) (k : Place) (edits : Edits) (players : List Player) (i : ℕ) (p : Player)
    (n : ℕ) (before after : List Event)
    → Serving layout d edits players → IsAt players i p → IsPlace layout k p → slice_get k.up (n - 1) ≡ None
    → after ≡ before ++ event.Up k.player n delivery.Absent ∷ []
    → IsDoneAt layout d k before after edits players i (after_delivery (table_in layout) edits AtServer n p)
absent_done layout d k edits players i p n before after h at stands get pushed =
    stays_at layout d k edits players i p before after (Answered AtServer p.number n Absent ∷ []) _ h at stands
    (alone layout before after (event.Up k.player n delivery.Absent) _ pushed
    (as_player layout before _ (λ m. Answered AtServer m n Absent) k.player p.number stands.number
    (told_one (table_in layout) before (event.Up k.player n delivery.Absent))))
    (absent layout k p edits n stands get)

-- one that is late
pub late_done : (layout : Layout) (d : Drive) (k : Place) (edits : Edits) (players : List Player) (i : ℕ) (p : Player)
    (n : ℕ) (bytes : List ℕ)
    (before after : List Event) → Serving layout d edits players → IsAt players i p → IsPlace layout k p
    → slice_get k.up (n - 1) ≡ Some bytes
    → nat_lt (n + 8192) (top_of (past_at (table_in layout) AtServer p)) ≡ true
    → after ≡ before ++ event.Up k.player n delivery.Late ∷ []
    → IsDoneAt layout d k before after edits players i (after_delivery (table_in layout) edits AtServer n p)
late_done layout d k edits players i p n bytes before after h at stands get late pushed =
    stays_at layout d k edits players i p before after (Answered AtServer p.number n Late ∷ []) _ h at stands
    (alone layout before after (event.Up k.player n delivery.Late) _ pushed
    (as_player layout before _ (λ m. Answered AtServer m n Late) k.player p.number stands.number
    (told_one (table_in layout) before (event.Up k.player n delivery.Late))))
    (too_late layout k p edits n bytes stands get late)

-- one that is heard
pub heard_done : (layout : Layout) (old new : Drive) (k : Place) (edits : Edits) (players : List Player) (i : ℕ)
    (p : Player) (n : ℕ) (bytes : List ℕ)
    (verdict : Verdict) (before told all : List Event) → Serving layout old edits players → IsAt players i p
    → IsPlace layout k p
    → slice_get k.up (n - 1) ≡ Some bytes → nat_lt (n + 8192) (top_of (past_at (table_in layout) AtServer p)) ≡ false
    → Hears layout k.player bytes verdict old new before told
    → all ≡ told ++ event.Up k.player n (delivery.Says verdict) ∷ []
    → IsDoneAt layout new k before all edits players i (after_delivery (table_in layout) edits AtServer n p)
heard_done layout old new k edits players i p n bytes verdict before told all h at stands get late hears pushed =
    rw (in_time layout k p edits n bytes stands get late) (record {
      served = datagram_served layout new edits players i p bytes (λ v. Answered AtServer p.number n (Says v)) verdict
          before told all
          (event.Up k.player n (delivery.Says verdict)) (hears edits players i p h at stands.number) pushed
          (as_player layout told _ (λ m. Answered AtServer m n (Says verdict)) k.player p.number stands.number
          (told_one (table_in layout) told (event.Up k.player n (delivery.Says verdict))));
      stands = place_hears layout k p bytes stands;
    })

-- bytes that nobody sent
pub forged_done : (layout : Layout) (old new : Drive) (edits : Edits) (players : List Player) (i : ℕ) (p : Player)
    (n : ℕ) (bytes : List ℕ)
    (verdict : Verdict) (before told all : List Event) → Serving layout old edits players → IsAt players i p
    → n ≡ p.number
    → Hears layout n bytes verdict old new before told → all ≡ told ++ event.Forged n verdict ∷ []
    → IsServed layout new before all edits players i (after_forgery (table_in layout) edits AtServer bytes p)
forged_done layout old new edits players i p n bytes verdict before told all h at who hears pushed =
    datagram_served layout new edits players i p bytes (Forged AtServer p.number) verdict before told all
    (event.Forged n verdict) (hears edits players i p h at who) pushed
    (as_player layout told _ (λ m. Forged AtServer m verdict) n p.number who
    (told_one (table_in layout) told (event.Forged n verdict)))

-- a call
pub called_done : (layout : Layout) (old new : Drive) (edits : Edits) (players : List Player) (i : ℕ) (p : Player)
    (n a number : ℕ) (args : List Arg)
    (answer : CallAnswer) (before all : List Event) → Serving layout old edits players → IsAt players i p → n ≡ p.number
    → ((s : Served) → Serves old s → Serves new (with_seat (heard (Call a number args)) n s)) → new.layout ≡ old.layout
    → ((s : Served) (seat : Seat) → Serves old s → seat_of s n ≡ Some seat
    → answer ≡ answer_for (table_in old.layout) seat a number args)
    → all ≡ before ++ event.Called n answer ∷ []
    → IsServed layout new before all edits players i (after_call_of (table_in layout) AtServer a number args p)
called_done layout old new edits players i p n a number args answer before all h at who serves classes says pushed =
    call_served layout old new edits players i p n a number args answer before all (event.Called n answer) h at who
    serves classes says pushed
    (told_one (table_in layout) before (event.Called n answer))

-- a question
pub settled_done : (layout : Layout) (d : Drive) (edits : Edits) (players : List Player) (i : ℕ) (p : Player) (n a : ℕ)
    (holds : Bool)
    (before all : List Event) → Serving layout d edits players → IsAt players i p → n ≡ p.number
    → ((s : Served) (seat : Seat) → Serves d s → seat_of s n ≡ Some seat
    → holds ≡ settled_for (table_in d.layout) s.edits seat a)
    → all ≡ before ++ event.Settled n a holds ∷ []
    → IsServed layout d before all edits players i (settled_answer (table_in layout) edits a p)
settled_done layout d edits players i p n a holds before all h at who says pushed =
    settled_served layout d edits players i p n a holds before all (event.Settled n a holds) h at who says pushed
    (told_one (table_in layout) before (event.Settled n a holds))

-- the greatest number that the player's end took
pub top_is : (layout : Layout) (d : Drive) (edits : Edits) (players : List Player) (i : ℕ) (p : Player) (n top : ℕ)
    → Serving layout d edits players
    → IsAt players i p → n ≡ p.number
    → ((s : Served) (seat : Seat) → Serves d s → seat_of s n ≡ Some seat → top ≡ top_for (table_in d.layout) seat)
    → top ≡ top_of (past_at (table_in layout) AtServer p)
top_is layout d edits players i p n top h at who says =
    says h.served (seat_in p) h.serves (seat_found layout d edits players i p n h at who)
    ∙ ap (λ (l : Layout). top_for (table_in l) (seat_in p)) h.classes

-- a call that may be made by the story may be made by the driver
pub made_at : (layout : Layout) (d : Drive) (edits : Edits) (players : List Player) (a number : ℕ)
    (args : List ArgValue) → (h : Serving layout d edits players)
    → IsMade (table_in layout) edits a number args → IsMade (table_in d.layout) h.served.edits a number args
made_at layout d edits players a number args h made =
    subst (λ (e : Edits). IsMade (table_in d.layout) e a number args) (sym h.same_edits)
    (subst (λ (l : Layout). IsMade (table_in l) edits a number args) (sym h.classes) made)

-- ---- new packets

-- one that isn't lost
pub kept_at : (layout : Layout) (d : Drive) (k : Place) (edits : Edits) (players : List Player) (i : ℕ) (p : Player)
    (every n : ℕ) (before told : List Event)
    → is_kept every n ≡ true → IsDoneAt layout d k before told edits players i
    (after_delivery (table_in layout) edits AtServer n p)
    → IsDoneAt layout d k before told edits players i (kept_delivery (table_in layout) edits AtServer every n p)
kept_at layout d k edits players i p every n before told e h = rw e h

-- one that is
pub lost_at : (layout : Layout) (d : Drive) (k : Place) (edits : Edits) (players : List Player) (i : ℕ) (p : Player)
    (every n : ℕ) (events : List Event)
    → is_kept every n ≡ false → Serving layout d edits players → IsAt players i p → IsPlace layout k p
    → IsDoneAt layout d k events events edits players i (kept_delivery (table_in layout) edits AtServer every n p)
lost_at layout d k edits players i p every n events e h at stands =
    stays_at layout d k edits players i p events events [] _ h at stands
    (sym (append-nil (map (report_of (table_in layout)) events))) (rw e refl)

-- the place at which as many are told to have been delivered
told_place : (layout : Layout) (k : Place) (p : Player) (to : ℕ) → IsPlace layout k p
    → IsPlace layout (record k { told_up = to }) (with_told AtServer to p)
told_place layout k p to i = record {
  number = i.number;
  classes = i.classes;
  version = i.version;
  plays = i.plays;
  down = i.down;
  up = i.up;
  told_down = i.told_down;
  told_up = refl;
}

-- before the first of them
pub begins_at : (layout : Layout) (d : Drive) (k : Place) (edits : Edits) (players : List Player) (i : ℕ) (p : Player)
    (every from to : ℕ) (events : List Event)
    → Serving layout d edits players → IsAt players i p → IsPlace layout k p
    → IsDoneAt layout d (record k { told_up = to }) events events edits players i
    (delivered (table_in layout) edits AtServer every from (with_told AtServer to p, []) (from - from))
begins_at layout d k edits players i p every from to events h at stands =
    let none : from - from ≡ 0 = omega arith in
    rw none (record {
      served = record {
        serving = seat_stays layout d edits players i p (with_told AtServer to p) h at.there refl;
        adds = sym (append-nil (map (report_of (table_in layout)) events));
      };
      stands = told_place layout k p to stands;
    })

-- the player's number stays
delivered_number : (table : Table) (edits : Edits) (every from to count : ℕ) (p : Player)
    → (delivered table edits AtServer every from (with_told AtServer to p, []) count).0.number ≡ p.number
delivered_number table edits every from to count p =
    by_deliveries (λ (q : Player). q.number) table edits AtServer
    (filter (is_kept every) (range_with_len (from + 1) count))
    (with_told AtServer to p, []) (λ bytes q. refl)

-- one more of them
pub also_at : (layout : Layout) (mid new : Drive) (k l : Place) (edits : Edits) (players : List Player) (i : ℕ)
    (p : Player) (every from to at n : ℕ)
    (before told all : List Event) → from ≤ at → n ≡ at + 1 → IsAt players i p
    → IsDoneAt layout mid k before told edits players i (delivered (table_in layout) edits AtServer every from
    (with_told AtServer to p, []) (at - from))
    → DoesAt layout (λ edits. kept_delivery (table_in layout) edits AtServer every n) mid new k l told all
    → IsDoneAt layout new l before all edits players i (delivered (table_in layout) edits AtServer every from
    (with_told AtServer to p, []) (at + 1 - from))
also_at layout mid new k l edits players i p every from to at n before told all low number is so does =
    let done = delivered (table_in layout) edits AtServer every from (with_told AtServer to p, []) (at - from) in
    let count : at + 1 - from ≡ suc (at - from) = omega arith in
    let last : from + 1 + (at - from) ≡ n = omega arith in
    subst (IsDoneAt layout new l before all edits players i)
    (ap (also_kept (table_in layout) edits AtServer every done) (sym last)
    ∙ sym (one_more (table_in layout) edits AtServer every from (with_told AtServer to p, []) (at - from))
    ∙ ap (delivered (table_in layout) edits AtServer every from (with_told AtServer to p, [])) (sym count))
    (also_done layout mid new k l before told all edits players i p every n done is
    (delivered_number (table_in layout) edits every from to (at - from) p) so does)

-- all of them
pub new_at : (layout : Layout) (d : Drive) (k l : Place) (edits : Edits) (players : List Player) (i : ℕ) (p : Player)
    (every from to at : ℕ)
    (before told : List Event) → IsPlace layout k p → from ≡ k.told_up → to ≡ length k.up → to - from ≡ at - from
    → IsDoneAt layout d l before told edits players i (delivered (table_in layout) edits AtServer every from
    (with_told AtServer to p, []) (at - from))
    → IsDoneAt layout d l before told edits players i (after_new_deliveries (table_in layout) edits AtServer every p)
new_at layout d k l edits players i p every from to at before told stands f t last so =
    let first : from ≡ p.told_server = f ∙ stands.told_up in
    let count : to ≡ length (out_at (table_in layout) AtClient p) = t ∙ ap length stands.up in
    subst (λ m. IsDoneAt layout d l before told edits players i
    (delivered (table_in layout) edits AtServer every p.told_server (with_told AtServer m p, []) (m - p.told_server)))
    count
    (subst (λ m. IsDoneAt layout d l before told edits players i
    (delivered (table_in layout) edits AtServer every m (with_told AtServer to p, []) (to - m))) first
    (subst (λ m. IsDoneAt layout d l before told edits players i
    (delivered (table_in layout) edits AtServer every from (with_told AtServer to p, []) m)) (sym last) so))

-- the next delivery finds the player
pub served_there : (layout : Layout) (d : Drive) (k : Place) (edits : Edits) (players : List Player) (i : ℕ)
    (p : Player) (every from to at : ℕ)
    (before told : List Event) → IsAt players i p
    → IsDoneAt layout d k before told edits players i (delivered (table_in layout) edits AtServer every from
    (with_told AtServer to p, []) (at - from))
    → (layout : Layout) × (edits : Edits) × (players : List Player) × (i : ℕ) × (p : Player)
    × Serving layout d edits players × IsAt players i p × IsPlace layout k p
served_there layout d k edits players i p every from to at before told is so =
    let done = delivered (table_in layout) edits AtServer every from (with_told AtServer to p, []) (at - from) in (
      layout,
      edits,
      slice_set players i done.0,
      i,
      done.0,
      so.served.serving,
      at_set players i p done.0 is (delivered_number (table_in layout) edits every from to (at - from) p),
      so.stands,
    )
