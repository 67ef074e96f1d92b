-- The past of a feed grows at its front; each packet was taken at some moment of the talk.
use Rattle.std.proofs.Common.{◌≡◌, ◌⊎◌, inl, inr, ℕ, ◌+◌, ◌≤◌, List, [], ◌∷◌, ◌++◌, Bool, true, false, ◌||◌, refl, sym, ap, ◌∙◌, subst, arith, Option, Some, None, Result, Ok, Err, pos}
use Rattle.std.specs.Prelude.{unsigned_abs}
use Rattle.std.proofs.lemmas.Bool.{false≢true, cond_both}
use Rattle.protocol_model.specs.declared.Cause.{Cause}
use Rattle.protocol_model.specs.declared.Why.{Why}
use Rattle.protocol_model.specs.Bits.{near}
use Rattle.protocol_model.specs.Packet.{Packet}
use Rattle.protocol_model.specs.PacketReading as Reading
use Rattle.connection_model.specs.Feed.{End, Past, Event, Tick, Got, Call, Deed, Ticked, Made, Waits, Sent, Took, Ended, ByCause, Entry, Delivered, has_ended, tick_count}
use Rattle.connection_model.specs.Past.{past_of}
use Rattle.connection_model.specs.Fates.{top_of, last_sent, number_near, is_new}
use Rattle.connection_model.specs.Bunches.{made_count}
use Rattle.connection_model.specs.Verdict.{with_told, with_handed, entry_result, after_entries, entries_in, after_packet, after_reading}
use Rattle.connection_laws.specs.Run.{Move, Ticks, Makes, Defers, Sends, Takes, Hears, Hands, Ends, after_move, May, IsRun}
use Rattle.connection_laws.specs.Run.IsRun.{does}
use Rattle.connection_laws.specs.Deeds.{EachDeed}
use Rattle.connection_laws.specs.Link.{IsLink}
use Rattle.connection_laws.specs.Talk.{IsPacketOf, MayHear, IsTalk}
use Rattle.connection_laws.specs.Talk.IsTalk.{start, left_hears, right_hears}
use Rattle.connection_laws.specs.Delivered.{HandsReceived, is_closing, is_closed_by}
use Rattle.connection_laws.proofs.Moves.{making_keeps}
use Rattle.connection_laws.proofs.LiveRuns.{IsQuiet, Goes, IsDone}
use Rattle.connection_laws.proofs.Calling.{call_runs}
use Rattle.connection_laws.proofs.Hearing.{entry_runs}
use Rattle.connection_laws.proofs.Ticking.{tick_runs}
use Rattle.connection_laws.proofs.Feeds.{feed_done}
use Rattle.connection_laws.proofs.HandingOn.{hands_received}
use Rattle.connection_laws.proofs.TalksLink.{PacketFacts, packet_facts}
use Rattle.connection_laws.proofs.LinkLaws.{reads_there}
use Rattle.connection_laws.proofs.StoriesTalk.{linked}

-- ---- at the front

-- the later past is the earlier one with deeds at its front
abbrev pub Extends : (past later : Past) → Type 0
Extends past later = (more : Past) × (later ≡ more ++ past)

-- one more deed extends a past
one_more : (past later : Past) (deed : Deed) → Extends past later → Extends past (deed ∷ later)
one_more past later deed e = (deed ∷ e.0, ap (λ (l : Past). deed ∷ l) e.1)

-- every move does
extends_goes : (end : End) (before past : Past) (move : Move) → IsQuiet move → IsRun end past × Extends before past → has_ended past ≡ false → May end past move → IsRun end (after_move past move) × Extends before (after_move past move)
extends_goes end before past (Ticks sight) quiet h alive may = absurd quiet
extends_goes end before past (Makes ch m) quiet h alive may =
    (does (Makes ch m) h.0 alive may, making_keeps (λ i now. Extends before now) past ch m h.1 (λ i now lt e. one_more before now (Made ch (made_count past ch + 1 + i) m i) e))
extends_goes end before past (Defers m) quiet h alive may = (does (Defers m) h.0 alive may, one_more before past (Waits m) h.1)
extends_goes end before past (Sends items) quiet h alive may = (does (Sends items) h.0 alive may, one_more before past (Sent (last_sent past + 1) (tick_count past) items) h.1)
extends_goes end before past (Takes n) quiet h alive may = absurd quiet
extends_goes end before past (Hears entry) quiet h alive may = absurd quiet
extends_goes end before past (Hands d) quiet h alive may = absurd quiet
extends_goes end before past (Ends g) quiet h alive may = (does (Ends g) h.0 alive may, one_more before past (Ended g) h.1)

-- so does every run of moves
extending : (end : End) (before : Past) → Goes end (λ (past : Past). IsRun end past × Extends before past)
extending end before = record { is_run = λ past h. h.0; goes = extends_goes end before }

-- ---- a packet under way

-- the past is packet n, taken on top of this one
abbrev Under : ℕ → Past → Past → Type 0
Under n rest now = (es : List Entry) × ((ds : List Delivered) × (now ≡ Took n es ds ∷ rest))

-- a past that takes packet n, on top of what was there before
pub record Closes (n : ℕ) (rest now : Past) : Type 0 where
  pub cause : Cause
  pub past : Past
  pub under : Under n rest past
  pub is : now ≡ Ended (ByCause cause) ∷ past

-- it was heard to its end, or it closed the end
abbrev Heard : ℕ → Past → Past → Type 0
Heard n rest now = Under n rest now ⊎ Closes n rest now

-- so it is with one more payload
under_handed : (n : ℕ) (rest : Past) (d : Delivered) (now : Past) → Under n rest now → Under n rest (with_handed d now)
under_handed n rest d now u = (u.0, (d ∷ u.1.0, ap (with_handed d) u.1.1))

-- and with one more entry
under_told : (n : ℕ) (rest : Past) (entry : Entry) (now : Past) → Under n rest now → Under n rest (with_told entry now)
under_told n rest entry now u = (entry ∷ u.0, (u.1.0, ap (with_told entry) u.1.1))

-- entries that are heard leave it on top, or the end has ended
entries_heard : (end : End) (n : ℕ) (rest : Past) (entries : List Entry) (now : Past) → Under n rest now → Heard n rest (after_entries end now entries)
entries_heard end n rest [] now u = inl u
entries_heard end n rest (entry ∷ more) now u =
    by (entry_result end now entry).cause (entries_heard end n rest more (with_told entry (entry_result end now entry).past) (under_told n rest entry (entry_result end now entry).past stays))
  where
    stays : Under n rest (entry_result end now entry).past
    stays = entry_runs end (Under n rest) (λ d p q. under_handed n rest d p q) now entry u

    by : (c : Option Cause) → Heard n rest (after_entries end (with_told entry (entry_result end now entry).past) more)
        → Heard n rest (let later : Past = elim c [ None ↦ after_entries end (with_told entry (entry_result end now entry).past) more | Some cause ↦ Ended (ByCause cause) ∷ (entry_result end now entry).past ] in later)
    by None h = h
    by (Some cause) h = inr (record { cause = cause; past = (entry_result end now entry).past; under = stays; is = refl })

-- so does a packet
packet_heard : (end : End) (past : Past) (p : Packet) → Heard (unsigned_abs (number_near past p.number)) past (after_packet end past p)
packet_heard end past p =
    entries_heard end (unsigned_abs (number_near past p.number)) past (entries_in end.version p) (Took (unsigned_abs (number_near past p.number)) [] [] ∷ past) ([], ([], refl))

-- what was heard extends the past
heard_extends : (n : ℕ) (rest now : Past) → Heard n rest now → Extends rest now
heard_extends n rest now (inl u) = (Took n u.0 u.1.0 ∷ [], u.1.1)
heard_extends n rest now (inr c) =
    (Ended (ByCause c.cause) ∷ Took n c.under.0 c.under.1.0 ∷ [], c.is ∙ ap (λ (l : Past). Ended (ByCause c.cause) ∷ l) c.under.1.1)

-- so does a datagram, read or refused
reading_extends : (end : End) (past : Past) (r : Result Packet (ℕ × Why)) → Extends past (after_reading end past r)
reading_extends end past (Err bad) = ([], refl)
reading_extends end past (Ok p) =
    cond_both (is_new past p.number) (after_packet end past p) past (Extends past) (λ e. heard_extends (unsigned_abs (number_near past p.number)) past (after_packet end past p) (packet_heard end past p)) (λ e. ([], refl))

-- each event adds deeds at the front
pub event_extends : (end : End) (feed : List Event) (event : Event) → Extends (past_of end feed) (past_of end (event ∷ feed))
event_extends end feed (Tick sight) =
    (tick_runs end (λ (p : Past). IsRun end p × Extends (past_of end feed) p) (extending end (past_of end feed)) (past_of end feed) sight
    (λ q alive. (does (Ticks sight) q.0 alive tt, one_more (past_of end feed) (past_of end feed) (Ticked (tick_count (past_of end feed) + 1) sight) q.1))
    (record { run = ((feed_done end feed).run, ([], refl)); few = (feed_done end feed).few })).run.1
event_extends end feed (Call a n args) =
    (call_runs end (λ (p : Past). IsRun end p × Extends (past_of end feed) p) (extending end (past_of end feed)) (past_of end feed)
    (record { run = ((feed_done end feed).run, ([], refl)); few = (feed_done end feed).few }) a n args).run.1
event_extends end feed (Got bytes) =
    cond_both (has_ended (past_of end feed)) (past_of end feed) (after_reading end (past_of end feed) (Reading.packet_of end.version bytes)) (Extends (past_of end feed))
    (λ e. ([], refl)) (λ e. reading_extends end (past_of end feed) (Reading.packet_of end.version bytes))

-- an end that isn't closed never was
closed_before : (more past : Past) → is_closed_by (more ++ past) ≡ false → is_closed_by past ≡ false
closed_before [] past h = h
closed_before (deed ∷ more) past h = closed_before more past (right (is_closing deed) (is_closed_by (more ++ past)) h)
  where
    right : (x y : Bool) → (x || y) ≡ false → y ≡ false
    right true y h = absurd (false≢true (sym h))
    right false y h = h

-- ---- moments

-- the server's past and the client's when the client took packet n, and the client's with it
pub record Moment (left right : End) (from before later : Past) (n : ℕ) : Type 0 where
  pub server : Past
  pub more : Past
  pub grown : from ≡ more ++ server
  pub sent : n ≤ last_sent server
  pub link : IsLink left right server before
  pub hands : HandsReceived right before
  pub link_after : IsLink left right server later
  pub hands_after : HandsReceived right later

-- when a packet was taken, both pasts as they stood then
abbrev pub MomentAt : (left right : End) (from : Past) → Past → Deed → Type 0
MomentAt left right from before (Took n es ds) = Moment left right from before (Took n es ds ∷ before) n
MomentAt left right from before (Ticked t s) = Unit {0}
MomentAt left right from before (Made c n m i) = Unit {0}
MomentAt left right from before (Waits m) = Unit {0}
MomentAt left right from before (Sent n t items) = Unit {0}
MomentAt left right from before (Ended g) = Unit {0}

-- a moment for each packet that was taken
abbrev pub Moments : (left right : End) (from to : Past) → Type 0
Moments left right from to = EachDeed (MomentAt left right from) to

-- three lists one after another
append_twice : (xs ys zs : Past) → xs ++ (ys ++ zs) ≡ (xs ++ ys) ++ zs
append_twice [] ys zs = refl
append_twice (x ∷ xs) ys zs = ap (λ (l : Past). x ∷ l) (append_twice xs ys zs)

-- a moment stays one as the sender goes on
moment_later : (left right : End) (from next : Past) → Extends from next → (before : Past) (deed : Deed) → MomentAt left right from before deed → MomentAt left right next before deed
moment_later left right from next e before (Took n es ds) m = record {
  server = m.server;
  more = e.0 ++ m.more;
  grown = e.1 ∙ ap (λ (l : Past). e.0 ++ l) m.grown ∙ append_twice e.0 m.more m.server;
  sent = m.sent;
  link = m.link;
  hands = m.hands;
  link_after = m.link_after;
  hands_after = m.hands_after;
}
moment_later left right from next e before (Ticked t s) m = tt
moment_later left right from next e before (Made c n x i) m = tt
moment_later left right from next e before (Waits x) m = tt
moment_later left right from next e before (Sent n t items) m = tt
moment_later left right from next e before (Ended g) m = tt

-- so do all
moments_later : (left right : End) (from next : Past) → Extends from next → (to : Past) → Moments left right from to → Moments left right next to
moments_later left right from next e [] h = tt
moments_later left right from next e (deed ∷ to) h = (moment_later left right from next e to deed h.0, moments_later left right from next e to h.1)

-- the client hears nothing
quiet_moments : (left right : End) (from past : Past) (move : Move) → IsQuiet move → IsRun right past × Moments left right from past → has_ended past ≡ false → May right past move → IsRun right (after_move past move) × Moments left right from (after_move past move)
quiet_moments left right from past (Ticks sight) quiet h alive may = absurd quiet
quiet_moments left right from past (Makes ch m) quiet h alive may =
    (does (Makes ch m) h.0 alive may, making_keeps (λ i now. Moments left right from now) past ch m h.1 (λ i now lt e. (tt, e)))
quiet_moments left right from past (Defers m) quiet h alive may = (does (Defers m) h.0 alive may, (tt, h.1))
quiet_moments left right from past (Sends items) quiet h alive may = (does (Sends items) h.0 alive may, (tt, h.1))
quiet_moments left right from past (Takes n) quiet h alive may = absurd quiet
quiet_moments left right from past (Hears entry) quiet h alive may = absurd quiet
quiet_moments left right from past (Hands d) quiet h alive may = absurd quiet
quiet_moments left right from past (Ends g) quiet h alive may = (does (Ends g) h.0 alive may, (tt, h.1))

-- moves that take nothing keep the moments
quiet_goes : (left right : End) (from : Past) → Goes right (λ (past : Past). IsRun right past × Moments left right from past)
quiet_goes left right from = record { is_run = λ past h. h.0; goes = quiet_moments left right from }

module _ (left right : End) (same : left.version ≡ right.version) where
  -- the client takes a packet
  taking : (l r : List Event) (bytes : List ℕ) → IsTalk left right l r → IsPacketOf right left (past_of right r) (past_of left l) bytes
      → is_closed_by (past_of right (Got bytes ∷ r)) ≡ false → Moments left right (past_of left l) (past_of right r) → Moments left right (past_of left l) (past_of right (Got bytes ∷ r))
  taking l r bytes talk p open_yet h =
      cond_both (has_ended me) me (after_reading right me (Reading.packet_of right.version bytes)) (λ (later : Past). past_of right (Got bytes ∷ r) ≡ later → Moments left right from later)
      (λ e q. h) (λ e q. reading (Reading.packet_of right.version bytes) p.read q) refl
    where
      me : Past
      me = past_of right r

      from : Past
      from = past_of left l

      link : IsLink left right from me
      link = linked left right l r same talk

      number_is : unsigned_abs (number_near me p.packet.number) ≡ p.number
      number_is =
          let f : PacketFacts left.version from p.number p.packet = packet_facts left.version left refl from p.number p.packet p.sent in
          ap unsigned_abs (ap (λ (x : ℕ). near x (pos (top_of me)) 16384) f.number ∙ (reads_there left right from me same link).packet p.number p.come)

      took : (later : Past) → past_of right (Got bytes ∷ r) ≡ later → Heard (unsigned_abs (number_near me p.packet.number)) me later → Moments left right from later
      took later q (inr c) = absurd (false≢true (sym open_yet ∙ ap is_closed_by (q ∙ c.is)))
      took later q (inl u) =
          let is : past_of right (Got bytes ∷ r) ≡ Took (unsigned_abs (number_near me p.packet.number)) u.0 u.1.0 ∷ me = q ∙ u.1.1 in
          subst (Moments left right from) (sym u.1.1) (
            record {
              server = from;
              more = [];
              grown = refl;
              sent = omega (arith, number_is, p.come.sent);
              link = link;
              hands = hands_received right r (hands_open q u.1.1);
              link_after = subst (IsLink left right from) is (linked left right l (Got bytes ∷ r) same (right_hears (Got bytes) talk p));
              hands_after = subst (HandsReceived right) is (hands_received right (Got bytes ∷ r) open_yet);
            },
            h,
          )
        where
          hands_open : past_of right (Got bytes ∷ r) ≡ later → later ≡ Took (unsigned_abs (number_near me p.packet.number)) u.0 u.1.0 ∷ me → is_closed_by me ≡ false
          hands_open q e = closed_before (Took (unsigned_abs (number_near me p.packet.number)) u.0 u.1.0 ∷ []) me (ap is_closed_by (sym (q ∙ e)) ∙ open_yet)

      reading : (x : Result Packet (ℕ × Why)) → x ≡ Ok p.packet → past_of right (Got bytes ∷ r) ≡ after_reading right me x → Moments left right from (after_reading right me x)
      reading (Err bad) e q = h
      reading (Ok packet) e q =
          cond_both (is_new me packet.number) (after_packet right me packet) me (λ (later : Past). past_of right (Got bytes ∷ r) ≡ later → Moments left right from later)
          (λ t o. took (after_packet right me packet) o (subst (λ (y : Packet). Heard (unsigned_abs (number_near me y.number)) me (after_packet right me packet)) (same_packet packet p.packet e) (packet_heard right me packet))) (λ t o. h) q
        where
          same_packet : (a b : Packet) → (let o : Result Packet (ℕ × Why) = Ok a in o) ≡ Ok b → a ≡ b
          same_packet a b e = cc

  -- each packet of the client's past was taken at such a moment
  pub moments : (l r : List Event) → IsTalk left right l r → is_closed_by (past_of right r) ≡ false → Moments left right (past_of left l) (past_of right r)
  moments l r start open_yet = tt
  moments l r (left_hears {l = before} {r = other} event talk may) open_yet =
      moments_later left right (past_of left before) (past_of left (event ∷ before)) (event_extends left before event) (past_of right other) (moments before other talk open_yet)
  moments l r (right_hears {l = other} {r = before} event talk may) open_yet = by event may open_yet (λ e. moments other before talk e)
    where
      closed : (event : Event) → is_closed_by (past_of right (event ∷ before)) ≡ false → is_closed_by (past_of right before) ≡ false
      closed event e = (let x = event_extends right before event in closed_before x.0 (past_of right before) (ap is_closed_by (sym x.1) ∙ e))

      done : is_closed_by (past_of right before) ≡ false → (is_closed_by (past_of right before) ≡ false → Moments left right (past_of left other) (past_of right before)) → IsDone (λ (past : Past). IsRun right past × Moments left right (past_of left other) past) (past_of right before)
      done e ih = record { run = ((feed_done right before).run, ih e); few = (feed_done right before).few }

      by : (event : Event) → MayHear right left (past_of right before) (past_of left other) event → is_closed_by (past_of right (event ∷ before)) ≡ false
          → (is_closed_by (past_of right before) ≡ false → Moments left right (past_of left other) (past_of right before)) → Moments left right (past_of left other) (past_of right (event ∷ before))
      by (Tick sight) may e ih =
          (tick_runs right (λ (past : Past). IsRun right past × Moments left right (past_of left other) past) (quiet_goes left right (past_of left other)) (past_of right before) sight
          (λ q alive. (does (Ticks sight) q.0 alive tt, (tt, q.1))) (done (closed (Tick sight) e) ih)).run.1
      by (Call a n args) may e ih =
          (call_runs right (λ (past : Past). IsRun right past × Moments left right (past_of left other) past) (quiet_goes left right (past_of left other)) (past_of right before) (done (closed (Call a n args) e) ih) a n args).run.1
      by (Got bytes) may e ih = taking other before bytes talk may e (ih (closed (Got bytes) e))
