-- A datagram that comes to an end that is alive: what is said of it, and what is done.
use Rattle.std.proofs.Common.{◌≡◌, ℕ, ◌-◌, ℤ, pos, List, [], ◌∷◌, length, reverse, take, Bool, true, false, cond, None, Ok, Err, unsigned_abs, refl, sym, ap, ◌∙◌, subst, arith}
use Rattle.protocol_model.specs.Packet.{Packet}
use Rattle.protocol_model.specs.PacketReading.{packet_of}
use Rattle.protocol_model.specs.declared.Verdict.TheVariants.{Malformed, Old, Dead}
use Rattle.protocol_model.specs.declared.Version.{Version}
use Rattle.protocol_model.specs.declared.Why.{Why}
use Rattle.connection_model.specs.Feed.{Past, Took, Delivered, has_ended}
use Rattle.connection_model.specs.Copies.{delivered_of}
use Rattle.connection_model.specs.Fates.{number_near, top_of, is_new}
use Rattle.connection_model.specs.Handed.{client_verdict}
use Rattle.connection_model.specs.Verdict.{verdict_of, verdict_on, verdict_after, after_got, after_reading, entries_in}
use Rattle.class_layout.specs.Tables.{Layout}
use Rattle.handovers.specs.Handovers.{handovers}
use Rattle.hearing_laws.specs.Courses.{handed_since}
use Rattle.link_end.specs.Link.{Link}
use Rattle.link_end.specs.Rests.{Rests}
use Rattle.link_end.specs.Answers.{IsArrival}
use Rattle.link_end.specs.declared.arrival.Arrival.{Arrival}
use Rattle.netguid_map.specs.declared.names.Learnt.{Learnt}
use Rattle.actor_copies.specs.declared.copy.ActorCopy.{ActorCopy}
use Rattle.channel_table.specs.Channels.{Channels}
use Rattle.client_hearing.specs.Keeping.{end_as}
use Rattle.client_hearing.specs.Hearing.{Lives, Arrives, IsTakenIn, after_arrival, handovers_in, handovers_of}
use Rattle.client_hearing.proofs.Arrivals.{top_after}
use Rattle.client_hearing.proofs.Fits.{entries_are_fit}

-- ---- at an end that is alive

verdict_alive : (layout : Layout) (version : Version) (past : Past) (bytes : List ℕ)
    → has_ended past ≡ false → verdict_of (end_as layout version) past bytes
    ≡ verdict_on (end_as layout version) past (packet_of version bytes)
verdict_alive layout version past bytes alive =
    ap (λ (b : Bool). cond b Dead (verdict_on (end_as layout version) past (packet_of version bytes))) alive

after_alive : (layout : Layout) (version : Version) (past : Past) (bytes : List ℕ)
    → has_ended past ≡ false → after_got (end_as layout version) past bytes
    ≡ after_reading (end_as layout version) past (packet_of version bytes)
after_alive layout version past bytes alive =
    ap (λ (b : Bool). cond b past (after_reading (end_as layout version) past (packet_of version bytes))) alive

-- ---- datagrams that aren't heard

pub malformed_verdict : (layout : Layout) (version : Version) (past : Past) (bytes : List ℕ) (at : ℕ)
    (why : Why) → has_ended past ≡ false → packet_of version bytes ≡ Err (at, why)
    → Malformed at why ≡ verdict_of (end_as layout version) past bytes
malformed_verdict layout version past bytes at why alive e =
    sym (verdict_alive layout version past bytes alive
    ∙ ap (verdict_on (end_as layout version) past) e)

pub malformed_after : (layout : Layout) (version : Version) (past : Past) (bytes : List ℕ) (at : ℕ)
    (why : Why) → has_ended past ≡ false → packet_of version bytes ≡ Err (at, why)
    → after_got (end_as layout version) past bytes ≡ past
malformed_after layout version past bytes at why alive e =
    after_alive layout version past bytes alive ∙ ap (after_reading (end_as layout version) past) e

pub old_verdict : (layout : Layout) (version : Version) (past : Past) (bytes : List ℕ) (p : Packet)
    (number : ℤ) (last : ℕ) → has_ended past ≡ false → packet_of version bytes ≡ Ok p
    → is_new past p.number ≡ false → number ≡ number_near past p.number → last ≡ top_of past
    → Old number last ≡ verdict_of (end_as layout version) past bytes
old_verdict layout version past bytes p number last alive e old n l =
    sym (verdict_alive layout version past bytes alive
    ∙ ap (verdict_on (end_as layout version) past) e ∙ rw old (rw (n, l) refl))

pub old_after : (layout : Layout) (version : Version) (past : Past) (bytes : List ℕ) (p : Packet)
    → has_ended past ≡ false → packet_of version bytes ≡ Ok p → is_new past p.number ≡ false
    → after_got (end_as layout version) past bytes ≡ past
old_after layout version past bytes p alive e old =
    after_alive layout version past bytes alive ∙ ap (after_reading (end_as layout version) past) e
    ∙ rw old refl

-- nothing is handed over
pub none_over : (layout : Layout) (version : Version) (past : Past) (bytes : List ℕ)
    → after_got (end_as layout version) past bytes ≡ past
    → [] ≡ handovers_in (end_as layout version) past bytes
none_over layout version past bytes e =
    sym (ap (λ (q : Past). handovers (λ actor held. client_verdict held) (handed_since past q)) e
    ∙ ap (λ (n : ℕ). handovers (λ actor held. client_verdict held)
    (reverse (take n (delivered_of past)))) none)
  where
    none : length (delivered_of past) - length (delivered_of past) ≡ 0
    none = omega arith

-- ---- packets that are

pub taken_after : (layout : Layout) (version : Version) (past : Past) (bytes : List ℕ) (p : Packet)
    → has_ended past ≡ false → packet_of version bytes ≡ Ok p → is_new past p.number ≡ true
    → after_got (end_as layout version) past bytes ≡ after_arrival layout version past p
taken_after layout version past bytes p alive e new =
    after_alive layout version past bytes alive ∙ ap (after_reading (end_as layout version) past) e
    ∙ rw new refl

pub taken_verdict : (layout : Layout) (version : Version) (past : Past) (bytes : List ℕ) (p : Packet)
    (number : ℕ) → has_ended past ≡ false → packet_of version bytes ≡ Ok p
    → is_new past p.number ≡ true → pos number ≡ number_near past p.number
    → verdict_after (after_arrival layout version past p) number
    ≡ verdict_of (end_as layout version) past bytes
taken_verdict layout version past bytes p number alive e new n =
    sym (verdict_alive layout version past bytes alive
    ∙ ap (verdict_on (end_as layout version) past) e ∙ rw new refl
    ∙ ap (λ (z : ℤ). verdict_after (after_arrival layout version past p) (unsigned_abs z)) (sym n))

pub taken_over : (layout : Layout) (version : Version) (past : Past) (bytes : List ℕ) (p : Packet)
    → has_ended past ≡ false → packet_of version bytes ≡ Ok p → is_new past p.number ≡ true
    → handovers_of layout version past p ≡ handovers_in (end_as layout version) past bytes
taken_over layout version past bytes p alive e new =
    sym (ap (λ (q : Past). handovers (λ actor held. client_verdict held) (handed_since past q))
    (taken_after layout version past bytes p alive e new))

-- ---- as the packet arrives

pub arrives : (layout : Layout) (version : Version) (link : Link) (table : Channels)
    (names : List (ℕ × Learnt)) (copies : List ActorCopy) (past : Past) (bytes : List ℕ) (p : Packet)
    (a : Arrival) → Lives layout version link table names copies past
    → packet_of version bytes ≡ Ok p → IsArrival past (end_as layout version) p a
    → Arrives layout version table names copies past p a
arrives layout version link table names copies past bytes p a h e is =
    record { keeps = h.keeps; arrives = is; fits = entries_are_fit version bytes p e }

-- ---- what stands afterwards

-- where nothing was heard
pub lives_on : (layout : Layout) (version : Version) (old new : Link) (table : Channels)
    (names : List (ℕ × Learnt)) (copies : List ActorCopy) (past after : Past) → new ≡ old → after ≡ past
    → Lives layout version old table names copies past
    → Lives layout version new table names copies after
lives_on layout version old new table names copies past after same e h =
    subst (λ (q : Past). Lives layout version new table names copies q) (sym e)
    (subst (λ (l : Link). Lives layout version l table names copies past) (sym same) h)

-- and the greatest number taken
pub top_stays : (layout : Layout) (version : Version) (old new : Link) (table : Channels)
    (names : List (ℕ × Learnt)) (copies : List ActorCopy) (past after : Past) → new ≡ old → after ≡ past
    → Lives layout version old table names copies past → new.book.top ≡ top_of after
top_stays layout version old new table names copies past after same e h =
    ap (λ (l : Link). l.book.top) same ∙ h.rests.book.top ∙ ap top_of (sym e)

-- where a packet was, which broke no rule
pub lives_after : (layout : Layout) (version : Version) (link : Link) (table : Channels)
    (names : List (ℕ × Learnt)) (copies : List ActorCopy) (past after : Past) (p : Packet) (a : Arrival)
    → after ≡ after_arrival layout version past p → has_ended after ≡ false
    → (has_ended (after_arrival layout version past p) ≡ false
    → IsTakenIn layout version table names copies past p a)
    → ((payloads : List Delivered) → a.bad ≡ None
    → Rests link (end_as layout version) (Took a.number (reverse (entries_in version p)) payloads ∷ past))
    → Lives layout version link table names copies after
lives_after layout version link table names copies past after p a e alive taken rests =
    let alive' : has_ended (after_arrival layout version past p) ≡ false = sym (ap has_ended e) ∙ alive in
    let t = taken alive' in
    subst (λ (q : Past). Lives layout version link table names copies q) (sym e) (record {
      rests = subst (Rests link (end_as layout version)) (sym t.is) (rests t.payloads t.none);
      keeps = t.keeps;
      alive = alive';
    })
