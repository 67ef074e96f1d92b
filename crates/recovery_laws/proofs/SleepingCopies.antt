-- A copy of an actor that sleeps has the values that were settled when its dormant close was made.
use Rattle.std.proofs.Common.{◌≡◌, inl, inr, ℕ, ◌<◌, ◌≤◌, List, [], ◌∷◌, ◌++◌, length, Bool, true, false, cond, not, ◌==◌, ◌&&◌, refl, sym, ap, ◌∙◌, subst, arith, Option, Some, None, append_assoc}
use Rattle.std.specs.Ordering.{int_eq}
use Rattle.std.specs.List.{cons_option, list_all, AllByRecursion}
use Rattle.std.specs.Bool.{then_some}
use Rattle.std.proofs.lemmas.Bool.{false≢true, cases_eq, cases_lt, eq-eqb, ne_eqb, and_parts, and_from}
use Rattle.std.proofs.lemmas.Bool.Decides.{Decides-int_eq}
use Rattle.std.proofs.lemmas.List.{length-append, length-reverse, length-map}
use Rattle.std.proofs.lemmas.List.Concat.{flat_map-append}
use Rattle.std.proofs.lemmas.List.Elements.{filter_map-append}
use Rattle.protocol_model.specs.Value.{Table, Segment, Pair}
use Rattle.protocol_model.specs.World.{Edits}
use Rattle.protocol_model.specs.Sight.{Seen}
use Rattle.protocol_model.specs.Payload.{Message, Opens, Closes, Updates, Calls, Gone}
use Rattle.protocol_model.specs.Search.{is_among}
use Rattle.connection_model.specs.Feed.{End, Event, Past, Deed, Ticked, Made, Waits, Sent, Took, Ended, Entry, Delivered, sight_of, seen_in}
use Rattle.connection_model.specs.Past.{past_of}
use Rattle.connection_model.specs.Fates.{moved_of, is_arrived}
use Rattle.connection_model.specs.State.{Mark, mark_in, state_of, is_opened, is_asleep, index_of}
use Rattle.connection_model.specs.Carry.{Carry, carry_of, carry_fate, has_arrived_with, is_carried, updatable_pairs}
use Rattle.connection_model.specs.Settled.{is_clear, is_settled_as}
use Rattle.connection_model.specs.Pack.{is_shown}
use Rattle.connection_model.specs.Copies.{delivered_of, handed_in, has_copy, copy_channel, copy_value}
use Rattle.table_model.specs.Facts.{IsTable}
use Rattle.table_model.specs.Rules.{Entry as TableEntry}
use Rattle.table_model.specs.Grammar.{table_of}
use Rattle.connection_laws.specs.Run.{IsRun, HasPlace}
use Rattle.connection_laws.specs.Deeds.{DeedsFit}
use Rattle.connection_laws.specs.Delivered.{on_index, Numbered, messages_on, payload_of}
use Rattle.connection_laws.proofs.Deeds.{each_at}
use Rattle.connection_laws.proofs.Arrivals.{arrived_is_moved}
use Rattle.connection_laws.proofs.InTurn.{open_holds_it, brackets_fit}
use Rattle.connection_laws.proofs.Items.{all_append}
use Rattle.connection_laws.proofs.LinkedEnds.{left_run}
use Rattle.connection_laws.proofs.LinkLaws.{receives_there}
use Rattle.connection_model.specs.Windows.{wholes_of}
use Rattle.connection_laws.proofs.PacketsSay.{IsIn, in_left, in_right, in_middle, all_at}
use Rattle.payload_laws.specs.Accepted.{AreAccepted}
use Rattle.payload_laws.proofs.Bounds.{close_parts}
use Rattle.headline_laws.specs.Sights.{sight_in, sights_of, Seeing}
use Rattle.headline_laws.proofs.WholeMessages.{longer}
use Rattle.headline_laws.proofs.ReceivedFirst.{arrived_each}
use Rattle.headline_laws.proofs.MarksInOrder.{marks_come}
use Rattle.headline_laws.proofs.Reopened.{marks_it, closes_received}
use Rattle.headline_laws.proofs.ServerSays.{found_in}
use Rattle.headline_laws.proofs.Sights.{seeing_later}
use Rattle.recovery_laws.specs.Faithful.{IsFaithfulTalk}
use Rattle.recovery_laws.specs.Initial.{IsQuietOf}
use Rattle.recovery_laws.specs.Asleep.{SleepsAsSeen}
use Rattle.recovery_laws.proofs.Moments.{Moment, MomentAt, Moments, moments}
use Rattle.recovery_laws.proofs.FoundOpens.{begins_open, OpenedAt}
use Rattle.recovery_laws.proofs.LooseValues.{IsPlain}
use Rattle.recovery_laws.proofs.NewestPayloads.{removes_said, opens_said}
use Rattle.recovery_laws.proofs.HandedTrail.{same_end, from_index, from_append, Trail, later_handed, all_first, among_from, HandedAt, handed_at, PlaceOf, handed_place}
use Rattle.recovery_laws.proofs.HandedInOrder.{index_append, opened_index, end_has, handed_count}
use Rattle.recovery_laws.proofs.MadeInPlace.{DeedPlaced, EachPlaced, each_placed}
use Rattle.recovery_laws.proofs.CarriedValues.{all_by_among, carried}
use Rattle.recovery_laws.proofs.MarksAfterOpen.{OpenLast, open_last, plainly_handed}
use Rattle.recovery_laws.proofs.SightsAgree.{seeing_behind, packets_agree}
use Rattle.recovery_laws.proofs.SettledCopies.{link, run, fit, trails, was_handed, done_long, copy_of_last, all_of_list}
use Rattle.recovery_laws.proofs.OlderMarks.{old_marks}
use Rattle.recovery_laws.proofs.LastSleep.{SleepLast, sleep_last, all_free, carry_stays, moved_stays}

-- ---- quiet messages

-- the message neither opens nor updates the actor
abbrev QuietSaid : ℕ → Message → Type 0
QuietSaid a m = (removes_said a m ≡ false) × (opens_said a m ≡ None)

-- an unreliable message of another actor is so
plain_quiet : (a : ℕ) (m : Message) → IsPlain m → QuietSaid a m
plain_quiet a (Opens es b k vs) p = absurd p
plain_quiet a (Closes b s) p = absurd p
plain_quiet a (Gone b) p = absurd p
plain_quiet a (Updates b k vs) p = (refl, refl)
plain_quiet a (Calls b n k vs) p = (refl, refl)

-- so is one without a mark
unmarked_quiet : (a : ℕ) (m : Message) → marks_it a m ≡ false → QuietSaid a m
unmarked_quiet a (Opens es b k vs) e = (refl, by (b == a) e)
  where
    by : (t : Bool) → (t && true) ≡ false → then_some t k ≡ None
    by true e = absurd (false≢true (sym e))
    by false e = refl
unmarked_quiet a (Closes b s) e = (by (b == a) e, refl)
  where
    by : (t : Bool) → (t && true) ≡ false → (t && not s) ≡ false
    by true e = absurd (false≢true (sym e))
    by false e = refl
unmarked_quiet a (Gone b) e = (by (b == a) e, refl)
  where
    by : (t : Bool) → (t && true) ≡ false → t ≡ false
    by true e = absurd (false≢true (sym e))
    by false e = refl
unmarked_quiet a (Updates b k vs) e = (refl, refl)
unmarked_quiet a (Calls b n k vs) e = (refl, refl)

-- so is the close itself
close_quiet : (a : ℕ) → QuietSaid a (Closes a true)
close_quiet a = (by (a == a), refl)
  where
    by : (t : Bool) → (t && false) ≡ false
    by true = refl
    by false = refl

-- what unmarked deeds made is quiet
index_quiet : (a c : ℕ) (past : Past) → AllByRecursion (λ (d : Deed). mark_in a d ≡ None) past → AllByRecursion (λ (x : Numbered). QuietSaid a x.1) (on_index c past)
index_quiet a c [] h = tt
index_quiet a c (Ticked t s ∷ past) h = index_quiet a c past h.1
index_quiet a c (Waits m ∷ past) h = index_quiet a c past h.1
index_quiet a c (Sent n t items ∷ past) h = index_quiet a c past h.1
index_quiet a c (Took n es ds ∷ past) h = index_quiet a c past h.1
index_quiet a c (Ended g ∷ past) h = index_quiet a c past h.1
index_quiet a c (Made d n m i ∷ past) h = by ((d == c) && (i == 0)) refl (index_quiet a c past h.1)
  where
    unmarked : (t : Bool) → marks_it a m ≡ t → (i == 0) ≡ true → t ≡ false
    unmarked false e z = refl
    unmarked true e z =
        absurd (let never : Some (let k : Mark = record { channel = d; number = n; message = m } in k) ≡ None =
        ap (λ (b : Bool). then_some b (let k : Mark = record { channel = d; number = n; message = m } in k)) (sym (and_from (marks_it a m) (i == 0) e z)) ∙ h.0 in cc)

    by : (t : Bool) → ((d == c) && (i == 0)) ≡ t → AllByRecursion (λ (x : Numbered). QuietSaid a x.1) (on_index c past)
        → AllByRecursion (λ (x : Numbered). QuietSaid a x.1) (cons_option (then_some t (let x : Numbered = (n, m) in x)) (on_index c past))
    by false t ih = ih
    by true t ih = (unmarked_quiet a m (unmarked (marks_it a m) refl (and_parts (d == c) (i == 0) t).1), ih)

-- ---- lists

-- an item of a list stands between two parts of it
among_split : {A : Type 0} (x : A) (xs : List A) → IsIn x xs → (front : List A) × ((back : List A) × (xs ≡ front ++ x ∷ back))
among_split x [] h = absurd h
among_split {A} x (y ∷ xs) (inl e) = ([], (xs, ap (λ (z : A). z ∷ xs) e))
among_split {A} x (y ∷ xs) (inr h) = (let r = among_split x xs h in (y ∷ r.0, (r.1.0, ap (λ (l : List A). y ∷ l) r.1.1)))

-- ---- the packet that handed on the open

-- where the client took the payload, and what it had then
record TookWhere (client : Past) (ch j : ℕ) : Type 0 where
  later : Past
  number : ℕ
  entries : List Entry
  handed : List Delivered
  before : Past
  split : client ≡ later ++ Took number entries handed ∷ before
  low : length (from_index ch (delivered_of before)) ≤ j
  high : j < length (from_index ch (handed ++ delivered_of before))

where_behind : (past : Past) (ch j : ℕ) (deed : Deed) → TookWhere past ch j → TookWhere (deed ∷ past) ch j
where_behind past ch j deed w = record {
  later = deed ∷ w.later;
  number = w.number;
  entries = w.entries;
  handed = w.handed;
  before = w.before;
  split = ap (λ (l : Past). deed ∷ l) w.split;
  low = w.low;
  high = w.high;
}

-- each whole payload was taken somewhere
took_where : (client : Past) (ch j : ℕ) → j < length (from_index ch (delivered_of client)) → TookWhere client ch j
took_where [] ch j lt = absurd (omega (arith, lt))
took_where (Ticked t s ∷ past) ch j lt = where_behind past ch j (Ticked t s) (took_where past ch j lt)
took_where (Made c n m i ∷ past) ch j lt = where_behind past ch j (Made c n m i) (took_where past ch j lt)
took_where (Waits m ∷ past) ch j lt = where_behind past ch j (Waits m) (took_where past ch j lt)
took_where (Sent n t items ∷ past) ch j lt = where_behind past ch j (Sent n t items) (took_where past ch j lt)
took_where (Ended g ∷ past) ch j lt = where_behind past ch j (Ended g) (took_where past ch j lt)
took_where (Took n es ds ∷ past) ch j lt = elim (cases_lt j (length (from_index ch (delivered_of past)))) [
  | inl less ↦ where_behind past ch j (Took n es ds) (took_where past ch j less)
  | inr ge ↦ record { later = []; number = n; entries = es; handed = ds; before = past; split = refl; low = ge; high = lt }
]

-- ---- what an opening's index has

-- a close on one channel is none on another
other_index : (past : Past) (a : ℕ) (o : OpenedAt past a) (c : ℕ) → (o.channel ≡ c → ⊥) → on_index c past ≡ on_index c o.newer ++ on_index c o.older
other_index past a o c ne =
    ap (on_index c) o.split ∙ index_append c o.newer (Made o.channel o.number (Opens o.exports a o.class o.values) 0 ∷ o.older)
    ∙ ap (λ (t : Bool). on_index c o.newer ++ cons_option (then_some (t && true) (o.number, Opens o.exports a o.class o.values)) (on_index c o.older)) (ne_eqb o.channel c ne)

-- where a later past's end is long enough, the open stands in it
open_in_end : (past : Past) (a : ℕ) (o : OpenedAt past a) (more end : Past) → past ≡ more ++ end → length (on_index o.channel o.older) < length (on_index o.channel end)
    → (front : Past) × (end ≡ front ++ Made o.channel o.number (Opens o.exports a o.class o.values) 0 ∷ o.older)
open_in_end past a o more end e lt = elim (cases_lt (length o.newer) (length more)) [
  | inr ge ↦ (
      let l = longer o.newer (Made o.channel o.number (Opens o.exports a o.class o.values) 0 ∷ o.older) more end (sym o.split ∙ e) ge in (
        l.0,
        same_end more end (l.0 ++ Made o.channel o.number (Opens o.exports a o.class o.values) 0 ∷ o.older)
            (sym e ∙ o.split ∙ ap (λ (p : Past). p ++ Made o.channel o.number (Opens o.exports a o.class o.values) 0 ∷ o.older) l.1 ∙ append_assoc more l.0 (Made o.channel o.number (Opens o.exports a o.class o.values) 0 ∷ o.older)),
      ))
  | inl less ↦ (
      let first : Past = o.newer ++ Made o.channel o.number (Opens o.exports a o.class o.values) 0 ∷ [] in
      let whole : more ++ end ≡ first ++ o.older = sym e ∙ o.split ∙ sym (append_assoc o.newer (Made o.channel o.number (Opens o.exports a o.class o.values) 0 ∷ []) o.older) in
      let l = longer more end first o.older whole (omega (arith, less, length-append o.newer (Made o.channel o.number (Opens o.exports a o.class o.values) 0 ∷ []))) in
      let is : o.older ≡ l.0 ++ end = sym (same_end first (l.0 ++ end) o.older (sym (append_assoc first l.0 end) ∙ ap (λ (p : Past). p ++ end) (sym l.1) ∙ whole)) in
      absurd (omega (arith, lt, ap (λ (p : Past). length (on_index o.channel p)) is, ap length (index_append o.channel l.0 end), length-append (on_index o.channel l.0) (on_index o.channel end))))
]

-- ---- the law

-- the sight's entry by which the actor was put to sleep
record Dozes (past : Past) (a : ℕ) : Type 0 where
  seen : Seen
  shown : seen_in (sight_of past) a ≡ Some seen
  settled : is_settled_as past seen ≡ true

-- an actor asleep has such a close
dozes : (past : Past) (a : ℕ) → is_shown (λ (seen : Seen). seen.dormant && is_settled_as past seen) (seen_in (sight_of past) a) ≡ true → Dozes past a
dozes past a h = by (seen_in (sight_of past) a) refl h
  where
    by : (o : Option Seen) → seen_in (sight_of past) a ≡ o → is_shown (λ (seen : Seen). seen.dormant && is_settled_as past seen) o ≡ true → Dozes past a
    by None e q = absurd (false≢true q)
    by (Some seen) e q = record { seen = seen; shown = e; settled = (and_parts seen.dormant (is_settled_as past seen) q).1 }

-- what a settled actor's entry says
record SettledFacts (past : Past) (seen : Seen) : Type 0 where
  opened : is_opened (state_of past seen.actor) ≡ true
  carried : list_all (is_carried past seen.actor) (updatable_pairs seen) ≡ true

-- what a settled actor's sight says
settled_facts : (past : Past) (seen : Seen) → is_settled_as past seen ≡ true → SettledFacts past seen
settled_facts past seen h =
    let one = and_parts (is_opened (state_of past seen.actor) && seen.relevant && is_clear past (index_of past seen.actor)) (list_all (is_carried past seen.actor) (updatable_pairs seen)) h in
    let two = and_parts (is_opened (state_of past seen.actor) && seen.relevant) (is_clear past (index_of past seen.actor)) one.0 in
    record { opened = (and_parts (is_opened (state_of past seen.actor)) seen.relevant two.0).0; carried = one.1 }

module _ (entries : List TableEntry) (is : IsTable entries) (left right : End) (l r : List Event) (player : ℕ) (edits : Edits) (segments : List Segment) (ok : AreAccepted (table_of entries) edits)
    (same : left.table ≡ table_of entries) (t : IsFaithfulTalk left right l r player edits segments) (a : ℕ) where
  server_run : IsRun left (past_of left l)
  server_run = run left right l r player edits segments t

  server_fit : DeedsFit left (past_of left l)
  server_fit = fit left right l r player edits segments t

  trail_of : (ch : ℕ) → Trail (past_of left l) (past_of right r) ch
  trail_of = trails left right l r player edits segments t

  seeing : Seeing (table_of entries) player edits (sights_of (past_of left l))
  seeing = subst (λ (x : Table). Seeing x player edits (sights_of (past_of left l))) same t.seeing

  seeing_end : (more end : Past) → past_of left l ≡ more ++ end → Seeing (table_of entries) player edits (sights_of end)
  seeing_end more end e =
      let s = seeing_behind (table_of entries) player edits (sights_of more) (sights_of end) (subst (Seeing (table_of entries) player edits) (ap sights_of e ∙ filter_map-append sight_in more end) seeing) in
      subst (λ (x : Edits). Seeing (table_of entries) player x (sights_of end)) (sym s.2) (seeing_later (table_of entries) player s.0 s.1 (sights_of end) s.3)

  -- after the open that was handed on, where what the server made of the actor since is quiet, all is quiet
  module _ (o : OpenedAt (past_of left l) a) (quiet : (c : ℕ) → AllByRecursion (λ (x : Numbered). QuietSaid a x.1) (on_index c o.newer))
      (handed : length (on_index o.channel o.older) < length (from_index o.channel (delivered_of (past_of right r)))) where
    j : ℕ
    j = length (on_index o.channel o.older)

    at : HandedAt o.channel (delivered_of (past_of right r)) (length (on_index o.channel o.older))
    at = handed_at o.channel (delivered_of (past_of right r)) (length (on_index o.channel o.older)) handed

    few : length (on_index o.channel o.older) < length (from_index o.channel (at.delivered ∷ at.before))
    few = omega (arith, at.count_is, ap (λ (b : Bool). length (cond b (at.delivered ∷ from_index o.channel at.before) (from_index o.channel at.before))) at.from)

    took : TookWhere (past_of right r) o.channel (length (on_index o.channel o.older))
    took = took_where (past_of right r) o.channel (length (on_index o.channel o.older)) handed

    moment : Moment left right (past_of left l) took.before (Took took.number took.entries took.handed ∷ took.before) took.number
    moment =
        each_at (MomentAt left right (past_of left l)) took.later (Took took.number took.entries took.handed) took.before
        (subst (Moments left right (past_of left l)) took.split (moments left right t.version l r t.talk t.faithful.unbroken))

    -- what was handed on before that packet stands before the open
    before_open : (xs : List Delivered) → delivered_of (past_of right r) ≡ xs ++ delivered_of took.before → (more : List Delivered) × (at.delivered ∷ at.before ≡ more ++ delivered_of took.before)
    before_open xs e = elim (cases_lt (length xs) (length at.after)) [
      | inr ge ↦ (
          let m = longer xs (delivered_of took.before) at.after (at.delivered ∷ at.before) (sym e ∙ at.split) ge in
          (m.0, sym (same_end at.after (m.0 ++ delivered_of took.before) (at.delivered ∷ at.before) (sym (append_assoc at.after m.0 (delivered_of took.before)) ∙ ap (λ (x : List Delivered). x ++ delivered_of took.before) (sym m.1) ∙ sym e ∙ at.split))))
      | inl lt ↦ (
          let m = longer at.after (at.delivered ∷ at.before) xs (delivered_of took.before) (sym at.split ∙ e) (omega (arith, lt)) in
          let back : delivered_of took.before ≡ m.0 ++ at.delivered ∷ at.before =
          same_end xs (delivered_of took.before) (m.0 ++ at.delivered ∷ at.before) (sym e ∙ at.split ∙ ap (λ (x : List Delivered). x ++ at.delivered ∷ at.before) m.1 ∙ append_assoc xs m.0 (at.delivered ∷ at.before)) in
          absurd (omega (arith, took.low, few, ap (λ (x : List Delivered). length (from_index o.channel x)) back, ap length (from_append o.channel m.0 (at.delivered ∷ at.before)), length-append (from_index o.channel m.0) (from_index o.channel (at.delivered ∷ at.before)))))
    ]

    client_split : delivered_of (past_of right r) ≡ (delivered_of took.later ++ took.handed) ++ delivered_of took.before
    client_split =
        ap delivered_of took.split ∙ flat_map-append handed_in took.later (Took took.number took.entries took.handed ∷ took.before)
        ∙ sym (append_assoc (delivered_of took.later) took.handed (delivered_of took.before))

    -- each older mark of the actor was handed on before it
    marks_before : (c : ℕ) (before : List Numbered) (x : Numbered) (after : List Numbered) → on_index c o.older ≡ before ++ x ∷ after → marks_it a x.1 ≡ true → length after < length (from_index c (delivered_of took.before))
    marks_before =
        let moment_run : IsRun left moment.server = left_run left right moment.server took.before moment.link in
        let long : length (on_index o.channel o.older) < length (on_index o.channel moment.server) = longer_index in
        let there = open_in_end (past_of left l) a o moment.more moment.server moment.grown long in
        old_marks left right moment.server took.before moment_run moment.hands a (closes_received left right moment.server took.before t.version moment.link a)
        (marks_come entries is player edits ok left moment.server moment_run (seeing_end moment.more moment.server moment.grown) a)
        there.0 o.channel o.number o.exports o.class o.values o.older there.1
      where
        after : Past
        after = Took took.number took.entries took.handed ∷ took.before

        longer_index : length (on_index o.channel o.older) < length (on_index o.channel moment.server)
        longer_index =
            let p = receives_there left right moment.server (Took took.number took.entries took.handed ∷ took.before) t.version moment.link_after o.channel in
            omega (
              arith,
              took.high,
              handed_count right (Took took.number took.entries took.handed ∷ took.before) o.channel moment.hands_after,
              ap length p.1,
              length-append (wholes_of (Took took.number took.entries took.handed ∷ took.before) o.channel) p.0,
              length-map (messages_on moment.server o.channel) (payload_of o.channel),
              length-reverse (on_index o.channel moment.server),
            )

    -- one payload after the open
    one_quiet : (d : Delivered) (front back : List Delivered) → at.after ≡ front ++ d ∷ back → IsQuietOf a d
    one_quiet d front back e = by d.reliable refl
      where
        whole : delivered_of (past_of right r) ≡ front ++ d ∷ (back ++ at.delivered ∷ at.before)
        whole = at.split ∙ ap (λ (x : List Delivered). x ++ at.delivered ∷ at.before) e ∙ append_assoc front (d ∷ back) (at.delivered ∷ at.before)

        here : o.channel ≡ d.channel → d.reliable ≡ true → QuietSaid a d.message
        here c rel =
            among_from (λ (x : Delivered). QuietSaid a x.message) o.channel at.after
            (later_handed (QuietSaid a) (past_of left l) (past_of right r) o.channel (trail_of o.channel) (on_index o.channel o.newer) (o.number, Opens o.exports a o.class o.values) (on_index o.channel o.older)
            (opened_index (past_of left l) a o) (quiet o.channel) at.after (at.delivered ∷ at.before) at.split few)
            d (subst (IsIn d) (sym e) (in_middle d front back)) (and_from (d.channel == o.channel) d.reliable (eq-eqb d.channel o.channel (sym c)) rel)

        elsewhere : (o.channel ≡ d.channel → ⊥) → PlaceOf (past_of left l) d.channel d.message (length (from_index d.channel (back ++ at.delivered ∷ at.before))) → QuietSaid a d.message
        elsewhere ne p = elim (cases_lt (length p.older) (length (on_index d.channel o.older))) [
          | inl lt ↦ (
              let there = end_has (on_index d.channel o.newer) (on_index d.channel o.older) p.newer p.made p.older (sym (other_index (past_of left l) a o d.channel ne) ∙ p.split) lt in
              subst (QuietSaid a) (sym p.is) (old (marks_it a p.made.1) refl there.0 there.1))
          | inr ge ↦ (
              let long : on_index d.channel o.newer ++ on_index d.channel o.older ≡ (p.newer ++ p.made ∷ []) ++ p.older = sym (other_index (past_of left l) a o d.channel ne) ∙ p.split ∙ sym (again p.newer p.made p.older) in
              let m = longer (on_index d.channel o.newer) (on_index d.channel o.older) (p.newer ++ p.made ∷ []) p.older long
              (omega (arith, ge, ap length long, length-append (on_index d.channel o.newer) (on_index d.channel o.older), length-append (p.newer ++ p.made ∷ []) p.older)) in
              let inside : IsIn p.made (on_index d.channel o.newer) = subst (IsIn p.made) (sym m.1) (in_left p.made (p.newer ++ p.made ∷ []) m.0 (in_right p.made p.newer (p.made ∷ []) (inl refl))) in
              subst (QuietSaid a) (sym p.is) (all_at (λ (x : Numbered). QuietSaid a x.1) p.made (on_index d.channel o.newer) (quiet d.channel) inside))
        ]
          where
            again : (xs : List Numbered) (x : Numbered) (ys : List Numbered) → (xs ++ x ∷ []) ++ ys ≡ xs ++ x ∷ ys
            again [] x ys = refl
            again (z ∷ xs) x ys = ap (λ (w : List Numbered). z ∷ w) (again xs x ys)

            old : (b : Bool) → marks_it a p.made.1 ≡ b → (rest : List Numbered) → on_index d.channel o.older ≡ rest ++ p.made ∷ p.older → QuietSaid a p.made.1
            old false q rest w = unmarked_quiet a p.made.1 q
            old true q rest w =
                let b = before_open (delivered_of took.later ++ took.handed) client_split in
                absurd (omega (
                  arith,
                  marks_before d.channel rest p.made p.older w q,
                  p.count_is,
                  ap length (from_append d.channel back (at.delivered ∷ at.before)),
                  length-append (from_index d.channel back) (from_index d.channel (at.delivered ∷ at.before)),
                  ap (λ (x : List Delivered). length (from_index d.channel x)) b.1,
                  ap length (from_append d.channel b.0 (delivered_of took.before)),
                  length-append (from_index d.channel b.0) (from_index d.channel (delivered_of took.before)),
                ))

        by : (b : Bool) → d.reliable ≡ b → IsQuietOf a d
        by false rel =
            plain_quiet a d.message
            (all_at (λ (x : Delivered). x.reliable ≡ false → IsPlain x.message) d (delivered_of (past_of right r)) (plainly_handed left (past_of left l) server_fit (past_of right r) t.faithful.loose)
            (subst (IsIn d) (sym whole) (in_middle d front (back ++ at.delivered ∷ at.before))) rel)
        by true rel = elim (cases_eq o.channel d.channel) [
          | inl c ↦ here c rel
          | inr ne ↦ elsewhere ne (handed_place (past_of left l) (past_of right r) d.channel (trail_of d.channel) front d (back ++ at.delivered ∷ at.before) whole
              (and_from (d.channel == d.channel) d.reliable (eq-eqb d.channel d.channel refl) rel))
        ]

    all_quiet : AllByRecursion (IsQuietOf a) at.after
    all_quiet = all_by_among (IsQuietOf a) at.after (λ d among. (let s = among_split d at.after among in one_quiet d s.0 s.1.0 s.1.1))

    pub since_open : (newer older : List Delivered) → delivered_of (past_of right r) ≡ newer ++ older → length (on_index o.channel o.older) < length (from_index o.channel older) → AllByRecursion (IsQuietOf a) newer
    since_open newer older e lt = elim (cases_lt (length at.after) (length newer)) [
      | inr ge ↦ (let m = longer at.after (at.delivered ∷ at.before) newer older (sym at.split ∙ e) ge in all_first (IsQuietOf a) newer m.0 (subst (AllByRecursion (IsQuietOf a)) m.1 all_quiet))
      | inl less ↦ (
          let whole : newer ++ older ≡ (at.after ++ at.delivered ∷ []) ++ at.before = sym e ∙ at.split ∙ sym (append_assoc at.after (at.delivered ∷ []) at.before) in
          let m = longer newer older (at.after ++ at.delivered ∷ []) at.before whole (omega (arith, less, length-append at.after (at.delivered ∷ []))) in
          let back : at.before ≡ m.0 ++ older =
          sym (same_end (at.after ++ at.delivered ∷ []) (m.0 ++ older) at.before (sym (append_assoc (at.after ++ at.delivered ∷ []) m.0 older) ∙ ap (λ (x : List Delivered). x ++ older) (sym m.1) ∙ whole)) in
          absurd (omega (arith, lt, at.count_is, ap (λ (x : List Delivered). length (from_index o.channel x)) back, ap length (from_append o.channel m.0 older), length-append (from_index o.channel m.0) (from_index o.channel older))))
    ]

  -- ---- an actor that sleeps

  module _ (asleep : is_asleep (state_of (past_of left l) a) ≡ true) where
    slept : SleepLast (past_of left l) (past_of left l) a
    slept = sleep_last (past_of left l) (past_of left l) a asleep

    placed : HasPlace left slept.older slept.channel (Closes a true)
    placed = each_at (DeedPlaced left) slept.newer (Made slept.channel slept.number (Closes a true) 0) slept.older (subst (EachPlaced left) slept.split (each_placed left (past_of left l) server_run)) refl

    doze : Dozes slept.older a
    doze = dozes slept.older a placed.2

    actor_is : doze.seen.actor ≡ a
    actor_is = (found_in (sight_of slept.older) a doze.seen doze.shown).actor

    facts : SettledFacts slept.older doze.seen
    facts = settled_facts slept.older doze.seen doze.settled

    opened : is_opened (state_of slept.older a) ≡ true
    opened = subst (λ (x : ℕ). is_opened (state_of slept.older x) ≡ true) actor_is facts.opened

    then : OpenLast slept.older a
    then = open_last slept.older slept.older a opened

    channel_is : then.made.channel ≡ slept.channel
    channel_is =
        some_is then.made.channel slept.channel
        (sym (open_holds_it slept.older a then.made.channel (record {
          mark = record { channel = then.made.channel; number = then.made.number; message = Opens then.made.exports a then.made.class then.made.values };
          last = then.last;
          opens = refl;
          on = refl;
        })).0 ∙ placed.0)
      where
        some_is : (x y : ℕ) → (let o : Option ℕ = Some x in o) ≡ Some y → x ≡ y
        some_is x y e = cc

    newer_deeds : Past
    newer_deeds = slept.newer ++ Made slept.channel slept.number (Closes a true) 0 ∷ then.made.newer

    split_is : past_of left l ≡ (slept.newer ++ Made slept.channel slept.number (Closes a true) 0 ∷ then.made.newer) ++ Made then.made.channel then.made.number (Opens then.made.exports a then.made.class then.made.values) 0 ∷ then.made.older
    split_is =
        slept.split ∙ ap (λ (p : Past). slept.newer ++ Made slept.channel slept.number (Closes a true) 0 ∷ p) then.made.split
        ∙ sym (append_assoc slept.newer (Made slept.channel slept.number (Closes a true) 0 ∷ then.made.newer) (Made then.made.channel then.made.number (Opens then.made.exports a then.made.class then.made.values) 0 ∷ then.made.older))

    abbrev opening : OpenedAt (past_of left l) a
    opening = record {
      channel = then.made.channel;
      number = then.made.number;
      exports = then.made.exports;
      class = then.made.class;
      values = then.made.values;
      newer = slept.newer ++ Made slept.channel slept.number (Closes a true) 0 ∷ then.made.newer;
      older = then.made.older;
      split = split_is;
      none = all_append (λ (d : Deed). begins_open a d ≡ false) slept.newer (Made slept.channel slept.number (Closes a true) 0 ∷ then.made.newer) (all_free a slept.newer slept.unmarked) (refl, then.made.none);
    }

    close_index : on_index slept.channel (past_of left l) ≡ on_index slept.channel slept.newer ++ (slept.number, Closes a true) ∷ on_index slept.channel slept.older
    close_index =
        ap (on_index slept.channel) slept.split ∙ index_append slept.channel slept.newer (Made slept.channel slept.number (Closes a true) 0 ∷ slept.older)
        ∙ ap (λ (b : Bool). on_index slept.channel slept.newer ++ cons_option (then_some (b && true) (slept.number, Closes a true)) (on_index slept.channel slept.older)) (eq-eqb slept.channel slept.channel refl)

    -- the close was handed on, and the open with it
    close_handed : length (on_index slept.channel slept.older) < length (from_index slept.channel (delivered_of (past_of right r)))
    close_handed =
        was_handed left right l r player edits segments t slept.channel (on_index slept.channel slept.newer) (slept.number, Closes a true) (on_index slept.channel slept.older) close_index
        (λ i lo hi. arrived_each (past_of left l) slept.channel slept.number 1 slept.arrived i lo (omega (arith, hi, close_parts a true)))

    open_there : length (on_index then.made.channel then.made.older) < length (from_index then.made.channel (delivered_of (past_of right r)))
    open_there =
        omega (
          arith,
          subst (λ (c : ℕ). length (on_index c slept.older) < length (from_index c (delivered_of (past_of right r)))) (sym channel_is) close_handed,
          ap length (opened_index slept.older a then.made),
          length-append (on_index then.made.channel then.made.newer) ((then.made.number, Opens then.made.exports a then.made.class then.made.values) ∷ on_index then.made.channel then.made.older),
        )

    quiet_since : (c : ℕ) → AllByRecursion (λ (x : Numbered). QuietSaid a x.1) (on_index c (slept.newer ++ Made slept.channel slept.number (Closes a true) 0 ∷ then.made.newer))
    quiet_since c =
        subst (AllByRecursion (λ (x : Numbered). QuietSaid a x.1)) (sym (index_append c slept.newer (Made slept.channel slept.number (Closes a true) 0 ∷ then.made.newer)))
        (all_append (λ (x : Numbered). QuietSaid a x.1) (on_index c slept.newer) (on_index c (Made slept.channel slept.number (Closes a true) 0 ∷ then.made.newer)) (index_quiet a c slept.newer slept.unmarked)
        (by (slept.channel == c)))
      where
        by : (b : Bool) → AllByRecursion (λ (x : Numbered). QuietSaid a x.1) (cons_option (then_some (b && true) (let x : Numbered = (slept.number, Closes a true) in x)) (on_index c then.made.newer))
        by true = (close_quiet a, index_quiet a c then.made.newer then.unmarked)
        by false = index_quiet a c then.made.newer then.unmarked

    copy : (has_copy (past_of right r) a ≡ true) × (copy_channel (past_of right r) a ≡ None)
    copy =
        copy_of_last (past_of left l) (past_of right r) t.faithful.follows.hands a (t.faithful.follows.marks a) (record { channel = slept.channel; number = slept.number; message = Closes a true }) slept.last
        (done_long left (past_of left l) (past_of right r) server_run slept.channel (t.faithful.follows.hands slept.channel) (on_index slept.channel slept.newer) (slept.number, Closes a true) (on_index slept.channel slept.older) close_index close_handed)

    carry_value : (h : ℕ) (c : Carry) → carry_of (past_of left l) a h ≡ Some c → ((k : ℕ) → c.packet ≡ Some k → is_among k (moved_of (past_of left l)) ≡ true) → copy_value (past_of right r) a h ≡ c.value
    carry_value h c e moved =
        carried left right t.version (past_of left l) (past_of right r) (link left right l r player edits segments t) (moments left right t.version l r t.talk t.faithful.unbroken) t.faithful.loose trail_of (brackets_fit left t.side (past_of left l) server_run)
        (packets_agree left.table player edits left [] (past_of left l) server_fit t.seeing) a opening (since_open opening quiet_since open_there) open_there h c e moved

    value_of_pair : (pair : Pair) → is_carried slept.older a pair ≡ true → copy_value (past_of right r) a pair.handle ≡ pair.value
    value_of_pair pair h = by (carry_of slept.older a pair.handle) refl h
      where
        whole : past_of left l ≡ (slept.newer ++ Made slept.channel slept.number (Closes a true) 0 ∷ []) ++ slept.older
        whole = slept.split ∙ sym (append_assoc slept.newer (Made slept.channel slept.number (Closes a true) 0 ∷ []) slept.older)

        kept : carry_of (past_of left l) a pair.handle ≡ carry_of slept.older a pair.handle
        kept = ap (λ (p : Past). carry_of p a pair.handle) slept.split ∙ carry_stays left a slept.channel slept.number slept.older pair.handle slept.newer (subst (DeedsFit left) slept.split server_fit) slept.unmarked

        moved : (c : Carry) → is_arrived (carry_fate slept.older a c) ≡ true → (k : ℕ) → c.packet ≡ Some k → is_among k (moved_of (past_of left l)) ≡ true
        moved c q k e =
            ap (λ (p : Past). is_among k (moved_of p)) whole
            ∙ moved_stays (slept.newer ++ Made slept.channel slept.number (Closes a true) 0 ∷ []) slept.older k
            (sym (arrived_is_moved slept.older k) ∙ sym (ap (λ (o : Option ℕ). is_arrived (carry_fate slept.older a (record { packet = o; value = c.value }))) e) ∙ q)

        by : (o : Option Carry) → carry_of slept.older a pair.handle ≡ o → has_arrived_with slept.older a pair o ≡ true → copy_value (past_of right r) a pair.handle ≡ pair.value
        by None e q = absurd (false≢true q)
        by (Some c) e q =
            let p = and_parts (is_arrived (carry_fate slept.older a c)) (int_eq c.value pair.value) q in
            carry_value pair.handle c (kept ∙ e) (moved c p.0) ∙ (Decides-int_eq c.value pair.value).0 p.1

    pub sleeps_as_seen : SleepsAsSeen (past_of left l) (past_of right r) a
    sleeps_as_seen = record {
      channel = slept.channel;
      number = slept.number;
      newer = slept.newer;
      older = slept.older;
      made = slept.split;
      unmarked = slept.unmarked;
      seen = doze.seen;
      shown = doze.shown;
      settled = doze.settled;
      has = copy.0;
      asleep = copy.1;
      values = λ pair before after e.
          value_of_pair pair (subst (λ (x : ℕ). is_carried slept.older x pair ≡ true) actor_is
          (all_of_list (is_carried slept.older doze.seen.actor) before pair after (ap (list_all (is_carried slept.older doze.seen.actor)) (sym e) ∙ facts.carried)));
    }
