-- A client has a copy of each actor that is opened, with the values that were carried to it.
use Rattle.std.proofs.Common.{◌≡◌, ℕ, ◌+◌, ◌<◌, ◌≤◌, List, [], ◌∷◌, ◌++◌, length, Bool, true, not, ◌&&◌, refl, sym, ap, ◌∙◌, subst, arith, Option, Some, None}
use Rattle.std.specs.Prelude.{is_some}
use Rattle.std.specs.Ordering.{int_eq}
use Rattle.std.specs.List.{slice_get, list_all, AllByRecursion}
use Rattle.std.proofs.lemmas.Bool.{false≢true, and_parts}
use Rattle.std.proofs.lemmas.Bool.Decides.{Decides-int_eq}
use Rattle.std.proofs.lemmas.List.{length-map}
use Rattle.protocol_model.specs.Side.{AtServer, AtClient}
use Rattle.protocol_model.specs.Sight.{Seen, seen_of, is_relevant}
use Rattle.connection_model.specs.Settled.{is_clear, is_settled_as}
use Rattle.replication_model.specs.Story.{Story, Player, end_of, past_at}
use Rattle.replication_model.specs.Headline.{IsCopied, CopiesSettled}
use Rattle.protocol_model.specs.Value.{Table, Segment, Class, Pair}
use Rattle.protocol_model.specs.World.{Edits, class_of}
use Rattle.protocol_model.specs.Payload.{Opens, parts_of}
use Rattle.protocol_model.specs.Search.{is_among}
use Rattle.connection_model.specs.Feed.{End, Event, Past, Delivered, has_ended}
use Rattle.connection_model.specs.Past.{past_of}
use Rattle.connection_model.specs.Fates.{moved_of, is_arrived}
use Rattle.connection_model.specs.Bunches.{have_arrived}
use Rattle.connection_model.specs.State.{Mark, last_mark, state_of, state_at, is_opened, index_of}
use Rattle.connection_model.specs.Carry.{Carry, carry_of, carry_fate, has_arrived_with, is_carried, updatable_pairs}
use Rattle.connection_model.specs.Copies.{delivered_of, copy_class, has_copy, copy_channel, copy_value}
use Rattle.connection_laws.specs.Run.{IsRun}
use Rattle.connection_laws.specs.Deeds.{DeedsFit}
use Rattle.connection_laws.specs.Link.{IsLink}
use Rattle.connection_laws.specs.Delivered.{on_index, Numbered}
use Rattle.connection_laws.proofs.Deeds.{deeds_fit}
use Rattle.connection_laws.proofs.Arrivals.{arrived_is_moved}
use Rattle.connection_laws.proofs.InTurn.{open_holds_it, brackets_fit}
use Rattle.connection_laws.proofs.Spans.{some_parts}
use Rattle.connection_laws.proofs.HandingOn.{hands_received}
use Rattle.connection_laws.proofs.LinkedEnds.{Both, both, left_run}
use Rattle.connection_laws.proofs.LinkLaws.{applies_there}
use Rattle.connection_laws.proofs.StoriesTalk.{linked}
use Rattle.headline_laws.specs.Whole.{ArrivedBelow}
use Rattle.headline_laws.specs.Marks.{marks_of}
use Rattle.headline_laws.specs.Follows.{parts_in, HandsOn, HandsOnAll, IsAhead, CopyAfter, CopyBy, MarksFollow}
use Rattle.headline_laws.proofs.WholeMessages.{InRow, rows}
use Rattle.headline_laws.proofs.ReceivedFirst.{open_arrived, row_at, parts_append, parts_reverse}
use Rattle.recovery_laws.specs.Faithful.{IsFaithfulTalk}
use Rattle.recovery_laws.proofs.Moments.{moments}
use Rattle.recovery_laws.proofs.ArrivalsKnown.{received_count}
use Rattle.recovery_laws.proofs.HandedTrail.{from_index, Trail, trail, trail_done}
use Rattle.recovery_laws.proofs.HandedInOrder.{handed_count, opened_index, end_has, opened_mark}
use Rattle.recovery_laws.proofs.CarriedValues.{carried}
use Rattle.recovery_laws.proofs.MarksAfterOpen.{OpenLast, open_last, nothing_fresh}
use Rattle.recovery_laws.proofs.SightsAgree.{packets_agree}

-- a message that was handed on, with so many handed on before it, has its number among those done
pub done_long : (end : End) (server client : Past) → IsRun end server → (ch : ℕ) (h : HandsOn server client ch) (newer : List Numbered) (made : Numbered) (older : List Numbered) → on_index ch server ≡ newer ++ made ∷ older
    → length older < length (from_index ch (delivered_of client)) → made.0 ≤ parts_in h.done
done_long end server client run ch h newer made older e few =
    let t : Trail server client ch = trail server client ch h in
    let count : length (from_index ch (delivered_of client)) ≡ length t.done =
    sym (length-map (from_index ch (delivered_of client)) (λ (d : Delivered). d.message)) ∙ ap length t.same ∙ length-map t.done (λ (x : Numbered). x.1) in
    let there = end_has t.ahead t.done newer made older (sym t.split ∙ e) (omega (arith, few, count)) in
    omega (
      arith,
      row_at newer made older (subst InRow e (rows end server run ch).row),
      ap parts_in there.1,
      parts_append there.0 (made ∷ older),
      parts_reverse h.done,
      some_parts made.1,
      ap parts_in (trail_done server client ch h),
    )

-- the copy that the last mark leaves, once it was handed on
pub copy_of_last : (server client : Past) (hands : HandsOnAll server client) (a : ℕ) → MarksFollow server client hands a → (mark : Mark) → last_mark server a ≡ Some mark → mark.number ≤ parts_in (hands mark.channel).done
    → CopyAfter client a mark.channel mark.message
copy_of_last server client hands a m mark last done = by (marks_of server a) refl m.newer m.split m.ahead
  where
    some_is : (x y : Mark) → (let o : Option Mark = Some x in o) ≡ Some y → x ≡ y
    some_is x y q = cc

    first : (ms : List Mark) → marks_of server a ≡ ms → slice_get ms 0 ≡ Some mark
    first ms e = ap (λ (l : List Mark). slice_get l 0) (sym e) ∙ last

    head : (x : Mark) (ms : List Mark) → marks_of server a ≡ x ∷ ms → x ≡ mark
    head x ms e = some_is x mark (first (x ∷ ms) e)

    all_done : (older : List Mark) → marks_of server a ≡ older → CopyBy client a older → CopyAfter client a mark.channel mark.message
    all_done [] e c = absurd (let never : (let o : Option Mark = None in o) ≡ Some mark = first [] e in cc)
    all_done (x ∷ older) e c = subst (λ (k : Mark). CopyAfter client a k.channel k.message) (head x older e) c

    by : (ms : List Mark) → marks_of server a ≡ ms → (newer : List Mark) → marks_of server a ≡ newer ++ m.older → AllByRecursion (IsAhead server client hands) newer → CopyAfter client a mark.channel mark.message
    by ms e [] s ahead = all_done m.older s m.copy
    by ms e (x ∷ newer) s ahead =
        let first_ahead : parts_in (hands mark.channel).done < mark.number = subst (IsAhead server client hands) (head x (newer ++ m.older) s) ahead.0 in
        absurd (omega (arith, first_ahead, done))

module _ (left right : End) (l r : List Event) (player : ℕ) (edits : Edits) (segments : List Segment) (t : IsFaithfulTalk left right l r player edits segments) where
  abbrev server : Past
  server = past_of left l

  abbrev client : Past
  client = past_of right r

  pub link : IsLink left right (past_of left l) (past_of right r)
  link = linked left right l r t.version t.talk

  pub run : IsRun left (past_of left l)
  run = left_run left right (past_of left l) (past_of right r) link

  pub fit : DeedsFit left (past_of left l)
  fit = deeds_fit left (past_of left l) run

  ends : Both left.version (past_of left l) (past_of right r)
  ends = both left.version left right refl (sym t.version) (past_of left l) (past_of right r) link

  pub trails : (ch : ℕ) → Trail (past_of left l) (past_of right r) ch
  trails ch = trail (past_of left l) (past_of right r) ch (t.faithful.follows.hands ch)

  -- what has arrived whole was handed on
  pub was_handed : (ch : ℕ) (newer : List Numbered) (made : Numbered) (older : List Numbered) → on_index ch (past_of left l) ≡ newer ++ made ∷ older → ArrivedBelow (past_of left l) ch (made.0 + parts_of made.1)
      → length older < length (from_index ch (delivered_of (past_of right r)))
  was_handed ch newer made older e arrived =
      omega (
        arith,
        received_count left.version left (past_of left l) (past_of right r) run ends.out (applies_there left right (past_of left l) (past_of right r) t.version link) ch newer made older e arrived,
        handed_count right (past_of right r) ch (hands_received right r t.faithful.unbroken),
      )

  -- ---- an actor that is opened

  module _ (a : ℕ) (opened : is_opened (state_of (past_of left l) a) ≡ true) where
    last : OpenLast (past_of left l) a
    last = open_last (past_of left l) (past_of left l) a opened

    index : on_index last.made.channel (past_of left l) ≡ on_index last.made.channel last.made.newer ++ (last.made.number, Opens last.made.exports a last.made.class last.made.values) ∷ on_index last.made.channel last.made.older
    index = opened_index (past_of left l) a last.made

    arrived : have_arrived (past_of left l) last.made.channel last.made.number (parts_of (Opens last.made.exports a last.made.class last.made.values)) ≡ true
    arrived =
        opened_mark (past_of left l) a last.made.newer last.made.channel last.made.number last.made.exports last.made.class last.made.values last.made.older last.made.none
        (ap (λ (p : Past). is_opened (state_at (past_of left l) (last_mark p a))) (sym last.made.split) ∙ opened)

    handed : length (on_index last.made.channel last.made.older) < length (from_index last.made.channel (delivered_of (past_of right r)))
    handed =
        was_handed last.made.channel (on_index last.made.channel last.made.newer) (last.made.number, Opens last.made.exports a last.made.class last.made.values) (on_index last.made.channel last.made.older) index
        (open_arrived left (past_of left l) run last.made.channel (last.made.number, Opens last.made.exports a last.made.class last.made.values)
        (record { newer = on_index last.made.channel last.made.newer; older = on_index last.made.channel last.made.older; split = index }) refl arrived)

    copy : (has_copy (past_of right r) a ≡ true) × (copy_channel (past_of right r) a ≡ Some last.made.channel)
    copy =
        copy_of_last (past_of left l) (past_of right r) t.faithful.follows.hands a (t.faithful.follows.marks a)
        (record { channel = last.made.channel; number = last.made.number; message = Opens last.made.exports a last.made.class last.made.values }) last.last
        (done_long left (past_of left l) (past_of right r) run last.made.channel (t.faithful.follows.hands last.made.channel) (on_index last.made.channel last.made.newer)
        (last.made.number, Opens last.made.exports a last.made.class last.made.values) (on_index last.made.channel last.made.older) index handed)

    -- a copy of its class
    pub opened_class_is : copy_class (past_of right r) a ≡ Some (class_of left.table edits a)
    opened_class_is = by (copy_class (past_of right r) a) refl copy.0
      where
        by : (o : Option Class) → copy_class (past_of right r) a ≡ o → is_some o ≡ true → copy_class (past_of right r) a ≡ Some (class_of left.table edits a)
        by None e h = absurd (false≢true h)
        by (Some c) e h = e ∙ ap (λ (x : Class). Some x) (t.faithful.follows.known a c e).0

    -- on the index that it holds
    pub opened_channel_is : copy_channel (past_of right r) a ≡ index_of (past_of left l) a
    opened_channel_is =
        copy.1 ∙ sym (open_holds_it (past_of left l) a last.made.channel (record {
          mark = record { channel = last.made.channel; number = last.made.number; message = Opens last.made.exports a last.made.class last.made.values };
          last = last.last;
          opens = refl;
          on = refl;
        })).0

    -- with the value of each carry that has arrived
    pub opened_carry_is : (h : ℕ) (c : Carry) → carry_of (past_of left l) a h ≡ Some c → ((k : ℕ) → c.packet ≡ Some k → is_among k (moved_of (past_of left l)) ≡ true) → copy_value (past_of right r) a h ≡ c.value
    opened_carry_is h c e moved =
        carried left right t.version (past_of left l) (past_of right r) link (moments left right t.version l r t.talk t.faithful.unbroken) t.faithful.loose trails (brackets_fit left t.side (past_of left l) run)
        (packets_agree left.table player edits left [] (past_of left l) fit t.seeing) a last.made
        (nothing_fresh left (past_of left l) (past_of right r) fit t.faithful.loose a last.made (trails last.made.channel) index copy.1) handed h c e moved

    -- a handle that was carried with its value
    pub opened_value_is : (pair : Pair) → is_carried (past_of left l) a pair ≡ true → copy_value (past_of right r) a pair.handle ≡ pair.value
    opened_value_is pair h = by (carry_of (past_of left l) a pair.handle) refl h
      where
        moved : (c : Carry) → is_arrived (carry_fate (past_of left l) a c) ≡ true → (k : ℕ) → c.packet ≡ Some k → is_among k (moved_of (past_of left l)) ≡ true
        moved c q k e =
            sym (arrived_is_moved (past_of left l) k)
            ∙ sym (ap (λ (o : Option ℕ). is_arrived (carry_fate (past_of left l) a (record { packet = o; value = c.value }))) e) ∙ q

        by : (o : Option Carry) → carry_of (past_of left l) a pair.handle ≡ o → has_arrived_with (past_of left l) a pair o ≡ true → copy_value (past_of right r) a pair.handle ≡ pair.value
        by None e q = absurd (false≢true q)
        by (Some c) e q =
            let p = and_parts (is_arrived (carry_fate (past_of left l) a c)) (int_eq c.value pair.value) q in
            opened_carry_is pair.handle c e (moved c p.0) ∙ (Decides-int_eq c.value pair.value).0 p.1

-- ---- settled actors

-- what a test says of a whole list it says of each item
pub all_of_list : (test : Pair → Bool) (before : List Pair) (pair : Pair) (after : List Pair) → list_all test (before ++ pair ∷ after) ≡ true → test pair ≡ true
all_of_list test [] pair after h = (and_parts (test pair) (list_all test after) h).0
all_of_list test (p ∷ before) pair after h = all_of_list test before pair after (and_parts (test p) (list_all test (before ++ pair ∷ after)) h).1

-- each settled actor is copied
pub settled_copied : (table : Table) (story : Story) (p : Player) (segments : List Segment)
    → IsFaithfulTalk (end_of table AtServer p) (end_of table AtClient p) p.server_feed p.client_feed p.number story.edits segments → CopiesSettled table story p
settled_copied table story p segments t a h = by (and_parts (not (has_ended from) && is_relevant table story.edits p.number a) (is_settled_as from seen) h).1
  where
    from : Past
    from = past_at table AtServer p

    seen : Seen
    seen = seen_of table story.edits p.number a

    by : is_settled_as (past_at table AtServer p) (seen_of table story.edits p.number a) ≡ true → IsCopied table story p a
    by s =
        let one = and_parts (is_opened (state_of (past_at table AtServer p) a) && true && is_clear (past_at table AtServer p) (index_of (past_at table AtServer p) a)) (list_all (is_carried (past_at table AtServer p) a) (updatable_pairs (seen_of table story.edits p.number a))) s in
        let two = and_parts (is_opened (state_of (past_at table AtServer p) a) && true) (is_clear (past_at table AtServer p) (index_of (past_at table AtServer p) a)) one.0 in
        let opened = (and_parts (is_opened (state_of (past_at table AtServer p) a)) true two.0).0 in
        record {
          class = opened_class_is (end_of table AtServer p) (end_of table AtClient p) p.server_feed p.client_feed p.number story.edits segments t a opened;
          channel = opened_channel_is (end_of table AtServer p) (end_of table AtClient p) p.server_feed p.client_feed p.number story.edits segments t a opened;
          values = λ pair before after e.
              opened_value_is (end_of table AtServer p) (end_of table AtClient p) p.server_feed p.client_feed p.number story.edits segments t a opened pair
              (all_of_list (is_carried (past_at table AtServer p) a) before pair after (ap (list_all (is_carried (past_at table AtServer p) a)) (sym e) ∙ one.1));
        }
