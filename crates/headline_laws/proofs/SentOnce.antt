-- No unreliable call is sent more often than it was queued.
use Rattle.std.proofs.Common.{◌≡◌, ℕ, zero, suc, ◌+◌, ◌≤◌, List, [], ◌∷◌, ◌++◌, map, fold, length, reverse, Bool, true, false, cond, not, ◌&&◌, ◌||◌, nat_lt, nat_le, refl, sym, ap, ◌∙◌, subst, arith, Option, Some, None, Result, Ok, Err, filter_map, filter}
use Rattle.std.specs.List.{flat_map, range_with_len, count_by, cons_option}
use Rattle.std.proofs.lemmas.Bool.{cond_both}
use Rattle.std.proofs.lemmas.List.Sums.{sum_by-append}
use Rattle.std.proofs.lemmas.List.{reverse-append}
use Rattle.protocol_model.specs.Value.{Pair, Arg, Call}
use Rattle.protocol_model.specs.Payload.{Message, Closes, Gone, Calls, parts_of}
use Rattle.protocol_model.specs.Packet.{Bunch, Packet}
use Rattle.protocol_model.specs.Sight.{Seen}
use Rattle.protocol_model.specs.declared.CallAnswer.{CallAnswer}
use Rattle.protocol_model.specs.declared.CallAnswer.TheVariants.{Queued, Dead, NotOpen, NotOwner, WindowFull}
use Rattle.connection_model.specs.Feed.{End, Event, Tick, Got, Past, Deed, Ticked, Made, Waits, Sent, Took, Ended, ByStall, ByCause, Told, Acked, Heard, Item, Owed, Carries, Loose, Delivered, Entry, has_ended, tick_count, sight_of, seen_in, deeds_since_tick}
use Rattle.connection_model.specs.Feed as events
use Rattle.connection_model.specs.Bunches.{made_count, room, after_making}
use Rattle.connection_model.specs.State.{state_of, index_of, is_open, is_opened, is_asleep, free_index, opened_actors}
use Rattle.connection_model.specs.Carry.{due_pairs}
use Rattle.connection_model.specs.CallAnswers.{call_channel, call_of, waiting_of, waits_in, answer_of, queued_for, after_answer}
use Rattle.connection_model.specs.Handed.{Asked, asked_in}
use Rattle.connection_model.specs.Items.{first_items, due_on, due_items, carrying_item, call_item, loose_item, wants_open, open_message, update_message, update_pairs, actors_by_score}
use Rattle.std.specs.Prelude.{unsigned_abs}
use Rattle.std.proofs.Common.{option_map}
use Rattle.protocol_model.specs.Payload.{actor_of}
use Rattle.protocol_model.specs.Search.{newest_of}
use Rattle.protocol_model.specs.PacketReading.{packet_of}
use Rattle.protocol_model.specs.Side.{Side}
use Rattle.protocol_model.specs.declared.Why.{Why}
use Rattle.protocol_model.specs.declared.Cause.{Cause}
use Rattle.protocol_model.specs.declared.Cause.TheVariants.{BadChannel}
use Rattle.connection_model.specs.Bunches.{channels_of, is_due}
use Rattle.connection_model.specs.Fates.{unresolved_count, owed_of, number_near, is_new}
use Rattle.connection_model.specs.Items.{made_as}
use Rattle.connection_model.specs.Past.{past_of}
use Rattle.connection_model.specs.Verdict.{Progress, is_misplaced, with_handed, with_told, bunch_result, bunches_result, reliable_result, bunch_heard, entry_result, after_entries, entries_in, after_packet, after_reading, after_got}
use Rattle.connection_model.specs.Windows.{Received, received_on, offer_of, number_as, Offer, Repeat, Ready, Held, ready_bunches, applied_of, kept_of}
use Rattle.connection_model.specs.Settled.{is_settled_as}
use Rattle.connection_model.specs.Pack.{Packing, is_shown, idle_ticks, made_if_room, after_close, after_closes, fits_current, has_room, items_with, after_offer, part_item, after_open, after_update, after_actor, packing_of, packets_to_send, after_sending, after_stall, after_packing, after_tick, owes_head, is_silent}
use Rattle.connection_laws.proofs.Moves.{making_keeps}
use Rattle.headline_laws.specs.Once.{loosely_queued_in, loosely_queued, loosely_sent_by, loosely_sent}

module _ (t : Asked → Bool) where
  -- ---- counts

  abbrev pub count : List Asked → ℕ
  count xs = count_by t xs

  pub count_both : (xs ys : List Asked) → count (xs ++ ys) ≡ count xs + count ys
  count_both xs ys = sum_by-append (λ (x : Asked). cond (t x) 1 0) xs ys

  pub count_reverse : (xs : List Asked) → count (reverse xs) ≡ count xs
  count_reverse [] = refl
  count_reverse (x ∷ xs) = ap count (reverse-append (x ∷ []) xs) ∙ count_both (reverse xs) (x ∷ []) ∙ ap (λ (n : ℕ). n + count (x ∷ [])) (count_reverse xs) ∙ turned ∙ sym (count_both (x ∷ []) xs)
    where
      turned : count xs + count (x ∷ []) ≡ count (x ∷ []) + count xs
      turned = omega arith

  -- one call, if it is one
  abbrev pub passes : Option Asked → ℕ
  passes o = count (cons_option o [])

  pub count_option : (o : Option Asked) (xs : List Asked) → count (cons_option o xs) ≡ passes o + count xs
  count_option None xs = omega arith
  count_option (Some x) xs = count_both (x ∷ []) xs

  abbrev pub of_items : List Item → ℕ
  of_items items = count (filter_map loosely_sent_by items)

  one_item : (item : Item) (items : List Item) → of_items (item ∷ items) ≡ passes (loosely_sent_by item) + of_items items
  one_item item items = count_option (loosely_sent_by item) (filter_map loosely_sent_by items)

  both_items : (xs ys : List Item) → of_items (xs ++ ys) ≡ of_items xs + of_items ys
  both_items [] ys = omega arith
  both_items (x ∷ xs) ys = omega (arith, one_item x (xs ++ ys), one_item x xs, both_items xs ys)

  abbrev pub of_packets : List (List Item) → ℕ
  of_packets [] = 0
  of_packets (items ∷ packets) = of_items items + of_packets packets

  packets_both : (xs ys : List (List Item)) → of_packets (xs ++ ys) ≡ of_packets xs + of_packets ys
  packets_both [] ys = omega arith
  packets_both (x ∷ xs) ys = omega (arith, packets_both xs ys)

  packets_reverse : (xs : List (List Item)) → of_packets (reverse xs) ≡ of_packets xs
  packets_reverse [] = refl
  packets_reverse (x ∷ xs) =
      let turned : of_packets (reverse xs ++ x ∷ []) ≡ of_items x + of_packets xs = omega (arith, packets_both (reverse xs) (x ∷ []), packets_reverse xs) in
      ap of_packets (reverse-append (x ∷ []) xs) ∙ turned

  -- ---- the past

  abbrev pub queued : Past → ℕ
  queued past = count (filter_map loosely_queued_in past)

  abbrev pub sent : Past → ℕ
  sent past = count (loosely_sent past)

  abbrev pub waiting : Past → ℕ
  waiting past = queued (deeds_since_tick past)

  -- what is sent and what waits was queued
  pub record Counted (past : Past) : Type 0 where
    pub most : sent past + waiting past ≤ queued past

  -- a past with as many
  pub record Same (past now : Past) : Type 0 where
    pub sends : sent now ≡ sent past
    pub waits : waiting now ≡ waiting past
    pub queues : queued now ≡ queued past

  same_again : (a b c : Past) → Same a b → Same b c → Same a c
  same_again a b c f g = record { sends = g.sends ∙ f.sends; waits = g.waits ∙ f.waits; queues = g.queues ∙ f.queues }

  same_itself : (past : Past) → Same past past
  same_itself past = record { sends = refl; waits = refl; queues = refl }

  same_made : (past : Past) (ch : ℕ) (m : Message) → Same past (after_making past ch m)
  same_made past ch m = making_keeps (λ i now. Same past now) past ch m (same_itself past) (λ i now lt h. record { sends = h.sends; waits = h.waits; queues = h.queues })

  -- ---- closes

  same_if_room : (past : Past) (o : Option ℕ) (m : Message) → Same past (made_if_room past o m)
  same_if_room past None m = same_itself past
  same_if_room past (Some ch) m = cond_both (nat_lt 0 (room past ch)) (after_making past ch m) past (Same past) (λ e. same_made past ch m) (λ e. same_itself past)

  same_close : (past : Past) (a : ℕ) → Same past (after_close past a)
  same_close past a =
      let seen : Option Seen = seen_in (sight_of past) a in
      cond_both (is_open (state_of past a) && (is_shown (λ s. s.destroyed) seen || nat_le 5 (idle_ticks past a))) (made_if_room past (index_of past a) (Closes a false))
      (cond (is_shown (λ s. s.dormant && is_settled_as past s) seen) (made_if_room past (index_of past a) (Closes a true))
      (cond (is_asleep (state_of past a) && is_shown (λ s. s.destroyed) seen) (made_if_room past (Some 0) (Gone a)) past))
      (Same past) (λ e. same_if_room past (index_of past a) (Closes a false))
      (λ e. cond_both (is_shown (λ s. s.dormant && is_settled_as past s) seen) (made_if_room past (index_of past a) (Closes a true))
      (cond (is_asleep (state_of past a) && is_shown (λ s. s.destroyed) seen) (made_if_room past (Some 0) (Gone a)) past)
      (Same past) (λ e. same_if_room past (index_of past a) (Closes a true))
      (λ e. cond_both (is_asleep (state_of past a) && is_shown (λ s. s.destroyed) seen) (made_if_room past (Some 0) (Gone a)) past (Same past)
      (λ e. same_if_room past (Some 0) (Gone a)) (λ e. same_itself past)))

  same_closes : (past now : Past) (actors : List ℕ) → Same past now → Same past (fold after_close now actors)
  same_closes past now [] h = h
  same_closes past now (a ∷ actors) h = same_closes past (after_close now a) actors (same_again past now (after_close now a) h (same_close now a))

  -- ---- what is packed

  -- the packing holds at most so many calls over the past
  pub record Holds (past : Past) (most : ℕ) (p : Packing) : Type 0 where
    pub same : Same past p.past
    pub few : of_packets p.packets ≤ most

  items_with_few : (packets : List (List Item)) (b : Bool) (item : Item) → of_packets (items_with packets b item) ≡ of_packets packets + passes (loosely_sent_by item)
  items_with_few [] true item = omega (arith, one_item item [])
  items_with_few [] false item = omega (arith, one_item item [])
  items_with_few (current ∷ packets) true item = omega (arith, both_items current (item ∷ []), one_item item [])
  items_with_few (current ∷ packets) false item = omega (arith, one_item item [])

  offer_holds : (end : End) (past : Past) (most : ℕ) (p : Packing) (item : Item) → Holds past most p → Holds past (most + passes (loosely_sent_by item)) (after_offer end p item)
  offer_holds end past most p item h =
      cond_both p.full p _ (Holds past (most + passes (loosely_sent_by item))) (λ e. stays)
      (λ e. cond_both (has_room end p item) (record p { packets = items_with p.packets (fits_current end p.past p.packets item) item }) (record p { full = true })
      (Holds past (most + passes (loosely_sent_by item))) (λ e. more) (λ e. record { same = h.same; few = omega (arith, h.few) }))
    where
      stays : Holds past (most + passes (loosely_sent_by item)) p
      stays = record { same = h.same; few = omega (arith, h.few) }

      more : Holds past (most + passes (loosely_sent_by item)) (record p { packets = items_with p.packets (fits_current end p.past p.packets item) item })
      more = record { same = h.same; few = omega (arith, h.few, items_with_few p.packets (fits_current end p.past p.packets item) item) }

  offers_hold : (end : End) (past : Past) (most : ℕ) (p : Packing) (items : List Item) → Holds past most p → Holds past (most + of_items items) (fold (after_offer end) p items)
  offers_hold end past most p [] h = subst (λ (n : ℕ). Holds past n p) (let e : most ≡ most + of_items [] = omega arith in e) h
  offers_hold end past most p (item ∷ items) h =
      subst (λ (n : ℕ). Holds past n (fold (after_offer end) p (item ∷ items)))
      (let e : (most + passes (loosely_sent_by item)) + of_items items ≡ most + of_items (item ∷ items) = omega (arith, one_item item items) in e)
      (offers_hold end past (most + passes (loosely_sent_by item)) (after_offer end p item) items (offer_holds end past most p item h))

  parts_none : (ch first : ℕ) (m : Message) (number from : ℕ) → of_items (map (part_item ch first m) (range_with_len from number)) ≡ 0
  parts_none ch first m zero from = refl
  parts_none ch first m (suc number) from = parts_none ch first m number (from + 1)

  open_holds : (end : End) (past : Past) (most : ℕ) (p : Packing) (ch : ℕ) (m : Message) → Holds past most p → Holds past most (after_open end p ch m)
  open_holds end past most p ch m h =
      cond_both (nat_lt (room p.past ch) (parts_of m)) p _ (Holds past most) (λ e. h)
      (λ e. cond_both (not (has_room end p (part_item ch (made_count p.past ch + 1) m 0))) (record p { full = true }) _ (Holds past most)
      (λ e. record { same = h.same; few = h.few }) (λ e. made))
    where
      made : Holds past most (fold (after_offer end) (record p { past = after_making p.past ch m }) (map (part_item ch (made_count p.past ch + 1) m) (range_with_len 0 (parts_of m))))
      made =
          subst (λ (n : ℕ). Holds past n (fold (after_offer end) (record p { past = after_making p.past ch m }) (map (part_item ch (made_count p.past ch + 1) m) (range_with_len 0 (parts_of m)))))
          (let e : most + of_items (map (part_item ch (made_count p.past ch + 1) m) (range_with_len 0 (parts_of m))) ≡ most = omega (arith, parts_none ch (made_count p.past ch + 1) m (parts_of m) 0) in e)
          (offers_hold end past most (record p { past = after_making p.past ch m }) (map (part_item ch (made_count p.past ch + 1) m) (range_with_len 0 (parts_of m)))
          (record { same = same_again past p.past (after_making p.past ch m) h.same (same_made p.past ch m); few = h.few }))

  update_holds : (end : End) (past : Past) (most : ℕ) (p : Packing) (seen : Seen) (o : Option ℕ) (due : List Pair) → Holds past most p → Holds past most (after_update end p seen o due)
  update_holds end past most p seen None due h = h
  update_holds end past most p seen (Some ch) [] h = h
  update_holds end past most p seen (Some ch) (pair ∷ due) h =
      subst (λ (n : ℕ). Holds past n (after_update end p seen (Some ch) (pair ∷ due))) (let e : most + 0 ≡ most = omega arith in e)
      (offer_holds end past most p (loose_item (update_message seen (update_pairs seen (pair ∷ due))) ch) h)

  actor_holds : (end : End) (past : Past) (most : ℕ) (p : Packing) (seen : Seen) → Holds past most p → Holds past most (after_actor end p seen)
  actor_holds end past most p seen h =
      cond_both p.full p _ (Holds past most) (λ e. h)
      (λ e. cond_both (wants_open p.past seen) (after_open end p (free_index p.past) (open_message p.past seen)) _ (Holds past most)
      (λ e. open_holds end past most p (free_index p.past) (open_message p.past seen) h)
      (λ e. cond_both (is_opened (state_of p.past seen.actor)) (after_update end p seen (index_of p.past seen.actor) (due_pairs p.past seen)) p (Holds past most)
      (λ e. update_holds end past most p seen (index_of p.past seen.actor) (due_pairs p.past seen) h) (λ e. h)))

  actors_hold : (end : End) (past : Past) (most : ℕ) (p : Packing) (actors : List Seen) → Holds past most p → Holds past most (fold (after_actor end) p actors)
  actors_hold end past most p [] h = h
  actors_hold end past most p (seen ∷ actors) h = actors_hold end past most (after_actor end p seen) actors (actor_holds end past most p seen h)

  -- ---- the first items

  owed_none : (ns : List ℕ) → of_items (map (λ (n : ℕ). Owed n) ns) ≡ 0
  owed_none [] = refl
  owed_none (n ∷ ns) = owed_none ns

  carried_none : (ch n : ℕ) (o : Option Bunch) (items : List Item) → of_items (cons_option (option_map (λ (b : Bunch). Carries ch n b) o) items) ≡ of_items items
  carried_none ch n None items = refl
  carried_none ch n (Some b) items = refl

  numbers_none : (past : Past) (ch : ℕ) (ns : List ℕ) → of_items (filter_map (carrying_item past ch) ns) ≡ 0
  numbers_none past ch [] = refl
  numbers_none past ch (n ∷ ns) = carried_none ch n (newest_of (made_as ch n) past) (filter_map (carrying_item past ch) ns) ∙ numbers_none past ch ns

  due_none : (past : Past) (chs : List ℕ) → of_items (flat_map (due_on past) chs) ≡ 0
  due_none past [] = refl
  due_none past (ch ∷ chs) =
      omega (arith, both_items (due_on past ch) (flat_map (due_on past) chs), numbers_none past ch (filter (is_due past ch) (range_with_len 1 (made_count past ch))), due_none past chs)

  abbrev pub of_messages : List Message → ℕ
  of_messages ms = count (filter_map asked_in ms)

  one_message : (m : Message) (ms : List Message) → of_messages (m ∷ ms) ≡ passes (asked_in m) + of_messages ms
  one_message m ms = count_option (asked_in m) (filter_map asked_in ms)

  both_messages : (xs ys : List Message) → of_messages (xs ++ ys) ≡ of_messages xs + of_messages ys
  both_messages [] ys = omega arith
  both_messages (x ∷ xs) ys = omega (arith, one_message x (xs ++ ys), one_message x xs, both_messages xs ys)

  pub messages_reverse : (xs : List Message) → of_messages (reverse xs) ≡ of_messages xs
  messages_reverse [] = refl
  messages_reverse (x ∷ xs) =
      let turned : of_messages (reverse xs ++ x ∷ []) ≡ of_messages (x ∷ xs) = omega (arith, both_messages (reverse xs) (x ∷ []), messages_reverse xs, one_message x xs, one_message x []) in
      ap of_messages (reverse-append (x ∷ []) xs) ∙ turned

  call_few : (m : Message) (o : Option ℕ) (items : List Item) (ms : List Message) → of_items items ≤ of_messages ms → of_items (cons_option (option_map (loose_item m) o) items) ≤ of_messages (m ∷ ms)
  call_few m None items ms h = omega (arith, h, one_message m ms)
  call_few m (Some ch) items ms h = omega (arith, h, one_message m ms, one_item (loose_item m ch) items)

  calls_few : (side : Side) (past : Past) (ms : List Message) → of_items (filter_map (call_item side past) ms) ≤ of_messages ms
  calls_few side past [] = omega arith
  calls_few side past (m ∷ ms) = call_few m (call_channel side past (actor_of m)) (filter_map (call_item side past) ms) ms (calls_few side past ms)

  waits_are : (deeds : Past) → of_messages (filter_map waits_in deeds) ≡ queued deeds
  waits_are [] = refl
  waits_are (Ticked n s ∷ deeds) = waits_are deeds
  waits_are (Made c n m i ∷ deeds) = waits_are deeds
  waits_are (Sent n k items ∷ deeds) = waits_are deeds
  waits_are (Took n es ds ∷ deeds) = waits_are deeds
  waits_are (Ended g ∷ deeds) = waits_are deeds
  waits_are (Waits m ∷ deeds) = omega (arith, one_message m (filter_map waits_in deeds), count_option (asked_in m) (filter_map loosely_queued_in deeds), waits_are deeds)

  first_few : (end : End) (before now : Past) → of_items (first_items end before now) ≤ waiting before
  first_few end before now =
      omega (
        arith,
        both_items (map (λ (n : ℕ). Owed n) (owed_of end.version before) ++ due_items now) (filter_map (call_item end.side now) (waiting_of before)),
        both_items (map (λ (n : ℕ). Owed n) (owed_of end.version before)) (due_items now),
        owed_none (owed_of end.version before),
        due_none now (channels_of now),
        calls_few end.side now (waiting_of before),
        messages_reverse (filter_map waits_in (deeds_since_tick before)),
        waits_are (deeds_since_tick before),
      )

  packing_holds : (end : End) (past before now : Past) → Same past now → Holds past (0 + of_items (first_items end before now)) (packing_of end before now)
  packing_holds end past before now same =
      actors_hold end past (0 + of_items (first_items end before now)) (fold (after_offer end) (record { past = now; packets = []; full = false }) (first_items end before now)) (actors_by_score now)
      (offers_hold end past 0 (record { past = now; packets = []; full = false }) (first_items end before now) (record { same = same; few = omega arith }))

  -- ---- what is sent

  pub record Sends (past now : Past) (most : ℕ) : Type 0 where
    pub sends : sent now ≤ sent past + most
    pub waits : waiting now ≡ waiting past
    pub queues : queued now ≡ queued past

  sends_same : (a b c : Past) (most : ℕ) → Same a b → Sends b c most → Sends a c most
  sends_same a b c most f g = record { sends = omega (arith, f.sends, g.sends); waits = g.waits ∙ f.waits; queues = g.queues ∙ f.queues }

  packets_send : (past : Past) (packets : List (List Item)) → Sends past (fold after_sending past packets) (of_packets packets)
  packets_send past [] = record { sends = omega arith; waits = refl; queues = refl }
  packets_send past (items ∷ packets) =
      let later = packets_send (after_sending past items) packets in
      record {
        sends = omega (arith, later.sends, count_both (filter_map loosely_sent_by items) (loosely_sent past));
        waits = later.waits;
        queues = later.queues;
      }

  to_send_few : (end : End) (before : Past) (p : Packing) → of_packets (packets_to_send end before p) ≤ of_packets p.packets
  to_send_few end before p =
      cond_both (nat_lt 0 (length p.packets)) (reverse p.packets) (cond (owes_head end.version before || is_silent p.past) ([] ∷ []) []) (λ (packets : List (List Item)). of_packets packets ≤ of_packets p.packets)
      (λ e. omega (arith, packets_reverse p.packets))
      (λ e. cond_both (owes_head end.version before || is_silent p.past) ([] ∷ []) [] (λ (packets : List (List Item)). of_packets packets ≤ of_packets p.packets) (λ e. omega arith) (λ e. omega arith))

  stall_sends : (past now : Past) (most : ℕ) → Sends past now most → Sends past (after_stall now) most
  stall_sends past now most h =
      cond_both (nat_le 4096 (unresolved_count now)) (Ended ByStall ∷ now) now (λ (p : Past). Sends past p most) (λ e. record { sends = h.sends; waits = h.waits; queues = h.queues }) (λ e. h)

  same_counted : (past now : Past) → Same past now → Counted past → Counted now
  same_counted past now f h = record { most = omega (arith, f.sends, f.waits, f.queues, h.most) }

  tick_counted : (end : End) (past : Past) (sight : List Seen) → Counted past → Counted (after_tick end past sight)
  tick_counted end past sight h =
      cond_both (has_ended past) past (after_packing end past (packing_of end past (after_closes begin))) Counted (λ e. h) (λ e. ticked)
    where
      begin : Past
      begin = Ticked (tick_count past + 1) sight ∷ past

      q : Packing
      q = packing_of end past (after_closes begin)

      ticked : Counted (after_packing end past (packing_of end past (after_closes (Ticked (tick_count past + 1) sight ∷ past))))
      ticked =
          let first : Past = Ticked (tick_count past + 1) sight ∷ past in
          let packing : Packing = packing_of end past (after_closes first) in
          let holds = packing_holds end first past (after_closes first) (same_closes first first (opened_actors first) (same_itself first)) in
          let all = stall_sends first (fold after_sending packing.past (packets_to_send end past packing)) (of_packets (packets_to_send end past packing))
          (sends_same first packing.past (fold after_sending packing.past (packets_to_send end past packing)) (of_packets (packets_to_send end past packing)) holds.same (packets_send packing.past (packets_to_send end past packing))) in
          record { most = omega (arith, all.sends, all.waits, all.queues, holds.few, to_send_few end past packing, first_few end past (after_closes first), h.most) }

  -- ---- calls

  queued_counted : (past : Past) (a n : ℕ) (args : List Arg) (o : Option ℕ) (c : Option Call) → Counted past → Counted (queued_for past a n args o c)
  queued_counted past a n args None c h = h
  queued_counted past a n args (Some ch) None h = h
  queued_counted past a n args (Some ch) (Some call) h =
      cond_both call.reliable (after_making past ch (Calls a n call args)) (Waits (Calls a n call args) ∷ past) Counted (λ e. same_counted past (after_making past ch (Calls a n call args)) (same_made past ch (Calls a n call args)) h)
      (λ e. record { most = omega (arith, h.most, count_option (asked_in (Calls a n call args)) (filter_map loosely_queued_in past), count_option (asked_in (Calls a n call args)) (filter_map loosely_queued_in (deeds_since_tick past))) })

  answer_counted : (side : Side) (past : Past) (a n : ℕ) (args : List Arg) (answer : CallAnswer) → Counted past → Counted (after_answer side past a n args answer)
  answer_counted side past a n args Queued h = queued_counted past a n args (call_channel side past a) (call_of side past a n args) h
  answer_counted side past a n args Dead h = h
  answer_counted side past a n args NotOpen h = h
  answer_counted side past a n args NotOwner h = h
  answer_counted side past a n args WindowFull h = h

  -- ---- datagrams

  same_handed : (d : Delivered) (past : Past) → Same past (with_handed d past)
  same_handed d [] = same_itself []
  same_handed d (Took n es ds ∷ past) = record { sends = refl; waits = refl; queues = refl }
  same_handed d (Ticked n s ∷ past) = same_itself (Ticked n s ∷ past)
  same_handed d (Made c n m i ∷ past) = same_itself (Made c n m i ∷ past)
  same_handed d (Waits m ∷ past) = same_itself (Waits m ∷ past)
  same_handed d (Sent n k items ∷ past) = same_itself (Sent n k items ∷ past)
  same_handed d (Ended g ∷ past) = same_itself (Ended g ∷ past)

  same_told : (entry : Entry) (past : Past) → Same past (with_told entry past)
  same_told entry [] = same_itself []
  same_told entry (Took n es ds ∷ past) = record { sends = refl; waits = refl; queues = refl }
  same_told entry (Ticked n s ∷ past) = same_itself (Ticked n s ∷ past)
  same_told entry (Made c n m i ∷ past) = same_itself (Made c n m i ∷ past)
  same_told entry (Waits m ∷ past) = same_itself (Waits m ∷ past)
  same_told entry (Sent n k items ∷ past) = same_itself (Sent n k items ∷ past)
  same_told entry (Ended g ∷ past) = same_itself (Ended g ∷ past)

  abbrev step : End → Past → (kept : List Bunch) → Bunch → List Bunch → Result (Option Delivered) Cause → Progress
  step end past kept b bunches (Err cause) = record { past = past; cause = Some cause }
  step end past kept b bunches (Ok None) = bunches_result end past (b ∷ kept) bunches
  step end past kept b bunches (Ok (Some d)) = bunches_result end (with_handed d past) [] bunches

  same_step : (end : End) (start past : Past) (kept : List Bunch) (b : Bunch) (bunches : List Bunch) → ((now : Past) (kept : List Bunch) → Same start now → Same start (bunches_result end now kept bunches).past)
      → Same start past → (r : Result (Option Delivered) Cause) → Same start (step end past kept b bunches r).past
  same_step end start past kept b bunches rest h (Err cause) = h
  same_step end start past kept b bunches rest h (Ok None) = rest past (b ∷ kept) h
  same_step end start past kept b bunches rest h (Ok (Some d)) = rest (with_handed d past) [] (same_again start past (with_handed d past) h (same_handed d past))

  same_bunches : (end : End) (start past : Past) (kept bunches : List Bunch) → Same start past → Same start (bunches_result end past kept bunches).past
  same_bunches end start past kept [] h = h
  same_bunches end start past kept (b ∷ bunches) h =
      same_step end start past kept b bunches (λ now k s. same_bunches end start now k bunches s) h (bunch_result end past kept b)

  same_reliable : (end : End) (past : Past) (b : Bunch) (got : List Received) (offer : Offer) → Same past (reliable_result end past b got offer).past
  same_reliable end past b got Repeat = same_itself past
  same_reliable end past b got (Held n) = same_itself past
  same_reliable end past b got Ready = same_bunches end past past (kept_of (applied_of got)) (ready_bunches got b) (same_itself past)

  same_heard : (end : End) (past : Past) (b : Bunch) → Same past (bunch_heard end past b).past
  same_heard end past b =
      cond_both (is_misplaced end.side b) (record { past = past; cause = Some (BadChannel b.channel) })
      (cond b.reliable (reliable_result end past b (received_on past b.channel) (offer_of (received_on past b.channel) (number_as (received_on past b.channel) b))) (bunches_result end past (kept_of (applied_of (received_on past b.channel))) (b ∷ [])))
      (λ (p : Progress). Same past p.past) (λ e. same_itself past)
      (λ e. cond_both b.reliable (reliable_result end past b (received_on past b.channel) (offer_of (received_on past b.channel) (number_as (received_on past b.channel) b))) (bunches_result end past (kept_of (applied_of (received_on past b.channel))) (b ∷ []))
      (λ (p : Progress). Same past p.past) (λ e. same_reliable end past b (received_on past b.channel) (offer_of (received_on past b.channel) (number_as (received_on past b.channel) b)))
      (λ e. same_bunches end past past (kept_of (applied_of (received_on past b.channel))) (b ∷ []) (same_itself past)))

  same_entry : (end : End) (past : Past) (entry : Entry) → Same past (entry_result end past entry).past
  same_entry end past (Heard b) = same_heard end past b
  same_entry end past (Acked n) = same_itself past
  same_entry end past (Told h) = same_itself past

  same_after : (start : Past) (o : Option Cause) (past : Past) (next : Past → Past) → Same start past → ((now : Past) → Same start now → Same start (next now)) → Same start (elim o [ None ↦ next past | Some cause ↦ Ended (ByCause cause) ∷ past ])
  same_after start None past next h rest = rest past h
  same_after start (Some cause) past next h rest = record { sends = h.sends; waits = h.waits; queues = h.queues }

  same_entries : (end : End) (start past : Past) (entries : List Entry) → Same start past → Same start (after_entries end past entries)
  same_entries end start past [] h = h
  same_entries end start past (entry ∷ more) h =
      same_after start (entry_result end past entry).cause (entry_result end past entry).past (λ later. after_entries end (with_told entry later) more)
      (same_again start past (entry_result end past entry).past h (same_entry end past entry))
      (λ now s. same_entries end start (with_told entry now) more (same_again start now (with_told entry now) s (same_told entry now)))

  same_reading : (end : End) (past : Past) (r : Result Packet (ℕ × Why)) → Same past (after_reading end past r)
  same_reading end past (Err bad) = same_itself past
  same_reading end past (Ok p) =
      cond_both (is_new past p.number) (after_packet end past p) past (Same past)
      (λ e. same_entries end past (Took (unsigned_abs (number_near past p.number)) [] [] ∷ past) (entries_in end.version p) (record { sends = refl; waits = refl; queues = refl }))
      (λ e. same_itself past)

  same_got : (end : End) (past : Past) (bytes : List ℕ) → Same past (after_got end past bytes)
  same_got end past bytes = cond_both (has_ended past) past (after_reading end past (packet_of end.version bytes)) (Same past) (λ e. same_itself past) (λ e. same_reading end past (packet_of end.version bytes))

  -- ---- all of it

  pub feed_counted : (end : End) (feed : List Event) → Counted (past_of end feed)
  feed_counted end [] = record { most = omega arith }
  feed_counted end (Tick sight ∷ feed) = tick_counted end (past_of end feed) sight (feed_counted end feed)
  feed_counted end (Got bytes ∷ feed) = same_counted (past_of end feed) (after_got end (past_of end feed) bytes) (same_got end (past_of end feed) bytes) (feed_counted end feed)
  feed_counted end (events.Call a n args ∷ feed) = answer_counted end.side (past_of end feed) a n args (answer_of end.side (past_of end feed) a n args) (feed_counted end feed)

  pub sent_once : (end : End) (feed : List Event) → count_by t (loosely_sent (past_of end feed)) ≤ count_by t (loosely_queued (past_of end feed))
  sent_once end feed = omega (arith, (feed_counted end feed).most, count_reverse (filter_map loosely_queued_in (past_of end feed)))
