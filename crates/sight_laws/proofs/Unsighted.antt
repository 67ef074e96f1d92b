-- What looks at no sight is the same in pasts that differ by their sights alone.
use Rattle.std.proofs.Common.{◌≡◌, ℕ, suc, List, [], ◌∷◌, ◌++◌, reverse, take, filter, unwrap_or, Bool, true, false, not, cond, ◌&&◌, ◌||◌, ◌==◌, refl, sym, ap, ◌∙◌, arith, Option, Some, None, option_map}
use Rattle.std.specs.List.{filter_map, flat_map, cons_option, list_any, list_all, slice_get, range_with_len}
use Rattle.protocol_model.specs.Value.{Class, Pair, Segment, value_among}
use Rattle.protocol_model.specs.Packet.{Bunch}
use Rattle.protocol_model.specs.Payload.{Opens, Closes, Updates, Calls, Gone}
use Rattle.protocol_model.specs.Search.{newest_of, or_else, items_since, greatest_of, ascending_numbers}
use Rattle.protocol_model.specs.Sight.{Seen}
use Rattle.protocol_model.specs.declared.Version.{Version}
use Rattle.protocol_model.specs.declared.Version.TheVariants.{One, Two}
use Rattle.protocol_model.specs.declared.Fate.{Fate}
use Rattle.protocol_model.specs.Limits.{owed_limit}
use Rattle.connection_model.specs.Feed.{Past, Deed, Ticked, Made, Waits, Sent, Took, Ended, Item, has_ended, tick_count, deeds_since_tick}
use Rattle.connection_model.specs.Fates.{taken_in, taken_of, top_of, entries_in, entries_of, moved_by, moved_of, high_of, sent_in, last_sent, unresolved_count, top_when, head_of, fate_of, owed_of}
use Rattle.connection_model.specs.Bunches.{made_on, made_count, channel_in, channels_of, carrier_in, is_due}
use Rattle.connection_model.specs.State.{ActorState, Mark, mark_in, last_mark, state_of, is_opened, index_of, opened_in, opened_actors, open_class_in, opened_class, free_index}
use Rattle.connection_model.specs.Carry.{Carry, update_carry, is_open_of, open_values_in, open_values, carry_in, carry_of, carry_fate, is_due_after, is_due_pair, updatable_pairs, due_pairs, has_arrived_with, is_carried}
use Rattle.connection_model.specs.Exports.{made_known, is_known, needed_segments}
use Rattle.connection_model.specs.Items.{made_as, carrying_item, due_on, due_items, last_service, is_open_made, is_update_of}
use Rattle.connection_model.specs.Settled.{is_clear, is_settled_as}
use Rattle.connection_model.specs.CallAnswers.{waits_in, waiting_of}
use Rattle.connection_model.specs.Copies.{handed_in, delivered_of}
use Rattle.connection_model.specs.Pack.{last_packet_in, is_silent}
use Rattle.connection_laws.proofs.Arrivals.{arrival_same}
use Rattle.connection_laws.proofs.ActorMarks.{SameArrivals, state_same, index_same}
use Rattle.packing_laws.proofs.Sendings.{free_index_same, head_same}
use Rattle.channel_laws.specs.Alike.{Alike}
use Rattle.channel_laws.proofs.Alike.{same_span, same_due}
use Rattle.sender_laws.proofs.Views.{known_in}
use Rattle.sight_laws.specs.Differing.{but_sights}

-- ---- one past

-- what looks at no sight finds the same without them
sights_ignored : {B : Type 0} (f : Deed → Option B) → ((t : ℕ) (s : List Seen) → f (Ticked t []) ≡ f (Ticked t s))
    → (past : Past) → filter_map f (but_sights past) ≡ filter_map f past
sights_ignored f h [] = refl
sights_ignored f h (Ticked t s ∷ past) =
    ap (λ o. cons_option o (filter_map f (but_sights past))) (h t s)
    ∙ ap (cons_option (f (Ticked t s))) (sights_ignored f h past)
sights_ignored f h (Made c n m i ∷ past) = ap (cons_option (f (Made c n m i))) (sights_ignored f h past)
sights_ignored f h (Waits m ∷ past) = ap (cons_option (f (Waits m))) (sights_ignored f h past)
sights_ignored f h (Sent n t items ∷ past) = ap (cons_option (f (Sent n t items))) (sights_ignored f h past)
sights_ignored f h (Took n es ds ∷ past) = ap (cons_option (f (Took n es ds))) (sights_ignored f h past)
sights_ignored f h (Ended g ∷ past) = ap (cons_option (f (Ended g))) (sights_ignored f h past)

sights_ignored_all : {B : Type 0} (f : Deed → List B) → ((t : ℕ) (s : List Seen) → f (Ticked t []) ≡ f (Ticked t s))
    → (past : Past) → flat_map f (but_sights past) ≡ flat_map f past
sights_ignored_all f h [] = refl
sights_ignored_all f h (Ticked t s ∷ past) =
    ap (λ o. o ++ flat_map f (but_sights past)) (h t s)
    ∙ ap (λ o. f (Ticked t s) ++ o) (sights_ignored_all f h past)
sights_ignored_all f h (Made c n m i ∷ past) = ap (λ o. f (Made c n m i) ++ o) (sights_ignored_all f h past)
sights_ignored_all f h (Waits m ∷ past) = ap (λ o. f (Waits m) ++ o) (sights_ignored_all f h past)
sights_ignored_all f h (Sent n t items ∷ past) = ap (λ o. f (Sent n t items) ++ o) (sights_ignored_all f h past)
sights_ignored_all f h (Took n es ds ∷ past) = ap (λ o. f (Took n es ds) ++ o) (sights_ignored_all f h past)
sights_ignored_all f h (Ended g ∷ past) = ap (λ o. f (Ended g) ++ o) (sights_ignored_all f h past)

ended_own : (past : Past) → has_ended (but_sights past) ≡ has_ended past
ended_own [] = refl
ended_own (Ticked t s ∷ past) = ended_own past
ended_own (Made c n m i ∷ past) = ended_own past
ended_own (Waits m ∷ past) = ended_own past
ended_own (Sent n t items ∷ past) = ended_own past
ended_own (Took n es ds ∷ past) = ended_own past
ended_own (Ended g ∷ past) = refl

count_own : (past : Past) → tick_count (but_sights past) ≡ tick_count past
count_own [] = refl
count_own (Ticked t s ∷ past) = ap suc (count_own past)
count_own (Made c n m i ∷ past) = count_own past
count_own (Waits m ∷ past) = count_own past
count_own (Sent n t items ∷ past) = count_own past
count_own (Took n es ds ∷ past) = count_own past
count_own (Ended g ∷ past) = count_own past

since_own : (past : Past) → deeds_since_tick (but_sights past) ≡ deeds_since_tick past
since_own [] = refl
since_own (Ticked t s ∷ past) = refl
since_own (Made c n m i ∷ past) = ap (λ (p : Past). Made c n m i ∷ p) (since_own past)
since_own (Waits m ∷ past) = ap (λ (p : Past). Waits m ∷ p) (since_own past)
since_own (Sent n t items ∷ past) = ap (λ (p : Past). Sent n t items ∷ p) (since_own past)
since_own (Took n es ds ∷ past) = ap (λ (p : Past). Took n es ds ∷ p) (since_own past)
since_own (Ended g ∷ past) = ap (λ (p : Past). Ended g ∷ p) (since_own past)

taken_own : (past : Past) → taken_of (but_sights past) ≡ taken_of past
taken_own past = sights_ignored taken_in (λ t s. refl) past

when_own : (past : Past) (k : ℕ) → top_when (but_sights past) k ≡ top_when past k
when_own [] k = refl
when_own (Ticked t s ∷ past) k = when_own past k
when_own (Made c n m i ∷ past) k = when_own past k
when_own (Waits m ∷ past) k = when_own past k
when_own (Sent n t items ∷ past) k =
    ap (λ (x : ℕ). cond (n == k) x (top_when (but_sights past) k)) (ap greatest_of (taken_own past))
    ∙ ap (λ (x : ℕ). cond (n == k) (top_of past) x) (when_own past k)
when_own (Took n es ds ∷ past) k = when_own past k
when_own (Ended g ∷ past) k = when_own past k

service_own : (past : Past) (a : ℕ) → last_service (but_sights past) a ≡ last_service past a
service_own [] a = refl
service_own (Ticked t s ∷ past) a = service_own past a
service_own (Made c n m i ∷ past) a =
    ap (λ (t : ℕ). cond (is_open_made a m) (Some t) (last_service (but_sights past) a)) (count_own past)
    ∙ ap (λ (o : Option ℕ). cond (is_open_made a m) (Some (tick_count past)) o) (service_own past a)
service_own (Waits m ∷ past) a = service_own past a
service_own (Sent n t items ∷ past) a =
    ap (λ (o : Option ℕ). cond (list_any (is_update_of a) items) (Some t) o) (service_own past a)
service_own (Took n es ds ∷ past) a = service_own past a
service_own (Ended g ∷ past) a = service_own past a

-- what updates carried since the open
updates_own : (past : Past) (a h : ℕ)
    → filter_map (update_carry a h) (items_since (is_open_of a) (but_sights past))
    ≡ filter_map (update_carry a h) (items_since (is_open_of a) past)
updates_own [] a h = refl
updates_own (Ticked t s ∷ past) a h = updates_own past a h
updates_own (Made c n (Opens exports b class values) i ∷ past) a h = by (b == a) (updates_own past a h)
  where
    by : (t : Bool)
        → filter_map (update_carry a h) (items_since (is_open_of a) (but_sights past))
        ≡ filter_map (update_carry a h) (items_since (is_open_of a) past)
        → filter_map (update_carry a h)
        (cond t [] (Made c n (Opens exports b class values) i ∷ items_since (is_open_of a) (but_sights past)))
        ≡ filter_map (update_carry a h)
        (cond t [] (Made c n (Opens exports b class values) i ∷ items_since (is_open_of a) past))
    by true ih = refl
    by false ih = ih
updates_own (Made c n (Closes b sleeps) i ∷ past) a h = updates_own past a h
updates_own (Made c n (Updates b class values) i ∷ past) a h = updates_own past a h
updates_own (Made c n (Calls b number call args) i ∷ past) a h = updates_own past a h
updates_own (Made c n (Gone b) i ∷ past) a h = updates_own past a h
updates_own (Waits m ∷ past) a h = updates_own past a h
updates_own (Sent n t items ∷ past) a h =
    ap (cons_option (update_carry a h (Sent n t items))) (updates_own past a h)
updates_own (Took n es ds ∷ past) a h = updates_own past a h
updates_own (Ended g ∷ past) a h = updates_own past a h

known_own : (past deeds : Past) (g : ℕ)
    → list_any (made_known past g) (but_sights deeds) ≡ list_any (made_known past g) deeds
known_own past [] g = refl
known_own past (Ticked t s ∷ deeds) g = known_own past deeds g
known_own past (Made c n m i ∷ deeds) g =
    ap (λ (b : Bool). made_known past g (Made c n m i) || b) (known_own past deeds g)
known_own past (Waits m ∷ deeds) g = known_own past deeds g
known_own past (Sent n t items ∷ deeds) g = known_own past deeds g
known_own past (Took n es ds ∷ deeds) g = known_own past deeds g
known_own past (Ended e ∷ deeds) g = known_own past deeds g

-- ---- lists of what is the same

pub filter_same : {A : Type 0} (p q : A → Bool) → ((x : A) → p x ≡ q x) → (xs : List A) → filter p xs ≡ filter q xs
filter_same p q h [] = refl
filter_same {A} p q h (x ∷ xs) =
    ap (λ (b : Bool). cond b (x ∷ filter p xs) (filter p xs)) (h x)
    ∙ ap (λ (l : List A). cond (q x) (x ∷ l) l) (filter_same p q h xs)

pub filter_map_same : {A B : Type 0} (f g : A → Option B) → ((x : A) → f x ≡ g x) → (xs : List A)
    → filter_map f xs ≡ filter_map g xs
filter_map_same f g h [] = refl
filter_map_same f g h (x ∷ xs) =
    ap (λ o. cons_option o (filter_map f xs)) (h x) ∙ ap (cons_option (g x)) (filter_map_same f g h xs)

pub flat_map_same : {A B : Type 0} (f g : A → List B) → ((x : A) → f x ≡ g x) → (xs : List A)
    → flat_map f xs ≡ flat_map g xs
flat_map_same f g h [] = refl
flat_map_same f g h (x ∷ xs) =
    ap (λ l. l ++ flat_map f xs) (h x) ∙ ap (λ l. g x ++ l) (flat_map_same f g h xs)

pub list_all_same : {A : Type 0} (p q : A → Bool) → ((x : A) → p x ≡ q x) → (xs : List A)
    → list_all p xs ≡ list_all q xs
list_all_same p q h [] = refl
list_all_same p q h (x ∷ xs) =
    ap (λ (b : Bool). b && list_all p xs) (h x) ∙ ap (λ (b : Bool). q x && b) (list_all_same p q h xs)

-- ---- two pasts

module _ (past other : Past) (e : but_sights other ≡ but_sights past) where
  found : {B : Type 0} (f : Deed → Option B) → ((t : ℕ) (s : List Seen) → f (Ticked t []) ≡ f (Ticked t s))
      → filter_map f other ≡ filter_map f past
  found f h = sym (sights_ignored f h other) ∙ ap (filter_map f) e ∙ sights_ignored f h past

  found_all : {B : Type 0} (f : Deed → List B) → ((t : ℕ) (s : List Seen) → f (Ticked t []) ≡ f (Ticked t s))
      → flat_map f other ≡ flat_map f past
  found_all f h = sym (sights_ignored_all f h other) ∙ ap (flat_map f) e ∙ sights_ignored_all f h past

  pub ended_same : has_ended other ≡ has_ended past
  ended_same = sym (ended_own other) ∙ ap has_ended e ∙ ended_own past

  pub count_same : tick_count other ≡ tick_count past
  count_same = sym (count_own other) ∙ ap tick_count e ∙ count_own past

  pub since_same : deeds_since_tick other ≡ deeds_since_tick past
  since_same = sym (since_own other) ∙ ap deeds_since_tick e ∙ since_own past

  pub waiting_same : waiting_of other ≡ waiting_of past
  waiting_same = ap (λ (p : Past). reverse (filter_map waits_in p)) since_same

  -- packets
  pub taken_same : taken_of other ≡ taken_of past
  taken_same = found taken_in (λ t s. refl)

  pub owed_same : (v : Version) → owed_of v other ≡ owed_of v past
  owed_same One = ap (λ (ds : Past). reverse (take owed_limit (taken_of ds))) since_same
  owed_same Two = refl

  pub entries_same : entries_of other ≡ entries_of past
  entries_same = found_all entries_in (λ t s. refl)

  pub moved_same : moved_of other ≡ moved_of past
  moved_same = ap moved_by entries_same

  pub sent_same : last_sent other ≡ last_sent past
  sent_same = ap greatest_of (found sent_in (λ t s. refl))

  pub fate_same : (n : ℕ) → fate_of other n ≡ fate_of past n
  fate_same n = rw moved_same refl

  pub unresolved_same : unresolved_count other ≡ unresolved_count past
  unresolved_same = rw (sent_same, moved_same) refl

  pub when_same : (n : ℕ) → top_when other n ≡ top_when past n
  when_same n = sym (when_own other n) ∙ ap (λ (p : Past). top_when p n) e ∙ when_own past n

  pub header_same : (v : Version) → head_of v other ≡ head_of v past
  header_same v =
      head_same v past other taken_same
      (ap (λ (ms : List ℕ). top_when other (greatest_of ms)) moved_same ∙ when_same (high_of past))

  pub delivered_same : delivered_of other ≡ delivered_of past
  delivered_same = found_all handed_in (λ t s. refl)

  -- bunches
  pub alike : Alike past other
  alike = record {
    made = record {
      count = λ ch. ap greatest_of (found (made_on ch) (λ t s. refl));
      made = λ ch n. ap (λ bs. slice_get bs 0) (found (made_as ch n) (λ t s. refl));
      channels = found channel_in (λ t s. refl);
      carriers = λ ch n. ap (λ ks. slice_get ks 0) (found (carrier_in ch n) (λ t s. refl));
      last = omega (arith, sent_same);
    };
    moved = moved_same;
  }

  pub arrivals_same : SameArrivals past other
  arrivals_same ch n = arrival_same past other ch n (alike.made.carriers ch n) moved_same

  due_on_same : (ch : ℕ) → due_on other ch ≡ due_on past ch
  due_on_same ch =
      filter_map_same (carrying_item other ch) (carrying_item past ch)
      (λ n. ap (λ (o : Option Bunch). option_map (λ (bunch : Bunch). Item.Carries ch n bunch) o)
      (alike.made.made ch n)) (filter (is_due other ch) (range_with_len 1 (made_count other ch)))
      ∙ ap (filter_map (carrying_item past ch))
      (filter_same (is_due other ch) (is_due past ch) (same_due past other alike ch)
      (range_with_len 1 (made_count other ch)))
      ∙ ap (λ k. filter_map (carrying_item past ch) (filter (is_due past ch) (range_with_len 1 k)))
      (alike.made.count ch)

  pub due_same : due_items other ≡ due_items past
  due_same =
      flat_map_same (due_on other) (due_on past) due_on_same (channels_of other)
      ∙ ap (λ ns. flat_map (due_on past) (ascending_numbers ns)) alike.made.channels

  -- states
  pub mark_same : (a : ℕ) → last_mark other a ≡ last_mark past a
  mark_same a = ap (λ (ms : List Mark). slice_get ms 0) (found (mark_in a) (λ t s. refl))

  pub states_same : (a : ℕ) → state_of other a ≡ state_of past a
  states_same a = state_same past other arrivals_same a (mark_same a)

  pub indexes_same : (a : ℕ) → index_of other a ≡ index_of past a
  indexes_same a = index_same past other arrivals_same a (mark_same a)

  pub opened_same : opened_actors other ≡ opened_actors past
  opened_same = ap ascending_numbers (found opened_in (λ t s. refl))

  pub class_same : (a : ℕ) → opened_class other a ≡ opened_class past a
  class_same a = ap (λ (cs : List Class). slice_get cs 0) (found (open_class_in a) (λ t s. refl))

  pub free_same : free_index other ≡ free_index past
  free_same =
      free_index_same past other arrivals_same alike.made.count (ap ascending_numbers alike.made.channels)
      opened_same mark_same

  -- carries
  pub carry_same : (a h : ℕ) → carry_of other a h ≡ carry_of past a h
  carry_same a h =
      ap (λ (cs : List Carry). or_else (slice_get cs 0) (carry_in None (value_among (open_values other a) h)))
      (sym (updates_own other a h) ∙ ap (λ (p : Past). filter_map (update_carry a h) (items_since (is_open_of a) p)) e
      ∙ updates_own past a h)
      ∙ ap (λ (vs : List (List Pair)). or_else (newest_of (update_carry a h) (items_since (is_open_of a) past))
      (carry_in None (value_among (unwrap_or (slice_get vs 0) []) h)))
      (found (open_values_in a) (λ t s. refl))

  carry_fate_same : (a : ℕ) (carry : Carry) → carry_fate other a carry ≡ carry_fate past a carry
  carry_fate_same a carry = by carry.packet
    where
      by : (o : Option ℕ) → carry_fate other a (record carry { packet = o })
          ≡ carry_fate past a (record carry { packet = o })
      by None = ap (λ (s : ActorState). cond (is_opened s) Fate.Arrived Fate.Open) (states_same a)
      by (Some n) = fate_same n

  pub due_pair_same : (a : ℕ) (p : Pair) → is_due_pair other a p ≡ is_due_pair past a p
  due_pair_same a p = ap (is_due_after other a p) (carry_same a p.handle) ∙ by (carry_of past a p.handle)
    where
      by : (o : Option Carry) → is_due_after other a p o ≡ is_due_after past a p o
      by None = refl
      by (Some carry) = rw (carry_fate_same a carry) refl

  pub due_pairs_same : (seen : Seen) → due_pairs other seen ≡ due_pairs past seen
  due_pairs_same seen =
      filter_same (is_due_pair other seen.actor) (is_due_pair past seen.actor) (due_pair_same seen.actor)
      (updatable_pairs seen)

  pub carried_same : (a : ℕ) (p : Pair) → is_carried other a p ≡ is_carried past a p
  carried_same a p = ap (has_arrived_with other a p) (carry_same a p.handle) ∙ by (carry_of past a p.handle)
    where
      by : (o : Option Carry) → has_arrived_with other a p o ≡ has_arrived_with past a p o
      by None = refl
      by (Some carry) = rw (carry_fate_same a carry) refl

  clear_same : (o : Option ℕ) → is_clear other o ≡ is_clear past o
  clear_same None = refl
  clear_same (Some ch) = ap (λ (n : ℕ). n == 0) (same_span past other alike ch)

  pub settled_same : (seen : Seen) → is_settled_as other seen ≡ is_settled_as past seen
  settled_same seen =
      ap (λ (s : ActorState). is_opened s && seen.relevant && is_clear other (index_of other seen.actor) && list_all
      (is_carried other seen.actor) (updatable_pairs seen)) (states_same seen.actor)
      ∙ ap (λ (o : Option ℕ). is_opened (state_of past seen.actor) && seen.relevant && is_clear other o && list_all
      (is_carried other seen.actor) (updatable_pairs seen)) (indexes_same seen.actor)
      ∙ ap (λ (b : Bool). is_opened (state_of past seen.actor) && seen.relevant && b && list_all
      (is_carried other seen.actor) (updatable_pairs seen)) (clear_same (index_of past seen.actor))
      ∙ ap (λ (b : Bool). is_opened (state_of past seen.actor) && seen.relevant && is_clear past
      (index_of past seen.actor) && b)
      (list_all_same (is_carried other seen.actor) (is_carried past seen.actor) (carried_same seen.actor)
      (updatable_pairs seen))

  -- segments and services
  pub known_same : (g : ℕ) → is_known other g ≡ is_known past g
  known_same g =
      known_in past other arrivals_same g other
      ∙ sym (known_own past other g) ∙ ap (list_any (made_known past g)) e ∙ known_own past past g

  pub needed_same : (class : Class) → needed_segments other class ≡ needed_segments past class
  needed_same class =
      filter_same (λ (s : Segment). not (is_known other s.guid)) (λ (s : Segment). not (is_known past s.guid))
      (λ s. ap not (known_same s.guid)) class.path

  pub service_same : (a : ℕ) → last_service other a ≡ last_service past a
  service_same a = sym (service_own other a) ∙ ap (λ (p : Past). last_service p a) e ∙ service_own past a

  pub packets_same : filter_map last_packet_in other ≡ filter_map last_packet_in past
  packets_same = found last_packet_in (λ t s. refl)

  -- what is sent of nothing packed
  pub silent_same : is_silent other ≡ is_silent past
  silent_same = rw (unresolved_same, count_same, packets_same) refl
