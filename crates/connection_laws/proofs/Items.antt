-- What may be sent stays so while more is made and sent; the due items may be sent.
use Rattle.std.proofs.Common.{cond}
use Rattle.std.proofs.Common.{sym}
use Rattle.connection_model.specs.Feed.{End}
use Rattle.std.proofs.Common.{reverse, unwrap_or, slice_get, append_assoc}
use Rattle.std.proofs.lemmas.List.{reverse-append}
use Rattle.protocol_model.specs.Payload.{Opens, Closes, Updates, Calls, Gone}
use Rattle.protocol_model.specs.Search.{items_since}
use Rattle.protocol_model.specs.Side.{AtServer, AtClient}
use Rattle.connection_model.specs.Feed.{Ticked, Waits, Sent, Took, Ended, Delivered, Deed, deeds_since_tick, sight_of, tick_in}
use Rattle.protocol_model.specs.Sight.{Seen}
use Rattle.connection_model.specs.Copies.{copy_channel, channel_said, removes, handed_in}
use Rattle.connection_model.specs.CallAnswers.{waits_in, waiting_of}
use Rattle.connection_model.specs.State.{ActorState, state_of, is_opened, index_of, last_mark}
use Rattle.connection_model.specs.Bunches.{is_opening}
use Rattle.connection_laws.specs.Run.{MayMake, HasLoosePlace, IsLooseCall, HasWaited}
use Rattle.connection_laws.specs.Deeds.{DeedsFit}
use Rattle.connection_laws.proofs.Moves.{made_ignored, made_ignored_all}
use Rattle.connection_laws.proofs.ActorMarks.{marks, mark_made, state_same, index_same}
use Rattle.std.proofs.Common.{◌≡◌, inl, inr, ℕ, zero, suc, ◌+◌, ◌<◌, ◌≤◌, max, List, [], ◌∷◌, ◌++◌, Bool, true, false, eqb, ◌&&◌, refl, ap, ◌∙◌, subst, arith, Option, Some, None}
use Rattle.std.specs.List.{filter_map, flat_map, cons_option, filter, range_with_len, AllByRecursion}
use Rattle.std.specs.Bool.{then_some}
use Rattle.std.specs.Prelude.{option_map}
use Rattle.std.proofs.lemmas.Bool.{cases_Bool, false≢true, cases_eq, eqb-true, eq-eqb, and_parts, cond_both}
use Rattle.protocol_model.specs.declared.Version.{Version}
use Rattle.protocol_model.specs.declared.Version.TheVariants.{One, Two}
use Rattle.protocol_model.specs.Packet.{Bunch}
use Rattle.protocol_model.specs.Payload.{Message, parts_of, actor_of}
use Rattle.protocol_model.specs.Side.{Side}
use Rattle.protocol_model.specs.declared.Fate.{Fate}
use Rattle.protocol_model.specs.declared.Fate.TheVariants.{Open, Arrived, Lost}
use Rattle.protocol_model.specs.Search.{is_among, newest_of, greatest_of}
use Rattle.connection_model.specs.Feed.{Past, Made, Item, Owed, Carries, Loose}
use Rattle.connection_model.specs.Fates.{is_arrived, is_lost}
use Rattle.connection_model.specs.Bunches.{made_count, made_bunch, channels_of, has_arrived, is_due, shows_arrival, shows_need, option_fate, carrier_of, after_making}
use Rattle.connection_model.specs.Items.{made_as, carrying_item, due_on, due_items, loose_item, call_item}
use Rattle.connection_model.specs.CallAnswers.{call_channel}
use Rattle.connection_model.specs.Pack.{after_sending, part_item}
use Rattle.connection_laws.specs.Run.{MaySend, owed_in, Ascends, Acknowledges}
use Rattle.connection_laws.specs.Fates.{MovesSent, CarriesMade}
use Rattle.connection_laws.proofs.Searches.{newest_hit, newest_miss}
use Rattle.connection_laws.proofs.Moves.{making_keeps}
use Rattle.connection_laws.proofs.Counts.{made_count_grows, made_count_made}
use Rattle.connection_laws.proofs.Arrivals.{arrival_made, arrival_sent}
use Rattle.connection_laws.proofs.AcksInOrder.{taken_made}
use Rattle.connection_laws.proofs.Spans.{unmade_unarrived}
use Rattle.protocol_laws.proofs.Greatest.{greatest_of-cons}

-- ---- all of a list

-- what follows of each item follows of all
pub all_weaker : {A : Type 0} (P Q : A → Type 0) → ((x : A) → P x → Q x) → (xs : List A) → AllByRecursion P xs → AllByRecursion Q xs
all_weaker P Q h [] all = tt
all_weaker P Q h (x ∷ xs) all = (h x all.0, all_weaker P Q h xs all.1)

-- what holds of two lists holds of both in a row
pub all_append : {A : Type 0} (P : A → Type 0) (xs ys : List A) → AllByRecursion P xs → AllByRecursion P ys → AllByRecursion P (xs ++ ys)
all_append P [] ys a b = b
all_append P (x ∷ xs) ys a b = (a.0, all_append P xs ys a.1 b)

-- what holds of each part holds of all parts in a row
pub all_flat : {A B : Type 0} (P : B → Type 0) (f : A → List B) → ((x : A) → AllByRecursion P (f x)) → (xs : List A) → AllByRecursion P (flat_map f xs)
all_flat P f h [] = tt
all_flat P f h (x ∷ xs) = all_append P (f x) (flat_map f xs) (h x) (all_flat P f h xs)

-- ---- bunches made

-- a bunch is found by its number
made_same : (ch n : ℕ) (m : Message) (i : ℕ) (past : Past) → newest_of (made_as ch n) (Made ch n m i ∷ past) ≡ Some (made_bunch ch n m i)
made_same ch n m i past =
    newest_hit (made_as ch n) (Made ch n m i) past (made_bunch ch n m i) (ap (λ b. then_some b (made_bunch ch n m i)) (both (eqb ch ch) (eqb n n) (eq-eqb ch ch refl) (eq-eqb n n refl)))
  where
    both : (a b : Bool) → a ≡ true → b ≡ true → (a && b) ≡ true
    both a b p q = grind arith

-- a bunch is found behind another one
pub made_other : (ch n c k : ℕ) (m : Message) (i : ℕ) (past : Past) → ((c ≡ ch) → (k ≡ n) → ⊥) → newest_of (made_as ch n) (Made c k m i ∷ past) ≡ newest_of (made_as ch n) past
made_other ch n c k m i past h = newest_miss (made_as ch n) (Made c k m i) past (ap (λ b. then_some b (made_bunch c k m i)) test)
  where
    test : (eqb c ch && eqb k n) ≡ false
    test = elim (cases_Bool (eqb c ch && eqb k n)) [
      | inl e ↦ (let q : (eqb c ch ≡ true) × (eqb k n ≡ true) = and_parts (eqb c ch) (eqb k n) e in absurd (h (eqb-true c ch q.0) (eqb-true k n q.1)))
      | inr e ↦ e
    ]

-- a bunch that was made stays so
pub made_stays : (past : Past) (c : ℕ) (m : Message) (ch n : ℕ) → n ≤ made_count past ch → newest_of (made_as ch n) (after_making past c m) ≡ newest_of (made_as ch n) past
made_stays past c m ch n le =
    making_keeps (λ i before. newest_of (made_as ch n) before ≡ newest_of (made_as ch n) past) past c m refl
    (λ i before lt e. made_other ch n c (made_count past c + 1 + i) m i before (λ q r. clash i q r) ∙ e)
  where
    clash : (i : ℕ) → c ≡ ch → made_count past c + 1 + i ≡ n → ⊥
    clash i q r = (let s : made_count past c ≡ made_count past ch = ap (made_count past) q in omega arith)

-- each part of a message is found
pub part_made : (past : Past) (ch : ℕ) (m : Message) (i : ℕ) → i < parts_of m
    → newest_of (made_as ch (made_count past ch + 1 + i)) (after_making past ch m) ≡ Some (made_bunch ch (made_count past ch + 1 + i) m i)
part_made past ch m i lt =
    making_keeps (λ j before. i < j → newest_of (made_as ch (made_count past ch + 1 + i)) before ≡ Some (made_bunch ch (made_count past ch + 1 + i) m i)) past ch m
    (λ l. absurd (omega arith)) (λ j before l h. step j before h) lt
  where
    step : (j : ℕ) (before : Past) → (i < j → newest_of (made_as ch (made_count past ch + 1 + i)) before ≡ Some (made_bunch ch (made_count past ch + 1 + i) m i)) → i < suc j
        → newest_of (made_as ch (made_count past ch + 1 + i)) (Made ch (made_count past ch + 1 + j) m j ∷ before) ≡ Some (made_bunch ch (made_count past ch + 1 + i) m i)
    step j before h l = elim (cases_eq i j) [
      | inl e ↦ subst (λ (k : ℕ). newest_of (made_as ch (made_count past ch + 1 + i)) (Made ch (made_count past ch + 1 + k) m k ∷ before) ≡ Some (made_bunch ch (made_count past ch + 1 + i) m i)) e
          (made_same ch (made_count past ch + 1 + i) m i before)
      | inr e ↦ made_other ch (made_count past ch + 1 + i) ch (made_count past ch + 1 + j) m j before (λ q r. e (omega arith)) ∙ h (omega arith)
    ]

-- ---- what may be sent

-- the item may be sent, and is no acknowledgement
abbrev pub MayGo : End → Past → Item → Type 0
MayGo end past item = MaySend end past item × (owed_in item ≡ None)

-- a loose place stays where state, index and copies stay
loose_same : (end : End) (past later : Past) → ((a : ℕ) → copy_channel later a ≡ copy_channel past a)
    → ((a ch : ℕ) → index_of past a ≡ Some ch → (state_of later a ≡ state_of past a) × (index_of later a ≡ index_of past a))
    → filter_map waits_in later ≡ filter_map waits_in past → sight_of later ≡ sight_of past → (ch : ℕ) (m : Message) → HasLoosePlace end past ch m → HasLoosePlace end later ch m
loose_same end past later c h w s ch (Opens exports a class values) p = p
loose_same end past later c h w s ch (Closes a sleeps) p = p
loose_same end past later c h w s ch (Gone a) p = p
loose_same end past later c h w s ch (Updates a class values) p = (
    let q = h a ch p.1 in (
      ap is_opened q.0 ∙ p.0,
      q.1 ∙ p.1,
      record {
        seen = p.2.seen;
        shown = (p.2.shown.0, ap (λ (l : List Seen). slice_get l p.2.shown.0) s ∙ p.2.shown.1);
        relevant = p.2.relevant;
        at = p.2.at;
        some = p.2.some;
        says = p.2.says;
      },
    ))
loose_same end past later c h w s ch (Calls a n call args) p = (p.0, by end.side p.1, (p.2.0, p.2.1, w ∙ p.2.2))
  where
    held : (b : Bool) (o : Option ℕ) → cond b o None ≡ Some ch → o ≡ Some ch
    held true o e = e
    held false o e = absurd (let never : (let x : Option ℕ = None in x) ≡ Some ch = e in cc)

    by : (side : Side) → call_channel side past a ≡ Some ch → call_channel side later a ≡ Some ch
    by AtServer e =
        let s = h a ch (held (is_opened (state_of past a)) (index_of past a) e) in
        ap (λ (x : ActorState). cond (is_opened x) (index_of later a) None) s.0 ∙ ap (λ (x : Option ℕ). cond (is_opened (state_of past a)) x None) s.1 ∙ e
    by AtClient e = c a ∙ e

-- the sight stays while messages are made
pub sight_made : (past : Past) (c : ℕ) (m : Message) → sight_of (after_making past c m) ≡ sight_of past
sight_made past c m =
    ap (λ (l : List (List Seen)). unwrap_or (slice_get l 0) [])
    (made_ignored (λ (deed : Deed). option_map (λ (tick : ℕ × List Seen). tick.1) (tick_in deed)) (λ c n m i. refl) past c m)

-- an open that is made marks no actor that holds an index
unmarked : (end : End) (past : Past) (c : ℕ) (m : Message) → MayMake end past c m → is_opening m ≡ true → (a ch : ℕ) → index_of past a ≡ Some ch → marks a m ≡ false
unmarked end past c (Opens exports actor class values) may o a ch e = elim (cases_Bool (marks a (Opens exports actor class values))) [
  | inr q ↦ q
  | inl q ↦ (
      let same : actor ≡ a = eqb-true actor a (and_parts (eqb actor a) true q).0 in
      let never : (let x : Option ℕ = None in x) ≡ Some ch = sym may.place.3 ∙ ap (index_of past) same ∙ e in
      absurd (none_some never))
]
  where
    none_some : (let x : Option ℕ = None in x) ≡ Some ch → ⊥
    none_some q = cc
unmarked end past c (Closes actor sleeps) may o a ch e = absurd (false≢true o)
unmarked end past c (Gone actor) may o a ch e = absurd (false≢true o)
unmarked end past c (Updates actor class values) may o a ch e = absurd (false≢true o)
unmarked end past c (Calls actor n call args) may o a ch e = absurd (false≢true o)

-- making a message changes no copy
copies_made : (past : Past) (c : ℕ) (m : Message) (a : ℕ) → copy_channel (after_making past c m) a ≡ copy_channel past a
copies_made past c m a =
    ap (λ (ds : List Delivered). unwrap_or (newest_of (channel_said a) (items_since (removes a) ds)) None) (made_ignored_all handed_in (λ c n m i. refl) past c m)

-- what may be sent still may after an open is made
pub may_send_made : (end : End) (past : Past) (c : ℕ) (m : Message) → MayMake end past c m → is_opening m ≡ true → (item : Item) → MaySend end past item → MaySend end (after_making past c m) item
may_send_made end past c m may o (Owed n) h = ap (is_among n) (taken_made past c m) ∙ h
may_send_made end past c m may o (Carries ch n b) h = record {
  low = h.low;
  high = omega (arith, h.high, made_count_grows past ch c m);
  made = made_stays past c m ch n h.high ∙ h.made;
  unarrived = arrival_made past c m ch n ∙ h.unarrived;
}
may_send_made end past c m may o (Loose message b) h = (
  h.0,
  h.1,
  loose_same end past (after_making past c m) (copies_made past c m)
      (λ a ch e. (let mark : last_mark (after_making past c m) a ≡ last_mark past a = unmarked_stays a (unmarked end past c m may o a ch e) in
      (state_same past (after_making past c m) (arrival_made past c m) a mark, index_same past (after_making past c m) (arrival_made past c m) a mark)))
      (made_ignored waits_in (λ c n m i. refl) past c m) (sight_made past c m) h.0 message h.2,
)
  where
    unmarked_stays : (a : ℕ) → marks a m ≡ false → last_mark (after_making past c m) a ≡ last_mark past a
    unmarked_stays a q = mark_made past c m a ∙ ap (λ (b : Bool). cond b (Some (record { channel = c; number = made_count past c + 1; message = m })) (last_mark past a)) q

-- and after a packet is sent
pub may_send_sent : (end : End) (past : Past) (items : List Item) → MovesSent past → AllByRecursion (MaySend end past) items → (item : Item) → MaySend end past item → MaySend end (after_sending past items) item
may_send_sent end past items moved all (Owed n) h = h
may_send_sent end past items moved all (Carries ch n b) h = record {
  low = h.low;
  high = h.high;
  made = h.made;
  unarrived = arrival_sent end past items (λ k e. (moved k e).1) all ch n ∙ h.unarrived;
}
may_send_sent end past items moved all (Loose message b) h = (
  h.0,
  h.1,
  loose_same end past (after_sending past items) (λ a. refl)
      (λ a ch e. (
        state_same past (after_sending past items) (arrival_sent end past items (λ k q. (moved k q).1) all) a refl,
        index_same past (after_sending past items) (arrival_sent end past items (λ k q. (moved k q).1) all) a refl,
      )) refl refl h.0 message h.2,
)

-- the parts of a message that was just made may be sent
pub parts_may_go : (end : End) (past : Past) → CarriesMade past → (ch : ℕ) (m : Message) (i : ℕ) → i < parts_of m
    → MayGo end (after_making past ch m) (part_item ch (made_count past ch + 1) m i)
parts_may_go end past h ch m i lt = (
  record {
    low = omega arith;
    high = omega (arith, made_count_made past ch m);
    made = part_made past ch m i lt;
    unarrived = arrival_made past ch m ch (made_count past ch + 1 + i) ∙ unmade_unarrived past h ch (made_count past ch + 1 + i) (omega arith);
  },
  refl,
)

-- ---- the due items

-- a lost packet has not arrived
due_fate : (fate : Fate) → is_lost fate ≡ true → is_arrived fate ≡ false
due_fate Lost e = refl
due_fate Open e = refl
due_fate Arrived e = absurd (false≢true e)

-- a bunch that is to be sent again has not arrived
due_option : (o : Option Fate) → shows_need o ≡ true → shows_arrival o ≡ false
due_option None e = refl
due_option (Some fate) e = due_fate fate e

-- a bunch that is due has not arrived
pub due_unarrived : (past : Past) (ch n : ℕ) → is_due past ch n ≡ true → has_arrived past ch n ≡ false
due_unarrived past ch n e = due_option (option_fate past (carrier_of past ch n)) e

-- a due bunch may be carried
carrying_may : (end : End) (past : Past) (ch n : ℕ) (rest : List Item) → 1 ≤ n → n ≤ made_count past ch → is_due past ch n ≡ true → AllByRecursion (MayGo end past) rest
    → AllByRecursion (MayGo end past) (cons_option (carrying_item past ch n) rest)
carrying_may end past ch n rest lo hi due all = by (newest_of (made_as ch n) past) refl
  where
    by : (o : Option Bunch) → newest_of (made_as ch n) past ≡ o → AllByRecursion (MayGo end past) (cons_option (option_map (λ (bunch : Bunch). Carries ch n bunch) o) rest)
    by None e = all
    by (Some b) e = ((record { low = lo; high = hi; made = e; unarrived = due_unarrived past ch n due }, refl), all)

-- the due bunches of a range may be carried
due_range : (end : End) (past : Past) (ch from count : ℕ) → 1 ≤ from → from + count ≤ made_count past ch + 1
    → AllByRecursion (MayGo end past) (filter_map (carrying_item past ch) (filter (is_due past ch) (range_with_len from count)))
due_range end past ch from zero lo hi = tt
due_range end past ch from (suc count) lo hi =
    let rest : AllByRecursion (MayGo end past) (filter_map (carrying_item past ch) (filter (is_due past ch) (range_with_len (from + 1) count))) =
    due_range end past ch (from + 1) count (omega arith) (omega arith) in
    cond_both (is_due past ch from) (from ∷ filter (is_due past ch) (range_with_len (from + 1) count)) (filter (is_due past ch) (range_with_len (from + 1) count))
    (λ ns. AllByRecursion (MayGo end past) (filter_map (carrying_item past ch) ns))
    (λ e. carrying_may end past ch from (filter_map (carrying_item past ch) (filter (is_due past ch) (range_with_len (from + 1) count))) lo (omega arith) e rest) (λ e. rest)

-- each due item may go
pub due_may_go : (end : End) (past : Past) → AllByRecursion (MayGo end past) (due_items past)
due_may_go end past = all_flat (MayGo end past) (due_on past) (λ ch. due_range end past ch 1 (made_count past ch) (omega arith) (omega arith)) (channels_of past)

-- ---- the calls that waited

-- an unreliable call that was left waiting
abbrev pub WaitsLoose : Past → Message → Type 0
WaitsLoose past (Opens exports a class values) = ⊥
WaitsLoose past (Closes a sleeps) = ⊥
WaitsLoose past (Gone a) = ⊥
WaitsLoose past (Updates a class values) = ⊥
WaitsLoose past (Calls a n call args) = (call.reliable ≡ false) × HasWaited past (Calls a n call args)

-- a message still waits where those that wait are the same
pub waits_like : (past later : Past) → filter_map waits_in later ≡ filter_map waits_in past → (m : Message) → WaitsLoose past m → WaitsLoose later m
waits_like past later e (Opens exports a class values) q = q
waits_like past later e (Closes a sleeps) q = q
waits_like past later e (Gone a) q = q
waits_like past later e (Updates a class values) q = q
waits_like past later e (Calls a n call args) q = (q.0, (q.1.0, q.1.1, e ∙ q.1.2))

-- a call that waits has its place
loose_call : (end : End) (past : Past) (ch : ℕ) (m : Message) → WaitsLoose past m → call_channel end.side past (actor_of m) ≡ Some ch → HasLoosePlace end past ch m
loose_call end past ch (Opens exports a class values) q e = q
loose_call end past ch (Closes a sleeps) q e = q
loose_call end past ch (Gone a) q e = q
loose_call end past ch (Updates a class values) q e = absurd q
loose_call end past ch (Calls a n call args) q e = (q.0, e, q.1)

-- each call that waited may go
pub calls_may_go : (end : End) (past : Past) (ms : List Message) → AllByRecursion (WaitsLoose past) ms → AllByRecursion (MayGo end past) (filter_map (call_item end.side past) ms)
calls_may_go end past [] h = tt
calls_may_go end past (m ∷ ms) h = by (call_channel end.side past (actor_of m)) refl (calls_may_go end past ms h.1)
  where
    by : (o : Option ℕ) → call_channel end.side past (actor_of m) ≡ o → AllByRecursion (MayGo end past) (filter_map (call_item end.side past) ms)
        → AllByRecursion (MayGo end past) (cons_option (option_map (loose_item m) o) (filter_map (call_item end.side past) ms))
    by None e all = all
    by (Some ch) e all = (((ch, refl, loose_call end past ch m h.0 e), refl), all)

-- the calls that wait are unreliable
waited : (end : End) (whole past : Past) (m : Message) (newer : List Message) → filter_map waits_in whole ≡ newer ++ m ∷ filter_map waits_in past → IsLooseCall end past m → WaitsLoose whole m
waited end whole past (Opens exports a class values) newer e q = q
waited end whole past (Closes a sleeps) newer e q = q
waited end whole past (Gone a) newer e q = q
waited end whole past (Updates a class values) newer e q = q
waited end whole past (Calls a n call args) newer e q = (q.0, (newer, filter_map waits_in past, e))

-- the calls left waiting since a tick are unreliable
since_loose : (end : End) (whole past : Past) (newer : List Message) → filter_map waits_in whole ≡ newer ++ filter_map waits_in past → DeedsFit end past → AllByRecursion (WaitsLoose whole) (filter_map waits_in (deeds_since_tick past))
since_loose end whole [] newer e fit = tt
since_loose end whole (Ticked t s ∷ past) newer e fit = tt
since_loose end whole (Made c n m i ∷ past) newer e fit = since_loose end whole past newer e fit.1
since_loose end whole (Waits m ∷ past) newer e fit = (
  waited end whole past m newer e fit.0,
  since_loose end whole past (newer ++ m ∷ []) (e ∙ sym (append_assoc newer (m ∷ []) (filter_map waits_in past))) fit.1,
)
since_loose end whole (Sent n t items ∷ past) newer e fit = since_loose end whole past newer e fit.1
since_loose end whole (Took n es ds ∷ past) newer e fit = since_loose end whole past newer e fit.1
since_loose end whole (Ended g ∷ past) newer e fit = since_loose end whole past newer e fit.1

-- what holds of a list holds of it reversed
pub all_reverse : {A : Type 0} (P : A → Type 0) (xs : List A) → AllByRecursion P xs → AllByRecursion P (reverse xs)
all_reverse P [] h = tt
all_reverse P (x ∷ xs) h = subst (AllByRecursion P) (sym (reverse-append (x ∷ []) xs)) (all_append P (reverse xs) (x ∷ []) (all_reverse P xs h.1) (h.0, tt))

-- each message that waits is an unreliable call
pub waiting_loose : (end : End) (past : Past) → DeedsFit end past → AllByRecursion (WaitsLoose past) (waiting_of past)
waiting_loose end past fit = all_reverse (WaitsLoose past) (filter_map waits_in (deeds_since_tick past)) (since_loose end past past [] refl fit)

-- ---- numbers that ascend

-- ascending numbers ascend without one of them
pub ascends_drop : (low : ℕ) (xs : List ℕ) (n : ℕ) (ys : List ℕ) → Ascends low (xs ++ n ∷ ys) → Ascends low (xs ++ ys)
ascends_drop low [] n [] h = tt
ascends_drop low [] n (y ∷ ys) h = (omega (arith, h.0, h.1.0), h.1.1)
ascends_drop low (x ∷ xs) n ys h = (h.0, ascends_drop x xs n ys h.1)

-- so does a prefix of them
pub ascends_first : (low : ℕ) (xs ys : List ℕ) → Ascends low (xs ++ ys) → Ascends low xs
ascends_first low [] ys h = tt
ascends_first low (x ∷ xs) ys h = (h.0, ascends_first x xs ys h.1)

-- and the rest, above the prefix
pub ascends_rest : (low : ℕ) (xs ys : List ℕ) → Ascends low (xs ++ ys) → Ascends (max low (greatest_of xs)) ys
ascends_rest low [] ys h = (let e : max low (greatest_of []) ≡ low = omega arith in rw e h)
ascends_rest low (x ∷ xs) ys h =
    let e : max low (greatest_of (x ∷ xs)) ≡ max x (greatest_of xs) = omega (arith, greatest_of-cons x xs, h.0) in
    rw e (ascends_rest x xs ys h.1)

-- ---- in either version

-- acknowledgements without one of them
pub told_drop : (v : Version) (low : ℕ) (xs : List ℕ) (n : ℕ) (ys : List ℕ) → Acknowledges v low (xs ++ n ∷ ys) → Acknowledges v low (xs ++ ys)
told_drop One low xs n ys h = ascends_drop low xs n ys h
told_drop Two low [] n ys h = absurd (let no : n ∷ ys ≡ [] = h in cc)
told_drop Two low (x ∷ xs) n ys h = absurd (let no : x ∷ (xs ++ n ∷ ys) ≡ [] = h in cc)

-- a prefix of acknowledgements
pub told_first : (v : Version) (low : ℕ) (xs ys : List ℕ) → Acknowledges v low (xs ++ ys) → Acknowledges v low xs
told_first One low xs ys h = ascends_first low xs ys h
told_first Two low [] ys h = refl
told_first Two low (x ∷ xs) ys h = absurd (let no : x ∷ (xs ++ ys) ≡ [] = h in cc)

-- the rest of acknowledgements
pub told_rest : (v : Version) (low : ℕ) (xs ys : List ℕ) → Acknowledges v low (xs ++ ys) → Acknowledges v (max low (greatest_of xs)) ys
told_rest One low xs ys h = ascends_rest low xs ys h
told_rest Two low [] ys h = h
told_rest Two low (x ∷ xs) ys h = absurd (let no : x ∷ (xs ++ ys) ≡ [] = h in cc)

-- no acknowledgements
pub told_none : (v : Version) (low : ℕ) → Acknowledges v low []
told_none One low = tt
told_none Two low = refl
