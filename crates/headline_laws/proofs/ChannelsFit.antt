-- The channels on which something is made, and what may be sent of it.
use Rattle.std.proofs.Common.{◌≡◌, inl, inr, ℕ, zero, suc, ◌+◌, ◌*◌, ◌<◌, ◌≤◌, ◌==◌, List, [], ◌∷◌, ◌++◌, Bool, true, false, cond, not, ◌&&◌, nat_lt, length, refl, sym, ap, ◌∙◌, subst, arith, Option, Some, None, unwrap_or, sum_by}
use Rattle.std.specs.Prelude.{option_map}
use Rattle.std.specs.List.{filter_map, filter, cons_option, list_any, range_with_len, slice_get, AllByRecursion}
use Rattle.std.specs.Bool.{then_some}
use Rattle.std.proofs.lemmas.Bool.{cases_Bool, false≢true, or_cases, ltb-true, ltb-false, eqb-true, eqb-false}
use Rattle.std.proofs.lemmas.List.Sums.{sum_by-cons}
use Rattle.protocol_model.specs.declared.Version.{Version}
use Rattle.protocol_model.specs.Packet.{Bunch, channel_limit}
use Rattle.protocol_model.specs.Payload.{Message, Opens, Closes, Updates, Calls, Gone, actor_of, message_bits}
use Rattle.protocol_model.specs.Search.{is_among, newest_of, items_since, insert_in_order, in_order, each_once}
use Rattle.protocol_model.specs.Side.{Side, AtServer, AtClient}
use Rattle.connection_model.specs.Feed.{End, Past, Ticked, Made, Waits, Sent, Took, Ended, Carries, Delivered, deeds_since_tick}
use Rattle.connection_model.specs.Bunches.{channel_in, channels_of, made_count, made_bunch, is_due, span, span_sum}
use Rattle.connection_model.specs.State.{state_of, is_opened, index_of, opened_in, opened_actors, is_held, holds, free_index}
use Rattle.connection_model.specs.Copies.{channel_said, removes, delivered_of}
use Rattle.connection_model.specs.CallAnswers.{call_channel, waits_in, waiting_of}
use Rattle.connection_model.specs.Items.{made_as, carrying_item, due_on, due_items, loose_item, call_item}
use Rattle.connection_laws.proofs.Searches.{among_cons, among_here, among_there, among_left, among_right, least_below}
use Rattle.connection_laws.proofs.Items.{all_append, all_flat, all_reverse}
use Rattle.connection_laws.proofs.Holding.{among_ascending, room_taken, mark_used, index_marked, holds_is}
use Rattle.connection_laws.proofs.Spans.{unused_span}
use Rattle.headline_laws.specs.Fits.{IsSpawned, ItemFits, PlaceFits, PastFits}
use Rattle.headline_laws.proofs.Lengths.{BunchFits, rec_fits, made_fits, loose_fits}
use Rattle.std.proofs.lemmas.List.{length-append}

-- ---- channels used

-- an index on which something was made
pub used_fits : (end : End) (past : Past) (ch : ℕ) → PastFits end past → is_among ch (filter_map channel_in past) ≡ true → ch < channel_limit end.version
used_fits end [] ch f e = absurd (false≢true e)
used_fits end (Made c n m i ∷ past) ch f e = elim (among_cons c (filter_map channel_in past) ch e) [
  | inl q ↦ subst (λ (k : ℕ). k < channel_limit end.version) q f.0.0
  | inr q ↦ used_fits end past ch f.1 q
]
used_fits end (Ticked t s ∷ past) ch f e = used_fits end past ch f.1 e
used_fits end (Waits m ∷ past) ch f e = used_fits end past ch f.1 e
used_fits end (Sent n t items ∷ past) ch f e = used_fits end past ch f.1 e
used_fits end (Took n es ds ∷ past) ch f e = used_fits end past ch f.1 e
used_fits end (Ended g ∷ past) ch f e = used_fits end past ch f.1 e

-- the index that an actor holds
pub index_fits : (end : End) (past : Past) (a ch : ℕ) → PastFits end past → index_of past a ≡ Some ch → ch < channel_limit end.version
index_fits end past a ch f e =
    let m = index_marked past a ch e in
    used_fits end past ch f (subst (λ (k : ℕ). is_among k (filter_map channel_in past) ≡ true) m.2 (mark_used a past m.0 m.1))

-- what was handed on was on channels that can be spelled
delivered_fits : (end : End) (past : Past) → PastFits end past → AllByRecursion (PlaceFits end.version) (delivered_of past)
delivered_fits end [] f = tt
delivered_fits end (Ticked t s ∷ past) f = delivered_fits end past f.1
delivered_fits end (Made c n m i ∷ past) f = delivered_fits end past f.1
delivered_fits end (Waits m ∷ past) f = delivered_fits end past f.1
delivered_fits end (Sent n t items ∷ past) f = delivered_fits end past f.1
delivered_fits end (Took n es ds ∷ past) f = all_append (PlaceFits end.version) ds (delivered_of past) f.0.1 (delivered_fits end past f.1)
delivered_fits end (Ended g ∷ past) f = delivered_fits end past f.1

-- the channel that a payload says is its own
said_is : (a : ℕ) (d : Delivered) (m : Message) (ch : ℕ) → d.message ≡ m → channel_said a d ≡ Some (Some ch) → d.channel ≡ ch
said_is a d (Opens exports actor c values) ch m h = by (actor == a) (rw m at h)
  where
    by : (b : Bool) → (let o : Option (Option ℕ) = then_some b (Some d.channel) in o) ≡ Some (Some ch) → d.channel ≡ ch
    by true h = cc
    by false h = absurd (cc)
said_is a d (Closes actor sleeps) ch m h = by (actor == a) (rw m at h)
  where
    by : (b : Bool) → (let o : Option (Option ℕ) = then_some b None in o) ≡ Some (Some ch) → d.channel ≡ ch
    by true h = absurd (let no : (let o : Option ℕ = None in o) ≡ Some ch = cc in cc)
    by false h = absurd (cc)
said_is a d (Updates actor c values) ch m h = absurd (let no : (let o : Option (Option ℕ) = None in o) ≡ Some (Some ch) = rw m at h in cc)
said_is a d (Calls actor n call args) ch m h = absurd (let no : (let o : Option (Option ℕ) = None in o) ≡ Some (Some ch) = rw m at h in cc)
said_is a d (Gone actor) ch m h = absurd (let no : (let o : Option (Option ℕ) = None in o) ≡ Some (Some ch) = rw m at h in cc)

-- a copy's channel can be spelled
copy_fits_in : (v : Version) (a ch : ℕ) (ds : List Delivered) → AllByRecursion (PlaceFits v) ds → unwrap_or (newest_of (channel_said a) (items_since (removes a) ds)) None ≡ Some ch → ch < channel_limit v
copy_fits_in v a ch [] f e = absurd (let no : (let o : Option ℕ = None in o) ≡ Some ch = e in cc)
copy_fits_in v a ch (d ∷ ds) f e = by_removed (removes a d) e (λ q. copy_fits_in v a ch ds f.1 q)
  where
    by_said : (o : Option (Option ℕ)) → channel_said a d ≡ o → unwrap_or (slice_get (cons_option o (filter_map (channel_said a) (items_since (removes a) ds))) 0) None ≡ Some ch
        → (unwrap_or (newest_of (channel_said a) (items_since (removes a) ds)) None ≡ Some ch → ch < channel_limit v) → ch < channel_limit v
    by_said None q e later = later e
    by_said (Some o) q e later = subst (λ (k : ℕ). k < channel_limit v) (said_is a d d.message ch refl (q ∙ ap (λ (x : Option ℕ). Some x) e)) f.0

    by_removed : (b : Bool) → unwrap_or (newest_of (channel_said a) (cond b [] (d ∷ items_since (removes a) ds))) None ≡ Some ch
        → (unwrap_or (newest_of (channel_said a) (items_since (removes a) ds)) None ≡ Some ch → ch < channel_limit v) → ch < channel_limit v
    by_removed true e later = absurd (let no : (let o : Option ℕ = None in o) ≡ Some ch = e in cc)
    by_removed false e later = by_said (channel_said a d) refl e later

-- the channel of a call
pub call_fits : (end : End) (side : Side) (past : Past) (a ch : ℕ) → PastFits end past → call_channel side past a ≡ Some ch → ch < channel_limit end.version
call_fits end AtClient past a ch f e = copy_fits_in end.version a ch (delivered_of past) (delivered_fits end past f) e
call_fits end AtServer past a ch f e = by (is_opened (state_of past a)) e
  where
    by : (b : Bool) → cond b (index_of past a) None ≡ Some ch → ch < channel_limit end.version
    by true e = index_fits end past a ch f e
    by false e = absurd (let no : (let o : Option ℕ = None in o) ≡ Some ch = e in cc)

-- ---- what is due, and what waits

-- a bunch that was made fits
found_fits : (end : End) (past : Past) (ch n : ℕ) (b : Bunch) → PastFits end past → newest_of (made_as ch n) past ≡ Some b → BunchFits end.version b
found_fits end [] ch n b f e = absurd (let no : (let o : Option Bunch = None in o) ≡ Some b = e in cc)
found_fits end (Made c k m i ∷ past) ch n b f e = by ((c == ch) && (k == n)) e (λ q. found_fits end past ch n b f.1 q)
  where
    same : (x y : Bunch) → (let o : Option Bunch = Some x in o) ≡ Some y → x ≡ y
    same x y q = cc

    by : (t : Bool) → slice_get (cons_option (then_some t (made_bunch c k m i)) (filter_map (made_as ch n) past)) 0 ≡ Some b → (newest_of (made_as ch n) past ≡ Some b → BunchFits end.version b) → BunchFits end.version b
    by true q ih = subst (BunchFits end.version) (same (made_bunch c k m i) b q) (made_fits end.version c k m i f.0.0)
    by false q ih = ih q
found_fits end (Ticked t s ∷ past) ch n b f e = found_fits end past ch n b f.1 e
found_fits end (Waits m ∷ past) ch n b f e = found_fits end past ch n b f.1 e
found_fits end (Sent k t items ∷ past) ch n b f e = found_fits end past ch n b f.1 e
found_fits end (Took k es ds ∷ past) ch n b f e = found_fits end past ch n b f.1 e
found_fits end (Ended g ∷ past) ch n b f e = found_fits end past ch n b f.1 e

-- bunches that are carried fit
carrying_fits : (end : End) (past : Past) (ch : ℕ) → PastFits end past → (ns : List ℕ) → AllByRecursion (ItemFits end.version) (filter_map (carrying_item past ch) ns)
carrying_fits end past ch f [] = tt
carrying_fits end past ch f (n ∷ ns) = by (newest_of (made_as ch n) past) refl (carrying_fits end past ch f ns)
  where
    by : (o : Option Bunch) → newest_of (made_as ch n) past ≡ o → AllByRecursion (ItemFits end.version) (filter_map (carrying_item past ch) ns)
        → AllByRecursion (ItemFits end.version) (cons_option (option_map (λ (bunch : Bunch). Carries ch n bunch) o) (filter_map (carrying_item past ch) ns))
    by None q all = all
    by (Some b) q all = (rec_fits end.version b (found_fits end past ch n b f q), all)

-- each due item can be spelled
pub due_fits : (end : End) (past : Past) → PastFits end past → AllByRecursion (ItemFits end.version) (due_items past)
due_fits end past f =
    all_flat (ItemFits end.version) (due_on past) (λ ch. carrying_fits end past ch f (filter (is_due past ch) (range_with_len 1 (made_count past ch)))) (channels_of past)

-- the message has one part
abbrev pub IsShort : Message → Type 0
IsShort m = length (message_bits m) ≤ 7000

-- calls left waiting since a tick are short
since_short : (end : End) (past : Past) → PastFits end past → AllByRecursion IsShort (filter_map waits_in (deeds_since_tick past))
since_short end [] f = tt
since_short end (Ticked t s ∷ past) f = tt
since_short end (Made c n m i ∷ past) f = since_short end past f.1
since_short end (Waits m ∷ past) f = (f.0, since_short end past f.1)
since_short end (Sent n t items ∷ past) f = since_short end past f.1
since_short end (Took n es ds ∷ past) f = since_short end past f.1
since_short end (Ended g ∷ past) f = since_short end past f.1

-- each message that waits is short
pub waiting_short : (end : End) (past : Past) → PastFits end past → AllByRecursion IsShort (waiting_of past)
waiting_short end past f = all_reverse IsShort (filter_map waits_in (deeds_since_tick past)) (since_short end past f)

-- each call that waited can be spelled
pub calls_fit : (end : End) (past : Past) (ms : List Message) → PastFits end past → AllByRecursion IsShort ms → AllByRecursion (ItemFits end.version) (filter_map (call_item end.side past) ms)
calls_fit end past [] f h = tt
calls_fit end past (m ∷ ms) f h = by (call_channel end.side past (actor_of m)) refl (calls_fit end past ms f h.1)
  where
    by : (o : Option ℕ) → call_channel end.side past (actor_of m) ≡ o → AllByRecursion (ItemFits end.version) (filter_map (call_item end.side past) ms)
        → AllByRecursion (ItemFits end.version) (cons_option (option_map (loose_item m) o) (filter_map (call_item end.side past) ms))
    by None e all = all
    by (Some ch) e all = (loose_fits end.version ch m (call_fits end end.side past (actor_of m) ch f e) h.0, all)

-- ---- the free index

-- what is among numbers with one more is it, or was among them
pub back_inserted : (before : ℕ → ℕ → Bool) (x : ℕ) (ys : List ℕ) (n : ℕ) → is_among n (insert_in_order before x ys) ≡ true → is_among n (x ∷ ys) ≡ true
back_inserted before x [] n h = h
back_inserted before x (y ∷ ys) n h = elim (cases_Bool (before y x)) [
  | inl e ↦ elim (among_cons y (insert_in_order before x ys) n (rw e at h)) [
    | inl q ↦ among_there x (y ∷ ys) n (among_here y ys n q)
    | inr q ↦ elim (among_cons x ys n (back_inserted before x ys n q)) [
      | inl r ↦ among_here x (y ∷ ys) n r
      | inr r ↦ among_there x (y ∷ ys) n (among_there y ys n r)
    ]
  ]
  | inr e ↦ rw e at h
]

-- what is among numbers in order was among them
pub back_in_order : (before : ℕ → ℕ → Bool) (xs : List ℕ) (n : ℕ) → is_among n (in_order before xs) ≡ true → is_among n xs ≡ true
back_in_order before [] n h = h
back_in_order before (x ∷ xs) n h = elim (among_cons x (in_order before xs) n (back_inserted before x (in_order before xs) n h)) [
  | inl q ↦ among_here x xs n q
  | inr q ↦ among_there x xs n (back_in_order before xs n q)
]

-- what is among numbers, each once, was among them
pub back_each_once : (xs : List ℕ) (n : ℕ) → is_among n (each_once xs) ≡ true → is_among n xs ≡ true
back_each_once [] n h = h
back_each_once (x ∷ xs) n h = elim (cases_Bool (is_among x xs)) [
  | inl e ↦ among_there x xs n (back_each_once xs n (rw e at h))
  | inr e ↦ elim (among_cons x (each_once xs) n (rw e at h)) [ inl q ↦ among_here x xs n q | inr q ↦ among_there x xs n (back_each_once xs n q) ]
]

-- an opened actor was spawned
opened_spawned : (end : End) (past : Past) (a : ℕ) → PastFits end past → is_among a (filter_map opened_in past) ≡ true → IsSpawned a
opened_spawned end [] a f e = absurd (false≢true e)
opened_spawned end (Made c n (Opens exports actor class values) i ∷ past) a f e = elim (among_cons actor (filter_map opened_in past) a e) [
  | inl q ↦ subst IsSpawned q f.0.1.0
  | inr q ↦ opened_spawned end past a f.1 q
]
opened_spawned end (Made c n (Closes actor sleeps) i ∷ past) a f e = opened_spawned end past a f.1 e
opened_spawned end (Made c n (Updates actor class values) i ∷ past) a f e = opened_spawned end past a f.1 e
opened_spawned end (Made c n (Calls actor k call args) i ∷ past) a f e = opened_spawned end past a f.1 e
opened_spawned end (Made c n (Gone actor) i ∷ past) a f e = opened_spawned end past a f.1 e
opened_spawned end (Ticked t s ∷ past) a f e = opened_spawned end past a f.1 e
opened_spawned end (Waits m ∷ past) a f e = opened_spawned end past a f.1 e
opened_spawned end (Sent n t items ∷ past) a f e = opened_spawned end past a f.1 e
opened_spawned end (Took n es ds ∷ past) a f e = opened_spawned end past a f.1 e
opened_spawned end (Ended g ∷ past) a f e = opened_spawned end past a f.1 e

-- who holds an index was spawned
holder : (past : Past) (ch : ℕ) (actors : List ℕ) → list_any (λ a. holds past a ch) actors ≡ true → (a : ℕ) × (is_among a actors ≡ true) × (index_of past a ≡ Some ch)
holder past ch [] h = absurd (false≢true h)
holder past ch (a ∷ actors) h = elim (or_cases (holds past a ch) (list_any (λ b. holds past b ch) actors) h) [
  | inl q ↦ (a, among_here a actors a refl, holds_is past a ch q)
  | inr q ↦ (let r = holder past ch actors q in (r.0, among_there a actors r.0 r.1, r.2))
]

-- the indexes that the first actors hold
abbrev held_by : Past → (count from : ℕ) → List ℕ
held_by past count from = filter_map (λ k. index_of past (2 * k)) (range_with_len from count)

-- the indexes held by so many actors are at most so many
few_held : (past : Past) (count from : ℕ) → length (held_by past count from) ≤ count
few_held past zero from = omega arith
few_held past (suc count) from = by (index_of past (2 * from)) (few_held past count (from + 1))
  where
    by : (o : Option ℕ) → length (held_by past count (from + 1)) ≤ count → length (cons_option o (held_by past count (from + 1))) ≤ suc count
    by None h = omega (arith, h)
    by (Some ch) h = omega (arith, h)

-- an index that an actor holds is among them
held_among : (past : Past) (ch k : ℕ) → index_of past (2 * k) ≡ Some ch → (count from : ℕ) → from ≤ k → k < from + count → is_among ch (held_by past count from) ≡ true
held_among past ch k e zero from lo hi = absurd (omega (arith, lo, hi))
held_among past ch k e (suc count) from lo hi = elim (cases_Bool (from == k)) [
  | inl q ↦ here (eqb-true from k q)
  | inr q ↦ (let ne : from ≡ k → ⊥ = eqb-false from k q in there (index_of past (2 * from)) (held_among past ch k e count (from + 1) (above ne) (omega (arith, hi))))
]
  where
    above : (from ≡ k → ⊥) → from + 1 ≤ k
    above ne = omega (arith, lo, ne)

    there : (o : Option ℕ) → is_among ch (held_by past count (from + 1)) ≡ true → is_among ch (cons_option o (held_by past count (from + 1))) ≡ true
    there None h = h
    there (Some x) h = among_there x (held_by past count (from + 1)) ch h

    here : from ≡ k → is_among ch (cons_option (index_of past (2 * from)) (held_by past count (from + 1))) ≡ true
    here q =
        let at : index_of past (2 * from) ≡ Some ch = ap (λ (x : ℕ). index_of past (2 * x)) q ∙ e in
        subst (λ (o : Option ℕ). is_among ch (cons_option o (held_by past count (from + 1))) ≡ true) (sym at) (among_here ch (held_by past count (from + 1)) ch refl)

-- the indexes with a span
abbrev spanned : Past → List ℕ → List ℕ
spanned past chs = filter (λ ch. nat_lt 0 (span past ch)) chs

-- the indexes with a span are at most the sum of spans
few_spanned : (past : Past) (chs : List ℕ) → length (spanned past chs) ≤ sum_by (span past) chs
few_spanned past [] = omega arith
few_spanned past (ch ∷ chs) = by (nat_lt 0 (span past ch)) refl (few_spanned past chs)
  where
    by : (b : Bool) → nat_lt 0 (span past ch) ≡ b → length (spanned past chs) ≤ sum_by (span past) chs → length (cond b (ch ∷ spanned past chs) (spanned past chs)) ≤ sum_by (span past) (ch ∷ chs)
    by true e h = (let some : 0 < span past ch = ltb-true 0 (span past ch) e in omega (arith, some, h, sum_by-cons (span past) ch chs))
    by false e h = omega (arith, h, sum_by-cons (span past) ch chs)

-- an index with a span is among them
spanned_among : (past : Past) (chs : List ℕ) (n : ℕ) → is_among n chs ≡ true → nat_lt 0 (span past n) ≡ true → is_among n (spanned past chs) ≡ true
spanned_among past [] n h e = h
spanned_among past (ch ∷ chs) n h e = elim (among_cons ch chs n h) [
  | inl q ↦ (let t : nat_lt 0 (span past ch) ≡ true = ap (λ (x : ℕ). nat_lt 0 (span past x)) q ∙ e in rw t (among_here ch (spanned past chs) n q))
  | inr q ↦ by (nat_lt 0 (span past ch)) (spanned_among past chs n q e)
]
  where
    by : (b : Bool) → is_among n (spanned past chs) ≡ true → is_among n (cond b (ch ∷ spanned past chs) (spanned past chs)) ≡ true
    by true h = among_there ch (spanned past chs) n h
    by false h = h

-- the free index is at most one above those held and those with a span
pub free_below : (end : End) (past : Past) (most : ℕ) → most ≡ 8192 → PastFits end past → span_sum past ≤ 512 → free_index past ≤ most + 513
free_below end past most is f sum = by (free_index past) refl
  where
    taken : List ℕ
    taken = held_by past most 1 ++ spanned past (channels_of past)

    is_taken : (i : ℕ) → (not (is_held past i) && (span past i == 0)) ≡ false → is_among i (held_by past most 1 ++ spanned past (channels_of past)) ≡ true
    is_taken i e = by_held (is_held past i) refl e
      where
        by_held : (b : Bool) → is_held past i ≡ b → (not b && (span past i == 0)) ≡ false → is_among i (held_by past most 1 ++ spanned past (channels_of past)) ≡ true
        by_held true q e =
            let h = holder past i (opened_actors past) q in
            let s : IsSpawned h.0 = opened_spawned end past h.0 f (back_each_once (filter_map opened_in past) h.0 (back_in_order nat_lt (each_once (filter_map opened_in past)) h.0 h.1)) in
            let at : index_of past (2 * s.0) ≡ Some i = ap (index_of past) (sym s.1) ∙ h.2 in
            let high : s.0 < 1 + most = omega (arith, s.3, is) in
            among_left (held_by past most 1) (spanned past (channels_of past)) i (held_among past i s.0 at most 1 s.2 high)
        by_held false q e =
            let ne : span past i ≡ 0 → ⊥ = eqb-false (span past i) 0 e in
            let some : nat_lt 0 (span past i) ≡ true = above ne in
            among_right (held_by past most 1) (spanned past (channels_of past)) i (spanned_among past (channels_of past) i (among_ascending (filter_map channel_in past) i (used ne)) some)
          where
            above : (span past i ≡ 0 → ⊥) → nat_lt 0 (span past i) ≡ true
            above ne = elim (cases_Bool (nat_lt 0 (span past i))) [ inl t ↦ t | inr t ↦ absurd (ne (let low : span past i ≤ 0 = ltb-false 0 (span past i) t in omega (arith, low))) ]

            used : (span past i ≡ 0 → ⊥) → is_among i (filter_map channel_in past) ≡ true
            used ne = elim (cases_Bool (is_among i (filter_map channel_in past))) [ inl t ↦ t | inr t ↦ absurd (ne (unused_span i past t)) ]

    by : (n : ℕ) → free_index past ≡ n → free_index past ≤ most + 513
    by zero e = omega (arith, e)
    by (suc n) e =
        let all : n ≤ length (held_by past most 1 ++ spanned past (channels_of past)) =
        room_taken n (held_by past most 1 ++ spanned past (channels_of past))
        (λ i lo hi. is_taken i (least_below (λ ch. not (is_held past ch) && (span past ch == 0)) (length (channels_of past)) 1 i lo (omega (arith, e, hi)))) in
        omega (arith, all, length-append (held_by past most 1) (spanned past (channels_of past)), few_held past most 1, few_spanned past (channels_of past), sum, e)
