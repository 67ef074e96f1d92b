-- The packets of a tick fit.
use Rattle.std.proofs.Common.{◌≡◌, ℕ, zero, suc, ◌+◌, ◌<◌, ◌≤◌, List, [], ◌∷◌, ◌++◌, map, fold, Bool, true, false, cond, not, ◌&&◌, ◌||◌, nat_lt, nat_le, length, length-append, reverse, refl, sym, ap, ◌∙◌, subst, arith, Option, Some, None, append-nil}
use Rattle.std.specs.List.{flat_map, filter, range_with_len, AllByRecursion}
use Rattle.std.proofs.lemmas.Bool.{false≢true, cond_both, leb-true}
use Rattle.protocol_model.specs.declared.Version.{Version}
use Rattle.protocol_model.specs.declared.Version.TheVariants.{One, Two}
use Rattle.protocol_model.specs.Packet.{rec_bits, start_bits, channel_limit}
use Rattle.protocol_model.specs.Value.{Pair}
use Rattle.protocol_model.specs.Payload.{Message, Closes, Gone, parts_of, message_bits}
use Rattle.protocol_model.specs.Sight.{Seen}
use Rattle.protocol_model.specs.Search.{in_order}
use Rattle.connection_model.specs.Feed.{End, Past, Ticked, Made, Waits, Sent, Took, Ended, Item, sight_of, seen_in}
use Rattle.connection_model.specs.Fates.{head_of, high_of, last_sent}
use Rattle.connection_model.specs.Bunches.{made_count, room, after_making, made_bunch}
use Rattle.connection_model.specs.State.{state_of, is_open, is_asleep, is_opened, index_of, free_index}
use Rattle.connection_model.specs.Carry.{due_pairs}
use Rattle.connection_model.specs.Settled.{is_settled_as}
use Rattle.connection_model.specs.Items.{loose_item, wants_open, open_message, update_message, update_pairs, actors_by_score, scored_actors, score_of, goes_before}
use Rattle.connection_model.specs.Pack.{Packing, idle_ticks, is_shown, made_if_room, after_close, rec_of, packet_length, fits_current, has_room, items_with, after_offer, part_item, after_open, after_update, after_actor, owes_head, is_silent, packets_to_send, after_sending}
use Rattle.connection_laws.proofs.Moves.{making_keeps}
use Rattle.connection_laws.proofs.Counts.{last_sent_sent}
use Rattle.connection_laws.proofs.Items.{all_reverse, all_append}
use Rattle.connection_laws.proofs.ActorsShown.{all_in_order, all_mapped, all_filtered}
use Rattle.payload_laws.proofs.Updates.{update_most}
use Rattle.payload_laws.proofs.Bounds.{gone_most, open_most}
use Rattle.payload_laws.specs.Limits.{AreSegments}
use Rattle.protocol_model.specs.Value.{Segment}
use Rattle.connection_model.specs.Exports.{is_known, needed_segments}
use Rattle.headline_laws.specs.Fits.{SeenFits, OpenFits, ItemFits, items_length, start_length, PacketFits, PastFits}
use Rattle.headline_laws.proofs.Lengths.{rec_fits, made_fits, loose_fits, start_most, start_made, start_sent}
use Rattle.headline_laws.proofs.ChannelsFit.{index_fits}

-- ---- what is made

-- channel 0 can be spelled
zero_below : (v : Version) → 0 < channel_limit v
zero_below One = omega arith
zero_below Two = omega arith

-- a past fits after a message that fits is made
pub fits_made : (end : End) (past : Past) (ch : ℕ) (m : Message) → PastFits end past → ch < channel_limit end.version → OpenFits m → length (message_bits m) ≤ 70000 → PastFits end (after_making past ch m)
fits_made end past ch m f low open_fits short = making_keeps (λ i before. PastFits end before) past ch m f (λ i before lt h. ((low, open_fits, short), h))

-- a past fits after a message that there may be room for
room_fits : (end : End) (past : Past) (o : Option ℕ) (m : Message) → PastFits end past → ((ch : ℕ) → o ≡ Some ch → ch < channel_limit end.version) → OpenFits m → length (message_bits m) ≤ 70000 → PastFits end (made_if_room past o m)
room_fits end past None m f low q short = f
room_fits end past (Some ch) m f low q short = cond_both (nat_lt 0 (room past ch)) (after_making past ch m) past (PastFits end) (λ e. fits_made end past ch m f (low ch refl) q short) (λ e. f)

-- a past fits after a close
close_fits : (end : End) (past : Past) (a : ℕ) → PastFits end past → PastFits end (after_close past a)
close_fits end past a f =
    let seen : Option Seen = seen_in (sight_of past) a in
    let third : Past = cond (is_asleep (state_of past a) && is_shown (λ s. s.destroyed) seen) (made_if_room past (Some 0) (Gone a)) past in
    cond_both (is_open (state_of past a) && (is_shown (λ s. s.destroyed) seen || nat_le 5 (idle_ticks past a))) (made_if_room past (index_of past a) (Closes a false))
    (cond (is_shown (λ s. s.dormant && is_settled_as past s) seen) (made_if_room past (index_of past a) (Closes a true)) third) (PastFits end)
    (λ e. room_fits end past (index_of past a) (Closes a false) f (λ ch q. index_fits end past a ch f q) tt (omega arith))
    (λ e. cond_both (is_shown (λ s. s.dormant && is_settled_as past s) seen) (made_if_room past (index_of past a) (Closes a true)) third (PastFits end)
    (λ e. room_fits end past (index_of past a) (Closes a true) f (λ ch q. index_fits end past a ch f q) tt (omega arith))
    (λ e. cond_both (is_asleep (state_of past a) && is_shown (λ s. s.destroyed) seen) (made_if_room past (Some 0) (Gone a)) past (PastFits end)
    (λ e. room_fits end past (Some 0) (Gone a) f (λ ch q. zero_is ch q) tt gone_short) (λ e. f)))
  where
    gone_short : length (message_bits (Gone a)) ≤ 70000
    gone_short = omega (arith, gone_most a)

    zero_is : (ch : ℕ) → (let o : Option ℕ = Some 0 in o) ≡ Some ch → ch < channel_limit end.version
    zero_is ch q = (let same : 0 ≡ ch = cc in subst (λ (k : ℕ). k < channel_limit end.version) same (zero_below end.version))

-- and after closes
pub closes_fit : (end : End) (past : Past) (actors : List ℕ) → PastFits end past → PastFits end (fold after_close past actors)
closes_fit end past [] f = f
closes_fit end past (a ∷ actors) f = closes_fit end (after_close past a) actors (close_fits end past a f)

-- ---- one more item

-- what is packed by now, in packets whose start has so many bits
pub record PackFits (end : End) (start : ℕ) (past : Past) (packets : List (List Item)) : Type 0 where
  pub fits : PastFits end past
  pub start_is : start_length end past ≡ start
  pub each : AllByRecursion (PacketFits end.version start) packets

-- what was packed so far fits
abbrev pub PackingFits : End → (start : ℕ) → Packing → Type 0
PackingFits end start p = PackFits end start p.past p.packets

-- items take their bits together
items_more : (v : Version) (items more : List Item) → items_length v (items ++ more) ≡ items_length v items + items_length v more
items_more v [] more = omega arith
items_more v (item ∷ items) more =
    omega (
      arith,
      items_more v items more,
      length-append (rec_bits v (rec_of item)) (flat_map (λ i. rec_bits v (rec_of i)) (items ++ more)),
      length-append (rec_bits v (rec_of item)) (flat_map (λ i. rec_bits v (rec_of i)) items),
    )

-- an item takes its own
one_length : (v : Version) (item : Item) → items_length v (item ∷ []) ≡ length (rec_bits v (rec_of item))
one_length v item = ap length (append-nil (rec_bits v (rec_of item)))

-- a packet takes its start and its items
packet_is : (end : End) (past : Past) (items : List Item) → packet_length end past items ≡ start_length end past + items_length end.version items
packet_is end past items = length-append (start_bits end.version 0 (head_of end.version past)) (flat_map (λ item. rec_bits end.version (rec_of item)) items)

-- an item fits a packet alone
alone_fits : (end : End) (past : Past) (start : ℕ) (item : Item) → start_length end past ≡ start → ItemFits end.version item → PacketFits end.version start (item ∷ [])
alone_fits end past start item e f = ((f, tt), omega (arith, e, start_most end.version past, one_length end.version item, f.1))

-- it fits behind others that leave room
with_fits : (end : End) (past : Past) (start : ℕ) (packets : List (List Item)) (item : Item) → start_length end past ≡ start → ItemFits end.version item → AllByRecursion (PacketFits end.version start) packets
    → (b : Bool) → fits_current end past packets item ≡ b → AllByRecursion (PacketFits end.version start) (items_with packets b item)
with_fits end past start [] item e f all true q = absurd (false≢true q)
with_fits end past start [] item e f all false q = (alone_fits end past start item e f, tt)
with_fits end past start (current ∷ packets) item e f all false q = (alone_fits end past start item e f, all)
with_fits end past start (current ∷ packets) item e f all true q =
    let fits : packet_length end past (current ++ item ∷ []) + 1 ≤ 8192 = leb-true (packet_length end past (current ++ item ∷ []) + 1) 8192 q in
    ((all_append (ItemFits end.version) current (item ∷ []) all.0.0 (f, tt), omega (arith, fits, packet_is end past (current ++ item ∷ []), e)), all.1)

-- an item that fits is packed so that all fits
pub offer_fits : (end : End) (start : ℕ) (p : Packing) (item : Item) → PackingFits end start p → ItemFits end.version item → PackingFits end start (after_offer end p item)
offer_fits end start p item h f =
    cond_both p.full p
    (cond (has_room end p item) (record p { packets = items_with p.packets (fits_current end p.past p.packets item) item }) (record p { full = true })) (PackingFits end start) (λ e. h)
    (λ e. cond_both (has_room end p item) (record p { packets = items_with p.packets (fits_current end p.past p.packets item) item }) (record p { full = true }) (PackingFits end start)
    (λ r. more) (λ r. same))
  where
    same : PackFits end start p.past p.packets
    same = h

    more : PackFits end start p.past (items_with p.packets (fits_current end p.past p.packets item) item)
    more = record { fits = h.fits; start_is = h.start_is; each = with_fits end p.past start p.packets item h.start_is f h.each (fits_current end p.past p.packets item) refl }

-- so are items
pub offers_fit : (end : End) (start : ℕ) (p : Packing) (items : List Item) → PackingFits end start p → AllByRecursion (ItemFits end.version) items → PackingFits end start (fold (after_offer end) p items)
offers_fit end start p [] h f = h
offers_fit end start p (item ∷ items) h f = offers_fit end start (after_offer end p item) items (offer_fits end start p item h f.0) f.1

-- ---- an actor's turn

parts_fit : (v : Version) (ch first : ℕ) (m : Message) → ch < channel_limit v → (count from : ℕ) → AllByRecursion (ItemFits v) (map (part_item ch first m) (range_with_len from count))
parts_fit v ch first m low zero from = tt
parts_fit v ch first m low (suc count) from = (rec_fits v (made_bunch ch (first + from) m from) (made_fits v ch (first + from) m from low), parts_fit v ch first m low count (from + 1))

-- so is an open
pub open_fits : (end : End) (start : ℕ) (p : Packing) (ch : ℕ) (m : Message) → PackingFits end start p → ch < channel_limit end.version → OpenFits m → length (message_bits m) ≤ 70000 → PackingFits end start (after_open end p ch m)
open_fits end start p ch m h low of short =
    let first : ℕ = made_count p.past ch + 1 in
    cond_both (nat_lt (room p.past ch) (parts_of m)) p
    (cond (not (has_room end p (part_item ch first m 0))) (record p { full = true }) (fold (after_offer end) (record p { past = after_making p.past ch m }) (map (part_item ch first m) (range_with_len 0 (parts_of m)))))
    (PackingFits end start) (λ e. h)
    (λ e. cond_both (not (has_room end p (part_item ch first m 0))) (record p { full = true }) (fold (after_offer end) (record p { past = after_making p.past ch m }) (map (part_item ch first m) (range_with_len 0 (parts_of m))))
    (PackingFits end start) (λ r. same)
    (λ r. offers_fit end start (record p { past = after_making p.past ch m }) (map (part_item ch first m) (range_with_len 0 (parts_of m))) made (parts_fit end.version ch first m low (parts_of m) 0)))
  where
    same : PackFits end start p.past p.packets
    same = h

    made : PackFits end start (after_making p.past ch m) p.packets
    made = record { fits = fits_made end p.past ch m h.fits low of short; start_is = start_made end p.past ch m ∙ h.start_is; each = h.each }

update_fits : (end : End) (start : ℕ) (p : Packing) (seen : Seen) (o : Option ℕ) (due : List Pair) → index_of p.past seen.actor ≡ o → PackingFits end start p → PackingFits end start (after_update end p seen o due)
update_fits end start p seen None due e h = h
update_fits end start p seen (Some ch) [] e h = h
update_fits end start p seen (Some ch) (pair ∷ due) e h =
    let short : length (message_bits (update_message seen (update_pairs seen (pair ∷ due)))) ≤ 7000 = omega (arith, update_most seen (pair ∷ due)) in
    offer_fits end start p (loose_item (update_message seen (update_pairs seen (pair ∷ due))) ch) h
    (loose_fits end.version ch (update_message seen (update_pairs seen (pair ∷ due))) (index_fits end p.past seen.actor ch h.fits e) short)

segments_kept : (test : Segment → Bool) (path : List Segment) → AreSegments path → AreSegments (filter test path) × (length (filter test path) ≤ length path)
segments_kept test [] h = (tt, omega arith)
segments_kept test (s ∷ path) h = (
    let r = segments_kept test path h.1 in
    cond_both (test s) (s ∷ filter test path) (filter test path) (λ (l : List Segment). AreSegments l × (length l ≤ length (s ∷ path)))
    (λ e. ((h.0, r.0), omega (arith, r.1))) (λ e. (r.0, omega (arith, r.1))))

open_short : (past : Past) (seen : Seen) → SeenFits seen → length (message_bits (open_message past seen)) ≤ 70000
open_short past seen s =
    let k = segments_kept (λ (x : Segment). not (is_known past x.guid)) seen.class.path s.path in
    omega (arith, open_most (needed_segments past seen.class) seen.actor seen.class seen.values k.0 (omega (arith, k.1, s.short)) s.limits s.all_fit)

-- so is what an actor sends
pub actor_fits : (end : End) (start : ℕ) (p : Packing) (seen : Seen) → PackingFits end start p → SeenFits seen → free_index p.past < channel_limit end.version → PackingFits end start (after_actor end p seen)
actor_fits end start p seen h s low =
    let opened : Packing = after_open end p (free_index p.past) (open_message p.past seen) in
    let updated : Packing = after_update end p seen (index_of p.past seen.actor) (due_pairs p.past seen) in
    cond_both p.full p (cond (wants_open p.past seen) opened (cond (is_opened (state_of p.past seen.actor)) updated p)) (PackingFits end start) (λ e. h)
    (λ e. cond_both (wants_open p.past seen) opened (cond (is_opened (state_of p.past seen.actor)) updated p) (PackingFits end start)
    (λ w. open_fits end start p (free_index p.past) (open_message p.past seen) h low (s.spawned, s.limits) (open_short p.past seen s))
    (λ w. cond_both (is_opened (state_of p.past seen.actor)) updated p (PackingFits end start) (λ o. update_fits end start p seen (index_of p.past seen.actor) (due_pairs p.past seen) refl h) (λ o. h)))

-- ---- the sight

sight_fits : (end : End) (past : Past) → PastFits end past → AllByRecursion SeenFits (sight_of past)
sight_fits end [] f = tt
sight_fits end (Ticked t s ∷ past) f = f.0
sight_fits end (Made c n m i ∷ past) f = sight_fits end past f.1
sight_fits end (Waits m ∷ past) f = sight_fits end past f.1
sight_fits end (Sent n t items ∷ past) f = sight_fits end past f.1
sight_fits end (Took n es ds ∷ past) f = sight_fits end past f.1
sight_fits end (Ended g ∷ past) f = sight_fits end past f.1

-- each actor of a tick is seen as fits
pub actors_seen : (end : End) (past : Past) → PastFits end past → AllByRecursion SeenFits (actors_by_score past)
actors_seen end past f =
    all_mapped SeenFits (λ (scored : ℕ × Seen). scored.1) (in_order goes_before (scored_actors past))
    (all_in_order (λ (scored : ℕ × Seen). SeenFits scored.1) goes_before (scored_actors past)
    (all_mapped (λ (scored : ℕ × Seen). SeenFits scored.1) (λ (seen : Seen). (score_of past seen, seen)) (filter (λ (seen : Seen). seen.relevant) (sight_of past))
    (all_filtered SeenFits (λ (seen : Seen). seen.relevant) (sight_of past) (sight_fits end past f))))

-- ---- packets are sent

-- the past fits, the start of a packet takes so many bits, and what is known was sent
pub record SentFits (end : End) (start : ℕ) (past : Past) : Type 0 where
  pub fits : PastFits end past
  pub start_is : start_length end past ≡ start
  pub high : high_of past ≤ last_sent past

-- a packet that fits is sent
pub one_fits : (end : End) (start : ℕ) (past : Past) (items : List Item) → SentFits end start past → PacketFits end.version start items → SentFits end start (after_sending past items)
one_fits end start past items h f = record {
  fits = (subst (λ (n : ℕ). PacketFits end.version n items) (sym h.start_is) f, h.fits);
  start_is = start_sent end past items h.high ∙ h.start_is;
  high = omega (arith, last_sent_sent past items, h.high);
}

-- so are packets
pub all_fit : (end : End) (start : ℕ) (past : Past) (packets : List (List Item)) → SentFits end start past → AllByRecursion (PacketFits end.version start) packets → SentFits end start (fold after_sending past packets)
all_fit end start past [] h f = h
all_fit end start past (items ∷ packets) h f = all_fit end start (after_sending past items) packets (one_fits end start past items h f.0) f.1

-- the packets of a tick fit
pub to_send_fit : (end : End) (start : ℕ) (before : Past) (p : Packing) → PackingFits end start p → AllByRecursion (PacketFits end.version start) (packets_to_send end before p)
to_send_fit end start before p h =
    cond_both (nat_lt 0 (length p.packets)) (reverse p.packets) (cond (owes_head end.version before || is_silent p.past) ([] ∷ []) []) (AllByRecursion (PacketFits end.version start))
    (λ e. all_reverse (PacketFits end.version start) p.packets h.each)
    (λ e. cond_both (owes_head end.version before || is_silent p.past) ([] ∷ []) [] (AllByRecursion (PacketFits end.version start)) (λ t. (empty, tt)) (λ t. tt))
  where
    empty : PacketFits end.version start []
    empty = (tt, omega (arith, h.start_is, start_most end.version p.past))
