-- What is kept of the packets of a tick under way, as it grows with the packing.
use Rattle.std.proofs.Common.{◌≡◌, ℕ, suc, ◌+◌, ◌-◌, ◌*◌, ◌/◌, ◌%◌, ◌≤◌, List, [], ◌∷◌, ◌++◌, map, drop, reverse, length, Bool, true, ◌&&◌, nat_lt, nat_le, Some, refl, sym, ap, ◌∙◌, subst, arith, append_assoc, slice_get}
use Rattle.std.specs.List.{flat_map, sum_by}
use Rattle.std.proofs.lemmas.Bool.Decides.{nat_tests}
use Rattle.std.proofs.lemmas.List.{length-append, length-map, length-reverse, reverse-append, append-nil}
use Rattle.std.proofs.lemmas.List.Concat.{flat_map-append}
use Rattle.std.proofs.lemmas.List.Sums.{sum_by_push, sum_by-cons}
use Rattle.protocol_model.specs.declared.Version.{Version}
use Rattle.protocol_model.specs.Packet.{Head, start_bits, rec_bits, spelling_of}
use Rattle.protocol_model.specs.Bits.{bytes_of}
use Rattle.connection_model.specs.Feed.{End, Past, Item}
use Rattle.connection_model.specs.Fates.{last_sent, high_of, head_of, unresolved_count}
use Rattle.connection_model.specs.Pack.{Packing, rec_of, packet_carrying, packet_size, fits_current, may_begin, after_sending}
use Rattle.connection_model.specs.Past.{sent_bytes}
use Rattle.ack_book.specs.Book.{Book}
use Rattle.ack_book.specs.Keeps.{Keeps}
use Rattle.ack_book.proofs.KeepsSteps.{like_keeps}
use Rattle.packing_laws.specs.Sendings.{sent_all}
use Rattle.packing_laws.proofs.Packings.{sent_all-cons, last_sent_all, high_all, head_all}
use Rattle.link_end.specs.Link.{Link}
use Rattle.link_end.specs.Begun.{closed_bytes, current_bytes, all_bytes, total_size, fits_after, with_packet, with_bits, next_start, may_with}
use Rattle.link_end.specs.Packs.{packet_bits, bits_begun, begun_of, sent_now, Packs}
use Rattle.link_end.proofs.PacketSteps.{closed_length, start_same}

-- ---- packets begun

-- an item's bits
abbrev pub item_bits : End → Item → List Bool
item_bits end item = rec_bits end.version (rec_of item)

all_reversed : (packets : List (List Bool))
    → reverse (map closed_bytes (drop 1 packets)) ++ current_bytes (slice_get packets 0)
    ≡ reverse (map closed_bytes packets)
all_reversed [] = refl
all_reversed (bits ∷ packets) = sym (reverse-append (closed_bytes bits ∷ []) (map closed_bytes packets))

pub all_begun : (end : End) (p : Packing)
    → all_bytes (begun_of end p) ≡ reverse (map closed_bytes (bits_begun end p.past p.packets))
all_begun end p = all_reversed (bits_begun end p.past p.packets)

bits_count : (end : End) (past : Past) (packets : List (List Item))
    → length (bits_begun end past packets) ≡ length packets
bits_count end past [] = refl
bits_count end past (items ∷ packets) = ap suc (bits_count end past packets)

pub count_begun : (end : End) (p : Packing) → length (all_bytes (begun_of end p)) ≡ length p.packets
count_begun end p =
    ap length (all_begun end p)
    ∙ length-reverse (map closed_bytes (bits_begun end p.past p.packets))
    ∙ length-map (bits_begun end p.past p.packets) closed_bytes
    ∙ bits_count end p.past p.packets

-- one more packet, with these items
begun_with : (end : End) (p : Packing) (items : List Item)
    → begun_of end (record p { packets = items ∷ p.packets })
    ≡ with_packet (packet_bits end p.past (last_sent p.past + 1 + length p.packets) items) (begun_of end p)
begun_with end p items =
    ap (λ (l : List (List ℕ)). record {
      first = last_sent p.past + 1;
      whole = l;
      current = Some (packet_bits end p.past (last_sent p.past + 1 + length p.packets) items);
      full = p.full;
    }) (sym (all_begun end p))

-- the start of the next packet is the one after the packets begun
start_now : (end : End) (p : Packing) → high_of p.past ≤ last_sent p.past
    → next_start end.version (sent_now p)
    ≡ start_bits end.version ((last_sent p.past + 1 + length p.packets) % 16384) (head_of end.version p.past)
start_now end p h =
    let number : last_sent (sent_now p) + 1 ≡ last_sent p.past + 1 + length p.packets =
    omega (arith, last_sent_all p.past p.packets) in
    ap (λ (n : ℕ). start_bits end.version (n % 16384) (head_of end.version (sent_now p))) number
    ∙ ap (start_bits end.version ((last_sent p.past + 1 + length p.packets) % 16384))
    (head_all end.version p.past p.packets h)

pub begun_empty : (end : End) (p : Packing) → high_of p.past ≤ last_sent p.past
    → begun_of end (record p { packets = [] ∷ p.packets })
    ≡ with_packet (next_start end.version (sent_now p)) (begun_of end p)
begun_empty end p h =
    begun_with end p []
    ∙ ap (λ (bits : List Bool). with_packet bits (begun_of end p))
    (append-nil (start_bits end.version ((last_sent p.past + 1 + length p.packets) % 16384)
    (head_of end.version p.past)) ∙ sym (start_now end p h))

pub begun_more : (end : End) (p : Packing) (item : Item) → high_of p.past ≤ last_sent p.past
    → begun_of end (record p { packets = (item ∷ []) ∷ p.packets })
    ≡ with_bits (item_bits end item) (with_packet (next_start end.version (sent_now p)) (begun_of end p))
begun_more end p item h =
    let start : List Bool =
    start_bits end.version ((last_sent p.past + 1 + length p.packets) % 16384) (head_of end.version p.past) in
    begun_with end p (item ∷ [])
    ∙ ap (λ (bits : List Bool). with_packet (start ++ bits) (begun_of end p)) (append-nil (item_bits end item))
    ∙ ap (λ (bits : List Bool). with_bits (item_bits end item) (with_packet bits (begun_of end p)))
    (sym (start_now end p h))

-- one more item in the current packet
pub begun_longer : (end : End) (past : Past) (current : List Item) (packets : List (List Item)) (full : Bool)
    (item : Item)
    → begun_of end (record { past = past; packets = (current ++ item ∷ []) ∷ packets; full = full })
    ≡ with_bits (item_bits end item) (begun_of end (record { past = past; packets = current ∷ packets; full = full }))
begun_longer end past current packets full item =
    let start : List Bool =
    start_bits end.version ((last_sent past + 1 + length packets) % 16384) (head_of end.version past) in
    let bits : List Bool = flat_map (λ item. rec_bits end.version (rec_of item)) current in
    ap (λ (l : List Bool). record {
      first = last_sent past + 1;
      whole = reverse (map closed_bytes (bits_begun end past packets));
      current = Some l;
      full = full;
    })
    (ap (λ (l : List Bool). start ++ l)
    (flat_map-append (λ item. rec_bits end.version (rec_of item)) current (item ∷ [])
    ∙ ap (λ (l : List Bool). bits ++ l) (append-nil (item_bits end item)))
    ∙ sym (append_assoc start bits (item_bits end item)))

-- ---- room

pub fits_begun : (end : End) (past : Past) (packets : List (List Item)) (item : Item)
    → fits_after (slice_get (bits_begun end past packets) 0) (length (item_bits end item))
    ≡ fits_current end past packets item
fits_begun end past [] item = refl
fits_begun end past (current ∷ packets) item =
    let n : ℕ = (last_sent past + 1 + length packets) % 16384 in
    let head : Head = head_of end.version past in
    let bits : List Bool = flat_map (λ item. rec_bits end.version (rec_of item)) current in
    let all : List Bool = flat_map (λ item. rec_bits end.version (rec_of item)) (current ++ item ∷ []) in
    let more : length all ≡ length bits + length (item_bits end item) =
    ap length (flat_map-append (λ item. rec_bits end.version (rec_of item)) current (item ∷ []))
    ∙ omega (arith, length-append bits (item_bits end item ++ []), length-append (item_bits end item) []) in
    ap (λ (k : ℕ). nat_le k 8192)
    (let e : length (start_bits end.version n head ++ bits) + length (item_bits end item) + 1
    ≡ length (start_bits end.version 0 head ++ all) + 1 =
    omega (
      arith,
      more,
      length-append (start_bits end.version n head) bits,
      length-append
          (start_bits end.version 0 head) all,
      start_same end.version n 0 head,
    ) in e)

size_is : (end : End) (past : Past) (number : ℕ) (items : List Item)
    → length (closed_bytes (packet_bits end past number items)) ≡ packet_size end past items
size_is end past number items =
    let head : Head = head_of end.version past in
    let bits : List Bool = flat_map (λ item. rec_bits end.version (rec_of item)) items in
    closed_length (packet_bits end past number items)
    ∙ ap (λ (k : ℕ). k / 8)
    (let e : length (start_bits end.version (number % 16384) head ++ bits) + 8
    ≡ length (start_bits end.version 0 head ++ bits) + 1 + 7 =
    omega (
      arith,
      length-append (start_bits end.version (number % 16384) head) bits,
      length-append
          (start_bits end.version 0 head) bits,
      start_same end.version (number % 16384) 0 head,
    ) in e)

sizes_are : (end : End) (past : Past) (packets : List (List Item))
    → sum_by length (reverse (map closed_bytes (bits_begun end past packets))) ≡ sum_by (packet_size end past) packets
sizes_are end past [] = refl
sizes_are end past (items ∷ packets) =
    let bytes : List ℕ = closed_bytes (packet_bits end past (last_sent past + 1 + length packets) items) in
    let before : List (List ℕ) = map closed_bytes (bits_begun end past packets) in
    ap (sum_by length) (reverse-append (bytes ∷ []) before)
    ∙ sum_by_push length (reverse before) bytes
    ∙ omega (
      arith,
      sizes_are end past packets,
      size_is end past (last_sent past + 1 + length packets) items,
      sum_by-cons (packet_size end past) items packets,
    )

pub total_begun : (end : End) (p : Packing) → total_size (begun_of end p) ≡ sum_by (packet_size end p.past) p.packets
total_begun end p = ap (sum_by length) (all_begun end p) ∙ sizes_are end p.past p.packets

open_step : (last high n : ℕ) → high ≤ last → nat_lt (last + n) (high + 4096) ≡ nat_lt (last - high + n) 4096
open_step last high n h = grind (arith, nat_tests)

pub may_begun : (l : Link) (end : End) (before : Past) (p : Packing) → Packs l end before p
    → may_with l.budget l.book (begun_of end p) ≡ may_begin end p
may_begun l end before p h =
    let size : nat_lt (8 * total_size (begun_of end p)) l.budget
    ≡ nat_lt (8 * sum_by (packet_size end p.past) p.packets) end.budget =
    ap (λ (n : ℕ). nat_lt (8 * n) l.budget) (total_begun end p)
    ∙ ap (nat_lt (8 * sum_by (packet_size end p.past) p.packets)) h.budget in
    let count : nat_lt l.book.last_sent (l.book.high + 4096)
    ≡ nat_lt (unresolved_count p.past + length p.packets) 4096 =
    ap (λ (n : ℕ). nat_lt n (l.book.high + 4096)) (h.book.sent ∙ last_sent_all p.past p.packets)
    ∙ ap (λ (n : ℕ). nat_lt (last_sent p.past + length p.packets) (n + 4096)) (h.book.high
    ∙ high_all p.past p.packets)
    ∙ open_step (last_sent p.past) (high_of p.past) (length p.packets) h.high in
    ap (λ (b : Bool). b && nat_lt l.book.last_sent (l.book.high + 4096)) size
    ∙ ap (λ (b : Bool). nat_lt (8 * sum_by (packet_size end p.past) p.packets) end.budget && b) count

-- ---- the bytes sent

recs_flat : (v : Version) (items : List Item)
    → flat_map (λ rec. rec_bits v rec) (map rec_of items) ≡ flat_map (λ item. rec_bits v (rec_of item)) items
recs_flat v [] = refl
recs_flat v (item ∷ items) = ap (λ (l : List Bool). rec_bits v (rec_of item) ++ l) (recs_flat v items)

spelled : (end : End) (past : Past) (number : ℕ) (items : List Item)
    → spelling_of end.version (packet_carrying end past number items)
    ≡ closed_bytes (packet_bits end past number items)
spelled end past number items =
    ap (λ (l : List Bool). bytes_of (start_bits end.version (number % 16384) (head_of end.version past) ++ l
    ++ true ∷ [])) (recs_flat end.version items)

pub bytes_sent : (end : End) (past : Past) (packets : List (List Item)) → high_of past ≤ last_sent past
    → sent_bytes end (sent_all past packets)
    ≡ sent_bytes end past ++ reverse (map closed_bytes (bits_begun end past packets))
bytes_sent end past [] h = sym (append-nil (sent_bytes end past))
bytes_sent end past (items ∷ packets) h =
    let before : Past = sent_all past packets in
    let number : ℕ = last_sent past + 1 + length packets in
    let n : last_sent before + 1 ≡ number = omega (arith, last_sent_all past packets) in
    let bytes : List ℕ = closed_bytes (packet_bits end past number items) in
    let earlier : List (List ℕ) = reverse (map closed_bytes (bits_begun end past packets)) in
    let same : spelling_of end.version (packet_carrying end before (last_sent before + 1) items) ≡ bytes =
    spelled end before (last_sent before + 1) items
    ∙ ap (λ (k : ℕ). closed_bytes (start_bits end.version (k % 16384) (head_of end.version before)
    ++ flat_map (λ item. rec_bits end.version (rec_of item)) items)) n
    ∙ ap (λ (head : Head). closed_bytes (start_bits end.version (number % 16384) head
    ++ flat_map (λ item. rec_bits end.version (rec_of item)) items)) (head_all end.version past packets h) in
    ap (sent_bytes end) (sent_all-cons past items packets)
    ∙ ap (λ (b : List ℕ). sent_bytes end before ++ b ∷ []) same
    ∙ ap (λ (l : List (List ℕ)). l ++ bytes ∷ []) (bytes_sent end past packets h)
    ∙ append_assoc (sent_bytes end past) earlier (bytes ∷ [])
    ∙ ap (λ (l : List (List ℕ)). sent_bytes end past
    ++ l) (sym (reverse-append (bytes ∷ []) (map closed_bytes (bits_begun end past packets))))

-- ---- a link in a tick

-- the packets change, and the past stays
pub packs_with : (l later : Link) (end : End) (before past : Past) (packets more : List (List Item))
    (full filled : Bool)
    → Packs l end before (record { past = past; packets = packets; full = full })
    → Keeps later.book end.version (sent_all past more)
    → later.budget ≡ l.budget → later.silent ≡ l.silent → later.heard ≡ l.heard → later.spent ≡ l.spent
    → later.begun ≡ Some (begun_of end (record { past = past; packets = more; full = filled }))
    → Packs later end before (record { past = past; packets = more; full = filled })
packs_with l later end before past packets more full filled h book budget silent heard spent begun = record {
  book = book;
  budget = budget ∙ h.budget;
  silent = silent ∙ h.silent;
  last = h.last;
  count = h.count;
  high = h.high;
  few = h.few;
  in_tick = h.in_tick;
  heard = heard ∙ h.heard;
  begun = begun;
  kept = spent ∙ h.kept;
}

-- a book doesn't see what stands in a packet
pub book_longer : (book : Book) (v : Version) (past : Past) (current more : List Item) (packets : List (List Item))
    → Keeps book v (sent_all past (current ∷ packets)) → Keeps book v (sent_all past (more ∷ packets))
book_longer book v past current more packets h =
    let before : Past = sent_all past packets in
    let P : Past → Type 0 = λ l. Keeps book v l in
    subst P (sym (sent_all-cons past more packets))
    (like_keeps book v (after_sending before current) (after_sending before more)
    (subst P (sent_all-cons past current packets) h) refl refl refl refl (λ n. refl))
