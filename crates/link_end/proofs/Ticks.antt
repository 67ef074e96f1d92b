-- A link as a tick begins, and as it ends.
use Rattle.std.proofs.Common.{◌≡◌, ℕ, suc, ◌+◌, ◌-◌, ◌*◌, ◌%◌, ◌<◌, ◌≤◌, min, List, [], ◌∷◌, ◌++◌, map, drop, reverse, length, Bool, true, false, not, ◌&&◌, ◌||◌, ◌==◌, nat_lt, nat_le, Some, None, refl, sym, ap, ◌∙◌, subst, arith, if◌then◌else◌}
use Rattle.std.specs.List.{flat_map, fold, sum_by}
use Rattle.std.proofs.lemmas.Bool.{cond_both, and_right, and_parts, ne_eqb, eqb-true, lt-ltb}
use Rattle.std.proofs.lemmas.Bool.Decides.{nat_tests}
use Rattle.std.proofs.lemmas.List.{length-append, drop_at}
use Rattle.protocol_model.specs.declared.Version.{Version}
use Rattle.protocol_model.specs.declared.Version.TheVariants.{One, Two}
use Rattle.protocol_model.specs.Packet.{Head, Ack, start_bits, rec_bits}
use Rattle.protocol_model.specs.Sight.{Seen}
use Rattle.connection_model.specs.Feed.{End, Past, Ticked, Sent, Ended, ByStall, Item, Owed, tick_count, deeds_since_tick}
use Rattle.connection_model.specs.Fates.{last_sent, high_of, head_of, owed_of, taken_of, unresolved_count}
use Rattle.connection_model.specs.Pack.{Packing, rec_of, after_sending, after_stall, after_packing, packets_to_send, owes_head, is_silent}
use Rattle.connection_model.specs.Past.{sent_bytes}
use Rattle.ack_book.specs.Book.{Book}
use Rattle.ack_book.specs.Keeps.{Keeps}
use Rattle.ack_book.proofs.KeepsSteps.{like_keeps}
use Rattle.packing_laws.specs.Sendings.{sent_all}
use Rattle.packing_laws.specs.Beginning.{ticked, in_one, begun, beginning}
use Rattle.packing_laws.proofs.Sendings.{head_same}
use Rattle.packing_laws.proofs.Beginnings.{beginning_is}
use Rattle.packing_laws.proofs.Packings.{sent_all-cons, last_sent_all, high_all, unseen_all}
use Rattle.link_end.specs.Link.{Begun, Link}
use Rattle.link_end.specs.Begun.{closed_bytes, all_bytes, with_packet, next_start, acks_bits, first_current, first_begun, is_asked, with_asked, asks_with, IsWithin}
use Rattle.link_end.specs.Answers.{numbered, new_packets}
use Rattle.link_end.specs.Rests.{last_tick, silence, Rests}
use Rattle.link_end.specs.Packs.{bits_begun, begun_of, sent_now, Packs}
use Rattle.link_end.proofs.Packed.{all_begun, count_begun, begun_empty, bytes_sent}
use Rattle.link_end.proofs.Offers.{begun_is}

-- ---- as a tick begins

acks_are : (v : Version) (ns : List ℕ) → acks_bits v ns ≡ flat_map (λ item. rec_bits v (rec_of item)) (map Owed ns)
acks_are v [] = refl
acks_are v (n ∷ ns) = ap (λ (l : List Bool). rec_bits v (Ack (n % 16384)) ++ l) (acks_are v ns)

ticked_head : (v : Version) (past : Past) (sight : List Seen) → head_of v (ticked past sight) ≡ head_of v past
ticked_head v past sight = head_same v past (ticked past sight) refl refl

-- the packets with which the code begins are those of the definition
first_is_begun : (end : End) (past : Past) (sight : List Seen) (ns : List ℕ)
    → record { first = last_sent past + 1; whole = []; current = first_current end.version past ns; full = false }
    ≡ begun_of end (record { past = ticked past sight; packets = in_one (map Owed ns); full = false })
first_is_begun end past sight [] = refl
first_is_begun end past sight (n ∷ ns) =
    let number : last_sent past + 1 ≡ last_sent past + 1 + 0 = omega arith in
    ap (λ (bits : List Bool). record { first = last_sent past + 1; whole = []; current = Some bits; full = false })
    (ap (λ (k : ℕ). start_bits end.version (k % 16384) (head_of end.version past)
    ++ acks_bits end.version (n ∷ ns)) number
    ∙ ap (λ (head : Head). start_bits end.version ((last_sent past + 1 + 0) % 16384) head
    ++ acks_bits end.version (n ∷ ns)) (sym (ticked_head end.version past sight))
    ∙ ap (λ (l : List Bool). start_bits end.version ((last_sent past + 1 + 0) % 16384)
    (head_of end.version (ticked past sight)) ++ l) (acks_are end.version (n ∷ ns)))

not_none : (n : ℕ) → (suc n == 0) ≡ false
not_none n = ne_eqb (suc n) 0 (λ e. absurd (omega arith))

first_count : (v : Version) (past : Past) (ns : List ℕ)
    → (length (all_bytes
    (record { first = last_sent past + 1; whole = []; current = first_current v past ns; full = false })) == 0)
    ≡ (length ns == 0)
first_count v past [] = refl
first_count v past (n ∷ ns) = not_none 0 ∙ sym (not_none (length ns))

begins_book : (book : Book) (end : End) (past : Past) (sight : List Seen) (begins : Bool) (ns : List ℕ)
    → begins ≡ not (length ns == 0)
    → (begins ≡ false → (t : ℕ) (s : List Seen) → Keeps book end.version (Ticked t s ∷ past))
    → (begins ≡ true → (t : ℕ) (s : List Seen) (k : ℕ) (items : List Item)
    → Keeps book end.version (Sent (last_sent past + 1) k items ∷ Ticked t s ∷ past))
    → Keeps book end.version (sent_all (ticked past sight) (in_one (map Owed ns)))
begins_book book end past sight begins [] e empty more = empty e (tick_count past + 1) sight
begins_book book end past sight begins (n ∷ ns) e empty more =
    more (e ∙ ap not (not_none (length ns))) (tick_count past + 1) sight (tick_count (ticked past sight))
    (map Owed (n ∷ ns))

pub begins_packs : (l : Link) (end : End) (past : Past) (sight : List Seen) (book : Book) (packets : Begun)
    (silent : ℕ) (begins : Bool)
    → Rests l end past → unresolved_count past < 4096 → 1 ≤ l.budget → packets ≡ first_begun end.version past
    → begins ≡ not (length (all_bytes packets) == 0)
    → (begins ≡ false → (t : ℕ) (s : List Seen) → Keeps book end.version (Ticked t s ∷ past))
    → (begins ≡ true → (t : ℕ) (s : List Seen) (k : ℕ) (items : List Item)
    → Keeps book end.version (Sent (last_sent past + 1) k items ∷ Ticked t s ∷ past))
    → silent ≡ min 8 (l.silent + 1)
    → Packs (record l { book = book; silent = silent; begun = Some packets }) end past (beginning end past sight)
begins_packs l end past sight book packets silent begins h few some is begins_is empty more quiet =
    let P : Packing → Type 0 =
    λ p. Packs (record l { book = book; silent = silent; begun = Some packets }) end past p in
    let test : begins ≡ not (length (owed_of end.version past) == 0) =
    begins_is ∙ ap (λ (b : Begun). not (length (all_bytes b) == 0)) is
    ∙ ap not (first_count end.version past (owed_of end.version past)) in
    let last : last_tick past ≤ tick_count past = h.last in
    subst P (sym (beginning_is end past sight (omega (arith, some, h.budget)) few)) (record {
      book = begins_book book end past sight begins (owed_of end.version past) test empty more;
      budget = h.budget;
      silent = quiet ∙ ap (λ (n : ℕ). min 8 (n + 1)) h.silent
          ∙ (let e : min 8 (min 8 (tick_count past - last_tick past) + 1)
          ≡ min 8 (suc (tick_count past) - last_tick past) = omega (arith, last) in e);
      last = omega (arith, last);
      count = h.count;
      high = h.high;
      few = few;
      in_tick = refl;
      heard = h.heard;
      begun = ap (λ (b : Begun). Some b) (is ∙ first_is_begun end past sight (owed_of end.version past));
      kept = h.kept;
    })

-- ---- as a tick ends

owes_like : (v : Version) (past later : Past) → taken_of (deeds_since_tick later) ≡ taken_of (deeds_since_tick past)
    → owes_head v later ≡ owes_head v past
owes_like One past later e = refl
owes_like Two past later e = ap (λ (ns : List ℕ). nat_lt 0 (length ns)) e

owes_none : (v : Version) (past : Past) → taken_of (deeds_since_tick past) ≡ [] → owes_head v past ≡ false
owes_none One past e = refl
owes_none Two past e = ap (λ (ns : List ℕ). nat_lt 0 (length ns)) e

rests_stall : (l : Link) (end : End) (past : Past) → Rests l end past → Rests l end (after_stall past)
rests_stall l end past h =
    cond_both (nat_le 4096 (unresolved_count past)) (Ended ByStall ∷ past) past (λ (q : Past). Rests l end q)
    (λ e. record {
      book = like_keeps l.book end.version past (Ended ByStall ∷ past) h.book refl refl refl refl (λ n. refl);
      budget = h.budget;
      silent = h.silent;
      last = h.last;
      count = h.count;
      high = h.high;
      heard = h.heard ∙ sym (owes_like end.version past (Ended ByStall ∷ past) refl);
      idle = h.idle;
      kept = h.kept;
    })
    (λ e. h)

bytes_stall : (end : End) (past : Past) → sent_bytes end (after_stall past) ≡ sent_bytes end past
bytes_stall end past =
    cond_both (nat_le 4096 (unresolved_count past)) (Ended ByStall ∷ past) past (λ (q : Past). sent_bytes end q
    ≡ sent_bytes end past) (λ e. refl) (λ e. refl)

-- the packets with the empty one, where it is asked for
abbrev asked : Bool → List (List Item) → List (List Item)
asked asks packets = if asks && length packets == 0 then [] ∷ packets else packets

sends_step : (past : Past) (s : Bool)
    → fold after_sending past (if s then [] ∷ [] else []) ≡ sent_all past (if s && true then [] ∷ [] else [])
sends_step past true = refl
sends_step past false = refl

-- what is sent is the packets begun, and the empty one
sends_are : (end : End) (before : Past) (p : Packing) (asks : Bool)
    → (length p.packets ≡ 0 → asks ≡ (owes_head end.version before || is_silent p.past))
    → fold after_sending p.past (packets_to_send end before p) ≡ sent_all p.past (asked asks p.packets)
sends_are end before p asks h = by p.packets h
  where
    s : Bool
    s = owes_head end.version before || is_silent p.past

    by : (packets : List (List Item))
        → (length packets ≡ 0 → asks ≡ (owes_head end.version before || is_silent p.past))
        → fold after_sending p.past
        (packets_to_send end before (record { past = p.past; packets = packets; full = p.full }))
        ≡ sent_all p.past (asked asks packets)
    by [] h =
        sends_step p.past (owes_head end.version before || is_silent p.past)
        ∙ ap (λ (b : Bool). sent_all p.past (if b && true then [] ∷ [] else [])) (sym (h refl))
    by (c ∷ packets) h =
        let some : nat_lt 0 (length (c ∷ packets)) ≡ true = lt-ltb 0 (length (c ∷ packets)) (omega arith) in
        ap (λ (b : Bool). fold after_sending p.past
        (if b then reverse (c ∷ packets) else if owes_head end.version before || is_silent p.past then [] ∷ []
        else [])) some
        ∙ ap (λ (b : Bool). sent_all p.past (if b then [] ∷ c ∷ packets else c ∷ packets))
        (sym (and_right asks (length (c ∷ packets) == 0) (not_none (length packets))))

some_open : (last high : ℕ) → nat_lt 0 (last - high) ≡ nat_le 1 (last - high)
some_open last high = grind (arith, nat_tests)

silent_step : (n : ℕ) → nat_le 8 (min 8 n) ≡ nat_le 8 n
silent_step n = grind (arith, nat_tests)

asks_are : (l : Link) (end : End) (before : Past) (p : Packing) (unresolved : ℕ) → Packs l end before p
    → l.book.high + unresolved ≡ l.book.last_sent → length p.packets ≡ 0
    → asks_with l.heard l.silent unresolved ≡ (owes_head end.version before || is_silent p.past)
asks_are l end before p unresolved h kept none =
    let count : unresolved ≡ last_sent p.past - high_of p.past =
    omega (arith, kept, none, h.book.sent, h.book.high, last_sent_all p.past p.packets, high_all p.past p.packets) in
    ap (λ (b : Bool). b || (nat_lt 0 unresolved && nat_le 8 l.silent)) h.heard
    ∙ ap (λ (n : ℕ). owes_head end.version before || (nat_lt 0 n && nat_le 8 l.silent)) count
    ∙ ap (λ (b : Bool). owes_head end.version before || (b && nat_le 8 l.silent))
    (some_open (last_sent p.past) (high_of p.past))
    ∙ ap (λ (b : Bool). owes_head end.version before || (nat_le 1 (unresolved_count p.past) && b))
    (ap (nat_le 8) h.silent ∙ silent_step (silence p.past))

-- what is kept of them
asked_begun : (end : End) (p : Packing) (asks : Bool) → high_of p.past ≤ last_sent p.past
    → with_asked end.version (sent_now p) asks (begun_of end p)
    ≡ begun_of end (record p { packets = asked asks p.packets })
asked_begun end p asks h =
    ap (λ (n : ℕ). if asks && n == 0 then with_packet (next_start end.version (sent_now p)) (begun_of end p) else
    begun_of end p) (count_begun end p)
    ∙ by (asks && length p.packets == 0)
  where
    by : (t : Bool) →
        (if t then with_packet (next_start end.version (sent_now p)) (begun_of end p) else begun_of end p)
        ≡ begun_of end (record p { packets = if t then [] ∷ p.packets else p.packets })
    by true = sym (begun_empty end p h)
    by false = refl

is_asked_is : (end : End) (p : Packing) (asks : Bool) (packets : Begun) → packets ≡ begun_of end p
    → is_asked asks packets ≡ (asks && length p.packets == 0)
is_asked_is end p asks packets e = ap (is_asked asks) e ∙ ap (λ (n : ℕ). asks && n == 0) (count_begun end p)

asked_book : (book later : Book) (end : End) (p : Packing) (asks : Bool) (packets : Begun) → packets ≡ begun_of end p
    → Keeps book end.version (sent_now p)
    → (is_asked asks packets ≡ true → (t : ℕ)
    → Keeps later end.version (Sent (last_sent (sent_now p) + 1) t [] ∷ sent_now p))
    → (is_asked asks packets ≡ false → later ≡ book)
    → Keeps later end.version (sent_all p.past (asked asks p.packets))
asked_book book later end p asks packets is h more same =
    by (asks && length p.packets == 0) (is_asked_is end p asks packets is)
  where
    by : (t : Bool) → is_asked asks packets ≡ t
        → Keeps later end.version (sent_all p.past (if t then [] ∷ p.packets else p.packets))
    by true e = subst (λ (past : Past). Keeps later end.version past) (sym (sent_all-cons p.past [] p.packets))
        (more e (tick_count (sent_now p)))
    by false e = subst (λ (b : Book). Keeps b end.version (sent_now p)) (sym (same e)) h

silent_after : (past : Past) (packets : List (List Item)) (n : ℕ) → n ≡ min 8 (silence past)
    → (if not (length packets == 0) then 0 else n) ≡ min 8 (silence (sent_all past packets))
silent_after past [] n e = e
silent_after past (c ∷ packets) n e =
    let x : Past = sent_all past packets in
    ap (λ (b : Bool). if not b then 0 else n) (not_none (length packets))
    ∙ (let z : 0 ≡ min 8 (tick_count x - tick_count x) = omega arith in z)
    ∙ ap (λ (q : Past). min 8 (silence q)) (sym (sent_all-cons past c packets))

last_after : (past : Past) (packets : List (List Item)) → last_tick past ≤ tick_count past
    → last_tick (sent_all past packets) ≤ tick_count (sent_all past packets)
last_after past [] h = h
last_after past (c ∷ packets) h =
    let x : Past = sent_all past packets in
    subst (λ (q : Past). last_tick q ≤ tick_count q) (sym (sent_all-cons past c packets))
    (let z : tick_count x ≤ tick_count x = omega arith in z)

bits_count : (end : End) (past : Past) (packets : List (List Item))
    → length (reverse (map closed_bytes (bits_begun end past packets))) ≡ length packets
bits_count end past packets =
    sym (ap length (all_begun end (record { past = past; packets = packets; full = false })))
    ∙ count_begun end (record { past = past; packets = packets; full = false })

-- between two ticks again
pub ends_rests : (l : Link) (end : End) (before : Past) (p : Packing) (packets : Begun) (book : Book)
    (asks sends : Bool) (silent unresolved : ℕ)
    → Packs l end before p → l.begun ≡ Some packets → l.book.high + unresolved ≡ l.book.last_sent
    → asks ≡ asks_with l.heard l.silent unresolved
    → (is_asked asks packets ≡ true → (v : Version) (past : Past) (t : ℕ) → Keeps l.book v past
    → Keeps book v (Sent (last_sent past + 1) t [] ∷ past))
    → (is_asked asks packets ≡ false → book ≡ l.book)
    → sends ≡ not (length (all_bytes (with_asked end.version (sent_now p) asks packets)) == 0)
    → silent ≡ (if sends then 0 else l.silent)
    → Rests (record l { book = book; silent = silent; heard = false; begun = None }) end (after_packing end before p)
ends_rests l end before p packets book asks sends silent unresolved h begun kept asks_is more same sends_is quiet =
    let is : packets ≡ begun_of end p = begun_is l end before p packets h begun in
    let all : List (List Item) = asked asks p.packets in
    let later : Link = record l { book = book; silent = silent; heard = false; begun = None } in
    let sent : sends ≡ not (length all == 0) =
    sends_is
    ∙ ap (λ (b : Begun). not (length (all_bytes (with_asked end.version (sent_now p) asks b)) == 0)) is
    ∙ ap (λ (b : Begun). not (length (all_bytes b) == 0)) (asked_begun end p asks h.high)
    ∙ ap (λ (n : ℕ). not (n == 0)) (count_begun end (record p { packets = all })) in
    let bytes : length (sent_bytes end (sent_all p.past all)) ≡ length (sent_bytes end p.past) + length all =
    ap length (bytes_sent end p.past all h.high)
    ∙ length-append (sent_bytes end p.past) (reverse (map closed_bytes (bits_begun end p.past all)))
    ∙ ap (λ (n : ℕ). length (sent_bytes end p.past) + n) (bits_count end p.past all) in
    rests_stall later end (fold after_sending p.past (packets_to_send end before p))
    (subst (λ (past : Past). Rests later end past)
    (sym (sends_are end before p asks (λ none. asks_is ∙ asks_are l end before p unresolved h kept none)))
    (record {
      book = asked_book l.book book end p asks packets is h.book (λ e t. more e end.version (sent_now p) t h.book)
          same;
      budget = h.budget;
      silent = quiet ∙ ap (λ (b : Bool). if b then 0 else l.silent) sent ∙ silent_after p.past all l.silent h.silent;
      last = last_after p.past all h.last;
      count = bytes ∙ ap (λ (n : ℕ). n + length all) h.count ∙ sym (last_sent_all p.past all);
      high = omega (arith, high_all p.past all, last_sent_all p.past all, h.high);
      heard = sym (owes_none end.version (sent_all p.past all)
          (unseen_all (λ past. taken_of (deeds_since_tick past)) (λ before items. refl) p.past all ∙ h.in_tick));
      idle = refl;
      kept = h.kept;
    }))

-- and the packets are those of the definition
pub ends_sent : (l : Link) (end : End) (before : Past) (p : Packing) (packets : Begun) (asks : Bool) (unresolved : ℕ)
    (sent : List (ℕ × List ℕ))
    → Packs l end before p → l.begun ≡ Some packets → l.book.high + unresolved ≡ l.book.last_sent
    → asks ≡ asks_with l.heard l.silent unresolved
    → sent ≡ numbered packets.first (all_bytes (with_asked end.version (sent_now p) asks packets))
    → sent ≡ new_packets end p.past (after_packing end before p)
ends_sent l end before p packets asks unresolved sent h begun kept asks_is told =
    let is : packets ≡ begun_of end p = begun_is l end before p packets h begun in
    let all : List (List Item) = asked asks p.packets in
    let bytes : List (List ℕ) = reverse (map closed_bytes (bits_begun end p.past all)) in
    let count : ℕ = length (sent_bytes end p.past) in
    let after : sent_bytes end (after_packing end before p) ≡ sent_bytes end p.past ++ bytes =
    bytes_stall end (fold after_sending p.past (packets_to_send end before p))
    ∙ ap (sent_bytes end)
    (sends_are end before p asks (λ none. asks_is ∙ asks_are l end before p unresolved h kept none))
    ∙ bytes_sent end p.past all h.high in
    told
    ∙ ap (λ (b : Begun). numbered b.first (all_bytes (with_asked end.version (sent_now p) asks b))) is
    ∙ ap (λ (b : Begun). numbered (last_sent p.past + 1) (all_bytes b)) (asked_begun end p asks h.high)
    ∙ ap (numbered (last_sent p.past + 1)) (all_begun end (record p { packets = all }))
    ∙ ap (λ (n : ℕ). numbered (n + 1) bytes) (sym h.count)
    ∙ ap (numbered (count + 1)) (sym (drop_at (sent_bytes end p.past) bytes count refl) ∙ ap (drop count) (sym after))

pub fate_free : (l : Link) (end : End) (before : Past) (p : Packing) (packets : Begun) (asks : Bool)
    → Packs l end before p → l.begun ≡ Some packets
    → is_asked asks packets ≡ true → l.book.last_sent < l.book.high + 4096
fate_free l end before p packets asks h begun e =
    let both : (asks && length p.packets == 0) ≡ true =
    sym (is_asked_is end p asks packets (begun_is l end before p packets h begun)) ∙ e in
    let none : length p.packets ≡ 0 = eqb-true (length p.packets) 0 (and_parts asks (length p.packets == 0) both).1 in
    omega (
      arith,
      none,
      h.book.sent,
      h.book.high,
      last_sent_all p.past p.packets,
      high_all p.past p.packets,
      h.few,
      h.high,
    )

-- the bits of a tick
pub within_budget : (l : Link) (packets : Begun) (budget sum : ℕ) → IsWithin budget l.begun → l.begun ≡ Some packets
    → sum ≤ sum_by length packets.whole + 1024
    → 8 * sum < budget + 8192
within_budget l packets budget sum h begun most =
    let within : 8 * sum_by length packets.whole < budget = subst (IsWithin budget) begun h in
    omega (arith, within, most)
