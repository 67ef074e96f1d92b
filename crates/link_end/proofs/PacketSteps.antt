-- How the packets under way grow, over plain values.
use Rattle.std.proofs.Common.{◌≡◌, ℕ, zero, suc, ◌+◌, ◌-◌, ◌/◌, ◌^◌, ◌<◌, ◌≤◌, List, [], ◌∷◌, ◌++◌, map, length, drop, Bool, true, nat_le, nat_lt, ◌&&◌, Option, Some, None, option_map, IsTrue, refl, sym, ap, ◌∙◌, subst, arith}
use Rattle.std.specs.List.{sum_by, flat_map, list_all}
use Rattle.std.proofs.lemmas.Bool.{false≢true, and_parts, leb-true, le-leb}
use Rattle.std.proofs.lemmas.List.{length-append, length-map, map-append, append-nil}
use Rattle.std.proofs.lemmas.List.Sums.{sum_by_push}
use Rattle.protocol_model.specs.Bits.{bytes_in, int_bits, fixed_bits}
use Rattle.protocol_model.specs.declared.Version.{Version}
use Rattle.protocol_model.specs.declared.Version.TheVariants.{One, Two}
use Rattle.protocol_model.specs.Packet.{Head, Ack, is_head, is_rec, start_bits, rec_bits}
use Rattle.bit_io.specs.Written.{Written}
use Rattle.protocol_laws.proofs.FieldLengths.{power_width, words_length}
use Rattle.link_end.specs.Link.{Begun}
use Rattle.link_end.specs.Begun.{closed_bytes, current_bytes, fits_after, with_packet}
use Rattle.link_end.specs.Answers.{numbered, sent_value}
use Rattle.link_end.specs.Holds.{HasRoom, Holds}
use Rattle.link_end.specs.declared.sent.Sent.{Sent}

-- ---- sizes

bytes_in_length : (n : ℕ) (bits : List Bool) → length (bytes_in n bits) ≡ n
unfolding bytes_in
bytes_in_length zero bits = refl
bytes_in_length (suc n) bits = ap suc (bytes_in_length n (drop 8 bits))

pub closed_length : (bits : List Bool) → length (closed_bytes bits) ≡ (length bits + 8) / 8
closed_length bits =
    bytes_in_length ((length (bits ++ true ∷ []) + 7) / 8) (bits ++ true ∷ [])
    ∙ ap (λ (n : ℕ). n / 8) (let e : length (bits ++ true ∷ []) + 7
    ≡ length bits + 8 = omega (arith, length-append bits (true ∷ [])) in e)

pub size_with : (whole : List (List ℕ)) (bits : List Bool) (total n : ℕ) → total ≡ sum_by length whole
    → n ≡ length bits
    → total + (n + 8) / 8 ≡ sum_by length (whole ++ closed_bytes bits ∷ [])
size_with whole bits total n t e =
    ap (λ (k : ℕ). k + (n + 8) / 8) t
    ∙ ap (λ (k : ℕ). sum_by length whole + (k + 8) / 8) e
    ∙ ap (λ (k : ℕ). sum_by length whole + k) (sym (closed_length bits))
    ∙ sym (sum_by_push length whole (closed_bytes bits))

pub size_none : (whole : List (List ℕ)) → sum_by length whole ≡ sum_by length (whole ++ [])
size_none whole = ap (sum_by length) (sym (append-nil whole))

-- an acknowledgement has 15 bits
pub ack_length : (v : Version) (n : ℕ) → IsTrue (is_rec v (Ack n)) → 15 ≡ length (rec_bits v (Ack n))
ack_length One n h = omega (arith, power_width 14 n (omega arith))
ack_length Two n h = absurd (false≢true h)

-- ---- numbers

pub numbered-push : (first : ℕ) (packets : List (List ℕ)) (bytes : List ℕ)
    → numbered first (packets ++ bytes ∷ []) ≡ numbered first packets ++ (first + length packets, bytes) ∷ []
numbered-push first [] bytes = ap (λ (n : ℕ). (n, bytes) ∷ []) (let e : first ≡ first + 0 = omega arith in e)
numbered-push first (p ∷ packets) bytes =
    ap (λ (l : List (ℕ × List ℕ)). (first, p) ∷ l)
    (numbered-push (first + 1) packets bytes
    ∙ ap (λ (n : ℕ). numbered (first + 1) packets ++ (n, bytes) ∷ []) (let e : first + 1 + length packets
    ≡ first + suc (length packets) = omega arith in e))

-- a packet is closed
pub holds_closed : (first : ℕ) (packets after : List Sent) (total size : ℕ) (w : Written) (current : Option Written)
    (s : Sent)
    → Holds first packets total (Some w) → length packets < 4096 → after ≡ packets ++ s ∷ []
    → s.number ≡ first + length packets → s.bytes ≡ closed_bytes w.bits
    → size ≡ length s.bytes → current ≡ None → Holds first after (total + size) current
holds_closed first packets after total size w current s h few is number bytes count none =
    let more : List Sent = packets ++ s ∷ [] in
    let small : length s.bytes ≤ 1024 = omega (arith, ap length bytes, closed_length w.bits, h.room.0) in
    let spelled : map (λ (s : Sent). s.bytes) more ≡ map (λ (s : Sent). s.bytes) packets ++ s.bytes ∷ [] =
    map-append (λ (s : Sent). s.bytes) packets (s ∷ []) in
    let P : List Sent → Type 0 = λ l. Holds first l (total + size) current in
    subst P (sym is) (record {
      numbers = map-append sent_value packets (s ∷ [])
          ∙ ap (λ (l : List (ℕ × List ℕ)). l ++ (s.number, s.bytes) ∷ []) h.numbers
          ∙ ap (λ (n : ℕ). numbered first (map (λ (s : Sent). s.bytes) packets) ++ (n, s.bytes) ∷ [])
          (number ∙ ap (λ (n : ℕ). first + n) (sym (length-map packets (λ (s : Sent). s.bytes))))
          ∙ sym (numbered-push first (map (λ (s : Sent). s.bytes) packets) s.bytes)
          ∙ ap (numbered first) (sym spelled);
      size = omega (
        arith,
        h.size,
        count,
        ap (sum_by length) spelled,
        sum_by_push length
            (map (λ (s : Sent). s.bytes) packets) s.bytes,
      );
      small = omega (arith, h.small, small, count, length-append packets (s ∷ []));
      few = omega (arith, length-append packets (s ∷ []));
      below = h.below;
      room = subst HasRoom (sym none) tt;
    })

-- a packet under way is one of those begun
pub few_whole : (packets : List Sent) (current : Option Written) (w : Written) → current ≡ Some w
    → length (map (λ (s : Sent). s.bytes) packets
    ++ current_bytes (option_map (λ (w : Written). w.bits) current)) ≤ 4096 → length packets < 4096
few_whole packets current w e h =
    let P : Option Written → Type 0 =
    λ o. length (map (λ (s : Sent). s.bytes) packets
    ++ current_bytes (option_map (λ (w : Written). w.bits) o)) ≤ 4096 in
    let whole : List (List ℕ) = map (λ (s : Sent). s.bytes) packets in
    let all : length (whole ++ closed_bytes w.bits ∷ []) ≤ 4096 = subst P e h in
    omega (arith, all, length-append whole (closed_bytes w.bits ∷ []), length-map packets (λ (s : Sent). s.bytes))

-- the next packet is begun
pub holds_begun : (first : ℕ) (packets : List Sent) (total : ℕ) (current : Option Written) (w : Written)
    → Holds first packets total current
    → length w.bits < 8192 → 8512 ≤ length w.bits + w.spare → Holds first packets total (Some w)
holds_begun first packets total current w h small room =
    record { numbers = h.numbers; size = h.size; small = h.small; few = h.few; below = h.below; room = (small, room) }

four : (a b c d : List Bool) → length (a ++ b ++ c ++ d) ≡ length a + length b + length c + length d
four a b c d = omega (arith, length-append (a ++ b ++ c) d, length-append (a ++ b) c, length-append a b)

few_words : (head : Head) → IsTrue (is_head Two head) → length head.words ≤ 8
few_words head h =
    leb-true (length head.words) 8
    (and_parts (nat_lt head.top 16384 && nat_le 1 (length head.words)) (nat_le (length head.words) 8)
    (and_parts (nat_lt head.top 16384 && nat_le 1 (length head.words) && nat_le (length head.words) 8)
    (list_all (λ word. nat_lt word (2 ^ 32)) head.words) h).0).1

-- what stands before the entries has 287 bits at most
pub start_length : (v : Version) (number : ℕ) (head : Head) → IsTrue (is_head v head)
    → length (start_bits v number head) ≤ 287
start_length One number head h = omega (arith, power_width 14 number (omega arith))
start_length Two number head h =
    let few : length head.words ≤ 8 = few_words head h in
    omega (
      arith,
      few,
      four (int_bits 16384 number) (int_bits 16384 head.top) (int_bits 8 (length head.words - 1))
          (flat_map (λ word. fixed_bits 32 word) head.words),
      power_width 14 number (omega arith),
      power_width 14 head.top (omega arith),
      power_width 3 (length head.words - 1) (omega arith),
      words_length head.words,
    )

-- and as many whatever the number is
pub start_same : (v : Version) (n m : ℕ) (head : Head) → length (start_bits v n head) ≡ length (start_bits v m head)
start_same One n m head = omega (arith, power_width 14 n (omega arith), power_width 14 m (omega arith))
start_same Two n m head =
    let a : List Bool = int_bits 16384 head.top in
    let b : List Bool = int_bits 8 (length head.words - 1) in
    let c : List Bool = flat_map (λ word. fixed_bits 32 word) head.words in
    omega (
      arith,
      four (int_bits 16384 n) a b c,
      four (int_bits 16384 m) a b c,
      power_width 14 n (omega arith),
      power_width 14 m (omega arith),
    )

-- fewer bits fit where more do
pub fits_fewer : (o : Option (List Bool)) (n m : ℕ) → fits_after o m ≡ true → n ≤ m → fits_after o n ≡ true
fits_fewer None n m e le = e
fits_fewer (Some bits) n m e le =
    let most : length bits + m + 1 ≤ 8192 = leb-true (length bits + m + 1) 8192 e in
    le-leb (length bits + n + 1) 8192 (omega arith)

-- in a packet just begun there is room for 7,904 bits
pub start_room : (packets old : Begun) (v : Version) (number : ℕ) (head : Head)
    → packets ≡ with_packet (start_bits v number head) old → IsTrue (is_head v head)
    → fits_after packets.current 7904 ≡ true
start_room packets old v number head is h =
    let few : length (start_bits v number head) ≤ 287 = start_length v number head h in
    ap (λ (b : Begun). fits_after b.current 7904) is
    ∙ le-leb (length (start_bits v number head) + 7904 + 1) 8192 (omega (arith, few))

-- a packet that is closed has at most 1,024 bytes
pub closed_most : (first : ℕ) (packets after : List Sent) (total : ℕ) (w : Written) (s : Sent) (whole : List (List ℕ))
    → Holds first packets total (Some w)
    → after ≡ packets ++ s ∷ [] → s.bytes ≡ closed_bytes w.bits → map (λ (s : Sent). s.bytes) packets ≡ whole
    → sum_by length (map (λ (s : Sent). s.bytes) after) ≤ sum_by length whole + 1024
closed_most first packets after total w s whole h is bytes same =
    let spelled : map (λ (s : Sent). s.bytes) after ≡ map (λ (s : Sent). s.bytes) packets ++ s.bytes ∷ [] =
    ap (map (λ (s : Sent). s.bytes)) is ∙ map-append (λ (s : Sent). s.bytes) packets (s ∷ []) in
    omega (
      arith,
      ap (sum_by length) spelled,
      sum_by_push length (map (λ (s : Sent). s.bytes) packets) s.bytes,
      ap (sum_by length) same,
      ap length bytes,
      closed_length w.bits,
      h.room.0,
    )

numbered-length : (first : ℕ) (packets : List (List ℕ)) → length (numbered first packets) ≡ length packets
numbered-length first [] = refl
numbered-length first (p ∷ packets) = ap suc (numbered-length (first + 1) packets)

-- as many packets are handed out as were begun
pub sent_count : (sent : List Sent) (first : ℕ) (all : List (List ℕ)) → map sent_value sent ≡ numbered first all
    → length sent ≡ length all
sent_count sent first all e = sym (length-map sent sent_value) ∙ ap length e ∙ numbered-length first all
