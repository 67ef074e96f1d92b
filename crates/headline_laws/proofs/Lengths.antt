-- How many bits an item takes, and a packet's start.
use Rattle.std.proofs.Common.{◌≡◌, inl, inr, ℕ, zero, suc, ◌+◌, ◌-◌, ◌*◌, ◌%◌, ◌<◌, ◌≤◌, ◌==◌, List, ◌++◌, map, Bool, true, false, cond, ◌||◌, nat_lt, nat_le, length, length-append, refl, ap, ◌∙◌, arith}
use Rattle.std.specs.List.{range_with_len}
use Rattle.std.proofs.lemmas.Bool.{cases_Bool, ltb-true, ltb-false, eqb-true}
use Rattle.protocol_model.specs.declared.Version.{Version}
use Rattle.protocol_model.specs.declared.Version.TheVariants.{One, Two}
use Rattle.protocol_model.specs.declared.Part.{Part}
use Rattle.protocol_model.specs.Bits.{int_bits}
use Rattle.protocol_model.specs.Packet.{Bunch, Head, Sends, is_partial, bunch_bits, rec_bits, channel_bits, start_bits, is_rec, is_bunch, channel_limit}
use Rattle.protocol_model.specs.Payload.{Message, message_bits}
use Rattle.connection_model.specs.Feed.{End, Past, Item}
use Rattle.connection_model.specs.Fates.{head_of, word_count, top_when, top_of, high_of, last_sent, history_word}
use Rattle.connection_model.specs.Bunches.{made_bunch, after_making}
use Rattle.connection_model.specs.Items.{loose_bunch, loose_item}
use Rattle.connection_model.specs.Pack.{after_sending}
use Rattle.protocol_laws.specs.Parts.{control_bits, numbered_bits, words_bits}
use Rattle.protocol_laws.proofs.FieldLengths.{power_width, channel_13, channel_14, control_length, numbered_length, words_length, bunch_length}
use Rattle.payload_laws.proofs.Lengths.{packed_length}
use Rattle.payload_laws.proofs.Bounds.{packed_most}
use Rattle.payload_laws.proofs.HeaderRules.{made_is_bunch, loose_is_bunch}
use Rattle.payload_laws.proofs.Pieces.{piece_most}
use Rattle.connection_laws.proofs.AcksInOrder.{taken_made}
use Rattle.connection_laws.proofs.Arrivals.{moved_made}
use Rattle.connection_laws.proofs.Searches.{least_high}
use Rattle.protocol_model.specs.Search.{greatest_of}
use Rattle.headline_laws.specs.Fits.{ItemFits, start_length}
use Rattle.connection_laws.proofs.LinkedEnds.{top_when_made}

-- ---- a bunch

-- either way it is at most so much
cond_most : (b : Bool) (x y k : ℕ) → x ≤ k → y ≤ k → cond b x y ≤ k
cond_most true x y k p q = p
cond_most false x y k p q = q

-- the control bits are at most 6
control_most : (o c s r : Bool) → length (control_bits o c s r) ≤ 6
control_most o c s r =
    let a : cond (o || c) 3 1 ≤ 3 = cond_most (o || c) 3 1 3 (omega arith) (omega arith) in
    let b : cond c 1 0 ≤ 1 = cond_most c 1 0 1 (omega arith) (omega arith) in
    omega (arith, control_length o c s r, a, b)

-- the numbered bits are at most 15
numbered_most : (r : Bool) (seq : ℕ) (part : Part) (kind : ℕ) → length (numbered_bits r seq part kind) ≤ 15
numbered_most r seq part kind =
    let a : cond r 13 0 ≤ 13 = cond_most r 13 0 13 (omega arith) (omega arith) in
    let b : cond (is_partial part) 2 0 ≤ 2 = cond_most (is_partial part) 2 0 2 (omega arith) (omega arith) in
    omega (arith, numbered_length r seq part kind, a, b)

-- a channel takes at most 40 bits
channel_most : (v : Version) (ch : ℕ) → length (channel_bits v ch) ≤ 40
channel_most One ch = elim (cases_Bool (nat_lt (ch % 8192) 2048)) [
  | inl e ↦ omega (arith, channel_14 ch (ltb-true (ch % 8192) 2048 e))
  | inr e ↦ omega (arith, channel_13 ch (ltb-false (ch % 8192) 2048 e))
]
channel_most Two ch = omega (arith, packed_length ch, packed_most ch)

-- a bunch of one part takes at most 7,100 bits
bunch_most : (v : Version) (b : Bunch) → length b.payload ≤ 7000 → length (bunch_bits v b) ≤ 7100
bunch_most v b h =
    omega (arith, bunch_length v b, control_most b.opens b.closes b.sleeps b.reliable, channel_most v b.channel, numbered_most b.reliable b.seq b.part b.kind, h)

-- a bunch of at most 7,000 bits fits an empty packet
abbrev pub BunchFits : Version → Bunch → Type 0
BunchFits v b = (is_bunch v b ≡ true) × (length b.payload ≤ 7000)

-- a bunch that fits makes a record that fits
pub rec_fits : (v : Version) (b : Bunch) → BunchFits v b → (is_rec v (Sends b) ≡ true) × (length (rec_bits v (Sends b)) ≤ 7500)
rec_fits One b h = (h.0, omega (arith, bunch_most One b h.1))
rec_fits Two b h = (h.0, omega (arith, bunch_most Two b h.1))

-- a bunch that is made fits
pub made_fits : (v : Version) (ch n : ℕ) (m : Message) (i : ℕ) → ch < channel_limit v → BunchFits v (made_bunch ch n m i)
made_fits v ch n m i h = (made_is_bunch v ch n m i h, piece_most (message_bits m) i)

-- an unreliable message of one part fits
pub loose_fits : (v : Version) (ch : ℕ) (m : Message) → ch < channel_limit v → length (message_bits m) ≤ 7000 → ItemFits v (loose_item m ch)
loose_fits v ch m h short = rec_fits v (loose_bunch ch m) (loose_is_bunch v ch m h (omega (arith, short)), short)

-- ---- a packet's start

-- a range is as long as its count
pub count_of : {A : Type 0} (f : ℕ → A) (count from : ℕ) → length (map f (range_with_len from count)) ≡ count
count_of f zero from = refl
count_of f (suc count) from = ap suc (count_of f count (from + 1))

-- a start in version Two takes 31 bits, and 32 a word
two_start : (number : ℕ) (head : Head) → length (start_bits Two number head) ≡ 31 + 32 * length head.words
two_start number head =
    let top : List Bool = int_bits 16384 head.top in
    let size : List Bool = int_bits 8 (length head.words - 1) in
    omega (
      arith,
      length-append ((int_bits 16384 number ++ top) ++ size) (words_bits head.words),
      length-append (int_bits 16384 number ++ top) size,
      length-append (int_bits 16384 number) top,
      power_width 14 number (omega arith),
      power_width 14 head.top (omega arith),
      power_width 3 (length head.words - 1) (omega arith),
      words_length head.words,
    )

-- its length says nothing of the number
pub start_same : (v : Version) (number : ℕ) (past : Past) → length (start_bits v number (head_of v past)) ≡ length (start_bits v 0 (head_of v past))
start_same One number past = omega (arith, power_width 14 number (omega arith), power_width 14 0 (omega arith))
start_same Two number past = omega (arith, two_start number (head_of Two past), two_start 0 (head_of Two past))

-- a head has so many words
words_are : (past : Past) → length (head_of Two past).words ≡ word_count past
words_are past = count_of (λ w. history_word past (top_of past - 32 * w)) (word_count past) 0

-- the start of a packet takes at most 287 bits
pub start_most : (v : Version) (past : Past) → length (start_bits v 0 (head_of v past)) ≤ 287
start_most One past = omega (arith, power_width 14 0 (omega arith))
start_most Two past =
    let most : word_count past ≤ 1 + 7 = least_high (λ w. nat_le (top_of past - top_when past (high_of past)) (32 * w)) 7 1 in
    omega (arith, two_start 0 (head_of Two past), words_are past, most)

-- a start takes the same where its words do
start_like : (v : Version) (past later : Past) → word_count later ≡ word_count past → length (start_bits v 0 (head_of v later)) ≡ length (start_bits v 0 (head_of v past))
start_like One past later e = refl
start_like Two past later e = omega (arith, two_start 0 (head_of Two past), two_start 0 (head_of Two later), words_are past, words_are later, e)

-- a head has as many words where the newest and the last known are the same
words_like : (past later : Past) → top_of later ≡ top_of past → top_when later (high_of later) ≡ top_when past (high_of past) → word_count later ≡ word_count past
words_like past later t w = rw (t, w) refl

-- it stays when a message is made
pub start_made : (end : End) (past : Past) (ch : ℕ) (m : Message) → start_length end (after_making past ch m) ≡ start_length end past
start_made end past ch m =
    start_like end.version past (after_making past ch m)
    (words_like past (after_making past ch m) (ap greatest_of (taken_made past ch m))
    (ap (top_when (after_making past ch m)) (ap greatest_of (moved_made past ch m)) ∙ top_when_made past ch m (high_of past)))

-- and when a packet is sent
pub start_sent : (end : End) (past : Past) (items : List Item) → high_of past ≤ last_sent past → start_length end (after_sending past items) ≡ start_length end past
start_sent end past items h = start_like end.version past (after_sending past items) (words_like past (after_sending past items) refl other)
  where
    other : top_when (after_sending past items) (high_of past) ≡ top_when past (high_of past)
    other = elim (cases_Bool (last_sent past + 1 == high_of past)) [
      | inl e ↦ absurd (let same : last_sent past + 1 ≡ high_of past = eqb-true (last_sent past + 1) (high_of past) e in omega (arith, same, h))
      | inr e ↦ rw e refl
    ]
