-- How many bits the fields of a packet take.
use Rattle.std.proofs.Common.{◌≡◌, ℕ, suc, ◌<◌, ◌≤◌, ◌+◌, ◌-◌, ◌*◌, ◌/◌, ◌%◌, ◌^◌, List, [], ◌∷◌, ◌++◌, Bool, true, false, cond, ◌||◌, nat_le, nat_lt, refl, ap, ◌∙◌, arith, length, length-append}
use Rattle.std.proofs.lemmas.Bool.Decides.{nat_tests}
use Rattle.std.proofs.lemmas.Nat.{mod_below, pow_pos}
use Rattle.std.proofs.Math.Nat.{pow-suc, pow-le-pow_right}
use Rattle.std.proofs.lemmas.Bool.{leb-true, le-ltb, lt-ltb, ltb-true}
use Rattle.protocol_model.specs.Bits.{digits, int_width, int_bits, packed_bits, packed_in, fixed_bits}
use Rattle.protocol_model.specs.Packet.{Bunch, Head, Ack, Sends, is_head, is_partial, is_rec, bunch_bits, rec_bits, channel_bits, start_bits}
use Rattle.protocol_model.specs.declared.Version.{Version}
use Rattle.protocol_model.specs.declared.Version.TheVariants.{One, Two}
use Rattle.protocol_model.specs.declared.Part.{Part}
use Rattle.protocol_model.specs.declared.Part.TheVariants.{Whole, First, Middle, Last, Lone}
use Rattle.protocol_laws.specs.IntWidth.{IsIntWidth}
use Rattle.protocol_laws.proofs.Widths.{int_width-is}
use Rattle.protocol_laws.proofs.Digits.{length-digits}
use Rattle.protocol_laws.specs.Parts.{control_bits, standing_bits, numbered_bits, words_bits}
use Rattle.protocol_laws.proofs.Booleans.{left_of, right_of}
use Rattle.protocol_laws.proofs.BunchBack.{bunch_bits-parts}

-- fewer bits than k reach at most 2 ^ k
reaches : (v i k : ℕ) → i < k → v % 2 ^ i + 2 ^ i < 2 ^ k + 0
reaches v i k l =
    let low : v % 2 ^ i < 2 ^ i = mod_below v (2 ^ i) (pow_pos i) in
    let twice : 2 ^ suc i ≡ 2 ^ i * 2 = pow-suc 2 i in
    let upto : 2 ^ suc i ≤ 2 ^ k = pow-le-pow_right {n = 2} (omega arith) (omega (arith, l)) in
    omega (arith, low, twice, upto)

-- a number below a power of two has that many bits
pub power_width : (k v : ℕ) → k ≤ 32 → length (int_bits (2 ^ k) v) ≡ k
power_width k v h =
    let upto : 2 ^ k ≤ 2 ^ 32 = pow-le-pow_right {n = 2} (omega arith) h in
    let is : IsIntWidth (2 ^ k) v k = record { enough = omega arith; least = λ i l. let r = reaches v i k l in omega (arith, r) } in
    length-digits (int_width (2 ^ k) v) v ∙ int_width-is (2 ^ k) v k upto is

-- a channel's index below 10,240 has 13 bits, or 14
pub channel_13 : (v : ℕ) → 2048 ≤ v % 8192 → length (int_bits 10240 v) ≡ 13
channel_13 v h =
    let is : IsIntWidth 10240 v 13 = record { enough = omega (arith, h); least = λ i l. let r = reaches v i 13 l in omega (arith, r) } in
    length-digits (int_width 10240 v) v ∙ int_width-is 10240 v 13 (omega arith) is

is_last : (i : ℕ) → i < 14 → nat_lt i 13 ≡ false → i ≡ 13
is_last i h t = grind (arith, nat_tests)

least_14 : (v i : ℕ) → v % 8192 < 2048 → i < 14 → v % 2 ^ i + 2 ^ i < 10240
least_14 v i h l = by_last (nat_lt i 13) refl
  where
    by_last : (b : Bool) → nat_lt i 13 ≡ b → v % 2 ^ i + 2 ^ i < 10240
    by_last true t = let r = reaches v i 13 (ltb-true i 13 t) in omega (arith, r)
    by_last false t = let e : i ≡ 13 = is_last i l t in rw e (omega (arith, h))

pub channel_14 : (v : ℕ) → v % 8192 < 2048 → length (int_bits 10240 v) ≡ 14
channel_14 v h =
    let is : IsIntWidth 10240 v 14 = record { enough = omega arith; least = λ i l. least_14 v i h l } in
    length-digits (int_width 10240 v) v ∙ int_width-is 10240 v 14 (omega arith) is

-- a packed number has 8 bits a group
pub packed_8 : (v : ℕ) → v < 128 → length (packed_bits v) ≡ 8
unfolding packed_in
packed_8 v h = rw (lt-ltb v 128 h) (ap suc (length-digits 7 v))

pub packed_16 : (v : ℕ) → 128 ≤ v → v < 16384 → length (packed_bits v) ≡ 16
unfolding packed_in
packed_16 v h k =
    let rest : v / 128 < 128 = omega arith in
    rw (le-ltb v 128 h, lt-ltb (v / 128) 128 rest) (omega (arith, length-append (digits 7 v) (false ∷ digits 7 (v / 128)), length-digits 7 v, length-digits 7 (v / 128)))

pub packed_24 : (v : ℕ) → 16384 ≤ v → v < 2 ^ 15 → length (packed_bits v) ≡ 24
unfolding packed_in
packed_24 v h k =
    let more : 128 ≤ v / 128 = omega arith in
    let rest : v / 128 / 128 < 128 = omega arith in
    let last : List Bool = false ∷ digits 7 (v / 128 / 128) in
    rw (le-ltb v 128 (omega (arith, h)), le-ltb (v / 128) 128 more, lt-ltb (v / 128 / 128) 128 rest)
    (omega (arith, length-append (digits 7 v) (true ∷ (digits 7 (v / 128) ++ last)), length-append (digits 7 (v / 128)) last, length-digits 7 v, length-digits 7 (v / 128), length-digits 7 (v / 128 / 128)))

-- the flags before the channel
pub control_length : (opens closes sleeps reliable : Bool) → length (control_bits opens closes sleeps reliable) ≡ cond (opens || closes) 3 1 + cond closes 1 0 + 2
control_length true true s r = refl
control_length true false s r = refl
control_length false true s r = refl
control_length false false s r = refl

-- the numbers of a reliable bunch, and the flags of a part
pub numbered_length : (reliable : Bool) (seq : ℕ) (part : Part) (kind : ℕ) → length (numbered_bits reliable seq part kind) ≡ cond reliable 13 0 + cond (is_partial part) 2 0
numbered_length true seq Whole kind = simp (length-append, power_width 10 seq (omega arith), power_width 3 kind (omega arith))
numbered_length true seq First kind = simp (length-append, power_width 10 seq (omega arith), power_width 3 kind (omega arith))
numbered_length true seq Middle kind = simp (length-append, power_width 10 seq (omega arith), power_width 3 kind (omega arith))
numbered_length true seq Last kind = simp (length-append, power_width 10 seq (omega arith), power_width 3 kind (omega arith))
numbered_length true seq Lone kind = simp (length-append, power_width 10 seq (omega arith), power_width 3 kind (omega arith))
numbered_length false seq Whole kind = refl
numbered_length false seq First kind = refl
numbered_length false seq Middle kind = refl
numbered_length false seq Last kind = refl
numbered_length false seq Lone kind = refl

pub words_length : (words : List ℕ) → length (words_bits words) ≡ 32 * length words
words_length [] = refl
words_length (word ∷ words) = omega (arith, length-append (fixed_bits 32 word) (words_bits words), length-digits 32 word, words_length words)

-- what stands before the entries
pub start_short : (version : Version) (number : ℕ) (head : Head) → is_head version head ≡ true → length (start_bits version number head) ≤ 287
start_short One number head h = omega (arith, power_width 14 number (omega arith))
start_short Two number head h =
    let n : List Bool = int_bits 16384 number in
    let t : List Bool = int_bits 16384 head.top in
    let c : List Bool = int_bits 8 (length head.words - 1) in
    let most : length head.words ≤ 8 = leb-true (length head.words) 8 (right_of _ (nat_le (length head.words) 8) (left_of _ _ h)) in
    omega (
      arith,
      most,
      length-append (n ++ t ++ c) (words_bits head.words),
      length-append (n ++ t) c,
      length-append n t,
      power_width 14 number (omega arith),
      power_width 14 head.top (omega arith),
      power_width 3 (length head.words - 1) (omega arith),
      words_length head.words,
    )

-- an acknowledgement, with the bit before it
pub ack_length : (version : Version) (number : ℕ) → is_rec version (Ack number) ≡ true → 15 ≡ length (rec_bits version (Ack number))
ack_length One number h = omega (arith, power_width 14 number (omega arith))
ack_length Two number h = absurd (cc)

-- a bunch, part by part
pub bunch_length : (version : Version) (b : Bunch) → length (bunch_bits version b)
    ≡ length (control_bits b.opens b.closes b.sleeps b.reliable) + (length (channel_bits version b.channel) + (3 + (length (numbered_bits b.reliable b.seq b.part b.kind) + (13 + length b.payload))))
bunch_length version b =
    let numbers : List Bool = numbered_bits b.reliable b.seq b.part b.kind in
    let size : List Bool = int_bits 8192 (length b.payload) in
    let size_is : length size ≡ 13 = power_width 13 (length b.payload) (omega arith) in
    let parts : bunch_bits version b ≡ control_bits b.opens b.closes b.sleeps b.reliable ++ (channel_bits version b.channel ++ (standing_bits b.exports b.part ++ (numbers ++ (size ++ b.payload)))) = bunch_bits-parts version b in
    ap length parts ∙ sums (control_bits b.opens b.closes b.sleeps b.reliable) (channel_bits version b.channel) (standing_bits b.exports b.part) numbers size b.payload refl size_is
  where
    sums : (a b c d e f : List Bool) → length c ≡ 3 → length e ≡ 13 → length (a ++ (b ++ (c ++ (d ++ (e ++ f))))) ≡ length a + (length b + (3 + (length d + (13 + length f))))
    sums a b c d e f h k = simp (length-append, h, k)

-- an entry of version one has a bit before its bunch
pub one_length : (version : Version) (b : Bunch) → version ≡ One → length (rec_bits version (Sends b)) ≡ 1 + length (bunch_bits version b)
one_length version b e = rw e (omega arith)

pub two_length : (version : Version) (b : Bunch) → version ≡ Two → length (rec_bits version (Sends b)) ≡ length (bunch_bits version b)
two_length version b e = rw e refl
