-- A bunch takes as many bits whatever its number is.
use Rattle.std.proofs.Common.{◌≡◌, ℕ, ◌+◌, ◌≤◌, ◌<◌, List, ◌++◌, length, Bool, true, false, ◌&&◌, ◌||◌, ◌==◌, nat_lt, slice_get, refl, sym, ap, subst, ◌∙◌, if◌then◌else◌, arith}
use Rattle.std.proofs.lemmas.Bool.{and_parts, lt-ltb}
use Rattle.std.proofs.lemmas.List.{length-append}
use Rattle.protocol_model.specs.Limits.{sequence_modulus, bunch_bits_limit}
use Rattle.protocol_model.specs.Bits.{int_bits}
use Rattle.protocol_model.specs.declared.Version.{Version}
use Rattle.protocol_model.specs.declared.Version.TheVariants.{One, Two}
use Rattle.protocol_model.specs.Packet.{Bunch, Rec, Sends, is_rec, is_bunch, rec_bits, bunch_bits, channel_bits, flag, field_if, is_partial, is_initial, is_final}
use Rattle.protocol_laws.proofs.FieldLengths.{power_width}
use Rattle.connection_model.specs.Feed.{End, Item}
use Rattle.connection_model.specs.Pack.{Packing, rec_of, may_begin, has_room}
use Rattle.link_end.specs.Begun.{fits_after, entry_most, IsPackable}
use Rattle.link_end.specs.Packs.{bits_begun}
use Rattle.link_end.proofs.Packed.{item_bits, fits_begun}

-- what stands in front doesn't matter
behind : (front one other : List Bool) → length one ≡ length other → length (front ++ one) ≡ length (front ++ other)
behind front one other e =
    length-append front one ∙ ap (λ n. length front + n) e ∙ sym (length-append front other)

-- nor what stands behind
before : (one other back : List Bool) → length one ≡ length other → length (one ++ back) ≡ length (other ++ back)
before one other back e =
    length-append one back ∙ ap (λ n. n + length back) e ∙ sym (length-append other back)

amid : (front one other a b c d : List Bool) → length one ≡ length other
    → length (front ++ one ++ a ++ b ++ c ++ d) ≡ length (front ++ other ++ a ++ b ++ c ++ d)
amid front one other a b c d e =
    before (front ++ one ++ a ++ b ++ c) (front ++ other ++ a ++ b ++ c) d
    (before (front ++ one ++ a ++ b) (front ++ other ++ a ++ b) c
    (before (front ++ one ++ a) (front ++ other ++ a) b
    (before (front ++ one) (front ++ other) a (behind front one other e))))

number_long : (reliable : Bool) (n m : ℕ)
    → length (field_if reliable (int_bits sequence_modulus n))
    ≡ length (field_if reliable (int_bits sequence_modulus m))
number_long true n m = power_width 10 n (omega arith) ∙ sym (power_width 10 m (omega arith))
number_long false n m = refl

bunch_long : (v : Version) (b : Bunch) (n : ℕ)
    → length (bunch_bits v b) ≡ length (bunch_bits v (record b { seq = n }))
bunch_long v b n =
    amid (flag (b.opens || b.closes) ++ field_if (b.opens || b.closes) (flag b.opens ++ flag b.closes)
    ++ field_if b.closes (flag b.sleeps) ++ flag false ++ flag b.reliable ++ channel_bits v b.channel
    ++ flag b.exports ++ flag false ++ flag (is_partial b.part))
    (field_if b.reliable (int_bits sequence_modulus b.seq)) (field_if b.reliable (int_bits sequence_modulus n))
    (field_if (is_partial b.part) (flag (is_initial b.part) ++ flag (is_final b.part)))
    (field_if b.reliable (int_bits 8 b.kind)) (int_bits bunch_bits_limit (length b.payload)) b.payload
    (number_long b.reliable b.seq n)

-- a bunch with another number has as many bits
pub sends_long : (v : Version) (b : Bunch) (n : ℕ)
    → length (rec_bits v (Sends b)) ≡ length (rec_bits v (Sends (record b { seq = n })))
sends_long One b n = behind (flag false) (bunch_bits One b) (bunch_bits One (record b { seq = n })) (bunch_long One b n)
sends_long Two b n = bunch_long Two b n

-- ---- it has a spelling

in_second : (a one other : Bool) → (one ≡ true → other ≡ true) → (a && one) ≡ true → (a && other) ≡ true
in_second true one other h e = h e
in_second false one other h e = e

in_first : (one other b : Bool) → (one ≡ true → other ≡ true) → (one && b) ≡ true → (other && b) ≡ true
in_first one other b h e = let parts = and_parts one b e in rw (h parts.0, parts.1) refl

numbered : (r k u v below was : Bool) → r ≡ true → below ≡ true → (if r then was && k else u) ≡ true
    → (if r then below && k else v) ≡ true
numbered r k u v below was e l h = rw (e, l) (and_parts was k (rw e at h)).1

bunch_spelled : (v : Version) (b : Bunch) (n : ℕ) → b.reliable ≡ true → n < sequence_modulus
    → is_bunch v b ≡ true → is_bunch v (record b { seq = n }) ≡ true
bunch_spelled v b n reliable below =
    in_first _ _ _ (in_second _ _ _ (numbered b.reliable (b.kind == 1 || b.kind == 2) (b.seq == 0 && b.kind == 0)
    (n == 0 && b.kind == 0) (nat_lt n sequence_modulus) (nat_lt b.seq sequence_modulus) reliable
    (lt-ltb n sequence_modulus below)))

spelled : (v : Version) (b : Bunch) (n : ℕ) → b.reliable ≡ true → n < sequence_modulus
    → is_rec v (Sends b) ≡ true → is_rec v (Sends (record b { seq = n })) ≡ true
spelled One b n reliable below h = bunch_spelled One b n reliable below h
spelled Two b n reliable below h = bunch_spelled Two b n reliable below h

pub same_packable : (v : Version) (b : Bunch) (n : ℕ) → b.reliable ≡ true → n < sequence_modulus
    → IsPackable v (Sends b) → IsPackable v (Sends (record b { seq = n }))
same_packable v b n reliable below h =
    (spelled v b n reliable below h.0, subst (λ k. k ≤ entry_most) (sends_long v b n) h.1)

-- ---- and room where the other has
pub same_room : (end : End) (p : Packing) (one other : Item) (b : Bunch) (n : ℕ) → rec_of one ≡ Sends b
    → rec_of other ≡ Sends (record b { seq = n }) → has_room end p one ≡ has_room end p other
same_room end p one other b n is so =
    let long : length (item_bits end one) ≡ length (item_bits end other) =
    ap (λ (r : Rec). length (rec_bits end.version r)) is ∙ sends_long end.version b n
    ∙ sym (ap (λ (r : Rec). length (rec_bits end.version r)) so) in
    ap (λ (fits : Bool). fits || may_begin end p)
    (sym (fits_begun end p.past p.packets one)
    ∙ ap (λ (k : ℕ). fits_after (slice_get (bits_begun end p.past p.packets) 0) k) long
    ∙ fits_begun end p.past p.packets other)
