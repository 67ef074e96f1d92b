-- A message on a channel, by the room that there is.
use Rattle.std.proofs.Common.{◌≡◌, ◌∙◌, ℕ, ◌+◌, ◌<◌, ◌≤◌, ◌++◌, nat_lt, nat_le, ◌/◌, length, Bool, true, false, cond, ap, sym, arith, Option, Some}
use Rattle.std.proofs.lemmas.Bool.Decides.{nat_tests}
use Rattle.std.proofs.lemmas.List.{length-append}
use Rattle.protocol_model.specs.Bits.{packed_bits}
use Rattle.protocol_model.specs.Limits.{channels_one, channels_two, payload_bits}
use Rattle.protocol_model.specs.Payload.{Message, Gone, message_bits, part_count}
use Rattle.protocol_laws.proofs.Lengths.{length-packed}
use Rattle.connection_model.specs.Feed.{Past}
use Rattle.connection_model.specs.Bunches.{room, after_making}
use Rattle.connection_model.specs.Pack.{made_if_room}

some_room : (n : ℕ) → 0 < n → nat_lt 0 n ≡ true
some_room n h = grind (arith, nat_tests)

no_room : (n : ℕ) → n ≡ 0 → nat_lt 0 n ≡ false
no_room n h = grind (arith, nat_tests)

pub made_with : (past : Past) (o : Option ℕ) (ch : ℕ) (m : Message) → o ≡ Some ch → 0 < room past ch
    → made_if_room past o m ≡ after_making past ch m
made_with past o ch m e lt =
    ap (λ (i : Option ℕ). made_if_room past i m) e ∙ ap (λ (b : Bool). cond b (after_making past ch m) past)
    (some_room (room past ch) lt)

pub made_without : (past : Past) (o : Option ℕ) (ch : ℕ) (m : Message) → o ≡ Some ch → room past ch ≡ 0
    → made_if_room past o m ≡ past
made_without past o ch m e z =
    ap (λ (i : Option ℕ). made_if_room past i m) e ∙ ap (λ (b : Bool). cond b (after_making past ch m) past)
    (no_room (room past ch) z)

-- an index of version one is one of version two
pub one_two : (ch : ℕ) → ch < channels_one → ch < channels_two
one_two ch lt = omega (arith, lt)

-- a Gone is short, and so is a close
pub gone_short : (a : ℕ) → length (message_bits (Gone a)) ≤ 80
gone_short a = omega (arith, length-append (packed_bits 1) (packed_bits a), length-packed 1, length-packed a)

pub short_most : (n : ℕ) → n ≤ 80 → n ≤ payload_bits
short_most n le = omega (arith, le)

pub one_part : (n : ℕ) → n ≤ 80 → part_count n ≡ 1
one_part n le = ap (λ (b : Bool). cond b 1 ((n + 6999) / 7000)) (within n le)
  where
    within : (n : ℕ) → n ≤ 80 → nat_le n 7000 ≡ true
    within n le = grind (arith, nat_tests)
