-- Each bunch that is made, and each unreliable one, has a spelling that fits into a packet by itself.
use Rattle.std.proofs.Common.{◌≡◌, inl, inr, ℕ, ◌<◌, ◌≤◌, List, Bool, true, false, cond, ◌%◌, nat_lt, length, refl, arith}
use Rattle.std.proofs.lemmas.Bool.{cases_Bool, lt-ltb, ltb-true, ltb-false}
use Rattle.protocol_model.specs.declared.Version.{Version}
use Rattle.protocol_model.specs.declared.Version.TheVariants.{One, Two}
use Rattle.protocol_model.specs.declared.Part.{Part}
use Rattle.protocol_model.specs.Packet.{Bunch, Sends, is_partial, is_bunch, bunch_bits, channel_bits, channel_limit}
use Rattle.protocol_model.specs.Payload.{Message, message_bits}
use Rattle.connection_model.specs.Bunches.{made_bunch}
use Rattle.protocol_laws.specs.Parts.{control_bits, numbered_bits}
use Rattle.protocol_laws.proofs.FieldLengths.{channel_13, channel_14, control_length, numbered_length, bunch_length}
use Rattle.payload_laws.proofs.Lengths.{packed_length}
use Rattle.payload_laws.proofs.Bounds.{packed_most}
use Rattle.payload_laws.proofs.HeaderRules.{made_is_bunch}
use Rattle.payload_laws.proofs.Pieces.{piece_most}
use Rattle.link_end.specs.Begun.{IsPackable}
use Rattle.bunch_packing.specs.Both.{bare_bunch}

cond_most : (b : Bool) (x k : ℕ) → x ≤ k → cond b x 0 ≤ k
cond_most true x k h = h
cond_most false x k h = omega arith

control_most : (o c s r : Bool) → length (control_bits o c s r) ≤ 6
control_most true true s r = omega (arith, control_length true true s r)
control_most true false s r = omega (arith, control_length true false s r)
control_most false true s r = omega (arith, control_length false true s r)
control_most false false s r = omega (arith, control_length false false s r)

numbered_most : (r : Bool) (seq : ℕ) (part : Part) (kind : ℕ) → length (numbered_bits r seq part kind) ≤ 15
numbered_most r seq part kind =
    omega (
      arith,
      numbered_length r seq part kind,
      cond_most r 13 13 (omega arith),
      cond_most (is_partial part) 2 2
          (omega arith),
    )

channel_most : (v : Version) (ch : ℕ) → length (channel_bits v ch) ≤ 40
channel_most One ch = elim (cases_Bool (nat_lt (ch % 8192) 2048)) [
  | inl e ↦ omega (arith, channel_14 ch (ltb-true (ch % 8192) 2048 e))
  | inr e ↦ omega (arith, channel_13 ch (ltb-false (ch % 8192) 2048 e))
]
channel_most Two ch = omega (arith, packed_length ch, packed_most ch)

bunch_most : (v : Version) (b : Bunch) → length b.payload ≤ 7000 → length (bunch_bits v b) ≤ 7100
bunch_most v b h =
    omega (
      arith,
      bunch_length v b,
      control_most b.opens b.closes b.sleeps b.reliable,
      channel_most v b.channel,
      numbered_most b.reliable b.seq b.part b.kind,
      h,
    )

packable : (v : Version) (b : Bunch) → is_bunch v b ≡ true → length b.payload ≤ 7000 → IsPackable v (Sends b)
packable One b e h = (e, omega (arith, bunch_most One b h))
packable Two b e h = (e, omega (arith, bunch_most Two b h))

pub made_packable : (v : Version) (ch n : ℕ) (m : Message) (i : ℕ) → ch < channel_limit v
    → IsPackable v (Sends (made_bunch ch n m i))
made_packable v ch n m i h =
    packable v (made_bunch ch n m i) (made_is_bunch v ch n m i h) (piece_most (message_bits m) i)

pub loose_packable : (v : Version) (ch : ℕ) (payload : List Bool) → ch < channel_limit v → length payload ≤ 7000
    → IsPackable v (Sends (bare_bunch ch payload))
loose_packable v ch payload h short =
    packable v (bare_bunch ch payload) (rw (
      lt-ltb ch (channel_limit v) h,
      lt-ltb (length payload) 8192
          (omega (arith, short)),
    ) refl) short
