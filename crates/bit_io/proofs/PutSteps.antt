-- What a put leaves in the writer's bytes.
use Rattle.std.proofs.Common.{◌≡◌, ℕ, ◌<◌, ◌≤◌, ◌+◌, ◌-◌, ◌*◌, ◌/◌, ◌^◌, List, [], ◌∷◌, Bool, refl, ap, ◌∙◌, arith, length, take, true, false}
use mir.Val.{bool_byte}
use Rattle.protocol_model.specs.Bits.{digits, bytes_in, bytes_of}
use Rattle.protocol_laws.specs.Packed.{number_of_bytes}
use Rattle.bit_io.specs.Written.{Written, Appends, IsClear}
use Rattle.protocol_laws.proofs.Digits.{IsBytes, digits-append, length-digits}
use Rattle.protocol_laws.proofs.BytesLaws.{bytes_in-digits}
use Rattle.bit_io.proofs.Steps.{step_clear}

-- what the fields of a writer stand for
abbrev pub written : List ℕ → ℕ → Written
written bytes len = record { bits = digits len (number_of_bytes bytes); spare = 8 * length bytes - len }

pub put_clear : (old new : List ℕ) (len value width : ℕ) → IsClear old len → len + width ≤ 8 * length old → value < 2 ^ width
    → length new ≡ length old → number_of_bytes new ≡ number_of_bytes old + value * 2 ^ len → IsClear new (len + width)
put_clear old new len value width i room small same number = let s = i.small in record {
  within = omega arith;
  small = omega (arith, s, same);
  clear = step_clear (number_of_bytes old) (number_of_bytes new) value len width number i.clear small;
}

pub put_appends : (old new : List ℕ) (len value width : ℕ) → IsClear old len → len + width ≤ 8 * length old
    → length new ≡ length old → number_of_bytes new ≡ number_of_bytes old + value * 2 ^ len
    → Appends (written old len) (written new (len + width)) (digits width value)
put_appends old new len value width i room same number = record {
  bits = ap (digits (len + width)) number ∙ digits-append len width (number_of_bytes old) value i.clear;
  spare = omega (arith, length-digits width value);
}

pub digits-bit : (b : Bool) → digits 1 (bool_byte b) ≡ b ∷ []
unfolding digits
digits-bit true = refl
digits-bit false = refl

-- the bytes up to the last that has one of the bits
pub bytes_of-written : (bytes : List ℕ) (len : ℕ) → IsBytes (take ((len + 7) / 8) bytes) → IsClear bytes len → bytes_of (digits len (number_of_bytes bytes)) ≡ take ((len + 7) / 8) bytes
bytes_of-written bytes len h i =
    let w = i.within in
    ap (λ k. bytes_in ((k + 7) / 8) (digits len (number_of_bytes bytes))) (length-digits len (number_of_bytes bytes))
    ∙ bytes_in-digits ((len + 7) / 8) len bytes h (omega (arith, w)) i.clear
