-- Parts of a bunch's spelling, as they are put.
use Rattle.std.specs.Prelude.{ℕ, List, ◌++◌, Bool, false, ◌||◌}
use Rattle.std.specs.List.{flat_map}
use Rattle.protocol_model.specs.Limits.{sequence_modulus}
use Rattle.protocol_model.specs.Bits.{int_bits, fixed_bits}
use Rattle.protocol_model.specs.Packet.{flag, field_if, is_partial, is_initial, is_final}
use Rattle.protocol_model.specs.declared.Part.{Part}

-- the flags before the channel
abbrev pub control_bits : (opens closes sleeps reliable : Bool) → List Bool
control_bits opens closes sleeps reliable =
    flag (opens || closes) ++ field_if (opens || closes) (flag opens ++ flag closes)
    ++ field_if closes (flag sleeps) ++ flag false ++ flag reliable

-- the flags after the channel
abbrev pub standing_bits : (exports : Bool) → Part → List Bool
standing_bits exports part = flag exports ++ flag false ++ flag (is_partial part)

-- the numbers of a reliable bunch, and the flags of a part
abbrev pub numbered_bits : (reliable : Bool) → (seq : ℕ) → Part → (kind : ℕ) → List Bool
numbered_bits reliable seq part kind =
    field_if reliable (int_bits sequence_modulus seq)
    ++ field_if (is_partial part) (flag (is_initial part) ++ flag (is_final part))
    ++ field_if reliable (int_bits 8 kind)

-- the words of a history
abbrev pub words_bits : List ℕ → List Bool
words_bits words = flat_map (λ word. fixed_bits 32 word) words
