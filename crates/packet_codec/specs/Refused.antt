-- What a refusal says of the bytes.
use Rattle.std.specs.Prelude.{◌≡◌, ℕ, ◌≤◌, ◌-◌, ◌*◌, ◌==◌, List, length, take, slice_index_or, false, Err, ⊤}
use Rattle.protocol_model.specs.Limits.{packet_bytes}
use Rattle.protocol_model.specs.Bits.{bits_of}
use Rattle.protocol_model.specs.PacketReading.{packet_of, content_of, content_read}
use Rattle.protocol_model.specs.declared.Version.{Version}
use Rattle.packet_codec.specs.declared.packet.DecodeRefusal.{DecodeRefusal}
use Rattle.packet_codec.specs.declared.packet.DecodeRefusal.TheVariants.{Malformed, Memory}

-- the first broken rule and its bit; want of memory says nothing of the bytes
abbrev pub Explains : DecodeRefusal → Version → List ℕ → Type 0
Explains (Malformed at why) version bytes = packet_of version bytes ≡ Err (at, why)
Explains Memory version bytes = ⊤

-- there are bytes, no more than a packet's, and the last of them isn't 0
pub record HasEnd (bytes : List ℕ) : Type 0 where
  pub some : 1 ≤ length bytes
  pub most : length bytes ≤ packet_bytes
  pub last : (slice_index_or bytes (length bytes - 1) 0 == 0) ≡ false

-- the content stands before this bit, and decides which packet the bytes spell
pub record EndsAt (bytes : List ℕ) (end : ℕ) : Type 0 where
  pub content : content_of bytes ≡ take end (bits_of bytes)
  pub decides : (version : Version)
      → packet_of version bytes ≡ content_read version (content_of bytes)
  pub within : end ≤ 8 * length bytes
  pub ended : HasEnd bytes
