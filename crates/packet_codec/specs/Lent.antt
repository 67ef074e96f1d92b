-- Payloads that are parts of the datagram itself.
use Rattle.std.specs.Prelude.{◌≡◌, ⊤, ℕ, List}
use Rattle.std.specs.Borrow.{Bor}
use Rattle.packet_codec.specs.declared.packet.Rec.{Rec}
use Rattle.packet_codec.specs.declared.packet.Rec.TheVariants.{Ack, Bunch}

-- the entry's payload, where it has one, is a slice of these bytes
abbrev pub IsLentFrom : Bor (List ℕ) → Rec → Type 0
IsLentFrom bytes (Ack number) = ⊤
IsLentFrom bytes (Bunch bunch) = bunch.payload.bytes ≡ bytes

-- the entry's payload, where it has one, ends at this bit
abbrev pub EndsWith : ℕ → Rec → Type 0
EndsWith place (Ack number) = ⊤
EndsWith place (Bunch bunch) = bunch.payload.to ≡ place
