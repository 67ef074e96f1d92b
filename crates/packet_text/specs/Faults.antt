-- What a text shows of a file, and what a refusal says of its first bad line.
use Rattle.std.specs.Prelude.{◌≡◌, ℕ, List, ◌++◌, Result, Ok}
use Rattle.protocol_model.specs.Packet.{Packet}
use Rattle.protocol_model.specs.declared.Version.{Version}
use Rattle.script_model.specs.Lines.{Text}
use Rattle.program_model.specs.Shown as model
use Rattle.program_model.specs.Shown.{packets_of, packet_text, show_text}
use Rattle.packet_text.specs.declared.refused.LineFault.{LineFault}
use Rattle.packet_text.specs.declared.refused.LineFault.TheVariants.{NotHex, NoPacket}
use Rattle.packet_text.specs.declared.refused.ShowRefusal.{ShowRefusal}
use Rattle.packet_text.specs.declared.refused.ShowRefusal.TheVariants.{BadLine, Memory}

-- the fault, as the definitions have it
abbrev pub fault_of : LineFault → model.LineFault
fault_of NotHex = model.NotHex
fault_of (NoPacket at why) = model.NoPacket at why

-- the refusal is of this line, for this fault
abbrev pub Explains : ShowRefusal → (line : ℕ) → model.LineFault → Type 0
Explains (BadLine line fault) n why = (n ≡ line) × (fault_of fault ≡ why)
Explains Memory n why = ⊥

-- the packet that was read stands behind the text
pub record Shows (read : Result Packet model.LineFault) (version : Version)
    (before now : Text) : Type 0 where
  pub packet : Packet
  pub is : read ≡ Ok packet
  pub text : now ≡ before ++ packet_text version packet

-- the file has packets, and this is their text
pub record IsShown (version : Version) (file : List ℕ) (text : Text) : Type 0 where
  pub packets : List Packet
  pub are : packets_of version file ≡ Ok packets
  pub shown : text ≡ show_text version packets
