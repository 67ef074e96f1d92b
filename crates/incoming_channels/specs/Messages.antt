-- Whole payloads as the program has them, against those of the definitions.
use Rattle.std.specs.Prelude.{◌≡◌, List, [], ◌∷◌, ⊤}
use Rattle.receiving_laws.specs.Receiving.{Raw}
use Rattle.incoming_channels.specs.declared.message.Message.{Message as MessageValue}

-- the payload, with the flags of the bunch with which it began
pub record IsRaw (raw : Raw) (m : MessageValue) : Type 0 where
  pub channel : m.channel ≡ raw.0.channel
  pub opens : m.opens ≡ raw.0.opens
  pub closes : m.closes ≡ raw.0.closes
  pub sleeps : m.sleeps ≡ raw.0.sleeps
  pub exports : m.exports ≡ raw.0.exports
  pub reliable : m.reliable ≡ raw.0.reliable
  pub bits : m.bits ≡ raw.1

-- and so one by one
abbrev pub AreRaws : List Raw → List MessageValue → Type 0
AreRaws [] [] = ⊤
AreRaws [] (m ∷ more) = ⊥
AreRaws (raw ∷ raws) [] = ⊥
AreRaws (raw ∷ raws) (m ∷ more) = IsRaw raw m × AreRaws raws more
