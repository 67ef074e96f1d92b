-- Bunches that a server takes: none opens a channel or closes it.
use Rattle.std.specs.Prelude.{◌≡◌, ℕ, List, false}
use Rattle.std.specs.List.{AllByRecursion}
use Rattle.protocol_model.specs.Packet.{Bunch}
use Rattle.connection_model.specs.Feed.{Past}
use Rattle.connection_model.specs.Windows.{Received, received_on}
use Rattle.receiving_laws.specs.Receiving.{Raw}

-- the bunch neither opens nor closes
pub record IsPlain (b : Bunch) : Type 0 where
  pub opens : b.opens ≡ false
  pub closes : b.closes ≡ false

-- nor does any reliable one that was received
abbrev pub IsCalm : Past → Type 0
IsCalm past = (ch : ℕ) → AllByRecursion (λ (r : Received). IsPlain r.1) (received_on past ch)

-- nor one with which a whole payload begins
abbrev pub BeginPlain : List Raw → Type 0
BeginPlain raws = AllByRecursion (λ (raw : Raw). IsPlain raw.0) raws
