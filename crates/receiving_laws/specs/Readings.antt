-- What whole payloads may be read as, whatever is read of them.
use Rattle.std.specs.Prelude.{◌≡◌, List, [], ◌∷◌}
use Rattle.connection_model.specs.Bunches.{is_opening, is_closing}
use Rattle.connection_model.specs.Feed.{Delivered}
use Rattle.receiving_laws.specs.Receiving.{Raw}

-- what was handed on is what these payloads were read as: at the client their holders agree
pub record IsReadAs (raw : Raw) (d : Delivered) : Type 0 where
  pub channel : d.channel ≡ raw.0.channel
  pub opens : is_opening d.message ≡ raw.0.opens
  pub closes : is_closing d.message ≡ raw.0.closes

-- the newest payload handed on stands first
abbrev pub AreRead : List Raw → (before after : List Delivered) → Type 0
AreRead [] before after = after ≡ before
AreRead (raw ∷ raws) before after = (d : Delivered) × IsReadAs raw d × AreRead raws (d ∷ before) after
