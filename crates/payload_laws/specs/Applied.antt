-- One more payload was handed on, and what of a copy stays.
use Rattle.std.specs.Prelude.{◌≡◌, ℕ, ◌∷◌}
use Rattle.connection_model.specs.Feed.{Past, Delivered}
use Rattle.connection_model.specs.Copies.{delivered_of, copy_class, copy_channel, copy_value}

-- the later past handed on one payload more
abbrev pub Applied : (past later : Past) → Delivered → Type 0
Applied past later d = delivered_of later ≡ d ∷ delivered_of past

-- the actor's copy stays as it was, where there is one
pub record Stays (past later : Past) (actor : ℕ) : Type 0 where
  pub class : copy_class later actor ≡ copy_class past actor
  pub channel : copy_channel later actor ≡ copy_channel past actor
  pub value : (handle : ℕ) → copy_value later actor handle ≡ copy_value past actor handle
