-- Who holds which channel.
use Rattle.std.specs.Prelude.{◌≡◌, ℕ, ◌<◌, ◌≤◌, ◌==◌, List, Option, None, Some, is_some, find, option_map, slice_index_or, if◌then◌else◌}
use Rattle.protocol_model.specs.Limits.{channels_two}
use Rattle.reliable_window.specs.Bits.{bit_in}

-- actors with the channels that they hold, in any order
abbrev pub Bound : Type 0
Bound = List (ℕ × ℕ)

-- the channel bound to the actor
abbrev pub channel_bound : Bound → (actor : ℕ) → Option ℕ
channel_bound bound a = option_map (λ (b : ℕ × ℕ). b.1) (find (λ (b : ℕ × ℕ). b.0 == a) bound)

-- the actor bound to the channel
abbrev pub actor_bound : Bound → (channel : ℕ) → Option ℕ
actor_bound bound ch = option_map (λ (b : ℕ × ℕ). b.0) (find (λ (b : ℕ × ℕ). b.1 == ch) bound)

-- the channel bound to an actor is bound to that actor, and the other way round: each is bound once
pub record IsPaired (bound : Bound) : Type 0 where
  pub forth : (a ch : ℕ) → channel_bound bound a ≡ Some ch → actor_bound bound ch ≡ Some a
  pub back : (a ch : ℕ) → actor_bound bound ch ≡ Some a → channel_bound bound a ≡ Some ch

-- what is held, where that is another channel
abbrev pub other_than : (channel : ℕ) → (held : Option ℕ) → Option ℕ
other_than ch None = None
other_than ch (Some held) = if held == ch then None else Some held

-- the holder of a channel, by its place
abbrev pub holder_at : List (Option ℕ) → (channel : ℕ) → Option ℕ
holder_at holders ch = slice_index_or holders ch None

-- each actor and each channel is bound once, each channel's place has its holder, and the set has the channels that
-- are held
pub record IsHeld (bound : Bound) (holders : List (Option ℕ)) (used : List ℕ) : Type 0 where
  pub paired : IsPaired bound
  pub at : (ch : ℕ) → holder_at holders ch ≡ actor_bound bound ch
  pub marked : (ch : ℕ) → ch < channels_two
      → bit_in used ch ≡ (if is_some (actor_bound bound ch) then 1 else 0)
  pub most : (ch : ℕ) → channels_two ≤ ch → actor_bound bound ch ≡ None
