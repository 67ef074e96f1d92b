-- Copies of actors that sleep: each is as the player saw the actor when it was put to sleep.
use Rattle.std.specs.Prelude.{◌≡◌, ℕ, ◌==◌, List, [], ◌∷◌, ◌++◌, true, false, Option, Some, None}
use Rattle.std.specs.List.{AllByRecursion, Contains}
use Rattle.protocol_model.specs.Payload.{Closes}
use Rattle.protocol_model.specs.Side.{AtServer, AtClient}
use Rattle.protocol_model.specs.Sight.{Seen}
use Rattle.protocol_model.specs.Value.{Table, Class, Pair}
use Rattle.connection_model.specs.Carry.{updatable_pairs}
use Rattle.connection_model.specs.Copies.{copy_class, has_copy, copy_channel, copy_value}
use Rattle.connection_model.specs.Feed.{Past, Deed, Made, sight_of, seen_in}
use Rattle.connection_model.specs.Settled.{is_settled_as}
use Rattle.connection_model.specs.State.{state_of, mark_in, Asleep}
use Rattle.replication_model.specs.Story.{Player, past_at}

-- the actor's last open or close is a dormant close, made when the tick's sight showed it settled,
-- and the client's copy sleeps with each handle that was updatable then as it was seen
pub record SleepsAsSeen (server client : Past) (actor : ℕ) : Type 0 where
  -- the dormant close, and after it no open or close of the actor
  pub channel : ℕ
  pub number : ℕ
  pub newer : Past
  pub older : Past
  pub made : server ≡ newer ++ Made channel number (Closes actor true) 0 ∷ older
  pub unmarked : AllByRecursion (λ (d : Deed). mark_in actor d ≡ None) newer
  -- as the tick saw it
  pub seen : Seen
  pub shown : seen_in (sight_of older) actor ≡ Some seen
  pub settled : is_settled_as older seen ≡ true
  -- and as the client has it
  pub has : has_copy client actor ≡ true
  pub asleep : copy_channel client actor ≡ None
  pub values : (pair : Pair) (before after : List Pair)
      → updatable_pairs seen ≡ before ++ pair ∷ after
      → copy_value client actor pair.handle ≡ pair.value

-- how the tick saw the actor that made the actor's last dormant close
abbrev pub slept_as : Past → (actor : ℕ) → Option Seen
slept_as [] a = None
slept_as (Made channel number (Closes actor true) i ∷ past) a =
    elim (actor == a) [ true ↦ seen_in (sight_of past) a | false ↦ slept_as past a ]
slept_as (deed ∷ past) a = slept_as past a

-- the copy sleeps, and each handle that was updatable when the dormant close was made has the value
-- that the player saw then
pub record IsCopiedAsleep (server client : Past) (a : ℕ) : Type 0 where
  pub class : Class
  pub copied : copy_class client a ≡ Some class
  pub asleep : copy_channel client a ≡ None
  pub seen : Seen
  pub closed : slept_as server a ≡ Some seen
  pub values : (pair : Pair) → Contains (updatable_pairs seen) pair
      → copy_value client a pair.handle ≡ pair.value

-- each actor that sleeps at the player's server is copied so
abbrev pub CopiesSleeping : Table → Player → Type 0
CopiesSleeping table p =
    (a : ℕ) → state_of (past_at table AtServer p) a ≡ Asleep
    → IsCopiedAsleep (past_at table AtServer p) (past_at table AtClient p) a
