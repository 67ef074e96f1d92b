-- Copies under keys of their own, found by actor and by channel.
use Rattle.std.specs.Prelude.{◌≡◌, ℕ, List, Option, Some, None, filter_map, option_and_then, slice_index_or}
use Rattle.std.specs.Ordering.{nat_cmp}
use Rattle.std.specs.BTreeMap.{BTreeMap, IsOrdered, get as key_at}
use Rattle.slab.specs.Slab.{Slab, get as stored_at}
use Rattle.actor_copies.specs.declared.copy.ActorCopy.{ActorCopy}
use Rattle.actor_copies.specs.Kept.{IsNumbered}

-- the actor of a copy, which each has
abbrev pub actor_number : ActorCopy → Option ℕ
actor_number c = Some c.actor

-- its channel, if it has one
abbrev pub channel_number : ActorCopy → Option ℕ
channel_number c = c.channel

-- an index has a key under a number exactly where the copy of that key has the number
pub record Indexes (number : ActorCopy → Option ℕ) (stored : ℕ → Option ActorCopy)
    (index : ℕ → Option ℕ) : Type 0 where
  pub there : (n k : ℕ) → index n ≡ Some k → option_and_then number (stored k) ≡ Some n
  pub found : (n k : ℕ) → option_and_then number (stored k) ≡ Some n → index n ≡ Some k

-- the key of the copy that holds a channel
abbrev pub key_on : List (Option ℕ) → (channel : ℕ) → Option ℕ
key_on keys ch = slice_index_or keys ch None

-- the copies of these keys, in the order of their actors
abbrev pub listed : (ℕ → Option ActorCopy) → List (ℕ × ℕ) → List ActorCopy
listed stored entries = filter_map (λ (e : ℕ × ℕ). stored e.1) entries

-- copies with both indexes, that by actor in order, and with their values by handle
pub record IsIndexed (copies : Slab ActorCopy) (by_actor : BTreeMap ℕ ℕ)
    (by_channel : List (Option ℕ)) : Type 0 where
  pub ordered : IsOrdered nat_cmp by_actor
  pub actors : Indexes actor_number (stored_at copies) (key_at nat_cmp by_actor)
  pub channels : Indexes channel_number (stored_at copies) (key_on by_channel)
  pub numbered : (k : ℕ) (c : ActorCopy) → stored_at copies k ≡ Some c → IsNumbered 1 c.values
