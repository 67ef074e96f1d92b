-- Copies and their values as the program has them.
use Rattle.std.specs.Prelude.{◌≡◌, ℕ, ◌+◌, ◌<◌, ◌==◌, List, [], ◌∷◌, map, Option, Some, None, find, unwrap_or, ⊤, if◌then◌else◌}
use Rattle.std.specs.Borrow.{Bor}
use Rattle.std.specs.List.{AllByRecursion}
use Rattle.connection_model.specs.Copies.{is_on}
use Rattle.value_codec.specs.declared.pair.Pair.{Pair}
use Rattle.value_codec.specs.declared.value.Value.{Value}
use Rattle.actor_copies.specs.declared.copy.ActorCopy.{ActorCopy}
use Rattle.actor_copies.specs.Keyed.{at_key, Put}

-- a copy's actor
abbrev pub copy_actor : ActorCopy → ℕ
copy_actor c = c.actor

-- the copy of an actor
abbrev pub kept_of : List ActorCopy → (actor : ℕ) → Option ActorCopy
kept_of copies a = at_key copy_actor copies a

-- the copy that holds a channel
abbrev pub kept_on : List ActorCopy → (channel : ℕ) → Option ActorCopy
kept_on copies ch = find (λ (c : ActorCopy). is_on ch c.channel) copies

-- the copies that are lent
abbrev pub lent_items : List (Bor ActorCopy) → List ActorCopy
lent_items list = map (λ (c : Bor ActorCopy). c.now) list

-- values of one handle after another from this one on
abbrev pub IsNumbered : (handle : ℕ) → List Pair → Type 0
IsNumbered h [] = ⊤
IsNumbered h (p ∷ pairs) = (p.prop ≡ h) × IsNumbered (h + 1) pairs

-- the value of a handle, the first one
abbrev pub value_in : List Pair → (handle : ℕ) → Option Value
value_in [] h = None
value_in (p ∷ pairs) h = if p.prop == h then Some p.value else value_in pairs h

-- a value under one of its handle
abbrev pub set_one : Pair → Pair → Pair
set_one p q = if p.prop == q.prop then record { prop = q.prop; value = p.value } else q

-- a value under these
abbrev pub set_all : List Pair → Pair → Pair
set_all pairs q = record { prop = q.prop; value = unwrap_or (value_in pairs q.prop) q.value }

-- the class of each copy is one of so many
abbrev pub ArePlaced : (classes : ℕ) → List ActorCopy → Type 0
ArePlaced count copies = AllByRecursion (λ (c : ActorCopy). c.class < count) copies

-- a copy with another channel and these values
abbrev pub changed : ActorCopy → (channel : Option ℕ) → List Pair → ActorCopy
changed c channel pairs = record {
  actor = c.actor;
  class = c.class;
  channel = channel;
  values = map (set_all pairs) c.values;
}

-- where there was this copy, it became another of its actor, or none; else nothing changed
abbrev pub Becomes : (old new : List ActorCopy) → Option ActorCopy
    → (ActorCopy → Option ActorCopy) → Type 0
Becomes old new None item = new ≡ old
Becomes old new (Some x) item = Put copy_actor x.actor (item x) old new
