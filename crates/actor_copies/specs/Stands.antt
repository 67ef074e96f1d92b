-- The copies that a client keeps, against the payloads that it was handed.
use Rattle.std.specs.Prelude.{◌≡◌, ℕ, List, map, None}
use Rattle.protocol_model.specs.Search.{newest_of}
use Rattle.class_layout.specs.Tables.{Layout}
use Rattle.connection_model.specs.Feed.{Past}
use Rattle.connection_model.specs.Copies.{copy_class, since_removed, value_applied}
use Rattle.actor_copies.specs.declared.copy.ActorCopy.{ActorCopy}
use Rattle.actor_copies.specs.Copies.{Copy, copy_of, copy_value_of}
use Rattle.actor_copies.specs.Keyed.{Ascends, at_key}

-- a copy's actor
abbrev pub actor_key : Copy → ℕ
actor_key c = c.actor

-- the copies ascend by actor, and each is that of its actor
pub record Mirrors (copies : List Copy) (past : Past) : Type 0 where
  pub ascends : Ascends actor_key 0 copies
  pub each : (a : ℕ) → at_key actor_key copies a ≡ copy_of past a

-- the copies that are kept are those of the past
abbrev pub Shows : Layout → List ActorCopy → Past → Type 0
Shows layout copies past = Mirrors (map (copy_value_of layout) copies) past

-- where there is no copy nothing was applied since the last one was removed
pub record IsClean (past : Past) : Type 0 where
  pub none : (a h : ℕ) → copy_class past a ≡ None
      → newest_of (value_applied a h) (since_removed past a) ≡ None

-- and they begin anew where there is none
pub record Stands (layout : Layout) (copies : List ActorCopy) (past : Past) : Type 0 where
  pub shows : Shows layout copies past
  pub clean : IsClean past
