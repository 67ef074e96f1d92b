-- The move of one packet, and acknowledgements that were spelled otherwise.
use Rattle.std.specs.Prelude.{◌≡◌, ℕ, ◌<◌, ◌∷◌, map, Bool, true, false, filter}
use Rattle.connection_model.specs.Feed.{Past, Deed, Took, Entry, Told, Acked, Heard}
use Rattle.connection_model.specs.Fates.{high_of, moved_of}

-- the entry carries a bunch
abbrev pub is_heard : Entry → Bool
is_heard (Heard bunch) = true
is_heard (Acked number) = false
is_heard (Told head) = false

-- the deed without the acknowledgements that came with it
abbrev pub without_fates : Deed → Deed
without_fates (Took number entries handed) = Took number (filter is_heard entries) handed
without_fates deed = deed

-- all that was done, but for the acknowledgements
abbrev pub but_fates : Past → Past
but_fates past = map without_fates past

-- from the one past to the other nothing happens but that packet `to` moves, the greatest moved having been `from`
pub record IsMove (from to : ℕ) (past after : Past) : Type 0 where
  pub high : high_of past ≡ from
  pub above : from < to
  pub moved : moved_of after ≡ to ∷ moved_of past
  pub rest : but_fates after ≡ but_fates past

-- two pasts that differ in how acknowledgements were spelled alone
pub record SameNews (past after : Past) : Type 0 where
  pub moved : moved_of after ≡ moved_of past
  pub rest : but_fates after ≡ but_fates past
