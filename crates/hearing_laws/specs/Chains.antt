-- Moves one after another, from past to past.
use Rattle.std.specs.Prelude.{ℕ, ◌+◌, ◌<◌, List, [], ◌∷◌, reverse, filter_map, ⊤}
use Rattle.connection_model.specs.Feed.{Past, Entry}
use Rattle.connection_model.specs.Fates.{high_of, named_by, number_above}
use Rattle.channel_laws.specs.Moves.{IsMove, SameNews}
use Rattle.link_end.specs.News.{News, Moves}

-- the moves lead from the one past to the other, in which nothing else is told
pub data Chain : List News → Past → Past → Type 0 where
  same : {past later : Past} → SameNews past later → Chain [] past later
  moves : {news : List News} {past mid later : Past} (from to : ℕ) → IsMove from to past mid → Chain news mid later
      → Chain (Moves from to ∷ news) past later

-- numbers that ascend from above this one, each less than half of the modulus above the one before
abbrev pub AreNear : (high : ℕ) → List ℕ → Type 0
AreNear high [] = ⊤
AreNear high (n ∷ ns) = (high < n) × (n < high + 8192) × AreNear n ns

-- the numbers that an entry moves, ascending
abbrev pub moved_in : Past → Entry → List ℕ
moved_in past entry = reverse (filter_map (number_above (high_of past)) (named_by entry (high_of past)))
