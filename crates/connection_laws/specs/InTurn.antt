-- The messages made on an index, one use of it after another.
use Rattle.std.specs.Prelude.{◌≡◌, ℕ, List, [], ◌∷◌, Option, Some, None}
use Rattle.protocol_model.specs.Payload.{Message, Opens, Closes, Updates, Calls, Gone}
use Rattle.connection_model.specs.Feed.{Past}
use Rattle.connection_laws.specs.Delivered.{Numbered, on_index}

-- the user that a message leaves the index with, if it says: the actor after its open, none after a close
abbrev pub user_said : Message → Option (Option ℕ)
user_said (Opens exports actor class values) = Some (Some actor)
user_said (Closes actor sleeps) = Some None
user_said (Updates actor class values) = None
user_said (Calls actor number call args) = None
user_said (Gone actor) = None

-- the actor that uses an index after these messages, the newest first: its open is the last one, with no
-- close after it
abbrev pub user_of : List Numbered → Option ℕ
user_of [] = None
user_of (made ∷ before) = elim (user_said made.1) [ Some user ↦ user | None ↦ user_of before ]

-- a message stands in its actor's use of the index: an open while nobody uses it, calls and the close while
-- the actor does, and a Gone anywhere
abbrev pub FitsUse : (before : List Numbered) → Message → Type 0
FitsUse before (Opens exports actor class values) = user_of before ≡ None
FitsUse before (Closes actor sleeps) = user_of before ≡ Some actor
FitsUse before (Calls actor number call args) = user_of before ≡ Some actor
FitsUse before (Updates actor class values) = ⊥
FitsUse before (Gone actor) = Unit {0}

-- each of these messages does, the newest first
abbrev pub Brackets : List Numbered → Type 0
Brackets [] = Unit {0}
Brackets (made ∷ before) = FitsUse before made.1 × Brackets before

-- on each index, the messages made are one use of it after another
abbrev pub BracketsFit : Past → Type 0
BracketsFit past = (ch : ℕ) → Brackets (on_index ch past)
