-- A sight as it is handed to a sender, which may leave out what changes no packet.
use Rattle.std.specs.Prelude.{◌≡◌, ◌<◌, ℕ, List, [], ◌∷◌, Bool, false, not, ◌&&◌, IsTrue, ⊤}
use Rattle.protocol_model.specs.Sight.{Seen}
use Rattle.connection_model.specs.Feed.{Past}
use Rattle.connection_model.specs.State.{state_of, is_closed}
use Rattle.connection_model.specs.Items.{is_quiet}

-- a destroyed actor of which nothing is left to close; it is neither relevant nor owned
abbrev pub is_done : Past → Seen → Bool
is_done past seen =
    seen.destroyed && not seen.relevant && not seen.owns && is_closed (state_of past seen.actor)

-- the entry without its values
abbrev pub unvalued : Seen → Seen
unvalued seen = record seen { values = [] }

-- what may be handed to a sender in place of a sight: the same, but the values of a quiet actor may
-- be left out, and so may the entry of a destroyed actor of which nothing is left to close
pub data Shows (past : Past) : List Seen → List Seen → Type 0 where
  none : Shows past [] []
  as_it_is : {seen : Seen} {sight given : List Seen} → Shows past sight given
      → Shows past (seen ∷ sight) (seen ∷ given)
  without_values : {seen : Seen} {sight given : List Seen} → IsTrue (is_quiet past seen)
      → Shows past sight given → Shows past (seen ∷ sight) (unvalued seen ∷ given)
  without_entry : {seen : Seen} {sight given : List Seen} → IsTrue (is_done past seen)
      → Shows past sight given → Shows past (seen ∷ sight) given

-- entries of actors above `low`, ascending, none both destroyed and relevant
abbrev pub AscendsFrom : (low : ℕ) → List Seen → Type 0
AscendsFrom low [] = ⊤
AscendsFrom low (seen ∷ sight) =
    (low < seen.actor) × ((seen.destroyed && seen.relevant) ≡ false) × AscendsFrom seen.actor sight

-- as every sight of a world is: its actors ascend, and a destroyed one isn't relevant
abbrev pub IsSight : List Seen → Type 0
IsSight sight = AscendsFrom 0 sight
