-- The ends, sights and packets of the worked feeds.
use Rattle.std.specs.Prelude.{ℕ, ◌+◌, ◌-◌, ◌*◌, List, [], ◌∷◌, map, false, true, nat_le, if◌then◌else◌, ℤ, pos}
use Rattle.std.specs.List.{range_with_len}
use Rattle.protocol_model.specs.declared.Version.TheVariants.{One}
use Rattle.protocol_model.specs.Side.{AtServer, AtClient}
use Rattle.protocol_model.specs.Value.{Pair}
use Rattle.protocol_model.specs.Sight.{Seen}
use Rattle.protocol_model.specs.BuiltIn.{built_in_table, pawn}
use Rattle.connection_model.specs.Feed.{End, Event, Tick}

-- a server's end with this budget
unfoldable pub server : (budget : ℕ) → End
server budget = record { side = AtServer; version = One; budget = budget; table = built_in_table }

-- a client's end
unfoldable pub client : End
client = record { side = AtClient; version = One; budget = 1000000; table = built_in_table }

-- a handle with its value
abbrev pub pair : ℕ → ℤ → Pair
pair h v = record { handle = h; value = v }

-- another's pawn in a sight, with these values of x and hp
unfoldable pub pawn_with : (actor : ℕ) → (x hp : ℤ) → Seen
pawn_with a x hp = record {
  actor = a;
  class = pawn;
  owns = false;
  relevant = true;
  destroyed = false;
  dormant = false;
  flush = 0;
  values = pair 1 x ∷ pair 2 (pos 0) ∷ pair 3 (pos 0) ∷ pair 4 hp ∷ pair 6 (pos 0) ∷ pair 7 (pos 0) ∷ [];
}

-- `count` ticks with one sight
unfoldable pub ticks : (count : ℕ) → List Seen → List Event
ticks count sight = map (λ i. Tick sight) (range_with_len 0 count)

-- the value of a hexadecimal digit
unfoldable pub hex_digit : ℕ → ℕ
hex_digit c = if nat_le 97 c then c - 87 else c - 48

-- the bytes of hexadecimal text
unfoldable pub unhex : List ℕ → List ℕ
unhex (high ∷ low ∷ text) = (16 * hex_digit high + hex_digit low) ∷ unhex text
unhex (c ∷ []) = []
unhex [] = []
