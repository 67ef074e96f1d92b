-- What a book keeps of the packets of a connection.
use Rattle.std.specs.Prelude.{ℕ, ◌/◌, List, Bool}
use Rattle.protocol_model.specs.Limits.{packet_modulus}
use Rattle.protocol_model.specs.declared.Version.{Version}

-- how many packets, counted back from the last one sent, have a fate that can be asked for: a
-- number that travels tells apart as many below another one
abbrev pub fates_kept : ℕ
fates_kept = packet_modulus / 2

-- the memory that a book holds: how many items each of its blocks has room for
pub record Room : Type 0 where
  pub owed : ℕ
  pub arrived : ℕ
  pub told : ℕ

-- the last packet sent, the greatest moved number, the greatest number taken, the one told in the
-- greatest arrived packet, the numbers owed, the words of history, which of the last packets
-- arrived, the greatest number taken that each unresolved packet told, and the memory held; which
-- arrived and what was told are rings
pub record Book : Type 0 where
  pub version : Version
  pub last_sent : ℕ
  pub high : ℕ
  pub top : ℕ
  pub base : ℕ
  pub owed : List ℕ
  pub history : List ℕ
  pub arrived : List Bool
  pub told : List ℕ
  pub room : Room
