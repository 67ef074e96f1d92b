-- The class table that a replay has where no file is named.
use Rattle.std.specs.Prelude.{[], ◌∷◌, true, false, pos, codes}
use Rattle.protocol_model.specs.declared.Cond.TheVariants.{InitialOnly, OwnerOnly, SkipOwner}
use Rattle.protocol_model.specs.declared.Cond.TheVariants as Cond
use Rattle.protocol_model.specs.declared.Reach.TheVariants as Reach
use Rattle.protocol_model.specs.declared.Way.TheVariants.{Server, Client, Multicast}
use Rattle.protocol_model.specs.declared.Kind.TheVariants.{U8, I32, U32, I64, Enum, Packed, Guid, Bytes}
use Rattle.protocol_model.specs.Value.{Segment, Class, Table}

-- the outermost segment of each path
abbrev pub game : Segment
game = record { guid = 3; outer = 0; name = codes "Game" }

-- a player's figure, relevant to viewers nearby
unfoldable pub pawn : Class
pawn =
    record {
      name = codes "Pawn";
      path = game ∷ record { guid = 5; outer = 3; name = codes "Pawn" } ∷ [];
      reach = Reach.Near 1000;
      priority = 3;
      props = record { name = codes "hp"; kind = U8; cond = Cond.Always; init = (pos 100) }
          ∷ record { name = codes "ammo"; kind = U32; cond = OwnerOnly; init = (pos 0) }
          ∷ record { name = codes "team"; kind = (Enum 4); cond = InitialOnly; init = (pos 0) }
          ∷ record { name = codes "aim"; kind = I32; cond = SkipOwner; init = (pos 0) }
          ∷ [];
      calls = record { name = codes "fire"; way = Server; reliable = true; args = I32 ∷ [] }
          ∷ record { name = codes "hurt"; way = Client; reliable = true; args = U8 ∷ [] }
          ∷ record { name = codes "boom"; way = Multicast; reliable = false; args = Packed ∷ [] }
          ∷ record { name = codes "blob"; way = Server; reliable = true; args = (Bytes 2048) ∷ [] }
          ∷ [];
    }

-- a mark that everyone sees
unfoldable pub flag : Class
flag =
    record {
      name = codes "Flag";
      path = game ∷ record { guid = 7; outer = 3; name = codes "Flag" } ∷ [];
      reach = Reach.Always;
      priority = 1;
      props = record { name = codes "holder"; kind = Guid; cond = Cond.Always; init = (pos 0) }
          ∷ record { name = codes "score"; kind = Packed; cond = Cond.Always; init = (pos 0) }
          ∷ [];
      calls = [];
    }

-- what its owner alone sees
unfoldable pub purse : Class
purse =
    record {
      name = codes "Purse";
      path = game ∷ record { guid = 9; outer = 3; name = codes "Purse" } ∷ [];
      reach = Reach.Owner;
      priority = 1;
      props = record { name = codes "gold"; kind = I64; cond = Cond.Always; init = (pos 0) }
          ∷ [];
      calls = [];
    }

-- the built-in table
abbrev pub built_in_table : Table
built_in_table = pawn ∷ flag ∷ purse ∷ []
