-- Lines on the built-in table that may follow, and lines that may not.
use Rattle.std.proofs.Common.{◌≡◌, List, [], ◌∷◌, true, false, pos, refl, codes}
use Rattle.protocol_model.specs.BuiltIn.{built_in_table, pawn, flag, purse}
use Rattle.protocol_model.specs.Side.{AtServer}
use Rattle.protocol_model.specs.Value.{Scalar}
use Rattle.protocol_model.specs.World.{Spawn}
use Rattle.protocol_model.specs.declared.LineWhy.TheVariants.{NoPlayer}
use Rattle.protocol_model.specs.declared.Version.TheVariants.{One}
use Rattle.script_model.specs.Lines.{Line, Text, Join, ApplyEdit, TickAll, TickClient, CallTo}
use Rattle.script_model.specs.ScriptRules.{Reads, BadLine}
use Rattle.replication_model.specs.Story.{first_story, story_of}
use Rattle.following_laws.specs.Following.{Follows, FollowAll}
use Rattle.following_laws.proofs.ReadFollowing.{read_following}

-- ---- a script that is read

-- a player joins, a Pawn is spawned and hurt
script : Text
script = codes "join 1 8000\nspawn Pawn 0 0\ntick\ncall 1 1 hurt 5\nctick 1\n"

script_lines : List Line
script_lines =
    Join 1 8000 One ∷ ApplyEdit (Spawn 0 (pos 0) (pos 0)) ∷ TickAll ∷ CallTo AtServer 1 2 2 (Scalar (pos 5) ∷ [])
    ∷ TickClient 1 ∷ []

is_read : Reads built_in_table false script script_lines
unfolding script script_lines pawn flag purse
is_read = refl

-- so the law speaks of something
all_follow : FollowAll built_in_table first_story script_lines
all_follow = read_following built_in_table script script_lines is_read

-- ---- a line that may not follow

-- the same without its first line: nobody is there to be called
bad_script : Text
bad_script = codes "spawn Pawn 0 0\ntick\ncall 1 1 hurt 5\n"

is_refused : BadLine built_in_table false bad_script 3 NoPlayer
unfolding bad_script pawn flag purse
is_refused = refl

-- and the line may not follow
spawned : List Line
spawned = ApplyEdit (Spawn 0 (pos 0) (pos 0)) ∷ TickAll ∷ []

nobody_is_called : Follows built_in_table (story_of built_in_table spawned).0
    (CallTo AtServer 1 2 2 (Scalar (pos 5) ∷ [])) → ⊥
unfolding spawned
nobody_is_called h = let clash : false ≡ true = h.0 in absurd (cc)

-- to a player who is there the server may not make the first call of a Pawn, which goes up
joined : List Line
joined = Join 1 8000 One ∷ ApplyEdit (Spawn 0 (pos 0) (pos 0)) ∷ []

fire_goes_up : Follows built_in_table (story_of built_in_table joined).0
    (CallTo AtServer 1 2 1 (Scalar (pos 5) ∷ [])) → ⊥
unfolding joined pawn flag purse
fire_goes_up h = absurd (cc)
