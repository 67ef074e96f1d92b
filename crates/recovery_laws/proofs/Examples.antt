-- A Pawn that is settled for a player, and one that the player's client has a copy of: the laws aren't empty.
use Rattle.std.specs.Prelude.{◌≡◌, refl, List, [], ◌∷◌, ◌++◌, map, Bool, true, pos, negsuc}
use Rattle.protocol_model.specs.Numbers.{leading_groups}
use Rattle.protocol_model.specs.Bits.{int_width, digits, packed_in, bytes_in}
use Rattle.protocol_model.specs.BuiltIn.{built_in_table, pawn, flag, purse}
use Rattle.protocol_model.specs.declared.Version.TheVariants.{One}
use Rattle.protocol_model.specs.Side.{AtServer, AtClient}
use Rattle.protocol_model.specs.World.{Spawn, Dormant}
use Rattle.script_model.specs.Lines.{Line, Join, ApplyEdit, TickAll, TickClient, DeliverNew}
use Rattle.connection_model.specs.Settled.{is_settled}
use Rattle.connection_model.specs.State.{state_of, is_asleep}
use Rattle.replication_model.specs.Story.{Player, Story, story_of, past_at}

lines : List Line
lines = Join 1 8000 One ∷ ApplyEdit (Spawn 0 (pos 10) (negsuc 2)) ∷ TickAll ∷ DeliverNew AtClient 1 0 ∷ TickClient 1 ∷ DeliverNew AtServer 1 0 ∷ []

settled_in : Story → List Bool
settled_in story = map (λ (p : Player). is_settled built_in_table story.edits p.number (past_at built_in_table AtServer p) 2) story.players

-- after these lines the Pawn is settled
pawn_settles : settled_in (story_of built_in_table lines).0 ≡ true ∷ []
unfolding lines settled_in pawn flag purse digits packed_in bytes_in int_width leading_groups
pawn_settles = refl

-- and put to sleep after these
more_lines : List Line
more_lines = ApplyEdit (Dormant 2) ∷ TickAll ∷ DeliverNew AtClient 1 0 ∷ TickClient 1 ∷ DeliverNew AtServer 1 0 ∷ []

asleep_in : Story → List Bool
asleep_in story = map (λ (p : Player). is_asleep (state_of (past_at built_in_table AtServer p) 2)) story.players

pawn_sleeps : asleep_in (story_of built_in_table (lines ++ more_lines)).0 ≡ true ∷ []
unfolding lines more_lines asleep_in pawn flag purse digits packed_in bytes_in int_width leading_groups
pawn_sleeps = refl
