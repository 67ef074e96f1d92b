-- Worked worlds that the checker computes.
use Rattle.std.specs.Prelude.{◌≡◌, refl, [], ◌∷◌, true, false, pos}
use Rattle.protocol_model.specs.BuiltIn.{built_in_table, pawn, flag, purse}
use Rattle.protocol_model.specs.World.{Edits, Spawn, View, Dormant, Give, Team}
use Rattle.protocol_model.specs.Sight.{is_relevant}
use Rattle.graph_model.specs.Nodes.{GridNode, DormantNode, TeamNode, is_held_in, admits, spot_of, viewer_at}
use Rattle.graph_model.specs.Listed.{is_listed, listed_count}

-- a pawn, whose cull distance is 1,000, and a viewer across the border of two cells
border : Edits
border = View 1 (pos 9999) (pos 0) ∷ Spawn 0 (pos 10000) (pos 0) ∷ []

border_listed : is_listed built_in_table border 1 2 ≡ true
unfolding border pawn flag purse
border_listed = refl

-- a pawn that is listed, since its square touches the viewer's cell, and too far to be relevant
coarse : Edits
coarse = View 1 (pos 0) (pos 0) ∷ Spawn 0 (pos 9000) (pos 0) ∷ []

coarse_listed : is_listed built_in_table coarse 1 2 ≡ true
unfolding coarse pawn flag purse
coarse_listed = refl

coarse_irrelevant : is_relevant built_in_table coarse 1 2 ≡ false
unfolding coarse pawn flag purse
coarse_irrelevant = refl

-- of a far pawn, an owner's purse and a flag only the flag is listed
three_classes : Edits
three_classes = Spawn 2 (pos 0) (pos 0) ∷ Spawn 1 (pos 0) (pos 0) ∷ Spawn 0 (pos 50000) (pos 0) ∷ []

one_listed : listed_count built_in_table three_classes 1 ≡ 1
unfolding three_classes pawn flag purse
one_listed = refl

-- a dormant pawn leaves the grid for the dormant node
asleep : Edits
asleep = Dormant 2 ∷ Spawn 0 (pos 0) (pos 0) ∷ []

not_in_grid : is_held_in GridNode built_in_table asleep 2 0 ≡ false
unfolding asleep pawn flag purse
not_in_grid = refl

in_dormant : is_held_in DormantNode built_in_table asleep 2 0 ≡ true
unfolding asleep pawn flag purse
in_dormant = refl

-- a team's actor is given to its players, and none is given to those without a team
teamed : Edits
teamed = Team 1 3 ∷ Give 2 3 ∷ Spawn 0 (pos 50000) (pos 0) ∷ []

given_to_team : admits TeamNode (spot_of built_in_table teamed 2 0) (viewer_at teamed 1) ≡ true
unfolding teamed pawn flag purse
given_to_team = refl

not_without_team : admits TeamNode (spot_of built_in_table coarse 2 0) (viewer_at coarse 1) ≡ false
unfolding coarse pawn flag purse
not_without_team = refl
