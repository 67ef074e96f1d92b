-- The graph misses nobody: each relevant actor is listed.
use Rattle.std.specs.Prelude.{◌≡◌, refl, ℕ, Bool, true, false, ◌&&◌, ◌||◌}
use Rattle.protocol_model.specs.declared.Reach.{Reach}
use Rattle.protocol_model.specs.declared.Reach.TheVariants.{Always, Near, Owner}
use Rattle.protocol_model.specs.Sight.{is_relevant, reaches, are_teamed}
use Rattle.protocol_model.specs.Value.{Table}
use Rattle.protocol_model.specs.World.{Edits, class_of, lives, owns, is_added, value_of, viewer_of}
use Rattle.graph_model.specs.Listed.{is_listed, listed_as, touches_viewer}
use Rattle.graph_model.proofs.Distances.{distance_touches}

-- the last of four cases may be widened
four : (o x t d s : Bool) → (d ≡ true → s ≡ true) → (o || x || t || d) ≡ true → (o || x || t || s) ≡ true
four true x t d s h k = refl
four false true t d s h k = refl
four false false true d s h k = refl
four false false false d s h k = h k

-- who is reached is listed, by the class's reach
reached : (table : Table) (edits : Edits) (player a : ℕ) (r : Reach) → reaches r table edits player a ≡ true
    → listed_as r table edits player a ≡ true
reached table edits player a Owner h = h
reached table edits player a Always h = refl
reached table edits player a (Near cull) h =
    four (owns edits player a) (is_added edits a player) (are_teamed edits player a) _
    (touches_viewer cull table edits player a)
    (distance_touches (value_of table edits a 1) (viewer_of edits player).0 (value_of table edits a 2)
    (viewer_of edits player).1 cull) h

and_more : (b c d : Bool) → (c ≡ true → d ≡ true) → (b && c) ≡ true → (b && d) ≡ true
and_more true c d h k = h k
and_more false c d h k = absurd (cc)

pub relevant_is_listed : (table : Table) (edits : Edits) (player a : ℕ) → is_relevant table edits player a ≡ true
    → is_listed table edits player a ≡ true
relevant_is_listed table edits player a h =
    and_more (lives edits a) _ _ (reached table edits player a (class_of table edits a).reach) h
