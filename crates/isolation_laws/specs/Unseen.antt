-- Lines of a script that a player doesn't see.
use Rattle.std.specs.Prelude.{ℕ, ◌+◌, ◌==◌, List, [], ◌∷◌, ◌++◌, length, take, reverse, Bool, true, false, not, ◌&&◌, ◌||◌, Option, Some, None, filter_map, option_map, unwrap_or}
use Rattle.std.specs.List.{list_all, range_with_len}
use Rattle.protocol_model.specs.Sight.{is_relevant}
use Rattle.protocol_model.specs.Value.{Table, Prop, prop_at}
use Rattle.protocol_model.specs.World.{Edits, Edit, Destroy, Set, class_of, is_custom, is_on, named_actor, owns}
use Rattle.protocol_model.specs.declared.Cond.{Cond}
use Rattle.protocol_model.specs.declared.Cond.TheVariants.{OwnerOnly}
use Rattle.script_model.specs.Lines.{Line, Join, ApplyEdit, TickAll, TickClient, Deliver, DeliverNew, CallTo, CallAll, Dump, AskSettled, Forge}

-- ---- the world along the lines

-- the edit that a line is
abbrev pub edit_in : Line → Option Edit
edit_in (ApplyEdit edit) = Some edit
edit_in line = None

-- the edits of these lines, the newest first
abbrev pub edits_of : List Line → Edits
edits_of lines = reverse (filter_map edit_in lines)

-- the test holds of the world after `before`, and after each line that follows
abbrev pub holds_along : (Edits → Bool) → (before after : List Line) → Bool
holds_along test before after =
    list_all (λ i. test (edits_of (before ++ take i after))) (range_with_len 0 (length after + 1))

-- the test holds from the line on, with the line and without it
abbrev pub holds_from : (Edits → Bool) → (before : List Line) → Line → (after : List Line) → Bool
holds_from test before line after =
    holds_along test before after && holds_along test (before ++ line ∷ []) after

-- the test holds after each prefix of the lines, with the line and without it
abbrev pub holds_always : (Edits → Bool) → (before : List Line) → Line → (after : List Line) → Bool
holds_always test before line after =
    holds_along test [] before && holds_from test before line after

-- ---- lines that the player doesn't see

-- the actor isn't relevant to the player
abbrev pub is_irrelevant : Table → (player actor : ℕ) → Edits → Bool
is_irrelevant table player a edits = not (is_relevant table edits player a)

-- the value goes to the actor's owner alone
abbrev pub is_owner_only : Cond → Bool
is_owner_only OwnerOnly = true
is_owner_only cond = false

-- the actor's class has the handle, and its condition passes the test
abbrev pub has_cond : (Cond → Bool) → Table → Edits → (actor handle : ℕ) → Bool
has_cond test table edits a h =
    unwrap_or (option_map (λ (p : Prop). test p.cond) (prop_at (class_of table edits a) h)) false

-- the edit sets a value for owners of an actor that the player doesn't own from then on, or a
-- custom value that stays switched off
abbrev pub hides_value : Table → (player : ℕ) → (before : List Line) → Edit
    → (after : List Line) → Bool
hides_value table player before (Set a h v) after =
    (has_cond is_owner_only table (edits_of before) a h
    && holds_from (λ edits. not (owns edits player a)) before (ApplyEdit (Set a h v)) after)
    || (has_cond is_custom table (edits_of before) a h
    && holds_from (λ edits. not (is_on edits a h)) before (ApplyEdit (Set a h v)) after)
hides_value table player before edit after = false

-- the edit is of an actor that isn't relevant to the player from then on; where it destroys the
-- actor, the actor is relevant after no prefix of the lines
abbrev pub is_out_of_sight : Table → (player : ℕ) → (before : List Line) → Edit
    → (after : List Line) → Bool
is_out_of_sight table player before (Destroy a) after =
    holds_always (is_irrelevant table player a) before (ApplyEdit (Destroy a)) after
is_out_of_sight table player before edit after = elim (named_actor edit) [
  | Some a ↦ holds_from (is_irrelevant table player a) before (ApplyEdit edit) after
  | None ↦ false
]

-- the player whose connection a line is about
abbrev pub player_in : Line → Option ℕ
player_in (Join player budget version) = Some player
player_in (TickClient player) = Some player
player_in (Deliver side player number) = Some player
player_in (DeliverNew side player every) = Some player
player_in (CallTo side player actor number args) = Some player
player_in (Dump player) = Some player
player_in (AskSettled player actor) = Some player
player_in (Forge side player bytes) = Some player
player_in (ApplyEdit edit) = None
player_in TickAll = None
player_in (CallAll actor number args) = None

-- the line is about another player's connection
abbrev pub is_of_other : (player : ℕ) → Line → Bool
is_of_other player line = unwrap_or (option_map (λ p. not (p == player)) (player_in line)) false

-- the line between `before` and `after` is one that the player doesn't see
abbrev pub is_unseen : Table → (player : ℕ) → (before : List Line) → Line
    → (after : List Line) → Bool
is_unseen table player before (ApplyEdit edit) after =
    hides_value table player before edit after || is_out_of_sight table player before edit after
is_unseen table player before line after = is_of_other player line
