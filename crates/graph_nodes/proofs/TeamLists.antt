-- How the lists of teams go along with a change of one actor.
use Rattle.std.proofs.Common.{◌≡◌, ℕ, ◌+◌, ◌-◌, ◌==◌, nat_eq, ◌&&◌, Option, Some, None, true, arith, ◌∙◌, ap, sym, if◌then◌else◌}
use Rattle.std.specs.Prelude.{option_map}
use Rattle.std.specs.Map.{lookup}
use Rattle.std.proofs.lemmas.Bool.Decides.{nat_tests}
use Rattle.graph_model.specs.Nodes.{Spot, TeamNode}
use Rattle.graph_nodes.specs.Held.{Spots, CanPlace, CanMove, takes, with_spot, without_pair}
use Rattle.actor_lists.specs.Shared.{count_of, list_at}
use Rattle.graph_nodes.specs.Teams.{Members, Kept, Teams, Keeps, Stands, with_team, without_actor, teams_of}

pub entered : (old new : Members) (teams : Teams) (actor team : ℕ)
    → ((a : ℕ) → lookup (nat_eq a) new.teams ≡ (if nat_eq actor a then Some team else lookup (nat_eq a) old.teams))
    → ((t a : ℕ) → count_of a (list_at nat_eq new.lists t)
    ≡ (if nat_eq team t && actor == a then 1 else 0) + count_of a (list_at nat_eq old.lists t))
    → Keeps old teams → teams actor ≡ None → Keeps new (with_team teams actor team)
entered old new teams actor team map lists keeps none = record {
  each = λ a. let m = map a in let k = keeps.each a in grind (arith, nat_tests);
  actors = λ a t. let l = lists t a in let k = keeps.actors a t in grind (arith, nat_tests);
}

pub left : (old new : Members) (teams : Teams) (actor team : ℕ)
    → ((a : ℕ) → lookup (nat_eq a) new.teams ≡ (if nat_eq actor a then None else lookup (nat_eq a) old.teams))
    → ((t a : ℕ) → count_of a (list_at nat_eq new.lists t)
    ≡ count_of a (list_at nat_eq old.lists t) - (if nat_eq team t && actor == a then 1 else 0))
    → Some team ≡ lookup (nat_eq actor) old.teams
    → Keeps old teams → Keeps new (without_actor teams actor)
left old new teams actor team map lists was keeps = record {
  each = λ a. let m = map a in let k = keeps.each a in grind (arith, nat_tests);
  actors = λ a t. let l = lists t a in let k = keeps.actors a t in let h : Some team ≡ teams actor =
      was ∙ keeps.each actor in grind (arith, nat_tests);
}

-- the same teams
pub same : (members : Members) (f g : Teams) → ((a : ℕ) → g a ≡ f a) → Keeps members f → Keeps members g
same members f g agree keeps = record {
  each = λ a. keeps.each a ∙ sym (agree a);
  actors = λ a t. rw agree (keeps.actors a t);
}

pub teams_placed : (spots : Spots) (s : Spot) → s.player ≡ 0 → (a : ℕ)
    → teams_of (with_spot spots s) a ≡ with_team (teams_of spots) s.actor s.team a
teams_placed spots s none a = grind (arith, nat_tests)

pub teams_removed : (spots : Spots) (actor a : ℕ)
    → teams_of (without_pair spots actor 0) a ≡ without_actor (teams_of spots) actor a
teams_removed spots actor a = grind (arith, nat_tests)

-- a spot that the node takes has no player
pub no_player : (s : Spot) → takes TeamNode s ≡ true → s.player ≡ 0
no_player s h = grind (arith, nat_tests)

pub stands_placed : (old new : Kept) (spots : Spots) (s : Spot)
    → ((teams : Teams) → Keeps old.members teams → teams s.actor ≡ None
    → Keeps new.members (with_team teams s.actor s.team))
    → Stands old spots → CanPlace TeamNode spots s → Stands new (with_spot spots s)
stands_placed old new spots s step stands can =
    let none = no_player s can.taken in
    let free : spots s.actor 0 ≡ None = rw none at can.free in
    let out : teams_of spots s.actor ≡ None = ap (λ (o : Option Spot). option_map (λ (t : Spot). t.team) o) free in
    record {
      keeps = same _ _ _ (teams_placed spots s none) (step (teams_of spots) stands.keeps out);
      players = λ a p h. let o = stands.players a p h in grind (arith, nat_tests);
    }

pub stands_moved : (old new : Kept) (spots : Spots) (s : Spot)
    → ((teams : Teams) → Keeps old.members teams → Keeps new.members (with_team teams s.actor s.team))
    → Stands old spots → CanMove TeamNode spots s → Stands new (with_spot spots s)
stands_moved old new spots s step stands can =
    let none = no_player s can.taken in
    record {
      keeps = same _ _ _ (teams_placed spots s none) (step (teams_of spots) stands.keeps);
      players = λ a p h. let o = stands.players a p h in grind (arith, nat_tests);
    }

pub stands_removed : (old new : Kept) (spots : Spots) (actor player : ℕ)
    → ((teams : Teams) → Keeps old.members teams → Keeps new.members (without_actor teams actor))
    → Stands old spots → player ≡ 0 → Stands new (without_pair spots actor player)
stands_removed old new spots actor player step stands none =
    rw none (record {
      keeps = same _ _ _ (teams_removed spots actor) (step (teams_of spots) stands.keeps);
      players = λ a p h. let o = stands.players a p h in grind (arith, nat_tests);
    })
