-- How the grid goes along with a change of one actor, and what it gives.
use Rattle.std.proofs.Common.{◌≡◌, ℕ, ◌+◌, ◌-◌, ◌<◌, ◌≤◌, nat_eq, ◌&&◌, not, Bool, List, Option, Some, None, true, false, arith, ◌∙◌, ap, refl, sym, if◌then◌else◌}
use Rattle.std.specs.Prelude.{is_some, option_map}
use Rattle.std.specs.Map.{lookup}
use Rattle.std.proofs.lemmas.Bool.Decides.{nat_tests}
use Rattle.protocol_model.specs.declared.Reach.{Reach}
use Rattle.protocol_model.specs.declared.Reach.TheVariants.{Always, Near, Owner}
use Rattle.graph_model.specs.Nodes.{Spot, Viewer, GridNode, is_near, admits_by_reach}
use Rattle.graph_nodes.specs.declared.cells.Square.{Square}
use Rattle.graph_nodes.specs.Held.{Spots, takes, with_spot, without_pair}
use Rattle.graph_nodes.specs.Gathers.{Gathers}
use Rattle.actor_lists.specs.Shared.{count_of, list_at}
use Rattle.graph_nodes.specs.Grid.{Cell, Floor, Kept, Squares, Keeps, Stands, is_cell, is_covered, covers, square_of, square_in, cull_of, squares_of, with_square, without_square, cell_in, given_by}

and_true : (b : Bool) → (b && true) ≡ b
and_true true = refl
and_true false = refl

and_false : (b : Bool) → (b && false) ≡ false
and_false true = refl
and_false false = refl

-- nothing is passed over for a square without cells
pub but_none : (here covered : Bool) → covered ≡ false → (here && not covered) ≡ here
but_none here covered none = rw none (and_true here)

placed_at : (t : Bool) (sq : Square) (o : Option Square) (c : Cell) (old new : ℕ) → (t ≡ true → o ≡ None)
    → new ≡ (if covers sq c && t then 1 else 0) + old
    → old ≡ (if is_covered o c then 1 else 0)
    → new ≡ (if is_covered (if t then Some sq else o) c then 1 else 0)
placed_at true sq o c old new none n k =
    let z : old ≡ 0 = rw (none refl) at k in
    let m = rw (and_true (covers sq c), z) at n in
    omega arith
placed_at false sq o c old new none n k =
    let m = rw (and_false (covers sq c)) at n in
    omega arith

covered_with : (squares : Squares) (actor : ℕ) (sq : Square) (a : ℕ) (c : Cell) (old new : ℕ) → squares actor ≡ None
    → new ≡ (if covers sq c && nat_eq actor a then 1 else 0) + old
    → old ≡ (if is_covered (squares a) c then 1 else 0)
    → new ≡ (if is_covered (with_square squares actor sq a) c then 1 else 0)
covered_with squares actor sq a c old new none n o =
    placed_at (nat_eq actor a) sq (squares a) c old new (λ t. let e : actor ≡ a = grind (arith, nat_tests) in
    rw e at none) n o

pub entered : (old new : Floor) (squares : Squares) (actor : ℕ) (sq : Square)
    → ((a : ℕ) → lookup (nat_eq a) new.squares ≡ (if nat_eq actor a then Some sq else lookup (nat_eq a) old.squares))
    → ((a : ℕ) (c : Cell) → count_of a (list_at is_cell new.cells c)
    ≡ (if covers sq c && nat_eq actor a then 1 else 0) + count_of a (list_at is_cell old.cells c))
    → Keeps old squares → squares actor ≡ None → Keeps new (with_square squares actor sq)
entered old new squares actor sq map lists keeps none = record {
  each = λ a. map a ∙ ap (λ (o : Option Square). if nat_eq actor a then Some sq else o) (keeps.each a);
  actors = λ a c. covered_with squares actor sq a c _ _ none (lists a c) (keeps.actors a c);
}

covered_without : (squares : Squares) (actor : ℕ) (sq : Square) (a : ℕ) (c : Cell) (old new : ℕ)
    → Some sq ≡ squares actor
    → new ≡ old - (if covers sq c && nat_eq actor a then 1 else 0)
    → old ≡ (if is_covered (squares a) c then 1 else 0)
    → new ≡ (if is_covered (without_square squares actor a) c then 1 else 0)
covered_without squares actor sq a c old new was n o = grind (arith, nat_tests)

pub left : (old new : Floor) (squares : Squares) (actor : ℕ) (sq : Square)
    → ((a : ℕ) → lookup (nat_eq a) new.squares ≡ (if nat_eq actor a then None else lookup (nat_eq a) old.squares))
    → ((a : ℕ) (c : Cell) → count_of a (list_at is_cell new.cells c)
    ≡ count_of a (list_at is_cell old.cells c) - (if covers sq c && nat_eq actor a then 1 else 0))
    → Some sq ≡ lookup (nat_eq actor) old.squares
    → Keeps old squares → Keeps new (without_square squares actor)
left old new squares actor sq map lists was keeps = record {
  each = λ a. map a ∙ ap (λ (o : Option Square). if nat_eq actor a then None else o) (keeps.each a);
  actors = λ a c. covered_without squares actor sq a c _ _ (was ∙ keeps.each actor) (lists a c) (keeps.actors a c);
}

by_tests : (to from here before : Bool) (first mid last : ℕ) → mid ≡ first - (if (from && not to) && here then 1 else 0)
    → last ≡ (if (to && not from) && here then 1 else 0) + mid
    → first ≡ (if before then 1 else 0) → (here ≡ true → before ≡ from)
    → last ≡ (if (if here then to else before) then 1 else 0)
by_tests true true true before first mid last m l f was = let e = rw (was refl) at f in omega arith
by_tests true false true before first mid last m l f was = let e = rw (was refl) at f in omega arith
by_tests false true true before first mid last m l f was = let e = rw (was refl) at f in omega arith
by_tests false false true before first mid last m l f was = let e = rw (was refl) at f in omega arith
by_tests true true false before first mid last m l f was = omega arith
by_tests true false false before first mid last m l f was = omega arith
by_tests false true false before first mid last m l f was = omega arith
by_tests false false false before first mid last m l f was = omega arith

covered_if : (here : Bool) (s : Square) (o : Option Square) (c : Cell)
    → (if here then covers s c else is_covered o c) ≡ is_covered (if here then Some s else o) c
covered_if true s o c = refl
covered_if false s o c = refl

moved_square : (to from : Square) (squares : Squares) (actor a : ℕ) (c : Cell) (first mid last : ℕ)
    → Some from ≡ squares actor
    → mid ≡ first - (if (covers from c && not (covers to c)) && nat_eq actor a then 1 else 0)
    → last ≡ (if (covers to c && not (covers from c)) && nat_eq actor a then 1 else 0) + mid
    → first ≡ (if is_covered (squares a) c then 1 else 0)
    → last ≡ (if is_covered (with_square squares actor to a) c then 1 else 0)
moved_square to from squares actor a c first mid last was m l f =
    rw (← covered_if (nat_eq actor a) to (squares a) c)
    (by_tests (covers to c) (covers from c) (nat_eq actor a) (is_covered (squares a) c) first mid last m l f
    (λ h. let e : actor ≡ a = grind (arith, nat_tests) in rw (← e, ← was) refl))

-- an actor that has a square goes over to another
pub changed : (old new : Floor) (mid : List (Cell × List ℕ)) (squares : Squares) (actor : ℕ) (from to : Square)
    → ((a : ℕ) → lookup (nat_eq a) new.squares ≡ (if nat_eq actor a then Some to else lookup (nat_eq a) old.squares))
    → ((a : ℕ) (c : Cell) → count_of a (list_at is_cell mid c)
    ≡ count_of a (list_at is_cell old.cells c) -
    (if (covers from c && not (covers to c)) && nat_eq actor a then 1 else 0))
    → ((a : ℕ) (c : Cell) → count_of a (list_at is_cell new.cells c)
    ≡ (if (covers to c && not (covers from c)) && nat_eq actor a then 1 else 0) + count_of a (list_at is_cell mid c))
    → Some from ≡ lookup (nat_eq actor) old.squares
    → Keeps old squares → Keeps new (with_square squares actor to)
changed old new mid squares actor from to map out_of in_to was keeps = record {
  each = λ a. map a ∙ ap (λ (o : Option Square). if nat_eq actor a then Some to else o) (keeps.each a);
  actors = λ a c. moved_square to from squares actor a c _ _ _ (was ∙ keeps.each actor) (out_of a c) (in_to a c)
      (keeps.actors a c);
}

-- the same squares
pub same : (floor : Floor) (f g : Squares) → ((a : ℕ) → g a ≡ f a) → Keeps floor f → Keeps floor g
same floor f g agree keeps = record {
  each = λ a. keeps.each a ∙ sym (agree a);
  actors = λ a c. rw agree (keeps.actors a c);
}

-- an actor that has no square, or that square, in its place
pub nothing_left : (floor : Floor) (squares : Squares) (actor : ℕ) → lookup (nat_eq actor) floor.squares ≡ None
    → Keeps floor squares → Keeps floor (without_square squares actor)
nothing_left floor squares actor none keeps =
    same floor squares _ (λ a. let k = keeps.each actor in let h : squares actor ≡ None = sym k ∙ none in
    grind (arith, nat_tests)) keeps

pub unchanged : (floor : Floor) (squares : Squares) (actor : ℕ) (sq : Square)
    → lookup (nat_eq actor) floor.squares ≡ Some sq
    → Keeps floor squares → Keeps floor (with_square squares actor sq)
unchanged floor squares actor sq is keeps =
    same floor squares _ (λ a. let k = keeps.each actor in let h : squares actor ≡ Some sq = sym k ∙ is in
    grind (arith, nat_tests)) keeps

mapped_placed : (f : Spot → Square) (spots : Spots) (s : Spot) → s.player ≡ 0 → (a : ℕ)
    → option_map f (with_spot spots s a 0) ≡ (if nat_eq s.actor a then Some (f s) else option_map f (spots a 0))
mapped_placed f spots s none a = grind (arith, nat_tests)

mapped_removed : (f : Spot → Square) (spots : Spots) (actor a : ℕ)
    → option_map f (without_pair spots actor 0 a 0) ≡ (if nat_eq actor a then None else option_map f (spots a 0))
mapped_removed f spots actor a = grind (arith, nat_tests)

-- a spot that the grid takes
no_player : (s : Spot) → takes GridNode s ≡ true → s.player ≡ 0
no_player s h = grind (arith, nat_tests)

taken_near : (s : Spot) → takes GridNode s ≡ true → is_near s.reach ≡ true
taken_near s h = grind (arith, nat_tests)

pub stands_with : (new : Kept) (spots : Spots) (s : Spot) (old : Kept) → takes GridNode s ≡ true
    → Keeps new.floor (with_square (squares_of spots) s.actor (square_in s))
    → Stands old spots → Stands new (with_spot spots s)
stands_with new spots s old taken keeps stands =
    let none = no_player s taken in
    let near = taken_near s taken in
    record {
      keeps = same _ _ _ (mapped_placed square_in spots s none) keeps;
      players = λ a p h. let o = stands.players a p h in grind (arith, nat_tests);
      near = λ a p t h. let o = stands.near a p t in grind (arith, nat_tests);
    }

pub out : (spots : Spots) (s : Spot) → takes GridNode s ≡ true → spots s.actor s.player ≡ None
    → squares_of spots s.actor ≡ None
out spots s taken free =
    ap (λ (o : Option Spot). option_map square_in o) (rw (no_player s taken) at free)

pub stands_without : (new : Kept) (spots : Spots) (actor player : ℕ) (old : Kept)
    → Keeps new.floor (without_square (squares_of spots) actor)
    → Stands old spots → player ≡ 0 → Stands new (without_pair spots actor player)
stands_without new spots actor player old keeps stands none =
    rw none (record {
      keeps = same _ _ _ (mapped_removed square_in spots actor) keeps;
      players = λ a p h. let o = stands.players a p h in grind (arith, nat_tests);
      near = λ a p t h. let o = stands.near a p t in grind (arith, nat_tests);
    })

pub some_mapped : {A B : Type 0} (f : A → B) (o : Option A) → is_some (option_map f o) ≡ is_some o
some_mapped f None = refl
some_mapped f (Some s) = refl

-- the grid admits the spot, if there is one
abbrev pub given_at : Option Spot → Viewer → Bool
given_at None v = false
given_at (Some s) v = admits_by_reach s.reach s v

near_is : (r : Reach) (s : Spot) (v : Viewer) → is_near r ≡ true
    → covers (square_of s.x s.y (cull_of r)) (cell_in v) ≡ admits_by_reach r s v
near_is (Near cull) s v h = refl
near_is Always s v h = absurd (cc)
near_is Owner s v h = absurd (cc)

covered_is : (o : Option Spot) (v : Viewer) → ((s : Spot) → o ≡ Some s → is_near s.reach ≡ true)
    → is_covered (option_map square_in o) (cell_in v) ≡ given_at o v
covered_is None v near = refl
covered_is (Some s) v near = near_is s.reach s v (near s refl)

pub given_spot : (o : Option Spot) (v : Viewer) → given_at o v ≡ true
    → (s : Spot) × (o ≡ Some s) × (admits_by_reach s.reach s v ≡ true)
given_spot None v h = absurd (cc)
given_spot (Some s) v h = (s, refl, h)

pub at_most_one : (n : ℕ) (b : Bool) → n ≡ (if b then 1 else 0) → n ≤ 1
at_most_one n true e = omega arith
at_most_one n false e = omega arith

pub is_true : (n : ℕ) (b : Bool) → n ≡ (if b then 1 else 0) → 0 < n → b ≡ true
is_true n true e some = refl
is_true n false e some = absurd (omega arith)

-- how often the grid gives an actor
pub count_given : (node : Kept) (spots : Spots) (v : Viewer) → Stands node spots → (a : ℕ)
    → count_of a (given_by node v) ≡ (if given_at (spots a 0) v then 1 else 0)
count_given node spots v stands a =
    rw (covered_is (spots a 0) v (stands.near a 0)) at (stands.keeps.actors a (cell_in v))

pub gathers : (node : Kept) (spots : Spots) (v : Viewer) → Stands node spots
    → Gathers GridNode spots v (given_by node v)
gathers node spots v stands =
    let each : (a : ℕ) → count_of a (given_by node v) ≡ (if given_at (spots a 0) v then 1 else 0) =
    count_given node spots v stands in
    record {
      once = λ a. at_most_one _ _ (each a);
      all = λ a p s is yes.
          let none : p ≡ 0 = let o = stands.players a p in grind (arith, nat_tests) in
          let at : spots a 0 ≡ Some s = rw none at is in
          let h : given_at (spots a 0) v ≡ true = rw at yes in
          rw h at (each a);
      only = λ a some.
          let h : given_at (spots a 0) v ≡ true = is_true _ _ (each a) some in
          let g = given_spot (spots a 0) v h in
          (0, g.0, g.1, g.2);
    }
