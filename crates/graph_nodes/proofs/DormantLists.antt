-- How the two halves of the dormant node go along with a change of one spot, and what they give.
use Rattle.std.proofs.Common.{◌≡◌, rules, ℕ, ◌+◌, ◌==◌, ◌&&◌, Bool, Option, Some, None, true, false, arith, refl, sym, subst, if◌then◌else◌}
use Rattle.std.proofs.Math.Path.{fun_ext}
use Rattle.std.specs.Prelude.{is_some, IsSome, OnOk, Result, Ok, Err}
use Rattle.std.proofs.lemmas.Bool.Decides.{nat_tests}
use Rattle.protocol_model.specs.declared.Reach.{Reach}
use Rattle.protocol_model.specs.declared.Reach.TheVariants.{Always, Near, Owner}
use Rattle.protocol_model.specs.Value.{is_always, is_owner_only}
use Rattle.graph_model.specs.Nodes.{Spot, Viewer, GridNode, AlwaysNode, DormantNode, is_near, admits_by_reach}
use Rattle.graph_nodes.specs.Held.{Spots, CanPlace, CanMove, takes, with_spot, without_pair}
use Rattle.graph_nodes.specs.Gathers.{Gathers}
use Rattle.actor_lists.specs.Shared.{count_of}
use Rattle.graph_nodes.specs.Always as always
use Rattle.graph_nodes.specs.Grid as grid
use Rattle.graph_nodes.specs.Dormant.{Halves, Kept, Keeps, Stands, kept_if, near_of, always_of, given_by}
use Rattle.actor_lists.proofs.Counts.{count_of-append}
use Rattle.graph_nodes.proofs.GridLists.{given_at, given_spot, at_most_one, is_true, count_given}

abbrev pub part : (Spot → Bool) → Spots → Spots
part test spots a p = kept_if test (spots a p)

kept_put : (test : Spot → Bool) (b : Bool) (s : Spot) (o : Option Spot) → test s ≡ true
    → kept_if test (if b then Some s else o) ≡ (if b then Some s else kept_if test o)
kept_put test true s o h = rw h refl
kept_put test false s o h = refl

kept_out : (test : Spot → Bool) (b : Bool) (s : Spot) (o : Option Spot) → test s ≡ false
    → (b ≡ true → kept_if test o ≡ None) → kept_if test (if b then Some s else o) ≡ kept_if test o
kept_out test true s o h none = rw h (sym (none refl))
kept_out test false s o h none = refl

kept_gone : (test : Spot → Bool) (b : Bool) (o : Option Spot)
    → kept_if test (if b then None else o) ≡ (if b then None else kept_if test o)
kept_gone test true o = refl
kept_gone test false o = refl

kept_apart : (test : Spot → Bool) (b : Bool) (o : Option Spot) → (b ≡ true → kept_if test o ≡ None)
    → kept_if test (if b then None else o) ≡ kept_if test o
kept_apart test true o none = sym (none refl)
kept_apart test false o none = refl

at_pair : (spots : Spots) (test : Spot → Bool) (actor player a p : ℕ) → kept_if test (spots actor player) ≡ None
    → (a == actor && p == player) ≡ true → kept_if test (spots a p) ≡ None
at_pair spots test actor player a p none h =
    let e : a ≡ actor = grind (arith, nat_tests) in
    let f : p ≡ player = grind (arith, nat_tests) in
    rw (e, f) none

pub placed_in : (test : Spot → Bool) (spots : Spots) (s : Spot) → test s ≡ true
    → part test (with_spot spots s) ≡ with_spot (part test spots) s
placed_in test spots s h =
    fun_ext (λ (a : ℕ). fun_ext (λ (p : ℕ). kept_put test (a == s.actor && p == s.player) s (spots a p) h))

pub placed_out : (test : Spot → Bool) (spots : Spots) (s : Spot) → test s ≡ false
    → kept_if test (spots s.actor s.player) ≡ None
    → part test (with_spot spots s) ≡ part test spots
placed_out test spots s h none = fun_ext (λ (a : ℕ). fun_ext (λ (p : ℕ).
    kept_out test (a == s.actor && p == s.player) s (spots a p) h (at_pair spots test s.actor s.player a p none)))

pub removed_in : (test : Spot → Bool) (spots : Spots) (actor player : ℕ)
    → part test (without_pair spots actor player) ≡ without_pair (part test spots) actor player
removed_in test spots actor player =
    fun_ext (λ (a : ℕ). fun_ext (λ (p : ℕ). kept_gone test (a == actor && p == player) (spots a p)))

pub removed_out : (test : Spot → Bool) (spots : Spots) (actor player : ℕ) → kept_if test (spots actor player) ≡ None
    → part test (without_pair spots actor player) ≡ part test spots
removed_out test spots actor player none = fun_ext (λ (a : ℕ). fun_ext (λ (p : ℕ).
    kept_apart test (a == actor && p == player) (spots a p) (at_pair spots test actor player a p none)))

-- a reach is one of three
near_or : (r : Reach) → is_near r ≡ true → is_always r ≡ false
near_or (Near cull) h = refl
near_or Always h = absurd (cc)
near_or Owner h = absurd (cc)

-- the actor stands in one half, and so not in the other
pub only_near : (o : Option Spot) → is_some (kept_if (λ s. is_near s.reach) o) ≡ true
    → kept_if (λ s. is_always s.reach) o ≡ None
only_near None h = absurd (cc)
only_near (Some s) h = by_reach s.reach s refl h
  where
    by_reach : (r : Reach) (s : Spot) → s.reach ≡ r → is_some (if is_near s.reach then Some s else None) ≡ true
        → (if is_always s.reach then Some s else None) ≡ None
    by_reach (Near cull) s e h = rw e refl
    by_reach Always s e h = let k = rw e at h in absurd (cc)
    by_reach Owner s e h = rw e refl

both : (r : Reach) (s : Spot) (v : Viewer) → s.reach ≡ r → is_owner_only r ≡ false
    → (if given_at (if is_near s.reach then Some s else None) v then 1 else 0) +
    (if is_some (if is_always s.reach then Some s else None) then 1 else 0)
    ≡ (if admits_by_reach s.reach s v then 1 else 0)
both (Near cull) s v e h = rw e (omega arith)
both Always s v e h = rw e refl
both Owner s v e h = absurd (cc)

both_given : (o : Option Spot) (v : Viewer) → ((s : Spot) → o ≡ Some s → is_owner_only s.reach ≡ false)
    → (if given_at (kept_if (λ s. is_near s.reach) o) v then 1 else 0) +
    (if is_some (kept_if (λ s. is_always s.reach) o) then 1 else 0)
    ≡ (if given_at o v then 1 else 0)
both_given None v h = refl
both_given (Some s) v h = both s.reach s v refl (h s refl)

each_given : (node : Kept) (spots : Spots) (v : Viewer) → Stands node spots → (a : ℕ)
    → count_of a (given_by node v) ≡ (if given_at (spots a 0) v then 1 else 0)
each_given node spots v stands a =
    let n = count_given node.halves.near (near_of spots) v stands.near a in
    let m = stands.always.actors a in
    let b = both_given (spots a 0) v (stands.reach a 0) in
    let s = count_of-append a (grid.given_by node.halves.near v) node.halves.always.actors in
    omega arith

pub gathers : (node : Kept) (spots : Spots) (v : Viewer) → Stands node spots
    → Gathers DormantNode spots v (given_by node v)
gathers node spots v stands =
    let each : (a : ℕ) → count_of a (given_by node v) ≡ (if given_at (spots a 0) v then 1 else 0) =
    each_given node spots v stands in
    record {
      once = λ a. at_most_one _ _ (each a);
      all = λ a p s is admitted.
          let none : p ≡ 0 = let o = stands.players a p in grind (arith, nat_tests) in
          let at : spots a 0 ≡ Some s = rw none at is in
          let h : given_at (spots a 0) v ≡ true = rw at admitted in
          rw h at (each a);
      only = λ a some.
          let h : given_at (spots a 0) v ≡ true = is_true _ _ (each a) some in
          let g = given_spot (spots a 0) v h in
          (0, g.0, g.1, g.2);
    }

-- a spot that the node takes
near_taken : (s : Spot) → takes DormantNode s ≡ true → is_near s.reach ≡ true → takes GridNode s ≡ true
near_taken s h n = grind (arith, nat_tests)

pub always_near : (r : Reach) → is_always r ≡ true → is_near r ≡ false
always_near Always h = refl
always_near (Near cull) h = absurd (cc)
always_near Owner h = absurd (cc)

always_taken : (s : Spot) → takes DormantNode s ≡ true → is_always s.reach ≡ true → takes AlwaysNode s ≡ true
always_taken s h n = grind (arith, nat_tests)

free_part : (test : Spot → Bool) (spots : Spots) (a p : ℕ) → spots a p ≡ None → part test spots a p ≡ None
free_part test spots a p h = rw h refl

shared_taken : (s : Spot) → takes DormantNode s ≡ true → is_owner_only s.reach ≡ false
shared_taken s h = grind (arith, nat_tests)

pub player_taken : (s : Spot) → takes DormantNode s ≡ true → s.player ≡ 0
player_taken s h = grind (arith, nat_tests)

pub put_near : (old new : Halves) (spots : Spots) (s : Spot)
    → ((part : Spots) → grid.Stands old.near part → CanPlace GridNode part s → grid.Stands new.near (with_spot part s))
    → new.always ≡ old.always → is_near s.reach ≡ true
    → Keeps old spots → CanPlace DormantNode spots s → Keeps new (with_spot spots s)
put_near old new spots s step rest near keeps can = record {
  near = subst (λ (f : Spots). grid.Stands new.near f) (sym (placed_in (λ (t : Spot). is_near t.reach) spots s near))
      (step (near_of spots) keeps.near (record {
        taken = near_taken s can.taken near;
        free = free_part (λ (t : Spot). is_near t.reach) spots s.actor s.player can.free;
      }));
  always = rw rest (subst (λ (f : Spots). always.Stands old.always f)
      (sym (placed_out (λ (t : Spot). is_always t.reach) spots s (near_or s.reach near)
      (free_part (λ (t : Spot). is_always t.reach) spots s.actor s.player can.free)))
      keeps.always);
  reach = λ a p t h. let o = keeps.reach a p t in let n = shared_taken s can.taken in grind (arith, nat_tests);
  players = λ a p h. let o = keeps.players a p h in let n = player_taken s can.taken in grind (arith, nat_tests);
}

pub put_always : (old new : Halves) (spots : Spots) (s : Spot)
    → ((part : Spots) → always.Stands old.always part → CanPlace AlwaysNode part s
    → always.Stands new.always (with_spot part s))
    → new.near ≡ old.near → is_always s.reach ≡ true
    → Keeps old spots → CanPlace DormantNode spots s → Keeps new (with_spot spots s)
put_always old new spots s step rest yes_always keeps can = record {
  near = rw rest (subst (λ (f : Spots). grid.Stands old.near f)
      (sym (placed_out (λ (t : Spot). is_near t.reach) spots s (always_near s.reach yes_always)
      (free_part (λ (t : Spot). is_near t.reach) spots s.actor s.player can.free)))
      keeps.near);
  always = subst (λ (f : Spots). always.Stands new.always f)
      (sym (placed_in (λ (t : Spot). is_always t.reach) spots s yes_always))
      (step (always_of spots) keeps.always (record {
        taken = always_taken s can.taken yes_always;
        free = free_part (λ (t : Spot). is_always t.reach) spots s.actor s.player can.free;
      }));
  reach = λ a p t h. let o = keeps.reach a p t in let n = shared_taken s can.taken in grind (arith, nat_tests);
  players = λ a p h. let o = keeps.players a p h in let n = player_taken s can.taken in grind (arith, nat_tests);
}

some_is : (o : Option Spot) → is_some o ≡ true → IsSome o
some_is None h = absurd (cc)
some_is (Some s) h = search rules

none_is : (o : Option Spot) → is_some o ≡ false → o ≡ None
none_is None h = refl
none_is (Some s) h = absurd (cc)

pub take_near : (old new : Halves) (spots : Spots) (actor : ℕ)
    → ((part : Spots) → grid.Stands old.near part → grid.Stands new.near (without_pair part actor 0))
    → new.always ≡ old.always → is_some (near_of spots actor 0) ≡ true
    → Keeps old spots → Keeps new (without_pair spots actor 0)
take_near old new spots actor step rest held keeps = record {
  near = subst (λ (f : Spots). grid.Stands new.near f) (sym (removed_in (λ (t : Spot). is_near t.reach) spots actor 0))
      (step (near_of spots) keeps.near);
  always = rw rest (subst (λ (f : Spots). always.Stands old.always f)
      (sym (removed_out (λ (t : Spot). is_always t.reach) spots actor 0 (only_near (spots actor 0) held)))
      keeps.always);
  reach = λ a p t h. let o = keeps.reach a p t in grind (arith, nat_tests);
  players = λ a p h. let o = keeps.players a p h in grind (arith, nat_tests);
}

pub take_always : (old new : Halves) (spots : Spots) (actor : ℕ)
    → ((part : Spots) → always.Stands old.always part → always.Stands new.always (without_pair part actor 0))
    → new.near ≡ old.near → is_some (near_of spots actor 0) ≡ false
    → Keeps old spots → Keeps new (without_pair spots actor 0)
take_always old new spots actor step rest out keeps = record {
  near = rw rest (subst (λ (f : Spots). grid.Stands old.near f)
      (sym (removed_out (λ (t : Spot). is_near t.reach) spots actor 0 (none_is (near_of spots actor 0) out)))
      keeps.near);
  always = subst (λ (f : Spots). always.Stands new.always f)
      (sym (removed_in (λ (t : Spot). is_always t.reach) spots actor 0))
      (step (always_of spots) keeps.always);
  reach = λ a p t h. let o = keeps.reach a p t in grind (arith, nat_tests);
  players = λ a p h. let o = keeps.players a p h in grind (arith, nat_tests);
}

pub move_near : (old new : Halves) (spots : Spots) (s : Spot)
    → ((part : Spots) → grid.Stands old.near part → CanMove GridNode part s → grid.Stands new.near (with_spot part s))
    → new.always ≡ old.always → is_near s.reach ≡ true → is_some (near_of spots s.actor 0) ≡ true
    → Keeps old spots → CanMove DormantNode spots s → Keeps new (with_spot spots s)
move_near old new spots s step rest near held keeps can =
    let none = player_taken s can.taken in
    let here : is_some (near_of spots s.actor s.player) ≡ true = rw none held in
    record {
      near = subst (λ (f : Spots). grid.Stands new.near f)
          (sym (placed_in (λ (t : Spot). is_near t.reach) spots s near))
          (step (near_of spots) keeps.near (record {
            taken = near_taken s can.taken near;
            held =
                some_is (near_of spots s.actor s.player) here;
          }));
      always = rw rest (subst (λ (f : Spots). always.Stands old.always f)
          (sym (placed_out (λ (t : Spot). is_always t.reach) spots s (near_or s.reach near)
          (only_near (spots s.actor s.player) here)))
          keeps.always);
      reach = λ a p t h. let o = keeps.reach a p t in let n = shared_taken s can.taken in grind (arith, nat_tests);
      players = λ a p h. let o = keeps.players a p h in grind (arith, nat_tests);
    }

placed_over : (spots : Spots) (s : Spot) (a p : ℕ)
    → with_spot (without_pair spots s.actor s.player) s a p ≡ with_spot spots s a p
placed_over spots s a p = over (a == s.actor && p == s.player) s (spots a p)
  where
    over : (b : Bool) (s : Spot) (o : Option Spot)
        → (if b then Some s else if b then None else o) ≡ (if b then Some s else o)
    over true s o = refl
    over false s o = refl

pub move_over : (new : Halves) (spots : Spots) (s : Spot) → s.player ≡ 0
    → Keeps new (with_spot (without_pair spots s.actor 0) s) → Keeps new (with_spot spots s)
move_over new spots s none keeps =
    subst (λ (f : Spots). Keeps new f) (fun_ext (λ (a : ℕ). fun_ext (λ (p : ℕ). placed_over spots s a p)))
    (subst (λ (q : ℕ). Keeps new (with_spot (without_pair spots s.actor q) s)) (sym none) keeps)

pub can_again : (spots : Spots) (s : Spot) → takes DormantNode s ≡ true
    → CanPlace DormantNode (without_pair spots s.actor 0) s
can_again spots s taken =
    let none = player_taken s taken in
    record { taken = taken; free = grind (arith, nat_tests) }

-- the same, where a call may want memory
pub on_take_near : {T E : Type 0} (r : Result T E) (old new : Halves) (actor : ℕ)
    → OnOk r ((part : Spots) → grid.Stands old.near part → grid.Stands new.near (without_pair part actor 0))
    → new.always ≡ old.always → ((spots : Spots) → Keeps old spots → is_some (near_of spots actor 0) ≡ true)
    → OnOk r ((spots : Spots) → Keeps old spots → Keeps new (without_pair spots actor 0))
on_take_near (Ok u) old new actor step rest held =
    λ spots keeps. take_near old new spots actor step rest (held spots keeps) keeps
on_take_near (Err e) old new actor step rest held = search rules

pub on_take_always : {T E : Type 0} (r : Result T E) (old new : Halves) (actor : ℕ)
    → OnOk r ((part : Spots) → always.Stands old.always part → always.Stands new.always (without_pair part actor 0))
    → new.near ≡ old.near → ((spots : Spots) → Keeps old spots → is_some (near_of spots actor 0) ≡ false)
    → OnOk r ((spots : Spots) → Keeps old spots → Keeps new (without_pair spots actor 0))
on_take_always (Ok u) old new actor step rest out =
    λ spots keeps. take_always old new spots actor step rest (out spots keeps) keeps
on_take_always (Err e) old new actor step rest out = search rules

pub on_move_near : {T E : Type 0} (r : Result T E) (old new : Halves) (s : Spot)
    → OnOk r ((part : Spots) → grid.Stands old.near part → CanMove GridNode part s
    → grid.Stands new.near (with_spot part s))
    → new.always ≡ old.always → is_near s.reach ≡ true
    → ((spots : Spots) → Keeps old spots → is_some (near_of spots s.actor 0) ≡ true)
    → OnOk r ((spots : Spots) → Keeps old spots → CanMove DormantNode spots s → Keeps new (with_spot spots s))
on_move_near (Ok u) old new s step rest near held =
    λ spots keeps can. move_near old new spots s step rest near (held spots keeps) keeps can
on_move_near (Err e) old new s step rest near held = search rules

pub on_move_over : {T E : Type 0} (r : Result T E) (old mid new : Halves) (s : Spot)
    → ((spots : Spots) → Keeps old spots → Keeps mid (without_pair spots s.actor 0))
    → OnOk r ((spots : Spots) → Keeps mid spots → CanPlace DormantNode spots s → Keeps new (with_spot spots s))
    → OnOk r ((spots : Spots) → Keeps old spots → CanMove DormantNode spots s → Keeps new (with_spot spots s))
on_move_over (Ok u) old mid new s out step = λ spots keeps can.
    let none = player_taken s can.taken in
    move_over new spots s none (step (without_pair spots s.actor 0) (out spots keeps) (can_again spots s can.taken))
on_move_over (Err e) old mid new s out step = search rules
