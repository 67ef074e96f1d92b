-- The players' node by the pairs that it holds, whatever else their spots have.
use Rattle.std.proofs.Common.{◌≡◌, ◌∙◌, ℕ, Bool, true, false, ◌&&◌, ◌==◌, Option, Some, None, pos, refl, sym, ap, arith, if◌then◌else◌}
use Rattle.std.specs.Prelude.{is_some}
use Rattle.std.specs.Bool.{then_some}
use Rattle.std.proofs.lemmas.Bool.Decides.{nat_tests}
use Rattle.std.proofs.lemmas.Option.{same_Some}
use Rattle.protocol_model.specs.declared.Reach.{Reach}
use Rattle.graph_model.specs.Nodes.{Node, PlayerNode, Spot, is_held_in, spot_of}
use Rattle.protocol_model.specs.Value.{Table}
use Rattle.protocol_model.specs.World.{Edits}
use Rattle.graph_nodes.specs.declared.any.AnyNode.{AnyNode}
use Rattle.graph_nodes.specs.declared.any.AnyNode.TheVariants as variant
use Rattle.graph_nodes.specs.Held.{Spots, without_actor as without_spots}
use Rattle.graph_nodes.specs.Players as players
use Rattle.graph_nodes.specs.Any as any
use Rattle.rep_graph.specs.Spots.{world_spots}
use Rattle.rep_graph.specs.Graph.{Holds}
use Rattle.rep_graph.specs.Turns.{PairTest, AreOf, HasPairs, IsFor, with_pair, with_pair_spot, without_actor}

-- a spot for each pair that is held, wherever it stands
abbrev pub bare : PairTest → Spots
bare held a p = then_some (held a p)
    (record { actor = a; x = pos 0; y = pos 0; reach = Reach.Always; player = p; team = 0 })

some_if : (b : Bool) (s : Spot) → is_some (then_some b s) ≡ b
some_if true s = refl
some_if false s = refl

the_one : (b : Bool) (s t : Spot) → then_some b s ≡ Some t → s ≡ t
the_one true s t h = same_Some s t h
the_one false s t h = absurd (cc)

pub bare_are : (held : PairTest) → AreOf held (bare held)
bare_are held = record {
  same = λ a p. some_if (held a p) _;
  players = λ a p s h. sym (ap (λ (t : Spot). t.player) (the_one (held a p) _ s h));
}

pub paired : (node : players.Kept) (held : PairTest) (actor player : ℕ) (b : Bool) → HasPairs (variant.Player node) held
    → ((spots : Spots) → players.Stands node spots → b ≡ is_some (spots actor player)) → b ≡ held actor player
paired node held actor player b pairs tells =
    tells (bare held) (pairs.spots (bare held) (bare_are held)) ∙ (bare_are held).same actor player

-- ---- from spots to pairs, and back

players_alike : (node : players.Kept) (f g : Spots) → players.Stands node f
    → ((a p : ℕ) → is_some (g a p) ≡ is_some (f a p)) → ((a p : ℕ) (s : Spot) → g a p ≡ Some s → s.player ≡ p)
    → players.Stands node g
players_alike node f g stands same named = record {
  actors = λ a p. rw (same a p) (stands.actors a p);
  holders = λ a p. rw (same a p) (stands.holders a p);
  players = named;
}

alike : (node : AnyNode) (f g : Spots) → any.row_of node ≡ PlayerNode → any.Stands node f
    → ((a p : ℕ) → is_some (g a p) ≡ is_some (f a p)) → ((a p : ℕ) (s : Spot) → g a p ≡ Some s → s.player ≡ p)
    → any.Stands node g
alike (variant.Grid node) f g row stands same named = absurd (cc)
alike (variant.Always node) f g row stands same named = absurd (cc)
alike (variant.Player node) f g row stands same named = players_alike node f g stands same named
alike (variant.Dormant node) f g row stands same named = absurd (cc)
alike (variant.Team node) f g row stands same named = absurd (cc)

pub pairs_of : (node : AnyNode) (table : Table) (edits : Edits) → Holds PlayerNode node table edits
    → HasPairs node (is_held_in PlayerNode table edits)
pairs_of node table edits holds = record {
  row_is = holds.row_is;
  spots = λ spots are. alike node (world_spots PlayerNode table edits) spots holds.row_is holds.spots
      (λ a p. are.same a p ∙ sym (some_if (is_held_in PlayerNode table edits a p) (spot_of table edits a p)))
      are.players;
}

pub holds_of : (node : AnyNode) (table : Table) (edits : Edits) (held : PairTest) → HasPairs node held
    → ((a p : ℕ) → is_held_in PlayerNode table edits a p ≡ held a p) → Holds PlayerNode node table edits
holds_of node table edits held pairs same = record {
  row_is = pairs.row_is;
  spots = pairs.spots (world_spots PlayerNode table edits) (record {
    same = λ a p. some_if (is_held_in PlayerNode table edits a p) (spot_of table edits a p) ∙ same a p;
    players = λ a p s h. sym (ap (λ (t : Spot). t.player)
        (the_one (is_held_in PlayerNode table edits a p) (spot_of table edits a p) s h));
  });
}

-- ---- one pair

put_some : (t : Bool) (now o : Option Spot) (b c : Bool) → is_some now ≡ b → is_some o ≡ c
    → is_some (if t then now else o) ≡ (if t then b else c)
put_some true now o b c h k = h
put_some false now o b c h k = k

put_named : (held : PairTest) (actor player : ℕ) (now : Option Spot) (a p : ℕ) (s : Spot) (t : Bool)
    → ((s : Spot) → now ≡ Some s → s.player ≡ player) → (a == actor && p == player) ≡ t
    → (if t then now else bare held a p) ≡ Some s → s.player ≡ p
put_named held actor player now a p s true named e h =
    let q : p ≡ player = grind (arith, nat_tests) in named s h ∙ sym q
put_named held actor player now a p s false named e h = (bare_are held).players a p s h

pub pair_put : (old new : AnyNode) (held : PairTest) (actor player : ℕ) (now : Option Spot)
    → any.row_of new ≡ any.row_of old
    → HasPairs old held → ((s : Spot) → now ≡ Some s → s.player ≡ player)
    → any.Stands new (with_pair_spot (bare held) actor player now)
    → HasPairs new (with_pair held actor player (is_some now))
pair_put old new held actor player now row pairs named stands = record {
  row_is = row ∙ pairs.row_is;
  spots = λ spots are. alike new (with_pair_spot (bare held) actor player now) spots (row ∙ pairs.row_is) stands
      (λ a p. are.same a p ∙ sym (put_some (a == actor && p == player) now (bare held a p) (is_some now) (held a p) refl
      ((bare_are held).same a p)))
      are.players;
}

-- a spot for a pair names its player
pub named_by : (now : Option Spot) (row : Node) (actor player : ℕ) → IsFor row actor player now
    → (s : Spot) → now ≡ Some s → s.player ≡ player
named_by None row actor player h s e = absurd (cc)
named_by (Some t) row actor player h s e = ap (λ (u : Spot). u.player) (sym (same_Some t s e)) ∙ h.2

-- ---- all pairs of an actor

without_bare : (held : PairTest) (actor a p : ℕ) (t : Bool) → (a == actor) ≡ t
    → is_some (if t then None else bare held a p) ≡ (if t then false else held a p)
without_bare held actor a p true e = refl
without_bare held actor a p false e = (bare_are held).same a p

pub actor_dropped : (old new : players.Kept) (held : PairTest) (actor : ℕ) → HasPairs (variant.Player old) held
    → ((spots : Spots) → players.Stands old spots → players.Stands new (without_spots spots actor))
    → HasPairs (variant.Player new) (without_actor held actor)
actor_dropped old new held actor pairs step = record {
  row_is = refl;
  spots = λ spots are. players_alike new (without_spots (bare held) actor) spots
      (step (bare held) (pairs.spots (bare held) (bare_are held)))
      (λ a p. are.same a p ∙ sym (without_bare held actor a p (a == actor) refl)) are.players;
}
