use Rattle.std.proofs.Common.{◌≡◌, ◌∙◌, sym, ap, subst, Bool, Option}
use Rattle.std.specs.Prelude.{is_some, option_map}
use Rattle.graph_model.specs.Nodes.{Node, PlayerNode, is_held_in}
use Rattle.class_layout.specs.Tables.{table_in}
use Rattle.graph_nodes.specs.Held.{spot_in}
use Rattle.graph_nodes.proofs.GridLists.{some_mapped}
use Rattle.world_table.specs.declared.edit.Look.{Look}
use Rattle.protocol_model.specs.World.{is_added}
use Rattle.rep_graph.specs.Turns.{HasPairs, IsFor, with_pair}
use Rattle.rep_graph.specs.Standings.{held_by_look}
use Rattle.rep_graph.proofs.Looks.{held_as_seen}
use Rattle.rep_graph.proofs.Pairing.{bare, bare_are, pair_put, named_by}
use Rattle.rep_graph.proofs.pairs.renew_pair.Goals as goal

pub returns : goal.returns
returns c = λ held edits pairs world look player.
    let table = table_in c.args.world.now.layout in
    let was : is_some (bare held c.args.actor c.args.player) ≡ c.is_paired-was.result =
    (bare_are held).same c.args.actor c.args.player ∙ sym (c.is_paired-was.ensures held pairs) in
    let is_for =
    subst (λ (r : Node). IsFor r c.args.actor c.args.player (option_map spot_in c.pair_spot-spot.result))
    (sym pairs.row_is)
    (c.pair_spot-spot.ensures.spot edits world player) in
    let stands = c.in_ok-shift.ensures.spots (bare held) (pairs.spots (bare held) (bare_are held)) was is_for in
    let there : is_some (option_map spot_in c.pair_spot-spot.result)
    ≡ is_held_in PlayerNode table edits c.args.actor c.args.player =
    some_mapped spot_in c.pair_spot-spot.result ∙ c.pair_spot-spot.ensures.held edits world player
    ∙ ap (λ (l : Option Look). held_by_look table l (is_added edits c.args.actor c.args.player) c.args.player) look
    ∙ sym (held_as_seen table edits c.args.actor c.args.player) in
    subst (λ (b : Bool). HasPairs c.shift.new.node (with_pair held c.args.actor c.args.player b)) there
    (pair_put c.args.node.now c.shift.new.node held c.args.actor c.args.player
    (option_map spot_in c.pair_spot-spot.result)
    c.in_ok-shift.ensures.row pairs
    (named_by (option_map spot_in c.pair_spot-spot.result) PlayerNode c.args.actor c.args.player
    (c.pair_spot-spot.ensures.spot edits world player))
    stands)
