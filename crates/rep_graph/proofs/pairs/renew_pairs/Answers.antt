use Rattle.std.proofs.Common.{◌+◌, ◌*◌, ◌∷◌}
use Rattle.graph_model.specs.Nodes.{PlayerNode, is_held_in}
use Rattle.protocol_model.specs.World.{spawn_count}
use Rattle.class_layout.specs.Tables.{table_in}
use Rattle.world_table.specs.Answers.{edit_of}
use Rattle.rep_graph.proofs.Lawful.{accepted, lawful_more}
use Rattle.rep_graph.proofs.Pairing.{pairs_of, holds_of}
use Rattle.rep_graph.proofs.PairsAfter.{pairs_stay}
use Rattle.rep_graph.proofs.Turning.{add_turn, destroy_turn, own_turn}
use Rattle.rep_graph.proofs.pairs.renew_pairs.Goals as goal

pub returns-in_default : goal.returns-in_default
returns-in_default c = λ edits turn holds.
    let table = table_in c.args.world.now.layout in
    holds_of c.args.node.now table (edit_of c.args.e.now ∷ edits) (is_held_in PlayerNode table edits)
    (pairs_of c.args.node.now table edits holds)
    (pairs_stay table edits c.args.e.now turn.lawful c.in_default.not-Own c.in_default.not-Add c.in_default.not-Destroy)

pub returns-in_ok-renew_pair-in-Add : goal.returns-in_ok-renew_pair-in-Add
returns-in_ok-renew_pair-in-Add c = λ edits turn holds.
    let table = table_in c.args.world.now.layout in
    add_turn c.args.node.now c.renew_pair.new.node table edits c.args.e.now c.args.actor
    (2 * (spawn_count edits + 1)) c.in-Add.actor
    c.in-Add.player c.in-Add.on c.in-Add.is turn.subject (accepted table edits c.args.e.now turn.accepted) holds
    (λ player pairs. c.in_ok-renew_pair-in-Add.ensures (is_held_in PlayerNode table edits)
    (edit_of c.args.e.now ∷ edits) pairs
    turn.world_is turn.after_is player)

pub returns-in_ok-drop_all-in-Destroy : goal.returns-in_ok-drop_all-in-Destroy
returns-in_ok-drop_all-in-Destroy c = λ edits turn holds.
    let table = table_in c.args.world.now.layout in
    destroy_turn c.args.node.now c.drop_all.new.node table edits c.args.e.now c.args.actor
    (2 * (spawn_count edits + 1)) c.in-Destroy.actor c.in-Destroy.is turn.subject holds
    (c.in_ok-drop_all-in-Destroy.ensures (is_held_in PlayerNode table edits))

pub returns-in_ok-renew_owner-in-Own-2 : goal.returns-in_ok-renew_owner-in-Own-2
returns-in_ok-renew_owner-in-Own-2 c = λ edits turn holds.
    let table = table_in c.args.world.now.layout in
    own_turn c.args.node.now c.renew_owner-in-Own.new.node table edits c.args.e.now c.args.actor
    (2 * (spawn_count edits + 1))
    c.in-Own.actor c.in-Own.player c.args.before.now c.args.after.now c.in-Own.is turn.subject
    (accepted table edits c.args.e.now turn.accepted) turn.before_is turn.after_is turn.lawful
    (lawful_more table edits c.args.e.now turn.accepted turn.lawful) holds
    (λ pairs first second.
    rw (← c.owner_of.ensures, ← c.owner_of-in-Own.ensures)
    (c.in_ok-renew_owner-in-Own-2.ensures _ (edit_of c.args.e.now ∷ edits)
    (c.in_ok-renew_owner-in-Own.ensures (is_held_in PlayerNode table edits) (edit_of c.args.e.now ∷ edits) pairs
    turn.world_is turn.after_is (rw c.owner_of.ensures first))
    turn.world_is turn.after_is (rw c.owner_of-in-Own.ensures second)))
