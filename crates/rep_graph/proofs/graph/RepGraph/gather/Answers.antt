use Rattle.std.proofs.Common.{◌≡◌, ◌≤◌, ◌+◌, length, sym, subst, arith}
use Rattle.graph_model.specs.Listed.{listed_count}
use Rattle.class_layout.specs.Tables.{table_in}
use Rattle.rep_graph.specs.Graph.{Graph, Keeps}
use Rattle.rep_graph.proofs.Gathered.{gathered_is, listed_length}
use Rattle.rep_graph.proofs.graph.RepGraph.gather.Goals as goal

pub returns-clause-relevant : goal.returns-clause-relevant
returns-clause-relevant g c = λ edits stands world.
    let table = table_in c.args.world.now.layout in
    let keeps = subst (λ (d : Graph). Keeps d.nodes (table_in c.args.world.now.layout) edits) (sym c.self.view_is)
    stands in
    let view = c.viewer_of-viewer.ensures.view edits world in
    gathered_is table edits c.viewer_of-viewer.result.player c.args.player c.in_ok-listed.listed
    c.in_ok-relevant.relevant (c.relevant_actors_are_listed.ensures table edits c.viewer_of-viewer.result.player)
    (c.in_ok-listed.ensures table edits c.viewer_of-viewer.result.player keeps view)
    (c.in_ok-relevant.ensures.relevant edits world view) c.viewer_of-viewer.ensures.player

pub returns-clause-steps : goal.returns-clause-steps
returns-clause-steps g c = λ edits stands world.
    let table = table_in c.args.world.now.layout in
    let keeps = subst (λ (d : Graph). Keeps d.nodes (table_in c.args.world.now.layout) edits) (sym c.self.view_is)
    stands in
    let view = c.viewer_of-viewer.ensures.view edits world in
    let many : length c.in_ok-listed.listed ≡ listed_count (table_in c.args.world.now.layout) edits c.args.player =
    listed_length table edits c.viewer_of-viewer.result.player c.args.player c.in_ok-listed.listed
    (c.in_ok-listed.ensures table edits c.viewer_of-viewer.result.player keeps view)
    c.viewer_of-viewer.ensures.player in
    let steps : c.relevant_of.new.steps ≤ c.args.steps.now + length c.in_ok-listed.listed =
    c.relevant_of.ensures.steps in
    omega arith

pub returns-in_err-relevant-clause-steps : goal.returns-in_err-relevant-clause-steps
returns-in_err-relevant-clause-steps g c = λ edits stands world.
    let table = table_in c.args.world.now.layout in
    let keeps = subst (λ (d : Graph). Keeps d.nodes (table_in c.args.world.now.layout) edits) (sym c.self.view_is)
    stands in
    let view = c.viewer_of-viewer.ensures.view edits world in
    let many : length c.in_ok-listed.listed ≡ listed_count (table_in c.args.world.now.layout) edits c.args.player =
    listed_length table edits c.viewer_of-viewer.result.player c.args.player c.in_ok-listed.listed
    (c.in_ok-listed.ensures table edits c.viewer_of-viewer.result.player keeps view)
    c.viewer_of-viewer.ensures.player in
    let steps : c.relevant_of.new.steps ≤ c.args.steps.now + length c.in_ok-listed.listed =
    c.relevant_of.ensures.steps in
    omega arith
