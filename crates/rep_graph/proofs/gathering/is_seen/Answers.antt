use Rattle.std.proofs.Common.{◌≡◌, ◌∙◌, ℕ, ◌&&◌, ◌==◌, not, ap, sym, true, false, rules, to_z, of_z, w32}
use Rattle.std.proofs.lemmas.Int.{to_z-of_z}
use Rattle.graph_model.specs.Nodes.{Viewer}
use Rattle.protocol_model.specs.Sight.{are_teamed}
use Rattle.protocol_model.specs.World.{given_of, is_added}
use Rattle.rep_graph.specs.Standings.{owner_is, is_near_to}
use Rattle.rep_graph.proofs.Seeing.{third, last}
use Rattle.rep_graph.proofs.gathering.is_seen.Goals as goal

pub returns-then-is_teamed : goal.returns-then-is_teamed
returns-then-is_teamed c = λ edits world view.
    let look = c.args.look.now in
    let v = c.args.viewer.now in
    let teamed : are_teamed edits c.args.viewer.now.player c.args.actor ≡ true =
    sym (c.is_teamed.ensures ∙ ap (λ (g : ℕ). g == c.args.viewer.now.team && not (g == 0)) (c.given.ensures edits world)
    ∙ ap (λ (w : Viewer). given_of edits c.args.actor == w.team && not (given_of edits c.args.actor == 0)) view)
    ∙ c.if-is_teamed.true in
    third (owner_is v.player look.owner) (is_near_to look.x look.y v.x v.y c.args.cull)
    (are_teamed edits c.args.viewer.now.player c.args.actor) (is_added edits c.args.actor v.player) teamed

pub returns : goal.returns
returns c = λ edits world view.
    let look = c.args.look.now in
    let v = c.args.viewer.now in
    let teamed : are_teamed edits c.args.viewer.now.player c.args.actor ≡ false =
    sym (c.is_teamed.ensures ∙ ap (λ (g : ℕ). g == c.args.viewer.now.team && not (g == 0)) (c.given.ensures edits world)
    ∙ ap (λ (w : Viewer). given_of edits c.args.actor == w.team && not (given_of edits c.args.actor == 0)) view)
    ∙ c.if-is_teamed.false in
    let x : to_z w32 (of_z w32 c.args.look.now.x) ≡ c.args.look.now.x =
    to_z-of_z w32 c.args.look.now.x (search rules) in
    let y : to_z w32 (of_z w32 c.args.look.now.y) ≡ c.args.look.now.y =
    to_z-of_z w32 c.args.look.now.y (search rules) in
    let vx : to_z w32 (of_z w32 c.args.viewer.now.x) ≡ c.args.viewer.now.x =
    to_z-of_z w32 c.args.viewer.now.x (search rules) in
    let vy : to_z w32 (of_z w32 c.args.viewer.now.y) ≡ c.args.viewer.now.y =
    to_z-of_z w32 c.args.viewer.now.y (search rules) in
    let far : is_near_to c.args.look.now.x c.args.look.now.y c.args.viewer.now.x c.args.viewer.now.y c.args.cull
    ≡ false =
    sym (rw (x, y, vx, vy) at c.is_within.ensures) ∙ c.if-is_within.false in
    c.added.ensures edits world
    ∙ last (owner_is v.player look.owner) (is_near_to look.x look.y v.x v.y c.args.cull)
    (are_teamed edits c.args.viewer.now.player c.args.actor) (is_added edits c.args.actor v.player)
    (sym c.is_owner.ensures ∙ c.if-is_owner.false) far teamed
