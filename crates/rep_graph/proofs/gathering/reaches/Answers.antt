use Rattle.std.proofs.Common.{◌≡◌, ◌∙◌, ap, sym}
use Rattle.protocol_model.specs.declared.Reach.{Reach}
use Rattle.protocol_model.specs.declared.Reach.TheVariants.{Always, Near, Owner}
use Rattle.protocol_model.specs.Sight.{reaches}
use Rattle.class_layout.specs.Tables.{Layout, table_in}
use Rattle.graph_nodes.specs.Held.{viewer_in}
use Rattle.protocol_model.specs.World.{class_at}
use Rattle.rep_graph.proofs.Seeing.{look_owns, look_near}
use Rattle.rep_graph.proofs.gathering.reaches.Goals as goal

pub returns-in-Owner : goal.returns-in-Owner
returns-in-Owner c = λ edits world view look.
    let reach : Owner ≡ (class_at (table_in c.args.world.now.layout) c.args.look.now.class).reach =
    sym c.in-Owner.is ∙ c.reach_of.ensures.reach
    ∙ ap (λ (l : Layout). (class_at (table_in l) c.args.look.now.class).reach) c.classes.ensures in
    c.is_owner.ensures
    ∙ look_owns (table_in c.args.world.now.layout) edits c.args.actor c.args.viewer.now.player c.args.look.now look
    ∙ ap (λ (r : Reach). reaches r (table_in c.args.world.now.layout) edits c.args.viewer.now.player c.args.actor) reach

pub returns-in-Always : goal.returns-in-Always
returns-in-Always c = λ edits world view look.
    let reach : Always ≡ (class_at (table_in c.args.world.now.layout) c.args.look.now.class).reach =
    sym c.in-Always.is ∙ c.reach_of.ensures.reach
    ∙ ap (λ (l : Layout). (class_at (table_in l) c.args.look.now.class).reach) c.classes.ensures in
    ap (λ (r : Reach). reaches r (table_in c.args.world.now.layout) edits c.args.viewer.now.player c.args.actor) reach

pub returns-in-Near : goal.returns-in-Near
returns-in-Near c = λ edits world view look.
    let reach : ◌≡◌ {A = Reach} (Near c.in-Near.cull)
    ((class_at (table_in c.args.world.now.layout) c.args.look.now.class).reach) =
    sym c.in-Near.is ∙ c.reach_of.ensures.reach
    ∙ ap (λ (l : Layout). (class_at (table_in l) c.args.look.now.class).reach) c.classes.ensures in
    c.is_seen.ensures edits world view
    ∙ look_near (table_in c.args.world.now.layout) edits c.args.actor c.args.look.now
    (viewer_in c.args.viewer.now) c.args.viewer.now.player c.in-Near.cull look view
    ∙ ap (λ (r : Reach). reaches r (table_in c.args.world.now.layout) edits c.args.viewer.now.player c.args.actor) reach
