use Rattle.std.proofs.Common.{Ok, refl, sym, ap, ◌∙◌, subst}
use Rattle.class_layout.specs.Tables.{Layout, table_in}
use Rattle.world_table.specs.Answers.{refusal_in}
use Rattle.rep_graph.specs.Standings.{look_before}
use Rattle.rep_graph.specs.Graph.{Stands as StandsGraph}
use Rattle.net_driver.specs.Serves.{Serves}
use Rattle.rep_graph.proofs.Accepted.{none_stands}
use Rattle.net_driver.proofs.Editing.{edited}
use Rattle.net_driver.proofs.There.{there_edited}
use Rattle.net_driver.proofs.driver.Driver.change.Goals as goal

pub returns-in-Ok-clause-serves : goal.returns-in-Ok-clause-serves
returns-in-Ok-clause-serves c = λ s now.
    let h = subst (λ d. Serves d s) (sym c.self.view_is) now in
    let layout = c.apply.ensures.table ∙ h.layout in
    let world = c.in_ok-spawned.ensures.stands s.edits h.world in
    let accepted = ap (λ (l : Layout). refusal_in (table_in l) s.edits c.args.e) c.apply.ensures.table
    ∙ none_stands _ (Ok c.in_ok-spawned.spawned) c.in_ok-spawned.spawned refl
    (c.in_ok-spawned.ensures.no_actor s.edits h.world)
    (c.in_ok-spawned.ensures.out_of_range s.edits h.world)
    (c.in_ok-spawned.ensures.actors_full s.edits h.world) in
    let f = c.in-Ok.ensures.follows s.edits (record {
      turn = record {
        stood = subst (λ (l : Layout). StandsGraph c.self.inside.graph (table_in l) s.edits) (sym layout) h.graph;
        accepted = accepted;
        after = world;
        before_is = c.named_look-before.ensures s.edits h.world
            ∙ ap (λ (l : Layout). look_before (table_in l) s.edits c.args.e) (sym c.apply.ensures.table);
      };
      layout = layout;
      buried = h.graves;
    }) in
    edited _ _ s _ _ h world layout
    (there_edited _ s.edits c.args.e h.there
    (ap (λ (l : Layout). refusal_in (table_in l) s.edits c.args.e) (sym layout) ∙ accepted))
    f.graph f.buries c.follow.ensures.rest
