use Rattle.std.proofs.Common.{◌≡◌, ◌∙◌, ◌+◌, ◌*◌, ◌∷◌, ℕ, Option, Some, ap, sym, subst}
use Rattle.graph_model.specs.Nodes.{PlayerNode}
use Rattle.protocol_model.specs.World.{spawn_count}
use Rattle.class_layout.specs.Tables.{Layout, table_in}
use Rattle.graph_nodes.specs.declared.any.AnyNode.{AnyNode}
use Rattle.world_table.specs.Answers.{edit_of}
use Rattle.world_table.specs.Stands.{history_of}
use Rattle.world_table.specs.declared.edit.Look.{Look}
use Rattle.rep_graph.specs.Standings.{standing_in, standing_by, subject_of}
use Rattle.rep_graph.specs.Graph.{Holds}
use Rattle.rep_graph.specs.Turns.{Differs}
use Rattle.rep_graph.proofs.Lawful.{lawful_more}
use Rattle.rep_graph.proofs.Looks.{stands_as_seen}
use Rattle.rep_graph.proofs.Subjects.{next_is, others_told, stood_before, last_is, unseen}
use Rattle.rep_graph.proofs.nodes.Nodes.turn.Goals as goal

pub returns-in_default : goal.returns-in_default
returns-in_default c = λ edits turn.
    unseen c.args.self.now (table_in c.args.world.now.layout) edits c.args.e.now c.next_guid-next.result
    (sym c.in_default.ensures)
    (lawful_more (table_in c.args.world.now.layout) edits c.args.e.now turn.accepted turn.stood.lawful) turn.stood

pub returns : goal.returns
returns c = λ edits turn.
    let table = table_in c.args.world.now.layout in
    let e = c.args.e.now in
    let next : c.next_guid-next.result ≡ 2 * (spawn_count edits + 1) =
    next_is c.args.self.now.last c.next_guid-next.result (spawn_count edits) turn.stood.last turn.stood.lawful.few
    c.next_guid-next.ensures in
    let subject : subject_of (2 * (spawn_count edits + 1)) c.args.e.now ≡ Some c.in-Some.actor =
    ap (λ (n : ℕ). subject_of n c.args.e.now) (sym next) ∙ sym c.in-Some.ensures in
    let looks = c.look_at-after.ensures (edit_of c.args.e.now ∷ edits) turn.after in
    let stood : c.living-stood.result
    ≡ standing_by (table_in c.args.world.now.layout) (history_of edits c.in-Some.actor) =
    c.living-stood.ensures.standing
    ∙ ap (λ (l : Layout). standing_in (table_in l) c.args.before.now) c.classes.ensures
    ∙ ap (λ (l : Option Look). standing_in (table_in c.args.world.now.layout) l) turn.before_is
    ∙ stood_before (table_in c.args.world.now.layout) edits c.args.e.now c.in-Some.actor subject in
    let stands : c.living-stands.result
    ≡ standing_by (table_in c.args.world.now.layout) (history_of (edit_of c.args.e.now ∷ edits) c.in-Some.actor) =
    c.living-stands.ensures.standing
    ∙ ap (λ (l : Layout). standing_in (table_in l) c.look_at-after.result) c.classes-2.ensures
    ∙ ap (λ (l : Option Look). standing_in (table_in c.args.world.now.layout) l) looks
    ∙ stands_as_seen (table_in c.args.world.now.layout) (edit_of c.args.e.now ∷ edits) c.in-Some.actor in
    let differs : Differs (table_in c.args.world.now.layout) edits (edit_of c.args.e.now ∷ edits) c.in-Some.actor
    c.living-stood.result c.living-stands.result c.given.result = record {
      others = others_told edits c.args.e.now c.in-Some.actor subject;
      before_is = stood;
      after_is = stands;
      team_is = c.given.ensures (edit_of c.args.e.now ∷ edits) turn.after;
      bounded = c.living-stands.ensures.bounded;
    } in
    let four =
    c.in_ok-renew_spots.ensures.four (table_in c.args.world.now.layout) edits (edit_of c.args.e.now ∷ edits) differs
    turn.stood.four in
    let lawful = lawful_more (table_in c.args.world.now.layout) edits c.args.e.now turn.accepted turn.stood.lawful in
    let held = subst (λ (n : AnyNode). Holds PlayerNode n (table_in c.args.world.now.layout) edits)
    (sym c.in_ok-renew_spots.ensures.players) turn.stood.players in
    record {
      four = record { grid = four.grid; always = four.always; dormant = four.dormant; teams = four.teams };
      players = c.in_ok-renew_pairs.ensures edits (record {
        accepted = turn.accepted;
        world_is = turn.after;
        subject = subject;
        before_is = turn.before_is;
        after_is = looks;
        lawful = turn.stood.lawful;
      }) held;
      last = c.last_after-self.ensures
          ∙ last_is edits c.args.e.now c.renew_spots.new.self.last c.next_guid-next.result
          (c.in_ok-renew_spots.ensures.last ∙ turn.stood.last) next;
      lawful = lawful;
    }
