use Rattle.std.proofs.Common.{map, sym, ap, ◌∙◌, subst}
use Rattle.std.specs.List.{AllByRecursion}
use Rattle.protocol_model.specs.Sight.{seen_of}
use Rattle.protocol_model.specs.World.{actors_of}
use Rattle.class_layout.specs.Tables.{table_in}
use Rattle.sender_steps.specs.Sights.{sight_value}
use Rattle.driver_laws.specs.Given.{shown_as}
use Rattle.driver_sights.specs.Noted.{is_noted}
use Rattle.driver_sights.specs.Looking.{IsMade}
use Rattle.driver_sights.proofs.Entries.{relevant_given}
use Rattle.driver_sights.proofs.Walked.{are_relevant, noted_all, gathered_steps, all_steps}
use Rattle.driver_sights.proofs.looking.sight_of.Goals as goal

pub relevant_sight-requires : goal.relevant_sight-requires
relevant_sight-requires g c =
    let h = c.requires.looking in
    record {
      looking = (
        h.0,
        h.1,
        h.2,
        h.3,
        h.4,
        are_relevant (table_in c.args.world.now.layout) h.0 c.args.player c.in_ok-relevant.relevant
            (c.in_ok-relevant.ensures.relevant h.0 h.5 h.4.world),
      );
    }

pub returns-clause-given : goal.returns-clause-given
returns-clause-given g c = λ edits past kept samples look graph graves.
    let is = c.in_ok-relevant.ensures.relevant edits graph look.world in
    ap (sight_value c.args.world.now.layout) c.from_vec.ensures
    ∙ c.in_ok-show_graves.ensures.given c.args.world.now.layout edits c.args.player past kept look.sender graves
    (c.in_ok-sight.ensures.given edits past kept samples look
    (are_relevant (table_in c.args.world.now.layout) edits c.args.player c.in_ok-relevant.relevant is)
    ∙ ap (map (λ a. shown_as past (seen_of (table_in c.args.world.now.layout) edits c.args.player a))) is
    ∙ sym (relevant_given (table_in c.args.world.now.layout) edits c.args.player past (actors_of edits)))

pub returns-clause-made : goal.returns-clause-made
returns-clause-made g c = λ edits past kept samples look graph graves.
    let is = c.in_ok-relevant.ensures.relevant edits graph look.world in
    subst (AllByRecursion (IsMade c.args.world.now.layout)) (sym c.from_vec.ensures)
    (c.in_ok-show_graves.ensures.made c.args.world.now.layout edits graves
    (c.in_ok-sight.ensures.made edits past kept samples look
    (are_relevant (table_in c.args.world.now.layout) edits c.args.player c.in_ok-relevant.relevant is)))

pub returns-clause-looking : goal.returns-clause-looking
returns-clause-looking g c = λ edits past kept samples look graph.
    c.in_ok-sight.ensures.looking edits past kept samples look
    (are_relevant (table_in c.args.world.now.layout) edits c.args.player c.in_ok-relevant.relevant
    (c.in_ok-relevant.ensures.relevant edits graph look.world))

pub returns-clause-noted : goal.returns-clause-noted
returns-clause-noted g c = λ edits past kept samples look graph.
    let is = c.in_ok-relevant.ensures.relevant edits graph look.world in
    noted_all (table_in c.args.world.now.layout) edits c.args.player past c.in_ok-relevant.relevant
    (is_noted c.args.noted.now) (is_noted c.relevant_sight.new.noted) is
    (c.in_ok-sight.ensures.noted edits past kept samples look
    (are_relevant (table_in c.args.world.now.layout) edits c.args.player c.in_ok-relevant.relevant is))

pub returns-clause-steps_ok : goal.returns-clause-steps_ok
returns-clause-steps_ok g c = λ edits past kept samples look graph.
    let is = c.in_ok-relevant.ensures.relevant edits graph look.world in
    all_steps (table_in c.args.world.now.layout) edits c.args.player c.in_ok-relevant.relevant c.args.steps.now
    c.gather.new.steps c.relevant_sight.new.steps (is_noted c.args.noted.now) (is_noted c.relevant_sight.new.noted)
    (c.relevant_actors_are_listed.ensures (table_in c.args.world.now.layout) edits c.args.player) is
    (c.gather.ensures.steps edits graph look.world)
    (c.in_ok-sight.ensures.steps_ok edits past kept samples look
    (are_relevant (table_in c.args.world.now.layout) edits c.args.player c.in_ok-relevant.relevant is))

pub returns-clause-steps : goal.returns-clause-steps
returns-clause-steps g c = λ edits past kept samples most look graph first p.
    let is = c.in_ok-relevant.ensures.relevant edits graph look.world in
    all_steps (table_in c.args.world.now.layout) edits c.args.player c.in_ok-relevant.relevant c.args.steps.now
    c.gather.new.steps c.relevant_sight.new.steps (is_noted c.args.noted.now) most
    (c.relevant_actors_are_listed.ensures (table_in c.args.world.now.layout) edits c.args.player) is
    (c.gather.ensures.steps edits graph look.world)
    (c.relevant_sight.ensures.steps edits past kept samples most look
    (are_relevant (table_in c.args.world.now.layout) edits c.args.player c.in_ok-relevant.relevant is) first p)

pub returns-in_err-relevant-clause-steps : goal.returns-in_err-relevant-clause-steps
returns-in_err-relevant-clause-steps g c = λ edits past kept samples most look graph first p.
    gathered_steps (table_in c.args.world.now.layout) edits c.args.player c.args.steps.now c.gather.new.steps
    (is_noted c.args.noted.now) most (c.gather.ensures.steps edits graph look.world) first

pub returns-in_err-sight-clause-steps : goal.returns-in_err-sight-clause-steps
returns-in_err-sight-clause-steps g c = λ edits past kept samples most look graph first p.
    let is = c.in_ok-relevant.ensures.relevant edits graph look.world in
    all_steps (table_in c.args.world.now.layout) edits c.args.player c.in_ok-relevant.relevant c.args.steps.now
    c.gather.new.steps c.relevant_sight.new.steps (is_noted c.args.noted.now) most
    (c.relevant_actors_are_listed.ensures (table_in c.args.world.now.layout) edits c.args.player) is
    (c.gather.ensures.steps edits graph look.world)
    (c.relevant_sight.ensures.steps edits past kept samples most look
    (are_relevant (table_in c.args.world.now.layout) edits c.args.player c.in_ok-relevant.relevant is) first p)

pub returns-in_err-show_graves-clause-steps : goal.returns-in_err-show_graves-clause-steps
returns-in_err-show_graves-clause-steps g c = λ edits past kept samples most look graph first p.
    let is = c.in_ok-relevant.ensures.relevant edits graph look.world in
    all_steps (table_in c.args.world.now.layout) edits c.args.player c.in_ok-relevant.relevant c.args.steps.now
    c.gather.new.steps c.relevant_sight.new.steps (is_noted c.args.noted.now) most
    (c.relevant_actors_are_listed.ensures (table_in c.args.world.now.layout) edits c.args.player) is
    (c.gather.ensures.steps edits graph look.world)
    (c.relevant_sight.ensures.steps edits past kept samples most look
    (are_relevant (table_in c.args.world.now.layout) edits c.args.player c.in_ok-relevant.relevant is) first p)
