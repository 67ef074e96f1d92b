use Rattle.std.proofs.Common.{[], ◌∷◌, sym, ap, ◌∙◌, rules}
use Rattle.std.specs.Option.{option_copied}
use Rattle.class_layout.specs.Tables.{table_in}
use Rattle.net_driver.proofs.LookChain.{few_none}
use Rattle.net_driver.proofs.LookOne.{dead_looked, seated_at, looking_one, seen_looked, few_seen}
use Rattle.net_driver.proofs.driver.ticking.look_from.Goals as goal

pub sight_of-requires : goal.sight_of-requires
sight_of-requires g c =
    let r = c.requires.looking in
    let s = seated_at (table_in c.args.world.now.layout) r.0 r.2 r.1 c.args.ends.now.slots c.args.chair.now r.4
    c.in-Some.key c.in-Some-get.end.now r.6 (sym c.living.ensures ∙ c.in-Some.is)
    (sym c.get.ensures ∙ ap option_copied c.in-Some-get.is) in
    record {
      looking = (
        r.0,
        _,
        s.lives.before,
        r.3,
        looking_one c.args.world.now c.args.graph.now c.args.graves.now c.args.noted.now
            c.args.changes.now r.0 r.2 r.3 r.1 c.in-Some-get.end.now c.args.chair.now r.4 r.5 s,
        r.5.nodes,
        r.5.buried,
      );
    }

pub returns-clause-looked : goal.returns-clause-looked
returns-clause-looked g c = λ edits greatest before samples seat h seated.
    let s = seated_at (table_in c.args.world.now.layout) edits before greatest c.args.ends.now.slots c.args.chair.now seat
    c.in-Some.key c.in-Some-get.end.now seated (sym c.living.ensures ∙ c.in-Some.is)
    (sym c.get.ensures ∙ ap option_copied c.in-Some-get.is) in
    let l = looking_one c.args.world.now c.args.graph.now c.args.graves.now c.args.noted.now c.args.changes.now edits before
    samples greatest c.in-Some-get.end.now c.args.chair.now seat h s in
    seen_looked c.args.world.now.layout edits c.args.graves.now before samples greatest c.in-Some-get.end.now
    c.args.chair.now seat c.args.noted.now c.sight_of.new.noted c.sight_of.new.changes c.args.steps.now
    c.sight_of.new.steps c.in_ok-sight.sight c.args.sights.now.items _ s
    (record {
      given = c.in_ok-sight.ensures.given edits _ s.lives.before samples l h.nodes h.buried;
      made = c.in_ok-sight.ensures.made edits _ s.lives.before samples l h.nodes h.buried;
      notes = (c.in_ok-sight.ensures.looking edits _ s.lives.before samples l h.nodes).notes;
      noted = c.in_ok-sight.ensures.noted edits _ s.lives.before samples l h.nodes;
      steps = c.in_ok-sight.ensures.steps_ok edits _ s.lives.before samples l h.nodes;
    }) (search rules)

pub returns-clause-steps : goal.returns-clause-steps
returns-clause-steps g c = λ edits greatest before samples seat h seated.
    let s = seated_at (table_in c.args.world.now.layout) edits before greatest c.args.ends.now.slots c.args.chair.now seat
    c.in-Some.key c.in-Some-get.end.now seated (sym c.living.ensures ∙ c.in-Some.is)
    (sym c.get.ensures ∙ ap option_copied c.in-Some-get.is) in
    let l = looking_one c.args.world.now c.args.graph.now c.args.graves.now c.args.noted.now c.args.changes.now edits before
    samples greatest c.in-Some-get.end.now c.args.chair.now seat h s in
    few_seen (table_in c.args.world.now.layout) edits before greatest c.in-Some-get.end.now c.args.chair.now seat
    c.args.noted.now c.args.steps.now c.sight_of.new.steps s
    (λ most. c.sight_of.ensures.steps edits _ s.lives.before samples most l h.nodes)

pub returns-in_err-sight-clause-steps : goal.returns-in_err-sight-clause-steps
returns-in_err-sight-clause-steps g c = λ edits greatest before samples seat h seated.
    let s = seated_at (table_in c.args.world.now.layout) edits before greatest c.args.ends.now.slots c.args.chair.now seat
    c.in-Some.key c.in-Some-get.end.now seated (sym c.living.ensures ∙ c.in-Some.is)
    (sym c.get.ensures ∙ ap option_copied c.in-Some-get.is) in
    let l = looking_one c.args.world.now c.args.graph.now c.args.graves.now c.args.noted.now c.args.changes.now edits before
    samples greatest c.in-Some-get.end.now c.args.chair.now seat h s in
    few_seen (table_in c.args.world.now.layout) edits before greatest c.in-Some-get.end.now c.args.chair.now seat
    c.args.noted.now c.args.steps.now c.sight_of.new.steps s
    (λ most. c.sight_of.ensures.steps edits _ s.lives.before samples most l h.nodes)

pub returns-in_err-push-2-clause-steps : goal.returns-in_err-push-2-clause-steps
returns-in_err-push-2-clause-steps g c = λ edits greatest before samples seat h seated.
    let s = seated_at (table_in c.args.world.now.layout) edits before greatest c.args.ends.now.slots c.args.chair.now seat
    c.in-Some.key c.in-Some-get.end.now seated (sym c.living.ensures ∙ c.in-Some.is)
    (sym c.get.ensures ∙ ap option_copied c.in-Some-get.is) in
    let l = looking_one c.args.world.now c.args.graph.now c.args.graves.now c.args.noted.now c.args.changes.now edits before
    samples greatest c.in-Some-get.end.now c.args.chair.now seat h s in
    few_seen (table_in c.args.world.now.layout) edits before greatest c.in-Some-get.end.now c.args.chair.now seat
    c.args.noted.now c.args.steps.now c.sight_of.new.steps s
    (λ most. c.sight_of.ensures.steps edits _ s.lives.before samples most l h.nodes)

pub returns-in_err-push-clause-steps : goal.returns-in_err-push-clause-steps
returns-in_err-push-clause-steps g c = λ edits greatest before samples seat h seated.
    few_none (table_in c.args.world.now.layout) edits c.args.noted.now c.args.steps.now (seat ∷ [])

pub returns-in_default-clause-looked : goal.returns-in_default-clause-looked
returns-in_default-clause-looked g c = λ edits greatest before samples seat h seated.
    dead_looked c.args.world.now c.args.graph.now c.args.graves.now c.args.noted.now c.args.changes.now edits before samples
    greatest c.args.ends.now.slots c.args.chair.now seat c.args.steps.now c.args.sights.now.items _ h seated
    (sym c.living.ensures ∙ c.in_default.is) (search rules)

pub returns-in_default-clause-steps : goal.returns-in_default-clause-steps
returns-in_default-clause-steps g c = λ edits greatest before samples seat h seated.
    few_none (table_in c.args.world.now.layout) edits c.args.noted.now c.args.steps.now (seat ∷ [])

pub returns-in_default-get-clause-steps : goal.returns-in_default-get-clause-steps
returns-in_default-get-clause-steps g c = λ edits greatest before samples seat h seated.
    few_none (table_in c.args.world.now.layout) edits c.args.noted.now c.args.steps.now (seat ∷ [])
