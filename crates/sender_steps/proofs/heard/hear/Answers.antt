use Rattle.std.proofs.Common.{rules, arith, ◌≡◌, refl, sym, subst}
use Rattle.std.proofs.lemmas.Grind.{common_steps}
use Rattle.sender_records.specs.Life.{KeepsLife, fresh_life}
use Rattle.sender_records.proofs.LifeSteps.{life_rests}
use Rattle.sender_steps.specs.Sender.{record_in}
use Rattle.sender_steps.proofs.heard.hear.Goals as goal

pub returns-in-Some-clause-keeps : goal.returns-in-Some-clause-keeps
returns-in-Some-clause-keeps c = λ past later g table k.
    let old_is : (record_in c.args.records.now.entries c.args.actor).life ≡ c.in-Some.record.now.life =
    first_of (search rules, grind (arith, common_steps)) in
    let new_is : (record_in (c.get_mut.follows.lender (record {
      actor = c.in-Some.record.now.actor;
      life =
          c.hear_life.new.life;
      service = c.in-Some.record.now.service;
      handles =
          c.in-Some.record.now.handles;
    })).entries c.args.actor).life
    ≡ c.hear_life.new.life = first_of (search rules, grind (arith, common_steps)) in
    subst (KeepsLife later c.args.actor) (sym new_is) (c.hear_life.ensures.keeps past later c.args.actor g table
    (subst (KeepsLife past c.args.actor) old_is k))

pub returns-in_default-clause-keeps : goal.returns-in_default-clause-keeps
returns-in_default-clause-keeps c = λ past later g table k.
    let old_is : (record_in c.args.records.now.entries c.args.actor).life ≡ fresh_life =
    first_of (search rules, grind (arith, common_steps)) in
    let new_is : (record_in c.get_mut.follows.lender-at-none.entries c.args.actor).life ≡ fresh_life =
    first_of (search rules, grind (arith, common_steps)) in
    subst (KeepsLife later c.args.actor) (sym new_is)
    (life_rests past later c.args.actor fresh_life (subst (KeepsLife past c.args.actor) old_is k) g.done g.grows refl)
