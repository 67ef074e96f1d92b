use Rattle.std.proofs.Common.{rules, arith, ◌≡◌, ◌∙◌, true, ap, sym, refl, subst}
use Rattle.std.proofs.lemmas.Grind.{common_steps}
use Rattle.protocol_model.specs.Side.{AtServer}
use Rattle.connection_model.specs.Feed.{Past}
use Rattle.connection_model.specs.Pack.{after_close}
use Rattle.connection_model.specs.State.{state_of, is_closed}
use Rattle.channel_table.specs.Keeps.{Keeps}
use Rattle.sender_records.specs.Life.{KeepsLife, fresh_life, state_value}
use Rattle.sender_records.specs.Actors.{KeepsActor}
use Rattle.sender_records.specs.declared.life.Life.{Life}
use Rattle.sender_steps.specs.Sender.{record_in}
use Rattle.sender_steps.proofs.Folds.{nothing_called}
use Rattle.sender_steps.proofs.closes.end_in.Goals as goal

pub end_one-requires-clause-stands : goal.end_one-requires-clause-stands
end_one-requires-clause-stands c =
    let old_is : record_in c.args.records.now.entries c.args.actor ≡ c.in-Some.record.now =
    first_of (search rules, grind (arith, common_steps)) in (
      c.requires.stands.0,
      c.requires.stands.1,
      subst (KeepsActor c.requires.stands.0 c.requires.stands.1 c.args.actor)
          old_is c.requires.stands.2,
      c.requires.stands.3,
      c.requires.stands.4,
    )

pub returns-clause-life : goal.returns-clause-life
returns-clause-life c = λ past samples k t tick seen.
    let old_is : record_in c.args.records.now.entries c.args.actor ≡ c.in-Some.record.now =
    first_of (search rules, grind (arith, common_steps)) in
    let new_is : (record_in (c.get_mut.follows.lender c.end_one.new.kept).entries c.args.actor).life
    ≡ c.end_one.new.kept.life = first_of (search rules, grind (arith, common_steps)) in
    subst (KeepsLife (after_close past c.args.actor) c.args.actor) (sym new_is)
    (c.in_ok-made.ensures.life past samples (subst (KeepsActor past samples c.args.actor) old_is k) t tick seen)

pub returns-clause-table : goal.returns-clause-table
returns-clause-table c = λ past samples k t tick seen.
    let old_is : record_in c.args.records.now.entries c.args.actor ≡ c.in-Some.record.now =
    first_of (search rules, grind (arith, common_steps)) in
    c.in_ok-made.ensures.table past samples (subst (KeepsActor past samples c.args.actor) old_is k) t tick seen

pub returns-in_default-clause-life : goal.returns-in_default-clause-life
returns-in_default-clause-life c = λ past samples k t tick seen.
    let old_is : (record_in c.args.records.now.entries c.args.actor).life ≡ fresh_life =
    first_of (search rules, grind (arith, common_steps)) in
    let new_is : (record_in c.get_mut.follows.lender-at-none.entries c.args.actor).life ≡ fresh_life =
    first_of (search rules, grind (arith, common_steps)) in
    let closed : is_closed (state_of past c.args.actor) ≡ true = ap is_closed (sym k.life.state)
    ∙ ap (λ (l : Life). is_closed (state_value l.state)) old_is in
    subst (λ (p : Past). KeepsLife p c.args.actor (record_in c.get_mut.follows.lender-at-none.entries
    c.args.actor).life) (sym (nothing_called past c.args.actor closed))
    (subst (KeepsLife past c.args.actor) (old_is ∙ sym new_is) k.life)

pub returns-in_default-clause-table : goal.returns-in_default-clause-table
returns-in_default-clause-table c = λ past samples k t tick seen.
    let old_is : (record_in c.args.records.now.entries c.args.actor).life ≡ fresh_life =
    first_of (search rules, grind (arith, common_steps)) in
    let closed : is_closed (state_of past c.args.actor) ≡ true = ap is_closed (sym k.life.state)
    ∙ ap (λ (l : Life). is_closed (state_value l.state)) old_is in
    subst (Keeps c.args.table.now AtServer) (sym (nothing_called past c.args.actor closed)) t
