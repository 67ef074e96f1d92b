use Rattle.std.proofs.Common.{rules, arith, ◌≡◌, sym, subst}
use Rattle.std.proofs.lemmas.Grind.{common_steps}
use Rattle.sender_records.specs.Handles.{KeepsHandles}
use Rattle.sender_steps.specs.Sender.{record_in}
use Rattle.sender_steps.proofs.moved.tell.Goals as goal

pub returns-in-Some-clause-told : goal.returns-in-Some-clause-told
returns-in-Some-clause-told c = λ past later samples m k.
    let old_is : (record_in c.args.records.now.entries c.args.actor).handles ≡ c.in-Some.record.now.handles =
    first_of (search rules, grind (arith, common_steps)) in
    let new_is : (record_in (c.get_mut.follows.lender (record {
      actor = c.in-Some.record.now.actor;
      life =
          c.in-Some.record.now.life;
      service = c.in-Some.record.now.service;
      handles = c.moves.new.self;
    })).entries
    c.args.actor).handles
    ≡ c.moves.new.self = first_of (search rules, grind (arith, common_steps)) in
    subst (KeepsHandles later samples c.args.actor) (sym new_is)
    (c.moves.ensures.keeps past later c.args.actor samples
    (subst (KeepsHandles past samples c.args.actor) old_is k) m)

pub returns-in-Some-clause-again : goal.returns-in-Some-clause-again
returns-in-Some-clause-again c = λ past later samples m k.
    let old_is : (record_in c.args.records.now.entries c.args.actor).handles ≡ c.in-Some.record.now.handles =
    first_of (search rules, grind (arith, common_steps)) in
    let new_is : (record_in (c.get_mut.follows.lender (record {
      actor = c.in-Some.record.now.actor;
      life =
          c.in-Some.record.now.life;
      service = c.in-Some.record.now.service;
      handles = c.moves.new.self;
    })).entries
    c.args.actor).handles
    ≡ c.moves.new.self = first_of (search rules, grind (arith, common_steps)) in
    subst (KeepsHandles later samples c.args.actor) (sym new_is)
    (c.moves.ensures.again past later c.args.actor samples
    (subst (KeepsHandles later samples c.args.actor) old_is k) m)
