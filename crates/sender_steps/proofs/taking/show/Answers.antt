use Rattle.std.proofs.Common.{rules, arith, ◌≡◌, ◌∙◌, ap, sym, subst, ◌∷◌}
use Rattle.std.proofs.lemmas.Grind.{common_steps}
use Rattle.connection_model.specs.Feed.{Ticked}
use Rattle.sender_records.specs.Service.{KeepsService}
use Rattle.sender_steps.specs.declared.sight.Seen.{Seen}
use Rattle.sender_steps.specs.Sender.{record_in}
use Rattle.sender_steps.proofs.taking.show.Goals as goal

pub returns-in-Some-clause-service : goal.returns-in-Some-clause-service
returns-in-Some-clause-service c = λ past sight k tick relevant owned.
    let old_is : (record_in c.args.records.now.entries c.args.seen.now.actor).service ≡ c.in-Some.record.now.service =
    first_of (search rules, grind (arith, common_steps)) in
    let new_is : (record_in (c.get_mut.follows.lender (record {
      actor = c.in-Some.record.now.actor;
      life =
          c.in-Some.record.now.life;
      service = c.shows.new.self;
      handles = c.in-Some.record.now.handles;
    })).entries
    c.args.seen.now.actor).service
    ≡ c.shows.new.self = first_of (search rules, grind (arith, common_steps)) in
    subst (KeepsService (Ticked c.args.tick sight ∷ past) c.args.seen.now.actor) (sym new_is)
    (c.shows.ensures.keeps past sight c.args.seen.now.actor (subst (KeepsService past c.args.seen.now.actor) old_is k)
    tick
    (relevant ∙ sym (ap (λ (s : Seen). s.relevant) c.seen.view_is)) (owned
    ∙ sym (ap (λ (s : Seen). s.owns) c.seen.view_is)))

pub returns-in-Ok-clause-service : goal.returns-in-Ok-clause-service
returns-in-Ok-clause-service c = λ past sight k tick relevant owned.
    let old_is : (record_in c.args.records.now.entries c.args.seen.now.actor).service ≡ c.new-record.result.service =
    first_of (search rules, grind (arith, common_steps)) in
    let new_is : (record_in c.insert.new.self.entries c.args.seen.now.actor).service ≡ c.shows-2.new.self =
    first_of (search rules, grind (arith, common_steps)) in
    subst (KeepsService (Ticked c.args.tick sight ∷ past) c.args.seen.now.actor) (sym new_is)
    (c.shows-2.ensures.keeps past sight c.args.seen.now.actor
    (subst (KeepsService past c.args.seen.now.actor) old_is k) tick
    (relevant ∙ sym (ap (λ (s : Seen). s.relevant) c.seen.view_is)) (owned
    ∙ sym (ap (λ (s : Seen). s.owns) c.seen.view_is)))
