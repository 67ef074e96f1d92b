use Rattle.std.proofs.Common.{◌∙◌, sym, subst}
use Rattle.protocol_model.specs.Side.{AtClient}
use Rattle.connection_model.specs.Items.{due_items}
use Rattle.packing_laws.specs.Beginning.{after_offers}
use Rattle.bunch_packing.specs.Both.{PacksBoth}
use Rattle.client_sending.proofs.Waiting.{not_true, not_false, ticking_on, firsts_all, firsts_full}
use Rattle.client_sending.proofs.ticks.offer_firsts.Goals as goal

pub offer_calls-requires : goal.offer_calls-requires
offer_calls-requires c =
    let r = c.requires in (
      r.0,
      r.1,
      after_offers r.0 r.2 (due_items r.2.past),
      ticking_on c.args.link.now c.offer_due.new.link c.args.table.now c.offer_due.new.table r.0 r.1 r.2
          (due_items r.2.past) r.3 (c.in_ok-offer_due.ensures.packs r.0 AtClient r.1 r.2 r.3.both r.4)
          (not_true (after_offers r.0 r.2 (due_items r.2.past)).full
          (sym (c.in_ok-offer_due.ensures.room r.0 AtClient r.1 r.2 r.3.both r.4) ∙ c.if-branch.true))
          c.offer_due.ensures.bound c.offer_due.ensures.waiting,
    )

pub returns-in_ok-offer_calls-clause-packs : goal.returns-in_ok-offer_calls-clause-packs
returns-in_ok-offer_calls-clause-packs c = λ end before p h none.
    subst (PacksBoth c.offer_calls.new.link c.offer_due.new.table end AtClient before) (firsts_all end before p)
    (c.in_ok-offer_calls.ensures.packs end before (after_offers end p (due_items p.past))
    (ticking_on c.args.link.now c.offer_due.new.link c.args.table.now c.offer_due.new.table end before p
    (due_items p.past) h (c.in_ok-offer_due.ensures.packs end AtClient before p h.both none)
    (not_true (after_offers end p (due_items p.past)).full
    (sym (c.in_ok-offer_due.ensures.room end AtClient before p h.both none) ∙ c.if-branch.true))
    c.offer_due.ensures.bound c.offer_due.ensures.waiting))

pub returns-else-branch-clause-packs : goal.returns-else-branch-clause-packs
returns-else-branch-clause-packs c = λ end before p h none.
    subst (PacksBoth c.offer_due.new.link c.offer_due.new.table end AtClient before)
    (firsts_full end before p
    (not_false (after_offers end p (due_items p.past)).full
    (sym (c.in_ok-offer_due.ensures.room end AtClient before p h.both none) ∙ c.if-branch.false)))
    (c.in_ok-offer_due.ensures.packs end AtClient before p h.both none)
