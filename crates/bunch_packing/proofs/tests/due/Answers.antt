use Rattle.std.proofs.Common.{sym, ◌∙◌}
use Rattle.connection_model.specs.Items.{due_items}
use Rattle.packing_laws.specs.Beginning.{after_offers}
use Rattle.std.proofs.lemmas.Bool.{not-true}
use Rattle.bunch_packing.proofs.tests.due.Goals as goal

pub returns-clause-ready : goal.returns-clause-ready
returns-clause-ready c = λ e.
    let r = c.requires in (
      r.0,
      r.1,
      r.2,
      after_offers r.0 r.3 (due_items r.3.past),
      c.in_ok-kept.ensures.packs r.0 r.1 r.2 r.3 r.4 r.7,
      r.5,
      not-true (after_offers r.0 r.3 (due_items r.3.past)).full
          (sym (c.in_ok-kept.ensures.room r.0 r.1 r.2 r.3 r.4 r.7) ∙ e),
    )

pub returns-clause-ending : goal.returns-clause-ending
returns-clause-ending c =
    let r = c.requires in
    (r.0, r.1, r.2, after_offers r.0 r.3 (due_items r.3.past), c.in_ok-kept.ensures.packs r.0 r.1 r.2 r.3 r.4 r.7, r.5)
