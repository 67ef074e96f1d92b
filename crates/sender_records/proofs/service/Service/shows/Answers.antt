use Rattle.std.proofs.Common.{sym, subst, ◌∷◌}
use Rattle.connection_model.specs.Feed.{Ticked}
use Rattle.sender_records.specs.Service.{KeepsService}
use Rattle.sender_records.specs.declared.service.Service.{Service}
use Rattle.sender_records.proofs.ServiceSteps.{shown_keeps}
use Rattle.sender_records.proofs.service.Service.shows.Goals as goal

pub returns : goal.returns
returns c = record {
  keeps = λ past sight actor h now shown owned.
      subst (λ (s : Service). KeepsService (Ticked c.args.tick sight ∷ past) actor s) (sym c.shown.ensures)
      (shown_keeps past c.args.tick sight actor c.args.self.now c.args.relevant c.args.owns h now shown owned);
}
