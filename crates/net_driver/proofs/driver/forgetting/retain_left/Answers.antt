use Rattle.std.proofs.Common.{rules, ap, ◌∙◌}
use Rattle.std.proofs.lemmas.Fn.{filter_same}
use Rattle.driver_sights.specs.declared.graves.Grave.{Grave}
use Rattle.net_driver.specs.Sights.{is_left_for}
use Rattle.net_driver.proofs.driver.forgetting.retain_left.Goals as goal

pub returns : goal.returns
returns c = λ table edits samples greatest seats h.
    filter_same _ _ _ (λ x b f' k. (
      k.called.met.1 table edits samples greatest seats h ∙ ap (λ (g : Grave). is_left_for table seats g.actor) k.shows,
      search (k.called.met.0, rules),
    )) _ _ c.retain.ensures.filtered
