use Rattle.std.proofs.Common.{length, ap, ◌∙◌}
use Rattle.net_driver.specs.Serves.{Drive}
use Rattle.net_driver.proofs.driver.Driver.joined.Goals as goal

pub returns : goal.returns
returns c = ap length c.as_slice.ensures.value ∙ ap (λ (d : Drive). length d.chairs) c.self.view_is
