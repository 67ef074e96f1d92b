use Rattle.std.proofs.Common.{List, ap, ◌∙◌}
use Rattle.std.specs.Prelude.{slice_get}
use Rattle.net_driver.specs.declared.chair.Chair.{Chair}
use Rattle.net_driver.specs.Serves.{Drive}
use Rattle.net_driver.proofs.driver.Driver.chair.Goals as goal

pub returns : goal.returns
returns c =
    c.chair_at.ensures ∙ ap (λ (cs : List Chair). slice_get cs c.args.i) c.as_slice.ensures.value
    ∙ ap (λ (d : Drive). slice_get d.chairs c.args.i) c.self.view_is
