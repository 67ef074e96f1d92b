use Rattle.std.proofs.Common.{ap, ◌∙◌}
use Rattle.connection_model.specs.State.{is_opened}
use Rattle.server_end.proofs.server_end.ServerEnd.is_opened.Goals as goal

pub returns : goal.returns
returns c = λ end past samples h. c.is_opened.ensures ∙ ap is_opened (c.state.ensures past samples h.sender)
