use Rattle.std.proofs.Common.{refl, sym, ◌∙◌}
use Rattle.connection_model.specs.State.{index_of}
use Rattle.server_end.proofs.CallAnswers.{channel_is}
use Rattle.server_end.proofs.server_end.ServerEnd.channel.Goals as goal

pub returns-then-is_opened : goal.returns-then-is_opened
returns-then-is_opened c = λ end past samples h.
    channel_is past c.args.actor _ (sym c.if-is_opened.true
    ∙ c.is_opened.ensures end past samples h) c.channel_of.result
    (c.channel_of.ensures ∙ h.table.bound c.args.actor)

pub returns-else-is_opened : goal.returns-else-is_opened
returns-else-is_opened c = λ end past samples h.
    channel_is past c.args.actor _ (sym c.if-is_opened.false
    ∙ c.is_opened.ensures end past samples h) (index_of past c.args.actor) refl
