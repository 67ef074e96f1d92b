use Rattle.std.proofs.Common.{sym, ap, ◌∙◌}
use Rattle.connection_model.specs.Handed.{server_verdict}
use Rattle.server_hearing.proofs.Judging.{judged_stops, judged_call}
use Rattle.server_hearing.proofs.calls.hear_call.Goals as goal

pub returns-in_err-read : goal.returns-in_err-read
returns-in_err-read c = λ edits past samples k bound.
    judged_stops c.args.world.now.layout edits c.args.player past c.args.message.now c.reader-reader.result
    c.player_call.new.reader c.from_residual.result c.in_err-read.field-0.0 c.from_residual.ensures.1
    (c.reader-reader.ensures.left ∙ c.lend-bits.ensures) (c.in_err-read.ensures edits past samples k)

pub returns : goal.returns
returns c = λ edits past samples k bound.
    judged_call c.args.world.now.layout edits c.args.player past c.args.message.now c.reader-reader.result
    c.player_call.new.reader c.in_ok-read.read c.verdict_on-verdict.result
    (c.reader-reader.ensures.left ∙ c.lend-bits.ensures) (c.in_ok-read.ensures edits past samples k)
    (c.verdict_on-verdict.ensures edits k.world
    ∙ ap (server_verdict edits c.args.player c.in_ok-read.read.actor) (c.holds-held.ensures past bound))
