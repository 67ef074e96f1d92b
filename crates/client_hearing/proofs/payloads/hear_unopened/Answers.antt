use Rattle.client_hearing.specs.declared.halt.Halt.{Halt}
use Rattle.client_hearing.specs.Moments.{past_at}
use Rattle.client_hearing.specs.Hearing.{IsHeard}
use Rattle.client_hearing.proofs.Opened.{unopened_halts}
use Rattle.client_hearing.proofs.Turns.{carried}
use Rattle.client_hearing.proofs.payloads.hear_unopened.Goals as goal

pub read_unopened-requires : goal.read_unopened-requires
read_unopened-requires c = c.requires.5.reads.placed

pub returns-in_err-payload-clause-heard : goal.returns-in_err-payload-clause-heard
returns-in_err-payload-clause-heard c = λ version names w raw held h opens.
    carried (IsHeard c.args.classes.now version c.args.table.now.bound names c.args.copies.now
    c.args.calls.now.items w raw) c.from_residual.result c.in_err-payload.field-0.0 c.from_residual.ensures.1
    (unopened_halts c.args.classes.now version c.args.table.now.bound names c.args.copies.now
    c.args.calls.now.items w c.args.m.now raw held c.in_err-payload.field-0.0 h
    (c.in_err-payload.ensures version (past_at w) raw h.reads.copied h.is_raw opens))

pub returns-in_err-apply-clause-heard : goal.returns-in_err-apply-clause-heard
returns-in_err-apply-clause-heard c = λ version names w raw held h opens.
    carried (IsHeard c.args.classes.now version c.apply.new.table.bound names c.apply.new.copies
    c.apply.new.calls.items w raw) c.from_residual-in_err-apply.result Halt.Memory
    c.from_residual-in_err-apply.ensures.1 tt

pub returns-clause-heard : goal.returns-clause-heard
returns-clause-heard c = λ version names w raw held h opens.
    let result = c.in_ok-payload.ensures version (past_at w) raw h.reads.copied h.is_raw opens in (
      _,
      result,
      c.in_ok-apply.ensures.reads c.args.classes.now version names w raw held h opens result,
    )
