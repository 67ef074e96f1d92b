use Rattle.std.proofs.Common.{◌∙◌, ℕ, Err, sym, ap, subst}
use Rattle.client_hearing.specs.declared.halt.Halt.{Halt}
use Rattle.client_hearing.specs.Hearing.{IsUnopenedHeard, halt_of}
use Rattle.client_hearing.proofs.Readings.{unopened_ok, unopened_stop}
use Rattle.client_hearing.proofs.payloads.read_unopened.Goals as goal

pub returns-in-Ok : goal.returns-in-Ok
returns-in-Ok c = λ version past raw copies is o.
    unopened_ok c.args.classes.now version c.args.copies.now past raw c.args.m.now c.reader-reader.result
    c.unopened.new.reader c.in-Ok.payload copies is o
    (c.reader-reader.ensures.left ∙ c.lend-bits.ensures) c.in-Ok.ensures

pub returns-in-Err : goal.returns-in-Err
returns-in-Err c = λ version past raw copies is o.
    subst (λ (h : Halt). IsUnopenedHeard c.args.classes.now version c.args.copies.now past raw
    c.args.m.now.channel c.args.m.now.sleeps (Err h))
    (sym (c.halt.ensures ∙ ap (λ (n : ℕ). halt_of c.args.m.now.channel n c.in-Err.stop) c.len.ensures))
    (unopened_stop c.args.classes.now version c.args.copies.now past raw c.args.m.now c.reader-reader.result
    c.unopened.new.reader c.in-Err.stop copies is o
    (c.reader-reader.ensures.left ∙ c.lend-bits.ensures) c.in-Err.ensures)
