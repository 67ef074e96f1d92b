use Rattle.std.proofs.Common.{◌∙◌, ℕ, Err, sym, ap, subst}
use Rattle.client_hearing.specs.declared.halt.Halt.{Halt}
use Rattle.client_hearing.specs.Hearing.{IsOpenHeard, halt_of}
use Rattle.client_hearing.proofs.Readings.{open_ok, open_stop}
use Rattle.client_hearing.proofs.opens.read_open.Goals as goal

pub returns-in-Ok-clause-heard : goal.returns-in-Ok-clause-heard
returns-in-Ok-clause-heard c = λ version past raw names copies is z cl o.
    open_ok c.args.classes.now version c.args.copies.now past raw c.args.m.now c.reader-reader.result
    c.open.new.reader c.open.new.names c.in-Ok.read copies is z cl o
    (c.reader-reader.ensures.left ∙ c.lend-bits.ensures)
    (c.in-Ok.ensures.exact _ names)

pub returns-in-Err-clause-heard : goal.returns-in-Err-clause-heard
returns-in-Err-clause-heard c = λ version past raw names copies is z cl o.
    subst (λ (h : Halt). IsOpenHeard c.args.classes.now version past raw c.open.new.names (Err h))
    (sym (c.halt.ensures ∙ ap (λ (n : ℕ). halt_of c.args.m.now.channel n c.in-Err.stop) c.len.ensures))
    (open_stop c.args.classes.now version c.args.copies.now past raw c.args.m.now c.reader-reader.result
    c.open.new.reader c.open.new.names c.in-Err.stop copies is z cl o
    (c.reader-reader.ensures.left ∙ c.lend-bits.ensures)
    (c.in-Err.ensures.exact _ names))
