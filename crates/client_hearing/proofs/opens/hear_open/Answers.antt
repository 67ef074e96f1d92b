use Rattle.std.proofs.Common.{Ok, Err}
use Rattle.client_hearing.specs.declared.halt.Halt.{Halt}
use Rattle.client_hearing.specs.Hearing.{IsHeard}
use Rattle.client_hearing.proofs.Leaving.{open_reads}
use Rattle.client_hearing.proofs.Opened.{may_begin, open_halts, open_told}
use Rattle.client_hearing.proofs.Turns.{carried}
use Rattle.client_hearing.proofs.opens.hear_open.Goals as goal

pub read_open-requires : goal.read_open-requires
read_open-requires c = c.requires.5.reads.placed

pub begin_copy-requires-clause-index : goal.begin_copy-requires-clause-index
begin_copy-requires-clause-index c =
    let r = c.requires in
    (may_begin c.args.classes.now r.0 c.args.table.now.bound c.args.names.now c.read_open.new.names
    c.args.copies.now r.4 r.1 c.args.m.now r.2 r.3 c.in_ok-read.read r.5 r.6
    (open_told c.args.classes.now r.0 c.args.table.now.bound c.args.names.now c.read_open.new.names
    c.args.copies.now r.4 r.1 c.args.m.now r.2 r.3 (Ok c.in_ok-read.read) c.in_ok-read.ensures.heard r.5
    r.6)).index

pub begin_copy-requires-clause-most : goal.begin_copy-requires-clause-most
begin_copy-requires-clause-most c =
    let r = c.requires in
    (may_begin c.args.classes.now r.0 c.args.table.now.bound c.args.names.now c.read_open.new.names
    c.args.copies.now r.4 r.1 c.args.m.now r.2 r.3 c.in_ok-read.read r.5 r.6
    (open_told c.args.classes.now r.0 c.args.table.now.bound c.args.names.now c.read_open.new.names
    c.args.copies.now r.4 r.1 c.args.m.now r.2 r.3 (Ok c.in_ok-read.read) c.in_ok-read.ensures.heard r.5
    r.6)).most

pub begin_copy-requires-clause-free : goal.begin_copy-requires-clause-free
begin_copy-requires-clause-free c =
    let r = c.requires in
    (may_begin c.args.classes.now r.0 c.args.table.now.bound c.args.names.now c.read_open.new.names
    c.args.copies.now r.4 r.1 c.args.m.now r.2 r.3 c.in_ok-read.read r.5 r.6
    (open_told c.args.classes.now r.0 c.args.table.now.bound c.args.names.now c.read_open.new.names
    c.args.copies.now r.4 r.1 c.args.m.now r.2 r.3 (Ok c.in_ok-read.read) c.in_ok-read.ensures.heard r.5
    r.6)).free

pub begin_copy-requires-clause-unbound : goal.begin_copy-requires-clause-unbound
begin_copy-requires-clause-unbound c =
    let r = c.requires in
    (may_begin c.args.classes.now r.0 c.args.table.now.bound c.args.names.now c.read_open.new.names
    c.args.copies.now r.4 r.1 c.args.m.now r.2 r.3 c.in_ok-read.read r.5 r.6
    (open_told c.args.classes.now r.0 c.args.table.now.bound c.args.names.now c.read_open.new.names
    c.args.copies.now r.4 r.1 c.args.m.now r.2 r.3 (Ok c.in_ok-read.read) c.in_ok-read.ensures.heard r.5
    r.6)).unbound

pub begin_copy-requires-clause-empty : goal.begin_copy-requires-clause-empty
begin_copy-requires-clause-empty c =
    let r = c.requires in
    (may_begin c.args.classes.now r.0 c.args.table.now.bound c.args.names.now c.read_open.new.names
    c.args.copies.now r.4 r.1 c.args.m.now r.2 r.3 c.in_ok-read.read r.5 r.6
    (open_told c.args.classes.now r.0 c.args.table.now.bound c.args.names.now c.read_open.new.names
    c.args.copies.now r.4 r.1 c.args.m.now r.2 r.3 (Ok c.in_ok-read.read) c.in_ok-read.ensures.heard r.5
    r.6)).empty

pub returns-in_err-read-clause-heard : goal.returns-in_err-read-clause-heard
returns-in_err-read-clause-heard c = λ version w raw held calls h opens.
    carried (IsHeard c.args.classes.now version c.args.table.now.bound c.read_open.new.names c.args.copies.now
    calls w raw) c.from_residual.result c.in_err-read.field-0.0 c.from_residual.ensures.1
    (open_halts c.args.classes.now version c.args.table.now.bound c.args.table.now.bound c.args.names.now
    c.read_open.new.names c.args.copies.now calls w c.args.m.now raw held c.in_err-read.field-0.0 h
    (open_told c.args.classes.now version c.args.table.now.bound c.args.names.now c.read_open.new.names
    c.args.copies.now calls w c.args.m.now raw held (Err c.in_err-read.field-0.0) c.in_err-read.ensures.heard
    h opens))

pub returns-in_err-begin_copy-clause-heard : goal.returns-in_err-begin_copy-clause-heard
returns-in_err-begin_copy-clause-heard c = λ version w raw held calls h opens.
    carried (IsHeard c.args.classes.now version c.begin_copy.new.table.bound c.read_open.new.names
    c.begin_copy.new.copies calls w raw) c.from_residual-in_err-begin_copy.result Halt.Memory
    c.from_residual-in_err-begin_copy.ensures.1 tt

pub returns-clause-heard : goal.returns-clause-heard
returns-clause-heard c = λ version w raw held calls h opens.
    let heard = open_told c.args.classes.now version c.args.table.now.bound c.args.names.now
    c.read_open.new.names c.args.copies.now calls w c.args.m.now raw held (Ok c.in_ok-read.read)
    c.in_ok-read.ensures.heard h opens in (
      _,
      heard.1,
      open_reads c.args.classes.now version c.args.table.now.bound c.begin_copy.new.table.bound
          c.args.names.now c.read_open.new.names c.args.copies.now c.begin_copy.new.copies calls w
          c.args.m.now raw held heard.0 c.in_ok-read.read h heard.1 heard.2
          c.in_ok-begin_copy.ensures.channels c.in_ok-begin_copy.ensures.pairs
          (c.in_ok-begin_copy.ensures.follows h.reads.placed)
          (c.in_ok-begin_copy.ensures.placed h.reads.placed),
    )
