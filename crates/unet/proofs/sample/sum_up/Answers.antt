use Rattle.std.proofs.Common.{◌≡◌, ◌<◌, ◌^◌, length, sym, subst, IfOk, arith}
use Rattle.class_layout.specs.Tables.{table_in}
use Rattle.replay_core.proofs.Following.{lines_may}
use Rattle.unet.specs.Outcome.{Outcome}
use Rattle.unet.specs.Said.{said_of}
use Rattle.unet.proofs.Ran.{summary_bad}
use Rattle.unet.proofs.sample.sum_up.Goals as goal

pub summary-requires : goal.summary-requires
summary-requires c =
    let few : length c.as_slice.result.now < 2 ^ 61 = omega (arith, c.as_slice.type_inv.1) in
    rw c.as_slice.ensures
    (lines_may c.args.classes.now c.args.script.now c.in-Ok.lines c.in-Ok.ensures.ok c.in-Ok.ensures.told (rw c.as_slice.ensures at few))

pub returns-in-Err-BadLine : goal.returns-in-Err-BadLine
returns-in-Err-BadLine c =
    let line = c.in-Err-BadLine.line in
    let why = c.in-Err-BadLine.why in
    let bad = summary_bad c.args.ticks (table_in c.args.classes.now) c.args.script.now line why
    (c.in-Err-BadLine.ensures.refused line why c.in-Err-BadLine.field-0-is) in
    subst (λ (o : Outcome). IfOk c.refused_script.result (λ said. said_of said ≡ o)) (sym bad) c.refused_script.ensures
