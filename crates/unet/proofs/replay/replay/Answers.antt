use Rattle.std.proofs.Common.{◌<◌, ◌^◌, length, sym, subst, ◌∙◌, OnErr, arith}
use Rattle.class_layout.specs.Tables.{table_in}
use Rattle.replay_core.proofs.Following.{lines_may}
use Rattle.transcripts.specs.Takes.{TakesPrefix}
use Rattle.unet.specs.Outcome.{Outcome}
use Rattle.unet.proofs.Ran.{script_bad}
use Rattle.unet.proofs.replay.replay.Goals as goal

pub play-requires : goal.play-requires
play-requires g c =
    let few : length c.as_slice.result.now < 2 ^ 61 = omega (arith, c.as_slice.type_inv.1) in
    rw c.as_slice.ensures
    (lines_may c.args.classes.now c.args.script.now c.in-Ok.lines c.in-Ok.ensures.ok c.in-Ok.ensures.told (rw c.as_slice.ensures at few))

pub returns-in_ok-said-in-Err-BadLine-clause-early : goal.returns-in_ok-said-in-Err-BadLine-clause-early
returns-in_ok-said-in-Err-BadLine-clause-early g c =
    let line = c.in-Err-BadLine.line in
    let why = c.in-Err-BadLine.why in
    let bad = script_bad (table_in c.args.classes.now) c.args.script.now line why (c.in-Err-BadLine.ensures.refused line why c.in-Err-BadLine.field-0-is) in
    subst (λ (o : Outcome). OnErr c.tell.result (TakesPrefix (g.S.Sink.taken c.args.out.now) (g.S.Sink.taken c.tell.new.out) o.text))
    (c.in_ok-said-in-Err-BadLine.ensures ∙ sym bad) c.tell.ensures.early
