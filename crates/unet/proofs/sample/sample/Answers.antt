use Rattle.std.proofs.Common.{◌∙◌}
use Rattle.std.proofs.lemmas.Result.{err_from_is_err_and}
use Rattle.class_layout.specs.Tables.{table_in}
use Rattle.unet.proofs.Ran.{sample_is}
use Rattle.unet.proofs.sample.sample.Goals as goal

pub returns : goal.returns
returns c =
    sample_is c.args.ticks (table_in c.in_ok-classes.classes) c.as_bytes.result.now _ c.in_ok-said.ensures c.in_ok-classes.ensures.table
    (c.as_bytes.ensures.value ∙ c.in_ok-script.ensures)

pub returns-in_err-said : goal.returns-in_err-said
returns-in_err-said c =
    let p = err_from_is_err_and c.from_residual-in_err-said.result c.from_residual-in_err-said.ensures.1 in rw p.1 tt
