use Rattle.std.proofs.Common.{◌∙◌, ap, sym}
use Rattle.script_model.specs.Reports.{hex_of}
use Rattle.table_text.proofs.Lines.{summary_is}
use Rattle.table_text.proofs.check.check_text.Goals as goal

pub returns : goal.returns
returns c = λ file same.
    summary_is c.args.classes.now file _ _ _ _ _ c.in_ok-text.ensures.ok c.in_ok-put_classes.ensures
    (c.in_ok-digest.ensures ∙ ap (λ bytes. hex_of bytes) (c.digest.ensures ∙ same)) c.in_ok-writeln.ensures.bytes c.count-count.ensures
