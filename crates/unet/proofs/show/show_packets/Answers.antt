use Rattle.std.proofs.Common.{ap, sym, refl, ◌∙◌}
use Rattle.script_model.specs.Lines.{Text}
use Rattle.packet_text.specs.Faults.{Explains, fault_of}
use Rattle.unet.specs.Outcome.{Outcome}
use Rattle.unet.specs.Statuses.{bad_packets}
use Rattle.unet.proofs.Ran.{packets_bad}
use Rattle.unet.proofs.show.show_packets.Goals as goal

pub returns-in_ok-refused_text-in-Err-BadLine : goal.returns-in_ok-refused_text-in-Err-BadLine
returns-in_ok-refused_text-in-Err-BadLine c =
    let line = c.in-Err-BadLine.line in
    let fault = fault_of c.in-Err-BadLine.fault in
    let explained : Explains c.in-Err-BadLine.field-0 line fault = rw c.in-Err-BadLine.field-0-is (refl, refl) in
    let bad = c.in-Err-BadLine.ensures.refused line fault explained in
    let say : Text → Outcome = λ text. record { status = bad_packets; text = text } in
    ap say c.in_ok-refused_text-in-Err-BadLine.ensures
    ∙ sym (packets_bad c.args.version c.args.file.now line fault bad)
