use Rattle.std.proofs.Common.{◌∙◌, option_map, ap, arith}
use Rattle.class_members.specs.Members.{call_of}
use Rattle.client_sending.proofs.Meant.{numbered_is}
use Rattle.client_sending.proofs.calls.numbered.Goals as goal

pub returns : goal.returns
returns c = λ segments.
    ap (option_map call_of) c.get.ensures
    ∙ numbered_is segments c.args.class.now c.args.number (omega (arith, c.if-number-eq0.false))
