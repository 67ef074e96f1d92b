use Rattle.std.proofs.Common.{◌∙◌}
use Rattle.class_members.proofs.Naming.{any_call}
use Rattle.class_members.proofs.call.is_taken.Goals as goal

pub returns : goal.returns
returns c = c.is_there.ensures ∙ any_call c.args.name.now c.args.calls.now
