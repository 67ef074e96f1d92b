use Rattle.std.proofs.Common.{ap, ◌∙◌, ◌∷◌, arith}
use Rattle.circular_buffer.specs.Buffer.{buffer}
use Rattle.std.proofs.lemmas.List.{take_all}
use Rattle.shadow_changes.proofs.lists.push.Goals as goal

pub returns : goal.returns
returns c =
    c.push_front.ensures.items
    ∙ ap (λ ns. buffer ns c.args.lists.now.capacity) (take_all c.args.lists.now.capacity
    (c.args.noted ∷ c.args.lists.now.items) (omega arith))
