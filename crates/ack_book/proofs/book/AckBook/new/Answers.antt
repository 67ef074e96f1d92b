use Rattle.std.proofs.Common.{ℕ, ap}
use Rattle.circular_buffer.specs.Buffer.{Buffer}
use Rattle.ack_book.proofs.KeepsSteps.{new_keeps}
use Rattle.ack_book.proofs.book.AckBook.new.Goals as goal

pub returns : goal.returns
returns c =
    new_keeps c.args.version c.in_ok-owed.owed.items c.in_ok-arrived.arrived.items c.in_ok-told.told.items _
    (ap (λ (b : Buffer ℕ). b.items) c.in_ok-owed.ensures) (c.in_ok-arrived.ensures.items_if_clones_equal (λ y h. h))
