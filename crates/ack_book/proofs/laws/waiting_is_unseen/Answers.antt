use Rattle.std.proofs.Common.{◌∷◌, refl}
use Rattle.connection_model.specs.Feed.{Waits}
use Rattle.ack_book.proofs.KeepsSteps.{like_keeps}
use Rattle.ack_book.proofs.laws.waiting_is_unseen.Goals as goal

pub returns : goal.returns
returns c = λ book v past message h. like_keeps book v past (Waits message ∷ past) h refl refl refl refl (λ n. refl)
