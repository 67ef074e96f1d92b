use Rattle.std.proofs.Common.{◌∷◌, refl}
use Rattle.connection_model.specs.Feed.{Ended}
use Rattle.ack_book.proofs.KeepsSteps.{like_keeps}
use Rattle.ack_book.proofs.laws.ending_is_unseen.Goals as goal

pub returns : goal.returns
returns c = λ book v past ending h. like_keeps book v past (Ended ending ∷ past) h refl refl refl refl (λ n. refl)
