use Rattle.std.proofs.Common.{◌∷◌, refl}
use Rattle.connection_model.specs.Feed.{Took}
use Rattle.ack_book.proofs.KeepsSteps.{like_keeps}
use Rattle.ack_book.proofs.laws.handed_is_unseen.Goals as goal

pub returns : goal.returns
returns c = λ book v past m entries before after h.
    like_keeps book v (Took m entries before ∷ past) (Took m entries after ∷ past) h refl refl refl refl (λ n. refl)
