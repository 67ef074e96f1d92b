use Rattle.std.proofs.Common.{◌∷◌, refl}
use Rattle.connection_model.specs.Feed.{Took, Heard}
use Rattle.ack_book.proofs.KeepsSteps.{like_keeps}
use Rattle.ack_book.proofs.laws.heard_is_unseen.Goals as goal

pub returns : goal.returns
returns c = λ book v past m bunch entries handed h.
    like_keeps book v (Took m entries handed ∷ past) (Took m (Heard bunch ∷ entries) handed ∷ past) h refl refl refl refl (λ n. refl)
