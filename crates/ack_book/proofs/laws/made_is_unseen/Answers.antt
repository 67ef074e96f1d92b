use Rattle.std.proofs.Common.{◌∷◌, refl}
use Rattle.connection_model.specs.Feed.{Made}
use Rattle.ack_book.proofs.KeepsSteps.{like_keeps}
use Rattle.ack_book.proofs.laws.made_is_unseen.Goals as goal

pub returns : goal.returns
returns c = λ book v past channel number message i h. like_keeps book v past (Made channel number message i ∷ past) h refl refl refl refl (λ n. refl)
