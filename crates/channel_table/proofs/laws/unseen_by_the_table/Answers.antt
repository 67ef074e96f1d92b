use Rattle.std.proofs.Common.{[], ◌∷◌, ◌++◌, refl}
use Rattle.connection_model.specs.Feed.{Ticked, Waits, Sent, Took}
use Rattle.channel_laws.proofs.Alike.{alike_ticked, alike_waits, alike_sent, alike_taken}
use Rattle.channel_laws.proofs.Carrying.{alike_with}
use Rattle.channel_laws.proofs.Hearing.{heard_sent}
use Rattle.channel_table.proofs.Kept.{keeps_unseen, keeps_news}
use Rattle.channel_table.proofs.laws.unseen_by_the_table.Goals as goal

pub returns : goal.returns
returns c = record {
  news = λ t side one other n h. keeps_news t side one other n h;
  ticked =
      λ t side past time sight h. keeps_unseen t side past (Ticked time sight ∷ past)
      (alike_ticked time sight past) (record { received = λ ch. refl; channels = refl; handed = refl }) h;
  waits =
      λ t side past message h. keeps_unseen t side past (Waits message ∷ past) (alike_waits message past)
      (record { received = λ ch. refl; channels = refl; handed = refl }) h;
  begun =
      λ t side past packet time h. keeps_unseen t side past (Sent packet time [] ∷ past)
      (alike_sent packet time [] past (λ ch n. refl))
      (record { received = λ ch. refl; channels = refl; handed = refl }) h;
  item =
      λ t side past packet time items item none h. keeps_unseen t side (Sent packet time items ∷ past)
      (Sent packet time (items ++ item ∷ []) ∷ past) (alike_with packet time items item past none)
      (heard_sent packet time items (items ++ item ∷ []) past) h;
  taken =
      λ t side past number h. keeps_unseen t side past (Took number [] [] ∷ past) (alike_taken number [] past)
      (record { received = λ ch. refl; channels = refl; handed = refl }) h;
}
