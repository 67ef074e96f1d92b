-- A sender once a packet begins, and once it has one item more that is no update.
use Rattle.std.proofs.Common.{◌≡◌, ℕ, ◌<◌, List, [], ◌∷◌, ◌++◌, false, sym, ◌∙◌, refl}
use Rattle.connection_model.specs.Feed.{Past, Sent, Item}
use Rattle.connection_model.specs.Fates.{high_of}
use Rattle.connection_model.specs.Items.{is_update_of}
use Rattle.connection_laws.proofs.ActorMarks.{index_same, same_grows}
use Rattle.shadow_changes.specs.Samples.{Samples, samples_of}
use Rattle.sender_laws.specs.Items.{CarriesAwaited}
use Rattle.sender_laws.proofs.Sends.{arrivals_begun, arrivals_sent}
use Rattle.sender_records.proofs.Frames.{actor_begun, actor_sent}
use Rattle.sender_steps.specs.Sender.{Sender, record_in}
use Rattle.sender_steps.specs.Stands.{Keeps}
use Rattle.sender_steps.proofs.KnownMade.{known_sent}

pub keeps_begun : (s : Sender) (n t : ℕ) (past : Past) (samples : Samples)
    → Keeps s past samples → Keeps s (Sent n t [] ∷ past) samples
keeps_begun s n t past samples k = record {
  each = λ a. actor_begun n t past (samples_of samples a) a (record_in s.records a) (k.each a);
  under_way = k.under_way;
  pending = k.pending;
  live = k.live;
  opened = k.opened;
  ascends = k.ascends;
  known = known_sent past (Sent n t [] ∷ past) s.known s.opens refl
      (same_grows past (Sent n t [] ∷ past) (arrivals_begun n t past)) k.known;
  opens = λ i o at. record { made = (k.opens i o at).made; places = (k.opens i o at).places };
  low = λ a ch e. k.low a ch (sym (index_same past (Sent n t [] ∷ past) (arrivals_begun n t past) a refl) ∙ e);
  below = k.below;
  ticks = k.ticks;
  kept = k.kept;
}

pub keeps_item : (s : Sender) (n t : ℕ) (items : List Item) (item : Item) (past : Past) (samples : Samples)
    → high_of past < n → CarriesAwaited (Sent n t items ∷ past) item → ((a : ℕ) → is_update_of a item ≡ false)
    → Keeps s (Sent n t items ∷ past) samples
    → Keeps s (Sent n t (items ++ item ∷ []) ∷ past) samples
keeps_item s n t items item past samples new awaited other k = record {
  each = λ a. actor_sent n t items item past (samples_of samples a) a (record_in s.records a) new awaited (other a)
      (k.each a);
  under_way = k.under_way;
  pending = k.pending;
  live = k.live;
  opened = k.opened;
  ascends = k.ascends;
  known = known_sent (Sent n t items ∷ past) (Sent n t (items ++ item ∷ []) ∷ past) s.known s.opens refl
      (same_grows (Sent n t items ∷ past) (Sent n t (items ++ item ∷ []) ∷ past)
      (arrivals_sent n t items item past new awaited)) k.known;
  opens = λ i o at. record { made = (k.opens i o at).made; places = (k.opens i o at).places };
  low = λ a ch e. k.low a ch (sym (index_same (Sent n t items ∷ past) (Sent n t (items ++ item ∷ []) ∷ past)
      (arrivals_sent n t items item past new awaited) a refl) ∙ e);
  below = k.below;
  ticks = k.ticks;
  kept = k.kept;
}
