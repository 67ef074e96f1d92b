-- What hands nothing on and receives no reliable bunch leaves who holds a channel as it was.
use Rattle.std.proofs.Common.{◌≡◌, ℕ, List, [], Bool, false, Option, None, is_some, unwrap_or, find, filter, filter_map, refl, ap, sym, ◌∙◌, subst}
use Rattle.std.specs.List.{AllByRecursion}
use Rattle.protocol_model.specs.Search.{newest_of, items_since, ascending_numbers}
use Rattle.connection_model.specs.Feed.{Past, Delivered}
use Rattle.connection_model.specs.Windows.{Received, received_on, applied_of, kept_of}
use Rattle.connection_model.specs.Copies.{delivered_of, removes, class_opened, channel_said, actor_opened, is_on}
use Rattle.receiving_laws.specs.Holders.{holder_said, is_copied_on}
use Rattle.client_laws.specs.Holding.{Agrees, Holds, IsSound, Begun}

-- the same by what was handed on alone
abbrev channel_by : List Delivered → (actor : ℕ) → Option ℕ
channel_by ds a = unwrap_or (newest_of (channel_said a) (items_since (removes a) ds)) None

abbrev copied_by : List Delivered → List ℕ
copied_by ds =
    filter (λ a. is_some (newest_of (class_opened a) (items_since (removes a) ds)))
    (ascending_numbers (filter_map actor_opened ds))

abbrev on_by : List Delivered → (ch : ℕ) → Option ℕ
on_by ds ch = find (λ a. is_on ch (channel_by ds a)) (copied_by ds)

abbrev said_by : List Delivered → (ch : ℕ) → Bool
said_by ds ch = unwrap_or (newest_of (holder_said ch) ds) false

pub agrees_still : (past later : Past) → delivered_of later ≡ delivered_of past → Agrees past → Agrees later
agrees_still past later e agrees = record {
  holder =
      λ ch. ap (λ (ds : List Delivered). is_some (on_by ds ch)) e ∙ agrees.holder ch
      ∙ sym (ap (λ (ds : List Delivered). said_by ds ch) e);
  apart =
      λ ch a b h k. agrees.apart ch a b (sym (ap (λ (ds : List Delivered). channel_by ds a) e) ∙ h)
      (sym (ap (λ (ds : List Delivered). channel_by ds b) e) ∙ k);
}

pub holds_still : (past later : Past) → delivered_of later ≡ delivered_of past
    → ((ch : ℕ) → received_on later ch ≡ received_on past ch) → Holds past → Holds later
holds_still past later e same h = record {
  agrees = agrees_still past later e h.agrees;
  begun = λ ch.
      subst (λ (copied : Bool). Begun copied (kept_of (applied_of (received_on later ch))))
      (sym (ap (λ (ds : List Delivered). said_by ds ch) e))
      (subst (λ (got : List Received). Begun (is_copied_on past ch) (kept_of (applied_of got)))
      (sym (same ch)) (h.begun ch));
  sound = λ ch. subst (AllByRecursion (λ (r : Received). IsSound r.1)) (sym (same ch)) (h.sound ch);
}

-- before anything was done all holds
pub holds_nothing : Holds []
holds_nothing = record {
  agrees = record { holder = λ ch. refl; apart = λ ch a b h k. absurd (cc) };
  begun = λ ch. record { opens = λ e. refl; closes = refl };
  sound = λ ch. tt;
}
