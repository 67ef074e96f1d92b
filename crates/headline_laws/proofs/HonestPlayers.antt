-- The laws of links, for players of whom nothing was forged.
use Rattle.std.specs.List.{AllByRecursion}
use Rattle.protocol_model.specs.Payload.{message_bits, parts_of}
use Rattle.payload_laws.proofs.Bounds.{parts_most}
use Rattle.std.proofs.Common.{◌≡◌, ℕ, ◌≤◌, length, arith, List, [], ◌∷◌, ◌++◌, map, false, refl, sym, ap, ◌∙◌, subst}
use Rattle.protocol_model.specs.Side.{Side, AtServer, AtClient}
use Rattle.script_model.specs.Lines.{Line}
use Rattle.connection_model.specs.Feed.{End, Past}
use Rattle.connection_model.specs.Windows.{received_on, applied_of, wholes_of}
use Rattle.replication_model.specs.Headline.{HasJoined, IsHonest}
use Rattle.replication_model.specs.Story.{Player, story_of, end_of, past_at, feed_of, other_side}
use Rattle.connection_laws.specs.Link.{IsLink}
use Rattle.connection_laws.specs.Delivered.{Numbered, messages_on, payload_of, handed_reliably, ReadEach, NeverOverruns, JoinsFrom, is_closed_by, ReceivesPrefixes}
use Rattle.connection_laws.proofs.StoriesTalk.{linked, talks_honestly, delivers}
use Rattle.connection_laws.proofs.LinkLaws.{overruns_there, overruns_back, misjoins_there, misjoins_back}
use Rattle.connection_laws.proofs.HandingOn.{hands_received}
use Rattle.table_model.specs.Facts.{IsTable}
use Rattle.table_model.specs.Rules.{Entry}
use Rattle.table_model.specs.Grammar.{table_of}
use Rattle.payload_laws.specs.Accepted.{AreAccepted}
use Rattle.headline_laws.specs.Placed.{HandsFirst}
use Rattle.headline_laws.proofs.WholeMessages.{messages_short}
use Rattle.headline_laws.proofs.Stories.{ends_fit, all_read}

-- a prefix of what is mapped is mapped from a prefix
mapped_first : {A B : Type 0} (f : A → B) (ys : List A) (xs zs : List B) → map f ys ≡ xs ++ zs → (a : List A) × ((b : List A) × (ys ≡ a ++ b) × (xs ≡ map f a))
mapped_first f ys [] zs e = ([], (ys, refl, refl))
mapped_first f [] (x ∷ xs) zs e = absurd (cc)
mapped_first {A} {B} f (y ∷ ys) (x ∷ xs) zs e =
    let r = mapped_first f ys xs zs (same_tail (f y) x (map f ys) (xs ++ zs) e) in
    (y ∷ r.0, (r.1.0, ap (λ (l : List A). y ∷ l) r.1.1, ap (λ (z : B). z ∷ xs) (sym (same_head (f y) x (map f ys) (xs ++ zs) e)) ∙ ap (λ (l : List B). f y ∷ l) r.1.2))
  where
    same_head : {A : Type 0} (x y : A) (xs ys : List A) → x ∷ xs ≡ y ∷ ys → x ≡ y
    same_head x y xs ys e = cc

    same_tail : {A : Type 0} (x y : A) (xs ys : List A) → x ∷ xs ≡ y ∷ ys → xs ≡ ys
    same_tail x y xs ys e = cc

module _ (entries : List Entry) (lines : List Line) (p : Player) (is : IsTable entries) (ok : AreAccepted (table_of entries) (story_of (table_of entries) lines).0.edits)
    (joined : HasJoined (story_of (table_of entries) lines).0 p) (honest : IsHonest lines p.number) where
  pub link : IsLink (end_of (table_of entries) AtServer p) (end_of (table_of entries) AtClient p) (past_at (table_of entries) AtServer p) (past_at (table_of entries) AtClient p)
  link =
      linked (end_of (table_of entries) AtServer p) (end_of (table_of entries) AtClient p) p.server_feed p.client_feed refl
      (talks_honestly (table_of entries) lines p joined honest (all_read entries lines p.number is ok))

  pub never_overruns : (side : Side) → NeverOverruns (past_at (table_of entries) (other_side side) p) (past_at (table_of entries) side p)
  never_overruns AtServer = overruns_back (end_of (table_of entries) AtServer p) (end_of (table_of entries) AtClient p) (past_at (table_of entries) AtServer p) (past_at (table_of entries) AtClient p) refl link
  never_overruns AtClient = overruns_there (end_of (table_of entries) AtServer p) (end_of (table_of entries) AtClient p) (past_at (table_of entries) AtServer p) (past_at (table_of entries) AtClient p) refl link

  pub never_misjoins : (side : Side) (ch : ℕ) → JoinsFrom [] (applied_of (received_on (past_at (table_of entries) side p) ch))
  never_misjoins AtServer ch =
      misjoins_back (end_of (table_of entries) AtServer p) (end_of (table_of entries) AtClient p) (past_at (table_of entries) AtServer p) (past_at (table_of entries) AtClient p) refl link ch
      (messages_short (end_of (table_of entries) AtClient p) (past_at (table_of entries) AtClient p) ch (ends_fit entries lines p AtClient is ok joined))
  never_misjoins AtClient ch =
      misjoins_there (end_of (table_of entries) AtServer p) (end_of (table_of entries) AtClient p) (past_at (table_of entries) AtServer p) (past_at (table_of entries) AtClient p) refl link ch
      (messages_short (end_of (table_of entries) AtServer p) (past_at (table_of entries) AtServer p) ch (ends_fit entries lines p AtServer is ok joined))

  first_of_all : (end : End) (from to : Past) (ch : ℕ) → ReceivesPrefixes from to → ReadEach end (handed_reliably to ch) (wholes_of to ch) → HandsFirst end from to ch
  first_of_all end from to ch receives reads =
      let r = mapped_first (payload_of ch) (messages_on from ch) (wholes_of to ch) (receives ch).0 (receives ch).1 in
      record { first = r.0; later = r.1.0; made = r.1.1; each = subst (ReadEach end (handed_reliably to ch)) r.1.2 reads }

  pub hands_first : (side : Side) (ch : ℕ) → is_closed_by (past_at (table_of entries) side p) ≡ false → HandsFirst (end_of (table_of entries) side p) (past_at (table_of entries) (other_side side) p) (past_at (table_of entries) side p) ch
  hands_first side ch open_yet =
      first_of_all (end_of (table_of entries) side p) (past_at (table_of entries) (other_side side) p) (past_at (table_of entries) side p) ch
      (delivers (table_of entries) lines p side joined honest (all_read entries lines p.number is ok)).1
      (hands_received (end_of (table_of entries) side p) (feed_of side p) open_yet ch)

-- messages of so many bits have at most ten parts
pub few_parts : (ms : List Numbered) → AllByRecursion (λ (made : Numbered). length (message_bits made.1) ≤ 70000) ms → AllByRecursion (λ (made : Numbered). parts_of made.1 ≤ 10) ms
few_parts [] h = tt
few_parts (made ∷ ms) h = (parts_most (length (message_bits made.1)) 10 (omega arith) (omega (arith, h.0)), few_parts ms h.1)

-- each message has at most ten parts
pub messages_few : (entries : List Entry) (lines : List Line) (p : Player) (side : Side) (ch : ℕ) → IsTable entries → AreAccepted (table_of entries) (story_of (table_of entries) lines).0.edits → HasJoined (story_of (table_of entries) lines).0 p
    → AllByRecursion (λ (made : Numbered). parts_of made.1 ≤ 10) (messages_on (past_at (table_of entries) side p) ch)
messages_few entries lines p side ch is ok joined =
    few_parts (messages_on (past_at (table_of entries) side p) ch)
    (messages_short (end_of (table_of entries) side p) (past_at (table_of entries) side p) ch (ends_fit entries lines p side is ok joined))
