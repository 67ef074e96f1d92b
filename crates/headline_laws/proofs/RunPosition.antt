-- A prefix of messages' bunches is whole messages and some parts of the next one.
use Rattle.std.proofs.Common.{◌≡◌, inl, inr, ℕ, zero, suc, ◌+◌, ◌<◌, List, [], ◌∷◌, ◌++◌, map, length, refl, sym, ap, ◌∙◌, arith, append_assoc, append-nil}
use Rattle.std.specs.List.{range_with_len}
use Rattle.std.proofs.lemmas.Bool.{cases_lt}
use Rattle.protocol_model.specs.Packet.{Bunch}
use Rattle.protocol_model.specs.Payload.{Message, parts_of}
use Rattle.connection_model.specs.Feed.{End, Past}
use Rattle.connection_model.specs.Bunches.{made_bunch}
use Rattle.connection_model.specs.Windows.{kept_of, received_on, applied_of}
use Rattle.replication_model.specs.Headline.{IsPrefix}
use Rattle.connection_laws.specs.Run.{IsRun}
use Rattle.connection_laws.specs.Link.{IsLink}
use Rattle.connection_laws.specs.Delivered.{Numbered, messages_on, AppliesPrefixes}
use Rattle.connection_laws.proofs.Prefixes.{cut_in_parts}
use Rattle.connection_laws.proofs.LinkedEnds.{left_run, right_run}
use Rattle.connection_laws.proofs.LinkLaws.{applies_there, applies_back}
use Rattle.payload_laws.specs.Parts.{bunches_of, bunches_from}
use Rattle.payload_laws.proofs.Keeping.{front_kept, none_kept}
use Rattle.headline_laws.specs.Position.{all_bunches, HasBegun, kept_here, Position}
use Rattle.headline_laws.proofs.WholeMessages.{longer, map_length, range_length}

-- a prefix of a range that is mapped
pub first_of_range : {A : Type 0} (f : ℕ → A) (count from : ℕ) (xs more : List A) → map f (range_with_len from count) ≡ xs ++ more → xs ≡ map f (range_with_len from (length xs))
first_of_range f count from [] more e = refl
first_of_range f zero from (x ∷ xs) more e = absurd (cc)
first_of_range {A} f (suc count) from (x ∷ xs) more e =
    ap (λ (y : A). y ∷ xs) (sym (same_head (f from) x (map f (range_with_len (from + 1) count)) (xs ++ more) e))
    ∙ ap (λ (l : List A). f from ∷ l) (first_of_range f count (from + 1) xs more (same_tail (f from) x (map f (range_with_len (from + 1) count)) (xs ++ more) e))
  where
    same_head : {A : Type 0} (x y : A) (xs ys : List A) → x ∷ xs ≡ y ∷ ys → x ≡ y
    same_head x y xs ys e = cc

    same_tail : {A : Type 0} (x y : A) (xs ys : List A) → x ∷ xs ≡ y ∷ ys → xs ≡ ys
    same_tail x y xs ys e = cc

-- a message has as many bunches as parts
pub parts_length : (ch first : ℕ) (m : Message) → length (bunches_of ch first m) ≡ parts_of m
parts_length ch first m = map_length (λ j. made_bunch ch (first + j) m j) (range_with_len 0 (parts_of m)) ∙ range_length (parts_of m) 0

-- behind these bunches, of which none is kept
record From (ch : ℕ) (before : List Bunch) (ms : List Numbered) (xs : List Bunch) : Type 0 where
  pub done : List Numbered
  pub later : List Numbered
  pub split : ms ≡ done ++ later
  pub i : ℕ
  pub rest : List Bunch
  pub begun : HasBegun ch later i rest
  pub is : xs ≡ all_bunches ch done ++ rest
  pub kept : kept_of (before ++ xs) ≡ kept_here ch later i

-- nothing is made of nothing
nil_of : {A : Type 0} (xs ys : List A) → xs ++ ys ≡ [] → xs ≡ []
nil_of [] ys e = refl
nil_of (x ∷ xs) ys e = absurd (cc)

-- equal lists have equal rests
pub tail_same : (us xs ys : List Bunch) → us ++ xs ≡ us ++ ys → xs ≡ ys
tail_same [] xs ys e = e
tail_same (u ∷ us) xs ys e = tail_same us xs ys (same_tail u (us ++ xs) (us ++ ys) e)
  where
    same_tail : (u : Bunch) (xs ys : List Bunch) → u ∷ xs ≡ u ∷ ys → xs ≡ ys
    same_tail u xs ys e = cc

-- a prefix of bunches has its place among messages
located : (ch : ℕ) (before : List Bunch) → kept_of before ≡ [] → (ms : List Numbered) (xs ys : List Bunch) → all_bunches ch ms ≡ xs ++ ys → From ch before ms xs
located ch before k [] xs ys e =
    let none : xs ≡ [] = nil_of xs ys (sym e) in
    record { done = []; later = []; split = refl; i = 0; rest = []; begun = refl; is = none; kept = ap (λ (l : List Bunch). kept_of (before ++ l)) none ∙ ap kept_of (append-nil before) ∙ k }
located ch before k (made ∷ ms) xs ys e = elim (cases_lt (length xs) (parts_of made.1)) [
  | inl lt ↦ within lt
  | inr le ↦ (
      let b : List Bunch = bunches_of ch made.0 made.1 in
      let l = longer xs ys (bunches_of ch made.0 made.1) (all_bunches ch ms) (sym e) (omega (arith, le, parts_length ch made.0 made.1)) in
      let rest : all_bunches ch ms ≡ l.0 ++ ys = tail_same (bunches_of ch made.0 made.1) (all_bunches ch ms) (l.0 ++ ys) (e ∙ ap (λ (x : List Bunch). x ++ ys) l.1 ∙ append_assoc (bunches_of ch made.0 made.1) l.0 ys) in
      beyond l.0 l.1 (located ch (before ++ bunches_of ch made.0 made.1) (none_kept ch made.0 made.1 before) ms l.0 ys rest))
]
  where
    within : length xs < parts_of made.1 → From ch before (made ∷ ms) xs
    within lt =
        let l = longer (bunches_of ch made.0 made.1) (all_bunches ch ms) xs ys e (omega (arith, lt, parts_length ch made.0 made.1)) in
        let is : xs ≡ bunches_from ch made.0 made.1 0 (length xs) = first_of_range (λ j. made_bunch ch (made.0 + j) made.1 j) (parts_of made.1) 0 xs l.0 l.1 in
        record {
          done = [];
          later = made ∷ ms;
          split = refl;
          i = length xs;
          rest = xs;
          begun = (lt, is);
          is = refl;
          kept = ap (λ (x : List Bunch). kept_of (before ++ x)) is ∙ front_kept ch made.0 made.1 before (length xs) k lt;
        }

    beyond : (more : List Bunch) → xs ≡ bunches_of ch made.0 made.1 ++ more → From ch (before ++ bunches_of ch made.0 made.1) ms more → From ch before (made ∷ ms) xs
    beyond more e r = record {
      done = made ∷ r.done;
      later = r.later;
      split = ap (λ (l : List Numbered). made ∷ l) r.split;
      i = r.i;
      rest = r.rest;
      begun = r.begun;
      is = e ∙ ap (λ (l : List Bunch). bunches_of ch made.0 made.1 ++ l) r.is ∙ sym (append_assoc (bunches_of ch made.0 made.1) (all_bunches ch r.done) r.rest);
      kept = ap (λ (l : List Bunch). kept_of (before ++ l)) e ∙ ap kept_of (sym (append_assoc before (bunches_of ch made.0 made.1) more)) ∙ r.kept;
    }

-- a prefix of bunches is whole messages and some parts
pub position : (ch : ℕ) (ms : List Numbered) (xs : List Bunch) → IsPrefix xs (all_bunches ch ms) → Position ch ms xs
position ch ms xs p = (let r = located ch [] refl ms xs p.0 p.1 in record { done = r.done; later = r.later; split = r.split; i = r.i; rest = r.rest; begun = r.begun; is = r.is; kept = r.kept })

-- what was applied is so
pub applied_at : (end : End) (from to : Past) → IsRun end from → AppliesPrefixes from to → (ch : ℕ) → Position ch (messages_on from ch) (applied_of (received_on to ch))
applied_at end from to run applies ch = position ch (messages_on from ch) (applied_of (received_on to ch)) ((applies ch).0, sym (cut_in_parts end from run ch) ∙ (applies ch).1)

module _ (left right : End) (l r : Past) (same : left.version ≡ right.version) (link : IsLink left right l r) where
  pub position_there : (ch : ℕ) → Position ch (messages_on l ch) (applied_of (received_on r ch))
  position_there = applied_at left l r (left_run left right l r link) (applies_there left right l r same link)

  pub position_back : (ch : ℕ) → Position ch (messages_on r ch) (applied_of (received_on l ch))
  position_back = applied_at right r l (right_run left right l r link) (applies_back left right l r same link)
