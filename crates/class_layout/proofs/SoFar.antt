-- The classes so far, one class a turn.
use Rattle.std.proofs.Common.{◌≡◌, ℕ, zero, suc, ◌+◌, ◌<◌, ◌≤◌, List, [], ◌∷◌, ◌++◌, map, length, drop, get_or, append-nil, Ok, Some, slice_get, refl, sym, ap, ◌∙◌, subst, IsTrue}
use Rattle.std.proofs.lemmas.List.{append_assoc, map-append, length-map}
use Rattle.serde_json.specs.Data.{Data}
use Rattle.table_model.specs.Rules.{Entry, segments_of}
use Rattle.table_model.specs.Grammar as Grammar
use Rattle.class_layout.specs.Growing.{IsSoFar}
use Rattle.class_layout.specs.Tables.{AreOf, Extends, class_of, entry_of, stand_within}
use Rattle.class_members.specs.Members.{are_tagged}
use Rattle.class_members.specs.Agreement.{RefusedAs}
use Rattle.class_layout.specs.declared.class.Class.{Class}
use Rattle.class_layout.specs.declared.class.Segment.{Segment}
use Rattle.class_members.specs.declared.refusal.TableRefusal.{TableRefusal}
use Rattle.class_members.proofs.Each.{turn_of}
use Rattle.class_layout.proofs.PathSteps.{seen_still, within_wider, longer}

-- a fact of each item, and of one more
every_more : {A : Type 0} (P : A → Type 0) (xs : List A) (x : A) → ((i : ℕ) (a : A) → slice_get xs i ≡ Some a → P a)
    → P x
    → (i : ℕ) (a : A) → slice_get (xs ++ x ∷ []) i ≡ Some a → P a
every_more P [] x all one zero a h = subst P (some_same h) one
  where
    some_same : {A : Type 0} {a b : A} → Some a ≡ Some b → a ≡ b
    some_same e = cc
every_more P [] x all one (suc i) a h = absurd (cc)
every_more P (y ∷ xs) x all one zero a h = all zero a h
every_more P (y ∷ xs) x all one (suc i) a h = every_more P xs x (λ i. all (suc i)) one i a h

-- the segments of classes are those of the first ones and then those of the others
segments_more : (entries : List Entry) (e : Entry) → segments_of (entries ++ e ∷ [])
    ≡ segments_of entries ++ e.class.path
segments_more [] e = append-nil e.class.path
segments_more (f ∷ entries) e =
    ap (λ s. f.class.path ++ s) (segments_more entries e) ∙ sym
    (append_assoc f.class.path (segments_of entries) e.class.path)

-- classes whose paths stand within are seen as before when segments are added
entries_still : (classes : List Class) (segments more : List Segment)
    → ((i : ℕ) (c : Class) → slice_get classes i ≡ Some c → IsTrue (stand_within (length segments) c.path))
    → map (entry_of (segments ++ more)) classes ≡ map (entry_of segments) classes
entries_still [] segments more within = refl
entries_still (c ∷ classes) segments more within =
    rw (
      seen_still segments more c.path (within zero c refl),
      entries_still classes segments more
          (λ i. within (suc i)),
    ) refl

-- the entries with one more class
pub entries_more : (classes : List Class) (segments after : List Segment) (c : Class) → IsSoFar classes segments
    → Extends segments after
    → map (entry_of after) (classes ++ c ∷ []) ≡ map (entry_of segments) classes ++ entry_of after c ∷ []
entries_more classes segments after c so_far more =
    map-append (entry_of after) classes (c ∷ [])
    ∙ ap (λ es. es ++ entry_of after c ∷ [])
    (ap (λ s. map (entry_of s) classes) more.1 ∙ entries_still classes segments more.0 so_far.within)

-- the classes with one more
pub so_far_more : (classes : List Class) (segments after : List Segment) (c : Class) → IsSoFar classes segments
    → IsTrue (are_tagged c.props) → IsTrue (stand_within (length after) c.path)
    → AreOf after (segments_of (map (entry_of segments) classes) ++ (class_of after c).path) → Extends segments after
    → length after ≤ 1024 → IsSoFar (classes ++ c ∷ []) after
so_far_more classes segments after c so_far tagged within are more few = record {
  tags = every_more (λ (k : Class). IsTrue (are_tagged k.props)) classes c so_far.tags tagged;
  within = every_more (λ (k : Class). IsTrue (stand_within (length after) k.path)) classes c
      (λ i k h. within_wider (length segments) (length after) k.path (longer segments after more)
      (so_far.within i k h)) within;
  are = subst (AreOf after)
      (sym (ap segments_of (entries_more classes segments after c so_far more)
      ∙ segments_more (map (entry_of segments) classes) (entry_of after c))) are;
  few = few;
}

-- a turn that takes a class
pub class_turn : {J : Type 0} (view : J → Data) (classes : List Class) (segments after : List Segment) (c : Class)
    (elements : List J) (number i : ℕ) (element : J) → IsSoFar classes segments → Extends segments after
    → number ≡ length classes + 1 → i < length elements → element ≡ get_or elements i element
    → Grammar.class_after number (map (entry_of segments) classes) (view element) ≡ Ok (entry_of after c)
    → Grammar.classes_after (map (entry_of after) (classes ++ c ∷ [])) (map view (drop (i + 1) elements))
    ≡ Grammar.classes_after (map (entry_of segments) classes) (map view (drop i elements))
class_turn view classes segments after c elements number i element so_far more counted within is taken =
    ap (λ es. Grammar.classes_after es (map view (drop (i + 1) elements)))
    (entries_more classes segments after c so_far more)
    ∙ sym (one_taken (map (entry_of segments) classes) (view element) (map view (drop (i + 1) elements))
    (entry_of after c)
    (ap (λ n. Grammar.class_after n (map (entry_of segments) classes) (view element)) (numbered ∙ sym counted) ∙ taken))
    ∙ ap (Grammar.classes_after (map (entry_of segments) classes)) (sym (turn_of view elements i element within is))
  where
    numbered : length (map (entry_of segments) classes) + 1 ≡ length classes + 1
    numbered = ap (λ n. n + 1) (length-map classes (entry_of segments))

    one_taken : (before : List Entry) (d : Data) (ds : List Data) (e : Entry)
        → Grammar.class_after (length before + 1) before d ≡ Ok e
        → Grammar.classes_after before (d ∷ ds) ≡ Grammar.classes_after (before ++ e ∷ []) ds
    one_taken before d ds e h = rw h refl

-- a turn that is refused
pub class_stop : {J : Type 0} (view : J → Data) (entries : List Entry) (elements : List J) (number i : ℕ) (element : J)
    (e : TableRefusal) → number ≡ length entries + 1 → i < length elements → element ≡ get_or elements i element
    → RefusedAs e (Grammar.class_after number entries (view element))
    → RefusedAs e (Grammar.classes_after entries (map view (drop i elements)))
class_stop view entries elements number i element e counted within is refused =
    rw (turn_of view elements i element within is)
    (one_refused entries (view element) (map view (drop (i + 1) elements)) e
    (subst (λ n. RefusedAs e (Grammar.class_after n entries (view element))) counted refused))
  where
    one_refused : (before : List Entry) (d : Data) (ds : List Data) (e : TableRefusal)
        → RefusedAs e (Grammar.class_after (length before + 1) before d)
        → RefusedAs e (Grammar.classes_after before (d ∷ ds))
    one_refused before d ds (TableRefusal.BadTable place why) h = rw h refl
    one_refused before d ds TableRefusal.Memory h = tt
