-- Lists of segments in which one segment has one guid and one guid is one segment's.
use Rattle.std.proofs.Common.{◌≡◌, ℕ, ◌+◌, ◌*◌, ◌==◌, List, [], ◌∷◌, ◌++◌, slice_get, true, ◌&&◌, ◌⊎◌, inl, inr, Some, sym, ap, ◌∙◌, subst, append_assoc, append-nil, arith}
use Rattle.std.specs.Str.{bytes_eq}
use Rattle.std.proofs.lemmas.Bool.{and_from}
use Rattle.std.proofs.lemmas.Bool.Decides.{nat_tests}
use Rattle.protocol_model.specs.Value.{Segment}
use Rattle.table_model.specs.Rules.{Entry, segments_of}
use Rattle.table_model.specs.Facts.{AreSegments}
use Rattle.table_model.proofs.Lists.{get_push}
use Rattle.table_model.proofs.Names.{name_itself, names_turned}

-- ---- two segments

-- they have one guid exactly where they are one segment
abbrev pub IsSame : Segment → Segment → Type 0
IsSame s t = (s.guid == t.guid) ≡ (s.outer == t.outer && bytes_eq s.name t.name)

-- a number is equal to itself
pub number_itself : (n : ℕ) → (n == n) ≡ true
number_itself n = grind (arith, nat_tests)

numbers_turned : (m n : ℕ) → (m == n) ≡ (n == m)
numbers_turned m n = grind (arith, nat_tests)

same_itself : (s : Segment) → IsSame s s
same_itself s = number_itself s.guid ∙ sym (and_from _ _ (number_itself s.outer) (name_itself s.name))

same_turned : (s t : Segment) → IsSame s t → IsSame t s
same_turned s t h = rw (numbers_turned t.guid s.guid, numbers_turned t.outer s.outer, names_turned t.name s.name) h

-- ---- lists of segments

-- a guid is 3, 5, 7 or so on
abbrev pub IsGuid : ℕ → Type 0
IsGuid guid = (i : ℕ) × (guid ≡ 2 * i + 3)

-- as in a table, but for how many there may be
pub record AreKnown (segments : List Segment) : Type 0 where
  pub same : (m n : ℕ) (s t : Segment) → slice_get segments m ≡ Some s → slice_get segments n ≡ Some t → IsSame s t
  pub guid : (n : ℕ) (s : Segment) → slice_get segments n ≡ Some s → IsGuid s.guid

-- segments stay known with one behind them that has the guid of just those that it is
pub known_push : (known : List Segment) (x : Segment) → AreKnown known
    → ((n : ℕ) (t : Segment) → slice_get known n ≡ Some t → IsSame t x) → IsGuid x.guid → AreKnown (known ++ x ∷ [])
known_push known x k old g = record {
  same = λ m n s t a b. both m n s t (get_push known x s m a) (get_push known x t n b);
  guid = λ n s a. one n s (get_push known x s n a);
}
  where
    IsItem : ℕ → Segment → Type 0
    IsItem n s = (slice_get known n ≡ Some s) ⊎ (x ≡ s)

    both : (m n : ℕ) (s t : Segment) → IsItem m s → IsItem n t → IsSame s t
    both m n s t (inl a) (inl b) = k.same m n s t a b
    both m n s t (inl a) (inr e) = subst (IsSame s) e (old m s a)
    both m n s t (inr e) (inl b) = subst (λ y. IsSame y t) e (same_turned t x (old n t b))
    both m n s t (inr e) (inr f) = subst (IsSame s) (sym e ∙ f) (same_itself s)

    one : (n : ℕ) (s : Segment) → IsItem n s → IsGuid s.guid
    one n s (inl a) = k.guid n s a
    one n s (inr e) = subst (λ (y : Segment). IsGuid y.guid) e g

-- the segments of a table are known
pub known_of : (segments : List Segment) → AreSegments segments → AreKnown segments
known_of segments a = record { same = a.same; guid = λ n s h. let g = a.guid n s h in (g.0, g.2) }

-- the segments with those of one class more
pub segments_push : (before : List Entry) (e : Entry)
    → segments_of (before ++ e ∷ []) ≡ segments_of before ++ e.class.path
segments_push [] e = append-nil e.class.path
segments_push (d ∷ before) e =
    let more = append_assoc d.class.path (segments_of before) e.class.path in
    ap (λ behind. d.class.path ++ behind) (segments_push before e) ∙ sym more
