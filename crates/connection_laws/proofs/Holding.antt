-- Which indexes are held, and one that is free.
use Rattle.std.proofs.Common.{◌≡◌, inl, inr, ℕ, zero, suc, ◌+◌, ◌≤◌, List, [], ◌∷◌, Bool, true, false, cond, not, nat_lt, ◌==◌, ◌&&◌, length, refl, sym, ap, ◌∙◌, subst, arith, Option, Some, None}
use Rattle.std.specs.List.{filter_map, cons_option, list_any, slice_get}
use Rattle.std.specs.Bool.{then_some}
use Rattle.std.proofs.lemmas.Bool.{cases_Bool, false≢true, cases_eq, eqb-true, eqb-false, and_parts, or_cases, not-true}
use Rattle.protocol_model.specs.Payload.{actor_of}
use Rattle.protocol_model.specs.Search.{is_among, insert_in_order, in_order, each_once, ascending_numbers}
use Rattle.connection_model.specs.Feed.{Past, Ticked, Made, Waits, Sent, Took, Ended}
use Rattle.connection_model.specs.Bunches.{channel_in, channels_of, span}
use Rattle.connection_model.specs.State.{Mark, is_mark, mark_in, last_mark, state_of, holds_index, index_at, index_of, is_index, holds, opened_actors, is_held, free_index}
use Rattle.connection_laws.proofs.Searches.{among_cons, among_here, among_there, least_low, least_below, least_end}
use Rattle.connection_laws.proofs.Spans.{unused_span}

-- ---- what is among numbers in order

-- what is among numbers is among them with one more
among_inserted : (before : ℕ → ℕ → Bool) (x : ℕ) (ys : List ℕ) (n : ℕ) → is_among n (x ∷ ys) ≡ true → is_among n (insert_in_order before x ys) ≡ true
among_inserted before x [] n h = h
among_inserted before x (y ∷ ys) n h = elim (cases_Bool (before y x)) [
  | inl e ↦ rw e (elim (among_cons x (y ∷ ys) n h) [
    | inl q ↦ among_there y (insert_in_order before x ys) n (among_inserted before x ys n (among_here x ys n q))
    | inr q ↦ elim (among_cons y ys n q) [
      | inl r ↦ among_here y (insert_in_order before x ys) n r
      | inr r ↦ among_there y (insert_in_order before x ys) n (among_inserted before x ys n (among_there x ys n r))
    ]
  ])
  | inr e ↦ rw e h
]

-- and in order
among_in_order : (before : ℕ → ℕ → Bool) (xs : List ℕ) (n : ℕ) → is_among n xs ≡ true → is_among n (in_order before xs) ≡ true
among_in_order before [] n h = h
among_in_order before (x ∷ xs) n h = elim (among_cons x xs n h) [
  | inl q ↦ among_inserted before x (in_order before xs) n (among_here x (in_order before xs) n q)
  | inr q ↦ among_inserted before x (in_order before xs) n (among_there x (in_order before xs) n (among_in_order before xs n q))
]

-- and each once
among_each_once : (xs : List ℕ) (n : ℕ) → is_among n xs ≡ true → is_among n (each_once xs) ≡ true
among_each_once [] n h = h
among_each_once (x ∷ xs) n h = elim (cases_Bool (is_among x xs)) [
  | inl e ↦ rw e (elim (among_cons x xs n h) [
    | inl q ↦ among_each_once xs n (subst (λ (k : ℕ). is_among k xs ≡ true) q e)
    | inr q ↦ among_each_once xs n q
  ])
  | inr e ↦ rw e (elim (among_cons x xs n h) [
    | inl q ↦ among_here x (each_once xs) n q
    | inr q ↦ among_there x (each_once xs) n (among_each_once xs n q)
  ])
]

-- what is among numbers is among them in order
pub among_ascending : (xs : List ℕ) (n : ℕ) → is_among n xs ≡ true → is_among n (ascending_numbers xs) ≡ true
among_ascending xs n h = among_in_order nat_lt (each_once xs) n (among_each_once xs n h)

-- ---- so many numbers take so much room

-- the list without the first place of a number
abbrev pub without : ℕ → List ℕ → List ℕ
without k [] = []
without k (n ∷ ns) = cond (n == k) ns (n ∷ without k ns)

-- it is shorter by one
pub without_shorter : (k : ℕ) (ns : List ℕ) → is_among k ns ≡ true → length ns ≡ suc (length (without k ns))
without_shorter k [] h = absurd (false≢true h)
without_shorter k (n ∷ ns) h = elim (cases_Bool (n == k)) [
  | inl e ↦ rw e refl
  | inr e ↦ rw e (elim (among_cons n ns k h) [
    | inl q ↦ absurd (eqb-false n k e q)
    | inr q ↦ ap suc (without_shorter k ns q)
  ])
]

-- another number stays
without_keeps : (k i : ℕ) (ns : List ℕ) → (i ≡ k → ⊥) → is_among i ns ≡ true → is_among i (without k ns) ≡ true
without_keeps k i [] ne h = h
without_keeps k i (n ∷ ns) ne h = elim (cases_Bool (n == k)) [
  | inl e ↦ rw e (elim (among_cons n ns i h) [ inl q ↦ absurd (ne (sym q ∙ eqb-true n k e)) | inr q ↦ q ])
  | inr e ↦ rw e (elim (among_cons n ns i h) [ inl q ↦ among_here n (without k ns) i q | inr q ↦ among_there n (without k ns) i (without_keeps k i ns ne q) ])
]

-- a list that has the numbers 1 to k has at least k items
pub room_taken : (k : ℕ) (ns : List ℕ) → ((i : ℕ) → 1 ≤ i → i ≤ k → is_among i ns ≡ true) → k ≤ length ns
room_taken zero ns h = omega arith
room_taken (suc k) ns h =
    let top : is_among (suc k) ns ≡ true = h (suc k) (omega arith) (omega arith) in
    omega (
      arith,
      without_shorter (suc k) ns top,
      room_taken k (without (suc k) ns) (λ i lo hi. without_keeps (suc k) i ns (λ q. absurd (omega arith)) (h i lo (omega arith))),
    )

-- ---- a mark was made on its index

-- the index of a mark is used
pub mark_used : (a : ℕ) (past : Past) (mark : Mark) → last_mark past a ≡ Some mark → is_among mark.channel (filter_map channel_in past) ≡ true
mark_used a [] mark e = absurd (let no : (let o : Option Mark = None in o) ≡ Some mark = e in cc)
mark_used a (Made ch n m i ∷ past) mark e = by ((actor_of m == a) && is_mark m && (i == 0)) e (λ q. mark_used a past mark q)
  where
    by : (b : Bool) → slice_get (cons_option (then_some b (let k : Mark = record { channel = ch; number = n; message = m } in k)) (filter_map (mark_in a) past)) 0 ≡ Some mark
        → (last_mark past a ≡ Some mark → is_among mark.channel (filter_map channel_in past) ≡ true)
        → is_among mark.channel (ch ∷ filter_map channel_in past) ≡ true
    by true q ih = among_here ch (filter_map channel_in past) mark.channel (same_channel (record { channel = ch; number = n; message = m }) mark q)
      where
        same_channel : (k l : Mark) → (let o : Option Mark = Some k in o) ≡ Some l → k.channel ≡ l.channel
        same_channel k l q = (let r : k ≡ l = cc in ap (λ (x : Mark). x.channel) r)
    by false q ih = among_there ch (filter_map channel_in past) mark.channel (ih q)
mark_used a (Ticked t s ∷ past) mark e = mark_used a past mark e
mark_used a (Waits m ∷ past) mark e = mark_used a past mark e
mark_used a (Sent n t items ∷ past) mark e = mark_used a past mark e
mark_used a (Took n es ds ∷ past) mark e = mark_used a past mark e
mark_used a (Ended g ∷ past) mark e = mark_used a past mark e

-- who holds an index holds that of its last mark
pub index_marked : (past : Past) (a ch : ℕ) → index_of past a ≡ Some ch → (mark : Mark) × (last_mark past a ≡ Some mark) × (mark.channel ≡ ch)
index_marked past a ch e = by (holds_index (state_of past a)) (last_mark past a) refl e
  where
    by : (b : Bool) (o : Option Mark) → last_mark past a ≡ o → index_at b o ≡ Some ch → (mark : Mark) × (last_mark past a ≡ Some mark) × (mark.channel ≡ ch)
    by true (Some mark) q e = (mark, q, some_is mark.channel ch e)
      where
        some_is : (x y : ℕ) → (let o : Option ℕ = Some x in o) ≡ Some y → x ≡ y
        some_is x y e = cc
    by true None q e = absurd (let no : (let o : Option ℕ = None in o) ≡ Some ch = e in cc)
    by false o q e = absurd (let no : (let o : Option ℕ = None in o) ≡ Some ch = e in cc)

-- an actor that is said to hold an index holds it
pub holds_is : (past : Past) (a ch : ℕ) → holds past a ch ≡ true → index_of past a ≡ Some ch
holds_is past a ch e = by (index_of past a) refl e
  where
    by : (o : Option ℕ) → index_of past a ≡ o → is_index ch o ≡ true → index_of past a ≡ Some ch
    by None q e = absurd (false≢true e)
    by (Some k) q e = q ∙ ap (λ (n : ℕ). Some n) (eqb-true k ch e)

-- an index that is held was used
held_used : (past : Past) (ch : ℕ) (actors : List ℕ) → list_any (λ a. holds past a ch) actors ≡ true → is_among ch (filter_map channel_in past) ≡ true
held_used past ch [] h = absurd (false≢true h)
held_used past ch (a ∷ actors) h = elim (or_cases (holds past a ch) (list_any (λ b. holds past b ch) actors) h) [
  | inl q ↦ (let m = index_marked past a ch (holds_is past a ch q) in
      subst (λ (k : ℕ). is_among k (filter_map channel_in past) ≡ true) m.2 (mark_used a past m.0 m.1))
  | inr q ↦ held_used past ch actors q
]

-- ---- the free index is free

-- nobody holds the index, and it has no span
abbrev is_free : Past → ℕ → Bool
is_free past ch = not (is_held past ch) && (span past ch == 0)

-- an index that is not free was used
not_free_used : (past : Past) (ch : ℕ) → is_free past ch ≡ false → is_among ch (channels_of past) ≡ true
not_free_used past ch e = among_ascending (filter_map channel_in past) ch (used (is_held past ch) refl e)
  where
    spans : (b : Bool) → is_among ch (filter_map channel_in past) ≡ b → (span past ch == 0) ≡ false → is_among ch (filter_map channel_in past) ≡ true
    spans true q e = q
    spans false q e = absurd (eqb-false (span past ch) 0 e (unused_span ch past q))

    used : (b : Bool) → is_held past ch ≡ b → (not b && (span past ch == 0)) ≡ false → is_among ch (filter_map channel_in past) ≡ true
    used true q e = held_used past ch (opened_actors past) q
    used false q e = spans (is_among ch (filter_map channel_in past)) refl e

-- the free index is free
pub free_index_is_free : (past : Past) → is_free past (free_index past) ≡ true
free_index_is_free past = elim (least_end (is_free past) (length (channels_of past)) 1) [
  | inl e ↦ e
  | inr e ↦ elim (cases_Bool (is_free past (free_index past))) [
    | inl t ↦ t
    | inr t ↦ (
        let all : 1 + length (channels_of past) ≤ length (channels_of past) =
        room_taken (1 + length (channels_of past)) (channels_of past) (λ i lo hi. not_free_used past i (each i lo hi e t)) in
        absurd (omega arith))
  ]
]
  where
    each : (i : ℕ) → 1 ≤ i → i ≤ 1 + length (channels_of past) → free_index past ≡ 1 + length (channels_of past) → is_free past (free_index past) ≡ false → is_free past i ≡ false
    each i lo hi e t = elim (cases_eq i (free_index past)) [
      | inl q ↦ ap (is_free past) q ∙ t
      | inr q ↦ least_below (is_free past) (length (channels_of past)) 1 i lo (omega (arith, q, e))
    ]

-- nobody holds the index, all on it has arrived, and it is above 0
pub record IsFree (past : Past) (ch : ℕ) : Type 0 where
  pub low : 1 ≤ ch
  pub held : is_held past ch ≡ false
  pub clear : span past ch ≡ 0

-- the free index is so
pub free_index_fits : (past : Past) → IsFree past (free_index past)
free_index_fits past =
    let both : (not (is_held past (free_index past)) ≡ true) × ((span past (free_index past) == 0) ≡ true) =
    and_parts (not (is_held past (free_index past))) (span past (free_index past) == 0) (free_index_is_free past) in
    record {
      low = least_low (is_free past) (length (channels_of past)) 1;
      held = not-true (is_held past (free_index past)) both.0;
      clear = eqb-true (span past (free_index past)) 0 both.1;
    }
