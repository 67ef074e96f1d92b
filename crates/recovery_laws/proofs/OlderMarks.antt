-- When a client took the packet that opened an actor, each older mark of the actor had been handed on.
use Rattle.std.proofs.Common.{◌≡◌, ◌⊎◌, inl, inr, ℕ, ◌<◌, ◌≤◌, List, [], ◌∷◌, ◌++◌, map, reverse, length, Bool, true, false, ◌==◌, ◌&&◌, refl, sym, ap, ◌∙◌, subst, arith, Option, Some, None, append_assoc}
use Rattle.std.specs.List.{cons_option, AllByRecursion}
use Rattle.std.specs.Bool.{then_some}
use Rattle.std.proofs.lemmas.Bool.{false≢true, cases_lt, eq-eqb, eqb-true, and_parts, and_from}
use Rattle.std.proofs.lemmas.List.{length-append, length-reverse, length-map}
use Rattle.std.proofs.lemmas.List.Elements.{filter_map-append}
use Rattle.protocol_model.specs.Value.{Segment, Class, Pair}
use Rattle.protocol_model.specs.Payload.{Message, Opens, Closes, Updates, Calls, Gone}
use Rattle.connection_model.specs.Feed.{End, Past, Ticked, Made, Waits, Sent, Took, Ended}
use Rattle.connection_model.specs.Bunches.{is_closing, is_sleeping}
use Rattle.connection_model.specs.State.{Mark, mark_in}
use Rattle.connection_model.specs.Copies.{delivered_of}
use Rattle.connection_laws.specs.Run.{IsRun}
use Rattle.connection_laws.specs.Delivered.{on_index, Numbered, payload_of, HandsReceived}
use Rattle.connection_laws.proofs.PacketsSay.{IsIn, all_at, in_middle}
use Rattle.connection_laws.proofs.Spans.{some_parts}
use Rattle.headline_laws.specs.Follows.{parts_in}
use Rattle.headline_laws.specs.Whole.{IsReceived}
use Rattle.headline_laws.specs.Marks.{marks_of, without_newest, MarkComes, MarksCome, ClosesReceived}
use Rattle.headline_laws.proofs.WholeMessages.{InRow, rows, longer}
use Rattle.headline_laws.proofs.ReceivedFirst.{row_at, parts_append}
use Rattle.headline_laws.proofs.Reopened.{marks_it}
use Rattle.recovery_laws.proofs.HandedTrail.{same_end, from_index, all_second}
use Rattle.recovery_laws.proofs.HandedInOrder.{handed_count, index_append}

-- ---- ends of one list

-- each message has at least one part
each_part : (ms : List Numbered) → length ms ≤ parts_in ms
each_part [] = omega arith
each_part (x ∷ ms) = omega (arith, some_parts x.1, each_part ms)

-- of two beginnings the one with fewer parts is the shorter
ends_by_parts : (xs ys us vs : List Numbered) → xs ++ ys ≡ us ++ vs → parts_in ys ≤ parts_in vs → length ys ≤ length vs
ends_by_parts xs ys us vs e le = elim (cases_lt (length vs) (length ys)) [
  | inr ge ↦ ge
  | inl lt ↦ absurd (against (longer us vs xs ys (sym e) (omega (arith, lt, ap length e, length-append xs ys, length-append us vs))) lt)
]
  where
    against : (more : List Numbered) × (us ≡ xs ++ more) → length vs < length ys → ⊥
    against m lt =
        let is : ys ≡ m.0 ++ vs = same_end xs ys (m.0 ++ vs) (e ∙ ap (λ (l : List Numbered). l ++ vs) m.1 ∙ append_assoc xs m.0 vs) in
        absurd (omega (arith, le, lt, ap parts_in is, ap length is, parts_append m.0 vs, length-append m.0 vs, each_part m.0))

-- ---- what was handed on of an index

-- each message of the index up to this number was
abbrev UpTo : (server client : Past) → (ch num : ℕ) → Type 0
UpTo server client ch num = (newer : List Numbered) (x : Numbered) (older : List Numbered) → on_index ch server ≡ newer ++ x ∷ older → x.0 ≤ num → length older < length (from_index ch (delivered_of client))

-- what is in a trail was handed on up to its number
up_to : (end right : End) (server client : Past) → IsRun end server → HandsReceived right client → (ch : ℕ) (made : Numbered) → IsReceived server client ch made → UpTo server client ch made.0
up_to end right server client run hands ch made r newer x older e le =
    let row_x = row_at newer x older (subst InRow e (rows end server run ch).row) in
    let row_made = row_at r.at.newer made r.at.older (subst InRow r.at.split (rows end server run ch).row) in
    let few = ends_by_parts (newer ++ x ∷ []) older (r.at.newer ++ made ∷ []) r.at.older (again newer x older ∙ sym e ∙ r.at.split ∙ sym (again r.at.newer made r.at.older)) (omega (arith, le, row_x, row_made)) in
    omega (
      arith,
      few,
      handed_count right client ch hands,
      ap length r.whole,
      length-append (map (payload_of ch) (reverse (made ∷ r.at.older))) r.rest,
      length-map (reverse (made ∷ r.at.older)) (payload_of ch),
      length-reverse (made ∷ r.at.older),
    )
  where
    again : (xs1 : List Numbered) (b : Numbered) (cs : List Numbered) → (xs1 ++ b ∷ []) ++ cs ≡ xs1 ++ b ∷ cs
    again [] b cs = refl
    again (a ∷ xs1) b cs = ap (λ (l : List Numbered). a ∷ l) (again xs1 b cs)

-- ---- marks

-- the mark's index was handed on as far as the mark
abbrev Covered : (server client : Past) → Mark → Type 0
Covered server client mark = (num : ℕ) × (mark.number ≤ num) × UpTo server client mark.channel num

-- the message was received whole
abbrev Received : (server client : Past) → Mark → Type 0
Received server client mark = is_closing mark.message ≡ true → IsReceived server client mark.channel (mark.number, mark.message)

-- the messages are the first of their index
abbrev First : (server client : Past) → List Mark → Type 0
First server client [] = Unit {0}
First server client (mark ∷ marks) = (is_closing mark.message ≡ true) ⊎ Covered server client mark

-- a dormant close is a close
sleeps_closes : (m : Message) → is_sleeping m ≡ true → is_closing m ≡ true
sleeps_closes (Closes b s) e = refl
sleeps_closes (Opens es b k vs) e = absurd (false≢true e)
sleeps_closes (Updates b k vs) e = absurd (false≢true e)
sleeps_closes (Calls b n k vs) e = absurd (false≢true e)
sleeps_closes (Gone b) e = absurd (false≢true e)

module _ (end right : End) (server client : Past) (run : IsRun end server) (hands : HandsReceived right client) (a : ℕ) where
  covers : (marks : List Mark) → MarksCome a marks → AllByRecursion (Received server client) marks → First server client marks → AllByRecursion (Covered server client) marks
  covers [] come got first = tt
  covers (mark ∷ marks) come got first = by mark.message refl come.0 first (λ f. covers marks come.2 got.1 f)
    where
      closed : is_closing mark.message ≡ true → Covered server client mark
      closed e = (mark.number, omega arith, up_to end right server client run hands mark.channel (mark.number, mark.message) (got.0 e))

      below : (ms : List Mark) → MarkComes mark (Closes a true) ms → is_closing mark.message ≡ true → First server client ms
      below [] c e = tt
      below (last ∷ ms) c e =
          inr (mark.number, omega (arith, c.2), subst (λ (x : ℕ). UpTo server client x mark.number) (sym c.1) (up_to end right server client run hands mark.channel (mark.number, mark.message) (got.0 e)))

      after_open : (es : List Segment) (b : ℕ) (k : Class) (vs : List Pair) (ms : List Mark) → MarkComes mark (Opens es b k vs) ms → First server client ms
      after_open es b k vs [] c = tt
      after_open es b k vs (last ∷ ms) c = inl c

      after_gone : (b : ℕ) (ms : List Mark) → MarkComes mark (Gone b) ms → First server client ms
      after_gone b [] c = tt
      after_gone b (last ∷ ms) c = inl (sleeps_closes last.message c)

      not_closing : (m : Message) → mark.message ≡ m → is_closing m ≡ false → (is_closing mark.message ≡ true) ⊎ Covered server client mark → Covered server client mark
      not_closing m e n (inl c) = absurd (false≢true (sym n ∙ ap is_closing (sym e) ∙ c))
      not_closing m e n (inr c) = c

      close_comes : (b : ℕ) (s : Bool) (ms : List Mark) → MarkComes mark (Closes b s) ms → MarkComes mark (Closes a true) ms
      close_comes b s [] c = c
      close_comes b s (last ∷ ms) c = c

      by : (m : Message) → mark.message ≡ m → MarkComes mark m marks → (is_closing mark.message ≡ true) ⊎ Covered server client mark → (First server client marks → AllByRecursion (Covered server client) marks)
          → AllByRecursion (Covered server client) (mark ∷ marks)
      by (Closes b s) e c f ih = (closed (ap is_closing e), ih (below marks (close_comes b s marks c) (ap is_closing e)))
      by (Opens es b k vs) e c f ih = (not_closing (Opens es b k vs) e refl f, ih (after_open es b k vs marks c))
      by (Gone b) e c f ih = (not_closing (Gone b) e refl f, ih (after_gone b marks c))
      by (Updates b k vs) e c f ih = absurd c
      by (Calls b n k vs) e c f ih = absurd c

-- a mark on an index is among the actor's
index_mark : (a c : ℕ) (x : Numbered) → marks_it a x.1 ≡ true → (past : Past) → IsIn x (on_index c past) → IsIn (record { channel = c; number = x.0; message = x.1 }) (marks_of past a)
index_mark a c x it [] h = absurd h
index_mark a c x it (Ticked t s ∷ past) h = index_mark a c x it past h
index_mark a c x it (Waits m ∷ past) h = index_mark a c x it past h
index_mark a c x it (Sent n t items ∷ past) h = index_mark a c x it past h
index_mark a c x it (Took n es ds ∷ past) h = index_mark a c x it past h
index_mark a c x it (Ended g ∷ past) h = index_mark a c x it past h
index_mark a c x it (Made d n m i ∷ past) h = by ((d == c) && (i == 0)) refl h (λ q. index_mark a c x it past q)
  where
    later : IsIn (record { channel = c; number = x.0; message = x.1 }) (marks_of past a) → (o : Option Mark) → IsIn (record { channel = c; number = x.0; message = x.1 }) (cons_option o (marks_of past a))
    later h None = h
    later h (Some k) = inr h

    by : (t : Bool) → ((d == c) && (i == 0)) ≡ t → IsIn x (cons_option (then_some t (let y : Numbered = (n, m) in y)) (on_index c past)) → (IsIn x (on_index c past) → IsIn (record { channel = c; number = x.0; message = x.1 }) (marks_of past a))
        → IsIn (record { channel = c; number = x.0; message = x.1 }) (cons_option (then_some (marks_it a m && (i == 0)) (let k : Mark = record { channel = d; number = n; message = m } in k)) (marks_of past a))
    by false t h ih = later (ih h) (then_some (marks_it a m && (i == 0)) (record { channel = d; number = n; message = m }))
    by true t (inr h) ih = later (ih h) (then_some (marks_it a m && (i == 0)) (record { channel = d; number = n; message = m }))
    by true t (inl e) ih =
        let p = and_parts (d == c) (i == 0) t in
        let marks : marks_it a m ≡ true = ap (λ (y : Numbered). marks_it a y.1) e ∙ it in
        subst (λ (b : Bool). IsIn (record { channel = c; number = x.0; message = x.1 }) (cons_option (then_some b (let k : Mark = record { channel = d; number = n; message = m } in k)) (marks_of past a)))
        (sym (and_from (marks_it a m) (i == 0) marks p.1))
        (inl (ap (λ (y : ℕ). record { channel = y; number = n; message = m }) (eqb-true d c p.0) ∙ ap (λ (y : Numbered). record { channel = c; number = y.0; message = y.1 }) e))

-- ---- the law

module _ (left right : End) (server client : Past) (run : IsRun left server) (hands : HandsReceived right client) (a : ℕ) (closes : ClosesReceived server client a) (come : MarksCome a (marks_of server a))
    (newer : Past) (ch n : ℕ) (exports : List Segment) (class : Class) (values : List Pair) (older : Past) (split : server ≡ newer ++ Made ch n (Opens exports a class values) 0 ∷ older) where
  marks_split : marks_of server a ≡ marks_of newer a ++ record { channel = ch; number = n; message = Opens exports a class values } ∷ marks_of older a
  marks_split =
      ap (λ (p : Past). marks_of p a) split ∙ filter_map-append (mark_in a) newer (Made ch n (Opens exports a class values) 0 ∷ older)
      ∙ ap (λ (t : Bool). marks_of newer a ++ cons_option (then_some ((t && true) && true) (let k : Mark = record { channel = ch; number = n; message = Opens exports a class values } in k)) (marks_of older a)) (eq-eqb a a refl)

  come_behind : (xs ys : List Mark) → MarksCome a (xs ++ ys) → MarksCome a ys
  come_behind [] ys h = h
  come_behind (x ∷ xs) ys h = come_behind xs ys h.2

  received_behind : (xs : List Mark) (mark : Mark) (ys : List Mark) → AllByRecursion (Received server client) (without_newest (xs ++ mark ∷ ys)) → AllByRecursion (Received server client) ys
  received_behind [] mark ys h = h
  received_behind (x ∷ xs) mark ys h = (all_second (Received server client) xs (mark ∷ ys) h).1

  first : (ms : List Mark) → MarkComes (record { channel = ch; number = n; message = Opens exports a class values }) (Opens exports a class values) ms → First server client ms
  first [] c = tt
  first (last ∷ ms) c = inl c

  all_covered : AllByRecursion (Covered server client) (marks_of older a)
  all_covered =
      let here = come_behind (marks_of newer a) (record { channel = ch; number = n; message = Opens exports a class values } ∷ marks_of older a) (subst (MarksCome a) marks_split come) in
      covers left right server client run hands a (marks_of older a) here.2
      (received_behind (marks_of newer a) (record { channel = ch; number = n; message = Opens exports a class values }) (marks_of older a) (subst (λ (ms : List Mark). AllByRecursion (Received server client) (without_newest ms)) marks_split closes))
      (first (marks_of older a) here.0)

  -- each mark made before the open was handed on
  pub old_marks : (c : ℕ) (before : List Numbered) (x : Numbered) (after : List Numbered) → on_index c older ≡ before ++ x ∷ after → marks_it a x.1 ≡ true → length after < length (from_index c (delivered_of client))
  old_marks c before x after e it =
      let among : IsIn x (on_index c older) = subst (IsIn x) (sym e) (in_middle x before after) in
      let covered : Covered server client (record { channel = c; number = x.0; message = x.1 }) = all_at (Covered server client) (record { channel = c; number = x.0; message = x.1 }) (marks_of older a) all_covered (index_mark a c x it older among) in
      let front : Past = newer ++ Made ch n (Opens exports a class values) 0 ∷ [] in
      let whole : on_index c server ≡ (on_index c front ++ before) ++ x ∷ after =
      ap (on_index c) (split ∙ sym (append_assoc newer (Made ch n (Opens exports a class values) 0 ∷ []) older)) ∙ index_append c front older ∙ ap (λ (l : List Numbered). on_index c front ++ l) e
      ∙ sym (append_assoc (on_index c front) before (x ∷ after)) in
      covered.2 (on_index c front ++ before) x after whole covered.1
