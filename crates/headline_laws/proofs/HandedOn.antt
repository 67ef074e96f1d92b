-- A client still follows its server once the next message of a channel, or a loose one, was handed on.
use Rattle.std.proofs.Common.{◌≡◌, inl, inr, ℕ, ◌+◌, ◌<◌, ◌≤◌, ◌==◌, ◌&&◌, List, [], ◌∷◌, ◌++◌, map, reverse, filter, Bool, true, false, cond, not, refl, sym, ap, ◌∙◌, subst, arith, append_assoc, Option, Some, None, slice_get}
use Rattle.std.specs.Prelude.{is_some}
use Rattle.std.specs.List.{filter_map, cons_option, AllByRecursion}
use Rattle.std.specs.Bool.{then_some}
use Rattle.std.proofs.lemmas.Bool.{cases_Bool, false≢true, eqb-true, eq-eqb, ne_eqb, cases_eq, and_parts, and_from, and_left, and_right}
use Rattle.std.proofs.lemmas.List.{reverse-append, map-append}
use Rattle.protocol_model.specs.Payload.{Message, Opens, Closes, Updates, Calls, Gone, parts_of, actor_of}
use Rattle.protocol_model.specs.Value.{Segment, Class, Pair}
use Rattle.table_model.specs.Facts.{IsTable}
use Rattle.table_model.specs.Rules.{Entry, segments_of}
use Rattle.connection_model.specs.Feed.{End, Past, Made, Ticked, Waits, Sent, Took, Ended, Delivered, has_ended}
use Rattle.connection_model.specs.Bunches.{made_count, after_making, is_closing}
use Rattle.connection_model.specs.Copies.{delivered_of, copy_class, copy_channel, has_copy, actor_opened}
use Rattle.connection_model.specs.State.{Mark, is_mark, mark_in, open_class_in, was_opened}
use Rattle.connection_laws.specs.Run.{Move, Ticks, Makes, Defers, Sends, Takes, Hears, Hands, Ends, after_move, May, IsRun}
use Rattle.connection_laws.specs.Delivered.{on_index, Numbered, messages_on, handed_reliably}
use Rattle.connection_laws.proofs.Moves.{told_ignored, handed_ignored}
use Rattle.connection_laws.proofs.Deeds.{always}
use Rattle.connection_laws.proofs.Items.{all_weaker}
use Rattle.connection_laws.proofs.Spans.{some_parts}
use Rattle.payload_laws.specs.Applied.{Applied}
use Rattle.payload_laws.specs.Delivered.{ExportsStand}
use Rattle.payload_laws.specs.Learning.{StandAmong}
use Rattle.payload_laws.proofs.CopiesAfter.{channel_none, closes_removes, gone_removes, open_class, open_channel, update_class, update_channel, close_class, gone_class, sleep_class, sleep_channel, others_stay, calls_stay}
use Rattle.payload_laws.proofs.Naming.{filter_stands}
use Rattle.headline_laws.specs.Agree.{ComesInTurn}
use Rattle.headline_laws.specs.Fits.{IsSpawned}
use Rattle.headline_laws.specs.Follows.{parts_in, HandsOn, HandsOnAll, IsDone, IsAhead, CopyAfter, MarksFollow, Follows}
use Rattle.headline_laws.specs.Marks.{marks_of, without_newest, MarkComes, MarksCome}
use Rattle.headline_laws.specs.Tells.{MessageTells, DeedTells, OpenExports}
use Rattle.headline_laws.specs.Whole.{MadeAt}
use Rattle.headline_laws.proofs.CopiesGoOn.{agrees_on}
use Rattle.headline_laws.proofs.ReceivedFirst.{parts_append, clear_at}
use Rattle.headline_laws.proofs.Following.{copy_stays}
use Rattle.headline_laws.proofs.PlaceByNumber.{all_mid, all_prefix, place_at, number_is, behind_next}
use Rattle.headline_laws.proofs.MarksInOrder.{made_low}
use Rattle.headline_laws.proofs.NextPasses.{each_made, exports_in, path_stands, close_finds, ServerFacts, Ready, Comes, at_turn, CanHand}
use Rattle.headline_laws.proofs.Reopened.{marks_it, new_mark, marks_made, marks_at, IsMade}
use Rattle.headline_laws.proofs.NextInTurn.{next_in_turn}
use Rattle.protocol_model.specs.Side.{AtServer}
use Rattle.payload_laws.specs.Accepted.{StandsIn}

-- ---- an actor's marks on an index have falling numbers, the newest first

-- the marks' numbers on one channel fall, the newest first
abbrev pub Fall : List Mark → Type 0
Fall [] = Unit {0}
Fall (mark ∷ before) = AllByRecursion (λ (z : Mark). z.channel ≡ mark.channel → z.number < mark.number) before × Fall before

-- an actor's marks fall after one more
fall_made : (end : End) (past : Past) (c : ℕ) (m : Message) → IsRun end past → ((a : ℕ) → Fall (marks_of past a)) → (a : ℕ) → Fall (marks_of (after_making past c m) a)
fall_made end past c m run h a = subst Fall (sym (marks_made past a c m)) (by (marks_it a m))
  where
    low : (z : Mark) → IsMade past z → z.channel ≡ c → z.number < made_count past c + 1
    low z at e = (let b = made_low end past run z.channel (z.number, z.message) at in omega (arith, b.0, some_parts z.message, ap (made_count past) e))

    by : (t : Bool) → Fall (cond t (new_mark past c m ∷ marks_of past a) (marks_of past a))
    by true = (all_weaker (IsMade past) (λ (z : Mark). z.channel ≡ c → z.number < made_count past c + 1) low (marks_of past a) (marks_at a past), h a)
    by false = h a

-- an actor's marks do
pub marks_fall : (end : End) (past : Past) → IsRun end past → (a : ℕ) → Fall (marks_of past a)
marks_fall end past run = always end (λ past. (a : ℕ) → Fall (marks_of past a)) (λ a. tt) step past run
  where
    step : (past : Past) (move : Move) → IsRun end past → has_ended past ≡ false → May end past move → ((a : ℕ) → Fall (marks_of past a)) → (a : ℕ) → Fall (marks_of (after_move past move) a)
    step past (Ticks sight) run alive may h = h
    step past (Makes c m) run alive may h = fall_made end past c m run h
    step past (Defers m) run alive may h = h
    step past (Sends items) run alive may h = h
    step past (Takes n) run alive may h = h
    step past (Hears entry) run alive may h = λ a. subst Fall (sym (told_ignored (mark_in a) (λ n e es ds. refl) entry past)) (h a)
    step past (Hands d) run alive may h = λ a. subst Fall (sym (handed_ignored (mark_in a) (λ n es d ds. refl) d past)) (h a)
    step past (Ends g) run alive may h = h

-- the marks before one are above it on its channel
above_mid : (front : List Mark) (mark : Mark) (older : List Mark) → Fall (front ++ mark ∷ older) → AllByRecursion (λ (z : Mark). mark.channel ≡ z.channel → mark.number < z.number) front
above_mid [] mark older h = tt
above_mid (x ∷ front) mark older h = (all_mid (λ (z : Mark). z.channel ≡ x.channel → z.number < x.number) front mark older h.0, above_mid front mark older h.1)

-- the marks are the actor's
come_all : (a : ℕ) (ks : List Mark) → MarksCome a ks → AllByRecursion (λ (z : Mark). (actor_of z.message ≡ a) × (is_mark z.message ≡ true)) ks
come_all a [] h = tt
come_all a (z ∷ ks) h = ((h.1, by z.message ks h.0), come_all a ks h.2)
  where
    by : (m : Message) (before : List Mark) → MarkComes z m before → is_mark m ≡ true
    by (Opens exports b class values) before c = refl
    by (Closes b sleeps) before c = refl
    by (Gone b) before c = refl
    by (Updates b class values) before c = absurd c
    by (Calls b n call args) before c = absurd c

-- what holds of all twice holds together
both_all : (P Q : Mark → Type 0) (ks : List Mark) → AllByRecursion P ks → AllByRecursion Q ks → AllByRecursion (λ (z : Mark). P z × Q z) ks
both_all P Q [] p q = tt
both_all P Q (z ∷ ks) p q = ((p.0, q.0), both_all P Q ks p.1 q.1)

-- an open that was made
opened_there : (past : Past) (ch : ℕ) (made : Numbered) (exports : List Segment) (a : ℕ) (class : Class) (values : List Pair) → made.1 ≡ Opens exports a class values → MadeAt past ch made → was_opened past a ≡ true
opened_there past ch made exports a class values is at = in_it past at.newer at.split
  where
    on : (past : Past) (o : Option Class) → was_opened past a ≡ true → is_some (slice_get (cons_option o (filter_map (open_class_in a) past)) 0) ≡ true
    on past None h = h
    on past (Some x) h = refl

    in_it : (past : Past) (newer : List Numbered) → on_index ch past ≡ newer ++ made ∷ at.older → was_opened past a ≡ true
    in_it [] [] e = absurd (let no : [] ≡ made ∷ at.older = e in cc)
    in_it [] (x ∷ newer) e = absurd (let no : [] ≡ x ∷ (newer ++ made ∷ at.older) = e in cc)
    in_it (Ticked t s ∷ past) newer e = in_it past newer e
    in_it (Waits m ∷ past) newer e = in_it past newer e
    in_it (Sent n t items ∷ past) newer e = in_it past newer e
    in_it (Took n es ds ∷ past) newer e = in_it past newer e
    in_it (Ended g ∷ past) newer e = in_it past newer e
    in_it (Made c n m i ∷ past) newer e = by (c == ch && i == 0) newer e (λ ns q. in_it past ns q)
      where
        here : (n, m) ≡ made → is_some (slice_get (cons_option (open_class_in a (Made c n m i)) (filter_map (open_class_in a) past)) 0) ≡ true
        here e =
            let m_is : m ≡ Opens exports a class values = ap (λ (y : Numbered). y.1) e ∙ is in
            subst (λ (w : Message). is_some (slice_get (cons_option (open_class_in a (Made c n w i)) (filter_map (open_class_in a) past)) 0) ≡ true) (sym m_is)
            (ap (λ (b : Bool). is_some (slice_get (cons_option (then_some b class) (filter_map (open_class_in a) past)) 0)) (eq-eqb a a refl))

        by : (b : Bool) (newer : List Numbered) → cons_option (then_some b (n, m)) (on_index ch past) ≡ newer ++ made ∷ at.older
            → ((ns : List Numbered) → on_index ch past ≡ ns ++ made ∷ at.older → was_opened past a ≡ true) → was_opened (Made c n m i ∷ past) a ≡ true
        by true [] e ih = here (head (n, m) made (on_index ch past) at.older e)
          where
            head : (x y : Numbered) (xs ys : List Numbered) → x ∷ xs ≡ y ∷ ys → x ≡ y
            head x y xs ys e = cc
        by true (x ∷ newer) e ih = on past (open_class_in a (Made c n m i)) (ih newer (tail (n, m) x (on_index ch past) (newer ++ made ∷ at.older) e))
          where
            tail : (x y : Numbered) (xs ys : List Numbered) → x ∷ xs ≡ y ∷ ys → xs ≡ ys
            tail x y xs ys e = cc
        by false newer e ih = on past (open_class_in a (Made c n m i)) (ih newer e)

-- ---- one more payload

module _ (r later : Past) (d : Delivered) (applied : Applied r later d) where
  -- a copy that the message doesn't mark stays
  copy_same : (m : Message) → d.message ≡ m → (b : ℕ) → ((actor_of m == b) && is_mark m) ≡ false → (has_copy later b ≡ has_copy r b) × (copy_channel later b ≡ copy_channel r b)
  copy_same m e b quiet = elim (cases_Bool (actor_of m == b)) [
    | inr q ↦ (
        let s = others_stay r later d b applied (ap (λ (w : Message). actor_of w == b) e ∙ q) in
        (ap (λ (o : Option Class). is_some o) s.class, s.channel))
    | inl q ↦ by m e (sym (ap (λ (t : Bool). t && is_mark m) q) ∙ quiet) (eqb-true (actor_of m) b q)
  ]
    where
      by : (m : Message) → d.message ≡ m → is_mark m ≡ false → actor_of m ≡ b → (has_copy later b ≡ has_copy r b) × (copy_channel later b ≡ copy_channel r b)
      by (Opens exports a class values) e n s = absurd (false≢true (sym n))
      by (Closes a sleeps) e n s = absurd (false≢true (sym n))
      by (Gone a) e n s = absurd (false≢true (sym n))
      by (Updates a class values) e n s =
          subst (λ (x : ℕ). (has_copy later x ≡ has_copy r x) × (copy_channel later x ≡ copy_channel r x)) s
          (ap (λ (o : Option Class). is_some o) (update_class r later d a class values applied e), update_channel r later d a class values applied e)
      by (Calls a n call args) e k s = (let t = calls_stay r later d a n call args b applied e in (ap (λ (o : Option Class). is_some o) t.class, t.channel))

  -- the copy that a mark leaves
  copy_after : (m : Message) → d.message ≡ m → (is_closing m ≡ true → has_copy r (actor_of m) ≡ true) → is_mark m ≡ true → CopyAfter later (actor_of m) d.channel m
  copy_after (Opens exports a class values) e had it = (ap (λ (o : Option Class). is_some o) (open_class r later d exports a class values applied e), open_channel r later d exports a class values applied e)
  copy_after (Closes a true) e had it = (ap (λ (o : Option Class). is_some o) (sleep_class r later d a applied e) ∙ had refl, sleep_channel r later d a applied e)
  copy_after (Closes a false) e had it = (ap (λ (o : Option Class). is_some o) (close_class r later d a applied e), channel_none r later d a applied (closes_removes d a e))
  copy_after (Gone a) e had it = (ap (λ (o : Option Class). is_some o) (gone_class r later d a applied e), channel_none r later d a applied (gone_removes d a e))
  copy_after (Updates a class values) e had it = absurd (false≢true it)
  copy_after (Calls a n call args) e had it = absurd (false≢true it)

  -- classes
  known_after : (classes : ℕ → Class) (l : Past) → ((a : ℕ) (class : Class) → copy_class r a ≡ Some class → (class ≡ classes a) × (was_opened l a ≡ true)) → (m : Message) → d.message ≡ m
      → ((exports : List Segment) (a : ℕ) (class : Class) (values : List Pair) → m ≡ Opens exports a class values → (class ≡ classes a) × (was_opened l a ≡ true))
      → (b : ℕ) (class : Class) → copy_class later b ≡ Some class → (class ≡ classes b) × (was_opened l b ≡ true)
  known_after classes l known m e opens b class h = elim (cases_Bool (actor_of m == b)) [
    | inr q ↦ known b class (sym (others_stay r later d b applied (ap (λ (w : Message). actor_of w == b) e ∙ q)).class ∙ h)
    | inl q ↦ subst (λ (x : ℕ). (class ≡ classes x) × (was_opened l x ≡ true)) (eqb-true (actor_of m) b q) (by m e opens (ap (copy_class later) (eqb-true (actor_of m) b q) ∙ h))
  ]
    where
      none : (o : Option Class) → o ≡ None → o ≡ Some class → ⊥
      none o p q = (let no : (let x : Option Class = None in x) ≡ Some class = sym p ∙ q in cc)

      some : (x : Class) (o : Option Class) → o ≡ Some x → o ≡ Some class → x ≡ class
      some x o p q = (let e : (let y : Option Class = Some x in y) ≡ Some class = sym p ∙ q in cc)

      by : (m : Message) → d.message ≡ m → ((exports : List Segment) (a : ℕ) (class : Class) (values : List Pair) → m ≡ Opens exports a class values → (class ≡ classes a) × (was_opened l a ≡ true))
          → copy_class later (actor_of m) ≡ Some class → (class ≡ classes (actor_of m)) × (was_opened l (actor_of m) ≡ true)
      by (Opens exports a k values) e opens h =
          let o = opens exports a k values refl in
          (sym (some k (copy_class later a) (open_class r later d exports a k values applied e) h) ∙ o.0, o.1)
      by (Closes a true) e opens h = known a class (sym (sleep_class r later d a applied e) ∙ h)
      by (Closes a false) e opens h = absurd (none (copy_class later a) (close_class r later d a applied e) h)
      by (Gone a) e opens h = absurd (none (copy_class later a) (gone_class r later d a applied e) h)
      by (Updates a k values) e opens h = known a class (sym (update_class r later d a k values applied e) ∙ h)
      by (Calls a n call args) e opens h = known a class (sym (calls_stay r later d a n call args a applied e).class ∙ h)

  exports_after : (segments : List Segment) (m : Message) → d.message ≡ m → StandAmong segments (exports_in m) → ExportsStand segments (delivered_of r) → ExportsStand segments (delivered_of later)
  exports_after segments m e st h = subst (ExportsStand segments) (sym applied) (subst (λ (w : Message). StandAmong segments (exports_in w)) (sym e) st, h)

  spawned_after : (m : Message) → d.message ≡ m → ((exports : List Segment) (a : ℕ) (class : Class) (values : List Pair) → m ≡ Opens exports a class values → IsSpawned a)
      → AllByRecursion IsSpawned (filter_map actor_opened (delivered_of r)) → AllByRecursion IsSpawned (filter_map actor_opened (delivered_of later))
  spawned_after m e opens h = subst (λ (ds : List Delivered). AllByRecursion IsSpawned (filter_map actor_opened ds)) (sym applied) (by m e opens)
    where
      put : (o : Option ℕ) → actor_opened d ≡ o → ((a : ℕ) → o ≡ Some a → IsSpawned a) → AllByRecursion IsSpawned (cons_option (actor_opened d) (filter_map actor_opened (delivered_of r)))
      put None q s = subst (λ (o : Option ℕ). AllByRecursion IsSpawned (cons_option o (filter_map actor_opened (delivered_of r)))) (sym q) h
      put (Some a) q s = subst (λ (o : Option ℕ). AllByRecursion IsSpawned (cons_option o (filter_map actor_opened (delivered_of r)))) (sym q) (s a refl, h)

      opened_by : Message → Option ℕ
      opened_by w = elim w [ Opens exports actor class values ↦ Some actor | _ ↦ None ]

      none : (a : ℕ) → (let o : Option ℕ = None in o) ≡ Some a → IsSpawned a
      none a q = absurd (cc)

      by : (m : Message) → d.message ≡ m → ((exports : List Segment) (a : ℕ) (class : Class) (values : List Pair) → m ≡ Opens exports a class values → IsSpawned a)
          → AllByRecursion IsSpawned (cons_option (actor_opened d) (filter_map actor_opened (delivered_of r)))
      by (Opens exports a class values) e opens = put (Some a) (rw e refl) (λ b q. (let same : a ≡ b = cc in subst IsSpawned same (opens exports a class values refl)))
      by (Closes a sleeps) e opens = put None (rw e refl) none
      by (Updates a class values) e opens = put None (rw e refl) none
      by (Calls a n call args) e opens = put None (rw e refl) none
      by (Gone a) e opens = put None (rw e refl) none

  -- what was handed on from an index
  pub handed_here : (ch : ℕ) → (d.channel == ch && d.reliable) ≡ true → map (λ (x : Delivered). x.message) (handed_reliably later ch) ≡ map (λ (x : Delivered). x.message) (handed_reliably r ch) ++ d.message ∷ []
  handed_here ch t =
      let fs : List Delivered = filter (λ (x : Delivered). x.channel == ch && x.reliable) (delivered_of r) in
      ap (λ (ds : List Delivered). map (λ (x : Delivered). x.message) (reverse (filter (λ (x : Delivered). x.channel == ch && x.reliable) ds))) applied
      ∙ ap (λ (b : Bool). map (λ (x : Delivered). x.message) (reverse (cond b (d ∷ filter (λ (x : Delivered). x.channel == ch && x.reliable) (delivered_of r)) (filter (λ (x : Delivered). x.channel == ch && x.reliable) (delivered_of r))))) t
      ∙ ap (map (λ (x : Delivered). x.message)) (reverse-append (d ∷ []) fs) ∙ map-append (λ (x : Delivered). x.message) (reverse fs) (d ∷ [])

  pub handed_elsewhere : (ch : ℕ) → (d.channel == ch && d.reliable) ≡ false → handed_reliably later ch ≡ handed_reliably r ch
  handed_elsewhere ch t =
      ap (λ (ds : List Delivered). reverse (filter (λ (x : Delivered). x.channel == ch && x.reliable) ds)) applied
      ∙ ap (λ (b : Bool). reverse (cond b (d ∷ filter (λ (x : Delivered). x.channel == ch && x.reliable) (delivered_of r)) (filter (λ (x : Delivered). x.channel == ch && x.reliable) (delivered_of r)))) t

-- ---- the next message of a channel

module _ (l r later : Past) (d : Delivered) (applied : Applied r later d) (hands : HandsOnAll l r) (ch : ℕ) (made : Numbered) (next : Comes l r hands ch made) (on : d.channel ≡ ch) (reliable : d.reliable ≡ true) (is : d.message ≡ made.1) where
  abbrev pub pick : (c : ℕ) (b : Bool) → (ch == c) ≡ b → HandsOn l later c
  pick c true e = record {
    done = (hands c).done ++ made ∷ [];
    later = next.later;
    split = subst (λ (x : ℕ). messages_on l x ≡ (hands x).done ++ made ∷ next.later) (eqb-true ch c e) next.split ∙ sym (append_assoc (hands c).done (made ∷ []) next.later);
    same = handed_here r later d applied c (and_from (d.channel == c) d.reliable (ap (λ (x : ℕ). x == c) on ∙ e) reliable)
        ∙ ap (λ (ms : List Message). ms ++ d.message ∷ []) (hands c).same ∙ ap (λ (m : Message). map (λ (x : Numbered). x.1) (hands c).done ++ m ∷ []) is
        ∙ sym (map-append (λ (x : Numbered). x.1) (hands c).done (made ∷ []));
  }
  pick c false e = record {
    done = (hands c).done;
    later = (hands c).later;
    split = (hands c).split;
    same = ap (map (λ (x : Delivered). x.message)) (handed_elsewhere r later d applied c (and_left (d.channel == c) d.reliable (ap (λ (x : ℕ). x == c) on ∙ e))) ∙ (hands c).same;
  }

  abbrev pub hands_one : HandsOnAll l later
  hands_one c = pick c (ch == c) refl

  pick_count : (c : ℕ) (b : Bool) (e : (ch == c) ≡ b) → parts_in (pick c b e).done ≡ parts_in (hands c).done + cond b (parts_of made.1) 0
  pick_count c true e = omega (arith, parts_append (hands c).done (made ∷ []))
  pick_count c false e = omega arith

  pub count_here : parts_in (hands_one ch).done ≡ parts_in (hands ch).done + parts_of made.1
  count_here = omega (arith, pick_count ch (ch == ch) refl, ap (λ (b : Bool). cond b (parts_of made.1) 0) (eq-eqb ch ch refl))

  count_grows : (c : ℕ) → parts_in (hands c).done ≤ parts_in (hands_one c).done
  count_grows c = omega (arith, pick_count c (ch == c) refl)

  count_else : (c : ℕ) → (ch ≡ c → ⊥) → parts_in (hands_one c).done ≡ parts_in (hands c).done
  count_else c ne = omega (arith, pick_count c (ch == c) refl, ap (λ (b : Bool). cond b (parts_of made.1) 0) (ne_eqb ch c ne))

  pick_here : (c : ℕ) (b : Bool) (e : (ch == c) ≡ b) → ch ≡ c → (pick c b e).done ≡ (hands c).done ++ made ∷ []
  pick_here c true e s = refl
  pick_here c false e s = absurd (false≢true (sym e ∙ eq-eqb ch c s))

  pick_else : (c : ℕ) (b : Bool) (e : (ch == c) ≡ b) → (ch ≡ c → ⊥) → (pick c b e).done ≡ (hands c).done
  pick_else c true e ne = absurd (ne (eqb-true ch c e))
  pick_else c false e ne = refl

  pub done_here : (hands_one ch).done ≡ (hands ch).done ++ made ∷ []
  done_here = pick_here ch (ch == ch) refl refl

  pub done_else : (c : ℕ) → (ch ≡ c → ⊥) → (hands_one c).done ≡ (hands c).done
  done_else c ne = pick_else c (ch == c) refl ne

  -- what was handed on still was
  still_done : (mark : Mark) → IsDone l r hands mark → IsDone l later hands_one mark
  still_done mark h = omega (arith, h, count_grows mark.channel)

  -- and what was ahead still is, but for the message
  still_ahead : (left : End) → IsRun left l → (z : Mark) → IsMade l z → IsAhead l r hands z → (z.channel ≡ ch → (z.number, z.message) ≡ made → ⊥) → IsAhead l later hands_one z
  still_ahead left run z at h other = elim (cases_eq ch z.channel) [
    | inr ne ↦ omega (arith, h, count_else z.channel ne)
    | inl e ↦ (
        let here : MadeAt l ch (z.number, z.message) = subst (λ (c : ℕ). MadeAt l c (z.number, z.message)) (sym e) at in
        let above : parts_in (hands ch).done < z.number = subst (λ (c : ℕ). parts_in (hands c).done < z.number) (sym e) h in
        elim (behind_next left l run ch (hands ch).done made next.later next.split (z.number, z.message) here above) [
          | inl q ↦ absurd (other (sym e) q)
          | inr q ↦ (let n : parts_in (hands_one z.channel).done ≡ parts_in (hands_one ch).done = ap (λ (c : ℕ). parts_in (hands_one c).done) (sym e) in omega (arith, q, n, count_here))
        ])
  ]

  ready_one : Ready l r hands → Ready l later hands_one
  ready_one h = record {
    closed = λ a. all_weaker (λ (mark : Mark). is_closing mark.message ≡ true → IsDone l r hands mark) (λ (mark : Mark). is_closing mark.message ≡ true → IsDone l later hands_one mark)
        (λ mark f q. still_done mark (f q)) (without_newest (marks_of l a)) (h.closed a);
    exported = λ guid e. (let x = h.exported guid e in record { channel = x.channel; made = x.made; exports = x.exports; at = x.at; done = omega (arith, x.done, count_grows x.channel) });
  }

-- the client follows again
pub record Handed1 (entries : List Entry) (classes : ℕ → Class) (l r later : Past) (ch : ℕ) (made : Numbered) (hands : HandsOnAll l r) : Type 0 where
  pub follows : Follows (segments_of entries) classes l later
  pub ready : Ready l later follows.hands
  pub here : (follows.hands ch).done ≡ (hands ch).done ++ made ∷ []
  pub others : (c : ℕ) → (ch ≡ c → ⊥) → (follows.hands c).done ≡ (hands c).done

module _ (entries : List Entry) (is_table : IsTable entries) (classes : ℕ → Class) (left right : End) (l r later : Past) (facts : ServerFacts entries classes left l) (f : Follows (segments_of entries) classes l r) (ready : Ready l r f.hands)
    (ch : ℕ) (made : Numbered) (next : Comes l r f.hands ch made) (can : CanHand right r ch made) (d : Delivered) (applied : Applied r later d) (on : d.channel ≡ ch) (reliable : d.reliable ≡ true) (is : d.message ≡ made.1) where
  abbrev now : HandsOnAll l later
  now = hands_one l r later d applied f.hands ch made next on reliable is

  here : MadeAt l ch made
  here = place_at l ch (f.hands ch).done made next.later next.split

  tells : MessageTells entries classes AtServer made.1
  tells = (each_made (DeedTells entries classes AtServer) l ch made facts.tells here).1

  exports : OpenExports l made.1
  exports = clear_at (λ (x : Numbered). OpenExports l x.1) (here).newer made (here).older (subst (AllByRecursion (λ (x : Numbered). OpenExports l x.1)) (here).split (facts.exports ch))

  mark : Mark
  mark = record { channel = ch; number = made.0; message = made.1 }

  stand : StandAmong (segments_of entries) (exports_in made.1)
  stand = by made.1 tells exports
    where
      by : (m : Message) → MessageTells entries classes AtServer m → OpenExports l m → StandAmong (segments_of entries) (exports_in m)
      by (Opens xs a class values) t e =
          subst (StandAmong (segments_of entries)) (sym e.is)
          (filter_stands (segments_of entries) (λ (s : Segment). not (e.known s.guid)) class.path (path_stands entries class (subst (StandsIn entries) (sym t.same) t.known.stands)))
      by (Closes a sleeps) t e = tt
      by (Updates a class values) t e = tt
      by (Calls a n call args) t e = tt
      by (Gone a) t e = tt

  opens_say : (m : Message) → MessageTells entries classes AtServer m → (xs : List Segment) (a : ℕ) (class : Class) (values : List Pair) → m ≡ Opens xs a class values → (class ≡ classes a) × IsSpawned a
  opens_say m t xs a class values e =
      let s : MessageTells entries classes AtServer (Opens xs a class values) = subst (MessageTells entries classes AtServer) e t in
      (s.same, s.known.spawned)

  -- an actor's marks
  ahead_still : (b : ℕ) (ks : List Mark) → AllByRecursion (IsMade l) ks → AllByRecursion (IsAhead l r f.hands) ks → AllByRecursion (λ (z : Mark). z.channel ≡ ch → (z.number, z.message) ≡ made → ⊥) ks → AllByRecursion (IsAhead l later now) ks
  ahead_still b [] m a o = tt
  ahead_still b (z ∷ ks) m a o = (still_ahead l r later d applied f.hands ch made next on reliable is left facts.run z m.0 a.0 o.0, ahead_still b ks m.1 a.1 o.1)

  done_still : (ks : List Mark) → AllByRecursion (IsDone l r f.hands) ks → AllByRecursion (IsDone l later now) ks
  done_still ks h = all_weaker (IsDone l r f.hands) (IsDone l later now) (λ z q. still_done l r later d applied f.hands ch made next on reliable is z q) ks h

  made_newer : (b : ℕ) → AllByRecursion (IsMade l) (f.marks b).newer
  made_newer b = all_prefix (IsMade l) (f.marks b).newer (f.marks b).older (subst (AllByRecursion (IsMade l)) (f.marks b).split (marks_at b l))

  -- the marks of an actor that the message doesn't mark
  others_follow : (b : ℕ) → ((actor_of made.1 == b) && is_mark made.1) ≡ false → MarksFollow l later now b
  others_follow b quiet = record {
    newer = (f.marks b).newer;
    older = (f.marks b).older;
    split = (f.marks b).split;
    ahead = ahead_still b (f.marks b).newer (made_newer b) (f.marks b).ahead
        (all_weaker (λ (z : Mark). (actor_of z.message ≡ b) × (is_mark z.message ≡ true)) (λ (z : Mark). z.channel ≡ ch → (z.number, z.message) ≡ made → ⊥) (λ z q c e. other z q e) (f.marks b).newer
        (all_prefix (λ (z : Mark). (actor_of z.message ≡ b) × (is_mark z.message ≡ true)) (f.marks b).newer (f.marks b).older (subst (AllByRecursion (λ (z : Mark). (actor_of z.message ≡ b) × (is_mark z.message ≡ true))) (f.marks b).split (come_all b (marks_of l b) (facts.come b)))));
    done = done_still (f.marks b).older (f.marks b).done;
    copy = (let s = copy_same r later d applied made.1 is b quiet in copy_stays r later b s.0 s.1 (f.marks b).older (f.marks b).copy);
  }
    where
      other : (z : Mark) → (actor_of z.message ≡ b) × (is_mark z.message ≡ true) → (z.number, z.message) ≡ made → ⊥
      other z q e =
          let m : z.message ≡ made.1 = ap (λ (x : Numbered). x.1) e in
          false≢true (sym quiet ∙ and_from (actor_of made.1 == b) (is_mark made.1) (eq-eqb (actor_of made.1) b (ap actor_of (sym m) ∙ q.0)) (ap is_mark (sym m) ∙ q.1))

  -- and those of the one that it does
  its_follow : (b : ℕ) → actor_of made.1 ≡ b → is_mark made.1 ≡ true → MarksFollow l later now b
  its_follow b same it =
      let t = at_turn left l r facts.run f.hands ready ch made next b (facts.come b) (f.marks b) same it in
      let all : marks_of l b ≡ t.front ++ record { channel = ch; number = made.0; message = made.1 } ∷ (f.marks b).older =
      (f.marks b).split ∙ ap (λ (ks : List Mark). ks ++ (f.marks b).older) t.is ∙ append_assoc t.front (record { channel = ch; number = made.0; message = made.1 } ∷ []) (f.marks b).older in
      let fall = above_mid t.front (record { channel = ch; number = made.0; message = made.1 }) (f.marks b).older (subst Fall all (marks_fall left l facts.run b)) in
      let n : made.0 ≡ parts_in (f.hands ch).done + 1 = number_is left l facts.run ch (f.hands ch).done made next.later next.split in
      record {
        newer = t.front;
        older = record { channel = ch; number = made.0; message = made.1 } ∷ (f.marks b).older;
        split = all;
        ahead = ahead_still b t.front (all_prefix (IsMade l) t.front (record { channel = ch; number = made.0; message = made.1 } ∷ []) (subst (AllByRecursion (IsMade l)) t.is (made_newer b)))
            (all_prefix (IsAhead l r f.hands) t.front (record { channel = ch; number = made.0; message = made.1 } ∷ []) (subst (AllByRecursion (IsAhead l r f.hands)) t.is (f.marks b).ahead))
            (all_weaker (λ (z : Mark). ch ≡ z.channel → made.0 < z.number) (λ (z : Mark). z.channel ≡ ch → (z.number, z.message) ≡ made → ⊥) (λ z q c e. above z (q (sym c)) (ap (λ (x : Numbered). x.0) e)) t.front fall);
        done = (omega (arith, n, count_here l r later d applied f.hands ch made next on reliable is, some_parts made.1), done_still (f.marks b).older (f.marks b).done);
        copy = subst (λ (c : ℕ). CopyAfter later b c made.1) on
            (subst (λ (x : ℕ). CopyAfter later x d.channel made.1) same (copy_after r later d applied made.1 is (had made.1 t.comes) it));
      }
    where
      above : (z : Mark) → made.0 < z.number → z.number ≡ made.0 → ⊥
      above z lt e = absurd (omega (arith, lt, e))

      had : (m : Message) → MarkComes (record { channel = ch; number = made.0; message = made.1 }) m (f.marks b).older → is_closing m ≡ true → has_copy r (actor_of made.1) ≡ true
      had (Closes x sleeps) c q = ap (has_copy r) same ∙ close_finds r b (record { channel = ch; number = made.0; message = made.1 }) x sleeps (f.marks b).older c (f.marks b).copy
      had (Opens xs x class values) c q = absurd (false≢true q)
      had (Updates x class values) c q = absurd (false≢true q)
      had (Calls x n call args) c q = absurd (false≢true q)
      had (Gone x) c q = absurd (false≢true q)

  all_follow : (b : ℕ) → MarksFollow l later now b
  all_follow b = elim (cases_Bool ((actor_of made.1 == b) && is_mark made.1)) [
    | inl q ↦ (let p = and_parts (actor_of made.1 == b) (is_mark made.1) q in its_follow b (eqb-true (actor_of made.1) b p.0) p.1)
    | inr q ↦ others_follow b q
  ]

  follows_now : Follows (segments_of entries) classes l later
  follows_now = record {
    hands = now;
    agree = agrees_on r later d applied f.agree
        (next_in_turn left l r facts.side facts.run ch (f.hands ch).done made d (record { later = next.later; split = next.split; same = (f.hands ch).same }) on reliable is can.finds);
    marks = all_follow;
    known = known_after r later d applied classes l f.known made.1 is (λ xs a class values e. ((opens_say made.1 tells xs a class values e).0, opened_there l ch made xs a class values e here));
    exports = exports_after r later d applied (segments_of entries) made.1 is stand f.exports;
    spawned = spawned_after r later d applied made.1 is (λ xs a class values e. (opens_say made.1 tells xs a class values e).1) f.spawned;
  }

  pub handed_one : Handed1 entries classes l r later ch made f.hands
  unfolding follows_now
  handed_one = record {
    follows = follows_now;
    ready = ready_one l r later d applied f.hands ch made next on reliable is ready;
    here = done_here l r later d applied f.hands ch made next on reliable is;
    others = done_else l r later d applied f.hands ch made next on reliable is;
  }

-- ---- a loose message

module _ (segments : List Segment) (classes : ℕ → Class) (l r later : Past) (f : Follows segments classes l r) (d : Delivered) (applied : Applied r later d) (loose : d.reliable ≡ false) (plain : is_mark d.message ≡ false) where
  pub same_hands : (ch : ℕ) → handed_reliably later ch ≡ handed_reliably r ch
  same_hands ch = handed_elsewhere r later d applied ch (and_right (d.channel == ch) d.reliable loose)

  abbrev pub hands_loose : HandsOnAll l later
  hands_loose ch = record { done = (f.hands ch).done; later = (f.hands ch).later; split = (f.hands ch).split; same = ap (map (λ (x : Delivered). x.message)) (same_hands ch) ∙ (f.hands ch).same }

  quiet : (b : ℕ) → ((actor_of d.message == b) && is_mark d.message) ≡ false
  quiet b = and_right (actor_of d.message == b) (is_mark d.message) plain

  turn : ComesInTurn r d d.message
  turn = by d.message plain
    where
      by : (m : Message) → is_mark m ≡ false → ComesInTurn r d m
      by (Updates a class values) q = tt
      by (Calls a n call args) q = tt
      by (Opens xs a class values) q = absurd (false≢true (sym q))
      by (Closes a sleeps) q = absurd (false≢true (sym q))
      by (Gone a) q = absurd (false≢true (sym q))

  no_open : (xs : List Segment) (a : ℕ) (class : Class) (values : List Pair) → d.message ≡ Opens xs a class values → ⊥
  no_open xs a class values e = false≢true (sym plain ∙ ap is_mark e)

  stands : StandAmong segments (exports_in d.message)
  stands = by d.message plain
    where
      by : (m : Message) → is_mark m ≡ false → StandAmong segments (exports_in m)
      by (Updates a class values) q = tt
      by (Calls a n call args) q = tt
      by (Opens xs a class values) q = absurd (false≢true (sym q))
      by (Closes a sleeps) q = absurd (false≢true (sym q))
      by (Gone a) q = absurd (false≢true (sym q))

  pub loose_follows : Follows segments classes l later
  loose_follows = record {
    hands = hands_loose;
    agree = agrees_on r later d applied f.agree turn;
    marks = λ b. (let s = copy_same r later d applied d.message refl b (quiet b) in
        record { newer = (f.marks b).newer; older = (f.marks b).older; split = (f.marks b).split; ahead = (f.marks b).ahead; done = (f.marks b).done; copy = copy_stays r later b s.0 s.1 (f.marks b).older (f.marks b).copy });
    known = known_after r later d applied classes l f.known d.message refl (λ xs a class values e. absurd (no_open xs a class values e));
    exports = exports_after r later d applied segments d.message refl stands f.exports;
    spawned = spawned_after r later d applied d.message refl (λ xs a class values e. absurd (no_open xs a class values e)) f.spawned;
  }

  pub loose_done : (ch : ℕ) → (loose_follows.hands ch).done ≡ (f.hands ch).done
  unfolding loose_follows
  loose_done ch = refl
