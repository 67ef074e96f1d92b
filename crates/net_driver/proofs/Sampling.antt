-- What a tick samples goes before the samples that were taken.
use Rattle.std.proofs.Common.{◌≡◌, ◌≢◌, ℕ, ◌+◌, ◌<◌, ◌≤◌, ◌==◌, List, [], ◌∷◌, ◌++◌, map, length, Bool, true, false, cond, ◌&&◌, ◌||◌, not, Option, Some, None, is_some, refl, sym, ap, ◌∙◌, subst, arith, append_assoc, append-nil}
use Rattle.std.specs.Prelude.{nat_eq, nat_lt, filter, reverse}
use Rattle.std.specs.Bool.{then_some}
use Rattle.std.specs.List.{cons_option}
use Rattle.std.specs.Map.{lookup}
use Rattle.std.proofs.lemmas.Bool.{false≢true, eqb-true, eq-eqb, ne_eqb, and_parts, ltb-true}
use Rattle.std.proofs.lemmas.Bool.Decides.{nat_tests}
use Rattle.std.proofs.lemmas.List.{reverse-append, length-map}
use Rattle.protocol_model.specs.Search.{is_among, newest_of}
use Rattle.protocol_model.specs.Value.{Table}
use Rattle.protocol_model.specs.World.{Edits, actors_of, spawn_of}
use Rattle.protocol_model.specs.Sight.{is_relevant, seen_of}
use Rattle.change_model.specs.Changes.{Sample}
use Rattle.connection_model.specs.Feed.{has_ended}
use Rattle.connection_model.specs.Items.{is_quiet}
use Rattle.connection_laws.specs.Run.{Ascends}
use Rattle.replication_model.specs.Sampled.{is_awake_for}
use Rattle.value_codec.specs.Values.{whole_of}
use Rattle.value_codec.specs.declared.value.Value.{Value}
use Rattle.class_layout.specs.Tables.{Layout, table_in}
use Rattle.shadow_changes.specs.Samples.{Samples, Shadows, Keeps as KeepsSamples, samples_of, lists_in, is_after, have_count}
use Rattle.shadow_changes.specs.Lists.{KeepsLists}
use Rattle.sender_laws.specs.Values.{AreAbove as AreTicksAbove, tick_now}
use Rattle.sender_steps.specs.Stands.{Extends}
use Rattle.actor_sights.proofs.Property.{counted}
use Rattle.driver_laws.specs.Counted.{cells_of}
use Rattle.driver_laws.proofs.Actors.{actors_ascend, spawned_among}
use Rattle.driver_sights.specs.Looking.{is_awake}
use Rattle.driver_sights.specs.Noted.{NotedKept, Notes, is_noted, sample_now, with_sample, SampledBefore, AreBefore}
use Rattle.driver_sights.specs.declared.graves.Grave.{Grave}
use Rattle.sender_steps.specs.declared.sight.Seen.{Seen}
use Rattle.server_end.specs.declared.server_end.ServerEnd.{ServerEnd}
use Rattle.net_driver.specs.declared.chair.Chair.{Chair}
use Rattle.net_driver.specs.declared.chair.Place.{Place}
use Rattle.net_driver.specs.declared.chair.Place.TheVariants.{Living, Dead}
use Rattle.net_driver.specs.Served.{Seat, Served, past_for, connection_of, samples_now, with_samples}
use Rattle.net_driver.specs.Ends.{IsPlace}
use Rattle.net_driver.specs.Serves.{Drive, Serves, IsSeated}
use Rattle.net_driver.specs.Sights.{AreMade, AreSightsFor, AreSampledNow, is_awake_in}
use Rattle.net_driver.proofs.Seats.{still}
use Rattle.net_driver.proofs.Settling.{relevant_spawned}

-- ---- one sample of each actor

behind_option : {A : Type 0} (o : Option A) (xs ys : List A) → cons_option o xs ++ ys ≡ cons_option o (xs ++ ys)
behind_option None xs ys = refl
behind_option (Some x) xs ys = refl

of_both : (one two : Samples) (a : ℕ) → samples_of (one ++ two) a ≡ samples_of one a ++ samples_of two a
of_both [] two a = refl
of_both (s ∷ one) two a =
    ap (cons_option (then_some (s.0 == a) s.1)) (of_both one two a)
    ∙ sym (behind_option (then_some (s.0 == a) s.1) (samples_of one a) (samples_of two a))

reversed : (s : ℕ × Sample) (samples : Samples) → reverse (s ∷ samples) ≡ reverse samples ++ s ∷ []
reversed s samples = reverse-append (s ∷ []) samples

-- of those that pass the test, each once
abbrev picked : (f : ℕ → Sample) (test : ℕ → Bool) → List ℕ → Samples
picked f test actors = map (λ b. (b, f b)) (filter test actors)

none_picked : (f : ℕ → Sample) (test : ℕ → Bool) (a low : ℕ) (actors : List ℕ) → a ≤ low → Ascends low actors
    → samples_of (reverse (picked f test actors)) a ≡ []
none_picked f test a low [] le h = refl
none_picked f test a low (b ∷ actors) le h = by (test b) (none_picked f test a b actors (omega (arith, le, h.0)) h.1)
  where
    ne : (b == a) ≡ false
    ne = ne_eqb b a (λ e. absurd (omega (arith, e, h.0, le)))

    by : (t : Bool) → samples_of (reverse (picked f test actors)) a ≡ []
        → samples_of (reverse (map (λ c. (c, f c)) (cond t (b ∷ filter test actors) (filter test actors)))) a ≡ []
    by true ih =
        ap (λ (s : Samples). samples_of s a) (reversed (b, f b) (picked f test actors))
        ∙ of_both (reverse (picked f test actors)) ((b, f b) ∷ []) a
        ∙ ap (λ (s : List Sample). s ++ samples_of ((b, f b) ∷ []) a) ih ∙ rw ne refl
    by false ih = ih

one_picked : (f : ℕ → Sample) (test : ℕ → Bool) (a low : ℕ) (actors : List ℕ) → Ascends low actors
    → samples_of (reverse (picked f test actors)) a ≡ cond (is_among a actors && test a) (f a ∷ []) []
one_picked f test a low [] h = refl
one_picked f test a low (b ∷ actors) h = by (b == a) refl (test b) refl (one_picked f test a b actors h.1)
  where
    with_last : samples_of (reverse ((b, f b) ∷ picked f test actors)) a
        ≡ samples_of (reverse (picked f test actors)) a ++ samples_of ((b, f b) ∷ []) a
    with_last = ap (λ (s : Samples). samples_of s a) (reversed (b, f b) (picked f test actors))
        ∙ of_both (reverse (picked f test actors)) ((b, f b) ∷ []) a

    by : (e : Bool) → (b == a) ≡ e → (t : Bool) → test b ≡ t
        → samples_of (reverse (picked f test actors)) a ≡ cond (is_among a actors && test a) (f a ∷ []) []
        → samples_of (reverse (map (λ c. (c, f c)) (cond t (b ∷ filter test actors) (filter test actors)))) a
        ≡ cond ((e || is_among a actors) && test a) (f a ∷ []) []
    by true e true q ih =
        let is : b ≡ a = eqb-true b a e in
        let none = none_picked f test a b actors (omega (arith, is)) h.1 in
        with_last ∙ ap (λ (s : List Sample). s ++ samples_of ((b, f b) ∷ []) a) none
        ∙ rw (e, sym (ap test is) ∙ q) (ap (λ (c : ℕ). f c ∷ []) is)
    by true e false q ih =
        let is : b ≡ a = eqb-true b a e in
        let none = none_picked f test a b actors (omega (arith, is)) h.1 in
        none ∙ rw (sym (ap test is) ∙ q) refl
    by false e true q ih =
        with_last ∙ ap (λ (s : List Sample). s ++ samples_of ((b, f b) ∷ []) a) ih ∙ rw e (append-nil _)
    by false e false q ih = ih

-- an actor that is awake for one of them was spawned
awake_relevant : (table : Table) (edits : Edits) (a : ℕ) (seats : List Seat)
    → is_awake_in table edits seats a ≡ true → spawn_of edits a ≢ None
awake_relevant table edits a [] e = absurd (false≢true e)
awake_relevant table edits a (s ∷ seats) e =
    by (is_awake_for table edits a (connection_of table s)) refl e (λ q. awake_relevant table edits a seats q)
  where
    by : (b : Bool) → is_awake_for table edits a (connection_of table s) ≡ b
        → (b || is_awake_in table edits seats a) ≡ true
        → (is_awake_in table edits seats a ≡ true → spawn_of edits a ≢ None) → spawn_of edits a ≢ None
    by true q e ih =
        relevant_spawned table edits s.number a
        (and_parts (not (has_ended (past_for table s))) (is_relevant table edits s.number a)
        (and_parts (not (has_ended (past_for table s)) && is_relevant table edits s.number a)
        (not (is_quiet (past_for table s) (seen_of table edits s.number a))) q).0).1
    by false q e ih = ih e

-- what was sampled of an actor now
pub now_of : (table : Table) (s : Served) (a : ℕ)
    → samples_of (samples_now table s) a
    ≡ with_sample (is_awake_in table s.edits s.seats a) (sample_now table s.edits (s.ticks + 1) a) []
now_of table s a =
    one_picked (sample_now table s.edits (s.ticks + 1)) (is_awake_in table s.edits s.seats) a 0 (actors_of s.edits)
    (actors_ascend s.edits)
    ∙ by (is_awake_in table s.edits s.seats a) refl
  where
    by : (b : Bool) → is_awake_in table s.edits s.seats a ≡ b
        → cond (is_among a (actors_of s.edits) && b) (sample_now table s.edits (s.ticks + 1) a ∷ []) []
        ≡ with_sample b (sample_now table s.edits (s.ticks + 1) a) []
    by true e = rw (spawned_among s.edits a (awake_relevant table s.edits a s.seats e)) refl
    by false e = go (is_among a (actors_of s.edits))
      where
        go : (b : Bool) → cond (b && false) (sample_now table s.edits (s.ticks + 1) a ∷ []) [] ≡ []
        go true = refl
        go false = refl

with_behind : (b : Bool) (now : Sample) (samples : List Sample) → with_sample b now [] ++ samples ≡ with_sample b now samples
with_behind true now samples = refl
with_behind false now samples = refl

-- and of all its samples
pub after_of : (table : Table) (s : Served) (more : Samples) (a : ℕ)
    → samples_of (samples_now table s ++ more) a
    ≡ with_sample (is_awake_in table s.edits s.seats a) (sample_now table s.edits (s.ticks + 1) a) (samples_of more a)
after_of table s more a =
    of_both (samples_now table s) more a
    ∙ ap (λ (l : List Sample). l ++ samples_of more a) (now_of table s a)
    ∙ with_behind (is_awake_in table s.edits s.seats a) (sample_now table s.edits (s.ticks + 1) a) (samples_of more a)

-- ---- what was noted

-- what a look for all seats leaves
pub record IsNoted (table : Table) (s : Served) (n : NotedKept) (changes : Shadows) : Type 0 where
  pub notes : Notes n changes table s.edits s.samples
  pub tick : n.tick ≡ s.ticks + 1
  pub noted : (a : ℕ) → is_noted n a ≡ is_awake_in table s.edits s.seats a

each_now : (table : Table) (s : Served) (n : NotedKept) (changes : Shadows) (h : IsNoted table s n changes) (a : ℕ)
    → samples_of h.notes.now a ≡ samples_of (samples_now table s ++ s.samples) a
each_now table s n changes h a =
    h.notes.each a
    ∙ ap (λ (b : Bool). with_sample b (sample_now table s.edits n.tick a) (samples_of s.samples a)) (h.noted a)
    ∙ ap (λ (t : ℕ). with_sample (is_awake_in table s.edits s.seats a) (sample_now table s.edits t a)
    (samples_of s.samples a)) h.tick
    ∙ sym (after_of table s s.samples a)

kept_now : (table : Table) (s : Served) (n : NotedKept) (changes : Shadows) → IsNoted table s n changes
    → KeepsSamples changes (samples_now table s ++ s.samples)
kept_now table s n changes h = record {
  each = λ a. subst (KeepsLists (lists_in changes.lists a))
      (each_now table s n changes h a) (h.notes.keeps.each a);
  kept = h.notes.keeps.kept;
}

-- ---- ticks of samples

above_with : (b : Bool) (now : Sample) (samples : List Sample) (low : ℕ) → low < now.tick → AreTicksAbove low samples
    → AreTicksAbove low (with_sample b now samples)
above_with true now samples low lt h = (lt, h)
above_with false now samples low lt h = h

after_later : (samples : List Sample) (tick : ℕ) → is_after samples tick ≡ true → is_after samples (tick + 1) ≡ true
after_later [] tick e = refl
after_later (x ∷ samples) tick e = go x.tick (ltb-true x.tick tick e)
  where
    go : (n : ℕ) → n < tick → nat_lt n (tick + 1) ≡ true
    go n lt = grind (arith, nat_tests)

until_with : (b : Bool) (now : Sample) (samples : List Sample) (tick : ℕ) → now.tick ≡ tick
    → is_after samples tick ≡ true → is_after (with_sample b now samples) (tick + 1) ≡ true
until_with true now samples tick is e = go now.tick is
  where
    go : (n : ℕ) → n ≡ tick → nat_lt n (tick + 1) ≡ true
    go n q = grind (arith, nat_tests)
until_with false now samples tick is e = after_later samples tick e

sized_with : (b : Bool) (now : Sample) (samples : List Sample) (count : ℕ) → (b ≡ true → length now.values ≡ count)
    → have_count samples count ≡ true → have_count (with_sample b now samples) count ≡ true
sized_with true now samples count h e = eq-eqb (length now.values) count (h refl)
sized_with false now samples count h e = e

none_with : (b : Bool) (now : Sample) (samples : List Sample) → b ≡ false → samples ≡ [] → with_sample b now samples ≡ []
none_with true now samples q e = absurd (false≢true (sym q))
none_with false now samples q e = e

not_true : (b : Bool) → (b ≡ true → ⊥) → b ≡ false
not_true true h = absurd (h refl)
not_true false h = refl

values_counted : (table : Table) (s : Served) (n : NotedKept) (changes : Shadows) → IsNoted table s n changes → (a : ℕ)
    → is_awake_in table s.edits s.seats a ≡ true
    → length (sample_now table s.edits (s.ticks + 1) a).values ≡ cells_of table s.edits a
values_counted table s n changes h a e = by (lookup (nat_eq a) n.values) refl (h.noted a ∙ e)
  where
    by : (o : Option (List Value)) → lookup (nat_eq a) n.values ≡ o → is_some o ≡ true
        → length (sample_now table s.edits (s.ticks + 1) a).values ≡ cells_of table s.edits a
    by None q e = absurd (false≢true e)
    by (Some vs) q e =
        let v = h.notes.values a vs q in
        ap length (sym v.are) ∙ length-map vs whole_of ∙ counted table s.edits a vs v.are

sampled_more : (table : Table) (s : Served) (n : NotedKept) (changes : Shadows) → IsNoted table s n changes
    → AreBefore table s.edits (s.ticks + 1) s.samples
    → AreBefore table s.edits (s.ticks + 1 + 1) (samples_now table s ++ s.samples)
sampled_more table s n changes h before a =
    subst (SampledBefore table s.edits (s.ticks + 1 + 1) a) (sym (after_of table s s.samples a)) (record {
      until = until_with (is_awake_in table s.edits s.seats a) (sample_now table s.edits (s.ticks + 1) a)
          (samples_of s.samples a) (s.ticks + 1) refl (before a).until;
      sized = sized_with (is_awake_in table s.edits s.seats a) (sample_now table s.edits (s.ticks + 1) a)
          (samples_of s.samples a) (cells_of table s.edits a) (values_counted table s n changes h a) (before a).sized;
      none = λ e. none_with (is_awake_in table s.edits s.seats a) (sample_now table s.edits (s.ticks + 1) a)
          (samples_of s.samples a)
          (not_true (is_awake_in table s.edits s.seats a) (λ q. awake_relevant table s.edits a s.seats q e))
          ((before a).none e);
    })

-- ---- the ends know older samples

tick_below : (later before : List Sample) (tick : ℕ) → AreTicksAbove (tick_now before) later
    → is_after (later ++ before) tick ≡ true → 0 < tick → tick_now before < tick
tick_below [] [] tick h e some = some
tick_below [] (x ∷ before) tick h e some = ltb-true x.tick tick e
tick_below (x ∷ later) before tick h e some = (let lt = ltb-true x.tick tick e in omega (arith, lt, h.0))

extended : (table : Table) (s : Served) (before : Samples) → AreBefore table s.edits (s.ticks + 1) s.samples
    → Extends before s.samples → Extends before (samples_now table s ++ s.samples)
extended table s before sampled h = record {
  later = samples_now table s ++ h.later;
  behind = ap (λ (l : Samples). samples_now table s ++ l) h.behind
      ∙ sym (append_assoc (samples_now table s) h.later before);
  newer = λ a. subst (AreTicksAbove (tick_now (samples_of before a))) (sym (after_of table s h.later a))
      (above_with (is_awake_in table s.edits s.seats a) (sample_now table s.edits (s.ticks + 1) a)
      (samples_of h.later a) (tick_now (samples_of before a))
      (tick_below (samples_of h.later a) (samples_of before a) (s.ticks + 1) (h.newer a)
      (ap (λ (l : List Sample). is_after l (s.ticks + 1))
      (sym (ap (λ (l : Samples). samples_of l a) h.behind ∙ of_both h.later before a)) ∙ (sampled a).until)
      (omega arith)) (h.newer a));
}

seated_more : (table : Table) (s : Served) (greatest : ℕ) (ends : List (Option ServerEnd)) (c : Chair) (t : Seat)
    → AreBefore table s.edits (s.ticks + 1) s.samples → IsSeated table s.edits s.samples greatest ends c t
    → IsSeated table s.edits (samples_now table s ++ s.samples) greatest ends c t
seated_more table s greatest ends c t sampled h = record { player = h.player; place = go c.place h.place }
  where
    go : (p : Place) → IsPlace table s.edits s.samples greatest ends t p
        → IsPlace table s.edits (samples_now table s ++ s.samples) greatest ends t p
    go (Living key) (e, at, l) = (
      e,
      at,
      record {
        player = l.player;
        alive = l.alive;
        before = l.before;
        extends = extended table s l.before sampled l.extends;
        stands = l.stands;
        classes = l.classes;
        count = l.count;
      },
    )
    go (Dead top) h = h

-- ---- the driver

pub sampled_serves : (d new : Drive) (s : Served) (n : NotedKept) → Serves d s
    → IsNoted (table_in d.layout) s n new.changes → new ≡ record d { changes = new.changes; ticks = d.ticks + 1 }
    → Serves new (with_samples (table_in d.layout) s)
sampled_serves d new s n h noted is =
    subst (λ (x : Drive). Serves x (with_samples (table_in d.layout) s)) (sym is) (record {
      world = h.world;
      layout = h.layout;
      graph = h.graph;
      changes = kept_now (table_in d.layout) s n new.changes noted;
      from_one = λ a. subst (AreTicksAbove 0) (sym (after_of (table_in d.layout) s s.samples a))
          (above_with (is_awake_in (table_in d.layout) s.edits s.seats a)
          (sample_now (table_in d.layout) s.edits (s.ticks + 1) a) (samples_of s.samples a) 0 (omega arith)
          (h.from_one a));
      there = h.there;
      ticks = ap (λ (k : ℕ). k + 1) h.ticks;
      sampled = sampled_more (table_in d.layout) s n new.changes noted h.sampled;
      graves = h.graves;
      seated = still (table_in d.layout) s.edits s.edits s.samples (samples_now (table_in d.layout) s ++ s.samples)
          d.greatest d.greatest d.ends d.ends
          (λ c t i. seated_more (table_in d.layout) s d.greatest d.ends c t h.sampled i) d.chairs s.seats h.seated;
      fits = h.fits;
      rising = h.rising;
      few = h.few;
      kept = h.kept;
    })

-- ---- the sights are of now

seat_awake : (table : Table) (edits : Edits) (t : Seat) (a : ℕ) → has_ended (past_for table t) ≡ false
    → is_awake table edits t.number (past_for table t) a ≡ true
    → is_awake_for table edits a (connection_of table t) ≡ true
seat_awake table edits t a alive e =
    ap (λ (b : Bool). not b && is_relevant table edits t.number a
    && not (is_quiet (past_for table t) (seen_of table edits t.number a))) alive ∙ e

newest_first : (x : Sample) (samples : List Sample) → newest_of (λ (s : Sample). Some s) (x ∷ samples) ≡ Some x
newest_first x samples = refl

sampled_now : (table : Table) (s : Served) (t : Seat) → ((a : ℕ) → is_awake_for table s.edits a (connection_of table t) ≡ true
    → is_awake_in table s.edits s.seats a ≡ true) → has_ended (past_for table t) ≡ false
    → AreSampledNow table s.edits (samples_now table s ++ s.samples) t
sampled_now table s t within alive a e = (
  s.ticks + 1,
  ap (newest_of (λ (x : Sample). Some x))
      (after_of table s s.samples a
      ∙ ap (λ (b : Bool). with_sample b (sample_now table s.edits (s.ticks + 1) a) (samples_of s.samples a))
      (within a (seat_awake table s.edits t a alive e)))
      ∙ newest_first (sample_now table s.edits (s.ticks + 1) a) (samples_of s.samples a),
)

or_true : (b : Bool) → (b || true) ≡ true
or_true true = refl
or_true false = refl

pub sights_now : (layout : Layout) (s : Served) (graves : List Grave) (sights : List (List Seen)) (seats : List Seat)
    → ((a : ℕ) → is_awake_in (table_in layout) s.edits seats a ≡ true
    → is_awake_in (table_in layout) s.edits s.seats a ≡ true)
    → AreMade layout s.edits graves sights seats
    → AreSightsFor layout s.edits graves (samples_now (table_in layout) s ++ s.samples) sights seats
sights_now layout s graves [] [] within h = tt
sights_now layout s graves [] (t ∷ seats) within h = absurd h
sights_now layout s graves (x ∷ sights) [] within h = absurd h
sights_now layout s graves (x ∷ sights) (t ∷ seats) within h = (
  λ alive. record {
    sampled = sampled_now (table_in layout) s t
        (λ a e. within a (ap (λ (b : Bool). b || is_awake_in (table_in layout) s.edits seats a) e)) alive;
    made = h.0 alive;
  },
  sights_now layout s graves sights seats
      (λ a e. within a (ap (λ (b : Bool). is_awake_for (table_in layout) s.edits a (connection_of (table_in layout) t) || b) e
      ∙ or_true (is_awake_for (table_in layout) s.edits a (connection_of (table_in layout) t)))) h.1,
)
