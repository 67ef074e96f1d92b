-- Each actor that was ever opened was shown as relevant, by the class of the open.
use Rattle.std.proofs.Common.{◌≡◌, ℕ, ◌+◌, zero, suc, List, [], ◌∷◌, Bool, true, false, ◌==◌, refl, sym, ap, ◌∙◌, subst, Some}
use Rattle.std.specs.Prelude.{slice_get}
use Rattle.std.specs.List.{filter_map, cons_option, AllByRecursion}
use Rattle.std.specs.Bool.{then_some}
use Rattle.std.proofs.lemmas.Bool.{eqb-true}
use Rattle.std.proofs.lemmas.Option.{same_Some, none-some}
use Rattle.protocol_model.specs.Payload.{Message, Opens, Closes, Updates, Calls, Gone, actor_of}
use Rattle.protocol_model.specs.Sight.{Seen}
use Rattle.protocol_model.specs.Value.{Class, Pair, Segment}
use Rattle.protocol_model.specs.World.{no_class}
use Rattle.connection_model.specs.Feed.{End, Event, Tick, Got, Call, Past, Ticked, Made, Waits, Sent, Took, Ended, tick_in, ticks_of, sight_of, has_ended}
use Rattle.connection_model.specs.Bunches.{made_count, after_making}
use Rattle.connection_model.specs.Past.{past_of}
use Rattle.connection_model.specs.State.{open_class_in, opened_class}
use Rattle.connection_laws.specs.Run.{Move, Ticks, Makes, Defers, Sends, Takes, Hears, Hands, Ends, after_move, May, IsRun, HasPlace, OpensSeen}
use Rattle.connection_laws.specs.Run.IsRun.{start, does}
use Rattle.connection_laws.proofs.Calling.{call_runs}
use Rattle.connection_laws.proofs.Feeds.{feed_done}
use Rattle.connection_laws.proofs.LiveRuns.{Goes, IsQuiet}
use Rattle.connection_laws.proofs.Moves.{making_keeps, made_ignored, told_ignored, handed_ignored}
use Rattle.connection_laws.proofs.Ticking.{tick_runs}
use Rattle.sender_laws.proofs.Views.{ticks_alike}
use Rattle.driver_laws.specs.Feeds.{IsSo, AreShown}
use Rattle.driver_laws.proofs.Leaving.{got_goes}

-- so it is with all entries of all ticks
abbrev pub AllTicks : (ℕ → Class → Type 0) → Past → Type 0
AllTicks Q past = AllByRecursion (λ (tick : ℕ × List Seen). AllByRecursion (IsSo Q) tick.1) (ticks_of past)

all_gets : {A : Type 0} (P : A → Type 0) (xs : List A) → AllByRecursion P xs → (n : ℕ) (x : A)
    → slice_get xs n ≡ Some x → P x
all_gets P [] h n x e = absurd (none-some x e)
all_gets P (y ∷ xs) h zero x e = subst P (same_Some y x e) h.0
all_gets P (y ∷ xs) h (suc n) x e = all_gets P xs h.1 n x e

module _ (Q : ℕ → Class → Type 0) where
  sight_so : (past : Past) → AllTicks Q past → AllByRecursion (IsSo Q) (sight_of past)
  sight_so [] h = tt
  sight_so (Ticked t s ∷ past) h = h.0
  sight_so (Made c n m i ∷ past) h = sight_so past h
  sight_so (Waits m ∷ past) h = sight_so past h
  sight_so (Sent n t items ∷ past) h = sight_so past h
  sight_so (Took n es ds ∷ past) h = sight_so past h
  sight_so (Ended g ∷ past) h = sight_so past h

  -- each actor that was opened is such a one, by its class
  abbrev AreSo : Past → Type 0
  AreSo past = (a : ℕ) (class : Class) → opened_class past a ≡ Some class → Q a class

  abbrev class_in : Message → Class
  class_in (Opens exports actor class values) = class
  class_in (Closes actor sleeps) = no_class
  class_in (Gone actor) = no_class
  class_in (Updates actor class values) = class
  class_in (Calls actor number call args) = no_class

  opens_so : (past : Past) → AllTicks Q past → (exports : List Segment) (actor : ℕ) (class : Class) (values : List Pair)
      → OpensSeen past (Opens exports actor class values) → Q actor class
  opens_so past h exports actor class values seen =
      let so : Q seen.seen.actor seen.seen.class =
      all_gets (IsSo Q) (sight_of past) (sight_so past h) seen.shown.0 seen.seen seen.shown.1 seen.relevant in
      subst (λ (b : ℕ). Q b class) (sym (ap actor_of seen.says))
      (subst (Q seen.seen.actor) (sym (ap class_in seen.says)) so)

  made_so : (past : Past) (ch : ℕ) (m : Message)
      → ((exports : List Segment) (actor : ℕ) (class : Class) (values : List Pair)
      → m ≡ Opens exports actor class values
      → Q actor class)
      → AreSo past → AreSo (after_making past ch m)
  made_so past ch m opens h = making_keeps (λ i before. AreSo before) past ch m h
      (λ i before lt b. one before m opens b (made_count past ch + 1 + i) i)
    where
      one : (before : Past) (m : Message)
          → ((exports : List Segment) (actor : ℕ) (class : Class) (values : List Pair)
          → m ≡ Opens exports actor class values
          → Q actor class) → AreSo before → (n i : ℕ) → AreSo (Made ch n m i ∷ before)
      one before (Opens exports actor class values) opens b n i a c e = by (actor == a) refl e
        where
          by : (t : Bool) → (actor == a) ≡ t
              → slice_get (cons_option (then_some t class) (filter_map (open_class_in a) before)) 0 ≡ Some c → Q a c
          by true q e = subst (λ (x : ℕ). Q x c) (eqb-true actor a q)
              (subst (Q actor) (same_Some class c e) (opens exports actor class values refl))
          by false q e = b a c e
      one before (Closes actor sleeps) opens b n i a c e = b a c e
      one before (Gone actor) opens b n i a c e = b a c e
      one before (Updates actor class values) opens b n i a c e = b a c e
      one before (Calls actor number call args) opens b n i a c e = b a c e

  ticks_made : (past : Past) (ch : ℕ) (m : Message) → ticks_of (after_making past ch m) ≡ ticks_of past
  ticks_made past ch m = made_ignored tick_in (λ c n m i. refl) past ch m

  run_so : (end : End) (past : Past) → IsRun end past → AllTicks Q past → AreSo past
  run_so end _ start h a class e = absurd (none-some class e)
  run_so end _ (does {past = past} (Ticks sight) run alive may) h a class e = run_so end past run h.1 a class e
  run_so end _ (does {past = past} (Makes ch m) run alive may) h a class e =
      let before : AllTicks Q past =
      subst (AllByRecursion (λ (tick : ℕ × List Seen). AllByRecursion (IsSo Q) tick.1)) (ticks_made past ch m) h in
      made_so past ch m
      (λ exports actor class values q. opens_so past before exports actor class values
      (place m may.place exports actor class values q))
      (run_so end past run before) a class e
    where
      place : (m : Message) → HasPlace end past ch m
          → (exports : List Segment) (actor : ℕ) (class : Class) (values : List Pair)
          → m ≡ Opens exports actor class values → OpensSeen past (Opens exports actor class values)
      place m p exports actor class values q =
          let r : HasPlace end past ch (Opens exports actor class values) =
          subst (HasPlace end past ch) q p in r.4
  run_so end _ (does {past = past} (Defers m) run alive may) h a class e = run_so end past run h a class e
  run_so end _ (does {past = past} (Sends items) run alive may) h a class e = run_so end past run h a class e
  run_so end _ (does {past = past} (Takes n) run alive may) h a class e = run_so end past run h a class e
  run_so end _ (does {past = past} (Hears entry) run alive may) h a class e =
      run_so end past run
      (subst (AllByRecursion (λ (tick : ℕ × List Seen). AllByRecursion (IsSo Q) tick.1))
      (told_ignored tick_in (λ n e es ds. refl) entry past) h) a class
      (sym (ap (λ (cs : List Class). slice_get cs 0) (told_ignored (open_class_in a) (λ n e es ds. refl) entry past))
      ∙ e)
  run_so end _ (does {past = past} (Hands d) run alive may) h a class e =
      run_so end past run
      (subst (AllByRecursion (λ (tick : ℕ × List Seen). AllByRecursion (IsSo Q) tick.1))
      (handed_ignored tick_in (λ n es d ds. refl) d past) h) a class
      (sym (ap (λ (cs : List Class). slice_get cs 0) (handed_ignored (open_class_in a) (λ n es d ds. refl) d past)) ∙ e)
  run_so end _ (does {past = past} (Ends g) run alive may) h a class e = run_so end past run h a class e

  -- ---- feeds

  -- a run whose ticks all show so
  record RunsSo (end : End) (past : Past) : Type 0 where
    run : IsRun end past
    ticks : AllTicks Q past

  so_goes : (end : End) → Goes end (RunsSo end)
  so_goes end = record { is_run = λ past r. r.run; goes = go }
    where
      go : (past : Past) (move : Move) → IsQuiet move → RunsSo end past → has_ended past ≡ false → May end past move
          → RunsSo end (after_move past move)
      go past (Ticks sight) quiet r alive may = absurd quiet
      go past (Makes ch m) quiet r alive may = record {
        run = does (Makes ch m) r.run alive may;
        ticks = subst (AllByRecursion (λ (tick : ℕ × List Seen). AllByRecursion (IsSo Q) tick.1))
            (sym (ticks_made past ch m)) r.ticks;
      }
      go past (Defers m) quiet r alive may = record { run = does (Defers m) r.run alive may; ticks = r.ticks }
      go past (Sends items) quiet r alive may = record { run = does (Sends items) r.run alive may; ticks = r.ticks }
      go past (Takes n) quiet r alive may = absurd quiet
      go past (Hears entry) quiet r alive may = absurd quiet
      go past (Hands d) quiet r alive may = absurd quiet
      go past (Ends g) quiet r alive may = record { run = does (Ends g) r.run alive may; ticks = r.ticks }

  feed_so : (end : End) (feed : List Event) → AreShown Q feed → AllTicks Q (past_of end feed)
  feed_so end [] h = tt
  feed_so end (Tick sight ∷ feed) h =
      let before : AllTicks Q (past_of end feed) = feed_so end feed h.1 in
      let done = feed_done end feed in
      (tick_runs end (RunsSo end) (so_goes end) (past_of end feed) sight
      (λ r alive. record { run = does (Ticks sight) r.run alive tt; ticks = (h.0, r.ticks) })
      (record { run = record { run = done.run; ticks = before }; few = done.few })).run.ticks
  feed_so end (Got bytes ∷ feed) h =
      subst (AllByRecursion (λ (tick : ℕ × List Seen). AllByRecursion (IsSo Q) tick.1))
      (sym (ticks_alike (past_of end feed) (past_of end (Got bytes ∷ feed))
      (got_goes end (past_of end feed) bytes).done))
      (feed_so end feed h)
  feed_so end (Call a n args ∷ feed) h =
      let before : AllTicks Q (past_of end feed) = feed_so end feed h in
      let done = feed_done end feed in
      (call_runs end (RunsSo end) (so_goes end) (past_of end feed)
      (record { run = record { run = done.run; ticks = before }; few = done.few }) a n args).run.ticks

  pub opened_so : (end : End) (feed : List Event) → AreShown Q feed → (a : ℕ) (class : Class)
      → opened_class (past_of end feed) a ≡ Some class → Q a class
  opened_so end feed h = run_so end (past_of end feed) (feed_done end feed).run (feed_so end feed h)
