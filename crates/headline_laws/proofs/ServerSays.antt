-- What the messages of a server say is what its sights showed.
use Rattle.std.proofs.Common.{◌≡◌, ℕ, suc, ◌==◌, List, [], ◌∷◌, ◌++◌, Bool, true, false, cond, refl, sym, ap, ◌∙◌, subst, Option, Some, None, slice_get}
use Rattle.std.specs.List.{filter_map, cons_option, AllByRecursion}
use Rattle.std.specs.Bool.{then_some}
use Rattle.std.proofs.lemmas.Bool.{false≢true, eqb-true}
use Rattle.protocol_model.specs.Side.{Side, AtServer}
use Rattle.protocol_model.specs.Sight.{Seen}
use Rattle.protocol_model.specs.Value.{Class, Call, Arg}
use Rattle.protocol_model.specs.Payload.{Message, Opens, Closes, Updates, Calls, Gone}
use Rattle.protocol_model.specs.World.{Edits, class_of}
use Rattle.table_model.specs.Facts.{IsTable}
use Rattle.table_model.specs.Rules.{Entry}
use Rattle.table_model.specs.Grammar.{table_of}
use Rattle.connection_model.specs.Feed.{End, Past, Ticked, Made, Waits, Sent, Took, Ended, Item, Owed, Carries, Loose, has_ended, sight_of, seen_in}
use Rattle.connection_model.specs.Bunches.{after_making}
use Rattle.connection_model.specs.Carry.{due_pairs}
use Rattle.connection_model.specs.CallAnswers.{call_of, fitting_call, waits_in}
use Rattle.connection_model.specs.Pack.{is_shown}
use Rattle.connection_model.specs.State.{open_class_in, opened_class, was_opened}
use Rattle.connection_model.specs.Verdict.{with_told, with_handed}
use Rattle.connection_laws.specs.Run.{Move, Ticks, Makes, Defers, Sends, Takes, Hears, Hands, Ends, after_move, May, MayMake, MaySend, HasLoosePlace, OpensSeen, IsRun}
use Rattle.connection_laws.proofs.Moves.{making_keeps, made_ignored, told_keeps, handed_keeps, told_ignored, handed_ignored}
use Rattle.connection_laws.proofs.Deeds.{always}
use Rattle.payload_laws.specs.Accepted.{AreAccepted, StandsIn}
use Rattle.payload_laws.specs.Limits.{HasLimits}
use Rattle.payload_laws.proofs.SightSpelling.{due_fit}
use Rattle.payload_laws.proofs.TableFacts.{limits_in}
use Rattle.payload_laws.proofs.Updates.{update_some, update_fits}
use Rattle.headline_laws.specs.Fits.{IsSpawned}
use Rattle.headline_laws.specs.Sights.{sight_in, sights_of, Seeing}
use Rattle.headline_laws.specs.Tells.{IsKnownActor, SaysCall, MessageTells, ItemTells, PastTells}
use Rattle.headline_laws.proofs.Sights.{Shown, shown_by_last, seeing_rest}
use Rattle.headline_laws.proofs.Ticks.{meant}
use Rattle.std.specs.Prelude.{is_some}

-- the class of a table's actor has limits
pub known_limits : (entries : List Entry) → IsTable entries → (class : Class) → StandsIn entries class → HasLimits class
known_limits entries is class st = subst HasLimits st.4 (limits_in entries st.0 st.1 st.2 is st.3)

-- where an actor stands in a sight
pub record FoundIn (sight : List Seen) (a : ℕ) (seen : Seen) : Type 0 where
  pub i : ℕ
  pub there : slice_get sight i ≡ Some seen
  pub actor : seen.actor ≡ a

-- an actor that is found in a sight stands there
pub found_in : (sight : List Seen) (a : ℕ) (seen : Seen) → seen_in sight a ≡ Some seen → FoundIn sight a seen
found_in [] a seen e = absurd (let no : (let o : Option Seen = None in o) ≡ Some seen = e in cc)
found_in (t ∷ sight) a seen e = by (t.actor == a) refl e (λ q. found_in sight a seen q)
  where
    same : (x y : Seen) → (let o : Option Seen = Some x in o) ≡ Some y → x ≡ y
    same x y q = cc

    by : (b : Bool) → (t.actor == a) ≡ b → cond b (Some t) (seen_in sight a) ≡ Some seen → (seen_in sight a ≡ Some seen → FoundIn sight a seen) → FoundIn (t ∷ sight) a seen
    by true q e ih = record { i = 0; there = e; actor = ap (λ (x : Seen). x.actor) (sym (same t seen e)) ∙ eqb-true t.actor a q }
    by false q e ih = (let f = ih e in record { i = suc f.i; there = f.there; actor = f.actor })

-- a shown actor that passes is seen
pub record Passing (test : Seen → Bool) (sight : List Seen) (a : ℕ) : Type 0 where
  pub seen : Seen
  pub found : FoundIn sight a seen
  pub passes : test seen ≡ true

-- an actor that is shown to pass does, in its place
pub shown_passes : (test : Seen → Bool) (sight : List Seen) (a : ℕ) → is_shown test (seen_in sight a) ≡ true → Passing test sight a
shown_passes test sight a h = by (seen_in sight a) refl h
  where
    by : (o : Option Seen) → seen_in sight a ≡ o → is_shown test o ≡ true → Passing test sight a
    by None e h = absurd (false≢true h)
    by (Some seen) e h = record { seen = seen; found = found_in sight a seen e; passes = h }

-- ---- the last class that an actor was opened with

-- an opened actor is known, by its class
opened_says : (entries : List Entry) (classes : ℕ → Class) (side : Side) (past : Past) (a : ℕ) (class : Class) → PastTells entries classes side past → opened_class past a ≡ Some class → (class ≡ classes a) × IsKnownActor entries classes a
opened_says entries classes side [] a class t e = absurd (let no : (let o : Option Class = None in o) ≡ Some class = e in cc)
opened_says entries classes side (Ticked n s ∷ past) a class t e = opened_says entries classes side past a class t.1 e
opened_says entries classes side (Made c n (Opens exports actor k values) i ∷ past) a class t e = by (actor == a) refl e (λ q. opened_says entries classes side past a class t.1 q)
  where
    same : (x y : Class) → (let o : Option Class = Some x in o) ≡ Some y → x ≡ y
    same x y q = cc

    by : (b : Bool) → (actor == a) ≡ b → slice_get (cons_option (then_some b k) (filter_map (open_class_in a) past)) 0 ≡ Some class → (opened_class past a ≡ Some class → (class ≡ classes a) × IsKnownActor entries classes a)
        → (class ≡ classes a) × IsKnownActor entries classes a
    by true p q ih =
        let at : actor ≡ a = eqb-true actor a p in
        (sym (same k class q) ∙ t.0.same ∙ ap classes at, subst (IsKnownActor entries classes) at t.0.known)
    by false p q ih = ih q
opened_says entries classes side (Made c n (Closes actor sleeps) i ∷ past) a class t e = opened_says entries classes side past a class t.1 e
opened_says entries classes side (Made c n (Updates actor k values) i ∷ past) a class t e = opened_says entries classes side past a class t.1 e
opened_says entries classes side (Made c n (Calls actor k call args) i ∷ past) a class t e = opened_says entries classes side past a class t.1 e
opened_says entries classes side (Made c n (Gone actor) i ∷ past) a class t e = opened_says entries classes side past a class t.1 e
opened_says entries classes side (Waits m ∷ past) a class t e = opened_says entries classes side past a class t.1 e
opened_says entries classes side (Sent n s items ∷ past) a class t e = opened_says entries classes side past a class t.1 e
opened_says entries classes side (Took n es ds ∷ past) a class t e = opened_says entries classes side past a class t.1 e
opened_says entries classes side (Ended g ∷ past) a class t e = opened_says entries classes side past a class t.1 e

-- an actor that was opened has its class there
pub opened_is : (entries : List Entry) (classes : ℕ → Class) (side : Side) (past : Past) (a : ℕ) → PastTells entries classes side past → was_opened past a ≡ true → (opened_class past a ≡ Some (classes a)) × IsKnownActor entries classes a
opened_is entries classes side past a t h = by (opened_class past a) refl h
  where
    by : (o : Option Class) → opened_class past a ≡ o → is_some o ≡ true → (opened_class past a ≡ Some (classes a)) × IsKnownActor entries classes a
    by None e q = absurd (false≢true q)
    by (Some class) e q = (let s = opened_says entries classes side past a class t e in (e ∙ ap (λ (x : Class). Some x) s.0, s.1))

-- what waits says so too
pub waited_says : (entries : List Entry) (classes : ℕ → Class) (side : Side) (past : Past) (m : Message) → PastTells entries classes side past → (newer older : List Message) → filter_map waits_in past ≡ newer ++ m ∷ older → MessageTells entries classes side m
waited_says entries classes side past m t newer older e = at newer (subst (AllByRecursion (MessageTells entries classes side)) e (all past t))
  where
    at : (newer : List Message) → AllByRecursion (MessageTells entries classes side) (newer ++ m ∷ older) → MessageTells entries classes side m
    at [] h = h.0
    at (x ∷ newer) h = at newer h.1

    all : (past : Past) → PastTells entries classes side past → AllByRecursion (MessageTells entries classes side) (filter_map waits_in past)
    all [] t = tt
    all (Ticked n s ∷ past) t = all past t.1
    all (Made c n m i ∷ past) t = all past t.1
    all (Waits m ∷ past) t = (t.0, all past t.1)
    all (Sent n s items ∷ past) t = all past t.1
    all (Took n es ds ∷ past) t = all past t.1
    all (Ended g ∷ past) t = all past t.1

-- ---- the server

module _ (entries : List Entry) (is : IsTable entries) (player : ℕ) (edits : Edits) (ok : AreAccepted (table_of entries) edits) where
  abbrev classes : ℕ → Class
  classes a = class_of (table_of entries) edits a

  abbrev Sees : Past → Type 0
  Sees past = Seeing (table_of entries) player edits (sights_of past)

  pub looks : (past : Past) → Sees past → (i : ℕ) (seen : Seen) → slice_get (sight_of past) i ≡ Some seen → Shown entries edits seen
  looks past see i seen e = shown_by_last entries is player edits ok (sights_of past) see i seen e

  open_says : (past : Past) → Sees past → (m : Message) → OpensSeen past m → MessageTells entries classes AtServer m
  open_says past see m o =
      let l = (looks past see o.shown.0 o.seen o.shown.1).look in
      subst (MessageTells entries classes AtServer) (sym o.says) (record { known = l.known; same = l.same; all_fit = l.all_fit })

  call_says : (past : Past) → PastTells entries classes AtServer past → (a n : ℕ) (call : Call) (args : List Arg) → call_of AtServer past a n args ≡ Some call → SaysCall entries classes AtServer a n call args
  call_says past t a n call args e =
      let m = meant AtServer n args (opened_class past a) call e in
      let s = opened_says entries classes AtServer past a m.0 t m.1 in
      record { known = s.1; fits = ap (fitting_call AtServer n args) (sym s.0) ∙ m.2 }

  gone_says : (past : Past) → Sees past → (a : ℕ) → is_shown (λ (seen : Seen). seen.destroyed) (seen_in (sight_of past) a) ≡ true → IsSpawned a
  gone_says past see a h =
      let p = shown_passes (λ (seen : Seen). seen.destroyed) (sight_of past) a h in
      subst IsSpawned p.found.actor (looks past see p.found.i p.seen p.found.there).look.known.spawned

  made_says : (end : End) (past : Past) (ch : ℕ) (m : Message) → end.side ≡ AtServer → Sees past → PastTells entries classes AtServer past → MayMake end past ch m → MessageTells entries classes AtServer m
  made_says end past ch (Opens exports a class values) s see t may = open_says past see (Opens exports a class values) may.place.4
  made_says end past ch (Closes a sleeps) s see t may = tt
  made_says end past ch (Updates a class values) s see t may = absurd may.place
  made_says end past ch (Calls a n call args) s see t may = call_says past t a n call args (subst (λ (x : Side). call_of x past a n args ≡ Some call) s may.place.1)
  made_says end past ch (Gone a) s see t may = gone_says past see a may.place.2

  waits_says : (end : End) (past : Past) (m : Message) → end.side ≡ AtServer → PastTells entries classes AtServer past → May end past (Defers m) → MessageTells entries classes AtServer m
  waits_says end past (Opens exports a class values) s t may = absurd may
  waits_says end past (Closes a sleeps) s t may = absurd may
  waits_says end past (Updates a class values) s t may = absurd may
  waits_says end past (Calls a n call args) s t may = call_says past t a n call args (subst (λ (x : Side). call_of x past a n args ≡ Some call) s may.1)
  waits_says end past (Gone a) s t may = absurd may

  loose_says : (end : End) (past : Past) (ch : ℕ) (m : Message) → Sees past → PastTells entries classes AtServer past → HasLoosePlace end past ch m → MessageTells entries classes AtServer m
  loose_says end past ch (Opens exports a class values) see t p = absurd p
  loose_says end past ch (Closes a sleeps) see t p = absurd p
  loose_says end past ch (Gone a) see t p = absurd p
  loose_says end past ch (Updates a class values) see t p =
      let o = p.2 in
      let l = (looks past see o.shown.0 o.seen o.shown.1).look in
      let due = due_fit o.at o.seen l.all_fit in
      let limits : HasLimits o.seen.class = subst HasLimits (sym l.same) (known_limits entries is (classes o.seen.actor) l.known.stands) in
      subst (MessageTells entries classes AtServer) (sym o.says)
      (record { known = l.known; same = l.same; all_fit = update_fits o.seen (due_pairs o.at o.seen) due }, update_some o.seen (due_pairs o.at o.seen) limits due o.some)
  loose_says end past ch (Calls a n call args) see t p = waited_says entries classes AtServer past (Calls a n call args) t p.2.0 p.2.1 p.2.2

  items_say : (end : End) (past : Past) (items : List Item) → Sees past → PastTells entries classes AtServer past → AllByRecursion (MaySend end past) items → AllByRecursion (ItemTells entries classes AtServer) items
  items_say end past [] see t h = tt
  items_say end past (Owed n ∷ items) see t h = (tt, items_say end past items see t h.1)
  items_say end past (Carries c n b ∷ items) see t h = (tt, items_say end past items see t h.1)
  items_say end past (Loose m b ∷ items) see t h = (loose_says end past h.0.0 m see t h.0.2, items_say end past items see t h.1)

  sees_like : (past later : Past) → sights_of later ≡ sights_of past → Sees later → Sees past
  sees_like past later e see = subst (Seeing (table_of entries) player edits) e see

  pub server_says : (end : End) → end.side ≡ AtServer → (past : Past) → IsRun end past → Sees past → PastTells entries classes AtServer past
  server_says end s past run = always end (λ p. Sees p → PastTells entries classes AtServer p) (λ see. tt) step past run
    where
      step : (past : Past) (move : Move) → IsRun end past → has_ended past ≡ false → May end past move → (Sees past → PastTells entries classes AtServer past) → Sees (after_move past move) → PastTells entries classes AtServer (after_move past move)
      step past (Ticks sight) run alive may h see = (tt, h (seeing_rest (table_of entries) player edits sight (sights_of past) see))
      step past (Makes c m) run alive may h see =
          let before : Sees past = sees_like past (after_making past c m) (made_ignored sight_in (λ c n m i. refl) past c m) see in
          making_keeps (λ i p. PastTells entries classes AtServer p) past c m (h before) (λ i p lt q. (made_says end past c m s before (h before) may, q))
      step past (Defers m) run alive may h see = (waits_says end past m s (h see) may, h see)
      step past (Sends items) run alive may h see = (items_say end past items see (h see) may.each, h see)
      step past (Takes n) run alive may h see = (tt, h see)
      step past (Hears entry) run alive may h see =
          told_keeps (PastTells entries classes AtServer) entry past (h (sees_like past (with_told entry past) (told_ignored sight_in (λ n e es ds. refl) entry past) see)) (λ n es ds before q. (tt, q.1))
      step past (Hands d) run alive may h see =
          handed_keeps (PastTells entries classes AtServer) d past (h (sees_like past (with_handed d past) (handed_ignored sight_in (λ n es d ds. refl) d past) see)) (λ n es ds before q. (tt, q.1))
      step past (Ends g) run alive may h see = (tt, h see)
