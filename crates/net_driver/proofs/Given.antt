-- A sight is what its sender may be given.
use Rattle.std.proofs.Common.{◌≡◌, ℕ, zero, suc, ◌<◌, ◌≤◌, ◌^◌, List, [], ◌∷◌, map, length, Bool, true, false, cond, ◌||◌, ◌==◌, not, Some, None, refl, sym, ap, ◌∙◌, subst, arith}
use Rattle.std.specs.Prelude.{slice_get}
use Rattle.std.specs.List.{AllByRecursion, filter_map, cons_option}
use Rattle.std.proofs.lemmas.Bool.{false≢true, and_from, and_parts, eqb-true}
use Rattle.std.proofs.lemmas.Option.{same_Some, none-some}
use Rattle.std.proofs.lemmas.List.{length-map}
use Rattle.protocol_model.specs.Limits.{unresolved_limit, part_bits}
use Rattle.protocol_model.specs.Payload.{Message, message_bits}
use Rattle.protocol_model.specs.Sight.{Seen, is_relevant, seen_of, destroyed_of, visible_pairs}
use Rattle.protocol_model.specs.Value.{Table, Pair}
use Rattle.protocol_model.specs.World.{Edits, lives, actors_of}
use Rattle.table_model.specs.Facts.{IsTable}
use Rattle.connection_model.specs.CallAnswers.{waiting_of}
use Rattle.connection_model.specs.Feed.{Past, has_ended}
use Rattle.connection_model.specs.Fates.{unresolved_count}
use Rattle.connection_model.specs.Items.{is_quiet}
use Rattle.connection_model.specs.Past.{past_of}
use Rattle.connection_model.specs.State.{state_of, is_closed, was_opened}
use Rattle.connection_laws.specs.Run.{IsRun}
use Rattle.connection_laws.proofs.LiveRuns.{IsDone}
use Rattle.connection_laws.proofs.Feeds.{feed_done}
use Rattle.class_layout.specs.Tables.{Layout, table_in, entries_in}
use Rattle.channel_table.specs.Channels.{WaitingCall}
use Rattle.channel_table.specs.Stands.{waiting_call}
use Rattle.shadow_changes.specs.Samples.{Samples}
use Rattle.sender_records.specs.Handles.{AreApart, pair_value, pairs_of}
use Rattle.sight_laws.specs.Sights.{Shows, unvalued}
use Rattle.sight_laws.proofs.Given.{world_is_sight}
use Rattle.sender_steps.specs.declared.sight.Seen.{Seen as SeenValue}
use Rattle.sender_steps.specs.Sender.{Sender}
use Rattle.sender_steps.specs.Sights.{seen_value, sight_value}
use Rattle.sender_steps.specs.Stands.{Keeps, Agrees}
use Rattle.sender_turns.specs.Calling.{MayWait}
use Rattle.actor_sender.specs.Given.{IsGiven, IsEntryGiven, AreValues}
use Rattle.driver_laws.specs.Feeds.{AreShort}
use Rattle.driver_laws.specs.Given.{shown_as, given_entry, AreGone}
use Rattle.driver_laws.proofs.Entries.{given_shows}
use Rattle.driver_laws.proofs.Worlds.{opened_earlier}
use Rattle.driver_sights.specs.declared.graves.Grave.{Grave}
use Rattle.driver_sights.specs.Graves.{is_buried, IsGrave, AreGraves, is_left}
use Rattle.driver_sights.specs.Looking.{IsMade}
use Rattle.driver_sights.proofs.Visible.{visible_apart, visible_few, visible_agrees}
use Rattle.server_end.specs.declared.server_end.ServerEnd.{ServerEnd}
use Rattle.net_driver.specs.Served.{Seat, Served, past_for, past_as, end_for, earlier_for, shown_to}
use Rattle.net_driver.specs.Ends.{IsLiving}
use Rattle.net_driver.specs.Serves.{Drive, Serves, SeatFits}
use Rattle.net_driver.specs.Sights.{IsSightFor}
use Rattle.net_driver.proofs.Meaning.{world_limits}

-- ---- an end that is alive

-- its past is that of its feed
pub live_past : (table : Table) (t : Seat) → has_ended (past_for table t) ≡ false
    → past_for table t ≡ past_of (end_for table t) t.feed
live_past table t e = by t.lost refl e
  where
    by : (b : Bool) → t.lost ≡ b → has_ended (past_as b (end_for table t) t.feed) ≡ false
        → past_as t.lost (end_for table t) t.feed ≡ past_of (end_for table t) t.feed
    by true q e = absurd (false≢true (sym e))
    by false q e = rw q refl

-- what is left to close was opened
left_opened : (s : Sender) (past : Past) (samples : Samples) (a : ℕ) → Keeps s past samples
    → is_closed (state_of past a) ≡ false → was_opened past a ≡ true
left_opened s past samples a h e =
    h.opened a (h.live a (ap is_closed (h.each a).life.state ∙ e))

buried_dead : (layout : Layout) (edits : Edits) (graves : List Grave) (a : ℕ) → AllByRecursion (IsGrave layout edits) graves
    → is_buried graves a ≡ true → lives edits a ≡ false
buried_dead layout edits [] a h e = absurd (false≢true e)
buried_dead layout edits (g ∷ graves) a h e = by (g.actor == a) refl e (λ q. buried_dead layout edits graves a h.1 q)
  where
    by : (b : Bool) → (g.actor == a) ≡ b → (b || is_buried graves a) ≡ true
        → (is_buried graves a ≡ true → lives edits a ≡ false) → lives edits a ≡ false
    by true q e ih = ap (lives edits) (sym (eqb-true g.actor a q)) ∙ h.0.dead
    by false q e ih = ih e

-- the destroyed actors of which something is left are all that may not be left out
pub are_gone : (layout : Layout) (edits : Edits) (graves : List Grave) (t : Seat) (s : Sender) (samples : Samples)
    → AreGraves layout edits graves → SeatFits (table_in layout) edits graves t
    → has_ended (past_for (table_in layout) t) ≡ false → Keeps s (past_for (table_in layout) t) samples
    → AreGone edits (past_for (table_in layout) t) (earlier_for t) (is_left graves (past_for (table_in layout) t))
are_gone layout edits graves t s samples h fits alive keeps = record {
  dead = λ a e. buried_dead layout edits graves a h.each (parts a e).0;
  shown = λ a e.
      let opened = left_opened s (past_for (table_in layout) t) samples a keeps (ajar a (parts a e).1) in
      opened_earlier (end_for (table_in layout) t) t.feed a
      (ap (λ (p : Past). was_opened p a) (sym (live_past (table_in layout) t alive)) ∙ opened);
  all = λ a dead among out. by a dead out (is_closed (state_of (past_for (table_in layout) t) a)) refl;
}
  where
    parts : (a : ℕ) → is_left graves (past_for (table_in layout) t) a ≡ true
        → (is_buried graves a ≡ true) × (not (is_closed (state_of (past_for (table_in layout) t) a)) ≡ true)
    parts a e = and_parts (is_buried graves a) (not (is_closed (state_of (past_for (table_in layout) t) a))) e

    ajar : (a : ℕ) → not (is_closed (state_of (past_for (table_in layout) t) a)) ≡ true
        → is_closed (state_of (past_for (table_in layout) t) a) ≡ false
    ajar a e = turned (is_closed (state_of (past_for (table_in layout) t) a)) e
      where
        turned : (b : Bool) → not b ≡ true → b ≡ false
        turned true e = absurd (false≢true e)
        turned false e = refl

    by : (a : ℕ) → lives edits a ≡ false → is_left graves (past_for (table_in layout) t) a ≡ false
        → (b : Bool) → is_closed (state_of (past_for (table_in layout) t) a) ≡ b
        → is_closed (state_of (past_for (table_in layout) t) a) ≡ true
    by a dead out true e = e
    by a dead out false e = absurd (false≢true (sym out
        ∙ and_from (is_buried graves a) (not (is_closed (state_of (past_for (table_in layout) t) a))) (fits.left a alive dead e)
        (ap not e)))

-- ---- calls that wait

waits_short : (messages : List Message) (i : ℕ) (call : WaitingCall)
    → AllByRecursion (λ (m : Message). length (message_bits m) ≤ part_bits) messages
    → slice_get (map waiting_call messages) i ≡ Some call → length call.bits ≤ part_bits
waits_short [] i call h e = absurd (none-some call e)
waits_short (m ∷ messages) zero call h e =
    subst (λ (c : WaitingCall). length c.bits ≤ part_bits) (same_Some (waiting_call m) call e) h.0
waits_short (m ∷ messages) (suc i) call h e = waits_short messages i call h.1 e

pub may_wait : (past : Past) (waiting : List WaitingCall) → waiting ≡ map waiting_call (waiting_of past) → AreShort past
    → MayWait waiting
may_wait past waiting e h = subst MayWait (sym e) (record {
  few = (let l = length-map (waiting_of past) waiting_call in let f = h.few in omega (arith, l, f));
  short = λ i call q. waits_short (waiting_of past) i call h.short q;
})

-- ---- entries

-- an entry that is relevant is the player's view of a relevant actor
pub record IsOf (table : Table) (edits : Edits) (player : ℕ) (past : Past) (seen : Seen) : Type 0 where
  pub relevant : is_relevant table edits player seen.actor ≡ true
  pub is : seen ≡ shown_as past (seen_of table edits player seen.actor)

entry_of_relevant : (table : Table) (edits : Edits) (player : ℕ) (past : Past) (gone : ℕ → Bool) (actors : List ℕ) (i : ℕ)
    (seen : Seen) → slice_get (filter_map (given_entry table edits player past gone) actors) i ≡ Some seen
    → seen.relevant ≡ true → IsOf table edits player past seen
entry_of_relevant table edits player past gone [] i seen e r = absurd (none-some seen e)
entry_of_relevant table edits player past gone (a ∷ actors) i seen e r =
    by (is_relevant table edits player a) (gone a) refl i e
    (λ j q. entry_of_relevant table edits player past gone actors j seen q r)
  where
    rest : List Seen
    rest = filter_map (given_entry table edits player past gone) actors

    actor_is : (q : Bool) → (cond q (unvalued (seen_of table edits player a)) (seen_of table edits player a)).actor ≡ a
    actor_is true = refl
    actor_is false = refl

    by : (b g : Bool) → is_relevant table edits player a ≡ b → (i : ℕ)
        → slice_get (cons_option (cond b (Some (shown_as past (seen_of table edits player a)))
        (cond g (Some (destroyed_of table edits a)) None))
        (filter_map (given_entry table edits player past gone) actors)) i ≡ Some seen
        → ((j : ℕ) → slice_get (filter_map (given_entry table edits player past gone) actors) j ≡ Some seen
        → IsOf table edits player past seen)
        → IsOf table edits player past seen
    by true g q zero e ih =
        let same : shown_as past (seen_of table edits player a) ≡ seen = same_Some _ seen e in
        let is : a ≡ seen.actor = sym (actor_is (is_quiet past (seen_of table edits player a))) ∙ ap (λ (x : Seen). x.actor) same in
        record {
          relevant = subst (λ (b : ℕ). is_relevant table edits player b ≡ true) is q;
          is = sym same ∙ ap (λ (b : ℕ). shown_as past (seen_of table edits player b)) is;
        }
    by true g q (suc j) e ih = ih j e
    by false true q zero e ih =
        absurd (false≢true (ap (λ (x : Seen). x.relevant) (same_Some (destroyed_of table edits a) seen e) ∙ r))
    by false true q (suc j) e ih = ih j e
    by false false q i e ih = ih i e

quiet_same : (past : Past) (seen : Seen) → is_quiet past (shown_as past seen) ≡ is_quiet past seen
quiet_same past seen = by (is_quiet past seen)
  where
    by : (b : Bool) → is_quiet past (cond b (unvalued seen) seen) ≡ is_quiet past seen
    by true = refl
    by false = refl

all_place : {A : Type 0} (P : A → Type 0) (xs : List A) (i : ℕ) (x : A) → AllByRecursion P xs → slice_get xs i ≡ Some x → P x
all_place P [] i x h e = absurd (none-some x e)
all_place P (y ∷ xs) zero x h e = subst P (same_Some y x e) h.0
all_place P (y ∷ xs) (suc i) x h e = all_place P xs i x h.1 e

value_place : (layout : Layout) (sight : List SeenValue) (i : ℕ) (s : SeenValue) → slice_get sight i ≡ Some s
    → slice_get (sight_value layout sight) i ≡ Some (seen_value layout s)
value_place layout [] i s e = absurd (none-some s e)
value_place layout (x ∷ sight) zero s e = ap (λ (x : SeenValue). Some (seen_value layout x)) (same_Some x s e)
value_place layout (x ∷ sight) (suc i) s e = value_place layout sight i s e

entry_given : (layout : Layout) (edits : Edits) (graves : List Grave) (samples : Samples) (sight : List SeenValue) (t : Seat)
    (i : ℕ) (s : SeenValue) → IsTable (entries_in layout) → IsSightFor layout edits graves samples sight t
    → slice_get sight i ≡ Some s → IsEntryGiven layout (past_for (table_in layout) t) samples s
entry_given layout edits graves samples sight t i s table h e = record {
  class = made.class;
  values = values;
}
  where
    past : Past
    past = past_for (table_in layout) t

    made : IsMade layout s
    made = all_place (IsMade layout) sight i s h.made.made e

    values : s.relevant ≡ true → is_quiet (past_for (table_in layout) t) (seen_value layout s) ≡ false
        → AreValues layout samples s
    values r loud =
        let of = entry_of_relevant (table_in layout) edits t.number past (is_left graves past) (actors_of edits) i
        (seen_value layout s)
        (ap (λ (l : List Seen). slice_get l i) (sym h.made.given) ∙ value_place layout sight i s e) r in
        let seen = seen_of (table_in layout) edits t.number s.actor in
        let awake : is_quiet past seen ≡ false = sym (quiet_same past seen) ∙ ap (is_quiet past) (sym of.is) ∙ loud in
        let is : seen_value layout s ≡ seen = of.is ∙ ap (λ (b : Bool). cond b (unvalued seen) seen) awake in
        let pairs : pairs_of s.values ≡ visible_pairs (table_in layout) edits t.number s.actor =
        ap (λ (x : Seen). x.values) is in
        let now = h.sampled s.actor (and_from (is_relevant (table_in layout) edits t.number s.actor) (not (is_quiet past seen))
        of.relevant (ap not awake)) in
        record {
          apart = subst AreApart (sym pairs) (visible_apart (table_in layout) edits t.number s.actor);
          few = (let l = length-map s.values pair_value in
              let m = ap (λ (ps : List Pair). length ps) pairs in
              let v = visible_few (table_in layout) edits t.number s.actor in
              let n = (world_limits layout edits s.actor table).handles in omega (arith, l, m, v, n));
          fit = made.fit;
          agrees = subst (Agrees samples) (sym is)
              (visible_agrees (table_in layout) edits t.number s.actor samples now.0 now.1);
        }

-- ---- what an end is given

pub given_for : (d : Drive) (s : Served) (e : ServerEnd) (t : Seat) (sight : List SeenValue) → Serves d s
    → IsTable (entries_in d.layout) → SeatFits (table_in d.layout) s.edits d.graves t
    → (h : IsLiving (table_in d.layout) s.edits s.samples d.greatest e t)
    → IsSightFor d.layout s.edits d.graves s.samples sight t → d.greatest < 2 ^ 59
    → IsGiven e.sender e.link e.table d.layout d.changes sight (end_for (table_in d.layout) t)
    (past_for (table_in d.layout) t) h.before s.samples (shown_to (table_in d.layout) s.edits t)
given_for d s e t sight serves table fits h shown few = record {
  stands = h.stands;
  side = refl;
  budget = fits.budget;
  alive = h.alive;
  run = subst (IsRun (end_for (table_in d.layout) t)) (sym live) done.run;
  few = subst (λ (p : Past). unresolved_count p < unresolved_limit) (sym live) (done.few (ap has_ended (sym live) ∙ h.alive));
  noted = serves.changes;
  extends = h.extends;
  is_sight = world_is_sight (table_in d.layout) s.edits t.number (earlier_for t);
  shows = subst (Shows (past_for (table_in d.layout) t) (shown_to (table_in d.layout) s.edits t)) (sym shown.made.given)
      (given_shows (table_in d.layout) s.edits t.number (past_for (table_in d.layout) t) (earlier_for t)
      (is_left d.graves (past_for (table_in d.layout) t))
      (are_gone d.layout s.edits d.graves t e.sender h.before serves.graves fits h.alive h.stands.sender));
  entries = λ i s2 q. entry_given d.layout s.edits d.graves s.samples sight t i s2 table shown q;
  waiting = may_wait (past_for (table_in d.layout) t) e.table.waiting h.stands.table.waiting fits.waits;
  made = (let c = h.count in omega (arith, c, few));
}
  where
    live : past_for (table_in d.layout) t ≡ past_of (end_for (table_in d.layout) t) t.feed
    live = live_past (table_in d.layout) t h.alive

    done : IsDone (IsRun (end_for (table_in d.layout) t)) (past_of (end_for (table_in d.layout) t) t.feed)
    done = feed_done (end_for (table_in d.layout) t) t.feed
