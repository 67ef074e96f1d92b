-- Messages that are made in both pasts, and the closes of a tick.
use Rattle.std.proofs.Common.{◌≡◌, inl, inr, ℕ, ◌+◌, List, [], ◌∷◌, map, Bool, true, false, not, cond, ◌&&◌, ◌||◌, ◌==◌, nat_lt, nat_le, refl, sym, ap, ◌∙◌, subst, fold, Option, Some, None, option_map, unwrap_or}
use Rattle.std.specs.List.{range_with_len}
use Rattle.std.proofs.lemmas.Bool.{false≢true, and_right, cases_Bool, cases_eq, ne_eqb, eqb-true}
use Rattle.protocol_model.specs.Payload.{Message, Opens, Closes, Updates, Calls, Gone, actor_of, parts_of}
use Rattle.protocol_model.specs.Sight.{Seen}
use Rattle.connection_model.specs.Feed.{Past, Made, seen_in}
use Rattle.connection_model.specs.Bunches.{made_count, room, after_making}
use Rattle.connection_model.specs.State.{ActorState, Mark, is_mark, last_mark, state_of, state_at, is_open, is_opened, is_asleep, is_closed, index_of, opened_actors}
use Rattle.connection_model.specs.Items.{kept_flush, is_kept, wants_open}
use Rattle.connection_model.specs.Settled.{is_settled_as}
use Rattle.connection_model.specs.Pack.{idle_ticks, is_shown, made_if_room, after_close, after_closes}
use Rattle.connection_laws.proofs.Arrivals.{arrival_made}
use Rattle.connection_laws.proofs.ActorMarks.{marks, mark_made, state_same}
use Rattle.channel_laws.proofs.Alike.{same_room}
use Rattle.sender_laws.specs.States.{sleeps_actor, flush_seen}
use Rattle.sender_laws.proofs.Makes.{flush_made, ticks_under, sight_under}
use Rattle.sight_laws.specs.Sights.{unvalued}
use Rattle.sight_laws.specs.Differing.{but_sights, relevance_in, SameButSights}
use Rattle.sight_laws.proofs.Unsighted.{alike, states_same, indexes_same, opened_same, settled_same}
use Rattle.sight_laws.proofs.Relevance.{idle_same}
use Rattle.sight_laws.proofs.Shown.{Told, InTick, closed_shut, closed_awake, shut_unopened}
use Rattle.sight_laws.proofs.Shown.Told.{same, empty, missing}

-- ---- a message is made

-- the same deeds are done
making_done : (past other : Past) (ch k : ℕ) (m : Message) (is : List ℕ) → but_sights other ≡ but_sights past
    → but_sights (fold (λ (before : Past) (i : ℕ). Made ch (k + 1 + i) m i ∷ before) other is)
    ≡ but_sights (fold (λ (before : Past) (i : ℕ). Made ch (k + 1 + i) m i ∷ before) past is)
making_done past other ch k m [] e = e
making_done past other ch k m (i ∷ is) e =
    making_done (Made ch (k + 1 + i) m i ∷ past) (Made ch (k + 1 + i) m i ∷ other) ch k m is
    (ap (λ (p : Past). Made ch (k + 1 + i) m i ∷ p) e)

pub making_same_done : (past other : Past) (ch : ℕ) (m : Message) → but_sights other ≡ but_sights past
    → but_sights (after_making other ch m) ≡ but_sights (after_making past ch m)
making_same_done past other ch m e =
    ap (λ (k : ℕ). but_sights (fold (λ (before : Past) (i : ℕ). Made ch (k + 1 + i) m i ∷ before) other
    (range_with_len 0 (parts_of m)))) ((alike past other e).made.count ch)
    ∙ making_done past other ch (made_count past ch) m (range_with_len 0 (parts_of m)) e

-- the pasts stay the same but for their sights, where a dormant close keeps the same flush number
pub making_same : (past other : Past) (ch : ℕ) (m : Message)
    → ((a : ℕ) → sleeps_actor a m ≡ true → flush_seen other a ≡ flush_seen past a) → SameButSights past other
    → SameButSights (after_making past ch m) (after_making other ch m)
making_same past other ch m kept h = record {
  done = making_same_done past other ch m h.done;
  relevance = λ a. ap (map (relevance_in a)) (ticks_under [] other ch m) ∙ h.relevance a
      ∙ sym (ap (map (relevance_in a)) (ticks_under [] past ch m));
  flush = λ a. flush_made other ch m a ∙ by a (sleeps_actor a m) refl ∙ sym (flush_made past ch m a);
  owned = λ a. ap (owned_in a) (sight_under [] other ch m) ∙ h.owned a
      ∙ sym (ap (owned_in a) (sight_under [] past ch m));
}
  where
    owned_in : ℕ → List Seen → Bool
    owned_in a sight = unwrap_or (option_map (λ (seen : Seen). seen.owns) (seen_in sight a)) false

    by : (a : ℕ) (b : Bool) → sleeps_actor a m ≡ b
        → cond b (flush_seen other a) (kept_flush other a) ≡ cond b (flush_seen past a) (kept_flush past a)
    by a true e = kept a e
    by a false e = h.flush a

-- ---- what is told of an actor goes on

-- an actor whose state and flush number stay wants no more than before
pub wants_like : (past later : Past) (seen : Seen) → state_of later seen.actor ≡ state_of past seen.actor
    → kept_flush later seen.actor ≡ kept_flush past seen.actor → wants_open later seen ≡ wants_open past seen
wants_like past later seen s k =
    ap (λ (s : ActorState). is_closed s || (is_asleep s && not (is_asleep s && seen.dormant && is_kept later seen))) s
    ∙ ap (λ (o : Option ℕ). is_closed (state_of past seen.actor) ||
    (is_asleep (state_of past seen.actor) && not
    (is_asleep (state_of past seen.actor) && seen.dormant && unwrap_or
    (option_map (λ flush. flush == seen.flush) o) false))) k

told_like : (past later : Past) (a : ℕ) → state_of later a ≡ state_of past a → kept_flush later a ≡ kept_flush past a
    → {o p : Option Seen} → Told past a o p → Told later a o p
told_like past later a s k same = same
told_like past later a s k (empty {seen = seen} is idle) =
    empty is (record {
      shut = ap is_open (subst (λ (n : ℕ). state_of later n ≡ state_of past n) (sym is) s) ∙ idle.shut;
      silent = λ r. wants_like past later seen (subst (λ (n : ℕ). state_of later n ≡ state_of past n) (sym is) s)
          (subst (λ (n : ℕ). kept_flush later n ≡ kept_flush past n) (sym is) k) ∙ idle.silent r;
      apart = idle.apart;
    })
told_like past later a s k (missing is parts closed) = missing is parts (ap is_closed s ∙ closed)

-- a message of another actor sleeps none
sleeps_own : (m : Message) (a : ℕ) → sleeps_actor a m ≡ true → actor_of m ≡ a
sleeps_own (Closes b true) a e = eqb-true b a e
sleeps_own (Closes b false) a e = absurd (false≢true e)
sleeps_own (Opens exports b class values) a e = absurd (false≢true e)
sleeps_own (Updates b class values) a e = absurd (false≢true e)
sleeps_own (Calls b number call args) a e = absurd (false≢true e)
sleeps_own (Gone b) a e = absurd (false≢true e)

-- a message of another actor leaves state and flush number
pub state_elsewhere : (past : Past) (ch : ℕ) (m : Message) (a : ℕ) → marks a m ≡ false
    → state_of (after_making past ch m) a ≡ state_of past a
state_elsewhere past ch m a e =
    state_same past (after_making past ch m) (arrival_made past ch m) a
    (mark_made past ch m a ∙ ap (λ (b : Bool). cond b
    (Some (record { channel = ch; number = made_count past ch + 1; message = m })) (last_mark past a)) e)

pub flush_elsewhere : (past : Past) (ch : ℕ) (m : Message) (a : ℕ) → sleeps_actor a m ≡ false
    → kept_flush (after_making past ch m) a ≡ kept_flush past a
flush_elsewhere past ch m a e =
    flush_made past ch m a ∙ ap (λ (b : Bool). cond b (flush_seen past a) (kept_flush past a)) e

told_elsewhere : (past : Past) (ch : ℕ) (m : Message) (a : ℕ) → (actor_of m ≡ a → ⊥) → {o p : Option Seen}
    → Told past a o p → Told (after_making past ch m) a o p
told_elsewhere past ch m a ne t =
    told_like past (after_making past ch m) a
    (state_elsewhere past ch m a (ap (λ (b : Bool). b && is_mark m) (ne_eqb (actor_of m) a ne)))
    (flush_elsewhere past ch m a (elim (cases_Bool (sleeps_actor a m)) [
      | inl e ↦ absurd (ne (sleeps_own m a e))
      | inr e ↦ e
    ])) t

-- a message of an actor of which both sights tell the same
pub makes_same : {shown given : List Seen} (past other : Past) (ch : ℕ) (m : Message)
    → seen_in given (actor_of m) ≡ seen_in shown (actor_of m) → InTick shown given past other
    → InTick shown given (after_making past ch m) (after_making other ch m)
makes_same {shown} {given} past other ch m e h = record {
  same = making_same past other ch m (λ a q. ap (flush_in a) h.gives
      ∙ ap (λ (o : Option Seen). option_map (λ (seen : Seen). seen.flush) o)
      (subst (λ (n : ℕ). seen_in given n ≡ seen_in shown n) (sleeps_own m a q) e)
      ∙ sym (ap (flush_in a) h.shows)) h.same;
  shows = sight_under [] past ch m ∙ h.shows;
  gives = sight_under [] other ch m ∙ h.gives;
  told = λ a. elim (cases_eq (actor_of m) a) [
    | inl q ↦ subst (λ (o : Option Seen). Told (after_making past ch m) a (seen_in shown a) o)
        (sym (subst (λ (n : ℕ). seen_in given n ≡ seen_in shown n) q e)) same
    | inr q ↦ told_elsewhere past ch m a q (h.told a)
  ];
}
  where
    flush_in : ℕ → List Seen → Option ℕ
    flush_in a sight = option_map (λ (seen : Seen). seen.flush) (seen_in sight a)

-- a Gone of a destroyed actor, whether or not its values are there
gone_state : (past : Past) (ch a : ℕ) → is_open (state_of (after_making past ch (Gone a)) a) ≡ false
gone_state past ch a =
    ap (λ (o : Option Mark). is_open (state_at (after_making past ch (Gone a)) o)) (mark_made past ch (Gone a) a)
    ∙ by (marks a (Gone a)) (Rattle.std.proofs.lemmas.Bool.eq-eqb a a refl)
  where
    by : (b : Bool) → (a == a) ≡ true
        → is_open (state_at (after_making past ch (Gone a))
        (cond (marks a (Gone a)) (Some (record { channel = ch; number = made_count past ch + 1; message = Gone a }))
        (last_mark past a))) ≡ false
    by b e = ap (λ (b : Bool). is_open
        (state_at (after_making past ch (Gone a))
        (cond (b && true) (Some (record { channel = ch; number = made_count past ch + 1; message = Gone a }))
        (last_mark past a)))) e

pub makes_gone : {shown given : List Seen} (past other : Past) (ch a : ℕ) (seen : Seen)
    → seen_in shown a ≡ Some seen → seen_in given a ≡ Some (unvalued seen) → seen.actor ≡ a → seen.relevant ≡ false
    → InTick shown given past other
    → InTick shown given (after_making past ch (Gone a)) (after_making other ch (Gone a))
makes_gone {shown} {given} past other ch a seen e f is r h = record {
  same = making_same past other ch (Gone a) (λ b q. absurd (false≢true q)) h.same;
  shows = sight_under [] past ch (Gone a) ∙ h.shows;
  gives = sight_under [] other ch (Gone a) ∙ h.gives;
  told = λ b. elim (cases_eq a b) [
    | inl q ↦ subst (λ (n : ℕ). Told (after_making past ch (Gone a)) n (seen_in shown n) (seen_in given n)) q
        (subst (λ (o : Option Seen). Told (after_making past ch (Gone a)) a o (seen_in given a)) (sym e)
        (subst (λ (o : Option Seen). Told (after_making past ch (Gone a)) a (Some seen) o) (sym f)
        (empty is (record {
          shut = subst (λ (n : ℕ). is_open (state_of (after_making past ch (Gone a)) n) ≡ false) (sym is)
              (gone_state past ch a);
          silent = λ t. absurd (false≢true (sym r ∙ t));
          apart = and_right seen.destroyed seen.relevant r;
        }))))
    | inr q ↦ told_elsewhere past ch (Gone a) b q (h.told b)
  ];
}

-- ---- closes

-- a message is made in both where there is room in both
room_makes : {shown given : List Seen} (past other : Past) (o p : Option ℕ) (m : Message) → p ≡ o
    → ((ch : ℕ) → InTick shown given (after_making past ch m) (after_making other ch m)) → InTick shown given past other
    → InTick shown given (made_if_room past o m) (made_if_room other p m)
room_makes {shown} {given} past other o p m e makes h = subst
    (λ (q : Option ℕ). InTick shown given (made_if_room past o m) (made_if_room other q m)) (sym e) (by o)
  where
    by : (o : Option ℕ) → InTick shown given (made_if_room past o m) (made_if_room other o m)
    by None = h
    by (Some ch) =
        subst (λ (k : ℕ). InTick shown given (made_if_room past (Some ch) m)
        (cond (nat_lt 0 k) (after_making other ch m) other))
        (sym (same_room past other (alike past other h.same.done) ch)) (go (nat_lt 0 (room past ch)))
      where
        go : (b : Bool) → InTick shown given (cond b (after_making past ch m) past)
            (cond b (after_making other ch m) other)
        go true = makes ch
        go false = h

-- which close is made of an actor, by the tests that call for it
abbrev pub closed_by : Past → ℕ → (plain sleeps gone : Bool) → Past
closed_by past a plain sleeps gone =
    cond plain (made_if_room past (index_of past a) (Closes a false))
    (cond sleeps (made_if_room past (index_of past a) (Closes a true))
    (cond gone (made_if_room past (Some 0) (Gone a)) past))

-- the close of an actor, by its entry in the sight
abbrev pub closed : Past → ℕ → Option Seen → Past
closed past a o =
    closed_by past a (is_open (state_of past a) && (is_shown (λ s. s.destroyed) o || nat_le 5 (idle_ticks past a)))
    (is_shown (λ s. s.dormant && is_settled_as past s) o)
    (is_asleep (state_of past a) && is_shown (λ s. s.destroyed) o)

-- where both sights tell the same of it
close_alike : {shown given : List Seen} (past other : Past) (a : ℕ) (o : Option Seen) → seen_in given a
    ≡ seen_in shown a
    → InTick shown given past other → InTick shown given (closed past a o) (closed other a o)
close_alike {shown} {given} past other a o e h =
    let state = states_same past other h.same.done a in
    let settled = settled_in o in
    let idle = idle_same past other h.same a in
    subst (λ (q : Past). InTick shown given (closed past a o) q)
    (sym (ap (λ (s : ActorState). closed_by other a
    (is_open s && (is_shown (λ s. s.destroyed) o || nat_le 5 (idle_ticks other a)))
    (is_shown (λ s. s.dormant && is_settled_as other s) o) (is_asleep s && is_shown (λ s. s.destroyed) o)) state
    ∙ ap (λ (n : ℕ). closed_by other a (is_open (state_of past a) && (is_shown (λ s. s.destroyed) o || nat_le 5 n))
    (is_shown (λ s. s.dormant && is_settled_as other s) o)
    (is_asleep (state_of past a) && is_shown (λ s. s.destroyed) o)) idle
    ∙ ap (λ (b : Bool). closed_by other a
    (is_open (state_of past a) && (is_shown (λ s. s.destroyed) o || nat_le 5 (idle_ticks past a))) b
    (is_asleep (state_of past a) && is_shown (λ s. s.destroyed) o)) settled))
    (by (is_open (state_of past a) && (is_shown (λ s. s.destroyed) o || nat_le 5 (idle_ticks past a)))
    (is_shown (λ s. s.dormant && is_settled_as past s) o)
    (is_asleep (state_of past a) && is_shown (λ s. s.destroyed) o))
  where
    settled_in : (o : Option Seen) → is_shown (λ s. s.dormant && is_settled_as other s) o
        ≡ is_shown (λ s. s.dormant && is_settled_as past s) o
    settled_in None = refl
    settled_in (Some seen) = ap (λ (b : Bool). seen.dormant && b) (settled_same past other h.same.done seen)

    by : (p s g : Bool) → InTick shown given (closed_by past a p s g) (closed_by other a p s g)
    by true s g = room_makes past other (index_of past a) (index_of other a) (Closes a false)
        (indexes_same past other h.same.done a) (λ ch. makes_same past other ch (Closes a false) e h) h
    by false true g = room_makes past other (index_of past a) (index_of other a) (Closes a true)
        (indexes_same past other h.same.done a) (λ ch. makes_same past other ch (Closes a true) e h) h
    by false false true = room_makes past other (Some 0) (Some 0) (Gone a) refl
        (λ ch. makes_same past other ch (Gone a) e h) h
    by false false false = h

-- an actor that isn't open makes no close but its Gone
pub shut_close : (past : Past) (a : ℕ) (seen : Seen) → is_open (state_of past a) ≡ false
    → is_opened (state_of past seen.actor) ≡ false
    → closed past a (Some seen) ≡ cond (is_asleep (state_of past a) && seen.destroyed)
    (made_if_room past (Some 0) (Gone a)) past
shut_close past a seen e f =
    ap (λ (b : Bool). closed_by past a (b && (seen.destroyed || nat_le 5 (idle_ticks past a)))
    (seen.dormant && is_settled_as past seen) (is_asleep (state_of past a) && seen.destroyed)) e
    ∙ ap (λ (b : Bool). cond b (made_if_room past (index_of past a) (Closes a true))
    (cond (is_asleep (state_of past a) && seen.destroyed) (made_if_room past (Some 0) (Gone a)) past))
    (unsettled seen.dormant seen.relevant f)
  where
    unsettled : (d r : Bool) → is_opened (state_of past seen.actor) ≡ false → (d && is_settled_as past seen) ≡ false
    unsettled d r f = rw f (Rattle.std.proofs.lemmas.Bool.and_right d false refl)

-- a closed one makes none
pub none_close : (past : Past) (a : ℕ) → is_open (state_of past a) ≡ false → is_asleep (state_of past a) ≡ false
    → closed past a None ≡ past
none_close past a e f = rw (e, f) refl

-- the close of an actor, by what the two sights tell of it
close_told : {shown given : List Seen} (past other : Past) (a : ℕ) {o p : Option Seen} → Told past a o p
    → seen_in shown a ≡ o
    → seen_in given a ≡ p → InTick shown given past other → InTick shown given (closed past a o) (closed other a p)
close_told {shown} {given} past other a (same {o = o}) e f h = close_alike past other a o (f ∙ sym e) h
close_told {shown} {given} past other a (empty {seen = seen} is idle) e f h =
    let shut : is_open (state_of past a) ≡ false = subst (λ (n : ℕ). is_open (state_of past n) ≡ false) is idle.shut in
    let state = states_same past other h.same.done in
    subst (λ (q : Past). InTick shown given q (closed other a (Some (unvalued seen))))
    (sym (shut_close past a seen shut (shut_unopened (state_of past seen.actor) idle.shut)))
    (subst (λ (q : Past). InTick shown given
    (cond (is_asleep (state_of past a) && seen.destroyed) (made_if_room past (Some 0) (Gone a)) past) q)
    (sym (shut_close other a (unvalued seen) (ap is_open (state a) ∙ shut) (ap is_opened (state seen.actor)
    ∙ shut_unopened (state_of past seen.actor) idle.shut)
    ∙ ap (λ (s : ActorState). cond (is_asleep s && seen.destroyed) (made_if_room other (Some 0) (Gone a)) other)
    (state a)))
    (by (is_asleep (state_of past a)) seen.destroyed refl))
  where
    by : (b d : Bool) → seen.destroyed ≡ d
        → InTick shown given (cond (b && d) (made_if_room past (Some 0) (Gone a)) past)
        (cond (b && d) (made_if_room other (Some 0) (Gone a)) other)
    by true true q =
        room_makes past other (Some 0) (Some 0) (Gone a) refl
        (λ ch. makes_gone past other ch a seen e f is (ap (λ (b : Bool). b && seen.relevant) (sym q) ∙ idle.apart) h) h
    by true false q = h
    by false d q = h
close_told {shown} {given} past other a (missing {seen = seen} is parts closed_is) e f h =
    let state = states_same past other h.same.done a in
    let shut : is_open (state_of past a) ≡ false = closed_shut (state_of past a) closed_is in
    let awake : is_asleep (state_of past a) ≡ false = closed_awake (state_of past a) closed_is in
    let unopened : is_opened (state_of past seen.actor)
    ≡ false = subst (λ (n : ℕ). is_opened (state_of past n) ≡ false) (sym is)
    (shut_unopened (state_of past a) shut) in
    subst (λ (q : Past). InTick shown given q (closed other a None))
    (sym (shut_close past a seen shut unopened
    ∙ ap (λ (b : Bool). cond (b && seen.destroyed) (made_if_room past (Some 0) (Gone a)) past) awake))
    (subst (λ (q : Past). InTick shown given past q)
    (sym (none_close other a (ap is_open state ∙ shut) (ap is_asleep state ∙ awake))) h)

-- one actor after the other
close_same : {shown given : List Seen} (past other : Past) (a : ℕ) → InTick shown given past other
    → InTick shown given (after_close past a) (after_close other a)
close_same {shown} {given} past other a h =
    subst (λ (q : Past). InTick shown given (after_close past a) q)
    (ap (λ (sight : List Seen). closed other a (seen_in sight a)) (sym h.gives))
    (subst (λ (q : Past). InTick shown given q (closed other a (seen_in given a)))
    (ap (λ (sight : List Seen). closed past a (seen_in sight a)) (sym h.shows))
    (close_told past other a (h.told a) refl refl h))

closes_from : {shown given : List Seen} (actors : List ℕ) (past other : Past) → InTick shown given past other
    → InTick shown given (fold after_close past actors) (fold after_close other actors)
closes_from {shown} {given} [] past other h = h
closes_from {shown} {given} (a ∷ actors) past other h =
    closes_from actors (after_close past a) (after_close other a) (close_same past other a h)

-- the closes of a tick are the same
pub closes_same : {shown given : List Seen} (past other : Past) → InTick shown given past other
    → InTick shown given (after_closes past) (after_closes other)
closes_same {shown} {given} past other h =
    subst (λ (actors : List ℕ). InTick shown given (after_closes past) (fold after_close other actors))
    (sym (opened_same past other h.same.done)) (closes_from (opened_actors past) past other h)
