-- What each deed makes of the channel that is kept of an actor.
use Rattle.std.proofs.Common.{◌≡◌, ◌⊎◌, inl, inr, ℕ, ◌+◌, ◌-◌, ◌≤◌, List, [], ◌++◌, Bool, true, false, cond, ◌==◌, ◌&&◌, ◌||◌, refl, sym, ap, ◌∙◌, subst, arith, Option, Some, None}
use Rattle.std.specs.Prelude.{option_map, is_some}
use Rattle.std.proofs.lemmas.Bool.{cases_Bool, false≢true, eq-eqb}
use Rattle.protocol_model.specs.Value.{Class, Pair, Segment}
use Rattle.protocol_model.specs.Payload.{Message, Opens, Closes, Gone, parts_of}
use Rattle.connection_model.specs.Feed.{Past}
use Rattle.connection_model.specs.Bunches.{made_count, has_arrived, have_arrived, span, is_sleeping, after_making}
use Rattle.connection_model.specs.State as model
use Rattle.connection_model.specs.State.{ActorState, Mark, last_mark, state_of, state_at, holds_index, index_at, index_of, is_open, was_opened, opened_class, closed_as}
use Rattle.connection_model.specs.Items.{kept_flush}
use Rattle.connection_laws.proofs.ActorMarks.{Grows, same_grows}
use Rattle.connection_laws.proofs.Spans.{some_parts}
use Rattle.sender_laws.specs.Acts.{acts, ArrivesMade, are_sent}
use Rattle.sender_laws.specs.States.{is_pending, IsLast, sleeps_actor, flush_seen}
use Rattle.sender_laws.proofs.Views.{mark_alike, count_alike, class_alike, flush_alike}
use Rattle.sender_laws.proofs.Arriving.{open_by_span, close_by_span, state_stays, index_by, have_stays, clear_is, each_has}
use Rattle.sender_laws.proofs.Makes.{mark_under, count_under, arrivals_under, opened_under, flush_under, count_sent}
use Rattle.sender_records.specs.declared.state.ActorState as code
use Rattle.sender_records.specs.declared.state.ActorState.TheVariants as state
use Rattle.sender_records.specs.declared.life.Life.{Life}
use Rattle.sender_records.specs.Life.{state_value, PendsAs, Pends, KeepsLife, Arrives, closed_life, cleared_as, life_cleared}

-- ---- the index of a mark

-- an actor holds the index of its last mark, or none
pub held_index : (past : Past) (a : ℕ) (mark : Mark) → last_mark past a ≡ Some mark
    → holds_index (state_of past a) ≡ true → index_of past a ≡ Some mark.channel
held_index past a mark is holds =
    ap (λ (b : Bool). index_at b (last_mark past a)) holds
    ∙ ap (λ (o : Option Mark). option_map (λ (m : Mark). m.channel) o) is

pub no_index : (past : Past) (a : ℕ) → holds_index (state_of past a) ≡ false → index_of past a ≡ None
no_index past a holds = ap (λ (b : Bool). index_at b (last_mark past a)) holds

-- ---- more arrives

kind_later : (past later : Past) (mark : Mark) (s : code.ActorState) (sleeps : Bool) → Grows past later
    → PendsAs past mark s sleeps → PendsAs later mark s sleeps
kind_later past later mark state.Opening sleeps h k =
    (k.0, k.1, have_stays past later h mark.channel 1 (mark.number - 1) k.2)
kind_later past later mark state.Closing sleeps h k = k
kind_later past later mark state.None sleeps h k = tt
kind_later past later mark state.Opened sleeps h k = tt
kind_later past later mark state.Asleep sleeps h k = tt

-- what is under way stays so where the mark and what is made on its index stay
pub pends_later : (past later : Past) (a : ℕ) (l : Life) → Grows past later → last_mark later a ≡ last_mark past a
    → ((mark : Mark) → last_mark past a ≡ Some mark → made_count later mark.channel ≡ made_count past mark.channel)
    → Pends past a l → Pends later a l
pends_later past later a l h same count p = record {
  mark = p.mark;
  is = same ∙ p.is;
  kind = kind_later past later p.mark l.state l.sleeps h p.kind;
  last = p.last ∙ ap (λ (n : ℕ). n + 1) (sym (count p.mark p.is));
}

-- what isn't under way stays
pub life_rests : (past later : Past) (a : ℕ) (l : Life) → KeepsLife past a l → acts later ≡ acts past
    → Grows past later → is_pending (state_value l.state) ≡ false → KeepsLife later a l
life_rests past later a l h done grows rests =
    let mark : last_mark later a ≡ last_mark past a = mark_alike past later done a in
    let same : state_of later a ≡ state_of past a = state_stays past later a grows mark
    (ap is_pending (sym h.state) ∙ rests) in
    record {
      state = h.state ∙ sym same;
      index = h.index ∙ sym (index_by past later a mark same);
      opened = h.opened ∙ ap (λ (o : Option Class). is_some o) (sym (class_alike past later done a));
      flush = h.flush ∙ sym (flush_alike past later done a);
      pends = λ e. absurd (false≢true (sym rests ∙ e));
    }

module _ (past later : Past) (a : ℕ) (l : Life) (h : KeepsLife past a l) (clear : Bool)
    (r : Arrives past later a clear) where
  mark_same : last_mark later a ≡ last_mark past a
  mark_same = mark_alike past later r.done a

  under_way : (s : code.ActorState) → l.state ≡ s → is_pending (state_value s) ≡ true → Pends past a l
  under_way s e p = h.pends (ap (λ (x : code.ActorState). is_pending (state_value x)) e ∙ p)

  last_later : (mark : Mark) → IsLast past mark → IsLast later mark
  last_later mark last = last ∙ ap (λ (n : ℕ). n + 1) (sym (count_alike past later r.done mark.channel))

  -- all has arrived on the mark's index or not
  clear_there : (mark : Mark) → last_mark past a ≡ Some mark → holds_index (state_value l.state) ≡ true
      → (span later mark.channel == 0) ≡ clear
  clear_there mark is holds = r.all mark.channel (held_index past a mark is (ap holds_index (sym h.state) ∙ holds))

  opening_later : (p : Pends past a l) → l.state ≡ state.Opening
      → state_of later a ≡ cond clear model.Opened model.Opening
  opening_later p e =
      let k : PendsAs past p.mark state.Opening l.sleeps = subst
      (λ (s : code.ActorState). PendsAs past p.mark s l.sleeps) e p.kind in
      open_by_span later a p.mark (mark_same ∙ p.is) k.0 (last_later p.mark p.last) k.1
      (have_stays past later r.grows p.mark.channel 1 (p.mark.number - 1) k.2)
      ∙ ap (λ (b : Bool). cond b model.Opened model.Opening)
      (clear_there p.mark p.is (ap (λ (s : code.ActorState). holds_index (state_value s)) e))

  closing_later : (p : Pends past a l) → l.state ≡ state.Closing → state_of later a ≡ closed_as clear l.sleeps
  closing_later p e =
      let k : PendsAs past p.mark state.Closing l.sleeps = subst
      (λ (s : code.ActorState). PendsAs past p.mark s l.sleeps) e p.kind in
      close_by_span later a p.mark (mark_same ∙ p.is) k.0 (last_later p.mark p.last)
      ∙ ap (λ (b : Bool). closed_as b (is_sleeping p.mark.message))
      (clear_there p.mark p.is (ap (λ (s : code.ActorState). holds_index (state_value s)) e))
      ∙ ap (closed_as clear) k.1

  opened_later : was_opened later a ≡ l.opened
  opened_later = ap (λ (o : Option Class). is_some o) (class_alike past later r.done a) ∙ sym h.opened

  flush_later : kept_flush later a ≡ l.flush
  flush_later = flush_alike past later r.done a ∙ sym h.flush

-- once all has arrived on the index
pub cleared_keeps : (past later : Past) (a : ℕ) (l : Life) → KeepsLife past a l → Arrives past later a true
    → KeepsLife later a (life_cleared l)
cleared_keeps past later a l h r = by l.state refl
  where
    rests : (s : code.ActorState) → l.state ≡ s → is_pending (state_value s) ≡ false → KeepsLife later a l
    rests s e p =
        life_rests past later a l h r.done r.grows (ap (λ (x : code.ActorState). is_pending (state_value x)) e ∙ p)

    ends : (b : Bool) → state_of later a ≡ closed_as true b → KeepsLife later a (closed_life b l)
    ends true e = record {
      state = sym e;
      index = sym (no_index later a (ap holds_index e));
      opened = sym (opened_later past later a l h true r);
      flush = sym (flush_later past later a l h true r);
      pends = λ q. absurd (false≢true q);
    }
    ends false e = record {
      state = sym e;
      index = sym (no_index later a (ap holds_index e));
      opened = sym (opened_later past later a l h true r);
      flush = sym (flush_later past later a l h true r);
      pends = λ q. absurd (false≢true q);
    }

    by : (s : code.ActorState) → l.state ≡ s → KeepsLife later a (cleared_as s l)
    by state.None e = rests state.None e refl
    by state.Opened e = rests state.Opened e refl
    by state.Asleep e = rests state.Asleep e refl
    by state.Closing e =
        ends l.sleeps (closing_later past later a l h true r (under_way past later a l h true r state.Closing e refl) e)
    by state.Opening e =
        let p : Pends past a l = under_way past later a l h true r state.Opening e refl in
        let opened : state_of later a ≡ model.Opened = opening_later past later a l h true r p e in
        record {
          state = sym opened;
          index =
              h.index ∙ held_index past a p.mark p.is
              (ap holds_index (sym h.state) ∙ ap (λ (s : code.ActorState). holds_index (state_value s)) e)
              ∙ sym (held_index later a p.mark (mark_same past later a l h true r ∙ p.is) (ap holds_index opened));
          opened = sym (opened_later past later a l h true r);
          flush = sym (flush_later past later a l h true r);
          pends = λ q. absurd (false≢true q);
        }

-- what was open stays so, and nothing else is
pub cleared_open : (l : Life) → is_open (state_value (life_cleared l).state) ≡ is_open (state_value l.state)
cleared_open l = by l.state refl
  where
    ends : (b : Bool) → is_open (state_value (closed_life b l).state) ≡ false
    ends true = refl
    ends false = refl

    by : (s : code.ActorState) → l.state ≡ s → is_open (state_value (cleared_as s l).state) ≡ is_open (state_value s)
    by state.None e = ap (λ (x : code.ActorState). is_open (state_value x)) e
    by state.Opened e = ap (λ (x : code.ActorState). is_open (state_value x)) e
    by state.Asleep e = ap (λ (x : code.ActorState). is_open (state_value x)) e
    by state.Closing e = ends l.sleeps
    by state.Opening e = refl

-- and its index stays or is given up
pub cleared_index : (l : Life) → ((life_cleared l).index ≡ l.index) ⊎ ((life_cleared l).index ≡ None)
cleared_index l = by l.state
  where
    ends : (b : Bool) → ((closed_life b l).index ≡ l.index) ⊎ ((closed_life b l).index ≡ None)
    ends true = inr refl
    ends false = inr refl

    by : (s : code.ActorState) → ((cleared_as s l).index ≡ l.index) ⊎ ((cleared_as s l).index ≡ None)
    by state.None = inl refl
    by state.Opened = inl refl
    by state.Asleep = inl refl
    by state.Closing = ends l.sleeps
    by state.Opening = inl refl

-- as long as it hasn't
pub uncleared_keeps : (past later : Past) (a : ℕ) (l : Life) → KeepsLife past a l → Arrives past later a false
    → KeepsLife later a l
uncleared_keeps past later a l h r = by l.state refl
  where
    stays : (p : Pends past a l) → state_of later a ≡ state_value l.state → KeepsLife later a l
    stays p e = record {
      state = sym e;
      index = h.index ∙ sym (index_by past later a (mark_same past later a l h false r) (e ∙ h.state));
      opened = sym (opened_later past later a l h false r);
      flush = sym (flush_later past later a l h false r);
      pends =
          λ q. pends_later past later a l r.grows (mark_same past later a l h false r)
          (λ mark is. count_alike past later r.done mark.channel) p;
    }

    rests : (s : code.ActorState) → l.state ≡ s → is_pending (state_value s) ≡ false → KeepsLife later a l
    rests s e p =
        life_rests past later a l h r.done r.grows (ap (λ (x : code.ActorState). is_pending (state_value x)) e ∙ p)

    by : (s : code.ActorState) → l.state ≡ s → KeepsLife later a l
    by state.None e = rests state.None e refl
    by state.Opened e = rests state.Opened e refl
    by state.Asleep e = rests state.Asleep e refl
    by state.Closing e =
        let p : Pends past a l = under_way past later a l h false r state.Closing e refl in
        stays p (closing_later past later a l h false r p e ∙ ap state_value (sym e))
    by state.Opening e =
        let p : Pends past a l = under_way past later a l h false r state.Opening e refl in
        stays p (opening_later past later a l h false r p e ∙ ap state_value (sym e))

-- ---- a message of the actor is made

not_clear : (past : Past) (ch n : ℕ) → has_arrived past ch n ≡ false → 1 ≤ n → n ≤ made_count past ch
    → (span past ch == 0) ≡ false
not_clear past ch n none lo hi = elim (cases_Bool (span past ch == 0)) [
  | inl e ↦ absurd
      (false≢true (sym none ∙ each_has past ch 1 (made_count past ch) (clear_is past ch ∙ e) n lo (omega arith)))
  | inr e ↦ e
]

-- an open is made on a clear index
pub opens_keeps : (sent past : Past) → are_sent sent ≡ true → ArrivesMade (sent ++ past) → (ch : ℕ)
    → span (sent ++ past) ch ≡ 0
    → (exports : List Segment) (a : ℕ) (class : Class) (values : List Pair) (l new : Life)
    → KeepsLife (sent ++ past) a l
    → new ≡ record { state = state.Opening; index = Some ch; sleeps = false; opened = true; flush = l.flush }
    → KeepsLife (sent ++ after_making past ch (Opens exports a class values)) a new
opens_keeps sent past e made ch clear exports a class values l new h is =
    subst (KeepsLife (sent ++ after_making past ch (Opens exports a class values)) a) (sym is) keeps
  where
    m : Message
    m = Opens exports a class values

    keeps : KeepsLife (sent ++ after_making past ch (Opens exports a class values)) a
        (record { state = state.Opening; index = Some ch; sleeps = false; opened = true; flush = l.flush })
    keeps =
        let later : Past = sent ++ after_making past ch (Opens exports a class values) in
        let message : Message = Opens exports a class values in
        let mark : Mark = record { channel = ch; number = made_count past ch + 1; message = message } in
        let is : last_mark later a ≡ Some mark =
        mark_under sent past e ch message a
        ∙ ap (λ (b : Bool). cond (b && true) (Some mark) (last_mark (sent ++ past) a)) (eq-eqb a a refl) in
        let grows : Grows (sent ++ past) later = same_grows (sent ++ past) later
        (arrivals_under sent past ch message) in
        let same : made_count (sent ++ past) ch ≡ made_count past ch = count_sent sent past e ch in
        let count : made_count later ch ≡ made_count
        (sent ++ past) ch + parts_of message = count_under sent past e ch message in
        let some : 1 ≤ parts_of message = some_parts message in
        let last : IsLast later mark = omega (arith, same, count) in
        let number : mark.number - 1 ≡ made_count (sent ++ past) ch = omega (arith, same) in
        let below : have_arrived later ch 1 (mark.number - 1) ≡ true =
        have_stays (sent ++ past) later grows ch 1 (mark.number - 1)
        (ap (have_arrived (sent ++ past) ch 1) number ∙ clear_is (sent ++ past) ch
        ∙ eq-eqb (span (sent ++ past) ch) 0 clear) in
        let first : 1 ≤ mark.number = omega arith in
        let new_unarrived : has_arrived later ch mark.number ≡ false =
        arrivals_under sent past ch message ch mark.number ∙ made ch mark.number (omega (arith, same)) in
        let state_is : state_of later a ≡ model.Opening =
        open_by_span later a mark is refl last first below
        ∙ ap (λ (b : Bool). cond b model.Opened model.Opening)
        (not_clear later ch mark.number new_unarrived first (omega (arith, same, count, some))) in
        record {
          state = sym state_is;
          index = sym (held_index later a mark is (ap holds_index state_is));
          opened =
              sym (opened_under sent past e ch message a ∙ ap
              (λ (b : Bool). (true && b) || was_opened (sent ++ past) a) (eq-eqb a a refl));
          flush = h.flush ∙ sym (flush_under sent past e ch message a);
          pends = λ q. record { mark = mark; is = is; kind = (refl, first, below); last = last };
        }

-- a close is made on the index that is held
pub closes_keeps : (past : Past) → ArrivesMade past → (a ch : ℕ) (sleeps : Bool) (flush : ℕ) (l new : Life)
    → KeepsLife past a l → l.index ≡ Some ch
    → (sleeps ≡ true → flush_seen past a ≡ Some flush)
    → new ≡ record {
      state = state.Closing;
      index = l.index;
      sleeps = sleeps;
      opened = l.opened;
      flush =
          cond sleeps (Some flush) l.flush;
    }
    → KeepsLife (after_making past ch (Closes a sleeps)) a new
closes_keeps past made a ch sleeps flush l new h at seen is =
    subst (KeepsLife (after_making past ch (Closes a sleeps)) a) (sym is) keeps
  where
    keeps : KeepsLife (after_making past ch (Closes a sleeps)) a
        (record {
          state = state.Closing;
          index = l.index;
          sleeps = sleeps;
          opened = l.opened;
          flush =
              cond sleeps (Some flush) l.flush;
        })
    keeps =
        let message : Message = Closes a sleeps in
        let later : Past = after_making past ch message in
        let mark : Mark = record { channel = ch; number = made_count past ch + 1; message = message } in
        let is : last_mark later a ≡ Some mark =
        mark_under [] past refl ch message a
        ∙ ap (λ (b : Bool). cond (b && true) (Some mark) (last_mark past a)) (eq-eqb a a refl) in
        let count : made_count later ch ≡ made_count past ch + parts_of message = count_under [] past refl ch message in
        let last : IsLast later mark = omega (arith, count) in
        let unarrived : has_arrived later ch mark.number ≡ false = arrivals_under [] past ch message ch mark.number
        ∙ made ch mark.number (omega arith) in
        let state_is : state_of later a ≡ model.Closing =
        close_by_span later a mark is refl last
        ∙ ap (λ (b : Bool). closed_as b sleeps)
        (not_clear later ch mark.number unarrived (omega arith) (omega (arith, count, some_parts message))) in
        record {
          state = sym state_is;
          index = at ∙ sym (held_index later a mark is (ap holds_index state_is));
          opened = h.opened ∙ sym (opened_under [] past refl ch message a);
          flush = kept sleeps seen ∙ sym (flush_under [] past refl ch message a);
          pends = λ q. record { mark = mark; is = is; kind = (refl, refl); last = last };
        }
      where
        kept : (b : Bool) → (b ≡ true → flush_seen past a ≡ Some flush)
            → cond b (Some flush) l.flush ≡ cond (sleeps_actor a (Closes a b)) (flush_seen past a) (kept_flush past a)
        kept true s =
            sym (s refl) ∙ ap (λ (b : Bool). cond b (flush_seen past a) (kept_flush past a)) (sym (eq-eqb a a refl))
        kept false s = h.flush

-- a Gone is made
pub goes_keeps : (past : Past) (a ch : ℕ) (l new : Life) → KeepsLife past a l
    → new ≡ record { state = state.None; index = None; sleeps = l.sleeps; opened = l.opened; flush = l.flush }
    → KeepsLife (after_making past ch (Gone a)) a new
goes_keeps past a ch l new h is = subst (KeepsLife (after_making past ch (Gone a)) a) (sym is) keeps
  where
    keeps : KeepsLife (after_making past ch (Gone a)) a (record {
      state = state.None;
      index = None;
      sleeps =
          l.sleeps;
      opened = l.opened;
      flush = l.flush;
    })
    keeps =
        let message : Message = Gone a in
        let later : Past = after_making past ch message in
        let mark : Mark = record { channel = ch; number = made_count past ch + 1; message = message } in
        let is : last_mark later a ≡ Some mark =
        mark_under [] past refl ch message a
        ∙ ap (λ (b : Bool). cond (b && true) (Some mark) (last_mark past a)) (eq-eqb a a refl) in
        let state_is : state_of later a ≡ model.Closed = ap (state_at later) is in
        record {
          state = sym state_is;
          index = sym (no_index later a (ap holds_index state_is));
          opened = h.opened ∙ sym (opened_under [] past refl ch message a);
          flush = h.flush ∙ sym (flush_under [] past refl ch message a);
          pends = λ q. absurd (false≢true q);
        }
