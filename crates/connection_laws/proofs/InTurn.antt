-- The messages made on an index, one use of it after another.
use Rattle.std.proofs.Common.{◌≡◌, inl, inr, ℕ, ◌+◌, List, [], ◌∷◌, Bool, true, false, cond, eqb, refl, sym, ap, ◌∙◌, subst, Option, Some, None}
use Rattle.std.proofs.lemmas.Bool.{cases_Bool, false≢true, cases_eq, and_parts, and_from, and_right, eq-eqb, ne_eqb, eqb-true}
use Rattle.protocol_model.specs.Payload.{Message, Opens, Closes, Updates, Calls, Gone, parts_of}
use Rattle.protocol_model.specs.Value.{Segment, Class, Pair}
use Rattle.protocol_model.specs.Side.{Side, AtServer}
use Rattle.connection_model.specs.Feed.{End, Past, has_ended}
use Rattle.connection_model.specs.Bunches.{made_count, is_opening, have_arrived, after_making}
use Rattle.connection_model.specs.State.{Mark, ActorState, Closed, Asleep, Opening, Opened, Closing, last_mark, closed_as, state_after, state_at, state_of, is_open, is_opened, is_asleep, holds_index, index_at, index_of, is_held}
use Rattle.connection_model.specs.Verdict.{with_told, with_handed}
use Rattle.connection_model.specs.CallAnswers.{call_channel}
use Rattle.connection_laws.specs.Run.{Move, Ticks, Makes, Defers, Sends, Takes, Hears, Hands, Ends, after_move, May, IsRun, MayMake}
use Rattle.connection_laws.specs.Delivered.{on_index, Numbered, numbered_in}
use Rattle.connection_laws.specs.InTurn.{user_said, user_of, FitsUse, Brackets, BracketsFit}
use Rattle.connection_laws.proofs.Moves.{told_ignored, handed_ignored}
use Rattle.connection_laws.proofs.Deeds.{always}
use Rattle.connection_laws.proofs.ActorMarks.{marks, mark_made, mark_told, mark_handed, Holders, holders, held_found}
use Rattle.connection_laws.proofs.Prefixes.{messages_made}

-- ---- an actor whose last mark is its open

-- the actor's last mark is an open on the index
pub record OpenMark (past : Past) (b ch : ℕ) : Type 0 where
  pub mark : Mark
  pub last : last_mark past b ≡ Some mark
  pub opens : is_opening mark.message ≡ true
  pub on : mark.channel ≡ ch

-- an open mark leaves an open state that holds its index
open_state : (past : Past) (mark : Mark) (m : Message) → is_opening m ≡ true → (is_open (state_after past mark m) ≡ true) × (holds_index (state_after past mark m) ≡ true)
open_state past mark (Opens exports a class values) e = by (have_arrived past mark.channel mark.number (parts_of mark.message))
  where
    by : (b : Bool) → (is_open (cond b Opened Opening) ≡ true) × (holds_index (cond b Opened Opening) ≡ true)
    by true = (refl, refl)
    by false = (refl, refl)
open_state past mark (Closes a sleeps) e = absurd (false≢true e)
open_state past mark (Gone a) e = absurd (false≢true e)
open_state past mark (Updates a class values) e = absurd (false≢true e)
open_state past mark (Calls a n call args) e = absurd (false≢true e)

-- it holds its index
pub open_holds_it : (past : Past) (b ch : ℕ) → OpenMark past b ch → (index_of past b ≡ Some ch) × (is_open (state_of past b) ≡ true)
open_holds_it past b ch o =
    let s = open_state past o.mark o.mark.message o.opens in
    let state : state_of past b ≡ state_after past o.mark o.mark.message = ap (state_at past) o.last in (
      ap (λ (x : ActorState). index_at (holds_index x) (last_mark past b)) state ∙ ap (λ (t : Bool). index_at t (last_mark past b)) s.1 ∙ ap (index_at true) o.last ∙ ap (λ (n : ℕ). Some n) o.on,
      ap is_open state ∙ s.0,
    )

-- a close leaves no open state
closed_not_open : (t sleeps : Bool) → is_open (closed_as t sleeps) ≡ false
closed_not_open false sleeps = refl
closed_not_open true true = refl
closed_not_open true false = refl

-- an open state is left by an open
open_message_of : (past : Past) (mark : Mark) (m : Message) → is_open (state_after past mark m) ≡ true → is_opening m ≡ true
open_message_of past mark (Opens exports a class values) e = refl
open_message_of past mark (Closes a sleeps) e = absurd (false≢true (sym (closed_not_open (have_arrived past mark.channel 1 mark.number) sleeps) ∙ e))
open_message_of past mark (Gone a) e = absurd (false≢true e)
open_message_of past mark (Updates a class values) e = absurd (false≢true e)
open_message_of past mark (Calls a n call args) e = absurd (false≢true e)

-- and who holds its index in an open state has such a mark
pub held_open : (past : Past) (b ch : ℕ) → index_of past b ≡ Some ch → is_open (state_of past b) ≡ true → OpenMark past b ch
held_open past b ch i e = by (last_mark past b) refl
  where
    channel : (t : Bool) (mark : Mark) → index_at t (Some mark) ≡ Some ch → mark.channel ≡ ch
    channel true mark q = some_is mark.channel ch q
      where
        some_is : (x y : ℕ) → (let o : Option ℕ = Some x in o) ≡ Some y → x ≡ y
        some_is x y q = cc
    channel false mark q = absurd (let never : (let o : Option ℕ = None in o) ≡ Some ch = q in cc)

    by : (o : Option Mark) → last_mark past b ≡ o → OpenMark past b ch
    by None q = absurd (false≢true (sym (ap (λ (o : Option Mark). is_open (state_at past o)) q) ∙ e))
    by (Some mark) q = record {
      mark = mark;
      last = q;
      opens = open_message_of past mark mark.message (sym (ap (λ (o : Option Mark). is_open (state_at past o)) q) ∙ e);
      on = channel (holds_index (state_of past b)) mark (ap (index_at (holds_index (state_of past b))) (sym q) ∙ i);
    }

-- ---- who uses an index

-- the user of an index, by its messages, is the actor that is open there
pub record Users (past : Past) : Type 0 where
  pub marked : (ch b : ℕ) → user_of (on_index ch past) ≡ Some b → OpenMark past b ch
  pub used : (ch b : ℕ) → OpenMark past b ch → user_of (on_index ch past) ≡ Some b

-- where nothing is made
users_like : (past later : Past) → ((ch : ℕ) → on_index ch later ≡ on_index ch past) → ((b : ℕ) → last_mark later b ≡ last_mark past b) → Users past → Users later
users_like past later m l u = record {
  marked = λ ch b e. (let o : OpenMark past b ch = u.marked ch b (ap user_of (sym (m ch)) ∙ e) in record { mark = o.mark; last = l b ∙ o.last; opens = o.opens; on = o.on });
  used = λ ch b o. ap user_of (m ch) ∙ u.used ch b (record { mark = o.mark; last = sym (l b) ∙ o.last; opens = o.opens; on = o.on });
}

module _ (end : End) (past : Past) (h : Holders past) (u : Users past) (c : ℕ) where
  later_mark : (m : Message) (b : ℕ) → marks b m ≡ false → last_mark (after_making past c m) b ≡ last_mark past b
  later_mark m b q = mark_made past c m b ∙ ap (λ (t : Bool). cond t (Some (record { channel = c; number = made_count past c + 1; message = m })) (last_mark past b)) q

  new_mark : (m : Message) (b : ℕ) → marks b m ≡ true → last_mark (after_making past c m) b ≡ Some (record { channel = c; number = made_count past c + 1; message = m })
  new_mark m b q = mark_made past c m b ∙ ap (λ (t : Bool). cond t (Some (record { channel = c; number = made_count past c + 1; message = m })) (last_mark past b)) q

  index_here : (m : Message) → on_index c (after_making past c m) ≡ (made_count past c + 1, m) ∷ on_index c past
  index_here m = messages_made past c c m ∙ ap (λ (t : Bool). cond t ((made_count past c + 1, m) ∷ on_index c past) (on_index c past)) (eq-eqb c c refl)

  index_elsewhere : (m : Message) (ch : ℕ) → (c ≡ ch → ⊥) → on_index ch (after_making past c m) ≡ on_index ch past
  index_elsewhere m ch ne = messages_made past ch c m ∙ ap (λ (t : Bool). cond t ((made_count past c + 1, m) ∷ on_index ch past) (on_index ch past)) (ne_eqb c ch ne)

  -- whose open mark a message takes away
  still_marked : (m : Message) (b ch : ℕ) → marks b m ≡ false → OpenMark past b ch → OpenMark (after_making past c m) b ch
  still_marked m b ch q o = record { mark = o.mark; last = later_mark m b q ∙ o.last; opens = o.opens; on = o.on }

  was_marked : (m : Message) (b ch : ℕ) → marks b m ≡ false → OpenMark (after_making past c m) b ch → OpenMark past b ch
  was_marked m b ch q o = record { mark = o.mark; last = sym (later_mark m b q) ∙ o.last; opens = o.opens; on = o.on }

  -- an open mark of an actor that a message marks is that message
  fresh_mark : (m : Message) (b ch : ℕ) → marks b m ≡ true → OpenMark (after_making past c m) b ch → (is_opening m ≡ true) × (c ≡ ch)
  fresh_mark m b ch q o =
      let e : record { channel = c; number = made_count past c + 1; message = m } ≡ o.mark = same (record { channel = c; number = made_count past c + 1; message = m }) o.mark (sym (new_mark m b q) ∙ o.last) in
      (ap (λ (x : Mark). is_opening x.message) e ∙ o.opens, ap (λ (x : Mark). x.channel) e ∙ o.on)
    where
      same : (x y : Mark) → (let p : Option Mark = Some x in p) ≡ Some y → x ≡ y
      same x y e = cc

  nobody : (m : Message) → is_held past c ≡ false → user_of (on_index c past) ≡ None
  nobody m free = by (user_of (on_index c past)) refl
    where
      by : (o : Option ℕ) → user_of (on_index c past) ≡ o → user_of (on_index c past) ≡ None
      by None e = e
      by (Some b) e = absurd (false≢true (sym free ∙ held_found past h b c (open_holds_it past b c (u.marked c b e)).0))

  -- the message fits those before it on its index
  message_fits : end.side ≡ AtServer → (m : Message) → MayMake end past c m → FitsUse (on_index c past) m
  message_fits s (Opens exports a class values) may = nobody (Opens exports a class values) may.place.1
  message_fits s (Closes a sleeps) may = u.used c a (held_open past a c may.place.0 may.place.1)
  message_fits s (Gone a) may = tt
  message_fits s (Updates a class values) may = absurd may.place
  message_fits s (Calls a n call args) may =
      let at : call_channel AtServer past a ≡ Some c = subst (λ (x : Side). call_channel x past a ≡ Some c) s may.place.0 in
      u.used c a (by (state_of past a) refl at)
    where
      some : (let o : Option ℕ = None in o) ≡ Some c → ⊥
      some q = cc

      by : (x : ActorState) → state_of past a ≡ x → cond (is_opened x) (index_of past a) None ≡ Some c → OpenMark past a c
      by Opened e q = held_open past a c q (ap is_open e)
      by Closed e q = absurd (some q)
      by Asleep e q = absurd (some q)
      by Opening e q = absurd (some q)
      by Closing e q = absurd (some q)

  -- ---- who uses the index then

  users_open : (exports : List Segment) (a : ℕ) (class : Class) (values : List Pair) → MayMake end past c (Opens exports a class values) → Users (after_making past c (Opens exports a class values))
  users_open exports a class values may = record { marked = marked; used = used }
    where
      new : Numbered
      new = (made_count past c + 1, Opens exports a class values)

      none_held : (b ch : ℕ) → OpenMark past b ch → marks b (Opens exports a class values) ≡ false
      none_held b ch o = elim (cases_Bool (marks b (Opens exports a class values))) [
        | inr q ↦ q
        | inl q ↦ (
            let same : a ≡ b = eqb-true a b (and_parts (eqb a b) true q).0 in
            let never : (let x : Option ℕ = None in x) ≡ Some ch = sym may.place.3 ∙ ap (index_of past) same ∙ (open_holds_it past b ch o).0 in
            absurd (none_some ch never))
      ]
        where
          none_some : (n : ℕ) → (let x : Option ℕ = None in x) ≡ Some n → ⊥
          none_some n q = cc

      self : marks a (Opens exports a class values) ≡ true
      self = and_from (eqb a a) true (eq-eqb a a refl) refl

      marked : (ch b : ℕ) → user_of (on_index ch (after_making past c (Opens exports a class values))) ≡ Some b → OpenMark (after_making past c (Opens exports a class values)) b ch
      marked ch b e = elim (cases_eq c ch) [
        | inr ne ↦ (let o : OpenMark past b ch = u.marked ch b (ap user_of (sym (index_elsewhere (Opens exports a class values) ch ne)) ∙ e) in still_marked (Opens exports a class values) b ch (none_held b ch o) o)
        | inl q ↦ here b (ap user_of (sym (index_here (Opens exports a class values))) ∙ subst (λ (x : ℕ). user_of (on_index x (after_making past c (Opens exports a class values))) ≡ Some b) (sym q) e) q
      ]
        where
          here : (b : ℕ) → (let o : Option ℕ = Some a in o) ≡ Some b → c ≡ ch → OpenMark (after_making past c (Opens exports a class values)) b ch
          here b e q =
              let same : a ≡ b = cc in
              record {
                mark = record { channel = c; number = made_count past c + 1; message = Opens exports a class values };
                last = subst (λ (x : ℕ). last_mark (after_making past c (Opens exports a class values)) x ≡ Some (record { channel = c; number = made_count past c + 1; message = Opens exports a class values })) same (new_mark (Opens exports a class values) a self);
                opens = refl;
                on = q;
              }

      used : (ch b : ℕ) → OpenMark (after_making past c (Opens exports a class values)) b ch → user_of (on_index ch (after_making past c (Opens exports a class values))) ≡ Some b
      used ch b o = elim (cases_Bool (marks b (Opens exports a class values))) [
        | inl q ↦ (
            let f = fresh_mark (Opens exports a class values) b ch q o in
            subst (λ (x : ℕ). user_of (on_index x (after_making past c (Opens exports a class values))) ≡ Some b) f.1
            (ap user_of (index_here (Opens exports a class values)) ∙ ap (λ (x : ℕ). Some x) (eqb-true a b (and_parts (eqb a b) true q).0)))
        | inr q ↦ before (was_marked (Opens exports a class values) b ch q o)
      ]
        where
          before : OpenMark past b ch → user_of (on_index ch (after_making past c (Opens exports a class values))) ≡ Some b
          before o = elim (cases_eq c ch) [
            | inr ne ↦ ap user_of (index_elsewhere (Opens exports a class values) ch ne) ∙ u.used ch b o
            | inl e ↦ absurd (false≢true (sym may.place.1 ∙ held_found past h b c ((open_holds_it past b ch o).0 ∙ ap (λ (n : ℕ). Some n) (sym e))))
          ]

  users_close : (a : ℕ) (sleeps : Bool) → MayMake end past c (Closes a sleeps) → Users (after_making past c (Closes a sleeps))
  users_close a sleeps may = record { marked = marked; used = used }
    where
      not_it : (b ch : ℕ) → (c ≡ ch → ⊥) → OpenMark past b ch → marks b (Closes a sleeps) ≡ false
      not_it b ch ne o = elim (cases_Bool (marks b (Closes a sleeps))) [
        | inr q ↦ q
        | inl q ↦ (
            let same : a ≡ b = eqb-true a b (and_parts (eqb a b) true q).0 in
            absurd (ne (some_is c ch (sym may.place.0 ∙ ap (index_of past) same ∙ (open_holds_it past b ch o).0))))
      ]
        where
          some_is : (x y : ℕ) → (let o : Option ℕ = Some x in o) ≡ Some y → x ≡ y
          some_is x y q = cc

      marked : (ch b : ℕ) → user_of (on_index ch (after_making past c (Closes a sleeps))) ≡ Some b → OpenMark (after_making past c (Closes a sleeps)) b ch
      marked ch b e = elim (cases_eq c ch) [
        | inr ne ↦ (let o : OpenMark past b ch = u.marked ch b (ap user_of (sym (index_elsewhere (Closes a sleeps) ch ne)) ∙ e) in still_marked (Closes a sleeps) b ch (not_it b ch ne o) o)
        | inl q ↦ absurd (never b (ap user_of (sym (index_here (Closes a sleeps))) ∙ subst (λ (x : ℕ). user_of (on_index x (after_making past c (Closes a sleeps))) ≡ Some b) (sym q) e))
      ]
        where
          never : (b : ℕ) → (let o : Option ℕ = None in o) ≡ Some b → ⊥
          never b q = cc

      used : (ch b : ℕ) → OpenMark (after_making past c (Closes a sleeps)) b ch → user_of (on_index ch (after_making past c (Closes a sleeps))) ≡ Some b
      used ch b o = elim (cases_Bool (marks b (Closes a sleeps))) [
        | inl q ↦ absurd (false≢true (fresh_mark (Closes a sleeps) b ch q o).0)
        | inr q ↦ before q (was_marked (Closes a sleeps) b ch q o)
      ]
        where
          before : marks b (Closes a sleeps) ≡ false → OpenMark past b ch → user_of (on_index ch (after_making past c (Closes a sleeps))) ≡ Some b
          before q o = elim (cases_eq c ch) [
            | inr ne ↦ ap user_of (index_elsewhere (Closes a sleeps) ch ne) ∙ u.used ch b o
            | inl e ↦ (
                let same : a ≡ b = h.one a b c may.place.0 ((open_holds_it past b ch o).0 ∙ ap (λ (n : ℕ). Some n) (sym e)) in
                absurd (false≢true (sym q ∙ and_from (eqb a b) true (eq-eqb a b same) refl)))
          ]

  -- a message that says nothing of who uses the index, and takes no open mark away
  users_other : (m : Message) → user_said m ≡ None → is_opening m ≡ false → ((b ch : ℕ) → OpenMark past b ch → marks b m ≡ false) → Users (after_making past c m)
  users_other m quiet closed none = record { marked = marked; used = used }
    where
      same : (ch : ℕ) → user_of (on_index ch (after_making past c m)) ≡ user_of (on_index ch past)
      same ch = elim (cases_eq c ch) [
        | inr ne ↦ ap user_of (index_elsewhere m ch ne)
        | inl e ↦ subst (λ (x : ℕ). user_of (on_index x (after_making past c m)) ≡ user_of (on_index x past)) e
            (ap user_of (index_here m) ∙ by (user_said m) quiet)
      ]
        where
          by : (o : Option (Option ℕ)) → o ≡ None → (let x : Option ℕ = elim o [ Some user ↦ user | None ↦ user_of (on_index c past) ] in x) ≡ user_of (on_index c past)
          by None q = refl
          by (Some x) q = absurd (let never : (let o : Option (Option ℕ) = Some x in o) ≡ None = q in cc)

      marked : (ch b : ℕ) → user_of (on_index ch (after_making past c m)) ≡ Some b → OpenMark (after_making past c m) b ch
      marked ch b e = (let o : OpenMark past b ch = u.marked ch b (sym (same ch) ∙ e) in still_marked m b ch (none b ch o) o)

      used : (ch b : ℕ) → OpenMark (after_making past c m) b ch → user_of (on_index ch (after_making past c m)) ≡ Some b
      used ch b o = elim (cases_Bool (marks b m)) [
        | inl q ↦ absurd (false≢true (sym closed ∙ (fresh_mark m b ch q o).0))
        | inr q ↦ same ch ∙ u.used ch b (was_marked m b ch q o)
      ]

  users_made : (m : Message) → MayMake end past c m → Users (after_making past c m)
  users_made (Opens exports a class values) may = users_open exports a class values may
  users_made (Closes a sleeps) may = users_close a sleeps may
  users_made (Updates a class values) may = absurd may.place
  users_made (Calls a n call args) may = users_other (Calls a n call args) refl refl (λ b ch o. and_right (eqb a b) false refl)
  users_made (Gone a) may = users_other (Gone a) refl refl (λ b ch o. elim (cases_Bool (marks b (Gone a))) [
    | inr q ↦ q
    | inl q ↦ (
        let same : a ≡ b = eqb-true a b (and_parts (eqb a b) true q).0 in
        absurd (awake (state_of past b) (ap (λ (x : ℕ). is_asleep (state_of past x)) (sym same) ∙ may.place.1) (open_holds_it past b ch o).1))
  ])
    where
      awake : (x : ActorState) → is_asleep x ≡ true → is_open x ≡ true → ⊥
      awake Asleep p q = false≢true q
      awake Opened p q = false≢true p
      awake Opening p q = false≢true p
      awake Closed p q = false≢true p
      awake Closing p q = false≢true p

-- ---- the law

-- uses stand one after another, and the user is the open actor
abbrev Both : Past → Type 0
Both past = Users past × BracketsFit past

-- it stays so where messages and marks do
brackets_like : (past later : Past) → ((ch : ℕ) → on_index ch later ≡ on_index ch past) → ((b : ℕ) → last_mark later b ≡ last_mark past b) → Both past → Both later
brackets_like past later m l h = (users_like past later m l h.0, λ ch. subst Brackets (sym (m ch)) (h.1 ch))

-- it stays so move by move
brackets_step : (end : End) → end.side ≡ AtServer → (past : Past) (move : Move) → IsRun end past → has_ended past ≡ false → May end past move → Both past → Both (after_move past move)
brackets_step end s past (Ticks sight) run alive may h = brackets_like past (after_move past (Ticks sight)) (λ ch. refl) (λ b. refl) h
brackets_step end s past (Makes c m) run alive may h = (
  users_made end past (holders end past run) h.0 c m may,
  λ ch. elim (cases_eq c ch) [
    | inr ne ↦ subst Brackets (sym (index_elsewhere end past (holders end past run) h.0 c m ch ne)) (h.1 ch)
    | inl e ↦ subst (λ (x : ℕ). Brackets (on_index x (after_making past c m))) e
        (subst Brackets (sym (index_here end past (holders end past run) h.0 c m)) (message_fits end past (holders end past run) h.0 c s m may, h.1 c))
  ],
)
brackets_step end s past (Defers m) run alive may h = brackets_like past (after_move past (Defers m)) (λ ch. refl) (λ b. refl) h
brackets_step end s past (Sends items) run alive may h = brackets_like past (after_move past (Sends items)) (λ ch. refl) (λ b. refl) h
brackets_step end s past (Takes n) run alive may h = brackets_like past (after_move past (Takes n)) (λ ch. refl) (λ b. refl) h
brackets_step end s past (Hears entry) run alive may h =
    brackets_like past (with_told entry past) (λ ch. told_ignored (numbered_in ch) (λ n e es ds. refl) entry past) (mark_told entry past) h
brackets_step end s past (Hands d) run alive may h =
    brackets_like past (with_handed d past) (λ ch. handed_ignored (numbered_in ch) (λ n es d ds. refl) d past) (mark_handed d past) h
brackets_step end s past (Ends g) run alive may h = brackets_like past (after_move past (Ends g)) (λ ch. refl) (λ b. refl) h

-- it is so in a run
both_fit : (end : End) → end.side ≡ AtServer → (past : Past) → IsRun end past → Both past
both_fit end s past run = always end Both (first, λ ch. tt) (brackets_step end s) past run
  where
    first : Users []
    first = record { marked = λ ch b e. absurd (never b e); used = λ ch b o. absurd (nothing o.mark o.last) }
      where
        never : (b : ℕ) → (let o : Option ℕ = None in o) ≡ Some b → ⊥
        never b e = cc

        nothing : (m : Mark) → (let o : Option Mark = None in o) ≡ Some m → ⊥
        nothing m e = cc

-- the messages of a server's index come one use after another
pub brackets_fit : (end : End) → end.side ≡ AtServer → (past : Past) → IsRun end past → BracketsFit past
brackets_fit end s past run = (both_fit end s past run).1
