-- The marks of an actor in their order: nothing is opened again after a Gone.
use Rattle.std.proofs.Common.{◌≡◌, ℕ, ◌+◌, ◌*◌, ◌≤◌, ◌==◌, ◌&&◌, List, [], ◌∷◌, ◌++◌, Bool, true, false, cond, refl, sym, ap, ◌∙◌, subst, arith, Option, Some, None, slice_get, unwrap_or}
use Rattle.std.proofs.lemmas.Bool.{false≢true, eqb-true, and_parts, and_from, eq-eqb}
use Rattle.protocol_model.specs.Sight.{Seen}
use Rattle.protocol_model.specs.Value.{Segment, Class, Pair}
use Rattle.protocol_model.specs.World.{Edits, spawn_count, lives}
use Rattle.protocol_model.specs.Payload.{Message, Opens, Closes, Updates, Calls, Gone, parts_of, actor_of}
use Rattle.table_model.specs.Facts.{IsTable}
use Rattle.table_model.specs.Rules.{Entry}
use Rattle.table_model.specs.Grammar.{table_of}
use Rattle.connection_model.specs.Feed.{End, Past, has_ended, sight_of, seen_in}
use Rattle.connection_model.specs.Bunches.{made_count, after_making, have_arrived, is_opening, is_closing, is_sleeping}
use Rattle.connection_model.specs.Pack.{is_shown}
use Rattle.connection_model.specs.State.{Mark, is_mark, mark_in, last_mark, state_of, state_at, state_after, closed_as, is_asleep, Opened, Opening}
use Rattle.connection_laws.specs.Run.{Move, Ticks, Makes, Defers, Sends, Takes, Hears, Hands, Ends, after_move, May, MayMake, OpensSeen, IsRun}
use Rattle.connection_laws.specs.Delivered.{Numbered}
use Rattle.connection_laws.proofs.Moves.{made_ignored, told_ignored, handed_ignored}
use Rattle.connection_laws.proofs.Deeds.{always}
use Rattle.connection_laws.proofs.InTurn.{OpenMark, held_open}
use Rattle.payload_laws.specs.Accepted.{AreAccepted}
use Rattle.payload_laws.specs.Passing.{is_gone}
use Rattle.headline_laws.specs.Follows.{parts_in}
use Rattle.headline_laws.specs.Marks.{marks_of, MarkComes, MarksCome, MarkFits}
use Rattle.headline_laws.specs.Sights.{sight_in, sights_of, Seeing}
use Rattle.headline_laws.specs.Whole.{MadeAt}
use Rattle.headline_laws.proofs.ReceivedFirst.{mark_at, row_at, parts_append}
use Rattle.headline_laws.proofs.ActorsStay.{counts_grow, dead_stays}
use Rattle.headline_laws.proofs.MarkPairs.{new_fits}
use Rattle.headline_laws.proofs.Reopened.{marks_it, new_mark, marks_made}
use Rattle.headline_laws.proofs.ServerSays.{shown_passes, looks}
use Rattle.headline_laws.proofs.Sights.{accepted_before, looked, seeing_rest}
use Rattle.headline_laws.proofs.WholeMessages.{rows, InRow}
use Rattle.connection_laws.proofs.Spans.{some_parts}
use Rattle.payload_laws.proofs.WorldValues.{same_some}

-- ---- numbers

-- a message's bunches are among those made
pub made_low : (end : End) (past : Past) → IsRun end past → (ch : ℕ) (made : Numbered) → MadeAt past ch made → (made.0 + parts_of made.1 ≤ made_count past ch + 1) × (1 ≤ made.0)
made_low end past run ch made at =
    let row = rows end past run ch in
    let n : made.0 ≡ parts_in at.older + 1 = row_at at.newer made at.older (subst InRow at.split row.row) in
    let all : made_count past ch ≡ parts_in at.newer + (parts_of made.1 + parts_in at.older) = row.count ∙ ap parts_in at.split ∙ parts_append at.newer (made ∷ at.older) in
    (omega (arith, n, all), omega (arith, n))

-- the first mark is the last one made
last_first : (past : Past) (a : ℕ) (mark : Mark) (before : List Mark) → marks_of past a ≡ mark ∷ before → last_mark past a ≡ Some mark
last_first past a mark before e = ap (λ (ks : List Mark). slice_get ks 0) e

-- ---- a sleeping actor's last mark is a dormant close

-- an actor that sleeps was closed to sleep
pub asleep_sleeps : (past : Past) (mark : Mark) (m : Message) → is_asleep (state_after past mark m) ≡ true → is_sleeping m ≡ true
asleep_sleeps past mark (Closes b sleeps) e = by (have_arrived past mark.channel 1 mark.number) sleeps e
  where
    by : (t s : Bool) → is_asleep (closed_as t s) ≡ true → s ≡ true
    by true true e = refl
    by true false e = absurd (false≢true e)
    by false s e = absurd (false≢true e)
asleep_sleeps past mark (Opens exports b class values) e = by (have_arrived past mark.channel mark.number (parts_of mark.message)) e
  where
    by : (t : Bool) → is_asleep (cond t Opened Opening) ≡ true → false ≡ true
    by true e = e
    by false e = e
asleep_sleeps past mark (Updates b class values) e = absurd (false≢true e)
asleep_sleeps past mark (Calls b n call args) e = absurd (false≢true e)
asleep_sleeps past mark (Gone b) e = absurd (false≢true e)

-- ---- an actor that is gone is dead

-- the actor was spawned, and lives no more
pub record IsDead (edits : Edits) (a : ℕ) : Type 0 where
  pub number : ℕ
  pub is : a ≡ 2 * number
  pub high : number ≤ spawn_count edits
  pub dead : lives edits a ≡ false

-- a dead actor stays dead
dead_later : (more edits : Edits) (a : ℕ) → IsDead edits a → IsDead (more ++ edits) a
dead_later more edits a d = record {
  number = d.number;
  is = d.is;
  high = omega (arith, d.high, counts_grow more edits);
  dead = ap (lives (more ++ edits)) d.is ∙ dead_stays more edits d.number d.high (ap (lives edits) (sym d.is) ∙ d.dead);
}

module _ (entries : List Entry) (is : IsTable entries) (player : ℕ) where
  -- by the world of any sight
  abbrev GoneDead : Past → Type 0
  GoneDead past = (edits : Edits) → AreAccepted (table_of entries) edits → Seeing (table_of entries) player edits (sights_of past)
      → (a : ℕ) (mark : Mark) → last_mark past a ≡ Some mark → is_gone mark.message ≡ true → IsDead edits a

  gone_seen : (past : Past) (edits : Edits) → AreAccepted (table_of entries) edits → Seeing (table_of entries) player edits (sights_of past) → (a : ℕ) → is_shown (λ (seen : Seen). seen.destroyed) (seen_in (sight_of past) a) ≡ true → IsDead edits a
  gone_seen past edits ok see a h =
      let p = shown_passes (λ (seen : Seen). seen.destroyed) (sight_of past) a h in
      let s = looks entries is player edits ok past see p.found.i p.seen p.found.there in
      let l = s.look in
      let d : IsDead s.before a = record { number = l.number; is = sym p.found.actor ∙ l.is; high = l.high; dead = ap (lives s.before) (sym p.found.actor) ∙ l.dead p.passes } in
      subst (λ (x : Edits). IsDead x a) (sym s.is) (dead_later s.more s.before a d)

  gone_made : (end : End) (past : Past) (c : ℕ) (m : Message) → MayMake end past c m → GoneDead past → GoneDead (after_making past c m)
  gone_made end past c m may h edits ok see a mark e gone =
      by (marks_it a m) refl (sym (ap (λ (ks : List Mark). slice_get ks 0) (marks_made past a c m)) ∙ e)
    where
      before : Seeing (table_of entries) player edits (sights_of past)
      before = subst (Seeing (table_of entries) player edits) (made_ignored sight_in (λ c n m i. refl) past c m) see

      new : (w : Message) → MayMake end past c w → is_gone w ≡ true → actor_of w ≡ a → IsDead edits a
      new (Gone b) may g same = subst (IsDead edits) same (gone_seen past edits ok before b may.place.2)
      new (Opens exports b class values) may g same = absurd (false≢true g)
      new (Closes b sleeps) may g same = absurd (false≢true g)
      new (Updates b class values) may g same = absurd (false≢true g)
      new (Calls b n call args) may g same = absurd (false≢true g)

      by : (t : Bool) → marks_it a m ≡ t → slice_get (cond t (new_mark past c m ∷ marks_of past a) (marks_of past a)) 0 ≡ Some mark → IsDead edits a
      by true q e = new m may (ap (λ (x : Mark). is_gone x.message) (same_some (new_mark past c m) mark e) ∙ gone) (eqb-true (actor_of m) a (and_parts (actor_of m == a) (is_mark m) q).0)
      by false q e = h edits ok before a mark e gone

  pub gone_dead : (end : End) (past : Past) → IsRun end past → GoneDead past
  gone_dead end past run = always end GoneDead (λ edits ok see a mark e gone. absurd (never mark e)) step past run
    where
      never : (mark : Mark) → (let o : Option Mark = None in o) ≡ Some mark → ⊥
      never mark e = cc

      step : (past : Past) (move : Move) → IsRun end past → has_ended past ≡ false → May end past move → GoneDead past → GoneDead (after_move past move)
      step past (Ticks sight) run alive may h = λ edits ok see a mark e gone.
          subst (λ (x : Edits). IsDead x a) (sym see.3)
          (dead_later see.0 see.1 a (h see.1 (accepted_before (table_of entries) see.0 see.1 (subst (AreAccepted (table_of entries)) see.3 ok)) see.5 a mark e gone))
      step past (Makes c m) run alive may h = gone_made end past c m may h
      step past (Defers m) run alive may h = h
      step past (Sends items) run alive may h = h
      step past (Takes n) run alive may h = h
      step past (Hears entry) run alive may h = λ edits ok see a mark e gone.
          h edits ok (subst (Seeing (table_of entries) player edits) (told_ignored sight_in (λ n e es ds. refl) entry past) see) a mark
          (sym (ap (λ (ks : List Mark). slice_get ks 0) (told_ignored (mark_in a) (λ n e es ds. refl) entry past)) ∙ e) gone
      step past (Hands d) run alive may h = λ edits ok see a mark e gone.
          h edits ok (subst (Seeing (table_of entries) player edits) (handed_ignored sight_in (λ n es d ds. refl) d past) see) a mark
          (sym (ap (λ (ks : List Mark). slice_get ks 0) (handed_ignored (mark_in a) (λ n es d ds. refl) d past)) ∙ e) gone
      step past (Ends g) run alive may h = h

  -- an actor that is opened isn't gone
  open_lives : (end : End) (past : Past) (edits : Edits) (exports : List Segment) (a : ℕ) (class : Class) (values : List Pair) → IsRun end past → AreAccepted (table_of entries) edits → Seeing (table_of entries) player edits (sights_of past) → OpensSeen past (Opens exports a class values)
      → (mark : Mark) → last_mark past a ≡ Some mark → is_gone mark.message ≡ true → ⊥
  open_lives end past edits exports a class values run ok see o mark e gone = by (sights_of past) refl see
    where
      actor : a ≡ o.seen.actor
      actor = ap actor_of o.says

      by : (sights : List (List Seen)) → sights_of past ≡ sights → Seeing (table_of entries) player edits sights → ⊥
      by [] q see = never (sym (ap (λ (l : List (List Seen)). slice_get (unwrap_or (slice_get l 0) []) o.shown.0) q) ∙ o.shown.1)
        where
          never : (let x : Option Seen = None in x) ≡ Some o.seen → ⊥
          never e = cc
      by (s ∷ sights) q see =
          let there : slice_get s o.shown.0 ≡ Some o.seen = sym (ap (λ (l : List (List Seen)). slice_get (unwrap_or (slice_get l 0) []) o.shown.0) q) ∙ o.shown.1 in
          let acc : AreAccepted (table_of entries) see.1 = accepted_before (table_of entries) see.0 see.1 (subst (AreAccepted (table_of entries)) see.3 ok) in
          let l = looked entries is player [] see.1 see.2 acc o.shown.0 o.seen (ap (λ (x : List Seen). slice_get x o.shown.0) (sym see.4) ∙ there) in
          let again : Seeing (table_of entries) player see.1 (sights_of past) = subst (Seeing (table_of entries) player see.1) (sym q) ([], see.1, see.2, refl, see.4, see.5) in
          let d : IsDead see.1 a = gone_dead end past run see.1 acc again a mark e gone in
          false≢true (sym d.dead ∙ ap (lives see.1) actor ∙ l.living o.relevant)

  module _ (edits : Edits) (ok : AreAccepted (table_of entries) edits) where
    abbrev Sees : Past → Type 0
    Sees past = Seeing (table_of entries) player edits (sights_of past)

    abbrev AllCome : Past → Type 0
    AllCome past = Sees past → (a : ℕ) → MarksCome a (marks_of past a)

    -- a mark that isn't an open or a Gone is a close
    closing_else : (mark : Mark) (m : Message) (before : List Mark) → MarkComes mark m before → is_opening m ≡ false → (is_gone m ≡ true → ⊥) → is_closing m ≡ true
    closing_else mark (Opens exports b class values) before h o g = absurd (false≢true (sym o))
    closing_else mark (Closes b sleeps) before h o g = refl
    closing_else mark (Gone b) before h o g = absurd (g refl)
    closing_else mark (Updates b class values) [] h o g = absurd h
    closing_else mark (Updates b class values) (x ∷ before) h o g = absurd h
    closing_else mark (Calls b n call args) [] h o g = absurd h
    closing_else mark (Calls b n call args) (x ∷ before) h o g = absurd h

    -- the last mark, where there is one
    asleep_marked : (past : Past) (a : ℕ) → is_asleep (state_of past a) ≡ true → (ks : List Mark) → marks_of past a ≡ ks → MarkComes (record { channel = 0; number = 0; message = Gone a }) (Gone a) ks
    asleep_marked past a h [] e = absurd (false≢true (sym (ap (λ (o : Option Mark). is_asleep (state_at past o)) (ap (λ (ks : List Mark). slice_get ks 0) e)) ∙ h))
    asleep_marked past a h (mark ∷ before) e = asleep_sleeps past mark mark.message (sym (ap (λ (o : Option Mark). is_asleep (state_at past o)) (last_first past a mark before e)) ∙ h)

    new_comes : (end : End) (past : Past) (a c : ℕ) (w : Message) → IsRun end past → MayMake end past c w → Sees past → MarksCome a (marks_of past a) → is_mark w ≡ true → actor_of w ≡ a
        → (ks : List Mark) → marks_of past a ≡ ks → MarkComes (new_mark past c w) w ks
    new_comes end past a c (Opens exports b class values) run may see h it same [] e = tt
    new_comes end past a c (Opens exports b class values) run may see h it same (mark ∷ before) e =
        closing_else mark mark.message before (subst (MarksCome a) e h).0 (fits.1 refl)
        (λ g. open_lives end past edits exports b class values run ok see may.place.4 mark (ap (last_mark past) same ∙ last_first past a mark before e) g)
      where
        fits : (is_closing (Opens exports b class values) ≡ true → (is_opening mark.message ≡ true) × (mark.channel ≡ c)) × (is_opening (Opens exports b class values) ≡ true → is_opening mark.message ≡ false)
        fits = subst (MarkFits (new_mark past c (Opens exports b class values))) e
            (new_fits end past a c (Opens exports b class values) may (ap (λ (x : ℕ). (x == a) && true) same ∙ and_from (a == a) true (eq-eqb a a refl) refl))
    new_comes end past a c (Closes b sleeps) run may see h it same [] e =
        let o : OpenMark past b c = held_open past b c may.place.0 may.place.1 in
        absurd (never o.mark (sym (ap (λ (ks : List Mark). slice_get ks 0) e) ∙ ap (last_mark past) (sym same) ∙ o.last))
      where
        never : (mark : Mark) → (let o : Option Mark = None in o) ≡ Some mark → ⊥
        never mark q = cc
    new_comes end past a c (Closes b sleeps) run may see h it same (mark ∷ before) e =
        let o : OpenMark past b c = held_open past b c may.place.0 may.place.1 in
        let last : last_mark past a ≡ Some mark = last_first past a mark before e in
        let one : o.mark ≡ mark = same_some o.mark mark (sym o.last ∙ ap (last_mark past) same ∙ last) in
        let on : mark.channel ≡ c = ap (λ (x : Mark). x.channel) (sym one) ∙ o.on in
        let low = made_low end past run mark.channel (mark.number, mark.message) (mark_at a past mark last) in
        (ap (λ (x : Mark). is_opening x.message) (sym one) ∙ o.opens, on, omega (arith, low.0, ap (made_count past) on, some_parts mark.message))
    new_comes end past a c (Gone b) run may see h it same [] e = asleep_marked past a (ap (λ (x : ℕ). is_asleep (state_of past x)) (sym same) ∙ may.place.1) [] e
    new_comes end past a c (Gone b) run may see h it same (mark ∷ before) e = asleep_marked past a (ap (λ (x : ℕ). is_asleep (state_of past x)) (sym same) ∙ may.place.1) (mark ∷ before) e
    new_comes end past a c (Updates b class values) run may see h it same ks e = absurd (false≢true it)
    new_comes end past a c (Calls b n call args) run may see h it same ks e = absurd (false≢true it)

    come_made : (end : End) (past : Past) (c : ℕ) (m : Message) → IsRun end past → MayMake end past c m → AllCome past → AllCome (after_making past c m)
    come_made end past c m run may h see a = subst (MarksCome a) (sym (marks_made past a c m)) (by (marks_it a m) refl)
      where
        before : Sees past
        before = subst (Seeing (table_of entries) player edits) (made_ignored sight_in (λ c n m i. refl) past c m) see

        by : (t : Bool) → marks_it a m ≡ t → MarksCome a (cond t (new_mark past c m ∷ marks_of past a) (marks_of past a))
        by true q =
            let p = and_parts (actor_of m == a) (is_mark m) q in
            let same : actor_of m ≡ a = eqb-true (actor_of m) a p.0 in
            (new_comes end past a c m run may before (h before a) p.1 same (marks_of past a) refl, same, h before a)
        by false q = h before a

    pub marks_come : (end : End) (past : Past) → IsRun end past → Sees past → (a : ℕ) → MarksCome a (marks_of past a)
    marks_come end past run = always end AllCome (λ see a. tt) step past run
      where
        step : (past : Past) (move : Move) → IsRun end past → has_ended past ≡ false → May end past move → AllCome past → AllCome (after_move past move)
        step past (Ticks sight) run alive may h = λ see a. h (seeing_rest (table_of entries) player edits sight (sights_of past) see) a
        step past (Makes c m) run alive may h = come_made end past c m run may h
        step past (Defers m) run alive may h = h
        step past (Sends items) run alive may h = h
        step past (Takes n) run alive may h = h
        step past (Hears entry) run alive may h = λ see a.
            subst (MarksCome a) (sym (told_ignored (mark_in a) (λ n e es ds. refl) entry past))
            (h (subst (Seeing (table_of entries) player edits) (told_ignored sight_in (λ n e es ds. refl) entry past) see) a)
        step past (Hands d) run alive may h = λ see a.
            subst (MarksCome a) (sym (handed_ignored (mark_in a) (λ n es d ds. refl) d past))
            (h (subst (Seeing (table_of entries) player edits) (handed_ignored sight_in (λ n es d ds. refl) d past) see) a)
        step past (Ends g) run alive may h = h
