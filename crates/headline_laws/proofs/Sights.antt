-- What the sights of a past show, of the world that a player's server has.
use Rattle.std.proofs.Common.{◌≡◌, ℕ, ◌*◌, ◌≤◌, List, [], ◌∷◌, ◌++◌, Bool, true, false, cond, not, ◌&&◌, refl, sym, ap, ◌∙◌, subst, arith, Option, Some, None, Result, Ok, Err, slice_get, unwrap_or, append_assoc}
use Rattle.std.specs.Prelude.{unsigned_abs}
use Rattle.std.proofs.lemmas.Bool.{false≢true, cond_both, and_parts}
use Rattle.protocol_model.specs.Packet.{Packet}
use Rattle.protocol_model.specs.PacketReading as Reading
use Rattle.protocol_model.specs.Search.{is_among}
use Rattle.protocol_model.specs.Sight.{Seen, seen_of, destroyed_of, entry_of, is_relevant, reaches, sight}
use Rattle.protocol_model.specs.Value.{Table, Arg}
use Rattle.protocol_model.specs.World.{Edits, spawn_count, actors_of, class_of, lives}
use Rattle.protocol_model.specs.declared.Cause.{Cause}
use Rattle.protocol_model.specs.declared.Why.{Why}
use Rattle.table_model.specs.Facts.{IsTable}
use Rattle.table_model.specs.Rules.{Entry}
use Rattle.table_model.specs.Grammar.{table_of}
use Rattle.connection_model.specs.Feed.{End, Past, Event, Tick, Got, Call, Took, Ended, ByCause, has_ended, sight_of}
use Rattle.connection_model.specs.Feed as Feed
use Rattle.connection_model.specs.Fates.{is_new, number_near}
use Rattle.connection_model.specs.Past.{past_of}
use Rattle.connection_model.specs.Verdict.{with_told, entry_result, after_entries, entries_in, after_packet, after_reading, after_got}
use Rattle.connection_laws.specs.Run.{Move, Ticks, Makes, Defers, Sends, Takes, Hears, Hands, Ends, after_move, May, IsRun}
use Rattle.connection_laws.specs.Run.IsRun.{does}
use Rattle.connection_laws.proofs.Moves.{made_ignored, told_ignored, handed_ignored}
use Rattle.connection_laws.proofs.LiveRuns.{IsQuiet, Goes, IsDone}
use Rattle.connection_laws.proofs.Calling.{call_runs}
use Rattle.connection_laws.proofs.Hearing.{entry_runs}
use Rattle.connection_laws.proofs.Ticking.{tick_runs}
use Rattle.connection_laws.proofs.Feeds.{feed_done}
use Rattle.payload_laws.specs.Accepted.{AreAccepted, StandsIn}
use Rattle.payload_laws.specs.Limits.{AreValues}
use Rattle.payload_laws.proofs.WorldValues.{same_some}
use Rattle.payload_laws.proofs.SightSpelling.{spawns_few, sight_spells, from, numbered}
use Rattle.headline_laws.specs.Sights.{sight_in, sights_of, Seeing}
use Rattle.headline_laws.specs.Tells.{IsKnownActor}
use Rattle.headline_laws.proofs.ActorsStay.{class_stays}
use Rattle.connection_model.specs.Pack.{after_tick}
use Rattle.connection_model.specs.CallAnswers.{after_call}

-- the sights of a feed's ticks, the newest first
abbrev pub shown_by : List Event → List (List Seen)
shown_by [] = []
shown_by (Tick s ∷ feed) = s ∷ shown_by feed
shown_by (Got bytes ∷ feed) = shown_by feed
shown_by (Call actor number args ∷ feed) = shown_by feed

-- nothing was ever seen
abbrev pub SeesNothing : List (List Seen) → Type 0
SeesNothing [] = Unit {0}
SeesNothing (s ∷ sights) = (s ≡ []) × SeesNothing sights

-- ---- the sights of a past are those of its feed

-- what goes on with each tick of a feed holds of the sights of its past
module _ (end : End) (P : List (List Seen) → Type 0) where
  abbrev R : Past → Type 0
  R past = IsRun end past × P (sights_of past)

  quiet_goes : (past : Past) (move : Move) → IsQuiet move → R past → has_ended past ≡ false → May end past move → R (after_move past move)
  quiet_goes past (Ticks s) quiet h alive may = absurd quiet
  quiet_goes past (Makes ch m) quiet h alive may = (does (Makes ch m) h.0 alive may, subst P (sym (made_ignored sight_in (λ c n m i. refl) past ch m)) h.1)
  quiet_goes past (Defers m) quiet h alive may = (does (Defers m) h.0 alive may, h.1)
  quiet_goes past (Sends items) quiet h alive may = (does (Sends items) h.0 alive may, h.1)
  quiet_goes past (Takes n) quiet h alive may = absurd quiet
  quiet_goes past (Hears entry) quiet h alive may = absurd quiet
  quiet_goes past (Hands d) quiet h alive may = absurd quiet
  quiet_goes past (Ends g) quiet h alive may = (does (Ends g) h.0 alive may, h.1)

  goes_on : Goes end R
  goes_on = record { is_run = λ past h. h.0; goes = quiet_goes }

  pub tick_sights : (past : Past) (s : List Seen) → IsDone (IsRun end) past → P (sights_of past) → (P (sights_of past) → P (s ∷ sights_of past)) → P (sights_of (after_tick end past s))
  tick_sights past s done h next =
      (tick_runs end R goes_on past s (λ q alive. (does (Ticks s) q.0 alive tt, next q.1)) (record { run = (done.run, h); few = done.few })).run.1

  pub call_sights : (past : Past) (a n : ℕ) (args : List Arg) → IsDone (IsRun end) past → P (sights_of past) → P (sights_of (after_call end.side past a n args))
  call_sights past a n args done h = (call_runs end R goes_on past (record { run = (done.run, h); few = done.few }) a n args).run.1

  entries_sights : (entries : List Feed.Entry) (past : Past) → P (sights_of past) → P (sights_of (after_entries end past entries))
  entries_sights [] past h = h
  entries_sights (entry ∷ more) past h =
      by (entry_result end past entry).cause
      (entry_runs end (λ (p : Past). P (sights_of p)) (λ d p q. subst P (sym (handed_ignored sight_in (λ n es d ds. refl) d p)) q) past entry h)
      (λ q. entries_sights more (with_told entry (entry_result end past entry).past) q)
    where
      by : (c : Option Cause) → P (sights_of (entry_result end past entry).past)
          → (P (sights_of (with_told entry (entry_result end past entry).past)) → P (sights_of (after_entries end (with_told entry (entry_result end past entry).past) more)))
          → P (sights_of (let later : Past = elim c [ None ↦ after_entries end (with_told entry (entry_result end past entry).past) more | Some cause ↦ Ended (ByCause cause) ∷ (entry_result end past entry).past ] in later))
      by None q next = next (subst P (sym (told_ignored sight_in (λ n e es ds. refl) entry (entry_result end past entry).past)) q)
      by (Some cause) q next = q

  reading_sights : (past : Past) (r : Result Packet (ℕ × Why)) → P (sights_of past) → P (sights_of (after_reading end past r))
  reading_sights past (Err bad) h = h
  reading_sights past (Ok p) h =
      cond_both (is_new past p.number) (after_packet end past p) past (λ (later : Past). P (sights_of later))
      (λ e. entries_sights (entries_in end.version p) (Took (unsigned_abs (number_near past p.number)) [] [] ∷ past) h) (λ e. h)

  pub got_sights : (past : Past) (bytes : List ℕ) → P (sights_of past) → P (sights_of (after_got end past bytes))
  got_sights past bytes h =
      cond_both (has_ended past) past (after_reading end past (Reading.packet_of end.version bytes)) (λ (later : Past). P (sights_of later)) (λ e. h)
      (λ e. reading_sights past (Reading.packet_of end.version bytes) h)

-- with more edits the sights are still of that world
pub seeing_later : (table : Table) (player : ℕ) (more edits : Edits) (sights : List (List Seen)) → Seeing table player edits sights → Seeing table player (more ++ edits) sights
seeing_later table player more edits [] h = tt
seeing_later table player more edits (s ∷ sights) h = (more ++ h.0, h.1, h.2, ap (λ (l : Edits). more ++ l) h.3 ∙ sym (append_assoc more h.0 h.1), h.4, h.5)

-- the sights before the newest
pub seeing_rest : (table : Table) (player : ℕ) (edits : Edits) (s : List Seen) (sights : List (List Seen)) → Seeing table player edits (s ∷ sights) → Seeing table player edits sights
seeing_rest table player edits s sights h = subst (λ (l : Edits). Seeing table player l sights) (sym h.3) (seeing_later table player h.0 h.1 sights h.5)

-- the past of a feed that saw such sights
pub feed_sees : (end : End) (table : Table) (player : ℕ) (edits : Edits) (feed : List Event) → Seeing table player edits (shown_by feed) → Seeing table player edits (sights_of (past_of end feed))
feed_sees end table player edits [] h = tt
feed_sees end table player edits (Tick s ∷ feed) h =
    tick_sights end (Seeing table player edits) (past_of end feed) s (feed_done end feed) (feed_sees end table player edits feed (seeing_rest table player edits s (shown_by feed) h))
    (λ q. (h.0, h.1, h.2, h.3, h.4, feed_sees end table player h.1 feed h.5))
feed_sees end table player edits (Got bytes ∷ feed) h = got_sights end (Seeing table player edits) (past_of end feed) bytes (feed_sees end table player edits feed h)
feed_sees end table player edits (Call a n args ∷ feed) h = call_sights end (Seeing table player edits) (past_of end feed) a n args (feed_done end feed) (feed_sees end table player edits feed h)

-- and of one that saw nothing
pub feed_blind : (end : End) (feed : List Event) → SeesNothing (shown_by feed) → SeesNothing (sights_of (past_of end feed))
feed_blind end [] h = tt
feed_blind end (Tick s ∷ feed) h = tick_sights end SeesNothing (past_of end feed) s (feed_done end feed) (feed_blind end feed h.1) (λ q. (h.0, q))
feed_blind end (Got bytes ∷ feed) h = got_sights end SeesNothing (past_of end feed) bytes (feed_blind end feed h)
feed_blind end (Call a n args ∷ feed) h = call_sights end SeesNothing (past_of end feed) a n args (feed_done end feed) (feed_blind end feed h)

-- ---- what a sight shows

-- edits were accepted before more came
pub accepted_before : (table : Table) (more edits : Edits) → AreAccepted table (more ++ edits) → AreAccepted table edits
accepted_before table [] edits h = h
accepted_before table (edit ∷ more) edits h = accepted_before table more edits h.2

-- the actor, by the world when it was seen and by the one at last
pub record Looked (entries : List Entry) (edits before : Edits) (seen : Seen) : Type 0 where
  pub number : ℕ
  pub is : seen.actor ≡ 2 * number
  pub low : 1 ≤ number
  pub high : number ≤ spawn_count before
  pub known : IsKnownActor entries (class_of (table_of entries) edits) seen.actor
  pub same : seen.class ≡ class_of (table_of entries) edits seen.actor
  pub all_fit : AreValues seen.class 0 seen.values
  pub living : seen.relevant ≡ true → lives before seen.actor ≡ true
  pub dead : seen.destroyed ≡ true → lives before seen.actor ≡ false

-- a sight's entry is of a spawned actor, as the world has it
record Entered (table : Table) (edits : Edits) (a : ℕ) (seen : Seen) : Type 0 where
  actor : seen.actor ≡ a
  class : seen.class ≡ class_of table edits a
  living : seen.relevant ≡ true → lives edits a ≡ true
  dead : seen.destroyed ≡ true → lives edits a ≡ false

-- each entry of a sight is so
entered : (table : Table) (edits : Edits) (player : ℕ) (earlier : List ℕ) (a : ℕ) (seen : Seen) → entry_of table edits player earlier a ≡ Some seen → Entered table edits a seen
entered table edits player earlier a seen e = by (is_relevant table edits player a) (not (lives edits a) && is_among a earlier) refl refl e
  where
    by : (r d : Bool) → is_relevant table edits player a ≡ r → (not (lives edits a) && is_among a earlier) ≡ d
        → cond r (Some (seen_of table edits player a)) (cond d (Some (destroyed_of table edits a)) None) ≡ Some seen → Entered table edits a seen
    by true d p q h =
        let lived : lives edits a ≡ true = (and_parts (lives edits a) (reaches (class_of table edits a).reach table edits player a) p).0 in
        subst (Entered table edits a) (same_some (seen_of table edits player a) seen h)
        (record { actor = refl; class = refl; living = λ t. lived; dead = λ t. absurd (false≢true t) })
    by false true p q h =
        let gone : not (lives edits a) ≡ true = (and_parts (not (lives edits a)) (is_among a earlier) q).0 in
        subst (Entered table edits a) (same_some (destroyed_of table edits a) seen h)
        (record { actor = refl; class = refl; living = λ t. absurd (false≢true t); dead = λ t. not_lives (lives edits a) gone })
      where
        not_lives : (b : Bool) → not b ≡ true → b ≡ false
        not_lives true g = absurd (false≢true g)
        not_lives false g = refl
    by false false p q h = absurd (let no : (let o : Option Seen = None in o) ≡ Some seen = h in cc)

-- what a sight shows is an actor of the world, as it is
pub looked : (entries : List Entry) → IsTable entries → (player : ℕ) (more before : Edits) (earlier : List ℕ) → AreAccepted (table_of entries) (more ++ before) → (i : ℕ) (seen : Seen) → slice_get (sight (table_of entries) before player earlier) i ≡ Some seen
    → Looked entries (more ++ before) before seen
looked entries is player more before earlier ok i seen h =
    let table : Table = table_of entries in
    let accepted : AreAccepted table before = accepted_before table more before ok in
    let r = from (entry_of table before player earlier) (actors_of before) i seen h in
    let k = numbered r.item 1 (spawn_count before) r.place r.there in
    let most = k.most in
    let few = spawns_few table before accepted in
    let e : Entered table before r.item seen = entered table before player earlier r.item seen r.gives in
    let c = sight_spells entries before player earlier i seen is accepted h in
    let actor : seen.actor ≡ 2 * k.number = e.actor ∙ k.is in
    let high : k.number ≤ spawn_count before = omega (arith, most) in
    let class : seen.class ≡ class_of table (more ++ before) seen.actor =
    e.class ∙ ap (class_of table before) k.is ∙ sym (class_stays table more before k.number high) ∙ ap (class_of table (more ++ before)) (sym actor) in
    record {
      number = k.number;
      is = actor;
      low = k.least;
      high = high;
      known = record { spawned = (k.number, actor, k.least, omega (arith, most, few)); stands = subst (StandsIn entries) class c.stands };
      same = class;
      all_fit = c.all_fit;
      living = λ t. ap (lives before) e.actor ∙ e.living t;
      dead = λ t. ap (lives before) e.actor ∙ e.dead t;
    }

-- what the last sight of a past shows
pub record Shown (entries : List Entry) (edits : Edits) (seen : Seen) : Type 0 where
  pub more : Edits
  pub before : Edits
  pub is : edits ≡ more ++ before
  pub look : Looked entries edits before seen

-- each actor that a sight showed is one of the last world
pub shown_by_last : (entries : List Entry) → IsTable entries → (player : ℕ) (edits : Edits) → AreAccepted (table_of entries) edits → (sights : List (List Seen)) → Seeing (table_of entries) player edits sights → (i : ℕ) (seen : Seen)
    → slice_get (unwrap_or (slice_get sights 0) []) i ≡ Some seen → Shown entries edits seen
shown_by_last entries is player edits ok [] h i seen e = absurd (let no : (let o : Option Seen = None in o) ≡ Some seen = e in cc)
shown_by_last entries is player edits ok (s ∷ sights) h i seen e =
    let l = looked entries is player h.0 h.1 h.2 (subst (AreAccepted (table_of entries)) h.3 ok) i seen (ap (λ (l : List Seen). slice_get l i) (sym h.4) ∙ e) in
    record { more = h.0; before = h.1; is = h.3; look = subst (λ (l : Edits). Looked entries l h.1 seen) (sym h.3) l }
