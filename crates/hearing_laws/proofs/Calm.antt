-- A server's bunches neither open nor close.
use Rattle.std.proofs.Common.{◌≡◌, ℕ, ◌==◌, List, [], ◌∷◌, Bool, true, false, cond, ◌&&◌, ◌||◌, Option, Some, None, Result, Ok, Err, refl, sym, ap, ◌∙◌, subst, inl, inr}
use Rattle.std.specs.Prelude.{unsigned_abs, if◌then◌else◌}
use Rattle.std.specs.List.{AllByRecursion}
use Rattle.std.proofs.lemmas.Bool.{cases_Bool, cond_both, false≢true}
use Rattle.protocol_model.specs.Packet.{Bunch, Packet}
use Rattle.protocol_model.specs.PacketReading.{packet_of}
use Rattle.protocol_model.specs.Side.{Side, AtServer}
use Rattle.protocol_model.specs.declared.Cause.{Cause}
use Rattle.protocol_model.specs.declared.Cause.TheVariants.{BadChannel}
use Rattle.protocol_model.specs.declared.PartWhy.{PartWhy}
use Rattle.protocol_model.specs.declared.Why.{Why}
use Rattle.connection_model.specs.Feed.{End, Event, Tick, Got, Call, Past, Took, Ended, ByCause, Entry, Told, Acked, Heard, Delivered, has_ended}
use Rattle.connection_model.specs.Fates.{number_near, is_new}
use Rattle.connection_model.specs.Past.{past_of}
use Rattle.connection_model.specs.Windows.{Received, received_on, received_by, Offer, Repeat, Ready, Held, offer_of, number_as, with_offer, with_bunch, ready_bunches, applied_of, kept_of, part_fault, first_of, ends_payload}
use Rattle.connection_model.specs.Verdict.{is_misplaced, bunch_heard, with_told, with_handed, entry_result, after_entries, entries_in, after_reading, after_got}
use Rattle.receiving_laws.specs.Holders.{is_copied_on}
use Rattle.receiving_laws.specs.Receiving.{Raws, raws_of, raws_heard, reliable_raws, copied_after}
use Rattle.channel_laws.specs.Moves.{IsMove, SameNews}
use Rattle.channel_laws.proofs.Hearing.{heard_fates}
use Rattle.connection_laws.proofs.Applied.{kept_is, kept_on, run_on, first_on}
use Rattle.connection_laws.proofs.Hearing.{entry_runs}
use Rattle.connection_laws.proofs.Moves.{told_keeps, handed_keeps}
use Rattle.hearing_laws.specs.Courses.{Taking, during, heard_then}
use Rattle.hearing_laws.specs.Plain.{IsPlain, IsCalm, BeginPlain}
use Rattle.hearing_laws.proofs.Telling.{tick_same, call_same}

-- all of these are plain
abbrev ArePlain : List Received → Type 0
ArePlain got = AllByRecursion (λ (r : Received). IsPlain r.1) got

-- ---- one bunch

last_false : (x o c : Bool) → (x || (true && (o || c))) ≡ false → (o ≡ false) × (c ≡ false)
last_false true o c e = absurd (false≢true (sym e))
last_false false true c e = absurd (false≢true (sym e))
last_false false false true e = absurd (false≢true (sym e))
last_false false false false e = (refl, refl)

-- a bunch that has its place at the server is plain
placed_plain : (b : Bunch) → is_misplaced AtServer b ≡ false → IsPlain b
placed_plain b e = let both = last_false _ b.opens b.closes e in record { opens = both.0; closes = both.1 }

-- a bunch that breaks no rule has its place
none_placed : (end : End) (past : Past) (b : Bunch) → (bunch_heard end past b).cause ≡ None
    → is_misplaced end.side b ≡ false
none_placed end past b e = elim (cases_Bool (is_misplaced end.side b)) [
  | inl t ↦ absurd (let no : (let o : Option Cause = Some (BadChannel b.channel) in o) ≡ None =
      rw (bunch_heard, t) at e in cc)
  | inr f ↦ f
]

none_plain : (end : End) (past : Past) (b : Bunch) → end.side ≡ AtServer → (bunch_heard end past b).cause ≡ None
    → IsPlain b
none_plain end past b side e =
    placed_plain b (ap (λ (s : Side). is_misplaced s b) (sym side) ∙ none_placed end past b e)

-- ---- what was received

offered_plain : (got : List Received) (b : Bunch) (o : Offer) → IsPlain b → ArePlain got
    → ArePlain (with_offer got b o)
offered_plain got b Repeat p h = h
offered_plain got b Ready p h = (p, h)
offered_plain got b (Held n) p h = (p, h)

told_plain : (got : List Received) (ch : ℕ) (b : Bunch) → IsPlain b → ArePlain got
    → ArePlain (if b.reliable && b.channel == ch then with_bunch got b else got)
told_plain got ch b p h =
    cond_both (b.reliable && b.channel == ch) (with_bunch got b) got ArePlain
    (λ e. offered_plain got b (offer_of got (number_as got b)) p h) (λ e. h)

pub heard_calm : (k : Taking) (entries : List Entry) (handed later : List Delivered) (b : Bunch)
    → k.end.side ≡ AtServer → IsCalm (during k entries handed) → (heard_then k entries handed b).cause ≡ None
    → IsCalm (during k (Heard b ∷ entries) later)
heard_calm k entries handed later b side h e ch =
    told_plain (received_on (during k entries handed) ch) ch b
    (none_plain k.end (during k entries handed) b side e) (h ch)

same_calm : (one other : Past) → ((ch : ℕ) → received_on other ch ≡ received_on one ch) → IsCalm one → IsCalm other
same_calm one other e h ch = subst ArePlain (sym (e ch)) (h ch)

pub move_calm : (from to : ℕ) (past after : Past) → IsMove from to past after → IsCalm past → IsCalm after
move_calm from to past after m h = same_calm past after (heard_fates past after m.rest).received h

pub news_calm : (one other : Past) → SameNews one other → IsCalm one → IsCalm other
news_calm one other n h = same_calm one other (heard_fates one other n.rest).received h

-- ---- whole payloads

joined_plain : (r : Bool) (kept : List Bunch) → AllByRecursion IsPlain kept → AllByRecursion IsPlain (cond r kept [])
joined_plain true kept h = h
joined_plain false kept h = tt

raws_plain : (copied : Bool) (kept bunches : List Bunch) → AllByRecursion IsPlain kept → AllByRecursion IsPlain bunches
    → BeginPlain (raws_of AtServer copied kept bunches).whole
raws_plain copied kept [] k ps = tt
raws_plain copied kept (b ∷ more) k ps =
    by (part_fault kept b b.part) refl
    (raws_plain (copied_after copied (first_of (cond b.reliable kept []) b)) [] more tt ps.1)
    (raws_plain copied (b ∷ kept) more (ps.0, k) ps.1)
  where
    by : (o : Option PartWhy) → part_fault kept b b.part ≡ o
        → BeginPlain (raws_of AtServer (copied_after copied (first_of (cond b.reliable kept []) b)) [] more).whole
        → BeginPlain (raws_of AtServer copied (b ∷ kept) more).whole
        → BeginPlain (raws_of AtServer copied kept (b ∷ more)).whole
    by (Some why) e whole part = rw (raws_of, e) tt
    by None e whole part = by_end (ends_payload b) refl
      where
        by_end : (last : Bool) → ends_payload b ≡ last → BeginPlain (raws_of AtServer copied kept (b ∷ more)).whole
        by_end true f = rw (raws_of, e, f)
            (first_on IsPlain (cond b.reliable kept []) b (joined_plain b.reliable kept k) ps.0, whole)
        by_end false f = rw (raws_of, e, f) part

kept_plain : (got : List Received) → ArePlain got → AllByRecursion IsPlain (kept_of (applied_of got))
kept_plain got h =
    subst (AllByRecursion IsPlain) (sym (kept_is (applied_of got)))
    (kept_on IsPlain (applied_of got) [] tt (run_on IsPlain got 1 _ h))

offers_plain : (past : Past) (b : Bunch) (o : Offer) → IsCalm past → IsPlain b
    → BeginPlain (reliable_raws AtServer past b (received_on past b.channel) o).whole
offers_plain past b Repeat h p = tt
offers_plain past b (Held n) h p = tt
offers_plain past b Ready h p =
    let got : List Received = received_on past b.channel in
    raws_plain (is_copied_on past b.channel) (kept_of (applied_of got)) (ready_bunches got b)
    (kept_plain got (h b.channel))
    (run_on IsPlain (with_bunch got b) _ _ (offered_plain got b (offer_of got (number_as got b)) p (h b.channel)))

pub payloads_plain : (past : Past) (b : Bunch) → IsCalm past → BeginPlain (raws_heard AtServer past b).whole
payloads_plain past b h =
    let got : List Received = received_on past b.channel in
    let P : Raws → Type 0 = λ raws. BeginPlain raws.whole in
    cond_both (is_misplaced AtServer b) _ _ P (λ e. tt)
    (λ e. cond_both b.reliable _ _ P
    (λ r. offers_plain past b (offer_of got (number_as got b)) h (placed_plain b e))
    (λ r. raws_plain (is_copied_on past b.channel) (kept_of (applied_of got)) (b ∷ []) (kept_plain got (h b.channel))
    (placed_plain b e, tt)))

-- ---- feeds

handed_calm : (d : Delivered) (past : Past) → IsCalm past → IsCalm (with_handed d past)
handed_calm d past h = handed_keeps IsCalm d past h (λ n es ds before q. q)

entry_calm : (end : End) (past : Past) (entry : Entry) → end.side ≡ AtServer → IsCalm past
    → (entry_result end past entry).cause ≡ None → IsCalm (with_told entry (entry_result end past entry).past)
entry_calm end past (Told head) side h e = told_keeps IsCalm (Told head) past h (λ n es ds before q. q)
entry_calm end past (Acked n) side h e = told_keeps IsCalm (Acked n) past h (λ n es ds before q. q)
entry_calm end past (Heard b) side h e =
    let plain = none_plain end past b side e in
    let later : Past = (bunch_heard end past b).past in
    told_keeps IsCalm (Heard b) later (entry_runs end IsCalm handed_calm past (Heard b) h)
    (λ n es ds before q ch. told_plain (received_on (Took n es ds ∷ before) ch) ch b plain (q ch))

entries_calm : (end : End) (past : Past) (entries : List Entry) → end.side ≡ AtServer → IsCalm past
    → IsCalm (after_entries end past entries)
entries_calm end past [] side h = h
entries_calm end past (entry ∷ more) side h =
    by (entry_result end past entry).cause refl
    (λ calm. entries_calm end (with_told entry (entry_result end past entry).past) more side calm)
  where
    by : (c : Option Cause) → (entry_result end past entry).cause ≡ c
        → (IsCalm (with_told entry (entry_result end past entry).past)
        → IsCalm (after_entries end (with_told entry (entry_result end past entry).past) more))
        → IsCalm (let later : Past = elim c [
          | None ↦ after_entries end
              (with_told entry (entry_result end past entry).past) more
          | Some cause ↦
              Ended (ByCause cause) ∷ (entry_result end past entry).past
        ] in later)
    by None e next = next (entry_calm end past entry side h e)
    by (Some cause) e next = entry_runs end IsCalm handed_calm past entry h

reading_calm : (end : End) (past : Past) (r : Result Packet (ℕ × Why)) → end.side ≡ AtServer → IsCalm past
    → IsCalm (after_reading end past r)
reading_calm end past (Err bad) side h = h
reading_calm end past (Ok p) side h = cond_both (is_new past p.number) _ past IsCalm
    (λ e. entries_calm end (Took (unsigned_abs (number_near past p.number)) [] [] ∷ past) (entries_in end.version p)
    side h)
    (λ e. h)

got_calm : (end : End) (past : Past) (bytes : List ℕ) → end.side ≡ AtServer → IsCalm past
    → IsCalm (after_got end past bytes)
got_calm end past bytes side h = cond_both (has_ended past) past _ IsCalm (λ e. h)
    (λ e. reading_calm end past (packet_of end.version bytes) side h)

pub feed_calm : (end : End) (feed : List Event) → end.side ≡ AtServer → IsCalm (past_of end feed)
feed_calm end [] side = λ ch. tt
feed_calm end (Tick sight ∷ feed) side =
    same_calm (past_of end feed) (past_of end (Tick sight ∷ feed))
    (λ ch. ap (λ (es : List Entry). received_by es ch) (tick_same end (past_of end feed) sight))
    (feed_calm end feed side)
feed_calm end (Got bytes ∷ feed) side = got_calm end (past_of end feed) bytes side (feed_calm end feed side)
feed_calm end (Call a n args ∷ feed) side =
    same_calm (past_of end feed) (past_of end (Call a n args ∷ feed))
    (λ ch. ap (λ (es : List Entry). received_by es ch) (call_same end.side (past_of end feed) a n args))
    (feed_calm end feed side)
