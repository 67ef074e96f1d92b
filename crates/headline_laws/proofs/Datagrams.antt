-- What a datagram adds is on channels that can be spelled.
use Rattle.std.proofs.Common.{◌≡◌, inl, inr, ℕ, zero, suc, ◌+◌, ◌-◌, ◌*◌, ◌<◌, ◌==◌, List, [], ◌∷◌, map, Bool, true, false, cond, ◌&&◌, nat_lt, length, reverse, refl, ap, ◌∙◌, subst, Option, Some, None, Result, Ok, Err}
use Rattle.std.specs.Prelude.{unsigned_abs, slice_index_or}
use Rattle.std.specs.List.{filter_map, cons_option, slice_get, list_all, AllByRecursion}
use Rattle.std.specs.Bool.{then_some}
use Rattle.std.proofs.lemmas.Bool.{cases_Bool, cond_both, and_parts}
use Rattle.protocol_model.specs.Reading.{Fault, place_of}
use Rattle.protocol_model.specs.declared.Version.{Version}
use Rattle.protocol_model.specs.declared.Version.TheVariants.{One, Two}
use Rattle.protocol_model.specs.declared.Cause.{Cause}
use Rattle.protocol_model.specs.declared.Cause.TheVariants.{BadChannel}
use Rattle.protocol_model.specs.declared.PartWhy.{PartWhy}
use Rattle.protocol_model.specs.declared.Why.{Why}
use Rattle.protocol_model.specs.declared.Why.TheVariants.{Empty, TooLong, NoEnd}
use Rattle.protocol_model.specs.Packet.{Bunch, Rec, Ack, Sends, Packet, is_rec, is_bunch, channel_limit}
use Rattle.protocol_model.specs.PacketReading.{Refusal, packet_at, packet_of, content_of, content_read, why_of}
use Rattle.protocol_model.specs.Payload.{Message}
use Rattle.protocol_model.specs.Search.{newest_of, items_since}
use Rattle.connection_model.specs.Feed.{End, Past, Ticked, Made, Waits, Sent, Took, Ended, ByCause, Entry, Told, Acked, Heard, Delivered, has_ended}
use Rattle.connection_model.specs.Fates.{entries_of, number_near, is_new}
use Rattle.connection_model.specs.Windows.{Received, next_of, number_as, Offer, Repeat, Ready, Held, offer_of, with_offer, with_bunch, received_by, received_on, as_number, run_of, applied_of, ready_bunches, ends_payload, kept_of, part_fault, joined_bits, first_of}
use Rattle.connection_model.specs.PayloadReading.{payload_at}
use Rattle.connection_model.specs.Verdict.{is_misplaced, lacks_copy, delivery_of, payload_cause, payload_result, bunch_result, with_told, with_handed, Progress, bunches_result, reliable_result, bunch_heard, entry_result, after_entries, entry_of, entries_in, after_packet, after_reading, after_got}
use Rattle.connection_laws.proofs.Items.{all_append, all_reverse}
use Rattle.connection_laws.proofs.Moves.{told_keeps, handed_keeps}
use Rattle.protocol_laws.proofs.PacketSpelled.{content_spelled}
use Rattle.protocol_laws.proofs.BunchBack.{rules_of}
use Rattle.headline_laws.specs.Fits.{EntryFits, PlaceFits, PastFits}

-- the bunch's channel can be spelled
abbrev pub Low : Version → Bunch → Type 0
Low v b = b.channel < channel_limit v

-- ---- what was received

-- what was heard was on channels that can be spelled
entries_fit : (end : End) (past : Past) → PastFits end past → AllByRecursion (EntryFits end.version) (entries_of past)
entries_fit end [] f = tt
entries_fit end (Ticked t s ∷ past) f = entries_fit end past f.1
entries_fit end (Made c n m i ∷ past) f = entries_fit end past f.1
entries_fit end (Waits m ∷ past) f = entries_fit end past f.1
entries_fit end (Sent n t items ∷ past) f = entries_fit end past f.1
entries_fit end (Took n es ds ∷ past) f = all_append (EntryFits end.version) es (entries_of past) f.0.0 (entries_fit end past f.1)
entries_fit end (Ended g ∷ past) f = entries_fit end past f.1

-- so is what was received with one more
offer_low : (v : Version) (got : List Received) (b : Bunch) (offer : Offer) → Low v b → AllByRecursion (λ (r : Received). Low v r.1) got → AllByRecursion (λ (r : Received). Low v r.1) (with_offer got b offer)
offer_low v got b Repeat l h = h
offer_low v got b Ready l h = (l, h)
offer_low v got b (Held n) l h = (l, h)

-- so is one more bunch
bunch_low : (v : Version) (got : List Received) (b : Bunch) → Low v b → AllByRecursion (λ (r : Received). Low v r.1) got → AllByRecursion (λ (r : Received). Low v r.1) (with_bunch got b)
bunch_low v got b l h = offer_low v got b (offer_of got (number_as got b)) l h

-- so is what a packet received
received_low : (v : Version) (es : List Entry) (ch : ℕ) → AllByRecursion (EntryFits v) es → AllByRecursion (λ (r : Received). Low v r.1) (received_by es ch)
received_low v [] ch f = tt
received_low v (Told head ∷ es) ch f = received_low v es ch f.1
received_low v (Acked n ∷ es) ch f = received_low v es ch f.1
received_low v (Heard b ∷ es) ch f =
    cond_both (b.reliable && b.channel == ch) (with_bunch (received_by es ch) b) (received_by es ch) (AllByRecursion (λ (r : Received). Low v r.1))
    (λ e. bunch_low v (received_by es ch) b f.0 (received_low v es ch f.1)) (λ e. received_low v es ch f.1)

-- so is a bunch that is found
found_low : (v : Version) (n : ℕ) (got : List Received) (b : Bunch) → AllByRecursion (λ (r : Received). Low v r.1) got → newest_of (as_number n) got ≡ Some b → Low v b
found_low v n [] b h e = absurd (let no : (let o : Option Bunch = None in o) ≡ Some b = e in cc)
found_low v n (r ∷ got) b h e = by (r.0 == n) e (λ q. found_low v n got b h.1 q)
  where
    same : (x y : Bunch) → (let o : Option Bunch = Some x in o) ≡ Some y → x ≡ y
    same x y q = cc

    by : (t : Bool) → slice_get (cons_option (then_some t r.1) (filter_map (as_number n) got)) 0 ≡ Some b → (newest_of (as_number n) got ≡ Some b → Low v b) → Low v b
    by true q ih = subst (Low v) (same r.1 b q) h.0
    by false q ih = ih q

-- so is the run
run_low : (v : Version) (got : List Received) → AllByRecursion (λ (r : Received). Low v r.1) got → (count from : ℕ) → AllByRecursion (Low v) (run_of got from count)
run_low v got h zero from = tt
run_low v got h (suc count) from = by (newest_of (as_number from) got) refl (run_low v got h count (from + 1))
  where
    by : (o : Option Bunch) → newest_of (as_number from) got ≡ o → AllByRecursion (Low v) (run_of got (from + 1) count) → AllByRecursion (Low v) (cons_option o (run_of got (from + 1) count))
    by None q all = all
    by (Some b) q all = (found_low v from got b h q, all)

-- what holds of all holds of the newest part
since_low : {A : Type 0} (P : A → Type 0) (test : A → Bool) (xs : List A) → AllByRecursion P xs → AllByRecursion P (items_since test xs)
since_low P test [] h = tt
since_low P test (x ∷ xs) h = cond_both (test x) [] (x ∷ items_since test xs) (AllByRecursion P) (λ e. tt) (λ e. (h.0, since_low P test xs h.1))

-- so are the bunches kept
kept_low : (v : Version) (applied : List Bunch) → AllByRecursion (Low v) applied → AllByRecursion (Low v) (kept_of applied)
kept_low v applied h = since_low (Low v) ends_payload (reverse applied) (all_reverse (Low v) applied h)

-- so is the first one
first_low : (v : Version) (kept : List Bunch) (b : Bunch) → AllByRecursion (Low v) kept → Low v b → Low v (first_of kept b)
first_low v [] b h l = l
first_low v (k ∷ kept) b h l = first_low v kept k h.1 h.0

-- ---- what is handed on

-- so is a payload
payload_low : (end : End) (past : Past) (first : Bunch) (bits : List Bool) (d : Delivered) (r : Result (Message × List Bool) (Fault (Option Cause))) → payload_at end past first bits ≡ r → Low end.version first → payload_result end past first bits ≡ Ok (Some d) → PlaceFits end.version d
payload_low end past first bits d (Ok got) e l h =
    let some : ◌≡◌ {A = Result (Option Delivered) Cause} (Ok (Some (delivery_of end past first got.0))) (Ok (Some d)) = rw (payload_result, e) at h in
    let same : delivery_of end past first got.0 ≡ d = cc in
    subst (PlaceFits end.version) same l
payload_low end past first bits d (Err fault) e l h =
    let none : ◌≡◌ {A = Result (Option Delivered) Cause} (Err (payload_cause first.channel (length bits) fault)) (Ok (Some d)) = rw (payload_result, e) at h in
    absurd (cc)

-- what a bunch says is by these tests
result_by : (end : End) (past : Past) (kept : List Bunch) (b : Bunch) (d : Delivered) (l : Bool) (o : Option PartWhy) (e : Bool) → lacks_copy end.side past kept b ≡ l → part_fault kept b b.part ≡ o → ends_payload b ≡ e
    → AllByRecursion (Low end.version) kept → Low end.version b → bunch_result end past kept b ≡ Ok (Some d) → PlaceFits end.version d
result_by end past kept b d true o e p q r k m h = let none : ◌≡◌ {A = Result (Option Delivered) Cause} (Err (BadChannel b.channel)) (Ok (Some d)) = rw p at h in absurd (cc)
result_by end past kept b d false (Some why) e p q r k m h = let none : ◌≡◌ {A = Result (Option Delivered) Cause} (Err _) (Ok (Some d)) = rw (p, q) at h in absurd (cc)
result_by end past kept b d false None false p q r k m h = let none : ◌≡◌ {A = Result (Option Delivered) Cause} (Ok None) (Ok (Some d)) = rw (p, q, r) at h in absurd (cc)
result_by end past kept b d false None true p q r k m h =
    let before : List Bunch = cond b.reliable kept [] in
    let low : AllByRecursion (Low end.version) before = cond_both b.reliable kept [] (AllByRecursion (Low end.version)) (λ t. k) (λ t. tt) in
    let read : payload_result end past (first_of before b) (joined_bits before b) ≡ Ok (Some d) = rw (p, q, r) at h in
    payload_low end past (first_of before b) (joined_bits before b) d (payload_at end past (first_of before b) (joined_bits before b)) refl (first_low end.version before b low m) read

-- so is what a bunch hands on
result_low : (end : End) (past : Past) (kept : List Bunch) (b : Bunch) (d : Delivered) → AllByRecursion (Low end.version) kept → Low end.version b → bunch_result end past kept b ≡ Ok (Some d) → PlaceFits end.version d
result_low end past kept b d k l h = result_by end past kept b d (lacks_copy end.side past kept b) (part_fault kept b b.part) (ends_payload b) refl refl refl k l h

-- a past fits after it is handed on
handed_fits : (end : End) (d : Delivered) (past : Past) → PlaceFits end.version d → PastFits end past → PastFits end (with_handed d past)
handed_fits end d past p f = handed_keeps (PastFits end) d past f (λ n es ds before h. ((h.0.0, (p, h.0.1)), h.1))

-- a past fits after it is heard
told_fits : (end : End) (entry : Entry) (past : Past) → EntryFits end.version entry → PastFits end past → PastFits end (with_told entry past)
told_fits end entry past p f = told_keeps (PastFits end) entry past f (λ n es ds before h. (((p, h.0.0), h.0.1), h.1))

-- a past fits after bunches
bunches_fit : (end : End) (past : Past) (kept bunches : List Bunch) → AllByRecursion (Low end.version) kept → AllByRecursion (Low end.version) bunches → PastFits end past → PastFits end (bunches_result end past kept bunches).past
bunches_fit end past kept [] k l f = f
bunches_fit end past kept (b ∷ bunches) k l f =
    by (bunch_result end past kept b) refl (bunches_fit end past (b ∷ kept) bunches (l.0, k) l.1 f) (λ d p. bunches_fit end (with_handed d past) [] bunches tt l.1 (handed_fits end d past p f))
  where
    by : (r : Result (Option Delivered) Cause) → bunch_result end past kept b ≡ r → PastFits end (bunches_result end past (b ∷ kept) bunches).past
        → ((d : Delivered) → PlaceFits end.version d → PastFits end (bunches_result end (with_handed d past) [] bunches).past)
        → PastFits end (let p : Progress = elim r [
          | Err cause ↦ record { past = past; cause = Some cause }
          | Ok None ↦ bunches_result end past (b ∷ kept) bunches
          | Ok (Some d) ↦ bunches_result end (with_handed d past) [] bunches
        ] in p).past
    by (Err cause) e g h = f
    by (Ok None) e g h = g
    by (Ok (Some d)) e g h = h d (result_low end past kept b d k l.0 e)

-- a past fits after a bunch is heard
heard_fits : (end : End) (past : Past) (b : Bunch) → Low end.version b → PastFits end past → PastFits end (bunch_heard end past b).past
heard_fits end past b l f = elim (cases_Bool (is_misplaced end.side b)) [
  | inl e ↦ rw e f
  | inr e ↦ rw e (cond_both b.reliable (reliable_result end past b got (offer_of got (number_as got b))) (bunches_result end past (kept_of (applied_of got)) (b ∷ [])) (λ (p : Progress). PastFits end p.past)
      (λ r. reliable (offer_of got (number_as got b)))
      (λ r. bunches_fit end past (kept_of (applied_of got)) (b ∷ []) kept (l, tt) f))
]
  where
    got : List Received
    got = received_on past b.channel

    low : AllByRecursion (λ (r : Received). Low end.version r.1) (received_on past b.channel)
    low = received_low end.version (entries_of past) b.channel (entries_fit end past f)

    kept : AllByRecursion (Low end.version) (kept_of (applied_of (received_on past b.channel)))
    kept = kept_low end.version (applied_of (received_on past b.channel)) (run_low end.version (received_on past b.channel) low (next_of (received_on past b.channel) - 1) 1)

    reliable : (offer : Offer) → PastFits end (reliable_result end past b (received_on past b.channel) offer).past
    reliable Repeat = f
    reliable (Held n) = f
    reliable Ready = bunches_fit end past (kept_of (applied_of (received_on past b.channel))) (ready_bunches (received_on past b.channel) b) kept
        (run_low end.version (with_bunch (received_on past b.channel) b) (bunch_low end.version (received_on past b.channel) b l low)
        (next_of (with_bunch (received_on past b.channel) b) - next_of (received_on past b.channel)) (next_of (received_on past b.channel))) f

-- a past fits after an entry
entry_fits : (end : End) (past : Past) (entry : Entry) → EntryFits end.version entry → PastFits end past → PastFits end (entry_result end past entry).past
entry_fits end past (Told head) e f = f
entry_fits end past (Acked n) e f = f
entry_fits end past (Heard b) e f = heard_fits end past b e f

-- hearing entries leaves a past that fits
pub entries_go : (end : End) (past : Past) (entries : List Entry) → AllByRecursion (EntryFits end.version) entries → PastFits end past → PastFits end (after_entries end past entries)
entries_go end past [] e f = f
entries_go end past (entry ∷ more) e f =
    by (entry_result end past entry).cause (entry_fits end past entry e.0 f) (λ q. entries_go end (with_told entry (entry_result end past entry).past) more e.1 (told_fits end entry (entry_result end past entry).past e.0 q))
  where
    by : (c : Option Cause) → PastFits end (entry_result end past entry).past → (PastFits end (entry_result end past entry).past → PastFits end (after_entries end (with_told entry (entry_result end past entry).past) more))
        → PastFits end (let later : Past = elim c [ None ↦ after_entries end (with_told entry (entry_result end past entry).past) more | Some cause ↦ Ended (ByCause cause) ∷ (entry_result end past entry).past ] in later)
    by None q next = next q
    by (Some cause) q next = (tt, q)

-- ---- what is read

-- what is read as a packet passed each test
read_last : (a b c : Bool) (r s t : Refusal) (x : Result Packet Refusal) (p : Packet) → cond a (Err r) (cond b (Err s) (cond c (Err t) x)) ≡ Ok p → x ≡ Ok p
read_last true b c r s t x p h = absurd (cc)
read_last false true c r s t x p h = absurd (cc)
read_last false false true r s t x p h = absurd (cc)
read_last false false false r s t x p h = h

-- what is read as content is read as a packet
read_where : (version : Version) (content : List Bool) (p : Packet) (o : Result (Packet × List Bool) (Fault Why)) → packet_at version content ≡ o → content_read version content ≡ Ok p → (rest : List Bool) × (packet_at version content ≡ Ok (p, rest))
read_where version content p (Err fault) e h = let none : ◌≡◌ {A = Result Packet Refusal} (Err (place_of (length content) fault, why_of fault)) (Ok p) = rw (content_read, e) at h in absurd (cc)
read_where version content p (Ok got) e h =
    let some : ◌≡◌ {A = Result Packet Refusal} (Ok got.0) (Ok p) = rw (content_read, e) at h in
    let same : got.0 ≡ p = cc in
    (got.1, e ∙ ap (λ (p : Packet). Ok (p, got.1)) same)

-- what is read keeps the rules of records
recs_of : (version : Version) (bytes : List ℕ) (p : Packet) → packet_of version bytes ≡ Ok p → list_all (λ rec. is_rec version rec) p.recs ≡ true
recs_of version bytes p h =
    let last = read_last (length bytes == 0) (nat_lt 1024 (length bytes)) (slice_index_or bytes (length bytes - 1) 0 == 0) (0, Empty) (8192, TooLong) (8 * (length bytes - 1), NoEnd) (content_read version (content_of bytes)) p h in
    let read = read_where version (content_of bytes) p (packet_at version (content_of bytes)) refl last in
    (content_spelled version (content_of bytes) p read.0 read.1).recs

-- a bunch that keeps its rules is on such a channel
low_of : (v : Version) (b : Bunch) → is_bunch v b ≡ true → Low v b
low_of v b h = (rules_of v b h).channel

-- so are records
recs_low : (v : Version) (recs : List Rec) → list_all (λ rec. is_rec v rec) recs ≡ true → AllByRecursion (EntryFits v) (map entry_of recs)
recs_low v [] h = tt
recs_low v (Ack n ∷ recs) h = (tt, recs_low v recs (and_parts (is_rec v (Ack n)) (list_all (λ rec. is_rec v rec) recs) h).1)
recs_low v (Sends b ∷ recs) h =
    let both = and_parts (is_rec v (Sends b)) (list_all (λ rec. is_rec v rec) recs) h in
    (low_of v b (is v both.0), recs_low v recs both.1)
  where
    is : (w : Version) → is_rec w (Sends b) ≡ true → is_bunch w b ≡ true
    is One q = q
    is Two q = q

-- so are the entries of a packet
in_low : (w v : Version) (p : Packet) → AllByRecursion (EntryFits v) (map entry_of p.recs) → AllByRecursion (EntryFits v) (entries_in w p)
in_low One v p h = h
in_low Two v p h = (tt, h)

-- a past fits after what is read
read_fits : (end : End) (past : Past) (bytes : List ℕ) (r : Result Packet (ℕ × Why)) → packet_of end.version bytes ≡ r → PastFits end past → PastFits end (after_reading end past r)
read_fits end past bytes (Err bad) e f = f
read_fits end past bytes (Ok p) e f =
    cond_both (is_new past p.number) (after_packet end past p) past (PastFits end)
    (λ n. entries_go end (Took (unsigned_abs (number_near past p.number)) [] [] ∷ past) (entries_in end.version p)
    (in_low end.version end.version p (recs_low end.version p.recs (recs_of end.version bytes p e))) ((tt, tt), f)) (λ n. f)

-- so does a datagram
pub got_fits : (end : End) (past : Past) (bytes : List ℕ) → PastFits end past → PastFits end (after_got end past bytes)
got_fits end past bytes f = cond_both (has_ended past) past (after_reading end past (packet_of end.version bytes)) (PastFits end) (λ e. f) (λ e. read_fits end past bytes (packet_of end.version bytes) refl f)
