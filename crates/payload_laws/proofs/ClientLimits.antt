-- A client knows no class without limits, whatever it was sent.
use Rattle.std.proofs.Common.{◌≡◌, ℕ, ◌==◌, List, [], ◌∷◌, Bool, true, false, cond, Option, Some, None, unsigned_abs, Result, Ok, Err, refl, sym, ap, ◌∙◌, subst}
use Rattle.std.specs.Prelude.{⊤}
use Rattle.std.specs.Bool.{then_some}
use Rattle.protocol_model.specs.declared.Cause.{Cause}
use Rattle.protocol_model.specs.declared.Cause.TheVariants.{BadChannel}
use Rattle.protocol_model.specs.declared.Why.{Why}
use Rattle.protocol_model.specs.declared.PartWhy.{PartWhy}
use Rattle.protocol_model.specs.Reading.{Fault}
use Rattle.protocol_model.specs.Search.{newest_of, items_since}
use Rattle.protocol_model.specs.Side.{Side, AtClient}
use Rattle.protocol_model.specs.Value.{Class, Segment, Table}
use Rattle.protocol_model.specs.Packet.{Bunch, Packet}
use Rattle.protocol_model.specs.PacketReading.{packet_of}
use Rattle.protocol_model.specs.Payload.{Message, Opens, Closes, Updates, Calls, Gone}
use Rattle.connection_model.specs.Feed.{End, Past, Ticked, Made, Waits, Sent, Took, Ended, ByCause, Entry, Told, Acked, Heard, Delivered, Event, Tick, Got, Call, has_ended}
use Rattle.connection_model.specs.Past.{past_of, after_event}
use Rattle.connection_model.specs.Names.{class_named}
use Rattle.connection_model.specs.Fates.{number_near, is_new}
use Rattle.connection_model.specs.Copies.{delivered_of, removes, class_opened}
use Rattle.connection_model.specs.PayloadReading.{payload_at}
use Rattle.connection_model.specs.Windows.{Received, received_on, offer_of, number_as, Offer, Repeat, Ready, Held, ready_bunches, applied_of, kept_of, part_fault, joined_bits, first_of, ends_payload}
use Rattle.connection_model.specs.Verdict.{lacks_copy, delivery_of, payload_result, bunch_result, with_handed, with_told, Progress, bunches_result, is_misplaced, reliable_result, entry_result, after_entries, entries_in, after_packet, after_reading}
use Rattle.table_model.specs.Facts.{IsTable}
use Rattle.table_model.specs.Rules.{Entry as TableEntry}
use Rattle.table_model.specs.Grammar.{table_of}
use Rattle.payload_laws.specs.Limits.{HasLimits}
use Rattle.payload_laws.specs.Spelling.{KnowsLimits, Spells}
use Rattle.payload_laws.proofs.MessagesSpelled.{payload_spelled}
use Rattle.payload_laws.proofs.TableFacts.{named_limits}
use Rattle.payload_laws.proofs.TicksDeliver.{tick_same, call_same}

-- an open is of a class with limits
abbrev Limited : Message → Type 0
Limited (Opens exports actor class values) = HasLimits class
Limited (Closes actor sleeps) = ⊤
Limited (Updates actor class values) = ⊤
Limited (Calls actor number call args) = ⊤
Limited (Gone actor) = ⊤

-- each of these payloads is of a class with limits
abbrev AllLimited : List Delivered → Type 0
AllLimited [] = ⊤
AllLimited (d ∷ ds) = Limited d.message × AllLimited ds

-- each class that the table has under names has limits
abbrev Named : Table → Type 0
Named table = (names : List Segment) (guid : ℕ) (class : Class) → class_named table names guid ≡ Some class → HasLimits class

-- ---- from payloads to copies

opened_limited : (a : ℕ) (d : Delivered) (message : Message) (class : Class) → d.message ≡ message → Limited message → class_opened a d ≡ Some class → HasLimits class
opened_limited a d (Opens exports actor c values) class m l h = by_actor (actor == a) (rw m at h)
  where
    by_actor : (b : Bool) → then_some b c ≡ Some class → HasLimits class
    by_actor true h = let same : c ≡ class = cc in subst HasLimits same l
    by_actor false h = absurd (cc)
opened_limited a d (Closes actor sleeps) class m l h = let no : ◌≡◌ {A = Option Class} None (Some class) = rw m at h in absurd (cc)
opened_limited a d (Updates actor c values) class m l h = let no : ◌≡◌ {A = Option Class} None (Some class) = rw m at h in absurd (cc)
opened_limited a d (Calls actor number call args) class m l h = let no : ◌≡◌ {A = Option Class} None (Some class) = rw m at h in absurd (cc)
opened_limited a d (Gone actor) class m l h = let no : ◌≡◌ {A = Option Class} None (Some class) = rw m at h in absurd (cc)

-- so is the newest open among them
newest_limited : (a : ℕ) (ds : List Delivered) (class : Class) → AllLimited ds → newest_of (class_opened a) (items_since (removes a) ds) ≡ Some class → HasLimits class
newest_limited a [] class l h = absurd (cc)
newest_limited a (d ∷ ds) class l h = by_removed (removes a d) h (λ k. newest_limited a ds class l.1 k)
  where
    by_class : (o : Option Class) → class_opened a d ≡ o → newest_of (class_opened a) (d ∷ items_since (removes a) ds) ≡ Some class → (newest_of (class_opened a) (items_since (removes a) ds) ≡ Some class → HasLimits class) → HasLimits class
    by_class None e h later = later (rw e at h)
    by_class (Some c) e h later =
        let there : ◌≡◌ {A = Option Class} (Some c) (Some class) = rw e at h in
        opened_limited a d d.message class refl l.0 (e ∙ there)

    by_removed : (b : Bool) → newest_of (class_opened a) (cond b [] (d ∷ items_since (removes a) ds)) ≡ Some class → (newest_of (class_opened a) (items_since (removes a) ds) ≡ Some class → HasLimits class) → HasLimits class
    by_removed true h later = absurd (cc)
    by_removed false h later = by_class (class_opened a d) refl h later

-- so the client reads by such classes alone
knows : (table : Table) (past : Past) → Named table → AllLimited (delivered_of past) → KnowsLimits AtClient table past
knows table past named l = record { named = named; known = λ a class h. newest_limited a (delivered_of past) class l h }

-- ---- from what is read to payloads

-- what was spelled is of such a class
spelled_limited : (table : Table) (past : Past) (first : Bunch) (bits : List Bool) (message : Message) → Spells AtClient table past first bits message → Limited message
spelled_limited table past first bits (Opens exports actor class values) s = s.1.2.limits
spelled_limited table past first bits (Closes actor sleeps) s = tt
spelled_limited table past first bits (Updates actor class values) s = tt
spelled_limited table past first bits (Calls actor number call args) s = tt
spelled_limited table past first bits (Gone actor) s = tt

-- so is what was read
read_limited : (end : End) (past : Past) (first : Bunch) (bits rest : List Bool) (message : Message) → end.side ≡ AtClient → KnowsLimits AtClient end.table past → payload_at end past first bits ≡ Ok (message, rest) → Limited message
read_limited end past first bits rest message c k h =
    let limits : KnowsLimits end.side end.table past = subst (λ (side : Side). KnowsLimits side end.table past) (sym c) k in
    let s = payload_spelled end past first bits rest message limits h in
    spelled_limited end.table past first bits message (subst (λ (side : Side). Spells side end.table past first bits message) c s.1)

-- so is a payload that is handed on
payload_limited : (end : End) (past : Past) (first : Bunch) (bits : List Bool) (d : Delivered) (r : Result (Message × List Bool) (Fault (Option Cause))) → payload_at end past first bits ≡ r → end.side ≡ AtClient → KnowsLimits AtClient end.table past → payload_result end past first bits ≡ Ok (Some d) → Limited d.message
payload_limited end past first bits d (Ok got) e c k h =
    let some : ◌≡◌ {A = Result (Option Delivered) Cause} (Ok (Some (delivery_of end past first got.0))) (Ok (Some d)) = rw (payload_result, e) at h in
    let same : delivery_of end past first got.0 ≡ d = cc in
    subst (λ (x : Delivered). Limited x.message) same (read_limited end past first bits got.1 got.0 c k e)
payload_limited end past first bits d (Err fault) e c k h =
    let none : ◌≡◌ {A = Result (Option Delivered) Cause} (Err _) (Ok (Some d)) = rw (payload_result, e) at h in
    absurd (cc)

-- by the result of its reading
bunch_by : (end : End) (past : Past) (kept : List Bunch) (b : Bunch) (d : Delivered) (l : Bool) (o : Option PartWhy) (e : Bool) → lacks_copy end.side past kept b ≡ l → part_fault kept b b.part ≡ o → ends_payload b ≡ e → end.side ≡ AtClient → KnowsLimits AtClient end.table past → bunch_result end past kept b ≡ Ok (Some d) → Limited d.message
bunch_by end past kept b d true o e p q r c k h = let none : ◌≡◌ {A = Result (Option Delivered) Cause} (Err (BadChannel b.channel)) (Ok (Some d)) = rw p at h in absurd (cc)
bunch_by end past kept b d false (Some why) e p q r c k h = let none : ◌≡◌ {A = Result (Option Delivered) Cause} (Err _) (Ok (Some d)) = rw (p, q) at h in absurd (cc)
bunch_by end past kept b d false None false p q r c k h = let none : ◌≡◌ {A = Result (Option Delivered) Cause} (Ok None) (Ok (Some d)) = rw (p, q, r) at h in absurd (cc)
bunch_by end past kept b d false None true p q r c k h =
    let before : List Bunch = cond b.reliable kept [] in
    let read : payload_result end past (first_of before b) (joined_bits before b) ≡ Ok (Some d) = rw (p, q, r) at h in
    payload_limited end past (first_of before b) (joined_bits before b) d (payload_at end past (first_of before b) (joined_bits before b)) refl c k read

-- so is what a bunch hands on
bunch_limited : (end : End) (past : Past) (kept : List Bunch) (b : Bunch) (d : Delivered) → end.side ≡ AtClient → KnowsLimits AtClient end.table past → bunch_result end past kept b ≡ Ok (Some d) → Limited d.message
bunch_limited end past kept b d c k h = bunch_by end past kept b d (lacks_copy end.side past kept b) (part_fault kept b b.part) (ends_payload b) refl refl refl c k h

-- one more payload of such a class
handed_limited : (d : Delivered) (past : Past) → Limited d.message → AllLimited (delivered_of past) → AllLimited (delivered_of (with_handed d past))
handed_limited d [] m l = l
handed_limited d (Took number entries handed ∷ past) m l = (m, l)
handed_limited d (Ticked t sight ∷ past) m l = l
handed_limited d (Made channel number message i ∷ past) m l = l
handed_limited d (Waits message ∷ past) m l = l
handed_limited d (Sent number t items ∷ past) m l = l
handed_limited d (Ended ending ∷ past) m l = l

-- an entry that is told hands nothing on
told_same : (entry : Entry) (past : Past) → delivered_of (with_told entry past) ≡ delivered_of past
told_same entry [] = refl
told_same entry (Took number entries handed ∷ past) = refl
told_same entry (Ticked t sight ∷ past) = refl
told_same entry (Made channel number message i ∷ past) = refl
told_same entry (Waits message ∷ past) = refl
told_same entry (Sent number t items ∷ past) = refl
told_same entry (Ended ending ∷ past) = refl

-- by the result of a bunch
bunches_by : (end : End) (past : Past) (kept : List Bunch) (b : Bunch) (bunches : List Bunch) (r : Result (Option Delivered) Cause) → bunch_result end past kept b ≡ r → end.side ≡ AtClient → Named end.table → AllLimited (delivered_of past)
    → ((past : Past) (kept : List Bunch) → AllLimited (delivered_of past) → AllLimited (delivered_of (bunches_result end past kept bunches).past)) → AllLimited (delivered_of (bunches_result end past kept (b ∷ bunches)).past)
bunches_by end past kept b bunches (Err cause) e c n l later =
    let is : bunches_result end past kept (b ∷ bunches) ≡ record { past = past; cause = Some cause } = rw (e, bunches_result) refl in
    subst (λ (p : Progress). AllLimited (delivered_of p.past)) (sym is) l
bunches_by end past kept b bunches (Ok None) e c n l later =
    let is : bunches_result end past kept (b ∷ bunches) ≡ bunches_result end past (b ∷ kept) bunches = rw (e, bunches_result) refl in
    subst (λ (p : Progress). AllLimited (delivered_of p.past)) (sym is) (later past (b ∷ kept) l)
bunches_by end past kept b bunches (Ok (Some d)) e c n l later =
    let is : bunches_result end past kept (b ∷ bunches) ≡ bunches_result end (with_handed d past) [] bunches = rw (e, bunches_result) refl in
    subst (λ (p : Progress). AllLimited (delivered_of p.past)) (sym is) (later (with_handed d past) [] (handed_limited d past (bunch_limited end past kept b d c (knows end.table past n l) e) l))

-- so is what bunches hand on
bunches_limited : (end : End) (bunches : List Bunch) (past : Past) (kept : List Bunch) → end.side ≡ AtClient → Named end.table → AllLimited (delivered_of past) → AllLimited (delivered_of (bunches_result end past kept bunches).past)
bunches_limited end [] past kept c n l = l
bunches_limited end (b ∷ bunches) past kept c n l = bunches_by end past kept b bunches (bunch_result end past kept b) refl c n l (λ past kept l. bunches_limited end bunches past kept c n l)

-- ---- entries and packets

-- and what a reliable bunch does
reliable_limited : (end : End) (past : Past) (b : Bunch) (got : List Received) (offer : Offer) → end.side ≡ AtClient → Named end.table → AllLimited (delivered_of past) → AllLimited (delivered_of (reliable_result end past b got offer).past)
reliable_limited end past b got Repeat c n l = l
reliable_limited end past b got (Held number) c n l = l
reliable_limited end past b got Ready c n l = bunches_limited end (ready_bunches got b) past (kept_of (applied_of got)) c n l

-- whichever of three pasts it is
heard_by : (x y : Bool) (p q r : Progress) → AllLimited (delivered_of p.past) → AllLimited (delivered_of q.past) → AllLimited (delivered_of r.past) → AllLimited (delivered_of (cond x p (cond y q r)).past)
heard_by true y p q r a b c = a
heard_by false true p q r a b c = b
heard_by false false p q r a b c = c

-- and what an entry does
entry_limited : (end : End) (past : Past) (entry : Entry) → end.side ≡ AtClient → Named end.table → AllLimited (delivered_of past) → AllLimited (delivered_of (entry_result end past entry).past)
entry_limited end past (Heard b) c n l =
    let got : List Received = received_on past b.channel in
    heard_by (is_misplaced end.side b) b.reliable (record { past = past; cause = Some (BadChannel b.channel) }) (reliable_result end past b got (offer_of got (number_as got b))) (bunches_result end past (kept_of (applied_of got)) (b ∷ []))
    l (reliable_limited end past b got (offer_of got (number_as got b)) c n l) (bunches_limited end (b ∷ []) past (kept_of (applied_of got)) c n l)
entry_limited end past (Told head) c n l = l
entry_limited end past (Acked number) c n l = l

-- what is done after an entry
abbrev step : End → Entry → List Entry → Past → Option Cause → Past
step end entry more q None = after_entries end (with_told entry q) more
step end entry more q (Some cause) = Ended (ByCause cause) ∷ q

-- and what entries from one on do
step_limited : (end : End) (entry : Entry) (more : List Entry) (o : Option Cause) (q : Past) → AllLimited (delivered_of q) → ((later : Past) → AllLimited (delivered_of later) → AllLimited (delivered_of (after_entries end later more))) → AllLimited (delivered_of (step end entry more q o))
step_limited end entry more None q l later = later (with_told entry q) (subst AllLimited (sym (told_same entry q)) l)
step_limited end entry more (Some cause) q l later = l

-- and what a packet's entries do
entries_limited : (end : End) (entries : List Entry) (past : Past) → end.side ≡ AtClient → Named end.table → AllLimited (delivered_of past) → AllLimited (delivered_of (after_entries end past entries))
entries_limited end [] past c n l = l
entries_limited end (entry ∷ more) past c n l =
    step_limited end entry more (entry_result end past entry).cause (entry_result end past entry).past (entry_limited end past entry c n l) (λ later k. entries_limited end more later c n k)

-- whichever of two pasts it is
reading_by : (b : Bool) (p q : Past) → AllLimited (delivered_of p) → AllLimited (delivered_of q) → AllLimited (delivered_of (cond b p q))
reading_by true p q a b = a
reading_by false p q a b = b

-- and what a datagram does
reading_limited : (end : End) (past : Past) (r : Result Packet (ℕ × Why)) → end.side ≡ AtClient → Named end.table → AllLimited (delivered_of past) → AllLimited (delivered_of (after_reading end past r))
reading_limited end past (Err bad) c n l = l
reading_limited end past (Ok p) c n l = reading_by (is_new past p.number) (after_packet end past p) past (entries_limited end (entries_in end.version p) (Took (unsigned_abs (number_near past p.number)) [] [] ∷ past) c n l) l

-- and what an event does
event_limited : (end : End) (past : Past) (event : Event) → end.side ≡ AtClient → Named end.table → AllLimited (delivered_of past) → AllLimited (delivered_of (after_event end past event))
event_limited end past (Tick sight) c n l = subst AllLimited (sym (tick_same end past sight)) l
event_limited end past (Call actor number args) c n l = subst AllLimited (sym (call_same end.side past actor number args)) l
event_limited end past (Got bytes) c n l = reading_by (has_ended past) past (after_reading end past (packet_of end.version bytes)) l (reading_limited end past (packet_of end.version bytes) c n l)

-- and what a whole feed does
past_limited : (end : End) (feed : List Event) → end.side ≡ AtClient → Named end.table → AllLimited (delivered_of (past_of end feed))
past_limited end [] c n = tt
past_limited end (event ∷ feed) c n = event_limited end (past_of end feed) event c n (past_limited end feed c n)

-- a client knows no class without limits
client_knows : (end : End) (feed : List Event) → end.side ≡ AtClient → Named end.table → KnowsLimits AtClient end.table (past_of end feed)
client_knows end feed c n = knows end.table (past_of end feed) n (past_limited end feed c n)

-- with the table of accepted classes
pub client_limits : (entries : List TableEntry) (end : End) (feed : List Event) → IsTable entries → end.table ≡ table_of entries → end.side ≡ AtClient → KnowsLimits AtClient end.table (past_of end feed)
client_limits entries end feed is t c =
    client_knows end feed c (λ names guid class h. named_limits entries names guid class is (ap (λ (table : Table). class_named table names guid) (sym t) ∙ h))
