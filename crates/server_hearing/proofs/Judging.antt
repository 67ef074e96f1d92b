-- A payload that is read as a call of the player, and what is to be done with it.
use Rattle.std.proofs.Common.{◌≡◌, ◌≢◌, ℕ, ◌<◌, ◌==◌, ◌-◌, List, [], ◌∷◌, ◌++◌, length, map, Bool, true, false, cond, not, ◌&&◌, Option, Some, None, option_map, Result, Ok, Err, refl, sym, ap, ◌∙◌, subst}
use Rattle.std.specs.Prelude.{is_some, unwrap_or, if◌then◌else◌, IsErrAnd}
use Rattle.std.proofs.lemmas.Bool.{false≢true}
use Rattle.std.proofs.lemmas.Option.{same_Some, none-some}
use Rattle.std.specs.List.{cons_option}
use Rattle.std.proofs.lemmas.List.{length-map, map-append}
use Rattle.protocol_model.specs.Side.{Side, AtServer}
use Rattle.protocol_model.specs.Value.{Class, Table, goes_up, call_at}
use Rattle.protocol_model.specs.World.{Edits, Spawned, class_at, spawn_of}
use Rattle.protocol_model.specs.Reading.{Fault, Broken, ◌>>=◌, bit_at}
use Rattle.protocol_model.specs.Payload.{Message, Opens, Closes, Updates, Calls, Gone, actor_of}
use Rattle.protocol_model.specs.declared.Cause.{Cause}
use Rattle.protocol_model.specs.declared.Cause.TheVariants.{UnknownGuid, BadPayload}
use Rattle.protocol_model.specs.declared.CallVerdict.{CallVerdict}
use Rattle.connection_model.specs.Bunches.{is_opening, is_closing}
use Rattle.connection_model.specs.Feed.{End, Past, Delivered}
use Rattle.connection_model.specs.State.{opened_class, was_opened, holds}
use Rattle.connection_model.specs.Handed.{server_verdict}
use Rattle.connection_model.specs.PayloadReading.{PayloadReading, actor_at, class_or, call_at_end, field, payload_at, server_call_at, no_call}
use Rattle.connection_model.specs.Verdict.{payload_result, payload_cause, delivery_of, holds_now}
use Rattle.bit_io.specs.Lent.{bits_left}
use Rattle.bit_io.specs.declared.lent.BitReader.{BitReader}
use Rattle.class_layout.specs.Tables.{Layout, table_in, entries_in}
use Rattle.world_table.specs.Answers.{look_of, spawned_look}
use Rattle.world_table.specs.declared.edit.Look.{Look}
use Rattle.handovers.specs.Handovers.{Handover, handover_in, handover_of}
use Rattle.value_codec.specs.declared.handed.Handed.{Handed}
use Rattle.receiving_laws.specs.Receiving.{Raw}
use Rattle.receiving_laws.specs.Readings.{IsReadAs}
use Rattle.incoming_channels.specs.Messages.{IsRaw}
use Rattle.incoming_channels.specs.declared.message.Message.{Message as MessageValue}
use Rattle.hearing_laws.specs.Plain.{IsPlain}
use Rattle.payload_reading.proofs.Stops.{StopsAs}
use Rattle.payload_reading.specs.Reads.{Follows}
use Rattle.value_codec.specs.Values.{arg_of}
use Rattle.payload_reading.specs.declared.stop.Stop.{Stop}
use Rattle.server_hearing.specs.Payloads.{IsPayload, handed_values, calls_of}
use Rattle.server_hearing.specs.declared.calls.PlayerCall.{PlayerCall}
use Rattle.server_hearing.specs.Calls.{IsSpawnedAs, call_payload, opened_call_at, player_call_at, delivered_as, IsJudged}

-- ---- which class a call is read by

pub table_length : (layout : Layout) → length (table_in layout) ≡ length layout.classes
table_length layout = length-map (entries_in layout) _ ∙ length-map layout.classes _

pub unopened : (past : Past) (a : ℕ) → false ≡ was_opened past a → None ≡ opened_class past a
unopened past a e = by (opened_class past a) e
  where
    by : (o : Option Class) → false ≡ is_some o → None ≡ o
    by None e = refl
    by (Some class) e = absurd (false≢true e)

-- the class that the look at an actor names
pub class_is : (table : Table) (edits : Edits) (past : Past) (a : ℕ) (o : Option Look) → o ≡ look_of table edits a
    → true ≡ was_opened past a
    → ((class : Class) → opened_class past a ≡ Some class → IsSpawnedAs table edits a class)
    → option_map (λ (look : Look). class_at table look.class) o ≡ opened_class past a
class_is table edits past a o look opened was = by (opened_class past a) refl opened
  where
    by : (c : Option Class) → opened_class past a ≡ c → true ≡ is_some c
        → option_map (λ (look : Look). class_at table look.class) o ≡ c
    by None e t = absurd (false≢true (sym t))
    by (Some class) e t =
        let is = was class e in
        ap (option_map (λ (look : Look). class_at table look.class)) (look ∙ ap (option_map (spawned_look table edits a)) is.spawn)
        ∙ ap (λ (c : Class). Some c) (sym is.is)

-- it is in the table
pub class_within : (table : Table) (edits : Edits) (past : Past) (a : ℕ) (l : Look) → Some l ≡ look_of table edits a
    → true ≡ was_opened past a
    → ((class : Class) → opened_class past a ≡ Some class → IsSpawnedAs table edits a class)
    → l.class < length table
class_within table edits past a l look opened was = by (opened_class past a) refl opened
  where
    by : (c : Option Class) → opened_class past a ≡ c → true ≡ is_some c → l.class < length table
    by None e t = absurd (false≢true (sym t))
    by (Some class) e t =
        let is = was class e in
        let same : l ≡ spawned_look table edits a is.spawned =
        same_Some l (spawned_look table edits a is.spawned) (look ∙ ap (option_map (spawned_look table edits a)) is.spawn) in
        subst (λ (n : ℕ). n < length table) (ap (λ (l : Look). l.class) (sym same)) is.within

-- ---- a call of an actor that was ever opened

pub opened_is : (past : Past) (reliable : Bool) (bits mid : List Bool) (a : ℕ) (class : Class)
    → actor_at bits ≡ Ok (a, mid) → Some class ≡ opened_class past a
    → opened_call_at past reliable bits ≡ call_at_end class a goes_up reliable mid
opened_is past reliable bits mid a class e p =
    rw (◌>>=◌, e) (ap (λ (o : Option Class). (class_or (UnknownGuid a) o
    >>= (λ (class : Class). call_at_end class a goes_up reliable)) mid) (sym p))

pub opened_stop : (past : Past) (reliable : Bool) (bits mid : List Bool) (a : ℕ) (class : Class)
    → actor_at bits ≡ Ok (a, mid) → Some class ≡ opened_class past a
    → StopsAs (call_at_end class a goes_up reliable) mid (opened_call_at past reliable) bits
opened_stop past reliable bits mid a class e p fault f = opened_is past reliable bits mid a class e p ∙ f

pub unknown_is : (past : Past) (reliable : Bool) (bits mid : List Bool) (a : ℕ)
    → actor_at bits ≡ Ok (a, mid) → None ≡ opened_class past a
    → opened_call_at past reliable bits ≡ Err (Broken (length mid) (Some (UnknownGuid a)))
unknown_is past reliable bits mid a e p =
    rw (◌>>=◌, e) (ap (λ (o : Option Class). (class_or (UnknownGuid a) o
    >>= (λ (class : Class). call_at_end class a goes_up reliable)) mid) (sym p))

-- ---- a whole payload

payload_read : (end : End) (past : Past) (raw : Raw) (m : MessageValue) → end.side ≡ AtServer → IsRaw raw m
    → payload_at end past raw.0 raw.1 ≡ player_call_at past m.channel m.reliable m.bits
payload_read end past raw m side is =
    ap (λ (s : Side). payload_at (record end { side = s }) past raw.0 raw.1) side
    ∙ ap (λ (ch : ℕ). player_call_at past ch raw.0.reliable raw.1) (sym is.channel)
    ∙ ap (λ (r : Bool). player_call_at past m.channel r raw.1) (sym is.reliable)
    ∙ ap (player_call_at past m.channel m.reliable) (sym is.bits)

delivered_is : (end : End) (past : Past) (raw : Raw) (m : MessageValue) (message : Message) → end.side ≡ AtServer
    → IsRaw raw m → delivery_of end past raw.0 message ≡ delivered_as past m message
delivered_is end past raw m message side is =
    ap (λ (s : Side). delivery_of (record end { side = s }) past raw.0 message) side
    ∙ ap (λ (ch : ℕ). (let d : Delivered = record {
      channel = ch;
      reliable = raw.0.reliable;
      held = holds_now AtServer past (actor_of message) ch;
      message = message;
    } in d)) (sym is.channel)
    ∙ ap (λ (r : Bool). (let d : Delivered = record {
      channel = m.channel;
      reliable = r;
      held = holds_now AtServer past (actor_of message) m.channel;
      message = message;
    } in d)) (sym is.reliable)

pub handed_on : (end : End) (past : Past) (raw : Raw) (m : MessageValue) (message : Message) (rest : List Bool)
    → end.side ≡ AtServer → IsRaw raw m
    → player_call_at past m.channel m.reliable m.bits ≡ Ok (message, rest)
    → payload_result end past raw.0 raw.1 ≡ Ok (Some (delivered_as past m message))
handed_on end past raw m message rest side is e =
    rw (payload_result, payload_read end past raw m side is ∙ e) (ap (λ (d : Delivered). Ok (Some d)) (delivered_is end past raw m message side is))

pub refused_as : (end : End) (past : Past) (raw : Raw) (m : MessageValue) (fault : Fault (Option Cause))
    → end.side ≡ AtServer → IsRaw raw m
    → player_call_at past m.channel m.reliable m.bits ≡ Err fault
    → payload_result end past raw.0 raw.1 ≡ Err (payload_cause m.channel (length m.bits) fault)
refused_as end past raw m fault side is e =
    rw (payload_result, payload_read end past raw m side is ∙ e)
    (ap (λ (ch : ℕ). Err (payload_cause ch (length raw.1) fault)) (sym is.channel)
    ∙ ap (λ (bits : List Bool). Err (payload_cause m.channel (length bits) fault)) (sym is.bits))

-- what is handed over is a call, which opens and closes nothing
pub call_reads : (verdict : ℕ → Bool → CallVerdict) (past : Past) (raw : Raw) (m : MessageValue) (message : Message)
    (h : Handover) → IsRaw raw m → IsPlain raw.0 → handover_in verdict (delivered_as past m message) ≡ Some h
    → IsReadAs raw (delivered_as past m message)
call_reads verdict past raw m (Calls actor number call args) h is plain e =
    record { channel = is.channel; opens = sym plain.opens; closes = sym plain.closes }
call_reads verdict past raw m (Opens exports actor class values) h is plain e = absurd (none-some h e)
call_reads verdict past raw m (Closes actor sleeps) h is plain e = absurd (none-some h e)
call_reads verdict past raw m (Updates actor class values) h is plain e = absurd (none-some h e)
call_reads verdict past raw m (Gone actor) h is plain e = absurd (none-some h e)

-- ---- behind its first bit

pub bit_read : (past : Past) (channel : ℕ) (reliable : Bool) (bits mid : List Bool) (b : Bool)
    → field bit_at (λ is_call. is_call && not (channel == 0)) bits ≡ Ok (b, mid)
    → player_call_at past channel reliable bits ≡ opened_call_at past reliable mid
bit_read past channel reliable bits mid b e = rw (◌>>=◌, e) refl

pub follows_on : {A B : Type 0} (m : A → B) (part whole : PayloadReading B) (old mid new : BitReader)
    (result : Result A Stop) → whole (bits_left old) ≡ part (bits_left mid) → Follows m part mid new result
    → Follows m whole old new result
follows_on m part whole old mid new (Ok value) same h = same ∙ h
follows_on m part whole old mid new (Err Stop.Short) same h = same ∙ h
follows_on m part whole old mid new (Err (Stop.Broken left cause)) same h = same ∙ h
follows_on m part whole old mid new (Err Stop.Memory) same h = tt

-- ---- the call and its verdict

judged_stop : (layout : Layout) (edits : Edits) (player : ℕ) (past : Past) (m : MessageValue) (old new : BitReader)
    (stop : Stop) → bits_left old ≡ m.bits
    → Follows (call_payload layout) (player_call_at past m.channel m.reliable) old new (Err stop)
    → IsJudged layout edits player past m (Err stop)
judged_stop layout edits player past m old new Stop.Short bits h =
    ap (player_call_at past m.channel m.reliable) (sym bits) ∙ h
judged_stop layout edits player past m old new (Stop.Broken left cause) bits h =
    ap (player_call_at past m.channel m.reliable) (sym bits) ∙ h
judged_stop layout edits player past m old new Stop.Memory bits h = tt

pub judged_stops : (layout : Layout) (edits : Edits) (player : ℕ) (past : Past) (m : MessageValue)
    (old new : BitReader) (result : Result Handed Stop) (stop : Stop) → IsErrAnd result (λ e. e ≡ stop)
    → bits_left old ≡ m.bits
    → Follows (call_payload layout) (player_call_at past m.channel m.reliable) old new (Err stop)
    → IsJudged layout edits player past m result
judged_stops layout edits player past m old new (Ok h) stop is bits f = absurd is
judged_stops layout edits player past m old new (Err it) stop is bits f =
    subst (λ (s : Stop). IsJudged layout edits player past m (Err s)) (sym is)
    (judged_stop layout edits player past m old new stop bits f)

pub judged_call : (layout : Layout) (edits : Edits) (player : ℕ) (past : Past) (m : MessageValue)
    (old new : BitReader) (read : PlayerCall) (verdict : CallVerdict) → bits_left old ≡ m.bits
    → Follows (call_payload layout) (player_call_at past m.channel m.reliable) old new (Ok read)
    → verdict ≡ server_verdict edits player read.actor (holds past read.actor m.channel)
    → IsJudged layout edits player past m (Ok (record {
      actor = read.actor;
      class = read.class;
      call = read.call.number;
      verdict = verdict;
      args = read.call.args;
    }))
judged_call layout edits player past m old new read verdict bits follows is = (
  call_payload layout read,
  bits_left new,
  ap (player_call_at past m.channel m.reliable) (sym bits) ∙ follows,
  ap (λ (v : CallVerdict). (let o : Option Handover = Some (record {
    actor = read.actor;
    call = unwrap_or (call_at (class_at (table_in layout) read.class) read.call.number) no_call;
    verdict = v;
    args = map arg_of read.call.args;
  }) in o)) (sym is),
)

-- ---- what comes of a payload

-- what stopped the reading is this cause
abbrev pub Breaks : MessageValue → Stop → Cause → Type 0
Breaks m Stop.Short cause = payload_cause m.channel (length m.bits) Fault.Short ≡ cause
Breaks m (Stop.Broken left why) cause = payload_cause m.channel (length m.bits) (Broken left why) ≡ cause
Breaks m Stop.Memory cause = ⊥

-- the call goes behind those handed over before
pub call_handed : (end : End) (layout : Layout) (edits : Edits) (player : ℕ) (past : Past) (raw : Raw)
    (m : MessageValue) (h : Handed) (old new : List Handed) → end.side ≡ AtServer → IsRaw raw m → IsPlain raw.0
    → IsJudged layout edits player past m (Ok h) → new ≡ old ++ h ∷ []
    → IsPayload end layout edits player past raw old new None
call_handed end layout edits player past raw m h old new side is plain (message, rest, read, hands) push = (
  delivered_as past m message,
  handed_on end past raw m message rest side is read,
  call_reads (server_verdict edits player) past raw m message (handover_of layout h) is plain hands,
  ap (handed_values layout) push ∙ map-append (handover_of layout) old (h ∷ [])
      ∙ ap (λ (o : Option Handover). handed_values layout old ++ cons_option o []) (sym hands),
)

-- a payload that isn't read breaks a rule
pub call_broken : (end : End) (layout : Layout) (edits : Edits) (player : ℕ) (past : Past) (raw : Raw)
    (m : MessageValue) (stop : Stop) (cause : Cause) (handed : List Handed) → end.side ≡ AtServer → IsRaw raw m
    → IsJudged layout edits player past m (Err stop) → Breaks m stop cause
    → IsPayload end layout edits player past raw handed handed (Some cause)
call_broken end layout edits player past raw m Stop.Short cause handed side is e b =
    (refused_as end past raw m Fault.Short side is e ∙ ap (λ (c : Cause). Err c) b, refl)
call_broken end layout edits player past raw m (Stop.Broken left why) cause handed side is e b =
    (refused_as end past raw m (Broken left why) side is e ∙ ap (λ (c : Cause). Err c) b, refl)
call_broken end layout edits player past raw m Stop.Memory cause handed side is e b = absurd b
