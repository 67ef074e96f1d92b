-- A payload that is read by what is kept is what the client makes of it.
use Rattle.std.proofs.Common.{◌≡◌, ◌==◌, ℕ, List, length, Bool, true, false, Option, Some, None, Result, Ok, Err, refl, sym, ap, ◌∙◌, subst}
use Rattle.protocol_model.specs.declared.Cause.{Cause}
use Rattle.protocol_model.specs.declared.Version.{Version}
use Rattle.protocol_model.specs.Value.{Segment}
use Rattle.protocol_model.specs.Payload.{Message as MessageSpec}
use Rattle.protocol_model.specs.Reading.{Fault, Broken}
use Rattle.connection_model.specs.Feed.{Past}
use Rattle.connection_model.specs.Names.{names_of}
use Rattle.connection_model.specs.Verdict.{payload_cause}
use Rattle.class_layout.specs.Tables.{Layout, table_in}
use Rattle.receiving_laws.specs.Receiving.{Raw}
use Rattle.incoming_channels.specs.Messages.{IsRaw}
use Rattle.incoming_channels.specs.declared.message.Message.{Message}
use Rattle.bit_io.specs.declared.lent.BitReader.{BitReader}
use Rattle.bit_io.specs.Lent.{bits_left}
use Rattle.payload_reading.specs.declared.stop.Stop.{Stop}
use Rattle.payload_reading.specs.Reads.{Follows}
use Rattle.netguid_map.specs.declared.names.Learnt.{Learnt}
use Rattle.actor_copies.specs.declared.copy.ActorCopy.{ActorCopy}
use Rattle.actor_copies.specs.declared.copy.ReadOpen.{ReadOpen}
use Rattle.actor_copies.specs.Applied.{open_message}
use Rattle.actor_copies.specs.Stands.{Stands as StandCopies}
use Rattle.client_payloads.specs.declared.payloads.Payload.{Payload}
use Rattle.client_payloads.specs.Messages.{unopened_payload, IsOpenRead}
use Rattle.client_payloads.specs.Readings.{unopened_in, open_in}
use Rattle.client_payloads.proofs.Knowing.{unopened_known, opens_known}
use Rattle.client_hearing.specs.declared.halt.Halt.{Halt}
use Rattle.client_hearing.specs.Hearing.{halt_of, IsOpenHeard, IsUnopenedHeard}
use Rattle.client_hearing.proofs.Results.{read_of, result_ok, result_err}

-- the cause that a fault gives, by the payload as it was received
cause_as : (raw : Raw) (m : Message) (fault : Fault (Option Cause)) → IsRaw raw m
    → payload_cause raw.0.channel (length raw.1) fault
    ≡ payload_cause m.channel (length m.bits) fault
cause_as raw m fault is = rw (is.channel, is.bits) refl

-- ---- payloads that don't open

unopened_as : (layout : Layout) (copies : List ActorCopy) (past : Past) (raw : Raw) (m : Message)
    → StandCopies layout copies past → IsRaw raw m → raw.0.opens ≡ false
    → unopened_in layout copies m.channel m.closes m.sleeps m.reliable m.bits
    ≡ read_of layout past raw
unopened_as layout copies past raw m stands is o =
    rw (is.channel, is.closes, is.sleeps, is.reliable, is.bits)
    (unopened_known layout copies past raw.0 raw.1 stands.shows (λ z c. o))

pub unopened_ok : (layout : Layout) (version : Version) (copies : List ActorCopy) (past : Past)
    (raw : Raw) (m : Message) (old new : BitReader) (p : Payload)
    → StandCopies layout copies past → IsRaw raw m → raw.0.opens ≡ false → bits_left old ≡ m.bits
    → Follows (unopened_payload layout copies m.channel m.sleeps)
    (unopened_in layout copies m.channel m.closes m.sleeps m.reliable) old new (Ok p)
    → IsUnopenedHeard layout version copies past raw m.channel m.sleeps (Ok p)
unopened_ok layout version copies past raw m old new p stands is o b read =
    result_ok layout version past raw (unopened_payload layout copies m.channel m.sleeps p)
    (bits_left new)
    (sym (unopened_as layout copies past raw m stands is o)
    ∙ ap (unopened_in layout copies m.channel m.closes m.sleeps m.reliable) (sym b) ∙ read)

pub unopened_stop : (layout : Layout) (version : Version) (copies : List ActorCopy) (past : Past)
    (raw : Raw) (m : Message) (old new : BitReader) (stop : Stop)
    → StandCopies layout copies past → IsRaw raw m → raw.0.opens ≡ false → bits_left old ≡ m.bits
    → Follows (unopened_payload layout copies m.channel m.sleeps)
    (unopened_in layout copies m.channel m.closes m.sleeps m.reliable) old new (Err stop)
    → IsUnopenedHeard layout version copies past raw m.channel m.sleeps
    (Err (halt_of m.channel (length m.bits) stop))
unopened_stop layout version copies past raw m old new Stop.Short stands is o b read =
    result_err layout version past raw Fault.Short
    (sym (unopened_as layout copies past raw m stands is o)
    ∙ ap (unopened_in layout copies m.channel m.closes m.sleeps m.reliable) (sym b) ∙ read)
    ∙ ap (λ (c : Cause). Err c) (cause_as raw m Fault.Short is)
unopened_stop layout version copies past raw m old new (Stop.Broken left cause) stands is o b read =
    result_err layout version past raw (Broken left cause)
    (sym (unopened_as layout copies past raw m stands is o)
    ∙ ap (unopened_in layout copies m.channel m.closes m.sleeps m.reliable) (sym b) ∙ read)
    ∙ ap (λ (c : Cause). Err c) (cause_as raw m (Broken left cause) is)
unopened_stop layout version copies past raw m old new Stop.Memory stands is o b read = tt

-- ---- opens

open_as : (layout : Layout) (copies : List ActorCopy) (past : Past) (raw : Raw) (m : Message)
    → StandCopies layout copies past → IsRaw raw m → (raw.0.channel == 0) ≡ false
    → raw.0.closes ≡ false → raw.0.opens ≡ true
    → open_in layout copies m.channel m.exports (names_of past) m.bits ≡ read_of layout past raw
open_as layout copies past raw m stands is z c o =
    rw (is.channel, is.exports, is.bits)
    (opens_known layout copies past raw.0 raw.1 stands.shows z c o)

pub open_ok : (layout : Layout) (version : Version) (copies : List ActorCopy) (past : Past)
    (raw : Raw) (m : Message) (old new : BitReader) (after : List (ℕ × Learnt)) (read : ReadOpen)
    → StandCopies layout copies past → IsRaw raw m → (raw.0.channel == 0) ≡ false
    → raw.0.closes ≡ false → raw.0.opens ≡ true → bits_left old ≡ m.bits
    → IsOpenRead layout copies m.channel m.exports (names_of past) old new after (Ok read)
    → IsOpenHeard layout version past raw after (Ok read)
open_ok layout version copies past raw m old new after read stands is z c o b was = (
  was.0,
  result_ok layout version past raw (open_message layout was.0 read) (bits_left new)
      (sym (open_as layout copies past raw m stands is z c o)
      ∙ ap (open_in layout copies m.channel m.exports (names_of past)) (sym b) ∙ was.1),
  was.2,
)

pub open_stop : (layout : Layout) (version : Version) (copies : List ActorCopy) (past : Past)
    (raw : Raw) (m : Message) (old new : BitReader) (after : List (ℕ × Learnt)) (stop : Stop)
    → StandCopies layout copies past → IsRaw raw m → (raw.0.channel == 0) ≡ false
    → raw.0.closes ≡ false → raw.0.opens ≡ true → bits_left old ≡ m.bits
    → IsOpenRead layout copies m.channel m.exports (names_of past) old new after (Err stop)
    → IsOpenHeard layout version past raw after (Err (halt_of m.channel (length m.bits) stop))
open_stop layout version copies past raw m old new after Stop.Short stands is z c o b was =
    result_err layout version past raw Fault.Short
    (sym (open_as layout copies past raw m stands is z c o)
    ∙ ap (open_in layout copies m.channel m.exports (names_of past)) (sym b) ∙ was)
    ∙ ap (λ (c : Cause). Err c) (cause_as raw m Fault.Short is)
open_stop layout version copies past raw m old new after (Stop.Broken left cause) stands is z c o b was =
    result_err layout version past raw (Broken left cause)
    (sym (open_as layout copies past raw m stands is z c o)
    ∙ ap (open_in layout copies m.channel m.exports (names_of past)) (sym b) ∙ was)
    ∙ ap (λ (c : Cause). Err c) (cause_as raw m (Broken left cause) is)
open_stop layout version copies past raw m old new after Stop.Memory stands is z c o b was = tt
