-- Whole payloads of a bunch, read in order and handed over.
use Rattle.std.specs.Prelude.{◌≡◌, ℕ, List, [], ◌∷◌, ◌++◌, map, reverse, Option, Some, None, Ok, Err}
use Rattle.protocol_model.specs.World.{Edits}
use Rattle.protocol_model.specs.Search.{or_else}
use Rattle.protocol_model.specs.Side.{AtServer}
use Rattle.protocol_model.specs.Packet.{Bunch}
use Rattle.protocol_model.specs.declared.Cause.{Cause}
use Rattle.connection_model.specs.Feed.{End, Past, Entry, Heard, Delivered}
use Rattle.connection_model.specs.Handed.{server_verdict}
use Rattle.connection_model.specs.Verdict.{payload_result}
use Rattle.class_layout.specs.Tables.{Layout, table_in}
use Rattle.world_table.specs.Kept.{Kept}
use Rattle.world_table.specs.Stands.{Stands as StandsWorld}
use Rattle.handovers.specs.Handovers.{Handover, handover_of, handovers}
use Rattle.value_codec.specs.declared.handed.Handed.{Handed}
use Rattle.receiving_laws.specs.Receiving.{Raw, read_from}
use Rattle.receiving_laws.specs.Readings.{IsReadAs, AreRead}
use Rattle.hearing_laws.specs.Courses.{Taking, during, heard_then}
use Rattle.hearing_laws.specs.Plain.{IsCalm}
use Rattle.channel_table.specs.Channels.{Channels}
use Rattle.shadow_changes.specs.Samples.{Samples}
use Rattle.sender_steps.specs.Sender.{Sender}
use Rattle.sender_steps.specs.Stands.{StandsBoth}
use Rattle.server_hearing.specs.Calls.{Knows, AreBound, AreSpawned}

-- the calls that payloads are, each with its verdict
abbrev pub calls_of : Edits → (player : ℕ) → List Delivered → List Handover
calls_of edits player payloads = handovers (server_verdict edits player) payloads

-- the calls that the program hands over
abbrev pub handed_values : Layout → List Handed → List Handover
handed_values layout handed = map (handover_of layout) handed

-- what an end at the server hears by, after this past
pub record Listens (w : Kept) (s : Sender) (t : Channels) (end : End) (edits : Edits) (past : Past)
    (samples : Samples) : Type 0 where
  pub side : end.side ≡ AtServer
  pub knows : Knows w s edits past samples
  pub bound : AreBound t past

-- a payload was handed on, and its call handed over behind those before; or it broke a rule
abbrev pub IsPayload : End → Layout → Edits → (player : ℕ) → Past → Raw → (old new : List Handed)
    → Option Cause → Type 0
IsPayload end layout edits player past raw old new None =
    (d : Delivered) × (payload_result end past raw.0 raw.1 ≡ Ok (Some d)) × IsReadAs raw d
    × (handed_values layout new ≡ handed_values layout old ++ calls_of edits player (d ∷ []))
IsPayload end layout edits player past raw old new (Some cause) =
    (payload_result end past raw.0 raw.1 ≡ Err cause) × (new ≡ old)

-- payloads were read up to the first that broke a rule: these were handed on, the newest first
pub record AreHeard (k : Taking) (layout : Layout) (edits : Edits) (player : ℕ) (entries : List Entry)
    (handed : List Delivered) (raws : List Raw) (old new : List Handed) (broken : Option Cause) :
    Type 0 where
  pub more : List Delivered
  pub read : (cause : Option Cause) → read_from k.end (during k entries handed) raws cause
      ≡ record { past = during k entries (more ++ handed); cause = or_else broken cause }
  pub calls : handed_values layout new
      ≡ handed_values layout old ++ calls_of edits player (reverse more)
  pub whole : broken ≡ None → AreRead raws handed (more ++ handed)

-- what holds in the middle of a packet, before an entry
pub record IsHearing (w : Kept) (s : Sender) (t : Channels) (k : Taking) (edits : Edits) (past : Past)
    (samples : Samples) : Type 0 where
  pub side : k.end.side ≡ AtServer
  pub world : StandsWorld w edits
  pub opened : AreSpawned (table_in w.layout) edits past
  pub both : StandsBoth s t past samples
  pub calm : IsCalm past

-- a bunch was heard as the definitions do; where it broke no rule all stands again
pub record IsBunch (w : Kept) (s : Sender) (t : Channels) (k : Taking) (edits : Edits) (player : ℕ)
    (samples : Samples) (entries : List Entry) (handed : List Delivered) (b : Bunch)
    (old new : List Handed) (broken : Option Cause) : Type 0 where
  pub more : List Delivered
  pub heard : heard_then k entries handed b
      ≡ record { past = during k entries (more ++ handed); cause = broken }
  pub calls : handed_values w.layout new
      ≡ handed_values w.layout old ++ calls_of edits player (reverse more)
  pub stands : broken ≡ None
      → IsHearing w s t k edits (during k (Heard b ∷ entries) (more ++ handed)) samples
