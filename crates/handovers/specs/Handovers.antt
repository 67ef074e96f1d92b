-- Calls that are handed over to the program, each with what is to be done with it.
use Rattle.std.specs.Prelude.{ℕ, List, map, filter_map, Bool, Option, Some, None, unwrap_or}
use Rattle.protocol_model.specs.Value.{Call, Arg, call_at}
use Rattle.protocol_model.specs.World.{class_at}
use Rattle.protocol_model.specs.Payload.{Calls}
use Rattle.protocol_model.specs.declared.CallVerdict.{CallVerdict}
use Rattle.connection_model.specs.Feed.{Delivered}
use Rattle.connection_model.specs.PayloadReading.{no_call}
use Rattle.class_layout.specs.Tables.{Layout, table_in}
use Rattle.value_codec.specs.Values.{arg_of}
use Rattle.value_codec.specs.declared.handed.Handed.{Handed}

-- a call with its verdict
pub record Handover : Type 0 where
  pub actor : ℕ
  pub call : Call
  pub verdict : CallVerdict
  pub args : List Arg

-- the call that a payload hands over, with the verdict on its actor, which held the channel or not
abbrev pub handover_in : (ℕ → Bool → CallVerdict) → Delivered → Option Handover
handover_in verdict d = elim d.message [
  | Calls actor number call args ↦ Some (record {
    actor = actor;
    call = call;
    verdict = verdict actor d.held;
    args = args;
  })
  | _ ↦ None
]

-- those that payloads hand over, in order
abbrev pub handovers : (ℕ → Bool → CallVerdict) → List Delivered → List Handover
handovers verdict payloads = filter_map (handover_in verdict) payloads

-- the call that the program is handed, which is named by the place of its class and its number there
abbrev pub handover_of : Layout → Handed → Handover
handover_of layout h = record {
  actor = h.actor;
  call = unwrap_or (call_at (class_at (table_in layout) h.class) h.call) no_call;
  verdict = h.verdict;
  args = map arg_of h.args;
}
