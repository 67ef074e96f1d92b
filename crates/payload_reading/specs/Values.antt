-- Values as the program has them, against those of the definitions.
use Rattle.std.specs.Prelude.{◌≡◌, ◌≤◌, ◌-◌, ℕ, Bool, List, Option, Some, None, map, unwrap_or, option_map, slice_get}
use Rattle.std.specs.Borrow.{Bor}
use Rattle.protocol_model.specs.declared.Kind.{Kind}
use Rattle.protocol_model.specs.Value.{Pair, Arg, Class, Segment, call_at, goes_up}
use Rattle.protocol_model.specs.Payload.{Message, Calls}
use Rattle.connection_model.specs.PayloadReading.{no_call}
use Rattle.value_codec.specs.Values.{whole_of, arg_of}
use Rattle.value_codec.specs.declared.args.Arg.{Arg as ArgValue}
use Rattle.class_members.specs.declared.members.Call.{Call as CallValue}
use Rattle.value_codec.specs.declared.pair.Pair.{Pair as PairValue}
use Rattle.class_members.specs.declared.members.Prop.{Prop}
use Rattle.payload_reading.specs.declared.calls.ReadCall.{ReadCall}
use Rattle.payload_reading.specs.declared.segments.ReadSegment.{ReadSegment}

-- a property with its value
abbrev pub pair_value : PairValue → Pair
pair_value p = record { handle = p.prop; value = whole_of p.value }

-- each of them
abbrev pub pair_values : List PairValue → List Pair
pair_values pairs = map pair_value pairs

-- the kind of a property among these
abbrev pub own_kind : List Prop → (place : ℕ) → Kind
own_kind props place = unwrap_or (option_map (λ (p : Prop). p.kind) (slice_get props place)) Kind.Bool

-- the arguments that contracts see
abbrev pub arg_values : List ArgValue → List Arg
arg_values args = map arg_of args

-- a call of an actor of this class
abbrev pub call_message : Class → (actor : ℕ) → ReadCall → Message
call_message class actor r =
    Calls actor r.number (unwrap_or (call_at class r.number) no_call) (map arg_of r.args)

-- the call of a number, where there is one that goes so and is so reliable
abbrev pub finds_call : List CallValue → (number : ℕ) → (up reliable : Bool)
    → Option (Bor CallValue) → Type 0
finds_call calls n up reliable (Some call) =
    (1 ≤ n) × (slice_get calls (n - 1) ≡ Some call.now) × (goes_up call.now.way ≡ up)
    × (call.now.reliable ≡ reliable)
finds_call calls n up reliable None =
    (call : CallValue) → 1 ≤ n → slice_get calls (n - 1) ≡ Some call → goes_up call.way ≡ up
    → call.reliable ≡ reliable → ⊥

-- an exported segment
abbrev pub segment_value : ReadSegment → Segment
segment_value s = record { guid = s.guid; outer = s.outer; name = s.name }
