-- What was read, as the messages of the definitions.
use Rattle.std.specs.Prelude.{◌≡◌, ◌∷◌, ℕ, Bool, List, [], Some, None, Result, Ok, Err, unwrap_or, option_map, ⊤}
use Rattle.std.specs.List.{fold}
use Rattle.protocol_model.specs.Value.{Class, Segment}
use Rattle.protocol_model.specs.World.{class_at}
use Rattle.protocol_model.specs.Payload.{Message, Closes, Updates, Gone}
use Rattle.protocol_model.specs.Reading.{Fault, Broken}
use Rattle.protocol_model.specs.declared.Cause.TheVariants.{UnknownGuid}
use Rattle.connection_model.specs.Names.{class_named, names_with}
use Rattle.bit_io.specs.declared.lent.BitReader.{BitReader}
use Rattle.bit_io.specs.Lent.{bits_left}
use Rattle.class_layout.specs.Tables.{Layout, table_in}
use Rattle.value_codec.specs.declared.pair.Pair.{Pair}
use Rattle.netguid_map.specs.Names.{Stands}
use Rattle.payload_reading.specs.declared.stop.Stop.{Stop}
use Rattle.payload_reading.specs.Values.{call_message, pair_values}
use Rattle.actor_copies.specs.declared.copy.ActorCopy.{ActorCopy}
use Rattle.actor_copies.specs.declared.copy.ReadOpen.{ReadOpen}
use Rattle.actor_copies.specs.Applied.{open_message}
use Rattle.actor_copies.specs.Kept.{kept_on}
use Rattle.client_payloads.specs.declared.payloads.ReadPeerCall.{ReadPeerCall}
use Rattle.client_payloads.specs.declared.payloads.Payload.{Payload}
use Rattle.client_payloads.specs.Learning.{Kept}
use Rattle.client_payloads.specs.Readings.{copy_class, holder_kept, open_in}

-- a Gone of an actor
abbrev pub gone_message : (actor : ℕ) → Message
gone_message a = Gone a

-- a call of an actor
abbrev pub call_payload : Layout → ReadPeerCall → Message
call_payload layout c = call_message (class_at (table_in layout) c.class) c.actor c.call

-- the class of the copy that holds a channel
abbrev pub class_held : Layout → List ActorCopy → (channel : ℕ) → Class
class_held layout copies ch =
    unwrap_or (option_map (copy_class layout) (kept_on copies ch)) (class_at (table_in layout) 0)

-- an update of the copy that holds the channel
abbrev pub update_payload : Layout → List ActorCopy → (channel : ℕ) → List Pair → Message
update_payload layout copies ch values =
    Updates (holder_kept copies ch) (class_held layout copies ch) (pair_values values)

-- the class at a place of the table
abbrev pub place_class : Layout → (place : ℕ) → Class
place_class layout n = class_at (table_in layout) n

-- a guid names the class at a place, or none
abbrev pub IsNamed : Layout → (known : List Segment) → (guid left : ℕ) → Result ℕ Stop → Type 0
IsNamed layout known g left (Ok place) =
    class_named (table_in layout) known g ≡ Some (class_at (table_in layout) place)
IsNamed layout known g left (Err Stop.Short) = ⊥
IsNamed layout known g left (Err (Stop.Broken from None)) = ⊥
IsNamed layout known g left (Err (Stop.Broken from (Some cause))) =
    (class_named (table_in layout) known g ≡ None) × (cause ≡ UnknownGuid g) × (from ≡ left)
IsNamed layout known g left (Err Stop.Memory) = ⊥

-- the last of some guids, 0 where there is none
abbrev pub last_of : List ℕ → ℕ
last_of [] = 0
last_of (g ∷ []) = g
last_of (g ∷ h ∷ path) = last_of (h ∷ path)

-- an open is read, and its exports are learnt
abbrev pub IsOpenRead : Layout → List ActorCopy → (channel : ℕ) → (has_exports : Bool)
    → (known : List Segment) → BitReader → BitReader → (after : Kept) → Result ReadOpen Stop
    → Type 0
IsOpenRead layout copies ch flag known old new after (Ok o) =
    (exports : List Segment)
    × (open_in layout copies ch flag known (bits_left old)
    ≡ Ok (open_message layout exports o, bits_left new))
    × Stands after (fold names_with known exports)
IsOpenRead layout copies ch flag known old new after (Err Stop.Short) =
    open_in layout copies ch flag known (bits_left old) ≡ Err Fault.Short
IsOpenRead layout copies ch flag known old new after (Err (Stop.Broken left cause)) =
    open_in layout copies ch flag known (bits_left old) ≡ Err (Broken left cause)
IsOpenRead layout copies ch flag known old new after (Err Stop.Memory) = ⊤

-- a payload that doesn't open
abbrev pub unopened_payload : Layout → List ActorCopy → (channel : ℕ) → (sleeps : Bool)
    → Payload → Message
unopened_payload layout copies ch sleeps (Payload.Gone a) = gone_message a
unopened_payload layout copies ch sleeps Payload.Close = Closes (holder_kept copies ch) sleeps
unopened_payload layout copies ch sleeps (Payload.Update values) =
    update_payload layout copies ch values
unopened_payload layout copies ch sleeps (Payload.Call c) = call_payload layout c
