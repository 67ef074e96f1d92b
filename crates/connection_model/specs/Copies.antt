-- A client's copies of actors: which there are, on which channel, and the values last applied to each.
-- A copy begins with an open, and ends with a plain close or a Gone; a dormant close leaves it without a channel.
use Rattle.std.specs.Prelude.{ℕ, ◌==◌, List, [], Bool, false, not, ◌&&◌, Option, Some, None, filter, filter_map, find, is_some, unwrap_or, option_map, if◌then◌else◌, ℤ, pos}
use Rattle.std.specs.List.{flat_map}
use Rattle.protocol_model.specs.Value.{Pair, Class, value_among, initial_value}
use Rattle.protocol_model.specs.Payload.{Opens, Closes, Updates, Gone}
use Rattle.connection_model.specs.Feed.{Past, Deed, Took, Delivered}
use Rattle.std.specs.Bool.{then_some}
use Rattle.protocol_model.specs.Search.{newest_of, items_since, ascending_numbers}

-- the payloads that a deed handed on, the newest first
abbrev pub handed_in : Deed → List Delivered
handed_in (Took number entries handed) = handed
handed_in deed = []

-- each payload that was handed on, the newest first
abbrev pub delivered_of : Past → List Delivered
delivered_of past = flat_map handed_in past

-- a plain close of the actor, or its Gone
abbrev pub removes : ℕ → Delivered → Bool
removes a d =
    elim d.message [ Closes actor sleeps ↦ actor == a && not sleeps | Gone actor ↦ actor == a | _ ↦ false ]

-- what was applied since the actor's last copy was removed
abbrev pub since_removed : Past → ℕ → List Delivered
since_removed past a = items_since (removes a) (delivered_of past)

-- the class of an open of the actor
abbrev pub class_opened : ℕ → Delivered → Option Class
class_opened a d = elim d.message [ Opens exports actor class values ↦ then_some (actor == a) class | _ ↦ None ]

-- the class of the copy, if there is one: an open was applied, and no removal after it
abbrev pub copy_class : Past → ℕ → Option Class
copy_class past a = newest_of (class_opened a) (since_removed past a)

-- there is a copy of the actor
abbrev pub has_copy : Past → ℕ → Bool
has_copy past a = is_some (copy_class past a)

-- what a payload says of the copy's channel: an open gives it one, a dormant close takes it away
abbrev pub channel_said : ℕ → Delivered → Option (Option ℕ)
channel_said a d = elim d.message [
  | Opens exports actor class values ↦ then_some (actor == a) (Some d.channel)
  | Closes actor sleeps ↦ then_some (actor == a) None
  | _ ↦ None
]

-- the channel of the copy; none where it sleeps or isn't there
abbrev pub copy_channel : Past → ℕ → Option ℕ
copy_channel past a = unwrap_or (newest_of (channel_said a) (since_removed past a)) None

-- the value of the handle in a list that was applied to the actor
abbrev pub value_for : (actor handle of : ℕ) → List Pair → Option ℤ
value_for a h actor values = if actor == a then value_among values h else None

-- the value of the handle that a payload applied to the actor's copy
abbrev pub value_applied : (actor handle : ℕ) → Delivered → Option ℤ
value_applied a h d = elim d.message [
  | Opens exports actor class values ↦ value_for a h actor values
  | Updates actor class values ↦ value_for a h actor values
  | _ ↦ None
]

-- the value in the last open or update applied that held the handle, or else the class's initial one
abbrev pub copy_value : Past → (actor handle : ℕ) → ℤ
copy_value past a h =
    unwrap_or (newest_of (value_applied a h) (since_removed past a))
    (unwrap_or (option_map (λ (class : Class). initial_value class h) (copy_class past a)) (pos 0))

-- the actor that a payload opened
abbrev pub actor_opened : Delivered → Option ℕ
actor_opened d = elim d.message [ Opens exports actor class values ↦ Some actor | _ ↦ None ]

-- the actors of which there is a copy, ascending
abbrev pub copied_actors : Past → List ℕ
copied_actors past = filter (has_copy past) (ascending_numbers (filter_map actor_opened (delivered_of past)))

-- the channel is this one
abbrev pub is_on : ℕ → Option ℕ → Bool
is_on ch None = false
is_on ch (Some channel) = channel == ch

-- the actor whose copy holds the channel
abbrev pub copy_on : Past → ℕ → Option ℕ
copy_on past ch = find (λ a. is_on ch (copy_channel past a)) (copied_actors past)
