-- Which segments of a class's path the client knows, so that an open needn't export them again.
-- A segment is known once a whole open that exported it has arrived.
use Rattle.std.specs.Prelude.{ℕ, ◌==◌, List, Bool, false, not, ◌&&◌, filter}
use Rattle.std.specs.List.{list_any}
use Rattle.protocol_model.specs.Value.{Segment, Class}
use Rattle.protocol_model.specs.Payload.{Message, Opens, parts_of}
use Rattle.connection_model.specs.Feed.{Past, Deed, Made}
use Rattle.connection_model.specs.Bunches.{have_arrived}

-- the message is an open with the segment
abbrev pub exports_segment : ℕ → Message → Bool
exports_segment g (Opens exports actor class values) = list_any (λ (s : Segment). s.guid == g) exports
exports_segment g message = false

-- the deed made an open with the segment, and the whole open has arrived
abbrev pub made_known : Past → (guid : ℕ) → Deed → Bool
made_known past g (Made channel number message i) =
    i == 0 && exports_segment g message && have_arrived past channel number (parts_of message)
made_known past g deed = false

-- the client knows the segment
abbrev pub is_known : Past → (guid : ℕ) → Bool
is_known past g = list_any (made_known past g) past

-- the segments of the class's path that the client doesn't know, outermost first
abbrev pub needed_segments : Past → Class → List Segment
needed_segments past class = filter (λ (s : Segment). not (is_known past s.guid)) class.path
