-- An open that is made and offered in one tick.
use Rattle.std.specs.Prelude.{◌≡◌, ℕ, ◌+◌, ◌<◌, List, map, Bool, true, not, ◌||◌, nat_lt, Option, Some, None, if◌then◌else◌}
use Rattle.std.specs.List.{range_with_len}
use Rattle.protocol_model.specs.Payload.{Message, message_bits, parts_of}
use Rattle.connection_model.specs.Feed.{End, Item}
use Rattle.connection_model.specs.Bunches.{made_count, room, is_opening, has_exports}
use Rattle.connection_model.specs.Items.{carrying_item}
use Rattle.connection_model.specs.Pack.{Packing, has_room, part_item}
use Rattle.bunch_packing.specs.Both.{IsOwing}

-- the message is an open with this payload, that exports segments or not
pub record IsOpenOf (message : Message) (exports : Bool) (payload : List Bool) : Type 0 where
  pub bits : message_bits message ≡ payload
  pub opens : is_opening message ≡ true
  pub names : has_exports message ≡ exports

-- the parts of the message, from a number on, were made on the channel, and are due
pub record ArePartsOf (p : Packing) (channel first count : ℕ) (message : Message) : Type 0 where
  pub owing : (i : ℕ) → i < count → IsOwing p channel (first + i)
  pub carries : (i : ℕ) → i < count
      → carrying_item p.past channel (first + i) ≡ Some (part_item channel first message i)

-- the items of so many parts
abbrev pub part_items : (channel first : ℕ) → Message → (count : ℕ) → List Item
part_items ch first message count = map (part_item ch first message) (range_with_len 0 count)

-- the number of an open's first bunch, where it is made
abbrev pub open_first : End → Packing → (channel : ℕ) → Message → Option ℕ
open_first end p ch message =
    let first = made_count p.past ch + 1 in
    if nat_lt (room p.past ch) (parts_of message)
    || not (has_room end p (part_item ch first message 0)) then None
    else Some first
