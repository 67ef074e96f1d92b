-- What the outgoing channels of one end keep.
use Rattle.std.specs.Prelude.{◌≡◌, ℕ, ◌-◌, ◌==◌, ◌%◌, List, [], Bool, true, false, ◌&&◌, length, None, slice_index_or, if◌then◌else◌}
use Rattle.protocol_model.specs.Limits.{sequence_modulus}
use Rattle.protocol_model.specs.Packet.{Bunch}
use Rattle.protocol_model.specs.Payload.{Message, part_at, part_count, piece_at}
use Rattle.connection_model.specs.Bunches.{is_opening, is_closing, is_sleeping, has_exports}
use Rattle.reliable_window.specs.Out.{Window}
use Rattle.reliable_window.specs.declared.slot.Slot.{Slot}
use Rattle.outgoing_channels.specs.declared.made_bunch.MadeBunch.{MadeBunch}
use Rattle.outgoing_channels.specs.declared.mark.Mark.{Mark}
use Rattle.outgoing_channels.specs.declared.mark.Mark.TheVariants as mark

-- ---- what a mark says

abbrev pub opens_of : Mark → Bool
opens_of (mark.Opens exports) = true
opens_of mark.Plain = false
opens_of (mark.Closes sleeps) = false

abbrev pub exports_of : Mark → Bool
exports_of (mark.Opens exports) = exports
exports_of mark.Plain = false
exports_of (mark.Closes sleeps) = false

abbrev pub closes_of : Mark → Bool
closes_of (mark.Closes sleeps) = true
closes_of mark.Plain = false
closes_of (mark.Opens exports) = false

abbrev pub sleeps_of : Mark → Bool
sleeps_of (mark.Closes sleeps) = sleeps
sleeps_of mark.Plain = false
sleeps_of (mark.Opens exports) = false

-- ---- bunches

-- a bunch that was made, as it goes into a packet
abbrev pub bunch_made : MadeBunch → Bunch
bunch_made b = record {
  opens = b.opens;
  closes = b.closes;
  sleeps = b.sleeps;
  reliable = true;
  channel = b.channel;
  exports = b.exports;
  part = b.part;
  seq = b.seq;
  kind = if b.channel == 0 then 1 else 2;
  payload = b.bits;
}

-- these bits are the i-th part of a payload of `len` bits, with its number
abbrev pub part_made : Mark → (channel len : ℕ) → List Bool → (number i : ℕ) → MadeBunch
part_made mark ch len bits n i = record {
  opens = opens_of mark && i == 0;
  closes = closes_of mark;
  sleeps = sleeps_of mark;
  channel = ch;
  exports = exports_of mark && i == 0;
  part = part_at (part_count len) i;
  seq = n % sequence_modulus;
  bits = bits;
}

-- the i-th part of a payload, with its number
abbrev pub part_of : Mark → (channel : ℕ) → (payload : List Bool) → (number i : ℕ) → MadeBunch
part_of mark ch payload n i = part_made mark ch (length payload) (piece_at payload i) n i

-- a bunch that no packet carried yet
abbrev pub uncarried : MadeBunch → Slot MadeBunch
uncarried b = record { item = b; carrier = None; fate = None }

-- ---- channels

-- a channel's next number, and its bunches from the least that hasn't arrived on, each with the packet that
-- carried it last and whether that one arrived, if it is known
pub record Outgoing : Type 0 where
  pub next : ℕ
  pub kept : List (Slot MadeBunch)

-- each channel by its index, the sum of spans, the greatest packet that moved, and how many bunches were made
pub record Made : Type 0 where
  pub out : List Outgoing
  pub span_sum : ℕ
  pub high : ℕ
  pub count : ℕ

-- a channel that was never used
abbrev pub unused : Outgoing
unused = record { next = 1; kept = [] }

-- a channel's own
abbrev pub out_at : List Outgoing → (channel : ℕ) → Outgoing
out_at out ch = slice_index_or out ch unused

-- its bunches as a window
abbrev pub window_of : Outgoing → Window MadeBunch
window_of o = record { first = o.next - length o.kept; slots = o.kept; told = 0 }

-- the mark says what the message does to its channel
abbrev pub IsMarked : Mark → Message → Type 0
IsMarked mark.Plain message = (is_opening message ≡ false) × (is_closing message ≡ false)
IsMarked (mark.Opens exports) message = (is_opening message ≡ true) × (has_exports message ≡ exports)
IsMarked (mark.Closes sleeps) message = (is_closing message ≡ true) × (is_sleeping message ≡ sleeps)
