-- The slots of channels, as the code has them.
use Rattle.std.specs.Prelude.{◌≡◌, ℕ, ◌+◌, ◌-◌, ◌<◌, ◌≤◌, ◌==◌, List, [], ◌∷◌, map, length, drop, Bool, true, false, Option, Some, None, slice_get, slice_set, slice_index_or, if◌then◌else◌, ⊤}
use Rattle.protocol_model.specs.Limits.{channels_two}
use Rattle.protocol_model.specs.Payload.{part_count, piece_at}
use Rattle.reliable_window.specs.Bits.{bit_in}
use Rattle.reliable_window.specs.Out.{Window, FindsDue, moved_to, carried_by, slot_due, slot_arrived}
use Rattle.reliable_window.specs.declared.slot.Slot.{Slot as Item}
use Rattle.outgoing_channels.specs.Made.{Outgoing, part_of, uncarried, window_of}
use Rattle.outgoing_channels.specs.declared.made_bunch.MadeBunch.{MadeBunch}
use Rattle.outgoing_channels.specs.declared.mark.Mark.{Mark}
use Rattle.outgoing_channels.specs.declared.slot.OutSlot.{OutSlot}

-- the bunches in a window, if there is one
abbrev pub kept_in : Option (Window MadeBunch) → List (Item MadeBunch)
kept_in None = []
kept_in (Some w) = w.slots

abbrev pub kept_of : OutSlot → List (Item MadeBunch)
kept_of s = kept_in s.window

-- what the slot keeps of its channel
abbrev pub outgoing_of : OutSlot → Outgoing
outgoing_of s = record { next = s.next; kept = kept_in s.window }

-- a channel that was never used
abbrev pub empty_slot : OutSlot
empty_slot = record { next = 1; window = None }

-- a channel's slot
abbrev pub slot_at : List OutSlot → (channel : ℕ) → OutSlot
slot_at slots ch = slice_index_or slots ch empty_slot

-- the window ends before the next number, and was told of no packet above the greatest that moved
abbrev pub WindowFits : (high next : ℕ) → Option (Window MadeBunch) → Type 0
WindowFits high next None = ⊤
WindowFits high next (Some w) = (w.first + length w.slots ≡ next) × (w.told ≤ high)

-- a channel without a window can take one that is empty and begins with its next number
abbrev pub CanPlace : (next : ℕ) → (has given : Option (Window MadeBunch)) → Type 0
CanPlace next (Some w) given = ⊤
CanPlace next None None = ⊥
CanPlace next None (Some w) = (w.first ≡ next) × (w.slots ≡ []) × (w.told ≡ 0)

pub record SlotFits (high count : ℕ) (s : OutSlot) : Type 0 where
  pub least : 1 ≤ s.next
  pub most : s.next ≤ count + 1
  pub window : WindowFits high s.next s.window

-- the set has the channels that keep bunches
abbrev pub Marks : (active : List ℕ) → List OutSlot → Type 0
Marks active slots =
    (ch : ℕ) → ch < channels_two → bit_in active ch ≡ (if length (kept_in (slot_at slots ch).window) == 0 then 0 else 1)

-- the pieces are those of the payload
abbrev pub ArePieces : (payload : List Bool) → (first : List Bool) → (rest : List (List Bool)) → Type 0
ArePieces payload first rest =
    (i : ℕ) → i < part_count (length payload) → slice_get (first ∷ rest) i ≡ Some (piece_at payload i)

-- the parts of a payload are made
pub record MakesParts (mark : Mark) (channel : ℕ) (payload : List Bool) (old new : Outgoing) : Type 0 where
  pub next : new.next ≡ old.next + part_count (length payload)
  pub count : length new.kept ≡ length old.kept + part_count (length payload)
  pub before : (i : ℕ) → i < length old.kept → slice_get new.kept i ≡ slice_get old.kept i
  pub parts : (i : ℕ) → i < part_count (length payload)
      → slice_get new.kept (length old.kept + i) ≡ Some (uncarried (part_of mark channel payload (old.next + i) i))

-- a move is told, and the bunches before the first that hasn't arrived leave
pub record MovesOut (to : ℕ) (old new : Outgoing) : Type 0 where
  pub gone : ℕ
  pub most : gone ≤ length old.kept
  pub next : new.next ≡ old.next
  pub kept : new.kept ≡ drop gone (map (moved_to to) old.kept)
  pub arrived : (i : ℕ) (k : Item MadeBunch) → i < gone → slice_get (map (moved_to to) old.kept) i ≡ Some k
      → slot_arrived k ≡ true
  pub left : (k : Item MadeBunch) → slice_get new.kept 0 ≡ Some k → slot_arrived k ≡ false

-- the item of that number is kept, and is due
abbrev pub IsDueAt : Window MadeBunch → (number : ℕ) → Type 0
IsDueAt w n = (w.first ≤ n) × (k : Item MadeBunch) × (slice_get w.slots (n - w.first) ≡ Some k) × (slot_due k ≡ true)

-- a packet carries the bunch of that number
pub record CarriesOut (n packet : ℕ) (old new : Outgoing) : Type 0 where
  pub next : new.next ≡ old.next
  pub kept : (k : Item MadeBunch) → slice_get old.kept (n - (window_of old).first) ≡ Some k
      → new.kept ≡ slice_set old.kept (n - (window_of old).first) (carried_by packet k)

-- what a channel keeps, as a window
abbrev pub window_at : List OutSlot → (channel : ℕ) → Window MadeBunch
window_at slots ch = window_of (outgoing_of (slot_at slots ch))

-- from this number on a channel's due bunches count, where those before a place are passed over
abbrev pub from_on : (channel from ch : ℕ) → ℕ
from_on channel from ch = if ch == channel then from else 0

-- the next due bunch by channel and number
abbrev pub FindsPlace : List OutSlot → (channel from : ℕ) → Option (ℕ × ℕ) → Type 0
FindsPlace slots channel from None = (c : ℕ) → channel ≤ c → FindsDue (window_at slots c) (from_on channel from c) None
FindsPlace slots channel from (Some place) =
    (channel ≤ place.0) × FindsDue (window_at slots place.0) (from_on channel from place.0) (Some place.1)
    × ((c : ℕ) → channel ≤ c → c < place.0 → FindsDue (window_at slots c) (from_on channel from c) None)
