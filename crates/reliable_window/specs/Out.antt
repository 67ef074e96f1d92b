-- What a window of items made was told, and what follows.
use Rattle.std.specs.Prelude.{◌≡◌, ℕ, ◌+◌, ◌-◌, ◌%◌, ◌<◌, ◌≤◌, ◌==◌, List, length, map, drop, reverse, Bool, true, false, not, ◌&&◌, nat_lt, nat_le, Option, Some, None, option_map, filter_map, find, slice_get, unwrap_or, if◌then◌else◌}
use Rattle.std.specs.List.{range_with_len}
use Rattle.std.specs.Bool.{then_some}
use Rattle.protocol_model.specs.Search.{newest_of, least_from, greatest_of}
use Rattle.reliable_window.specs.Bits.{bit_in}
use Rattle.reliable_window.specs.declared.slot.Slot.{Slot}

-- an item was made, a packet carried the item of a number, a packet was lost, a packet arrived
pub data Deed (T : Type 0) : Type 0 where
  Pushed : (item : T) → Deed T
  Carried : (number packet : ℕ) → Deed T
  Lost : (packet : ℕ) → Deed T
  Arrived : (packet : ℕ) → Deed T

-- all that a window was told, the newest first
abbrev pub Deeds : Type 0 → Type 0
Deeds T = List (Deed T)

-- the item that a deed made
abbrev pub pushed_in : {T : Type 0} → Deed T → Option T
pushed_in (Pushed item) = Some item
pushed_in (Carried number packet) = None
pushed_in (Lost packet) = None
pushed_in (Arrived packet) = None

-- the items made, oldest first
abbrev pub items_of : {T : Type 0} → Deeds T → List T
items_of deeds = reverse (filter_map pushed_in deeds)

-- the number of the next item
abbrev pub next_of : {T : Type 0} → (first : ℕ) → Deeds T → ℕ
next_of first deeds = first + length (items_of deeds)

-- the packet that carried the item of a number
abbrev pub carrier_in : {T : Type 0} → ℕ → Deed T → Option ℕ
carrier_in n (Carried number packet) = then_some (number == n) packet
carrier_in n (Pushed item) = None
carrier_in n (Lost packet) = None
carrier_in n (Arrived packet) = None

-- the packet that carried it last
abbrev pub carrier_of : {T : Type 0} → Deeds T → (number : ℕ) → Option ℕ
carrier_of deeds n = newest_of (carrier_in n) deeds

-- what a deed says of a packet: that it arrived, or that it is lost
abbrev pub fate_in : {T : Type 0} → (packet : ℕ) → Deed T → Option Bool
fate_in k (Arrived packet) = then_some (packet == k) true
fate_in k (Lost packet) = then_some (packet == k) false
fate_in k (Pushed item) = None
fate_in k (Carried number packet) = None

-- whether a packet arrived, if it is known
abbrev pub fate_of : {T : Type 0} → Deeds T → (packet : ℕ) → Option Bool
fate_of deeds k = newest_of (fate_in k) deeds

-- the packet that carried the item last has arrived
abbrev pub has_arrived : {T : Type 0} → Deeds T → (number : ℕ) → Bool
has_arrived deeds n = elim (carrier_of deeds n) [ None ↦ false | Some k ↦ unwrap_or (fate_of deeds k) false ]

-- it was never carried, or that packet is lost
abbrev pub is_due : {T : Type 0} → Deeds T → (number : ℕ) → Bool
is_due deeds n = elim (carrier_of deeds n) [ None ↦ true | Some k ↦ not (unwrap_or (fate_of deeds k) true) ]

-- the least number that hasn't arrived; the next where all have
abbrev pub least_of : {T : Type 0} → (first : ℕ) → Deeds T → ℕ
least_of first deeds = least_from (λ n. not (has_arrived deeds n)) (length (items_of deeds)) first

abbrev pub span_of : {T : Type 0} → (first : ℕ) → Deeds T → ℕ
span_of first deeds = next_of first deeds - least_of first deeds

-- the least due number at or above one
abbrev pub due_from : {T : Type 0} → (first : ℕ) → Deeds T → (from : ℕ) → Option ℕ
due_from first deeds from =
    find (λ n. nat_le from n && is_due deeds n) (range_with_len first (length (items_of deeds)))

-- the item of a number, unless it and all before it have arrived
abbrev pub item_at : {T : Type 0} → (first : ℕ) → Deeds T → (number : ℕ) → Option T
item_at first deeds n = if nat_lt n (least_of first deeds) then None else slice_get (items_of deeds) (n - first)

-- the greatest packet that is known to be lost or to have arrived
abbrev pub told_in : {T : Type 0} → Deed T → Option ℕ
told_in (Lost packet) = Some packet
told_in (Arrived packet) = Some packet
told_in (Pushed item) = None
told_in (Carried number packet) = None

abbrev pub told_of : {T : Type 0} → Deeds T → ℕ
told_of deeds = greatest_of (filter_map told_in deeds)

-- a kept item was never carried, or its packet is lost
abbrev pub slot_due : {T : Type 0} → Slot T → Bool
slot_due s = elim s.carrier [ None ↦ true | Some k ↦ not (unwrap_or s.fate true) ]

-- the packet of a kept item has arrived
abbrev pub slot_arrived : {T : Type 0} → Slot T → Bool
slot_arrived s = elim s.carrier [ None ↦ false | Some k ↦ unwrap_or s.fate false ]

-- the packet is the one that carried last
abbrev pub is_carrier : (packet : ℕ) → Option ℕ → Bool
is_carrier packet None = false
is_carrier packet (Some k) = k == packet

-- a kept item once it is known whether a packet arrived
abbrev pub settled : {T : Type 0} → (packet : ℕ) → (arrived : Bool) → Slot T → Slot T
settled packet arrived s =
    if is_carrier packet s.carrier then record s { fate = Some arrived } else s

-- the items from the least that hasn't arrived on, the number of the first of them, and the greatest packet told
pub record Window (T : Type 0) : Type 0 where
  pub first : ℕ
  pub slots : List (Slot T)
  pub told : ℕ

-- a kept item that a packet carries
abbrev pub carried_by : {T : Type 0} → (packet : ℕ) → Slot T → Slot T
carried_by packet s = record s { carrier = Some packet; fate = None }

-- bit n modulo 256 tells whether the kept item numbered n is due, where the first has this number
pub record Marked {T : Type 0} (due : List ℕ) (first : ℕ) (slots : List (Slot T)) : Type 0 where
  pub each : (i : ℕ) (s : Slot T) → slice_get slots i ≡ Some s
      → bit_in due ((first + i) % 256) ≡ (if slot_due s then 1 else 0)

-- the window is right about the item of that number
pub record KeepsSlot {T : Type 0} (first : ℕ) (deeds : Deeds T) (n : ℕ) (s : Slot T) : Type 0 where
  pub item : slice_get (items_of deeds) (n - first) ≡ Some s.item
  pub carrier : s.carrier ≡ carrier_of deeds n
  pub fate : (k : ℕ) → s.carrier ≡ Some k → s.fate ≡ fate_of deeds k

-- the window, which began at a number, stands for what it was told
pub record Stands {T : Type 0} (w : Window T) (first : ℕ) (deeds : Deeds T) : Type 0 where
  pub least : w.first ≡ least_of first deeds
  pub count : length w.slots ≡ span_of first deeds
  pub each : (i : ℕ) (s : Slot T) → slice_get w.slots i ≡ Some s → KeepsSlot first deeds (w.first + i) s
  pub told : w.told ≡ told_of deeds
  pub unmade : (n : ℕ) → next_of first deeds ≤ n → carrier_of deeds n ≡ None

-- ---- what becomes of the items kept

-- the item of a number, if it is kept
abbrev pub item_kept : {T : Type 0} → Window T → (number : ℕ) → Option T
item_kept {T} w n =
    if nat_lt n w.first then None else option_map (λ (s : Slot T). s.item) (slice_get w.slots (n - w.first))

-- the least number at or above one whose kept item is due
abbrev pub FindsDue : {T : Type 0} → Window T → (from : ℕ) → Option ℕ → Type 0
FindsDue {T} w from None =
    (i : ℕ) (s : Slot T) → slice_get w.slots i ≡ Some s → from ≤ w.first + i → slot_due s ≡ false
FindsDue {T} w from (Some n) =
    (from ≤ n) × (w.first ≤ n) × (n < w.first + length w.slots)
    × ((s : Slot T) → slice_get w.slots (n - w.first) ≡ Some s → slot_due s ≡ true)
    × ((i : ℕ) (s : Slot T) → slice_get w.slots i ≡ Some s → from ≤ w.first + i → w.first + i < n → slot_due s ≡ false)

-- what is known of a packet once another moved: that one arrived, and those before it that weren't known of are lost
abbrev pub fate_then : (to packet : ℕ) → Option Bool → Option Bool
fate_then to k fate = elim fate [ Some arrived ↦ Some arrived | None ↦ if nat_le k to then Some (k == to) else None ]

-- a kept item after that
abbrev pub moved_to : {T : Type 0} → (to : ℕ) → Slot T → Slot T
moved_to to s = elim s.carrier [ None ↦ s | Some k ↦ record s { fate = fate_then to k s.fate } ]

-- what the move tells of a kept item's packet that wasn't known before
abbrev pub told_by : {T : Type 0} → (to : ℕ) → Slot T → Option Bool
told_by to s = elim s.carrier [
  | None ↦ None
  | Some k ↦ elim s.fate [ Some arrived ↦ None | None ↦ if nat_le k to then Some (k == to) else None ]
]

-- the items are settled, and those before the first that hasn't arrived leave
pub record Settles {T : Type 0} (settle : Slot T → Slot T) (packet : ℕ) (old new : Window T) : Type 0 where
  pub first : old.first ≤ new.first
  pub most : new.first ≤ old.first + length old.slots
  pub slots : new.slots ≡ drop (new.first - old.first) (map settle old.slots)
  pub gone : (i : ℕ) (s : Slot T) → i < new.first - old.first
      → slice_get (map settle old.slots) i ≡ Some s → slot_arrived s ≡ true
  pub next : (s : Slot T) → slice_get new.slots 0 ≡ Some s → slot_arrived s ≡ false
  pub told : new.told ≡ packet
