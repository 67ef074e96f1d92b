-- The carries of an actor's handles as they are kept, and how they follow from what the end did.
use Rattle.std.specs.Prelude.{◌≡◌, ◌≢◌, ℕ, ◌≤◌, ◌<◌, slice_get, ◌==◌, List, [], ◌∷◌, map, Bool, true, false, not, ◌&&◌, ◌||◌, Option, Some, None, unwrap_or, option_map, slice_index_or, nat_le, max, if◌then◌else◌, ℤ, pos, ⊤}
use Rattle.std.specs.Bool.{then_some}
use Rattle.std.specs.List.{list_any}
use Rattle.std.specs.Ordering.{int_eq}
use Rattle.protocol_model.specs.Cond.{updatable}
use Rattle.protocol_model.specs.Value.{Class, Pair, Prop, value_among, prop_at}
use Rattle.change_model.specs.Changes.{Sample, changes_since, value_count}
use Rattle.value_codec.specs.Values.{whole_of}
use Rattle.value_codec.specs.declared.pair.Pair.{Pair as PairValue}
use Rattle.shadow_changes.specs.declared.change.Change.{Change as ChangeValue}
use Rattle.shadow_changes.specs.Samples.{change_value}
use Rattle.connection_model.specs.Feed.{Past, tick_count}
use Rattle.connection_model.specs.Fates.{fate_of, is_lost, is_arrived}
use Rattle.connection_model.specs.Carry.{Carry, carry_of}
use Rattle.sender_laws.specs.Values.{place_of, value_by, value_now, tick_now}
use Rattle.sender_records.specs.declared.handle.HandleRecord.{HandleRecord}

-- what is kept of the handles of an actor that is open: a tick up to which each change was looked at, the
-- connection's tick of the last comparison or of the open, and a record a handle
pub record HandlesKept : Type 0 where
  pub compared : ℕ
  pub last : ℕ
  pub handles : List HandleRecord

-- nothing is known of a handle
abbrev pub no_handle : HandleRecord
no_handle = record {
  carried = false;
  packet = 0;
  value = pos 0;
  lost = false;
  arrived = false;
  updatable_at = 0;
  marked = false;
}

-- the record of a handle
abbrev pub handle_in : List HandleRecord → (handle : ℕ) → HandleRecord
handle_in handles h = slice_index_or handles h no_handle

-- nothing is known of any
abbrev pub no_handles : HandlesKept
no_handles = record { compared = 0; last = 0; handles = [] }

-- a property with its value
abbrev pub pair_value : PairValue → Pair
pair_value p = record { handle = p.prop; value = whole_of p.value }

abbrev pub pairs_of : List PairValue → List Pair
pairs_of values = map pair_value values

-- ---- the relation

-- 0 stands for the open
abbrev pub packet_kept : ℕ → Option ℕ
packet_kept n = if n == 0 then None else Some n

-- the carry that is kept
abbrev pub carry_kept : HandleRecord → Option Carry
carry_kept k = then_some k.carried (record { packet = packet_kept k.packet; value = k.value })

-- an update's packet is lost, or has arrived
abbrev pub is_lost_packet : Past → ℕ → Bool
is_lost_packet past n = not (n == 0) && is_lost (fate_of past n)

abbrev pub is_arrived_packet : Past → ℕ → Bool
is_arrived_packet past n = not (n == 0) && is_arrived (fate_of past n)

-- a handle that isn't marked and was updatable at the last comparison isn't due: its carry isn't lost, and has the
-- value of the sample compared last; the role is compared each time
pub record IsFound (samples : List Sample) (compared handle : ℕ) (k : HandleRecord) : Type 0 where
  pub carried : k.carried ≡ true
  pub lost : k.lost ≡ false
  pub value : value_by samples compared (place_of handle) ≡ Some k.value

-- what is kept of a handle is right
pub record KeepsHandle (past : Past) (samples : List Sample) (actor compared last handle : ℕ) (k : HandleRecord)
    : Type 0 where
  pub carry : carry_of past actor handle ≡ carry_kept k
  pub lost : k.lost ≡ is_lost_packet past k.packet
  pub arrived : k.arrived ≡ is_arrived_packet past k.packet
  pub found : handle ≢ 3 → k.marked ≡ false → k.updatable_at ≡ last → IsFound samples compared handle k
  pub before : k.updatable_at ≤ last

-- what is kept of the handles is right
pub record KeepsHandles (past : Past) (samples : List Sample) (actor : ℕ) (t : HandlesKept) : Type 0 where
  pub each : (h : ℕ) → KeepsHandle past samples actor t.compared t.last h (handle_in t.handles h)
  pub compared : t.compared ≤ tick_now samples
  pub some : 1 ≤ t.last
  pub now : t.last ≤ tick_count past

-- ---- values that are shown

-- each handle stands once
abbrev pub AreApart : List Pair → Type 0
AreApart [] = ⊤
AreApart (p ∷ pairs) = (value_among pairs p.handle ≡ None) × AreApart pairs

-- an update may hold the handle of an actor of this class
abbrev pub is_updatable_in : Class → (owns : Bool) → (handle : ℕ) → Bool
is_updatable_in class owns h =
    unwrap_or (option_map (λ (p : Prop). updatable p.cond owns true) (prop_at class h)) false

-- ---- what becomes of a handle

-- by the value that is given it, if one is
abbrev pub by_value : (HandleRecord → ℤ → HandleRecord) → HandleRecord → Option ℤ → HandleRecord
by_value f k None = k
by_value f k (Some v) = f k v

-- the open carries it
abbrev pub handle_opened : (tick : ℕ) → (updatable : Bool) → HandleRecord → ℤ → HandleRecord
handle_opened tick updatable k v =
    record no_handle { carried = true; value = v; updatable_at = if updatable then tick else 0 }

-- an update in a packet carries it
abbrev pub handle_carried : (packet : ℕ) → HandleRecord → ℤ → HandleRecord
handle_carried packet k v = record k {
  carried = true;
  packet = packet;
  value = v;
  lost = false;
  arrived = false;
  marked = false;
}

-- a change of it is named
abbrev pub handle_changed : (changed : Bool) → HandleRecord → HandleRecord
handle_changed changed k = record k { marked = k.marked || changed }

-- it is due with this value
abbrev pub is_due_handle : HandleRecord → ℤ → Bool
is_due_handle k v = not k.carried || (k.lost || not (int_eq k.value v))

-- it is compared, where it is updatable
abbrev pub handle_compared : (last tick : ℕ) → (updatable role : Bool) → HandleRecord → ℤ → HandleRecord
handle_compared last tick updatable role k v =
    if updatable then record k {
      marked = (k.marked || (not (k.updatable_at == last) || role)) && is_due_handle k v;
      updatable_at = tick;
    } else k

-- packets between two numbers became known
abbrev pub is_moved : (from to packet : ℕ) → Bool
is_moved from to n = not (nat_le n from) && nat_le n to

abbrev pub handle_moved : (from to : ℕ) → HandleRecord → HandleRecord
handle_moved from to k =
    if is_moved from to k.packet then record k {
      arrived = k.packet == to;
      lost = not (k.packet == to);
      marked = k.marked || not (k.packet == to);
    } else k

-- a change of the handle is among these
abbrev pub names_change : List ChangeValue → (handle : ℕ) → Bool
names_change changes h = list_any (λ (c : ChangeValue). c.prop == h) changes

-- the greatest tick of these and of one before
abbrev pub newest_change : (before : ℕ) → List ChangeValue → ℕ
newest_change before [] = before
newest_change before (c ∷ changes) = newest_change (max before c.tick) changes

-- each of these handles is below a number
abbrev pub AllBelow : ℕ → List PairValue → Type 0
AllBelow n values = (i : ℕ) (p : PairValue) → slice_get values i ≡ Some p → p.prop < n

-- the values are those of the newest sample, but for the role, which has none
abbrev pub Agrees : List Sample → List Pair → Type 0
Agrees samples values = (h : ℕ) (v : ℤ) → value_among values h ≡ Some v → h ≢ 3
    → (place_of h < value_count samples) × (value_now samples (place_of h) ≡ Some v)

-- the values are those of the newest sample, which was taken at this tick, each handle once
pub record AreNewest (samples : List Sample) (newest : ℕ) (values : List PairValue) : Type 0 where
  pub apart : AreApart (pairs_of values)
  pub agrees : Agrees samples (pairs_of values)
  pub tick : newest ≡ tick_now samples

-- the values are those of the newest sample, each handle once, and the changes are those noted above a tick
pub record IsSampled (samples : List Sample) (since : ℕ) (values : List PairValue) (changes : List ChangeValue)
    : Type 0 where
  pub apart : AreApart (pairs_of values)
  pub agrees : Agrees samples (pairs_of values)
  pub told : map change_value changes ≡ changes_since samples since
