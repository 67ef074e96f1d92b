-- For each handle of an actor the last bunch that held it, its carry, and whether the handle is due by that carry.
-- It is due where it was never carried, where its carry is lost, and where its value differs from the carry's.
use Rattle.std.specs.Prelude.{ℕ, ◌==◌, List, [], Bool, true, false, not, ◌&&◌, ◌||◌, Option, Some, None, filter, unwrap_or, option_map, if◌then◌else◌, ℤ}
use Rattle.std.specs.Ordering.{int_eq}
use Rattle.protocol_model.specs.Cond.{updatable}
use Rattle.protocol_model.specs.Value.{Prop, Pair, value_among, prop_at}
use Rattle.protocol_model.specs.Payload.{Opens, Updates}
use Rattle.connection_model.specs.Feed.{Past, Deed, Made, Sent, Item, Loose}
use Rattle.protocol_model.specs.Sight.{Seen}
use Rattle.protocol_model.specs.declared.Fate.{Fate}
use Rattle.protocol_model.specs.declared.Fate.TheVariants.{Open, Arrived}
use Rattle.connection_model.specs.Fates.{fate_of, is_arrived, is_lost}
use Rattle.connection_model.specs.State.{state_of, is_opened}
use Rattle.std.specs.Bool.{then_some}
use Rattle.protocol_model.specs.Search.{newest_of, or_else, items_since}

-- the packet of an update, or nothing for the open, and the value that it had
pub record Carry : Type 0 where
  pub packet : Option ℕ
  pub value : ℤ

-- a carry, where the bunch held the handle
abbrev pub carry_in : Option ℕ → Option ℤ → Option Carry
carry_in packet value = option_map (λ (v : ℤ). record { packet = packet; value = v }) value

-- the value of the handle in an update of the actor
abbrev pub value_in_update : (actor handle : ℕ) → Item → Option ℤ
value_in_update a h (Loose (Updates actor class values) bunch) = if actor == a then value_among values h else None
value_in_update a h item = None

-- the deed made a part of the actor's open
abbrev pub is_open_of : ℕ → Deed → Bool
is_open_of a (Made channel number (Opens exports actor class values) i) = actor == a
is_open_of a deed = false

-- the values of the actor's open that a deed made
abbrev pub open_values_in : ℕ → Deed → Option (List Pair)
open_values_in a (Made channel number (Opens exports actor class values) i) = then_some (actor == a) values
open_values_in a deed = None

-- the values of the present opening, which is the last open made
abbrev pub open_values : Past → ℕ → List Pair
open_values past a = unwrap_or (newest_of (open_values_in a) past) []

-- the carry of the handle in an update that the packet held
abbrev pub update_carry : (actor handle : ℕ) → Deed → Option Carry
update_carry a h (Sent number t items) = carry_in (Some number) (newest_of (value_in_update a h) items)
update_carry a h deed = None

-- the last bunch that held the handle, among the present opening and the updates sent after it
abbrev pub carry_of : Past → (actor handle : ℕ) → Option Carry
carry_of past a h =
    or_else (newest_of (update_carry a h) (items_since (is_open_of a) past))
    (carry_in None (value_among (open_values past a) h))

-- an open counts as arrived when all its parts have
abbrev pub carry_fate : Past → (actor : ℕ) → Carry → Fate
carry_fate past a carry =
    elim carry.packet
    [ Some packet ↦ fate_of past packet | None ↦ if is_opened (state_of past a) then Arrived else Open ]

-- each handle that an update may hold now; a switched-off custom handle stands in no sight
abbrev pub is_updatable : Seen → Pair → Bool
is_updatable seen p =
    unwrap_or (option_map (λ (prop : Prop). updatable prop.cond seen.owns true) (prop_at seen.class p.handle)) false

-- the handles of a sight's entry that an update may hold now, with their values
abbrev pub updatable_pairs : Seen → List Pair
updatable_pairs seen = filter (is_updatable seen) seen.values

-- the handle is due, by its carry
abbrev pub is_due_after : Past → (actor : ℕ) → Pair → Option Carry → Bool
is_due_after past a p None = true
is_due_after past a p (Some carry) = is_lost (carry_fate past a carry) || not (int_eq carry.value p.value)

-- no carry, a lost one, or one with another value than now
abbrev pub is_due_pair : Past → (actor : ℕ) → Pair → Bool
is_due_pair past a p = is_due_after past a p (carry_of past a p.handle)

-- the due handles with their values now, ascending
abbrev pub due_pairs : Past → Seen → List Pair
due_pairs past seen = filter (is_due_pair past seen.actor) (updatable_pairs seen)

-- the carry has arrived with the value
abbrev pub has_arrived_with : Past → (actor : ℕ) → Pair → Option Carry → Bool
has_arrived_with past a p None = false
has_arrived_with past a p (Some carry) = is_arrived (carry_fate past a carry) && int_eq carry.value p.value

-- the handle has a carry with the value now, and it has arrived
abbrev pub is_carried : Past → (actor : ℕ) → Pair → Bool
is_carried past a p = has_arrived_with past a p (carry_of past a p.handle)
