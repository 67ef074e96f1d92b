-- What an item that goes into a packet changes.
use Rattle.std.proofs.Common.{◌≡◌, ℕ, ◌<◌, List, [], ◌∷◌, ◌++◌, Bool, true, false, cond, ◌==◌, ◌&&◌, ◌||◌, refl, sym, ap, ◌∙◌, Option, Some, None, ℤ, append-nil}
use Rattle.std.specs.List.{filter_map, cons_option, list_any, slice_get}
use Rattle.std.specs.Bool.{then_some}
use Rattle.std.proofs.lemmas.Bool.{false≢true, eqb-true, eq-eqb, and_parts}
use Rattle.std.proofs.lemmas.List.Elements.{filter_map-append}
use Rattle.std.proofs.lemmas.List.Folds.{list_any-append}
use Rattle.protocol_model.specs.Value.{Class, Pair, value_among}
use Rattle.protocol_model.specs.Packet.{Bunch}
use Rattle.protocol_model.specs.Payload.{Updates}
use Rattle.protocol_model.specs.Search.{newest_of, items_since, or_else, is_among}
use Rattle.connection_model.specs.Feed.{Past, Sent, Item, Owed, Carries, Loose}
use Rattle.connection_model.specs.Fates.{moved_of, high_of}
use Rattle.connection_model.specs.Bunches.{carrier_in, is_carried_as, has_arrived}
use Rattle.connection_model.specs.Carry.{Carry, update_carry, is_open_of, open_values, carry_in, carry_of, value_in_update}
use Rattle.connection_model.specs.Exports.{is_known}
use Rattle.connection_model.specs.Items.{last_service, is_update_of}
use Rattle.connection_laws.proofs.Arrivals.{arrival_is, carried_among}
use Rattle.connection_laws.proofs.ActorMarks.{SameArrivals}
use Rattle.sender_laws.specs.Items.{CarriesAwaited}
use Rattle.sender_laws.proofs.Views.{known_in}
use Rattle.sender_laws.proofs.Opens.{value_miss, values_missed}
use Rattle.protocol_laws.proofs.Greatest.{among_above}

-- ---- a packet without items

-- a packet without items changes nothing that has arrived
pub arrivals_begun : (k t : ℕ) (past : Past) → SameArrivals past (Sent k t [] ∷ past)
arrivals_begun k t past ch n = refl

-- ---- what has arrived

arrival_item : (k t : ℕ) (items : List Item) (item : Item) (past : Past) (ch n : ℕ) → high_of past < k
    → (is_carried_as ch n item ≡ true → has_arrived (Sent k t items ∷ past) ch n ≡ false)
    → has_arrived (Sent k t (items ++ item ∷ []) ∷ past) ch n ≡ has_arrived (Sent k t items ∷ past) ch n
arrival_item k t items item past ch n new awaited =
    arrival_is (Sent k t (items ++ item ∷ []) ∷ past) ch n
    ∙ ap (λ (x : Bool). carried_among (slice_get (cons_option (then_some x k) (filter_map (carrier_in ch n) past)) 0) (moved_of past))
    (list_any-append (is_carried_as ch n) items (item ∷ []))
    ∙ by (list_any (is_carried_as ch n) items) (is_carried_as ch n item) refl refl
    ∙ sym (arrival_is (Sent k t items ∷ past) ch n)
  where
    unmoved : is_among k (moved_of past) ≡ false
    unmoved = among_above k (moved_of past) new

    by : (x y : Bool) → list_any (is_carried_as ch n) items ≡ x → is_carried_as ch n item ≡ y
        → carried_among (slice_get (cons_option (then_some (x || (y || false)) k) (filter_map (carrier_in ch n) past)) 0) (moved_of past)
        ≡ carried_among (slice_get (cons_option (then_some x k) (filter_map (carrier_in ch n) past)) 0) (moved_of past)
    by true y e f = refl
    by false false e f = refl
    by false true e f =
        unmoved ∙ sym (awaited f) ∙ arrival_is (Sent k t items ∷ past) ch n
        ∙ ap (λ (x : Bool). carried_among (slice_get (cons_option (then_some x k) (filter_map (carrier_in ch n) past)) 0) (moved_of past)) e

-- an item with an awaited bunch changes nothing that has arrived
pub arrivals_sent : (k t : ℕ) (items : List Item) (item : Item) (past : Past) → high_of past < k
    → CarriesAwaited (Sent k t items ∷ past) item
    → SameArrivals (Sent k t items ∷ past) (Sent k t (items ++ item ∷ []) ∷ past)
arrivals_sent k t items (Owed x) past new awaited ch n =
    arrival_item k t items (Owed x) past ch n new (λ e. absurd (false≢true e))
arrivals_sent k t items (Loose m b) past new awaited ch n =
    arrival_item k t items (Loose m b) past ch n new (λ e. absurd (false≢true e))
arrivals_sent k t items (Carries c m b) past new awaited ch n =
    arrival_item k t items (Carries c m b) past ch n new here
  where
    here : ((c == ch) && (m == n)) ≡ true → has_arrived (Sent k t items ∷ past) ch n ≡ false
    here e =
        let q = and_parts (c == ch) (m == n) e in
        ap (λ (x : ℕ). has_arrived (Sent k t items ∷ past) x n) (sym (eqb-true c ch q.0))
        ∙ ap (λ (x : ℕ). has_arrived (Sent k t items ∷ past) c x) (sym (eqb-true m n q.1)) ∙ awaited

-- nor any segment known
pub known_sent : (k t : ℕ) (items : List Item) (item : Item) (past : Past) → high_of past < k
    → CarriesAwaited (Sent k t items ∷ past) item
    → (g : ℕ) → is_known (Sent k t (items ++ item ∷ []) ∷ past) g ≡ is_known (Sent k t items ∷ past) g
known_sent k t items item past new awaited g =
    known_in (Sent k t items ∷ past) (Sent k t (items ++ item ∷ []) ∷ past)
    (arrivals_sent k t items item past new awaited) g (Sent k t (items ++ item ∷ []) ∷ past)

-- ---- service

-- an update serves its actor in the tick of its packet
pub service_sent : (k t : ℕ) (items : List Item) (item : Item) (past : Past) (a : ℕ)
    → last_service (Sent k t (items ++ item ∷ []) ∷ past) a
    ≡ cond (is_update_of a item) (Some t) (last_service (Sent k t items ∷ past) a)
service_sent k t items item past a =
    ap (λ (b : Bool). cond b (Some t) (last_service past a)) (list_any-append (is_update_of a) items (item ∷ []))
    ∙ by (list_any (is_update_of a) items) (is_update_of a item)
  where
    by : (x y : Bool)
        → cond (x || (y || false)) (Some t) (last_service past a)
        ≡ cond y (Some t) (cond x (Some t) (last_service past a))
    by true true = refl
    by true false = refl
    by false true = refl
    by false false = refl

-- ---- carries

carry_by : (k t : ℕ) (items : List Item) (past : Past) (a h : ℕ)
    → carry_of (Sent k t items ∷ past) a h
    ≡ or_else (carry_in (Some k) (newest_of (value_in_update a h) items)) (carry_of past a h)
carry_by k t items past a h = by (carry_in (Some k) (newest_of (value_in_update a h) items))
  where
    by : (o : Option Carry)
        → or_else (slice_get (cons_option o (filter_map (update_carry a h) (items_since (is_open_of a) past))) 0) (carry_in None (value_among (open_values past a) h))
        ≡ or_else o (carry_of past a h)
    by (Some c) = refl
    by None = refl

-- an item that is no update of the actor changes none of its carries
pub carry_kept : (k t : ℕ) (items : List Item) (item : Item) (past : Past) (a h : ℕ) → is_update_of a item ≡ false
    → carry_of (Sent k t (items ++ item ∷ []) ∷ past) a h ≡ carry_of (Sent k t items ∷ past) a h
carry_kept k t items item past a h e =
    carry_by k t (items ++ item ∷ []) past a h
    ∙ ap (λ (vs : List ℤ). or_else (carry_in (Some k) (slice_get vs 0)) (carry_of past a h)) (
    filter_map-append (value_in_update a h) items (item ∷ [])
    ∙ ap (λ (o : Option ℤ). filter_map (value_in_update a h) items ++ cons_option o []) (value_miss a h item e)
    ∙ append-nil (filter_map (value_in_update a h) items)
    )
    ∙ sym (carry_by k t items past a h)

-- an update carries its handles, where the packet holds no other of the actor
pub carry_updated : (k t : ℕ) (items : List Item) (class : Class) (values : List Pair) (bunch : Bunch) (past : Past) (a h : ℕ)
    → list_any (is_update_of a) items ≡ false
    → carry_of (Sent k t (items ++ Loose (Updates a class values) bunch ∷ []) ∷ past) a h
    ≡ or_else (carry_in (Some k) (value_among values h)) (carry_of (Sent k t items ∷ past) a h)
carry_updated k t items class values bunch past a h none =
    carry_by k t (items ++ Loose (Updates a class values) bunch ∷ []) past a h
    ∙ ap (λ (vs : List ℤ). or_else (carry_in (Some k) (slice_get vs 0)) (carry_of past a h)) (
    filter_map-append (value_in_update a h) items (Loose (Updates a class values) bunch ∷ [])
    ∙ ap (λ (vs : List ℤ). vs ++ cons_option (cond (a == a) (value_among values h) None) [])
    (values_missed a h items none)
    ∙ ap (λ (b : Bool). cons_option (cond b (value_among values h) None) []) (eq-eqb a a refl)
    )
    ∙ ap (λ (o : Option ℤ). or_else (carry_in (Some k) o) (carry_of past a h)) (only (value_among values h))
    ∙ ap (λ (o : Option Carry). or_else (carry_in (Some k) (value_among values h)) o) (sym before)
  where
    only : (o : Option ℤ) → slice_get (cons_option o []) 0 ≡ o
    only None = refl
    only (Some v) = refl

    before : carry_of (Sent k t items ∷ past) a h ≡ carry_of past a h
    before =
        carry_by k t items past a h
        ∙ ap (λ (vs : List ℤ). or_else (carry_in (Some k) (slice_get vs 0)) (carry_of past a h))
        (values_missed a h items none)
