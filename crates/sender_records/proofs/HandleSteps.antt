-- What each deed and each comparison make of what is kept of a handle.
use Rattle.std.proofs.Common.{◌≡◌, ◌≢◌, ◌⊎◌, inl, inr, ℕ, ◌<◌, ◌≤◌, List, [], ◌∷◌, ◌++◌, Bool, true, false, cond, not, ◌==◌, ◌&&◌, ◌||◌, nat_le, nat_lt, refl, sym, ap, ◌∙◌, subst, arith, Option, Some, None, ℤ}
use Rattle.std.specs.Bool.{then_some}
use Rattle.std.specs.Ordering.{int_eq}
use Rattle.std.specs.List.{list_any}
use Rattle.std.proofs.lemmas.Bool.{false≢true, eq-eqb, ne_eqb, or_parts}
use Rattle.std.proofs.lemmas.Bool.Decides.{nat_tests, Decides-int_eq}
use Rattle.protocol_model.specs.Value.{Class, Pair, Segment, value_among}
use Rattle.protocol_model.specs.Packet.{Bunch}
use Rattle.protocol_model.specs.Payload.{Opens, Updates}
use Rattle.change_model.specs.Changes.{Sample}
use Rattle.protocol_model.specs.Search.{or_else, greatest_of, is_among}
use Rattle.protocol_model.specs.declared.Fate.{Fate}
use Rattle.protocol_model.specs.declared.Fate.TheVariants.{Open, Arrived, Lost}
use Rattle.connection_model.specs.Feed.{Past, Sent, Item, Loose}
use Rattle.connection_model.specs.Fates.{fate_of, is_lost, is_arrived, high_of, moved_of}
use Rattle.connection_model.specs.Bunches.{after_making}
use Rattle.connection_model.specs.State.{state_of, is_opened}
use Rattle.connection_model.specs.Carry.{Carry, carry_of, carry_in, carry_fate, is_due_pair, is_due_after, is_carried, has_arrived_with}
use Rattle.connection_model.specs.Items.{is_update_of}
use Rattle.sender_laws.specs.Acts.{MovesTo, are_sent}
use Rattle.sender_laws.specs.Items.{has_update}
use Rattle.sender_laws.specs.Values.{place_of, value_by, value_now}
use Rattle.sender_laws.proofs.Views.{carry_alike}
use Rattle.sender_laws.proofs.Opens.{carry_opened}
use Rattle.sender_laws.proofs.Sends.{carry_updated}
use Rattle.sender_laws.proofs.Fated.{fate_before, fate_after, fate_within, open_above}
use Rattle.sender_laws.proofs.Samples.{by_stays}
use Rattle.sender_laws.specs.Values.{AreAbove}
use Rattle.sender_records.specs.declared.handle.HandleRecord.{HandleRecord}
use Rattle.sender_records.specs.Handles.{no_handle, by_value, packet_kept, carry_kept, is_lost_packet, is_arrived_packet, IsFound, KeepsHandle, handle_opened, handle_carried, handle_changed, handle_compared, is_due_handle, is_moved, handle_moved}

-- ---- the open

-- an open carries the handles that it has, and of the others nothing is known
pub opened_keeps : (sent past : Past) → are_sent sent ≡ true
    → (ch : ℕ) (exports : List Segment) (a : ℕ) (class : Class) (values : List Pair) → has_update a sent ≡ false
    → (samples : List Sample) (compared tick h : ℕ) (updatable : Bool) → 1 ≤ tick
    → ((v : ℤ) → value_among values h ≡ Some v → h ≢ 3 → value_by samples compared (place_of h) ≡ Some v)
    → KeepsHandle (sent ++ after_making past ch (Opens exports a class values)) samples a compared tick h
    (by_value (handle_opened tick updatable) no_handle (value_among values h))
opened_keeps sent past e ch exports a class values none samples compared tick h updatable some now =
    by (value_among values h) (carry_opened sent past e ch exports a class values h none) now
  where
    later : Past
    later = sent ++ after_making past ch (Opens exports a class values)

    low : (b : Bool) → cond b tick 0 ≤ tick
    low true = omega arith
    low false = omega arith

    by : (o : Option ℤ) → carry_of (sent ++ after_making past ch (Opens exports a class values)) a h ≡ carry_in None o
        → ((v : ℤ) → o ≡ Some v → h ≢ 3 → value_by samples compared (place_of h) ≡ Some v)
        → KeepsHandle (sent ++ after_making past ch (Opens exports a class values)) samples a compared tick h
        (by_value (handle_opened tick updatable) no_handle o)
    by None c now =
        record {
          carry = c;
          lost = refl;
          arrived = refl;
          found = λ ne m u. absurd (omega (arith, some, u));
          before =
              omega arith;
        }
    by (Some v) c now = record {
      carry = c;
      lost = refl;
      arrived = refl;
      found = λ ne m u. record { carried = refl; lost = refl; value = now v refl ne };
      before = low updatable;
    }

-- ---- a comparison

not_due : (carried lost : Bool) (x v : ℤ) → (not carried || (lost || not (int_eq x v))) ≡ false
    → (carried ≡ true) × (lost ≡ false) × (x ≡ v)
not_due true false x v e = (refl, refl, equal x v e)
  where
    equal : (x y : ℤ) → not (int_eq x y) ≡ false → x ≡ y
    equal x y e = grind (arith, Decides-int_eq x y)
not_due true true x v e = absurd (false≢true (sym e))
not_due false lost x v e = absurd (false≢true (sym e))

is_in_sync : (carried lost : Bool) (x v : ℤ) → carried ≡ true → lost ≡ false → x ≡ v
    → (not carried || (lost || not (int_eq x v))) ≡ false
is_in_sync carried lost x v c l e =
    ap (λ (b : Bool). not b || (lost || not (int_eq x v))) c ∙ ap (λ (b : Bool). b || not (int_eq x v)) l ∙ same x v e
  where
    same : (x y : ℤ) → x ≡ y → not (int_eq x y) ≡ false
    same x y e = grind (arith, Decides-int_eq x y)

-- not a candidate
no_candidate : (marked names new role : Bool) → ((marked || names) || (new || role)) ≡ false
    → (marked ≡ false) × (names ≡ false) × (new ≡ false)
no_candidate false false false role e = (refl, refl, refl)
no_candidate true names new role e = absurd (false≢true (sym e))
no_candidate false true new role e = absurd (false≢true (sym e))
no_candidate false false true role e = absurd (false≢true (sym e))

same_number : (x y : ℕ) → not (x == y) ≡ false → x ≡ y
same_number x y e = grind (arith, nat_tests)

module _ (past : Past) (samples : List Sample) (a compared last h : ℕ) (k : HandleRecord)
    (keeps : KeepsHandle past samples a compared last h k) (names : Bool) (v : ℤ)
    (agrees : h ≢ 3 → value_now samples (place_of h) ≡ Some v)
    (stays : h ≢ 3 → names ≡ false → value_now samples (place_of h) ≡ value_by samples compared (place_of h)) where
  -- what is no candidate is in sync
  synced : h ≢ 3 → ((k.marked || names) || (not (k.updatable_at == last) || (h == 3))) ≡ false
      → (k.carried ≡ true) × (k.lost ≡ false) × (k.value ≡ v)
  synced ne e =
      let q = no_candidate k.marked names (not (k.updatable_at == last)) (h == 3) e in
      let f : IsFound samples compared h k = keeps.found ne q.0 (same_number k.updatable_at last q.2) in
      (f.carried, f.lost, equal (sym f.value ∙ sym (stays ne q.1) ∙ agrees ne))
    where
      equal : Some k.value ≡ Some v → k.value ≡ v
      equal e = cc

  -- nor is what was compared and isn't due
  compared_sync : h ≢ 3
      → (((k.marked || names) || (not (k.updatable_at == last) || (h == 3))) &&
      (not k.carried || (k.lost || not (int_eq k.value v)))) ≡ false
      → (k.carried ≡ true) × (k.lost ≡ false) × (k.value ≡ v)
  compared_sync ne e = by ((k.marked || names) || (not (k.updatable_at == last) || (h == 3))) refl e
    where
      by : (b : Bool) → ((k.marked || names) || (not (k.updatable_at == last) || (h == 3))) ≡ b
          → (b && (not k.carried || (k.lost || not (int_eq k.value v)))) ≡ false
          → (k.carried ≡ true) × (k.lost ≡ false) × (k.value ≡ v)
      by true p e = not_due k.carried k.lost k.value v e
      by false p e = synced ne p

  -- a candidate is marked exactly where it is due, and what is none isn't due
  pub marked_due : (((k.marked || names) || (not (k.updatable_at == last) || (h == 3))) &&
      (not k.carried || (k.lost || not (int_eq k.value v)))) ≡ is_due_handle k v
  marked_due = by ((k.marked || names) || (not (k.updatable_at == last) || (h == 3))) refl
    where
      other : ((k.marked || names) || (not (k.updatable_at == last) || (h == 3))) ≡ false → h ≢ 3
      other e q =
          absurd (false≢true (sym e ∙ role k.marked names (not (k.updatable_at == last)) (h == 3) (eq-eqb h 3 q)))
        where
          role : (x y z r : Bool) → r ≡ true → ((x || y) || (z || r)) ≡ true
          role true y z r e = refl
          role false true z r e = refl
          role false false true r e = refl
          role false false false r e = e

      by : (b : Bool) → ((k.marked || names) || (not (k.updatable_at == last) || (h == 3))) ≡ b
          → (b && (not k.carried || (k.lost || not (int_eq k.value v)))) ≡ is_due_handle k v
      by true p = refl
      by false p = (let q = synced (other p) p in sym (is_in_sync k.carried k.lost k.value v q.0 q.1 q.2))

-- a comparison keeps what is known of a handle, and finds again what it doesn't mark
pub compared_keeps : (past : Past) (samples : List Sample) (a compared now last tick h : ℕ) (k : HandleRecord)
    (names updatable : Bool) (o : Option ℤ)
    → KeepsHandle past samples a compared last h k → last < tick
    → ((v : ℤ) → o ≡ Some v → h ≢ 3 → value_now samples (place_of h) ≡ Some v)
    → ((v : ℤ) → o ≡ Some v → updatable ≡ true → h ≢ 3 → names ≡ false
    → value_now samples (place_of h) ≡ value_by samples compared (place_of h))
    → ((v : ℤ) → o ≡ Some v → h ≢ 3 → value_now samples (place_of h) ≡ value_by samples now (place_of h))
    → KeepsHandle past samples a now tick h (by_value (handle_compared last tick updatable (h == 3))
    (handle_changed names k) o)
compared_keeps past samples a compared now last tick h k names updatable None keeps later agrees stays current =
    record {
      carry = keeps.carry;
      lost = keeps.lost;
      arrived = keeps.arrived;
      found = λ ne m u. absurd (omega (arith, keeps.before, u, later));
      before = omega (arith, keeps.before, later);
    }
compared_keeps past samples a compared now last tick h k names false (Some v) keeps later agrees stays current =
    record {
      carry = keeps.carry;
      lost = keeps.lost;
      arrived = keeps.arrived;
      found = λ ne m u. absurd (omega (arith, keeps.before, u, later));
      before = omega (arith, keeps.before, later);
    }
compared_keeps past samples a compared now last tick h k names true (Some v) keeps later agrees stays current = record {
  carry = keeps.carry;
  lost = keeps.lost;
  arrived = keeps.arrived;
  found =
      λ ne m u. found ne
      (compared_sync past samples a compared last h k keeps names v (agrees v refl) (stays v refl refl) ne m);
  before = omega arith;
}
  where
    found : h ≢ 3 → (k.carried ≡ true) × (k.lost ≡ false) × (k.value ≡ v)
        → IsFound samples now h (handle_compared last tick true (h == 3) (handle_changed names k) v)
    found ne q = record {
      carried = q.0;
      lost = q.1;
      value = sym (current v refl ne) ∙ agrees v refl ne ∙ ap (λ (x : ℤ). let o : Option ℤ = Some x in o) (sym q.2);
    }

-- ---- what is due

fate_lost : (past : Past) (a : ℕ) (n : ℕ) (v : ℤ)
    → is_lost (carry_fate past a (record { packet = packet_kept n; value = v })) ≡ is_lost_packet past n
fate_lost past a n v = by (n == 0) (is_opened (state_of past a))
  where
    opened : (b : Bool) → is_lost (cond b Arrived Open) ≡ false
    opened true = refl
    opened false = refl

    by : (b opens : Bool)
        → is_lost (elim (cond b None (Some n)) [ Some packet ↦ fate_of past packet | None ↦ cond opens Arrived Open ])
        ≡ (not b && is_lost (fate_of past n))
    by true opens = opened opens
    by false opens = refl

-- a handle is due with a value as its record says
pub due_is : (past : Past) (samples : List Sample) (a compared last h : ℕ) (k : HandleRecord)
    → KeepsHandle past samples a compared last h k
    → (v : ℤ) → is_due_pair past a (record { handle = h; value = v }) ≡ is_due_handle k v
due_is past samples a compared last h k keeps v =
    ap (is_due_after past a (record { handle = h; value = v })) keeps.carry
    ∙ by k.carried
  where
    by : (b : Bool)
        → is_due_after past a (record { handle = h; value = v })
        (then_some b (record { packet = packet_kept k.packet; value = k.value })) ≡
        (not b || (k.lost || not (int_eq k.value v)))
    by true = ap (λ (x : Bool). x || not (int_eq k.value v)) (fate_lost past a k.packet k.value ∙ sym keeps.lost)
    by false = refl

-- ---- an update

carried_by : (packet : ℕ) (o : Option ℤ) (k : HandleRecord) (c : Option Carry) → 1 ≤ packet → c ≡ carry_kept k
    → or_else (carry_in (Some packet) o) c ≡ carry_kept (by_value (handle_carried packet) k o)
carried_by packet None k c some e = e
carried_by packet (Some v) k c some e =
    ap (λ (b : Bool). let o : Option Carry = Some (record { packet = cond b None (Some packet); value = v }) in o)
    (sym (ne_eqb packet 0 (λ z. absurd (omega (arith, some, z)))))

-- an update carries the handles that it has
pub updated_keeps : (packet t : ℕ) (items : List Item) (class : Class) (values : List Pair) (bunch : Bunch)
    (past : Past) (samples : List Sample) (a compared last h : ℕ) (k : HandleRecord)
    → list_any (is_update_of a) items ≡ false → high_of past < packet
    → ((v : ℤ) → value_among values h ≡ Some v → h ≢ 3 → value_by samples compared (place_of h) ≡ Some v)
    → KeepsHandle (Sent packet t items ∷ past) samples a compared last h k
    → KeepsHandle (Sent packet t (items ++ Loose (Updates a class values) bunch ∷ []) ∷ past) samples a compared last h
    (by_value (handle_carried packet) k (value_among values h))
updated_keeps packet t items class values bunch past samples a compared last h k none new now keeps =
    by (value_among values h)
    (carry_updated packet t items class values bunch past a h none
    ∙ carried_by packet (value_among values h) k (carry_of (Sent packet t items ∷ past) a h)
    (omega (arith, new)) keeps.carry) now
  where
    unlost : (b : Bool) → false ≡ (b && is_lost (fate_of past packet))
    unlost true = ap is_lost (sym (open_above past packet new))
    unlost false = refl

    unarrived : (b : Bool) → false ≡ (b && is_arrived (fate_of past packet))
    unarrived true = ap is_arrived (sym (open_above past packet new))
    unarrived false = refl

    by : (o : Option ℤ)
        → carry_of (Sent packet t (items ++ Loose (Updates a class values) bunch ∷ []) ∷ past) a h
        ≡ carry_kept (by_value (handle_carried packet) k o)
        → ((v : ℤ) → o ≡ Some v → h ≢ 3 → value_by samples compared (place_of h) ≡ Some v)
        → KeepsHandle (Sent packet t (items ++ Loose (Updates a class values) bunch ∷ []) ∷ past) samples a compared
        last h (by_value (handle_carried packet) k o)
    by None c now =
        record { carry = c; lost = keeps.lost; arrived = keeps.arrived; found = keeps.found; before = keeps.before }
    by (Some v) c now = record {
      carry = c;
      lost = unlost (not (packet == 0));
      arrived = unarrived (not (packet == 0));
      found = λ ne m u. record { carried = refl; lost = refl; value = now v refl ne };
      before = keeps.before;
    }

-- ---- fates

moved_within : (from to n : ℕ) → is_moved from to n ≡ true → (from < n) × (n ≤ to)
moved_within from to n e = (low from to n e, high from to n e)
  where
    low : (from to n : ℕ) → (not (nat_le n from) && nat_le n to) ≡ true → from < n
    low from to n e = grind (arith, nat_tests)

    high : (from to n : ℕ) → (not (nat_le n from) && nat_le n to) ≡ true → n ≤ to
    high from to n e = grind (arith, nat_tests)

moved_outside : (from to n : ℕ) → is_moved from to n ≡ false → (n ≤ from) ⊎ (to < n)
moved_outside from to n e = grind (arith, nat_tests)

fate_outside : (from to : ℕ) (past later : Past) → MovesTo from to past later → (n : ℕ) → is_moved from to n ≡ false
    → fate_of later n ≡ fate_of past n
fate_outside from to past later h n e = elim (moved_outside from to n e) [
  | inl q ↦ fate_before from to past later h n q
  | inr q ↦ fate_after from to past later h n q
]

-- a handle once it went in a packet of the move
abbrev moved_to : (to : ℕ) → HandleRecord → HandleRecord
moved_to to k =
    record k { arrived = k.packet == to; lost = not (k.packet == to); marked = k.marked || not (k.packet == to) }

module _ (from to : ℕ) (past later : Past) (m : MovesTo from to past later) (k : HandleRecord)
    (e : is_moved from to k.packet ≡ true) where
  not_open : (k.packet == 0) ≡ false
  not_open = ne_eqb k.packet 0 (λ z. absurd (omega (arith, (moved_within from to k.packet e).0, z)))

  fate_is : fate_of later k.packet ≡ cond (k.packet == to) Arrived Lost
  fate_is = (let q = moved_within from to k.packet e in fate_within from to past later m k.packet q.0 q.1)

  lost_is : not (k.packet == to) ≡ is_lost_packet later k.packet
  lost_is =
      sym (by (k.packet == to)) ∙ ap is_lost (sym fate_is)
      ∙ ap (λ (b : Bool). not b && is_lost (fate_of later k.packet)) (sym not_open)
    where
      by : (b : Bool) → is_lost (cond b Arrived Lost) ≡ not b
      by true = refl
      by false = refl

  arrived_is : (k.packet == to) ≡ is_arrived_packet later k.packet
  arrived_is =
      sym (by (k.packet == to)) ∙ ap is_arrived (sym fate_is)
      ∙ ap (λ (b : Bool). not b && is_arrived (fate_of later k.packet)) (sym not_open)
    where
      by : (b : Bool) → is_arrived (cond b Arrived Lost) ≡ b
      by true = refl
      by false = refl

  -- it is right where its carry is, and it is marked or was found before
  moved_is_kept : (samples : List Sample) (a compared last h : ℕ) → carry_of later a h ≡ carry_kept k
      → (h ≢ 3 → k.marked ≡ false → k.updatable_at ≡ last → IsFound samples compared h k) → k.updatable_at ≤ last
      → KeepsHandle later samples a compared last h (moved_to to k)
  moved_is_kept samples a compared last h carry found before = record {
    carry = carry;
    lost = lost_is;
    arrived = arrived_is;
    found = λ ne mk u.
        let q = or_parts k.marked (not (k.packet == to)) mk in
        let f : IsFound samples compared h k = found ne q.0 u in
        record { carried = f.carried; lost = q.1; value = f.value };
    before = before;
  }

-- a move makes of a handle what it makes of its carry
pub moved_keeps : (from to : ℕ) (past later : Past) → MovesTo from to past later
    → (samples : List Sample) (a compared last h : ℕ) (k : HandleRecord)
    → KeepsHandle past samples a compared last h k
    → KeepsHandle later samples a compared last h (handle_moved from to k)
moved_keeps from to past later m samples a compared last h k keeps = by (is_moved from to k.packet) refl
  where
    carry : carry_of later a h ≡ carry_kept k
    carry = carry_alike past later m.done a h ∙ keeps.carry

    by : (b : Bool) → is_moved from to k.packet ≡ b
        → KeepsHandle later samples a compared last h (cond b (moved_to to k) k)
    by true e = moved_is_kept from to past later m k e samples a compared last h carry keeps.found keeps.before
    by false e = record {
      carry = carry;
      lost =
          keeps.lost
          ∙ ap (λ (f : Fate). not (k.packet == 0) && is_lost f) (sym (fate_outside from to past later m k.packet e));
      arrived =
          keeps.arrived
          ∙ ap (λ (f : Fate). not (k.packet == 0) && is_arrived f) (sym (fate_outside from to past later m k.packet e));
      found = keeps.found;
      before = keeps.before;
    }

-- a move that is told again changes nothing that counts
pub again_keeps : (from to : ℕ) (past later : Past) → MovesTo from to past later
    → (samples : List Sample) (a compared last h : ℕ) (k : HandleRecord)
    → KeepsHandle later samples a compared last h k
    → KeepsHandle later samples a compared last h (handle_moved from to k)
again_keeps from to past later m samples a compared last h k keeps = by (is_moved from to k.packet) refl
  where
    by : (b : Bool) → is_moved from to k.packet ≡ b
        → KeepsHandle later samples a compared last h (cond b (moved_to to k) k)
    by true e = moved_is_kept from to past later m k e samples a compared last h keeps.carry keeps.found keeps.before
    by false e = keeps

-- a handle that went in no packet of the move
pub handle_apart : (from to : ℕ) (past later : Past) → MovesTo from to past later
    → (samples : List Sample) (a compared last h : ℕ) (k : HandleRecord) → is_moved from to k.packet ≡ false
    → KeepsHandle past samples a compared last h k → KeepsHandle later samples a compared last h k
handle_apart from to past later m samples a compared last h k apart keeps =
    subst (λ (b : Bool). KeepsHandle later samples a compared last h (cond b (moved_to to k) k)) apart
    (moved_keeps from to past later m samples a compared last h k keeps)

-- a move leaves the packet in which a handle went
pub packet_stays : (from to : ℕ) (k : HandleRecord) → (handle_moved from to k).packet ≡ k.packet
packet_stays from to k = by (is_moved from to k.packet)
  where
    by : (b : Bool) → (cond b (moved_to to k) k).packet ≡ k.packet
    by true = refl
    by false = refl

-- ---- what leaves it alone

-- where the carry and what moved stay
pub handle_same : (past later : Past) (samples : List Sample) (a compared last h : ℕ) (k : HandleRecord)
    → carry_of later a h ≡ carry_of past a h → moved_of later ≡ moved_of past
    → KeepsHandle past samples a compared last h k → KeepsHandle later samples a compared last h k
handle_same past later samples a compared last h k c m keeps = record {
  carry = c ∙ keeps.carry;
  lost = keeps.lost ∙ ap (λ (f : Fate). not (k.packet == 0) && is_lost f) (sym (fate_same k.packet));
  arrived = keeps.arrived ∙ ap (λ (f : Fate). not (k.packet == 0) && is_arrived f) (sym (fate_same k.packet));
  found = keeps.found;
  before = keeps.before;
}
  where
    fate_same : (n : ℕ) → fate_of later n ≡ fate_of past n
    fate_same n = ap (λ (ns : List ℕ). cond (nat_lt (greatest_of ns) n) Open (cond (is_among n ns) Arrived Lost)) m

-- later samples
pub sampled_keeps : (past : Past) (later samples : List Sample) (a compared last h : ℕ) (k : HandleRecord)
    → AreAbove compared later
    → KeepsHandle past samples a compared last h k → KeepsHandle past (later ++ samples) a compared last h k
sampled_keeps past later samples a compared last h k above keeps = record {
  carry = keeps.carry;
  lost = keeps.lost;
  arrived = keeps.arrived;
  found = λ ne m u.
      let f : IsFound samples compared h k = keeps.found ne m u in
      record {
        carried = f.carried;
        lost = f.lost;
        value = by_stays later samples compared (place_of h) above
            ∙ f.value;
      };
  before = keeps.before;
}

-- ---- what has arrived

-- it was carried with a value, and that has arrived, as its record says
pub carried_is : (past : Past) (samples : List Sample) (a compared last h : ℕ) (k : HandleRecord)
    → KeepsHandle past samples a compared last h k → (v : ℤ)
    → is_carried past a (record { handle = h; value = v })
    ≡ (k.carried && (cond (k.packet == 0) (is_opened (state_of past a)) k.arrived && int_eq k.value v))
carried_is past samples a compared last h k keeps v =
    ap (has_arrived_with past a (record { handle = h; value = v })) keeps.carry ∙ by k.carried
  where
    opened : (b : Bool) → is_arrived (cond b Arrived Open) ≡ b
    opened true = refl
    opened false = refl

    fate : (b opens : Bool)
        → is_arrived (elim (cond b None (Some k.packet)) [
          | Some packet ↦ fate_of past packet
          | None ↦
              cond opens Arrived Open
        ])
        ≡ cond b opens (not b && is_arrived (fate_of past k.packet))
    fate true opens = opened opens
    fate false opens = refl

    by : (b : Bool)
        → has_arrived_with past a (record { handle = h; value = v })
        (then_some b (record { packet = packet_kept k.packet; value = k.value }))
        ≡ (b && (cond (k.packet == 0) (is_opened (state_of past a)) k.arrived && int_eq k.value v))
    by true = ap (λ (x : Bool). x && int_eq k.value v)
        (fate (k.packet == 0) (is_opened (state_of past a)) ∙ ap
        (λ (x : Bool). cond (k.packet == 0) (is_opened (state_of past a)) x) (sym keeps.arrived))
    by false = refl
