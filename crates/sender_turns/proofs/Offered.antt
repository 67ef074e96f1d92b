-- A sender behind items that it doesn't see.
use Rattle.std.proofs.Common.{◌≡◌, ◌∙◌, ℕ, zero, suc, ◌+◌, ◌<◌, ◌≤◌, ◌==◌, List, [], ◌∷◌, ◌++◌, map, Bool, true, false, cond, not, ◌&&◌, ◌||◌, nat_lt, refl, sym, ap, subst, arith}
use Rattle.std.specs.List.{range_with_len, list_any, AllByRecursion}
use Rattle.std.proofs.lemmas.Bool.{cond_both, and_parts, eqb-true, eq-eqb}
use Rattle.std.proofs.lemmas.List.Folds.{list_any-append}
use Rattle.protocol_model.specs.Payload.{Message, parts_of}
use Rattle.connection_model.specs.Feed.{End, Past, Sent, Item, Owed, Carries, Loose, tick_count}
use Rattle.connection_model.specs.Fates.{last_sent, high_of}
use Rattle.connection_model.specs.Bunches.{made_count, room, after_making, has_arrived}
use Rattle.connection_model.specs.Items.{is_update_of}
use Rattle.connection_model.specs.Pack.{Packing, has_room, fits_current, items_with, after_offer, after_open, part_item}
use Rattle.packing_laws.specs.Beginning.{after_offers}
use Rattle.packing_laws.specs.Sendings.{sent_all, CarryUnarrived}
use Rattle.packing_laws.proofs.Packings.{sent_all-cons, last_sent_all, high_all, offer_past, SentAll, sent_behind}
use Rattle.packing_laws.proofs.Sendings.{arrived_behind}
use Rattle.link_end.specs.Packs.{sent_now}
use Rattle.bunch_packing.specs.Opens.{part_items}
use Rattle.bunch_packing.proofs.Offering.{carry_with}
use Rattle.shadow_changes.specs.Samples.{Samples}
use Rattle.sender_laws.specs.Items.{CarriesAwaited}
use Rattle.sender_steps.specs.Sender.{Sender}
use Rattle.sender_steps.specs.Stands.{Keeps}
use Rattle.sender_turns.specs.Ticking.{IsUnseen, IsUnserved}
use Rattle.sender_turns.proofs.Packed.{keeps_begun, keeps_item}

-- ---- one item

-- packets that carry nothing that has arrived leave what has arrived
arrived_all : (past : Past) (packets : List (List Item)) → high_of past ≤ last_sent past
    → CarryUnarrived past packets → (ch n : ℕ) → has_arrived (sent_all past packets) ch n ≡ has_arrived past ch n
arrived_all past packets high carry ch n =
    let s : SentAll past packets = sent_behind past packets high carry in
    ap (λ (l : Past). has_arrived l ch n) s.is ∙ arrived_behind past s.sent s.sendings ch n

-- a bunch that it carries hasn't arrived
awaited_in : (past now : Past) (item : Item) → IsUnseen past item
    → ((ch n : ℕ) → has_arrived now ch n ≡ has_arrived past ch n) → CarriesAwaited now item
awaited_in past now (Owed number) h same = tt
awaited_in past now (Loose message bunch) h same = tt
awaited_in past now (Carries ch n bunch) h same =
    same ch n ∙ h.awaited ch n (ap (λ (b : Bool). b && n == n) (eq-eqb ch ch refl) ∙ eq-eqb n n refl)

module _ (s : Sender) (samples : Samples) (past : Past) (high : high_of past ≤ last_sent past) (item : Item)
    (unseen : IsUnseen past item) where
  -- the packet after some others, with these items
  abbrev packet : List (List Item) → List Item → Past
  packet packets items =
      Sent (last_sent (sent_all past packets) + 1) (tick_count (sent_all past packets)) items ∷ sent_all past packets

  above : (packets : List (List Item)) → high_of (sent_all past packets) < last_sent (sent_all past packets) + 1
  above packets = omega (arith, high, high_all past packets, last_sent_all past packets)

  awaited : (packets : List (List Item)) (items : List Item) → CarryUnarrived past (items ∷ packets)
      → CarriesAwaited (packet packets items) item
  awaited packets items carry =
      awaited_in past (packet packets items) item unseen
      (λ ch n. ap (λ (l : Past). has_arrived l ch n) (sym (sent_all-cons past items packets))
      ∙ arrived_all past (items ∷ packets) high carry ch n)

  more : (packets : List (List Item)) (items : List Item) → CarryUnarrived past (items ∷ packets)
      → Keeps s (packet packets items) samples → Keeps s (sent_all past ((items ++ item ∷ []) ∷ packets)) samples
  more packets items carry k =
      subst (λ (l : Past). Keeps s l samples) (sym (sent_all-cons past (items ++ item ∷ []) packets))
      (keeps_item s (last_sent (sent_all past packets) + 1) (tick_count (sent_all past packets)) items item
      (sent_all past packets) samples (above packets) (awaited packets items carry) unseen.other k)

  new : (packets : List (List Item)) → CarryUnarrived past packets → Keeps s (sent_all past packets) samples
      → Keeps s (sent_all past ((item ∷ []) ∷ packets)) samples
  new packets carry k =
      more packets [] ((λ ch n e. absurd (no e)), carry)
      (keeps_begun s (last_sent (sent_all past packets) + 1) (tick_count (sent_all past packets))
      (sent_all past packets) samples k)
    where
      no : false ≡ true → ⊥
      no e = cc

  current : (items : List Item) (packets : List (List Item)) → CarryUnarrived past (items ∷ packets)
      → Keeps s (sent_all past (items ∷ packets)) samples
      → Keeps s (sent_all past ((items ++ item ∷ []) ∷ packets)) samples
  current items packets carry k =
      more packets items carry (subst (λ (l : Past). Keeps s l samples) (sent_all-cons past items packets) k)

  keeps_with : (packets : List (List Item)) (b : Bool) → CarryUnarrived past packets
      → Keeps s (sent_all past packets) samples → Keeps s (sent_all past (items_with packets b item)) samples
  keeps_with [] true carry k = new [] carry k
  keeps_with [] false carry k = new [] carry k
  keeps_with (items ∷ packets) true carry k = current items packets carry k
  keeps_with (items ∷ packets) false carry k = new (items ∷ packets) carry k

-- an offer goes into a packet, or finds no room
by_offer : (P : Packing → Type 0) (end : End) (p : Packing) (item : Item) → P p → P (record p { full = true })
    → P (record p { packets = items_with p.packets (fits_current end p.past p.packets item) item })
    → P (after_offer end p item)
by_offer P end p item same full with =
    cond_both p.full p (cond (has_room end p item) went (record p { full = true })) P (λ e. same)
    (λ e. cond_both (has_room end p item) went (record p { full = true }) P (λ r. with) (λ r. full))
  where
    went : Packing
    went = record p { packets = items_with p.packets (fits_current end p.past p.packets item) item }

keeps_offer : (end : End) (s : Sender) (samples : Samples) (p : Packing) (item : Item)
    → high_of p.past ≤ last_sent p.past → CarryUnarrived p.past p.packets → IsUnseen p.past item
    → Keeps s (sent_now p) samples → Keeps s (sent_now (after_offer end p item)) samples
keeps_offer end s samples p item high carry unseen k =
    by_offer (λ q. Keeps s (sent_now q) samples) end p item k k
    (keeps_with s samples p.past high item unseen p.packets (fits_current end p.past p.packets item) carry k)

carry_offer : (end : End) (p : Packing) (item : Item) → CarryUnarrived p.past p.packets → IsUnseen p.past item
    → CarryUnarrived (after_offer end p item).past (after_offer end p item).packets
carry_offer end p item carry unseen =
    by_offer (λ q. CarryUnarrived q.past q.packets) end p item carry carry
    (carry_with p.past p.packets (fits_current end p.past p.packets item) item unseen.awaited carry)

-- ---- items after one another

pub keeps_offers : (end : End) (s : Sender) (samples : Samples) (p : Packing) (items : List Item)
    → high_of p.past ≤ last_sent p.past → CarryUnarrived p.past p.packets
    → AllByRecursion (IsUnseen p.past) items → Keeps s (sent_now p) samples
    → Keeps s (sent_now (after_offers end p items)) samples
keeps_offers end s samples p [] high carry unseen k = k
keeps_offers end s samples p (item ∷ items) high carry unseen k =
    keeps_offers end s samples (after_offer end p item) items
    (subst (λ (l : Past). high_of l ≤ last_sent l) (sym (offer_past end p item)) high)
    (carry_offer end p item carry unseen.0)
    (subst (λ (l : Past). AllByRecursion (IsUnseen l) items) (sym (offer_past end p item)) unseen.1)
    (keeps_offer end s samples p item high carry unseen.0 k)

-- parts of which none has arrived are such items
pub parts_unseen : (past : Past) (ch first : ℕ) (m : Message)
    → ((i : ℕ) → has_arrived past ch (first + i) ≡ false) → (count from : ℕ)
    → AllByRecursion (IsUnseen past) (map (part_item ch first m) (range_with_len from count))
parts_unseen past ch first m none zero from = tt
parts_unseen past ch first m none (suc count) from = (one, parts_unseen past ch first m none count (from + 1))
  where
    one : IsUnseen past (part_item ch first m from)
    one = record {
      other = λ a. refl;
      awaited = λ c n e. (
          let same = and_parts (ch == c) (first + from == n) e in
          subst (λ (x : ℕ). has_arrived past x n ≡ false) (eqb-true ch c same.0)
          (subst (λ (x : ℕ). has_arrived past ch x ≡ false) (eqb-true (first + from) n same.1) (none from)));
    }

-- ---- updates among what is packed

unserved_with : (a : ℕ) (packets : List (List Item)) (b : Bool) (item : Item) → is_update_of a item ≡ false
    → IsUnserved a packets → IsUnserved a (items_with packets b item)
unserved_with a packets b item other none = by packets b none
  where
    alone : list_any (is_update_of a) (item ∷ []) ≡ false
    alone = ap (λ (x : Bool). x || false) other

    new : (packets : List (List Item)) → IsUnserved a packets → IsUnserved a ((item ∷ []) ∷ packets)
    new packets none = ap (λ (x : Bool). x || list_any (list_any (is_update_of a)) packets) alone ∙ none

    more : (x y z : Bool) → y ≡ false → (x || z) ≡ false → ((x || y) || z) ≡ false
    more true y z e none = none
    more false y z e none = ap (λ (w : Bool). w || z) e ∙ none

    by : (packets : List (List Item)) (b : Bool) → IsUnserved a packets → IsUnserved a (items_with packets b item)
    by [] true none = new [] none
    by [] false none = new [] none
    by (items ∷ packets) true none =
        ap (λ (x : Bool). x || list_any (list_any (is_update_of a)) packets)
        (list_any-append (is_update_of a) items (item ∷ []))
        ∙ more (list_any (is_update_of a) items) (list_any (is_update_of a) (item ∷ []))
        (list_any (list_any (is_update_of a)) packets) alone none
    by (items ∷ packets) false none = new (items ∷ packets) none

pub unserved_offers : (end : End) (p : Packing) (items : List Item) (a : ℕ)
    → AllByRecursion (λ item. is_update_of a item ≡ false) items → IsUnserved a p.packets
    → IsUnserved a (after_offers end p items).packets
unserved_offers end p [] a others none = none
unserved_offers end p (item ∷ items) a others none =
    unserved_offers end (after_offer end p item) items a others.1
    (by_offer (λ q. IsUnserved a q.packets) end p item none none
    (unserved_with a p.packets (fits_current end p.past p.packets item) item others.0 none))

part_others : (ch first : ℕ) (m : Message) (a count from : ℕ)
    → AllByRecursion (λ item. is_update_of a item ≡ false) (map (part_item ch first m) (range_with_len from count))
part_others ch first m a zero from = tt
part_others ch first m a (suc count) from = (refl, part_others ch first m a count (from + 1))

pub unserved_open : (end : End) (p : Packing) (ch : ℕ) (m : Message) (a : ℕ) → IsUnserved a p.packets
    → IsUnserved a (after_open end p ch m).packets
unserved_open end p ch m a none =
    cond_both (nat_lt (room p.past ch) (parts_of m)) p
    (cond (not (has_room end p (part_item ch (made_count p.past ch + 1) m 0))) (record p { full = true }) made)
    (λ q. IsUnserved a q.packets) (λ e. none)
    (λ e. cond_both (not (has_room end p (part_item ch (made_count p.past ch + 1) m 0))) (record p { full = true })
    made (λ q. IsUnserved a q.packets) (λ r. none)
    (λ r. unserved_offers end (record p { past = after_making p.past ch m })
    (part_items ch (made_count p.past ch + 1) m (parts_of m)) a
    (part_others ch (made_count p.past ch + 1) m a (parts_of m) 0) none))
  where
    made : Packing
    made = after_offers end (record p { past = after_making p.past ch m })
        (part_items ch (made_count p.past ch + 1) m (parts_of m))
