-- How a tick begins and ends for link and channels.
use Rattle.std.proofs.Common.{◌≡◌, ℕ, ◌+◌, ◌≤◌, List, [], ◌∷◌, map, reverse, length, Bool, true, false, ◌||◌, nat_lt, nat_le, Option, Some, refl, sym, ap, ◌∙◌, subst, arith, if◌then◌else◌}
use Rattle.std.specs.List.{list_any, fold, AllByRecursion}
use Rattle.std.proofs.lemmas.Bool.{false≢true, cond_both, lt-ltb}
use Rattle.protocol_model.specs.Side.{Side}
use Rattle.protocol_model.specs.Sight.{Seen}
use Rattle.protocol_model.specs.Limits.{unresolved_limit}
use Rattle.connection_model.specs.Feed.{End, Past, Ended, ByStall, Item, Owed, tick_count}
use Rattle.connection_model.specs.Fates.{last_sent, high_of, owed_of, unresolved_count}
use Rattle.connection_model.specs.Bunches.{made_count, is_carried_as}
use Rattle.connection_model.specs.Pack.{Packing, fits_current, has_room, items_with, after_offer, after_packing, after_sending, after_stall, packets_to_send, owes_head, is_silent}
use Rattle.packing_laws.specs.Beginning.{ticked, nothing_packed, after_offers, beginning}
use Rattle.packing_laws.specs.Sendings.{CarryUnarrived}
use Rattle.packing_laws.proofs.Packings.{offer_past}
use Rattle.channel_laws.proofs.Alike.{alike_ticked, alike_sent, alike_ended}
use Rattle.link_end.specs.Link.{Link}
use Rattle.link_end.specs.Packs.{Packs, sent_now}
use Rattle.link_end.proofs.Offers.{offer_some, offer_none}
use Rattle.channel_table.specs.Channels.{Channels}
use Rattle.channel_table.specs.Keeps.{Keeps}
use Rattle.channel_table.proofs.Kept.{keeps_unseen}
use Rattle.bunch_packing.specs.Both.{PacksBoth, NonePacked, IsLow, is_packed}
use Rattle.bunch_packing.proofs.Carrying.{keeps_loose}
use Rattle.bunch_packing.proofs.Going.{packed_with, all_full}

-- ---- items that are no bunches made

-- the item is no bunch made
abbrev pub IsOther : Item → Type 0
IsOther item = (ch n : ℕ) → is_carried_as ch n item ≡ false

-- what link and channels don't see in what is packed
pub record Quiet (t : Channels) (side : Side) (past : Past) (p : Packing) : Type 0 where
  pub same : p.past ≡ past
  pub table : Keeps t side (sent_now p)
  pub none : NonePacked p

quiet_offer : (t : Channels) (end : End) (side : Side) (past : Past) (p : Packing) (item : Item)
    → high_of past ≤ last_sent past → IsOther item → Quiet t side past p → Quiet t side past (after_offer end p item)
quiet_offer t end side past p item high other q = by p.full (has_room end p item) refl refl
  where
    number : ℕ
    number = last_sent p.past + length (after_offer end p item).packets

    none_in : (b : Bool) (ch n : ℕ) → is_packed (items_with p.packets b item) ch n ≡ false
    none_in b ch n =
        packed_with p.packets b item ch n ∙ ap (λ (x : Bool). x || is_carried_as ch n item) (q.none ch n) ∙ other ch n

    by : (full room : Bool) → p.full ≡ full → has_room end p item ≡ room → Quiet t side past (after_offer end p item)
    by true room f r = subst (Quiet t side past) (sym (all_full end p (item ∷ []) f)) q
    by false false f r =
        subst (Quiet t side past) (sym (offer_none end p item f r))
        (record { same = q.same; table = q.table; none = q.none })
    by false true f r = record {
      same = offer_past end p item ∙ q.same;
      table =
          keeps_loose t end side p item (omega (arith, ap high_of q.same, ap last_sent q.same, high)) q.table f number
          (ap (λ (b : Bool). if b then Some number else Option.None) (sym r)) other;
      none =
          subst NonePacked (sym (offer_some end p item f r))
          (none_in (fits_current end p.past p.packets item));
    }

quiet_offers : (t : Channels) (end : End) (side : Side) (past : Past) (p : Packing) (items : List Item)
    → high_of past ≤ last_sent past → AllByRecursion IsOther items → Quiet t side past p
    → Quiet t side past (after_offers end p items)
quiet_offers t end side past p [] high all q = q
quiet_offers t end side past p (item ∷ items) high all q =
    quiet_offers t end side past (after_offer end p item) items high all.1
    (quiet_offer t end side past p item high all.0 q)

owed_other : (ns : List ℕ) → AllByRecursion IsOther (map Owed ns)
owed_other [] = tt
owed_other (n ∷ ns) = (λ ch k. refl, owed_other ns)

none_unarrived : (past : Past) (packets : List (List Item)) → ((ch n : ℕ) → is_packed packets ch n ≡ false)
    → CarryUnarrived past packets
none_unarrived past [] h = tt
none_unarrived past (items ∷ packets) h = (
  λ ch n e. absurd (false≢true (sym (first (list_any (is_carried_as ch n) items) (is_packed packets ch n) (h ch n))
      ∙ e)),
  none_unarrived past packets
      (λ ch n. second (list_any (is_carried_as ch n) items) (is_packed packets ch n) (h ch n)),
)
  where
    first : (a b : Bool) → (a || b) ≡ false → a ≡ false
    first true b e = e
    first false b e = refl

    second : (a b : Bool) → (a || b) ≡ false → b ≡ false
    second true b e = absurd (false≢true (sym e))
    second false b e = e

-- ---- a tick begins

pub offers_past : (end : End) (p : Packing) (items : List Item) → (after_offers end p items).past ≡ p.past
offers_past end p [] = refl
offers_past end p (item ∷ items) = offers_past end (after_offer end p item) items ∙ offer_past end p item

quiet_beginning : (t : Channels) (end : End) (side : Side) (past : Past) (sight : List Seen)
    → high_of past ≤ last_sent past → Keeps t side past
    → Quiet t side (ticked past sight) (beginning end past sight)
quiet_beginning t end side past sight high h =
    quiet_offers t end side (ticked past sight) (nothing_packed (ticked past sight))
    (map Owed (owed_of end.version past))
    high (owed_other (owed_of end.version past))
    (record {
      same = refl;
      table =
          keeps_unseen t side past (ticked past sight) (alike_ticked (tick_count past + 1) sight past)
          (record { received = λ ch. refl; channels = refl; handed = refl }) h;
      none = λ ch n. refl;
    })

-- without channels too
none_offers : (end : End) (p : Packing) (items : List Item) → AllByRecursion IsOther items → NonePacked p
    → NonePacked (after_offers end p items)
none_offers end p [] all h = h
none_offers end p (item ∷ items) all h =
    none_offers end (after_offer end p item) items all.1 (by p.full (has_room end p item) refl refl)
  where
    none_in : (b : Bool) (ch n : ℕ) → is_packed (items_with p.packets b item) ch n ≡ false
    none_in b ch n =
        packed_with p.packets b item ch n ∙ ap (λ (x : Bool). x || is_carried_as ch n item) (h ch n) ∙ all.0 ch n

    by : (full room : Bool) → p.full ≡ full → has_room end p item ≡ room → NonePacked (after_offer end p item)
    by true room f r = subst NonePacked (sym (all_full end p (item ∷ []) f)) h
    by false false f r = subst NonePacked (sym (offer_none end p item f r)) h
    by false true f r =
        subst NonePacked (sym (offer_some end p item f r)) (none_in (fits_current end p.past p.packets item))

pub none_at_first : (end : End) (past : Past) (sight : List Seen) → NonePacked (beginning end past sight)
none_at_first end past sight =
    none_offers end (nothing_packed (ticked past sight)) (map Owed (owed_of end.version past))
    (owed_other (owed_of end.version past)) (λ ch n. refl)

pub begins : (l : Link) (t : Channels) (end : End) (side : Side) (past : Past) (sight : List Seen)
    → Packs l end past (beginning end past sight) → Keeps t side past → IsLow end.version past
    → PacksBoth l t end side past (beginning end past sight)
begins l t end side past sight link table low =
    let items : List Item = map Owed (owed_of end.version past) in
    let same : (beginning end past sight).past ≡ ticked past sight =
    offers_past end (nothing_packed (ticked past sight)) items in
    let high : high_of past ≤ last_sent past =
    omega (arith, link.high, ap high_of same, ap last_sent same) in
    record {
      link = link;
      table = (quiet_beginning t end side past sight high table).table;
      unarrived =
          none_unarrived (beginning end past sight).past (beginning end past sight).packets
          (none_at_first end past sight);
      low = λ ch le. ap (λ (l : Past). made_count l ch) same ∙ low ch le;
    }

-- ---- a tick ends

stalled : (t : Channels) (side : Side) (past : Past) → Keeps t side past → Keeps t side (after_stall past)
stalled t side past h =
    cond_both (nat_le unresolved_limit (unresolved_count past)) (Ended ByStall ∷ past) past (Keeps t side)
    (λ e. keeps_unseen t side past (Ended ByStall ∷ past) (alike_ended ByStall past)
    (record { received = λ ch. refl; channels = refl; handed = refl }) h)
    (λ e. h)

empty_sent : (t : Channels) (side : Side) (past : Past) → Keeps t side past → Keeps t side (after_sending past [])
empty_sent t side past h =
    keeps_unseen t side past (after_sending past [])
    (alike_sent (last_sent past + 1) (tick_count past) [] past (λ ch n. refl))
    (record { received = λ ch. refl; channels = refl; handed = refl }) h

pub ends : (t : Channels) (end : End) (side : Side) (before : Past) (p : Packing) → Keeps t side (sent_now p)
    → Keeps t side (after_packing end before p)
ends t end side before p h = stalled t side (fold after_sending p.past (packets_to_send end before p)) (by p.packets h)
  where
    by : (packets : List (List Item)) → Keeps t side (fold after_sending p.past (reverse packets))
        → Keeps t side (fold after_sending p.past (packets_to_send end before
        (record { past = p.past; packets = packets; full = p.full })))
    by [] h =
        cond_both (owes_head end.version before || is_silent p.past) ([] ∷ []) []
        (λ (packets : List (List Item)). Keeps t side (fold after_sending p.past packets))
        (λ e. empty_sent t side p.past h) (λ e. h)
    by (items ∷ packets) h =
        cond_both (nat_lt 0 (length (items ∷ packets))) (reverse (items ∷ packets))
        (if owes_head end.version before || is_silent p.past then [] ∷ [] else [])
        (λ (packets : List (List Item)). Keeps t side (fold after_sending p.past packets))
        (λ e. h) (λ e. absurd (false≢true (sym e ∙ lt-ltb 0 (length (items ∷ packets)) (omega arith))))

-- a packet sent makes nothing
sent_made : (past : Past) (packets : List (List Item)) (ch : ℕ)
    → made_count (fold after_sending past packets) ch ≡ made_count past ch
sent_made past [] ch = refl
sent_made past (items ∷ packets) ch = sent_made (after_sending past items) packets ch

pub ends_made : (end : End) (before : Past) (p : Packing) (ch : ℕ)
    → made_count (after_packing end before p) ch ≡ made_count p.past ch
ends_made end before p ch =
    cond_both (nat_le unresolved_limit (unresolved_count sent)) (Ended ByStall ∷ sent) sent
    (λ (past : Past). made_count past ch ≡ made_count sent ch) (λ e. refl) (λ e. refl)
    ∙ sent_made p.past (packets_to_send end before p) ch
  where
    sent : Past
    sent = fold after_sending p.past (packets_to_send end before p)
