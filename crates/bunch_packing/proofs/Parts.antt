-- The parts of a message that was just made are offered one after another.
use Rattle.std.proofs.Common.{◌≡◌, ℕ, suc, ◌+◌, ◌-◌, ◌<◌, ◌≤◌, ◌==◌, List, ◌∷◌, map, Bool, true, false, not, ◌&&◌, ◌||◌, Option, Some, None, unwrap_or, refl, sym, ap, ◌∙◌, subst, arith, if◌then◌else◌}
use Rattle.std.specs.List.{range_with_len}
use Rattle.std.proofs.lemmas.Bool.{false≢true, ne_eqb}
use Rattle.protocol_model.specs.Packet.{Bunch}
use Rattle.protocol_model.specs.Payload.{Message, parts_of}
use Rattle.protocol_model.specs.Side.{Side}
use Rattle.connection_model.specs.Feed.{End, Past, Item, Carries}
use Rattle.connection_model.specs.Fates.{last_sent, high_of}
use Rattle.connection_model.specs.Bunches.{made_count, made_bunch, is_due, carrier_of, shows_need, option_fate, after_making}
use Rattle.connection_model.specs.Items.{carrying_item}
use Rattle.connection_model.specs.Pack.{Packing, part_item, fits_current, has_room, items_with, after_offer}
use Rattle.connection_laws.proofs.Arrivals.{carrier_made}
use Rattle.connection_laws.proofs.Counts.{made_count_made}
use Rattle.packing_laws.specs.Beginning.{after_offers}
use Rattle.packing_laws.specs.Sendings.{sent_all}
use Rattle.packing_laws.proofs.Packings.{offer_past}
use Rattle.channel_laws.specs.Known.{known, needed_by}
use Rattle.channel_laws.proofs.Known.{due_is}
use Rattle.channel_laws.proofs.Growing.{known_made, high_made, uncarried_above}
use Rattle.channel_laws.proofs.Making.{made_part}
use Rattle.link_end.specs.Link.{Link}
use Rattle.link_end.specs.Packs.{sent_now}
use Rattle.link_end.proofs.Offers.{offer_some, offer_none}
use Rattle.channel_table.specs.Channels.{Channels}
use Rattle.bunch_packing.specs.Both.{PacksBoth, IsOwing, is_packed}
use Rattle.bunch_packing.specs.Opens.{ArePartsOf, part_items}
use Rattle.bunch_packing.proofs.Offering.{made_all}
use Rattle.bunch_packing.proofs.Owing.{due_behind, due_before}
use Rattle.bunch_packing.proofs.Carrying.{item_is}
use Rattle.bunch_packing.proofs.Pushing.{same_last}
use Rattle.bunch_packing.proofs.Going.{packed_with, all_full}

-- ---- what is owing

-- a bunch that is owing isn't packed
not_packed : (p : Packing) (ch n : ℕ) → high_of p.past ≤ last_sent p.past → is_due (sent_now p) ch n ≡ true
    → is_packed p.packets ch n ≡ false
not_packed p ch n high e = by (is_packed p.packets ch n) refl (sym (due_behind p.past p.packets high ch n) ∙ e)
  where
    by : (b : Bool) → is_packed p.packets ch n ≡ b → (if is_packed p.packets ch n then false else is_due p.past ch n)
        ≡ true
        → is_packed p.packets ch n ≡ false
    by false q h = q
    by true q h = absurd (false≢true (sym (ap (λ (b : Bool). if b then false else is_due p.past ch n) q) ∙ h))

-- what isn't packed and was due before the packets is due still
still_due : (past : Past) (packets : List (List Item)) (ch n : ℕ) → high_of past ≤ last_sent past
    → is_packed packets ch n ≡ false → is_due past ch n ≡ true → is_due (sent_all past packets) ch n ≡ true
still_due past packets ch n high packed due =
    due_behind past packets high ch n
    ∙ ap (λ (b : Bool). if b then false else is_due past ch n) packed ∙ due

-- a bunch is as due as before where a message is made
due_made : (past : Past) (c : ℕ) (m : Message) (ch n : ℕ) → is_due (after_making past c m) ch n ≡ is_due past ch n
due_made past c m ch n =
    due_is (after_making past c m) ch n
    ∙ ap (needed_by (known (after_making past c m))) (carrier_made past c m ch n)
    ∙ by (carrier_of past ch n) ∙ sym (due_is past ch n)
  where
    by : (o : Option ℕ) → needed_by (known (after_making past c m)) o ≡ needed_by (known past) o
    by None = refl
    by (Some k) = ap (λ (x : Option Bool). not (unwrap_or x true)) (known_made past c m k)

-- a bunch above those that were made was never carried, so it is due
unmade_due : (past : Past) (ch n : ℕ) → carrier_of past ch n ≡ None → is_due past ch n ≡ true
unmade_due past ch n e = ap (λ (o : Option ℕ). shows_need (option_fate past o)) e

-- the parts of a message that is made in the middle of a tick
pub made_parts : (l : Link) (t : Channels) (end : End) (side : Side) (before : Past) (p : Packing) (ch : ℕ)
    (m : Message) → PacksBoth l t end side before p
    → ArePartsOf (record p { past = after_making p.past ch m }) ch (made_count p.past ch + 1) (parts_of m) m
made_parts l t end side before p ch m h = record {
  owing = λ i lt. (due i, omega arith, omega (arith, made_count_made p.past ch m, lt));
  carries = λ i lt. item_is (after_making p.past ch m) ch (made_count p.past ch + 1 + i)
      (made_bunch ch (made_count p.past ch + 1 + i) m i) (made_part p.past ch m i lt);
}
  where
    before_it : (i : ℕ) → is_due (sent_now p) ch (made_count p.past ch + 1 + i) ≡ true
    before_it i =
        unmade_due (sent_now p) ch (made_count p.past ch + 1 + i)
        (uncarried_above (sent_now p) h.table.made.carried ch (made_count p.past ch + 1 + i)
        (omega (arith, made_all p.past p.packets ch)))

    due : (i : ℕ) → is_due (sent_all (after_making p.past ch m) p.packets) ch (made_count p.past ch + 1 + i) ≡ true
    due i =
        let n : ℕ = made_count p.past ch + 1 + i in
        still_due (after_making p.past ch m) p.packets ch n
        (omega (arith, h.link.high, high_made p.past ch m, same_last p.past ch m))
        (not_packed p ch n h.link.high (before_it i))
        (due_made p.past ch m ch n ∙ due_before p.past p.packets h.link.high ch n (before_it i))

-- one bunch that was packed leaves the others owing
others_owing : (end : End) (p : Packing) (ch k n : ℕ) (b : Bunch) → high_of p.past ≤ last_sent p.past → p.full ≡ false
    → has_room end p (Carries ch k b) ≡ true → (k ≡ n → ⊥) → IsOwing p ch n
    → IsOwing (after_offer end p (Carries ch k b)) ch n
others_owing end p ch k n b high ready room other o =
    subst (λ (q : Packing). IsOwing q ch n) (sym (offer_some end p (Carries ch k b) ready room)) (
      still_due p.past (items_with p.packets fits (Carries ch k b)) ch n high
          (packed_with p.packets fits (Carries ch k b) ch n
          ∙ ap (λ (x : Bool). x || (ch == ch && k == n)) (not_packed p ch n high o.0)
          ∙ ap (λ (x : Bool). ch == ch && x) (ne_eqb k n other) ∙ no (ch == ch))
          (due_before p.past p.packets high ch n o.0),
      o.1,
      o.2,
    )
  where
    fits : Bool
    fits = fits_current end p.past p.packets (Carries ch k b)

    no : (x : Bool) → (x && false) ≡ false
    no true = refl
    no false = refl

-- ---- part by part

-- the items of the parts from the i-th on
abbrev pub parts_from : (channel first : ℕ) → Message → (count i : ℕ) → List Item
parts_from ch first m count i = map (part_item ch first m) (range_with_len i (count - i))

parts_first : (ch first : ℕ) (m : Message) (count i : ℕ) → i < count
    → parts_from ch first m count i ≡ part_item ch first m i ∷ parts_from ch first m count (i + 1)
parts_first ch first m count i lt =
    let less : count - i ≡ suc (count - (i + 1)) = omega (arith, lt) in
    ap (λ (k : ℕ). map (part_item ch first m) (range_with_len i k)) less

-- link and channels stand for what is packed by now, and the parts from the i-th on are left
pub record Parting (l : Link) (t : Channels) (end : End) (side : Side) (before : Past) (start : Packing)
    (ch first count : ℕ) (m : Message) (i : ℕ) : Type 0 where
  pub p : Packing
  pub both : PacksBoth l t end side before p
  pub is_ready : p.full ≡ false
  pub past : p.past ≡ start.past
  pub owing : (j : ℕ) → i ≤ j → j < count → IsOwing p ch (first + j)
  pub carries : (j : ℕ) → j < count → carrying_item p.past ch (first + j) ≡ Some (part_item ch first m j)
  pub rest : after_offers end p (parts_from ch first m count i) ≡ after_offers end start (part_items ch first m count)

pub parting_first : (l : Link) (t : Channels) (end : End) (side : Side) (before : Past) (p : Packing)
    (ch first count : ℕ) (m : Message) → PacksBoth l t end side before p → p.full ≡ false
    → ArePartsOf p ch first count m → Parting l t end side before p ch first count m 0
parting_first l t end side before p ch first count m h ready parts = record {
  p = p;
  both = h;
  is_ready = ready;
  past = refl;
  owing = λ j lo lt. parts.owing j lt;
  carries = parts.carries;
  rest = (
      let all : count - 0 ≡ count = omega arith in
      ap (λ (k : ℕ). after_offers end p (map (part_item ch first m) (range_with_len 0 k))) all);
}

module _ (l later : Link) (t told : Channels) (end : End) (side : Side) (before : Past) (start : Packing)
    (ch first count : ℕ) (m : Message) (i : ℕ) (g : Parting l t end side before start ch first count m i)
    (lt : i < count) where
  abbrev item : Item
  item = part_item ch first m i

  pub parting_on : has_room end g.p item ≡ true → PacksBoth later told end side before (after_offer end g.p item)
      → Parting later told end side before start ch first count m (i + 1)
  parting_on room both = record {
    p = after_offer end g.p item;
    both = both;
    is_ready = ap (λ (q : Packing). q.full) (offer_some end g.p item g.is_ready room) ∙ g.is_ready;
    past = offer_past end g.p item ∙ g.past;
    owing = λ j lo hi. others_owing end g.p ch (first + i) (first + j) (made_bunch ch (first + i) m i) g.both.link.high
        g.is_ready room (λ e. omega (arith, e, lo)) (g.owing j (omega (arith, lo)) hi);
    carries = λ j hi. ap (λ (past : Past). carrying_item past ch (first + j)) (offer_past end g.p item)
        ∙ g.carries j hi;
    rest = sym (ap (after_offers end g.p) (parts_first ch first m count i lt)) ∙ g.rest;
  }

  pub parting_full : has_room end g.p item ≡ false
      → after_offer end g.p item ≡ after_offers end start (part_items ch first m count)
  parting_full room =
      sym (all_full end (after_offer end g.p item) (parts_from ch first m count (i + 1))
      (ap (λ (q : Packing). q.full) (offer_none end g.p item g.is_ready room)))
      ∙ sym (ap (after_offers end g.p) (parts_first ch first m count i lt)) ∙ g.rest

pub parting_done : (l : Link) (t : Channels) (end : End) (side : Side) (before : Past) (start : Packing)
    (ch first count i : ℕ) (m : Message) → i ≡ count → (g : Parting l t end side before start ch first count m i)
    → g.p ≡ after_offers end start (part_items ch first m count)
parting_done l t end side before start ch first count i m e g =
    let none : count - i ≡ 0 = omega (arith, e) in
    sym (ap (λ (k : ℕ). after_offers end g.p (map (part_item ch first m) (range_with_len i k))) none) ∙ g.rest
