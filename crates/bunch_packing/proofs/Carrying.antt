-- A bunch that was made goes into a packet.
use Rattle.std.proofs.Common.{◌≡◌, ◌⊎◌, inl, inr, ℕ, ◌+◌, ◌<◌, ◌≤◌, List, [], ◌∷◌, ◌++◌, length, Bool, true, false, ◌&&◌, ◌==◌, Option, Some, None, option_map, refl, sym, ap, ◌∙◌, subst, arith}
use Rattle.std.proofs.lemmas.Bool.{false≢true, eqb-true, and_parts}
use Rattle.protocol_model.specs.Packet.{Bunch, Sends}
use Rattle.protocol_model.specs.Search.{newest_of}
use Rattle.protocol_model.specs.Side.{Side}
use Rattle.connection_model.specs.Feed.{End, Past, Sent, Item, Carries}
use Rattle.connection_model.specs.Fates.{last_sent, high_of}
use Rattle.connection_model.specs.Bunches.{made_count, has_arrived, is_due, is_carried_as}
use Rattle.connection_model.specs.Items.{made_as, carrying_item}
use Rattle.connection_model.specs.Pack.{Packing, fits_current, has_room, items_with, after_offer}
use Rattle.connection_laws.proofs.Items.{due_unarrived}
use Rattle.channel_laws.proofs.Carrying.{alike_with}
use Rattle.channel_laws.proofs.Hearing.{heard_sent}
use Rattle.outgoing_channels.specs.Keeps.{kept_bunch}
use Rattle.link_end.specs.Link.{Link}
use Rattle.link_end.specs.Rests.{IsSpent}
use Rattle.link_end.specs.Begun.{IsPackable}
use Rattle.link_end.specs.Packs.{Packs, sent_now}
use Rattle.link_end.proofs.Offers.{offer_some}
use Rattle.channel_table.specs.Channels.{Channels}
use Rattle.channel_table.specs.Keeps.{Keeps}
use Rattle.channel_table.proofs.Kept.{keeps_unseen}
use Rattle.bunch_packing.specs.Both.{PacksBoth, IsOwing, packet_for}
use Rattle.bunch_packing.proofs.Offering.{Takes, takes, both_after}
use Rattle.bunch_packing.proofs.Owing.{due_kept, made_behind, due_before, found_packable}

-- ---- the bunch that is owing

pub record Owed (past : Past) (ch n : ℕ) (found : Option Bunch) : Type 0 where
  pub bunch : Bunch
  pub made : newest_of (made_as ch n) past ≡ Some bunch
  pub kept : found ≡ Some bunch

pub owed : (l : Link) (t : Channels) (end : End) (side : Side) (before : Past) (p : Packing) (ch n : ℕ)
    → PacksBoth l t end side before p → IsOwing p ch n → Owed p.past ch n (kept_bunch (sent_now p) ch n)
owed l t end side before p ch n h o =
    let kept = due_kept t.made (sent_now p) ch n h.table.made o.0 o.1
    (omega (arith, o.2, Rattle.bunch_packing.proofs.Offering.made_all p.past p.packets ch)) in
    record { bunch = kept.bunch; made = sym (made_behind p.past p.packets ch n) ∙ kept.made; kept = kept.kept }

-- the item that carries it
pub item_is : (past : Past) (ch n : ℕ) (b : Bunch) → newest_of (made_as ch n) past ≡ Some b
    → carrying_item past ch n ≡ Some (Carries ch n b)
item_is past ch n b e = ap (option_map (λ (bunch : Bunch). Carries ch n bunch)) e

some_item : (x y : Item) → ◌≡◌ {A = Option Item} (Some x) (Some y) → x ≡ y
some_item x y e = cc

pub is_item : (past : Past) (ch n : ℕ) (b : Bunch) (item : Item) → newest_of (made_as ch n) past ≡ Some b
    → carrying_item past ch n ≡ Some item → Carries ch n b ≡ item
is_item past ch n b item made e = some_item (Carries ch n b) item (sym (item_is past ch n b made) ∙ e)

-- ---- what may be asked of the channels

-- the channels may be told that this packet carries it
pub record MayTell (t : Channels) (ch n packet : ℕ) : Type 0 where
  pub side : Side
  pub past : Past
  pub time : ℕ
  pub items : List Item
  pub keeps : Keeps t side (Sent packet time items ∷ past)
  pub due : is_due (Sent packet time items ∷ past) ch n ≡ true
  pub some : 1 ≤ n
  pub made : n ≤ made_count past ch
  pub above : t.high < packet

some_number : (x y : ℕ) → ◌≡◌ {A = Option ℕ} (Some x) (Some y) → x ≡ y
some_number x y e = cc

-- where an offer answers a packet there was room
pub had_room : (end : End) (p : Packing) (item : Item) (packet : ℕ)
    → ◌≡◌ {A = Option ℕ} (Some packet) (packet_for end p item)
    → (has_room end p item ≡ true) × (packet ≡ last_sent p.past + length (after_offer end p item).packets)
had_room end p item packet e = by (has_room end p item) refl
  where
    by : (b : Bool) → has_room end p item ≡ b
        → (has_room end p item ≡ true) × (packet ≡ last_sent p.past + length (after_offer end p item).packets)
    by true q = (q, some_number packet (last_sent p.past + length (after_offer end p item).packets) (e ∙ rw q refl))
    by false q = absurd (let none : ◌≡◌ {A = Option ℕ} (Some packet) None = e ∙ rw q refl in cc)

pub had_none : (end : End) (p : Packing) (item : Item) → ◌≡◌ {A = Option ℕ} None (packet_for end p item)
    → has_room end p item ≡ false
had_none end p item e = by (has_room end p item) refl
  where
    by : (b : Bool) → has_room end p item ≡ b → has_room end p item ≡ false
    by false q = q
    by true q = absurd (let none : ◌≡◌ {A = Option ℕ} None (Some
        (last_sent p.past + length (after_offer end p item).packets)) = e ∙ rw q refl in cc)

-- the packets after an offer that found room
more_packets : (end : End) (p : Packing) (item : Item) → p.full ≡ false → has_room end p item ≡ true
    → (after_offer end p item).packets ≡ items_with p.packets (fits_current end p.past p.packets item) item
more_packets end p item ready room = ap (λ (q : Packing). q.packets) (offer_some end p item ready room)

module _ (t : Channels) (end : End) (side : Side) (p : Packing) (item : Item)
    (high : high_of p.past ≤ last_sent p.past) (table : Keeps t side (sent_now p)) (ready : p.full ≡ false)
    (packet : ℕ) (answer : ◌≡◌ {A = Option ℕ} (Some packet) (packet_for end p item)) where
  taking : Takes p.past p.packets (fits_current end p.past p.packets item) item
  taking = takes end p.past p.packets item high (fits_current end p.past p.packets item) refl

  number_is : packet ≡ last_sent p.past + length (items_with p.packets (fits_current end p.past p.packets item) item)
  number_is =
      let r = had_room end p item packet answer in
      r.1 ∙ ap (λ (packets : List (List Item)). last_sent p.past + length packets) (more_packets end p item ready r.0)

  now_is : sent_now (after_offer end p item) ≡ Sent packet taking.time (taking.items ++ item ∷ []) ∷ taking.below
  now_is =
      let r = had_room end p item packet answer in
      ap sent_now (offer_some end p item ready r.0) ∙ taking.now
      ∙ ap (λ (n : ℕ). Sent n taking.time (taking.items ++ item ∷ []) ∷ taking.below) (sym number_is)

  keeps_begun : Keeps t side (Sent packet taking.time taking.items ∷ taking.below)
  keeps_begun =
      subst (λ (n : ℕ). Keeps t side (Sent n taking.time taking.items ∷ taking.below)) (sym number_is)
      (taking.begun t side table)

  pub may_tell : (ch n : ℕ) → IsOwing p ch n → MayTell t ch n packet
  may_tell ch n o = record {
    side = side;
    past = taking.below;
    time = taking.time;
    items = taking.items;
    keeps = keeps_begun;
    due = ap (λ (n' : ℕ). is_due (Sent n' taking.time taking.items ∷ taking.below) ch n) number_is
        ∙ taking.due ch n ∙ o.0;
    some = o.1;
    made = omega (arith, o.2, taking.made ch);
    above = omega (arith, keeps_begun.high, taking.high, taking.number, number_is);
  }

  -- an item that is no bunch made
  pub keeps_loose : ((ch n : ℕ) → is_carried_as ch n item ≡ false) → Keeps t side (sent_now (after_offer end p item))
  keeps_loose none =
      subst (Keeps t side) (sym now_is)
      (keeps_unseen t side (Sent packet taking.time taking.items ∷ taking.below)
      (Sent packet taking.time (taking.items ++ item ∷ []) ∷ taking.below)
      (alike_with packet taking.time taking.items item taking.below none)
      (heard_sent packet taking.time taking.items (taking.items ++ item ∷ []) taking.below) keeps_begun)

  -- what the channels were told
  pub keeps_told : (told : Channels) → ((side : Side) (past : Past) (time : ℕ) (items : List Item)
      → Keeps t side (Sent packet time items ∷ past) → Keeps told side (Sent packet time (items ++ item ∷ []) ∷ past))
      → Keeps told side (sent_now (after_offer end p item))
  keeps_told told f =
      subst (Keeps told side) (sym now_is) (f side taking.below taking.time taking.items keeps_begun)

-- ---- link and channels after it

-- an unreliable bunch, whether it finds room or not
pub loose_packs : (l later : Link) (t : Channels) (end : End) (side : Side) (before : Past) (p : Packing) (item : Item)
    (packet : Option ℕ) → PacksBoth l t end side before p → p.full ≡ false
    → packet ≡ packet_for end p item → ((ch n : ℕ) → is_carried_as ch n item ≡ false)
    → Packs later end before (after_offer end p item) → PacksBoth later t end side before (after_offer end p item)
loose_packs l later t end side before p item packet h ready answer none link =
    both_after l later t t end side before p item h ready link (λ e. refl)
    (λ e ch n q. absurd (false≢true (sym (none ch n) ∙ q))) (λ e. by packet answer e)
  where
    by : (packet : Option ℕ) → packet ≡ packet_for end p item → has_room end p item ≡ true
        → Keeps t side (sent_now (after_offer end p item))
    by (Some packet) answer e = keeps_loose t end side p item h.link.high h.table ready packet answer none
    by None answer e = absurd (false≢true (sym (had_none end p item answer) ∙ e))

-- a bunch that was made, and its packet
pub made_packs : (l later : Link) (t told : Channels) (end : End) (side : Side) (before : Past) (p : Packing)
    (ch n packet : ℕ) (b : Bunch) → PacksBoth l t end side before p → p.full ≡ false → IsOwing p ch n
    → ◌≡◌ {A = Option ℕ} (Some packet) (packet_for end p (Carries ch n b))
    → ((side : Side) (past : Past) (time : ℕ) (items : List Item) (bunch : Bunch)
    → Keeps t side (Sent packet time items ∷ past)
    → Keeps told side (Sent packet time (items ++ Carries ch n bunch ∷ []) ∷ past))
    → Packs later end before (after_offer end p (Carries ch n b))
    → PacksBoth later told end side before (after_offer end p (Carries ch n b))
made_packs l later t told end side before p ch n packet b h ready o answer f link =
    let r = had_room end p (Carries ch n b) packet answer in
    both_after l later t told end side before p (Carries ch n b) h ready link
    (λ e. absurd (false≢true (sym e ∙ r.0)))
    (λ e c k q. unarrived c k q)
    (λ e. keeps_told t end side p (Carries ch n b) h.link.high h.table ready packet answer told
    (λ side past time items. f side past time items b))
  where
    unarrived : (c k : ℕ) → (ch == c && n == k) ≡ true → has_arrived p.past c k ≡ false
    unarrived c k q =
        let same = and_parts (ch == c) (n == k) q in
        ap (λ (x : ℕ). has_arrived p.past x k) (sym (eqb-true ch c same.0))
        ∙ ap (has_arrived p.past ch) (sym (eqb-true n k same.1))
        ∙ due_unarrived p.past ch n (due_before p.past p.packets h.link.high ch n o.0)

-- and one that found no room
pub made_full : (l later : Link) (t : Channels) (end : End) (side : Side) (before : Past) (p : Packing) (item : Item)
    → PacksBoth l t end side before p → p.full ≡ false
    → ◌≡◌ {A = Option ℕ} None (packet_for end p item)
    → Packs later end before (after_offer end p item) → PacksBoth later t end side before (after_offer end p item)
made_full l later t end side before p item h ready answer link =
    let none = had_none end p item answer in
    both_after l later t t end side before p item h ready link (λ e. refl)
    (λ e. absurd (false≢true (sym none ∙ e))) (λ e. absurd (false≢true (sym none ∙ e)))

-- ---- no item found no room yet

-- a link that packs isn't spent
pub not_spent : {A : Type 0} (l : Link) (end : End) (before : Past) (p : Packing) → Packs l end before p
    → IsSpent l ⊎ A → A
not_spent l end before p h (inl s) = absurd (false≢true (sym h.kept ∙ s))
not_spent l end before p h (inr a) = a

some_bunch : (x y : Bunch) → ◌≡◌ {A = Option Bunch} (Some x) (Some y) → x ≡ y
some_bunch x y e = cc

-- the bunch that the channels give is the one that was made
pub given : (l : Link) (t : Channels) (end : End) (side : Side) (before : Past) (p : Packing) (ch n : ℕ) (b : Bunch)
    → PacksBoth l t end side before p → IsOwing p ch n
    → ◌≡◌ {A = Option Bunch} (Some b) (kept_bunch (sent_now p) ch n) → newest_of (made_as ch n) p.past ≡ Some b
given l t end side before p ch n b h o e =
    let owing = owed l t end side before p ch n h o in
    owing.made ∙ ap (λ (b : Bunch). Some b) (sym (some_bunch b owing.bunch (e ∙ owing.kept)))

-- and it has a spelling
pub given_packable : (l : Link) (t : Channels) (end : End) (side : Side) (before : Past) (p : Packing) (ch n : ℕ)
    (b : Bunch) → PacksBoth l t end side before p → IsOwing p ch n
    → ◌≡◌ {A = Option Bunch} (Some b) (kept_bunch (sent_now p) ch n) → IsPackable end.version (Sends b)
given_packable l t end side before p ch n b h o e =
    found_packable end.version p.past ch n b h.low o.1 o.2 (given l t end side before p ch n b h o e)
