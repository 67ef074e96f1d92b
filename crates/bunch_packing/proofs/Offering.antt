-- The packet that takes an item, and what link and channels are right about after it.
use Rattle.std.proofs.Common.{◌≡◌, inl, inr, ℕ, suc, ◌+◌, ◌<◌, ◌≤◌, List, [], ◌∷◌, ◌++◌, length, Bool, true, false, ◌||◌, Option, Some, refl, sym, ap, ◌∙◌, subst, arith}
use Rattle.std.specs.List.{list_any}
use Rattle.std.proofs.lemmas.Bool.{false≢true, cases_Bool}
use Rattle.std.proofs.lemmas.List.Folds.{list_any-append}
use Rattle.protocol_model.specs.Side.{Side}
use Rattle.connection_model.specs.Feed.{End, Past, Sent, Item, tick_count}
use Rattle.connection_model.specs.Fates.{last_sent, high_of}
use Rattle.connection_model.specs.Bunches.{made_count, has_arrived, is_due, is_carried_as}
use Rattle.connection_model.specs.Pack.{Packing, fits_current, has_room, items_with, after_offer}
use Rattle.packing_laws.specs.Sendings.{sent_all, CarriesUnarrived, CarryUnarrived}
use Rattle.packing_laws.proofs.Packings.{sent_all-cons, last_sent_all, high_all, unseen_all, offer_past}
use Rattle.packing_laws.proofs.Sendings.{due_sent}
use Rattle.link_end.specs.Link.{Link, Begun}
use Rattle.link_end.specs.Packs.{Packs, sent_now, begun_of}
use Rattle.link_end.proofs.Offers.{offer_some, offer_none}
use Rattle.channel_laws.proofs.Alike.{alike_sent}
use Rattle.channel_table.specs.Channels.{Channels}
use Rattle.channel_table.specs.Keeps.{Keeps}
use Rattle.channel_table.proofs.Kept.{keeps_unseen}
use Rattle.bunch_packing.specs.Both.{PacksBoth}

-- ---- the packets after an offer

-- the packet that takes the item, as it was, and the past below it
pub record Takes (past : Past) (packets : List (List Item)) (in_current : Bool) (item : Item) : Type 0 where
  pub time : ℕ
  pub items : List Item
  pub below : Past
  pub now : sent_all past (items_with packets in_current item)
      ≡ Sent (last_sent past + length (items_with packets in_current item)) time (items ++ item ∷ []) ∷ below
  pub high : high_of below ≡ high_of past
  pub number : high_of past < last_sent past + length (items_with packets in_current item)
  pub made : (ch : ℕ) → made_count below ch ≡ made_count past ch
  pub due : (ch n : ℕ)
      → is_due (Sent (last_sent past + length (items_with packets in_current item)) time items ∷ below) ch n
      ≡ is_due (sent_all past packets) ch n
  pub begun : (t : Channels) (side : Side) → Keeps t side (sent_all past packets)
      → Keeps t side (Sent (last_sent past + length (items_with packets in_current item)) time items ∷ below)

pub made_all : (past : Past) (packets : List (List Item)) (ch : ℕ)
    → made_count (sent_all past packets) ch ≡ made_count past ch
made_all past packets ch = unseen_all (λ l. made_count l ch) (λ before items. refl) past packets

new_begun : (t : Channels) (side : Side) (past : Past) (number time : ℕ) → Keeps t side past
    → Keeps t side (Sent number time [] ∷ past)
new_begun t side past number time h =
    keeps_unseen t side past (Sent number time [] ∷ past) (alike_sent number time [] past (λ ch n. refl))
    (record { received = λ ch. refl; channels = refl; handed = refl }) h

-- a new packet
takes_new : (past : Past) (packets : List (List Item)) (item : Item) → high_of past ≤ last_sent past
    → (more : List (List Item)) → more ≡ (item ∷ []) ∷ packets
    → items_with packets false item ≡ more → Takes past packets false item
takes_new past packets item high more is e =
    let with : items_with packets false item ≡ (item ∷ []) ∷ packets = e ∙ is in
    let number : ℕ = last_sent past + length (items_with packets false item) in
    let is_number : last_sent (sent_all past packets) + 1 ≡ number =
    omega (arith, last_sent_all past packets, ap length with) in
    record {
      time = tick_count (sent_all past packets);
      items = [];
      below = sent_all past packets;
      now = ap (sent_all past) with ∙ sent_all-cons past (item ∷ []) packets
          ∙ ap (λ (n : ℕ). Sent n (tick_count (sent_all past packets)) (item ∷ []) ∷ sent_all past packets) is_number;
      high = high_all past packets;
      number = omega (arith, high, ap length with);
      made = made_all past packets;
      due = λ ch n. due_sent (sent_all past packets) number (tick_count (sent_all past packets)) [] ch n
          (omega (arith, high, ap length with, high_all past packets));
      begun = λ t side h. new_begun t side (sent_all past packets) number (tick_count (sent_all past packets)) h;
    }

-- the current packet
takes_current : (past : Past) (current : List Item) (packets : List (List Item)) (item : Item)
    → high_of past ≤ last_sent past → Takes past (current ∷ packets) true item
takes_current past current packets item high =
    let number : ℕ = last_sent past + suc (length packets) in
    let time : ℕ = tick_count (sent_all past packets) in
    let is_number : last_sent (sent_all past packets) + 1 ≡ number = omega (arith, last_sent_all past packets) in
    let was : sent_all past (current ∷ packets) ≡ Sent number time current ∷ sent_all past packets =
    sent_all-cons past current packets
    ∙ ap (λ (n : ℕ). Sent n time current ∷ sent_all past packets) is_number in
    record {
      time = time;
      items = current;
      below = sent_all past packets;
      now = sent_all-cons past (current ++ item ∷ []) packets
          ∙ ap (λ (n : ℕ). Sent n time (current ++ item ∷ []) ∷ sent_all past packets) is_number;
      high = high_all past packets;
      number = omega (arith, high);
      made = made_all past packets;
      due = λ ch n. ap (λ (l : Past). is_due l ch n) (sym was);
      begun = λ t side h. subst (Keeps t side) was h;
    }

pub takes : (end : End) (past : Past) (packets : List (List Item)) (item : Item) → high_of past ≤ last_sent past
    → (b : Bool) → fits_current end past packets item ≡ b → Takes past packets b item
takes end past packets item high false e = takes_new past packets item high ((item ∷ []) ∷ packets) refl (new packets)
  where
    new : (packets : List (List Item)) → items_with packets false item ≡ (item ∷ []) ∷ packets
    new [] = refl
    new (current ∷ packets) = refl
takes end past [] item high true e = absurd (false≢true e)
takes end past (current ∷ packets) item high true e = takes_current past current packets item high

-- ---- what is carried

carries_with : (past : Past) (items : List Item) (item : Item)
    → ((ch n : ℕ) → is_carried_as ch n item ≡ true → has_arrived past ch n ≡ false)
    → CarriesUnarrived past items → CarriesUnarrived past (items ++ item ∷ [])
carries_with past items item one h ch n e =
    by (list_any (is_carried_as ch n) items) (is_carried_as ch n item) refl refl
    (sym (list_any-append (is_carried_as ch n) items (item ∷ [])) ∙ e)
  where
    by : (a b : Bool) → list_any (is_carried_as ch n) items ≡ a → is_carried_as ch n item ≡ b
        → (list_any (is_carried_as ch n) items || (is_carried_as ch n item || false)) ≡ true
        → has_arrived past ch n ≡ false
    by true b f g q = h ch n f
    by false true f g q = one ch n g
    by false false f g q = absurd (false≢true (sym (ap (λ x. x || (is_carried_as ch n item || false)) f
        ∙ ap (λ x. x || false) g) ∙ q))

pub carry_with : (past : Past) (packets : List (List Item)) (b : Bool) (item : Item)
    → ((ch n : ℕ) → is_carried_as ch n item ≡ true → has_arrived past ch n ≡ false)
    → CarryUnarrived past packets → CarryUnarrived past (items_with packets b item)
carry_with past [] b item one h = (carries_with past [] item one (λ ch n e. absurd (false≢true e)), h)
carry_with past (current ∷ packets) true item one h = (carries_with past current item one h.0, h.1)
carry_with past (current ∷ packets) false item one h =
    (carries_with past [] item one (λ ch n e. absurd (false≢true e)), h)

-- ---- link and channels

some_begun : (x y : Begun) → (let o : Option Begun = Some x in o) ≡ Some y → x ≡ y
some_begun x y e = cc

-- whether an item found no room is told by the link alone
pub same_full : (l : Link) (end other : End) (before earlier : Past) (p q : Packing) → Packs l end before p
    → Packs l other earlier q → p.full ≡ false → q.full ≡ false
same_full l end other before earlier p q h k e =
    ap (λ (b : Begun). b.full) (some_begun (begun_of other q) (begun_of end p) (sym k.begun ∙ h.begun)) ∙ e

-- the offer as one of two
pub by_room : (end : End) (p : Packing) (item : Item) (P : Packing → Type 0) → p.full ≡ false
    → (has_room end p item ≡ true
    → P (record p { packets = items_with p.packets (fits_current end p.past p.packets item) item }))
    → (has_room end p item ≡ false → P (record p { full = true })) → P (after_offer end p item)
by_room end p item P ready some none = elim (cases_Bool (has_room end p item)) [
  | inl e ↦ subst P (sym (offer_some end p item ready e)) (some e)
  | inr e ↦ subst P (sym (offer_none end p item ready e)) (none e)
]

-- the channels aren't asked where there is no room, and then are told
pub both_after : (l later : Link) (t told : Channels) (end : End) (side : Side) (before : Past) (p : Packing)
    (item : Item) → PacksBoth l t end side before p → p.full ≡ false
    → Packs later end before (after_offer end p item)
    → (has_room end p item ≡ false → told ≡ t)
    → (has_room end p item ≡ true → (ch n : ℕ) → is_carried_as ch n item ≡ true → has_arrived p.past ch n ≡ false)
    → (has_room end p item ≡ true → Keeps told side (sent_now (after_offer end p item)))
    → PacksBoth later told end side before (after_offer end p item)
both_after l later t told end side before p item h ready link same one table = record {
  link = link;
  table = elim (cases_Bool (has_room end p item)) [
    | inl e ↦ table e
    | inr e ↦ subst (λ (q : Packing). Keeps told side (sent_now q)) (sym (offer_none end p item ready e))
        (subst (λ (t : Channels). Keeps t side (sent_now p)) (sym (same e)) h.table)
  ];
  unarrived =
      by_room end p item (λ q. CarryUnarrived q.past q.packets) ready
      (λ e. carry_with p.past p.packets (fits_current end p.past p.packets item) item (one e) h.unarrived)
      (λ e. h.unarrived);
  low = λ ch le. ap (λ (l : Past). made_count l ch) (offer_past end p item) ∙ h.low ch le;
}
