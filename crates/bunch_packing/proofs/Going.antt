-- Due bunches are offered one after another.
use Rattle.std.proofs.Common.{◌≡◌, ◌⊎◌, inl, inr, ℕ, zero, suc, ◌+◌, ◌-◌, ◌*◌, ◌^◌, ◌<◌, ◌≤◌, List, [], ◌∷◌, Bool, true, false, not, ◌&&◌, ◌||◌, ◌==◌, nat_lt, Option, Some, None, refl, sym, ap, ◌∙◌, subst, arith, if◌then◌else◌}
use Rattle.std.specs.List.{find, filter, filter_map, cons_option, list_any}
use Rattle.std.proofs.lemmas.Bool.{false≢true, cases_lt, eq-eqb}
use Rattle.std.proofs.Math.Nat.{mul-le-mul_right}
use Rattle.std.proofs.lemmas.Bool.Decides.{nat_tests}
use Rattle.std.proofs.lemmas.List.Folds.{list_any-append}
use Rattle.protocol_model.specs.declared.Version.{Version}
use Rattle.protocol_model.specs.declared.Version.TheVariants.{One, Two}
use Rattle.protocol_model.specs.Packet.{Bunch, channel_limit}
use Rattle.protocol_model.specs.Side.{Side}
use Rattle.connection_model.specs.Feed.{End, Past, Item, Carries}
use Rattle.connection_model.specs.Fates.{last_sent, high_of}
use Rattle.connection_model.specs.Bunches.{made_count, channels_of, is_due, is_carried_as}
use Rattle.connection_model.specs.Items.{carrying_item, due_items}
use Rattle.connection_model.specs.Pack.{Packing, fits_current, has_room, items_with, after_offer}
use Rattle.packing_laws.specs.Beginning.{after_offers}
use Rattle.packing_laws.specs.Sendings.{sent_all}
use Rattle.packing_laws.proofs.Packings.{unseen_all, offer_past}
use Rattle.channel_laws.specs.Due.{due_places, is_from, next_due}
use Rattle.outgoing_channels.specs.Made.{Outgoing, out_at}
use Rattle.link_end.specs.Link.{Link}
use Rattle.link_end.specs.Packs.{sent_now}
use Rattle.link_end.proofs.Offers.{offer_some, offer_none}
use Rattle.channel_table.specs.Channels.{Channels}
use Rattle.channel_table.proofs.Due.{next_due_was}
use Rattle.bunch_packing.specs.Both.{PacksBoth, NonePacked, IsLow, IsOwing, is_packed}
use Rattle.bunch_packing.proofs.Offering.{made_all}
use Rattle.bunch_packing.proofs.Owing.{due_behind}
use Rattle.bunch_packing.proofs.Carrying.{Owed, owed, item_is}
use Rattle.bunch_packing.proofs.Places.{item_at, due_items_are, rising, left_first, left_none, all_left, before_all, found_from, found_alike}

-- ---- what is packed

-- one of the packets carries the bunch once the item is packed
pub packed_with : (packets : List (List Item)) (b : Bool) (item : Item) (ch n : ℕ)
    → is_packed (items_with packets b item) ch n ≡ (is_packed packets ch n || is_carried_as ch n item)
packed_with [] b item ch n = either (is_carried_as ch n item)
  where
    either : (a : Bool) → ((a || false) || false) ≡ a
    either true = refl
    either false = refl
packed_with (current ∷ packets) true item ch n =
    ap (λ (x : Bool). x || is_packed packets ch n) (list_any-append (is_carried_as ch n) current (item ∷ []))
    ∙ either (list_any (is_carried_as ch n) current) (is_carried_as ch n item) (is_packed packets ch n)
  where
    either : (a b c : Bool) → ((a || (b || false)) || c) ≡ ((a || c) || b)
    either true b c = refl
    either false true true = refl
    either false true false = refl
    either false false true = refl
    either false false false = refl
packed_with (current ∷ packets) false item ch n =
    either (is_carried_as ch n item) (list_any (is_carried_as ch n) current || is_packed packets ch n)
  where
    either : (a b : Bool) → ((a || false) || b) ≡ (b || a)
    either true true = refl
    either true false = refl
    either false true = refl
    either false false = refl

-- due bunches are packed up to this place, and none after it
pub record IsUpto (packets : List (List Item)) (ch from : ℕ) : Type 0 where
  pub here : (from ≡ 0) ⊎ (is_packed packets ch from ≡ true)
  pub after : (c n : ℕ) → is_packed packets c n ≡ true → is_from ch (from + 1) (c, n) ≡ false

-- the next due bunch is then the next one after the place that was due before the packets
pub next_is : (past : Past) (packets : List (List Item)) (ch from : ℕ) → high_of past ≤ last_sent past
    → IsUpto packets ch from
    → next_due (sent_all past packets) ch from ≡ find (is_from ch (from + 1)) (due_places past)
next_is past packets ch from high u =
    found_alike past (sent_all past packets) (is_from ch from) (is_from ch (from + 1))
    (unseen_all channels_of (λ before items. refl) past packets) (made_all past packets)
    (λ c n some. ap (λ (b : Bool). b && is_from ch from (c, n)) (due_behind past packets high c n)
    ∙ same c n some (is_packed packets c n) refl)
  where
    later : (c n : ℕ) → ((c ≡ ch) → (n ≡ from) → ⊥) → is_from ch from (c, n) ≡ is_from ch (from + 1) (c, n)
    later c n other = grind (arith, nat_tests)

    same : (c n : ℕ) → 1 ≤ n → (b : Bool) → is_packed packets c n ≡ b
        → ((if b then false else is_due past c n) && is_from ch from (c, n))
        ≡ (is_due past c n && is_from ch (from + 1) (c, n))
    same c n some true e =
        sym (ap (λ (x : Bool). is_due past c n && x) (u.after c n e) ∙ no (is_due past c n))
      where
        no : (x : Bool) → (x && false) ≡ false
        no true = refl
        no false = refl
    same c n some false e = ap (λ (x : Bool). is_due past c n && x) (later c n (λ a b. elim u.here [
      | inl none ↦ omega (arith, none, b, some)
      | inr packed ↦ false≢true (sym e ∙ ap (λ (x : ℕ). is_packed packets x n) a ∙ ap (is_packed packets ch) b ∙ packed)
    ]))

-- ---- what is left

-- the due items after a place
abbrev pub items_after : Past → (channel number : ℕ) → List Item
items_after past ch n = filter_map (item_at past) (filter (is_from ch (n + 1)) (due_places past))

pub items_first : (past : Past) (ch from c n : ℕ) (item : Item)
    → find (is_from ch (from + 1)) (due_places past) ≡ Some (c, n) → carrying_item past c n ≡ Some item
    → items_after past ch from ≡ item ∷ items_after past c n
items_first past ch from c n item e is =
    ap (filter_map (item_at past)) (left_first ch (from + 1) (due_places past) c n (rising past) e)
    ∙ ap (λ (o : Option Item). cons_option o (items_after past c n)) is

-- after one that found no room nothing is offered
pub all_full : (end : End) (p : Packing) (items : List Item) → p.full ≡ true → after_offers end p items ≡ p
all_full end p [] e = refl
all_full end p (item ∷ items) e =
    let stays : after_offer end p item ≡ p = ap (λ (b : Bool). if b then p else if has_room end p item then record p {
      packets = items_with p.packets (fits_current end p.past p.packets item) item;
    } else record p { full = true }) e in
    ap (λ (q : Packing). after_offers end q items) stays ∙ all_full end p items e

-- ---- link and channels after some of them

-- link and channels stand for what is packed by now, and the rest of what was to be packed is due after this place
pub record Going (l : Link) (t : Channels) (end : End) (side : Side) (before : Past) (first : Packing)
    (ch from : ℕ) : Type 0 where
  pub p : Packing
  pub both : PacksBoth l t end side before p
  pub is_ready : p.full ≡ false
  pub past : p.past ≡ first.past
  pub upto : IsUpto p.packets ch from
  pub rest : after_offers end p (items_after first.past ch from) ≡ after_offers end first (due_items first.past)

pub going_first : (l : Link) (t : Channels) (end : End) (side : Side) (before : Past) (p : Packing)
    → PacksBoth l t end side before p → p.full ≡ false → NonePacked p → Going l t end side before p 0 0
going_first l t end side before p h ready none = record {
  p = p;
  both = h;
  is_ready = ready;
  past = refl;
  upto = record { here = inl refl; after = λ c n e. absurd (false≢true (sym (none c n) ∙ e)) };
  rest =
      ap (after_offers end p) (ap (filter_map (item_at p.past)) (all_left p.past) ∙ sym (due_items_are p.past));
}

-- the next one is owing
pub record Next (past : Past) (p : Packing) (end : End) (first : Packing) (ch from c n : ℕ) : Type 0 where
  pub owing : IsOwing p c n
  pub bunch : Bunch
  pub carries : carrying_item p.past c n ≡ Some (Carries c n bunch)
  pub found : find (is_from ch (from + 1)) (due_places p.past) ≡ Some (c, n)
  pub rest : after_offers end (after_offer end p (Carries c n bunch)) (items_after first.past c n)
      ≡ after_offers end first (due_items first.past)

pub next_owing : (l : Link) (t : Channels) (end : End) (side : Side) (before : Past) (first : Packing) (ch from c n : ℕ)
    (g : Going l t end side before first ch from)
    → next_due (sent_now g.p) ch from ≡ Some (c, n) → Next g.p.past g.p end first ch from c n
next_owing l t end side before first ch from c n g e =
    let was = next_due_was (sent_now g.p) ch from c n e in
    let owing : IsOwing g.p c n = (was.0, was.1, omega (arith, was.2, made_all g.p.past g.p.packets c)) in
    let o : Owed g.p.past c n _ = owed l t end side before g.p c n g.both owing in
    let found : find (is_from ch (from + 1)) (due_places g.p.past) ≡ Some (c, n) =
    sym (next_is g.p.past g.p.packets ch from g.both.link.high g.upto) ∙ e in
    let is : carrying_item g.p.past c n ≡ Some (Carries c n o.bunch) = item_is g.p.past c n o.bunch o.made in
    record {
      owing = owing;
      bunch = o.bunch;
      carries = is;
      found = found;
      rest =
          ap (after_offers end g.p)
          (sym (items_first first.past ch from c n (Carries c n o.bunch)
          (ap (λ (l : Past). find (is_from ch (from + 1)) (due_places l)) (sym g.past) ∙ found)
          (ap (λ (l : Past). carrying_item l c n) (sym g.past) ∙ is)))
          ∙ g.rest;
    }

-- it was packed
pub going_on : (l later : Link) (t told : Channels) (end : End) (side : Side) (before : Past) (first : Packing)
    (ch from c n : ℕ) (g : Going l t end side before first ch from) (e : Next g.p.past g.p end first ch from c n)
    → has_room end g.p (Carries c n e.bunch) ≡ true
    → PacksBoth later told end side before (after_offer end g.p (Carries c n e.bunch))
    → Going later told end side before first c n
going_on l later t told end side before first ch from c n g e room both =
    let item : Item = Carries c n e.bunch in
    let some = offer_some end g.p item g.is_ready room in
    record {
      p = after_offer end g.p item;
      both = both;
      is_ready = ap (λ (q : Packing). q.full) some ∙ g.is_ready;
      past = offer_past end g.p item ∙ g.past;
      upto =
          subst (λ (q : Packing). IsUpto q.packets c n) (sym some)
          (more g.p.packets (fits_current end g.p.past g.p.packets item) e.bunch g.upto
          (from_it (due_places g.p.past) e.found));
      rest = e.rest;
    }
  where
    from_it : (places : List (ℕ × ℕ)) → find (is_from ch (from + 1)) places ≡ Some (c, n)
        → is_from ch (from + 1) (c, n) ≡ true
    from_it places e = found_from (is_from ch (from + 1)) places (c, n) e

    itself : (packets : List (List Item)) (b : Bool) (bunch : Bunch)
        → is_packed (items_with packets b (Carries c n bunch)) c n ≡ true
    itself packets b bunch =
        packed_with packets b (Carries c n bunch) c n
        ∙ ap (λ (x : Bool). is_packed packets c n || (x && n == n)) (eq-eqb c c refl)
        ∙ ap (λ (x : Bool). is_packed packets c n || x) (eq-eqb n n refl) ∙ yes (is_packed packets c n)
      where
        yes : (x : Bool) → (x || true) ≡ true
        yes true = refl
        yes false = refl

    same : (d k : ℕ) → (c == d && n == k) ≡ true → is_from c (n + 1) (d, k) ≡ false
    same d k q = grind (arith, nat_tests)

    earlier : (packets : List (List Item)) → IsUpto packets ch from → is_from ch (from + 1) (c, n) ≡ true → (d k : ℕ)
        → (x : Bool) → is_packed packets d k ≡ x
        → (is_packed packets d k || (c == d && n == k)) ≡ true → is_from c (n + 1) (d, k) ≡ false
    earlier packets u after d k true p q = before_all ch (from + 1) c n (d, k) after (u.after d k p)
    earlier packets u after d k false p q = same d k (sym (ap (λ (x : Bool). x || (c == d && n == k)) p) ∙ q)

    more : (packets : List (List Item)) (b : Bool) (bunch : Bunch) → IsUpto packets ch from
        → is_from ch (from + 1) (c, n) ≡ true → IsUpto (items_with packets b (Carries c n bunch)) c n
    more packets b bunch u after = record {
      here = inr (itself packets b bunch);
      after = λ d k q. earlier packets u after d k (is_packed packets d k) refl
          (sym (packed_with packets b (Carries c n bunch) d k) ∙ q);
    }

-- nothing is left
pub going_done : (l : Link) (t : Channels) (end : End) (side : Side) (before : Past) (first : Packing) (ch from : ℕ)
    (g : Going l t end side before first ch from) → next_due (sent_now g.p) ch from ≡ None
    → g.p ≡ after_offers end first (due_items first.past)
going_done l t end side before first ch from g e =
    let none : find (is_from ch (from + 1)) (due_places first.past) ≡ None =
    ap (λ (l : Past). find (is_from ch (from + 1)) (due_places l)) (sym g.past)
    ∙ sym (next_is g.p.past g.p.packets ch from g.both.link.high g.upto) ∙ e in
    ap (λ (items : List Item). after_offers end g.p items)
    (sym (ap (filter_map (item_at first.past)) (left_none (is_from ch (from + 1)) (due_places first.past) none)))
    ∙ g.rest

-- the next one found no room
pub going_full : (l : Link) (t : Channels) (end : End) (side : Side) (before : Past) (first : Packing)
    (ch from c n : ℕ) (g : Going l t end side before first ch from) (e : Next g.p.past g.p end first ch from c n)
    → has_room end g.p (Carries c n e.bunch) ≡ false
    → after_offer end g.p (Carries c n e.bunch) ≡ after_offers end first (due_items first.past)
going_full l t end side before first ch from c n g e room =
    sym (all_full end (after_offer end g.p (Carries c n e.bunch)) (items_after first.past c n)
    (ap (λ (q : Packing). q.full) (offer_none end g.p (Carries c n e.bunch) g.is_ready room)))
    ∙ e.rest

-- and then no more is offered
pub full_then : (l : Link) (t : Channels) (end : End) (side : Side) (before : Past) (first : Packing)
    (ch from c n : ℕ) (g : Going l t end side before first ch from) (e : Next g.p.past g.p end first ch from c n)
    → has_room end g.p (Carries c n e.bunch) ≡ false
    → (after_offers end first (due_items first.past)).full ≡ true
full_then l t end side before first ch from c n g e room =
    ap (λ (q : Packing). q.full) (sym (going_full l t end side before first ch from c n g e room)
    ∙ offer_none end g.p (Carries c n e.bunch) g.is_ready room)

-- ---- that it ends

-- above each number that was made
abbrev pub most_in : List Outgoing → ℕ
most_in [] = 2
most_in (o ∷ out) = o.next + most_in out

pub some_below : (out : List Outgoing) → 0 < most_in out
some_below [] = omega arith
some_below (o ∷ out) = omega (arith, some_below out)

next_below : (out : List Outgoing) (ch : ℕ) → (out_at out ch).next < most_in out
next_below [] ch = omega arith
next_below (o ∷ out) zero = omega (arith, some_below out)
next_below (o ∷ out) (suc ch) = omega (arith, next_below out ch)

-- a place that is owing is among those below
pub place_below : (l : Link) (t : Channels) (end : End) (side : Side) (before : Past) (first p : Packing) (c n : ℕ)
    → PacksBoth l t end side before first → IsLow end.version p.past → p.past ≡ first.past → IsOwing p c n
    → (c < 2 ^ 15) × (n < most_in t.made.out)
place_below l t end side before first p c n h low same o = (
  low_channel end.version (low c) (omega (arith, o.1, o.2)),
  omega (
    arith,
    o.2,
    ap (λ (past : Past). made_count past c) same,
    made_all first.past first.packets c,
    (h.table.made.out c).next,
    next_below t.made.out c,
  ),
)
  where
    low_channel : (v : Version) → (channel_limit v ≤ c → made_count p.past c ≡ 0) → 1 ≤ made_count p.past c → c < 2 ^ 15
    low_channel One f some = elim (cases_lt c 10240) [
      | inl h ↦ omega (arith, h)
      | inr h ↦
          absurd (omega (arith, f h, some))
    ]
    low_channel Two f some = elim (cases_lt c 32768) [
      | inl h ↦ omega (arith, h)
      | inr h ↦
          absurd (omega (arith, f h, some))
    ]

-- the next place is further on
pub further : (past : Past) (k ch from c n : ℕ) → find (is_from ch (from + 1)) (due_places past) ≡ Some (c, n)
    → from < k → c < 2 ^ 15 → n < k → 2 ^ 15 * k - (c * k + n) < 2 ^ 15 * k - (ch * k + from)
further past k ch from c n e was low small = by (found_from (is_from ch (from + 1)) (due_places past) (c, n) e)
  where
    later : (nat_lt ch c || (c == ch && not (nat_lt n (from + 1)))) ≡ true → (ch < c) ⊎ ((c ≡ ch) × (from < n))
    later h = grind (arith, nat_tests)

    above : (a b : ℕ) → a < b → a * k + k ≤ b * k
    above a b h = (let q : (a + 1) * k ≤ b * k = mul-le-mul_right k (omega (arith, h)) in omega (arith, q))

    by : (nat_lt ch c || (c == ch && not (nat_lt n (from + 1)))) ≡ true
        → 2 ^ 15 * k - (c * k + n) < 2 ^ 15 * k - (ch * k + from)
    by h = elim (later h) [
      | inl up ↦ omega (arith, above ch c up, above c 32768 low, was, small)
      | inr up ↦ (
          let same : c * k ≡ ch * k = ap (λ (x : ℕ). x * k) up.0 in
          omega (arith, above c 32768 low, same, up.1, small))
    ]
