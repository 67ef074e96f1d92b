-- The packets of a tick under way, as if they were sent now.
use Rattle.std.proofs.Common.{◌≡◌, ℕ, ◌+◌, ◌*◌, ◌/◌, ◌<◌, ◌≤◌, List, [], ◌∷◌, ◌++◌, length, reverse, Bool, true, false, ◌&&◌, ◌||◌, nat_lt, nat_le, refl, sym, ap, ◌∙◌, subst, arith, fold, if◌then◌else◌}
use Rattle.std.specs.List.{sum_by, flat_map}
use Rattle.std.proofs.lemmas.Bool.{false≢true, ne_eqb}
use Rattle.std.proofs.lemmas.List.{reverse-append}
use Rattle.std.proofs.lemmas.List.Sums.{fold-append}
use Rattle.protocol_model.specs.declared.Version.{Version}
use Rattle.protocol_model.specs.Packet.{Head, start_bits, rec_bits}
use Rattle.connection_model.specs.Feed.{End, Past, Sent, Item, tick_count}
use Rattle.connection_model.specs.Fates.{last_sent, high_of, head_of, unresolved_count, top_of, top_when, taken_of}
use Rattle.connection_model.specs.Pack.{Packing, rec_of, packet_length, packet_size, fits_current, may_begin, has_room, items_with, after_offer, after_sending}
use Rattle.connection_laws.proofs.Counts.{last_sent_sent}
use Rattle.packing_laws.proofs.Sendings.{head_same}
use Rattle.packing_laws.specs.Sendings.{AreSendings, sent_all, CarryUnarrived}

-- ---- packets sent one after another

-- the newest is sent last
pub sent_all-cons : (past : Past) (items : List Item) (packets : List (List Item))
    → sent_all past (items ∷ packets) ≡ after_sending (sent_all past packets) items
sent_all-cons past items packets =
    ap (fold after_sending past) (reverse-append (items ∷ []) packets)
    ∙ fold-append after_sending past (reverse packets) (items ∷ [])

-- what holds of the past and goes on with each packet holds once all are sent
pub sending_keeps : (P : List (List Item) → Past → Type 0) (past : Past) → P [] past
    → ((items : List Item) (packets : List (List Item)) (before : Past) → before ≡ sent_all past packets
    → P packets before → P (items ∷ packets) (after_sending before items))
    → (packets : List (List Item)) → P packets (sent_all past packets)
sending_keeps P past h step [] = h
sending_keeps P past h step (items ∷ packets) =
    subst (P (items ∷ packets)) (sym (sent_all-cons past items packets)) (step items packets
    (sent_all past packets) refl (sending_keeps P past h step packets))

pub last_sent_all : (past : Past) (packets : List (List Item))
    → last_sent (sent_all past packets) ≡ last_sent past + length packets
last_sent_all past packets =
    sending_keeps (λ packets later. last_sent later ≡ last_sent past + length packets) past (omega arith)
    (λ items packets before e h. omega (arith, last_sent_sent before items, h)) packets

-- what sees no packet sent
pub unseen_all : {B : Type 0} (f : Past → B) → ((before : Past) (items : List Item)
    → f (after_sending before items) ≡ f before)
    → (past : Past) (packets : List (List Item)) → f (sent_all past packets) ≡ f past
unseen_all f h past packets =
    sending_keeps (λ packets later. f later ≡ f past) past refl (λ items packets before e ih. h before items
    ∙ ih) packets

pub high_all : (past : Past) (packets : List (List Item)) → high_of (sent_all past packets) ≡ high_of past
high_all past packets = unseen_all high_of (λ before items. refl) past packets

pub ticks_all : (past : Past) (packets : List (List Item)) → tick_count (sent_all past packets) ≡ tick_count past
ticks_all past packets = unseen_all tick_count (λ before items. refl) past packets

-- a head tells the same, for what moved was sent before
pub head_all : (v : Version) (past : Past) (packets : List (List Item)) → high_of past ≤ last_sent past
    → head_of v (sent_all past packets) ≡ head_of v past
head_all v past packets h =
    head_same v past (sent_all past packets) (unseen_all taken_of (λ before items. refl) past packets)
    (ap (top_when (sent_all past packets)) (high_all past packets)
    ∙ sending_keeps (λ packets later. top_when later (high_of past) ≡ top_when past (high_of past)) past refl
    (λ items packets before e ih.
    let above : high_of past < last_sent before + 1 = omega (arith, ap last_sent e, last_sent_all past packets, h) in
    ap (λ (b : Bool). if b then top_of before else top_when before (high_of past)) (ne_eqb (last_sent before + 1)
    (high_of past) (λ q. absurd (omega arith))) ∙ ih)
    packets)

-- packets that carry nothing that has arrived are sendings behind the past
pub record SentAll (past : Past) (packets : List (List Item)) : Type 0 where
  pub sent : Past
  pub is : sent_all past packets ≡ sent ++ past
  pub sendings : AreSendings past sent

pub sent_behind : (past : Past) (packets : List (List Item)) → high_of past ≤ last_sent past
    → CarryUnarrived past packets → SentAll past packets
sent_behind past [] h c = record { sent = []; is = refl; sendings = tt }
sent_behind past (items ∷ packets) h c =
    let before : SentAll past packets = sent_behind past packets h c.1 in
    let number : ℕ = last_sent (sent_all past packets) + 1 in
    record {
      sent = Sent number (tick_count (sent_all past packets)) items ∷ before.sent;
      is = sent_all-cons past items packets
          ∙ ap (λ (l : Past). Sent number (tick_count (sent_all past packets)) items ∷ l) before.is;
      sendings = (omega (arith, last_sent_all past packets), c.0, before.sendings);
    }

-- ---- an offer asks little of its past

pub offer_past : (end : End) (p : Packing) (item : Item) → (after_offer end p item).past ≡ p.past
offer_past end p item = by p.full (has_room end p item)
  where
    by : (full r : Bool)
        → (let q : Packing = if full then p else if r then record p {
          packets = items_with p.packets
              (fits_current end p.past p.packets item) item;
        } else record p { full = true } in q.past) ≡ p.past
    by true r = refl
    by false true = refl
    by false false = refl

length_same : (end : End) (past later : Past) (items : List Item)
    → head_of end.version later ≡ head_of end.version past
    → packet_length end later items ≡ packet_length end past items
length_same end past later items e =
    ap (λ (h : Head). length (start_bits end.version 0 h ++ flat_map (λ item. rec_bits end.version
    (rec_of item)) items)) e

module _ (end : End) (past later : Past) (head : head_of end.version later ≡ head_of end.version past) where
  size_same : (items : List Item) → packet_size end later items ≡ packet_size end past items
  size_same items = ap (λ (n : ℕ). (n + 1 + 7) / 8) (length_same end past later items head)

  sizes_from : (packets : List (List Item)) (a : ℕ)
      → fold (λ a items. a + packet_size end later items) a packets ≡ fold
      (λ a items. a + packet_size end past items) a packets
  sizes_from [] a = refl
  sizes_from (items ∷ packets) a =
      ap (λ (k : ℕ). fold (λ a items. a + packet_size end later items) (a + k) packets) (size_same items)
      ∙ sizes_from packets (a + packet_size end past items)

  pub sizes_same : (packets : List (List Item))
      → sum_by (packet_size end later) packets ≡ sum_by (packet_size end past) packets
  sizes_same packets = sizes_from packets 0

  pub fits_same : (packets : List (List Item)) (item : Item)
      → fits_current end later packets item ≡ fits_current end past packets item
  fits_same [] item = refl
  fits_same (current ∷ packets) item = ap (λ (n : ℕ). nat_le (n + 1) 8192) (length_same end past later
      (current ++ item ∷ []) head)

pub may_begin_same : (end : End) (p : Packing) (later : Past)
    → head_of end.version later ≡ head_of end.version p.past → unresolved_count later ≡ unresolved_count p.past
    → may_begin end (record p { past = later }) ≡ may_begin end p
may_begin_same end p later head count =
    ap (λ (n : ℕ). nat_lt (8 * n) end.budget && nat_lt (unresolved_count later + length p.packets) 4096)
    (sizes_same end p.past later head p.packets)
    ∙ ap (λ (n : ℕ). nat_lt (8 * sum_by (packet_size end p.past) p.packets) end.budget && nat_lt
    (n + length p.packets) 4096) count

pub has_room_same : (end : End) (p : Packing) (later : Past) (item : Item)
    → head_of end.version later ≡ head_of end.version p.past → unresolved_count later ≡ unresolved_count p.past
    → has_room end (record p { past = later }) item ≡ has_room end p item
has_room_same end p later item head count =
    ap (λ (b : Bool). b || may_begin end (record p { past = later })) (fits_same end p.past later head p.packets item)
    ∙ ap (λ (b : Bool). fits_current end p.past p.packets item || b) (may_begin_same end p later head count)

-- the past is changed before an offer or after it
pub offer_past_after : (end : End) (p : Packing) (later : Past) (item : Item)
    → head_of end.version later ≡ head_of end.version p.past → unresolved_count later ≡ unresolved_count p.past
    → after_offer end (record p { past = later }) item ≡ record (after_offer end p item) { past = later }
offer_past_after end p later item head count =
    by p.full (has_room end (record p { past = later }) item) (has_room end p item)
    (fits_current end later p.packets item) (fits_current end p.past p.packets item)
    (has_room_same end p later item head count) (fits_same end p.past later head p.packets item)
  where
    moved : Packing → Packing
    moved q = record q { past = later }

    with_item : Bool → Packing → Packing
    with_item f q = record q { packets = items_with q.packets f item }

    by : (full r s f g : Bool) → r ≡ s → f ≡ g
        → (if full then moved p else if r then with_item f (moved p) else record (moved p) { full = true })
        ≡ moved (if full then p else if s then with_item g p else record p { full = true })
    by true r s f g a b = refl
    by false true true f g a b = ap (λ (x : Bool). record (moved p) { packets = items_with p.packets x item }) b
    by false false false f g a b = refl
    by false true false f g a b = absurd (false≢true (sym a))
    by false false true f g a b = absurd (false≢true a)

pub offers_past_after : (end : End) (p : Packing) (later : Past) (items : List Item)
    → head_of end.version later ≡ head_of end.version p.past → unresolved_count later ≡ unresolved_count p.past
    → fold (after_offer end) (record p { past = later }) items ≡ record (fold
    (after_offer end) p items) { past = later }
offers_past_after end p later [] head count = refl
offers_past_after end p later (item ∷ items) head count =
    ap (λ (q : Packing). fold (after_offer end) q items) (offer_past_after end p later item head count)
    ∙ offers_past_after end (after_offer end p item) later items
    (head ∙ ap (head_of end.version) (sym (offer_past end p item))) (count
    ∙ ap unresolved_count (sym (offer_past end p item)))
