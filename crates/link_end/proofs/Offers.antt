-- A link in a tick, after an offer.
use Rattle.std.proofs.Common.{◌≡◌, ℕ, ◌+◌, ◌≤◌, List, [], ◌∷◌, ◌++◌, length, Bool, true, false, ◌||◌, Option, Some, refl, sym, ap, ◌∙◌, subst, arith, if◌then◌else◌}
use Rattle.std.proofs.lemmas.Bool.{false≢true}
use Rattle.connection_model.specs.Feed.{End, Past, Sent, Item, tick_count}
use Rattle.connection_model.specs.Fates.{last_sent}
use Rattle.protocol_model.specs.declared.Version.{Version}
use Rattle.protocol_model.specs.Packet.{Rec, rec_bits}
use Rattle.connection_model.specs.Pack.{Packing, rec_of, fits_current, may_begin, has_room, items_with, after_offer}
use Rattle.ack_book.specs.Book.{Book}
use Rattle.ack_book.specs.Keeps.{Keeps}
use Rattle.packing_laws.specs.Sendings.{sent_all}
use Rattle.packing_laws.proofs.Packings.{sent_all-cons, last_sent_all, high_all, offer_past}
use Rattle.link_end.specs.Link.{Begun, Link}
use Rattle.link_end.specs.Begun.{all_bytes, fits_after, may_with, with_packet, with_bits, next_start}
use Rattle.link_end.specs.Packs.{begun_of, sent_now, Packs}
use Rattle.link_end.proofs.Packed.{item_bits, count_begun, fits_begun, may_begun, begun_more, begun_longer, packs_with, book_longer}

-- ---- what an offer is

-- the packing with the item
abbrev pub with_item : End → Packing → Item → Packing
with_item end p item = record p { packets = items_with p.packets (fits_current end p.past p.packets item) item }

pub offer_none : (end : End) (p : Packing) (item : Item) → p.full ≡ false → has_room end p item ≡ false
    → after_offer end p item ≡ record p { full = true }
offer_none end p item f r =
    ap (λ (b : Bool). if b then p else if has_room end p item then with_item end p item else record p { full = true })
    f
    ∙ ap (λ (b : Bool). if b then with_item end p item else record p { full = true }) r

pub offer_some : (end : End) (p : Packing) (item : Item) → p.full ≡ false → has_room end p item ≡ true
    → after_offer end p item ≡ with_item end p item
offer_some end p item f r =
    ap (λ (b : Bool). if b then p else if has_room end p item then with_item end p item else record p { full = true })
    f
    ∙ ap (λ (b : Bool). if b then with_item end p item else record p { full = true }) r

pub room_fits : (end : End) (p : Packing) (item : Item) → fits_current end p.past p.packets item ≡ true
    → has_room end p item ≡ true
room_fits end p item e = ap (λ (b : Bool). b || may_begin end p) e

pub room_may : (end : End) (p : Packing) (item : Item) → fits_current end p.past p.packets item ≡ false
    → has_room end p item ≡ may_begin end p
room_may end p item e = ap (λ (b : Bool). b || may_begin end p) e

offer_longer : (end : End) (p : Packing) (item : Item) → p.full ≡ false
    → fits_current end p.past p.packets item ≡ true
    → after_offer end p item ≡ record p { packets = items_with p.packets true item }
offer_longer end p item f e =
    offer_some end p item f (room_fits end p item e)
    ∙ ap (λ (b : Bool). record p { packets = items_with p.packets b item }) e

items_new : (packets : List (List Item)) (item : Item) → items_with packets false item ≡ (item ∷ []) ∷ packets
items_new [] item = refl
items_new (current ∷ packets) item = refl

offer_new : (end : End) (p : Packing) (item : Item) → p.full ≡ false → fits_current end p.past p.packets item ≡ false
    → may_begin end p ≡ true
    → after_offer end p item ≡ record p { packets = (item ∷ []) ∷ p.packets }
offer_new end p item f e may =
    offer_some end p item f (room_may end p item e ∙ may)
    ∙ ap (λ (b : Bool). record p { packets = items_with p.packets b item }) e
    ∙ ap (λ (packets : List (List Item)). record p { packets = packets }) (items_new p.packets item)

-- ---- and what the link keeps after it

-- all but the book and the packets stay
pub record SameBut (l later : Link) : Type 0 where
  pub budget : later.budget ≡ l.budget
  pub silent : later.silent ≡ l.silent
  pub heard : later.heard ≡ l.heard
  pub spent : later.spent ≡ l.spent

-- the item goes into the current packet
pub packs_longer : (l later : Link) (end : End) (before : Past) (p : Packing) (item : Item) → Packs l end before p
    → p.full ≡ false
    → fits_current end p.past p.packets item ≡ true → later.book ≡ l.book → SameBut l later
    → later.begun ≡ Some (with_bits (item_bits end item) (begun_of end p))
    → Packs later end before (after_offer end p item)
packs_longer l later end before p item h f e book same begun =
    subst (λ (q : Packing). Packs later end before q) (sym (offer_longer end p item f e)) (by p.packets h e begun)
  where
    by : (packets : List (List Item))
        → Packs l end before (record { past = p.past; packets = packets; full = p.full })
        → fits_current end p.past packets item ≡ true
        → later.begun ≡ Some
        (with_bits (item_bits end item) (begun_of end (record { past = p.past; packets = packets; full = p.full })))
        → Packs later end before (record { past = p.past; packets = items_with packets true item; full = p.full })
    by [] h e begun = absurd (false≢true e)
    by (current ∷ packets) h e begun =
        packs_with l later end before p.past (current ∷ packets) ((current ++ item ∷ []) ∷ packets) p.full p.full h
        (subst (λ (b : Book). Keeps b end.version (sent_all p.past ((current ++ item ∷ []) ∷ packets))) (sym book)
        (book_longer l.book end.version p.past current (current ++ item ∷ []) packets h.book))
        same.budget same.silent same.heard same.spent
        (begun ∙ ap (λ (b : Begun). Some b) (sym (begun_longer end p.past current packets p.full item)))

-- it goes into a new packet
pub packs_more : (l later : Link) (end : End) (before : Past) (p : Packing) (item : Item) → Packs l end before p
    → p.full ≡ false
    → fits_current end p.past p.packets item ≡ false → may_begin end p ≡ true
    → ((t : ℕ) (items : List Item)
    → Keeps later.book end.version (Sent (last_sent (sent_now p) + 1) t items ∷ sent_now p)) → SameBut l later
    → later.begun ≡ Some
    (with_bits (item_bits end item) (with_packet (next_start end.version (sent_now p)) (begun_of end p)))
    → Packs later end before (after_offer end p item)
packs_more l later end before p item h f e may book same begun =
    subst (λ (q : Packing). Packs later end before q) (sym (offer_new end p item f e may))
    (packs_with l later end before p.past p.packets ((item ∷ []) ∷ p.packets) p.full p.full h
    (subst (λ (past : Past). Keeps later.book end.version past) (sym (sent_all-cons p.past (item ∷ []) p.packets))
    (book (tick_count (sent_now p)) (item ∷ [])))
    same.budget same.silent same.heard same.spent
    (begun ∙ ap (λ (b : Begun). Some b) (sym (begun_more end p item h.high))))

-- it finds no room
pub packs_full : (l later : Link) (end : End) (before : Past) (p : Packing) → Packs l end before p
    → later.book ≡ l.book → SameBut l later
    → later.begun ≡ Some (record (begun_of end p) { full = true }) → Packs later end before (record p { full = true })
packs_full l later end before p h book same begun =
    packs_with l later end before p.past p.packets p.packets p.full true h
    (subst (λ (b : Book). Keeps b end.version (sent_now p)) (sym book) h.book) same.budget same.silent same.heard
    same.spent begun

-- the last packet's number
pub packs_number : (l : Link) (end : End) (before : Past) (p : Packing) (item : Item)
    → Packs l end before (after_offer end p item)
    → l.book.last_sent ≡ last_sent p.past + length (after_offer end p item).packets
packs_number l end before p item h =
    h.book.sent ∙ last_sent_all (after_offer end p item).past (after_offer end p item).packets
    ∙ ap (λ (past : Past). last_sent past + length (after_offer end p item).packets) (offer_past end p item)

-- ---- an offer, as the code makes it

some_is : (x y : Begun) → (let o : Option Begun = Some x in o) ≡ Some y → x ≡ y
some_is x y e = cc

pub begun_is : (l : Link) (end : End) (before : Past) (p : Packing) (packets : Begun) → Packs l end before p
    → l.begun ≡ Some packets → packets ≡ begun_of end p
begun_is l end before p packets h e = some_is packets (begun_of end p) (sym e ∙ h.begun)

pub fits_is : (end : End) (p : Packing) (item : Item) (rec : Rec) (packets : Begun) (bits : ℕ) → rec_of item ≡ rec
    → packets ≡ begun_of end p
    → bits ≡ length (rec_bits end.version rec)
    → fits_after packets.current bits ≡ fits_current end p.past p.packets item
fits_is end p item rec packets bits is begun len =
    ap (λ (b : Begun). fits_after b.current bits) begun
    ∙ ap (fits_after (begun_of end p).current) (len ∙ ap (λ (r : Rec). length (rec_bits end.version r)) (sym is))
    ∙ fits_begun end p.past p.packets item

pub room_is : (l : Link) (end : End) (before : Past) (p : Packing) (item : Item) (rec : Rec) (packets : Begun)
    (bits : ℕ) → Packs l end before p
    → rec_of item ≡ rec → l.begun ≡ Some packets → bits ≡ length (rec_bits end.version rec)
    → (fits_after packets.current bits || may_with l.budget l.book packets) ≡ has_room end p item
room_is l end before p item rec packets bits h is begun len =
    let same : packets ≡ begun_of end p = begun_is l end before p packets h begun in
    ap (λ (b : Bool). b || may_with l.budget l.book packets) (fits_is end p item rec packets bits is same len)
    ∙ ap (λ (b : Bool). fits_current end p.past p.packets item || b) (ap (may_with l.budget l.book) same
    ∙ may_begun l end before p h)

pub own_packets : (l : Link) (end : End) (before : Past) (p : Packing) (packets : Begun) → Packs l end before p
    → l.begun ≡ Some packets
    → l.book.high + length (all_bytes packets) ≤ l.book.last_sent
own_packets l end before p packets h begun =
    omega (
      arith,
      ap (λ (b : Begun). length (all_bytes b)) (begun_is l end before p packets h begun),
      count_begun end p,
      h.book.sent,
      h.book.high,
      last_sent_all p.past p.packets,
      high_all p.past p.packets,
      h.high,
    )

pub offered : (l : Link) (end : End) (before : Past) (p : Packing) (item : Item) (rec : Rec)
    (packets after put : Begun) (book : Book) (bits : ℕ)
    → Packs l end before p → packets.full ≡ false → rec_of item ≡ rec → l.begun ≡ Some packets
    → bits ≡ length (rec_bits end.version rec)
    → (fits_after packets.current bits ≡ true → (book ≡ l.book) × (after ≡ packets))
    → (fits_after packets.current bits ≡ false → may_with l.budget l.book packets ≡ true)
    → (fits_after packets.current bits ≡ false → (v : Version) (past : Past) → Keeps l.book v past
    → after ≡ with_packet (next_start v past) packets)
    → (fits_after packets.current bits ≡ false → (v : Version) (past : Past) (t : ℕ) (items : List Item)
    → Keeps l.book v past → Keeps book v (Sent (last_sent past + 1) t items ∷ past))
    → put ≡ with_bits (rec_bits end.version rec) after
    → Packs (record l { book = book; begun = Some put }) end before (after_offer end p item)
offered l end before p item rec packets after put book bits h full is begun len fits may more book_more puts =
    by (fits_after packets.current bits) refl
  where
    same : packets ≡ begun_of end p
    same = begun_is l end before p packets h begun

    room : fits_after packets.current bits ≡ fits_current end p.past p.packets item
    room = fits_is end p item rec packets bits is same len

    open_still : p.full ≡ false
    open_still = ap (λ (b : Begun). b.full) (sym same) ∙ full

    bits_is : with_bits (rec_bits end.version rec) after ≡ with_bits (item_bits end item) after
    bits_is = ap (λ (r : Rec). with_bits (rec_bits end.version r) after) (sym is)

    rest : SameBut l (record l { book = book; begun = Some put })
    rest = record { budget = refl; silent = refl; heard = refl; spent = refl }

    by : (b : Bool) → fits_after packets.current bits ≡ b
        → Packs (record l { book = book; begun = Some put }) end before (after_offer end p item)
    by true e =
        packs_longer l (record l { book = book; begun = Some put }) end before p item h open_still (sym room
        ∙ e) (fits e).0 rest
        (ap (λ (b : Begun). Some b) (puts ∙ bits_is ∙ ap (with_bits (item_bits end item)) ((fits e).1 ∙ same)))
    by false e =
        packs_more l (record l { book = book; begun = Some put }) end before p item h open_still (sym room ∙ e)
        (sym (may_begun l end before p h) ∙ ap (may_with l.budget l.book) (sym same) ∙ may e)
        (λ t items. book_more e end.version (sent_now p) t items h.book) rest
        (ap (λ (b : Begun). Some b)
        (puts ∙ bits_is ∙ ap (with_bits (item_bits end item)) (more e end.version (sent_now p) h.book
        ∙ ap (with_packet (next_start end.version (sent_now p))) same)))

pub still_open : (l : Link) (end : End) (before : Past) (p : Packing) (packets : Begun) → Packs l end before p
    → l.begun ≡ Some packets → p.full ≡ false → packets.full ≡ false
still_open l end before p packets h begun e = ap (λ (b : Begun). b.full) (begun_is l end before p packets h begun) ∙ e

room_ok : (f m : Bool) → (f ≡ false → m ≡ true) → (f || m) ≡ true
room_ok true m h = refl
room_ok false m h = h refl

-- an offer that was taken had room
pub had_room : (l : Link) (end : End) (before : Past) (p : Packing) (item : Item) (rec : Rec) (packets : Begun)
    (bits : ℕ) → Packs l end before p
    → rec_of item ≡ rec → l.begun ≡ Some packets → bits ≡ length (rec_bits end.version rec)
    → (fits_after packets.current bits ≡ false → may_with l.budget l.book packets ≡ true) → has_room end p item ≡ true
had_room l end before p item rec packets bits h is begun len may =
    sym (room_is l end before p item rec packets bits h is begun len)
    ∙ room_ok (fits_after packets.current bits) (may_with l.budget l.book packets) may

-- and one that was refused had none
pub refused : (l : Link) (end : End) (before : Past) (p : Packing) (item : Item) (rec : Rec) (packets after : Begun)
    (book : Book) (bits : ℕ) → Packs l end before p
    → rec_of item ≡ rec → l.begun ≡ Some packets → bits ≡ length (rec_bits end.version rec)
    → fits_after packets.current bits ≡ false → may_with l.budget l.book packets ≡ false → book ≡ l.book
    → after ≡ record packets { full = true }
    → (has_room end p item ≡ false)
    × Packs (record l { book = book; begun = Some after }) end before (record p { full = true })
refused l end before p item rec packets after book bits h is begun len fits may same after_is = (
  sym (room_is l end before p item rec packets bits h is begun len)
      ∙ ap (λ (b : Bool). b || may_with l.budget l.book packets) fits ∙ may,
  packs_full l (record l { book = book; begun = Some after }) end before p h same
      (record { budget = refl; silent = refl; heard = refl; spent = refl })
      (ap (λ (b : Begun). Some b) (after_is
      ∙ ap (λ (b : Begun). record b { full = true }) (begun_is l end before p packets h begun))),
)

pub fits_then : (r f m h : Bool) → r ≡ f → r ≡ true → (f || m) ≡ h → r ≡ h
fits_then r f m h a b e = b ∙ ap (λ (x : Bool). x || m) (sym b ∙ a) ∙ e

pub fits_else : (r s f m h : Bool) → s ≡ f → s ≡ false → r ≡ m → (f || m) ≡ h → r ≡ h
fits_else r s f m h a b may e = may ∙ ap (λ (x : Bool). x || m) (sym b ∙ a) ∙ e
