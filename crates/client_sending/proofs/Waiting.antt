-- Calls that wait are offered one after another, each on the channel of its actor's copy.
use Rattle.std.proofs.Common.{◌≡◌, ◌∙◌, ℕ, zero, suc, ◌+◌, ◌≤◌, List, [], ◌∷◌, map, length, drop, slice_get, filter_map, Bool, true, false, not, Option, Some, None, is_some, option_map, refl, sym, ap, arith}
use Rattle.std.specs.List.{cons_option}
use Rattle.std.proofs.lemmas.Bool.{false≢true}
use Rattle.std.proofs.lemmas.List.Sums.{fold-append}
use Rattle.protocol_model.specs.Limits.{part_bits, waiting_limit}
use Rattle.protocol_model.specs.Payload.{Message, actor_of, message_bits}
use Rattle.protocol_model.specs.Side.{AtClient}
use Rattle.connection_model.specs.CallAnswers.{call_channel, waiting_of}
use Rattle.connection_model.specs.Copies.{copy_channel}
use Rattle.connection_model.specs.Feed.{End, Past, Item}
use Rattle.connection_model.specs.Items.{due_items, loose_item, call_item}
use Rattle.connection_model.specs.Pack.{Packing, after_offer}
use Rattle.packing_laws.specs.Beginning.{after_offers}
use Rattle.link_end.specs.Link.{Link}
use Rattle.link_end.proofs.Offers.{offer_some, offer_none}
use Rattle.channel_table.specs.Channels.{Channels, WaitingCall}
use Rattle.channel_table.specs.Stands.{waiting_call, channel_bound}
use Rattle.bunch_packing.specs.Both.{PacksBoth, packet_for}
use Rattle.bunch_packing.proofs.Carrying.{had_room, had_none}
use Rattle.bunch_packing.proofs.Going.{all_full}
use Rattle.bunch_packing.proofs.Tick.{offers_past}
use Rattle.client_sending.specs.Ticking.{IsTicking, call_items, after_firsts}

-- ---- one call

pub not_true : (b : Bool) → not b ≡ true → b ≡ false
not_true false e = refl
not_true true e = absurd (false≢true e)

pub not_false : (b : Bool) → not b ≡ false → b ≡ true
not_false true e = refl
not_false false e = absurd (false≢true (sym e))

-- its items
abbrev pub items_of : Past → Message → List Item
items_of past m = filter_map (call_item AtClient past) (m ∷ [])

pub none_called : (end : End) (p : Packing) (m : Message) → call_channel AtClient p.past (actor_of m) ≡ None
    → after_offers end p (items_of p.past m) ≡ p
none_called end p m e =
    ap (λ (o : Option ℕ). after_offers end p (cons_option (option_map (loose_item m) o) [])) e

pub one_called : (end : End) (p : Packing) (m : Message) (ch : ℕ) → call_channel AtClient p.past (actor_of m) ≡ Some ch
    → after_offers end p (items_of p.past m) ≡ after_offer end p (loose_item m ch)
one_called end p m ch e =
    ap (λ (o : Option ℕ). after_offers end p (cons_option (option_map (loose_item m) o) [])) e

-- the number of a packet tells whether there was room
pub room_told : (end : End) (p : Packing) (item : Item) (packet : Option ℕ) → p.full ≡ false
    → packet ≡ packet_for end p item → is_some packet ≡ not (after_offer end p item).full
room_told end p item None ready e =
    ap not (sym (ap (λ (q : Packing). q.full) (offer_none end p item ready (had_none end p item e))))
room_told end p item (Some n) ready e =
    ap not (sym (ap (λ (q : Packing). q.full) (offer_some end p item ready (had_room end p item n e).0) ∙ ready))

-- ---- call by call

-- the items of the calls from the i-th on
abbrev pub items_from : (past before : Past) → (i : ℕ) → List Item
items_from past before i = filter_map (call_item AtClient past) (drop i (waiting_of before))

-- link and channels stand for what is packed by now, and the calls from the i-th on are left
pub record Calling (l : Link) (t : Channels) (end : End) (before : Past) (start : Packing) (i : ℕ) : Type 0 where
  pub p : Packing
  pub both : PacksBoth l t end AtClient before p
  pub is_ready : p.full ≡ false
  pub past : p.past ≡ start.past
  pub rest : after_offers end p (items_from start.past before i)
      ≡ after_offers end start (call_items before start.past)

pub calling_first : (l : Link) (t : Channels) (end : End) (before : Past) (p : Packing)
    → PacksBoth l t end AtClient before p → p.full ≡ false → Calling l t end before p 0
calling_first l t end before p h ready = record { p = p; both = h; is_ready = ready; past = refl; rest = refl }

-- the i-th call and what is left after it
pub record Next (xs : List Message) (i : ℕ) (call : WaitingCall) : Type 0 where
  pub message : Message
  pub there : slice_get xs i ≡ Some message
  pub at : drop i xs ≡ message ∷ drop (i + 1) xs
  pub is : waiting_call message ≡ call

some_call : (x y : WaitingCall) → ◌≡◌ {A = Option WaitingCall} (Some x) (Some y) → x ≡ y
some_call x y e = cc

next_call : (xs : List Message) (i : ℕ) (call : WaitingCall) → slice_get (map waiting_call xs) i ≡ Some call
    → Next xs i call
next_call [] i call e = absurd (none i e)
  where
    none : (i : ℕ) → slice_get {X = WaitingCall} [] i ≡ Some call → ⊥
    none zero e = cc
    none (suc i) e = cc
next_call (m ∷ xs) zero call e =
    record { message = m; there = refl; at = refl; is = some_call (waiting_call m) call e }
next_call (m ∷ xs) (suc i) call e =
    let n = next_call xs i call e in
    let further : suc (i + 1) ≡ suc i + 1 = omega arith in record {
      message = n.message;
      there = n.there;
      at = n.at ∙ ap (λ (k : ℕ). n.message ∷ drop k (m ∷ xs)) further;
      is = n.is;
    }

-- behind the last nothing is left
none_left : (xs : List Message) (i : ℕ) → length xs ≤ i → drop i xs ≡ []
none_left [] zero h = refl
none_left [] (suc i) h = refl
none_left (m ∷ xs) zero h = absurd (omega (arith, h))
none_left (m ∷ xs) (suc i) h = none_left xs i (omega (arith, h))

past_last : (xs : List Message) (i : ℕ) → ◌≡◌ {A = Option WaitingCall} None (slice_get (map waiting_call xs) i)
    → drop i xs ≡ []
past_last [] zero e = refl
past_last [] (suc i) e = refl
past_last (m ∷ xs) zero e = absurd (let q : ◌≡◌ {A = Option WaitingCall} None (Some (waiting_call m)) = e in cc)
past_last (m ∷ xs) (suc i) e = past_last xs i e

offers_split : (end : End) (p : Packing) (o : Option Item) (items : List Item)
    → after_offers end p (cons_option o items) ≡ after_offers end (after_offers end p (cons_option o [])) items
offers_split end p None items = refl
offers_split end p (Some item) items = refl

-- no call is left
pub none_waits : (l : Link) (t : Channels) (end : End) (before : Past) (p : Packing) (i : ℕ)
    → IsTicking l t end before p → ◌≡◌ {A = Option WaitingCall} None (slice_get t.waiting i)
    → drop i (waiting_of before) ≡ []
none_waits l t end before p i h e =
    past_last (waiting_of before) i (e ∙ ap (λ (ws : List WaitingCall). slice_get ws i) h.waiting)

-- all calls that may wait were offered
pub all_offered : (l : Link) (t : Channels) (end : End) (before : Past) (p : Packing) (i : ℕ)
    → IsTicking l t end before p → waiting_limit ≤ i → drop i (waiting_of before) ≡ []
all_offered l t end before p i h le = none_left (waiting_of before) i (omega (arith, le, h.waits.few))

-- the call that is offered
module _ (l now : Link) (t : Channels) (end : End) (before : Past) (p : Packing) (h : IsTicking l t end before p)
    (i : ℕ) (call : WaitingCall) (e : ◌≡◌ {A = Option WaitingCall} (Some call) (slice_get t.waiting i)) where
  pub next_of : Next (waiting_of before) i call
  next_of =
      next_call (waiting_of before) i call (ap (λ (ws : List WaitingCall). slice_get ws i) (sym h.waiting) ∙ sym e)

  pub next_actor : actor_of next_of.message ≡ call.actor
  next_actor = ap (λ (w : WaitingCall). w.actor) next_of.is

  pub next_bits : message_bits next_of.message ≡ call.bits
  next_bits = ap (λ (w : WaitingCall). w.bits) next_of.is

  pub next_short : length call.bits ≤ part_bits
  next_short = omega (arith, h.waits.short i next_of.message next_of.there, ap length next_bits)

  pub next_channel : (g : Calling now t end before p i) → channel_bound t.bound call.actor
      ≡ call_channel AtClient g.p.past (actor_of next_of.message)
  next_channel g =
      h.bound call.actor ∙ ap (λ (past : Past). copy_channel past call.actor) (sym g.past)
      ∙ ap (copy_channel g.p.past) (sym next_actor)

module _ (l later : Link) (t : Channels) (end : End) (before : Past) (start : Packing) (i : ℕ)
    (g : Calling l t end before start i) (call : WaitingCall) (n : Next (waiting_of before) i call) where
  -- what is offered next, and then the rest
  goes_next : after_offers end (after_offers end g.p (items_of g.p.past n.message))
      (items_from start.past before (i + 1))
      ≡ after_offers end start (call_items before start.past)
  goes_next =
      ap (λ (past : Past). after_offers end (after_offers end g.p (items_of past n.message))
      (items_from start.past before (i + 1))) g.past
      ∙ sym (offers_split end g.p (call_item AtClient start.past n.message) (items_from start.past before (i + 1)))
      ∙ sym (ap (λ (xs : List Message). after_offers end g.p (filter_map (call_item AtClient start.past) xs)) n.at)
      ∙ g.rest

  pub calling_on : (after_offers end g.p (items_of g.p.past n.message)).full ≡ false
      → PacksBoth later t end AtClient before (after_offers end g.p (items_of g.p.past n.message))
      → Calling later t end before start (i + 1)
  calling_on ready both = record {
    p = after_offers end g.p (items_of g.p.past n.message);
    both = both;
    is_ready = ready;
    past = offers_past end g.p (items_of g.p.past n.message) ∙ g.past;
    rest = goes_next;
  }

  pub calling_full : (after_offers end g.p (items_of g.p.past n.message)).full ≡ true
      → after_offers end g.p (items_of g.p.past n.message) ≡ after_offers end start (call_items before start.past)
  calling_full full =
      sym (all_full end (after_offers end g.p (items_of g.p.past n.message)) (items_from start.past before (i + 1))
      full)
      ∙ goes_next

pub calling_done : (l : Link) (t : Channels) (end : End) (before : Past) (start : Packing) (i : ℕ)
    (g : Calling l t end before start i) → drop i (waiting_of before) ≡ []
    → g.p ≡ after_offers end start (call_items before start.past)
calling_done l t end before start i g e =
    sym (ap (λ (xs : List Message). after_offers end g.p (filter_map (call_item AtClient start.past) xs)) e) ∙ g.rest

-- ---- after what is due

-- link and channels are right about more that was packed, in which each item found room
pub ticking_on : (l later : Link) (t told : Channels) (end : End) (before : Past) (p : Packing) (items : List Item)
    → IsTicking l t end before p → PacksBoth later told end AtClient before (after_offers end p items)
    → (after_offers end p items).full ≡ false → told.bound ≡ t.bound → told.waiting ≡ t.waiting
    → IsTicking later told end before (after_offers end p items)
ticking_on l later t told end before p items h both ready bound waiting = record {
  both = both;
  is_ready = ready;
  bound = λ a. ap (λ b. channel_bound b a) bound ∙ h.bound a
      ∙ ap (λ (past : Past). copy_channel past a) (sym (offers_past end p items));
  held = λ a ch e. h.held a ch (ap (λ (past : Past). copy_channel past a) (sym (offers_past end p items)) ∙ e);
  waiting = waiting ∙ h.waiting;
  waits = h.waits;
}

pub firsts_all : (end : End) (before : Past) (p : Packing)
    → after_offers end (after_offers end p (due_items p.past))
    (call_items before (after_offers end p (due_items p.past)).past) ≡ after_firsts end before p
firsts_all end before p =
    ap (λ (past : Past). after_offers end (after_offers end p (due_items p.past)) (call_items before past))
    (offers_past end p (due_items p.past))
    ∙ sym (fold-append (after_offer end) p (due_items p.past) (call_items before p.past))

pub firsts_full : (end : End) (before : Past) (p : Packing) → (after_offers end p (due_items p.past)).full ≡ true
    → after_offers end p (due_items p.past) ≡ after_firsts end before p
firsts_full end before p full =
    sym (all_full end (after_offers end p (due_items p.past))
    (call_items before (after_offers end p (due_items p.past)).past) full)
    ∙ firsts_all end before p
