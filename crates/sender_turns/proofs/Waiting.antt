-- Calls that wait are offered one after another.
use Rattle.std.proofs.Common.{◌≡◌, ℕ, zero, suc, ◌+◌, ◌<◌, ◌≤◌, List, [], ◌∷◌, ◌++◌, map, length, drop, slice_get, filter_map, Bool, true, false, not, Option, Some, None, is_some, option_map, refl, sym, ap, ◌∙◌, arith, if◌then◌else◌}
use Rattle.std.specs.List.{cons_option}
use Rattle.std.proofs.lemmas.Bool.{false≢true}
use Rattle.std.proofs.lemmas.List.{length-map}
use Rattle.protocol_model.specs.Limits.{waiting_limit}
use Rattle.protocol_model.specs.Packet.{channel_limit}
use Rattle.protocol_model.specs.Payload.{Message, actor_of}
use Rattle.protocol_model.specs.Side.{AtServer}
use Rattle.connection_model.specs.CallAnswers.{call_channel, waiting_of}
use Rattle.connection_model.specs.Feed.{End, Past, Item}
use Rattle.connection_model.specs.Items.{loose_item, call_item}
use Rattle.connection_model.specs.Pack.{Packing, after_offer}
use Rattle.connection_model.specs.State as model
use Rattle.connection_model.specs.State.{state_of, index_of, is_opened}
use Rattle.packing_laws.specs.Beginning.{after_offers}
use Rattle.packing_laws.proofs.Sendings.{state_behind, index_behind}
use Rattle.link_end.specs.Link.{Link}
use Rattle.link_end.specs.Packs.{sent_now}
use Rattle.link_end.proofs.Offers.{offer_some, offer_none}
use Rattle.channel_table.specs.Channels.{Channels, WaitingCall}
use Rattle.channel_table.specs.Stands.{waiting_call}
use Rattle.bunch_packing.specs.Both.{PacksBoth, packet_for}
use Rattle.bunch_packing.proofs.Carrying.{had_room, had_none}
use Rattle.bunch_packing.proofs.Going.{all_full}
use Rattle.bunch_packing.proofs.Pushing.{behind}
use Rattle.bunch_packing.proofs.Trials.{low_index}
use Rattle.sender_records.specs.Life.{KeepsLife, state_value}
use Rattle.sender_records.specs.declared.actor.ActorRecord.{ActorRecord}
use Rattle.sender_records.specs.declared.life.Life.{Life}
use Rattle.sender_steps.specs.Sender.{record_in}
use Rattle.sender_turns.specs.Calling.{index_opened, IsCalling}

-- ---- one call

pub not_true : (b : Bool) → not b ≡ true → b ≡ false
not_true false e = refl
not_true true e = absurd (false≢true e)

pub not_false : (b : Bool) → not b ≡ false → b ≡ true
not_false true e = refl
not_false false e = absurd (false≢true (sym e))

-- the index on which a call goes is kept
pub kept_channel : (past : Past) (a : ℕ) (l : Life) → KeepsLife past a l
    → index_opened l ≡ call_channel AtServer past a
kept_channel past a l k =
    ap (λ (s : model.ActorState). if is_opened s then l.index else None) k.state
    ∙ ap (λ (o : Option ℕ). if is_opened (state_of past a) then o else None) k.index

-- packets of the tick leave it
pub same_channel : (l : Link) (t : Channels) (end : End) (before : Past) (p : Packing) (a : ℕ)
    → PacksBoth l t end AtServer before p → call_channel AtServer (sent_now p) a ≡ call_channel AtServer p.past a
same_channel l t end before p a h =
    let s = behind l t end AtServer before p h in
    ap (λ (past : Past). call_channel AtServer past a) s.is
    ∙ ap (λ (x : model.ActorState). if is_opened x then index_of (s.sent ++ p.past) a else None)
    (state_behind p.past s.sent s.sendings a)
    ∙ ap (λ (o : Option ℕ). if is_opened (state_of p.past a) then o else None)
    (index_behind p.past s.sent s.sendings a)

pub call_kept : (records : List (ℕ × ActorRecord)) (l : Link) (t : Channels) (end : End) (before : Past) (p : Packing)
    (a : ℕ) → IsCalling records l t end before p
    → index_opened (record_in records a).life ≡ call_channel AtServer p.past a
call_kept records l t end before p a h =
    kept_channel (sent_now p) a (record_in records a).life (h.lives a) ∙ same_channel l t end before p a h.both

-- it has a spelling
opened_is : (l : Life) (ch : ℕ) → index_opened l ≡ Some ch → l.index ≡ Some ch
opened_is l ch e = by (is_opened (state_value l.state)) e
  where
    by : (b : Bool) → (if b then l.index else None) ≡ Some ch → l.index ≡ Some ch
    by true e = e
    by false e = cc

pub call_low : (records : List (ℕ × ActorRecord)) (l : Link) (t : Channels) (end : End) (before : Past) (p : Packing)
    (a ch : ℕ) → IsCalling records l t end before p → index_opened (record_in records a).life ≡ Some ch
    → ch < channel_limit end.version
call_low records l t end before p a ch h e =
    low_index end.version ch
    (h.low a ch (sym (h.lives a).index ∙ opened_is (record_in records a).life ch e)).1

-- the items of one call
abbrev pub items_of : Past → Message → List Item
items_of past m = filter_map (call_item AtServer past) (m ∷ [])

pub none_called : (end : End) (p : Packing) (m : Message) (a : ℕ) → actor_of m ≡ a
    → call_channel AtServer p.past a ≡ None
    → after_offers end p (items_of p.past m) ≡ p
none_called end p m a is e =
    ap (λ (o : Option ℕ). after_offers end p (cons_option (option_map (loose_item m) o) []))
    (ap (call_channel AtServer p.past) is ∙ e)

pub one_called : (end : End) (p : Packing) (m : Message) (a ch : ℕ) → actor_of m ≡ a
    → call_channel AtServer p.past a ≡ Some ch
    → after_offers end p (items_of p.past m) ≡ after_offer end p (loose_item m ch)
one_called end p m a ch is e =
    ap (λ (o : Option ℕ). after_offers end p (cons_option (option_map (loose_item m) o) []))
    (ap (call_channel AtServer p.past) is ∙ e)

-- the number of a packet tells whether there was room
pub room_told : (end : End) (p : Packing) (item : Item) (packet : Option ℕ) → p.full ≡ false
    → packet ≡ packet_for end p item → is_some packet ≡ not (after_offer end p item).full
room_told end p item None ready e =
    ap not (sym (ap (λ (q : Packing). q.full) (offer_none end p item ready (had_none end p item e))))
room_told end p item (Some n) ready e =
    ap not (sym (ap (λ (q : Packing). q.full) (offer_some end p item ready (had_room end p item n e).0) ∙ ready))

-- ---- call by call

-- the items of the calls from the i-th on
abbrev pub items_from : (past before : Past) → (i : ℕ) → List Item
items_from past before i = filter_map (call_item AtServer past) (drop i (waiting_of before))

-- link and channels stand for what is packed by now, and the calls from the i-th on are left
pub record Calling (l : Link) (t : Channels) (end : End) (before : Past) (start : Packing) (i : ℕ) : Type 0 where
  pub p : Packing
  pub both : PacksBoth l t end AtServer before p
  pub is_ready : p.full ≡ false
  pub past : p.past ≡ start.past
  pub rest : after_offers end p (items_from start.past before i)
      ≡ after_offers end start (filter_map (call_item AtServer start.past) (waiting_of before))

pub calling_first : (l : Link) (t : Channels) (end : End) (before : Past) (p : Packing)
    → PacksBoth l t end AtServer before p → p.full ≡ false → Calling l t end before p 0
calling_first l t end before p h ready = record { p = p; both = h; is_ready = ready; past = refl; rest = refl }

-- the i-th call and what is left after it
pub record Next (xs : List Message) (i : ℕ) (call : WaitingCall) : Type 0 where
  pub message : Message
  pub at : drop i xs ≡ message ∷ drop (i + 1) xs
  pub is : waiting_call message ≡ call

some_call : (x y : WaitingCall) → ◌≡◌ {A = Option WaitingCall} (Some x) (Some y) → x ≡ y
some_call x y e = cc

pub next_call : (xs : List Message) (i : ℕ) (call : WaitingCall) → slice_get (map waiting_call xs) i ≡ Some call
    → Next xs i call
next_call [] i call e = absurd (none i e)
  where
    none : (i : ℕ) → slice_get {X = WaitingCall} [] i ≡ Some call → ⊥
    none zero e = cc
    none (suc i) e = cc
next_call (m ∷ xs) zero call e = record { message = m; at = refl; is = some_call (waiting_call m) call e }
next_call (m ∷ xs) (suc i) call e =
    let n = next_call xs i call e in
    let further : suc (i + 1) ≡ suc i + 1 = omega arith in record {
      message = n.message;
      at = n.at ∙ ap (λ (k : ℕ). n.message ∷ drop k (m ∷ xs)) further;
      is = n.is;
    }

-- behind the last nothing is left
pub none_left : (xs : List Message) (i : ℕ) → length xs ≤ i → drop i xs ≡ []
none_left [] zero h = refl
none_left [] (suc i) h = refl
none_left (m ∷ xs) zero h = absurd (omega (arith, h))
none_left (m ∷ xs) (suc i) h = none_left xs i (omega (arith, h))

pub past_last : (xs : List Message) (i : ℕ) → ◌≡◌ {A = Option WaitingCall} None (slice_get (map waiting_call xs) i)
    → drop i xs ≡ []
past_last [] zero e = refl
past_last [] (suc i) e = refl
past_last (m ∷ xs) zero e = absurd (let q : ◌≡◌ {A = Option WaitingCall} None (Some (waiting_call m)) = e in cc)
past_last (m ∷ xs) (suc i) e = past_last xs i e

offers_split : (end : End) (p : Packing) (o : Option Item) (items : List Item)
    → after_offers end p (cons_option o items) ≡ after_offers end (after_offers end p (cons_option o [])) items
offers_split end p None items = refl
offers_split end p (Some item) items = refl

-- the call that is offered
module _ (records : List (ℕ × ActorRecord)) (l now : Link) (t : Channels) (end : End) (before : Past) (p : Packing)
    (h : IsCalling records l t end before p) (i : ℕ) (g : Calling now t end before p i) (call : WaitingCall)
    (e : ◌≡◌ {A = Option WaitingCall} (Some call) (slice_get t.waiting i)) where
  pub next_of : Next (waiting_of before) i call
  next_of =
      next_call (waiting_of before) i call (ap (λ (ws : List WaitingCall). slice_get ws i) (sym h.waiting) ∙ sym e)

  pub channel_of : index_opened (record_in records call.actor).life ≡ call_channel AtServer g.p.past call.actor
  channel_of =
      call_kept records l t end before p call.actor h
      ∙ ap (λ (past : Past). call_channel AtServer past call.actor) (sym g.past)

-- all calls that may wait were offered
pub all_offered : (records : List (ℕ × ActorRecord)) (l : Link) (t : Channels) (end : End) (before : Past)
    (p : Packing) (i : ℕ) → IsCalling records l t end before p → waiting_limit ≤ i → drop i (waiting_of before) ≡ []
all_offered records l t end before p i h le =
    none_left (waiting_of before) i
    (omega (arith, le, h.may.few, ap length h.waiting, length-map (waiting_of before) waiting_call))

module _ (l later : Link) (t : Channels) (end : End) (before : Past) (start : Packing) (i : ℕ)
    (g : Calling l t end before start i) (call : WaitingCall) (n : Next (waiting_of before) i call) where
  -- what is offered next, and then the rest
  pub goes_next : after_offers end (after_offers end g.p (items_of g.p.past n.message))
      (items_from start.past before (i + 1))
      ≡ after_offers end start (filter_map (call_item AtServer start.past) (waiting_of before))
  goes_next =
      ap (λ (past : Past). after_offers end (after_offers end g.p (items_of past n.message))
      (items_from start.past before (i + 1))) g.past
      ∙ sym (offers_split end g.p (call_item AtServer start.past n.message) (items_from start.past before (i + 1)))
      ∙ sym (ap (λ (xs : List Message). after_offers end g.p (filter_map (call_item AtServer start.past) xs)) n.at)
      ∙ g.rest

  pub calling_on : (after_offers end g.p (items_of g.p.past n.message)).full ≡ false
      → PacksBoth later t end AtServer before (after_offers end g.p (items_of g.p.past n.message))
      → Calling later t end before start (i + 1)
  calling_on ready both = record {
    p = after_offers end g.p (items_of g.p.past n.message);
    both = both;
    is_ready = ready;
    past = Rattle.bunch_packing.proofs.Tick.offers_past end g.p (items_of g.p.past n.message) ∙ g.past;
    rest = goes_next;
  }

  pub calling_full : (after_offers end g.p (items_of g.p.past n.message)).full ≡ true
      → after_offers end g.p (items_of g.p.past n.message)
      ≡ after_offers end start (filter_map (call_item AtServer start.past) (waiting_of before))
  calling_full full =
      sym (all_full end (after_offers end g.p (items_of g.p.past n.message)) (items_from start.past before (i + 1))
      full)
      ∙ goes_next

pub calling_done : (l : Link) (t : Channels) (end : End) (before : Past) (start : Packing) (i : ℕ)
    (g : Calling l t end before start i) → drop i (waiting_of before) ≡ []
    → g.p ≡ after_offers end start (filter_map (call_item AtServer start.past) (waiting_of before))
calling_done l t end before start i g e =
    sym (ap (λ (xs : List Message). after_offers end g.p (filter_map (call_item AtServer start.past) xs)) e) ∙ g.rest
