-- Sender, link and channels once an open that was offered is kept.
use Rattle.std.proofs.Common.{◌≡◌, ◌≢◌, ◌∙◌, ℕ, ◌+◌, ◌<◌, ◌≤◌, List, [], ◌∷◌, ◌++◌, map, length, Bool, true, false, not, ◌&&◌, ◌||◌, nat_lt, ap, sym, refl, subst, arith, Option, Some, None, slice_index_or}
use Rattle.std.specs.List.{list_any, AllByRecursion}
use Rattle.std.proofs.lemmas.Bool.{false≢true}
use Rattle.protocol_model.specs.Payload.{Message, parts_of}
use Rattle.protocol_model.specs.Side.{AtServer}
use Rattle.connection_model.specs.Feed.{End, Past, Sent, Item, tick_count}
use Rattle.connection_model.specs.Fates.{last_sent, high_of}
use Rattle.connection_model.specs.Bunches.{made_count, has_arrived, room, after_making, span}
use Rattle.connection_model.specs.Exports.{is_known}
use Rattle.connection_model.specs.Items.{is_update_of, open_message, is_quiet}
use Rattle.connection_model.specs.Pack.{Packing, has_room, part_item, after_open}
use Rattle.connection_model.specs.State.{ActorState, Closed, Opening, Opened, Closing, Asleep, Mark, state_of, is_closed, is_asleep, holds_index, index_at, index_of, last_mark, free_index}
use Rattle.connection_laws.proofs.Arrivals.{arrival_made}
use Rattle.connection_laws.proofs.Moves.{making_keeps}
use Rattle.packing_laws.specs.Beginning.{after_offers}
use Rattle.packing_laws.specs.Sendings.{sent_all, CarryUnarrived}
use Rattle.packing_laws.proofs.Packings.{sent_all-cons, last_sent_all, ticks_all, SentAll, sent_behind}
use Rattle.packing_laws.proofs.Sendings.{arrived_behind, index_behind, free_index_behind}
use Rattle.channel_laws.proofs.Growing.{high_made}
use Rattle.class_layout.specs.Tables.{Layout}
use Rattle.link_end.specs.Link.{Link}
use Rattle.link_end.specs.Packs.{sent_now}
use Rattle.channel_table.specs.Channels.{Channels}
use Rattle.channel_table.specs.Holders.{Bound}
use Rattle.channel_table.proofs.Unmade.{unmade}
use Rattle.bunch_packing.specs.Both.{PacksBoth}
use Rattle.bunch_packing.specs.Opens.{part_items, open_first}
use Rattle.bunch_packing.proofs.Offering.{made_all}
use Rattle.bunch_packing.proofs.Opening.{open_over, open_none, open_made}
use Rattle.bunch_packing.proofs.Pushing.{behind, same_last}
use Rattle.shadow_changes.specs.Lists.{last_tick}
use Rattle.shadow_changes.specs.Samples.{Shadows, Samples, samples_of}
use Rattle.sender_laws.specs.Acts.{are_sent, ArrivesMade}
use Rattle.sender_laws.specs.Items.{has_update}
use Rattle.sender_laws.proofs.Opens.{known_under}
use Rattle.turn_laws.proofs.Untouched.{offers_past}
use Rattle.sender_records.specs.declared.actor.ActorRecord.{ActorRecord}
use Rattle.sender_steps.specs.declared.sent.OpenSent.{OpenSent}
use Rattle.sender_steps.specs.declared.sight.Seen.{Seen as SeenValue}
use Rattle.sender_steps.specs.Sender.{Sender}
use Rattle.sender_steps.specs.Sights.{seen_value}
use Rattle.sender_steps.specs.Stands.{Keeps, KeepsBoth}
use Rattle.sender_turns.specs.Opening.{AreBound, MayOpen, IsOpenTold}
use Rattle.sender_turns.specs.Ticking.{HasParts, InTick, IsOpening, IsKept, IsUnseen, IsUnserved, after_opening}
use Rattle.sender_turns.proofs.Comparing.{in_turn, same_tick}
use Rattle.sender_turns.proofs.Offered.{keeps_offers, parts_unseen}

-- ---- who is to be opened

-- an actor that is to be opened holds no index
none_held : (x : ActorState) (q : Bool) (mark : Option Mark) → (is_closed x || (is_asleep x && q)) ≡ true
    → index_at (holds_index x) mark ≡ None
none_held Closed q mark e = refl
none_held Asleep q mark e = refl
none_held Opening q mark e = absurd (false≢true e)
none_held Opened q mark e = absurd (false≢true e)
none_held Closing q mark e = absurd (false≢true e)

-- ---- packets behind two pasts

first : (x y : Bool) → (x || y) ≡ false → x ≡ false
first false y e = refl
first true y e = absurd (false≢true (sym e))

second : (x y : Bool) → (x || y) ≡ false → y ≡ false
second false y e = e
second true y e = absurd (false≢true (sym e))

same_ticks : (past : Past) (ch : ℕ) (m : Message) → tick_count (after_making past ch m) ≡ tick_count past
same_ticks past ch m =
    making_keeps (λ i before. tick_count before ≡ tick_count past) past ch m refl (λ i before lt e. e)

-- the packets, sent behind either
pub record SentUnder (past later : Past) (packets : List (List Item)) (a : ℕ) : Type 0 where
  pub sent : Past
  pub is : sent_all past packets ≡ sent ++ past
  pub later_is : sent_all later packets ≡ sent ++ later
  pub sends : are_sent sent ≡ true
  pub unsent : has_update a sent ≡ false

sent_under : (past later : Past) (packets : List (List Item)) (a : ℕ) → last_sent later ≡ last_sent past
    → tick_count later ≡ tick_count past → IsUnserved a packets → SentUnder past later packets a
sent_under past later [] a sent ticks none =
    record { sent = []; is = refl; later_is = refl; sends = refl; unsent = refl }
sent_under past later (items ∷ packets) a sent ticks none =
    let rest : SentUnder past later packets a = sent_under past later packets a sent ticks
    (second (list_any (is_update_of a) items) (list_any (list_any (is_update_of a)) packets) none) in
    let number : ℕ = last_sent past + length packets + 1 in
    let with : Past → Past = λ l. Sent number (tick_count past) items ∷ l in
    record {
      sent = with rest.sent;
      is = sent_all-cons past items packets
          ∙ ap (λ (n : ℕ). Sent (n + 1) (tick_count (sent_all past packets)) items ∷ sent_all past packets)
          (last_sent_all past packets)
          ∙ ap (λ (t : ℕ). Sent number t items ∷ sent_all past packets) (ticks_all past packets) ∙ ap with rest.is;
      later_is = sent_all-cons later items packets
          ∙ ap (λ (n : ℕ). Sent (n + 1) (tick_count (sent_all later packets)) items ∷ sent_all later packets)
          (last_sent_all later packets ∙ ap (λ (n : ℕ). n + length packets) sent)
          ∙ ap (λ (t : ℕ). Sent number t items ∷ sent_all later packets) (ticks_all later packets ∙ ticks)
          ∙ ap with rest.later_is;
      sends = rest.sends;
      unsent = ap (λ (b : Bool). b || has_update a rest.sent)
          (first (list_any (is_update_of a) items) (list_any (list_any (is_update_of a)) packets) none) ∙ rest.unsent;
    }

index_all : (past : Past) (packets : List (List Item)) → high_of past ≤ last_sent past → CarryUnarrived past packets
    → (a : ℕ) → index_of (sent_all past packets) a ≡ index_of past a
index_all past packets high carry a =
    let s : SentAll past packets = sent_behind past packets high carry in
    ap (λ (l : Past). index_of l a) s.is ∙ index_behind past s.sent s.sendings a

carry_made : (past : Past) (ch : ℕ) (m : Message) (packets : List (List Item)) → CarryUnarrived past packets
    → CarryUnarrived (after_making past ch m) packets
carry_made past ch m [] h = tt
carry_made past ch m (items ∷ packets) h =
    (λ c n e. arrival_made past ch m c n ∙ h.0 c n e, carry_made past ch m packets h.1)

-- ---- an open that is made, and one that isn't

is_made : (end : End) (p : Packing) (ch : ℕ) (m : Message) (n : ℕ) → open_first end p ch m ≡ Some n
    → after_open end p ch m ≡ after_offers end (record p { past = after_making p.past ch m })
    (part_items ch (made_count p.past ch + 1) m (parts_of m))
is_made end p ch m n e =
    by (nat_lt (room p.past ch) (parts_of m)) (has_room end p (part_item ch (made_count p.past ch + 1) m 0)) refl refl
  where
    no : (let o : Option ℕ = None in o) ≡ Some n → ⊥
    no q = cc

    by : (x y : Bool) → nat_lt (room p.past ch) (parts_of m) ≡ x
        → has_room end p (part_item ch (made_count p.past ch + 1) m 0) ≡ y
        → after_open end p ch m ≡ after_offers end (record p { past = after_making p.past ch m })
        (part_items ch (made_count p.past ch + 1) m (parts_of m))
    by true y q r = absurd (no (sym (open_over end p ch m q).1 ∙ e))
    by false false q r = absurd (no (sym (open_none end p ch m q r).1 ∙ e))
    by false true q r = (open_made end p ch m q r).0

isnt_made : (end : End) (p : Packing) (ch : ℕ) (m : Message) → open_first end p ch m ≡ None
    → ((after_open end p ch m).past ≡ p.past) × ((after_open end p ch m).packets ≡ p.packets)
isnt_made end p ch m e =
    by (nat_lt (room p.past ch) (parts_of m)) (has_room end p (part_item ch (made_count p.past ch + 1) m 0)) refl refl
  where
    no : (n : ℕ) → (let o : Option ℕ = None in o) ≡ Some n → ⊥
    no n q = cc

    by : (x y : Bool) → nat_lt (room p.past ch) (parts_of m) ≡ x
        → has_room end p (part_item ch (made_count p.past ch + 1) m 0) ≡ y
        → ((after_open end p ch m).past ≡ p.past) × ((after_open end p ch m).packets ≡ p.packets)
    by true y q r =
        let is = (open_over end p ch m q).0 in
        (ap (λ (k : Packing). k.past) is, ap (λ (k : Packing). k.packets) is)
    by false false q r =
        let is = (open_none end p ch m q r).0 in
        (ap (λ (k : Packing). k.past) is, ap (λ (k : Packing). k.packets) is)
    by false true q r = absurd (no (made_count p.past ch + 1) (sym e ∙ (open_made end p ch m q r).1))

-- link and channels pack no less where another actor is bound
pub rebound : (l : Link) (t : Channels) (bound : Bound) (end : End) (before : Past) (p : Packing)
    → PacksBoth l t end AtServer before p → PacksBoth l (record t { bound = bound }) end AtServer before p
rebound l t bound end before p h = record {
  link = h.link;
  table = record { made = h.table.made; got = h.table.got; high = h.table.high };
  unarrived = h.unarrived;
  low = h.low;
}

-- what is right of a sender is so of its parts
pub same_parts : (s : Sender) (records : List (ℕ × ActorRecord)) (pending live : List ℕ) (known : List Bool)
    (opens : List OpenSent) → HasParts s records pending live known opens → (P : Sender → Type 0) → P s
    → P (record s { records = records; pending = pending; live = live; known = known; opens = opens })
same_parts s records pending live known opens h P k =
    subst (λ rs. P (record s { records = rs; pending = pending; live = live; known = known; opens = opens }))
    h.records_are
    (subst (λ ps. P (record s { pending = ps; live = live; known = known; opens = opens })) h.pending_are
    (subst (λ ls. P (record s { live = ls; known = known; opens = opens })) h.live_are
    (subst (λ ks. P (record s { known = ks; opens = opens })) h.known_are
    (subst (λ os. P (record s { opens = os })) h.opens_are k))))

-- ---- the turn of an actor that is to be opened

module _ (layout : Layout) (changes : Shadows) (seen : SeenValue) (s : Sender) (l : Link) (t : Channels) (end : End)
    (before : Past) (p : Packing) (samples : Samples) (tick : ℕ)
    (h : IsOpening layout changes seen s l t end before p samples tick) where
  abbrev m : Message
  m = open_message p.past (seen_value layout seen)

  abbrev a : ℕ
  a = seen.actor

  pub both_kept : KeepsBoth s t (sent_now p) samples
  both_kept = record {
    sender = h.stands.sender;
    table = h.stands.both.table;
    bound = h.stands.bound.index;
    paired = h.stands.bound.paired;
  }

  pub free_now : free_index (sent_now p) ≡ free_index p.past
  free_now =
      let b = behind l t end AtServer before p h.stands.both in
      ap free_index b.is ∙ free_index_behind p.past b.sent b.sendings

  pub unheld : index_of (sent_now p) a ≡ None
  unheld =
      index_all p.past p.packets h.stands.both.link.high h.stands.both.unarrived a
      ∙ none_held (state_of p.past a) (not (is_quiet p.past (seen_value layout seen))) (last_mark p.past a) h.wants

  pub tick_some : 1 ≤ tick
  tick_some =
      let service = (h.stands.sender.each a).service in
      omega (arith, service.relevant, h.shown, ticks_all p.past p.packets, h.ticks)

  -- what wasn't made hasn't arrived
  unmade_now : ArrivesMade (sent_now p)
  unmade_now ch n above = unmade t AtServer (sent_now p) h.stands.both.table ch n above

  unmade_past : (ch n : ℕ) → made_count p.past ch < n → has_arrived p.past ch n ≡ false
  unmade_past ch n above =
      let b = behind l t end AtServer before p h.stands.both in
      sym (ap (λ (past : Past). has_arrived past ch n) b.is ∙ arrived_behind p.past b.sent b.sendings ch n)
      ∙ unmade_now ch n (omega (arith, above, made_all p.past p.packets ch))

  -- once it is kept that the open was made
  module _ (o : OpenSent) (k : IsKept end p m o) where
    abbrev made_past : Past
    made_past = after_making p.past o.channel m

    abbrev made : Packing
    made = record p { past = made_past }

    pub under : SentUnder p.past (after_making p.past o.channel m) p.packets a
    under =
        sent_under p.past made_past p.packets a (same_last p.past o.channel m) (same_ticks p.past o.channel m)
        h.unserved

    pub may : (newest : ℕ) → newest ≡ last_tick (samples_of samples a)
        → MayOpen under.sent p.past samples a o.channel tick seen.values newest
    may newest told = record {
      sends = under.sends;
      unsent = under.unsent;
      made = subst ArrivesMade under.is unmade_now;
      clear = subst (λ (past : Past). span past o.channel ≡ 0) under.is k.clear;
      free = λ b. subst (λ (past : Past). index_of past b ≢ Some o.channel) under.is (k.free b);
      now = h.ticks;
      sampled = record { apart = h.entry.sampled.0; agrees = h.entry.sampled.1; tick = told ∙ same_tick (samples_of samples a) };
      turn = in_turn (samples_of samples a) (h.noted.each a).rising;
    }

    pub told : IsOpenTold s under.sent p.past samples a m o
    told = record {
      sender = subst (λ (past : Past). Keeps s past samples) under.is h.stands.sender;
      actor_is = h.entry.actor;
      relevant = h.shown;
      some = k.some;
      low = k.low;
      last = k.last;
      guids = k.guids;
    }

    pub bound_before : (t' : Channels) → t'.bound ≡ t.bound → AreBound t'.bound (under.sent ++ p.past)
    bound_before t' e =
        subst (λ (past : Past). AreBound t'.bound past) under.is
        (subst (λ (bound : Bound). AreBound bound (sent_now p)) (sym e) h.stands.bound)

    -- its parts are offered
    after_is : after_opening layout end p seen
        ≡ after_offers end made (part_items o.channel (made_count p.past o.channel + 1) m (parts_of m))
    after_is =
        ap (λ (ch : ℕ). after_open end p ch m) (sym k.channel)
        ∙ subst (λ (ch : ℕ). after_open end p ch m ≡ after_offers end (record p { past = after_making p.past ch m })
        (part_items ch (made_count p.past ch + 1) m (parts_of m))) (sym k.channel)
        (is_made end p (free_index p.past) m (made_count p.past (free_index p.past) + 1) k.made)

    high : high_of made_past ≤ last_sent made_past
    high =
        let was = h.stands.both.link.high in
        omega (arith, was, high_made p.past o.channel m, same_last p.past o.channel m)

    carry : CarryUnarrived made_past p.packets
    carry = carry_made p.past o.channel m p.packets h.stands.both.unarrived

    parts : AllByRecursion (IsUnseen made_past)
        (part_items o.channel (made_count p.past o.channel + 1) m (parts_of m))
    parts =
        parts_unseen made_past o.channel (made_count p.past o.channel + 1) m
        (λ i. arrival_made p.past o.channel m o.channel (made_count p.past o.channel + 1 + i)
        ∙ unmade_past o.channel (made_count p.past o.channel + 1 + i) (omega arith)) (parts_of m) 0

    past_is : (after_opening layout end p seen).past ≡ made_past
    past_is =
        ap (λ (q : Packing). q.past) after_is
        ∙ offers_past end (part_items o.channel (made_count p.past o.channel + 1) m (parts_of m)) made

    module _ (s' : Sender) (l' : Link) (t' : Channels)
        (both : PacksBoth l' t' end AtServer before (after_opening layout end p seen)) where
      kept_after : Keeps s' (under.sent ++ made_past) samples
          → Keeps s' (sent_now (after_opening layout end p seen)) samples
      kept_after kept =
          subst (λ (q : Packing). Keeps s' (sent_now q) samples) (sym after_is)
          (keeps_offers end s' samples made
          (part_items o.channel (made_count p.past o.channel + 1) m (parts_of m)) high carry parts
          (subst (λ (past : Past). Keeps s' past samples) (sym under.later_is) kept))

      bound_after : AreBound t'.bound (under.sent ++ made_past)
          → AreBound t'.bound (sent_now (after_opening layout end p seen))
      bound_after bound = record {
        index = λ b. bound.index b ∙ ap (λ (past : Past). index_of past b) (sym under.later_is)
            ∙ index_all made_past p.packets high carry b
            ∙ ap (λ (past : Past). index_of past b) (sym past_is)
            ∙ sym (index_all (after_opening layout end p seen).past (after_opening layout end p seen).packets
            both.link.high both.unarrived b);
        paired = bound.paired;
      }

      known_after : ((g : ℕ) → slice_index_or s'.known g false ≡ slice_index_or s.known g false)
          → (g : ℕ) → is_known (after_opening layout end p seen).past g ≡ slice_index_or s'.known g false
      known_after same g =
          ap (λ (past : Past). is_known past g) past_is
          ∙ known_under [] p.past refl o.channel m unmade_past g ∙ h.stands.known g ∙ sym (same g)

      pub opened_in_tick : Keeps s' (under.sent ++ made_past) samples
          → AreBound t'.bound (under.sent ++ made_past)
          → ((g : ℕ) → slice_index_or s'.known g false ≡ slice_index_or s.known g false)
          → t'.waiting ≡ t.waiting
          → InTick s' l' t' end before (after_opening layout end p seen) samples
      opened_in_tick kept bound known waiting = record {
        sender = kept_after kept;
        both = both;
        bound = bound_after bound;
        known = known_after known;
        waiting = waiting ∙ h.stands.waiting;
      }

  -- where it wasn't made
  pub unopened_in_tick : (l' : Link) (t' : Channels) → open_first end p (free_index p.past) m ≡ None
      → PacksBoth l' t' end AtServer before (after_opening layout end p seen)
      → t'.bound ≡ t.bound → t'.waiting ≡ t.waiting
      → InTick s l' t' end before (after_opening layout end p seen) samples
  unopened_in_tick l' t' none both bound waiting =
      let same = isnt_made end p (free_index p.past) m none in
      let now : sent_now (after_opening layout end p seen) ≡ sent_now p =
      ap (λ (past : Past). sent_all past (after_opening layout end p seen).packets) same.0
      ∙ ap (sent_all p.past) same.1 in
      record {
        sender = subst (λ (past : Past). Keeps s past samples) (sym now) h.stands.sender;
        both = both;
        bound = subst (λ (past : Past). AreBound t'.bound past) (sym now)
            (subst (λ (b : Bound). AreBound b (sent_now p)) (sym bound) h.stands.bound);
        known = λ g. ap (λ (past : Past). is_known past g) same.0 ∙ h.stands.known g;
        waiting = waiting ∙ h.stands.waiting;
      }
