-- An update, by what stands before it.
use Rattle.std.proofs.Common.{◌≡◌, ℕ, zero, suc, ◌+◌, ◌<◌, ◌≤◌, ◌==◌, ◌&&◌, ◌||◌, List, [], ◌∷◌, length, take, Bool, true, false, nat_lt, nat_le, Option, Some, None, refl, sym, ap, ◌∙◌, subst, arith, if◌then◌else◌}
use Rattle.std.specs.List.{filter, list_any, slice_get}
use Rattle.std.proofs.lemmas.Bool.{eq-eqb, false≢true, leb-true}
use Rattle.protocol_laws.proofs.Lengths.{length-packed}
use Rattle.protocol_model.specs.Limits.{part_bits, update_bits}
use Rattle.protocol_model.specs.Payload.{message_bits}
use Rattle.protocol_model.specs.Search.{longest_prefix}
use Rattle.protocol_model.specs.Side.{AtServer}
use Rattle.protocol_model.specs.Sight.{Seen}
use Rattle.protocol_model.specs.Value.{Pair, Class}
use Rattle.protocol_model.specs.World.{class_at}
use Rattle.change_model.specs.Changes.{Sample}
use Rattle.connection_model.specs.Carry.{is_updatable, due_pairs}
use Rattle.connection_model.specs.Fates.{last_sent}
use Rattle.connection_model.specs.Feed.{End, Past, Item}
use Rattle.connection_model.specs.Items.{loose_item, update_message, update_pairs}
use Rattle.connection_model.specs.Pack.{Packing, has_room, after_offer, after_update}
use Rattle.connection_model.specs.State.{index_of}
use Rattle.packing_laws.proofs.Sendings.{index_behind}
use Rattle.packing_laws.proofs.Packings.{offer_past}
use Rattle.class_layout.specs.Tables.{Layout, table_in}
use Rattle.link_end.specs.Link.{Link}
use Rattle.link_end.specs.Packs.{sent_now}
use Rattle.link_end.proofs.Offers.{offer_some, offer_none}
use Rattle.channel_table.specs.Channels.{Channels}
use Rattle.bunch_packing.proofs.Pushing.{behind}
use Rattle.value_codec.specs.declared.pair.Pair.{Pair as PairValue}
use Rattle.sender_records.specs.declared.actor.ActorRecord.{ActorRecord}
use Rattle.sender_records.specs.Actors.{KeepsActor}
use Rattle.sender_records.specs.Handles.{pairs_of, handle_in, AreApart, Agrees, AllBelow}
use Rattle.sender_steps.specs.declared.sight.Seen.{Seen as SeenValue}
use Rattle.sender_steps.specs.Sights.{seen_value}
use Rattle.sender_steps.specs.Stands.{is_update_sent}
use Rattle.sender_turns.specs.Updating.{is_marked_value, IsUpdating, note_of}
use Rattle.sender_turns.proofs.Serving.{filters_one, part_of, part_apart, part_agrees, part_below, Goes, goes}

-- the longest prefix is empty, or passes
pub prefix_passes : {A : Type 0} (test : List A → Bool) (most : ℕ) (xs : List A) → (P : List A → Type 0) → P []
    → ((ys : List A) → test ys ≡ true → P ys) → P (longest_prefix test most xs)
prefix_passes test zero xs P none some = none
prefix_passes test (suc most) xs P none some =
    by (prefix_passes test most xs P none some) (test (take (suc most) xs)) refl
  where
    by : P (longest_prefix test most xs) → (b : Bool) → test (take (suc most) xs) ≡ b
        → P (if b then take (suc most) xs else longest_prefix test most xs)
    by rest true e = some (take (suc most) xs) e
    by rest false e = rest

-- an update has room in one bunch
pub update_short : (seen : Seen) (due : List Pair)
    → length (message_bits (update_message seen (update_pairs seen due))) ≤ part_bits
update_short seen due =
    prefix_passes (λ (pairs : List Pair). nat_le (length (message_bits (update_message seen pairs))) update_bits)
    (length due) due (λ (pairs : List Pair). length (message_bits (update_message seen pairs)) ≤ part_bits)
    (omega (arith, length-packed 0))
    (λ ys e. (let le = leb-true (length (message_bits (update_message seen ys))) update_bits e in omega (arith, le)))

after_some : (end : End) (p : Packing) (seen : Seen) (ch : ℕ) (due : List Pair) → nat_lt 0 (length due) ≡ true
    → after_update end p seen (Some ch) due
    ≡ after_offer end p (loose_item (update_message seen (update_pairs seen due)) ch)
after_some end p seen ch [] e = absurd (false≢true e)
after_some end p seen ch (pair ∷ due) e = refl

module _ (layout : Layout) (s : SeenValue) (r : ActorRecord) (l : Link) (t : Channels) (end : End) (before now : Past)
    (p : Packing) (ch : ℕ) (samples : List Sample) (tick : ℕ)
    (h : IsUpdating layout s r l t end before now p ch samples tick) where
  abbrev seen : Seen
  seen = seen_value layout s

  abbrev class : Class
  class = class_at (table_in layout) s.class

  -- the values that are due
  abbrev pub due_values : List PairValue
  due_values = filter (is_marked_value class s.owns r.handles) s.values

  pub due_is : pairs_of due_values ≡ due_pairs now seen
  due_is =
      filters_one (λ (q : Pair). (handle_in r.handles.handles q.handle).marked) (is_updatable seen)
      (is_marked_value class s.owns r.handles) s.values (λ x. refl)
      ∙ sym h.compared.due

  -- the index that the record holds
  pub held : r.life.index ≡ Some ch
  held =
      let b = behind l t end AtServer before p h.both in
      h.keeps.life.index ∙ ap (λ (past : Past). index_of past s.actor) b.is
      ∙ index_behind p.past b.sent b.sendings s.actor ∙ h.index

  -- the item of the update
  abbrev pub item : Item
  item = loose_item (update_message seen (update_pairs seen (pairs_of due_values))) ch

  pub after_is : after_offer end p item ≡ after_update end p seen (Some ch) (due_pairs now seen)
  after_is =
      ap (λ (due : List Pair). after_offer end p (loose_item (update_message seen (update_pairs seen due)) ch)) due_is
      ∙ sym (after_some end p seen ch (due_pairs now seen) h.some)

  -- where it finds no room
  module _ (none : has_room end p item ≡ false) where
    pub full_then : (after_update end p seen (Some ch) (due_pairs now seen)).full ≡ true
    full_then = ap (λ (q : Packing). q.full) (sym after_is ∙ offer_none end p item h.is_ready none)

    pub keeps_full : KeepsActor (sent_now (after_update end p seen (Some ch) (due_pairs now seen))) samples s.actor r
    keeps_full =
        subst (λ (q : Packing). KeepsActor (sent_now q) samples s.actor r)
        (sym (offer_none end p item h.is_ready none) ∙ after_is) h.keeps

    pub no_note : note_of s.actor (after_update end p seen (Some ch) (due_pairs now seen)) ≡ []
    no_note = ap (note_of s.actor) (sym after_is ∙ offer_none end p item h.is_ready none)

  -- where it finds room
  module _ (some : has_room end p item ≡ true) (packet : ℕ)
      (number : packet ≡ last_sent p.past + length (after_offer end p item).packets) where
    pub ready_then : (after_update end p seen (Some ch) (due_pairs now seen)).full ≡ false
    ready_then = ap (λ (q : Packing). q.full) (sym after_is ∙ offer_some end p item h.is_ready some) ∙ h.is_ready

    pub one_note : note_of s.actor (after_update end p seen (Some ch) (due_pairs now seen))
        ≡ record { packet = packet; actor = s.actor } ∷ []
    one_note =
        ap (note_of s.actor) (sym after_is)
        ∙ ap (λ (b : Bool). if b then [] else record {
          packet = last_sent (after_offer end p item).past + length (after_offer end p item).packets;
          actor = s.actor;
        } ∷ []) (ap (λ (q : Packing). q.full) (offer_some end p item h.is_ready some) ∙ h.is_ready)
        ∙ ap (λ (n : ℕ). record { packet = n; actor = s.actor } ∷ [])
        (ap (λ (past : Past). last_sent past + length (after_offer end p item).packets) (offer_past end p item)
        ∙ sym number)

    -- the note names the packet
    pub noted_in : (n : ℕ) → n ≡ packet
        → list_any (is_update_sent n s.actor) (note_of s.actor (after_update end p seen (Some ch) (due_pairs now seen)))
        ≡ true
    noted_in n e =
        ap (list_any (is_update_sent n s.actor)) one_note
        ∙ ap (λ (b : Bool). b && (s.actor == s.actor) || false) (eq-eqb packet n (sym e))
        ∙ ap (λ (b : Bool). b || false) (eq-eqb s.actor s.actor refl)

    pub goes_in : Goes end p item s.actor samples r packet tick
    goes_in =
        goes end p item s.actor samples r packet tick h.both.link.high h.ticks h.is_ready some number h.keeps
        h.unserved

  -- the values that went
  module _ (count : ℕ) where
    pub apart_went : AreApart (pairs_of (take count due_values))
    apart_went =
        part_apart (take count due_values) s.values
        (part_of (is_marked_value class s.owns r.handles) count s.values) h.sampled.0

    pub agrees_went : Agrees samples (pairs_of (take count due_values))
    agrees_went =
        part_agrees samples (take count due_values) s.values
        (part_of (is_marked_value class s.owns r.handles) count s.values) h.sampled.0 h.sampled.1

    pub below_went : AllBelow (length r.handles.handles) (take count due_values)
    below_went =
        part_below (length r.handles.handles) (take count due_values) s.values
        (part_of (is_marked_value class s.owns r.handles) count s.values) h.compared.room

pub same_index : (x y : ℕ) → ◌≡◌ {A = Option ℕ} (Some x) (Some y) → x ≡ y
same_index x y e = cc

pub no_index : (ch : ℕ) → ◌≡◌ {A = Option ℕ} None (Some ch) → ⊥
no_index ch e = cc

pub all_there : {A : Type 0} (xs : List A) (i : ℕ) → slice_get xs i ≡ None → i < length xs → ⊥
all_there [] i e lt = absurd (omega (arith, lt))
all_there (x ∷ xs) zero e lt = cc
all_there (x ∷ xs) (suc i) e lt = all_there xs i e (omega (arith, lt))
