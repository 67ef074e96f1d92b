-- What is asked of an actor stays while other actors are opened.
use Rattle.std.proofs.Common.{◌≡◌, ◌⊎◌, inl, inr, ℕ, ◌+◌, List, [], ◌∷◌, map, Bool, true, false, not, cond, ◌&&◌, nat_lt, refl, ap, ◌∙◌, fold, Option, Some, None}
use Rattle.std.specs.List.{range_with_len}
use Rattle.std.proofs.lemmas.Bool.{ne_eqb}
use Rattle.protocol_model.specs.Value.{Pair, Segment}
use Rattle.protocol_model.specs.Payload.{Message, Opens, parts_of}
use Rattle.protocol_model.specs.Sight.{Seen}
use Rattle.protocol_model.specs.declared.Fate.{Fate}
use Rattle.connection_model.specs.Feed.{End, Past, Item}
use Rattle.connection_model.specs.Fates.{moved_of}
use Rattle.connection_model.specs.Bunches.{made_count, room, after_making}
use Rattle.connection_model.specs.State.{ActorState, last_mark, state_of, is_opened, index_of}
use Rattle.connection_model.specs.Carry.{Carry, carry_of, carry_fate, is_due_after, is_due_pair, updatable_pairs, due_pairs}
use Rattle.connection_model.specs.Items.{kept_flush, wants_open, loose_item, update_message, update_pairs}
use Rattle.connection_model.specs.Pack.{Packing, has_room, after_offer, part_item, after_open, after_update}
use Rattle.connection_laws.proofs.Arrivals.{arrival_made, moved_made}
use Rattle.connection_laws.proofs.ActorMarks.{marks, mark_made, index_same}
use Rattle.packing_laws.proofs.Packings.{offer_past}
use Rattle.sender_laws.proofs.Opens.{carry_elsewhere}
use Rattle.sight_laws.proofs.Unsighted.{filter_same}
use Rattle.sight_laws.proofs.Closing.{state_elsewhere, flush_elsewhere, wants_like}

-- the same is asked of the actor
pub record Untouched (past later : Past) (a : ℕ) : Type 0 where
  pub state : state_of later a ≡ state_of past a
  pub index : index_of later a ≡ index_of past a
  pub flush : kept_flush later a ≡ kept_flush past a
  pub carry : (h : ℕ) → carry_of later a h ≡ carry_of past a h
  pub moved : moved_of later ≡ moved_of past

pub untouched_self : (past : Past) (a : ℕ) → Untouched past past a
untouched_self past a = record { state = refl; index = refl; flush = refl; carry = λ h. refl; moved = refl }

pub untouched_more : (past now later : Past) (a : ℕ) → Untouched past now a → Untouched now later a
    → Untouched past later a
untouched_more past now later a h g = record {
  state = g.state ∙ h.state;
  index = g.index ∙ h.index;
  flush = g.flush ∙ h.flush;
  carry = λ n. g.carry n ∙ h.carry n;
  moved = g.moved ∙ h.moved;
}

-- an open of another actor leaves it
pub other_opens : (past : Past) (ch : ℕ) (seen : Seen) (exports : List Segment) (a : ℕ) → (seen.actor ≡ a → ⊥)
    → Untouched past (after_making past ch (Opens exports seen.actor seen.class seen.values)) a
other_opens past ch seen exports a ne = record {
  state = state_elsewhere past ch m a unmarked;
  index = index_same past (after_making past ch m) (arrival_made past ch m) a mark;
  flush = flush_elsewhere past ch m a refl;
  carry = λ h. carry_elsewhere [] past refl ch m a h (ne_eqb seen.actor a ne);
  moved = moved_made past ch m;
}
  where
    m : Message
    m = Opens exports seen.actor seen.class seen.values

    unmarked : marks a (Opens exports seen.actor seen.class seen.values) ≡ false
    unmarked = ap (λ (b : Bool). b && true) (ne_eqb seen.actor a ne)

    mark : last_mark (after_making past ch (Opens exports seen.actor seen.class seen.values)) a ≡ last_mark past a
    mark = mark_made past ch (Opens exports seen.actor seen.class seen.values) a
        ∙ ap (λ (b : Bool). cond b (Some
        (record {
          channel = ch;
          number = made_count past ch + 1;
          message = Opens exports seen.actor seen.class
              seen.values;
        })) (last_mark past a)) unmarked

-- ---- what is asked

pub wants_stays : (past later : Past) (seen : Seen) → Untouched past later seen.actor
    → wants_open later seen ≡ wants_open past seen
wants_stays past later seen h = wants_like past later seen h.state h.flush

pub due_stays : (past later : Past) (seen : Seen) → Untouched past later seen.actor
    → due_pairs later seen ≡ due_pairs past seen
due_stays past later seen h =
    filter_same (is_due_pair later seen.actor) (is_due_pair past seen.actor) due_pair (updatable_pairs seen)
  where
    fate_in : (carry : Carry) → carry_fate later seen.actor carry ≡ carry_fate past seen.actor carry
    fate_in carry = by carry.packet
      where
        by : (o : Option ℕ) → carry_fate later seen.actor (record carry { packet = o })
            ≡ carry_fate past seen.actor (record carry { packet = o })
        by None = ap (λ (s : ActorState). cond (is_opened s) Fate.Arrived Fate.Open) h.state
        by (Some n) = rw h.moved refl

    due_pair : (p : Pair) → is_due_pair later seen.actor p ≡ is_due_pair past seen.actor p
    due_pair p = ap (is_due_after later seen.actor p) (h.carry p.handle) ∙ by (carry_of past seen.actor p.handle)
      where
        by : (o : Option Carry) → is_due_after later seen.actor p o ≡ is_due_after past seen.actor p o
        by None = refl
        by (Some carry) = rw (fate_in carry) refl

-- ---- what an open or an update leaves

pub offers_past : (end : End) (items : List Item) (p : Packing) → (fold (after_offer end) p items).past ≡ p.past
offers_past end [] p = refl
offers_past end (item ∷ items) p = offers_past end items (after_offer end p item) ∙ offer_past end p item

pub update_past : (end : End) (p : Packing) (seen : Seen) (o : Option ℕ) (due : List Pair)
    → (after_update end p seen o due).past ≡ p.past
update_past end p seen None due = refl
update_past end p seen (Some ch) [] = refl
update_past end p seen (Some ch) (pair ∷ due) =
    offer_past end p (loose_item (update_message seen (update_pairs seen (pair ∷ due))) ch)

-- an open is made or it isn't
pub open_past : (end : End) (p : Packing) (ch : ℕ) (m : Message)
    → ((after_open end p ch m).past ≡ p.past) ⊎ ((after_open end p ch m).past ≡ after_making p.past ch m)
open_past end p ch m =
    by (nat_lt (room p.past ch) (parts_of m)) (has_room end p (part_item ch (made_count p.past ch + 1) m 0))
    (offers_past end (map (part_item ch (made_count p.past ch + 1) m) (range_with_len 0 (parts_of m)))
    (record p { past = after_making p.past ch m }))
  where
    made : Packing
    made = fold (after_offer end) (record p { past = after_making p.past ch m })
        (map (part_item ch (made_count p.past ch + 1) m) (range_with_len 0 (parts_of m)))

    by : (a b : Bool) → made.past ≡ after_making p.past ch m
        → (let q : Packing = cond a p (cond (not b) (record p { full = true }) made) in q.past ≡ p.past)
        ⊎ (let q : Packing = cond a p (cond (not b) (record p { full = true }) made) in q.past
        ≡ after_making p.past ch m)
    by true b e = inl refl
    by false false e = inl refl
    by false true e = inr e
