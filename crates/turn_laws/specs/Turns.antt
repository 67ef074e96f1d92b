-- The turns of a tick: the actors that have something to send, by score, and what is done in each.
use Rattle.std.specs.Prelude.{◌≡◌, ℕ, List, ◌++◌, map, filter, filter_map, length, Bool, true, false, ◌&&◌, ◌||◌, nat_lt, if◌then◌else◌}
use Rattle.std.specs.List.{fold}
use Rattle.protocol_model.specs.Search.{in_order, is_among}
use Rattle.protocol_model.specs.Sight.{Seen}
use Rattle.connection_model.specs.Feed.{End, Past, sight_of}
use Rattle.connection_model.specs.State.{state_of, is_opened, is_closed, index_of, free_index, was_opened}
use Rattle.connection_model.specs.Carry.{due_pairs}
use Rattle.connection_model.specs.Items.{score_of, goes_before, wants_open, open_message, due_items, call_item}
use Rattle.connection_model.specs.CallAnswers.{waiting_of}
use Rattle.connection_model.specs.Pack.{Packing, after_open, after_update, after_closes}
use Rattle.connection_laws.specs.Run.{Ascends}
use Rattle.packing_laws.specs.Beginning.{ticked, begun, after_offers}

-- an update of the actor would have something to send: it is opened, and a handle is due
abbrev pub has_due : Past → Seen → Bool
has_due past seen = is_opened (state_of past seen.actor) && nat_lt 0 (length (due_pairs past seen))

-- the actor has something to send: its open, or an update
abbrev pub has_turn : Past → Seen → Bool
has_turn past seen = wants_open past seen || has_due past seen

-- the relevant actors of the tick's sight that have something to send, each with its score
abbrev pub scored_turns : Past → List (ℕ × Seen)
scored_turns past =
    map (λ (seen : Seen). (score_of past seen, seen))
    (filter (λ (seen : Seen). seen.relevant && has_turn past seen) (sight_of past))

-- these by score
abbrev pub turns_of : Past → List Seen
turns_of past = map (λ (scored : ℕ × Seen). scored.1) (in_order goes_before (scored_turns past))

-- an actor's open or update, by what was asked of it before the first turn
abbrev pub after_turn : End → (now : Past) → Packing → Seen → Packing
after_turn end now p seen =
    if p.full then p
    else if wants_open now seen then after_open end p (free_index p.past) (open_message p.past seen)
    else after_update end p seen (index_of now seen.actor) (due_pairs now seen)

-- one turn after the other
abbrev pub after_turns : End → (now : Past) → Packing → List Seen → Packing
after_turns end now p turns = fold (after_turn end now) p turns

-- the past once a tick's closes are made
abbrev pub closed_up : Past → List Seen → Past
closed_up past sight = after_closes (ticked past sight)

-- what is packed before the first turn: the acknowledgements owed in one packet, and then due
-- bunches and calls that wait
abbrev pub before_turns : End → Past → List Seen → Packing
before_turns end past sight =
    let now = closed_up past sight in
    after_offers end (record (begun end past sight) { past = now })
    (due_items now ++ filter_map (call_item end.side now) (waiting_of past))

-- ascending actors that were opened, among which is each that isn't closed
pub record AreLive (past : Past) (live : List ℕ) : Type 0 where
  pub ascends : Ascends 0 live
  pub opened : (a : ℕ) → is_among a live ≡ true → was_opened past a ≡ true
  pub all : (a : ℕ) → was_opened past a ≡ true → is_closed (state_of past a) ≡ false
      → is_among a live ≡ true
