-- What a move of fates, and news told in another spelling, leave alone.
use Rattle.std.proofs.Common.{◌≡◌, ◌∙◌, ℕ, List, [], ◌∷◌, map, reverse, Bool, true, false, cond, ap, sym, refl, Option, None}
use Rattle.std.specs.List.{filter, filter_map, cons_option}
use Rattle.protocol_model.specs.Payload.{Message}
use Rattle.protocol_model.specs.Search.{items_since}
use Rattle.connection_model.specs.Feed.{Past, Ticked, Made, Waits, Sent, Took, Ended, is_tick, deeds_since_tick}
use Rattle.connection_model.specs.CallAnswers.{waits_in, waiting_of}
use Rattle.channel_laws.specs.Moves.{but_fates, IsMove, SameNews}
use Rattle.sender_laws.specs.Acts.{acts, IsAlike, MovesTo}

acts_own : (past : Past) → acts (but_fates past) ≡ acts past
acts_own [] = refl
acts_own (Ticked t s ∷ past) = ap (λ (p : Past). Ticked t s ∷ p) (acts_own past)
acts_own (Made c n m i ∷ past) = ap (λ (p : Past). Made c n m i ∷ p) (acts_own past)
acts_own (Sent n t items ∷ past) = ap (λ (p : Past). Sent n t items ∷ p) (acts_own past)
acts_own (Waits m ∷ past) = acts_own past
acts_own (Took n es ds ∷ past) = acts_own past
acts_own (Ended g ∷ past) = acts_own past

same_acts : (past after : Past) → but_fates after ≡ but_fates past → acts after ≡ acts past
same_acts past after e = sym (acts_own after) ∙ ap acts e ∙ acts_own past

-- a move is one of the acts alone
pub move_is : (from to : ℕ) (past after : Past) → IsMove from to past after → MovesTo from to past after
move_is from to past after m = record {
  high = m.high;
  above = m.above;
  done = same_acts past after m.rest;
  moved =
      m.moved;
}

pub news_is : (past after : Past) → SameNews past after → IsAlike past after
news_is past after h = record { done = same_acts past after h.rest; moved = h.moved }

waits_own : (past : Past) → filter_map waits_in (deeds_since_tick (but_fates past)) ≡ filter_map waits_in
    (deeds_since_tick past)
waits_own [] = refl
waits_own (Ticked t s ∷ past) = refl
waits_own (Made c n m i ∷ past) = waits_own past
waits_own (Sent n t items ∷ past) = waits_own past
waits_own (Waits m ∷ past) = ap (λ (ms : List Message). m ∷ ms) (waits_own past)
waits_own (Took n es ds ∷ past) = waits_own past
waits_own (Ended g ∷ past) = waits_own past

-- the calls that wait stay
pub waiting_same : (past after : Past) → but_fates after ≡ but_fates past → waiting_of after ≡ waiting_of past
waiting_same past after e =
    ap (λ (ms : List Message). reverse ms) (sym (waits_own after)
    ∙ ap (λ (p : Past). filter_map waits_in (deeds_since_tick p)) e ∙ waits_own past)
