-- What a packet tells, entry by entry, as it is handed up: the moves of fates and the bunches, in order.
use Rattle.std.specs.Prelude.{ℕ, ◌+◌, ◌-◌, List, [], ◌∷◌, ◌++◌, reverse, Option, None, is_some, filter, filter_map, unsigned_abs, if◌then◌else◌}
use Rattle.std.specs.List.{range_with_len}
use Rattle.protocol_model.specs.Search.{or_else, is_among}
use Rattle.protocol_model.specs.Packet.{Bunch, Packet}
use Rattle.protocol_model.specs.declared.Cause.{Cause}
use Rattle.connection_model.specs.Feed.{Past, Took, Entry, Told, Acked, Heard}
use Rattle.connection_model.specs.Fates.{high_of, moved_of, named_by, number_above, number_near}
use Rattle.connection_model.specs.Verdict.{ack_cause, with_told}

-- the fates between two numbers become known: those between are lost, the last one arrived
pub data News : Type 0 where
  Moves : (from to : ℕ) → News
  Hears : (bunch : Bunch) → News

-- a move to each of these ascending numbers
abbrev pub moves_from : (high : ℕ) → List ℕ → List News
moves_from high [] = []
moves_from high (n ∷ ns) = Moves high n ∷ moves_from n ns

-- the numbers above one that moved, ascending
abbrev pub moved_above : (from : ℕ) → Past → List ℕ
moved_above from past =
    filter (λ n. is_among n (moved_of past)) (range_with_len (from + 1) (high_of past - from))

-- what an entry tells, where `high` is the greatest moved number
abbrev pub news_in : (high : ℕ) → Entry → List News
news_in high (Heard bunch) = Hears bunch ∷ []
news_in high (Acked number) =
    moves_from high (reverse (filter_map (number_above high) (named_by (Acked number) high)))
news_in high (Told head) = moves_from high (reverse (filter_map (number_above high) (named_by (Told head) high)))

-- of entries in order: what they tell up to the first that names a packet that wasn't sent
abbrev pub news_of : Past → List Entry → List News
news_of past [] = []
news_of past (entry ∷ more) =
    if is_some (ack_cause past entry) then []
    else news_in (high_of past) entry ++ news_of (with_told entry past) more

-- and the cause that the first bad one gives
abbrev pub bad_of : Past → List Entry → Option Cause
bad_of past [] = None
bad_of past (entry ∷ more) = or_else (ack_cause past entry) (bad_of (with_told entry past) more)

-- the past as the packet is taken, before its entries
abbrev pub taking : Past → Packet → Past
taking past p = Took (unsigned_abs (number_near past p.number)) [] [] ∷ past
