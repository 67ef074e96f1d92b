-- States of channels, and the messages that change them.
use Rattle.std.specs.Prelude.{◌≡◌, ◌+◌, ◌==◌, ℕ, Bool, true, false, Option, option_map}
use Rattle.protocol_model.specs.Payload.{Message, Opens, Closes, Updates, Calls, Gone, parts_of}
use Rattle.protocol_model.specs.Sight.{Seen}
use Rattle.connection_model.specs.Feed.{Past, sight_of, seen_in}
use Rattle.connection_model.specs.Bunches.{made_count}
use Rattle.connection_model.specs.State.{ActorState, Closed, Opening, Opened, Closing, Asleep, Mark}

-- an open or a close is under way
abbrev pub is_pending : ActorState → Bool
is_pending Opening = true
is_pending Closing = true
is_pending Closed = false
is_pending Opened = false
is_pending Asleep = false

-- the mark is the last message on its index
abbrev pub IsLast : Past → Mark → Type 0
IsLast past mark = mark.number + parts_of mark.message ≡ made_count past mark.channel + 1

-- the message is a dormant close of the actor
abbrev pub sleeps_actor : ℕ → Message → Bool
sleeps_actor a (Closes b true) = b == a
sleeps_actor a (Closes b false) = false
sleeps_actor a (Opens exports b class values) = false
sleeps_actor a (Updates b class values) = false
sleeps_actor a (Calls b number call args) = false
sleeps_actor a (Gone b) = false

-- the flush number of the actor in the last sight
abbrev pub flush_seen : Past → ℕ → Option ℕ
flush_seen past a = option_map (λ (seen : Seen). seen.flush) (seen_in (sight_of past) a)
