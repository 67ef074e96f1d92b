-- All that an end did, by recursion on what it heard, and the packets that it sent.
-- An end's past and packets are determined by its own feed alone. The newest event stands first.
use Rattle.std.specs.Prelude.{ℕ, List, [], ◌∷◌, ◌++◌}
use Rattle.protocol_model.specs.Packet.{spelling_of}
use Rattle.connection_model.specs.Feed.{End, Event, Tick, Got, Call, Past, Sent}
use Rattle.connection_model.specs.Pack.{after_tick, packet_carrying}
use Rattle.connection_model.specs.Verdict.{after_got}
use Rattle.connection_model.specs.CallAnswers.{after_call}

-- the past after one more event
abbrev pub after_event : End → Past → Event → Past
after_event end past (Tick sight) = after_tick end past sight
after_event end past (Got bytes) = after_got end past bytes
after_event end past (Call actor number args) = after_call end.side past actor number args

-- the past of a feed, whose newest event stands first
abbrev pub past_of : End → List Event → Past
past_of end [] = []
past_of end (event ∷ feed) = after_event end (past_of end feed) event

-- the packets that were sent, oldest first
abbrev pub sent_bytes : End → Past → List (List ℕ)
sent_bytes end [] = []
sent_bytes end (Sent number t items ∷ past) =
    sent_bytes end past ++ spelling_of end.version (packet_carrying end past number items) ∷ []
sent_bytes end (deed ∷ past) = sent_bytes end past

-- the packets of a feed, oldest first
abbrev pub out_of : End → List Event → List (List ℕ)
out_of end feed = sent_bytes end (past_of end feed)
