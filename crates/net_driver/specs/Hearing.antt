-- What a player's end says of a datagram, and the calls that the datagram hands over.
use Rattle.std.specs.Prelude.{ℕ, List}
use Rattle.protocol_model.specs.declared.Verdict.{Verdict}
use Rattle.protocol_model.specs.Value.{Table}
use Rattle.protocol_model.specs.World.{Edits}
use Rattle.connection_model.specs.Handed.{handed_by, server_verdict}
use Rattle.connection_model.specs.Verdict.{verdict_of}
use Rattle.handovers.specs.Handovers.{Handover, handovers}
use Rattle.net_driver.specs.Served.{Seat, end_for, past_for}

-- what the end says of it
abbrev pub verdict_for : Table → Seat → List ℕ → Verdict
verdict_for table s bytes = verdict_of (end_for table s) (past_for table s) bytes

-- the calls, with what is to be done with each by the world as it is
abbrev pub handovers_for : Table → Edits → Seat → List ℕ → List Handover
handovers_for table edits s bytes =
    handovers (server_verdict edits s.number) (handed_by (end_for table s) (past_for table s) bytes)
