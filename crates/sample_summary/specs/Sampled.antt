-- The summary of a sample's replay.
use Rattle.std.specs.Prelude.{ℕ, List, [], ◌∷◌, ◌++◌, length, Bool, true, false, Option, Some, None, filter_map, sum_by, count_by, codes, decimal}
use Rattle.std.specs.List.{flat_map}
use Rattle.sha1.specs.Sha1.{sha1}
use Rattle.protocol_model.specs.Side.{Side, AtServer, AtClient}
use Rattle.protocol_model.specs.Value.{Table}
use Rattle.protocol_model.specs.declared.Verdict.{Verdict}
use Rattle.protocol_model.specs.declared.Verdict.TheVariants.{Taken}
use Rattle.script_model.specs.Lines.{Text}
use Rattle.script_model.specs.Reports.{Answer, Says, Report, Sent, Stalled, Answered, Forged, report_text, hex_of}
use Rattle.replication_model.specs.Story.{Story}
use Rattle.program_model.specs.Checked.{line}
use Rattle.replay_core.specs.Settled.{settled_count}

-- the two are one side
abbrev pub same_side : Side → Side → Bool
same_side AtServer AtServer = true
same_side AtClient AtClient = true
same_side one other = false

-- the packet that the side sent
abbrev pub packet_by : Side → Report → Option (List ℕ)
packet_by side (Sent by player number bytes) = elim (same_side side by) [ true ↦ Some bytes | false ↦ None ]
packet_by side report = None

-- the packets that one side sent, lost ones included
abbrev pub packets_by : Side → List Report → List (List ℕ)
packets_by side reports = filter_map (packet_by side) reports

-- the verdict is another than taken
abbrev pub is_refusal : Verdict → Bool
is_refusal (Taken number) = false
is_refusal verdict = true

-- the answer is another than taken
abbrev pub is_refused : Answer → Bool
is_refused (Says verdict) = is_refusal verdict
is_refused answer = true

-- a verdict other than taken, or a stall
abbrev pub tells_refusal : Report → Bool
tells_refusal (Answered to player number answer) = is_refused answer
tells_refusal (Forged to player verdict) = is_refusal verdict
tells_refusal (Stalled side player) = true
tells_refusal report = false

-- packets, and the sum of their bytes
abbrev pub traffic_line : Text → List (List ℕ) → Text
traffic_line word packets = line (word ∷ decimal (length packets) ∷ decimal (sum_by length packets) ∷ [])

-- the summary of a story with all that it told
abbrev pub summary_of : (ticks : ℕ) → Table → Story × List Report → Text
summary_of n table told =
    line (codes "ticks" ∷ decimal n ∷ []) ++ traffic_line (codes "down") (packets_by AtServer told.1)
    ++ traffic_line (codes "up") (packets_by AtClient told.1)
    ++ line (codes "refused" ∷ decimal (count_by tells_refusal told.1) ∷ [])
    ++ line (codes "settled" ∷ decimal (settled_count table told.0) ∷ [])
    ++ line (codes "transcript" ∷ hex_of (sha1 (flat_map report_text told.1)) ∷ [])
