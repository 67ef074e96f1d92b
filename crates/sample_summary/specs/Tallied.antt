-- What a tally knows of all that was told.
use Rattle.std.specs.Prelude.{◌≡◌, ℕ, List, [], ◌∷◌, ◌++◌, length, sum_by, count_by, codes, decimal}
use Rattle.std.specs.List.{flat_map}
use Rattle.sha1.specs.Sha1.{Holds}
use Rattle.protocol_model.specs.Side.{AtServer, AtClient}
use Rattle.script_model.specs.Lines.{Text}
use Rattle.script_model.specs.Reports.{Report, report_text}
use Rattle.program_model.specs.Checked.{line}
use Rattle.sample_summary.specs.Sampled.{packets_by, tells_refusal}
use Rattle.sample_summary.specs.declared.counts.Traffic.{Traffic}
use Rattle.sample_summary.specs.declared.counts.Counts.{Counts}
use Rattle.sample_summary.specs.declared.tally.Tally.{Tally}

-- as many packets, and the sum of their bytes
pub record IsTraffic (t : Traffic) (sent : List (List ℕ)) : Type 0 where
  pub packets : t.packets ≡ length sent
  pub bytes : t.bytes ≡ sum_by length sent

-- the packets of either side, and the refusals
pub record AreCounted (c : Counts) (told : List Report) : Type 0 where
  pub down : IsTraffic c.down (packets_by AtServer told)
  pub up : IsTraffic c.up (packets_by AtClient told)
  pub refused : c.refused ≡ count_by tells_refusal told

-- all of that, and the digest so far is of the text
pub record Tallies (t : Tally) (told : List Report) : Type 0 where
  pub counts : AreCounted t.counts told
  pub transcript : Holds t.transcript (flat_map report_text told)

-- the lines of the summary that has these numbers
abbrev pub summary_lines : (ticks : ℕ) → Counts → (settled : ℕ) → (digest : Text) → Text
summary_lines ticks c settled digest =
    line (codes "ticks" ∷ decimal ticks ∷ [])
    ++ line (codes "down" ∷ decimal c.down.packets ∷ decimal c.down.bytes ∷ [])
    ++ line (codes "up" ∷ decimal c.up.packets ∷ decimal c.up.bytes ∷ [])
    ++ line (codes "refused" ∷ decimal c.refused ∷ [])
    ++ line (codes "settled" ∷ decimal settled ∷ [])
    ++ line (codes "transcript" ∷ digest ∷ [])
