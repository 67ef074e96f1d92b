-- What an end hears of a datagram.
use Rattle.std.specs.Prelude.{◌≡◌, ℕ, List, map, true, false, Some, None}
use Rattle.protocol_model.specs.World.{Edits}
use Rattle.connection_model.specs.Fates.{top_of}
use Rattle.connection_model.specs.Feed.{End, Past, has_ended}
use Rattle.connection_model.specs.Handed.{handed_by, server_verdict}
use Rattle.connection_model.specs.Verdict.{verdict_of, after_got}
use Rattle.class_layout.specs.Tables.{Layout}
use Rattle.world_table.specs.Kept.{Kept}
use Rattle.handovers.specs.Handovers.{handovers, handover_of}
use Rattle.shadow_changes.specs.Samples.{Samples}
use Rattle.server_hearing.specs.Datagrams.{MayHear}
use Rattle.server_hearing.specs.declared.datagrams.Heard.{Heard}
use Rattle.server_end.specs.declared.server_end.ServerEnd.{ServerEnd}
use Rattle.server_end.specs.Stands.{StandsEnd}

-- an end is alive after this past, and hears by the world of these edits
abbrev pub MayHearEnd : Kept → ServerEnd → End → Edits → Past → Samples → Type 0
MayHearEnd w e end edits past samples = MayHear w e.sender e.link e.table end edits past samples

-- an end heard a datagram as the definitions do: its answers; what stands where it lives on, and
-- where it died the greatest number that it took
pub record IsHeard (layout : Layout) (edits : Edits) (end : End) (past : Past) (samples : Samples)
    (bytes : List ℕ) (old new : ServerEnd) (h : Heard) : Type 0 where
  pub player : new.player ≡ old.player
  pub verdict : h.outcome.verdict ≡ verdict_of end past bytes
  pub handed : map (handover_of layout) h.outcome.handed
      ≡ handovers (server_verdict edits old.player) (handed_by end past bytes)
  pub stands : h.closed ≡ None → StandsEnd new end (after_got end past bytes) samples
  pub alive : h.closed ≡ None → has_ended (after_got end past bytes) ≡ false
  pub closed : (top : ℕ) → h.closed ≡ Some top → has_ended (after_got end past bytes) ≡ true
  pub top : (top : ℕ) → h.closed ≡ Some top → top ≡ top_of (after_got end past bytes)
  pub count : new.table.made.count ≡ old.table.made.count
