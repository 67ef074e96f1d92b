use Rattle.std.proofs.Common.{◌≡◌, map, drop, Option, None}
use Rattle.protocol_model.specs.World.{Edits}
use Rattle.protocol_model.specs.declared.Cause.{Cause}
use Rattle.connection_model.specs.Feed.{Past}
use Rattle.link_end.specs.Answers.{news_value}
use Rattle.hearing_laws.specs.Courses.{Taking, Leads}
use Rattle.shadow_changes.specs.Samples.{Samples}
use Rattle.server_hearing.specs.Payloads.{IsHearing}
use Rattle.server_hearing.specs.Entries.{HandsOver, GoesOn}
use Rattle.server_hearing.proofs.entries.hear_entries.Given as goal

abbrev pub invariant-loop-entry : goal.invariant-loop-entry
invariant-loop-entry l =
    record {
      heard : (k : Taking) (edits : Edits) (past : Past) (samples : Samples) (final : Past) (bad : Option Cause)
          → IsHearing l.world l.fn.sender l.fn.table k edits past samples
          → HandsOver l.world.layout edits l.player k past l.fn.handed
          → Leads k (map news_value l.entries) bad past final
          → GoesOn l.world l.sender l.table k edits l.player samples l.handed
          (map news_value (drop l.entry-index l.entries)) bad final None;
      count : l.table.made.count ≡ l.fn.table.made.count;
    }
