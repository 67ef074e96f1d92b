use Rattle.std.proofs.Common.{◌≡◌, List, drop, map, Option}
use Rattle.std.specs.List.{AllByRecursion}
use Rattle.protocol_model.specs.declared.Cause.{Cause}
use Rattle.protocol_model.specs.declared.Version.{Version}
use Rattle.connection_model.specs.Feed.{Past, Delivered}
use Rattle.hearing_laws.specs.Courses.{Taking, Leads}
use Rattle.link_end.specs.Answers.{news_value}
use Rattle.client_hearing.specs.Moments.{Hears}
use Rattle.client_hearing.specs.Hearing.{IsFitNews}
use Rattle.client_hearing.proofs.Entries.{Left}
use Rattle.client_hearing.proofs.packets.hear_entries.Given as goal

abbrev pub invariant-loop-entry : goal.invariant-loop-entry
invariant-loop-entry l = record {
  own : (version : Version) × (k : Taking) × (bad : Option Cause) × (final : Past)
      × Left l.classes version l.table l.names l.copies l.calls.items k bad final (drop l.entry-index l.entries);
  left : (version : Version) (k : Taking) (bad : Option Cause) (past final : Past) (payloads : List Delivered)
      → Hears l.classes version l.fn.table l.fn.names l.fn.copies l.fn.calls.items k payloads past
      → AllByRecursion (IsFitNews version) (map news_value l.entries)
      → Leads k (map news_value l.entries) bad past final
      → Left l.classes version l.table l.names l.copies l.calls.items k bad final (drop l.entry-index l.entries);
  count : l.table.made.count ≡ l.fn.table.made.count;
}
