use Rattle.std.proofs.Common.{List}
use Rattle.protocol_model.specs.World.{Edits}
use Rattle.connection_model.specs.Feed.{Entry, Delivered}
use Rattle.receiving_laws.specs.Receiving.{Raw}
use Rattle.incoming_channels.specs.Messages.{AreRaws}
use Rattle.hearing_laws.specs.Courses.{Taking, during}
use Rattle.hearing_laws.specs.Plain.{BeginPlain}
use Rattle.shadow_changes.specs.Samples.{Samples}
use Rattle.server_hearing.specs.Payloads.{Listens}
use Rattle.server_hearing.proofs.Handing.{Read}
use Rattle.server_hearing.proofs.bunches.hear_payloads.Given as goal

abbrev pub invariant-loop-message : goal.invariant-loop-message
invariant-loop-message l =
    (k : Taking) (edits : Edits) (entries : List Entry) (payloads : List Delivered) (samples : Samples)
    (raws : List Raw)
    → Listens l.world l.sender l.table k.end edits (during k entries payloads) samples
    → AreRaws raws l.messages → BeginPlain raws
    → Read k l.world.layout edits l.player entries payloads raws l.message-index l.fn.handed l.handed
