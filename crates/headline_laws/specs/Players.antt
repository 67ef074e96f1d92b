-- Scripts and players that these laws speak of.
use Rattle.std.specs.Prelude.{List}
use Rattle.protocol_model.specs.Side.{AtServer, AtClient}
use Rattle.protocol_model.specs.Value.{Table}
use Rattle.script_model.specs.Lines.{Line}
use Rattle.replication_model.specs.Story.{Player, story_of, past_at, end_of}
use Rattle.table_model.specs.Facts.{IsTable}
use Rattle.table_model.specs.Grammar.{table_of}
use Rattle.table_model.specs.Rules.{Entry}
use Rattle.connection_laws.specs.Link.{IsLink}
use Rattle.payload_laws.specs.Accepted.{AreAccepted}

-- the entries make a class table that is accepted, and the edits of the lines are accepted over it
pub record ArePlayable (entries : List Entry) (lines : List Line) : Type 0 where
  pub table : IsTable entries
  pub edits : AreAccepted (table_of entries) (story_of (table_of entries) lines).0.edits

-- the player's two ends are linked
abbrev pub AreLinked : Table → Player → Type 0
AreLinked table p =
    IsLink (end_of table AtServer p) (end_of table AtClient p) (past_at table AtServer p)
    (past_at table AtClient p)
