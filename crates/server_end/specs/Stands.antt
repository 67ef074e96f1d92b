-- How what the server's end of a connection keeps follows from what it did.
use Rattle.connection_model.specs.Feed.{End, Past}
use Rattle.shadow_changes.specs.Samples.{Samples}
use Rattle.sender_steps.specs.Stands.{Stands}
use Rattle.server_end.specs.declared.server_end.ServerEnd.{ServerEnd}

-- the end's parts stand for one past
abbrev pub StandsEnd : ServerEnd → End → Past → Samples → Type 0
StandsEnd e end past samples = Stands e.sender e.link e.table end past samples
