use Rattle.driver_laws.specs.Feeds.{IsOfWorld}
use Rattle.driver_laws.proofs.Shown.{opened_so}
use Rattle.driver_laws.proofs.Worlds.{opened_earlier}
use Rattle.driver_laws.proofs.opened_was_shown.Goals as goal

pub returns-clause-class : goal.returns-clause-class
returns-clause-class c = λ table edits end feed h actor class e.
    opened_so (IsOfWorld table edits) end feed h actor class e

pub returns-clause-earlier : goal.returns-clause-earlier
returns-clause-earlier c = λ end feed actor e. opened_earlier end feed actor e
