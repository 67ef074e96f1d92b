use Rattle.std.proofs.Common.{[], refl}
use Rattle.protocol_model.specs.Side.{AtServer}
use Rattle.connection_model.specs.Feed.{End}
use Rattle.channel_table.specs.Stands.{Stands}
use Rattle.bunch_packing.proofs.tests.new_both.Goals as goal

pub returns-clause-idle : goal.returns-clause-idle
returns-clause-idle c =
    let end : End = record { side = AtServer; version = c.args.version; budget = c.args.budget; table = [] } in
    let stands : Stands c.in_ok-table.table AtServer [] = c.in_ok-table.ensures.server refl in
    (end, AtServer, [], c.in_ok-link.ensures end refl refl, stands.bunches, λ ch le. refl, c.requires.least)
