use Rattle.client_hearing.specs.Keeping.{end_as}
use Rattle.std.proofs.Common.{refl}
use Rattle.client_world.proofs.Playing.{plays_first}
use Rattle.client_world.proofs.client.Client.new.Goals as goal

pub returns-clause-plays : goal.returns-clause-plays
returns-clause-plays c =
    plays_first c.args.classes.now c.args.version c.in_ok-link.link c.in_ok-table.table c.new-3.result
    c.new-4.result c.nothing_handed_on_changes_nothing.ensures.first c.all_holds_still.ensures.first
    (c.in_ok-link.ensures (end_as c.args.classes.now c.args.version) refl refl) (c.in_ok-table.ensures.client refl)
    c.new-3.ensures c.new-4.ensures c.in_ok-table.ensures.count
