use Rattle.std.proofs.Common.{sym, ap, ◌∙◌, subst, map}
use Rattle.shadow_changes.specs.contracts.lists.Lists.{the_view}
use Rattle.shadow_changes.specs.Lists.{Lists, KeepsLists, last_tick}
use Rattle.shadow_changes.specs.Samples.{change_value}
use Rattle.shadow_changes.proofs.Steps.{answered}
use Rattle.shadow_changes.proofs.lists.Lists.since.Goals as goal
use Rattle.std.proofs.Common.{length}

pub returns : goal.returns
returns c = λ samples h.
    let l = the_view c.self.inside in
    let P : Lists → Type 0 = λ l. KeepsLists l samples in
    let inside : P l = subst P (sym c.self.view_is) h in
    let told = c.in_ok-changes.ensures (length l.last) (last_tick samples) inside.falling in
    ap (map change_value) c.later_than.ensures
    ∙ answered l samples c.in_ok-changes.changes.items c.args.tick inside told.0 told.1
