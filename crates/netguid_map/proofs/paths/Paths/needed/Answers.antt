use Rattle.std.proofs.Common.{◌∙◌, List, ℕ, not, subst, sym, ap}
use Rattle.std.specs.Prelude.{filter, nat_eq}
use Rattle.std.specs.HashSet.{contains}
use Rattle.netguid_map.specs.contracts.paths.Paths.{the_view}
use Rattle.netguid_map.specs.Paths.{Knows, IsListed}
use Rattle.netguid_map.proofs.Needed.{needed_is, place_there}
use Rattle.netguid_map.proofs.paths.Paths.needed.Goals as goal

pub returns-in-Some : goal.returns-in-Some
returns-in-Some c = λ paths h.
    let inside = subst (λ (known : List ℕ). Knows known paths) (sym c.self.view_is) h in
    let path = ap (filter (λ g. not (contains nat_eq c.self.inside.known g))) c.as_slice.ensures in
    let known = the_view c.self.inside in
    let needed = needed_is c.args.classes.now c.args.class c.in-Some.class.now known paths c.in-Some.ensures inside in
    subst (λ (guids : List ℕ). IsListed guids c.unknown.result) (path ∙ needed) c.unknown.ensures

pub returns-in-None : goal.returns-in-None
returns-in-None c = λ paths h. absurd (place_there c.args.classes.now c.args.class c.requires c.in-None.ensures)
