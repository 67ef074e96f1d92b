use Rattle.std.proofs.Common.{◌≡◌, ◌∙◌, Some, rules, ap, sym, subst, nat_eq}
use Rattle.std.specs.Map.{lookup}
use Rattle.graph_nodes.specs.declared.cells.Square.{Square}
use Rattle.graph_nodes.specs.Grid.{Floor, Keeps, with_square}
use Rattle.graph_nodes.proofs.GridLists.{unchanged, changed}
use Rattle.graph_nodes.proofs.grid.Floor.change.Goals as goal

pub returns-then-is : goal.returns-then-is
returns-then-is c = λ squares keeps.
    let same : c.in-Some.old ≡ c.args.square = c.is.ensures (search rules) in
    unchanged c.args.self.now squares c.args.actor c.args.square
    (sym c.in-Some.ensures ∙ ap (λ (q : Square). Some q) same) keeps

pub returns : goal.returns
returns c = λ squares keeps.
    let was = subst (λ (f : Floor). Some c.in-Some.old ≡ lookup (nat_eq c.args.actor) f.squares)
    (sym c.self.view_is) c.in-Some.ensures in
    changed _ _ _ squares c.args.actor c.in-Some.old c.args.square c.in_ok-insert.ensures.updates.0
    c.in_ok-clear.ensures c.in_ok-fill.ensures
    was (subst (λ (f : Floor). Keeps f squares) (sym c.self.view_is) keeps)
