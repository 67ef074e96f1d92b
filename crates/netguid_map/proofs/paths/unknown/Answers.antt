use Rattle.std.proofs.Common.{◌≡◌, ◌∙◌, ℕ, not, false, sym, ap}
use Rattle.std.specs.Prelude.{nat_eq}
use Rattle.std.specs.HashSet.{contains}
use Rattle.netguid_map.proofs.Needed.{some_listed}
use Rattle.netguid_map.proofs.paths.unknown.Goals as goal

pub returns-in_default : goal.returns-in_default
returns-in_default c =
    let known : ℕ → _ = λ g. contains nat_eq c.args.known.now g in
    let out : known c.guid-item.result ≡ false =
    ap known (sym c.guid.view_is) ∙ sym c.contains.ensures ∙ c.if-not-contains.true in
    some_listed (λ g. not (known g)) c.args.path.now c.loop-guid.guid-index c.guid-item.result c.loop-guid-test.true
    (ap (λ (g : ℕ). not (known g)) (sym c.guid-item.is) ∙ ap not out)
