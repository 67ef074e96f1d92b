use Rattle.std.proofs.Common.{◌≡◌, ◌∙◌, List, ℕ, Option, Some, None, refl, sym, ap, subst}
use Rattle.std.specs.Ordering.{nat_cmp}
use Rattle.std.specs.Map.{lookup}
use Rattle.std.specs.BTreeMap.{is_at}
use Rattle.class_layout.specs.Tables.{table_in}
use Rattle.netguid_map.specs.declared.names.Learnt.{Learnt}
use Rattle.netguid_map.specs.Names.{Stands}
use Rattle.netguid_map.proofs.Upwards.{known_is}
use Rattle.netguid_map.proofs.Searching.{unknown_named, known_named}
use Rattle.netguid_map.proofs.names.Names.class_of.Goals as goal

-- what is found under the guid's number is found under the guid
found_at : (kept : List (ℕ × Learnt)) (inside g : ℕ) (o : Option Learnt) → inside ≡ g
    → o ≡ lookup (is_at (nat_cmp inside)) kept → o ≡ lookup (is_at (nat_cmp g)) kept
found_at kept inside g o is e = e ∙ ap (λ (k : ℕ). lookup (is_at (nat_cmp k)) kept) is

pub returns-in_default-clause-answer : goal.returns-in_default-clause-answer
returns-in_default-clause-answer c = λ names h.
    let kept = c.self.inside.names.entries in
    let st = subst (λ (kept : List (ℕ × Learnt)). Stands kept names) (sym c.self.view_is) h in
    let found = found_at kept c.g.inside.0 c.args.g None c.g.view_is c.in_default.ensures.value in
    (unknown_named (table_in c.args.classes.now) names c.args.g (known_is kept names c.args.g None st found), refl)

pub returns-in-Some-class_place-clause-answer : goal.returns-in-Some-class_place-clause-answer
returns-in-Some-class_place-clause-answer c = λ names h.
    let kept = c.self.inside.names.entries in
    let st = subst (λ (kept : List (ℕ × Learnt)). Stands kept names) (sym c.self.view_is) h in
    let known = Some c.in-Some.known.now in
    let found = found_at kept c.g.inside.0 c.args.g known c.g.view_is c.in-Some.ensures.value in
    known_named (table_in c.args.classes.now) names c.args.g c.in-Some.known.now
    (known_is kept names c.args.g known st found)
    ∙ c.in-Some-class_place.ensures.place names st

pub returns-in-None-clause-answer : goal.returns-in-None-clause-answer
returns-in-None-clause-answer c = λ names h.
    let kept = c.self.inside.names.entries in
    let st = subst (λ (kept : List (ℕ × Learnt)). Stands kept names) (sym c.self.view_is) h in
    let known = Some c.in-Some.known.now in
    let found = found_at kept c.g.inside.0 c.args.g known c.g.view_is c.in-Some.ensures.value in (
      known_named (table_in c.args.classes.now) names c.args.g c.in-Some.known.now
          (known_is kept names c.args.g known st found)
          ∙ c.in-None.ensures.place names st,
      refl,
    )
