use Rattle.std.proofs.Common.{◌≡◌, ◌∙◌, List, ℕ, length, map, sym, ap, subst, arith}
use Rattle.class_layout.specs.Tables.{segment_at}
use Rattle.netguid_map.specs.Chains.{AreThere, is_path, has_names, names_up, most_above}
use Rattle.netguid_map.proofs.Needed.{class_is, place_there}
use Rattle.netguid_map.proofs.Within.{path_there, path_short}
use Rattle.netguid_map.proofs.chain.is_class.Goals as goal

pub leads_up-requires : goal.leads_up-requires
leads_up-requires c =
    subst (AreThere c.args.classes.now.segments) (sym c.as_slice.ensures)
    (path_there c.args.classes.now c.args.place c.in-Some.class.now c.keeps_rules.ensures.layout c.in-Some.ensures)

pub returns-in-Some : goal.returns-in-Some
returns-in-Some c = λ learnt st.
    let names = names_up learnt most_above c.args.known.now in
    let layout = c.args.classes.now in
    let short = path_short layout c.args.place c.in-Some.class.now c.keeps_rules.ensures.layout c.in-Some.ensures in
    let size : length c.as_slice.result.now ≡ length c.in-Some.class.now.path = ap (length) c.as_slice.ensures in
    c.leads_up.ensures learnt most_above st (omega (arith, size, short))
    ∙ ap (λ (path : List ℕ). is_path names (map (segment_at c.args.classes.now.segments) path)) c.as_slice.ensures
    ∙ ap (has_names names) (sym (class_is c.args.classes.now c.args.place c.in-Some.class.now c.in-Some.ensures))

pub returns-in-None : goal.returns-in-None
returns-in-None c = λ learnt st. absurd (place_there c.args.classes.now c.args.place c.requires c.in-None.ensures)
