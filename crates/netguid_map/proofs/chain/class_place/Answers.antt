use Rattle.std.proofs.Common.{◌∙◌, sym, arith}
use Rattle.class_layout.specs.Tables.{table_in}
use Rattle.netguid_map.specs.Chains.{has_names, names_up, most_above}
use Rattle.netguid_map.proofs.Needed.{table_size}
use Rattle.netguid_map.proofs.Searching.{first_found, none_found}
use Rattle.netguid_map.proofs.chain.class_place.Goals as goal

pub returns-then-is_class-clause-place : goal.returns-then-is_class-clause-place
returns-then-is_class-clause-place c = λ learnt st.
    first_found (has_names (names_up learnt most_above c.args.known.now)) (table_in c.args.classes.now)
    c.loop-place.place (omega (arith, table_size c.args.classes.now)) (c.loop-place.invariant learnt st)
    (sym (c.is_class.ensures learnt st) ∙ c.if-is_class.true)

pub returns-clause-place : goal.returns-clause-place
returns-clause-place c = λ learnt st.
    none_found (has_names (names_up learnt most_above c.args.known.now)) (table_in c.args.classes.now)
    (λ k below. c.loop-place.invariant learnt st k (omega (arith, table_size c.args.classes.now)))
