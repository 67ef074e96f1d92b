use Rattle.std.proofs.Common.{ap, sym, ◌∙◌, arith, to_z, of_z, w64, ◌≡◌}
use Rattle.std.proofs.lemmas.Int.{ints}
use Rattle.std.proofs.lemmas.Option.{slice_get_read}
use Rattle.std.proofs.Common.{refl, length}
use Rattle.value_codec.specs.Values.{whole_of}
use Rattle.shadow_changes.specs.Lists.{is_other}
use Rattle.shadow_changes.proofs.Writing.{same_set, set_is}
use Rattle.shadow_changes.proofs.change.set_value.Goals as goal

pub returns-then-not-differs-clause-set : goal.returns-then-not-differs-clause-set
returns-then-not-differs-clause-set c =
    same_set c.args.last.now.items c.args.i (whole_of c.args.value) c.index.result.now
    (omega arith) c.index.ensures (c.differs.ensures.same c.if-not-differs.true)

pub returns-then-not-differs-clause-other : goal.returns-then-not-differs-clause-other
returns-then-not-differs-clause-other c =
    let items = c.args.last.now.items in
    sym c.if-not-differs.true ∙ c.differs.ensures.other
    ∙ ap (is_other (whole_of c.args.value)) (sym (slice_get_read items
    (length items) c.args.i c.index.result.now refl (omega arith) c.index.ensures))

pub returns-clause-set : goal.returns-clause-set
returns-clause-set c =
    let same : to_z w64 (of_z w64 c.whole-2.result) ≡ c.whole-2.result = omega (arith, ints) in
    set_is c.args.last.now.items c.args.i (whole_of c.args.value) (to_z w64 (of_z w64 c.whole-2.result))
    (omega arith) (same ∙ c.whole-2.ensures)

pub returns-clause-other : goal.returns-clause-other
returns-clause-other c =
    let items = c.args.last.now.items in
    sym c.if-not-differs.false ∙ c.differs.ensures.other
    ∙ ap (is_other (whole_of c.args.value)) (sym (slice_get_read items
    (length items) c.args.i c.index.result.now refl (omega arith) c.index.ensures))
