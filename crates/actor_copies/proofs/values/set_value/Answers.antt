use Rattle.std.proofs.Common.{sym, ap, ◌∙◌, arith}
use Rattle.std.specs.Prelude.{slice_set, slice_index_or}
use Rattle.value_codec.specs.declared.pair.Pair.{Pair}
use Rattle.value_codec.specs.declared.value.Value.{Value}
use Rattle.actor_copies.proofs.ValueSteps.{set_below, set_beyond, set_here}
use Rattle.actor_copies.proofs.values.set_value.Goals as goal

pub returns-in_default : goal.returns-in_default
returns-in_default c =
    let is = ap (λ (p : Pair). p.prop) c.pair.view_is in
    let t = c.in_default.ensures in
    sym (set_below 1 c.args.values.now c.args.pair c.requires (omega (arith, is, t)))

pub returns-then-place-values : goal.returns-then-place-values
returns-then-place-values c =
    let is = ap (λ (p : Pair). p.prop) c.pair.view_is in
    let t = c.in-Some.ensures in
    ap (λ (v : Value). slice_set c.args.values.now c.in-Some.place
    (record {
      prop = (slice_index_or c.args.values.now c.in-Some.place c.index-values-place.result).prop;
      value
          = v;
    })) (ap (λ (p : Pair). p.value) c.pair.view_is)
    ∙ set_here 1 c.args.values.now c.args.pair c.in-Some.place c.index-values-place.result c.requires
    (omega (arith, is, t)) c.if-place-values.true

pub returns-else-place-values : goal.returns-else-place-values
returns-else-place-values c =
    let is = ap (λ (p : Pair). p.prop) c.pair.view_is in
    let long = c.if-place-values.false in
    let t = c.in-Some.ensures in
    sym (set_beyond 1 c.args.values.now c.args.pair c.requires (omega (arith, is, long, t)))
