use Rattle.std.proofs.Common.{◌∙◌, Some, None, ap, subst, arith, bytes_eq}
use Rattle.class_layout.specs.Tables.{segment_at}
use Rattle.netguid_map.specs.Chains.{AreThere}
use Rattle.netguid_map.proofs.Upwards.{Step, known_is, other_last, outermost, not_above, above}
use Rattle.netguid_map.proofs.Within.{last_there, outer_there}
use Rattle.netguid_map.proofs.chain.+leads_up.Goals as goal

pub is_named-requires : goal.is_named-requires
is_named-requires t c =
    last_there c.args.classes.now.segments c.in-Some.outer.now c.in-Some.last.now
    (subst (AreThere c.args.classes.now.segments) c.in-Some.ensures.cases.0 c.requires)

pub leads_up-requires : goal.leads_up-requires
leads_up-requires t c = (
  omega (arith, c.in-Some.ensures.cases.1),
  outer_there c.args.classes.now.segments c.in-Some.outer.now c.in-Some.last.now
      (subst (AreThere c.args.classes.now.segments) c.in-Some.ensures.cases.0 c.requires),
)

pub returns-then-not-is_named : goal.returns-then-not-is_named
returns-then-not-is_named t c = λ learnt most st short.
    let named = bytes_eq (segment_at c.args.classes.now.segments c.in-Some.last.now).name in
    let step : Step c.args.classes.now.segments c.args.path.now c.in-Some.outer.now c.in-Some.last.now c.args.known.now
    c.is_named.result =
    record { whole = c.in-Some.ensures.cases.0; test = c.is_named.ensures ∙ ap named c.as_slice.ensures } in
    other_last learnt most step c.if-not-is_named.true

pub returns-then-known-eq0 : goal.returns-then-known-eq0
returns-then-known-eq0 t c = λ learnt most st short.
    let named = bytes_eq (segment_at c.args.classes.now.segments c.in-Some.last.now).name in
    let step : Step c.args.classes.now.segments c.args.path.now c.in-Some.outer.now c.in-Some.last.now c.args.known.now
    c.is_named.result =
    record { whole = c.in-Some.ensures.cases.0; test = c.is_named.ensures ∙ ap named c.as_slice.ensures } in
    c.is_empty.ensures ∙ outermost learnt most step c.if-not-is_named.false c.if-known-eq0.true

pub returns-in-None : goal.returns-in-None
returns-in-None t c = λ learnt most st short.
    let named = bytes_eq (segment_at c.args.classes.now.segments c.in-Some.last.now).name in
    let step : Step c.args.classes.now.segments c.args.path.now c.in-Some.outer.now c.in-Some.last.now c.args.known.now
    c.is_named.result =
    record { whole = c.in-Some.ensures.cases.0; test = c.is_named.ensures ∙ ap named c.as_slice.ensures } in
    not_above learnt most step c.if-not-is_named.false c.if-known-eq0.false
    (known_is c.args.names.now.entries learnt c.args.known.now.outer None st c.in-None.ensures.value)

pub returns-in-Some-get : goal.returns-in-Some-get
returns-in-Some-get t c = λ learnt most st short.
    let named = bytes_eq (segment_at c.args.classes.now.segments c.in-Some.last.now).name in
    let step : Step c.args.classes.now.segments c.args.path.now c.in-Some.outer.now c.in-Some.last.now c.args.known.now
    c.is_named.result =
    record { whole = c.in-Some.ensures.cases.0; test = c.is_named.ensures ∙ ap named c.as_slice.ensures } in
    let up = c.in-Some-get.above.now in
    above learnt most up c.leads_up.result step c.if-not-is_named.false c.if-known-eq0.false
    (known_is c.args.names.now.entries learnt c.args.known.now.outer (Some up) st c.in-Some-get.ensures.value)
    (omega (arith, short, c.in-Some.ensures.cases.1)) (λ m few. c.leads_up.ensures learnt m st few)
