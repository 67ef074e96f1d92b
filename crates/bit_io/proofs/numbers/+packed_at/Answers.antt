use Rattle.std.proofs.Common.{◌-◌, ◌/◌, sym, ◌∙◌, arith}
use Rattle.protocol_laws.proofs.PackedReading.{groups-none, groups-short, groups-more, groups-more_err, groups-padded, groups-last, groups_top, more_below, last_below}
use Rattle.bit_io.proofs.numbers.+packed_at.Goals as goal

pub returns-then-groups-eq0-clause-exact : goal.returns-then-groups-eq0-clause-exact
returns-then-groups-eq0-clause-exact t c = groups-none c.args.groups c.args.first _ c.if-groups-eq0.true

pub returns-in_default-clause-exact : goal.returns-in_default-clause-exact
returns-in_default-clause-exact t c = groups-short c.args.groups (c.args.groups - 1) c.args.first _ (omega arith) c.in_default.ensures.exact

pub overflow_mul-result : goal.overflow_mul-result
overflow_mul-result t c =
    let below = more_below c.args.groups (c.args.groups - 1) 0 c.in-Ok.rest (omega arith) c.in-Ok.ensures.some (omega arith) c.in-Ok.ensures.below in
    let top = groups_top c.args.groups c.requires.groups in
    omega (arith, below, top)

pub overflow_add-result : goal.overflow_add-result
overflow_add-result t c =
    let small = c.in-Some.ensures.below in
    let below = more_below c.args.groups (c.args.groups - 1) (c.in-Some.group / 2) c.in-Ok.rest (omega arith) c.in-Ok.ensures.some (omega (arith, small)) c.in-Ok.ensures.below in
    let top = groups_top c.args.groups c.requires.groups in
    omega (arith, below, top)

pub returns-in-Ok-clause-exact : goal.returns-in-Ok-clause-exact
returns-in-Ok-clause-exact t c =
    groups-more c.args.groups (c.args.groups - 1) c.args.first _ _ _ c.in-Some.group c.in-Ok.rest (omega arith) c.in-Some.ensures.exact c.if-group-eq1.true c.in-Ok.ensures.exact

pub returns-in-Ok-clause-below : goal.returns-in-Ok-clause-below
returns-in-Ok-clause-below t c =
    let small = c.in-Some.ensures.below in
    more_below c.args.groups (c.args.groups - 1) (c.in-Some.group / 2) c.in-Ok.rest (omega arith) c.in-Ok.ensures.some (omega (arith, small)) c.in-Ok.ensures.below

pub returns-in-Err-clause-exact : goal.returns-in-Err-clause-exact
returns-in-Err-clause-exact t c =
    groups-more_err c.args.groups (c.args.groups - 1) c.args.first _ _ c.in-Some.group c.in-Err.why (omega arith) c.in-Some.ensures.exact c.if-group-eq1.true c.in-Err.ensures.exact

pub returns-then-is_padded-clause-exact : goal.returns-then-is_padded-clause-exact
returns-then-is_padded-clause-exact t c =
    groups-padded c.args.groups (c.args.groups - 1) c.args.first _ _ c.in-Some.group (omega arith) c.in-Some.ensures.exact c.if-group-eq1.false (sym c.is_padded.ensures ∙ c.if-is_padded.true)

pub returns-clause-exact : goal.returns-clause-exact
returns-clause-exact t c =
    groups-last c.args.groups (c.args.groups - 1) c.args.first _ _ c.in-Some.group (omega arith) c.in-Some.ensures.exact c.if-group-eq1.false (sym c.is_padded.ensures ∙ c.if-is_padded.false)

pub returns-clause-below : goal.returns-clause-below
returns-clause-below t c =
    let small = c.in-Some.ensures.below in
    last_below c.args.groups (c.in-Some.group / 2) c.args.first (omega arith) (omega (arith, small)) (sym c.is_padded.ensures ∙ c.if-is_padded.false)
