use Rattle.std.proofs.Common.{◌∙◌, sym}
use Rattle.client_hearing.proofs.payloads.hear_payload.Goals as goal

pub hear_open-requires : goal.hear_open-requires
hear_open-requires c =
    let r = c.requires in
    (r.0, r.1, r.2, r.3, c.args.calls.now.items, r.4, sym r.4.is_raw.opens ∙ c.if-m.true)

pub returns-then-m-clause-heard : goal.returns-then-m-clause-heard
returns-then-m-clause-heard c = λ version w raw held h.
    c.hear_open.ensures.heard version w raw held c.args.calls.now.items h (sym h.is_raw.opens ∙ c.if-m.true)

pub hear_unopened-requires : goal.hear_unopened-requires
hear_unopened-requires c =
    let r = c.requires in
    (r.0, c.args.names.now, r.1, r.2, r.3, r.4, sym r.4.is_raw.opens ∙ c.if-m.false)

pub returns-else-m-clause-heard : goal.returns-else-m-clause-heard
returns-else-m-clause-heard c = λ version w raw held h.
    c.hear_unopened.ensures.heard version c.args.names.now w raw held h (sym h.is_raw.opens ∙ c.if-m.false)
