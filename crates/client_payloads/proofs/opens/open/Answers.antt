use Rattle.client_payloads.proofs.PayloadSteps.{open_whole}
use Rattle.client_payloads.proofs.opens.open.Goals as goal

pub returns-clause-exact : goal.returns-clause-exact
returns-clause-exact c = λ known st.
    open_whole c.args.classes.now c.args.copies.now c.args.channel c.args.has_exports known c.args.reader.now
    c.exports.new.reader c.opened.new.reader c.exports.new.names c.in_ok-exports.field-0 c.opened.result
    (c.in_ok-exports.ensures known st) c.opened.ensures.exact
