use Rattle.std.proofs.Common.{sym}
use Rattle.script_spelling.proofs.Pieces.{pieces-found, pieces-missing}
use Rattle.script_spelling.proofs.fields.first_piece.Goals as goal

pub returns-in-Some-clause-exact : goal.returns-in-Some-clause-exact
returns-in-Some-clause-exact c =
    pieces-found c.args.separator c.args.text.now c.in-Some.end (sym c.in-Some.ensures.exact)

pub returns-in-None-clause-exact : goal.returns-in-None-clause-exact
returns-in-None-clause-exact c = pieces-missing c.args.separator c.args.text.now (sym c.in-None.ensures.exact)
