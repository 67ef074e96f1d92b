use Rattle.std.proofs.Common.{None, Some, arith}
use Rattle.table_json.proofs.Pieces.{split}
use Rattle.table_json.proofs.names.first_piece.Goals as goal

pub returns-in-Some-clause-exact : goal.returns-in-Some-clause-exact
returns-in-Some-clause-exact c =
    split 47 c.args.text.now (Some (c.in-Some.piece, c.in-Some.rest)) c.in-Some.ensures.cases (omega arith)

pub returns-in-None-clause-exact : goal.returns-in-None-clause-exact
returns-in-None-clause-exact c = split 47 c.args.text.now None c.in-None.ensures.cases (omega arith)
