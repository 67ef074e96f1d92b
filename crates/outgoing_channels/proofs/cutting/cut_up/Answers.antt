use Rattle.std.proofs.Common.{◌∙◌, sym, ap, arith, rules}
use Rattle.protocol_model.specs.Payload.{part_count}
use Rattle.outgoing_channels.proofs.Pieces.{one_piece, all_pieces}
use Rattle.outgoing_channels.proofs.cutting.cut_up.Goals as goal

pub returns-then-count-eq1-clause-pieces : goal.returns-then-count-eq1-clause-pieces
returns-then-count-eq1-clause-pieces c =
    let e = c.parts-count.ensures in let l = c.len.ensures in let t = c.if-count-eq1.true in one_piece c.args.payload c.new.result.items (sym (rw l at e) ∙ t)

pub returns-clause-pieces : goal.returns-clause-pieces
returns-clause-pieces c =
    all_pieces c.args.payload _ _ (search rules) (λ j h. c.in_ok-rest.ensures.pieces j (omega (arith, c.parts-count.ensures, c.len.ensures, ap part_count c.len.ensures, h)))
