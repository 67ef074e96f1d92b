use Rattle.std.proofs.Common.{sym, ◌∙◌, ap, is_some, arith}
use Rattle.script_spelling.proofs.HexBytes.{odd-none, pairs-some}
use Rattle.script_spelling.proofs.hex_text.are_pairs.Goals as goal

pub returns-then-text-eq1 : goal.returns-then-text-eq1
returns-then-text-eq1 c = ap is_some (sym (odd-none c.args.text.now (omega (arith, c.if-text-eq1.true))))

pub returns : goal.returns
returns c = c.are_digits.ensures ∙ sym (pairs-some c.args.text.now (omega (arith, c.if-text-eq1.false)))
