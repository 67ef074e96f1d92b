use Rattle.std.proofs.Common.{refl, arith, rules}
use Rattle.outgoing_channels.proofs.Sets.{found_first, none_first, found_later}
use Rattle.outgoing_channels.proofs.index_set.next_bit.Goals as goal

pub returns-then-rest-ne0-clause-some : goal.returns-then-rest-ne0-clause-some
returns-then-rest-ne0-clause-some c =
    found_first c.args.words.now 8 c.args.from _ (omega arith) refl (omega arith) (search rules)

pub loop-k-init : goal.loop-k-init
loop-k-init c = λ j lo hi. none_first c.args.words.now c.args.from _ j refl (omega arith) lo hi

pub returns-then-next-ne0-clause-some : goal.returns-then-next-ne0-clause-some
returns-then-next-ne0-clause-some c =
    found_later c.args.words.now 8 c.args.from c.loop-k.k _ (omega arith) (omega arith) refl (omega arith) (search rules) c.loop-k.invariant
