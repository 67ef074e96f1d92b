use Rattle.std.proofs.Common.{length, nat_le, arith}
use Rattle.client_sending.proofs.Fitting.{all_bytes, and_true}
use Rattle.client_sending.proofs.arguments.are_few.Goals as goal

pub returns-in-Bytes : goal.returns-in-Bytes
returns-in-Bytes c = rw c.in-Bytes.is (and_true (nat_le (length c.args.bytes.now) c.in-Bytes.most) _
    (all_bytes c.args.bytes.now (λ i. omega (arith, c.type_inv.bytes i))))
