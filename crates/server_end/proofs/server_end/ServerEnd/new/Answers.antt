use Rattle.std.proofs.Common.{refl}
use Rattle.server_end.proofs.server_end.ServerEnd.new.Goals as goal

pub returns-clause-stands : goal.returns-clause-stands
returns-clause-stands c = λ end budget version. record {
  sender = c.new-sender.ensures;
  link = c.in_ok-link.ensures end budget version;
  table = c.in_ok-table.ensures.server refl;
}
