use Rattle.client_sending.proofs.Datagrams.{may_send_got}
use Rattle.client_sending.proofs.laws.datagrams_leave_what_may_be_sent.Goals as goal

pub returns : goal.returns
returns c = λ version end past bytes h. may_send_got version end past bytes h
