use Rattle.std.proofs.Common.{inr, refl}
use Rattle.client_hearing.proofs.Opened.{same_table}
use Rattle.client_hearing.proofs.opens.begin_copy.Goals as goal

pub bind-requires-clause-channel_free : goal.bind-requires-clause-channel_free
bind-requires-clause-channel_free c = inr c.requires.free

pub bind-requires-clause-actor_free : goal.bind-requires-clause-actor_free
bind-requires-clause-actor_free c = inr c.requires.unbound

pub returns-in_err-bind-clause-rest : goal.returns-in_err-bind-clause-rest
returns-in_err-bind-clause-rest c = same_table c.args.table.now c.bind.new.self c.in_err-bind.ensures.err
