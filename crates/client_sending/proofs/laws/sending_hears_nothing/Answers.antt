use Rattle.client_sending.proofs.Unheard.{call_top, call_entries, tick_top, tick_entries}
use Rattle.client_sending.proofs.laws.sending_hears_nothing.Goals as goal

pub returns-clause-call_top : goal.returns-clause-call_top
returns-clause-call_top c = λ past actor number args. call_top past actor number args

pub returns-clause-call_entries : goal.returns-clause-call_entries
returns-clause-call_entries c = λ past actor number args. call_entries past actor number args

pub returns-clause-tick_top : goal.returns-clause-tick_top
returns-clause-tick_top c = λ end past side alive opens. tick_top end past side alive opens

pub returns-clause-tick_entries : goal.returns-clause-tick_entries
returns-clause-tick_entries c = λ end past side alive opens. tick_entries end past side alive opens
