use Rattle.live_laws.proofs.Begins.{server_turns_begin, caller_turns_begin, turns_begin}
use Rattle.live_laws.proofs.turns.turns_begin_with_what_was_done.Goals as goal

pub returns-clause-server : goal.returns-clause-server
returns-clause-server c = server_turns_begin

pub returns-clause-client : goal.returns-clause-client
returns-clause-client c = caller_turns_begin

pub returns-clause-both : goal.returns-clause-both
returns-clause-both c = turns_begin
