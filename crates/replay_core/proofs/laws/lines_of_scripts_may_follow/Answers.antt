use Rattle.replay_core.proofs.Following.{lines_may}
use Rattle.replay_core.proofs.laws.lines_of_scripts_may_follow.Goals as goal

pub returns : goal.returns
returns c = lines_may
