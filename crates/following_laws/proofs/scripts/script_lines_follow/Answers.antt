use Rattle.following_laws.proofs.ReadFollowing.{read_following}
use Rattle.following_laws.proofs.scripts.script_lines_follow.Goals as goal

pub returns : goal.returns
returns c = read_following
