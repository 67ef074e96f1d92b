use Rattle.std.proofs.Common.{sym, ◌∙◌}
use Rattle.replay_core.proofs.Whole.{may_of}
use Rattle.replay_core.proofs.replay.Replay.advance.Goals as goal

pub player_line-requires : goal.player_line-requires
player_line-requires c =
    let s = c.requires in
    let whose = sym c.player_of.ensures ∙ c.in-Some.is in
    let may = may_of c.args.self.now.layout s.0 c.args.line.now c.in-Some.player whose s.2 in
    record { whose = whose; stands = (s.0, s.1, may.0, may.1) }

pub world_line-requires : goal.world_line-requires
world_line-requires c =
    let s = c.requires in
    record { whose = sym c.player_of.ensures ∙ c.in-None.is; stands = (s.0, s.1, s.2) }
