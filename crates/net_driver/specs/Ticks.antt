-- A tick's answer as the program has it.
use Rattle.std.specs.Prelude.{map}
use Rattle.link_end.specs.Answers.{sent_value}
use Rattle.net_driver.specs.declared.report.PlayerTick.{PlayerTick}
use Rattle.net_driver.specs.Served.{TickOf}

-- what a tick sent a player
abbrev pub tick_value : PlayerTick → TickOf
tick_value t = record { player = t.player; sent = map sent_value t.sent; stalled = t.stalled }
