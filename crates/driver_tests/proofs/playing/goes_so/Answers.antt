use Rattle.std.proofs.Common.{◌+◌, arith}
use Rattle.driver_tests.proofs.More.{more, more_ok}
use Rattle.driver_tests.proofs.playing.goes_so.Goals as goal

pub spawns-requires-clause-few : goal.spawns-requires-clause-few
spawns-requires-clause-few c = omega (arith, c.requires.few)

pub spawns-requires-clause-playing : goal.spawns-requires-clause-playing
spawns-requires-clause-playing c = c.requires.playing

pub ticks-requires : goal.ticks-requires
ticks-requires c = record { playing = c.requires.playing }

pub are_quiet-requires : goal.are_quiet-requires
are_quiet-requires c = record { playing = c.requires.playing }

pub sends-requires : goal.sends-requires
sends-requires c = record { playing = c.requires.playing }

pub takes-requires : goal.takes-requires
takes-requires c = record { playing = c.requires.playing }

pub settles-requires : goal.settles-requires
settles-requires c = record { playing = c.requires.playing }

pub takes_edit-requires : goal.takes_edit-requires
takes_edit-requires c = record { few = omega (arith, c.requires.few); playing = c.requires.playing }

pub returns-in-Spawns : goal.returns-in-Spawns
returns-in-Spawns c = c.spawns.ensures

pub returns-in-Ticks : goal.returns-in-Ticks
returns-in-Ticks c = more_ok c.ticks.result _ c.args.edits _ (omega arith) c.ticks.ensures

pub returns-in-Quiet : goal.returns-in-Quiet
returns-in-Quiet c = more_ok c.are_quiet.result _ c.args.edits _ (omega arith) c.are_quiet.ensures

pub returns-in-Sends : goal.returns-in-Sends
returns-in-Sends c = more_ok c.sends.result _ c.args.edits _ (omega arith) c.sends.ensures

pub returns-in-Takes : goal.returns-in-Takes
returns-in-Takes c = more_ok c.takes.result _ c.args.edits _ (omega arith) c.takes.ensures

pub returns-in-Settles : goal.returns-in-Settles
returns-in-Settles c = more_ok c.settles.result _ c.args.edits _ (omega arith) c.settles.ensures

pub returns-in_default : goal.returns-in_default
returns-in_default c = more _ (c.args.edits + 1) _ (omega arith) c.takes_edit.ensures
