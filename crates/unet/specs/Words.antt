-- The program's command as the definitions have it.
use Rattle.program_model.specs.Words as model
use Rattle.unet.specs.declared.words.Command.{Command}
use Rattle.unet.specs.declared.words.Command.TheVariants.{Replay, Check, Show, Sample}

abbrev pub command_in : Command → model.Command
command_in (Replay classes script) = model.Replay classes.now script.now
command_in (Check classes) = model.Check classes.now
command_in (Show version file) = model.Show version file.now
command_in (Sample ticks) = model.Sample ticks
