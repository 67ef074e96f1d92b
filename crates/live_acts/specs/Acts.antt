-- Acts of the program as those of the definitions.
use Rattle.std.specs.Prelude.{◌≡◌, ◌++◌, List, map}
use Rattle.live_model.specs.Outside.{Act, Sends, Writes}
use Rattle.live_acts.specs.declared.act.Act.{Act as ActCode}
use Rattle.live_acts.specs.declared.act.Act.TheVariants as code

-- an act as the definitions have it
abbrev pub act_of : ActCode → Act
act_of (code.Sends end to bytes) = Sends end to bytes
act_of (code.Writes text) = Writes text

-- these acts were added
abbrev pub AddsActs : (before after : List ActCode) → List Act → Type 0
AddsActs before after acts = map act_of after ≡ map act_of before ++ acts
