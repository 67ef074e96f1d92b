use Rattle.std.proofs.Common.{◌∙◌, ap}
use Rattle.std.specs.Str.{bytes_eq}
use Rattle.protocol_model.specs.Value.{Class}
use Rattle.script_reading.proofs.Finding.{class_there, none_within}
use Rattle.script_reading.proofs.names.is_named.Goals as goal

pub returns-in-Some : goal.returns-in-Some
returns-in-Some c =
    c.are_same.ensures
    ∙ ap (λ text. bytes_eq text c.args.name.now) (c.as_bytes.ensures
    ∙ ap (λ (class : Class). class.name)
    (class_there c.args.classes.now c.args.place c.in-Some.class.now c.in-Some.ensures))

pub returns-in-None : goal.returns-in-None
returns-in-None c = absurd (none_within c.args.classes.now.classes c.args.place c.requires c.in-None.ensures)
