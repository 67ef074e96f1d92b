-- The class table of a worked script.
use Rattle.std.specs.Prelude.{[], ◌∷◌, pos, codes}
use Rattle.protocol_model.specs.declared.Cond.TheVariants.{Custom}
use Rattle.protocol_model.specs.Value.{Table}
use Rattle.protocol_model.specs.declared.Reach.{Reach}
use Rattle.protocol_model.specs.declared.Kind.TheVariants.{U8}

-- a class whose one property is custom
unfoldable pub lamp_table : Table
lamp_table =
    record {
      name = codes "Lamp";
      path = record { guid = 3; outer = 0; name = codes "Lamp" } ∷ [];
      reach = Reach.Always;
      priority = 1;
      props = record { name = codes "glow"; kind = U8; cond = Custom; init = (pos 7) }
          ∷ [];
      calls = [];
    }
    ∷ []
