-- The objects that are lent, as those of the definitions.
use Rattle.std.specs.Prelude.{ℕ, List, [], map, Bool, is_some, option_map, unwrap_or}
use Rattle.serde_json.specs.Find.{as_str}
use Rattle.serde_json.specs.View.{view}
use Rattle.serde_json.specs.declared.value.Value.{Value}
use Rattle.table_model.specs.Objects as model
use Rattle.table_json.specs.declared.objects.ClassObject.{ClassObject}
use Rattle.table_json.specs.declared.objects.PropertyObject.{PropertyObject}
use Rattle.table_json.specs.declared.objects.CallObject.{CallObject}

-- the value is a text
abbrev pub is_text : Value → Bool
is_text v = is_some (as_str (view v))

-- the text that a value is, and an empty one for any other value
abbrev pub text_in : Value → List ℕ
text_in v = unwrap_or (as_str (view v)) []

-- a class
abbrev pub class_object_of : ClassObject → model.ClassObject
class_object_of c = record {
  name = c.name.now;
  path = c.path.now;
  parent = option_map (λ name. name.now) c.parent;
  relevancy = c.relevancy.now;
  cull = c.cull;
  priority = c.priority;
  properties = map view c.properties.now;
  calls = map view c.calls.now;
}

-- a property
abbrev pub property_object_of : PropertyObject → model.PropertyObject
property_object_of p = record { name = p.name.now; type = p.type_word.now; cond = p.cond.now; init = p.init }

-- a call
abbrev pub call_object_of : CallObject → model.CallObject
call_object_of c =
    record { name = c.name.now; kind = c.kind.now; reliable = c.reliable; args = map text_in c.args.now }
