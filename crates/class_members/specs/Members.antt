-- Properties and calls in memory as those that the definitions speak of.
use Rattle.std.specs.Prelude.{ℕ, List, Bool, Result}
use Rattle.std.specs.List.{list_all}
use Rattle.serde_json.specs.Data.{Data}
use Rattle.protocol_model.specs.Value as Model
use Rattle.table_model.specs.Checked.{Refusal, each_after}
use Rattle.table_model.specs.Rules.{property_after, call_after}
use Rattle.table_model.specs.declared.Place.TheVariants as Place
use Rattle.value_codec.specs.Values.{whole_of, is_of}
use Rattle.class_members.specs.declared.members.Prop.{Prop}
use Rattle.class_members.specs.declared.members.Call.{Call}

-- a property
abbrev pub prop_of : Prop → Model.Prop
prop_of p = record { name = p.name; kind = p.kind; cond = p.cond; init = whole_of p.init }

-- a call
abbrev pub call_of : Call → Model.Call
call_of c = record { name = c.name; way = c.way; reliable = c.reliable; args = c.args }

-- each initial value has its kind's tag
abbrev pub are_tagged : List Prop → Bool
are_tagged props = list_all (λ (p : Prop). is_of p.kind p.init) props

-- the properties of the k-th class, one after another behind those that are there
abbrev pub props_after : (k : ℕ) → (there : List Model.Prop) → List Data → Result (List Model.Prop) Refusal
props_after k there objects = each_after property_after (Place.Property k) there 1 objects

-- and its calls
abbrev pub calls_after : (k : ℕ) → (there : List Model.Call) → List Data → Result (List Model.Call) Refusal
calls_after k there objects = each_after call_after (Place.Call k) there 1 objects
