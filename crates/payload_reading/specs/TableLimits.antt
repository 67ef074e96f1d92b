-- The classes by which payloads can be read.
use Rattle.std.specs.Prelude.{◌≤◌, ◌+◌, map, length, IsTrue, false}
use Rattle.std.specs.List.{list_all}
use Rattle.protocol_model.specs.Limits.{handle_limit, call_limit}
use Rattle.table_model.specs.Facts.{is_type, is_call}
use Rattle.class_members.specs.Members.{call_of}
use Rattle.class_layout.specs.declared.class.Class.{Class}
use Rattle.class_members.specs.declared.members.Prop.{Prop}

-- the kinds, the calls and how many there are of each are those that a table may have
pub record HasTableLimits (class : Class) : Type 0 where
  pub props : IsTrue (list_all (λ (p : Prop). is_type false p.kind) class.props)
  pub calls : IsTrue (list_all is_call (map call_of class.calls))
  pub handles : length class.props + 3 ≤ handle_limit
  pub call_count : length class.calls ≤ call_limit
