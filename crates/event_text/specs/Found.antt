-- Names of a class that was looked for; one that isn't there has none.
use Rattle.std.specs.Prelude.{ℕ, ◌-◌, ◌==◌, List, [], nat_le, codes, unwrap_or, option_map, Option, Some, None, option_and_then, slice_get, if◌then◌else◌}
use Rattle.std.specs.Borrow.{Bor}
use Rattle.class_members.specs.declared.members.Prop.{Prop}
use Rattle.class_members.specs.declared.members.Call.{Call}
use Rattle.class_layout.specs.declared.class.Class.{Class}

-- the property of a handle behind x, y and role
abbrev pub own_at : Option (Bor Class) → (handle : ℕ) → Option Prop
own_at class h = if nat_le 4 h then option_and_then (λ (c : Bor Class). slice_get c.now.props (h - 4)) class else None

-- the call of a number
abbrev pub called_at : Option (Bor Class) → (number : ℕ) → Option Call
called_at class n =
    if nat_le 1 n then option_and_then (λ (c : Bor Class). slice_get c.now.calls (n - 1)) class else None

-- the class's name
abbrev pub class_name : Option (Bor Class) → List ℕ
class_name None = []
class_name (Some c) = c.now.name

-- the name of a property
abbrev pub prop_name : Option Prop → List ℕ
prop_name o = unwrap_or (option_map (λ (p : Prop). p.name) o) []

-- the name of a handle
abbrev pub own_name : Option (Bor Class) → (handle : ℕ) → List ℕ
own_name class h =
    if h == 1 then codes "x"
    else if h == 2 then codes "y"
    else if h == 3 then codes "role"
    else prop_name (own_at class h)

-- the name of a call
abbrev pub called_name : Option Call → List ℕ
called_name o = unwrap_or (option_map (λ (c : Call). c.name) o) []
