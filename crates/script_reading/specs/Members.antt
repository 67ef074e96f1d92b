-- Properties and calls by their names, in the lists of a class.
use Rattle.std.specs.Prelude.{ℕ, ◌+◌, List, length, Bool, ◌&&◌, ◌||◌, ◌==◌, Option, Some, None, Result, Ok, Err, position, slice_get, if◌then◌else◌, codes}
use Rattle.std.specs.Str.{bytes_eq}
use Rattle.protocol_model.specs.declared.Kind.{Kind}
use Rattle.protocol_model.specs.declared.Kind.TheVariants.{I32}
use Rattle.protocol_model.specs.declared.LineWhy.{LineWhy}
use Rattle.protocol_model.specs.declared.LineWhy.TheVariants.{NoName}
use Rattle.protocol_model.specs.World.{is_custom}
use Rattle.class_members.specs.declared.members.Prop.{Prop}
use Rattle.class_members.specs.declared.members.Call.{Call}
use Rattle.script_model.specs.Lines.{Text}

-- the place of a name among the class's own properties and those that it inherits
abbrev pub prop_place : List Prop → Text → Option ℕ
prop_place props name = position (λ (p : Prop). bytes_eq p.name name) props

-- three stand before them
abbrev pub with_kind : ℕ → Option Prop → Result (ℕ × Kind) LineWhy
with_kind n None = Err NoName
with_kind n (Some p) = Ok (n + 4, p.kind)

abbrev pub kind_at : List Prop → Option ℕ → Result (ℕ × Kind) LineWhy
kind_at props None = Err NoName
kind_at props (Some n) = with_kind n (slice_get props n)

-- x, y, or one of these; the role can't be set
abbrev pub settable_in : List Prop → Text → Result (ℕ × Kind) LineWhy
settable_in props name =
    if bytes_eq (codes "x") name then Ok (1, I32)
    else if bytes_eq (codes "y") name then Ok (2, I32)
    else if bytes_eq (codes "role") name then Err NoName
    else kind_at props (prop_place props name)

-- a property that each class has
abbrev pub is_built_in : Text → Bool
is_built_in name = bytes_eq (codes "x") name || bytes_eq (codes "y") name || bytes_eq (codes "role") name

abbrev pub if_custom : ℕ → Option Prop → Result ℕ LineWhy
if_custom n None = Err NoName
if_custom n (Some p) = if is_custom p.cond then Ok (n + 4) else Err NoName

abbrev pub custom_at : List Prop → Option ℕ → Result ℕ LineWhy
custom_at props None = Err NoName
custom_at props (Some n) = if_custom n (slice_get props n)

-- x, y and the role aren't custom
abbrev pub switchable_in : List Prop → Text → Result ℕ LineWhy
switchable_in props name = if is_built_in name then Err NoName else custom_at props (prop_place props name)

-- the place of a call by its name and how many arguments it has
abbrev pub call_place : List Call → Text → (count : ℕ) → Option ℕ
call_place calls name count = position (λ (c : Call). bytes_eq c.name name && length c.args == count) calls

abbrev pub numbered : ℕ → Option Call → Result (ℕ × Call) LineWhy
numbered n None = Err NoName
numbered n (Some call) = Ok (n + 1, call)

abbrev pub call_at_place : List Call → Option ℕ → Result (ℕ × Call) LineWhy
call_at_place calls None = Err NoName
call_at_place calls (Some n) = numbered n (slice_get calls n)

-- the call, and its number
abbrev pub called_in : List Call → Text → (count : ℕ) → Result (ℕ × Call) LineWhy
called_in calls name count = call_at_place calls (call_place calls name count)
