-- The objects of a class table's file: which keys each has, and of which kind the value of each is.
use Rattle.std.specs.Prelude.{ℕ, ℤ, ◌==◌, List, [], ◌∷◌, Bool, Option, Some, None, option_map, option_and_then, codes}
use Rattle.std.specs.Bool.{then_some}
use Rattle.serde_json.specs.Data.{Data, null, boolean, number, string, array, object, Items, no_items, item, Members}
use Rattle.serde_json.specs.Events.{members_len}
use Rattle.serde_json.specs.Find.{get_member, as_bool, as_number, as_str, as_array, as_object, as_integer}

-- a value of the right kind, and what follows it
infixl 10 ◌>>=◌
abbrev pub ◌>>=◌ : {A B : Type 0} → Option A → (A → Option B) → Option B
o >>= next = option_and_then next o

-- the elements of an array
abbrev pub elements_of : Items → List Data
elements_of no_items = []
elements_of (item d ds) = d ∷ elements_of ds

-- the members of an object of so many keys; the keys of an object are distinct, so that with each of as many
-- keys found there is no other
abbrev pub members_of : ℕ → Data → Option Members
members_of keys d = option_and_then (λ ms. then_some (members_len ms == keys) ms) (as_object d)

-- the text of a key
abbrev pub text_at : List ℕ → Members → Option (List ℕ)
text_at key ms = option_and_then as_str (get_member key ms)

-- a text, or null
abbrev pub text_or_null : Data → Option (Option (List ℕ))
text_or_null null = Some None
text_or_null (string text) = Some (Some text)
text_or_null (boolean b) = None
text_or_null (number n) = None
text_or_null (array ds) = None
text_or_null (object ms) = None

-- the text of a key, which may be null
abbrev pub text_or_null_at : List ℕ → Members → Option (Option (List ℕ))
text_or_null_at key ms = option_and_then text_or_null (get_member key ms)

-- the whole number of a key, which fits 64 bits with a sign or without one
abbrev pub whole_at : List ℕ → Members → Option ℤ
whole_at key ms = option_and_then as_integer (option_and_then as_number (get_member key ms))

-- the truth value of a key
abbrev pub flag_at : List ℕ → Members → Option Bool
flag_at key ms = option_and_then as_bool (get_member key ms)

-- the elements of a key's array
abbrev pub list_at : List ℕ → Members → Option (List Data)
list_at key ms = option_map elements_of (option_and_then as_array (get_member key ms))

-- each value is a text
abbrev pub texts_of : List Data → Option (List (List ℕ))
texts_of [] = Some []
texts_of (d ∷ ds) = do
  text ← as_str d
  texts ← texts_of ds
  Some (text ∷ texts)

-- the top of the file: its classes
abbrev pub classes_of : Data → Option (List Data)
classes_of d = do
  ms ← members_of 1 d
  list_at (codes "classes") ms

-- a class, with its properties and calls as they stand
pub record ClassObject : Type 0 where
  pub name : List ℕ
  pub path : List ℕ
  pub parent : Option (List ℕ)
  pub relevancy : List ℕ
  pub cull : ℤ
  pub priority : ℤ
  pub properties : List Data
  pub calls : List Data

-- the object of a class
abbrev pub class_object : Data → Option ClassObject
class_object d = do
  ms ← members_of 8 d
  name ← text_at (codes "name") ms
  path ← text_at (codes "path") ms
  parent ← text_or_null_at (codes "parent") ms
  relevancy ← text_at (codes "relevancy") ms
  cull ← whole_at (codes "cull") ms
  priority ← whole_at (codes "priority") ms
  properties ← list_at (codes "properties") ms
  calls ← list_at (codes "calls") ms
  Some (record {
    name = name;
    path = path;
    parent = parent;
    relevancy = relevancy;
    cull = cull;
    priority = priority;
    properties = properties;
    calls = calls;
  })

-- a property
pub record PropertyObject : Type 0 where
  pub name : List ℕ
  pub type : List ℕ
  pub cond : List ℕ
  pub init : ℤ

-- the object of a property
abbrev pub property_object : Data → Option PropertyObject
property_object d = do
  ms ← members_of 4 d
  name ← text_at (codes "name") ms
  type ← text_at (codes "type") ms
  cond ← text_at (codes "cond") ms
  init ← whole_at (codes "init") ms
  Some (record { name = name; type = type; cond = cond; init = init })

-- a call, with its arguments' types as they are spelled
pub record CallObject : Type 0 where
  pub name : List ℕ
  pub kind : List ℕ
  pub reliable : Bool
  pub args : List (List ℕ)

-- the object of a call
abbrev pub call_object : Data → Option CallObject
call_object d = do
  ms ← members_of 4 d
  name ← text_at (codes "name") ms
  kind ← text_at (codes "kind") ms
  reliable ← flag_at (codes "reliable") ms
  elements ← list_at (codes "args") ms
  args ← texts_of elements
  Some (record { name = name; kind = kind; reliable = reliable; args = args })
