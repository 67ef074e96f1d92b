-- How long the arrays of a JSON value are.
use Rattle.std.specs.Prelude.{◌≡◌, ℕ, ◌≤◌, max, List, length, Some, slice_get}
use Rattle.serde_json.specs.Data.{Data, null, boolean, number, string, array, object, Items, no_items, item, Members, no_members, member}
use Rattle.serde_json.specs.Events.{items_len}

-- how many elements the longest array has, at whatever depth
abbrev mutual
  pub longest_array : Data → ℕ
  longest_array null = 0
  longest_array (boolean b) = 0
  longest_array (number n) = 0
  longest_array (string s) = 0
  longest_array (array ds) = max (items_len ds) (longest_in_items ds)
  longest_array (object ms) = longest_in_members ms

  -- the same of the elements of an array
  pub longest_in_items : Items → ℕ
  longest_in_items no_items = 0
  longest_in_items (item d ds) = max (longest_array d) (longest_in_items ds)

  -- and of the members of an object
  pub longest_in_members : Members → ℕ
  longest_in_members no_members = 0
  longest_in_members (member k d ms) = max (longest_array d) (longest_in_members ms)

-- at most n values, and in none an array of more than n elements
pub record AreWithin (n : ℕ) (ds : List Data) : Type 0 where
  pub count : length ds ≤ n
  pub each : (i : ℕ) (d : Data) → slice_get ds i ≡ Some d → longest_array d ≤ n
