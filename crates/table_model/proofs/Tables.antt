-- The rules of a table hold of every accepted one; its names and paths are each one class's.
use Rattle.std.proofs.Common.{◌≡◌, ◌↔◌, ℕ, ◌≤◌, List, [], length, slice_get, ◌&&◌, nat_le, Some, Ok, ok_or, option_map, subst, sym, ap, ◌∙◌, arith}
use Rattle.std.proofs.lemmas.Bool.{and_parts, leb-true}
use Rattle.std.proofs.lemmas.Option.{slice_get-map}
use Rattle.protocol_model.specs.Value.{Table}
use Rattle.table_model.specs.declared.Place.{Place}
use Rattle.table_model.specs.declared.TableWhy.TheVariants.{TooLong, Json, Shape, Range}
use Rattle.table_model.specs.Checked.{must}
use Rattle.table_model.specs.Rules.{Entry, path_names, place_of}
use Rattle.table_model.specs.Grammar.{json_of, entries_of, table_of, table_in}
use Rattle.table_model.specs.Objects.{classes_of}
use Rattle.table_model.specs.Facts.{IsTable, IsTableSoFar}
use Rattle.table_model.proofs.Checking.{then_ok, at_then, must_hold, same_ok}
use Rattle.table_model.proofs.Names.{NamedAt, place_found, place_at}
use Rattle.table_model.proofs.Paths.{paths_of, path_once}
use Rattle.table_model.proofs.Classes.{none_so_far, classes_keep}

-- ---- accepted tables

-- classes are a table where there is one at least
pub table_of_some : (entries : List Entry) → IsTableSoFar entries → 1 ≤ length entries → IsTable entries
table_of_some entries t least = record {
  least = least;
  most = t.most;
  names = t.names;
  paths = t.paths;
  classes = t.classes;
  segments = t.segments;
}

-- an accepted table keeps the rules
pub table_keeps_rules : (bytes : List ℕ) (entries : List Entry) → entries_of bytes ≡ Ok entries → IsTable entries
table_keeps_rules bytes entries h =
    let size = at_then Place.Table (must (nat_le (length bytes) 1000000) TooLong) _ entries h in
    let top = at_then Place.Table (ok_or (json_of bytes) Json) _ entries size.2 in
    let ds = at_then Place.Table (ok_or (classes_of top.0) Shape) _ entries top.2 in
    let count = at_then Place.Table (must (nat_le 1 (length ds.0) && nat_le (length ds.0) 256) Range) _ entries ds.2 in
    let p = and_parts (nat_le 1 (length ds.0)) (nat_le (length ds.0) 256) (must_hold _ Range count.0 count.1) in
    let least = leb-true 1 (length ds.0) p.0 in
    let most = leb-true (length ds.0) 256 p.1 in
    let kept = classes_keep [] ds.0 entries none_so_far (omega (arith, most)) count.2 in
    table_of_some entries kept.0 (let e = kept.1 in omega (arith, e, least))

-- a table of the file's classes keeps them
pub table_is : (bytes : List ℕ) (table : Table) → table_in bytes ≡ Ok table
    → (entries : List Entry) × (table ≡ table_of entries) × IsTable entries
table_is bytes table h =
    let entries = then_ok (entries_of bytes) _ table h in
    (entries.0, sym (same_ok (table_of entries.0) table entries.2), table_keeps_rules bytes entries.0 entries.1)

-- ---- names and paths

-- a name leads to the class that has it, and to no other
pub table_names : (entries : List Entry) (name : List ℕ) (n : ℕ) → IsTable entries
    → (place_of entries name ≡ Some n) ↔ NamedAt entries name n
table_names entries name n t = (
  place_found entries name n,
  λ f. subst (λ (x : List ℕ). place_of entries x ≡ Some n) f.2 (place_at entries n f.0 t.names f.1),
)

-- a class stands at the place of its path
pub path_at : (entries : List Entry) (n : ℕ) (e : Entry) → slice_get entries n ≡ Some e
    → slice_get (paths_of entries) n ≡ Some (path_names e.class.path)
path_at entries n e h =
    let path_of_entry = λ (x : Entry). path_names x.class.path in
    slice_get-map path_of_entry entries n ∙ ap (option_map path_of_entry) h

-- a path is that of one class at most
pub table_paths : (entries : List Entry) (m n : ℕ) (d e : Entry) → IsTable entries → slice_get entries m ≡ Some d
    → slice_get entries n ≡ Some e → path_names d.class.path ≡ path_names e.class.path → m ≡ n
table_paths entries m n d e t a b same =
    path_once (paths_of entries) m n (path_names e.class.path) t.paths (path_at entries m d a ∙ ap (λ p. Some p) same)
    (path_at entries n e b)
