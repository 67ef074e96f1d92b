-- What an accepted class says before its properties.
use Rattle.std.proofs.Common.{◌≡◌, ℕ, ◌<◌, ◌≤◌, ℤ, pos, negsuc, unsigned_abs, List, length, Bool, true, false, not, nat_le, IsTrue, IfSome, Option, Some, None, option_map, Result, Ok, Err, ok_or, cond, codes, refl, subst}
use Rattle.std.specs.Str.{bytes_eq}
use Rattle.std.proofs.lemmas.Bool.{and_parts, not-true, leb-true}
use Rattle.std.proofs.lemmas.Option.{slice_get_within}
use Rattle.serde_json.specs.Data.{Data}
use Rattle.protocol_model.specs.declared.Reach.{Reach}
use Rattle.protocol_model.specs.declared.Reach.TheVariants.{Always, Near, Owner}
use Rattle.table_model.specs.declared.TableWhy.{TableWhy}
use Rattle.table_model.specs.declared.TableWhy.TheVariants.{Shape, Range, Name, Twice, Parent, BadType}
use Rattle.table_model.specs.Objects.{class_object}
use Rattle.table_model.specs.Words.{is_name, path_of}
use Rattle.table_model.specs.Rules.{Entry, Heading, is_there, is_from_to, class_names, has_path, place_of, parent_of, reach_of, heading_after}
use Rattle.table_model.specs.Facts.{is_reach}
use Rattle.table_model.proofs.Checking.{then_ok, must_then, some_then, same_ok}
use Rattle.table_model.proofs.Names.{place_found}
use Rattle.table_model.proofs.Types.{are_path_names, path_is}

-- ---- a parent

-- there is no parent, or it stands among these
abbrev pub StandsIn : List Entry → Option ℕ → Type 0
StandsIn before parent = IfSome parent (λ n. n < length before)

parent_where : (before : List Entry) (name : List ℕ) (o parent : Option ℕ) → place_of before name ≡ o
    → ok_or (option_map (λ n. Some n) o) Parent ≡ Ok parent → StandsIn before parent
parent_where before name None parent p h = absurd (cc)
parent_where before name (Some n) parent p h =
    let f = place_found before name n p in
    subst (StandsIn before) (same_ok (Some n) parent h) (slice_get_within before n f.0 f.1)

-- a parent stands before its class
pub parent_is : (before : List Entry) (name : Option (List ℕ)) (parent : Option ℕ)
    → parent_of before name ≡ Ok parent → StandsIn before parent
parent_is before None parent h = subst (StandsIn before) (same_ok None parent h) tt
parent_is before (Some name) parent h = parent_where before name (place_of before name) parent refl h

-- ---- a reach

-- a whole number in a range is a natural one in it
pub whole_is : (low high : ℕ) (z : ℤ) → is_from_to low high z ≡ true → (low ≤ unsigned_abs z) × (unsigned_abs z ≤ high)
whole_is low high (pos n) h =
    let p = and_parts (nat_le low n) (nat_le n high) h in (leb-true low n p.0, leb-true n high p.1)
whole_is low high (negsuc n) h = absurd (cc)

near_is : (cull : ℤ) → is_from_to 1 50000 cull ≡ true → is_reach (Near (unsigned_abs cull)) ≡ true
near_is (pos n) h = h
near_is (negsuc n) h = absurd (cc)

-- the reach, where the cull distance is in its range
abbrev ranged : Bool → Reach → Result Reach TableWhy
ranged in_range reach = cond in_range (Ok reach) (Err Range)

ranged_is : (b : Bool) (found reach : Reach) → (b ≡ true → is_reach found ≡ true) → ranged b found ≡ Ok reach
    → is_reach reach ≡ true
ranged_is true found reach is h = subst (λ r. is_reach r ≡ true) (same_ok found reach h) (is refl)
ranged_is false found reach is h = absurd (cc)

-- by the words of the relevancy
reach_where : (always near owner zero : Bool) (cull : ℤ) (reach : Reach)
    → let near_reach = ranged (is_from_to 1 50000 cull) (Near (unsigned_abs cull)) in
    cond always (ranged zero Always) (cond near near_reach (cond owner (ranged zero Owner) (Err BadType))) ≡ Ok reach
    → is_reach reach ≡ true
reach_where true near owner zero cull reach h = ranged_is zero Always reach (λ e. refl) h
reach_where false true owner zero cull reach h =
    ranged_is (is_from_to 1 50000 cull) (Near (unsigned_abs cull)) reach (near_is cull) h
reach_where false false true zero cull reach h = ranged_is zero Owner reach (λ e. refl) h
reach_where false false false zero cull reach h = absurd (cc)

-- a cull distance is in its range
pub reach_is : (relevancy : List ℕ) (cull : ℤ) (reach : Reach) → reach_of relevancy cull ≡ Ok reach
    → is_reach reach ≡ true
reach_is relevancy cull reach h =
    let is : List ℕ → Bool = bytes_eq relevancy in
    reach_where (is (codes "always")) (is (codes "near")) (is (codes "owner")) (is_from_to 0 0 cull) cull reach h

-- ---- a heading

-- a heading after the classes before it
pub record IsHeading (before : List Entry) (h : Heading) : Type 0 where
  pub name : IsTrue (is_name h.name)
  pub new_name : is_there (class_names before) h.name ≡ false
  pub path : IsTrue (are_path_names h.path)
  pub new_path : has_path before h.path ≡ false
  pub parent : StandsIn before h.parent
  pub reach : IsTrue (is_reach h.reach)
  pub priority : (1 ≤ h.priority) × (h.priority ≤ 255)

is_heading : (before : List Entry) (h : Heading) → is_name h.name ≡ true
    → not (is_there (class_names before) h.name) ≡ true → are_path_names h.path ≡ true
    → not (has_path before h.path) ≡ true → StandsIn before h.parent → is_reach h.reach ≡ true
    → (1 ≤ h.priority) × (h.priority ≤ 255) → IsHeading before h
is_heading before h name new_name path new_path parent reach priority = record {
  name = name;
  new_name = not-true _ new_name;
  path = path;
  new_path = not-true _ new_path;
  parent = parent;
  reach = reach;
  priority = priority;
}

-- an accepted heading
pub heading_is : (before : List Entry) (d : Data) (h : Heading) → heading_after before d ≡ Ok h → IsHeading before h
heading_is before d h e =
    let o = some_then (class_object d) Shape _ h e in
    let name = must_then (is_name o.0.name) Name _ h o.2 in
    let new_name = must_then (not (is_there (class_names before) o.0.name)) Twice _ h name.1 in
    let path = some_then (path_of o.0.path) Name _ h new_name.1 in
    let new_path = must_then (not (has_path before path.0)) Twice _ h path.2 in
    let parent = then_ok (parent_of before o.0.parent) _ h new_path.1 in
    let reach = then_ok (reach_of o.0.relevancy o.0.cull) _ h parent.2 in
    let priority = must_then (is_from_to 1 255 o.0.priority) Range _ h reach.2 in
    subst (IsHeading before) (same_ok _ h priority.1)
    (is_heading before _ name.0 new_name.0 (path_is o.0.path path.0 path.1) new_path.0
    (parent_is before o.0.parent parent.0 parent.1) (reach_is o.0.relevancy o.0.cull reach.0 reach.1)
    (whole_is 1 255 o.0.priority priority.0))
