-- A class that is read step by step, beside its rules in the definitions.
use Rattle.std.proofs.Common.{◌≡◌, ℕ, suc, ◌+◌, ◌*◌, ◌≤◌, List, ◌++◌, map, length, Bool, true, false, ◌&&◌, nat_le, Result, Ok, Err, refl, sym, ◌∙◌, IsTrue, arith, rules}
use Rattle.std.specs.List.{list_all}
use Rattle.std.proofs.lemmas.Bool.{and_parts, leb-true}
use Rattle.std.proofs.lemmas.List.{length-map}
use Rattle.serde_json.specs.Data.{Data}
use Rattle.protocol_model.specs.Value as Model
use Rattle.table_model.specs.Checked.{Refusal, each_after}
use Rattle.table_model.specs.declared.Place.{Place}
use Rattle.table_model.specs.declared.TableWhy.TheVariants.{TooMany}
use Rattle.table_model.specs.Rules.{Entry, Heading, heading_after, property_after, call_after, segments_of, path_under, next_guid}
use Rattle.table_model.specs.Grammar as Grammar
use Rattle.table_model.specs.Words.{is_name}
use Rattle.table_model.proofs.Headings.{heading_is}
use Rattle.table_model.proofs.Types.{are_path_names}
use Rattle.class_members.specs.Members.{prop_of, call_of}
use Rattle.class_members.specs.declared.members.Prop.{Prop}
use Rattle.class_members.specs.declared.members.Call.{Call}
use Rattle.class_members.specs.Agreement.{BreaksAs, RefusedAs, refusal_at}
use Rattle.class_members.specs.declared.refusal.Fault.{Fault}
use Rattle.class_members.specs.declared.refusal.TableRefusal.{TableRefusal}

-- the properties of a heading, and its calls, after the inherited ones
abbrev pub props_read : (k : ℕ) → List Entry → Heading → Result (List Model.Prop) Refusal
props_read k before h =
    each_after property_after (Place.Property k) (Grammar.parent_in before h.parent).props 1 h.properties

abbrev pub calls_read : (k : ℕ) → List Entry → Heading → Result (List Model.Call) Refusal
calls_read k before h = each_after call_after (Place.Call k) (Grammar.parent_in before h.parent).calls 1 h.calls

-- a heading that is refused
pub heading_refused : (k : ℕ) (before : List Entry) (d : Data) (fault : Fault) → BreaksAs fault (heading_after before d)
    → RefusedAs (refusal_at (Place.Class k) fault) (Grammar.class_after k before d)
heading_refused k before d (Fault.Broken why) h = rw h refl
heading_refused k before d Fault.Memory h = tt

-- a property that is refused
pub props_refused : (k : ℕ) (before : List Entry) (d : Data) (h : Heading) (e : TableRefusal)
    → heading_after before d ≡ Ok h → RefusedAs e (props_read k before h)
    → RefusedAs e (Grammar.class_after k before d)
props_refused k before d h (TableRefusal.BadTable place why) head props = rw (head, props) refl
props_refused k before d h TableRefusal.Memory head props = tt

-- a call that is refused
pub calls_refused : (k : ℕ) (before : List Entry) (d : Data) (h : Heading) (ps : List Model.Prop) (e : TableRefusal)
    → heading_after before d ≡ Ok h → props_read k before h ≡ Ok ps → RefusedAs e (calls_read k before h)
    → RefusedAs e (Grammar.class_after k before d)
calls_refused k before d h ps (TableRefusal.BadTable place why) head props calls = rw (head, props, calls) refl
calls_refused k before d h ps TableRefusal.Memory head props calls = tt

-- a class that is too large
pub sizes_refused : (k : ℕ) (before : List Entry) (d : Data) (h : Heading) (ps : List Model.Prop) (cs : List Model.Call)
    → heading_after before d ≡ Ok h → props_read k before h ≡ Ok ps → calls_read k before h ≡ Ok cs
    → Grammar.sizes_fit before (Grammar.class_with before h ps cs) ≡ false
    → Grammar.class_after k before d ≡ Err (record { place = Place.Class k; why = TooMany })
sizes_refused k before d h ps cs head props calls sizes = rw (head, props, calls, sizes) refl

-- a class that is taken
pub class_taken : (k : ℕ) (before : List Entry) (d : Data) (h : Heading) (ps : List Model.Prop) (cs : List Model.Call)
    → heading_after before d ≡ Ok h → props_read k before h ≡ Ok ps → calls_read k before h ≡ Ok cs
    → Grammar.sizes_fit before (Grammar.class_with before h ps cs) ≡ true
    → Grammar.class_after k before d ≡ Ok (record { parent = h.parent; class = Grammar.class_with before h ps cs })
class_taken k before d h ps cs head props calls sizes = rw (head, props, calls, sizes) refl

-- the sizes in memory are those of the class
pub sizes_same : (before : List Entry) (h : Heading) (ps : List Model.Prop) (cs : List Model.Call)
    (props calls segments : ℕ) → props ≡ length ps → calls ≡ length cs
    → next_guid (segments_of before ++ path_under (segments_of before) 0 h.path) ≡ 2 * segments + 3
    → (nat_le props 197 && nat_le calls 64 && nat_le segments 1024)
    ≡ Grammar.sizes_fit before (Grammar.class_with before h ps cs)
sizes_same before h ps cs props calls segments p c s = rw (p, c, s, same_props (length ps), same_segments segments) refl
  where
    same_props : (n : ℕ) → nat_le n 197 ≡ nat_le (suc (suc (suc n))) 200
    same_props n = search (rules, arith)

    same_segments : (n : ℕ) → nat_le n 1024 ≡ nat_le (2 * n + 3) 2051
    same_segments n = search (rules, arith)

-- a path has at most 8 names
pub short_path : (before : List Entry) (d : Data) (h : Heading) → heading_after before d ≡ Ok h → length h.path ≤ 8
short_path before d h head = few h.path (heading_is before d h head).path
  where
    few : (names : List (List ℕ)) → IsTrue (are_path_names names) → length names ≤ 8
    few names is =
        let front = and_parts (nat_le 1 (length names) && nat_le (length names) 8) (list_all is_name names) is in
        leb-true (length names) 8 (and_parts (nat_le 1 (length names)) (nat_le (length names) 8) front.0).1

-- what the sizes in memory say is what those of the class say
pub sizes_told : (before : List Entry) (h : Heading) (props : List Prop) (calls : List Call) (p c n : ℕ) (told : Bool)
    → p ≡ length props → c ≡ length calls
    → next_guid (segments_of before ++ path_under (segments_of before) 0 h.path) ≡ 2 * n + 3
    → told ≡ (nat_le p 197 && nat_le c 64 && nat_le n 1024)
    → Grammar.sizes_fit before (Grammar.class_with before h (map prop_of props) (map call_of calls)) ≡ told
sizes_told before h props calls p c n told ps cs next is =
    sym (is ∙ sizes_same before h (map prop_of props) (map call_of calls) p c n
    (ps ∙ sym (length-map props prop_of)) (cs ∙ sym (length-map calls call_of)) next)
