-- The lists that are found in a value are no longer than its longest array.
use Rattle.std.proofs.Common.{◌≡◌, ℕ, zero, suc, ◌≤◌, List, [], ◌∷◌, length, Option, Some, None, option_map, slice_get, Ordering, Less, Equal, Greater, codes, refl, sym, ap, ◌∙◌, subst, arith}
use Rattle.std.specs.Ordering.{nat_cmp, match_ordering}
use Rattle.std.specs.Cmp.Lexicographic.{slice_cmp}
use Rattle.std.proofs.lemmas.Option.{same_Some}
use Rattle.serde_json.specs.Data.{Data, null, boolean, number, string, array, object, Items, no_items, item, Members, no_members, member}
use Rattle.serde_json.specs.Events.{items_len}
use Rattle.serde_json.specs.Find.{get_member, as_array, as_str}
use Rattle.table_model.specs.Objects.{◌>>=◌, ClassObject, CallObject, elements_of, members_of, text_at, text_or_null_at, whole_at, flag_at, list_at, texts_of, classes_of, class_object, call_object}
use Rattle.table_model.specs.Sizes.{longest_array, longest_in_items, longest_in_members, AreWithin}
use Rattle.table_model.proofs.Checking.{test_some}

-- ---- the elements of an array

-- as many as the array has
elements_count : (ds : Items) (n : ℕ) → items_len ds ≤ n → length (elements_of ds) ≤ n
elements_count no_items n h = omega arith
elements_count (item d ds) zero h = absurd (omega arith)
elements_count (item d ds) (suc n) h = omega (arith, elements_count ds n (omega arith))

-- none with a longer array
element_within : (ds : Items) (n i : ℕ) (d : Data) → longest_in_items ds ≤ n → slice_get (elements_of ds) i ≡ Some d
    → longest_array d ≤ n
element_within no_items n i d h e = absurd (cc)
element_within (item first ds) n zero d h e = subst (λ x. longest_array x ≤ n) (same_Some first d e) (omega arith)
element_within (item first ds) n (suc i) d h e = element_within ds n i d (omega arith) e

-- the elements, where the value is an array
pub array_within : (d : Data) (ds : Items) (n : ℕ) → as_array d ≡ Some ds → longest_array d ≤ n
    → AreWithin n (elements_of ds)
array_within null ds n e h = absurd (cc)
array_within (boolean b) ds n e h = absurd (cc)
array_within (number x) ds n e h = absurd (cc)
array_within (string s) ds n e h = absurd (cc)
array_within (object ms) ds n e h = absurd (cc)
array_within (array these) ds n e h =
    subst (λ x. AreWithin n (elements_of x)) (same_Some these ds e) (record {
      count = elements_count these n (omega arith);
      each = λ i d. element_within these n i d (omega arith);
    })

-- ---- the members of an object

-- all the members
pub members_within : (keys : ℕ) (d : Data) (ms : Members) (n : ℕ) → members_of keys d ≡ Some ms → longest_array d ≤ n
    → longest_in_members ms ≤ n
members_within keys null ms n e h = absurd (cc)
members_within keys (boolean b) ms n e h = absurd (cc)
members_within keys (number x) ms n e h = absurd (cc)
members_within keys (string s) ms n e h = absurd (cc)
members_within keys (array ds) ms n e h = absurd (cc)
members_within keys (object these) ms n e h =
    subst (λ x. longest_in_members x ≤ n) (test_some _ these ms e).1 h

-- the member of a key
pub member_within : (key : List ℕ) (ms : Members) (d : Data) (n : ℕ) → get_member key ms ≡ Some d
    → longest_in_members ms ≤ n → longest_array d ≤ n
member_within key no_members d n e h = absurd (cc)
member_within key (member k first ms) d n e h =
    by_key (slice_cmp nat_cmp key k) e (λ f. member_within key ms d n f (omega arith))
  where
    by_key : (o : Ordering) → match_ordering o (get_member key ms) (Some first) (get_member key ms) ≡ Some d
        → (get_member key ms ≡ Some d → longest_array d ≤ n) → longest_array d ≤ n
    by_key Less f rest = rest f
    by_key Equal f rest = subst (λ x. longest_array x ≤ n) (same_Some first d f) (omega arith)
    by_key Greater f rest = rest f

-- ---- one step of a chain

-- what is found is there, and so is what comes before it
step : {A B : Type 0} (o : Option A) (next : A → Option B) (b : B) → (o >>= next) ≡ Some b
    → (a : A) × (o ≡ Some a) × (next a ≡ Some b)
step None next b e = absurd (cc)
step (Some a) next b e = (a, refl, e)

-- what is mapped is there
mapped : {A B : Type 0} (f : A → B) (o : Option A) (b : B) → option_map f o ≡ Some b
    → (a : A) × (o ≡ Some a) × (f a ≡ b)
mapped f None b e = absurd (cc)
mapped f (Some a) b e = (a, refl, same_Some (f a) b e)

-- the list of a key
pub list_within : (key : List ℕ) (ms : Members) (ds : List Data) (n : ℕ) → list_at key ms ≡ Some ds
    → longest_in_members ms ≤ n → AreWithin n ds
list_within key ms ds n e h =
    let found = mapped elements_of _ ds e in
    let value = step (get_member key ms) as_array found.0 found.1 in
    subst (AreWithin n) found.2
    (array_within value.0 found.0 n value.2 (member_within key ms value.0 n value.1 h))

-- ---- the lists of a class table

-- the classes of a table
pub classes_within : (d : Data) (classes : List Data) (n : ℕ) → classes_of d ≡ Some classes → longest_array d ≤ n
    → AreWithin n classes
classes_within d classes n e h =
    let top = step (members_of 1 d) _ classes e in
    list_within (codes "classes") top.0 classes n top.2 (members_within 1 d top.0 n top.1 h)

-- the properties and calls of a class
pub class_within : (d : Data) (class : ClassObject) (n : ℕ) → class_object d ≡ Some class → longest_array d ≤ n
    → AreWithin n class.properties × AreWithin n class.calls
class_within d class n e h =
    let ms = step (members_of 8 d) _ class e in
    let name = step (text_at (codes "name") ms.0) _ class ms.2 in
    let path = step (text_at (codes "path") ms.0) _ class name.2 in
    let parent = step (text_or_null_at (codes "parent") ms.0) _ class path.2 in
    let relevancy = step (text_at (codes "relevancy") ms.0) _ class parent.2 in
    let cull = step (whole_at (codes "cull") ms.0) _ class relevancy.2 in
    let priority = step (whole_at (codes "priority") ms.0) _ class cull.2 in
    let properties = step (list_at (codes "properties") ms.0) _ class priority.2 in
    let calls = step (list_at (codes "calls") ms.0) _ class properties.2 in
    let within = members_within 8 d ms.0 n ms.1 h in
    subst (λ (c : ClassObject). AreWithin n c.properties × AreWithin n c.calls) (same_Some _ class calls.2) (
      list_within (codes "properties") ms.0 properties.0 n properties.1 within,
      list_within (codes "calls") ms.0 calls.0 n calls.1 within,
    )

-- as many texts as values
texts_count : (ds : List Data) (texts : List (List ℕ)) → texts_of ds ≡ Some texts → length texts ≡ length ds
texts_count [] texts e = ap length (sym (same_Some [] texts e))
texts_count (d ∷ ds) texts e =
    let text = step (as_str d) _ texts e in
    let rest = step (texts_of ds) _ texts text.2 in
    ap length (sym (same_Some (text.0 ∷ rest.0) texts rest.2)) ∙ ap suc (texts_count ds rest.0 rest.1)

-- the arguments of a call
pub args_within : (d : Data) (call : CallObject) (n : ℕ) → call_object d ≡ Some call → longest_array d ≤ n
    → length call.args ≤ n
args_within d call n e h =
    let ms = step (members_of 4 d) _ call e in
    let name = step (text_at (codes "name") ms.0) _ call ms.2 in
    let kind = step (text_at (codes "kind") ms.0) _ call name.2 in
    let reliable = step (flag_at (codes "reliable") ms.0) _ call kind.2 in
    let elements = step (list_at (codes "args") ms.0) _ call reliable.2 in
    let args = step (texts_of elements.0) _ call elements.2 in
    let within = list_within (codes "args") ms.0 elements.0 n elements.1 (members_within 4 d ms.0 n ms.1 h) in
    subst (λ (c : CallObject). length c.args ≤ n) (same_Some _ call args.2)
    (subst (λ k. k ≤ n) (sym (texts_count elements.0 args.0 args.1)) within.count)
