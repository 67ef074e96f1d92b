-- One more actor is sampled.
use Rattle.std.proofs.Common.{◌≡◌, ◌≢◌, ℕ, ◌+◌, ◌-◌, ◌<◌, ◌≤◌, List, ◌∷◌, map, length, Bool, true, false, cond, ◌==◌, ◌||◌, Some, is_some, refl, sym, ap, ◌∙◌, subst, arith}
use Rattle.std.specs.Prelude.{nat_eq}
use Rattle.std.specs.Map.{lookup}
use Rattle.std.proofs.lemmas.Bool.{false≢true, eqb-true, eq-eqb, ne_eqb, and_from}
use Rattle.std.proofs.lemmas.Option.{same_Some}
use Rattle.protocol_model.specs.Limits.{handle_limit}
use Rattle.protocol_model.specs.Value.{Table, Class, handle_count}
use Rattle.protocol_model.specs.World.{Edits, class_of}
use Rattle.change_model.specs.Changes.{Sample}
use Rattle.class_layout.specs.Tables.{class_of as class_value}
use Rattle.class_layout.specs.declared.class.Class.{Class as ClassKept}
use Rattle.class_layout.specs.declared.class.Segment.{Segment}
use Rattle.value_codec.specs.Values.{whole_of}
use Rattle.actor_sights.specs.Sampled.{values_of}
use Rattle.driver_sights.proofs.Classes.{cells_there}
use Rattle.value_codec.specs.declared.value.Value.{Value}
use Rattle.shadow_changes.specs.Samples.{Samples, Shadows, Keeps, samples_of, sample_of, is_after, have_count, may_follow}
use Rattle.actor_sights.proofs.Property.{counted}
use Rattle.driver_sights.specs.Noted.{NotedKept, is_noted, sample_now, with_sample, AreValues, AreBefore, Notes}

-- an actor that wasn't sampled at the tick may be
pub may_sample : (n : NotedKept) (changes : Shadows) (table : Table) (edits : Edits) (samples : Samples) (a : ℕ)
    (values : List Value) → (h : Notes n changes table edits samples) → is_noted n a ≡ false
    → AreValues table edits a values → may_follow (samples_of h.now a) n.tick (length values) ≡ true
may_sample n changes table edits samples a values h out v =
    let same : samples_of h.now a ≡ samples_of samples a =
    h.each a ∙ ap (λ (b : Bool). with_sample b (sample_now table edits n.tick a) (samples_of samples a)) out in
    let many = counted table edits a values v.are in
    ap (λ (s : List Sample). may_follow s n.tick (length values)) same
    ∙ and_from (is_after (samples_of samples a) n.tick) (have_count (samples_of samples a) (length values))
    (h.before a).until (ap (have_count (samples_of samples a)) many ∙ (h.before a).sized)

-- and then it is
pub noted_more : (n later : NotedKept) (changes after : Shadows) (table : Table) (edits : Edits) (samples : Samples)
    (a : ℕ) (values : List Value) → Notes n changes table edits samples → is_noted n a ≡ false
    → AreValues table edits a values → later.tick ≡ n.tick
    → lookup (nat_eq a) later.values ≡ Some values
    → ((b : ℕ) → b ≢ a → lookup (nat_eq b) later.values ≡ lookup (nat_eq b) n.values)
    → ((now : Samples) → Keeps changes now → Keeps after ((a, sample_of n.tick values) ∷ now))
    → Notes later after table edits samples
noted_more n later changes after table edits samples a values h out v tick own other keeps = record {
  now = (a, sample_of n.tick values) ∷ h.now;
  keeps = keeps h.now h.keeps;
  each = λ b. by b (a == b) refl;
  values = λ b vs e. values_by b vs (a == b) refl e;
  before = subst (λ (t : ℕ). AreBefore table edits t samples) (sym tick) h.before;
}
  where
    sample_is : sample_of n.tick values ≡ sample_now table edits n.tick a
    sample_is = ap (λ zs. record { tick = n.tick; values = zs }) v.are

    by : (b : ℕ) → (t : Bool) → (a == b) ≡ t
        → samples_of ((a, sample_of n.tick values) ∷ h.now) b
        ≡ with_sample (is_noted later b) (sample_now table edits later.tick b) (samples_of samples b)
    by b true e =
        let is : a ≡ b = eqb-true a b e in
        let there : is_noted later b ≡ true =
        ap (λ (c : ℕ). is_noted later c) (sym is) ∙ ap is_some own in
        let none : is_noted n b ≡ false = ap (λ (c : ℕ). is_noted n c) (sym is) ∙ out in
        rw (e, there, tick) (ap (λ (s : Sample). s ∷ samples_of h.now b)
        (sample_is ∙ ap (sample_now table edits n.tick) is)
        ∙ ap (λ (s : List Sample). sample_now table edits n.tick b ∷ s)
        (h.each b ∙ ap (λ (t : Bool). with_sample t (sample_now table edits n.tick b) (samples_of samples b)) none))
    by b false e =
        let same : is_noted later b ≡ is_noted n b =
        ap is_some (other b (λ q. false≢true (sym e ∙ eq-eqb a b (sym q)))) in
        rw (e, same, tick) (h.each b)

    values_by : (b : ℕ) (vs : List Value) → (t : Bool) → (a == b) ≡ t → lookup (nat_eq b) later.values ≡ Some vs
        → AreValues table edits b vs
    values_by b vs true e q =
        let is : a ≡ b = eqb-true a b e in
        let same : values ≡ vs =
        same_Some values vs (sym own ∙ ap (λ (c : ℕ). lookup (nat_eq c) later.values) is ∙ q) in
        subst (λ (c : ℕ). AreValues table edits c vs) is (subst (AreValues table edits a) same v)
    values_by b vs false e q =
        h.values b vs (sym (other b (λ m. false≢true (sym e ∙ eq-eqb a b (sym m)))) ∙ q)

-- who was sampled then
pub noted_now : (n later : NotedKept) (a : ℕ) (values : List Value)
    → lookup (nat_eq a) later.values ≡ Some values
    → ((b : ℕ) → b ≢ a → lookup (nat_eq b) later.values ≡ lookup (nat_eq b) n.values)
    → (b : ℕ) → is_noted later b ≡ (a == b || is_noted n b)
noted_now n later a values own other b = by (a == b) refl
  where
    by : (t : Bool) → (a == b) ≡ t → is_noted later b ≡ (t || is_noted n b)
    by true e = ap (λ (c : ℕ). is_noted later c) (sym (eqb-true a b e)) ∙ ap is_some own
    by false e = ap is_some (other b (λ q. false≢true (sym e ∙ eq-eqb a b (sym q))))

-- an actor that was sampled is one of those that were
pub noted_before : (n : NotedKept) (a : ℕ) → is_noted n a ≡ true → (b : ℕ) → is_noted n b ≡ (a == b || is_noted n b)
noted_before n a there b = by (a == b) refl
  where
    by : (t : Bool) → (a == b) ≡ t → is_noted n b ≡ (t || is_noted n b)
    by true e = ap (λ (c : ℕ). is_noted n c) (sym (eqb-true a b e)) ∙ there
    by false e = refl

-- ---- what the code has in hand

-- whether the actor was sampled, as the map answers
pub asked : (n v : NotedKept) (a key : ℕ) (r t : Bool) → v ≡ n → key ≡ a → r ≡ is_noted v key → r ≡ t
    → is_noted n a ≡ t
asked n v a key r t same k says so =
    ap (λ (m : NotedKept). is_noted m a) (sym same) ∙ ap (is_noted v) (sym k) ∙ sym says ∙ so

-- its values are few enough
pub few_values : (table : Table) (edits : Edits) (segments : List Segment) (c : ClassKept) (a : ℕ)
    (values given : List Value) → given ≡ values → map whole_of values ≡ values_of table edits a
    → class_of table edits a ≡ class_value segments c → length c.props + 3 ≤ handle_limit
    → length given < handle_limit
few_values table edits segments c a values given same are is few =
    below (length given) (length c.props) handle_limit
    (ap (λ (vs : List Value). length vs) same ∙ counted table edits a values are
    ∙ ap (λ (k : Class). handle_count k - 1) is ∙ cells_there segments c) few
  where
    below : (n m limit : ℕ) → n ≡ m + 2 → m + 3 ≤ limit → n < limit
    below n m limit e le = omega (arith, e, le)

-- the sample may follow
pub may_sample_so : (n v : NotedKept) (changes : Shadows) (table : Table) (edits : Edits) (samples : Samples) (a : ℕ)
    (values given : List Value) → v ≡ n → given ≡ values → (h : Notes n changes table edits samples)
    → is_noted n a ≡ false → AreValues table edits a values
    → may_follow (samples_of h.now a) v.tick (length given) ≡ true
may_sample_so n v changes table edits samples a values given same is h out vals =
    ap (λ (vs : List Value). may_follow (samples_of h.now a) v.tick (length vs)) is
    ∙ ap (λ (m : NotedKept). may_follow (samples_of h.now a) m.tick (length values)) same
    ∙ may_sample n changes table edits samples a values h out vals

-- the values at the key, and at any other
pub own_value : (later : NotedKept) (a key : ℕ) (values w : List Value) → key ≡ a → w ≡ values
    → lookup (nat_eq key) later.values ≡ Some w → lookup (nat_eq a) later.values ≡ Some values
own_value later a key values w k is own =
    ap (λ (q : ℕ). lookup (nat_eq q) later.values) (sym k) ∙ own ∙ ap (λ (vs : List Value). Some vs) is

pub other_value : (n v later : NotedKept) (a key : ℕ) → v ≡ n → key ≡ a
    → ((q : ℕ) → nat_eq key q ≡ false → lookup (nat_eq q) later.values ≡ lookup (nat_eq q) v.values)
    → (b : ℕ) → b ≢ a → lookup (nat_eq b) later.values ≡ lookup (nat_eq b) n.values
other_value n v later a key same k others b ne =
    others b (ne_eqb key b (λ e. ne (sym e ∙ k))) ∙ ap (λ (m : NotedKept). lookup (nat_eq b) m.values) same

pub noted_so : (n v later : NotedKept) (changes after : Shadows) (table : Table) (edits : Edits) (samples : Samples)
    (a key : ℕ) (values w given : List Value) → v ≡ n → key ≡ a → w ≡ values → given ≡ values
    → Notes n changes table edits samples → is_noted n a ≡ false → AreValues table edits a values
    → later.tick ≡ v.tick → lookup (nat_eq key) later.values ≡ Some w
    → ((q : ℕ) → nat_eq key q ≡ false → lookup (nat_eq q) later.values ≡ lookup (nat_eq q) v.values)
    → ((now : Samples) → Keeps changes now → Keeps after ((a, sample_of v.tick given) ∷ now))
    → Notes later after table edits samples
noted_so n v later changes after table edits samples a key values w given same k is g h out vals tick own others keeps =
    noted_more n later changes after table edits samples a values h out vals
    (tick ∙ ap (λ (m : NotedKept). m.tick) same)
    (own_value later a key values w k is own) (other_value n v later a key same k others)
    (λ now ks. subst (λ (s : Sample). Keeps after ((a, s) ∷ now))
    (ap (sample_of v.tick) g ∙ ap (λ (m : NotedKept). sample_of m.tick values) same) (keeps now ks))

pub noted_now_so : (n v later : NotedKept) (a key : ℕ) (values w : List Value) → v ≡ n → key ≡ a → w ≡ values
    → lookup (nat_eq key) later.values ≡ Some w
    → ((q : ℕ) → nat_eq key q ≡ false → lookup (nat_eq q) later.values ≡ lookup (nat_eq q) v.values)
    → (b : ℕ) → is_noted later b ≡ (a == b || is_noted n b)
noted_now_so n v later a key values w same k is own others =
    noted_now n later a values (own_value later a key values w k is own) (other_value n v later a key same k others)

-- a sample's steps
pub sample_within : (steps later count : ℕ) (b : Bool) → b ≡ false → later ≤ steps + count + 2
    → later ≤ steps + cond b 0 (count + 2)
sample_within steps later count b out le =
    subst (λ (t : Bool). later ≤ steps + cond t 0 (count + 2)) (sym out) (omega (arith, le))
