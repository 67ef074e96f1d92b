-- What a client's copies have, by the newest payloads.
use Rattle.std.proofs.Common.{◌≡◌, ◌⊎◌, inl, inr, ℕ, List, [], ◌∷◌, ◌++◌, Bool, false, cond, not, ◌==◌, ◌&&◌, refl, ap, ◌∙◌, Option, Some, None, ℤ}
use Rattle.std.specs.Prelude.{unwrap_or, option_map, pos}
use Rattle.std.specs.List.{AllByRecursion}
use Rattle.std.specs.Bool.{then_some}
use Rattle.std.proofs.lemmas.Bool.{eq-eqb}
use Rattle.protocol_model.specs.Value.{Segment, Class, Pair, initial_value}
use Rattle.protocol_model.specs.Payload.{Message, Opens, Closes, Gone}
use Rattle.protocol_model.specs.Search.{newest_of, items_since}
use Rattle.connection_model.specs.Feed.{Past, Delivered}
use Rattle.connection_model.specs.Copies.{delivered_of, removes, class_opened, copy_class, value_applied, copy_value}
use Rattle.connection_laws.proofs.Searches.{newest_hit, newest_miss}
use Rattle.connection_laws.proofs.PacketsSay.{IsIn}
use Rattle.recovery_laws.specs.Initial.{IsQuietOf}
use Rattle.recovery_laws.proofs.LooseValues.{IsOneOf}

-- nothing is removed in these
since_append : {A : Type 0} (test : A → Bool) (xs ys : List A) → AllByRecursion (λ (x : A). test x ≡ false) xs → items_since test (xs ++ ys) ≡ xs ++ items_since test ys
since_append test [] ys h = refl
since_append {A} test (x ∷ xs) ys h = ap (λ (t : Bool). cond t [] (x ∷ items_since test (xs ++ ys))) h.0 ∙ ap (λ (l : List A). x ∷ l) (since_append test xs ys h.1)

-- the newest of those that say anything says this
newest_one : {A B : Type 0} (f : A → Option B) (v : B) (xs ys : List A) → AllByRecursion (λ (x : A). (f x ≡ None) ⊎ (f x ≡ Some v)) xs → (x : A) → IsIn x xs → f x ≡ Some v → newest_of f (xs ++ ys) ≡ Some v
newest_one f v [] ys all x h e = absurd h
newest_one f v (z ∷ xs) ys all x (inl q) e = newest_hit f z (xs ++ ys) v (ap f q ∙ e)
newest_one f v (z ∷ xs) ys all x (inr q) e = elim all.0 [
  | inl n ↦ newest_miss f z (xs ++ ys) n ∙ newest_one f v xs ys all.1 x q e
  | inr s ↦ newest_hit f z (xs ++ ys) v s
]

-- nothing is found where nothing is said
pub newest_miss_all : {A B : Type 0} (f : A → Option B) (xs ys : List A) → AllByRecursion (λ (x : A). f x ≡ None) xs → newest_of f (xs ++ ys) ≡ newest_of f ys
newest_miss_all f [] ys h = refl
newest_miss_all f (x ∷ xs) ys h = newest_miss f x (xs ++ ys) h.0 ∙ newest_miss_all f xs ys h.1

-- a value
pub value_is : (past : Past) (a h : ℕ) (v : ℤ) (newer older : List Delivered) → delivered_of past ≡ newer ++ older → AllByRecursion (λ (d : Delivered). removes a d ≡ false) newer
    → AllByRecursion (λ (d : Delivered). IsOneOf v (value_applied a h d)) newer → (d : Delivered) → IsIn d newer → value_applied a h d ≡ Some v → copy_value past a h ≡ v
value_is past a h v newer older e quiet all d among says =
    let class_value : ℤ = unwrap_or (option_map (λ (class : Class). initial_value class h) (copy_class past a)) (pos 0) in
    ap (λ (ds : List Delivered). unwrap_or (newest_of (value_applied a h) (items_since (removes a) ds)) class_value) e
    ∙ ap (λ (ds : List Delivered). unwrap_or (newest_of (value_applied a h) ds) class_value) (since_append (removes a) newer older quiet)
    ∙ ap (λ (o : Option ℤ). unwrap_or o class_value) (newest_one (value_applied a h) v newer (items_since (removes a) older) all d among says)

-- a quiet payload removes no copy
pub quiet_stays : (a : ℕ) (ds : List Delivered) → AllByRecursion (IsQuietOf a) ds → AllByRecursion (λ (d : Delivered). removes a d ≡ false) ds
quiet_stays a [] h = tt
quiet_stays a (d ∷ ds) h = (h.0.0, quiet_stays a ds h.1)

-- quiet payloads open nothing
quiet_opens : (a : ℕ) (ds : List Delivered) → AllByRecursion (IsQuietOf a) ds → AllByRecursion (λ (d : Delivered). class_opened a d ≡ None) ds
quiet_opens a [] h = tt
quiet_opens a (d ∷ ds) h = (h.0.1, quiet_opens a ds h.1)

-- the message removes the actor's copy
abbrev pub removes_said : ℕ → Message → Bool
removes_said a m = elim m [ Closes actor sleeps ↦ actor == a && not sleeps | Gone actor ↦ actor == a | _ ↦ false ]

-- the class that a message opens the actor with
abbrev pub opens_said : ℕ → Message → Option Class
opens_said a m = elim m [ Opens exports actor class values ↦ then_some (actor == a) class | _ ↦ None ]

-- a class
pub class_is : (past : Past) (a : ℕ) (newer : List Delivered) (d : Delivered) (older : List Delivered) → delivered_of past ≡ newer ++ d ∷ older → AllByRecursion (IsQuietOf a) newer
    → (exports : List Segment) (class : Class) (values : List Pair) → d.message ≡ Opens exports a class values → copy_class past a ≡ Some class
class_is past a newer d older e quiet exports class values says =
    let kept : removes a d ≡ false = ap (removes_said a) says in
    ap (λ (ds : List Delivered). newest_of (class_opened a) (items_since (removes a) ds)) e
    ∙ ap (newest_of (class_opened a)) (since_append (removes a) newer (d ∷ older) (quiet_stays a newer quiet))
    ∙ newest_miss_all (class_opened a) newer (items_since (removes a) (d ∷ older)) (quiet_opens a newer quiet)
    ∙ ap (λ (t : Bool). newest_of (class_opened a) (cond t [] (d ∷ items_since (removes a) older))) kept
    ∙ newest_hit (class_opened a) d (items_since (removes a) older) class
    (ap (opens_said a) says ∙ ap (λ (t : Bool). then_some t class) (eq-eqb a a refl))
