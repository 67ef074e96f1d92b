-- The actors that are relevant to a player, one after the other.
use Rattle.std.proofs.Common.{◌≡◌, ℕ, zero, suc, ◌+◌, ◌*◌, ◌≤◌, Some, List, [], ◌∷◌, ◌++◌, map, filter, length, Bool, true, false, cond, ◌==◌, ◌&&◌, ◌||◌, not, refl, sym, ap, ◌∙◌, subst, arith}
use Rattle.std.specs.Prelude.{slice_get}
use Rattle.std.specs.List.{AllByRecursion}
use Rattle.std.proofs.lemmas.List.{map-append}
use Rattle.std.proofs.lemmas.Option.{same_Some, none-some}
use Rattle.std.proofs.lemmas.Bool.{false≢true, cond_both, and_parts, eqb-true}
use Rattle.protocol_model.specs.Search.{is_among}
use Rattle.protocol_model.specs.Sight.{Seen, is_relevant, seen_of}
use Rattle.protocol_model.specs.Value.{Table}
use Rattle.protocol_model.specs.World.{Edits, actors_of}
use Rattle.graph_model.specs.Listed.{is_listed, listed_count}
use Rattle.connection_model.specs.Feed.{Past}
use Rattle.connection_model.specs.Items.{is_quiet}
use Rattle.class_layout.specs.Tables.{Layout}
use Rattle.sender_steps.specs.declared.sight.Seen.{Seen as SeenValue}
use Rattle.sender_steps.specs.Sights.{seen_value, sight_value}
use Rattle.driver_laws.specs.Counted.{cells}
use Rattle.driver_laws.proofs.Actors.{relevant_few, spawned_among}
use Rattle.driver_laws.proofs.Worlds.{relevant_spawned}
use Rattle.driver_sights.specs.Looking.{is_awake, AreSteps, AreAmong, AreRelevant}
use Rattle.driver_sights.proofs.Steps.{among_less}

among_last : (xs : List ℕ) (x b : ℕ) → is_among b (xs ++ x ∷ []) ≡ (is_among b xs || x == b)
among_last [] x b = or_false (x == b)
  where
    or_false : (t : Bool) → (t || false) ≡ t
    or_false true = refl
    or_false false = refl
among_last (y ∷ xs) x b =
    ap (λ (t : Bool). y == b || t) (among_last xs x b) ∙ assoc (y == b) (is_among b xs) (x == b)
  where
    assoc : (b c d : Bool) → (b || (c || d)) ≡ ((b || c) || d)
    assoc true c d = refl
    assoc false c d = refl

-- who was sampled, with one more of them looked at
pub walked : (p first now after : ℕ → Bool) (seen later : List ℕ) (x : ℕ) → later ≡ seen ++ x ∷ []
    → ((b : ℕ) → now b ≡ (is_among b seen && p b || first b))
    → ((b : ℕ) → after b ≡ (x == b && p b || now b))
    → (b : ℕ) → after b ≡ (is_among b later && p b || first b)
walked p first now after seen later x is h step b =
    step b ∙ ap (λ (t : Bool). x == b && p b || t) (h b)
    ∙ mix (x == b) (is_among b seen) (p b) (first b)
    ∙ ap (λ (t : Bool). t && p b || first b) (sym (ap (is_among b) is ∙ among_last seen x b))
  where
    mix : (t m q f : Bool) → (t && q || (m && q || f)) ≡ ((m || t) && q || f)
    mix true true true f = refl
    mix true true false f = refl
    mix true false true f = refl
    mix true false false f = refl
    mix false true true f = refl
    mix false true false f = refl
    mix false false true f = refl
    mix false false false f = refl

-- all of them are among these, if those before and those that are awake are
pub among_now : (p first now most : ℕ → Bool) (seen : List ℕ)
    → ((b : ℕ) → now b ≡ (is_among b seen && p b || first b)) → AreAmong first most → AreAmong p most
    → AreAmong now most
among_now p first now most seen h f q b e = by (is_among b seen) (p b) refl (sym (h b) ∙ e)
  where
    by : (m t : Bool) → p b ≡ t → (m && t || first b) ≡ true → most b ≡ true
    by true true is e = q b is
    by true false is e = f b e
    by false t is e = f b e

-- those before are among them
pub among_first : (p first now : ℕ → Bool) (seen : List ℕ)
    → ((b : ℕ) → now b ≡ (is_among b seen && p b || first b)) → AreAmong first now
among_first p first now seen h b e =
    h b ∙ ap (λ (t : Bool). is_among b seen && p b || t) e ∙ or_true (is_among b seen && p b)
  where
    or_true : (t : Bool) → (t || true) ≡ true
    or_true true = refl
    or_true false = refl

-- none of none
pub walked_none : (p first : ℕ → Bool) (b : ℕ) → first b ≡ (is_among b [] && p b || first b)
walked_none p first b = refl

-- ---- steps

-- one more step count
pub more_steps : (table : Table) (edits : Edits) (steps now later count k : ℕ) (first before most : ℕ → Bool)
    → AreSteps table edits steps count first before now → AreSteps table edits now 1 before most later → count + 1 ≤ k
    → AreSteps table edits steps k first most later
more_steps table edits steps now later count k first before most h one le =
    sum steps now later count k (cells table edits first) (cells table edits before) (cells table edits most) h one le
  where
    sum : (s n l m k c d e : ℕ) → n + c ≤ s + m + d → l + d ≤ n + 1 + e → m + 1 ≤ k → l + c ≤ s + k + e
    sum s n l m k c d e h one le = omega (arith, h, one, le)

-- with more actors and a greater count
pub wider_steps : (table : Table) (edits : Edits) (steps now count k : ℕ) (first before most : ℕ → Bool)
    → AreSteps table edits steps count first before now → AreAmong before most → count ≤ k
    → AreSteps table edits steps k first most now
wider_steps table edits steps now count k first before most h among le =
    sum steps now count k (cells table edits first) (cells table edits before) (cells table edits most) h
    (among_less table edits before most among) le
  where
    sum : (s n m k c d e : ℕ) → n + c ≤ s + m + d → d ≤ e → m ≤ k → n + c ≤ s + k + e
    sum s n m k c d e h le less = omega (arith, h, le, less)

pub no_steps : (table : Table) (edits : Edits) (steps : ℕ) (first : ℕ → Bool)
    → AreSteps table edits steps 0 first first steps
no_steps table edits steps first = same steps (cells table edits first)
  where
    same : (s c : ℕ) → s + c ≤ s + 0 + c
    same s c = omega arith

-- ---- who is relevant

all_filter : (p : ℕ → Bool) (xs : List ℕ) → AllByRecursion (λ a. p a ≡ true) (filter p xs)
all_filter p [] = tt
all_filter p (x ∷ xs) =
    cond_both (p x) (x ∷ filter p xs) (filter p xs) (AllByRecursion (λ a. p a ≡ true))
    (λ e. (e, all_filter p xs)) (λ e. all_filter p xs)

pub are_relevant : (table : Table) (edits : Edits) (player : ℕ) (actors : List ℕ)
    → actors ≡ filter (is_relevant table edits player) (actors_of edits) → AreRelevant table edits player actors
are_relevant table edits player actors is =
    subst (AreRelevant table edits player) (sym is) (all_filter (is_relevant table edits player) (actors_of edits))

among_filter : (p : ℕ → Bool) (b : ℕ) (xs : List ℕ) → p b ≡ true → is_among b xs ≡ true
    → is_among b (filter p xs) ≡ true
among_filter p b [] e h = h
among_filter p b (x ∷ xs) e h = by (x == b) refl (p x) refl h (among_filter p b xs e)
  where
    by : (t : Bool) → (x == b) ≡ t → (q : Bool) → p x ≡ q → (t || is_among b xs) ≡ true
        → (is_among b xs ≡ true → is_among b (filter p xs) ≡ true)
        → is_among b (cond q (x ∷ filter p xs) (filter p xs)) ≡ true
    by true i true j h ih = ap (λ (t : Bool). t || is_among b (filter p xs)) i
    by true i false j h ih = absurd (false≢true (sym j ∙ ap p (eqb-true x b i) ∙ e))
    by false i true j h ih = ap (λ (t : Bool). t || is_among b (filter p xs)) i ∙ ih h
    by false i false j h ih = ih h

-- who is awake is among those that are relevant
pub noted_all : (table : Table) (edits : Edits) (player : ℕ) (past : Past) (actors : List ℕ) (first after : ℕ → Bool)
    → actors ≡ filter (is_relevant table edits player) (actors_of edits)
    → ((b : ℕ) → after b ≡ (is_among b actors && is_awake table edits player past b || first b))
    → (b : ℕ) → after b ≡ (is_awake table edits player past b || first b)
noted_all table edits player past actors first after is h b =
    h b ∙ by (is_awake table edits player past b) refl
  where
    there : is_awake table edits player past b ≡ true → is_among b actors ≡ true
    there e =
        let r : is_relevant table edits player b ≡ true =
        (and_parts (is_relevant table edits player b) (not (is_quiet past (seen_of table edits player b))) e).0 in
        ap (is_among b) is ∙ among_filter (is_relevant table edits player) b (actors_of edits) r
        (spawned_among edits b (relevant_spawned table edits player b r))

    none : (t f : Bool) → (t && false || f) ≡ (false || f)
    none true f = refl
    none false f = refl

    by : (t : Bool) → is_awake table edits player past b ≡ t → (is_among b actors && t || first b) ≡ (t || first b)
    by true e = ap (λ (t : Bool). t && true || first b) (there e)
    by false e = none (is_among b actors) (first b)

-- ---- the steps of a whole look

pub gathered_steps : (table : Table) (edits : Edits) (player : ℕ) (steps later : ℕ) (first most : ℕ → Bool)
    → later ≤ steps + listed_count table edits player → AreAmong first most
    → AreSteps table edits steps (2 * listed_count table edits player) first most later
gathered_steps table edits player steps later first most le among =
    sum steps later (listed_count table edits player) (cells table edits first) (cells table edits most) le
    (among_less table edits first most among)
  where
    sum : (s l n c d : ℕ) → l ≤ s + n → c ≤ d → l + c ≤ s + 2 * n + d
    sum s l n c d le less = omega (arith, le, less)

pub all_steps : (table : Table) (edits : Edits) (player : ℕ) (actors : List ℕ) (steps gathered later : ℕ)
    (first most : ℕ → Bool)
    → ((a : ℕ) → is_relevant table edits player a ≡ true → is_listed table edits player a ≡ true)
    → actors ≡ filter (is_relevant table edits player) (actors_of edits)
    → gathered ≤ steps + listed_count table edits player
    → AreSteps table edits gathered (length actors) first most later
    → AreSteps table edits steps (2 * listed_count table edits player) first most later
all_steps table edits player actors steps gathered later first most listed is le h =
    sum steps gathered later (length actors) (listed_count table edits player) (cells table edits first)
    (cells table edits most) le
    (subst (λ (ns : List ℕ). length ns ≤ listed_count table edits player) (sym is)
    (relevant_few table edits player listed)) h
  where
    sum : (s g l m n c d : ℕ) → g ≤ s + n → m ≤ n → l + c ≤ g + m + d → l + c ≤ s + 2 * n + d
    sum s g l m n c d le few h = omega (arith, le, few, h)

-- ---- entries, one after the other

pub item_at : {A : Type 0} (P : A → Type 0) (xs : List A) (i : ℕ) (x : A) → AllByRecursion P xs
    → slice_get xs i ≡ Some x → P x
item_at P [] i x h e = absurd (none-some x e)
item_at P (y ∷ xs) zero x h e = subst P (same_Some y x e) h.0
item_at P (y ∷ xs) (suc i) x h e = item_at P xs i x h.1 e

pub one_seen : (layout : Layout) (f : ℕ → Seen) (sight later : List SeenValue) (e : SeenValue) (seen next : List ℕ)
    (a : ℕ) → later ≡ sight ++ e ∷ [] → next ≡ seen ++ a ∷ [] → seen_value layout e ≡ f a
    → sight_value layout sight ≡ map f seen → sight_value layout later ≡ map f next
one_seen layout f sight later e seen next a is more entry h =
    ap (sight_value layout) is ∙ map-append (seen_value layout) sight (e ∷ [])
    ∙ ap (λ (xs : List Seen). xs ++ seen_value layout e ∷ []) h ∙ ap (λ (x : Seen). map f seen ++ x ∷ []) entry
    ∙ sym (ap (map f) more ∙ map-append f seen (a ∷ []))

pub all_pushed : {A : Type 0} (P : A → Type 0) (xs later : List A) (x : A) → later ≡ xs ++ x ∷ []
    → AllByRecursion P xs → P x → AllByRecursion P later
all_pushed {A} P xs later x is h p = subst (AllByRecursion P) (sym is) (go xs h)
  where
    go : (xs : List A) → AllByRecursion P xs → AllByRecursion P (xs ++ x ∷ [])
    go [] h = (p, tt)
    go (y ∷ xs) h = (h.0, go xs h.1)
