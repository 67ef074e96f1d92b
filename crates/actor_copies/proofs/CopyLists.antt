-- All copies, ascending by actor, are those that each actor has.
use Rattle.std.proofs.Common.{◌≡◌, ℕ, suc, ◌+◌, ◌≤◌, ◌==◌, ◌||◌, List, [], ◌∷◌, map, length, Bool, true, false, cond, Option, Some, None, is_some, option_map, filter, filter_map, refl, sym, ap, ◌∙◌, arith}
use Rattle.std.specs.Prelude.{find}
use Rattle.std.specs.List.{cons_option}
use Rattle.std.proofs.lemmas.Bool.{eqb-true}
use Rattle.protocol_model.specs.Search.{is_among, ascending_numbers}
use Rattle.protocol_model.specs.Value.{Class}
use Rattle.connection_model.specs.Feed.{Past}
use Rattle.connection_model.specs.Copies.{delivered_of, has_copy, copy_class, copy_channel, copy_on, is_on, actor_opened, copied_actors}
use Rattle.class_layout.specs.Tables.{Layout}
use Rattle.connection_laws.proofs.Searches.{among_here}
use Rattle.channel_laws.proofs.Orders.{Ascend, ascending}
use Rattle.payload_laws.proofs.CopyOn.{copied}
use Rattle.actor_copies.specs.declared.copy.ActorCopy.{ActorCopy}
use Rattle.actor_copies.specs.Copies.{Copy, copies_of, copy_of, copy_value_of, values_of}
use Rattle.actor_copies.specs.Keyed.{Ascends, at_key}
use Rattle.actor_copies.specs.Kept.{copy_actor, kept_on}
use Rattle.actor_copies.specs.Stands.{actor_key, Mirrors, Shows}
use Rattle.actor_copies.proofs.Keyed.{same_lists}

-- ---- numbers in order

abbrev pub itself : ℕ → ℕ
itself n = n

lower : (least x : ℕ) (ys : List ℕ) → Ascends itself (x + 1) ys → least ≤ x → Ascends itself least ys
lower least x [] up l = tt
lower least x (y ∷ ys) up l = let low = up.0 in (omega (arith, low, l), up.1)

from_least : (least : ℕ) (ns : List ℕ) → Ascend ns → ((k : ℕ) → is_among k ns ≡ true → least ≤ k)
    → Ascends itself least ns
from_least least [] up low = tt
from_least least (n ∷ ns) up low = (
  low n (among_here n ns n refl),
  from_least (n + 1) ns up.1 (λ k e. let l = up.0 k e in omega (arith, l)),
)

numbers_ascend : (ns : List ℕ) → Ascends itself 0 (ascending_numbers ns)
numbers_ascend ns = from_least 0 (ascending_numbers ns) (ascending ns) (λ k e. omega arith)

filter_ascends : (p : ℕ → Bool) (least : ℕ) (ns : List ℕ) → Ascends itself least ns
    → Ascends itself least (filter p ns)
filter_ascends p least [] up = tt
filter_ascends p least (n ∷ ns) up = by (p n) (filter_ascends p (n + 1) ns up.1)
  where
    by : (b : Bool) → Ascends itself (n + 1) (filter p ns)
        → Ascends itself least (cond b (n ∷ filter p ns) (filter p ns))
    by true rest = (up.0, rest)
    by false rest = let low = up.0 in lower least n (filter p ns) rest (omega (arith, low))

-- ---- the items that some numbers have

-- each item has its number
abbrev pub Names : {A : Type 0} → (A → ℕ) → (ℕ → Option A) → Type 0
Names {A} key f = (n : ℕ) (x : A) → f n ≡ Some x → key x ≡ n

pub items_ascend : {A : Type 0} (key : A → ℕ) (f : ℕ → Option A) → Names key f → (least : ℕ) (ns : List ℕ)
    → Ascends itself least ns → Ascends key least (filter_map f ns)
items_ascend key f names least [] up = tt
items_ascend {A = A} key f names least (n ∷ ns) up = by (f n) refl (items_ascend key f names (n + 1) ns up.1)
  where
    down : (l m : ℕ) (xs : List A) → Ascends key m xs → l ≤ m → Ascends key l xs
    down l m [] up e = tt
    down l m (x ∷ xs) up e = let low = up.0 in (omega (arith, low, e), up.1)

    by : (o : Option A) → f n ≡ o → Ascends key (n + 1) (filter_map f ns)
        → Ascends key least (cons_option o (filter_map f ns))
    by None e rest = let low = up.0 in down least (n + 1) (filter_map f ns) rest (omega (arith, low))
    by (Some x) e rest = let is = names n x e in let low = up.0 in (omega (arith, is, low), rw is rest)

pub items_at : {A : Type 0} (key : A → ℕ) (f : ℕ → Option A) → Names key f → (ns : List ℕ) (a : ℕ)
    → at_key key (filter_map f ns) a ≡ cond (is_among a ns) (f a) None
items_at key f names [] a = refl
items_at {A = A} key f names (n ∷ ns) a = by (f n) refl (n == a) refl (items_at key f names ns a)
  where
    none : (t : Bool) → f a ≡ None → cond t (f a) None ≡ f a
    none true e = refl
    none false e = sym e

    by : (o : Option A) → f n ≡ o → (t : Bool) → (n == a) ≡ t
        → at_key key (filter_map f ns) a ≡ cond (is_among a ns) (f a) None
        → at_key key (cons_option o (filter_map f ns)) a ≡ cond (t || is_among a ns) (f a) None
    by None e true o rest = rest ∙ none (is_among a ns) (ap f (sym (eqb-true n a o)) ∙ e)
    by None e false o rest = rest
    by (Some x) e true o rest = rw (names n x e, o) (sym e ∙ ap f (eqb-true n a o))
    by (Some x) e false o rest = rw (names n x e, o) rest

pub items_count : {A : Type 0} (f : ℕ → Option A) (p : ℕ → Bool) → ((n : ℕ) → p n ≡ true → is_some (f n) ≡ true)
    → (ns : List ℕ) → length (filter_map f (filter p ns)) ≡ length (filter p ns)
items_count f p all [] = refl
items_count {A = A} f p all (n ∷ ns) = by (p n) refl (items_count f p all ns)
  where
    some : (o : Option A) → is_some o ≡ true → length (filter_map f (filter p ns)) ≡ length (filter p ns)
        → length (cons_option o (filter_map f (filter p ns))) ≡ length (n ∷ filter p ns)
    some None h rest = absurd (cc)
    some (Some x) h rest = ap (λ (k : ℕ). suc k) rest

    by : (b : Bool) → p n ≡ b → length (filter_map f (filter p ns)) ≡ length (filter p ns)
        → length (filter_map f (cond b (n ∷ filter p ns) (filter p ns))) ≡ length
        (cond b (n ∷ filter p ns) (filter p ns))
    by true e rest = some (f n) (all n e) rest
    by false e rest = rest

-- what is found among the items is found among their numbers
items_find : {A : Type 0} (key : A → ℕ) (f : ℕ → Option A) (test : A → Bool) (has p : ℕ → Bool)
    → ((n : ℕ) → has n ≡ true → (x : A) × (f n ≡ Some x) × (test x ≡ p n) × (key x ≡ n)) → (ns : List ℕ)
    → option_map key (find test (filter_map f (filter has ns))) ≡ find p (filter has ns)
items_find key f test has p each [] = refl
items_find {A = A} key f test has p each (n ∷ ns) =
    by (has n) refl (items_find key f test has p each ns)
  where
    same : (x : A) → test x ≡ p n → key x ≡ n → (b : Bool) → p n ≡ b
        → option_map key (find test (filter_map f (filter has ns))) ≡ find p (filter has ns)
        → option_map key (find test (x ∷ filter_map f (filter has ns))) ≡ cond b (Some n) (find p (filter has ns))
    same x t k true b rest = rw (t ∙ b) (ap (λ (n : ℕ). Some n) k)
    same x t k false b rest = rw (t ∙ b) rest

    some : ((x : A) × (f n ≡ Some x) × (test x ≡ p n) × (key x ≡ n))
        → option_map key (find test (filter_map f (filter has ns))) ≡ find p (filter has ns)
        → option_map key (find test (filter_map f (n ∷ filter has ns))) ≡ find p (n ∷ filter has ns)
    some x rest =
        ap (λ (o : Option A). option_map key (find test (cons_option o (filter_map f (filter has ns))))) x.1
        ∙ same x.0 x.2 x.3 (p n) refl rest

    by : (b : Bool) → has n ≡ b
        → option_map key (find test (filter_map f (filter has ns))) ≡ find p (filter has ns)
        → option_map key (find test (filter_map f (cond b (n ∷ filter has ns) (filter has ns))))
        ≡ find p (cond b (n ∷ filter has ns) (filter has ns))
    by true e rest = some (each n e) rest
    by false e rest = rest

-- ---- copies

copy_named : (past : Past) → Names actor_key (copy_of past)
copy_named past a c e = by (copy_class past a) e
  where
    of : (class : Class) → Copy
    of class = record { actor = a; class = class; channel = copy_channel past a; values = values_of past a class }

    same : (x y : Copy) → Some x ≡ Some y → x ≡ y
    same x y e = cc

    by : (o : Option Class) → option_map (λ (class : Class). record {
      actor = a;
      class = class;
      channel =
          copy_channel past a;
      values = values_of past a class;
    }) o ≡ Some c → c.actor ≡ a
    by None e = absurd (cc)
    by (Some class) e = ap actor_key (sym (same _ c e))

copies_ascend : (past : Past) → Ascends actor_key 0 (copies_of past)
copies_ascend past = items_ascend actor_key (copy_of past) (copy_named past) 0 (copied_actors past)
    (filter_ascends (has_copy past) 0 _ (numbers_ascend (filter_map actor_opened (delivered_of past))))

copies_at : (past : Past) (a : ℕ) → at_key actor_key (copies_of past) a ≡ copy_of past a
copies_at past a = items_at actor_key (copy_of past) (copy_named past) (copied_actors past) a
    ∙ by (is_among a (copied_actors past)) refl
  where
    no_class : (o : Option Class) → is_some o ≡ false
        → ◌≡◌ {A = Option Copy} None (option_map
        (λ (class : Class). record {
          actor = a;
          class = class;
          channel = copy_channel past a;
          values =
              values_of past a class;
        }) o)
    no_class None e = refl
    no_class (Some class) e = absurd (cc)

    without : (b : Bool) → has_copy past a ≡ b → is_among a (copied_actors past) ≡ false → b ≡ false
    without true h e = sym (copied past a h) ∙ e
    without false h e = refl

    by : (t : Bool) → is_among a (copied_actors past) ≡ t → cond t (copy_of past a) None ≡ copy_of past a
    by true e = refl
    by false e = no_class (copy_class past a) (without (has_copy past a) refl e)

-- what is kept of each actor is all copies in order
pub mirrors_all : (copies : List Copy) (past : Past) → Mirrors copies past → copies ≡ copies_of past
mirrors_all copies past m = same_lists actor_key 0 copies (copies_of past) m.ascends (copies_ascend past)
    (λ a. m.each a ∙ sym (copies_at past a))

copies_count : (past : Past) → length (copies_of past) ≡ length (copied_actors past)
copies_count past = items_count (copy_of past) (has_copy past) (λ a h. some _ (copy_class past a) h)
    (ascending_numbers (filter_map actor_opened (delivered_of past)))
  where
    some : {B : Type 0} (f : Class → B) (o : Option Class) → is_some o ≡ true → is_some (option_map f o) ≡ true
    some f None h = h
    some f (Some class) h = refl

length_mapped : {A B : Type 0} (f : A → B) (xs : List A) → length (map f xs) ≡ length xs
length_mapped f [] = refl
length_mapped f (x ∷ xs) = ap (λ (n : ℕ). suc n) (length_mapped f xs)

pub count_known : (layout : Layout) (copies : List ActorCopy) (past : Past) → Shows layout copies past
    → length copies ≡ length (copied_actors past)
count_known layout copies past shows =
    sym (length_mapped (copy_value_of layout) copies)
    ∙ ap length (mirrors_all (map (copy_value_of layout) copies) past shows) ∙ copies_count past

-- ---- the copy that holds a channel

held : (past : Past) (ch : ℕ)
    → option_map actor_key (find (λ (c : Copy). is_on ch c.channel) (copies_of past)) ≡ copy_on past ch
held past ch =
    items_find actor_key (copy_of past) (λ c. is_on ch c.channel) (has_copy past)
    (λ a. is_on ch (copy_channel past a)) (λ a h. each a (copy_class past a) refl h)
    (ascending_numbers (filter_map actor_opened (delivered_of past)))
  where
    of : (a : ℕ) → Class → Copy
    of a class = record { actor = a; class = class; channel = copy_channel past a; values = values_of past a class }

    each : (a : ℕ) (o : Option Class) → copy_class past a ≡ o → is_some o ≡ true
        → (c : Copy) × (copy_of past a ≡ Some c) × (is_on ch c.channel ≡ is_on ch (copy_channel past a))
        × (c.actor ≡ a)
    each a None e h = absurd (cc)
    each a (Some class) e h = (of a class, ap (option_map (of a)) e, refl, refl)

found_mapped : {A B : Type 0} (f : A → B) (key : A → ℕ) (name : B → ℕ) (test : A → Bool) (other : B → Bool)
    → ((x : A) → name (f x) ≡ key x) → ((x : A) → other (f x) ≡ test x) → (xs : List A)
    → option_map key (find test xs) ≡ option_map name (find other (map f xs))
found_mapped f key name test other same tests [] = refl
found_mapped f key name test other same tests (x ∷ xs) =
    by (test x) (tests x) (found_mapped f key name test other same tests xs)
  where
    by : (b : Bool) → other (f x) ≡ b → option_map key (find test xs) ≡ option_map name (find other (map f xs))
        → option_map key (cond b (Some x) (find test xs)) ≡ option_map name (find other (map f (x ∷ xs)))
    by true e rest = rw e (ap (λ (n : ℕ). Some n) (sym (same x)))
    by false e rest = rw e rest

-- is that of the past
pub holder_known : (layout : Layout) (copies : List ActorCopy) (past : Past) (ch : ℕ) → Shows layout copies past
    → option_map copy_actor (kept_on copies ch) ≡ copy_on past ch
holder_known layout copies past ch shows =
    found_mapped (copy_value_of layout) copy_actor actor_key (λ c. is_on ch c.channel) (λ c. is_on ch c.channel)
    (λ c. refl) (λ c. refl) copies
    ∙ ap (λ (cs : List Copy). option_map actor_key (find (λ (c : Copy). is_on ch c.channel) cs))
    (mirrors_all (map (copy_value_of layout) copies) past shows)
    ∙ held past ch
