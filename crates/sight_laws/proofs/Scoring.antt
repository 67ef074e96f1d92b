-- The actors of a tick stand in the same order, whatever values the sight given leaves out.
use Rattle.std.proofs.Common.{◌≡◌, ℕ, zero, suc, ◌<◌, ◌≤◌, List, [], ◌∷◌, map, filter, Bool, true, false, cond, refl, sym, ap, ◌∙◌, subst, arith, Some, None, slice_get}
use Rattle.std.specs.List.{AllByRecursion}
use Rattle.std.proofs.lemmas.Bool.{false≢true, ne_eqb, eq-eqb}
use Rattle.protocol_model.specs.Search.{insert_in_order, in_order}
use Rattle.protocol_model.specs.Sight.{Seen}
use Rattle.connection_model.specs.Feed.{Past, sight_of, seen_in}
use Rattle.connection_model.specs.State.{state_of, is_closed}
use Rattle.connection_model.specs.Items.{score_of, goes_before, scored_actors, actors_by_score}
use Rattle.connection_laws.proofs.ActorsShown.{SeenNow, actors_seen_now}
use Rattle.sight_laws.specs.Sights.{unvalued, Shows, AscendsFrom, IsSight}
use Rattle.sight_laws.specs.Sights.Shows.{none, as_it_is, without_values, without_entry}
use Rattle.sight_laws.specs.Differing.{SameButSights}
use Rattle.sight_laws.proofs.Shown.{done_parts}
use Rattle.sight_laws.proofs.Relevance.{score_same}

-- ---- lists

map_same : {A B : Type 0} (f g : A → B) → ((x : A) → f x ≡ g x) → (xs : List A) → map f xs ≡ map g xs
map_same f g h [] = refl
map_same f g h (x ∷ xs) = ap (λ y. y ∷ map f xs) (h x) ∙ ap (λ ys. g x ∷ ys) (map_same f g h xs)

-- an order that sees images as it sees their sources sorts both alike
pub insert_mapped : {A B : Type 0} (f : A → B) (before : A → A → Bool) (after : B → B → Bool)
    → ((x y : A) → after (f x) (f y) ≡ before x y) → (x : A) (ys : List A)
    → map f (insert_in_order before x ys) ≡ insert_in_order after (f x) (map f ys)
insert_mapped f before after h x [] = refl
insert_mapped {A} {B} f before after h x (y ∷ ys) =
    by (before y x) (after (f y) (f x)) (h y x) (insert_mapped f before after h x ys)
  where
    by : (b c : Bool) → c ≡ b → map f (insert_in_order before x ys) ≡ insert_in_order after (f x) (map f ys)
        → map f (cond b (y ∷ insert_in_order before x ys) (x ∷ y ∷ ys))
        ≡ cond c (f y ∷ insert_in_order after (f x) (map f ys)) (f x ∷ f y ∷ map f ys)
    by true true e ih = ap (λ l. f y ∷ l) ih
    by false false e ih = refl
    by true false e ih = absurd (false≢true e)
    by false true e ih = absurd (false≢true (sym e))

pub order_mapped : {A B : Type 0} (f : A → B) (before : A → A → Bool) (after : B → B → Bool)
    → ((x y : A) → after (f x) (f y) ≡ before x y) → (xs : List A)
    → map f (in_order before xs) ≡ in_order after (map f xs)
order_mapped f before after h [] = refl
order_mapped f before after h (x ∷ xs) =
    insert_mapped f before after h x (in_order before xs)
    ∙ ap (insert_in_order after (f x)) (order_mapped f before after h xs)

-- what holds of each holds of one at its place
pub get_of_all : {A : Type 0} (P : A → Type 0) (xs : List A) → AllByRecursion P xs → (n : ℕ) (x : A)
    → slice_get xs n ≡ Some x → P x
get_of_all P [] h n x e = absurd (let no : (let o = None in o) ≡ Some x = e in cc)
get_of_all {A} P (y ∷ ys) h zero x e = subst P (let q : y ≡ x = cc in q) h.0
get_of_all P (y ∷ ys) h (suc n) x e = get_of_all P ys h.1 n x e

pub all_weaken : {A : Type 0} (P Q : A → Type 0) → ((x : A) → P x → Q x) → (xs : List A)
    → AllByRecursion P xs → AllByRecursion Q xs
all_weaken P Q f [] h = tt
all_weaken P Q f (x ∷ xs) h = (f x h.0, all_weaken P Q f xs h.1)

-- ---- entries of sights

-- the sight that is given ascends as well
pub raised : (low high : ℕ) (sight : List Seen) → low ≤ high → AscendsFrom high sight → AscendsFrom low sight
raised low high [] le h = tt
raised low high (seen ∷ sight) le h = (omega (arith, h.0), h.1, h.2)

pub given_ascends : (past : Past) {shown given : List Seen} (low : ℕ) → AscendsFrom low shown → Shows past shown given
    → AscendsFrom low given
given_ascends past low order none = tt
given_ascends past low order (as_it_is {seen = seen} h) = (order.0, order.1, given_ascends past seen.actor order.2 h)
given_ascends past low order (without_values {seen = seen} q h) =
    (order.0, order.1, given_ascends past seen.actor order.2 h)
given_ascends past low order (without_entry {seen = seen} {given = given} q h) =
    raised low seen.actor given (omega (arith, order.0)) (given_ascends past seen.actor order.2 h)

-- the entry is the sight's entry of its actor
abbrev pub IsEntry : List Seen → Seen → Type 0
IsEntry sight seen = seen_in sight seen.actor ≡ Some seen

pub above_all : (low : ℕ) (sight : List Seen) → AscendsFrom low sight
    → AllByRecursion (λ (seen : Seen). low < seen.actor) sight
above_all low [] h = tt
above_all low (seen ∷ sight) h = (
  h.0,
  all_weaken (λ (s : Seen). seen.actor < s.actor) (λ (s : Seen). low < s.actor)
      (λ s lt. omega (arith, lt, h.0)) sight (above_all seen.actor sight h.2),
)

entries_under : (x : Seen) (sight ys : List Seen) → AllByRecursion (λ (y : Seen). x.actor < y.actor) ys
    → AllByRecursion (IsEntry sight) ys → AllByRecursion (IsEntry (x ∷ sight)) ys
entries_under x sight [] h e = tt
entries_under x sight (y ∷ ys) h e = (
  ap (λ (b : Bool). cond b (Some x) (seen_in sight y.actor))
      (ne_eqb x.actor y.actor (λ q. absurd (omega (arith, h.0)))) ∙ e.0,
  entries_under x sight ys h.1 e.1,
)

-- each entry of an ascending sight is
pub entries_once : (low : ℕ) (sight : List Seen) → AscendsFrom low sight → AllByRecursion (IsEntry sight) sight
entries_once low [] h = tt
entries_once low (seen ∷ sight) h = (
  ap (λ (b : Bool). cond b (Some seen) (seen_in sight seen.actor)) (eq-eqb seen.actor seen.actor refl),
  entries_under seen sight sight (above_all seen.actor sight h.2) (entries_once seen.actor sight h.2),
)

-- the same actors are relevant, but for values
abbrev pub relevant_of : List Seen → List Seen
relevant_of sight = filter (λ (seen : Seen). seen.relevant) sight

pub relevant_alike : (past : Past) {shown given : List Seen} → Shows past shown given
    → map unvalued (relevant_of given) ≡ map unvalued (relevant_of shown)
relevant_alike past none = refl
relevant_alike past (as_it_is {seen = seen} {sight = sight} {given = given} h) = by seen.relevant
    (relevant_alike past h)
  where
    by : (b : Bool) → map unvalued (relevant_of given) ≡ map unvalued (relevant_of sight)
        → map unvalued (cond b (seen ∷ relevant_of given) (relevant_of given))
        ≡ map unvalued (cond b (seen ∷ relevant_of sight) (relevant_of sight))
    by true e = ap (λ l. unvalued seen ∷ l) e
    by false e = e
relevant_alike past (without_values {seen = seen} {sight = sight} {given = given} q h) =
    by seen.relevant (relevant_alike past h)
  where
    by : (b : Bool) → map unvalued (relevant_of given) ≡ map unvalued (relevant_of sight)
        → map unvalued (cond b (unvalued seen ∷ relevant_of given) (relevant_of given))
        ≡ map unvalued (cond b (seen ∷ relevant_of sight) (relevant_of sight))
    by true e = ap (λ l. unvalued seen ∷ l) e
    by false e = e
relevant_alike past (without_entry {seen = seen} {sight = sight} q h) =
    relevant_alike past h
    ∙ ap (λ (b : Bool). map unvalued (cond b (seen ∷ relevant_of sight) (relevant_of sight)))
    (sym (done_parts seen.destroyed seen.relevant seen.owns (is_closed (state_of past seen.actor)) q).0)

-- what a tick needs of the two sights
pub record SightsFit (shown given : List Seen) : Type 0 where
  pub once : AllByRecursion (IsEntry shown) shown
  pub given_once : AllByRecursion (IsEntry given) given
  pub relevant : map unvalued (relevant_of given) ≡ map unvalued (relevant_of shown)

pub sights_fit : (past : Past) {shown given : List Seen} → IsSight shown → Shows past shown given
    → SightsFit shown given
sights_fit past {shown} {given} order s = record {
  once = entries_once 0 shown order;
  given_once = entries_once 0 given (given_ascends past 0 order s);
  relevant = relevant_alike past s;
}

-- ---- by score

-- a scored entry without its values
abbrev scored_unvalued : ℕ × Seen → ℕ × Seen
scored_unvalued scored = (scored.0, unvalued scored.1)

seconds : (scored : List (ℕ × Seen))
    → map unvalued (map (λ (s : ℕ × Seen). s.1) scored) ≡ map (λ (s : ℕ × Seen). s.1) (map scored_unvalued scored)
seconds [] = refl
seconds (s ∷ scored) = ap (λ l. unvalued s.1 ∷ l) (seconds scored)

scored_without : (past : Past) (sight : List Seen)
    → map scored_unvalued (map (λ (seen : Seen). (score_of past seen, seen)) sight)
    ≡ map (λ (seen : Seen). (score_of past seen, seen)) (map unvalued sight)
scored_without past [] = refl
scored_without past (seen ∷ sight) = ap (λ l. (score_of past seen, unvalued seen) ∷ l) (scored_without past sight)

-- the actors in order, but for their values
without_values_by_score : (past : Past)
    → map unvalued (actors_by_score past)
    ≡ map (λ (s : ℕ × Seen). s.1) (in_order goes_before
    (map (λ (seen : Seen). (score_of past seen, seen)) (map unvalued (relevant_of (sight_of past)))))
without_values_by_score past =
    seconds (in_order goes_before (scored_actors past))
    ∙ ap (map (λ (s : ℕ × Seen). s.1))
    (order_mapped scored_unvalued goes_before goes_before (λ x y. refl) (scored_actors past)
    ∙ ap (in_order goes_before) (scored_without past (relevant_of (sight_of past))))

pub actors_alike : (past other : Past) → SameButSights past other
    → map unvalued (relevant_of (sight_of other)) ≡ map unvalued (relevant_of (sight_of past))
    → map unvalued (actors_by_score other) ≡ map unvalued (actors_by_score past)
actors_alike past other h e =
    without_values_by_score other
    ∙ ap (λ l. map (λ (s : ℕ × Seen). s.1) (in_order goes_before l))
    (map_same (λ (seen : Seen). (score_of other seen, seen)) (λ (seen : Seen). (score_of past seen, seen))
    (λ seen. ap (λ (k : ℕ). (k, seen)) (score_same past other h seen)) (map unvalued (relevant_of (sight_of other)))
    ∙ ap (map (λ (seen : Seen). (score_of past seen, seen))) e)
    ∙ sym (without_values_by_score past)

-- an entry of the last sight that it has as relevant
abbrev pub IsTurn : List Seen → Seen → Type 0
IsTurn sight seen = IsEntry sight seen × (seen.relevant ≡ true)

pub actors_entries : (past : Past) (sight : List Seen) → sight_of past ≡ sight → AllByRecursion (IsEntry sight) sight
    → AllByRecursion (IsTurn sight) (actors_by_score past)
actors_entries past sight e all =
    all_weaken (SeenNow past) (IsTurn sight)
    (λ seen h. (
      get_of_all (IsEntry sight) sight all h.0.0 seen (ap (λ (l : List Seen). slice_get l h.0.0) (sym e)
          ∙ h.0.1),
      h.1,
    ))
    (actors_by_score past) (actors_seen_now past)
