-- The turns of a tick do what is defined over all its relevant actors.
use Rattle.std.proofs.Common.{◌≡◌, ◌⊎◌, inl, inr, ℕ, ◌<◌, List, [], ◌∷◌, map, filter, length, Bool, true, false, cond, ◌&&◌, ◌||◌, ◌==◌, nat_lt, refl, sym, ap, ◌∙◌, subst, arith, fold, Option, Some, None}
use Rattle.std.specs.List.{AllByRecursion}
use Rattle.std.specs.List.Sorted.{IsPermutation, IsSortedBy}
use Rattle.std.specs.Cmp.{IsStrictWeakOrder}
use Rattle.std.proofs.lemmas.Bool.{cond_both, lt-ltb}
use Rattle.std.proofs.lemmas.Bool.Decides.{nat_tests}
use Rattle.protocol_model.specs.Value.{Pair}
use Rattle.protocol_model.specs.Search.{in_order}
use Rattle.protocol_model.specs.Sight.{Seen}
use Rattle.connection_model.specs.Feed.{End, Past, sight_of}
use Rattle.connection_model.specs.State.{ActorState, state_of, is_opened, index_of, free_index}
use Rattle.connection_model.specs.Carry.{due_pairs}
use Rattle.connection_model.specs.Items.{score_of, goes_before, scored_actors, actors_by_score, wants_open, open_message}
use Rattle.connection_model.specs.Pack.{Packing, after_open, after_update, after_actor}
use Rattle.connection_laws.proofs.ActorsShown.{all_mapped, all_filtered}
use Rattle.sight_laws.specs.Sights.{AscendsFrom, IsSight}
use Rattle.sight_laws.proofs.Scoring.{all_weaken, above_all, order_mapped}
use Rattle.turn_laws.specs.Turns.{has_turn, scored_turns, turns_of, after_turn, after_turns}
use Rattle.turn_laws.proofs.Sorting.{ApartBy, filter_in_order, apart_in_order, sorted_is_in_order}
use Rattle.turn_laws.proofs.Untouched.{Untouched, untouched_self, untouched_more, other_opens, wants_stays, due_stays, update_past, open_past}

-- ---- one turn

none_due : (end : End) (p : Packing) (seen : Seen) (o : Option ℕ) → after_update end p seen o [] ≡ p
none_due end p seen None = refl
none_due end p seen (Some ch) = refl

-- what is done of an actor by what was asked of it before the first turn: nothing where it has none
pub served_is : (end : End) (now : Past) (p : Packing) (seen : Seen) → Untouched now p.past seen.actor
    → after_actor end p seen ≡ cond (has_turn now seen) (after_turn end now p seen) p
served_is end now p seen h =
    ap (λ (b : Bool). cond p.full p
    (cond b opened (cond (is_opened (state_of p.past seen.actor))
    (after_update end p seen (index_of p.past seen.actor) (due_pairs p.past seen)) p)))
    (wants_stays now p.past seen h)
    ∙ ap (λ (s : ActorState). cond p.full p
    (cond (wants_open now seen) opened
    (cond (is_opened s) (after_update end p seen (index_of p.past seen.actor) (due_pairs p.past seen)) p)))
    h.state
    ∙ ap (λ (o : Option ℕ). cond p.full p
    (cond (wants_open now seen) opened
    (cond (is_opened (state_of now seen.actor)) (after_update end p seen o (due_pairs p.past seen)) p))) h.index
    ∙ ap (λ (due : List Pair). cond p.full p
    (cond (wants_open now seen) opened
    (cond (is_opened (state_of now seen.actor)) (after_update end p seen (index_of now seen.actor) due) p)))
    (due_stays now p.past seen h)
    ∙ by p.full (wants_open now seen) (is_opened (state_of now seen.actor)) (due_pairs now seen)
  where
    opened : Packing
    opened = after_open end p (free_index p.past) (open_message p.past seen)

    either : (b : Bool) → p ≡ cond b p p
    either true = refl
    either false = refl

    by : (full wants is_open : Bool) (due : List Pair)
        → cond full p (cond wants opened (cond is_open (after_update end p seen (index_of now seen.actor) due) p))
        ≡ cond (wants || (is_open && nat_lt 0 (length due)))
        (cond full p (cond wants opened (after_update end p seen (index_of now seen.actor) due))) p
    by true w o due = either (w || (o && nat_lt 0 (length due)))
    by false true o due = refl
    by false false true [] = none_due end p seen (index_of now seen.actor)
    by false false true (pair ∷ due) =
        sym (ap (λ (b : Bool). cond b (after_update end p seen (index_of now seen.actor) (pair ∷ due)) p)
        (lt-ltb 0 (length (pair ∷ due)) (omega arith)))
    by false false false due = refl

-- it leaves other actors as they were
others_stay : (end : End) (p : Packing) (seen : Seen) (a : ℕ) → (seen.actor ≡ a → ⊥)
    → Untouched p.past (after_actor end p seen).past a
others_stay end p seen a ne =
    by p.full (wants_open p.past seen) (is_opened (state_of p.past seen.actor))
    (open_past end p (free_index p.past) (open_message p.past seen))
  where
    opened : Packing
    opened = after_open end p (free_index p.past) (open_message p.past seen)

    updated : Packing
    updated = after_update end p seen (index_of p.past seen.actor) (due_pairs p.past seen)

    by : (full wants is_open : Bool)
        → ((after_open end p (free_index p.past) (open_message p.past seen)).past ≡ p.past)
        ⊎ ((after_open end p (free_index p.past) (open_message p.past seen)).past
        ≡ Rattle.connection_model.specs.Bunches.after_making p.past (free_index p.past)
        (open_message p.past seen))
        → (let q : Packing = cond full p (cond wants opened (cond is_open updated p)) in Untouched p.past q.past a)
    by true w o e = untouched_self p.past a
    by false true o (inl e) = subst (λ (l : Past). Untouched p.past l a) (sym e) (untouched_self p.past a)
    by false true o (inr e) = subst (λ (l : Past). Untouched p.past l a) (sym e)
        (other_opens p.past (free_index p.past) seen
        (Rattle.connection_model.specs.Exports.needed_segments p.past seen.class) a ne)
    by false false true e =
        subst (λ (l : Past). Untouched p.past l a)
        (sym (update_past end p seen (index_of p.past seen.actor) (due_pairs p.past seen)))
        (untouched_self p.past a)
    by false false false e = untouched_self p.past a

-- ---- all turns

abbrev actor_key : Seen → ℕ
actor_key seen = seen.actor

rest_stays : (now : Past) (end : End) (p : Packing) (seen : Seen) (actors : List Seen)
    → AllByRecursion (λ (s : Seen). s.actor ≡ seen.actor → ⊥) actors
    → AllByRecursion (λ (s : Seen). Untouched now p.past s.actor) actors
    → AllByRecursion (λ (s : Seen). Untouched now (after_actor end p seen).past s.actor) actors
rest_stays now end p seen [] ne h = tt
rest_stays now end p seen (s ∷ actors) ne h = (
  untouched_more now p.past (after_actor end p seen).past s.actor h.0
      (others_stay end p seen s.actor (λ q. ne.0 (sym q))),
  rest_stays now end p seen actors ne.1 h.1,
)

served_from : (end : End) (now : Past) (actors : List Seen) (p : Packing) → ApartBy actor_key actors
    → AllByRecursion (λ (s : Seen). Untouched now p.past s.actor) actors
    → fold (after_actor end) p actors ≡ after_turns end now p (filter (has_turn now) actors)
served_from end now [] p apart h = refl
served_from end now (seen ∷ actors) p apart h =
    served_from end now actors (after_actor end p seen) apart.1 (rest_stays now end p seen actors apart.0 h.1)
    ∙ ap (λ (q : Packing). after_turns end now q (filter (has_turn now) actors)) (served_is end now p seen h.0)
    ∙ by (has_turn now seen)
  where
    by : (b : Bool) → after_turns end now (cond b (after_turn end now p seen) p) (filter (has_turn now) actors)
        ≡ after_turns end now p (cond b (seen ∷ filter (has_turn now) actors) (filter (has_turn now) actors))
    by true = refl
    by false = refl

-- ---- the order of turns

before_one_way : (a b m n : ℕ) → (nat_lt b a || ((b == a) && nat_lt m n)) ≡ true
    → (nat_lt a b || ((a == b) && nat_lt n m)) ≡ false
before_one_way a b m n h = grind (arith, nat_tests)

before_chain : (a b c l m n : ℕ) → (nat_lt b a || ((b == a) && nat_lt l m)) ≡ false
    → (nat_lt c b || ((c == b) && nat_lt m n)) ≡ false → (nat_lt c a || ((c == a) && nat_lt l n)) ≡ false
before_chain a b c l m n h g = grind (arith, nat_tests)

pub before_decided : (a b m n : ℕ) → (n ≡ m → ⊥) → (nat_lt a b || ((a == b) && nat_lt n m)) ≡ false
    → (nat_lt b a || ((b == a) && nat_lt m n)) ≡ true
before_decided a b m n ne h = grind (arith, nat_tests)

-- score and guid order all actors
pub before_orders : IsStrictWeakOrder goes_before
before_orders = record {
  one_way = λ x y h. before_one_way x.0 y.0 x.1.actor y.1.actor h;
  chain = λ x y z h g. before_chain x.0 y.0 z.0 x.1.actor y.1.actor z.1.actor h g;
}

abbrev scored_key : ℕ × Seen → ℕ
scored_key scored = scored.1.actor

-- ---- each actor once

ascending_apart : (low : ℕ) (sight : List Seen) → AscendsFrom low sight → ApartBy actor_key sight
ascending_apart low [] h = tt
ascending_apart low (seen ∷ sight) h = (
  all_weaken (λ (s : Seen). seen.actor < s.actor) (λ (s : Seen). s.actor ≡ seen.actor → ⊥)
      (λ s lt q. absurd (omega (arith, lt, q))) sight (above_all seen.actor sight h.2),
  ascending_apart seen.actor sight h.2,
)

apart_filtered : {A : Type 0} (key : A → ℕ) (test : A → Bool) (xs : List A) → ApartBy key xs
    → ApartBy key (filter test xs)
apart_filtered key test [] h = tt
apart_filtered {A} key test (x ∷ xs) h =
    cond_both (test x) (x ∷ filter test xs) (filter test xs) (ApartBy key)
    (λ e. (all_filtered (λ (y : A). key y ≡ key x → ⊥) test xs h.0, apart_filtered key test xs h.1))
    (λ e. apart_filtered key test xs h.1)

apart_through : {A B : Type 0} (f : A → B) (key : B → ℕ) (xs : List A) → ApartBy (λ (x : A). key (f x)) xs
    → ApartBy key (map f xs)
apart_through f key [] h = tt
apart_through {A} {B} f key (x ∷ xs) h =
    (all_mapped (λ (y : B). key y ≡ key (f x) → ⊥) f xs h.0, apart_through f key xs h.1)

scored_apart : (past : Past) (test : Seen → Bool) → IsSight (sight_of past)
    → ApartBy scored_key (map (λ (seen : Seen). (score_of past seen, seen)) (filter test (sight_of past)))
scored_apart past test order =
    apart_through (λ (seen : Seen). (score_of past seen, seen)) scored_key (filter test (sight_of past))
    (apart_filtered actor_key test (sight_of past) (ascending_apart 0 (sight_of past) order))

by_score_apart : (past : Past) → IsSight (sight_of past) → ApartBy actor_key (actors_by_score past)
by_score_apart past order =
    apart_through (λ (scored : ℕ × Seen). scored.1) actor_key (in_order goes_before (scored_actors past))
    (apart_in_order scored_key goes_before (scored_actors past)
    (scored_apart past (λ (seen : Seen). seen.relevant) order))

-- ---- turns are the actors that have one

filter_through : {A B : Type 0} (f : A → B) (test : B → Bool) (xs : List A)
    → filter test (map f xs) ≡ map f (filter (λ (x : A). test (f x)) xs)
filter_through f test [] = refl
filter_through {A} {B} f test (x ∷ xs) =
    ap (λ (l : List B). cond (test (f x)) (f x ∷ l) l) (filter_through f test xs) ∙ by (test (f x))
  where
    by : (b : Bool) → cond b (f x ∷ map f (filter (λ (x : A). test (f x)) xs))
        (map f (filter (λ (x : A). test (f x)) xs))
        ≡ map f (cond b (x ∷ filter (λ (x : A). test (f x)) xs) (filter (λ (x : A). test (f x)) xs))
    by true = refl
    by false = refl

filter_twice : {A : Type 0} (p q : A → Bool) (xs : List A) → filter q (filter p xs) ≡ filter (λ (x : A). p x && q x) xs
filter_twice p q [] = refl
filter_twice {A} p q (x ∷ xs) = by (p x) (q x) refl (filter_twice p q xs)
  where
    by : (a b : Bool) → q x ≡ b → filter q (filter p xs) ≡ filter (λ (x : A). p x && q x) xs
        → filter q (cond a (x ∷ filter p xs) (filter p xs))
        ≡ cond (a && b) (x ∷ filter (λ (x : A). p x && q x) xs) (filter (λ (x : A). p x && q x) xs)
    by true b e ih = ap (λ (t : Bool). cond t (x ∷ filter q (filter p xs)) (filter q (filter p xs))) e
        ∙ ap (λ (l : List A). cond b (x ∷ l) l) ih
    by false b e ih = ih

pub turns_are : (past : Past) → filter (has_turn past) (actors_by_score past) ≡ turns_of past
turns_are past =
    filter_through (λ (scored : ℕ × Seen). scored.1) (has_turn past) (in_order goes_before (scored_actors past))
    ∙ ap (map (λ (scored : ℕ × Seen). scored.1))
    (filter_in_order goes_before before_orders (λ (scored : ℕ × Seen). has_turn past scored.1) (scored_actors past)
    ∙ ap (in_order goes_before)
    (filter_through (λ (seen : Seen). (score_of past seen, seen)) (λ (scored : ℕ × Seen). has_turn past scored.1)
    (filter (λ (seen : Seen). seen.relevant) (sight_of past))
    ∙ ap (map (λ (seen : Seen). (score_of past seen, seen)))
    (filter_twice (λ (seen : Seen). seen.relevant) (has_turn past) (sight_of past))))

-- the turns do what is defined over all relevant actors
pub turns_serve : (end : End) (p : Packing) → IsSight (sight_of p.past)
    → fold (after_actor end) p (actors_by_score p.past) ≡ after_turns end p.past p (turns_of p.past)
turns_serve end p order =
    served_from end p.past (actors_by_score p.past) p (by_score_apart p.past order) (all_self (actors_by_score p.past))
    ∙ ap (after_turns end p.past p) (turns_are p.past)
  where
    all_self : (actors : List Seen) → AllByRecursion (λ (s : Seen). Untouched p.past p.past s.actor) actors
    all_self [] = tt
    all_self (seen ∷ actors) = (untouched_self p.past seen.actor, all_self actors)

pub map_self : {A : Type 0} (xs : List A) → map (λ (x : A). x) xs ≡ xs
map_self [] = refl
map_self (x ∷ xs) = ap (λ l. x ∷ l) (map_self xs)

-- however they are sorted
pub sorted_turns : {A : Type 0} (past : Past) (f : A → ℕ × Seen) (xs ys : List A) → IsSight (sight_of past)
    → map f xs ≡ scored_turns past → IsPermutation xs ys → IsSortedBy (λ (x y : A). goes_before (f x) (f y)) ys
    → map (λ (x : A). (f x).1) ys ≡ turns_of past
sorted_turns {A} past f xs ys order e p s =
    through ys
    ∙ ap (λ (l : List A). map (λ (scored : ℕ × Seen). scored.1) (map f l))
    (sorted_is_in_order before orders key
    (λ x y ne h. before_decided (f x).0 (f y).0 (f x).1.actor (f y).1.actor ne h) xs ys apart p s)
    ∙ ap (map (λ (scored : ℕ × Seen). scored.1)) (order_mapped f before goes_before (λ x y. refl) xs
    ∙ ap (in_order goes_before) e)
  where
    before : A → A → Bool
    before x y = goes_before (f x) (f y)

    key : A → ℕ
    key x = (f x).1.actor

    orders : IsStrictWeakOrder (λ (x y : A). goes_before (f x) (f y))
    orders = record {
      one_way = λ x y h. before_orders.one_way (f x) (f y) h;
      chain = λ x y z h g. before_orders.chain (f x) (f y) (f z) h g;
    }

    back : (zs : List A) → ApartBy scored_key (map f zs) → ApartBy (λ (x : A). (f x).1.actor) zs
    back [] h = tt
    back (z ∷ zs) h = (all_back zs h.0, back zs h.1)
      where
        all_back : (us : List A) → AllByRecursion (λ (y : ℕ × Seen). y.1.actor ≡ (f z).1.actor → ⊥) (map f us)
            → AllByRecursion (λ (y : A). (f y).1.actor ≡ (f z).1.actor → ⊥) us
        all_back [] g = tt
        all_back (u ∷ us) g = (g.0, all_back us g.1)

    apart : ApartBy (λ (x : A). (f x).1.actor) xs
    apart = back xs (subst (ApartBy scored_key) (sym e)
        (scored_apart past (λ (seen : Seen). seen.relevant && has_turn past seen) order))

    through : (zs : List A) → map (λ (x : A). (f x).1) zs ≡ map (λ (scored : ℕ × Seen). scored.1) (map f zs)
    through [] = refl
    through (z ∷ zs) = ap (λ l. (f z).1 ∷ l) (through zs)
