-- What an end asks of the ticks is the same in pasts that differ by their sights alone.
use Rattle.std.proofs.Common.{◌≡◌, ℕ, ◌-◌, ◌*◌, suc, List, [], ◌∷◌, ◌++◌, map, length, min, Bool, true, false, cond, refl, sym, ap, ◌∙◌, reverse, Option, unwrap_or}
use Rattle.std.specs.List.{filter_map, cons_option, slice_get}
use Rattle.std.specs.Bool.{then_some}
use Rattle.std.proofs.lemmas.List.{reverse-append, map-append}
use Rattle.protocol_model.specs.Search.{items_since, oldest_of}
use Rattle.protocol_model.specs.Sight.{Seen}
use Rattle.connection_model.specs.Feed.{Past, ticks_of, tick_count}
use Rattle.connection_model.specs.Items.{shown_in, first_sight, last_service, score_of}
use Rattle.connection_model.specs.Pack.{idle_ticks}
use Rattle.sight_laws.specs.Differing.{relevance_in, SameButSights}
use Rattle.sight_laws.proofs.Unsighted.{count_same, service_same}

-- a search among images is one among what was mapped
since_mapped : {A B : Type 0} (f : A → B) (test : B → Bool) (xs : List A)
    → length (items_since test (map f xs)) ≡ length (items_since (λ x. test (f x)) xs)
since_mapped f test [] = refl
since_mapped {A} {B} f test (x ∷ xs) = by (test (f x)) (since_mapped f test xs)
  where
    by : (b : Bool) → length (items_since test (map f xs)) ≡ length (items_since (λ x. test (f x)) xs)
        → length (cond b (let l : List B = [] in l) (f x ∷ items_since test (map f xs)))
        ≡ length (cond b (let l : List A = [] in l) (x ∷ items_since (λ x. test (f x)) xs))
    by true ih = refl
    by false ih = ap suc ih

found_mapped : {A B C : Type 0} (f : A → B) (g : B → Option C) (xs : List A)
    → filter_map g (map f xs) ≡ filter_map (λ x. g (f x)) xs
found_mapped f g [] = refl
found_mapped f g (x ∷ xs) = ap (cons_option (g (f x))) (found_mapped f g xs)

reversed_map : {A B : Type 0} (f : A → B) (xs : List A) → map f (reverse xs) ≡ reverse (map f xs)
reversed_map f [] = refl
reversed_map f (x ∷ xs) =
    ap (map f) (reverse-append (x ∷ []) xs)
    ∙ map-append f (reverse xs) (x ∷ [])
    ∙ ap (λ l. l ++ f x ∷ []) (reversed_map f xs)
    ∙ sym (reverse-append (f x ∷ []) (map f xs))

module _ (past other : Past) (h : SameButSights past other) where
  pub idle_same : (a : ℕ) → idle_ticks other a ≡ idle_ticks past a
  idle_same a =
      sym (since_mapped (relevance_in a) (λ (r : ℕ × Bool). r.1) (ticks_of other))
      ∙ ap (λ rs. length (items_since (λ (r : ℕ × Bool). r.1) rs)) (h.relevance a)
      ∙ since_mapped (relevance_in a) (λ (r : ℕ × Bool). r.1) (ticks_of past)

  pub oldest_same : (a : ℕ) → oldest_of (shown_in a) (ticks_of other) ≡ oldest_of (shown_in a) (ticks_of past)
  oldest_same a = ap (λ (ns : List ℕ). slice_get ns 0)
      (seen other ∙ ap (λ (rs : List (ℕ × Bool)). filter_map relevant_at (reverse rs)) (h.relevance a)
      ∙ sym (seen past))
    where
      relevant_at : ℕ × Bool → Option ℕ
      relevant_at r = then_some r.1 r.0

      seen : (p : Past) → filter_map (shown_in a) (reverse (ticks_of p))
          ≡ filter_map relevant_at (reverse (map (relevance_in a) (ticks_of p)))
      seen p =
          sym (found_mapped (relevance_in a) relevant_at (reverse (ticks_of p)))
          ∙ ap (filter_map relevant_at) (reversed_map (relevance_in a) (ticks_of p))

  pub first_same : (a : ℕ) → first_sight other a ≡ first_sight past a
  first_same a = ap (λ (o : Option ℕ). unwrap_or o 1) (oldest_same a)

  pub score_same : (seen : Seen) → score_of other seen ≡ score_of past seen
  score_same seen =
      ap (λ (k : ℕ). seen.class.priority * min
      (k - unwrap_or (last_service other seen.actor) (first_sight other seen.actor - 1)) 65535)
      (count_same past other h.done)
      ∙ ap (λ (o : Option ℕ). seen.class.priority * min
      (tick_count past - unwrap_or o (first_sight other seen.actor - 1)) 65535)
      (service_same past other h.done seen.actor)
      ∙ ap (λ (k : ℕ). seen.class.priority * min (tick_count past - unwrap_or (last_service past seen.actor) (k - 1))
      65535) (first_same seen.actor)
