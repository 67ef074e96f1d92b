-- The actors of a tick are those that its sight shows as relevant.
use Rattle.std.proofs.Common.{◌≡◌, ℕ, suc, List, [], ◌∷◌, map, filter, Bool, true, refl, ap, ◌∙◌, Some, slice_get}
use Rattle.std.specs.List.{AllByRecursion}
use Rattle.std.proofs.lemmas.Bool.{cond_both}
use Rattle.protocol_model.specs.Search.{insert_in_order, in_order}
use Rattle.protocol_model.specs.Sight.{Seen}
use Rattle.connection_model.specs.Feed.{Past, sight_of}
use Rattle.connection_model.specs.Items.{score_of, goes_before, scored_actors, actors_by_score}
use Rattle.connection_laws.specs.Run.{Shows}

-- ---- all of a list, in another order

-- what holds of each item by its place holds of all
pub all_of_gets : {A : Type 0} (P : A → Type 0) (xs : List A) → ((n : ℕ) (x : A) → slice_get xs n ≡ Some x → P x) → AllByRecursion P xs
all_of_gets P [] h = tt
all_of_gets P (x ∷ xs) h = (h 0 x refl, all_of_gets P xs (λ n y e. h (suc n) y e))

-- what holds of all holds with one more in its place
pub all_inserted : {A : Type 0} (P : A → Type 0) (before : A → A → Bool) (x : A) (ys : List A) → P x → AllByRecursion P ys → AllByRecursion P (insert_in_order before x ys)
all_inserted P before x [] px h = (px, tt)
all_inserted P before x (y ∷ ys) px h =
    cond_both (before y x) (y ∷ insert_in_order before x ys) (x ∷ y ∷ ys) (AllByRecursion P) (λ e. (h.0, all_inserted P before x ys px h.1)) (λ e. (px, h))

-- what holds of all holds in order
pub all_in_order : {A : Type 0} (P : A → Type 0) (before : A → A → Bool) (xs : List A) → AllByRecursion P xs → AllByRecursion P (in_order before xs)
all_in_order P before [] h = tt
all_in_order P before (x ∷ xs) h = all_inserted P before x (in_order before xs) h.0 (all_in_order P before xs h.1)

-- what holds of all images holds of what is mapped
pub all_mapped : {A B : Type 0} (P : B → Type 0) (f : A → B) (xs : List A) → AllByRecursion (λ (x : A). P (f x)) xs → AllByRecursion P (map f xs)
all_mapped P f [] h = tt
all_mapped P f (x ∷ xs) h = (h.0, all_mapped P f xs h.1)

-- what holds of all holds of those that pass
pub all_filtered : {A : Type 0} (P : A → Type 0) (test : A → Bool) (xs : List A) → AllByRecursion P xs → AllByRecursion P (filter test xs)
all_filtered P test [] h = tt
all_filtered P test (x ∷ xs) h = cond_both (test x) (x ∷ filter test xs) (filter test xs) (AllByRecursion P) (λ e. (h.0, all_filtered P test xs h.1)) (λ e. all_filtered P test xs h.1)

-- what is filtered passes, and keeps what holds of all
all_kept : {A : Type 0} (P : A → Type 0) (test : A → Bool) (xs : List A) → AllByRecursion P xs → AllByRecursion (λ (x : A). P x × (test x ≡ true)) (filter test xs)
all_kept {A} P test [] h = tt
all_kept {A} P test (x ∷ xs) h =
    cond_both (test x) (x ∷ filter test xs) (filter test xs) (AllByRecursion (λ (y : A). P y × (test y ≡ true))) (λ e. ((h.0, e), all_kept P test xs h.1)) (λ e. all_kept P test xs h.1)

-- ---- the actors of a tick

-- the sight shows the actor as relevant
abbrev pub SeenNow : Past → Seen → Type 0
SeenNow past seen = Shows past seen × (seen.relevant ≡ true)

-- what is seen stays so while the sight is the same
pub seen_like : (past later : Past) → sight_of later ≡ sight_of past → (seen : Seen) → SeenNow past seen → SeenNow later seen
seen_like past later e seen h = ((h.0.0, ap (λ (l : List Seen). slice_get l h.0.0) e ∙ h.0.1), h.1)

-- each actor of a tick is relevant in its sight
pub actors_seen_now : (past : Past) → AllByRecursion (SeenNow past) (actors_by_score past)
actors_seen_now past =
    all_mapped (SeenNow past) (λ (scored : ℕ × Seen). scored.1) (in_order goes_before (scored_actors past))
    (all_in_order (λ (scored : ℕ × Seen). SeenNow past scored.1) goes_before (scored_actors past)
    (all_mapped (λ (scored : ℕ × Seen). SeenNow past scored.1) (λ (seen : Seen). (score_of past seen, seen)) (filter (λ (seen : Seen). seen.relevant) (sight_of past))
    (all_kept (Shows past) (λ (seen : Seen). seen.relevant) (sight_of past) (all_of_gets (Shows past) (sight_of past) (λ n x e. (n, e))))))
