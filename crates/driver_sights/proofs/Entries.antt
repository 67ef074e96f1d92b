-- Entries of a sight, put in their places.
use Rattle.std.proofs.Common.{◌≡◌, ℕ, suc, ◌+◌, ◌≤◌, List, [], ◌∷◌, map, filter, length, Bool, true, false, cond, not, Option, Some, None, option_map, unwrap_or, refl, sym, ap, ◌∙◌, subst, arith}
use Rattle.std.specs.Prelude.{nat_lt, nat_le}
use Rattle.std.specs.List.{position, insert, filter_map, cons_option, AllByRecursion}
use Rattle.std.proofs.lemmas.Bool.{cond_both}
use Rattle.std.proofs.lemmas.Bool.Decides.{nat_tests}
use Rattle.protocol_model.specs.Search.{insert_in_order}
use Rattle.protocol_model.specs.Sight.{Seen, is_relevant, seen_of, destroyed_of}
use Rattle.protocol_model.specs.Value.{Table}
use Rattle.protocol_model.specs.World.{Edits}
use Rattle.connection_model.specs.Feed.{Past}
use Rattle.class_layout.specs.Tables.{Layout}
use Rattle.class_layout.proofs.Finding.{position_step}
use Rattle.sender_steps.specs.declared.sight.Seen.{Seen as SeenValue}
use Rattle.sender_steps.specs.Sights.{seen_value, sight_value}
use Rattle.driver_laws.specs.Counted.{goes_before}
use Rattle.driver_laws.specs.Given.{shown_as, given_entry}

-- an entry of a lower actor stands before
abbrev pub comes_before : SeenValue → SeenValue → Bool
comes_before one two = nat_lt one.actor two.actor

-- seen as the definitions see them
pub inserted_value : (layout : Layout) (x : SeenValue) (sight : List SeenValue)
    → sight_value layout (insert_in_order comes_before x sight)
    ≡ insert_in_order goes_before (seen_value layout x) (sight_value layout sight)
inserted_value layout x [] = refl
inserted_value layout x (y ∷ sight) =
    cond_both (nat_lt y.actor x.actor) (y ∷ insert_in_order comes_before x sight) (x ∷ y ∷ sight)
    (λ (l : List SeenValue). sight_value layout l
    ≡ insert_in_order goes_before (seen_value layout x) (sight_value layout (y ∷ sight)))
    (λ e. rw e (ap (λ (l : List Seen). seen_value layout y ∷ l) (inserted_value layout x sight)))
    (λ e. rw e refl)

-- where an entry of this actor goes
abbrev pub place_for : (actor : ℕ) → List SeenValue → ℕ
place_for actor sight = unwrap_or (position (λ (x : SeenValue). nat_le actor x.actor) sight) (length sight)

later : (o : Option ℕ) (n : ℕ) → unwrap_or (option_map (λ k. k + 1) o) (suc n) ≡ suc (unwrap_or o n)
later None n = refl
later (Some k) n = omega arith

place_step : (actor : ℕ) (x : SeenValue) (sight : List SeenValue)
    → place_for actor (x ∷ sight) ≡ cond (nat_le actor x.actor) 0 (suc (place_for actor sight))
place_step actor x sight =
    ap (λ (o : Option ℕ). unwrap_or o (suc (length sight)))
    (position_step (λ (x : SeenValue). nat_le actor x.actor) x sight)
    ∙ go (nat_le actor x.actor)
  where
    go : (b : Bool)
        → unwrap_or
        (cond b (Some 0) (option_map (λ k. k + 1) (position (λ (x : SeenValue). nat_le actor x.actor) sight)))
        (suc (length sight))
        ≡ cond b 0 (suc (place_for actor sight))
    go true = refl
    go false = later (position (λ (x : SeenValue). nat_le actor x.actor) sight) (length sight)

pub place_within : (actor : ℕ) (sight : List SeenValue) → place_for actor sight ≤ length sight
place_within actor [] = omega arith
place_within actor (x ∷ sight) = rw (place_step actor x sight) (go (nat_le actor x.actor) (place_within actor sight))
  where
    go : (b : Bool) → place_for actor sight ≤ length sight → cond b 0 (suc (place_for actor sight)) ≤ suc (length sight)
    go true h = omega arith
    go false h = omega arith

-- a new entry goes before the first one of no lower actor
inserted : (sight : List SeenValue) (c : SeenValue)
    → insert sight (place_for c.actor sight) c ≡ insert_in_order comes_before c sight
inserted [] c = refl
inserted (x ∷ sight) c =
    ap (λ (i : ℕ). insert (x ∷ sight) i c) (place_step c.actor x sight)
    ∙ step (nat_le c.actor x.actor) (nat_lt x.actor c.actor) (turned c.actor x.actor) (inserted sight c)
  where
    turned : (m n : ℕ) → nat_lt n m ≡ not (nat_le m n)
    turned m n = grind (arith, nat_tests)

    step : (le lt : Bool) → lt ≡ not le
        → insert sight (place_for c.actor sight) c ≡ insert_in_order comes_before c sight
        → insert (x ∷ sight) (cond le 0 (suc (place_for c.actor sight))) c
        ≡ cond lt (x ∷ insert_in_order comes_before c sight) (c ∷ x ∷ sight)
    step true lt e ih = rw e refl
    step false lt e ih = rw e (ap (λ (cs : List SeenValue). x ∷ cs) ih)

-- an entry that was put in its place
pub added : (c : SeenValue) (old slice new : List SeenValue) (actor : ℕ) (o : Option ℕ) (i : ℕ) → c.actor ≡ actor
    → slice ≡ old → o ≡ position (λ (x : SeenValue). nat_le actor x.actor) slice → i ≡ unwrap_or o (length old)
    → new ≡ insert old i c → new ≡ insert_in_order comes_before c old
added c old slice new actor o i is s f at e =
    e
    ∙ ap (λ (i : ℕ). insert old i c)
    (at ∙ ap (λ (o : Option ℕ). unwrap_or o (length old))
    (f ∙ ap (position (λ (x : SeenValue). nat_le actor x.actor)) s)
    ∙ ap (λ (a : ℕ). place_for a old) (sym is))
    ∙ inserted old c

-- all of a sight with one more
pub all_inserted : (P : SeenValue → Type 0) (x : SeenValue) (sight : List SeenValue) → P x → AllByRecursion P sight
    → AllByRecursion P (insert_in_order comes_before x sight)
all_inserted P x [] px h = (px, tt)
all_inserted P x (y ∷ sight) px h =
    cond_both (nat_lt y.actor x.actor) (y ∷ insert_in_order comes_before x sight) (x ∷ y ∷ sight) (AllByRecursion P)
    (λ e. (h.0, all_inserted P x sight px h.1)) (λ e. (px, h))

-- without destroyed actors a sight has those that are relevant
pub relevant_given : (table : Table) (edits : Edits) (player : ℕ) (past : Past) (actors : List ℕ)
    → filter_map (given_entry table edits player past (λ a. false)) actors
    ≡ map (λ a. shown_as past (seen_of table edits player a)) (filter (is_relevant table edits player) actors)
relevant_given table edits player past [] = refl
relevant_given table edits player past (a ∷ actors) =
    by (is_relevant table edits player a) (relevant_given table edits player past actors)
  where
    by : (b : Bool)
        → filter_map (given_entry table edits player past (λ a. false)) actors
        ≡ map (λ a. shown_as past (seen_of table edits player a)) (filter (is_relevant table edits player) actors)
        → cons_option (cond b (Some (shown_as past (seen_of table edits player a)))
        (cond false (Some (destroyed_of table edits a)) None))
        (filter_map (given_entry table edits player past (λ a. false)) actors)
        ≡ map (λ a. shown_as past (seen_of table edits player a))
        (cond b (a ∷ filter (is_relevant table edits player) actors) (filter (is_relevant table edits player) actors))
    by true ih = ap (λ (l : List Seen). shown_as past (seen_of table edits player a) ∷ l) ih
    by false ih = ih

-- the place of a new entry is within the sight
pub placed_at : (actor : ℕ) (old slice : List SeenValue) (o : Option ℕ) (i : ℕ) → slice ≡ old
    → o ≡ position (λ (x : SeenValue). nat_le actor x.actor) slice → i ≡ unwrap_or o (length old) → i ≤ length old
placed_at actor old slice o i s f at =
    subst (λ (k : ℕ). k ≤ length old)
    (sym (at ∙ ap (λ (o : Option ℕ). unwrap_or o (length old))
    (f ∙ ap (position (λ (x : SeenValue). nat_le actor x.actor)) s)))
    (place_within actor old)
