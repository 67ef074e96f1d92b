-- What a sight of a world shows: actors of the world, by their classes; and what was shown earlier.
use Rattle.std.proofs.Common.{◌≡◌, ◌≢◌, ℕ, List, [], ◌∷◌, ◌++◌, map, filter, Bool, true, false, cond, ◌&&◌, not, refl, sym, ap, ◌∙◌, Option, Some, None, is_some}
use Rattle.std.specs.List.{filter_map, cons_option, flat_map, AllByRecursion}
use Rattle.std.proofs.lemmas.Bool.{false≢true, and_parts}
use Rattle.protocol_model.specs.Search.{is_among}
use Rattle.protocol_model.specs.Sight.{Seen, is_relevant, seen_of, destroyed_of, entry_of, sight, reaches}
use Rattle.protocol_model.specs.Value.{Table, Class}
use Rattle.protocol_model.specs.World.{Edits, actors_of, spawn_of, class_of, lives}
use Rattle.connection_model.specs.Feed.{End, Event, Tick, Got, Call}
use Rattle.connection_model.specs.Past.{past_of}
use Rattle.connection_model.specs.State.{opened_class, was_opened}
use Rattle.connection_laws.proofs.Searches.{among_here, among_there, among_left, among_right}
use Rattle.replication_model.specs.Story.{relevant_in}
use Rattle.driver_laws.specs.Feeds.{IsSo, AreShown, IsOfWorld}
use Rattle.driver_laws.proofs.Shown.{opened_so}

-- ---- the class of an actor in a sight is the world's

pub relevant_spawned : (table : Table) (edits : Edits) (player a : ℕ) → is_relevant table edits player a ≡ true
    → spawn_of edits a ≢ None
relevant_spawned table edits player a e none =
    let l = (and_parts (lives edits a) (reaches (class_of table edits a).reach table edits player a) e).0 in
    false≢true (sym (ap is_some none) ∙ (and_parts (is_some (spawn_of edits a)) _ l).0)

all_of_world : (table : Table) (edits : Edits) (player : ℕ) (earlier actors : List ℕ)
    → AllByRecursion (IsSo (IsOfWorld table edits)) (filter_map (entry_of table edits player earlier) actors)
all_of_world table edits player earlier [] = tt
all_of_world table edits player earlier (a ∷ actors) =
    by (is_relevant table edits player a) (not (lives edits a) && is_among a earlier) refl
    (all_of_world table edits player earlier actors)
  where
    by : (r g : Bool) → is_relevant table edits player a ≡ r
        → AllByRecursion (IsSo (IsOfWorld table edits)) (filter_map (entry_of table edits player earlier) actors)
        → AllByRecursion (IsSo (IsOfWorld table edits))
        (cons_option (cond r (Some (seen_of table edits player a)) (cond g (Some (destroyed_of table edits a)) None))
        (filter_map (entry_of table edits player earlier) actors))
    by true g e h = (λ q. (relevant_spawned table edits player a e, refl), h)
    by false true e h = (λ q. absurd (false≢true q), h)
    by false false e h = h

pub sight_of_world : (table : Table) (edits : Edits) (player : ℕ) (earlier : List ℕ)
    → AllByRecursion (IsSo (IsOfWorld table edits)) (sight table edits player earlier)
sight_of_world table edits player earlier = all_of_world table edits player earlier (actors_of edits)

-- ---- shown earlier

abbrev IsEarlier : List ℕ → ℕ → Class → Type 0
IsEarlier earlier a class = is_among a earlier ≡ true

all_earlier : (f g : List ℕ) (seen : List Seen) → ((a : ℕ) → is_among a f ≡ true → is_among a g ≡ true)
    → AllByRecursion (IsSo (IsEarlier f)) seen → AllByRecursion (IsSo (IsEarlier g)) seen
all_earlier f g [] le h = tt
all_earlier f g (t ∷ seen) le h = (λ q. le t.actor (h.0 q), all_earlier f g seen le h.1)

so_earlier : (seen : List Seen)
    → AllByRecursion (IsSo (IsEarlier (map (λ (s : Seen). s.actor) (filter (λ (s : Seen). s.relevant) seen)))) seen
so_earlier [] = tt
so_earlier (s ∷ seen) = by s.relevant refl (so_earlier seen)
  where
    by : (b : Bool) → s.relevant ≡ b
        → AllByRecursion (IsSo (IsEarlier (map (λ (s : Seen). s.actor) (filter (λ (s : Seen). s.relevant) seen)))) seen
        → AllByRecursion (IsSo (IsEarlier (map (λ (s : Seen). s.actor)
        (cond b (s ∷ filter (λ (s : Seen). s.relevant) seen) (filter (λ (s : Seen). s.relevant) seen))))) (s ∷ seen)
    by true e h = (
      λ q. among_here s.actor (map (λ (s : Seen). s.actor) (filter (λ (s : Seen). s.relevant) seen)) s.actor refl,
      all_earlier (map (λ (s : Seen). s.actor) (filter (λ (s : Seen). s.relevant) seen))
          (s.actor ∷ map (λ (s : Seen). s.actor) (filter (λ (s : Seen). s.relevant) seen)) seen
          (λ a r. among_there s.actor (map (λ (s : Seen). s.actor) (filter (λ (s : Seen). s.relevant) seen)) a r) h,
    )
    by false e h = (λ q. absurd (false≢true (sym e ∙ q)), h)

shown_more : (f g : List ℕ) (feed : List Event) → ((a : ℕ) → is_among a f ≡ true → is_among a g ≡ true)
    → AreShown (IsEarlier f) feed → AreShown (IsEarlier g) feed
shown_more f g [] le h = tt
shown_more f g (Tick sight ∷ feed) le h = (all_earlier f g sight le h.0, shown_more f g feed le h.1)
shown_more f g (Got bytes ∷ feed) le h = shown_more f g feed le h
shown_more f g (Call a n args ∷ feed) le h = shown_more f g feed le h

shown_earlier : (feed : List Event) → AreShown (IsEarlier (flat_map relevant_in feed)) feed
shown_earlier [] = tt
shown_earlier (Tick sight ∷ feed) = (
  all_earlier (relevant_in (Tick sight)) (relevant_in (Tick sight) ++ flat_map relevant_in feed) sight
      (λ a e. among_left (relevant_in (Tick sight)) (flat_map relevant_in feed) a e) (so_earlier sight),
  shown_more (flat_map relevant_in feed) (relevant_in (Tick sight) ++ flat_map relevant_in feed) feed
      (λ a e. among_right (relevant_in (Tick sight)) (flat_map relevant_in feed) a e) (shown_earlier feed),
)
shown_earlier (Got bytes ∷ feed) = shown_earlier feed
shown_earlier (Call a n args ∷ feed) = shown_earlier feed

-- each actor that was opened was relevant in a sight
pub opened_earlier : (end : End) (feed : List Event) (a : ℕ) → was_opened (past_of end feed) a ≡ true
    → is_among a (flat_map relevant_in feed) ≡ true
opened_earlier end feed a e = by (opened_class (past_of end feed) a) refl e
  where
    by : (o : Option Class) → opened_class (past_of end feed) a ≡ o → is_some o ≡ true
        → is_among a (flat_map relevant_in feed) ≡ true
    by None q e = absurd (false≢true e)
    by (Some class) q e = opened_so (IsEarlier (flat_map relevant_in feed)) end feed (shown_earlier feed) a class q
