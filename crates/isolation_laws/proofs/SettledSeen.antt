-- Whether an actor is settled for a player goes by what the player's sight shows of it.
use Rattle.std.proofs.Common.{◌≡◌, ◌≢◌, ℕ, ◌==◌, List, [], ◌∷◌, Bool, true, false, cond, not, ◌&&◌, ◌||◌, refl, sym, ap, ◌∙◌, Some, None, is_some, filter_map}
use Rattle.std.specs.List.{cons_option, list_any}
use Rattle.std.proofs.lemmas.Bool.{and_parts, eqb-true, false≢true}
use Rattle.protocol_model.specs.Search.{is_among}
use Rattle.protocol_model.specs.Sight.{Seen, is_relevant, reaches, seen_of, destroyed_of, entry_of, sight}
use Rattle.protocol_model.specs.Value.{Table}
use Rattle.protocol_model.specs.World.{Edits, actors_of, class_of, destroys, lives, spawn_of}
use Rattle.connection_model.specs.Feed.{Past, has_ended}
use Rattle.connection_model.specs.Settled.{is_settled, is_settled_as}
use Rattle.driver_laws.proofs.Actors.{spawned_among}

-- ---- tests

both_false : (x y : Bool) → y ≡ false → (x && y) ≡ false
both_false true y e = e
both_false false y e = refl

share : (x y k : Bool) → (cond x k false || (y && k)) ≡ ((x || y) && k)
share true true true = refl
share true true false = refl
share true false true = refl
share true false false = refl
share false y k = refl

regroup : (x y z : Bool) → (x && y && z) ≡ (x && (y && z))
regroup true y z = refl
regroup false y z = refl

-- ---- one world

module _ (table : Table) (edits : Edits) (n : ℕ) (past : Past) (a : ℕ) where
  -- the entry is the actor's, and shows it settled
  abbrev shows_settled : Seen → Bool
  shows_settled seen = seen.actor == a && seen.relevant && is_settled_as past seen

  -- the actor is relevant, and settled as it is seen
  abbrev holds : Bool
  holds = is_relevant table edits n a && is_settled_as past (seen_of table edits n a)

  -- one more actor's entry shows it where it is the actor
  one_entry : (earlier : List ℕ) (rest : List Seen) (b : ℕ)
      → list_any shows_settled (cons_option (entry_of table edits n earlier b) rest)
      ≡ (cond (b == a) holds false || list_any shows_settled rest)
  one_entry earlier rest b =
      by (b == a) (is_relevant table edits n b) (not (lives edits b) && is_among b earlier) refl refl
    where
      by : (e r d : Bool) → (b == a) ≡ e → is_relevant table edits n b ≡ r
          → list_any shows_settled
          (cons_option (cond r (Some (seen_of table edits n b)) (cond d (Some (destroyed_of table edits b)) None))
          rest) ≡ (cond e holds false || list_any shows_settled rest)
      by true true d q h =
          let same : b ≡ a = eqb-true b a q in
          ap (λ x. (x && true && is_settled_as past (seen_of table edits n b)) || list_any shows_settled rest) q
          ∙ ap (λ s. s || list_any shows_settled rest)
          (ap (λ c. is_settled_as past (seen_of table edits n c)) same
          ∙ sym (ap (λ x. x && is_settled_as past (seen_of table edits n a))
          (ap (is_relevant table edits n) (sym same) ∙ h)))
      by true false true q h =
          let same : b ≡ a = eqb-true b a q in
          ap (λ x. (x && false && is_settled_as past (destroyed_of table edits b)) || list_any shows_settled rest) q
          ∙ sym (ap (λ x. (x && is_settled_as past (seen_of table edits n a)) || list_any shows_settled rest)
          (ap (is_relevant table edits n) (sym same) ∙ h))
      by true false false q h =
          let same : b ≡ a = eqb-true b a q in
          sym (ap (λ x. (x && is_settled_as past (seen_of table edits n a)) || list_any shows_settled rest)
          (ap (is_relevant table edits n) (sym same) ∙ h))
      by false true d q h =
          ap (λ x. (x && true && is_settled_as past (seen_of table edits n b)) || list_any shows_settled rest) q
      by false false true q h =
          ap (λ x. (x && false && is_settled_as past (destroyed_of table edits b)) || list_any shows_settled rest) q
      by false false false q h = refl

  -- so all entries show it where it is among them
  all_entries : (earlier bs : List ℕ)
      → list_any shows_settled (filter_map (entry_of table edits n earlier) bs) ≡ (is_among a bs && holds)
  all_entries earlier [] = refl
  all_entries earlier (b ∷ bs) =
      one_entry earlier (filter_map (entry_of table edits n earlier) bs) b
      ∙ ap (λ x. cond (b == a) holds false || x) (all_entries earlier bs)
      ∙ share (b == a) (is_among a bs) holds

  -- what isn't among them isn't relevant
  among_if_relevant : (r : Bool) → is_relevant table edits n a ≡ r → (is_among a (actors_of edits) && holds) ≡ holds
  among_if_relevant true h = ap (λ x. x && holds) (spawned_among edits a spawned)
    where
      spawned : spawn_of edits a ≢ None
      spawned e =
          let alive = (and_parts (lives edits a) (reaches (class_of table edits a).reach table edits n a) h).0 in
          let some = (and_parts (is_some (spawn_of edits a)) (not (list_any (destroys a) edits)) alive).0 in
          false≢true (sym (ap is_some e) ∙ some)
  among_if_relevant false h =
      let none : holds ≡ false = ap (λ x. x && is_settled_as past (seen_of table edits n a)) h in
      both_false (is_among a (actors_of edits)) holds none ∙ sym none

  -- the sight shows it
  sight_shows : (earlier : List ℕ) → list_any shows_settled (sight table edits n earlier) ≡ holds
  sight_shows earlier = all_entries earlier (actors_of edits) ∙ among_if_relevant (is_relevant table edits n a) refl

  settled_by : is_settled table edits n past a ≡ (not (has_ended past) && holds)
  settled_by =
      regroup (not (has_ended past)) (is_relevant table edits n a) (is_settled_as past (seen_of table edits n a))

-- in two worlds that show the player one sight an actor is settled in both or in neither
pub settled_same : (table : Table) (one other : Edits) (n : ℕ) (past : Past) (a : ℕ) (earlier : List ℕ)
    → sight table one n earlier ≡ sight table other n earlier
    → is_settled table one n past a ≡ is_settled table other n past a
settled_same table one other n past a earlier e =
    settled_by table one n past a
    ∙ ap (λ b. not (has_ended past) && b)
    (sym (sight_shows table one n past a earlier)
    ∙ ap (list_any (λ (seen : Seen). seen.actor == a && seen.relevant && is_settled_as past seen)) e
    ∙ sight_shows table other n past a earlier)
    ∙ sym (settled_by table other n past a)
