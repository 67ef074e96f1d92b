-- The sight given leaves out what it may.
use Rattle.std.proofs.Common.{◌≡◌, ℕ, List, [], ◌∷◌, Bool, true, false, cond, ◌&&◌, not, refl, sym, ◌∙◌, Some, None}
use Rattle.std.specs.List.{filter_map, cons_option}
use Rattle.std.proofs.lemmas.Bool.{false≢true}
use Rattle.protocol_model.specs.Search.{is_among}
use Rattle.protocol_model.specs.Value.{Table}
use Rattle.protocol_model.specs.World.{Edits, actors_of, lives}
use Rattle.protocol_model.specs.Sight.{Seen, is_relevant, seen_of, destroyed_of, entry_of, sight}
use Rattle.connection_model.specs.Feed.{Past}
use Rattle.connection_model.specs.Items.{is_quiet}
use Rattle.sight_laws.specs.Sights.{Shows, unvalued}
use Rattle.sight_laws.specs.Sights.Shows.{none, as_it_is, without_values, without_entry}
use Rattle.driver_laws.specs.Given.{shown_as, given_entry, given_sight, AreGone}

module _ (table : Table) (edits : Edits) (player : ℕ) (past : Past) (earlier : List ℕ) (gone : ℕ → Bool)
    (h : AreGone edits past earlier gone) where
  relevant_given : (a : ℕ) (shown given : List Seen) → (b : Bool) → is_quiet past (seen_of table edits player a) ≡ b
      → Shows past shown given
      → Shows past (seen_of table edits player a ∷ shown)
      (cond b (unvalued (seen_of table edits player a)) (seen_of table edits player a) ∷ given)
  relevant_given a shown given true q s = without_values q s
  relevant_given a shown given false q s = as_it_is s

  dead_given : (a : ℕ) (shown given : List Seen) → (l e g : Bool) → lives edits a ≡ l → is_among a earlier ≡ e
      → gone a ≡ g → Shows past shown given
      → Shows past (cons_option (cond (not l && e) (Some (destroyed_of table edits a)) None) shown)
      (cons_option (cond g (Some (destroyed_of table edits a)) None) given)
  dead_given a shown given true e true ql qe qg s = absurd (false≢true (sym (h.dead a qg) ∙ ql))
  dead_given a shown given true e false ql qe qg s = s
  dead_given a shown given false true true ql qe qg s = as_it_is s
  dead_given a shown given false true false ql qe qg s =
      without_entry {seen = destroyed_of table edits a} (h.all a ql qe qg) s
  dead_given a shown given false false true ql qe qg s = absurd (false≢true (sym qe ∙ h.shown a qg))
  dead_given a shown given false false false ql qe qg s = s

  one : (a : ℕ) (shown given : List Seen) → (r : Bool) → is_relevant table edits player a ≡ r → Shows past shown given
      → Shows past
      (cons_option (cond r (Some (seen_of table edits player a))
      (cond (not (lives edits a) && is_among a earlier) (Some (destroyed_of table edits a)) None)) shown)
      (cons_option (cond r (Some (shown_as past (seen_of table edits player a)))
      (cond (gone a) (Some (destroyed_of table edits a)) None)) given)
  one a shown given true q s = relevant_given a shown given (is_quiet past (seen_of table edits player a)) refl s
  one a shown given false q s =
      dead_given a shown given (lives edits a) (is_among a earlier) (gone a) refl refl refl s

  all : (actors : List ℕ) → Shows past (filter_map (entry_of table edits player earlier) actors)
      (filter_map (given_entry table edits player past gone) actors)
  all [] = none
  all (a ∷ actors) = one a _ _ (is_relevant table edits player a) refl (all actors)

  pub given_shows : Shows past (sight table edits player earlier) (given_sight table edits player past gone)
  given_shows = all (actors_of edits)
