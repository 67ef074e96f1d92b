-- Sights of worlds, and sights that may be given for them.
use Rattle.std.proofs.Common.{◌≡◌, ℕ, zero, suc, ◌+◌, ◌*◌, ◌<◌, List, [], ◌∷◌, map, Bool, true, false, not, cond, ◌&&◌, ◌==◌, refl, sym, ap, ◌∙◌, arith, Option, Some, None, option_map, unwrap_or}
use Rattle.std.specs.List.{filter_map, cons_option, range_with_len}
use Rattle.protocol_model.specs.Value.{Table}
use Rattle.protocol_model.specs.World.{Edits, lives, spawn_count}
use Rattle.protocol_model.specs.Search.{is_among}
use Rattle.protocol_model.specs.Sight.{Seen, is_relevant, seen_of, destroyed_of, entry_of, sight, ShowsSame}
use Rattle.protocol_model.specs.Sight.ShowsSame.{none as same_none, as_it_is as same_as_it_is, without_values as same_without_values}
use Rattle.connection_model.specs.Feed.{Past}
use Rattle.connection_model.specs.State.{ActorState, state_of, is_closed, is_asleep}
use Rattle.connection_model.specs.Items.{is_kept, is_quiet}
use Rattle.sight_laws.specs.Sights.{is_done, Shows, AscendsFrom, IsSight}
use Rattle.sight_laws.specs.Sights.Shows.{none, as_it_is, without_values, without_entry}
use Rattle.sight_laws.specs.Differing.{SameButSights}
use Rattle.sight_laws.proofs.Unsighted.{states_same}
use Rattle.sight_laws.proofs.Scoring.{raised}

-- ---- worlds

-- one more actor's entry, if it has one
entry_ascends : (table : Table) (edits : Edits) (player : ℕ) (earlier : List ℕ) (low a : ℕ) (more : List Seen) → low < a
    → AscendsFrom a more
    → AscendsFrom low (cons_option (entry_of table edits player earlier a) more)
entry_ascends table edits player earlier low a more lt h =
    by (is_relevant table edits player a) (not (lives edits a) && is_among a earlier)
  where
    by : (relevant gone : Bool)
        → AscendsFrom low (cons_option
        (cond relevant (Some (seen_of table edits player a)) (cond gone (Some (destroyed_of table edits a)) None))
        more)
    by true gone = (lt, refl, h)
    by false true = (lt, refl, h)
    by false false = raised low a more (omega (arith, lt)) h

entries_ascend : (table : Table) (edits : Edits) (player : ℕ) (earlier : List ℕ) (count low k : ℕ) → low < 2 * k
    → AscendsFrom low (filter_map (entry_of table edits player earlier) (map (λ n. 2 * n) (range_with_len k count)))
entries_ascend table edits player earlier zero low k lt = tt
entries_ascend table edits player earlier (suc count) low k lt =
    entry_ascends table edits player earlier low (2 * k)
    (filter_map (entry_of table edits player earlier) (map (λ n. 2 * n) (range_with_len (k + 1) count))) lt
    (entries_ascend table edits player earlier count (2 * k) (k + 1) (omega arith))

-- what a player sees of a world is a sight
pub world_is_sight : (table : Table) (edits : Edits) (player : ℕ) (earlier : List ℕ)
    → IsSight (sight table edits player earlier)
world_is_sight table edits player earlier =
    entries_ascend table edits player earlier (spawn_count edits) 0 1 (omega arith)

-- ---- what may be given

-- the sight itself
pub shows_itself : (past : Past) (shown : List Seen) → Shows past shown shown
shows_itself past [] = none
shows_itself past (seen ∷ shown) = as_it_is (shows_itself past shown)

-- one without the values of quiet actors alone
pub valueless_shows : (past : Past) {shown given : List Seen} → ShowsSame (is_quiet past) shown given
    → Shows past shown given
valueless_shows past same_none = none
valueless_shows past (same_as_it_is h) = as_it_is (valueless_shows past h)
valueless_shows past (same_without_values q h) = without_values q (valueless_shows past h)

-- whoever went on with other sights judges alike what may be left out
quiet_same : (past other : Past) → SameButSights past other → (seen : Seen) → is_quiet other seen ≡ is_quiet past seen
quiet_same past other h seen =
    ap (λ (s : ActorState). is_asleep s && seen.dormant && is_kept other seen)
    (states_same past other h.done seen.actor)
    ∙ ap (λ (o : Option ℕ). is_asleep (state_of past seen.actor) && seen.dormant && unwrap_or
    (option_map (λ flush. flush == seen.flush) o) false) (h.flush seen.actor)

done_same : (past other : Past) → SameButSights past other → (seen : Seen) → is_done other seen ≡ is_done past seen
done_same past other h seen =
    ap (λ (s : ActorState). seen.destroyed && not seen.relevant && not seen.owns && is_closed s)
    (states_same past other h.done seen.actor)

pub shows_other : (past other : Past) → SameButSights past other → {shown given : List Seen} → Shows other shown given
    → Shows past shown given
shows_other past other h none = none
shows_other past other h (as_it_is s) = as_it_is (shows_other past other h s)
shows_other past other h (without_values {seen = seen} q s) =
    without_values (sym (quiet_same past other h seen) ∙ q) (shows_other past other h s)
shows_other past other h (without_entry {seen = seen} q s) =
    without_entry (sym (done_same past other h seen) ∙ q) (shows_other past other h s)
