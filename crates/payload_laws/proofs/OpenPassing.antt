-- The opens of a server go through at its client.
use Rattle.std.proofs.Common.{◌≡◌, ℕ, suc, ◌≤◌, ◌<◌, ◌^◌, List, [], ◌∷◌, ◌++◌, Bool, true, false, ◌||◌, cond, nat_lt, Some, filter, slice_get, sym, subst, arith, length}
use Rattle.std.specs.List.{fold}
use Rattle.protocol_model.specs.Value.{Segment, Class, class_guid}
use Rattle.protocol_model.specs.World.{Edits}
use Rattle.protocol_model.specs.Sight.{Seen, sight}
use Rattle.table_model.specs.Facts.{IsTable}
use Rattle.table_model.specs.Rules.{Entry, segments_of}
use Rattle.table_model.specs.Grammar.{table_of}
use Rattle.connection_model.specs.Feed.{Past}
use Rattle.connection_model.specs.Names.{names_with, names_of, class_named}
use Rattle.connection_model.specs.Copies.{copy_class, copy_channel, copied_actors, has_copy}
use Rattle.connection_model.specs.PayloadReading.{is_elsewhere, is_other_class}
use Rattle.payload_laws.specs.Accepted.{AreAccepted, StandsIn}
use Rattle.payload_laws.specs.Learning.{AreAmong, KnowsOthers}
use Rattle.payload_laws.specs.Passing.{AreLearnt, OpenPasses}
use Rattle.payload_laws.proofs.TableFacts.{class_below, few_in}
use Rattle.payload_laws.proofs.Naming.{class_learnt, class_is_named}
use Rattle.payload_laws.proofs.Few.{names_few}
use Rattle.payload_laws.proofs.SightSpelling.{sight_spells}

-- a filter drops items
filter_few : {A : Type 0} (test : A → Bool) (xs : List A) → length (filter test xs) ≤ length xs
filter_few test [] = omega arith
filter_few test (x ∷ xs) = by_test (test x) (filter_few test xs)
  where
    by_test : (b : Bool) → length (filter test xs) ≤ length xs → length (cond b (x ∷ filter test xs) (filter test xs)) ≤ suc (length xs)
    by_test true h = omega (arith, h)
    by_test false h = omega (arith, h)

-- what the names give to an open of a class
pub record NamesGive (entries : List Entry) (names : List Segment) (test : Segment → Bool) (class : Class) : Type 0 where
  pub few : length (filter test class.path) < 2 ^ 32
  pub learnt : AreLearnt names (filter test class.path)
  pub guid : class_guid class < 2 ^ 32
  pub named : class_named (table_of entries) (fold names_with names (filter test class.path)) (class_guid class) ≡ Some class

-- names and exports of a class's path give what an open needs
names_give : (entries before : List Entry) (e : Entry) (after : List Entry) (names : List Segment) (test : Segment → Bool) → IsTable entries → entries ≡ before ++ e ∷ after → AreAmong (segments_of entries) names → KnowsOthers names test e.class.path → length names ≤ 65528
    → NamesGive entries names test e.class
names_give entries before e after names test is split among others few =
    let learnt = class_learnt entries before e after names test is split among others few in
    record {
      few = omega (arith, filter_few test e.class.path, few_in entries before e after is split);
      learnt = learnt.learnt;
      guid = class_below entries before e after is split;
      named = class_is_named entries before e after (fold names_with names (filter test e.class.path)) is split learnt.all;
    }

-- the same for a class that stands in the table
pub class_gives : (entries : List Entry) (class : Class) (names : List Segment) (test : Segment → Bool) → IsTable entries → StandsIn entries class → AreAmong (segments_of entries) names → KnowsOthers names test class.path → length names ≤ 65528 → NamesGive entries names test class
class_gives entries class names test is stands among others few =
    subst (λ (c : Class). NamesGive entries names test c) stands.4
    (names_give entries stands.0 stands.1 stands.2 names test is stands.3 among (subst (λ (c : Class). KnowsOthers names test c.path) (sym stands.4) others) few)

-- an open of what is shown goes through at a client that may take it
pub open_passes : (entries : List Entry) (edits : Edits) (player : ℕ) (earlier : List ℕ) (n : ℕ) (seen : Seen) (past : Past) (ch : ℕ) (test : Segment → Bool)
    → IsTable entries → AreAccepted (table_of entries) edits → slice_get (sight (table_of entries) edits player earlier) n ≡ Some seen
    → AreAmong (segments_of entries) (names_of past) → KnowsOthers (names_of past) test seen.class.path
    → is_elsewhere ch (copy_channel past seen.actor) ≡ false → (has_copy past seen.actor || nat_lt (length (copied_actors past)) 8192) ≡ true → is_other_class seen.class (copy_class past seen.actor) ≡ false
    → OpenPasses (table_of entries) past ch (filter test seen.class.path) seen.actor (class_guid seen.class) seen.class seen.values
open_passes entries edits player earlier n seen past ch test is ok there among others here room same =
    let can = sight_spells entries edits player earlier n seen is ok there in
    let give = class_gives entries seen.class (names_of past) test is can.stands among others (omega (arith, names_few entries past is among)) in
    record {
      few = give.few;
      learnt = give.learnt;
      is_actor = can.actor;
      here = here;
      room = room;
      same = same;
      guid_below = give.guid;
      named = give.named;
      limits = can.limits;
      all_fit = can.all_fit;
    }
