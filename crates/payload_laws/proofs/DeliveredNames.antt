-- A client whose opens exported segments of the table knows them all, and nothing else.
use Rattle.std.proofs.Common.{◌≡◌, List, [], ◌∷◌, ◌++◌, reverse, sym, ap, ◌∙◌, subst}
use Rattle.std.specs.List.{fold, flat_map}
use Rattle.std.proofs.lemmas.List.{reverse-append}
use Rattle.std.proofs.lemmas.List.Concat.{flat_map-append}
use Rattle.protocol_model.specs.Value.{Segment}
use Rattle.table_model.specs.Facts.{IsTable}
use Rattle.table_model.specs.Rules.{Entry, segments_of}
use Rattle.connection_model.specs.Feed.{Past, Delivered}
use Rattle.connection_model.specs.Names.{names_in, names_with, names_of}
use Rattle.connection_model.specs.Copies.{delivered_of}
use Rattle.payload_laws.specs.Learning.{StandAmong, AreAmong, Knows, KnowsAll}
use Rattle.payload_laws.specs.Delivered.{ExportsStand, ExportsKnown}
use Rattle.payload_laws.proofs.Learning.{AreOne, added}

-- ---- names folded in

-- names of the table with more of them learnt
record Folded (segments names xs : List Segment) : Type 0 where
  pub among : AreAmong segments (fold names_with names xs)
  pub keeps : (t : Segment) → Knows names t → Knows (fold names_with names xs) t
  pub all : KnowsAll (fold names_with names xs) xs

-- each is learnt without a clash
folded : (segments names xs : List Segment) → AreOne segments → AreAmong segments names → StandAmong segments xs → Folded segments names xs
folded segments names [] one among stand = record { among = among; keeps = λ t h. h; all = tt }
folded segments names (s ∷ xs) one among stand =
    let a = added segments names s stand.0.0 one among stand.0.1 in
    let later = folded segments (names_with names s) xs one a.among stand.1 in
    record { among = later.among; keeps = λ t h. later.keeps t (a.keeps t h); all = (later.keeps s a.knows, later.all) }

-- ---- whole lists of payloads

stand_append : (segments xs ys : List Segment) → StandAmong segments xs → StandAmong segments ys → StandAmong segments (xs ++ ys)
stand_append segments [] ys a b = b
stand_append segments (x ∷ xs) ys a b = (a.0, stand_append segments xs ys a.1 b)

knows_left : (names xs ys : List Segment) → KnowsAll names (xs ++ ys) → KnowsAll names xs
knows_left names [] ys h = tt
knows_left names (x ∷ xs) ys h = (h.0, knows_left names xs ys h.1)

knows_right : (names xs ys : List Segment) → KnowsAll names (xs ++ ys) → KnowsAll names ys
knows_right names [] ys h = h
knows_right names (x ∷ xs) ys h = knows_right names xs ys h.1

-- all that these payloads exported, the oldest first
exported : List Delivered → List Segment
exported ds = flat_map names_in (reverse ds)

-- the newest payload's exports come last
exported_is : (d : Delivered) (ds : List Delivered) → exported (d ∷ ds) ≡ exported ds ++ (names_in d ++ [])
unfolding exported
exported_is d ds = ap (flat_map names_in) (reverse-append (d ∷ []) ds) ∙ flat_map-append names_in (reverse ds) (d ∷ [])

exported_stand : (segments : List Segment) (ds : List Delivered) → ExportsStand segments ds → StandAmong segments (exported ds)
unfolding exported
exported_stand segments [] h = tt
exported_stand segments (d ∷ ds) h =
    subst (λ (xs : List Segment). StandAmong segments xs) (sym (exported_is d ds)) (stand_append segments (exported ds) (names_in d ++ []) (exported_stand segments ds h.1) (stand_append segments (names_in d) [] h.0 tt))

exported_known : (names : List Segment) (ds : List Delivered) → KnowsAll names (exported ds) → ExportsKnown names ds
exported_known names [] h = tt
exported_known names (d ∷ ds) h =
    let parts : KnowsAll names (exported ds ++ (names_in d ++ [])) = subst (λ (xs : List Segment). KnowsAll names xs) (exported_is d ds) h in
    (knows_left names (names_in d) [] (knows_right names (exported ds) (names_in d ++ []) parts), exported_known names ds (knows_left names (exported ds) (names_in d ++ []) parts))

-- at first no name is known
no_names : (segments : List Segment) → AreAmong segments []
no_names segments g s h = absurd (cc)

-- a client's names are segments of the table
pub names_among : (entries : List Entry) (past : Past) → IsTable entries → ExportsStand (segments_of entries) (delivered_of past) → AreAmong (segments_of entries) (names_of past)
unfolding exported
names_among entries past is h =
    let segments : List Segment = segments_of entries in
    (folded segments [] (exported (delivered_of past)) is.segments.same (no_names segments) (exported_stand segments (delivered_of past) h)).among

-- and hold each segment that an open exported
pub names_hold : (entries : List Entry) (past : Past) → IsTable entries → ExportsStand (segments_of entries) (delivered_of past) → ExportsKnown (names_of past) (delivered_of past)
unfolding exported
names_hold entries past is h =
    let segments : List Segment = segments_of entries in
    exported_known (names_of past) (delivered_of past) (folded segments [] (exported (delivered_of past)) is.segments.same (no_names segments) (exported_stand segments (delivered_of past) h)).all
