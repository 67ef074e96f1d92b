-- What the client knows once an open is made: what it knew, and the open's segments once all up to its last part has
-- arrived.
use Rattle.std.proofs.Common.{◌≡◌, ◌∙◌, ℕ, zero, suc, ◌+◌, ◌<◌, ◌≤◌, ◌==◌, List, [], ◌∷◌, ◌++◌, Bool, true, false, ◌&&◌, ◌||◌, slice_index_or, refl, ap, sym, subst, arith}
use Rattle.std.specs.List.{list_any}
use Rattle.std.proofs.lemmas.List.Folds.{list_any-append}
use Rattle.std.proofs.lemmas.Bool.{eq-eqb}
use Rattle.std.proofs.lemmas.Bool.Decides.{nat_tests}
use Rattle.protocol_model.specs.Payload.{Message, parts_of}
use Rattle.protocol_model.specs.Search.{is_among}
use Rattle.connection_model.specs.Feed.{Past, Made}
use Rattle.connection_model.specs.Bunches.{made_count, have_arrived, span, after_making}
use Rattle.connection_model.specs.Exports.{exports_segment, made_known}
use Rattle.connection_laws.proofs.ActorMarks.{Grows}
use Rattle.connection_laws.proofs.Moves.{making_keeps}
use Rattle.connection_laws.proofs.Spans.{some_parts}
use Rattle.sender_laws.specs.Acts.{are_sent}
use Rattle.sender_laws.proofs.Arriving.{clear_is, have_split, have_stays}
use Rattle.sender_laws.proofs.Makes.{arrivals_under, count_sent}
use Rattle.sender_steps.specs.declared.sent.OpenSent.{OpenSent}
use Rattle.sender_turns.specs.Opening.{with_open}
use Rattle.sender_steps.specs.Stands.{KnowsMade, makes_known, is_known_by}
use Rattle.sender_steps.proofs.KnownMade.{known_before, known_makes}

-- its first part makes its segments known, once all its parts have arrived
open_known : (later past : Past) (ch : ℕ) (m : Message) (g : ℕ)
    → list_any (made_known later g) (after_making past ch m)
    ≡ ((exports_segment g m && have_arrived later ch (made_count past ch + 1) (parts_of m)) || list_any
    (made_known later g) past)
open_known later past ch m g =
    some (parts_of m) (some_parts m) (making_keeps AreKnown past ch m refl step)
  where
    new : Bool
    new = exports_segment g m && have_arrived later ch (made_count past ch + 1) (parts_of m)

    before : Bool
    before = list_any (made_known later g) past

    AreKnown : ℕ → Past → Type 0
    AreKnown zero deeds = list_any (made_known later g) deeds ≡ before
    AreKnown (suc i) deeds = list_any (made_known later g) deeds ≡ (new || before)

    step : (i : ℕ) (deeds : Past) → i < parts_of m → AreKnown i deeds
        → AreKnown (suc i) (Made ch (made_count past ch + 1 + i) m i ∷ deeds)
    step zero deeds l h =
        ap (λ (n : ℕ). (exports_segment g m && have_arrived later ch n (parts_of m)) || list_any
        (made_known later g) deeds) (first (made_count past ch + 1))
        ∙ ap (λ (b : Bool). new || b) h
      where
        first : (n : ℕ) → n + 0 ≡ n
        first n = omega arith
    step (suc i) deeds l h =
        ap (λ (b : Bool). (b && exports_segment g m && have_arrived later ch (made_count past ch + 1 + suc i)
        (parts_of m)) || list_any (made_known later g) deeds) (never i)
        ∙ h
      where
        never : (i : ℕ) → (suc i == 0) ≡ false
        never i = grind (arith, nat_tests)

    some : (parts : ℕ) → 1 ≤ parts → AreKnown parts (after_making past ch m)
        → list_any (made_known later g) (after_making past ch m) ≡ (new || before)
    some zero l h = absurd (omega arith)
    some (suc parts) l h = h

-- all up to its last part has arrived where its parts have, on a channel that was clear
up_to_last : (past later : Past) (ch m parts : ℕ) → Grows past later → span past ch ≡ 0 → made_count past ch ≡ m
    → have_arrived later ch 1 (m + parts) ≡ have_arrived later ch (m + 1) parts
up_to_last past later ch m parts grows clear count =
    have_split later ch 1 m parts
    ∙ ap (λ (b : Bool). b && have_arrived later ch (1 + m) parts) all
    ∙ ap (λ (n : ℕ). have_arrived later ch n parts) (omega arith)
  where
    all : have_arrived later ch 1 m ≡ true
    all = have_stays past later grows ch 1 m (subst (λ (n : ℕ). have_arrived past ch 1 n ≡ true) count
        (clear_is past ch ∙ eq-eqb (span past ch) 0 clear))

-- the segments known, in either order
in_order : (s n p k q : Bool) → (s || p) ≡ (k || q) → (s || (n || p)) ≡ (k || (q || (n || false)))
in_order s true p k q h = yes s (n_last k q)
  where
    yes : {b : Bool} (s : Bool) → true ≡ b → (s || true) ≡ b
    yes true h = h
    yes false h = h

    n_last : (k q : Bool) → true ≡ (k || (q || true))
    n_last true q = refl
    n_last false true = refl
    n_last false false = refl
in_order s false p k q h = h ∙ ap (λ (b : Bool). k || b) (no_more q)
  where
    no_more : (q : Bool) → q ≡ (q || false)
    no_more true = refl
    no_more false = refl

-- the open that is kept makes known what it exports
one_open : (later : Past) (g : ℕ) (opens : List OpenSent) (o : OpenSent) (guids : List ℕ) → o.guids ≡ guids
    → list_any (makes_known later g) (with_open opens o)
    ≡ (list_any (makes_known later g) opens || (makes_known later g o || false))
one_open later g opens o [] e =
    ap (λ (opens : List OpenSent). list_any (makes_known later g) opens) (none o e)
    ∙ no_more (list_any (makes_known later g) opens)
    ∙ ap (λ (b : Bool). list_any (makes_known later g) opens || (b || false))
    (sym (ap (λ (ns : List ℕ). is_among g ns && have_arrived later o.channel 1 o.last) e))
  where
    none : (o : OpenSent) → o.guids ≡ [] → with_open opens o ≡ opens
    none o e = rw e refl

    no_more : (q : Bool) → q ≡ (q || false)
    no_more true = refl
    no_more false = refl
one_open later g opens o (h ∷ guids) e =
    ap (λ (opens : List OpenSent). list_any (makes_known later g) opens) (some o e)
    ∙ list_any-append (makes_known later g) opens (o ∷ [])
  where
    some : (o : OpenSent) → o.guids ≡ h ∷ guids → with_open opens o ≡ opens ++ o ∷ []
    some o e = rw e refl

-- what is known of the deeds with an open is what is kept of them, once that is so without it
open_then : (sent past later : Past) (m : Message) (o : OpenSent) (known : List Bool) (opens : List OpenSent)
    → are_sent sent ≡ true → span (sent ++ past) o.channel ≡ 0 → o.last ≡ made_count past o.channel + parts_of m
    → ((g : ℕ) → exports_segment g m ≡ is_among g o.guids) → Grows (sent ++ past) later → (g : ℕ)
    → list_any (made_known later g) (sent ++ past) ≡ is_known_by later known opens g
    → list_any (made_known later g) (sent ++ after_making past o.channel m)
    ≡ is_known_by later known (with_open opens o) g
open_then sent past later m o known opens sends clear last exports goes_on g before =
    let ch = o.channel in
    let sendings = list_any (made_known later g) sent in
    let new = exports_segment g m && have_arrived later ch (made_count past ch + 1) (parts_of m) in
    let mine : new ≡ makes_known later g o =
    ap (λ (b : Bool). b && have_arrived later ch (made_count past ch + 1) (parts_of m)) (exports g)
    ∙ ap (λ (b : Bool). is_among g o.guids && b) (sym (up_to_last (sent ++ past) later ch (made_count past ch)
    (parts_of m) goes_on clear (count_sent sent past sends ch)))
    ∙ ap (λ (n : ℕ). is_among g o.guids && have_arrived later ch 1 n) (sym last) in
    list_any-append (made_known later g) sent (after_making past ch m)
    ∙ ap (λ (b : Bool). sendings || b) (open_known later past ch m g)
    ∙ in_order sendings new (list_any (made_known later g) past) (slice_index_or known g false)
    (list_any (makes_known later g) opens)
    (sym (list_any-append (made_known later g) sent past) ∙ before)
    ∙ ap (λ (b : Bool). slice_index_or known g false || (list_any (makes_known later g) opens || (b || false))) mine
    ∙ ap (λ (b : Bool). slice_index_or known g false || b) (sym (one_open later g opens o o.guids refl))

-- once an open is made and kept, what is known later is told by the places and the opens
pub made_opened : (sent past : Past) (m : Message) (o : OpenSent) (known : List Bool) (opens : List OpenSent)
    → are_sent sent ≡ true → span (sent ++ past) o.channel ≡ 0 → o.last ≡ made_count past o.channel + parts_of m
    → ((g : ℕ) → exports_segment g m ≡ is_among g o.guids) → KnowsMade (sent ++ past) known opens
    → KnowsMade (sent ++ after_making past o.channel m) known (with_open opens o)
made_opened sent past m o known opens sends clear last exports knows later made grows g =
    let goes_on : Grows (sent ++ past) later = λ c n e. grows c n (arrivals_under sent past o.channel m c n ∙ e) in
    known_makes later (sent ++ after_making past o.channel m) made later g
    ∙ open_then sent past later m o known opens sends clear last exports goes_on g
    (known_before (sent ++ past) later known opens goes_on knows g)
