-- One more entry of a destroyed actor, in its place.
use Rattle.std.proofs.Common.{◌≡◌, ◌≢◌, ℕ, ◌<◌, ◌≤◌, ◌==◌, ◌||◌, List, [], ◌∷◌, Bool, true, false, cond, refl, sym, ap, ◌∙◌, arith, Option, Some, None}
use Rattle.std.specs.Prelude.{nat_lt}
use Rattle.std.specs.List.{filter_map, cons_option}
use Rattle.std.proofs.lemmas.Bool.{false≢true, eqb-true}
use Rattle.std.proofs.lemmas.Bool.Decides.{nat_tests}
use Rattle.std.proofs.lemmas.Option.{same_Some, none-some}
use Rattle.protocol_model.specs.Search.{is_among, insert_in_order}
use Rattle.protocol_model.specs.Sight.{Seen, is_relevant, seen_of, destroyed_of}
use Rattle.protocol_model.specs.Value.{Table}
use Rattle.protocol_model.specs.World.{Edits, actors_of}
use Rattle.connection_model.specs.Feed.{Past}
use Rattle.connection_model.specs.Items.{is_quiet}
use Rattle.connection_laws.specs.Run.{Ascends}
use Rattle.driver_laws.specs.Counted.{goes_before}
use Rattle.driver_laws.specs.Given.{shown_as, given_entry, given_sight}
use Rattle.driver_laws.proofs.Actors.{actors_ascend}
use Rattle.sight_laws.specs.Sights.{unvalued}

-- two ways to give actors entries, the second of which has one of b beside those of the first
record IsMore (E F : ℕ → Option Seen) (b : ℕ) (x : Seen) : Type 0 where
  own : (a : ℕ) (s : Seen) → E a ≡ Some s → s.actor ≡ a
  none : E b ≡ None
  some : F b ≡ Some x
  actor : x.actor ≡ b
  other : (a : ℕ) → a ≢ b → F a ≡ E a

lt_yes : (m n : ℕ) → m < n → nat_lt m n ≡ true
lt_yes m n h = grind (arith, nat_tests)

lt_no : (m n : ℕ) → n ≤ m → nat_lt m n ≡ false
lt_no m n h = grind (arith, nat_tests)

above : (E F : ℕ → Option Seen) (b : ℕ) (x : Seen) → IsMore E F b x → (low : ℕ) (actors : List ℕ) → b ≤ low
    → Ascends low actors
    → (filter_map F actors ≡ filter_map E actors)
    × (insert_in_order goes_before x (filter_map E actors) ≡ x ∷ filter_map E actors)
above E F b x h low [] le r = (refl, refl)
above E F b x h low (a ∷ actors) le r =
    let rest = above E F b x h a actors (omega (arith, le, r.0)) r.1 in
    let same : F a ≡ E a = h.other a (λ e. absurd (omega (arith, e, le, r.0))) in (
      ap (λ (o : Option Seen). cons_option o (filter_map F actors)) same
          ∙ ap (cons_option (E a)) rest.0,
      by (E a) refl rest.1,
    )
  where
    by : (o : Option Seen) → E a ≡ o
        → insert_in_order goes_before x (filter_map E actors) ≡ x ∷ filter_map E actors
        → insert_in_order goes_before x (cons_option o (filter_map E actors)) ≡ x ∷ cons_option o (filter_map E actors)
    by None e ih = ih
    by (Some s) e ih =
        let is = h.own a s e in
        rw (lt_no s.actor x.actor (omega (arith, is, h.actor, le, r.0))) refl

among_above : (low b : ℕ) (ns : List ℕ) → Ascends low ns → is_among b ns ≡ true → low < b
among_above low b [] r e = absurd (false≢true e)
among_above low b (n ∷ ns) r e = go (n == b) refl e (λ k. among_above n b ns r.1 k)
  where
    go : (t : Bool) → (n == b) ≡ t → (t || is_among b ns) ≡ true → (is_among b ns ≡ true → n < b) → low < b
    go true q e ih = (let is = eqb-true n b q in omega (arith, is, r.0))
    go false q e ih = (let lt = ih e in omega (arith, lt, r.0))

inserted : (E F : ℕ → Option Seen) (b : ℕ) (x : Seen) → IsMore E F b x → (low : ℕ) (actors : List ℕ)
    → Ascends low actors → is_among b actors ≡ true
    → filter_map F actors ≡ insert_in_order goes_before x (filter_map E actors)
inserted E F b x h low [] r e = absurd (false≢true e)
inserted E F b x h low (a ∷ actors) r e = by (a == b) refl e (λ k. inserted E F b x h a actors r.1 k)
  where
    put : (o : Option Seen) → E a ≡ o → a < b
        → filter_map F actors ≡ insert_in_order goes_before x (filter_map E actors)
        → cons_option o (filter_map F actors) ≡ insert_in_order goes_before x (cons_option o (filter_map E actors))
    put None q lt ih = ih
    put (Some s) q lt ih =
        let is = h.own a s q in
        rw (lt_yes s.actor x.actor (omega (arith, is, h.actor, lt))) (ap (λ (xs : List Seen). s ∷ xs) ih)

    by : (t : Bool) → (a == b) ≡ t → (t || is_among b actors) ≡ true
        → (is_among b actors ≡ true → filter_map F actors ≡ insert_in_order goes_before x (filter_map E actors))
        → filter_map F (a ∷ actors) ≡ insert_in_order goes_before x (filter_map E (a ∷ actors))
    by true q e ih =
        let is : a ≡ b = eqb-true a b q in
        let rest = above E F b x h a actors (omega (arith, is)) r.1 in
        ap (λ (o : Option Seen). cons_option o (filter_map F actors)) (ap F is ∙ h.some)
        ∙ ap (λ (xs : List Seen). x ∷ xs) rest.0 ∙ sym rest.1
        ∙ ap (λ (o : Option Seen). insert_in_order goes_before x (cons_option o (filter_map E actors)))
        (sym (ap E is ∙ h.none))
    by false q e ih =
        let lt = among_above a b actors r.1 e in
        ap (λ (o : Option Seen). cons_option o (filter_map F actors)) (h.other a (λ m. absurd (omega (arith, m, lt))))
        ∙ put (E a) refl lt (ih e)

-- ---- the sight given

given_own : (table : Table) (edits : Edits) (player : ℕ) (past : Past) (gone : ℕ → Bool) (a : ℕ) (s : Seen)
    → given_entry table edits player past gone a ≡ Some s → s.actor ≡ a
given_own table edits player past gone a s e = by (is_relevant table edits player a) (gone a) e
  where
    quiet : (q : Bool) → (cond q (unvalued (seen_of table edits player a)) (seen_of table edits player a)).actor ≡ a
    quiet true = refl
    quiet false = refl

    by : (r g : Bool) → cond r (Some (shown_as past (seen_of table edits player a)))
        (cond g (Some (destroyed_of table edits a)) None) ≡ Some s → s.actor ≡ a
    by true g e = ap (λ (t : Seen). t.actor) (sym (same_Some _ s e))
        ∙ quiet (is_quiet past (seen_of table edits player a))
    by false true e = ap (λ (t : Seen). t.actor) (sym (same_Some _ s e))
    by false false e = absurd (none-some s e)

-- one more destroyed actor
pub one_more_gone : (table : Table) (edits : Edits) (player : ℕ) (past : Past) (gone more : ℕ → Bool) (b : ℕ)
    → is_among b (actors_of edits) ≡ true → is_relevant table edits player b ≡ false → gone b ≡ false
    → more b ≡ true → ((a : ℕ) → a ≢ b → more a ≡ gone a)
    → given_sight table edits player past more
    ≡ insert_in_order goes_before (destroyed_of table edits b) (given_sight table edits player past gone)
one_more_gone table edits player past gone more b there out fresh now other =
    inserted (given_entry table edits player past gone) (given_entry table edits player past more) b
    (destroyed_of table edits b)
    (record {
      own = given_own table edits player past gone;
      none = rw (out, fresh) refl;
      some = rw (out, now) refl;
      actor = refl;
      other = λ a ne. rw (other a ne) refl;
    }) 0 (actors_of edits) (actors_ascend edits) there
