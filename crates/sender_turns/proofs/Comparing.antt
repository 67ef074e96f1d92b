-- The handles of an actor that are due, as they are marked by a comparison.
use Rattle.std.proofs.Common.{◌≡◌, ◌∙◌, inl, inr, ℕ, List, [], ◌∷◌, map, length, Bool, true, false, not, cond, ◌&&◌, nat_lt, ap, sym, refl, arith, Option, Some, None, ℤ}
use Rattle.std.specs.List.{filter, list_all}
use Rattle.std.proofs.lemmas.Bool.{cases_eq, eq-eqb, ne_eqb, lt-ltb}
use Rattle.protocol_model.specs.Value.{Pair, value_among}
use Rattle.protocol_model.specs.World.{class_at}
use Rattle.change_model.specs.Changes.{Sample, changes_since}
use Rattle.connection_model.specs.Feed.{Past}
use Rattle.connection_model.specs.Carry.{is_updatable, is_due_pair, due_pairs}
use Rattle.class_layout.specs.Tables.{Layout, table_in}
use Rattle.value_codec.specs.declared.pair.Pair.{Pair as PairValue}
use Rattle.shadow_changes.specs.declared.change.Change.{Change as ChangeValue}
use Rattle.shadow_changes.specs.Lists.{AreRising, last_tick}
use Rattle.shadow_changes.specs.Samples.{change_value}
use Rattle.sender_laws.specs.Values.{AreInTurn, tick_now}
use Rattle.sender_records.specs.Handles.{HandlesKept, handle_in, pairs_of, AreApart, IsSampled, is_updatable_in}
use Rattle.sender_steps.specs.declared.sight.Seen.{Seen as SeenValue}
use Rattle.sender_steps.specs.Sights.{seen_value}
use Rattle.sender_turns.specs.Turning.{AreSampled, marked_pairs}

-- samples that change lists stand for are in turn
pub in_turn : (samples : List Sample) → AreRising samples → AreInTurn samples
in_turn [] h = tt
in_turn (s ∷ []) h = (h.0, tt)
in_turn (s ∷ t ∷ samples) h = (h.0, in_turn (t ∷ samples) h.1)

-- the tick of the newest sample, by either name
pub same_tick : (samples : List Sample) → last_tick samples ≡ tick_now samples
same_tick [] = refl
same_tick (s ∷ samples) = refl

pub sampled : (samples : List Sample) (since : ℕ) (values : List PairValue) (changes : List ChangeValue)
    → AreSampled samples values → map change_value changes ≡ changes_since samples since
    → IsSampled samples since values changes
sampled samples since values changes h told = record { apart = h.0; agrees = h.1; told = told }

-- tests that agree on each handle with its value leave the same of those that pass a first test
filters_same : (f g u : Pair → Bool) (pairs : List Pair) → AreApart pairs
    → ((h : ℕ) (v : ℤ) → value_among pairs h ≡ Some v → u (record { handle = h; value = v }) ≡ true
    → f (record { handle = h; value = v }) ≡ g (record { handle = h; value = v }))
    → filter f (filter u pairs) ≡ filter g (filter u pairs)
filters_same f g u [] a same = refl
filters_same f g u (p ∷ pairs) a same =
    by (u p) refl (filters_same f g u pairs a.1 (λ h v e up. same h v (deeper h v e) up))
  where
    deeper : (h : ℕ) (v : ℤ) → value_among pairs h ≡ Some v → value_among (p ∷ pairs) h ≡ Some v
    deeper h v e = elim (cases_eq p.handle h) [
      | inl is ↦ absurd (let no : (let o : Option ℤ = None in o) ≡ Some v = sym a.0 ∙ ap (value_among pairs) is ∙ e in
          cc)
      | inr ne ↦ ap (λ (b : Bool). cond b (Some p.value) (value_among pairs h)) (ne_eqb p.handle h ne) ∙ e
    ]

    here : u p ≡ true → f p ≡ g p
    here up = same p.handle p.value
        (ap (λ (b : Bool). cond b (Some p.value) (value_among pairs p.handle)) (eq-eqb p.handle p.handle refl)) up

    by : (b : Bool) → u p ≡ b → filter f (filter u pairs) ≡ filter g (filter u pairs)
        → filter f (cond b (p ∷ filter u pairs) (filter u pairs)) ≡ filter g
        (cond b (p ∷ filter u pairs) (filter u pairs))
    by true e rest =
        ap (λ (b : Bool). cond b (p ∷ filter f (filter u pairs)) (filter f (filter u pairs))) (here e)
        ∙ ap (λ (l : List Pair). cond (g p) (p ∷ l) l) rest
    by false e rest = rest

-- where each updatable handle is marked as it is due, the due handles are the marked ones
pub due_marked : (layout : Layout) (past : Past) (s : SeenValue) (t : HandlesKept) → AreApart (pairs_of s.values)
    → ((h : ℕ) (v : ℤ) → value_among (pairs_of s.values) h ≡ Some v
    → is_updatable_in (class_at (table_in layout) s.class) s.owns h ≡ true
    → is_due_pair past s.actor (record { handle = h; value = v }) ≡ (handle_in t.handles h).marked)
    → due_pairs past (seen_value layout s) ≡ marked_pairs t (seen_value layout s)
due_marked layout past s t apart same =
    filters_same (is_due_pair past s.actor) (λ (p : Pair). (handle_in t.handles p.handle).marked)
    (is_updatable (seen_value layout s)) (pairs_of s.values) apart same

-- some are left by a filter exactly where not all fail its test
pub some_left : (m : Pair → Bool) (pairs : List Pair)
    → nat_lt 0 (length (filter m pairs)) ≡ not (list_all (λ (p : Pair). not (m p)) pairs)
some_left m [] = refl
some_left m (p ∷ pairs) = by (m p) (some_left m pairs)
  where
    by : (b : Bool) → nat_lt 0 (length (filter m pairs)) ≡ not (list_all (λ (p : Pair). not (m p)) pairs)
        → nat_lt 0 (length (cond b (p ∷ filter m pairs) (filter m pairs)))
        ≡ not (not b && list_all (λ (p : Pair). not (m p)) pairs)
    by true e = lt-ltb 0 (length (p ∷ filter m pairs)) (omega arith)
    by false e = e

-- what one found marked says of a test of those that aren't
pub marked_fails : (r u m : Bool) → r ≡ (u && m) → (u && not (not m)) ≡ r
marked_fails r true true e = sym e
marked_fails r true false e = sym e
marked_fails r false m e = sym e
