-- Destroyed actors, one after the other.
use Rattle.std.proofs.Common.{◌≡◌, ◌≢◌, ℕ, zero, suc, ◌+◌, List, [], ◌∷◌, take, Bool, true, false, ◌==◌, ◌&&◌, ◌||◌, not, Some, refl, sym, ap, ◌∙◌, subst, arith}
use Rattle.std.specs.Prelude.{slice_get}
use Rattle.std.specs.List.{AllByRecursion}
use Rattle.std.proofs.Math.Path.{fun_ext}
use Rattle.std.proofs.lemmas.Bool.{false≢true, eqb-true, eq-eqb, ne_eqb}
use Rattle.std.proofs.lemmas.Option.{same_Some, none-some}
use Rattle.protocol_model.specs.Search.{insert_in_order}
use Rattle.protocol_model.specs.Sight.{Seen, destroyed_of, is_relevant}
use Rattle.protocol_model.specs.Value.{Table}
use Rattle.protocol_model.specs.World.{Edits, lives}
use Rattle.connection_model.specs.Feed.{Past}
use Rattle.connection_model.specs.State.{state_of, is_closed}
use Rattle.class_layout.specs.Tables.{Layout, table_in}
use Rattle.driver_laws.specs.Counted.{goes_before}
use Rattle.driver_laws.specs.Given.{given_sight}
use Rattle.driver_laws.proofs.Actors.{spawned_among}
use Rattle.driver_laws.proofs.Inserting.{one_more_gone}
use Rattle.driver_sights.specs.declared.graves.Grave.{Grave}
use Rattle.driver_sights.specs.Graves.{is_buried, IsGrave, AreOnce, AreGraves, is_left}

pub grave_at : (P : Grave → Type 0) (graves : List Grave) (k : ℕ) (g : Grave) → AllByRecursion P graves
    → slice_get graves k ≡ Some g → P g
grave_at P [] k g h e = absurd (none-some g e)
grave_at P (x ∷ graves) zero g h e = subst P (same_Some x g e) h.0
grave_at P (x ∷ graves) (suc k) g h e = grave_at P graves k g h.1 e

-- one of them is found
there : (graves : List Grave) (k : ℕ) (g : Grave) → slice_get graves k ≡ Some g → is_buried graves g.actor ≡ true
there [] k g e = absurd (none-some g e)
there (x ∷ graves) zero g e = rw (eq-eqb x.actor g.actor (ap (λ (y : Grave). y.actor) (same_Some x g e))) refl
there (x ∷ graves) (suc k) g e = or_right (x.actor == g.actor) (is_buried graves g.actor) (there graves k g e)
  where
    or_right : (b c : Bool) → c ≡ true → (b || c) ≡ true
    or_right true c q = refl
    or_right false c q = q

-- not among those before it
pub not_before : (graves : List Grave) (k : ℕ) (g : Grave) → AreOnce graves → slice_get graves k ≡ Some g
    → is_buried (take k graves) g.actor ≡ false
not_before [] zero g h e = refl
not_before [] (suc k) g h e = refl
not_before (x ∷ graves) zero g h e = refl
not_before (x ∷ graves) (suc k) g h e =
    rw (ne_eqb x.actor g.actor (λ q. false≢true (sym h.0 ∙ ap (is_buried graves) q ∙ there graves k g e)))
    (not_before graves k g h.1 e)

-- one more
pub one_more : (graves : List Grave) (k : ℕ) (g : Grave) → slice_get graves k ≡ Some g → (a : ℕ)
    → is_buried (take (suc k) graves) a ≡ (is_buried (take k graves) a || g.actor == a)
one_more [] k g e a = absurd (none-some g e)
one_more (x ∷ graves) zero g e a = ap (λ (y : Grave). y.actor == a || false) (same_Some x g e) ∙ or_false (g.actor == a)
  where
    or_false : (b : Bool) → (b || false) ≡ b
    or_false true = refl
    or_false false = refl
one_more (x ∷ graves) (suc k) g e a =
    ap (λ (b : Bool). x.actor == a || b) (one_more graves k g e a)
    ∙ assoc (x.actor == a) (is_buried (take k graves) a) (g.actor == a)
  where
    assoc : (b c d : Bool) → (b || (c || d)) ≡ ((b || c) || d)
    assoc true c d = refl
    assoc false c d = refl

-- ---- what is left of them

dead_irrelevant : (table : Table) (edits : Edits) (player a : ℕ) → lives edits a ≡ false
    → is_relevant table edits player a ≡ false
dead_irrelevant table edits player a e = rw e refl

-- a grave of which nothing is left adds nothing
pub none_left : (graves : List Grave) (past : Past) (k : ℕ) (g : Grave) → slice_get graves k ≡ Some g
    → is_closed (state_of past g.actor) ≡ true
    → is_left (take (suc k) graves) past ≡ is_left (take k graves) past
none_left graves past k g e closed = fun_ext each
  where
    each : (a : ℕ) → is_left (take (suc k) graves) past a ≡ is_left (take k graves) past a
    each a = ap (λ (b : Bool). b && not (is_closed (state_of past a))) (one_more graves k g e a)
        ∙ by (g.actor == a) refl
      where
        drop : (b c : Bool) → c ≡ true → ((b || true) && not c) ≡ (b && not c)
        drop true true q = refl
        drop false true q = refl
        drop b false q = absurd (false≢true q)

        keep : (b c : Bool) → ((b || false) && c) ≡ (b && c)
        keep true c = refl
        keep false c = refl

        by : (t : Bool) → (g.actor == a) ≡ t
            → ((is_buried (take k graves) a || t) && not (is_closed (state_of past a)))
            ≡ (is_buried (take k graves) a && not (is_closed (state_of past a)))
        by true q = drop (is_buried (take k graves) a) (is_closed (state_of past a))
            (ap (λ (x : ℕ). is_closed (state_of past x)) (sym (eqb-true g.actor a q)) ∙ closed)
        by false q = keep (is_buried (take k graves) a) (not (is_closed (state_of past a)))

-- one of which something is left adds its entry
pub some_left : (layout : Layout) (edits : Edits) (player : ℕ) (past : Past) (graves : List Grave) (k : ℕ) (g : Grave)
    → AreGraves layout edits graves → slice_get graves k ≡ Some g → is_closed (state_of past g.actor) ≡ false
    → given_sight (table_in layout) edits player past (is_left (take (suc k) graves) past)
    ≡ insert_in_order goes_before (destroyed_of (table_in layout) edits g.actor)
    (given_sight (table_in layout) edits player past (is_left (take k graves) past))
some_left layout edits player past graves k g h e left =
    let is : IsGrave layout edits g = grave_at (IsGrave layout edits) graves k g h.each e in
    one_more_gone (table_in layout) edits player past (is_left (take k graves) past)
    (is_left (take (suc k) graves) past)
    g.actor (spawned_among edits g.actor is.spawned) (dead_irrelevant (table_in layout) edits player g.actor is.dead)
    (ap (λ (b : Bool). b && not (is_closed (state_of past g.actor))) (not_before graves k g h.once e))
    (ap (λ (b : Bool). b && not (is_closed (state_of past g.actor))) (one_more graves k g e g.actor)
    ∙ rw (eq-eqb g.actor g.actor refl, left) (or_true (is_buried (take k graves) g.actor)))
    other
  where
    or_true : (b : Bool) → ((b || true) && true) ≡ true
    or_true true = refl
    or_true false = refl

    keep : (b c : Bool) → ((b || false) && c) ≡ (b && c)
    keep true c = refl
    keep false c = refl

    other : (a : ℕ) → a ≢ g.actor → is_left (take (suc k) graves) past a ≡ is_left (take k graves) past a
    other a ne =
        ap (λ (b : Bool). b && not (is_closed (state_of past a))) (one_more graves k g e a)
        ∙ rw (ne_eqb g.actor a (λ q. ne (sym q)))
        (keep (is_buried (take k graves) a) (not (is_closed (state_of past a))))

-- ---- shown one after the other

-- one of which something is left, put among the entries
pub one_shown : (layout : Layout) (edits : Edits) (player : ℕ) (past : Past) (graves : List Grave) (k next : ℕ)
    (g : Grave) (before after : List Seen) → next ≡ k + 1
    → AreGraves layout edits graves → slice_get graves k ≡ Some g → is_closed (state_of past g.actor) ≡ false
    → after ≡ insert_in_order goes_before (destroyed_of (table_in layout) edits g.actor) before
    → before ≡ given_sight (table_in layout) edits player past (is_left (take k graves) past)
    → after ≡ given_sight (table_in layout) edits player past (is_left (take next graves) past)
one_shown layout edits player past graves k next g before after n h e left put so =
    put ∙ ap (insert_in_order goes_before (destroyed_of (table_in layout) edits g.actor)) so
    ∙ sym (some_left layout edits player past graves k g h e left)
    ∙ ap (λ (m : ℕ). given_sight (table_in layout) edits player past (is_left (take m graves) past)) (as_suc k next n)
  where
    as_suc : (k next : ℕ) → next ≡ k + 1 → suc k ≡ next
    as_suc k next n = omega (arith, n)

-- one of which nothing is left
pub none_shown : (layout : Layout) (edits : Edits) (player : ℕ) (past : Past) (graves : List Grave) (k next : ℕ)
    (g : Grave) (before after : List Seen) → next ≡ k + 1
    → slice_get graves k ≡ Some g → is_closed (state_of past g.actor) ≡ true → after ≡ before
    → before ≡ given_sight (table_in layout) edits player past (is_left (take k graves) past)
    → after ≡ given_sight (table_in layout) edits player past (is_left (take next graves) past)
none_shown layout edits player past graves k next g before after n e closed same so =
    same ∙ so
    ∙ ap (λ (t : ℕ → Bool). given_sight (table_in layout) edits player past t)
    (sym (none_left graves past k g e closed))
    ∙ ap (λ (m : ℕ). given_sight (table_in layout) edits player past (is_left (take m graves) past)) (as_suc k next n)
  where
    as_suc : (k next : ℕ) → next ≡ k + 1 → suc k ≡ next
    as_suc k next n = omega (arith, n)

-- what the code asks
pub left_open : (b c : Bool) → b ≡ not c → b ≡ true → c ≡ false
left_open b true e is = absurd (false≢true (sym e ∙ is))
left_open b false e is = refl

pub left_closed : (b c : Bool) → b ≡ not c → b ≡ false → c ≡ true
left_closed b true e is = refl
left_closed b false e is = absurd (false≢true (sym is ∙ e))
