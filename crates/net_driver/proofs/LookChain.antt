-- Looks for seats one after the other.
use Rattle.std.proofs.Common.{◌≡◌, ℕ, zero, suc, ◌+◌, ◌≤◌, List, [], ◌∷◌, ◌++◌, length, take, drop, Bool, true, false, ◌||◌, Some, refl, sym, ap, ◌∙◌, arith, append_assoc}
use Rattle.std.specs.Prelude.{slice_get, sum_by}
use Rattle.std.proofs.lemmas.List.Sums.{sum_by-cons}
use Rattle.std.proofs.lemmas.Option.{none-some, same_Some}
use Rattle.protocol_model.specs.Value.{Table}
use Rattle.protocol_model.specs.World.{Edits}
use Rattle.replication_model.specs.Sampled.{is_awake_for}
use Rattle.class_layout.specs.Tables.{Layout, table_in}
use Rattle.world_table.specs.Kept.{Kept}
use Rattle.rep_graph.specs.Graph.{Graph}
use Rattle.shadow_changes.specs.Samples.{Samples, Shadows}
use Rattle.sender_steps.specs.declared.sight.Seen.{Seen}
use Rattle.driver_sights.specs.declared.graves.Grave.{Grave}
use Rattle.driver_sights.specs.Looking.{AreAmong}
use Rattle.driver_sights.specs.Noted.{NotedKept, Notes, is_noted}
use Rattle.driver_sights.proofs.Steps.{among_less}
use Rattle.net_driver.specs.Served.{Seat, connection_of, listed_for}
use Rattle.net_driver.specs.Sights.{AreMade, is_awake_in, looks_for, AreFewSteps, HasLooked, IsLookingAll}

-- ---- seats one after the other

pub awake_both : (table : Table) (edits : Edits) (one two : List Seat) (a : ℕ)
    → is_awake_in table edits (one ++ two) a ≡ (is_awake_in table edits one a || is_awake_in table edits two a)
awake_both table edits [] two a = refl
awake_both table edits (s ∷ one) two a =
    ap (λ (b : Bool). is_awake_for table edits a (connection_of table s) || b) (awake_both table edits one two a)
    ∙ assoc (is_awake_for table edits a (connection_of table s)) (is_awake_in table edits one a)
    (is_awake_in table edits two a)
  where
    assoc : (x y z : Bool) → (x || (y || z)) ≡ ((x || y) || z)
    assoc true y z = refl
    assoc false y z = refl

listed_both : (table : Table) (edits : Edits) (one two : List Seat)
    → sum_by (listed_for table edits) (one ++ two)
    ≡ sum_by (listed_for table edits) one + sum_by (listed_for table edits) two
listed_both table edits [] two = omega arith
listed_both table edits (s ∷ one) two =
    let a = sum_by-cons (listed_for table edits) s (one ++ two) in
    let b = sum_by-cons (listed_for table edits) s one in
    let c = listed_both table edits one two in
    omega (arith, a, b, c)

pub looks_both : (table : Table) (edits : Edits) (one two : List Seat)
    → looks_for table edits (one ++ two) ≡ looks_for table edits one + looks_for table edits two
looks_both table edits one two = (let l = listed_both table edits one two in omega (arith, l))

made_both : (layout : Layout) (edits : Edits) (graves : List Grave) (x y : List (List Seen)) (one two : List Seat)
    → AreMade layout edits graves x one → AreMade layout edits graves y two
    → AreMade layout edits graves (x ++ y) (one ++ two)
made_both layout edits graves [] y [] two h k = k
made_both layout edits graves [] y (s ∷ one) two h k = absurd h
made_both layout edits graves (v ∷ x) y [] two h k = absurd h
made_both layout edits graves (v ∷ x) y (s ∷ one) two h k = (h.0, made_both layout edits graves x y one two h.1 k)

pub take_more : (i : ℕ) (t : Seat) (seats : List Seat) → slice_get seats i ≡ Some t
    → take (suc i) seats ≡ take i seats ++ t ∷ []
take_more i t [] e = absurd (none-some t e)
take_more zero t (x ∷ seats) e = ap (λ (y : Seat). y ∷ []) (same_Some x t e)
take_more (suc i) t (x ∷ seats) e = ap (λ (l : List Seat). x ∷ l) (take_more i t seats e)

pub parts_at : (i : ℕ) (t : Seat) (seats : List Seat) → slice_get seats i ≡ Some t
    → seats ≡ (take i seats ++ t ∷ []) ++ drop (suc i) seats
parts_at i t [] e = absurd (none-some t e)
parts_at zero t (x ∷ seats) e = ap (λ (y : Seat). y ∷ seats) (same_Some x t e)
parts_at (suc i) t (x ∷ seats) e = ap (λ (l : List Seat). x ∷ l) (parts_at i t seats e)

pub take_whole : (i : ℕ) (seats : List Seat) → length seats ≤ i → take i seats ≡ seats
take_whole zero [] le = refl
take_whole (suc i) [] le = refl
take_whole zero (x ∷ seats) le = absurd (omega (arith, le))
take_whole (suc i) (x ∷ seats) le = ap (λ (l : List Seat). x ∷ l) (take_whole i seats (omega (arith, le)))

-- ---- looks

-- before any
pub none_looked : (layout : Layout) (edits : Edits) (graves : List Grave) (samples : Samples) (n : NotedKept)
    (changes : Shadows) (steps : ℕ) → Notes n changes (table_in layout) edits samples
    → HasLooked layout edits graves samples n n changes steps steps [] [] []
none_looked layout edits graves samples n changes steps h = record {
  notes = h;
  noted = λ a. refl;
  steps = omega arith;
  sights = [];
  added = refl;
  made = tt;
}

-- one more
pub looked_more : (layout : Layout) (edits : Edits) (graves : List Grave) (samples : Samples) (n m k : NotedKept)
    (one two : Shadows) (s0 s1 s2 : ℕ) (old mid new : List (List Seen)) (front more : List Seat)
    → HasLooked layout edits graves samples n m one s0 s1 old mid front
    → HasLooked layout edits graves samples m k two s1 s2 mid new more
    → HasLooked layout edits graves samples n k two s0 s2 old new (front ++ more)
looked_more layout edits graves samples n m k one two s0 s1 s2 old mid new front more h g = record {
  notes = g.notes;
  noted = λ a. g.noted a ∙ ap (λ (b : Bool). is_awake_in (table_in layout) edits more a || b) (h.noted a)
      ∙ turned (is_awake_in (table_in layout) edits more a) (is_awake_in (table_in layout) edits front a) (is_noted n a)
      ∙ ap (λ (b : Bool). b || is_noted n a) (sym (awake_both (table_in layout) edits front more a));
  steps = (let a = h.steps in let b = g.steps in let l = looks_both (table_in layout) edits front more in
      omega (arith, a, b, l));
  sights = h.sights ++ g.sights;
  added = g.added ∙ ap (λ (l : List (List Seen)). l ++ g.sights) h.added ∙ append_assoc old h.sights g.sights;
  made = made_both layout edits graves h.sights g.sights front more h.made g.made;
}
  where
    turned : (x y z : Bool) → (x || (y || z)) ≡ ((y || x) || z)
    turned true true z = refl
    turned true false z = refl
    turned false true z = refl
    turned false false z = refl

-- however the next look ends
pub few_more : (layout : Layout) (edits : Edits) (graves : List Grave) (samples : Samples) (n m : NotedKept)
    (one : Shadows) (s0 s1 s2 : ℕ) (old mid : List (List Seen)) (front more rest : List Seat)
    → HasLooked layout edits graves samples n m one s0 s1 old mid front
    → AreFewSteps (table_in layout) edits m s1 s2 more
    → AreFewSteps (table_in layout) edits n s0 s2 ((front ++ more) ++ rest)
few_more layout edits graves samples n m one s0 s1 s2 old mid front more rest h g most before awake =
    let a = h.steps in
    let b = g most noted next in
    let l = looks_both (table_in layout) edits front more in
    let r = looks_both (table_in layout) edits (front ++ more) rest in
    omega (arith, a, b, l, r)
  where
    within : (a : ℕ) → (is_awake_in (table_in layout) edits front a || is_awake_in (table_in layout) edits more a) ≡ true
        → most a ≡ true
    within a e = awake a (awake_both (table_in layout) edits (front ++ more) rest a
        ∙ ap (λ (x : Bool). x || is_awake_in (table_in layout) edits rest a)
        (awake_both (table_in layout) edits front more a ∙ e))

    noted : AreAmong (is_noted m) most
    noted a e = by (is_awake_in (table_in layout) edits front a) refl (sym (h.noted a) ∙ e)
      where
        by : (x : Bool) → is_awake_in (table_in layout) edits front a ≡ x → (x || is_noted n a) ≡ true → most a ≡ true
        by true q e = within a (ap (λ (x : Bool). x || is_awake_in (table_in layout) edits more a) q)
        by false q e = before a e

    next : AreAmong (is_awake_in (table_in layout) edits more) most
    next a e = within a (ap (λ (x : Bool). is_awake_in (table_in layout) edits front a || x) e
        ∙ or_true (is_awake_in (table_in layout) edits front a))
      where
        or_true : (b : Bool) → (b || true) ≡ true
        or_true true = refl
        or_true false = refl

-- where no step was taken
pub few_none : (table : Table) (edits : Edits) (n : NotedKept) (steps : ℕ) (seats : List Seat)
    → AreFewSteps table edits n steps steps seats
few_none table edits n steps seats most before awake =
    (let l = among_less table edits (is_noted n) most before in omega (arith, l))

-- a look that ended takes no more than it may
pub few_looked : (layout : Layout) (edits : Edits) (graves : List Grave) (samples : Samples) (n m : NotedKept)
    (one : Shadows) (s0 s1 : ℕ) (old mid : List (List Seen)) (seats : List Seat)
    → HasLooked layout edits graves samples n m one s0 s1 old mid seats
    → AreFewSteps (table_in layout) edits n s0 s1 seats
few_looked layout edits graves samples n m one s0 s1 old mid seats h most before awake =
    let a = h.steps in
    let l = among_less (table_in layout) edits (is_noted m) most noted in
    omega (arith, a, l)
  where
    noted : AreAmong (is_noted m) most
    noted a e = by (is_awake_in (table_in layout) edits seats a) refl (sym (h.noted a) ∙ e)
      where
        by : (x : Bool) → is_awake_in (table_in layout) edits seats a ≡ x → (x || is_noted n a) ≡ true → most a ≡ true
        by true q e = awake a q
        by false q e = before a e

-- the next look begins with what is noted now
pub looking_on : (w : Kept) (graph : Graph) (graves : List Grave) (n m : NotedKept) (one two : Shadows) (edits : Edits)
    (samples : Samples) → IsLookingAll w graph graves n one edits samples → Notes m two (table_in w.layout) edits samples
    → IsLookingAll w graph graves m two edits samples
looking_on w graph graves n m one two edits samples h notes = record {
  world = h.world;
  nodes = h.nodes;
  buried = h.buried;
  notes = notes;
}

-- so many seats, and one more
pub upto_more : (i next : ℕ) (t : Seat) (seats : List Seat) → next ≡ i + 1 → slice_get seats i ≡ Some t
    → take i seats ++ t ∷ [] ≡ take next seats
upto_more i next t seats more e = sym (take_more i t seats e) ∙ ap (λ (k : ℕ). take k seats) (follows i next more)
  where
    follows : (n next : ℕ) → next ≡ n + 1 → suc n ≡ next
    follows n next q = omega (arith, q)
