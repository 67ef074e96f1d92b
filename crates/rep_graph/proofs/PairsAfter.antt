-- Which pairs are held after an edit, from those before it.
use Rattle.std.proofs.Common.{◌≡◌, ◌∙◌, ℕ, ℤ, ◌+◌, ◌*◌, ◌∷◌, Bool, true, false, not, nat_le, ◌&&◌, ◌||◌, ◌==◌, Option, Some, None, refl, sym, ap, subst, arith, if◌then◌else◌}
use Rattle.std.specs.Prelude.{is_some}
use Rattle.std.proofs.Math.Bool.{and-false}
use Rattle.std.proofs.lemmas.Bool.Decides.{nat_tests}
use Rattle.protocol_model.specs.Value.{Table, is_owner_only}
use Rattle.protocol_model.specs.World as model
use Rattle.protocol_model.specs.World.{Edits, class_in, spawn_of, spawn_count, owner_of, is_added}
use Rattle.graph_model.specs.Nodes.{PlayerNode, is_held_in}
use Rattle.world_table.specs.Answers.{edit_of}
use Rattle.world_table.specs.declared.edit.Edit.{Edit}
use Rattle.world_table.specs.Stands.{History, history_of}
use Rattle.world_table.proofs.Numbers.{same_number, other_number}
use Rattle.world_table.proofs.Telling.{own_tells, own_told, destroy_tells, destroy_told}
use Rattle.rep_graph.specs.Standings.{owner_is}
use Rattle.rep_graph.specs.Graph.{IsLawful}
use Rattle.rep_graph.specs.Turns.{PairTest, with_pair, with_owner, without_actor}
use Rattle.rep_graph.proofs.Told.{alive, held_told, held_is}
use Rattle.rep_graph.proofs.Lawful.{added_is, next_free}

pair_is : (table : Table) (edits : Edits) (b q : ℕ)
    → is_held_in PlayerNode table edits b q ≡ held_told PlayerNode table (history_of edits b) (is_added edits b q) q
pair_is table edits b q = held_is PlayerNode table edits b q

-- a pair stays where what is told of it stays
same_told : (table : Table) (edits later : Edits) (b q : ℕ) → history_of later b ≡ history_of edits b
    → is_added later b q ≡ is_added edits b q
    → is_held_in PlayerNode table later b q ≡ is_held_in PlayerNode table edits b q
same_told table edits later b q told added =
    pair_is table later b q
    ∙ ap (λ (t : History). held_told PlayerNode table t (is_added later b q) q) told
    ∙ ap (λ (x : Bool). held_told PlayerNode table (history_of edits b) x q) added
    ∙ sym (pair_is table edits b q)

-- ---- an edit that changes no pair

no_owner : (q : ℕ) → (0 == q && not (q == 0)) ≡ false
no_owner q = grind (arith, nat_tests)

-- nobody has a pair with an actor of which nothing is told, whatever it is
unknown : (live : Bool) (r : Bool) (q owner : ℕ) (added : Bool) → owner ≡ 0 → added ≡ false
    → (live && ((owner == q && not (q == 0)) || (r && nat_le 1 q && added))) ≡ false
unknown live r q owner added o a =
    rw (o, a, no_owner q, and-false (r && nat_le 1 q)) (and-false live)

spawn_pairs : (table : Table) (edits : Edits) (class : ℕ) (x y : ℤ) (b q : ℕ) → IsLawful edits
    → is_held_in PlayerNode table (model.Spawn class x y ∷ edits) b q ≡ is_held_in PlayerNode table edits b q
spawn_pairs table edits class x y b q lawful = by_test (b == 2 * (spawn_count edits + 1)) refl
  where
    by_test : (t : Bool) → (b == 2 * (spawn_count edits + 1)) ≡ t
        → is_held_in PlayerNode table (model.Spawn class x y ∷ edits) b q ≡ is_held_in PlayerNode table edits b q
    by_test true e =
        let new = same_number b (2 * (spawn_count edits + 1)) e in
        let none : spawn_of edits b ≡ None = rw new (next_free edits) in
        let told : owner_of edits b ≡ 0 = ap (λ (t : History). t.owner) (lawful.fresh b none) in
        unknown _ _ q (owner_of edits b) (is_added edits b q) told (lawful.unadded b q none)
        ∙ sym (unknown _ _ q (owner_of edits b) (is_added edits b q) told (lawful.unadded b q none))
    by_test false e = rw e refl

-- the pairs stay as they were after any edit but these three
pub pairs_stay : (table : Table) (edits : Edits) (e : Edit) → IsLawful edits
    → ((a : ℕ) (p : Option ℕ) → e ≡ Edit.Own a p → ⊥) → ((a p : ℕ) (on : Bool) → e ≡ Edit.Add a p on → ⊥)
    → ((a : ℕ) → e ≡ Edit.Destroy a → ⊥) → (b q : ℕ)
    → is_held_in PlayerNode table (edit_of e ∷ edits) b q ≡ is_held_in PlayerNode table edits b q
pairs_stay table edits (Edit.Spawn class x y) lawful own add destroy b q =
    spawn_pairs table edits class x y b q lawful
pairs_stay table edits (Edit.Destroy a) lawful own add destroy b q = absurd (destroy a refl)
pairs_stay table edits (Edit.Set a h v) lawful own add destroy b q = refl
pairs_stay table edits (Edit.Own a p) lawful own add destroy b q = absurd (own a p refl)
pairs_stay table edits (Edit.View p x y) lawful own add destroy b q = refl
pairs_stay table edits (Edit.Add a p on) lawful own add destroy b q = absurd (add a p on refl)
pairs_stay table edits (Edit.Dormant a) lawful own add destroy b q = refl
pairs_stay table edits (Edit.Wake a) lawful own add destroy b q = refl
pairs_stay table edits (Edit.Flush a) lawful own add destroy b q = refl
pairs_stay table edits (Edit.Switch a h on) lawful own add destroy b q = refl
pairs_stay table edits (Edit.Team p team) lawful own add destroy b q = refl
pairs_stay table edits (Edit.Give a team) lawful own add destroy b q = refl

-- ---- a pair that is added

pub add_pairs : (table : Table) (edits : Edits) (a p : ℕ) (on : Bool) (b q : ℕ)
    → is_held_in PlayerNode table (model.Add a p on ∷ edits) b q
    ≡ with_pair (is_held_in PlayerNode table edits) a p
    (is_held_in PlayerNode table (model.Add a p on ∷ edits) a p) b q
add_pairs table edits a p on b q = by_test (b == a && q == p) refl
  where
    by_test : (t : Bool) → (b == a && q == p) ≡ t
        → is_held_in PlayerNode table (model.Add a p on ∷ edits) b q
        ≡ (if t then is_held_in PlayerNode table (model.Add a p on ∷ edits) a p
        else is_held_in PlayerNode table edits b q)
    by_test true e =
        let ea : b ≡ a = grind (arith, nat_tests) in
        let ep : q ≡ p = grind (arith, nat_tests) in
        ap (λ (x : ℕ). is_held_in PlayerNode table (model.Add a p on ∷ edits) x q) ea
        ∙ ap (λ (x : ℕ). is_held_in PlayerNode table (model.Add a p on ∷ edits) a x) ep
    by_test false e =
        same_told table edits (model.Add a p on ∷ edits) b q refl
        (added_is edits a p on b q ∙ ap (λ (t : Bool). if t then on else is_added edits b q) e)

-- ---- an owner

owner_at : (held now : PairTest) (a : ℕ) (o : Option ℕ) (b q : ℕ)
    → with_owner held a o now b q ≡ (if b == a && owner_is q o then now b q else held b q)
owner_at held now a None b q = rw (and-false (b == a)) refl
owner_at held now a (Some p) b q = by_test (b == a && q == p) (b == a && p == q) refl refl
  where
    by_test : (t u : Bool) → (b == a && q == p) ≡ t → (b == a && p == q) ≡ u
        → (if t then now a p else held b q) ≡ (if u then now b q else held b q)
    by_test true true e f =
        let ea : b ≡ a = grind (arith, nat_tests) in
        let ep : q ≡ p = grind (arith, nat_tests) in
        rw (ea, ep) refl
    by_test true false e f = absurd (grind (arith, nat_tests))
    by_test false true e f = absurd (grind (arith, nat_tests))
    by_test false false e f = refl

two_tests : (t u : Bool) (now before : Bool) → (t ≡ false → u ≡ false → now ≡ before)
    → now ≡ (if u then now else if t then now else before)
two_tests true true now before h = refl
two_tests true false now before h = refl
two_tests false true now before h = refl
two_tests false false now before h = h refl refl

-- a pair that is neither the old owner's nor the new one's stays
own_same : (table : Table) (edits : Edits) (a p : ℕ) (old new : Option ℕ) (b q : ℕ)
    → ((q : ℕ) → owner_is q old ≡ (owner_of edits a == q && not (q == 0)))
    → ((q : ℕ) → owner_is q new ≡ (p == q && not (q == 0)))
    → (b == a && owner_is q old) ≡ false → (b == a && owner_is q new) ≡ false
    → is_held_in PlayerNode table (model.Own a p ∷ edits) b q ≡ is_held_in PlayerNode table edits b q
own_same table edits a p old new b q was is t u = by_test (b == a) refl
  where
    by_test : (s : Bool) → (b == a) ≡ s
        → is_held_in PlayerNode table (model.Own a p ∷ edits) b q ≡ is_held_in PlayerNode table edits b q
    by_test false e =
        same_told table edits (model.Own a p ∷ edits) b q
        ((own_tells edits a p).others b (other_number b a e)) refl
    by_test true e =
        let ea = same_number b a e in
        let before : (owner_of edits a == q && not (q == 0)) ≡ false = sym (was q) ∙ rw e at t in
        let after : (p == q && not (q == 0)) ≡ false = sym (is q) ∙ rw e at u in
        subst
        (λ (x : ℕ). is_held_in PlayerNode table (model.Own a p ∷ edits) x q ≡ is_held_in PlayerNode table edits x q)
        (sym ea)
        (pair_is table (model.Own a p ∷ edits) a q
        ∙ ap (λ (t : History). held_told PlayerNode table t (is_added edits a q) q) (own_told edits a p)
        ∙ ap (λ (o : Bool). alive (history_of edits a)
        && (o || (not (is_owner_only (class_in table (spawn_of edits a)).reach) && nat_le 1 q && is_added edits a q)))
        (after ∙ sym before)
        ∙ sym (pair_is table edits a q))

pub own_pairs : (table : Table) (edits : Edits) (a p : ℕ) (old new : Option ℕ) (b q : ℕ)
    → ((q : ℕ) → owner_is q old ≡ (owner_of edits a == q && not (q == 0)))
    → ((q : ℕ) → owner_is q new ≡ (p == q && not (q == 0)))
    → is_held_in PlayerNode table (model.Own a p ∷ edits) b q
    ≡ with_owner
    (with_owner (is_held_in PlayerNode table edits) a old (is_held_in PlayerNode table (model.Own a p ∷ edits)))
    a new (is_held_in PlayerNode table (model.Own a p ∷ edits)) b q
own_pairs table edits a p old new b q was is =
    let now : PairTest = is_held_in PlayerNode table (model.Own a p ∷ edits) in
    let before : PairTest = is_held_in PlayerNode table edits in
    two_tests (b == a && owner_is q old) (b == a && owner_is q new) (now b q) (before b q)
    (own_same table edits a p old new b q was is)
    ∙ ap (λ (x : Bool). if b == a && owner_is q new then now b q else x) (sym (owner_at before now a old b q))
    ∙ sym (owner_at (with_owner before a old now) now a new b q)

-- ---- an actor's end

destroyed : (table : Table) (edits : Edits) (a q : ℕ)
    → is_held_in PlayerNode table (model.Destroy a ∷ edits) a q ≡ false
destroyed table edits a q =
    pair_is table (model.Destroy a ∷ edits) a q
    ∙ ap (λ (t : History). held_told PlayerNode table t (is_added edits a q) q) (destroy_told edits a)
    ∙ ap (λ (l : Bool). l && ((owner_of edits a == q && not (q == 0))
    || (not (is_owner_only (class_in table (spawn_of edits a)).reach) && nat_le 1 q && is_added edits a q)))
    (and-false (is_some (spawn_of edits a)))

pub destroy_pairs : (table : Table) (edits : Edits) (a b q : ℕ)
    → is_held_in PlayerNode table (model.Destroy a ∷ edits) b q
    ≡ without_actor (is_held_in PlayerNode table edits) a b q
destroy_pairs table edits a b q = by_test (b == a) refl
  where
    by_test : (t : Bool) → (b == a) ≡ t
        → is_held_in PlayerNode table (model.Destroy a ∷ edits) b q
        ≡ (if t then false else is_held_in PlayerNode table edits b q)
    by_test true e =
        ap (λ (x : ℕ). is_held_in PlayerNode table (model.Destroy a ∷ edits) x q) (same_number b a e)
        ∙ destroyed table edits a q
    by_test false e =
        same_told table edits (model.Destroy a ∷ edits) b q
        ((destroy_tells edits a).others b (other_number b a e)) refl
