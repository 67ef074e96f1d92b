-- An actor that is destroyed gets a grave.
use Rattle.std.proofs.Common.{◌≡◌, ◌⊎◌, inl, inr, ℕ, ◌<◌, ◌==◌, List, [], ◌∷◌, ◌++◌, length, Bool, true, false, ◌&&◌, ◌||◌, Option, Some, None, is_some, option_map, refl, sym, ap, ◌∙◌, subst, arith}
use Rattle.std.specs.Prelude.{slice_get, option_and_then}
use Rattle.std.specs.List.{AllByRecursion}
use Rattle.std.proofs.lemmas.Bool.{false≢true, eqb-true, eq-eqb, ne_eqb}
use Rattle.std.proofs.lemmas.Option.{none-some, same_Some}
use Rattle.protocol_model.specs.Value.{Table}
use Rattle.protocol_model.specs.World.{Edit, Edits, Spawn, Destroy, Set, Own, View, Add, Dormant, Wake, Flush, Switch, Team, Give, Spawned, spawn_of, destroys, lives, named_actor}
use Rattle.class_layout.specs.Tables.{Layout, table_in}
use Rattle.class_layout.specs.declared.class.Class.{Class}
use Rattle.world_table.specs.Answers.{edit_of, look_of, spawned_look}
use Rattle.world_table.specs.declared.edit.Edit.{Edit as Given}
use Rattle.world_table.specs.declared.edit.Look.{Look}
use Rattle.driver_sights.specs.declared.graves.Grave.{Grave}
use Rattle.driver_sights.specs.Graves.{AreGraves, AreOnce, IsGrave, is_buried}
use Rattle.driver_sights.proofs.Classes.{LookIs, look_is, within}
use Rattle.rep_graph.specs.Standings.{look_before}
use Rattle.rep_graph.specs.Graph.{Stands as StandsGraph, IsTurn}
use Rattle.net_driver.specs.Burying.{Buries, destroyed_by, IsTaken, Follows}
use Rattle.net_driver.specs.Serves.{Drive}
use Rattle.net_driver.proofs.Fitting.{dead_before, dead_stays}
use Rattle.net_driver.proofs.Spawns.{spawn_stays, class_stays}

grave_stays : (layout : Layout) (edit : Edit) (edits : Edits) (g : Grave) → IsGrave layout edits g
    → IsGrave layout (edit ∷ edits) g
grave_stays layout edit edits g h = record {
  spawned = λ none. h.spawned (sym (spawn_stays edit edits g.actor h.spawned) ∙ none);
  dead = dead_stays edit edits g.actor h.spawned h.dead;
  there = h.there;
  class = class_stays (table_in layout) edit edits g.actor h.spawned ∙ h.class;
}

all_stay : (layout : Layout) (edit : Edit) (edits : Edits) (graves : List Grave)
    → AllByRecursion (IsGrave layout edits) graves → AllByRecursion (IsGrave layout (edit ∷ edits)) graves
all_stay layout edit edits [] h = tt
all_stay layout edit edits (g ∷ graves) h =
    (grave_stays layout edit edits g h.0, all_stay layout edit edits graves h.1)

-- ---- the actor that an edit destroys

nobody : (edit : Edit) → destroyed_by edit ≡ None → (a : ℕ) → destroys a edit ≡ false
nobody (Destroy b) e a = absurd (none-some b (sym e))
nobody (Spawn class x y) e a = refl
nobody (Set b k v) e a = refl
nobody (Own b p) e a = refl
nobody (View p x y) e a = refl
nobody (Add b p on) e a = refl
nobody (Dormant b) e a = refl
nobody (Wake b) e a = refl
nobody (Flush b) e a = refl
nobody (Switch b k on) e a = refl
nobody (Team p t) e a = refl
nobody (Give b t) e a = refl

is_destroy : (edit : Edit) (a : ℕ) → destroyed_by edit ≡ Some a → edit ≡ Destroy a
is_destroy (Destroy b) a e = ap Destroy (same_Some b a e)
is_destroy (Spawn class x y) a e = absurd (none-some a e)
is_destroy (Set b k v) a e = absurd (none-some a e)
is_destroy (Own b p) a e = absurd (none-some a e)
is_destroy (View p x y) a e = absurd (none-some a e)
is_destroy (Add b p on) a e = absurd (none-some a e)
is_destroy (Dormant b) a e = absurd (none-some a e)
is_destroy (Wake b) a e = absurd (none-some a e)
is_destroy (Flush b) a e = absurd (none-some a e)
is_destroy (Switch b k on) a e = absurd (none-some a e)
is_destroy (Team p t) a e = absurd (none-some a e)
is_destroy (Give b t) a e = absurd (none-some a e)

buries_none : (layout : Layout) (edit : Edit) (edits : Edits) (graves : List Grave)
    → ((a : ℕ) → destroys a edit ≡ false) → AreGraves layout edits graves → Buries layout edit edits graves graves
buries_none layout edit edits graves nobody h = record {
  graves = record { each = all_stay layout edit edits graves h.each; once = h.once };
  dead = λ a e. inl (dead_before edit edits a (nobody a) e);
  more = λ a e. e;
}

-- an edit that destroys nobody
pub none_buried : (layout : Layout) (edit : Edit) (edits : Edits) (graves : List Grave) → destroyed_by edit ≡ None
    → AreGraves layout edits graves → Buries layout edit edits graves graves
none_buried layout edit edits graves e h = buries_none layout edit edits graves (nobody edit e) h

all_and : {A : Type 0} (P : A → Type 0) (xs : List A) (x : A) → AllByRecursion P xs → P x → AllByRecursion P (xs ++ x ∷ [])
all_and P [] x h p = (p, tt)
all_and P (y ∷ xs) x h p = (h.0, all_and P xs x h.1 p)

any_and : (graves : List Grave) (g : Grave) (a : ℕ) → is_buried (graves ++ g ∷ []) a ≡ (is_buried graves a || g.actor == a)
any_and [] g a = or_false (g.actor == a)
  where
    or_false : (b : Bool) → (b || false) ≡ b
    or_false true = refl
    or_false false = refl
any_and (x ∷ graves) g a =
    ap (λ (b : Bool). x.actor == a || b) (any_and graves g a) ∙ assoc (x.actor == a) (is_buried graves a) (g.actor == a)
  where
    assoc : (b c d : Bool) → (b || (c || d)) ≡ ((b || c) || d)
    assoc true c d = refl
    assoc false c d = refl

once_and : (graves : List Grave) (g : Grave) → AreOnce graves → is_buried graves g.actor ≡ false
    → AreOnce (graves ++ g ∷ [])
once_and [] g h out = (refl, tt)
once_and (x ∷ graves) g h out = by (x.actor == g.actor) refl out (λ e. once_and graves g h.1 e)
  where
    by : (b : Bool) → (x.actor == g.actor) ≡ b → (b || is_buried graves g.actor) ≡ false
        → (is_buried graves g.actor ≡ false → AreOnce (graves ++ g ∷ []))
        → (is_buried (graves ++ g ∷ []) x.actor ≡ false) × AreOnce (graves ++ g ∷ [])
    by true q e ih = absurd (false≢true (sym e))
    by false q e ih = (
      any_and graves g x.actor
          ∙ ap (λ (b : Bool). b || g.actor == x.actor) h.0
          ∙ ne_eqb g.actor x.actor (λ m. false≢true (sym q ∙ eq-eqb x.actor g.actor (sym m))),
      ih e,
    )

-- those that are buried are dead
none_lives : (layout : Layout) (edits : Edits) (graves : List Grave) (a : ℕ)
    → AllByRecursion (IsGrave layout edits) graves → lives edits a ≡ true → is_buried graves a ≡ false
none_lives layout edits [] a h e = refl
none_lives layout edits (g ∷ graves) a h e =
    ap (λ (b : Bool). b || is_buried graves a)
    (ne_eqb g.actor a (λ m. false≢true (sym h.0.dead ∙ ap (lives edits) m ∙ e)))
    ∙ none_lives layout edits graves a h.1 e

lives_look : (table : Table) (edits : Edits) (a : ℕ) (look : Look) → look_of table edits a ≡ Some look
    → look.alive ≡ lives edits a
lives_look table edits a look e = by (spawn_of edits a) e
  where
    by : (o : Option Spawned) → option_map (spawned_look table edits a) o ≡ Some look → look.alive ≡ lives edits a
    by None e = absurd (none-some look e)
    by (Some s) e = ap (λ (l : Look). l.alive) (sym (same_Some (spawned_look table edits a s) look e))

-- one that destroys a living actor
buries_one : (layout : Layout) (edits : Edits) (a : ℕ) (look : Look) (old new : List Grave)
    → look_of (table_in layout) edits a ≡ Some look → look.alive ≡ true → look.class < length layout.classes
    → new ≡ old ++ record { actor = a; class = look.class } ∷ [] → AreGraves layout edits old
    → Buries layout (Destroy a) edits old new
buries_one layout edits a look old new e alive there is h =
    subst (Buries layout (Destroy a) edits old) (sym is) (record {
      graves = record {
        each = all_and (IsGrave layout (Destroy a ∷ edits)) old g (all_stay layout (Destroy a) edits old h.each) (record {
          spawned = l.spawned;
          dead = rw (eq-eqb a a refl) (never (is_some (spawn_of edits a)));
          there = there;
          class = l.class;
        });
        once = once_and old g h.once
            (none_lives layout edits old a h.each (sym (lives_look (table_in layout) edits a look e) ∙ alive));
      };
      dead = λ b q. by b q (b == a) refl;
      more = λ b q. any_and old g b ∙ ap (λ (t : Bool). t || a == b) q;
    })
  where
    g : Grave
    g = record { actor = a; class = look.class }

    l : LookIs (table_in layout) edits a look
    l = look_is (table_in layout) edits a look e

    never : (b : Bool) → (b && false) ≡ false
    never true = refl
    never false = refl

    or_true : (b : Bool) → (b || true) ≡ true
    or_true true = refl
    or_true false = refl

    by : (b : ℕ) → lives (Destroy a ∷ edits) b ≡ false → (t : Bool) → (b == a) ≡ t
        → (lives edits b ≡ false) ⊎ (is_buried (old ++ record { actor = a; class = look.class } ∷ []) b ≡ true)
    by b q true m = inr (any_and old (record { actor = a; class = look.class }) b
        ∙ ap (λ (t : Bool). is_buried old b || t) (eq-eqb a b (sym (eqb-true b a m))) ∙ or_true (is_buried old b))
    by b q false m = inl (dead_before (Destroy a) edits b m q)

-- one that destroys an actor, which stood so before
pub one_buried : (layout : Layout) (e : Given) (edits : Edits) (a : ℕ) (look : Look) (before : Option Look)
    (old new : List Grave) → destroyed_by (edit_of e) ≡ Some a → before ≡ look_before (table_in layout) edits e
    → before ≡ Some look → look.alive ≡ true → look.class < length layout.classes
    → new ≡ old ++ record { actor = a; class = look.class } ∷ [] → AreGraves layout edits old
    → Buries layout (edit_of e) edits old new
one_buried layout e edits a look before old new d is some alive there added h =
    let q : edit_of e ≡ Destroy a = is_destroy (edit_of e) a d in
    subst (λ (x : Edit). Buries layout x edits old new) (sym q)
    (buries_one layout edits a look old new
    (sym (sym some ∙ is ∙ ap (λ (x : Edit). option_and_then (look_of (table_in layout) edits) (named_actor x)) q))
    alive there added h)

-- a class that is found is one of the table
pub class_within : (layout : Layout) (n : ℕ) (c : Class) → slice_get layout.classes n ≡ Some c
    → n < length layout.classes
class_within layout n c e = (let h = within layout.classes n c e in omega (arith, h))

-- the graph and the graves follow what the world took
pub follows_taken : (d first new : Drive) (e : Given) (before : Option Look) (edits : Edits) → IsTaken d e before edits
    → (IsTurn d.graph.nodes d.world e before edits
    → StandsGraph new.graph (table_in d.world.layout) (edit_of e ∷ edits))
    → (before ≡ look_before (table_in d.layout) edits e → AreGraves d.layout edits d.graves
    → Buries d.layout (edit_of e) edits d.graves new.graves)
    → d ≡ first → Follows first new (edit_of e) edits
follows_taken d first new e before edits t stands buries same =
    subst (λ (x : Drive). Follows x new (edit_of e) edits) same (record {
      graph = subst (λ (l : Layout). StandsGraph new.graph (table_in l) (edit_of e ∷ edits)) t.layout (stands t.turn);
      buries = buries (t.turn.before_is ∙ ap (λ (l : Layout). look_before (table_in l) edits e) t.layout) t.buried;
    })
