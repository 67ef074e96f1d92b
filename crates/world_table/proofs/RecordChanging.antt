-- How a world goes along with a change of one actor's record.
use Rattle.std.proofs.Common.{◌≡◌, ◌∙◌, ℕ, ◌∷◌, List, Bool, true, false, not, ◌&&◌, Option, Some, None, is_some, unwrap_or, Result, Ok, Err, nat_le, refl, sym, ap, subst, if◌then◌else◌, option_and_then}
use Rattle.std.specs.Bool.{then_some}
use Rattle.protocol_model.specs.Limits.{team_limit}
use Rattle.protocol_model.specs.Value.{Table}
use Rattle.protocol_model.specs.World as model
use Rattle.protocol_model.specs.World.{Edits, lives}
use Rattle.world_table.specs.declared.actor.Actor.{Actor}
use Rattle.world_table.specs.declared.change.Change.{Change}
use Rattle.world_table.specs.declared.edit.Edit.{Edit}
use Rattle.world_table.specs.declared.edit.EditRefusal.{EditRefusal}
use Rattle.world_table.specs.declared.edit.Look.{Look}
use Rattle.world_table.specs.Answers.{edit_of, may_own, refusal_in, spawned_guid, IsAnswer}
use Rattle.world_table.specs.Kept.{Kept, actor_at, if_living, living_at}
use Rattle.world_table.specs.RecordChanges.{change_edit, record_after}
use Rattle.world_table.specs.Stands.{History, history_of, IsKept, Stands}
use Rattle.world_table.proofs.Edits.{Puts, destroy_stands, own_stands, dormant_stands, wake_stands, flush_stands, give_stands}
use Rattle.world_table.proofs.Refusing.{decided, owner_taken, owner_refused, owner_named}

-- ---- the actor doesn't live

-- where no living actor's record is found, the actor doesn't live
pub dead_of : (w : Kept) (edits : Edits) (lent : List Actor) (a : ℕ) → Stands w edits → lent ≡ w.actors
    → None ≡ living_at lent a → lives edits a ≡ false
dead_of w edits lent a stands same none =
    of (actor_at w.actors a) (stands.actors a) (none ∙ ap (λ (rs : List Actor). living_at rs a) same)
  where
    asleep : (r : Actor) (t : Bool) → r.look.alive ≡ t → None ≡ then_some t r → r.look.alive ≡ false
    asleep r true e n = absurd (cc)
    asleep r false e n = e

    of : (o : Option Actor) → IsKept w.layout w.cells (history_of edits a) o → None ≡ option_and_then if_living o
        → lives edits a ≡ false
    of None kept n = ap (λ (t : History). is_some t.spawn && not t.destroyed) kept
    of (Some r) kept n = sym (ap (λ (l : Look). l.alive) kept.look) ∙ asleep r r.look.alive refl n

-- then no change is taken
pub change_dead : (table : Table) (edits : Edits) (a : ℕ) (change : Change) → lives edits a ≡ false
    → refusal_in table edits (change_edit a change) ≡ Some model.NoActor
change_dead table edits a Change.End dead = decided table edits (Edit.Destroy a) false true false true dead refl refl refl
change_dead table edits a (Change.Owner player) dead = rw dead refl
change_dead table edits a (Change.Dormant true) dead = rw dead refl
change_dead table edits a (Change.Dormant false) dead = rw dead refl
change_dead table edits a Change.Flush dead = rw dead refl
change_dead table edits a (Change.Given team) dead = rw dead refl

-- ---- the actor lives

same_ok : (s t : Actor) → ◌≡◌ {A = Result Actor EditRefusal} (Ok s) (Ok t) → s ≡ t
same_ok s t e = cc

-- a change spawns nothing
pub change_spawns : (edits : Edits) (a : ℕ) (change : Change) → spawned_guid edits (change_edit a change) ≡ None
change_spawns edits a Change.End = refl
change_spawns edits a (Change.Owner player) = refl
change_spawns edits a (Change.Dormant true) = refl
change_spawns edits a (Change.Dormant false) = refl
change_spawns edits a Change.Flush = refl
change_spawns edits a (Change.Given team) = refl

-- nothing stands against a change that is made
pub change_taken : (table : Table) (edits : Edits) (a : ℕ) (r s : Actor) (change : Change) → lives edits a ≡ true
    → record_after r change ≡ Ok s → refusal_in table edits (change_edit a change) ≡ None
change_taken table edits a r s Change.End living e = rw living refl
change_taken table edits a r s (Change.Owner player) living e = of (may_own player) refl e
  where
    of : (t : Bool) → may_own player ≡ t
        → ◌≡◌ {A = Result Actor EditRefusal}
        (if t then Ok (record r { look = record r.look { owner = player } }) else Err EditRefusal.OutOfRange) (Ok s)
        → refusal_in table edits (Edit.Own a player) ≡ None
    of true may made = owner_taken table edits a player living may
    of false may made = absurd (cc)
change_taken table edits a r s (Change.Dormant true) living e = rw living refl
change_taken table edits a r s (Change.Dormant false) living e = rw living refl
change_taken table edits a r s Change.Flush living e = rw living refl
change_taken table edits a r s (Change.Given team) living e = of (nat_le team team_limit) refl e
  where
    of : (t : Bool) → nat_le team team_limit ≡ t
        → ◌≡◌ {A = Result Actor EditRefusal} (if t then Ok (record r { given = team }) else Err EditRefusal.OutOfRange) (Ok s)
        → refusal_in table edits (Edit.Give a team) ≡ None
    of true few made = rw (living, few) refl
    of false few made = absurd (cc)

-- and a change that isn't made is out of range
pub change_refused : (table : Table) (edits : Edits) (a : ℕ) (r : Actor) (why : EditRefusal) (change : Change)
    (guid : Option ℕ) → lives edits a ≡ true
    → record_after r change ≡ Err why → IsAnswer (refusal_in table edits (change_edit a change)) guid (Err why)
change_refused table edits a r why Change.End guid living e = absurd (cc)
change_refused table edits a r why (Change.Owner player) guid living e = of (may_own player) refl e
  where
    of : (t : Bool) → may_own player ≡ t
        → ◌≡◌ {A = Result Actor EditRefusal}
        (if t then Ok (record r { look = record r.look { owner = player } }) else Err EditRefusal.OutOfRange) (Err why)
        → IsAnswer (refusal_in table edits (Edit.Own a player)) guid (Err why)
    of true may made = absurd (cc)
    of false may made =
        subst (λ (x : EditRefusal). IsAnswer (refusal_in table edits (Edit.Own a player)) guid (Err x)) (same made)
        (owner_refused table edits a player living may)
      where
        same : ◌≡◌ {A = Result Actor EditRefusal} (Err EditRefusal.OutOfRange) (Err why) → EditRefusal.OutOfRange ≡ why
        same m = cc
change_refused table edits a r why (Change.Dormant dormant) guid living e = absurd (cc)
change_refused table edits a r why Change.Flush guid living e = absurd (cc)
change_refused table edits a r why (Change.Given team) guid living e = of (nat_le team team_limit) refl e
  where
    of : (t : Bool) → nat_le team team_limit ≡ t
        → ◌≡◌ {A = Result Actor EditRefusal} (if t then Ok (record r { given = team }) else Err EditRefusal.OutOfRange)
        (Err why)
        → IsAnswer (refusal_in table edits (Edit.Give a team)) guid (Err why)
    of true few made = absurd (cc)
    of false few made =
        subst (λ (x : EditRefusal). IsAnswer (refusal_in table edits (Edit.Give a team)) guid (Err x)) (same made)
        (rw (living, few) refl)
      where
        same : ◌≡◌ {A = Result Actor EditRefusal} (Err EditRefusal.OutOfRange) (Err why) → EditRefusal.OutOfRange ≡ why
        same m = cc

-- the world goes along with it
pub change_stands : (w : Kept) (edits : Edits) (a : ℕ) (r s : Actor) (change : Change) (actors : List Actor)
    → Stands w edits → actor_at w.actors a ≡ Some r → record_after r change ≡ Ok s → Puts w actors a s
    → Stands (record w { actors = actors }) (edit_of (change_edit a change) ∷ edits)
change_stands w edits a r s Change.End actors stands is e puts =
    destroy_stands w edits a r actors stands is (subst (Puts w actors a) (sym (same_ok _ s e)) puts)
change_stands w edits a r s (Change.Owner player) actors stands is e puts = of (may_own player) refl e
  where
    of : (t : Bool) → may_own player ≡ t
        → ◌≡◌ {A = Result Actor EditRefusal}
        (if t then Ok (record r { look = record r.look { owner = player } }) else Err EditRefusal.OutOfRange) (Ok s)
        → Stands (record w { actors = actors }) (edit_of (Edit.Own a player) ∷ edits)
    of true may made =
        own_stands w edits a (unwrap_or player 0) r actors stands is
        (subst (Puts w actors a)
        (sym (ap (λ (owner : Option ℕ). record r { look = record r.look { owner = owner } }) (owner_named player may)
        ∙ same_ok _ s made)) puts)
    of false may made = absurd (cc)
change_stands w edits a r s (Change.Dormant true) actors stands is e puts =
    dormant_stands w edits a r actors stands is (subst (Puts w actors a) (sym (same_ok _ s e)) puts)
change_stands w edits a r s (Change.Dormant false) actors stands is e puts =
    wake_stands w edits a r actors stands is (subst (Puts w actors a) (sym (same_ok _ s e)) puts)
change_stands w edits a r s Change.Flush actors stands is e puts =
    flush_stands w edits a r actors stands is (subst (Puts w actors a) (sym (same_ok _ s e)) puts)
change_stands w edits a r s (Change.Given team) actors stands is e puts = of (nat_le team team_limit) refl e
  where
    of : (t : Bool) → nat_le team team_limit ≡ t
        → ◌≡◌ {A = Result Actor EditRefusal} (if t then Ok (record r { given = team }) else Err EditRefusal.OutOfRange) (Ok s)
        → Stands (record w { actors = actors }) (edit_of (Edit.Give a team) ∷ edits)
    of true few made = give_stands w edits a team r actors stands is (subst (Puts w actors a) (sym (same_ok _ s made)) puts)
    of false few made = absurd (cc)
