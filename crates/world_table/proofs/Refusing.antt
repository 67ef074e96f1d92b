-- Why an edit isn't taken.
use Rattle.std.proofs.Common.{◌≡◌, ◌∙◌, ℕ, ℤ, Bool, true, false, not, ◌&&◌, ◌||◌, ◌==◌, Option, Some, None, option_map, unwrap_or, refl, ap, if◌then◌else◌, arith}
use Rattle.std.specs.Bool.{then_some}
use Rattle.std.proofs.lemmas.Bool.Decides.{nat_tests}
use Rattle.std.proofs.lemmas.Option.{same_Some}
use Rattle.protocol_model.specs.declared.Kind.{Kind}
use Rattle.protocol_model.specs.Search.{or_else}
use Rattle.protocol_model.specs.Value.{Table, Class, Prop, fits, prop_at}
use Rattle.protocol_model.specs.World as model
use Rattle.protocol_model.specs.World.{Edits, lives, class_of, takes, names_living, named_actor, is_in_range, is_past_last, is_player}
use Rattle.value_codec.specs.Values.{whole_of, is_of, value_fits}
use Rattle.value_codec.specs.declared.value.Value.{Value}
use Rattle.world_table.specs.declared.edit.Edit.{Edit}
use Rattle.world_table.specs.Answers.{edit_of, refusal_in, is_told_right, has_tag, may_own, player_of, settable_at}

-- the refusal by what holds of the edit
abbrev pub decide : (living in_range past tagged : Bool) → Option model.EditRefusal
decide living in_range past tagged =
    or_else (if not living then Some model.NoActor else if not in_range then Some model.OutOfRange else if past then
    Some model.ActorsFull else None)
    (then_some (not tagged) model.OutOfRange)

pub decided : (table : Table) (edits : Edits) (e : Edit) (living in_range past tagged : Bool)
    → names_living edits (named_actor (edit_of e)) ≡ living → is_in_range table edits (edit_of e) ≡ in_range
    → is_past_last edits (edit_of e) ≡ past → is_told_right table edits e ≡ tagged
    → refusal_in table edits e ≡ decide living in_range past tagged
decided table edits e living in_range past tagged l r p t =
    ap (λ (b : Bool). decide b (is_in_range table edits (edit_of e)) (is_past_last edits (edit_of e))
    (is_told_right table edits e)) l
    ∙ ap (λ (b : Bool). decide living b (is_past_last edits (edit_of e)) (is_told_right table edits e)) r
    ∙ ap (λ (b : Bool). decide living in_range b (is_told_right table edits e)) p ∙ ap (decide living in_range past) t

-- ---- a value that is set

takes_none : (class : Class) (h : ℕ) (v : ℤ) (o : Option Prop) (t : Bool) → prop_at class h ≡ o → (h == 3) ≡ t
    → (if t then None else o) ≡ None → takes class h v ≡ false
takes_none class h v None t e three none = rw e refl
takes_none class h v (Some p) true e three none = rw (e, three) refl
takes_none class h v (Some p) false e three none = absurd (cc)

takes_some : (class : Class) (h : ℕ) (v : ℤ) (p : Prop) (o : Option Prop) (t : Bool) → prop_at class h ≡ o
    → (h == 3) ≡ t
    → (if t then None else o) ≡ Some p → (takes class h v ≡ fits p.kind v) × (prop_at class h ≡ Some p)
takes_some class h v p None true e three some = absurd (cc)
takes_some class h v p None false e three some = absurd (cc)
takes_some class h v p (Some q) true e three some = absurd (cc)
takes_some class h v p (Some q) false e three some =
    (rw (e, three) (ap (λ (x : Prop). fits x.kind v) (same_Some q p some)), e ∙ some)

by_tests : (in_range tagged : Bool)
    → decide true in_range false tagged ≡ (if tagged && in_range then None else Some model.OutOfRange)
by_tests true true = refl
by_tests true false = refl
by_tests false true = refl
by_tests false false = refl

-- a handle that can't be set
pub set_unknown : (table : Table) (edits : Edits) (a h : ℕ) (v : Value) → lives edits a ≡ true
    → option_map (λ (p : Prop). p.kind) (settable_at (class_of table edits a) h) ≡ None
    → refusal_in table edits (Edit.Set a h v) ≡ Some model.OutOfRange
set_unknown table edits a h v living none = of (settable_at class h) refl none
  where
    class : Class
    class = class_of table edits a

    of : (o : Option Prop) → settable_at class h ≡ o → option_map (λ (p : Prop). p.kind) o ≡ None
        → refusal_in table edits (Edit.Set a h v) ≡ Some model.OutOfRange
    of None e k =
        decided table edits (Edit.Set a h v) true false false (has_tag class h v) living
        (takes_none class h (whole_of v) (prop_at class h) (h == 3) refl refl e) refl refl
    of (Some p) e k = absurd (cc)

-- a handle of this kind
pub set_known : (table : Table) (edits : Edits) (a h : ℕ) (v : Value) (kind : Kind) → lives edits a ≡ true
    → option_map (λ (p : Prop). p.kind) (settable_at (class_of table edits a) h) ≡ Some kind
    → refusal_in table edits (Edit.Set a h v) ≡ (if value_fits kind v then None else Some model.OutOfRange)
set_known table edits a h v kind living some = of (settable_at class h) refl some
  where
    class : Class
    class = class_of table edits a

    of : (o : Option Prop) → settable_at class h ≡ o → option_map (λ (p : Prop). p.kind) o ≡ Some kind
        → refusal_in table edits (Edit.Set a h v) ≡ (if value_fits kind v then None else Some model.OutOfRange)
    of None e k = absurd (cc)
    of (Some p) e k =
        let known = takes_some class h (whole_of v) p (prop_at class h) (h == 3) refl refl e in
        let tag : has_tag class h v
        ≡ is_of p.kind v = ap
        (λ (o : Option Prop). unwrap_or (option_map (λ (q : Prop). is_of q.kind v) o) true) known.1 in
        decided table edits (Edit.Set a h v) true (fits p.kind (whole_of v)) false
        (is_of p.kind v) living known.0 refl tag
        ∙ by_tests (fits p.kind (whole_of v)) (is_of p.kind v)
        ∙ ap (λ (x : Kind). if value_fits x v then None else Some model.OutOfRange) (same_Some p.kind kind k)

-- ---- an owner

-- an owner that may be named is in range and told right
pub owner_taken : (table : Table) (edits : Edits) (a : ℕ) (player : Option ℕ) → lives edits a ≡ true
    → may_own player ≡ true → refusal_in table edits (Edit.Own a player) ≡ None
owner_taken table edits a None living may =
    decided table edits (Edit.Own a None) true true false true living refl refl refl
owner_taken table edits a (Some player) living may =
    let tests : ((player == 0 || is_player player) ≡ true) × (not (player == 0) ≡ true) = numbered player may in
    decided table edits (Edit.Own a (Some player)) true true false true living tests.0 refl tests.1
  where
    numbered : (n : ℕ) → is_player n ≡ true → ((n == 0 || is_player n) ≡ true) × (not (n == 0) ≡ true)
    numbered n h = (grind (arith, nat_tests, h), grind (arith, nat_tests, h))

-- and another one isn't
pub owner_refused : (table : Table) (edits : Edits) (a : ℕ) (player : Option ℕ) → lives edits a ≡ true
    → may_own player ≡ false → refusal_in table edits (Edit.Own a player) ≡ Some model.OutOfRange
owner_refused table edits a None living may = absurd (cc)
owner_refused table edits a (Some player) living may =
    decided table edits (Edit.Own a (Some player)) true (player == 0 || is_player player) false
    (not (player == 0)) living refl refl refl
    ∙ by_tests (player == 0 || is_player player) (not (player == 0))
    ∙ ap (λ (b : Bool). if b then None else Some model.OutOfRange) (numbered player may)
  where
    numbered : (n : ℕ) → is_player n ≡ false → (not (n == 0) && (n == 0 || is_player n)) ≡ false
    numbered n h = of (n == 0)
      where
        of : (z : Bool) → (not z && (z || is_player n)) ≡ false
        of true = refl
        of false = h

-- a player that may own is the one that the definitions' edit names
pub owner_named : (player : Option ℕ) → may_own player ≡ true → player_of (unwrap_or player 0) ≡ player
owner_named None may = refl
owner_named (Some player) may = ap (λ (b : Bool). then_some b player) (some player may)
  where
    some : (n : ℕ) → is_player n ≡ true → not (n == 0) ≡ true
    some n h = grind (arith, nat_tests, h)
