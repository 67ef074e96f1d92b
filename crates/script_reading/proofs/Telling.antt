-- Lines that are told right by what is kept are told right by the lines before.
use Rattle.std.proofs.Common.{◌≡◌, ℕ, zero, suc, ◌+◌, ◌-◌, ◌*◌, ◌/◌, List, [], ◌∷◌, ◌++◌, length, refl, sym, ◌∙◌, ap, subst, arith, append-nil, Bool, true, false, ◌&&◌, ◌==◌, nat_le, nat_eq, Option, Some, None, IfSome, cond, ℤ}
use Rattle.std.specs.Prelude.{slice_get, option_map, option_to_list}
use Rattle.std.proofs.lemmas.Bool.Decides.{nat_tests}
use Rattle.std.proofs.lemmas.List.{length-append}
use Rattle.std.proofs.lemmas.List.Sums.{sum_by-cons}
use Rattle.protocol_model.specs.Value.{Table, Class}
use Rattle.protocol_model.specs.World as model
use Rattle.protocol_model.specs.World.{Edits, spawn_count, class_at, class_of, is_spawn, no_class}
use Rattle.world_table.specs.Answers as world
use Rattle.world_table.specs.Answers.{has_tag}
use Rattle.world_table.specs.declared.edit.Edit.{Edit}
use Rattle.script_lines.specs.LineOf.{line_of}
use Rattle.script_lines.specs.ToldRight.{kinds_of, is_told_right, are_told_right, edits_with}
use Rattle.script_lines.specs.declared.line.Line.{Line}
use Rattle.script_lines.specs.declared.line.Line.TheVariants.{Join, Tick, ClientTick, Down, Up, DownNew, UpNew, Call, Multi, ClientCall, Dump, Settled, Forge, ClientForge}
use Rattle.script_lines.specs.declared.line.Line.TheVariants as line
use Rattle.value_codec.specs.Values.{args_are_of}
use Rattle.script_reading.specs.Kept.{Kept, Actor, nothing, class_if, class_kept, destroyed_at, kept_with, kept_after, kept_some}
use Rattle.script_reading.specs.ToldBy.{is_edit_told, is_told_by, KeepsClasses, edits_through, Told}
use Rattle.script_reading.proofs.After.{get_at, get_off, length-destroyed}
use Rattle.script_reading.proofs.Tags.{and_on}

-- ---- classes

-- the class at a place, if the guid has one
abbrev class_placed : List Actor → (a : ℕ) → Bool → Class
class_placed actors a t = cond t (class_if (slice_get actors (a / 2 - 1))) no_class

spawn_keeps : (table : Table) (kept : Kept) (edits : Edits) (c : ℕ) (x y : ℤ) → KeepsClasses table kept edits
    → KeepsClasses table (kept_with table kept (model.Spawn c x y)) (model.Spawn c x y ∷ edits)
spawn_keeps table kept edits c x y k = record {
  count = longer ∙ (let e = k.count in let f = one_more in omega arith);
  classes = λ a. by_place a (nat_eq a (2 * (spawn_count edits + 1))) refl;
}
  where
    new : Actor
    new = record { class = class_at table c; alive = true }

    one_more : spawn_count (model.Spawn c x y ∷ edits) ≡ 1 + spawn_count edits
    one_more = sum_by-cons (λ (e : model.Edit). cond (is_spawn e) 1 0) (model.Spawn c x y) edits

    longer : length (kept.actors ++ new ∷ []) ≡ length kept.actors + 1
    longer = length-append kept.actors (new ∷ [])

    by_guid : (a : ℕ) (t : Bool) → (nat_le 2 a && nat_eq a (2 * (a / 2))) ≡ t
        → nat_eq a (2 * (spawn_count edits + 1)) ≡ false
        → class_placed (kept.actors ++ new ∷ []) a t ≡ class_placed kept.actors a t
    by_guid a false e h = refl
    by_guid a true e h = ap class_if (get_off kept.actors new (a / 2 - 1) (grind (arith, nat_tests, k.count)))

    by_place : (a : ℕ) (t : Bool) → nat_eq a (2 * (spawn_count edits + 1)) ≡ t
        → class_kept (kept_with table kept (model.Spawn c x y)) a ≡ class_of table (model.Spawn c x y ∷ edits) a
    by_place a false h =
        by_guid a (nat_le 2 a && nat_eq a (2 * (a / 2))) refl h ∙ k.classes a ∙ (rw h refl)
    by_place a true h =
        let e : (nat_le 2 a && nat_eq a (2 * (a / 2))) ≡ true = grind (arith, nat_tests) in
        let f : a / 2 - 1 ≡ length kept.actors = grind (arith, nat_tests, k.count) in
        rw (e, h) (ap class_if (get_at kept.actors new (a / 2 - 1) f))

-- a destroyed actor keeps its class
destroyed_class : (n : ℕ) (actors : List Actor) (m : ℕ)
    → class_if (slice_get (destroyed_at n actors) m) ≡ class_if (slice_get actors m)
destroyed_class n [] m = refl
destroyed_class zero (a ∷ actors) zero = refl
destroyed_class zero (a ∷ actors) (suc m) = refl
destroyed_class (suc n) (a ∷ actors) zero = refl
destroyed_class (suc n) (a ∷ actors) (suc m) = destroyed_class n actors m

destroy_keeps : (table : Table) (kept : Kept) (edits : Edits) (b : ℕ) → KeepsClasses table kept edits
    → KeepsClasses table (kept_with table kept (model.Destroy b)) (model.Destroy b ∷ edits)
destroy_keeps table kept edits b k = record {
  count = length-destroyed (b / 2 - 1) kept.actors ∙ k.count;
  classes = λ a.
      ap (λ class. cond (nat_le 2 a && a == 2 * (a / 2)) class no_class)
      (destroyed_class (b / 2 - 1) kept.actors (a / 2 - 1)) ∙ k.classes a;
}

edit_keeps : (table : Table) (kept : Kept) (edits : Edits) (edit : Edit) → KeepsClasses table kept edits
    → KeepsClasses table (kept_with table kept (world.edit_of edit)) (world.edit_of edit ∷ edits)
edit_keeps table kept edits (Edit.Spawn class x y) k = spawn_keeps table kept edits class x y k
edit_keeps table kept edits (Edit.Destroy actor) k = destroy_keeps table kept edits actor k
edit_keeps table kept edits (Edit.Set actor prop value) k = record { count = k.count; classes = k.classes }
edit_keeps table kept edits (Edit.Own actor player) k = record { count = k.count; classes = k.classes }
edit_keeps table kept edits (Edit.View player x y) k = record { count = k.count; classes = k.classes }
edit_keeps table kept edits (Edit.Add actor player on) k = record { count = k.count; classes = k.classes }
edit_keeps table kept edits (Edit.Dormant actor) k = record { count = k.count; classes = k.classes }
edit_keeps table kept edits (Edit.Wake actor) k = record { count = k.count; classes = k.classes }
edit_keeps table kept edits (Edit.Flush actor) k = record { count = k.count; classes = k.classes }
edit_keeps table kept edits (Edit.Switch actor prop on) k = record { count = k.count; classes = k.classes }
edit_keeps table kept edits (Edit.Team player team) k = record { count = k.count; classes = k.classes }
edit_keeps table kept edits (Edit.Give actor team) k = record { count = k.count; classes = k.classes }

line_keeps : (table : Table) (kept : Kept) (edits : Edits) (l : Line) → KeepsClasses table kept edits
    → KeepsClasses table (kept_after table kept (line_of l)) (edits_with edits l)
line_keeps table kept edits (Join player budget version) k = record { count = k.count; classes = k.classes }
line_keeps table kept edits (line.Edit edit) k = edit_keeps table kept edits edit k
line_keeps table kept edits Tick k = k
line_keeps table kept edits (ClientTick player) k = k
line_keeps table kept edits (Down player packet) k = k
line_keeps table kept edits (Up player packet) k = k
line_keeps table kept edits (DownNew player every) k = k
line_keeps table kept edits (UpNew player every) k = k
line_keeps table kept edits (Call player actor call args) k = k
line_keeps table kept edits (Multi actor call args) k = k
line_keeps table kept edits (ClientCall player actor call args) k = k
line_keeps table kept edits (Dump player) k = k
line_keeps table kept edits (Settled player actor) k = k
line_keeps table kept edits (Forge player bytes) k = k
line_keeps table kept edits (ClientForge player bytes) k = k

-- ---- tags

edit_told : (table : Table) (kept : Kept) (edits : Edits) (edit : Edit) → KeepsClasses table kept edits
    → world.is_told_right table edits edit ≡ is_edit_told kept edit
edit_told table kept edits (Edit.Set actor prop value) k =
    ap (λ class. has_tag class prop value) (sym (k.classes actor))
edit_told table kept edits (Edit.Own actor (Some player)) k = refl
edit_told table kept edits (Edit.Own actor None) k = refl
edit_told table kept edits (Edit.Spawn class x y) k = refl
edit_told table kept edits (Edit.Destroy actor) k = refl
edit_told table kept edits (Edit.View player x y) k = refl
edit_told table kept edits (Edit.Add actor player on) k = refl
edit_told table kept edits (Edit.Dormant actor) k = refl
edit_told table kept edits (Edit.Wake actor) k = refl
edit_told table kept edits (Edit.Flush actor) k = refl
edit_told table kept edits (Edit.Switch actor prop on) k = refl
edit_told table kept edits (Edit.Team player team) k = refl
edit_told table kept edits (Edit.Give actor team) k = refl

line_told : (table : Table) (kept : Kept) (edits : Edits) (l : Line) → KeepsClasses table kept edits
    → is_told_right table edits l ≡ is_told_by kept l
line_told table kept edits (line.Edit edit) k = edit_told table kept edits edit k
line_told table kept edits (Call player actor call args) k =
    ap (λ class. args_are_of (kinds_of class call) args) (sym (k.classes actor))
line_told table kept edits (Multi actor call args) k =
    ap (λ class. args_are_of (kinds_of class call) args) (sym (k.classes actor))
line_told table kept edits (ClientCall player actor call args) k =
    ap (λ class. args_are_of (kinds_of class call) args) (sym (k.classes actor))
line_told table kept edits (Join player budget version) k = refl
line_told table kept edits Tick k = refl
line_told table kept edits (ClientTick player) k = refl
line_told table kept edits (Down player packet) k = refl
line_told table kept edits (Up player packet) k = refl
line_told table kept edits (DownNew player every) k = refl
line_told table kept edits (UpNew player every) k = refl
line_told table kept edits (Dump player) k = refl
line_told table kept edits (Settled player actor) k = refl
line_told table kept edits (Forge player bytes) k = refl
line_told table kept edits (ClientForge player bytes) k = refl

-- ---- one line more

right_last : (table : Table) (edits : Edits) (lines : List Line) (l : Line) → are_told_right table edits lines ≡ true
    → is_told_right table (edits_through edits lines) l ≡ true → are_told_right table edits (lines ++ l ∷ []) ≡ true
right_last table edits [] l h is = rw is refl
right_last table edits (x ∷ xs) l h is =
    and_on (is_told_right table edits x) (are_told_right table (edits_with edits x) xs)
    (are_told_right table (edits_with edits x) (xs ++ l ∷ [])) h
    (λ rest. right_last table (edits_with edits x) xs l rest is)

edits_last : (edits : Edits) (lines : List Line) (l : Line)
    → edits_with (edits_through edits lines) l ≡ edits_through edits (lines ++ l ∷ [])
edits_last edits [] l = refl
edits_last edits (x ∷ xs) l = edits_last (edits_with edits x) xs l

-- no line is told yet
pub none_told : (table : Table) → Told table nothing []
none_told table = record { right = refl; classes = record { count = refl; classes = λ a. none_kept a } }
  where
    none_kept : (a : ℕ) → class_kept nothing a ≡ class_of table [] a
    none_kept a = by_guid (nat_le 2 a && nat_eq a (2 * (a / 2)))
      where
        by_guid : (t : Bool) → cond t (class_if (slice_get [] (a / 2 - 1))) no_class ≡ no_class
        by_guid true = refl
        by_guid false = refl

-- a line that is told right by what is kept of those before
line_more : (table : Table) (kept : Kept) (lines : List Line) (l : Line) → Told table kept lines
    → is_told_by kept l ≡ true
    → Told table (kept_after table kept (line_of l)) (lines ++ l ∷ [])
line_more table kept lines l t is = record {
  right = right_last table [] lines l t.right (line_told table kept (edits_through [] lines) l t.classes ∙ is);
  classes = subst (λ edits. KeepsClasses table (kept_after table kept (line_of l)) edits) (edits_last [] lines l)
      (line_keeps table kept (edits_through [] lines) l t.classes);
}

pub told_more : (table : Table) (kept after : Kept) (lines lines_after : List Line) (l : Option Line)
    → IfSome l (λ l. is_told_by kept l ≡ true) → lines_after ≡ lines ++ option_to_list l
    → after ≡ kept_some table kept (option_map line_of l) → Told table kept lines → Told table after lines_after
told_more table kept after lines lines_after None is behind now t =
    subst (λ k. Told table k lines_after) (sym now)
    (subst (λ ls. Told table kept ls) (sym (behind ∙ append-nil lines)) t)
told_more table kept after lines lines_after (Some l) is behind now t =
    subst (λ k. Told table k lines_after) (sym now)
    (subst (λ ls. Told table (kept_after table kept (line_of l)) ls) (sym behind) (line_more table kept lines l t is))

-- over a table that is the same
pub told_step : (table table_0 : Table) (kept after : Kept) (lines lines_after : List Line) → table ≡ table_0
    → (Told table kept lines → Told table after lines_after) → Told table_0 kept lines → Told table_0 after lines_after
told_step table table_0 kept after lines lines_after t step told =
    subst (λ tb. Told tb after lines_after) t (step (subst (λ tb. Told tb kept lines) (sym t) told))
