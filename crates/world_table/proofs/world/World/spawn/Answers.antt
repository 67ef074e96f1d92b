use Rattle.std.proofs.Common.{◌≡◌, ◌∙◌, ◌++◌, ◌+◌, ◌*◌, ℕ, List, map, true, false, nat_le, Some, refl, sym, ap, subst, arith, rules, w32}
use Rattle.std.proofs.lemmas.Bool.Decides.{nat_tests}
use Rattle.std.proofs.lemmas.Int.{to_z-of_z}
use mir.Val.{SFits}
use Rattle.protocol_model.specs.World.{spawn_count}
use Rattle.class_members.specs.declared.members.Prop.{Prop}
use Rattle.world_table.specs.declared.edit.Edit.{Edit}
use Rattle.world_table.specs.Kept.{Kept, first_cell}
use Rattle.world_table.specs.Stands.{Stands}
use Rattle.world_table.proofs.Refusing.{decided}
use Rattle.class_layout.proofs.InMemory.{class_in_range}
use Rattle.world_table.proofs.Spawning.{spawn_gives}
use Rattle.world_table.proofs.world.World.spawn.Goals as goal

pub returns-in-Ok-clause-answer : goal.returns-in-Ok-clause-answer
returns-in-Ok-clause-answer c = λ edits h.
    let inside = subst (λ (w : Kept). Stands w edits) (sym c.self.view_is) h in
    let room : nat_le 8192 (spawn_count edits) ≡ false = let count = inside.count in grind (arith, nat_tests) in
    let number : c.len-in-Ok.result ≡ spawn_count edits + 1 = omega (arith, inside.count, c.in-Ok.ensures.len) in (
      rw (← c.self.view_is)
          (decided _ edits (Edit.Spawn c.args.class c.args.x c.args.y) true true false true refl
          (class_in_range c.self.inside.classes.now c.args.class c.in-Some.found.now (sym c.in-Some.ensures)) room
          refl),
      ap (λ (n : ℕ). Some (2 * n)) number,
    )

pub returns-in-Ok-clause-stands : goal.returns-in-Ok-clause-stands
returns-in-Ok-clause-stands c = λ edits h.
    let inside = subst (λ (w : Kept). Stands w edits) (sym c.self.view_is) h in
    let x_fits : SFits w32 c.args.x = search rules in
    let y_fits : SFits w32 c.args.y = search rules in
    let pushed = simp to_z-of_z at c.in-Ok.ensures.items in
    spawn_gives _ edits c.args.class c.args.x c.args.y c.in-Some.found.now c.push_cells.new.cells.items
    c.push.new.self.items c.len-first.result c.len-past.result
    inside (sym c.in-Some.ensures)
    (c.in_ok-push_cells.ensures.ok
    ∙ ap (λ (props : List Prop). c.self.inside.cells.items ++ map first_cell props) c.as_slice.ensures)
    (omega (arith, c.self.inside.cells.ok.0)) (omega (arith, c.push_cells.new.cells.ok.0)) pushed
