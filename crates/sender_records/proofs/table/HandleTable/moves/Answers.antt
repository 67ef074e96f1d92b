use Rattle.std.proofs.Common.{◌∙◌, ap, sym, subst, length, arith}
use Rattle.sender_records.specs.declared.handle.HandleRecord.{HandleRecord}
use Rattle.sender_laws.proofs.Views.{ticks_alike}
use Rattle.sender_records.specs.Handles.{HandlesKept, handle_in, KeepsHandle, KeepsHandles}
use Rattle.sender_records.proofs.HandleSteps.{moved_keeps, again_keeps, packet_stays}
use Rattle.sender_records.proofs.table.HandleTable.moves.Goals as goal

pub returns-clause-keeps : goal.returns-clause-keeps
returns-clause-keeps c = λ past later actor samples h m.
    let k : KeepsHandles past samples actor
    (record { compared = c.self.inside.compared; last = c.self.inside.last; handles = c.self.inside.handles.items }) =
    subst (KeepsHandles past samples actor) (sym c.self.view_is) h in
    record {
      each = λ h.
          subst (KeepsHandle later samples actor c.self.inside.compared c.self.inside.last h)
          (sym (c.move_all.ensures h))
          (moved_keeps c.args.from c.args.to past later m samples actor c.self.inside.compared c.self.inside.last h
          (handle_in c.self.inside.handles.items h) (k.each h));
      compared = k.compared;
      some = k.some;
      now = omega (arith, k.now, ap length (ticks_alike past later m.done));
    }

pub returns-clause-again : goal.returns-clause-again
returns-clause-again c = λ past later actor samples h m.
    let k : KeepsHandles later samples actor
    (record { compared = c.self.inside.compared; last = c.self.inside.last; handles = c.self.inside.handles.items }) =
    subst (KeepsHandles later samples actor) (sym c.self.view_is) h in
    record {
      each = λ h.
          subst (KeepsHandle later samples actor c.self.inside.compared c.self.inside.last h)
          (sym (c.move_all.ensures h))
          (again_keeps c.args.from c.args.to past later m samples actor c.self.inside.compared c.self.inside.last h
          (handle_in c.self.inside.handles.items h) (k.each h));
      compared = k.compared;
      some = k.some;
      now = k.now;
    }

pub returns-clause-packets : goal.returns-clause-packets
returns-clause-packets c = λ h.
    ap (λ (k : HandleRecord). k.packet) (c.move_all.ensures h)
    ∙ packet_stays c.args.from c.args.to (handle_in c.self.inside.handles.items h)
    ∙ ap (λ (t : HandlesKept). (handle_in t.handles h).packet) c.self.view_is
