use Rattle.std.proofs.Common.{◌≡◌, ◌<◌, ◌==◌, ℕ, [], map, ◌∙◌, ap, sym, subst, arith, ℤ}
use Rattle.change_model.specs.Changes.{changes_since}
use Rattle.shadow_changes.specs.Samples.{change_value}
use Rattle.class_layout.specs.Tables.{class_of}
use Rattle.sender_laws.specs.Values.{IsCurrent}
use Rattle.sender_records.specs.declared.handle.HandleRecord.{HandleRecord}
use Rattle.sender_records.specs.Handles.{HandlesKept, handle_in, handle_compared, is_updatable_in, KeepsHandle, KeepsHandles, newest_change}
use Rattle.sender_records.proofs.TableSteps.{compared_as, packet_stays, table_compared, table_due}
use Rattle.sender_records.proofs.Changed.{current, newest_within}
use Rattle.sender_records.proofs.table.HandleTable.compares.Goals as goal

pub returns-clause-keeps : goal.returns-clause-keeps
returns-clause-keeps c = λ past actor samples h ticks sampled turn.
    let k : KeepsHandles past samples actor
    (record { compared = c.self.inside.compared; last = c.self.inside.last; handles = c.self.inside.handles.items }) =
    subst (KeepsHandles past samples actor) (sym c.self.view_is) h in
    let is_in : map change_value c.args.changes.now ≡ changes_since samples c.self.inside.compared =
    sampled.told ∙ ap (λ (t : HandlesKept). changes_since samples t.compared) (sym c.self.view_is) in
    let newer : c.self.inside.last < c.args.tick = omega
    (arith, ap (λ (t : HandlesKept). t.last) c.self.view_is, c.requires) in
    let newest : c.newest-self-inside.result ≡ newest_change c.self.inside.compared c.args.changes.now =
    c.newest-self-inside.ensures in
    record {
      each = λ h.
          let f : HandleRecord → ℤ → HandleRecord = handle_compared c.self.inside.last c.args.tick
          (is_updatable_in (class_of [] c.args.class.now) c.args.owns h) (h == 3) in
          subst (λ (n : ℕ). KeepsHandle past samples actor n c.args.tick h
          (handle_in c.compare_all.new.handles.items h)) (sym newest)
          (table_compared past samples actor c.self.inside.compared c.self.inside.last c.args.tick h
          (class_of [] c.args.class.now) c.args.owns c.args.changes.now c.args.values.now
          (handle_in c.self.inside.handles.items h) (handle_in c.compare_all.new.handles.items h)
          (k.each h) sampled.agrees is_in
          (compared_as f c.grow.new.handles.items c.mark_all.new.handles.items c.compare_all.new.handles.items
          c.args.changes.now c.args.values.now h (handle_in c.self.inside.handles.items h)
          (c.in_ok-grow.ensures.same h) c.in_ok-grow.ensures.room c.mark_all.ensures.len (c.mark_all.ensures.each h)
          (c.compare_all.ensures.each [] h sampled.apart))
          newer turn);
      compared =
          omega (
            arith,
            newest,
            newest_within samples c.self.inside.compared c.self.inside.compared c.args.changes.now
                is_in turn k.compared,
          );
      some = omega (arith, newer);
      now = omega (arith, ticks);
    }

pub returns-clause-current : goal.returns-clause-current
returns-clause-current c = λ samples turn is.
    subst (IsCurrent samples) (sym c.newest-self-inside.ensures)
    (current samples c.self.inside.compared c.args.changes.now (is
    ∙ ap (λ (t : HandlesKept). changes_since samples t.compared) (sym c.self.view_is)) turn)

pub returns-clause-due : goal.returns-clause-due
returns-clause-due c = λ past actor samples segments h v keeps sampled at u.
    let k : KeepsHandles past samples actor
    (record { compared = c.self.inside.compared; last = c.self.inside.last; handles = c.self.inside.handles.items }) =
    subst (KeepsHandles past samples actor) (sym c.self.view_is) keeps in
    let is_in : map change_value c.args.changes.now ≡ changes_since samples c.self.inside.compared =
    sampled.told ∙ ap (λ (t : HandlesKept). changes_since samples t.compared) (sym c.self.view_is) in
    let f : HandleRecord → ℤ → HandleRecord = handle_compared c.self.inside.last c.args.tick
    (is_updatable_in (class_of segments c.args.class.now) c.args.owns h) (h == 3) in
    table_due past samples actor c.self.inside.compared c.self.inside.last c.args.tick h
    (class_of segments c.args.class.now) c.args.owns c.args.changes.now c.args.values.now
    (handle_in c.self.inside.handles.items h) (handle_in c.compare_all.new.handles.items h)
    (k.each h) sampled.agrees is_in
    (compared_as f c.grow.new.handles.items c.mark_all.new.handles.items c.compare_all.new.handles.items
    c.args.changes.now c.args.values.now h (handle_in c.self.inside.handles.items h)
    (c.in_ok-grow.ensures.same h) c.in_ok-grow.ensures.room c.mark_all.ensures.len (c.mark_all.ensures.each h)
    (c.compare_all.ensures.each segments h sampled.apart))
    v at u

pub returns-clause-packets : goal.returns-clause-packets
returns-clause-packets c = λ apart h.
    packet_stays c.self.inside.last c.args.tick (is_updatable_in (class_of [] c.args.class.now) c.args.owns h)
    (h == 3) c.args.changes.now c.args.values.now h
    (handle_in c.self.inside.handles.items h) (handle_in c.compare_all.new.handles.items h)
    (compared_as (handle_compared c.self.inside.last c.args.tick
    (is_updatable_in (class_of [] c.args.class.now) c.args.owns h) (h == 3))
    c.grow.new.handles.items c.mark_all.new.handles.items c.compare_all.new.handles.items c.args.changes.now
    c.args.values.now h (handle_in c.self.inside.handles.items h)
    (c.in_ok-grow.ensures.same h) c.in_ok-grow.ensures.room c.mark_all.ensures.len (c.mark_all.ensures.each h)
    (c.compare_all.ensures.each [] h apart))
    ∙ ap (λ (t : HandlesKept). (handle_in t.handles h).packet) c.self.view_is
