use Rattle.std.proofs.Common.{◌≡◌, ℕ, ◌<◌, ◌==◌, eqb, ◌∙◌, ap, refl, arith, length, Some, length-set, Bool}
use Rattle.std.specs.List.{slice_get}
use Rattle.std.proofs.lemmas.Bool.Decides.{nat_tests}
use Rattle.std.proofs.lemmas.Option.{slice_get_read}
use Rattle.value_codec.specs.Values.{whole_of}
use Rattle.class_layout.specs.Tables.{class_of}
use Rattle.sender_records.specs.declared.handle.HandleRecord.{HandleRecord}
use Rattle.sender_records.specs.Handles.{handle_in, handle_compared, is_updatable_in}
use Rattle.sender_records.proofs.Writes.{written, updated_here, other_handle, all_written}
use Rattle.sender_records.proofs.values.compare_all.Goals as goal

same_test : (a b : ℕ) → a ≡ b → eqb a 3 ≡ (b == 3)
same_test a b e = grind (arith, nat_tests, e)

pub loop-p-preserved : goal.loop-p-preserved
loop-p-preserved c =
    let at : slice_get c.args.values.now c.loop-p.p-index ≡ Some c.p-item.result =
    slice_get_read c.args.values.now (length c.args.values.now) c.loop-p.p-index c.p-item.result refl
    (omega arith) c.p-item.is in
    let low : c.p-item.result.prop < length c.args.handles.now.items =
    c.requires.room c.loop-p.p-index c.p-item.result at in
    let within : c.place-at.result < length c.loop-p.handles.items = omega
    (arith, c.place-at.ensures.same, low, c.loop-p.invariant.len) in
    record {
      len = length-set c.loop-p.handles.items c.place-at.result c.compares.new.self ∙ c.loop-p.invariant.len;
      each = λ segments h apart.
          let updatable : ℕ → Bool = λ (h : ℕ). is_updatable_in (class_of segments c.args.class.now) c.args.owns h in
          let p : ℕ = c.p-item.result.prop in
          written (λ (h : ℕ). handle_compared c.args.last c.args.tick (updatable h) (h == 3)) c.args.values.now
          c.loop-p.p-index c.p-item.result
          c.args.handles.now.items c.loop-p.handles.items _ at apart
          (λ h. c.loop-p.invariant.each segments h apart)
          (updated_here (λ (k : HandleRecord). handle_compared c.args.last c.args.tick (updatable p) (p == 3) k
          (whole_of c.p-item.result.value))
          c.loop-p.handles.items c.place-at.result p c.index_mut.result.now c.compares.new.self within
          c.place-at.ensures.same c.index_mut.ensures.value
          (c.compares.ensures
          ∙ ap (λ (b : Bool). handle_compared c.args.last c.args.tick b
          (eqb c.place-at.result 3) c.index_mut.result.now (whole_of c.p-item.result.value))
          (c.is_updatable-updatable.ensures segments)
          ∙ ap (λ (b : Bool). handle_compared c.args.last c.args.tick (updatable p) b c.index_mut.result.now
          (whole_of c.p-item.result.value)) (same_test c.place-at.result p c.place-at.ensures.same)))
          (λ h ne. other_handle c.loop-p.handles.items c.place-at.result p h c.compares.new.self
          c.place-at.ensures.same ne) h;
    }

pub returns-clause-each : goal.returns-clause-each
returns-clause-each c = λ segments h apart.
    all_written
    (handle_compared c.args.last c.args.tick (is_updatable_in (class_of segments c.args.class.now) c.args.owns h)
    (h == 3)) c.args.values.now c.loop-p.p-index h
    (handle_in c.args.handles.now.items h) (handle_in c.loop-p.handles.items h) (omega arith)
    (c.loop-p.invariant.each segments h apart)
