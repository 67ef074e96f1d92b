use Rattle.std.proofs.Common.{◌≡◌, ℕ, ◌<◌, ◌∙◌, refl, arith, length, Some, length-set}
use Rattle.std.specs.List.{slice_get}
use Rattle.std.proofs.lemmas.Option.{slice_get_read}
use Rattle.value_codec.specs.Values.{whole_of}
use Rattle.sender_records.specs.declared.handle.HandleRecord.{HandleRecord}
use Rattle.sender_records.specs.Handles.{handle_carried}
use Rattle.sender_records.proofs.Writes.{written, updated_here, other_handle}
use Rattle.sender_records.proofs.values.carry_all.Goals as goal

pub loop-p-preserved : goal.loop-p-preserved
loop-p-preserved c =
    let at : slice_get c.args.values.now c.loop-p.p-index ≡ Some c.p-item.result =
    slice_get_read c.args.values.now (length c.args.values.now) c.loop-p.p-index c.p-item.result refl
    (omega arith) c.p-item.is in
    let low : c.p-item.result.prop < length c.args.handles.now.items =
    c.requires.room c.loop-p.p-index c.p-item.result at in
    let within : c.place-at.result < length c.loop-p.handles.items = omega
    (arith, c.place-at.ensures.same, low, c.loop-p.invariant.len) in
    record {
      len = length-set c.loop-p.handles.items c.place-at.result c.carries.new.self ∙ c.loop-p.invariant.len;
      each = λ h apart.
          written (λ (h : ℕ). handle_carried c.args.packet) c.args.values.now c.loop-p.p-index c.p-item.result
          c.args.handles.now.items c.loop-p.handles.items _ at apart
          (λ h. c.loop-p.invariant.each h apart)
          (updated_here (λ (k : HandleRecord). handle_carried c.args.packet k (whole_of c.p-item.result.value))
          c.loop-p.handles.items c.place-at.result c.p-item.result.prop
          c.index_mut.result.now c.carries.new.self within c.place-at.ensures.same c.index_mut.ensures.value
          c.carries.ensures)
          (λ h ne. other_handle c.loop-p.handles.items c.place-at.result c.p-item.result.prop h c.carries.new.self
          c.place-at.ensures.same ne) h;
    }
