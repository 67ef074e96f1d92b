use Rattle.std.proofs.Common.{◌≡◌, [], false, sym, ◌∙◌}
use Rattle.protocol_model.specs.Payload.{Closes}
use Rattle.connection_model.specs.Items.{loose_item}
use Rattle.connection_model.specs.Pack.{after_offer}
use Rattle.bit_io.specs.Lent.{slice_bits}
use Rattle.bunch_packing.proofs.Trials.{still_packing}
use Rattle.bunch_packing.proofs.tests.fill.Goals as goal

pub returns-in_default : goal.returns-in_default
returns-in_default c =
    let r = c.loop-count.invariant in
    let e : [] ≡ slice_bits c.lend.result =
    sym (c.lend.ensures ∙ c.in_ok-payload.ensures) in (
      r.0,
      r.1,
      r.2,
      after_offer r.0 r.3 (loose_item (Closes 2 false) 3),
      c.in_ok-offer_loose.ensures.packs c.args.table.now r.0 r.1 r.2 r.3 (Closes 2 false) r.4 e,
      r.5,
    )

pub loop-count-preserved : goal.loop-count-preserved
loop-count-preserved c =
    let r = c.loop-count.invariant in
    let e : [] ≡ slice_bits c.lend.result =
    sym (c.lend.ensures ∙ c.in_ok-payload.ensures) in
    still_packing c.loop-count.link c.offer_loose.new.link c.args.table.now r
    (loose_item (Closes 2 false) 3) c.in_ok-offer_loose.field-0
    (c.in_ok-offer_loose.ensures.packet c.args.table.now r.0 r.1 r.2 r.3 (Closes 2 false) r.4 e)
    _ c.in-Some.is
    (c.in_ok-offer_loose.ensures.packs c.args.table.now r.0 r.1 r.2 r.3 (Closes 2 false) r.4 e)
