use Rattle.std.proofs.Common.{◌∙◌, ◌<◌, length, arith}
use Rattle.outgoing_channels.proofs.Settled.{slot_read, slot_set, fits_as}
use Rattle.outgoing_channels.proofs.making.make_on.Goals as goal

pub make-requires-clause-fits : goal.make-requires-clause-fits
make-requires-clause-fits c =
    let is = slot_read c.grow.new.slots.items c.args.channel c.index_mut-slot.result.now (omega (arith, c.in_ok-grow.ensures.least)) c.index_mut-slot.ensures.value ∙ c.in_ok-grow.ensures.same c.args.channel in
    (c.requires.fits.0, c.place.ensures.fits c.requires.fits.0 (fits_as c.requires.fits.0 _ _ is c.requires.fits.1))

pub returns-clause-fits : goal.returns-clause-fits
returns-clause-fits c = λ high h.
    let within : c.args.channel < length c.grow.new.slots.items = omega (arith, c.in_ok-grow.ensures.least) in
    let is = slot_read c.grow.new.slots.items c.args.channel c.index_mut-slot.result.now within c.index_mut-slot.ensures.value ∙ c.in_ok-grow.ensures.same c.args.channel in
    fits_as high _ _ (slot_set c.grow.new.slots.items c.args.channel c.make.new.self within) (c.make.ensures.fits high (c.place.ensures.fits high (fits_as high _ _ is h)))
