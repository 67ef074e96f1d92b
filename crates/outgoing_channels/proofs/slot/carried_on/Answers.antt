use Rattle.outgoing_channels.proofs.Settled.{slot_read, slot_set, fits_as}
use Rattle.outgoing_channels.proofs.slot.carried_on.Goals as goal

pub returns-clause-fits : goal.returns-clause-fits
returns-clause-fits c = λ high h.
    let is = slot_read c.args.slots.now.items c.args.channel c.index_mut-slot.result.now c.requires.within c.index_mut-slot.ensures.value in
    fits_as high _ _ (slot_set c.args.slots.now.items c.args.channel c.carried.new.self c.requires.within) (c.carried.ensures.fits high (fits_as high _ _ is h))
