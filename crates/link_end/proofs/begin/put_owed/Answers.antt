use Rattle.std.proofs.Common.{◌∙◌, ◌+◌, ◌-◌, ◌<◌, length, sym, arith}
use Rattle.std.proofs.lemmas.Option.{slice_get_within}
use Rattle.link_end.proofs.Acks.{acks_fit, acks_more, acks_all}
use Rattle.link_end.proofs.begin.put_owed.Goals as goal

pub put-requires-clause-fits : goal.put-requires-clause-fits
put-requires-clause-fits c =
    let room = c.requires.room in
    acks_fit c.version.result c.loop-number.packets c.args.packets.now c.args.book.now.owed c.loop-number.i
    c.in-Some.number room.0
    (c.version.ensures ∙ c.requires.version) c.loop-number.invariant.packets room.1 room.2
    (slice_get_within c.args.book.now.owed c.loop-number.i c.in-Some.number (sym c.in-Some.ensures.kept))
    c.requires.few

pub loop-number-smaller : goal.loop-number-smaller
loop-number-smaller c =
    let within : c.loop-number.i < length c.args.book.now.owed =
    slice_get_within c.args.book.now.owed c.loop-number.i c.in-Some.number (sym c.in-Some.ensures.kept) in
    let less : length c.args.book.now.owed - (c.loop-number.i + 1) < length c.args.book.now.owed - c.loop-number.i =
    omega (arith, within) in
    less

pub loop-number-preserved : goal.loop-number-preserved
loop-number-preserved c =
    let within : c.loop-number.i < length c.args.book.now.owed =
    slice_get_within c.args.book.now.owed c.loop-number.i c.in-Some.number (sym c.in-Some.ensures.kept) in
    record {
      within = omega (arith, within);
      packets = acks_more c.version.result c.loop-number.packets c.put.new.self c.args.packets.now
          c.args.book.now.owed c.loop-number.i c.in-Some.number
          (c.version.ensures
          ∙ c.requires.version) c.loop-number.invariant.packets (sym c.in-Some.ensures.kept) c.put.ensures;
    }

pub returns : goal.returns
returns c =
    acks_all c.loop-number.packets c.args.packets.now c.args.book.now.owed c.loop-number.i
    c.loop-number.invariant.packets (sym c.in_default.ensures.kept)
