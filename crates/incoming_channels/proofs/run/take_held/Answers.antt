use Rattle.std.proofs.Common.{◌+◌, refl, sym, subst, ℕ}
use Rattle.packet_codec.specs.Values.{bunch_of}
use Rattle.incoming_channels.specs.Steps.{Goes, GoesOn, run_left}
use Rattle.incoming_channels.proofs.Going.{held_goes, goes_end}
use Rattle.incoming_channels.proofs.run.take_held.Goals as goal

pub returns-in-Some-2 : goal.returns-in-Some-2
returns-in-Some-2 c = λ k got server on h g.
    let before = c.loop-bunch.invariant k got server on h g in
    let next = held_goes k got c.loop-bunch.window c.loop-bunch.parts c.loop-bunch.whole c.in-Some.bunch
    (bunch_of c.lend.result) c.lend.ensures on before.0 c.in-Some.ensures.item before.1 in
    subst (GoesOn k (run_left got (c.loop-bunch.window.next + 1)) c.take_one.new.parts c.take_one.new.whole)
    c.in-Some-2.is
    (c.in_ok-cause.ensures k (run_left got (c.loop-bunch.window.next + 1)) server next.1.channel
    next.1.reliable next.0)

pub loop-bunch-preserved : goal.loop-bunch-preserved
loop-bunch-preserved c = λ k got server on h g.
    let before = c.loop-bunch.invariant k got server on h g in
    let next = held_goes k got c.loop-bunch.window c.loop-bunch.parts c.loop-bunch.whole c.in-Some.bunch
    (bunch_of c.lend.result) c.lend.ensures on before.0 c.in-Some.ensures.item before.1 in (
      c.in-Some.ensures.on got before.0,
      subst (λ (n : ℕ). Goes k (run_left got n) c.take_one.new.parts c.take_one.new.whole)
          (sym c.in-Some.ensures.next)
          (subst
          (GoesOn k (run_left got (c.loop-bunch.window.next + 1)) c.take_one.new.parts c.take_one.new.whole)
          c.in_default-2.is
          (c.in_ok-cause.ensures k (run_left got (c.loop-bunch.window.next + 1)) server next.1.channel
          next.1.reliable next.0)),
    )

pub returns : goal.returns
returns c = λ k got server on h g.
    let before = c.loop-bunch.invariant k got server on h g in
    let same = c.in_default.ensures.none refl in
    goes_end k got c.ready.new.self c.loop-bunch.parts c.loop-bunch.whole
    (c.in_default.ensures.stands got before.0 refl)
    (subst (λ (w : _). Goes k (run_left got w.next) c.loop-bunch.parts c.loop-bunch.whole) (sym same)
    before.1)
