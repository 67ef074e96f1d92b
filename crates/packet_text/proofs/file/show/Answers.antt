use Rattle.std.proofs.Common.{refl, sym, ◌∙◌, ap, arith, length}
use Rattle.packet_text.proofs.Lines.{next_is, some_left, goes_on, stopped, all_shown, left_in}
use Rattle.packet_text.proofs.file.show.Goals as goal
use Rattle.packet_text.proofs.file.show.Goals.{in-Some, in-None}

pub returns-in-Err-clause-refused : goal.returns-in-Err-clause-refused
returns-in-Err-clause-refused c = λ line fault why.
    let bad = c.in-Err.ensures.refused line fault why in
    let some = some_left c.loop-rest.rest.now c.loop-rest-test.ensures in
    let next = next_is c.loop-rest.rest.now _ c.first_piece.result.1 some c.first_piece.ensures.exact in
    rw bad.0 (stopped c.args.version c.args.file.now c.loop-rest.rest.now (left_in c.first_piece.result.1) c.loop-rest.number
    _ _ fault c.loop-rest.invariant.1 next bad.1)

pub loop-rest-preserved : goal.loop-rest-preserved
loop-rest-preserved c =
    let rest = c.loop-rest.rest.now in
    let some = some_left rest c.loop-rest-test.ensures in
    elim c.match-later.branch [
      | in-Some w ↦
          let is = ap (λ later. left_in later) w.in-Some.is in (
            omega (arith, c.loop-rest.invariant.0, rw w.in-Some.is at c.first_piece.ensures.shorter, ap (λ r. length r.now) w.rest-is),
            goes_on c.args.version c.args.file.now rest _ c.loop-rest.number _ _ _ c.first_piece.result.1 c.loop-rest.invariant.1
                some c.first_piece.ensures.exact (ap (λ r. r.now) w.rest-is ∙ sym is) c.in_default.ensures.shown,
          )
      | in-None w ↦
          let is = ap (λ later. left_in later) w.in-None.is in (
            omega (arith, c.loop-rest.invariant.0, some, ap (λ r. length r.now) w.rest-is),
            goes_on c.args.version c.args.file.now rest _ c.loop-rest.number _ _ _ c.first_piece.result.1 c.loop-rest.invariant.1
                some c.first_piece.ensures.exact (ap (λ r. r.now) w.rest-is ∙ sym is) c.in_default.ensures.shown,
          )
    ]

pub returns-clause-shown : goal.returns-clause-shown
returns-clause-shown c =
    all_shown c.args.version c.args.file.now c.loop-rest.rest.now c.loop-rest.number _ c.loop-rest.invariant.1
    c.loop-rest-test.ensures
