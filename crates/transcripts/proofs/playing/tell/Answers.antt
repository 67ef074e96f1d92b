use Rattle.std.proofs.Common.{◌≤◌, length, arith}
use Rattle.transcripts.proofs.Played.{text_told}
use Rattle.transcripts.proofs.playing.tell.Goals as goal

pub returns-clause-text : goal.returns-clause-text
returns-clause-text c = λ story stands.
    let all : length c.as_slice-event-items.result.now ≤ c.loop-event.event-index = omega (arith, c.loop-event-test.false) in
    text_told _ _ _ _ _ _ c.requires.classes (rw c.as_slice-event-items.ensures at c.loop-event.invariant) (rw c.as_slice-event-items.ensures at all)
    (c.in_ok-events.ensures.told story stands)
