use Rattle.replay_places.proofs.Delivered.{called_done, on_ok_then}
use Rattle.replay_places.proofs.place.Place.call.Goals as goal

pub returns : goal.returns
returns c =
    on_ok_then c.push.result _ _ c.push.ensures.ok
    (λ pushes layout p i. called_done layout c.args.self.now p _ _ _ c.in_ok-answer.answer c.call.new.self _ _ i
    c.in_ok-answer.ensures.plays c.in_ok-answer.ensures.answer c.in_ok-answer.ensures.layout
    c.in_ok-answer.ensures.version pushes)
