use Rattle.replay_places.proofs.Ticked.{client_ticked}
use Rattle.replay_places.proofs.Delivered.{on_ok_then}
use Rattle.replay_places.proofs.place.Place.tick.Goals as goal

pub returns : goal.returns
returns c =
    let k = c.args.self.now in
    let t = c.in_ok-ticked in
    on_ok_then c.tell_stall.result _ _ c.tell_stall.ensures
    (λ stalls layout edits p i. client_ticked layout k p edits c.tick.new.self c.keep.new.packets t.ticked.sent
    t.ticked.stalled _ _ _ i
    t.ensures.plays t.ensures.sent t.ensures.stalled t.ensures.layout t.ensures.version
    c.in_ok-keep.ensures.kept c.in_ok-keep.ensures.told stalls)
