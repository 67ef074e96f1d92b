use Rattle.replay_places.proofs.Ticked.{server_ticked}
use Rattle.replay_places.proofs.Delivered.{on_ok_then}
use Rattle.replay_places.proofs.place.Place.keep_sent.Goals as goal

pub returns : goal.returns
returns c =
    let k = c.args.self.now in
    on_ok_then c.tell_stall.result _ _ c.tell_stall.ensures
    (λ stalls layout edits p t i. server_ticked layout k p edits c.keep.new.packets c.args.sent c.args.stalled _ _ _ i t
    c.in_ok-keep.ensures.kept c.in_ok-keep.ensures.told stalls)
