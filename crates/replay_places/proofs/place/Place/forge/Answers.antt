use Rattle.replay_places.proofs.Delivered.{forged_done, heard_of, on_ok_then}
use Rattle.replay_places.proofs.place.Place.forge.Goals as goal

pub returns : goal.returns
returns c =
    let k = c.args.self.now in
    on_ok_then c.push.result _ _ c.push.ensures.ok
    (λ pushes layout edits p i. forged_done layout k p edits c.args.bytes.now c.in_ok-verdict.verdict c.hear.new.client
    _ _ _ i
    (heard_of layout k p i c.in_ok-verdict.ensures.says c.in_ok-verdict.ensures.told c.in_ok-verdict.ensures.plays
    c.in_ok-verdict.ensures.layout c.in_ok-verdict.ensures.version) pushes)
