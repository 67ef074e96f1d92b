use Rattle.std.proofs.Common.{sym, ◌∙◌}
use Rattle.replay_places.proofs.NewOnes.{kept_done, lost_done}
use Rattle.replay_places.proofs.Delivered.{on_ok_then}
use Rattle.replay_places.proofs.place.Place.deliver_kept.Goals as goal

pub returns-then-not-is_kept : goal.returns-then-not-is_kept
returns-then-not-is_kept c = λ layout edits p i.
    lost_done layout c.args.self.now edits p c.args.every c.args.packet c.args.events.now i
    (sym c.is_kept.ensures ∙ c.if-not-is_kept.true)

pub returns : goal.returns
returns c =
    on_ok_then c.deliver.result _ _ c.deliver.ensures
    (λ does layout edits p i. kept_done layout c.deliver.new.self edits p c.args.every c.args.packet _ _
    (sym c.is_kept.ensures ∙ c.if-not-is_kept.false)
    (does layout edits p i))
