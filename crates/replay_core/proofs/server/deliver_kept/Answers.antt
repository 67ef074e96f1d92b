use Rattle.std.proofs.Common.{sym, ◌∙◌}
use Rattle.replay_places.proofs.Delivered.{on_ok_then}
use Rattle.replay_core.proofs.Served.{kept_at, lost_at}
use Rattle.replay_core.proofs.server.deliver_kept.Goals as goal

pub returns-then-not-is_kept : goal.returns-then-not-is_kept
returns-then-not-is_kept c = λ layout edits players i p h at stands.
    lost_at layout c.args.driver.now c.args.place.now edits players i p c.args.every c.args.packet c.args.events.now
    (sym c.is_kept.ensures ∙ c.if-not-is_kept.true) h at stands

pub returns : goal.returns
returns c =
    on_ok_then c.deliver.result _ _ c.deliver.ensures
    (λ does layout edits players i p h at stands. kept_at layout c.deliver.new.driver c.args.place.now edits players i p
    c.args.every c.args.packet _ _
    (sym c.is_kept.ensures ∙ c.if-not-is_kept.false) (does layout edits players i p h at stands))
