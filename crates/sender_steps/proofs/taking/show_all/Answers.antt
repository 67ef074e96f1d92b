use Rattle.std.proofs.Common.{◌≡◌, arith, refl, length, Some}
use Rattle.std.specs.List.{slice_get}
use Rattle.std.proofs.lemmas.Option.{slice_get_read}
use Rattle.sender_steps.proofs.Pairs.{take_whole}
use Rattle.sender_steps.proofs.Showing.{ShownOne, shows_more, shown_all}
use Rattle.sender_steps.proofs.taking.show_all.Goals as goal

pub loop-seen-preserved : goal.loop-seen-preserved
loop-seen-preserved c =
    let at : slice_get c.args.sight.now c.loop-seen.seen-index ≡ Some c.seen-item.result =
    slice_get_read c.args.sight.now (length c.args.sight.now) c.loop-seen.seen-index c.seen-item.result refl
    (omega arith) c.seen-item.is in
    let one : ShownOne c.args.tick c.seen-item.result c.loop-seen.records.entries c.show.new.records.entries = record {
      others = c.in_ok-show.ensures.others;
      life = c.in_ok-show.ensures.life;
      handles = c.in_ok-show.ensures.handles;
      service = c.in_ok-show.ensures.service;
    } in
    shows_more c.args.tick c.args.sight.now c.loop-seen.seen-index c.seen-item.result c.args.records.now.entries
    c.loop-seen.records.entries c.show.new.records.entries at one
    c.loop-seen.invariant

pub returns-clause-service : goal.returns-clause-service
returns-clause-service c = shown_all c.args.tick c.args.sight.now c.args.records.now.entries
    c.loop-seen.records.entries c.loop-seen.seen-index
    (take_whole c.args.sight.now c.loop-seen.seen-index (omega arith)) c.loop-seen.invariant
