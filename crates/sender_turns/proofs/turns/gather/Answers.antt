use Rattle.std.proofs.Common.{◌≡◌, arith, refl, length, Some}
use Rattle.std.specs.List.{slice_get}
use Rattle.std.proofs.lemmas.Option.{slice_get_read, slice_get_within}
use Rattle.sender_steps.proofs.Pairs.{take_whole}
use Rattle.sender_turns.proofs.Finding.{TurnedOne, turns_more, found_all}
use Rattle.sender_turns.proofs.turns.gather.Goals as goal

pub loop-place-preserved : goal.loop-place-preserved
loop-place-preserved c =
    let at : slice_get c.args.sight.now c.loop-place.place ≡ Some c.index-sight-place.result =
    slice_get_read c.args.sight.now (length c.args.sight.now) c.loop-place.place c.index-sight-place.result refl
    (omega arith) c.index-sight-place.is in
    let one : TurnedOne c.args.classes.now c.args.changes.now c.args.tick c.loop-place.place c.index-sight-place.result
    c.loop-place.records.entries c.turn_of.new.records.entries c.in_ok-turn.turn = record {
      others = c.in_ok-turn.ensures.others;
      life = c.in_ok-turn.ensures.life;
      service = c.in_ok-turn.ensures.service;
      packets = c.in_ok-turn.ensures.packets;
      has = c.in_ok-turn.ensures.turn;
    } in
    turns_more c.args.classes.now c.args.changes.now c.args.tick c.args.sight.now c.loop-place.place
    c.index-sight-place.result
    c.args.records.now.entries c.loop-place.records.entries c.turn_of.new.records.entries c.loop-place.turns.items
    c.push_turn.new.turns.items
    c.in_ok-turn.turn at one c.in_ok-push_turn.ensures c.loop-place.invariant

pub returns-clause-compared : goal.returns-clause-compared
returns-clause-compared c = λ past samples t i s at.
    c.loop-place.invariant.compared past samples t i s (omega (arith, slice_get_within c.args.sight.now i s at)) at

pub returns-clause-turns : goal.returns-clause-turns
returns-clause-turns c = found_all c.args.classes.now c.args.changes.now c.args.tick c.args.sight.now c.loop-place.place
    c.args.records.now.entries c.loop-place.records.entries c.loop-place.turns.items
    (take_whole c.args.sight.now c.loop-place.place (omega arith)) c.loop-place.invariant
