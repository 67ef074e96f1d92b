use Rattle.std.proofs.Common.{◌≡◌, ◌+◌, ◌*◌, ◌≤◌, ◌<◌, ◌^◌, ℕ, List, length, refl, arith, rules}
use Rattle.replay_core.proofs.Ticks.{next_item, none_left}
use Rattle.replay_core.proofs.Pairs.{few_places, summed_none, summed_next, summed_one, summed_all}
use Rattle.replay_core.proofs.settling.settled_pairs.Goals as goal

pub loop-place-init : goal.loop-place-init
loop-place-init c = record { most = omega arith; done = λ layout edits players h a p all. summed_none layout edits players _ p }

pub settled_for-requires-clause-there : goal.settled_for-requires-clause-there
settled_for-requires-clause-there c =
    let next = next_item c.args.places.now c.loop-place.place-index c.place-item.result c.place-item.is c.loop-place-test.true in
    let r = c.requires.there in
    let at = summed_next r.0 c.args.driver.now r.1 r.2 c.place-item.result _ _ r.3 r.4
    (rw next at c.loop-place.invariant.done r.0 r.1 r.2 r.3 r.4 r.5 r.6) in
    (r.0, r.1, at.0, at.1, at.2, at.3, at.4, at.5)

one_more : (count index more spawned : ℕ) → count ≤ 8192 * index → more ≤ spawned → spawned ≤ 8192 → count + more ≤ 8192 * (index + 1)
one_more count index more spawned h m most = omega arith

within : (count index more spawned places : ℕ) → count ≤ 8192 * index → more ≤ spawned → spawned ≤ 8192 → index < places → places ≤ 64
    → count + more < 2 ^ 32
within count index more spawned places h m most i few = omega arith

pub overflow_add-count : goal.overflow_add-count
overflow_add-count c =
    let r = c.requires.there in
    let fits = within c.loop-place.count c.loop-place.place-index _ c.args.spawned (length c.args.places.now) c.loop-place.invariant.most
    c.in_ok-count.ensures.most c.requires.most c.loop-place-test.true (few_places r.0 c.args.driver.now r.1 r.2 c.args.places.now r.3 r.5) in
    omega (arith, fits)

pub loop-place-preserved : goal.loop-place-preserved
loop-place-preserved c = record {
  most = one_more c.loop-place.count c.loop-place.place-index _ c.args.spawned c.loop-place.invariant.most c.in_ok-count.ensures.most c.requires.most;
  done = λ layout edits players h a p all.
      let next = next_item c.args.places.now c.loop-place.place-index c.place-item.result c.place-item.is c.loop-place-test.true in
      summed_one layout c.args.driver.now edits players c.place-item.result _ c.args.spawned c.loop-place.count _ h a all c.in_ok-count.ensures.count
      (rw next at c.loop-place.invariant.done layout edits players h a p all);
}

pub returns : goal.returns
returns c = λ layout edits players h a p all.
    let none = none_left c.args.places.now c.loop-place.place-index c.loop-place-test.false in
    summed_all layout edits players c.loop-place.count (rw none at c.loop-place.invariant.done layout edits players h a p all)
