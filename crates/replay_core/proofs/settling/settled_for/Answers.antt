use Rattle.std.proofs.Common.{◌≡◌, ◌+◌, ◌≤◌, ◌<◌, ℕ, inr, arith}
use Rattle.replay_core.proofs.Heard.{has_seat}
use Rattle.replay_core.proofs.Pairs.{at_most_one, settled_more, settled_all}
use Rattle.replay_core.proofs.settling.settled_for.Goals as goal

pub settled-requires : goal.settled-requires
settled-requires c =
    let r = c.requires.there in
    record { stands = inr (r.5.served, r.5.serves, has_seat r.0 c.args.driver.now r.1 r.2 r.3 r.4 c.args.player r.5 r.6 r.7) }

one_more : (count before more : ℕ) → count ≤ before → more ≤ 1 → count + more ≤ before + 1
one_more count before more h m = omega arith

next : (before spawned : ℕ) → before < spawned → before + 1 ≤ spawned
next before spawned h = omega arith

pub loop-before-preserved : goal.loop-before-preserved
loop-before-preserved c = record {
  most = one_more _ _ _ c.loop-before.invariant.most (at_most_one c.in_ok-holds.holds);
  within = next _ _ c.loop-before-test.true;
  done = λ layout edits players i p h at who.
      settled_more layout c.args.driver.now edits players i p c.args.player c.loop-before.before _ _ h at who c.in_ok-holds.ensures.settled
      (c.loop-before.invariant.done layout edits players i p h at who);
}

at_end : (before spawned : ℕ) → before ≤ spawned → spawned ≤ before → before ≡ spawned
at_end before spawned h k = omega arith

pub returns-clause-count : goal.returns-clause-count
returns-clause-count c = λ layout edits players i p h at who all.
    settled_all layout edits p c.args.spawned c.loop-before.before c.loop-before.count
    (at_end _ _ c.loop-before.invariant.within c.loop-before-test.false) all (c.loop-before.invariant.done layout edits players i p h at who)
