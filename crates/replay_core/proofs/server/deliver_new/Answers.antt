use Rattle.std.proofs.Common.{◌≡◌, ℕ, ◌+◌, ◌-◌, ◌≤◌, ◌<◌, refl, arith}
use Rattle.replay_core.proofs.Served.{begins_at, also_at, new_at, served_there}
use Rattle.replay_core.proofs.server.deliver_new.Goals as goal

pub loop-k-init : goal.loop-k-init
loop-k-init c = record {
  from = refl;
  to = c.len-to.ensures;
  within = omega arith;
  done = λ layout edits players i p h at stands.
      begins_at layout c.args.driver.now c.args.place.now edits players i p c.args.every c.args.place.now.told_up
      c.len-to.result c.args.events.now h at stands;
}

pub deliver_kept-requires-clause-there : goal.deliver_kept-requires-clause-there
deliver_kept-requires-clause-there c =
    let r = c.requires.there in
    served_there r.0 c.loop-k.driver (record c.args.place.now { told_up = c.len-to.result }) r.1 r.2 r.3 r.4
    c.args.every _ _ c.loop-k.k _ _ r.6
    (c.loop-k.invariant.done r.0 r.1 r.2 r.3 r.4 r.5 r.6 r.7)

ends_within : (from to at : ℕ) → at < to → at - from ≤ to - from → at + 1 - from ≤ to - from
ends_within from to at h w = omega arith

is_end : (from to at : ℕ) → to ≤ at → at - from ≤ to - from → to - from ≡ at - from
is_end from to at h w = omega arith

pub loop-k-preserved : goal.loop-k-preserved
loop-k-preserved c = record {
  from = c.loop-k.invariant.from;
  to = c.loop-k.invariant.to;
  within = ends_within _ _ _ c.loop-k-test.true c.loop-k.invariant.within;
  done = λ layout edits players i p h at stands.
      also_at layout c.loop-k.driver c.deliver_kept.new.driver (record c.args.place.now { told_up = c.len-to.result })
      (record c.args.place.now { told_up = c.len-to.result }) edits players i p c.args.every _ _ c.loop-k.k _ _ _ _
      c.loop-k.auto.k refl at (c.loop-k.invariant.done layout edits players i p h at stands)
      (c.in_ok-deliver_kept.ensures layout);
}

pub returns : goal.returns
returns c = λ layout edits players i p h at stands.
    new_at layout c.loop-k.driver c.args.place.now (record c.args.place.now { told_up = c.len-to.result }) edits players
    i p c.args.every _ _ c.loop-k.k _ _ stands
    c.loop-k.invariant.from c.loop-k.invariant.to
    (is_end _ _ _ c.loop-k-test.false c.loop-k.invariant.within)
    (c.loop-k.invariant.done layout edits players i p h at stands)
