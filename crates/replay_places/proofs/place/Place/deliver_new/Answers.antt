use Rattle.std.proofs.Common.{◌≡◌, ℕ, ◌+◌, ◌-◌, ◌≤◌, ◌<◌, [], refl, arith}
use Rattle.replay_places.proofs.NewOnes.{begins, also_done, new_done}
use Rattle.replay_places.proofs.place.Place.deliver_new.Goals as goal

pub loop-place-init : goal.loop-place-init
loop-place-init c = record {
  from = refl;
  to = c.len-to.ensures;
  within = omega arith;
  done = λ layout edits p i. begins layout c.args.self.now edits p c.args.every c.args.self.now.told_down
      c.len-to.result c.args.events.now i;
}

pub deliver_kept-requires-clause-there : goal.deliver_kept-requires-clause-there
deliver_kept-requires-clause-there c =
    let r = c.requires.there in
    (r.0, _, (c.loop-place.invariant.done r.0 [] r.1 r.2).stands)

ends_within : (from to at : ℕ) → at < to → at - from ≤ to - from → at + 1 - from ≤ to - from
ends_within from to at h w = omega arith

is_end : (from to at : ℕ) → to ≤ at → at - from ≤ to - from → to - from ≡ at - from
is_end from to at h w = omega arith

pub loop-place-preserved : goal.loop-place-preserved
loop-place-preserved c = record {
  from = c.loop-place.invariant.from;
  to = c.loop-place.invariant.to;
  within = ends_within _ _ _ c.loop-place-test.true c.loop-place.invariant.within;
  done = λ layout edits p i. also_done layout c.loop-place.self c.deliver_kept.new.self edits c.args.every _
      c.loop-place.place _ _ _ _ _
      c.loop-place.auto.place refl (c.loop-place.invariant.done layout edits p i)
      (λ q j. c.in_ok-deliver_kept.ensures layout edits q j);
}

pub returns : goal.returns
returns c = λ layout edits p i.
    new_done layout c.args.self.now c.loop-place.self edits p c.args.every _ _ c.loop-place.place _ _ i
    c.loop-place.invariant.from c.loop-place.invariant.to
    (is_end _ _ _ c.loop-place-test.false c.loop-place.invariant.within) (c.loop-place.invariant.done layout edits p i)
