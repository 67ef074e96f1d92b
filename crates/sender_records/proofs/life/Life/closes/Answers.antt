use Rattle.std.proofs.Common.{refl, sym, ap, Some, cond, Bool}
use Rattle.sender_records.specs.declared.life.Life.{Life}
use Rattle.sender_records.specs.declared.state.ActorState.TheVariants as state
use Rattle.sender_records.proofs.LifeSteps.{closes_keeps}
use Rattle.sender_records.proofs.life.Life.closes.Goals as goal

pub returns-then-sleeps : goal.returns-then-sleeps
returns-then-sleeps c = record {
  state = refl;
  keeps = λ past actor ch h at made seen.
      closes_keeps past made actor ch c.args.sleeps c.args.flush c.args.self.now _ h at seen
      (ap (λ (b : Bool). let l : Life = record {
        state = state.Closing;
        index = c.args.self.now.index;
        sleeps =
            c.args.sleeps;
        opened = c.args.self.now.opened;
        flush = cond b (Some c.args.flush) c.args.self.now.flush;
      } in
      l)
      (sym c.if-sleeps.true));
}

pub returns-else-sleeps : goal.returns-else-sleeps
returns-else-sleeps c = record {
  state = refl;
  keeps = λ past actor ch h at made seen.
      closes_keeps past made actor ch c.args.sleeps c.args.flush c.args.self.now _ h at seen
      (ap (λ (b : Bool). let l : Life = record {
        state = state.Closing;
        index = c.args.self.now.index;
        sleeps =
            c.args.sleeps;
        opened = c.args.self.now.opened;
        flush = cond b (Some c.args.flush) c.args.self.now.flush;
      } in
      l)
      (sym c.if-sleeps.false));
}
