use Rattle.std.proofs.Common.{◌≡◌, ◌<◌, ◌≤◌, ap, sym, ◌∙◌, ⊎_elim}
use Rattle.std.proofs.lemmas.Bool.{cases_lt}
use Rattle.connection_model.specs.Bunches.{span}
use Rattle.channel_table.specs.Holders.{actor_bound}
use Rattle.channel_table.proofs.Kept.{shown, as_shown, span_zero, none_held}
use Rattle.channel_table.proofs.table.ChannelTable.free_index.Goals as goal

pub returns-clause-free : goal.returns-clause-free
returns-clause-free c = λ side past h.
    let k = as_shown
    (shown c.self.inside.out c.self.inside.incoming c.self.inside.holders c.self.inside.calls.items) _ side
    past c.self.view_is h in
    let index = c.least_outside-index.result in
    let out = c.least_outside-index.ensures in
    let bound : actor_bound c.self.inside.holders index ≡ actor_bound c.args.self.now.bound index = ap
    (λ (t : _). actor_bound t.bound index) c.self.view_is in (
      ⊎_elim
          (λ (low : index < 32768). span_zero (span past index) _
          (c.active.ensures.bits past index k.made low) (out.outside low).1)
          (λ (high : 32768 ≤ index). c.active.ensures.most past index k.made high)
          (cases_lt index 32768),
      sym bound ∙ ⊎_elim
          (λ (low : index < 32768). none_held (actor_bound c.self.inside.holders index) _
          (c.used.ensures.bits index low) (out.outside low).0)
          (λ (high : 32768 ≤ index). c.used.ensures.most index high)
          (cases_lt index 32768),
      out.least,
    )
