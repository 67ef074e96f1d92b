use Rattle.std.proofs.Common.{◌≡◌, ℕ, ap, sym, subst, ◌∙◌}
use Rattle.channel_laws.specs.Moves.{IsMove}
use Rattle.channel_table.proofs.Kept.{shown, as_shown, keeps_moving}
use Rattle.channel_table.proofs.table.ChannelTable.moved.Goals as goal

pub returns-clause-keeps : goal.returns-clause-keeps
returns-clause-keeps c = λ side past after h move.
    let k = as_shown
    (shown c.self.inside.out c.self.inside.incoming c.self.inside.holders c.self.inside.calls.items) _ side
    past c.self.view_is h in
    let from : c.args.m.from ≡ c.self.inside.out.high = sym
    (ap (λ (t : _). t.high) c.self.view_is ∙ c.requires.from) in
    keeps_moving
    (shown c.self.inside.out c.self.inside.incoming c.self.inside.holders c.self.inside.calls.items)
    c.moved.new.self side past after c.args.m.from c.args.m.to k move
    (c.moved.ensures.keeps past after k.made (subst (λ (n : ℕ). IsMove n c.args.m.to past after) from move))
