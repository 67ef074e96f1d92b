use Rattle.std.proofs.Common.{Bool, sym, ap, ◌∙◌}
use Rattle.std.specs.Prelude.{◌&&◌}
use Rattle.protocol_model.specs.Sight.{seen_of}
use Rattle.connection_model.specs.Settled.{is_settled_as}
use Rattle.class_layout.specs.Tables.{table_in}
use Rattle.net_driver.proofs.driver.settling.settled_at.Goals as goal

pub returns-then-is_relevant : goal.returns-then-is_relevant
returns-then-is_relevant g c = λ edits past samples w both.
    c.in_ok-settled.ensures edits past samples w both
    ∙ ap (λ (b : Bool). b && is_settled_as past (seen_of (table_in c.args.world.now.layout) edits c.args.end.now.player c.args.actor))
    (sym (sym (c.is_relevant.ensures.relevant edits w) ∙ c.if-is_relevant.true))

pub returns : goal.returns
returns g c = λ edits past samples w both.
    ap (λ (b : Bool). b && is_settled_as past (seen_of (table_in c.args.world.now.layout) edits c.args.end.now.player c.args.actor))
    (sym (sym (c.is_relevant.ensures.relevant edits w) ∙ c.if-is_relevant.false))
