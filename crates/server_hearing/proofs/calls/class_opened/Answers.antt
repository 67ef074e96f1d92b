use Rattle.std.proofs.Common.{◌<◌, length, Some, None, option_map, sym, ap, ◌∙◌, subst}
use Rattle.protocol_model.specs.World.{class_at}
use Rattle.class_layout.specs.Tables.{table_in}
use Rattle.server_hearing.proofs.Judging.{unopened, class_is, class_within, table_length}
use Rattle.server_hearing.proofs.calls.class_opened.Goals as goal

pub returns-then-not-was_opened-clause-class : goal.returns-then-not-was_opened-clause-class
returns-then-not-was_opened-clause-class g c = λ edits past samples k.
    unopened past c.args.actor (sym c.if-not-was_opened.true ∙ c.was_opened.ensures past samples k.sender)

pub returns-in_err-look-clause-class : goal.returns-in_err-look-clause-class
returns-in_err-look-clause-class g c = λ edits past samples k.
    ap (option_map (class_at (table_in c.args.world.now.layout))) c.from_residual.ensures
    ∙ class_is (table_in c.args.world.now.layout) edits past c.args.actor None (c.in_err-look.ensures.look edits k.world)
    (sym c.if-not-was_opened.false ∙ c.was_opened.ensures past samples k.sender) (k.opened c.args.actor)

pub returns-clause-class : goal.returns-clause-class
returns-clause-class g c = λ edits past samples k.
    class_is (table_in c.args.world.now.layout) edits past c.args.actor (Some c.in_ok-look.look)
    (c.in_ok-look.ensures.look edits k.world)
    (sym c.if-not-was_opened.false ∙ c.was_opened.ensures past samples k.sender) (k.opened c.args.actor)

pub returns-clause-within : goal.returns-clause-within
returns-clause-within g c = λ edits past samples k.
    subst (λ n. c.in_ok-look.look.class < n) (table_length c.args.world.now.layout)
    (class_within (table_in c.args.world.now.layout) edits past c.args.actor c.in_ok-look.look
    (c.in_ok-look.ensures.look edits k.world)
    (sym c.if-not-was_opened.false ∙ c.was_opened.ensures past samples k.sender) (k.opened c.args.actor))
