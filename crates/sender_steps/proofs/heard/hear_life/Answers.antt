use Rattle.std.proofs.Common.{◌∙◌, ap, sym}
use Rattle.protocol_model.specs.Side.{AtServer}
use Rattle.connection_model.specs.Settled.{is_clear}
use Rattle.sender_steps.proofs.heard.hear_life.Goals as goal

pub returns-clause-keeps : goal.returns-clause-keeps
returns-clause-keeps c = λ past later actor g table h.
    c.hears.ensures.keeps past later actor h (record {
      done = g.done;
      grows = g.grows;
      all = λ ch e. ap (is_clear later) (sym (h.index ∙ e)) ∙ sym (c.is_clear.ensures AtServer later table);
    })
