use Rattle.std.proofs.Common.{sym, ◌∙◌}
use Rattle.channel_table.proofs.laws.holders_are_those_of_the_past.Goals as goal

pub returns-clause-held : goal.returns-clause-held
returns-clause-held c = λ t side past ch a h e. sym (h.bound a) ∙ h.paired.back a ch e

pub returns-clause-bound : goal.returns-clause-bound
returns-clause-bound c = λ t side past ch a h e. h.paired.forth a ch (h.bound a ∙ e)
