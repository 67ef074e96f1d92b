use Rattle.std.proofs.Common.{◌≡◌, List, sym, ap, ◌∙◌, subst}
use Rattle.std.specs.Prelude.{◌&&◌}
use Rattle.std.specs.Option.{option_copied}
use Rattle.protocol_model.specs.Sight.{is_relevant, seen_of}
use Rattle.connection_model.specs.Settled.{is_settled_as}
use Rattle.class_layout.specs.Tables.{Layout, table_in}
use Rattle.net_driver.specs.Chairs.{place_in, living_key}
use Rattle.net_driver.specs.Served.{settled_for}
use Rattle.net_driver.specs.Serves.{Drive, Serves}
use Rattle.net_driver.specs.declared.chair.Chair.{Chair}
use Rattle.server_end.proofs.Answers.{each_ok}
use Rattle.net_driver.proofs.Settling.{none_settled, settled_is}
use Rattle.net_driver.proofs.driver.Driver.settled.Goals as goal

pub returns-in_default-clause-settled : goal.returns-in_default-clause-settled
returns-in_default-clause-settled c = λ s seat now at.
    none_settled c.args.self.now s c.args.player c.args.actor seat now at
    (sym (c.key_of.ensures ∙ ap (λ (cs : List Chair). living_key (place_in cs c.args.player)) c.as_slice.ensures.value
    ∙ ap (λ (d : Drive). living_key (place_in d.chairs c.args.player)) c.self.view_is) ∙ c.in_default.is)

pub returns-in-Some-get-clause-settled : goal.returns-in-Some-get-clause-settled
returns-in-Some-get-clause-settled c = each_ok c.settled_at.result (λ answer says s seat now at.
    let h = subst (λ (d : Drive). Serves d s) (sym c.self.view_is) now in
    subst (λ (d : Drive). answer ≡ settled_for (table_in d.layout) s.edits seat c.args.actor) c.self.view_is
    (settled_is _ s c.args.player c.args.actor c.in-Some.key seat c.in-Some-get.end.now answer h at
    (sym (sym c.in-Some.is ∙ c.key_of.ensures
    ∙ ap (λ (cs : List Chair). living_key (place_in cs c.args.player)) c.as_slice.ensures.value))
    (sym c.get.ensures ∙ ap option_copied c.in-Some-get.is)
    (λ past samples both. subst (λ (l : Layout). answer
    ≡ (is_relevant (table_in l) s.edits c.in-Some-get.end.now.player c.args.actor
    && is_settled_as past (seen_of (table_in l) s.edits c.in-Some-get.end.now.player c.args.actor))) h.layout
    (says s.edits past samples h.world both)))) c.settled_at.ensures
