use Rattle.std.proofs.Common.{sym, ◌∙◌}
use Rattle.script_lines.specs.LineOf.{line_of}
use Rattle.replay_places.proofs.Delivered.{on_ok_then}
use Rattle.replay_core.proofs.Whole.{at_client}
use Rattle.replay_core.proofs.both.do_line.Goals as goal

pub at_client-requires : goal.at_client-requires
at_client-requires c =
    let r = c.requires.there in
    record { side = sym c.is_of_client.ensures ∙ c.if-is_of_client.true; there = (r.0, r.1, r.4, r.7, r.8) }

pub at_server-requires : goal.at_server-requires
at_server-requires c = record { side = sym c.is_of_client.ensures ∙ c.if-is_of_client.false; there = c.requires.there }

pub returns-then-is_of_client : goal.returns-then-is_of_client
returns-then-is_of_client c =
    on_ok_then c.at_client.result _ _ c.at_client.ensures
    (λ does layout. at_client layout c.args.driver.now c.args.place.now c.at_client.new.place _ _
    (line_of c.args.line.now)
    (sym c.is_of_client.ensures ∙ c.if-is_of_client.true) (does layout))
