use Rattle.std.proofs.lemmas.Result.{on_ok_weaker}
use Rattle.live_links.specs.Told.{heard_value, hears}
use Rattle.live_links.proofs.Ends.{set_at_end}
use Rattle.live_links.proofs.mem_link.hear_at.Goals as goal

pub returns-clause-ok : goal.returns-clause-ok
returns-clause-ok c =
    on_ok_weaker c.hear.result
    (set_at_end (hears (heard_value c.args.heard)) c.args.ends.now.items c.args.end c.index_mut.result.now
    c.hear.new.self c.requires c.index_mut.ensures.value) c.hear.ensures.ok
