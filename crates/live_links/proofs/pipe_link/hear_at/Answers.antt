use Rattle.std.proofs.Common.{◌∙◌, ap}
use Rattle.live_links.specs.Told.{heard_value}
use Rattle.live_links.specs.InMemory.{told_of, hears_first}
use Rattle.live_links.proofs.Ends.{set_at_end}
use Rattle.live_links.proofs.Pipes.{told_of_hears_first, waiting_at_is}
use Rattle.live_links.proofs.pipe_link.hear_at.Goals as goal

pub returns-clause-ok : goal.returns-clause-ok
returns-clause-ok c =
    set_at_end hears_first c.args.ends.now.items c.args.end c.index_mut.result.now c.hear.new.self c.requires
    c.index_mut.ensures.value c.in_ok-heard.ensures.ok

pub returns-clause-told : goal.returns-clause-told
returns-clause-told c =
    ap told_of (set_at_end hears_first c.args.ends.now.items c.args.end c.index_mut.result.now c.hear.new.self
    c.requires c.index_mut.ensures.value c.in_ok-heard.ensures.ok)
    ∙ told_of_hears_first c.args.ends.now.items c.args.end (heard_value c.in_ok-heard.heard)
    (c.in_ok-heard.ensures.heard
    ∙ waiting_at_is c.args.ends.now.items c.args.end c.index_mut.result.now c.requires c.index_mut.ensures.value)
