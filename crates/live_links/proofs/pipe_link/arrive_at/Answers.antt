use Rattle.std.proofs.Common.{◌<◌, ◌≤◌, length, sym, arith}
use Rattle.std.proofs.lemmas.Result.{on_ok_weaker}
use Rattle.live_links.specs.InMemory.{arrives}
use Rattle.live_links.proofs.Ends.{set_at_end, at_end_past}
use Rattle.live_links.proofs.pipe_link.arrive_at.Goals as goal

pub returns-then-end-len-clause-ok : goal.returns-then-end-len-clause-ok
returns-then-end-len-clause-ok c =
    let within : c.args.end < length c.args.ends.now.items = omega arith in
    on_ok_weaker c.arrive.result
    (set_at_end (arrives c.args.to c.args.from c.args.bytes.now) c.args.ends.now.items c.args.end
    c.index_mut.result.now c.arrive.new.self within c.index_mut.ensures.value)
    c.arrive.ensures.ok

pub returns-clause-ok : goal.returns-clause-ok
returns-clause-ok c =
    let past : length c.args.ends.now.items ≤ c.args.end = omega arith in
    sym (at_end_past (arrives c.args.to c.args.from c.args.bytes.now) c.args.ends.now.items c.args.end past)
