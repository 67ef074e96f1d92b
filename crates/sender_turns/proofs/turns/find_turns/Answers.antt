use Rattle.std.proofs.Common.{rules, of_calls, ◌∙◌, ◌++◌}
use Rattle.std.proofs.lemmas.Fn.{always_returns_same}
use Rattle.sender_turns.specs.Turning.{goes_first}
use Rattle.sender_turns.proofs.Finding.{first_orders, turns_found, turns_sorted}
use Rattle.sender_turns.proofs.Unserved.{all_ready, turned_behind, compared_behind}
use Rattle.sender_turns.proofs.turns.find_turns.Goals as goal

pub returns-clause-keeps : goal.returns-clause-keeps
returns-clause-keeps c = λ sent now samples t.
    c.in_ok-turns.ensures.keeps (sent ++ now) samples
    (all_ready c.args.classes.now c.args.changes.now sent now samples c.args.tick c.args.records.now.entries
    c.args.sight.now t)

pub returns-clause-compared : goal.returns-clause-compared
returns-clause-compared c = λ sent now samples t.
    compared_behind c.args.classes.now now sent samples c.gather.new.records.entries c.args.sight.now t.sendings
    t.unserved
    (c.in_ok-turns.ensures.compared (sent ++ now) samples
    (all_ready c.args.classes.now c.args.changes.now sent now samples c.args.tick c.args.records.now.entries
    c.args.sight.now t))

pub returns-clause-turns : goal.returns-clause-turns
returns-clause-turns c = λ sent now samples t.
    turns_sorted c.args.classes.now now c.args.sight.now c.in_ok-turns.turns.items c.sort_unstable_by.new.self.items
    t.seen t.ascends
    (c.in_ok-turns.ensures.turns (sent ++ now) samples
    (all_ready c.args.classes.now c.args.changes.now sent now samples c.args.tick c.args.records.now.entries
    c.args.sight.now t)
    ∙ turned_behind c.args.classes.now now sent t.sendings t.unserved 0 c.args.sight.now)
    c.sort_unstable_by.ensures.permutation
    (c.sort_unstable_by.ensures.sorted goes_first first_orders
    (always_returns_same _ _ _ (λ a r f k. search (rules, of_calls))))

pub returns-clause-each : goal.returns-clause-each
returns-clause-each c = λ sent now samples t.
    turns_found c.args.classes.now now c.args.sight.now c.in_ok-turns.turns.items c.sort_unstable_by.new.self.items
    (c.in_ok-turns.ensures.turns (sent ++ now) samples
    (all_ready c.args.classes.now c.args.changes.now sent now samples c.args.tick c.args.records.now.entries
    c.args.sight.now t)
    ∙ turned_behind c.args.classes.now now sent t.sendings t.unserved 0 c.args.sight.now)
    c.sort_unstable_by.ensures.permutation

pub returns-clause-packets : goal.returns-clause-packets
returns-clause-packets c = λ sent now samples t.
    c.in_ok-turns.ensures.packets (sent ++ now) samples
    (all_ready c.args.classes.now c.args.changes.now sent now samples c.args.tick c.args.records.now.entries
    c.args.sight.now t)
