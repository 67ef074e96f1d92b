use Rattle.std.proofs.Common.{rules, arith, ◌≡◌, ◌∙◌, ℕ, List, ap, sym, subst, Option, Some, None, option_map}
use Rattle.std.specs.Option.{option_copied}
use Rattle.std.proofs.lemmas.Grind.{common_steps}
use Rattle.protocol_model.specs.Side.{AtServer}
use Rattle.protocol_model.specs.Sight.{Seen}
use Rattle.change_model.specs.Changes.{Sample}
use Rattle.connection_model.specs.Feed.{Past, tick_count, sight_of, seen_in}
use Rattle.connection_model.specs.Pack.{after_close}
use Rattle.channel_table.specs.Keeps.{Keeps}
use Rattle.sender_records.specs.Life.{KeepsLife}
use Rattle.sender_records.specs.Actors.{KeepsActor}
use Rattle.sender_steps.specs.declared.closing.Close.{Close}
use Rattle.sender_steps.specs.Closing.{close_called, after_called, IsFlush}
use Rattle.sender_steps.specs.Sights.{seen_value}
use Rattle.sender_steps.proofs.Called.{entry_is, flush_is}
use Rattle.sender_steps.proofs.Folds.{called_is}
use Rattle.sender_steps.proofs.closes.end_one.Goals as goal

-- what is made, by what was called for
made : (past : Past) (a : ℕ) (o : Option Seen) (c : Option Close) → o ≡ seen_in (sight_of past) a
    → c ≡ close_called past a o → after_called past a c ≡ after_close past a
made past a o c e called = ap (after_called past a) (called ∙ ap (close_called past a) e) ∙ sym (called_is past a)

pub returns-clause-life : goal.returns-clause-life
returns-clause-life c = λ past samples k t tick seen.
    let called : Some c.in-Some.close ≡ close_called past c.args.actor
    (option_map (seen_value c.args.classes.now) (option_copied c.args.seen)) =
    sym c.in-Some.is ∙ c.close_of.ensures past samples c.args.actor k t tick
    (entry_is c.args.classes.now (option_copied c.args.seen) (sight_of past) c.args.actor seen) in
    let flush : IsFlush past c.args.actor c.in-Some.close c.flush_of-flush.result =
    subst (IsFlush past c.args.actor c.in-Some.close) (sym c.flush_of-flush.ensures)
    (flush_is past c.args.actor c.args.classes.now (option_copied c.args.seen) c.in-Some.close seen (sym called)) in
    subst (λ (p : Past). KeepsLife p c.args.actor c.make_close.new.life)
    (made past c.args.actor (option_map (seen_value c.args.classes.now) (option_copied c.args.seen))
    (Some c.in-Some.close) seen called)
    (c.in_ok-made.ensures.life past k.life t flush)

pub returns-clause-table : goal.returns-clause-table
returns-clause-table c = λ past samples k t tick seen.
    let called : Some c.in-Some.close ≡ close_called past c.args.actor
    (option_map (seen_value c.args.classes.now) (option_copied c.args.seen)) =
    sym c.in-Some.is ∙ c.close_of.ensures past samples c.args.actor k t tick
    (entry_is c.args.classes.now (option_copied c.args.seen) (sight_of past) c.args.actor seen) in
    subst (Keeps c.make_close.new.table AtServer)
    (made past c.args.actor (option_map (seen_value c.args.classes.now) (option_copied c.args.seen))
    (Some c.in-Some.close) seen called)
    (c.in_ok-made.ensures.table past k.life t)

pub returns-in_default-clause-life : goal.returns-in_default-clause-life
returns-in_default-clause-life c = λ past samples k t tick seen.
    let nothing : c.close_of.result ≡ None = first_of (search rules, grind (arith, common_steps)) in
    subst (λ (p : Past). KeepsLife p c.args.actor c.args.kept.now.life)
    (made past c.args.actor (option_map (seen_value c.args.classes.now) (option_copied c.args.seen)) None seen
    (sym nothing ∙ c.close_of.ensures past samples c.args.actor k t tick
    (entry_is c.args.classes.now (option_copied c.args.seen) (sight_of past) c.args.actor seen)))
    k.life

pub returns-in_default-clause-table : goal.returns-in_default-clause-table
returns-in_default-clause-table c = λ past samples k t tick seen.
    let nothing : c.close_of.result ≡ None = first_of (search rules, grind (arith, common_steps)) in
    subst (Keeps c.args.table.now AtServer)
    (made past c.args.actor (option_map (seen_value c.args.classes.now) (option_copied c.args.seen)) None seen
    (sym nothing ∙ c.close_of.ensures past samples c.args.actor k t tick
    (entry_is c.args.classes.now (option_copied c.args.seen) (sight_of past) c.args.actor seen)))
    t
