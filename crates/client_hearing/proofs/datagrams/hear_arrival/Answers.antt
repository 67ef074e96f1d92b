use Rattle.std.proofs.Common.{◌∙◌, [], List, map, option_map, sym, ap, subst}
use Rattle.std.specs.List.{AllByRecursion}
use Rattle.value_codec.specs.declared.handed.Handed.{Handed}
use Rattle.handovers.specs.Handovers.{handover_of}
use Rattle.hearing_laws.specs.Courses.{during, Leads}
use Rattle.link_end.specs.Answers.{news_value, cause_value}
use Rattle.link_end.specs.declared.arrival.Entry.{Entry}
use Rattle.client_hearing.specs.Hearing.{IsFitNews, after_arrival}
use Rattle.client_hearing.proofs.Arrivals.{taken_by, starts, arrival_leads, arrival_fits, arrival_came, came_verdict, came_calls, came_copied, came_taken, came_top}
use Rattle.client_hearing.proofs.datagrams.hear_arrival.Goals as goal

pub hear_entries-heard-requires : goal.hear_entries-heard-requires
hear_entries-heard-requires c =
    let r = c.requires in
    let k = taken_by c.args.classes.now r.0 r.1 r.2 c.args.arrival.now.number in (
      r.0,
      k,
      option_map cause_value c.args.arrival.now.bad,
      during k [] [],
      after_arrival c.args.classes.now r.0 r.1 r.2,
      [],
      starts c.args.classes.now r.0 c.args.table.now c.args.names.now c.args.copies.now c.new-calls.result.items
          r.1 r.2 c.args.arrival.now r.3 c.new-calls.ensures.items,
      subst (λ (es : List Entry). AllByRecursion (IsFitNews r.0) (map news_value es)) (sym c.as_slice-entries.ensures)
          (arrival_fits c.args.classes.now r.0 c.args.table.now c.args.names.now c.args.copies.now r.1 r.2
          c.args.arrival.now r.3),
      subst (λ (es : List Entry). Leads k (map news_value es) (option_map cause_value c.args.arrival.now.bad)
          (during k [] []) (after_arrival c.args.classes.now r.0 r.1 r.2)) (sym c.as_slice-entries.ensures)
          (arrival_leads c.args.classes.now r.0 c.args.table.now c.args.names.now c.args.copies.now r.1 r.2
          c.args.arrival.now r.3),
    )

pub returns-clause-verdict : goal.returns-clause-verdict
returns-clause-verdict c = λ version past p h.
    c.verdict.ensures ∙ came_verdict c.args.classes.now version c.hear_entries-heard.new.table
    c.hear_entries-heard.new.names c.hear_entries-heard.new.copies
    c.hear_entries-heard.new.calls.items
    (taken_by c.args.classes.now version past p c.args.arrival.now.number)
    (option_map cause_value c.args.arrival.now.bad) (after_arrival c.args.classes.now version past p)
    c.in_ok-ended.ended
    (arrival_came c.args.classes.now version c.args.table.now c.hear_entries-heard.new.table c.args.names.now
    c.hear_entries-heard.new.names c.args.copies.now c.hear_entries-heard.new.copies c.new-calls.result.items
    c.hear_entries-heard.new.calls.items past p c.args.arrival.now c.as_slice-entries.result.now
    c.hear_entries-heard.result
    c.in_ok-ended.ended h c.new-calls.ensures.items c.as_slice-entries.ensures c.hear_entries-heard.ensures.heard
    c.in_ok-ended.ensures)

pub returns-clause-handed : goal.returns-clause-handed
returns-clause-handed c = λ version past p h.
    ap (λ (calls : List Handed). map (handover_of c.args.classes.now) calls) c.from_vec.ensures
    ∙ came_calls c.args.classes.now version c.hear_entries-heard.new.table c.hear_entries-heard.new.names
    c.hear_entries-heard.new.copies
    c.hear_entries-heard.new.calls.items
    (taken_by c.args.classes.now version past p c.args.arrival.now.number)
    (option_map cause_value c.args.arrival.now.bad) (after_arrival c.args.classes.now version past p)
    c.in_ok-ended.ended
    (arrival_came c.args.classes.now version c.args.table.now c.hear_entries-heard.new.table c.args.names.now
    c.hear_entries-heard.new.names c.args.copies.now c.hear_entries-heard.new.copies c.new-calls.result.items
    c.hear_entries-heard.new.calls.items past p c.args.arrival.now c.as_slice-entries.result.now
    c.hear_entries-heard.result
    c.in_ok-ended.ended h c.new-calls.ensures.items c.as_slice-entries.ensures c.hear_entries-heard.ensures.heard
    c.in_ok-ended.ensures)

pub returns-clause-greatest : goal.returns-clause-greatest
returns-clause-greatest c = λ version past p h.
    came_top c.args.classes.now version c.hear_entries-heard.new.table c.hear_entries-heard.new.names
    c.hear_entries-heard.new.copies
    c.hear_entries-heard.new.calls.items
    (taken_by c.args.classes.now version past p c.args.arrival.now.number)
    (option_map cause_value c.args.arrival.now.bad) (after_arrival c.args.classes.now version past p)
    c.in_ok-ended.ended
    (arrival_came c.args.classes.now version c.args.table.now c.hear_entries-heard.new.table c.args.names.now
    c.hear_entries-heard.new.names c.args.copies.now c.hear_entries-heard.new.copies c.new-calls.result.items
    c.hear_entries-heard.new.calls.items past p c.args.arrival.now c.as_slice-entries.result.now
    c.hear_entries-heard.result
    c.in_ok-ended.ended h c.new-calls.ensures.items c.as_slice-entries.ensures c.hear_entries-heard.ensures.heard
    c.in_ok-ended.ensures)

pub returns-clause-copied : goal.returns-clause-copied
returns-clause-copied c = λ version past p h.
    came_copied c.args.classes.now version c.hear_entries-heard.new.table c.hear_entries-heard.new.names
    c.hear_entries-heard.new.copies
    c.hear_entries-heard.new.calls.items
    (taken_by c.args.classes.now version past p c.args.arrival.now.number)
    (option_map cause_value c.args.arrival.now.bad) (after_arrival c.args.classes.now version past p)
    c.in_ok-ended.ended
    (arrival_came c.args.classes.now version c.args.table.now c.hear_entries-heard.new.table c.args.names.now
    c.hear_entries-heard.new.names c.args.copies.now c.hear_entries-heard.new.copies c.new-calls.result.items
    c.hear_entries-heard.new.calls.items past p c.args.arrival.now c.as_slice-entries.result.now
    c.hear_entries-heard.result
    c.in_ok-ended.ended h c.new-calls.ensures.items c.as_slice-entries.ensures c.hear_entries-heard.ensures.heard
    c.in_ok-ended.ensures)

pub returns-clause-taken : goal.returns-clause-taken
returns-clause-taken c = λ version past p h alive.
    came_taken c.args.classes.now version c.hear_entries-heard.new.table c.hear_entries-heard.new.names
    c.hear_entries-heard.new.copies
    c.hear_entries-heard.new.calls.items
    past p c.args.arrival.now c.in_ok-ended.ended
    (arrival_came c.args.classes.now version c.args.table.now c.hear_entries-heard.new.table c.args.names.now
    c.hear_entries-heard.new.names c.args.copies.now c.hear_entries-heard.new.copies c.new-calls.result.items
    c.hear_entries-heard.new.calls.items past p c.args.arrival.now c.as_slice-entries.result.now
    c.hear_entries-heard.result
    c.in_ok-ended.ended h c.new-calls.ensures.items c.as_slice-entries.ensures c.hear_entries-heard.ensures.heard
    c.in_ok-ended.ensures) alive
