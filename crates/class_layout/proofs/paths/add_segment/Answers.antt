use Rattle.std.proofs.Common.{◌∙◌, sym}
use Rattle.class_layout.proofs.Answered.{if_ok, on_ok, if_on_ok}
use Rattle.class_layout.proofs.Growing.{guid_there, guid_new, are_kept, seen_at, seen_new, found_there, are_grown}
use Rattle.class_layout.proofs.paths.add_segment.Goals as goal

pub returns-in-Some-clause-guid : goal.returns-in-Some-clause-guid
returns-in-Some-clause-guid c known are =
    guid_there c.args.outer c.args.name.now c.in-Some.i are (sym c.find_segment.ensures ∙ c.in-Some.is)

pub returns-in-Some-clause-are : goal.returns-in-Some-clause-are
returns-in-Some-clause-are c known are =
    are_kept c.args.outer c.args.name.now c.in-Some.i are (sym c.find_segment.ensures ∙ c.in-Some.is)

pub returns-in-Some-clause-there : goal.returns-in-Some-clause-there
returns-in-Some-clause-there c =
    seen_at c.args.segments.now c.in-Some.i _
    (found_there c.args.outer c.args.name.now c.args.segments.now c.in-Some.i (sym c.find_segment.ensures
    ∙ c.in-Some.is))

pub returns-in-None-clause-guid : goal.returns-in-None-clause-guid
returns-in-None-clause-guid c known are =
    if_ok c.add_new.result c.add_new.ensures.guid
    (λ guid e. e ∙ guid_new c.args.outer c.args.name.now are (sym c.find_segment.ensures ∙ c.in-None.is))

pub returns-in-None-clause-are : goal.returns-in-None-clause-are
returns-in-None-clause-are c known are =
    on_ok c.add_new.result c.add_new.ensures.added
    (λ e. rw e (are_grown c.args.outer c.args.name.now are (sym c.find_segment.ensures ∙ c.in-None.is)))

pub returns-in-None-clause-there : goal.returns-in-None-clause-there
returns-in-None-clause-there c =
    if_on_ok c.add_new.result c.add_new.ensures.added c.add_new.ensures.guid
    (λ guid e g. rw (e, g) (seen_new c.args.segments.now c.args.outer c.args.name.now))
