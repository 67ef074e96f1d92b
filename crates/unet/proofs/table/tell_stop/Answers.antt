use Rattle.unet.proofs.Ran.{ends_as, stop_missing, stop_refused}
use Rattle.unet.proofs.table.tell_stop.Goals as goal

pub returns-in-Missing-clause-ends : goal.returns-in-Missing-clause-ends
returns-in-Missing-clause-ends g c = λ next read h.
    stop_missing c.args.name.now next read c.refuse_file.result _ _ c.args.stop c.in-Missing.is h
    (ends_as _ c.refuse_file.result _ _ c.refuse_file.ensures.done c.refuse_file.ensures.early)

pub returns-in-Refused-clause-ends : goal.returns-in-Refused-clause-ends
returns-in-Refused-clause-ends g c = λ next read h.
    stop_refused c.args.name.now next read c.refuse_table.result _ _ c.args.stop c.in-Refused.place c.in-Refused.why c.in-Refused.is h
    (ends_as _ c.refuse_table.result _ _ c.refuse_table.ensures.done c.refuse_table.ensures.early)
