use Rattle.std.proofs.Common.{not, sym, ap, ◌∙◌}
use Rattle.std.specs.Option.{option_copied}
use Rattle.sender_records.specs.Life.{state_value}
use Rattle.net_driver.proofs.Forgetting.{dead_left, key_has, living_left}
use Rattle.net_driver.proofs.LookOne.{key_there}
use Rattle.net_driver.proofs.driver.forgetting.is_left_at.Goals as goal

pub returns-in_default : goal.returns-in_default
returns-in_default c = λ table edits samples greatest t h.
    dead_left table edits samples greatest c.args.ends.now.slots t c.args.chair.now.place c.args.actor h.place
    (sym c.living.ensures ∙ c.in_default.is)

pub returns-in_default-get : goal.returns-in_default-get
returns-in_default-get c = λ table edits samples greatest t h.
    absurd (key_there table edits samples greatest c.args.ends.now.slots c.args.chair.now t c.in-Some.key h
    (sym c.living.ensures ∙ c.in-Some.is) (sym c.get.ensures ∙ ap option_copied c.in_default-get.is))

pub returns : goal.returns
returns c = λ table edits samples greatest t h.
    ap not c.is_closed.ensures
    ∙ living_left table edits samples greatest c.args.ends.now.slots t c.in-Some.key c.args.actor c.in-Some-get.end.now
    (state_value c.state.result)
    (key_has table edits samples greatest c.args.ends.now.slots t c.args.chair.now.place c.in-Some.key h.place
    (sym c.living.ensures ∙ c.in-Some.is))
    (sym c.get.ensures ∙ ap option_copied c.in-Some-get.is)
    (λ past before k. c.state.ensures past before k)
