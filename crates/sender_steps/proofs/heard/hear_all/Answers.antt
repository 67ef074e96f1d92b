use Rattle.std.proofs.Common.{◌≡◌, refl, subst, arith, length, Some, ℕ, List}
use Rattle.std.specs.List.{slice_get}
use Rattle.std.proofs.lemmas.Option.{slice_get_read}
use Rattle.sender_steps.specs.Hearing.{Hearing}
use Rattle.sender_steps.proofs.Hears.{HearsOne, hears_next, none_left}
use Rattle.sender_steps.proofs.heard.hear_all.Goals as goal

pub loop-actor-init : goal.loop-actor-init
loop-actor-init c = record {
  service = λ a. refl;
  handles = λ a. refl;
  same_open = λ a. refl;
  waiting = refl;
  made = refl;
  hears = λ past later g h. h;
}

pub loop-actor-preserved : goal.loop-actor-preserved
loop-actor-preserved c =
    let at : slice_get c.args.pending.now c.loop-actor.actor-index ≡ Some c.actor-item.result =
    slice_get_read c.args.pending.now (length c.args.pending.now) c.loop-actor.actor-index c.actor-item.result refl
    (omega arith) c.actor-item.is in
    let one : HearsOne c.actor-item.result c.loop-actor.records.entries c.hear.new.records.entries c.loop-actor.table
    c.hear.new.table = record {
      others = c.hear.ensures.others;
      service = c.hear.ensures.service;
      handles = c.hear.ensures.handles;
      same_open = c.hear.ensures.same_open;
      index = c.hear.ensures.index;
      table = c.hear.ensures.table;
      keeps = c.hear.ensures.keeps;
    } in
    hears_next c.args.pending.now c.loop-actor.actor-index c.actor-item.result c.args.records.now.entries
    c.loop-actor.records.entries c.hear.new.records.entries
    c.args.table.now c.loop-actor.table c.hear.new.table at one c.loop-actor.invariant

pub returns-clause-hears : goal.returns-clause-hears
returns-clause-hears c = λ past later g h.
    subst (λ (xs : List ℕ). Hearing past later xs c.loop-actor.records.entries c.loop-actor.table)
    (none_left c.args.pending.now c.loop-actor.actor-index (omega arith))
    (c.loop-actor.invariant.hears past later g h)
