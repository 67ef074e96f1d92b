use Rattle.std.proofs.Common.{◌≡◌, ◌+◌, [], ◌∷◌, List, Some, length, take, drop, suc, refl, sym, ◌∙◌, subst, arith}
use Rattle.std.specs.List.{slice_get}
use Rattle.std.proofs.lemmas.Option.{slice_get_read}
use Rattle.class_layout.specs.Tables.{table_in}
use Rattle.sender_steps.specs.declared.sight.Seen.{Seen}
use Rattle.net_driver.specs.Served.{Seat}
use Rattle.net_driver.specs.Sights.{AreFewSteps, HasLooked}
use Rattle.net_driver.proofs.Seats.{count}
use Rattle.net_driver.proofs.Forgetting.{next_seat}
use Rattle.net_driver.proofs.LookChain.{none_looked, looked_more, few_more, few_none, few_looked, parts_at, take_whole, looking_on, upto_more}
use Rattle.net_driver.proofs.driver.ticking.look_all.Goals as goal

pub returns-in_err-sights-clause-steps : goal.returns-in_err-sights-clause-steps
returns-in_err-sights-clause-steps g c = λ edits greatest before samples seats h seated.
    few_none (table_in c.args.world.now.layout) edits c.args.noted.now c.args.steps.now seats

pub loop-chair-init : goal.loop-chair-init
loop-chair-init g c = record {
  tick = refl;
  looked = λ edits greatest before samples seats h seated.
      subst (λ (xs : List (List Seen)). HasLooked c.args.world.now.layout edits c.args.graves.now samples c.args.noted.now
      c.args.noted.now c.args.changes.now c.args.steps.now c.args.steps.now [] xs []) (sym c.in_ok-sights.ensures.items)
      (none_looked c.args.world.now.layout edits c.args.graves.now samples c.args.noted.now c.args.changes.now
      c.args.steps.now h.notes);
}

pub look_from-requires : goal.look_from-requires
look_from-requires g c =
    let r = c.requires.looking in
    let at : slice_get c.args.chairs.now c.loop-chair.chair-index ≡ Some c.chair-item.result =
    slice_get_read c.args.chairs.now (length c.args.chairs.now) c.loop-chair.chair-index c.chair-item.result refl
    (omega arith) c.chair-item.is in
    let n = next_seat (table_in c.args.world.now.layout) r.0 r.2 r.1 c.args.ends.now.slots c.loop-chair.chair-index
    c.chair-item.result c.args.chairs.now r.4 r.6 at in record {
      looking = (
        r.0,
        r.1,
        r.2,
        r.3,
        n.seat,
        looking_on c.args.world.now c.args.graph.now c.args.graves.now c.args.noted.now _ c.args.changes.now _ r.0 r.3 r.5
            (c.loop-chair.invariant.looked r.0 r.1 r.2 r.3 r.4 r.5 r.6).notes,
        n.seated,
      );
    }

pub loop-chair-preserved : goal.loop-chair-preserved
loop-chair-preserved g c = record {
  tick = c.look_from.ensures.tick ∙ c.loop-chair.invariant.tick;
  looked = λ edits greatest before samples seats h seated.
      let at : slice_get c.args.chairs.now c.loop-chair.chair-index ≡ Some c.chair-item.result =
      slice_get_read c.args.chairs.now (length c.args.chairs.now) c.loop-chair.chair-index c.chair-item.result refl
      (omega arith) c.chair-item.is in
      let n = next_seat (table_in c.args.world.now.layout) edits before greatest c.args.ends.now.slots
      c.loop-chair.chair-index c.chair-item.result c.args.chairs.now seats seated at in
      let so_far = c.loop-chair.invariant.looked edits greatest before samples seats h seated in
      subst (λ (l : List Seat). HasLooked c.args.world.now.layout edits c.args.graves.now samples c.args.noted.now
      c.look_from.new.noted c.look_from.new.changes c.args.steps.now c.look_from.new.steps [] c.look_from.new.sights.items
      l)
      (upto_more c.loop-chair.chair-index (c.loop-chair.chair-index + 1) n.seat seats refl n.at)
      (looked_more c.args.world.now.layout edits c.args.graves.now samples c.args.noted.now c.loop-chair.noted
      c.look_from.new.noted c.loop-chair.changes c.look_from.new.changes c.args.steps.now c.loop-chair.steps
      c.look_from.new.steps [] c.loop-chair.sights.items c.look_from.new.sights.items
      (take c.loop-chair.chair-index seats) (n.seat ∷ []) so_far
      (c.in_ok-look_from.ensures.looked edits greatest before samples n.seat
      (looking_on c.args.world.now c.args.graph.now c.args.graves.now c.args.noted.now _ c.args.changes.now _ edits samples h
      so_far.notes) n.seated));
}

pub returns-in_err-look_from-clause-steps : goal.returns-in_err-look_from-clause-steps
returns-in_err-look_from-clause-steps g c = λ edits greatest before samples seats h seated.
    let at : slice_get c.args.chairs.now c.loop-chair.chair-index ≡ Some c.chair-item.result =
    slice_get_read c.args.chairs.now (length c.args.chairs.now) c.loop-chair.chair-index c.chair-item.result refl
    (omega arith) c.chair-item.is in
    let n = next_seat (table_in c.args.world.now.layout) edits before greatest c.args.ends.now.slots
    c.loop-chair.chair-index c.chair-item.result c.args.chairs.now seats seated at in
    let so_far = c.loop-chair.invariant.looked edits greatest before samples seats h seated in
    subst (AreFewSteps (table_in c.args.world.now.layout) edits c.args.noted.now c.args.steps.now c.look_from.new.steps)
    (sym (parts_at c.loop-chair.chair-index n.seat seats n.at))
    (few_more c.args.world.now.layout edits c.args.graves.now samples c.args.noted.now c.loop-chair.noted
    c.loop-chair.changes c.args.steps.now c.loop-chair.steps c.look_from.new.steps [] c.loop-chair.sights.items
    (take c.loop-chair.chair-index seats) (n.seat ∷ []) (drop (suc c.loop-chair.chair-index) seats) so_far
    (c.look_from.ensures.steps edits greatest before samples n.seat
    (looking_on c.args.world.now c.args.graph.now c.args.graves.now c.args.noted.now _ c.args.changes.now _ edits samples h
    so_far.notes) n.seated))

pub returns-clause-looked : goal.returns-clause-looked
returns-clause-looked g c = λ edits greatest before samples seats h seated.
    subst (λ (l : List Seat). HasLooked c.args.world.now.layout edits c.args.graves.now samples c.args.noted.now
    c.loop-chair.noted c.loop-chair.changes c.args.steps.now c.loop-chair.steps [] c.loop-chair.sights.items l)
    (take_whole c.loop-chair.chair-index seats
    (let l = count (table_in c.args.world.now.layout) edits before greatest c.args.ends.now.slots c.args.chairs.now seats seated in
    omega (arith, l)))
    (c.loop-chair.invariant.looked edits greatest before samples seats h seated)

pub returns-clause-steps : goal.returns-clause-steps
returns-clause-steps g c = λ edits greatest before samples seats h seated.
    subst (AreFewSteps (table_in c.args.world.now.layout) edits c.args.noted.now c.args.steps.now c.loop-chair.steps)
    (take_whole c.loop-chair.chair-index seats
    (let l = count (table_in c.args.world.now.layout) edits before greatest c.args.ends.now.slots c.args.chairs.now seats seated in
    omega (arith, l)))
    (few_looked c.args.world.now.layout edits c.args.graves.now samples c.args.noted.now c.loop-chair.noted
    c.loop-chair.changes c.args.steps.now c.loop-chair.steps [] c.loop-chair.sights.items
    (take c.loop-chair.chair-index seats) (c.loop-chair.invariant.looked edits greatest before samples seats h seated))
