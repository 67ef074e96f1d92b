use Rattle.std.proofs.Common.{◌+◌, map, refl, sym, ap, ◌∙◌, arith}
use Rattle.std.specs.Option.{option_copied}
use Rattle.class_layout.specs.Tables.{table_in}
use Rattle.net_driver.specs.Ticks.{tick_value}
use Rattle.net_driver.proofs.Joining.{chairs_are}
use Rattle.net_driver.proofs.SendAll.{next_tick, one_more, all_served, ticks_more, ticks_all, served_upto}
use Rattle.net_driver.proofs.driver.Driver.send_all.Goals as goal

pub loop-i-init : goal.loop-i-init
loop-i-init c = record {
  layout = refl;
  graves = refl;
  count = refl;
  serves = λ s now given. now;
  sent = λ s now given. ap (map tick_value) c.new-ticks.ensures;
}

pub send-requires : goal.send-requires
send-requires c =
    let r = c.requires.stands in
    let k = next_tick c.loop-i.self c.args.self.now.layout c.args.self.now.graves r.0 c.loop-i.i c.in-Some-chair.chair
    c.args.sights.now c.in-Some.sight.now c.loop-i.invariant.layout c.loop-i.invariant.graves
    (sym c.chair.ensures ∙ c.in-Some-chair.is) (sym c.sight_at.ensures ∙ ap option_copied c.in-Some.is)
    (c.loop-i.invariant.serves r.0 r.1 r.2) r.2 in
    record { stands = (served_upto (table_in c.args.self.now.layout) c.loop-i.i r.0, k.seat, k.serves, k.sends) }

pub loop-i-preserved : goal.loop-i-preserved
loop-i-preserved c = record {
  layout = c.send.ensures.layout ∙ c.loop-i.invariant.layout;
  graves = c.send.ensures.graves ∙ c.loop-i.invariant.graves;
  count = c.send.ensures.count ∙ c.loop-i.invariant.count;
  serves = λ s now given.
      let k = next_tick c.loop-i.self c.args.self.now.layout c.args.self.now.graves s c.loop-i.i c.in-Some-chair.chair
      c.args.sights.now c.in-Some.sight.now c.loop-i.invariant.layout c.loop-i.invariant.graves
      (sym c.chair.ensures ∙ c.in-Some-chair.is) (sym c.sight_at.ensures ∙ ap option_copied c.in-Some.is)
      (c.loop-i.invariant.serves s now given) given in
      one_more c.loop-i.self c.send.new.self c.args.self.now.layout s c.loop-i.i (c.loop-i.i + 1)
      c.in-Some-chair.chair c.in-Some.sight.now c.loop-i.invariant.layout refl k
      (c.in_ok-tick.ensures.serves (served_upto (table_in c.args.self.now.layout) c.loop-i.i s) k.seat k.serves k.sends);
  sent = λ s now given.
      let k = next_tick c.loop-i.self c.args.self.now.layout c.args.self.now.graves s c.loop-i.i c.in-Some-chair.chair
      c.args.sights.now c.in-Some.sight.now c.loop-i.invariant.layout c.loop-i.invariant.graves
      (sym c.chair.ensures ∙ c.in-Some-chair.is) (sym c.sight_at.ensures ∙ ap option_copied c.in-Some.is)
      (c.loop-i.invariant.serves s now given) given in
      ap (map tick_value) c.in_ok-push.ensures.ok
      ∙ ticks_more c.loop-i.self c.args.self.now.layout s c.loop-i.i (c.loop-i.i + 1) c.in-Some-chair.chair
      c.in-Some.sight.now c.loop-i.ticks c.in_ok-tick.tick c.loop-i.invariant.layout refl k
      (c.loop-i.invariant.sent s now given)
      (λ seat sends. c.in_ok-tick.ensures.sent (served_upto (table_in c.args.self.now.layout) c.loop-i.i s) seat k.serves
      sends);
}

pub returns-clause-serves : goal.returns-clause-serves
returns-clause-serves c = λ s now given.
    all_served (table_in c.args.self.now.layout) c.loop-i.self s c.loop-i.i
    (let n = c.joined-i-end.ensures in let l = chairs_are c.args.self.now s now in omega (arith, n, l))
    (c.loop-i.invariant.serves s now given)

pub returns-clause-sent : goal.returns-clause-sent
returns-clause-sent c = λ s now given.
    ticks_all (table_in c.args.self.now.layout) s.edits c.loop-i.i s.seats (map tick_value c.loop-i.ticks)
    (let n = c.joined-i-end.ensures in let l = chairs_are c.args.self.now s now in omega (arith, n, l))
    (c.loop-i.invariant.sent s now given)
