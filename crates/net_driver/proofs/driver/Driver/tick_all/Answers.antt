use Rattle.class_layout.specs.Tables.{table_in}
use Rattle.net_driver.specs.Served.{with_samples}
use Rattle.net_driver.proofs.TickAll.{sights_stay, all_serve, all_sent, all_steps}
use Rattle.net_driver.proofs.driver.Driver.tick_all.Goals as goal

pub look-requires : goal.look-requires
look-requires g c =
    record { stands = (c.requires.stands.0, c.forget_closed.ensures.serves c.requires.stands.0 c.requires.stands.1) }

pub send_all-requires : goal.send_all-requires
send_all-requires g c =
    let s = c.requires.stands.0 in
    let h = c.forget_closed.ensures.serves s c.requires.stands.1 in record {
      stands = (
        with_samples (table_in c.forget_closed.new.self.layout) s,
        c.in_ok-sights.ensures.serves s h,
        sights_stay c.forget_closed.new.self.layout _ s c.forget_closed.new.self.graves _ c.in_ok-sights.sights.items _
            c.look.ensures.layout c.look.ensures.graves c.as_slice.ensures.value
            (c.in_ok-sights.ensures.sights s h),
      );
    }

pub returns-clause-serves : goal.returns-clause-serves
returns-clause-serves g c = λ s now.
    let h = c.forget_closed.ensures.serves s now in
    all_serve c.args.self.now.layout c.forget_closed.new.self.layout _ _ s c.forget_closed.ensures.layout
    c.look.ensures.layout
    (c.in_ok-ticks.ensures.serves (with_samples (table_in c.forget_closed.new.self.layout) s)
    (c.in_ok-sights.ensures.serves s h)
    (sights_stay c.forget_closed.new.self.layout _ s c.forget_closed.new.self.graves _ c.in_ok-sights.sights.items _
    c.look.ensures.layout c.look.ensures.graves c.as_slice.ensures.value
    (c.in_ok-sights.ensures.sights s h)))

pub returns-clause-sent : goal.returns-clause-sent
returns-clause-sent g c = λ s now.
    let h = c.forget_closed.ensures.serves s now in
    all_sent c.args.self.now.layout c.forget_closed.new.self.layout _ s _ c.forget_closed.ensures.layout
    c.look.ensures.layout
    (c.in_ok-ticks.ensures.sent (with_samples (table_in c.forget_closed.new.self.layout) s)
    (c.in_ok-sights.ensures.serves s h)
    (sights_stay c.forget_closed.new.self.layout _ s c.forget_closed.new.self.graves _ c.in_ok-sights.sights.items _
    c.look.ensures.layout c.look.ensures.graves c.as_slice.ensures.value
    (c.in_ok-sights.ensures.sights s h)))

pub returns-clause-steps : goal.returns-clause-steps
returns-clause-steps g c = λ s now.
    all_steps c.args.self.now.layout c.forget_closed.new.self.layout s _ _ c.forget_closed.ensures.layout
    (c.look.ensures.steps s (c.forget_closed.ensures.serves s now))

pub returns-in_err-sights-clause-steps : goal.returns-in_err-sights-clause-steps
returns-in_err-sights-clause-steps g c = λ s now.
    all_steps c.args.self.now.layout c.forget_closed.new.self.layout s _ _ c.forget_closed.ensures.layout
    (c.look.ensures.steps s (c.forget_closed.ensures.serves s now))

pub returns-in_err-ticks-clause-steps : goal.returns-in_err-ticks-clause-steps
returns-in_err-ticks-clause-steps g c = λ s now.
    all_steps c.args.self.now.layout c.forget_closed.new.self.layout s _ _ c.forget_closed.ensures.layout
    (c.look.ensures.steps s (c.forget_closed.ensures.serves s now))
