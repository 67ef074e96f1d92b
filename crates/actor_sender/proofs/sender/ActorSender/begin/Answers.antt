use Rattle.std.proofs.Common.{◌≡◌, ◌⊎◌, inr, ℕ, ap, refl, subst, sym, arith}
use Rattle.connection_model.specs.Feed.{End, Past}
use Rattle.packing_laws.specs.Beginning.{ticked}
use Rattle.channel_table.specs.Channels.{Channels, WaitingCall}
use Rattle.shadow_changes.specs.Samples.{Samples}
use Rattle.sender_steps.specs.Sender.{Sender}
use Rattle.sender_steps.specs.Sights.{sight_value}
use Rattle.sender_turns.specs.Calling.{MayWait}
use Rattle.actor_sender.specs.Serving.{MayBegin, IsCounted}
use Rattle.actor_sender.proofs.Begins.{begins}
use Rattle.actor_sender.proofs.Counts.{TookIn, MadeCloses, ascends, taken, counted}
use Rattle.actor_sender.proofs.sender.ActorSender.begin.Goals as goal

pub make_closes-requires-clause-stands : goal.make_closes-requires-clause-stands
make_closes-requires-clause-stands c =
    let r = c.requires.stands in
    let took : TookIn c.args.self.now c.take_in.new.self c.args.table.now c.args.sight.now = record {
      keeps = c.in_ok-take_in.ensures.keeps;
      rest = c.in_ok-take_in.ensures.rest;
      handles = c.in_ok-take_in.ensures.handles;
      life = c.in_ok-take_in.ensures.life;
    } in (
      ticked r.2 (sight_value c.args.classes.now c.args.sight.now),
      r.3,
      taken c.args.self.now c.take_in.new.self c.args.link.now c.args.table.now c.args.classes.now r.0
          c.args.sight.now r.1 r.2 r.3 r.4 took,
      refl,
      ascends c.args.self.now c.take_in.new.self c.args.link.now c.args.table.now c.args.classes.now r.0
          c.args.sight.now r.1 r.2 r.3 r.4 took,
    )

pub make_closes-requires-clause-few : goal.make_closes-requires-clause-few
make_closes-requires-clause-few c = omega (arith, c.in_ok-take_in.ensures.live, c.requires.few)

pub begin_tick-requires : goal.begin_tick-requires
begin_tick-requires c =
    let r = c.requires.stands in inr (r.1, r.2, r.4.stands.link, r.4.fed.few)

pub returns-clause-stands : goal.returns-clause-stands
returns-clause-stands c = λ changes end past samples h.
    let took : TookIn c.args.self.now c.take_in.new.self c.args.table.now c.args.sight.now = record {
      keeps = c.in_ok-take_in.ensures.keeps;
      rest = c.in_ok-take_in.ensures.rest;
      handles = c.in_ok-take_in.ensures.handles;
      life = c.in_ok-take_in.ensures.life;
    } in
    let made : MadeCloses c.take_in.new.self c.make_closes.new.self c.args.table.now c.make_closes.new.table = record {
      rest = c.in_ok-make_closes.ensures.rest;
      handles = c.in_ok-make_closes.ensures.handles;
      was_open = c.in_ok-make_closes.ensures.was_open;
      waiting = c.in_ok-make_closes.ensures.waiting;
    } in
    let given = sight_value c.args.classes.now c.args.sight.now in
    let both = c.in_ok-make_closes.ensures.keeps (ticked past given) samples
    (taken c.args.self.now c.take_in.new.self c.args.link.now c.args.table.now c.args.classes.now changes
    c.args.sight.now end past samples h took) refl
    (ascends c.args.self.now c.take_in.new.self c.args.link.now c.args.table.now c.args.classes.now changes
    c.args.sight.now end past samples h took) in
    let all = counted c.args.self.now c.take_in.new.self c.args.link.now c.args.table.now c.args.classes.now changes
    c.args.sight.now end past samples h took c.make_closes.new.self c.make_closes.new.table made both in
    record {
      fed = h.fed;
      stands = begins c.make_closes.new.self c.begin_tick.new.self c.make_closes.new.table end past given samples
          h.fed.budget h.fed.few all (c.in_ok-begin_tick.ensures.stands end past given h.stands.link);
      earlier = all.earlier;
      may = subst MayWait (sym made.waiting) h.may;
    }

pub returns-clause-count : goal.returns-clause-count
returns-clause-count c = omega (arith, c.in_ok-take_in.ensures.live, c.in_ok-make_closes.ensures.count)
