use Rattle.std.proofs.Common.{rules, arith, ◌≡◌, ◌∙◌, ℕ, ◌+◌, List, ◌∷◌, length, not, ap, sym, subst}
use Rattle.std.proofs.lemmas.Grind.{common_steps}
use Rattle.connection_model.specs.Feed.{Ticked}
use Rattle.connection_model.specs.State.{is_closed}
use Rattle.connection_laws.specs.Run.{Ascends}
use Rattle.sender_steps.specs.declared.sight.Seen.{Seen}
use Rattle.sender_records.specs.Life.{state_value}
use Rattle.sender_steps.specs.Sender.{Sender, record_at, record_in}
use Rattle.sender_steps.specs.Sights.{sight_value, actors_in}
use Rattle.sender_steps.specs.Stands.{Keeps, AreServed}
use Rattle.sender_steps.proofs.Begun.{TakesIn, takes_in}
use Rattle.actor_sender.proofs.Ready.{length_filtered}
use Rattle.actor_sender.proofs.sender.ActorSender.take.Goals as goal

pub returns-clause-keeps : goal.returns-clause-keeps
returns-clause-keeps c = λ layout past samples k table ascends.
    let s : Sender = record {
      records = c.self.inside.records.entries;
      updates = c.self.inside.updates.items;
      pending = c.self.inside.pending.items;
      live = c.self.inside.live.items;
      known = c.self.inside.known.items;
      opens = c.self.inside.opens.items;
      ticks = c.self.inside.ticks;
      spent = c.self.inside.spent;
    } in
    let k' : Keeps s past samples = subst (λ (x : Sender). Keeps x past samples) (sym c.self.view_is) k in
    let next : c.in-Some.tick ≡ c.self.inside.ticks + 1 = first_of (search rules, grind (arith, common_steps)) in
    let h : TakesIn s past (sight_value layout c.args.sight.now) c.show_all.new.records.entries c.learn.new.known.items
    c.learn.new.opens.items = record {
      life = c.in_ok-show_all.ensures.life;
      handles = c.in_ok-show_all.ensures.handles;
      served = subst (λ (t : ℕ). AreServed (Ticked t (sight_value layout c.args.sight.now) ∷ past)
          c.show_all.new.records.entries) (next ∙ ap (λ (t : ℕ). t + 1) k'.ticks)
          (subst (λ (xs : List Seen). AreServed (Ticked c.in-Some.tick (sight_value layout xs) ∷ past)
          c.show_all.new.records.entries) c.as_slice.ensures
          (c.in_ok-show_all.ensures.service layout past (next ∙ ap (λ (t : ℕ). t + 1) k'.ticks)
          (subst (λ (xs : List Seen). Ascends 0 (actors_in xs)) (sym c.as_slice.ensures) ascends)
          (λ a. (k'.each a).service)));
      made = c.learn.ensures.made past table k'.opens;
      learnt = λ later grows g. c.learn.ensures.known past later table grows k'.opens g;
    } in
    let all = takes_in s past samples (sight_value layout c.args.sight.now) c.show_all.new.records.entries
    c.learn.new.known.items c.learn.new.opens.items k' h in
    rw (c.tidy.ensures.pending, c.tidy.ensures.live, next) all

pub returns-clause-rest : goal.returns-clause-rest
returns-clause-rest c = λ past samples k table g.
    let s : Sender = record {
      records = c.self.inside.records.entries;
      updates = c.self.inside.updates.items;
      pending = c.self.inside.pending.items;
      live = c.self.inside.live.items;
      known = c.self.inside.known.items;
      opens = c.self.inside.opens.items;
      ticks = c.self.inside.ticks;
      spent = c.self.inside.spent;
    } in
    let k' : Keeps s past samples = subst (λ (x : Sender). Keeps x past samples) (sym c.self.view_is) k in
    c.learn.ensures.rest past table k'.opens g

pub returns-clause-handles : goal.returns-clause-handles
returns-clause-handles c = λ a.
    c.in_ok-show_all.ensures.handles a ∙ ap (λ (x : Sender). (record_at x a).handles) c.self.view_is

pub returns-clause-life : goal.returns-clause-life
returns-clause-life c = λ a.
    c.in_ok-show_all.ensures.life a ∙ ap (λ (x : Sender). (record_at x a).life) c.self.view_is

pub returns-clause-live : goal.returns-clause-live
returns-clause-live c =
    omega (
      arith,
      ap length c.tidy.ensures.live,
      length_filtered (λ a. not (is_closed (state_value (record_in c.show_all.new.records.entries a).life.state)))
          c.self.inside.live.items,
      ap (λ (x : Sender). length x.live) c.self.view_is,
    )
