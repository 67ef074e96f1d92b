use Rattle.std.proofs.Common.{arith, ◌≡◌, ◌∙◌, ℕ, List, length, true, ap, sym, refl, subst}
use Rattle.connection_model.specs.State.{is_open}
use Rattle.connection_laws.specs.Run.{Ascends}
use Rattle.sender_steps.specs.declared.sight.Seen.{Seen}
use Rattle.sender_steps.specs.Closing.{IsTicked}
use Rattle.sender_steps.specs.Sender.{Sender, record_at, state_kept}
use Rattle.sender_steps.specs.Sights.{sight_value, actors_in}
use Rattle.sender_steps.specs.Stands.{KeepsBoth}
use Rattle.actor_sender.proofs.sender.ActorSender.make_closes.Goals as goal

pub close_all-requires-clause-stands : goal.close_all-requires-clause-stands
close_all-requires-clause-stands c =
    let s : Sender = record {
      records = c.self.inside.records.entries;
      updates = c.self.inside.updates.items;
      pending = c.self.inside.pending.items;
      live = c.self.inside.live.items;
      known = c.self.inside.known.items;
      opens = c.self.inside.opens.items;
      ticks = c.self.inside.ticks;
      spent = c.self.inside.spent;
    } in
    let both = subst (λ (x : Sender). KeepsBoth x c.args.table.now c.requires.stands.0 c.requires.stands.1)
    (sym c.self.view_is) c.requires.stands.2 in (
      s,
      c.requires.stands.0,
      c.requires.stands.1,
      record {
        both = both;
        records_are = refl;
        pending_are = refl;
        live_are = sym c.as_slice-live.ensures.value;
        tick_is = both.sender.ticks;
        sight_is = c.requires.stands.3 ∙ ap (sight_value c.args.classes.now) (sym c.as_slice-sight.ensures);
        ascends = subst (λ (xs : List Seen). Ascends 0 (actors_in xs))
            (sym c.as_slice-sight.ensures) c.requires.stands.4;
      },
    )

pub close_all-requires-clause-few : goal.close_all-requires-clause-few
close_all-requires-clause-few c = omega (
  arith,
  c.requires.few,
  ap length c.as_slice-live.ensures.value,
  ap
      (λ (x : Sender). length x.live) c.self.view_is,
)

pub returns-in-Ok-clause-keeps : goal.returns-in-Ok-clause-keeps
returns-in-Ok-clause-keeps c = λ past samples both sight ascends.
    let s : Sender = record {
      records = c.self.inside.records.entries;
      updates = c.self.inside.updates.items;
      pending = c.self.inside.pending.items;
      live = c.self.inside.live.items;
      known = c.self.inside.known.items;
      opens = c.self.inside.opens.items;
      ticks = c.self.inside.ticks;
      spent = c.self.inside.spent;
    } in
    let both' = subst (λ (x : Sender). KeepsBoth x c.args.table.now past samples) (sym c.self.view_is) both in
    c.in-Ok.ensures.keeps s past samples (record {
      both = both';
      records_are = refl;
      pending_are = refl;
      live_are = sym c.as_slice-live.ensures.value;
      tick_is = both'.sender.ticks;
      sight_is = sight ∙ ap (sight_value c.args.classes.now) (sym c.as_slice-sight.ensures);
      ascends = subst (λ (xs : List Seen). Ascends 0 (actors_in xs)) (sym c.as_slice-sight.ensures) ascends;
    })

pub returns-in-Ok-clause-rest : goal.returns-in-Ok-clause-rest
returns-in-Ok-clause-rest c =
    ap (λ (x : Sender). record x {
      records = c.close_all.new.records.entries;
      pending = c.close_all.new.pending.items;
    }) c.self.view_is

pub returns-in-Ok-clause-handles : goal.returns-in-Ok-clause-handles
returns-in-Ok-clause-handles c = λ a.
    c.in-Ok.ensures.handles a ∙ ap (λ (x : Sender). (record_at x a).handles) c.self.view_is

pub returns-in-Ok-clause-was_open : goal.returns-in-Ok-clause-was_open
returns-in-Ok-clause-was_open c = λ a o.
    subst (λ (x : Sender). is_open (state_kept x a) ≡ true) c.self.view_is (c.in-Ok.ensures.was_open a o)

pub returns-in-Ok-clause-waiting : goal.returns-in-Ok-clause-waiting
returns-in-Ok-clause-waiting c = c.in-Ok.ensures.waiting

pub returns-in-Ok-clause-count : goal.returns-in-Ok-clause-count
returns-in-Ok-clause-count c =
    omega (
      arith,
      c.in-Ok.ensures.count,
      ap length c.as_slice-live.ensures.value,
      ap (λ (x : Sender). length x.live) c.self.view_is,
    )
