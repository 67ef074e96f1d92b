use Rattle.std.proofs.Common.{◌≡◌, ◌∙◌, not, ap, refl, subst, sym}
use Rattle.connection_model.specs.Feed.{End, Past}
use Rattle.connection_model.specs.Pack.{Packing}
use Rattle.shadow_changes.specs.Samples.{Samples, samples_of}
use Rattle.sender_steps.specs.Sender.{Sender}
use Rattle.sender_turns.specs.Ticking.{HasParts, InTick}
use Rattle.actor_sender.specs.Serving.{IsServed}
use Rattle.actor_sender.proofs.Serves.{opening, turn_opens, channel, updating, turn_updates, updated}
use Rattle.actor_sender.proofs.sender.ActorSender.serve.Goals as goal

pub open_actor-requires-clause-opening : goal.open_actor-requires-clause-opening
open_actor-requires-clause-opening c =
    let s : Sender = record {
      records = c.self.inside.records.entries;
      updates = c.self.inside.updates.items;
      pending = c.self.inside.pending.items;
      live = c.self.inside.live.items;
      known = c.self.inside.known.items;
      opens = c.self.inside.opens.items;
      ticks = c.self.inside.ticks;
      spent = c.self.inside.spent;
    } in
    let r = c.requires.stands in
    let h' : IsServed c.args.classes.now c.args.changes.now c.args.seen.now c.args.opens s c.args.link.now
    c.args.table.now r.0 r.1 r.2 r.3 r.4 = subst (λ (x : Sender). IsServed c.args.classes.now c.args.changes.now
    c.args.seen.now c.args.opens x c.args.link.now c.args.table.now r.0 r.1 r.2 r.3 r.4) (sym c.self.view_is) r.5 in
    let parts : HasParts s c.self.inside.records.entries c.self.inside.pending.items c.self.inside.live.items
    c.self.inside.known.items c.self.inside.opens.items =
    record { records_are = refl; pending_are = refl; live_are = refl; known_are = refl; opens_are = refl } in (
      s,
      r.0,
      r.1,
      r.3,
      r.4,
      parts,
      opening c.args.classes.now c.args.changes.now c.args.seen.now c.args.opens s c.args.link.now c.args.table.now
          r.0 r.1 r.2 r.3 r.4 h' c.if-opens.true,
    )

pub returns-then-opens-clause-room : goal.returns-then-opens-clause-room
returns-then-opens-clause-room c = λ end before past p samples h.
    let s : Sender = record {
      records = c.self.inside.records.entries;
      updates = c.self.inside.updates.items;
      pending = c.self.inside.pending.items;
      live = c.self.inside.live.items;
      known = c.self.inside.known.items;
      opens = c.self.inside.opens.items;
      ticks = c.self.inside.ticks;
      spent = c.self.inside.spent;
    } in
    let h' : IsServed c.args.classes.now c.args.changes.now c.args.seen.now c.args.opens s c.args.link.now
    c.args.table.now end before past p samples = subst (λ (x : Sender). IsServed c.args.classes.now c.args.changes.now
    c.args.seen.now c.args.opens x c.args.link.now c.args.table.now end before past p samples) (sym c.self.view_is) h
    in
    let parts : HasParts s c.self.inside.records.entries c.self.inside.pending.items c.self.inside.live.items
    c.self.inside.known.items c.self.inside.opens.items =
    record { records_are = refl; pending_are = refl; live_are = refl; known_are = refl; opens_are = refl } in
    c.in_ok-room.ensures.ready s end before p samples parts
    (opening c.args.classes.now c.args.changes.now c.args.seen.now c.args.opens s c.args.link.now c.args.table.now
    end before past p samples h' c.if-opens.true)
    ∙ ap (λ (q : Packing). not q.full) (sym (turn_opens c.args.classes.now c.args.changes.now c.args.seen.now
    c.args.opens s c.args.link.now c.args.table.now end before past p samples h' c.if-opens.true))

pub returns-then-opens-clause-stands : goal.returns-then-opens-clause-stands
returns-then-opens-clause-stands c = λ end before past p samples h.
    let s : Sender = record {
      records = c.self.inside.records.entries;
      updates = c.self.inside.updates.items;
      pending = c.self.inside.pending.items;
      live = c.self.inside.live.items;
      known = c.self.inside.known.items;
      opens = c.self.inside.opens.items;
      ticks = c.self.inside.ticks;
      spent = c.self.inside.spent;
    } in
    let h' : IsServed c.args.classes.now c.args.changes.now c.args.seen.now c.args.opens s c.args.link.now
    c.args.table.now end before past p samples = subst (λ (x : Sender). IsServed c.args.classes.now c.args.changes.now
    c.args.seen.now c.args.opens x c.args.link.now c.args.table.now end before past p samples) (sym c.self.view_is) h
    in
    let parts : HasParts s c.self.inside.records.entries c.self.inside.pending.items c.self.inside.live.items
    c.self.inside.known.items c.self.inside.opens.items =
    record { records_are = refl; pending_are = refl; live_are = refl; known_are = refl; opens_are = refl } in
    subst (λ (q : Packing). InTick (record s {
      records = c.open_actor.new.records.entries;
      pending = c.open_actor.new.pending.items;
      live = c.open_actor.new.live.items;
      known = c.open_actor.new.known.items;
      opens = c.open_actor.new.opens.items;
    }) c.open_actor.new.link c.open_actor.new.table end before q samples)
    (sym (turn_opens c.args.classes.now c.args.changes.now c.args.seen.now c.args.opens s c.args.link.now
    c.args.table.now end before past p samples h' c.if-opens.true))
    (c.in_ok-room.ensures.stands s end before p samples parts
    (opening c.args.classes.now c.args.changes.now c.args.seen.now c.args.opens s c.args.link.now c.args.table.now
    end before past p samples h' c.if-opens.true))

pub update-requires : goal.update-requires
update-requires c =
    let s : Sender = record {
      records = c.self.inside.records.entries;
      updates = c.self.inside.updates.items;
      pending = c.self.inside.pending.items;
      live = c.self.inside.live.items;
      known = c.self.inside.known.items;
      opens = c.self.inside.opens.items;
      ticks = c.self.inside.ticks;
      spent = c.self.inside.spent;
    } in
    let r = c.requires.stands in
    let h' : IsServed c.args.classes.now c.args.changes.now c.args.seen.now c.args.opens s c.args.link.now
    c.args.table.now r.0 r.1 r.2 r.3 r.4 = subst (λ (x : Sender). IsServed c.args.classes.now c.args.changes.now
    c.args.seen.now c.args.opens x c.args.link.now c.args.table.now r.0 r.1 r.2 r.3 r.4) (sym c.self.view_is) r.5 in (
      c.args.table.now,
      r.0,
      r.1,
      r.2,
      r.3,
      channel c.args.classes.now c.args.changes.now c.args.seen.now c.args.opens s c.args.link.now c.args.table.now
          r.0 r.1 r.2 r.3 r.4 h' c.if-opens.false,
      samples_of r.4 c.args.seen.now.actor,
      updating c.args.classes.now c.args.changes.now c.args.seen.now c.args.opens s c.args.link.now c.args.table.now
          r.0 r.1 r.2 r.3 r.4 h' c.if-opens.false,
    )

pub returns-clause-room : goal.returns-clause-room
returns-clause-room c = λ end before past p samples h.
    let s : Sender = record {
      records = c.self.inside.records.entries;
      updates = c.self.inside.updates.items;
      pending = c.self.inside.pending.items;
      live = c.self.inside.live.items;
      known = c.self.inside.known.items;
      opens = c.self.inside.opens.items;
      ticks = c.self.inside.ticks;
      spent = c.self.inside.spent;
    } in
    let h' : IsServed c.args.classes.now c.args.changes.now c.args.seen.now c.args.opens s c.args.link.now
    c.args.table.now end before past p samples = subst (λ (x : Sender). IsServed c.args.classes.now c.args.changes.now
    c.args.seen.now c.args.opens x c.args.link.now c.args.table.now end before past p samples) (sym c.self.view_is) h
    in
    c.in_ok-room-2.ensures.room c.args.table.now end before past p (channel c.args.classes.now c.args.changes.now
    c.args.seen.now c.args.opens s c.args.link.now c.args.table.now end before past p samples h' c.if-opens.false)
    (samples_of samples c.args.seen.now.actor) (updating c.args.classes.now c.args.changes.now c.args.seen.now
    c.args.opens s c.args.link.now c.args.table.now end before past p samples h' c.if-opens.false)
    ∙ ap (λ (q : Packing). not q.full) (sym (turn_updates c.args.classes.now c.args.changes.now c.args.seen.now
    c.args.opens s c.args.link.now c.args.table.now end before past p samples h' c.if-opens.false))

pub returns-clause-stands : goal.returns-clause-stands
returns-clause-stands c = λ end before past p samples h.
    let s : Sender = record {
      records = c.self.inside.records.entries;
      updates = c.self.inside.updates.items;
      pending = c.self.inside.pending.items;
      live = c.self.inside.live.items;
      known = c.self.inside.known.items;
      opens = c.self.inside.opens.items;
      ticks = c.self.inside.ticks;
      spent = c.self.inside.spent;
    } in
    let h' : IsServed c.args.classes.now c.args.changes.now c.args.seen.now c.args.opens s c.args.link.now
    c.args.table.now end before past p samples = subst (λ (x : Sender). IsServed c.args.classes.now c.args.changes.now
    c.args.seen.now c.args.opens x c.args.link.now c.args.table.now end before past p samples) (sym c.self.view_is) h
    in
    subst (λ (q : Packing). InTick (record s {
      records = c.update.new.records.entries;
      updates = c.update.new.updates.items;
    }) c.update.new.link c.args.table.now end before q samples)
    (sym (turn_updates c.args.classes.now c.args.changes.now c.args.seen.now c.args.opens s c.args.link.now
    c.args.table.now end before past p samples h' c.if-opens.false))
    (updated c.args.classes.now c.args.changes.now c.args.seen.now c.args.opens s c.args.link.now c.args.table.now
    end before past p samples h' c.if-opens.false c.update.new.link c.update.new.records.entries
    c.update.new.updates.items
    (c.in_ok-room-2.ensures.packs c.args.table.now end before past p (channel c.args.classes.now c.args.changes.now
    c.args.seen.now c.args.opens s c.args.link.now c.args.table.now end before past p samples h' c.if-opens.false)
    (samples_of samples c.args.seen.now.actor) (updating c.args.classes.now c.args.changes.now c.args.seen.now
    c.args.opens s c.args.link.now c.args.table.now end before past p samples h' c.if-opens.false))
    (c.in_ok-room-2.ensures.keeps c.args.table.now end before past p (channel c.args.classes.now c.args.changes.now
    c.args.seen.now c.args.opens s c.args.link.now c.args.table.now end before past p samples h' c.if-opens.false)
    (samples_of samples c.args.seen.now.actor) (updating c.args.classes.now c.args.changes.now c.args.seen.now
    c.args.opens s c.args.link.now c.args.table.now end before past p samples h' c.if-opens.false))
    (c.in_ok-room-2.ensures.notes c.args.table.now end before past p (channel c.args.classes.now c.args.changes.now
    c.args.seen.now c.args.opens s c.args.link.now c.args.table.now end before past p samples h' c.if-opens.false)
    (samples_of samples c.args.seen.now.actor) (updating c.args.classes.now c.args.changes.now c.args.seen.now
    c.args.opens s c.args.link.now c.args.table.now end before past p samples h' c.if-opens.false))
    (c.in_ok-room-2.ensures.packets c.args.table.now end before past p (channel c.args.classes.now c.args.changes.now
    c.args.seen.now c.args.opens s c.args.link.now c.args.table.now end before past p samples h' c.if-opens.false)
    (samples_of samples c.args.seen.now.actor) (updating c.args.classes.now c.args.changes.now c.args.seen.now
    c.args.opens s c.args.link.now c.args.table.now end before past p samples h' c.if-opens.false))
    c.in_ok-room-2.ensures.others)
