use Rattle.std.proofs.Common.{◌+◌, ◌^◌, List, map, refl, sym, ap, ◌∙◌, subst}
use Rattle.std.specs.Prelude.{nat_le, false}
use Rattle.std.proofs.lemmas.Option.{same_Some}
use Rattle.table_model.specs.Facts.{IsTable}
use Rattle.class_layout.specs.Tables.{table_in, entries_in}
use Rattle.link_end.specs.Answers.{sent_value}
use Rattle.net_driver.specs.declared.chair.Chair.{Chair}
use Rattle.net_driver.specs.Chairs.{living_key, dead_for}
use Rattle.net_driver.specs.Ends.{end_at}
use Rattle.net_driver.specs.Served.{Served, Seat, TickOf, end_for, past_for, shown_to, ticked, with_seat}
use Rattle.net_driver.specs.Serves.{Drive, Serves}
use Rattle.server_end.specs.Ticks.{IsGivenEnd}
use Rattle.net_driver.proofs.Placing.{dead_is}
use Rattle.net_driver.proofs.Sending.{ready_tick, given_tick, dead_ticked, living_ticks, stalled_ticks, dead_sends, living_sends, number_found}
use Rattle.net_driver.proofs.driver.Driver.send.Goals as goal

-- ---- an end that was dead

pub returns-in_default-clause-serves : goal.returns-in_default-clause-serves
returns-in_default-clause-serves c = λ s seat now sends.
    let none = ap living_key sends.place ∙ sym c.living.ensures ∙ c.in_default.is in
    dead_ticked c.args.self.now s c.args.chair.player seat now none
    (dead_is c.args.self.now s c.args.chair.player seat now sends.seat_at none) sends.seat_at

pub returns-in_default-clause-sent : goal.returns-in_default-clause-sent
returns-in_default-clause-sent c = λ s seat now sends.
    let none = ap living_key sends.place ∙ sym c.living.ensures ∙ c.in_default.is in
    ap (λ l. (let k : TickOf = record { player = c.args.chair.player; sent = map sent_value l; stalled = false } in k)) c.new.ensures
    ∙ dead_sends (table_in c.args.self.now.layout) s.edits seat c.args.chair.player
    (sym (number_found c.args.chair.player s.seats seat sends.seat_at))
    (dead_is c.args.self.now s c.args.chair.player seat now sends.seat_at none)

-- ---- an end that is alive

pub tick_at-requires : goal.tick_at-requires
tick_at-requires c =
    let d : Drive = c.args.self.now in
    let s : Served = c.requires.stands.0 in
    let seat : Seat = c.requires.stands.1 in
    let ready = ready_tick d s c.args.chair c.in-Some.key c.args.sight.now seat c.requires.stands.2 c.requires.stands.3
    (sym c.living.ensures ∙ c.in-Some.is)
    (subst (λ (d : Drive). IsTable (entries_in d.layout)) c.self.view_is c.keeps_rules.ensures.rules)
    (ap (λ (d : Drive). nat_le (2 ^ 59) d.greatest) (sym c.self.view_is) ∙ sym c.is_past.ensures ∙ c.if-is_past.false) in
    let g = given_tick d s c.args.chair.player c.in-Some.key c.args.sight.now seat ready in (
      g.end,
      end_for (table_in d.layout) seat,
      past_for (table_in d.layout) seat,
      g.lives.before,
      s.samples,
      shown_to (table_in d.layout) s.edits seat,
      ap (λ (d : Drive). end_at d.ends c.in-Some.key) c.self.view_is ∙ g.at,
      subst (λ (x : Drive). IsGivenEnd g.end x.layout x.changes c.args.sight.now (end_for (table_in d.layout) seat)
          (past_for (table_in d.layout) seat) g.lives.before s.samples (shown_to (table_in d.layout) s.edits seat))
          (sym c.self.view_is) g.given,
    )

pub returns-clause-serves : goal.returns-clause-serves
returns-clause-serves c = λ s seat now sends.
    let d : Drive = c.args.self.now in
    let ready = ready_tick d s c.args.chair c.in-Some.key c.args.sight.now seat now sends
    (sym c.living.ensures ∙ c.in-Some.is)
    (subst (λ (d : Drive). IsTable (entries_in d.layout)) c.self.view_is c.keeps_rules.ensures.rules)
    (ap (λ (d : Drive). nat_le (2 ^ 59) d.greatest) (sym c.self.view_is) ∙ sym c.is_past.ensures ∙ c.if-is_past.false) in
    subst (λ (x : Drive). Serves (record x { ends = c.tick_at.new.ends.slots; greatest = x.greatest + 2 ^ 18 })
    (with_seat (ticked (table_in d.layout) s.edits) c.args.chair.player s)) (sym c.self.view_is)
    (living_ticks d s c.args.chair.player c.in-Some.key c.args.sight.now seat c.tick_at.new.ends.slots
    c.in_ok-ticked.ticked ready
    (λ e end past before samples shown at h. c.in_ok-ticked.ensures.ticked e end past before samples shown
    (ap (λ (d : Drive). end_at d.ends c.in-Some.key) c.self.view_is ∙ at)
    (subst (λ (x : Drive). IsGivenEnd e x.layout x.changes c.args.sight.now end past before samples shown)
    (sym c.self.view_is) h))
    (λ k ne. c.tick_at.ensures.others k ne ∙ ap (λ (d : Drive). end_at d.ends k) c.self.view_is)
    c.if-ticked.false)

pub returns-clause-sent : goal.returns-clause-sent
returns-clause-sent c = λ s seat now sends.
    let d : Drive = c.args.self.now in
    let ready = ready_tick d s c.args.chair c.in-Some.key c.args.sight.now seat now sends
    (sym c.living.ensures ∙ c.in-Some.is)
    (subst (λ (d : Drive). IsTable (entries_in d.layout)) c.self.view_is c.keeps_rules.ensures.rules)
    (ap (λ (d : Drive). nat_le (2 ^ 59) d.greatest) (sym c.self.view_is) ∙ sym c.is_past.ensures ∙ c.if-is_past.false) in
    living_sends d s c.args.chair.player c.in-Some.key c.args.sight.now seat c.tick_at.new.ends.slots
    c.in_ok-ticked.ticked _ _ ready
    (λ e end past before samples shown at h. c.in_ok-ticked.ensures.ticked e end past before samples shown
    (ap (λ (d : Drive). end_at d.ends c.in-Some.key) c.self.view_is ∙ at)
    (subst (λ (x : Drive). IsGivenEnd e x.layout x.changes c.args.sight.now end past before samples shown)
    (sym c.self.view_is) h))
    refl c.if-ticked.false

-- ---- and stalls

pub returns-then-ticked-clause-serves : goal.returns-then-ticked-clause-serves
returns-then-ticked-clause-serves c = λ s seat now sends.
    let d : Drive = c.args.self.now in
    let ready = ready_tick d s c.args.chair c.in-Some.key c.args.sight.now seat now sends
    (sym c.living.ensures ∙ c.in-Some.is)
    (subst (λ (d : Drive). IsTable (entries_in d.layout)) c.self.view_is c.keeps_rules.ensures.rules)
    (ap (λ (d : Drive). nat_le (2 ^ 59) d.greatest) (sym c.self.view_is) ∙ sym c.is_past.ensures ∙ c.if-is_past.false) in
    subst (λ (x : Drive). Serves (record x {
      ends = c.drop_end.new.ends.slots;
      chairs = c.put_dead.new.chairs.items;
      greatest = x.greatest + 2 ^ 18;
    })
    (with_seat (ticked (table_in d.layout) s.edits) c.args.chair.player s)) (sym c.self.view_is)
    (subst (λ (cs : List Chair). Serves (record d { ends = c.drop_end.new.ends.slots; chairs = cs; greatest = d.greatest + 2 ^ 18 })
    (with_seat (ticked (table_in d.layout) s.edits) c.args.chair.player s))
    (sym (c.put_dead.ensures
    ∙ ap (λ (x : Drive). map (dead_for c.args.chair.player c.in_ok-ticked.ticked.top) x.chairs) c.self.view_is))
    (stalled_ticks d s c.args.chair.player c.in-Some.key c.in_ok-ticked.ticked.top c.args.sight.now seat
    c.tick_at.new.ends.slots c.drop_end.new.ends.slots c.in_ok-ticked.ticked ready
    (λ e end past before samples shown at h. c.in_ok-ticked.ensures.ticked e end past before samples shown
    (ap (λ (d : Drive). end_at d.ends c.in-Some.key) c.self.view_is ∙ at)
    (subst (λ (x : Drive). IsGivenEnd e x.layout x.changes c.args.sight.now end past before samples shown)
    (sym c.self.view_is) h))
    (λ k ne. c.drop_end.ensures k (λ q. ne (sym (same_Some c.in-Some.key k q)))
    ∙ c.tick_at.ensures.others k ne ∙ ap (λ (d : Drive). end_at d.ends k) c.self.view_is)
    c.if-ticked.true refl))

pub returns-then-ticked-clause-sent : goal.returns-then-ticked-clause-sent
returns-then-ticked-clause-sent c = λ s seat now sends.
    let d : Drive = c.args.self.now in
    let ready = ready_tick d s c.args.chair c.in-Some.key c.args.sight.now seat now sends
    (sym c.living.ensures ∙ c.in-Some.is)
    (subst (λ (d : Drive). IsTable (entries_in d.layout)) c.self.view_is c.keeps_rules.ensures.rules)
    (ap (λ (d : Drive). nat_le (2 ^ 59) d.greatest) (sym c.self.view_is) ∙ sym c.is_past.ensures ∙ c.if-is_past.false) in
    living_sends d s c.args.chair.player c.in-Some.key c.args.sight.now seat c.tick_at.new.ends.slots
    c.in_ok-ticked.ticked _ _ ready
    (λ e end past before samples shown at h. c.in_ok-ticked.ensures.ticked e end past before samples shown
    (ap (λ (d : Drive). end_at d.ends c.in-Some.key) c.self.view_is ∙ at)
    (subst (λ (x : Drive). IsGivenEnd e x.layout x.changes c.args.sight.now end past before samples shown)
    (sym c.self.view_is) h))
    refl c.if-ticked.true
