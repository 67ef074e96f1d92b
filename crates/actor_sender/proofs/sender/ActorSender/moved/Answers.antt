use Rattle.std.proofs.Common.{rules, arith, ◌≡◌, ◌≢◌, ◌⊎◌, ◌≤◌, ℕ, List, [], Some, sym, subst}
use Rattle.std.specs.List.{slice_get}
use Rattle.std.proofs.lemmas.Grind.{common_steps}
use Rattle.change_model.specs.Changes.{Sample}
use Rattle.connection_model.specs.Feed.{Past}
use Rattle.sender_laws.specs.Acts.{MovesTo}
use Rattle.sender_records.specs.Handles.{KeepsHandles}
use Rattle.sender_steps.specs.declared.sent.UpdateSent.{UpdateSent}
use Rattle.sender_steps.specs.Hearing.{Hearing, IsGrown}
use Rattle.protocol_model.specs.Side.{AtServer}
use Rattle.sender_steps.specs.Sender.{Sender, record_in}
use Rattle.sender_steps.specs.Stands.{StandsBoth}
use Rattle.sender_steps.proofs.Moving.{MovesAll, both_later}
use Rattle.actor_sender.proofs.sender.ActorSender.moved.Goals as goal

pub returns-clause-stands : goal.returns-clause-stands
returns-clause-stands c = λ past after samples both is.
    let s : Sender = record {
      records = c.self.inside.records.entries;
      updates = c.self.inside.updates.items;
      pending = c.self.inside.pending.items;
      live = c.self.inside.live.items;
      known = c.self.inside.known.items;
      opens = c.self.inside.opens.items;
      ticks = c.self.inside.ticks;
      spent = c.self.inside.spent;
    } in
    let updates_are : c.as_slice.result.now ≡ c.self.inside.updates.items =
    first_of (search rules, grind (arith, common_steps)) in
    let pending_are : c.as_slice-2.result.now ≡ c.self.inside.pending.items =
    first_of (search rules, grind (arith, common_steps)) in
    let all : MovesAll c.args.m.from c.args.m.to s c.tell_updates.new.records.entries c.hear_all.new.records.entries
    c.args.table.now c.moved.new.self c.hear_all.new.table = record {
      life = c.tell_updates.ensures.life;
      service = c.tell_updates.ensures.service;
      tells = subst
          (λ (us : List UpdateSent). (past later : Past) (samples : List Sample) (a : ℕ)
          → MovesTo c.args.m.from c.args.m.to past later
          → KeepsHandles past samples a (record_in c.self.inside.records.entries a).handles
          → KeepsHandles later samples a (record_in c.tell_updates.new.records.entries a).handles
          ⊎ ((record_in c.tell_updates.new.records.entries a ≡ record_in c.self.inside.records.entries a)
          × ((i : ℕ) (u : UpdateSent) → slice_get us i ≡ Some u → u.packet ≤ c.args.m.to → u.actor ≢ a))) updates_are
          c.tell_updates.ensures.told;
      packets = c.tell_updates.ensures.packets;
      services = c.hear_all.ensures.service;
      handles = c.hear_all.ensures.handles;
      same_open = c.hear_all.ensures.same_open;
      waits = c.hear_all.ensures.waiting;
      hears = subst
          (λ (left : List ℕ). (past later : Past) → IsGrown past later
          → Hearing past later left c.tell_updates.new.records.entries c.moved.new.self
          → Hearing past later [] c.hear_all.new.records.entries c.hear_all.new.table) pending_are
          c.hear_all.ensures.hears;
      keeps = λ before later k m. c.moved.ensures.keeps AtServer before later k m;
      bound = c.moved.ensures.bound;
      waiting = c.moved.ensures.waiting;
    } in
    subst (λ (us : List UpdateSent). StandsBoth (record s { records = c.hear_all.new.records.entries; updates = us })
    c.hear_all.new.table after samples) (sym c.drop_known.ensures)
    (both_later c.args.m.from c.args.m.to s c.tell_updates.new.records.entries c.hear_all.new.records.entries
    c.args.table.now c.moved.new.self c.hear_all.new.table all
    past after samples (subst (λ (x : Sender). StandsBoth x c.args.table.now past samples) (sym c.self.view_is) both)
    is)
