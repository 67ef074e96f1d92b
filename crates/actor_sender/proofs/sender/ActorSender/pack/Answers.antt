use Rattle.std.proofs.Common.{◌≡◌, ◌⊎◌, ◌∙◌, inr, ℕ, ◌≤◌, List, length, map, Bool, not, true, false, ap, refl, subst, sym, arith}
use Rattle.std.specs.List.{filter_map}
use Rattle.protocol_model.specs.Side.{AtServer}
use Rattle.connection_model.specs.CallAnswers.{waiting_of}
use Rattle.connection_model.specs.Feed.{End, Past}
use Rattle.connection_model.specs.Items.{call_item, due_items}
use Rattle.connection_model.specs.Pack.{Packing}
use Rattle.packing_laws.specs.Beginning.{after_offers}
use Rattle.shadow_changes.specs.Samples.{Samples}
use Rattle.bunch_packing.specs.Both.{PacksBoth}
use Rattle.sender_records.specs.declared.actor.ActorRecord.{ActorRecord}
use Rattle.turn_laws.specs.Turns.{after_turns, closed_up, turns_of}
use Rattle.sender_steps.specs.Sender.{Sender}
use Rattle.sender_steps.specs.Sights.{sight_value}
use Rattle.sender_turns.specs.declared.turns.Turn.{Turn}
use Rattle.sender_turns.specs.Calling.{IsCalling}
use Rattle.sender_turns.specs.Ticking.{InTick}
use Rattle.sender_turns.specs.Turning.{turn_entry}
use Rattle.sender_turns.proofs.Waiting.{not_true, not_false}
use Rattle.actor_sender.specs.Serving.{CanSend, InTurns, after_serving, first_packing}
use Rattle.actor_sender.proofs.Begins.{first_none}
use Rattle.actor_sender.proofs.Packs.{with_due, with_calls, due_full, due_next, calling, calls_same, calls_full, calls_next, sent, before, in_turns, few, all_served}
use Rattle.actor_sender.proofs.sender.ActorSender.pack.Goals as goal

pub offer_due-requires : goal.offer_due-requires
offer_due-requires c =
    let r = c.requires.stands in
    let given = sight_value c.args.classes.now c.args.sight.now in
    inr (r.0, AtServer, r.1, first_packing r.0 r.1 given, r.3.stands.both, refl, first_none r.0 r.1 given)

pub returns-then-not-branch-clause-stands : goal.returns-then-not-branch-clause-stands
returns-then-not-branch-clause-stands c = λ end past samples h.
    let h' : CanSend c.args.self.now c.args.link.now c.args.table.now c.args.classes.now c.args.changes.now
    c.args.sight.now end
    past samples = h in
    let given = sight_value c.args.classes.now c.args.sight.now in
    let none = first_none end past given in
    let told : c.in_ok-offer_due.field-0 ≡ not (with_due c.args.self.now c.args.link.now c.args.table.now
    c.args.classes.now c.args.changes.now
    c.args.sight.now end past samples h').full =
    c.in_ok-offer_due.ensures.room end AtServer past (first_packing end past given) h'.stands.both none in
    let packs : PacksBoth c.offer_due.new.link c.offer_due.new.table end AtServer past (with_due c.args.self.now
    c.args.link.now c.args.table.now c.args.classes.now c.args.changes.now
    c.args.sight.now end past samples h') =
    c.in_ok-offer_due.ensures.packs end AtServer past (first_packing end past given) h'.stands.both none in
    let same : c.offer_due.new.table.bound ≡ c.args.table.now.bound = c.offer_due.ensures.bound in
    let waits : c.offer_due.new.table.waiting ≡ c.args.table.now.waiting = c.offer_due.ensures.waiting in
    let full : (with_due c.args.self.now c.args.link.now c.args.table.now c.args.classes.now c.args.changes.now
    c.args.sight.now end past samples h').full ≡ true =
    not_false (with_due c.args.self.now c.args.link.now c.args.table.now c.args.classes.now c.args.changes.now
    c.args.sight.now end past samples h').full (sym told ∙ c.if-not-branch.true) in
    subst (λ (q : Packing). InTick c.args.self.now c.offer_due.new.link c.offer_due.new.table end past q samples)
    (due_full c.args.self.now c.args.link.now c.args.table.now c.args.classes.now c.args.changes.now
    c.args.sight.now end past samples h' full)
    (due_next c.args.self.now c.args.link.now c.args.table.now c.args.classes.now c.args.changes.now
    c.args.sight.now end past samples h' c.offer_due.new.link c.offer_due.new.table same waits packs)

pub offer_calls-requires : goal.offer_calls-requires
offer_calls-requires c =
    let r = c.requires.stands in
    let end : End = r.0 in
    let past : Past = r.1 in
    let samples : Samples = r.2 in
    let h = r.3 in
    let s : Sender = record {
      records = c.self.inside.records.entries;
      updates = c.self.inside.updates.items;
      pending = c.self.inside.pending.items;
      live = c.self.inside.live.items;
      known = c.self.inside.known.items;
      opens = c.self.inside.opens.items;
      ticks = c.self.inside.ticks;
      spent = c.self.inside.spent;
    } in
    let h' : CanSend s c.args.link.now c.args.table.now c.args.classes.now c.args.changes.now c.args.sight.now end
    past samples = subst (λ (x : Sender). CanSend x c.args.link.now c.args.table.now c.args.classes.now
    c.args.changes.now c.args.sight.now end past samples) (sym c.self.view_is) h in
    let given = sight_value c.args.classes.now c.args.sight.now in
    let none = first_none end past given in
    let told : c.in_ok-offer_due.field-0 ≡ not (with_due s c.args.link.now c.args.table.now c.args.classes.now
    c.args.changes.now
    c.args.sight.now end past samples h').full =
    c.in_ok-offer_due.ensures.room end AtServer past (first_packing end past given) h'.stands.both none in
    let packs : PacksBoth c.offer_due.new.link c.offer_due.new.table end AtServer past (with_due s c.args.link.now
    c.args.table.now c.args.classes.now c.args.changes.now
    c.args.sight.now end past samples h') =
    c.in_ok-offer_due.ensures.packs end AtServer past (first_packing end past given) h'.stands.both none in
    let same : c.offer_due.new.table.bound ≡ c.args.table.now.bound = c.offer_due.ensures.bound in
    let waits : c.offer_due.new.table.waiting ≡ c.args.table.now.waiting = c.offer_due.ensures.waiting in
    let room : (with_due s c.args.link.now c.args.table.now c.args.classes.now c.args.changes.now
    c.args.sight.now end past samples h').full ≡ false =
    not_true (with_due s c.args.link.now c.args.table.now c.args.classes.now c.args.changes.now
    c.args.sight.now end past samples h').full (sym told ∙ c.if-not-branch.false) in
    let call : IsCalling c.self.inside.records.entries c.offer_due.new.link c.offer_due.new.table end past
    (with_due s c.args.link.now c.args.table.now c.args.classes.now c.args.changes.now
    c.args.sight.now end past samples h') = calling s c.args.link.now c.args.table.now c.args.classes.now
    c.args.changes.now
    c.args.sight.now end past samples h' c.offer_due.new.link c.offer_due.new.table same waits packs room in (
      end,
      past,
      with_due s c.args.link.now c.args.table.now c.args.classes.now c.args.changes.now
          c.args.sight.now end past samples h',
      call,
    )

pub returns-then-not-branch-2-clause-stands : goal.returns-then-not-branch-2-clause-stands
returns-then-not-branch-2-clause-stands c = λ end past samples h.
    let h' : CanSend c.args.self.now c.args.link.now c.args.table.now c.args.classes.now c.args.changes.now
    c.args.sight.now end
    past samples = h in
    let given = sight_value c.args.classes.now c.args.sight.now in
    let none = first_none end past given in
    let told : c.in_ok-offer_due.field-0 ≡ not (with_due c.args.self.now c.args.link.now c.args.table.now
    c.args.classes.now c.args.changes.now
    c.args.sight.now end past samples h').full =
    c.in_ok-offer_due.ensures.room end AtServer past (first_packing end past given) h'.stands.both none in
    let packs : PacksBoth c.offer_due.new.link c.offer_due.new.table end AtServer past (with_due c.args.self.now
    c.args.link.now c.args.table.now c.args.classes.now c.args.changes.now
    c.args.sight.now end past samples h') =
    c.in_ok-offer_due.ensures.packs end AtServer past (first_packing end past given) h'.stands.both none in
    let same : c.offer_due.new.table.bound ≡ c.args.table.now.bound = c.offer_due.ensures.bound in
    let waits : c.offer_due.new.table.waiting ≡ c.args.table.now.waiting = c.offer_due.ensures.waiting in
    let room : (with_due c.args.self.now c.args.link.now c.args.table.now c.args.classes.now c.args.changes.now
    c.args.sight.now end past samples h').full ≡ false =
    not_true (with_due c.args.self.now c.args.link.now c.args.table.now c.args.classes.now c.args.changes.now
    c.args.sight.now end past samples h').full (sym told ∙ c.if-not-branch.false) in
    let call : IsCalling c.self.inside.records.entries c.offer_due.new.link c.offer_due.new.table end past
    (with_due c.args.self.now c.args.link.now c.args.table.now c.args.classes.now c.args.changes.now
    c.args.sight.now end past samples h') = subst (λ (rs : List (ℕ × ActorRecord)). IsCalling rs c.offer_due.new.link
    c.offer_due.new.table end past
    (with_due c.args.self.now c.args.link.now c.args.table.now c.args.classes.now c.args.changes.now
    c.args.sight.now end past samples h')) (sym (ap (λ (x : Sender). x.records) c.self.view_is))
    (calling c.args.self.now c.args.link.now c.args.table.now c.args.classes.now c.args.changes.now
    c.args.sight.now end past samples h' c.offer_due.new.link c.offer_due.new.table same waits packs room) in
    let is : after_offers end (with_due c.args.self.now c.args.link.now c.args.table.now c.args.classes.now
    c.args.changes.now
    c.args.sight.now end past samples h') (filter_map (call_item AtServer (with_due c.args.self.now c.args.link.now
    c.args.table.now c.args.classes.now c.args.changes.now
    c.args.sight.now end past samples h').past) (waiting_of past))
    ≡ with_calls c.args.self.now c.args.link.now c.args.table.now c.args.classes.now c.args.changes.now
    c.args.sight.now end past samples h' = calls_same c.args.self.now c.args.link.now c.args.table.now
    c.args.classes.now c.args.changes.now
    c.args.sight.now end past samples h' c.offer_due.new.link c.offer_due.new.table same waits packs in
    let told' : c.in_ok-offer_calls.field-0 ≡ not (with_calls c.args.self.now c.args.link.now c.args.table.now
    c.args.classes.now c.args.changes.now
    c.args.sight.now end past samples h').full =
    c.in_ok-offer_calls.ensures.room end past (with_due c.args.self.now c.args.link.now c.args.table.now
    c.args.classes.now c.args.changes.now
    c.args.sight.now end past samples h') call ∙ ap (λ (q : Packing). not q.full) is in
    let packs' : PacksBoth c.offer_calls.new.link c.offer_due.new.table end AtServer past (with_calls c.args.self.now
    c.args.link.now c.args.table.now c.args.classes.now c.args.changes.now
    c.args.sight.now end past samples h') =
    subst (PacksBoth c.offer_calls.new.link c.offer_due.new.table end AtServer past) is
    (c.in_ok-offer_calls.ensures.packs end past (with_due c.args.self.now c.args.link.now c.args.table.now
    c.args.classes.now c.args.changes.now
    c.args.sight.now end past samples h') call) in
    let full : (with_calls c.args.self.now c.args.link.now c.args.table.now c.args.classes.now c.args.changes.now
    c.args.sight.now end past samples h').full ≡ true =
    not_false (with_calls c.args.self.now c.args.link.now c.args.table.now c.args.classes.now c.args.changes.now
    c.args.sight.now end past samples h').full (sym told' ∙ c.if-not-branch-2.true) in
    subst (λ (q : Packing). InTick c.args.self.now c.offer_calls.new.link c.offer_due.new.table end past q samples)
    (calls_full c.args.self.now c.args.link.now c.args.table.now c.args.classes.now c.args.changes.now
    c.args.sight.now end past samples h' full)
    (calls_next c.args.self.now c.args.link.now c.args.table.now c.args.classes.now c.args.changes.now
    c.args.sight.now end past samples h' c.offer_due.new.link c.offer_due.new.table same waits packs
    c.offer_calls.new.link packs')

pub serve_all-requires-clause-stands : goal.serve_all-requires-clause-stands
serve_all-requires-clause-stands c =
    let r = c.requires.stands in
    let end : End = r.0 in
    let past : Past = r.1 in
    let samples : Samples = r.2 in
    let h = r.3 in
    let s : Sender = record {
      records = c.self.inside.records.entries;
      updates = c.self.inside.updates.items;
      pending = c.self.inside.pending.items;
      live = c.self.inside.live.items;
      known = c.self.inside.known.items;
      opens = c.self.inside.opens.items;
      ticks = c.self.inside.ticks;
      spent = c.self.inside.spent;
    } in
    let h' : CanSend s c.args.link.now c.args.table.now c.args.classes.now c.args.changes.now c.args.sight.now end
    past samples = subst (λ (x : Sender). CanSend x c.args.link.now c.args.table.now c.args.classes.now
    c.args.changes.now c.args.sight.now end past samples) (sym c.self.view_is) h in
    let given = sight_value c.args.classes.now c.args.sight.now in
    let none = first_none end past given in
    let told : c.in_ok-offer_due.field-0 ≡ not (with_due s c.args.link.now c.args.table.now c.args.classes.now
    c.args.changes.now
    c.args.sight.now end past samples h').full =
    c.in_ok-offer_due.ensures.room end AtServer past (first_packing end past given) h'.stands.both none in
    let packs : PacksBoth c.offer_due.new.link c.offer_due.new.table end AtServer past (with_due s c.args.link.now
    c.args.table.now c.args.classes.now c.args.changes.now
    c.args.sight.now end past samples h') =
    c.in_ok-offer_due.ensures.packs end AtServer past (first_packing end past given) h'.stands.both none in
    let same : c.offer_due.new.table.bound ≡ c.args.table.now.bound = c.offer_due.ensures.bound in
    let waits : c.offer_due.new.table.waiting ≡ c.args.table.now.waiting = c.offer_due.ensures.waiting in
    let room : (with_due s c.args.link.now c.args.table.now c.args.classes.now c.args.changes.now
    c.args.sight.now end past samples h').full ≡ false =
    not_true (with_due s c.args.link.now c.args.table.now c.args.classes.now c.args.changes.now
    c.args.sight.now end past samples h').full (sym told ∙ c.if-not-branch.false) in
    let call : IsCalling c.self.inside.records.entries c.offer_due.new.link c.offer_due.new.table end past
    (with_due s c.args.link.now c.args.table.now c.args.classes.now c.args.changes.now
    c.args.sight.now end past samples h') = calling s c.args.link.now c.args.table.now c.args.classes.now
    c.args.changes.now
    c.args.sight.now end past samples h' c.offer_due.new.link c.offer_due.new.table same waits packs room in
    let is : after_offers end (with_due s c.args.link.now c.args.table.now c.args.classes.now c.args.changes.now
    c.args.sight.now end past samples h') (filter_map (call_item AtServer (with_due s c.args.link.now
    c.args.table.now c.args.classes.now c.args.changes.now
    c.args.sight.now end past samples h').past) (waiting_of past))
    ≡ with_calls s c.args.link.now c.args.table.now c.args.classes.now c.args.changes.now
    c.args.sight.now end past samples h' = calls_same s c.args.link.now c.args.table.now c.args.classes.now
    c.args.changes.now
    c.args.sight.now end past samples h' c.offer_due.new.link c.offer_due.new.table same waits packs in
    let told' : c.in_ok-offer_calls.field-0 ≡ not (with_calls s c.args.link.now c.args.table.now c.args.classes.now
    c.args.changes.now
    c.args.sight.now end past samples h').full =
    c.in_ok-offer_calls.ensures.room end past (with_due s c.args.link.now c.args.table.now c.args.classes.now
    c.args.changes.now
    c.args.sight.now end past samples h') call ∙ ap (λ (q : Packing). not q.full) is in
    let packs' : PacksBoth c.offer_calls.new.link c.offer_due.new.table end AtServer past (with_calls s
    c.args.link.now c.args.table.now c.args.classes.now c.args.changes.now
    c.args.sight.now end past samples h') =
    subst (PacksBoth c.offer_calls.new.link c.offer_due.new.table end AtServer past) is
    (c.in_ok-offer_calls.ensures.packs end past (with_due s c.args.link.now c.args.table.now c.args.classes.now
    c.args.changes.now
    c.args.sight.now end past samples h') call) in
    let now : Past = closed_up past given in
    let room' : (with_calls s c.args.link.now c.args.table.now c.args.classes.now c.args.changes.now
    c.args.sight.now end past samples h').full ≡ false =
    not_true (with_calls s c.args.link.now c.args.table.now c.args.classes.now c.args.changes.now
    c.args.sight.now end past samples h').full (sym told' ∙ c.if-not-branch-2.false) in
    let was = before s c.args.link.now c.args.table.now c.args.classes.now c.args.changes.now
    c.args.sight.now end past samples h' c.offer_due.new.link c.offer_due.new.table same waits packs
    c.offer_calls.new.link packs' in
    let behind : Past = sent s c.args.link.now c.args.table.now c.args.classes.now c.args.changes.now
    c.args.sight.now end past samples h' c.offer_due.new.link c.offer_due.new.table same waits packs
    c.offer_calls.new.link packs' in
    let items : List Turn = c.in_ok-turns.turns.items in
    let are : map (turn_entry c.args.classes.now c.args.sight.now) items ≡ turns_of now =
    c.in_ok-turns.ensures.turns behind now samples was in
    let turned = in_turns s c.args.link.now c.args.table.now c.args.classes.now c.args.changes.now
    c.args.sight.now end past samples h' c.offer_due.new.link c.offer_due.new.table same waits packs
    c.offer_calls.new.link packs' c.find_turns.new.records.entries items room'
    c.in_ok-turns.ensures.life c.in_ok-turns.ensures.service
    (c.in_ok-turns.ensures.packets behind now samples was) (c.in_ok-turns.ensures.keeps behind now samples was)
    (c.in_ok-turns.ensures.compared behind now samples was) are (c.in_ok-turns.ensures.each behind now samples was) in
    let turned' : InTurns c.args.classes.now c.args.changes.now c.args.sight.now
    (record s { records = c.find_turns.new.records.entries }) c.offer_calls.new.link c.offer_due.new.table end past
    now
    (with_calls s c.args.link.now c.args.table.now c.args.classes.now c.args.changes.now
    c.args.sight.now end past samples h') samples c.as_slice.result.now =
    subst (λ (ts : List Turn). InTurns c.args.classes.now c.args.changes.now c.args.sight.now
    (record s { records = c.find_turns.new.records.entries }) c.offer_calls.new.link c.offer_due.new.table end past
    now
    (with_calls s c.args.link.now c.args.table.now c.args.classes.now c.args.changes.now
    c.args.sight.now end past samples h') samples ts) (sym c.as_slice.ensures.value) turned in (
      end,
      past,
      now,
      with_calls s c.args.link.now c.args.table.now c.args.classes.now c.args.changes.now
          c.args.sight.now end past samples h',
      samples,
      turned',
    )

pub serve_all-requires-clause-few : goal.serve_all-requires-clause-few
serve_all-requires-clause-few c =
    let r = c.requires.stands in
    let end : End = r.0 in
    let past : Past = r.1 in
    let samples : Samples = r.2 in
    let h = r.3 in
    let s : Sender = record {
      records = c.self.inside.records.entries;
      updates = c.self.inside.updates.items;
      pending = c.self.inside.pending.items;
      live = c.self.inside.live.items;
      known = c.self.inside.known.items;
      opens = c.self.inside.opens.items;
      ticks = c.self.inside.ticks;
      spent = c.self.inside.spent;
    } in
    let h' : CanSend s c.args.link.now c.args.table.now c.args.classes.now c.args.changes.now c.args.sight.now end
    past samples = subst (λ (x : Sender). CanSend x c.args.link.now c.args.table.now c.args.classes.now
    c.args.changes.now c.args.sight.now end past samples) (sym c.self.view_is) h in
    let given = sight_value c.args.classes.now c.args.sight.now in
    let none = first_none end past given in
    let told : c.in_ok-offer_due.field-0 ≡ not (with_due s c.args.link.now c.args.table.now c.args.classes.now
    c.args.changes.now
    c.args.sight.now end past samples h').full =
    c.in_ok-offer_due.ensures.room end AtServer past (first_packing end past given) h'.stands.both none in
    let packs : PacksBoth c.offer_due.new.link c.offer_due.new.table end AtServer past (with_due s c.args.link.now
    c.args.table.now c.args.classes.now c.args.changes.now
    c.args.sight.now end past samples h') =
    c.in_ok-offer_due.ensures.packs end AtServer past (first_packing end past given) h'.stands.both none in
    let same : c.offer_due.new.table.bound ≡ c.args.table.now.bound = c.offer_due.ensures.bound in
    let waits : c.offer_due.new.table.waiting ≡ c.args.table.now.waiting = c.offer_due.ensures.waiting in
    let room : (with_due s c.args.link.now c.args.table.now c.args.classes.now c.args.changes.now
    c.args.sight.now end past samples h').full ≡ false =
    not_true (with_due s c.args.link.now c.args.table.now c.args.classes.now c.args.changes.now
    c.args.sight.now end past samples h').full (sym told ∙ c.if-not-branch.false) in
    let call : IsCalling c.self.inside.records.entries c.offer_due.new.link c.offer_due.new.table end past
    (with_due s c.args.link.now c.args.table.now c.args.classes.now c.args.changes.now
    c.args.sight.now end past samples h') = calling s c.args.link.now c.args.table.now c.args.classes.now
    c.args.changes.now
    c.args.sight.now end past samples h' c.offer_due.new.link c.offer_due.new.table same waits packs room in
    let is : after_offers end (with_due s c.args.link.now c.args.table.now c.args.classes.now c.args.changes.now
    c.args.sight.now end past samples h') (filter_map (call_item AtServer (with_due s c.args.link.now
    c.args.table.now c.args.classes.now c.args.changes.now
    c.args.sight.now end past samples h').past) (waiting_of past))
    ≡ with_calls s c.args.link.now c.args.table.now c.args.classes.now c.args.changes.now
    c.args.sight.now end past samples h' = calls_same s c.args.link.now c.args.table.now c.args.classes.now
    c.args.changes.now
    c.args.sight.now end past samples h' c.offer_due.new.link c.offer_due.new.table same waits packs in
    let told' : c.in_ok-offer_calls.field-0 ≡ not (with_calls s c.args.link.now c.args.table.now c.args.classes.now
    c.args.changes.now
    c.args.sight.now end past samples h').full =
    c.in_ok-offer_calls.ensures.room end past (with_due s c.args.link.now c.args.table.now c.args.classes.now
    c.args.changes.now
    c.args.sight.now end past samples h') call ∙ ap (λ (q : Packing). not q.full) is in
    let packs' : PacksBoth c.offer_calls.new.link c.offer_due.new.table end AtServer past (with_calls s
    c.args.link.now c.args.table.now c.args.classes.now c.args.changes.now
    c.args.sight.now end past samples h') =
    subst (PacksBoth c.offer_calls.new.link c.offer_due.new.table end AtServer past) is
    (c.in_ok-offer_calls.ensures.packs end past (with_due s c.args.link.now c.args.table.now c.args.classes.now
    c.args.changes.now
    c.args.sight.now end past samples h') call) in
    let now : Past = closed_up past given in
    let room' : (with_calls s c.args.link.now c.args.table.now c.args.classes.now c.args.changes.now
    c.args.sight.now end past samples h').full ≡ false =
    not_true (with_calls s c.args.link.now c.args.table.now c.args.classes.now c.args.changes.now
    c.args.sight.now end past samples h').full (sym told' ∙ c.if-not-branch-2.false) in
    let was = before s c.args.link.now c.args.table.now c.args.classes.now c.args.changes.now
    c.args.sight.now end past samples h' c.offer_due.new.link c.offer_due.new.table same waits packs
    c.offer_calls.new.link packs' in
    let behind : Past = sent s c.args.link.now c.args.table.now c.args.classes.now c.args.changes.now
    c.args.sight.now end past samples h' c.offer_due.new.link c.offer_due.new.table same waits packs
    c.offer_calls.new.link packs' in
    let items : List Turn = c.in_ok-turns.turns.items in
    let are : map (turn_entry c.args.classes.now c.args.sight.now) items ≡ turns_of now =
    c.in_ok-turns.ensures.turns behind now samples was in
    let short : length items ≤ length c.args.sight.now = few s c.args.link.now c.args.table.now c.args.classes.now
    c.args.changes.now
    c.args.sight.now end past samples h' c.offer_due.new.link c.offer_due.new.table same waits packs
    c.offer_calls.new.link packs' items are in
    omega (arith, short, c.requires.few, ap length c.as_slice.ensures.value, c.offer_due.ensures.count)

pub returns-clause-stands : goal.returns-clause-stands
returns-clause-stands c = λ end past samples h.
    let s : Sender = record {
      records = c.self.inside.records.entries;
      updates = c.self.inside.updates.items;
      pending = c.self.inside.pending.items;
      live = c.self.inside.live.items;
      known = c.self.inside.known.items;
      opens = c.self.inside.opens.items;
      ticks = c.self.inside.ticks;
      spent = c.self.inside.spent;
    } in
    let h' : CanSend s c.args.link.now c.args.table.now c.args.classes.now c.args.changes.now c.args.sight.now end
    past samples = subst (λ (x : Sender). CanSend x c.args.link.now c.args.table.now c.args.classes.now
    c.args.changes.now c.args.sight.now end past samples) (sym c.self.view_is) h in
    let given = sight_value c.args.classes.now c.args.sight.now in
    let none = first_none end past given in
    let told : c.in_ok-offer_due.field-0 ≡ not (with_due s c.args.link.now c.args.table.now c.args.classes.now
    c.args.changes.now
    c.args.sight.now end past samples h').full =
    c.in_ok-offer_due.ensures.room end AtServer past (first_packing end past given) h'.stands.both none in
    let packs : PacksBoth c.offer_due.new.link c.offer_due.new.table end AtServer past (with_due s c.args.link.now
    c.args.table.now c.args.classes.now c.args.changes.now
    c.args.sight.now end past samples h') =
    c.in_ok-offer_due.ensures.packs end AtServer past (first_packing end past given) h'.stands.both none in
    let same : c.offer_due.new.table.bound ≡ c.args.table.now.bound = c.offer_due.ensures.bound in
    let waits : c.offer_due.new.table.waiting ≡ c.args.table.now.waiting = c.offer_due.ensures.waiting in
    let room : (with_due s c.args.link.now c.args.table.now c.args.classes.now c.args.changes.now
    c.args.sight.now end past samples h').full ≡ false =
    not_true (with_due s c.args.link.now c.args.table.now c.args.classes.now c.args.changes.now
    c.args.sight.now end past samples h').full (sym told ∙ c.if-not-branch.false) in
    let call : IsCalling c.self.inside.records.entries c.offer_due.new.link c.offer_due.new.table end past
    (with_due s c.args.link.now c.args.table.now c.args.classes.now c.args.changes.now
    c.args.sight.now end past samples h') = calling s c.args.link.now c.args.table.now c.args.classes.now
    c.args.changes.now
    c.args.sight.now end past samples h' c.offer_due.new.link c.offer_due.new.table same waits packs room in
    let is : after_offers end (with_due s c.args.link.now c.args.table.now c.args.classes.now c.args.changes.now
    c.args.sight.now end past samples h') (filter_map (call_item AtServer (with_due s c.args.link.now
    c.args.table.now c.args.classes.now c.args.changes.now
    c.args.sight.now end past samples h').past) (waiting_of past))
    ≡ with_calls s c.args.link.now c.args.table.now c.args.classes.now c.args.changes.now
    c.args.sight.now end past samples h' = calls_same s c.args.link.now c.args.table.now c.args.classes.now
    c.args.changes.now
    c.args.sight.now end past samples h' c.offer_due.new.link c.offer_due.new.table same waits packs in
    let told' : c.in_ok-offer_calls.field-0 ≡ not (with_calls s c.args.link.now c.args.table.now c.args.classes.now
    c.args.changes.now
    c.args.sight.now end past samples h').full =
    c.in_ok-offer_calls.ensures.room end past (with_due s c.args.link.now c.args.table.now c.args.classes.now
    c.args.changes.now
    c.args.sight.now end past samples h') call ∙ ap (λ (q : Packing). not q.full) is in
    let packs' : PacksBoth c.offer_calls.new.link c.offer_due.new.table end AtServer past (with_calls s
    c.args.link.now c.args.table.now c.args.classes.now c.args.changes.now
    c.args.sight.now end past samples h') =
    subst (PacksBoth c.offer_calls.new.link c.offer_due.new.table end AtServer past) is
    (c.in_ok-offer_calls.ensures.packs end past (with_due s c.args.link.now c.args.table.now c.args.classes.now
    c.args.changes.now
    c.args.sight.now end past samples h') call) in
    let now : Past = closed_up past given in
    let room' : (with_calls s c.args.link.now c.args.table.now c.args.classes.now c.args.changes.now
    c.args.sight.now end past samples h').full ≡ false =
    not_true (with_calls s c.args.link.now c.args.table.now c.args.classes.now c.args.changes.now
    c.args.sight.now end past samples h').full (sym told' ∙ c.if-not-branch-2.false) in
    let was = before s c.args.link.now c.args.table.now c.args.classes.now c.args.changes.now
    c.args.sight.now end past samples h' c.offer_due.new.link c.offer_due.new.table same waits packs
    c.offer_calls.new.link packs' in
    let behind : Past = sent s c.args.link.now c.args.table.now c.args.classes.now c.args.changes.now
    c.args.sight.now end past samples h' c.offer_due.new.link c.offer_due.new.table same waits packs
    c.offer_calls.new.link packs' in
    let items : List Turn = c.in_ok-turns.turns.items in
    let are : map (turn_entry c.args.classes.now c.args.sight.now) items ≡ turns_of now =
    c.in_ok-turns.ensures.turns behind now samples was in
    let turned = in_turns s c.args.link.now c.args.table.now c.args.classes.now c.args.changes.now
    c.args.sight.now end past samples h' c.offer_due.new.link c.offer_due.new.table same waits packs
    c.offer_calls.new.link packs' c.find_turns.new.records.entries items room'
    c.in_ok-turns.ensures.life c.in_ok-turns.ensures.service
    (c.in_ok-turns.ensures.packets behind now samples was) (c.in_ok-turns.ensures.keeps behind now samples was)
    (c.in_ok-turns.ensures.compared behind now samples was) are (c.in_ok-turns.ensures.each behind now samples was) in
    let turned' : InTurns c.args.classes.now c.args.changes.now c.args.sight.now
    (record s { records = c.find_turns.new.records.entries }) c.offer_calls.new.link c.offer_due.new.table end past
    now
    (with_calls s c.args.link.now c.args.table.now c.args.classes.now c.args.changes.now
    c.args.sight.now end past samples h') samples c.as_slice.result.now =
    subst (λ (ts : List Turn). InTurns c.args.classes.now c.args.changes.now c.args.sight.now
    (record s { records = c.find_turns.new.records.entries }) c.offer_calls.new.link c.offer_due.new.table end past
    now
    (with_calls s c.args.link.now c.args.table.now c.args.classes.now c.args.changes.now
    c.args.sight.now end past samples h') samples ts) (sym c.as_slice.ensures.value) turned in
    subst (λ (q : Packing). InTick c.serve_all.new.self c.serve_all.new.link c.serve_all.new.table end past q samples)
    (ap (λ (ts : List Turn). after_turns end now (with_calls s c.args.link.now c.args.table.now c.args.classes.now
    c.args.changes.now
    c.args.sight.now end past samples h')
    (map (turn_entry c.args.classes.now c.args.sight.now) ts)) c.as_slice.ensures.value
    ∙ all_served s c.args.link.now c.args.table.now c.args.classes.now c.args.changes.now
    c.args.sight.now end past samples h' c.offer_due.new.link c.offer_due.new.table same waits packs
    c.offer_calls.new.link packs' items are)
    (c.in_ok-serve_all.ensures.stands end past now (with_calls s c.args.link.now c.args.table.now c.args.classes.now
    c.args.changes.now
    c.args.sight.now end past samples h') samples turned')

pub returns-clause-count : goal.returns-clause-count
returns-clause-count c =
    let r = c.requires.stands in
    let end : End = r.0 in
    let past : Past = r.1 in
    let samples : Samples = r.2 in
    let h = r.3 in
    let s : Sender = record {
      records = c.self.inside.records.entries;
      updates = c.self.inside.updates.items;
      pending = c.self.inside.pending.items;
      live = c.self.inside.live.items;
      known = c.self.inside.known.items;
      opens = c.self.inside.opens.items;
      ticks = c.self.inside.ticks;
      spent = c.self.inside.spent;
    } in
    let h' : CanSend s c.args.link.now c.args.table.now c.args.classes.now c.args.changes.now c.args.sight.now end
    past samples = subst (λ (x : Sender). CanSend x c.args.link.now c.args.table.now c.args.classes.now
    c.args.changes.now c.args.sight.now end past samples) (sym c.self.view_is) h in
    let given = sight_value c.args.classes.now c.args.sight.now in
    let none = first_none end past given in
    let told : c.in_ok-offer_due.field-0 ≡ not (with_due s c.args.link.now c.args.table.now c.args.classes.now
    c.args.changes.now
    c.args.sight.now end past samples h').full =
    c.in_ok-offer_due.ensures.room end AtServer past (first_packing end past given) h'.stands.both none in
    let packs : PacksBoth c.offer_due.new.link c.offer_due.new.table end AtServer past (with_due s c.args.link.now
    c.args.table.now c.args.classes.now c.args.changes.now
    c.args.sight.now end past samples h') =
    c.in_ok-offer_due.ensures.packs end AtServer past (first_packing end past given) h'.stands.both none in
    let same : c.offer_due.new.table.bound ≡ c.args.table.now.bound = c.offer_due.ensures.bound in
    let waits : c.offer_due.new.table.waiting ≡ c.args.table.now.waiting = c.offer_due.ensures.waiting in
    let room : (with_due s c.args.link.now c.args.table.now c.args.classes.now c.args.changes.now
    c.args.sight.now end past samples h').full ≡ false =
    not_true (with_due s c.args.link.now c.args.table.now c.args.classes.now c.args.changes.now
    c.args.sight.now end past samples h').full (sym told ∙ c.if-not-branch.false) in
    let call : IsCalling c.self.inside.records.entries c.offer_due.new.link c.offer_due.new.table end past
    (with_due s c.args.link.now c.args.table.now c.args.classes.now c.args.changes.now
    c.args.sight.now end past samples h') = calling s c.args.link.now c.args.table.now c.args.classes.now
    c.args.changes.now
    c.args.sight.now end past samples h' c.offer_due.new.link c.offer_due.new.table same waits packs room in
    let is : after_offers end (with_due s c.args.link.now c.args.table.now c.args.classes.now c.args.changes.now
    c.args.sight.now end past samples h') (filter_map (call_item AtServer (with_due s c.args.link.now
    c.args.table.now c.args.classes.now c.args.changes.now
    c.args.sight.now end past samples h').past) (waiting_of past))
    ≡ with_calls s c.args.link.now c.args.table.now c.args.classes.now c.args.changes.now
    c.args.sight.now end past samples h' = calls_same s c.args.link.now c.args.table.now c.args.classes.now
    c.args.changes.now
    c.args.sight.now end past samples h' c.offer_due.new.link c.offer_due.new.table same waits packs in
    let told' : c.in_ok-offer_calls.field-0 ≡ not (with_calls s c.args.link.now c.args.table.now c.args.classes.now
    c.args.changes.now
    c.args.sight.now end past samples h').full =
    c.in_ok-offer_calls.ensures.room end past (with_due s c.args.link.now c.args.table.now c.args.classes.now
    c.args.changes.now
    c.args.sight.now end past samples h') call ∙ ap (λ (q : Packing). not q.full) is in
    let packs' : PacksBoth c.offer_calls.new.link c.offer_due.new.table end AtServer past (with_calls s
    c.args.link.now c.args.table.now c.args.classes.now c.args.changes.now
    c.args.sight.now end past samples h') =
    subst (PacksBoth c.offer_calls.new.link c.offer_due.new.table end AtServer past) is
    (c.in_ok-offer_calls.ensures.packs end past (with_due s c.args.link.now c.args.table.now c.args.classes.now
    c.args.changes.now
    c.args.sight.now end past samples h') call) in
    let now : Past = closed_up past given in
    let room' : (with_calls s c.args.link.now c.args.table.now c.args.classes.now c.args.changes.now
    c.args.sight.now end past samples h').full ≡ false =
    not_true (with_calls s c.args.link.now c.args.table.now c.args.classes.now c.args.changes.now
    c.args.sight.now end past samples h').full (sym told' ∙ c.if-not-branch-2.false) in
    let was = before s c.args.link.now c.args.table.now c.args.classes.now c.args.changes.now
    c.args.sight.now end past samples h' c.offer_due.new.link c.offer_due.new.table same waits packs
    c.offer_calls.new.link packs' in
    let behind : Past = sent s c.args.link.now c.args.table.now c.args.classes.now c.args.changes.now
    c.args.sight.now end past samples h' c.offer_due.new.link c.offer_due.new.table same waits packs
    c.offer_calls.new.link packs' in
    let items : List Turn = c.in_ok-turns.turns.items in
    let are : map (turn_entry c.args.classes.now c.args.sight.now) items ≡ turns_of now =
    c.in_ok-turns.ensures.turns behind now samples was in
    let short : length items ≤ length c.args.sight.now = few s c.args.link.now c.args.table.now c.args.classes.now
    c.args.changes.now
    c.args.sight.now end past samples h' c.offer_due.new.link c.offer_due.new.table same waits packs
    c.offer_calls.new.link packs' items are in
    omega (
      arith,
      short,
      ap length c.as_slice.ensures.value,
      c.offer_due.ensures.count,
      c.in_ok-serve_all.ensures.count,
    )
