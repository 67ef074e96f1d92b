use Rattle.std.proofs.Common.{◌≡◌, ◌≤◌, ◌+◌, ℕ, List, true, false, not, refl, sym, ap, subst, ◌∙◌, arith, slice_get}
use Rattle.protocol_model.specs.Limits.{waiting_limit}
use Rattle.protocol_model.specs.Side.{AtServer}
use Rattle.connection_model.specs.CallAnswers.{waiting_of}
use Rattle.connection_model.specs.Feed.{End, Past}
use Rattle.connection_model.specs.Pack.{Packing}
use Rattle.packing_laws.specs.Beginning.{after_offers}
use Rattle.channel_table.specs.Channels.{WaitingCall}
use Rattle.channel_table.specs.Calls.{waiting_value}
use Rattle.bunch_packing.specs.Both.{PacksBoth}
use Rattle.sender_turns.specs.Calling.{IsCalling}
use Rattle.sender_turns.proofs.Waiting.{Calling, calling_first, calling_on, calling_full, calling_done, call_low, next_of, channel_of, past_last, all_offered, items_of, not_true, not_false}
use Rattle.sender_turns.proofs.calls.offer_calls.Goals as goal

pub loop-place-init : goal.loop-place-init
loop-place-init c =
    let r = c.requires in record {
      own = (
        r.0,
        r.1,
        r.2,
        r.3,
        calling_first c.args.link.now c.args.table.now r.0 r.1 r.2 r.3.both r.3.is_ready,
      );
      calling = λ end before p h. calling_first c.args.link.now c.args.table.now end before p h.both h.is_ready;
    }

pub returns-in_default-clause-room : goal.returns-in_default-clause-room
returns-in_default-clause-room c = λ end before p h.
    let g = c.loop-place.invariant.calling end before p h in
    let done = calling_done c.loop-place.link c.args.table.now end before p c.loop-place.place g
    (past_last (waiting_of before) c.loop-place.place
    (c.in_default.ensures ∙ ap (λ (ws : List WaitingCall). slice_get ws c.loop-place.place) h.waiting)) in
    ap not (sym (ap (λ (q : Packing). q.full) (sym done) ∙ g.is_ready))

pub returns-in_default-clause-packs : goal.returns-in_default-clause-packs
returns-in_default-clause-packs c = λ end before p h.
    let g = c.loop-place.invariant.calling end before p h in
    let done = calling_done c.loop-place.link c.args.table.now end before p c.loop-place.place g
    (past_last (waiting_of before) c.loop-place.place
    (c.in_default.ensures ∙ ap (λ (ws : List WaitingCall). slice_get ws c.loop-place.place) h.waiting)) in
    subst (PacksBoth c.loop-place.link c.args.table.now end AtServer before) done g.both

pub offer_call-requires-clause-begun : goal.offer_call-requires-clause-begun
offer_call-requires-clause-begun c =
    let r = c.loop-place.invariant.own in (
      c.args.table.now,
      r.0,
      r.1,
      r.4.p,
      r.4.both,
      r.4.is_ready,
      λ ch e. call_low c.args.records.now.entries c.args.link.now c.args.table.now r.0 r.1 r.2 c.in-Some.call.actor ch
          r.3 e,
    )

pub offer_call-requires-clause-most : goal.offer_call-requires-clause-most
offer_call-requires-clause-most c =
    c.loop-place.invariant.own.3.may.short c.loop-place.place (waiting_value c.in-Some.call) (sym c.in-Some.ensures)

pub returns-then-not-branch-clause-room : goal.returns-then-not-branch-clause-room
returns-then-not-branch-clause-room c = λ end before p h.
    let g = c.loop-place.invariant.calling end before p h in
    let call = waiting_value c.in-Some.call in
    let n = next_of c.args.records.now.entries c.args.link.now c.loop-place.link c.args.table.now end before p h
    c.loop-place.place g call c.in-Some.ensures in
    let told = c.in_ok-offer_call.ensures.room c.args.table.now end before g.p n.message g.both g.is_ready
    (ap (λ (w : WaitingCall). w.actor) n.is) (ap (λ (w : WaitingCall). w.bits) n.is)
    (channel_of c.args.records.now.entries c.args.link.now c.loop-place.link c.args.table.now end before p h
    c.loop-place.place g call c.in-Some.ensures) in
    let full = not_false (after_offers end g.p (items_of g.p.past n.message)).full (sym told ∙ c.if-not-branch.true) in
    sym (ap not full)
    ∙ ap (λ (q : Packing). not q.full) (calling_full c.loop-place.link c.offer_call.new.link c.args.table.now end before
    p c.loop-place.place g call n full)

pub returns-then-not-branch-clause-packs : goal.returns-then-not-branch-clause-packs
returns-then-not-branch-clause-packs c = λ end before p h.
    let g = c.loop-place.invariant.calling end before p h in
    let call = waiting_value c.in-Some.call in
    let n = next_of c.args.records.now.entries c.args.link.now c.loop-place.link c.args.table.now end before p h
    c.loop-place.place g call c.in-Some.ensures in
    let channel = channel_of c.args.records.now.entries c.args.link.now c.loop-place.link c.args.table.now end before p
    h c.loop-place.place g call c.in-Some.ensures in
    let told = c.in_ok-offer_call.ensures.room c.args.table.now end before g.p n.message g.both g.is_ready
    (ap (λ (w : WaitingCall). w.actor) n.is) (ap (λ (w : WaitingCall). w.bits) n.is) channel in
    let full = not_false (after_offers end g.p (items_of g.p.past n.message)).full (sym told ∙ c.if-not-branch.true) in
    subst (PacksBoth c.offer_call.new.link c.args.table.now end AtServer before)
    (calling_full c.loop-place.link c.offer_call.new.link c.args.table.now end before p c.loop-place.place g call n
    full)
    (c.in_ok-offer_call.ensures.packs c.args.table.now end before g.p n.message g.both
    (ap (λ (w : WaitingCall). w.actor) n.is) (ap (λ (w : WaitingCall). w.bits) n.is) channel)

pub loop-place-preserved : goal.loop-place-preserved
loop-place-preserved c =
    let r = c.loop-place.invariant.own in record {
      own = (r.0, r.1, r.2, r.3, on r.0 r.1 r.2 r.3 r.4);
      calling = λ end before p h. on end before p h (c.loop-place.invariant.calling end before p h);
    }
  where
    on : (end : End) (before : Past) (p : Packing)
        → IsCalling c.args.records.now.entries c.args.link.now c.args.table.now end before p
        → Calling c.loop-place.link c.args.table.now end before p c.loop-place.place
        → Calling c.offer_call.new.link c.args.table.now end before p (c.loop-place.place + 1)
    on end before p h g =
        let call = waiting_value c.in-Some.call in
        let n = next_of c.args.records.now.entries c.args.link.now c.loop-place.link c.args.table.now end before p h
        c.loop-place.place g call c.in-Some.ensures in
        let channel = channel_of c.args.records.now.entries c.args.link.now c.loop-place.link c.args.table.now end
        before p h c.loop-place.place g call c.in-Some.ensures in
        let told = c.in_ok-offer_call.ensures.room c.args.table.now end before g.p n.message g.both g.is_ready
        (ap (λ (w : WaitingCall). w.actor) n.is) (ap (λ (w : WaitingCall). w.bits) n.is) channel in
        calling_on c.loop-place.link c.offer_call.new.link c.args.table.now end before p c.loop-place.place g call n
        (not_true (after_offers end g.p (items_of g.p.past n.message)).full (sym told ∙ c.if-not-branch.false))
        (c.in_ok-offer_call.ensures.packs c.args.table.now end before g.p n.message g.both
        (ap (λ (w : WaitingCall). w.actor) n.is) (ap (λ (w : WaitingCall). w.bits) n.is) channel)

pub returns-clause-room : goal.returns-clause-room
returns-clause-room c = λ end before p h.
    let g = c.loop-place.invariant.calling end before p h in
    let all : waiting_limit ≤ c.loop-place.place = omega (arith, c.loop-place-test.false) in
    let done = calling_done c.loop-place.link c.args.table.now end before p c.loop-place.place g
    (all_offered c.args.records.now.entries c.args.link.now c.args.table.now end before p c.loop-place.place h all) in
    ap not (sym (ap (λ (q : Packing). q.full) (sym done) ∙ g.is_ready))

pub returns-clause-packs : goal.returns-clause-packs
returns-clause-packs c = λ end before p h.
    let g = c.loop-place.invariant.calling end before p h in
    let all : waiting_limit ≤ c.loop-place.place = omega (arith, c.loop-place-test.false) in
    let done = calling_done c.loop-place.link c.args.table.now end before p c.loop-place.place g
    (all_offered c.args.records.now.entries c.args.link.now c.args.table.now end before p c.loop-place.place h all) in
    subst (PacksBoth c.loop-place.link c.args.table.now end AtServer before) done g.both
