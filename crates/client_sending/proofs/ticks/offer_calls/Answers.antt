use Rattle.std.proofs.Common.{◌∙◌, ◌+◌, sym, subst, arith}
use Rattle.protocol_model.specs.Side.{AtClient}
use Rattle.connection_model.specs.Feed.{End, Past}
use Rattle.connection_model.specs.Pack.{Packing}
use Rattle.packing_laws.specs.Beginning.{after_offers}
use Rattle.channel_table.specs.Calls.{waiting_value}
use Rattle.bunch_packing.specs.Both.{PacksBoth}
use Rattle.client_sending.specs.Ticking.{IsTicking}
use Rattle.client_sending.proofs.Waiting.{Calling, calling_first, calling_on, calling_full, calling_done, next_of, next_bits, next_short, next_channel, none_waits, all_offered, items_of, not_true, not_false}
use Rattle.client_sending.proofs.ticks.offer_calls.Goals as goal

pub loop-place-init : goal.loop-place-init
loop-place-init c =
    let r = c.requires in record {
      own = (
        r.0,
        r.1,
        r.2,
        r.3,
        calling_first c.args.link.now c.args.table.now r.0 r.1 r.2 r.3.both r.3.is_ready,
      );
      calling = λ end before p h. calling_first c.args.link.now c.args.table.now end before p h.both h.is_ready;
    }

pub returns-in_default-clause-packs : goal.returns-in_default-clause-packs
returns-in_default-clause-packs c = λ end before p h.
    let g = c.loop-place.invariant.calling end before p h in
    subst (PacksBoth c.loop-place.link c.args.table.now end AtClient before)
    (calling_done c.loop-place.link c.args.table.now end before p c.loop-place.place g
    (none_waits c.args.link.now c.args.table.now end before p c.loop-place.place h c.in_default.ensures)) g.both

pub offer_call-requires-clause-begun : goal.offer_call-requires-clause-begun
offer_call-requires-clause-begun c =
    let r = c.loop-place.invariant.own in
    let call = waiting_value c.in-Some.call in (
      c.args.table.now,
      r.0,
      r.1,
      r.4.p,
      r.4.both,
      r.4.is_ready,
      λ ch e. r.3.held call.actor ch (sym (r.3.bound call.actor) ∙ sym c.channel_of.ensures ∙ e),
    )

pub offer_call-requires-clause-most : goal.offer_call-requires-clause-most
offer_call-requires-clause-most c =
    let r = c.loop-place.invariant.own in
    next_short c.args.link.now c.loop-place.link c.args.table.now r.0 r.1 r.2 r.3 c.loop-place.place
    (waiting_value c.in-Some.call) c.in-Some.ensures

pub returns-then-not-branch-clause-packs : goal.returns-then-not-branch-clause-packs
returns-then-not-branch-clause-packs c = λ end before p h.
    let g = c.loop-place.invariant.calling end before p h in
    let call = waiting_value c.in-Some.call in
    let n = next_of c.args.link.now c.loop-place.link c.args.table.now end before p h c.loop-place.place call
    c.in-Some.ensures in
    let bits = next_bits c.args.link.now c.loop-place.link c.args.table.now end before p h c.loop-place.place call
    c.in-Some.ensures in
    let channel = c.channel_of.ensures
    ∙ next_channel c.args.link.now c.loop-place.link c.args.table.now end before p h c.loop-place.place call
    c.in-Some.ensures g in
    let told = c.in_ok-offer_call.ensures.room c.args.table.now end before g.p n.message g.both g.is_ready bits
    channel in
    subst (PacksBoth c.offer_call.new.link c.args.table.now end AtClient before)
    (calling_full c.loop-place.link c.offer_call.new.link c.args.table.now end before p c.loop-place.place g call n
    (not_false (after_offers end g.p (items_of g.p.past n.message)).full (sym told ∙ c.if-not-branch.true)))
    (c.in_ok-offer_call.ensures.packs c.args.table.now end before g.p n.message g.both bits channel)

pub loop-place-preserved : goal.loop-place-preserved
loop-place-preserved c =
    let r = c.loop-place.invariant.own in record {
      own = (r.0, r.1, r.2, r.3, on r.0 r.1 r.2 r.3 r.4);
      calling = λ end before p h. on end before p h (c.loop-place.invariant.calling end before p h);
    }
  where
    on : (end : End) (before : Past) (p : Packing) → IsTicking c.args.link.now c.args.table.now end before p
        → Calling c.loop-place.link c.args.table.now end before p c.loop-place.place
        → Calling c.offer_call.new.link c.args.table.now end before p (c.loop-place.place + 1)
    on end before p h g =
        let call = waiting_value c.in-Some.call in
        let n = next_of c.args.link.now c.loop-place.link c.args.table.now end before p h c.loop-place.place call
        c.in-Some.ensures in
        let bits = next_bits c.args.link.now c.loop-place.link c.args.table.now end before p h c.loop-place.place call
        c.in-Some.ensures in
        let channel = c.channel_of.ensures
        ∙ next_channel c.args.link.now c.loop-place.link c.args.table.now end before p h c.loop-place.place call
        c.in-Some.ensures g in
        let told = c.in_ok-offer_call.ensures.room c.args.table.now end before g.p n.message g.both g.is_ready bits
        channel in
        calling_on c.loop-place.link c.offer_call.new.link c.args.table.now end before p c.loop-place.place g call n
        (not_true (after_offers end g.p (items_of g.p.past n.message)).full (sym told ∙ c.if-not-branch.false))
        (c.in_ok-offer_call.ensures.packs c.args.table.now end before g.p n.message g.both bits channel)

pub returns-clause-packs : goal.returns-clause-packs
returns-clause-packs c = λ end before p h.
    let g = c.loop-place.invariant.calling end before p h in
    subst (PacksBoth c.loop-place.link c.args.table.now end AtClient before)
    (calling_done c.loop-place.link c.args.table.now end before p c.loop-place.place g
    (all_offered c.args.link.now c.args.table.now end before p c.loop-place.place h
    (omega (arith, c.loop-place-test.false)))) g.both
