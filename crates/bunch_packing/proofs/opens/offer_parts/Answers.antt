use Rattle.std.proofs.Common.{◌≡◌, inr, ◌+◌, true, false, not, refl, sym, ap, subst, ◌∙◌, arith}
use Rattle.protocol_model.specs.Payload.{Message}
use Rattle.protocol_model.specs.Side.{Side}
use Rattle.connection_model.specs.Feed.{End, Past}
use Rattle.connection_model.specs.Items.{carrying_item}
use Rattle.connection_model.specs.Pack.{Packing, part_item, has_room}
use Rattle.link_end.proofs.Offers.{offer_none}
use Rattle.bunch_packing.specs.Both.{PacksBoth, IsOwing}
use Rattle.bunch_packing.proofs.Offering.{same_full}
use Rattle.bunch_packing.proofs.Parts.{Parting, parting_first, parting_on, parting_full, parting_done}
use Rattle.bunch_packing.proofs.opens.offer_parts.Goals as goal

pub loop-i-init : goal.loop-i-init
loop-i-init c =
    let r = c.requires in record {
      own = (
        r.0,
        r.1,
        r.2,
        r.3,
        r.4,
        parting_first c.args.link.now c.args.table.now r.0 r.1 r.2 r.3 c.args.channel c.args.first c.args.count r.4 r.5
            r.6
            r.7,
      );
      parting = λ end side before p message h ready parts.
          parting_first c.args.link.now c.args.table.now end side before p c.args.channel c.args.first c.args.count
          message
          h ready parts;
      count = refl;
      bound = refl;
      waiting = refl;
    }

pub offer_made-requires : goal.offer_made-requires
offer_made-requires c =
    let r = c.loop-i.invariant.own in
    let g = r.5 in
    inr (
      r.0,
      r.1,
      r.2,
      g.p,
      g.both,
      g.is_ready,
      subst (IsOwing g.p c.args.channel) (sym c.in-Some.ensures.1)
          (g.owing c.loop-i.i (omega arith) c.loop-i-test.true),
    )

pub returns-then-not-branch-clause-ready : goal.returns-then-not-branch-clause-ready
returns-then-not-branch-clause-ready c = λ end side before p message h parts.
    let r = c.requires in
    let g = c.loop-i.invariant.parting end side before p message h
    (same_full c.args.link.now r.0 end r.2 before r.3 p r.5.link h.link r.6) parts in
    let item = part_item c.args.channel c.args.first message c.loop-i.i in
    let number = c.in-Some.ensures.1 in
    let owing = subst (IsOwing g.p c.args.channel) (sym number) (g.owing c.loop-i.i (omega arith) c.loop-i-test.true) in
    let carries = ap (carrying_item g.p.past c.args.channel) number ∙ g.carries c.loop-i.i c.loop-i-test.true in
    let room : has_room end g.p item ≡ false =
    sym (c.in_ok-offer_made.ensures.room end side before g.p item g.both owing carries) ∙ c.if-not-branch.true in
    ap not (sym (ap (λ (q : Packing). q.full)
    (sym (parting_full c.loop-i.link c.offer_made.new.link c.loop-i.table c.offer_made.new.table end side before p
    c.args.channel c.args.first c.args.count message c.loop-i.i g c.loop-i-test.true room)
    ∙ offer_none end g.p item g.is_ready room)))

pub returns-then-not-branch-clause-packs : goal.returns-then-not-branch-clause-packs
returns-then-not-branch-clause-packs c = λ end side before p message h parts.
    let r = c.requires in
    let g = c.loop-i.invariant.parting end side before p message h
    (same_full c.args.link.now r.0 end r.2 before r.3 p r.5.link h.link r.6) parts in
    let item = part_item c.args.channel c.args.first message c.loop-i.i in
    let number = c.in-Some.ensures.1 in
    let owing = subst (IsOwing g.p c.args.channel) (sym number) (g.owing c.loop-i.i (omega arith) c.loop-i-test.true) in
    let carries = ap (carrying_item g.p.past c.args.channel) number ∙ g.carries c.loop-i.i c.loop-i-test.true in
    let room : has_room end g.p item ≡ false =
    sym (c.in_ok-offer_made.ensures.room end side before g.p item g.both owing carries) ∙ c.if-not-branch.true in
    subst (λ (q : Packing). PacksBoth c.offer_made.new.link c.offer_made.new.table end side before q)
    (parting_full c.loop-i.link c.offer_made.new.link c.loop-i.table c.offer_made.new.table end side before p
    c.args.channel c.args.first c.args.count message c.loop-i.i g c.loop-i-test.true room)
    (c.in_ok-offer_made.ensures.packs end side before g.p item g.both owing carries)

pub loop-i-preserved : goal.loop-i-preserved
loop-i-preserved c =
    let r = c.loop-i.invariant.own in record {
      own = (r.0, r.1, r.2, r.3, r.4, on r.0 r.1 r.2 r.3 r.4 r.5);
      parting = λ end side before p message h ready parts.
          on end side before p message (c.loop-i.invariant.parting end side before p message h ready parts);
      count = c.offer_made.ensures.count ∙ c.loop-i.invariant.count;
      bound = c.offer_made.ensures.bound ∙ c.loop-i.invariant.bound;
      waiting = c.offer_made.ensures.waiting ∙ c.loop-i.invariant.waiting;
    }
  where
    on : (end : End) (side : Side) (before : Past) (p : Packing) (message : Message)
        → Parting c.loop-i.link c.loop-i.table end side before p c.args.channel c.args.first c.args.count message
        c.loop-i.i
        → Parting c.offer_made.new.link c.offer_made.new.table end side before p c.args.channel c.args.first
        c.args.count
        message (c.loop-i.i + 1)
    on end side before p message g =
        let item = part_item c.args.channel c.args.first message c.loop-i.i in
        let number = c.in-Some.ensures.1 in
        let owing = subst (IsOwing g.p c.args.channel) (sym number)
        (g.owing c.loop-i.i (omega arith) c.loop-i-test.true) in
        let carries = ap (carrying_item g.p.past c.args.channel) number ∙ g.carries c.loop-i.i c.loop-i-test.true in
        let room : has_room end g.p item ≡ true =
        sym (c.in_ok-offer_made.ensures.room end side before g.p item g.both owing carries) ∙ c.if-not-branch.false in
        parting_on c.loop-i.link c.offer_made.new.link c.loop-i.table c.offer_made.new.table end side before p
        c.args.channel c.args.first c.args.count message c.loop-i.i g c.loop-i-test.true room
        (c.in_ok-offer_made.ensures.packs end side before g.p item g.both owing carries)

pub returns-clause-ready : goal.returns-clause-ready
returns-clause-ready c = λ end side before p message h parts.
    let r = c.requires in
    let g = c.loop-i.invariant.parting end side before p message h
    (same_full c.args.link.now r.0 end r.2 before r.3 p r.5.link h.link r.6) parts in
    let all : c.loop-i.i ≡ c.args.count = omega (arith, c.loop-i-test.false, c.loop-i.auto.i-end) in
    let done = parting_done c.loop-i.link c.loop-i.table end side before p c.args.channel c.args.first c.args.count
    c.loop-i.i message all g in
    ap not (sym (ap (λ (q : Packing). q.full) (sym done) ∙ g.is_ready))

pub returns-clause-packs : goal.returns-clause-packs
returns-clause-packs c = λ end side before p message h parts.
    let r = c.requires in
    let g = c.loop-i.invariant.parting end side before p message h
    (same_full c.args.link.now r.0 end r.2 before r.3 p r.5.link h.link r.6) parts in
    let all : c.loop-i.i ≡ c.args.count = omega (arith, c.loop-i-test.false, c.loop-i.auto.i-end) in
    subst (λ (q : Packing). PacksBoth c.loop-i.link c.loop-i.table end side before q)
    (parting_done c.loop-i.link c.loop-i.table end side before p c.args.channel c.args.first c.args.count c.loop-i.i
    message all g) g.both
