use Rattle.std.proofs.Common.{inl, inr, not, ◌<◌, ◌^◌, refl, sym, ap, subst, ◌∙◌}
use Rattle.std.proofs.lemmas.Bool.{false≢true}
use Rattle.protocol_model.specs.Side.{Side}
use Rattle.connection_model.specs.Feed.{End, Past, Carries}
use Rattle.connection_model.specs.Pack.{Packing}
use Rattle.link_end.specs.Packs.{sent_now}
use Rattle.bunch_packing.specs.Both.{PacksBoth}
use Rattle.bunch_packing.proofs.Offering.{same_full}
use Rattle.bunch_packing.proofs.Carrying.{not_spent}
use Rattle.bunch_packing.proofs.Going.{Going, most_in, some_below, place_below, going_first, next_owing, going_on, going_done, going_full, full_then, further}
use Rattle.bunch_packing.proofs.offers.offer_due.Goals as goal

pub loop-next-init : goal.loop-next-init
loop-next-init c = record {
  own = elim c.requires [
    | inl s ↦ inl s
    | inr r ↦ inr (r.0, r.1, r.2, r.3, r.4, going_first c.args.link.now c.args.table.now r.0 r.1 r.2 r.3 r.4 r.5 r.6)
  ];
  going = λ end side before p h ready none. going_first c.args.link.now c.args.table.now end side before p h ready none;
  below = some_below c.args.table.now.made.out;
  count = refl;
  bound = refl;
  waiting = refl;
}

pub offer_made-requires : goal.offer_made-requires
offer_made-requires c = elim c.loop-next.invariant.own [
  | inl s ↦ inl s
  | inr r ↦ (
      let g = r.5 in
      let next = next_owing c.loop-next.link c.loop-next.table r.0 r.1 r.2 r.3 c.loop-next.channel c.loop-next.from
      c.in-Some.next c.in-Some.n g (sym (c.in-Some.ensures r.1 (sent_now g.p) g.both.table)) in
      inr (r.0, r.1, r.2, g.p, g.both, g.is_ready, next.owing))
]

pub returns-then-not-branch-clause-room : goal.returns-then-not-branch-clause-room
returns-then-not-branch-clause-room c = λ end side before p h none.
    let r = not_spent c.args.link.now end before p h.link c.requires in
    let g = c.loop-next.invariant.going end side before p h
    (same_full c.args.link.now r.0 end r.2 before r.3 p r.4.link h.link r.5) none in
    let next = next_owing c.loop-next.link c.loop-next.table end side before p c.loop-next.channel c.loop-next.from
    c.in-Some.next c.in-Some.n g (sym (c.in-Some.ensures side (sent_now g.p) g.both.table)) in
    let room = sym (c.in_ok-offer_made.ensures.room end side before g.p (Carries c.in-Some.next c.in-Some.n next.bunch)
    g.both next.owing next.carries) ∙ c.if-not-branch.true in
    ap not (sym (full_then c.loop-next.link c.loop-next.table end side before p c.loop-next.channel c.loop-next.from
    c.in-Some.next c.in-Some.n g next room))

pub returns-then-not-branch-clause-packs : goal.returns-then-not-branch-clause-packs
returns-then-not-branch-clause-packs c = λ end side before p h none.
    let r = not_spent c.args.link.now end before p h.link c.requires in
    let g = c.loop-next.invariant.going end side before p h
    (same_full c.args.link.now r.0 end r.2 before r.3 p r.4.link h.link r.5) none in
    let next = next_owing c.loop-next.link c.loop-next.table end side before p c.loop-next.channel c.loop-next.from
    c.in-Some.next c.in-Some.n g (sym (c.in-Some.ensures side (sent_now g.p) g.both.table)) in
    let room = sym (c.in_ok-offer_made.ensures.room end side before g.p (Carries c.in-Some.next c.in-Some.n next.bunch)
    g.both next.owing next.carries) ∙ c.if-not-branch.true in
    subst (λ (q : Packing). PacksBoth c.offer_made.new.link c.offer_made.new.table end side before q)
    (going_full c.loop-next.link c.loop-next.table end side before p c.loop-next.channel c.loop-next.from c.in-Some.next
    c.in-Some.n g next room)
    (c.in_ok-offer_made.ensures.packs end side before g.p (Carries c.in-Some.next c.in-Some.n next.bunch) g.both
    next.owing next.carries)

-- the place that is offered
below : (c : goal.Else-not-branch) → (c.in-Some.next < 2 ^ 15) × (c.in-Some.n < most_in c.args.table.now.made.out)
below c = elim c.loop-next.invariant.own [
  | inl s ↦ absurd (false≢true (c.in_ok-offer_made.ensures.after s))
  | inr r ↦ (
      let next = next_owing c.loop-next.link c.loop-next.table r.0 r.1 r.2 r.3 c.loop-next.channel c.loop-next.from
      c.in-Some.next c.in-Some.n r.5 (sym (c.in-Some.ensures r.1 (sent_now r.5.p) r.5.both.table)) in
      place_below c.args.link.now c.args.table.now r.0 r.1 r.2 r.3 r.5.p c.in-Some.next c.in-Some.n r.4 r.5.both.low
      r.5.past next.owing)
]

pub loop-next-smaller : goal.loop-next-smaller
loop-next-smaller c = elim c.loop-next.invariant.own [
  | inl s ↦ absurd (false≢true (c.in_ok-offer_made.ensures.after s))
  | inr r ↦ (
      let next = next_owing c.loop-next.link c.loop-next.table r.0 r.1 r.2 r.3 c.loop-next.channel c.loop-next.from
      c.in-Some.next c.in-Some.n r.5 (sym (c.in-Some.ensures r.1 (sent_now r.5.p) r.5.both.table)) in
      further r.5.p.past (most_in c.args.table.now.made.out) c.loop-next.channel c.loop-next.from c.in-Some.next
      c.in-Some.n
      next.found c.loop-next.invariant.below (below c).0 (below c).1)
]

pub loop-next-preserved : goal.loop-next-preserved
loop-next-preserved c = record {
  own = elim c.loop-next.invariant.own [
    | inl s ↦ absurd (false≢true (c.in_ok-offer_made.ensures.after s))
    | inr r ↦ inr (r.0, r.1, r.2, r.3, r.4, on r.0 r.1 r.2 r.3 r.5)
  ];
  going = λ end side before p h ready none. on end side before p
      (c.loop-next.invariant.going end side before p h ready none);
  below = (below c).1;
  count = c.offer_made.ensures.count ∙ c.loop-next.invariant.count;
  bound = c.offer_made.ensures.bound ∙ c.loop-next.invariant.bound;
  waiting = c.offer_made.ensures.waiting ∙ c.loop-next.invariant.waiting;
}
  where
    on : (end : End) (side : Side) (before : Past) (p : Packing)
        → Going c.loop-next.link c.loop-next.table end side before p c.loop-next.channel c.loop-next.from
        → Going c.offer_made.new.link c.offer_made.new.table end side before p c.in-Some.next c.in-Some.n
    on end side before p g =
        let next = next_owing c.loop-next.link c.loop-next.table end side before p c.loop-next.channel c.loop-next.from
        c.in-Some.next c.in-Some.n g (sym (c.in-Some.ensures side (sent_now g.p) g.both.table)) in
        let item = Carries c.in-Some.next c.in-Some.n next.bunch in
        let room = sym (c.in_ok-offer_made.ensures.room end side before g.p item g.both next.owing next.carries)
        ∙ c.if-not-branch.false in
        going_on c.loop-next.link c.offer_made.new.link c.loop-next.table c.offer_made.new.table end side before p
        c.loop-next.channel c.loop-next.from c.in-Some.next c.in-Some.n g next room
        (c.in_ok-offer_made.ensures.packs end side before g.p item g.both next.owing next.carries)

pub returns-clause-room : goal.returns-clause-room
returns-clause-room c = λ end side before p h none.
    let r = not_spent c.args.link.now end before p h.link c.requires in
    let g = c.loop-next.invariant.going end side before p h
    (same_full c.args.link.now r.0 end r.2 before r.3 p r.4.link h.link r.5) none in
    let done = going_done c.loop-next.link c.loop-next.table end side before p c.loop-next.channel c.loop-next.from g
    (sym (c.in_default.ensures side (sent_now g.p) g.both.table)) in
    ap not (sym (ap (λ (q : Packing). q.full) (sym done) ∙ g.is_ready))

pub returns-clause-packs : goal.returns-clause-packs
returns-clause-packs c = λ end side before p h none.
    let r = not_spent c.args.link.now end before p h.link c.requires in
    let g = c.loop-next.invariant.going end side before p h
    (same_full c.args.link.now r.0 end r.2 before r.3 p r.4.link h.link r.5) none in
    subst (λ (q : Packing). PacksBoth c.loop-next.link c.loop-next.table end side before q)
    (going_done c.loop-next.link c.loop-next.table end side before p c.loop-next.channel c.loop-next.from g
    (sym (c.in_default.ensures side (sent_now g.p) g.both.table))) g.both
