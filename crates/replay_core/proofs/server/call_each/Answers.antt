use Rattle.std.proofs.Common.{map, refl}
use Rattle.protocol_model.specs.Side.{AtServer}
use Rattle.protocol_model.specs.World.{Edits}
use Rattle.replication_model.specs.Story.{after_call_of}
use Rattle.class_layout.specs.Tables.{table_in}
use Rattle.value_codec.specs.Values.{arg_of}
use Rattle.replay_core.proofs.Ticks.{called_none, called_next, called_one, called_all, next_item, none_left}
use Rattle.replay_core.proofs.server.call_each.Goals as goal

pub loop-place-init : goal.loop-place-init
loop-place-init c = λ layout edits players h a p. called_none layout c.args.driver.now edits _ players _
    c.args.events.now h a p

pub call-requires : goal.call-requires
call-requires c =
    let next = next_item c.args.places.now c.loop-place.place-index c.place-item.result c.place-item.is
    c.loop-place-test.true in
    let r = c.requires.there in
    let at = called_next r.0 c.loop-place.driver r.1 _ r.2 c.place-item.result _ _ _
    (rw next at c.loop-place.invariant r.0 r.1 r.2 r.3 r.4 r.5) in
    record { there = (r.0, r.1, at.1, at.2, at.0, at.3, at.4, at.5, r.6) }

pub loop-place-preserved : goal.loop-place-preserved
loop-place-preserved c = λ layout edits players h a p.
    let next = next_item c.args.places.now c.loop-place.place-index c.place-item.result c.place-item.is
    c.loop-place-test.true in
    called_one layout c.loop-place.driver c.call.new.driver edits
    (λ (e : Edits). after_call_of (table_in layout) AtServer c.args.actor c.args.number (map arg_of c.args.args.now))
    players c.place-item.result _ _ _ _ (λ q. refl) (rw next at c.loop-place.invariant layout edits players h a p)
    (c.in_ok-call.ensures layout)

pub returns : goal.returns
returns c = λ layout edits players h a p.
    let none = none_left c.args.places.now c.loop-place.place-index c.loop-place-test.false in
    called_all layout c.loop-place.driver edits _ players _ _
    (rw none at c.loop-place.invariant layout edits players h a p)
