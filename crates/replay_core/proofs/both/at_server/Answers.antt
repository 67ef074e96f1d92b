use Rattle.std.proofs.Common.{map, refl}
use Rattle.value_codec.specs.Values.{arg_of}
use Rattle.replay_places.proofs.Delivered.{on_ok_then}
use Rattle.replay_core.proofs.Heard.{place_hears, place_calls}
use Rattle.replay_core.proofs.Whole.{at_server, nothing_done}
use Rattle.replay_core.proofs.LineKinds.{rest_is_still}
use Rattle.replay_core.proofs.both.at_server.Goals as goal

pub deliver-requires : goal.deliver-requires
deliver-requires c =
    let r = c.requires.there in
    record { first = rw c.in-Up.is at r.8; there = (r.0, r.1, r.2, r.3, r.4, r.5, r.6, r.7) }

pub call-requires : goal.call-requires
call-requires c =
    let r = c.requires.there in
    record { there = (r.0, r.1, r.2, r.3, r.4, r.5, r.6, r.7.number, rw (c.in-Call.is, ← c.as_slice.ensures) at r.8) }

pub returns-in-Up : goal.returns-in-Up
returns-in-Up c = rw c.in-Up.is c.deliver.ensures

pub returns-in-UpNew : goal.returns-in-UpNew
returns-in-UpNew c = rw c.in-UpNew.is c.deliver_new.ensures

pub returns-in-Call : goal.returns-in-Call
returns-in-Call c =
    rw (c.in-Call.is, ← c.as_slice.ensures)
    (on_ok_then c.call.result _ _ c.call.ensures
    (λ serves layout. at_server layout c.args.driver.now c.call.new.driver c.args.place.now c.args.place.now.player _ _
    _
    (λ edits p i. place_calls layout c.args.place.now p c.in-Call.actor c.in-Call.n (map arg_of c.as_slice.result.now)
    i) refl (serves layout)))

pub returns-in-Settled : goal.returns-in-Settled
returns-in-Settled c =
    rw c.in-Settled.is
    (on_ok_then c.settled.result _ _ c.settled.ensures
    (λ serves layout. at_server layout c.args.driver.now c.args.driver.now c.args.place.now c.args.place.now.player _ _
    _
    (λ edits p i. i) refl (serves layout)))

pub returns-in-Forge : goal.returns-in-Forge
returns-in-Forge c =
    rw (c.in-Forge.is, ← c.as_slice-in-Forge.ensures)
    (on_ok_then c.forge.result _ _ c.forge.ensures
    (λ serves layout. at_server layout c.args.driver.now c.forge.new.driver c.args.place.now c.args.place.now.player _ _
    _
    (λ edits p i. place_hears layout c.args.place.now p c.as_slice-in-Forge.result.now i) refl (serves layout)))

pub returns-in_default : goal.returns-in_default
returns-in_default c = λ layout.
    nothing_done layout c.args.driver.now c.args.place.now c.args.events.now _
    (λ edits p. rest_is_still _ c.args.line.now edits p c.requires.side c.in_default.not-Up c.in_default.not-UpNew
    c.in_default.not-Call
    c.in_default.not-Settled c.in_default.not-Forge)
