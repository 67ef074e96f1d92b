use Rattle.std.proofs.Common.{◌≡◌, ◌∙◌, inr, [], sym}
use Rattle.protocol_model.specs.Side.{AtClient}
use Rattle.connection_model.specs.Feed.{has_ended}
use Rattle.connection_model.specs.Pack.{after_packing, after_tick}
use Rattle.packing_laws.specs.Beginning.{beginning}
use Rattle.link_end.specs.Rests.{Rests}
use Rattle.bunch_packing.specs.Both.{PacksBoth}
use Rattle.bunch_packing.proofs.Tick.{none_at_first}
use Rattle.client_sending.proofs.Ticked.{packed, ticking_first, same_packets, stalls_as, ticked_stands}
use Rattle.client_sending.proofs.ticks.tick.Goals as goal

pub offer_firsts-requires : goal.offer_firsts-requires
offer_firsts-requires c =
    let r = c.requires in (
      r.0,
      r.1,
      beginning r.0 r.1 [],
      ticking_first c.args.link.now c.begin_tick.new.self c.args.table.now r.0 r.1 r.2
          (c.in_ok-begin_tick.ensures.stands r.0 r.1 [] r.2.link),
      none_at_first r.0 r.1 [],
    )

pub end_tick-requires : goal.end_tick-requires
end_tick-requires c =
    let r = c.requires in
    inr (
      r.0,
      r.1,
      packed r.0 r.1,
      (c.in_ok-offer_firsts.ensures.packs r.0 r.1 (beginning r.0 r.1 [])
          (ticking_first c.args.link.now c.begin_tick.new.self c.args.table.now r.0 r.1 r.2
          (c.in_ok-begin_tick.ensures.stands r.0 r.1 [] r.2.link))
          (none_at_first r.0 r.1 [])).link,
    )

pub returns-clause-sent : goal.returns-clause-sent
returns-clause-sent c = λ end past h.
    let both : PacksBoth c.offer_firsts.new.link c.offer_firsts.new.table end AtClient past (packed end past) =
    c.in_ok-offer_firsts.ensures.packs end past (beginning end past [])
    (ticking_first c.args.link.now c.begin_tick.new.self c.args.table.now end past h
    (c.in_ok-begin_tick.ensures.stands end past [] h.link))
    (none_at_first end past []) in
    c.in_ok-sent.ensures.sent end past (packed end past) both.link
    ∙ same_packets c.args.link.now c.args.table.now end past h

pub returns-clause-stalled : goal.returns-clause-stalled
returns-clause-stalled c = λ end past h.
    let both : PacksBoth c.offer_firsts.new.link c.offer_firsts.new.table end AtClient past (packed end past) =
    c.in_ok-offer_firsts.ensures.packs end past (beginning end past [])
    (ticking_first c.args.link.now c.begin_tick.new.self c.args.table.now end past h
    (c.in_ok-begin_tick.ensures.stands end past [] h.link))
    (none_at_first end past []) in
    let rests : Rests c.end_tick.new.self end (after_packing end past (packed end past)) =
    c.in_ok-sent.ensures.stands end past (packed end past) both.link in
    c.stalled-stalled.ensures end (after_packing end past (packed end past)) rests
    ∙ stalls_as c.args.link.now c.args.table.now end past h

pub returns-clause-stands : goal.returns-clause-stands
returns-clause-stands c = λ end past h e.
    let both : PacksBoth c.offer_firsts.new.link c.offer_firsts.new.table end AtClient past (packed end past) =
    c.in_ok-offer_firsts.ensures.packs end past (beginning end past [])
    (ticking_first c.args.link.now c.begin_tick.new.self c.args.table.now end past h
    (c.in_ok-begin_tick.ensures.stands end past [] h.link))
    (none_at_first end past []) in
    let rests : Rests c.end_tick.new.self end (after_packing end past (packed end past)) =
    c.in_ok-sent.ensures.stands end past (packed end past) both.link in
    let stalls : c.stalled-stalled.result ≡ has_ended (after_tick end past []) =
    c.stalled-stalled.ensures end (after_packing end past (packed end past)) rests
    ∙ stalls_as c.args.link.now c.args.table.now end past h in
    ticked_stands c.args.link.now c.end_tick.new.self c.args.table.now c.offer_firsts.new.table
    c.clear_waiting.new.self end past h c.offer_firsts.new.link both rests c.in_ok-offer_firsts.ensures.bound
    c.clear_waiting.ensures (sym stalls ∙ e)
