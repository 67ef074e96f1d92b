use Rattle.std.proofs.Common.{Err, ◌≡◌, ◌∙◌, ℕ, [], List, inr, map, option_map, Option, refl, sym, ap, subst}
use Rattle.protocol_model.specs.World.{Edits}
use Rattle.connection_model.specs.Feed.{End, Past}
use Rattle.link_end.specs.Answers.{news_value, cause_value}
use Rattle.link_end.specs.declared.arrival.Entry.{Entry}
use Rattle.hearing_laws.specs.Courses.{Taking, during, Leads}
use Rattle.shadow_changes.specs.Samples.{Samples}
use Rattle.value_codec.specs.declared.handed.Handed.{Handed}
use Rattle.server_hearing.specs.Datagrams.{MayHear, heard_as}
use Rattle.server_hearing.specs.Entries.{HandsOver}
use Rattle.server_hearing.proofs.Taking.{taken, final_of, begins, none_handed, leads_to}
use Rattle.server_hearing.proofs.Telling.{if_each, unseen, table_taken, AllTell, Goes, Tells, arrives, refused_tells, packet_tells}
use Rattle.server_hearing.proofs.datagrams.take.Goals as goal

pub take-requires : goal.take-requires
take-requires c = let r = c.requires in inr (r.0, r.2, r.4.stands.link)

pub returns-in-Err-clause-verdict : goal.returns-in-Err-clause-verdict
returns-in-Err-clause-verdict c = if_each c.refused.result
    (λ heard all end edits past samples h. (all end edits past samples h).verdict)
    (refused_tells c.args.world.now c.args.sender.now c.args.link.now c.take.new.self c.args.table.now c.args.player
    c.args.bytes.now c.in-Err.refusal c.refused.result c.refused.ensures
    (λ end past rests. c.in-Err.ensures.answer end past rests) (λ at why e. c.in-Err.ensures.malformed at why (ap Err e))
    (λ number last e. c.in-Err.ensures.old number last (ap Err e)))

pub returns-in-Err-clause-handed : goal.returns-in-Err-clause-handed
returns-in-Err-clause-handed c = if_each c.refused.result
    (λ heard all end edits past samples h. (all end edits past samples h).handed)
    (refused_tells c.args.world.now c.args.sender.now c.args.link.now c.take.new.self c.args.table.now c.args.player
    c.args.bytes.now c.in-Err.refusal c.refused.result c.refused.ensures
    (λ end past rests. c.in-Err.ensures.answer end past rests) (λ at why e. c.in-Err.ensures.malformed at why (ap Err e))
    (λ number last e. c.in-Err.ensures.old number last (ap Err e)))

pub returns-in-Err-clause-stands : goal.returns-in-Err-clause-stands
returns-in-Err-clause-stands c = if_each c.refused.result
    (λ heard all end edits past samples h. (all end edits past samples h).stands)
    (refused_tells c.args.world.now c.args.sender.now c.args.link.now c.take.new.self c.args.table.now c.args.player
    c.args.bytes.now c.in-Err.refusal c.refused.result c.refused.ensures
    (λ end past rests. c.in-Err.ensures.answer end past rests) (λ at why e. c.in-Err.ensures.malformed at why (ap Err e))
    (λ number last e. c.in-Err.ensures.old number last (ap Err e)))

pub returns-in-Err-clause-alive : goal.returns-in-Err-clause-alive
returns-in-Err-clause-alive c = if_each c.refused.result
    (λ heard all end edits past samples h. (all end edits past samples h).alive)
    (refused_tells c.args.world.now c.args.sender.now c.args.link.now c.take.new.self c.args.table.now c.args.player
    c.args.bytes.now c.in-Err.refusal c.refused.result c.refused.ensures
    (λ end past rests. c.in-Err.ensures.answer end past rests) (λ at why e. c.in-Err.ensures.malformed at why (ap Err e))
    (λ number last e. c.in-Err.ensures.old number last (ap Err e)))

pub returns-in-Err-clause-closed : goal.returns-in-Err-clause-closed
returns-in-Err-clause-closed c = if_each c.refused.result
    (λ heard all end edits past samples top h. (all end edits past samples h).closed top)
    (refused_tells c.args.world.now c.args.sender.now c.args.link.now c.take.new.self c.args.table.now c.args.player
    c.args.bytes.now c.in-Err.refusal c.refused.result c.refused.ensures
    (λ end past rests. c.in-Err.ensures.answer end past rests) (λ at why e. c.in-Err.ensures.malformed at why (ap Err e))
    (λ number last e. c.in-Err.ensures.old number last (ap Err e)))

pub returns-in-Err-clause-top : goal.returns-in-Err-clause-top
returns-in-Err-clause-top c = if_each c.refused.result
    (λ heard all end edits past samples top h. (all end edits past samples h).top top)
    (refused_tells c.args.world.now c.args.sender.now c.args.link.now c.take.new.self c.args.table.now c.args.player
    c.args.bytes.now c.in-Err.refusal c.refused.result c.refused.ensures
    (λ end past rests. c.in-Err.ensures.answer end past rests) (λ at why e. c.in-Err.ensures.malformed at why (ap Err e))
    (λ number last e. c.in-Err.ensures.old number last (ap Err e)))

pub hear_entries-requires : goal.hear_entries-requires
hear_entries-requires c =
    let r = c.requires in
    let a = c.in-Ok.arrival in
    let x = arrives r.0 r.2 c.args.bytes.now a (c.in-Ok.ensures.answer r.0 r.2 r.4.stands.link) in
    let k = taken r.0 r.2 a x.packet in
    let final = final_of r.0 r.2 a x.packet in
    let bad = option_map cause_value a.bad in (
      k,
      r.1,
      during k [] [],
      r.3,
      final,
      bad,
      begins c.args.world.now c.args.sender.now c.args.link.now c.args.table.now r.0 r.1 r.2 r.3 a x.packet
          (unseen c.args.sender.now c.args.table.now) (λ n keeps. table_taken c.args.table.now r.2 n keeps) r.4,
      subst (λ (hs : List Handed). HandsOver c.args.world.now.layout r.1 c.args.player k (during k [] []) hs)
          (sym c.new-handed.ensures) (none_handed c.args.world.now.layout r.1 c.args.player k),
      subst (λ (es : List Entry). Leads k (map news_value es) bad (during k [] []) final)
          (sym c.as_slice-entries.ensures) (leads_to r.0 r.2 c.args.bytes.now a x),
    )

-- the packet went on as the definitions say
goes : (c : goal.After-drop-arrival-2) (end : End) (edits : Edits) (past : Past) (samples : Samples)
    → MayHear c.args.world.now c.args.sender.now c.args.link.now c.args.table.now end edits past samples
    → Goes c.args.world.now c.hear_entries.new.sender c.take.new.self c.hear_entries.new.table end edits c.args.player
    past samples c.args.bytes.now c.in-Ok.arrival c.hear_entries.new.handed c.in_ok-broken.broken
goes c end edits past samples h =
    let a = c.in-Ok.arrival in
    let x = arrives end past c.args.bytes.now a (c.in-Ok.ensures.answer end past h.stands.link) in
    let k = taken end past a x.packet in
    let final = final_of end past a x.packet in
    let bad = option_map cause_value a.bad in
    record {
      came = x;
      goes = c.in_ok-broken.ensures.heard k edits (during k [] []) samples final bad
          (begins c.args.world.now c.args.sender.now c.args.link.now c.args.table.now end edits past samples a x.packet
          (unseen c.args.sender.now c.args.table.now) (λ n keeps. table_taken c.args.table.now past n keeps) h)
          (subst (λ (hs : List Handed). HandsOver c.args.world.now.layout edits c.args.player k (during k [] []) hs)
          (sym c.new-handed.ensures) (none_handed c.args.world.now.layout edits c.args.player k))
          (subst (λ (es : List Entry). Leads k (map news_value es) bad (during k [] []) final)
          (sym c.as_slice-entries.ensures) (leads_to end past c.args.bytes.now a x));
      alive = h.alive;
      link = λ payloads none. c.in-Ok.ensures.stands end past x.packet payloads h.stands.link x.read none;
    }

tells : (c : goal.After-drop-arrival-2) (end : End) (edits : Edits) (past : Past) (samples : Samples)
    → MayHear c.args.world.now c.args.sender.now c.args.link.now c.args.table.now end edits past samples
    → Tells c.args.world.now c.hear_entries.new.sender c.take.new.self c.hear_entries.new.table end edits c.args.player
    past samples c.args.bytes.now c.packet_heard.result
tells c end edits past samples h =
    packet_tells c.args.world.now c.hear_entries.new.sender c.take.new.self c.hear_entries.new.table end edits
    c.args.player past samples c.args.bytes.now c.in-Ok.arrival c.hear_entries.new.handed c.in_ok-broken.broken
    c.packet_heard.result (goes c end edits past samples h)
    (c.packet_heard.ensures ∙ ap (heard_as c.in-Ok.arrival.number c.hear_entries.new.handed) c.cause_in.ensures)

pub returns-clause-verdict : goal.returns-clause-verdict
returns-clause-verdict c = λ end edits past samples h. (tells c end edits past samples h).verdict

pub returns-clause-handed : goal.returns-clause-handed
returns-clause-handed c = λ end edits past samples h. (tells c end edits past samples h).handed

pub returns-clause-stands : goal.returns-clause-stands
returns-clause-stands c = λ end edits past samples h. (tells c end edits past samples h).stands

pub returns-clause-alive : goal.returns-clause-alive
returns-clause-alive c = λ end edits past samples h. (tells c end edits past samples h).alive

pub returns-clause-closed : goal.returns-clause-closed
returns-clause-closed c = λ end edits past samples top h. (tells c end edits past samples h).closed top

pub returns-clause-top : goal.returns-clause-top
returns-clause-top c = λ end edits past samples top h. (tells c end edits past samples h).top top
