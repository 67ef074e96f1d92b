use Rattle.std.proofs.Common.{◌∷◌, ◌∙◌, refl, sym, ap, subst}
use Rattle.packet_codec.specs.Values.{bunch_of}
use Rattle.hearing_laws.specs.Courses.{during, Leads}
use Rattle.link_end.specs.Answers.{news_value}
use Rattle.link_end.specs.declared.arrival.Entry.{Entry}
use Rattle.server_hearing.proofs.Going.{moved_on, bunch_on, hearing_news}
use Rattle.server_hearing.proofs.Telling.{if_each, on_each, unseen}
use Rattle.server_hearing.proofs.entries.hear_entry.Goals as goal

pub moved-requires-clause-from : goal.moved-requires-clause-from
moved-requires-clause-from c =
    let r = c.requires in
    let leads = subst (λ (e : Entry). Leads r.0 (news_value e ∷ r.5) r.6 r.2 r.4) c.in-Moved.is r.8 in
    r.7.both.table.bunches.high ∙ leads.1.high

pub moved-requires-clause-above : goal.moved-requires-clause-above
moved-requires-clause-above c =
    let r = c.requires in
    let leads = subst (λ (e : Entry). Leads r.0 (news_value e ∷ r.5) r.6 r.2 r.4) c.in-Moved.is r.8 in
    leads.1.above

pub returns-in-Moved-clause-heard : goal.returns-in-Moved-clause-heard
returns-in-Moved-clause-heard c = λ k edits past samples final news bad is hands leads.
    moved_on c.args.world.now c.args.sender.now c.moved.new.self c.args.table.now c.moved.new.table k edits
    c.args.player samples c.args.handed.now c.in-Moved.moved.from c.in-Moved.moved.to news bad past final
    (λ past after samples both move. c.moved.ensures.stands past after samples both move) is hands
    (subst (λ (e : Entry). Leads k (news_value e ∷ news) bad past final) c.in-Moved.is leads)

pub hear_bunch-requires : goal.hear_bunch-requires
hear_bunch-requires c =
    let r = c.requires in
    let leads = subst (λ (e : Entry). Leads r.0 (news_value e ∷ r.5) r.6 r.2 r.4) c.in-Bunch.is r.8 in (
      r.0,
      r.1,
      leads.0,
      leads.1,
      r.3,
      hearing_news c.args.world.now c.args.sender.now c.args.table.now r.0 r.1 r.2 (during r.0 leads.0 leads.1) r.3
          (unseen c.args.sender.now c.args.table.now) leads.2 r.7,
    )

pub returns-in-Bunch-clause-heard : goal.returns-in-Bunch-clause-heard
returns-in-Bunch-clause-heard c =
    if_each c.hear_bunch.result (λ broken heard k edits past samples final news bad is hands leads.
    bunch_on c.args.world.now c.args.sender.now c.args.table.now c.hear_bunch.new.table k edits c.args.player samples
    c.args.handed.now c.hear_bunch.new.handed (bunch_of c.in-Bunch.bunch) news bad past final broken
    (unseen c.args.sender.now c.args.table.now) is hands
    (subst (λ (e : Entry). Leads k (news_value e ∷ news) bad past final) c.in-Bunch.is leads)
    (λ entries payloads is. heard k edits entries payloads samples is)) c.hear_bunch.ensures.heard

pub returns-in-Bunch-clause-count : goal.returns-in-Bunch-clause-count
returns-in-Bunch-clause-count c = on_each c.hear_bunch.result (λ made. rw made refl)
    c.hear_bunch.ensures.made
