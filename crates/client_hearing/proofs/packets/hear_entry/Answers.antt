use Rattle.std.proofs.Common.{◌∷◌, ◌∙◌, sym, ap, subst}
use Rattle.protocol_model.specs.Side.{AtClient}
use Rattle.packet_codec.specs.Values.{bunch_of}
use Rattle.hearing_laws.specs.Courses.{Leads}
use Rattle.link_end.specs.Answers.{news_value}
use Rattle.link_end.specs.declared.arrival.Entry.{Entry}
use Rattle.client_hearing.specs.Hearing.{IsFitNews}
use Rattle.client_hearing.proofs.Entries.{moved_on, hears_at, moment_of, bunch_answer}
use Rattle.client_hearing.proofs.packets.hear_entry.Goals as goal

pub moved-requires-clause-from : goal.moved-requires-clause-from
moved-requires-clause-from c =
    let r = c.requires in
    let leads = subst (λ (e : Entry). Leads r.1 (news_value e ∷ r.2) r.3 r.4 r.5) c.in-Moved.is r.9 in
    r.7.keeps.channels.bunches.high ∙ leads.1.high

pub moved-requires-clause-above : goal.moved-requires-clause-above
moved-requires-clause-above c =
    let r = c.requires in
    let leads = subst (λ (e : Entry). Leads r.1 (news_value e ∷ r.2) r.3 r.4 r.5) c.in-Moved.is r.9 in
    leads.1.above

pub returns-in-Moved-clause-heard : goal.returns-in-Moved-clause-heard
returns-in-Moved-clause-heard c = λ version k news bad past final payloads hears fits leads.
    moved_on c.args.classes.now version c.args.table.now c.moved.new.self c.args.names.now c.args.copies.now
    c.args.calls.now.items k payloads news bad past final c.in-Moved.m.from c.in-Moved.m.to hears
    (subst (λ (e : Entry). Leads k (news_value e ∷ news) bad past final) c.in-Moved.is leads)
    (λ after bunches move. c.moved.ensures.keeps AtClient past after bunches move) c.moved.ensures.bound
    c.moved.ensures.waiting

pub hear_bunch-requires : goal.hear_bunch-requires
hear_bunch-requires c =
    let r = c.requires in
    let leads = subst (λ (e : Entry). Leads r.1 (news_value e ∷ r.2) r.3 r.4 r.5) c.in-Bunch.is r.9 in
    let fit = subst (λ (e : Entry). IsFitNews r.0 (news_value e)) c.in-Bunch.is r.8 in (
      r.0,
      moment_of r.1 leads.0 leads.1,
      hears_at c.args.classes.now r.0 c.args.table.now c.args.names.now c.args.copies.now
          c.args.calls.now.items r.1 r.6 leads.1 leads.0 r.4 r.7 leads.2,
      fit,
    )

pub returns-in-Bunch-clause-heard : goal.returns-in-Bunch-clause-heard
returns-in-Bunch-clause-heard c = λ version k news bad past final payloads hears fits leads.
    let leads = subst (λ (e : Entry). Leads k (news_value e ∷ news) bad past final) c.in-Bunch.is leads in
    let fit = subst (λ (e : Entry). IsFitNews version (news_value e)) c.in-Bunch.is fits in
    bunch_answer c.args.classes.now version c.hear_bunch.new.table c.hear_bunch.new.names
    c.hear_bunch.new.copies c.hear_bunch.new.calls.items k news bad past final (bunch_of c.in-Bunch.b)
    c.hear_bunch.result leads
    (c.hear_bunch.ensures.heard version (moment_of k leads.0 leads.1)
    (hears_at c.args.classes.now version c.args.table.now c.args.names.now c.args.copies.now
    c.args.calls.now.items k payloads leads.1 leads.0 past hears leads.2) fit)
