use Rattle.std.proofs.Common.{◌≡◌, ◌∙◌, ◌+◌, ◌∷◌, List, [], drop, map, Option, refl, sym, ap, subst, arith}
use Rattle.std.proofs.lemmas.List.{drop_more, drop_all}
use Rattle.protocol_model.specs.declared.Cause.{Cause}
use Rattle.protocol_model.specs.declared.Version.{Version}
use Rattle.connection_model.specs.Feed.{Past}
use Rattle.hearing_laws.specs.Courses.{Taking}
use Rattle.link_end.specs.Answers.{news_value}
use Rattle.link_end.specs.declared.arrival.Entry.{Entry}
use Rattle.client_hearing.specs.Hearing.{AreEntriesHeard}
use Rattle.client_hearing.proofs.Entries.{Left, left_on, left_halts}
use Rattle.client_hearing.proofs.Turns.{carried}
use Rattle.client_hearing.proofs.packets.hear_entries.Goals as goal

pub loop-entry-init : goal.loop-entry-init
loop-entry-init c =
    let r = c.requires in record {
      own = (
        r.0,
        r.1,
        r.2,
        r.4,
        record { past = r.3; payloads = r.5; hears = r.6; fits = r.7; leads = r.8 },
      );
      left = λ version k bad past final payloads hears fits leads.
          record { past = past; payloads = payloads; hears = hears; fits = fits; leads = leads };
      count = refl;
    }

pub hear_entry-requires : goal.hear_entry-requires
hear_entry-requires c =
    let i = c.loop-entry.entry-index in
    let o = c.loop-entry.invariant.own in
    let l = subst (Left c.args.classes.now o.0 c.loop-entry.table c.loop-entry.names c.loop-entry.copies
    c.loop-entry.calls.items o.1 o.2 o.3)
    (drop_more c.args.entries.now i c.entry-item.result c.loop-entry-test.true
    ∙ ap (λ (e : Entry). e ∷ drop (i + 1) c.args.entries.now) (sym c.entry-item.is)) o.4 in (
      o.0,
      o.1,
      map news_value (drop (i + 1) c.args.entries.now),
      o.2,
      l.past,
      o.3,
      l.payloads,
      l.hears,
      l.fits.0,
      l.leads,
    )

pub returns-in_err-hear_entry-clause-heard : goal.returns-in_err-hear_entry-clause-heard
returns-in_err-hear_entry-clause-heard c = λ version k bad past final payloads hears fits leads.
    let i = c.loop-entry.entry-index in
    let l = subst (Left c.args.classes.now version c.loop-entry.table c.loop-entry.names c.loop-entry.copies
    c.loop-entry.calls.items k bad final)
    (drop_more c.args.entries.now i c.entry-item.result c.loop-entry-test.true
    ∙ ap (λ (e : Entry). e ∷ drop (i + 1) c.args.entries.now) (sym c.entry-item.is))
    (c.loop-entry.invariant.left version k bad past final payloads hears fits leads) in
    carried (AreEntriesHeard c.args.classes.now version c.hear_entry.new.table c.hear_entry.new.names
    c.hear_entry.new.copies c.hear_entry.new.calls.items k [] bad final) c.from_residual.result
    c.in_err-hear_entry.field-0.0 c.from_residual.ensures.1
    (left_halts c.args.classes.now version c.hear_entry.new.table c.hear_entry.new.names
    c.hear_entry.new.copies c.hear_entry.new.calls.items k (map news_value (drop (i + 1) c.args.entries.now))
    bad final c.in_err-hear_entry.field-0.0
    (c.in_err-hear_entry.ensures.heard version k (map news_value (drop (i + 1) c.args.entries.now)) bad l.past
    final l.payloads l.hears l.fits.0 l.leads))

pub returns-in_err-hear_entry-clause-count : goal.returns-in_err-hear_entry-clause-count
returns-in_err-hear_entry-clause-count c = c.in_err-hear_entry.ensures.count ∙ c.loop-entry.invariant.count

pub loop-entry-preserved : goal.loop-entry-preserved
loop-entry-preserved c = record {
  own = let o = c.loop-entry.invariant.own in (o.0, o.1, o.2, o.3, on o.0 o.1 o.2 o.3 o.4);
  left = λ version k bad past final payloads hears fits leads.
      on version k bad final (c.loop-entry.invariant.left version k bad past final payloads hears fits leads);
  count = c.in_ok-hear_entry.ensures.count ∙ c.loop-entry.invariant.count;
}
  where
    on : (version : Version) (k : Taking) (bad : Option Cause) (final : Past)
        → Left c.args.classes.now version c.loop-entry.table c.loop-entry.names c.loop-entry.copies
        c.loop-entry.calls.items k bad final (drop c.loop-entry.entry-index c.args.entries.now)
        → Left c.args.classes.now version c.hear_entry.new.table c.hear_entry.new.names
        c.hear_entry.new.copies c.hear_entry.new.calls.items k bad final
        (drop (c.loop-entry.entry-index + 1) c.args.entries.now)
    on version k bad final left =
        let i = c.loop-entry.entry-index in
        let l = subst (Left c.args.classes.now version c.loop-entry.table c.loop-entry.names
        c.loop-entry.copies c.loop-entry.calls.items k bad final)
        (drop_more c.args.entries.now i c.entry-item.result c.loop-entry-test.true
        ∙ ap (λ (e : Entry). e ∷ drop (i + 1) c.args.entries.now) (sym c.entry-item.is)) left in
        left_on c.args.classes.now version c.loop-entry.table c.hear_entry.new.table c.loop-entry.names
        c.hear_entry.new.names c.loop-entry.copies c.hear_entry.new.copies c.loop-entry.calls.items
        c.hear_entry.new.calls.items k bad final c.entry-item.result (drop (i + 1) c.args.entries.now) l
        (c.in_ok-hear_entry.ensures.heard version k (map news_value (drop (i + 1) c.args.entries.now)) bad
        l.past final l.payloads l.hears l.fits.0 l.leads)

pub returns-clause-heard : goal.returns-clause-heard
returns-clause-heard c = λ version k bad past final payloads hears fits leads.
    let l = subst (Left c.args.classes.now version c.loop-entry.table c.loop-entry.names c.loop-entry.copies
    c.loop-entry.calls.items k bad final)
    (drop_all c.loop-entry.entry-index c.args.entries.now (omega (arith, c.loop-entry-test.false)))
    (c.loop-entry.invariant.left version k bad past final payloads hears fits leads) in
    (l.past, l.payloads, l.hears, l.leads)
