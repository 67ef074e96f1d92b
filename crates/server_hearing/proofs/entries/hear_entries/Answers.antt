use Rattle.std.proofs.Common.{◌≡◌, ◌∙◌, ◌+◌, ◌∷◌, List, [], drop, map, Option, Some, None, refl, sym, ap, subst, arith}
use Rattle.std.proofs.lemmas.List.{drop_more, drop_all}
use Rattle.protocol_model.specs.World.{Edits}
use Rattle.protocol_model.specs.declared.Cause.{Cause}
use Rattle.connection_model.specs.Feed.{Past}
use Rattle.hearing_laws.specs.Courses.{Taking}
use Rattle.shadow_changes.specs.Samples.{Samples}
use Rattle.link_end.specs.Answers.{news_value}
use Rattle.link_end.specs.declared.arrival.Entry.{Entry}
use Rattle.server_hearing.specs.Entries.{GoesOn}
use Rattle.server_hearing.proofs.entries.hear_entries.Goals as goal

pub loop-entry-init : goal.loop-entry-init
loop-entry-init c = record {
  heard = λ k edits past samples final bad is hands leads. (past, is, hands, leads);
  count = refl;
}

pub hear_entry-requires : goal.hear_entry-requires
hear_entry-requires c =
    let i = c.loop-entry.entry-index in
    let r = c.requires in
    let l = subst (λ (es : List Entry). GoesOn c.args.world.now c.loop-entry.sender c.loop-entry.table r.0 r.1
    c.args.player r.3 c.loop-entry.handed (map news_value es) r.5 r.4 None)
    (drop_more c.args.entries.now i c.entry-item.result c.loop-entry-test.true
    ∙ ap (λ (e : Entry). e ∷ drop (i + 1) c.args.entries.now) (sym c.entry-item.is))
    (c.loop-entry.invariant.heard r.0 r.1 r.2 r.3 r.4 r.5 r.6 r.7 r.8) in (
      r.0,
      r.1,
      l.0,
      r.3,
      r.4,
      map news_value (drop (i + 1) c.args.entries.now),
      r.5,
      l.1,
      l.3,
    )

pub returns-in-Some-clause-heard : goal.returns-in-Some-clause-heard
returns-in-Some-clause-heard c = λ k edits past samples final bad is hands leads.
    let i = c.loop-entry.entry-index in
    let l = subst (λ (es : List Entry). GoesOn c.args.world.now c.loop-entry.sender c.loop-entry.table k edits
    c.args.player samples c.loop-entry.handed (map news_value es) bad final None)
    (drop_more c.args.entries.now i c.entry-item.result c.loop-entry-test.true
    ∙ ap (λ (e : Entry). e ∷ drop (i + 1) c.args.entries.now) (sym c.entry-item.is))
    (c.loop-entry.invariant.heard k edits past samples final bad is hands leads) in
    subst (λ (o : Option Cause). GoesOn c.args.world.now c.hear_entry.new.sender c.hear_entry.new.table k edits
    c.args.player samples c.hear_entry.new.handed (map news_value (drop (i + 1) c.args.entries.now)) bad final o) c.in-Some.is
    (c.in_ok-cause.ensures.heard k edits l.0 samples final (map news_value (drop (i + 1) c.args.entries.now)) bad
    l.1 l.2 l.3)

pub loop-entry-preserved : goal.loop-entry-preserved
loop-entry-preserved c = record {
  heard = λ k edits past samples final bad is hands leads.
      let i = c.loop-entry.entry-index in
      let l = subst (λ (es : List Entry). GoesOn c.args.world.now c.loop-entry.sender c.loop-entry.table k edits
      c.args.player samples c.loop-entry.handed (map news_value es) bad final None)
      (drop_more c.args.entries.now i c.entry-item.result c.loop-entry-test.true
      ∙ ap (λ (e : Entry). e ∷ drop (i + 1) c.args.entries.now) (sym c.entry-item.is))
      (c.loop-entry.invariant.heard k edits past samples final bad is hands leads) in
      subst (λ (o : Option Cause). GoesOn c.args.world.now c.hear_entry.new.sender c.hear_entry.new.table k edits
      c.args.player samples c.hear_entry.new.handed (map news_value (drop (i + 1) c.args.entries.now)) bad final o)
      c.in_default.is
      (c.in_ok-cause.ensures.heard k edits l.0 samples final (map news_value (drop (i + 1) c.args.entries.now)) bad
      l.1 l.2 l.3);
  count = c.in_ok-cause.ensures.count ∙ c.loop-entry.invariant.count;
}

pub returns-clause-heard : goal.returns-clause-heard
returns-clause-heard c = λ k edits past samples final bad is hands leads.
    subst (λ (es : List Entry). GoesOn c.args.world.now c.loop-entry.sender c.loop-entry.table k edits
    c.args.player samples c.loop-entry.handed (map news_value es) bad final None)
    (drop_all c.loop-entry.entry-index c.args.entries.now (omega (arith, c.loop-entry-test.false)))
    (c.loop-entry.invariant.heard k edits past samples final bad is hands leads)
