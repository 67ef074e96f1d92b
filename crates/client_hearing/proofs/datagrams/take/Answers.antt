use Rattle.std.proofs.Common.{◌≡◌, ◌∙◌, ℤ, inr, map, List, refl, sym, ap, subst, arith, to_z, of_z, w64}
use Rattle.std.proofs.lemmas.Int.{ints}
use Rattle.protocol_model.specs.declared.Verdict.TheVariants.{Old}
use Rattle.connection_model.specs.Feed.{Past}
use Rattle.connection_model.specs.Fates.{top_of}
use Rattle.value_codec.specs.declared.handed.Handed.{Handed}
use Rattle.handovers.specs.Handovers.{handover_of}
use Rattle.actor_copies.specs.Stands.{Stands as StandCopies}
use Rattle.client_hearing.specs.Keeping.{end_as}
use Rattle.client_hearing.proofs.Arrivals.{top_after}
use Rattle.client_hearing.proofs.Taking.{malformed_verdict, malformed_after, old_verdict, old_after, none_over, taken_after, taken_verdict, taken_over, arrives, lives_on, top_stays, lives_after}
use Rattle.client_hearing.proofs.datagrams.take.Goals as goal

pub take-requires : goal.take-requires
take-requires c = let r = c.requires in inr (end_as c.args.classes.now r.0, r.1, r.2.rests)

pub returns-in-Err-Malformed-clause-verdict : goal.returns-in-Err-Malformed-clause-verdict
returns-in-Err-Malformed-clause-verdict c = λ version past h.
    c.unheard.ensures.verdict ∙ malformed_verdict c.args.classes.now version past c.args.bytes.now
    c.in-Err-Malformed.at c.in-Err-Malformed.why h.alive
    (rw c.in-Err-Malformed.field-0-is at c.in-Err-Malformed.ensures.answer
    (end_as c.args.classes.now version) past h.rests)

pub returns-in-Err-Malformed-clause-handed : goal.returns-in-Err-Malformed-clause-handed
returns-in-Err-Malformed-clause-handed c = λ version past h.
    ap (λ (calls : List Handed). map (handover_of c.args.classes.now) calls) c.unheard.ensures.handed
    ∙ none_over c.args.classes.now version past c.args.bytes.now
    (malformed_after c.args.classes.now version past c.args.bytes.now c.in-Err-Malformed.at c.in-Err-Malformed.why
    h.alive (rw c.in-Err-Malformed.field-0-is at c.in-Err-Malformed.ensures.answer
    (end_as c.args.classes.now version) past h.rests))

pub returns-in-Err-Malformed-clause-top : goal.returns-in-Err-Malformed-clause-top
returns-in-Err-Malformed-clause-top c = λ version past h.
    c.unheard.ensures.top ∙ c.top.ensures.kept
    ∙ top_stays c.args.classes.now version c.args.link.now c.take.new.self c.args.table.now c.args.names.now
    c.args.copies.now past _ ((rw c.in-Err-Malformed.field-0-is at c.in-Err-Malformed.ensures.malformed)
    c.in-Err-Malformed.at c.in-Err-Malformed.why refl) (malformed_after c.args.classes.now version past
    c.args.bytes.now c.in-Err-Malformed.at c.in-Err-Malformed.why h.alive
    (rw c.in-Err-Malformed.field-0-is at c.in-Err-Malformed.ensures.answer
    (end_as c.args.classes.now version) past h.rests)) h

pub returns-in-Err-Malformed-clause-copied : goal.returns-in-Err-Malformed-clause-copied
returns-in-Err-Malformed-clause-copied c = λ version past h.
    subst (StandCopies c.args.classes.now c.args.copies.now)
    (sym (malformed_after c.args.classes.now version past c.args.bytes.now c.in-Err-Malformed.at
    c.in-Err-Malformed.why h.alive (rw c.in-Err-Malformed.field-0-is at c.in-Err-Malformed.ensures.answer
    (end_as c.args.classes.now version) past h.rests))) h.keeps.copied

pub returns-in-Err-Malformed-clause-lives : goal.returns-in-Err-Malformed-clause-lives
returns-in-Err-Malformed-clause-lives c = λ version past h alive.
    lives_on c.args.classes.now version c.args.link.now c.take.new.self c.args.table.now c.args.names.now
    c.args.copies.now past _ ((rw c.in-Err-Malformed.field-0-is at c.in-Err-Malformed.ensures.malformed)
    c.in-Err-Malformed.at c.in-Err-Malformed.why refl) (malformed_after c.args.classes.now version past
    c.args.bytes.now c.in-Err-Malformed.at c.in-Err-Malformed.why h.alive
    (rw c.in-Err-Malformed.field-0-is at c.in-Err-Malformed.ensures.answer
    (end_as c.args.classes.now version) past h.rests)) h

pub returns-in-Err-Old-clause-verdict : goal.returns-in-Err-Old-clause-verdict
returns-in-Err-Old-clause-verdict c = λ version past h.
    let same : to_z w64 (of_z w64 c.in-Err-Old.number) ≡ c.in-Err-Old.number = omega (arith, ints) in
    c.unheard-in-Err-Old.ensures.verdict ∙ ap (λ (z : ℤ). Old z c.in-Err-Old.last) same
    ∙ (let t = rw c.in-Err-Old.field-0-is at c.in-Err-Old.ensures.answer
    (end_as c.args.classes.now version) past h.rests in old_verdict c.args.classes.now version past
    c.args.bytes.now t.0 c.in-Err-Old.number c.in-Err-Old.last h.alive t.1 t.2 t.3 t.4)

pub returns-in-Err-Old-clause-handed : goal.returns-in-Err-Old-clause-handed
returns-in-Err-Old-clause-handed c = λ version past h.
    ap (λ (calls : List Handed). map (handover_of c.args.classes.now) calls) c.unheard-in-Err-Old.ensures.handed
    ∙ none_over c.args.classes.now version past c.args.bytes.now
    ((let t = rw c.in-Err-Old.field-0-is at c.in-Err-Old.ensures.answer
    (end_as c.args.classes.now version) past h.rests in old_after c.args.classes.now version past c.args.bytes.now
    t.0 h.alive t.1 t.2))

pub returns-in-Err-Old-clause-top : goal.returns-in-Err-Old-clause-top
returns-in-Err-Old-clause-top c = λ version past h.
    c.unheard-in-Err-Old.ensures.top ∙ c.top-in-Err-Old.ensures.kept
    ∙ top_stays c.args.classes.now version c.args.link.now c.take.new.self c.args.table.now c.args.names.now
    c.args.copies.now past _ ((rw c.in-Err-Old.field-0-is at c.in-Err-Old.ensures.old) c.in-Err-Old.number
    c.in-Err-Old.last refl) ((let t = rw c.in-Err-Old.field-0-is at c.in-Err-Old.ensures.answer
    (end_as c.args.classes.now version) past h.rests in old_after c.args.classes.now version past c.args.bytes.now
    t.0 h.alive t.1 t.2)) h

pub returns-in-Err-Old-clause-copied : goal.returns-in-Err-Old-clause-copied
returns-in-Err-Old-clause-copied c = λ version past h.
    subst (StandCopies c.args.classes.now c.args.copies.now)
    (sym ((let t = rw c.in-Err-Old.field-0-is at c.in-Err-Old.ensures.answer
    (end_as c.args.classes.now version) past h.rests in old_after c.args.classes.now version past c.args.bytes.now
    t.0 h.alive t.1 t.2))) h.keeps.copied

pub returns-in-Err-Old-clause-lives : goal.returns-in-Err-Old-clause-lives
returns-in-Err-Old-clause-lives c = λ version past h alive.
    lives_on c.args.classes.now version c.args.link.now c.take.new.self c.args.table.now c.args.names.now
    c.args.copies.now past _ ((rw c.in-Err-Old.field-0-is at c.in-Err-Old.ensures.old) c.in-Err-Old.number
    c.in-Err-Old.last refl) ((let t = rw c.in-Err-Old.field-0-is at c.in-Err-Old.ensures.answer
    (end_as c.args.classes.now version) past h.rests in old_after c.args.classes.now version past c.args.bytes.now
    t.0 h.alive t.1 t.2)) h

pub hear_arrival-requires : goal.hear_arrival-requires
hear_arrival-requires c =
    let r = c.requires in
    let t = c.in-Ok.ensures.answer (end_as c.args.classes.now r.0) r.1 r.2.rests in (
      r.0,
      r.1,
      t.0,
      arrives c.args.classes.now r.0 c.args.link.now c.args.table.now c.args.names.now c.args.copies.now
          r.1 c.args.bytes.now t.0 c.in-Ok.arrival r.2 t.1 t.3,
    )

pub returns-clause-verdict : goal.returns-clause-verdict
returns-clause-verdict c = λ version past h.
    let t = c.in-Ok.ensures.answer (end_as c.args.classes.now version) past h.rests in
    c.in_ok-heard.ensures.verdict version past t.0 (arrives c.args.classes.now version c.args.link.now c.args.table.now
    c.args.names.now c.args.copies.now past c.args.bytes.now t.0 c.in-Ok.arrival h t.1 t.3)
    ∙ taken_verdict c.args.classes.now version past c.args.bytes.now t.0 c.in-Ok.arrival.number h.alive t.1 t.2
    t.3.number

pub returns-clause-handed : goal.returns-clause-handed
returns-clause-handed c = λ version past h.
    let t = c.in-Ok.ensures.answer (end_as c.args.classes.now version) past h.rests in
    c.in_ok-heard.ensures.handed version past t.0 (arrives c.args.classes.now version c.args.link.now c.args.table.now
    c.args.names.now c.args.copies.now past c.args.bytes.now t.0 c.in-Ok.arrival h t.1 t.3)
    ∙ taken_over c.args.classes.now version past c.args.bytes.now t.0 h.alive t.1 t.2

pub returns-clause-top : goal.returns-clause-top
returns-clause-top c = λ version past h.
    let t = c.in-Ok.ensures.answer (end_as c.args.classes.now version) past h.rests in
    c.in_ok-heard.ensures.top ∙ sym (top_after past t.0 c.in-Ok.arrival.number t.3.number t.2)
    ∙ sym (c.in_ok-heard.ensures.greatest version past t.0 (arrives c.args.classes.now version c.args.link.now
    c.args.table.now c.args.names.now c.args.copies.now past c.args.bytes.now t.0 c.in-Ok.arrival h t.1 t.3))
    ∙ ap top_of (sym (taken_after c.args.classes.now version past c.args.bytes.now t.0 h.alive t.1 t.2))

pub returns-clause-copied : goal.returns-clause-copied
returns-clause-copied c = λ version past h.
    let t = c.in-Ok.ensures.answer (end_as c.args.classes.now version) past h.rests in
    subst (StandCopies c.args.classes.now c.hear_arrival.new.copies)
    (sym (taken_after c.args.classes.now version past c.args.bytes.now t.0 h.alive t.1 t.2))
    (c.in_ok-heard.ensures.copied version past t.0 (arrives c.args.classes.now version c.args.link.now c.args.table.now
    c.args.names.now c.args.copies.now past c.args.bytes.now t.0 c.in-Ok.arrival h t.1 t.3))

pub returns-clause-lives : goal.returns-clause-lives
returns-clause-lives c = λ version past h alive.
    let t = c.in-Ok.ensures.answer (end_as c.args.classes.now version) past h.rests in
    lives_after c.args.classes.now version c.take.new.self c.hear_arrival.new.table c.hear_arrival.new.names
    c.hear_arrival.new.copies past _ t.0 c.in-Ok.arrival
    (taken_after c.args.classes.now version past c.args.bytes.now t.0 h.alive t.1 t.2) alive
    (c.in_ok-heard.ensures.taken version past t.0 (arrives c.args.classes.now version c.args.link.now c.args.table.now
    c.args.names.now c.args.copies.now past c.args.bytes.now t.0 c.in-Ok.arrival h t.1 t.3))
    (λ payloads none. c.in-Ok.ensures.stands (end_as c.args.classes.now version) past t.0 payloads h.rests t.1 none)
