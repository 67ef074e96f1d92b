use Rattle.std.proofs.Common.{◌≡◌, inl, inr, ℕ, List, map, Some, refl, sym, ap, ◌∙◌, subst, arith}
use Rattle.std.proofs.lemmas.Bool.{false≢true}
use Rattle.std.proofs.lemmas.Option.{none-some}
use Rattle.class_layout.specs.Tables.{table_in}
use Rattle.handovers.specs.Handovers.{handover_of}
use Rattle.net_driver.specs.Chairs.{place_in, living_key}
use Rattle.net_driver.specs.Hearing.{verdict_for, handovers_for}
use Rattle.net_driver.specs.Serves.{Drive, Serves}
use Rattle.net_driver.specs.declared.chair.Chair.{Chair}
use Rattle.net_driver.proofs.CallHeard.{heard_by}
use Rattle.net_driver.proofs.Fitting.{fits_got}
use Rattle.net_driver.proofs.Placing.{dies}
use Rattle.net_driver.proofs.TakeServed.{hearer, may_hear, got, got_verdict, got_handed, dead_verdict, dead_handed}
use Rattle.net_driver.proofs.driver.Driver.take.Goals as goal

pub returns-in_default-clause-serves : goal.returns-in_default-clause-serves
returns-in_default-clause-serves c = λ s now.
    let d : Drive = c.args.self.now in
    heard_by d s c.args.player d.greatest _ d.ends now (record { more = omega arith; others = λ k ne. refl })
    (λ k t n f i. absurd (none-some k (sym
    (sym (c.key_of.ensures ∙ ap (λ (cs : List Chair). living_key (place_in cs c.args.player)) c.as_slice.ensures.value
    ∙ ap (λ (d : Drive). living_key (place_in d.chairs c.args.player)) c.self.view_is) ∙ c.in_default.is)
    ∙ ap living_key f)))
    (λ t nt fit. fits_got (table_in d.layout) s.edits d.graves t c.args.bytes.now fit)

pub returns-in_default-clause-verdict : goal.returns-in_default-clause-verdict
returns-in_default-clause-verdict c = λ s seat now at.
    c.unheard.ensures.verdict ∙ dead_verdict c.args.self.now s c.args.player seat c.args.bytes.now now at
    (sym (c.key_of.ensures ∙ ap (λ (cs : List Chair). living_key (place_in cs c.args.player)) c.as_slice.ensures.value
    ∙ ap (λ (d : Drive). living_key (place_in d.chairs c.args.player)) c.self.view_is) ∙ c.in_default.is)

pub returns-in_default-clause-handed : goal.returns-in_default-clause-handed
returns-in_default-clause-handed c = λ s seat now at.
    ap (map (handover_of c.args.self.now.layout)) c.unheard.ensures.handed
    ∙ dead_handed c.args.self.now s c.args.player seat c.args.bytes.now now at
    (sym (c.key_of.ensures ∙ ap (λ (cs : List Chair). living_key (place_in cs c.args.player)) c.as_slice.ensures.value
    ∙ ap (λ (d : Drive). living_key (place_in d.chairs c.args.player)) c.self.view_is) ∙ c.in_default.is)

pub take_at-requires : goal.take_at-requires
take_at-requires c = elim c.requires [
  | inl spent ↦ absurd (false≢true (sym c.if-self.false ∙ ap (λ (d : Drive). d.spent) c.self.view_is ∙ spent))
  | inr r ↦
      (let h = subst (λ (d : Drive). Serves d r.0) (sym c.self.view_is) r.1 in
      let x = hearer _ r.0 c.args.player c.in-Some.key h
      (sym (sym c.in-Some.is ∙ c.key_of.ensures
      ∙ ap (λ (cs : List Chair). living_key (place_in cs c.args.player)) c.as_slice.ensures.value)) in (
        x.end,
        _,
        r.0.edits,
        _,
        x.lives.before,
        x.at,
        may_hear _ r.0 x.end x.seat h x.lives,
      ))
]

pub returns-in-Ok-clause-serves : goal.returns-in-Ok-clause-serves
returns-in-Ok-clause-serves c = λ s now.
    got _ _ c.close.new.self s c.args.player c.in-Some.key c.args.bytes.now c.in-Ok.heard
    (subst (λ (d : Drive). Serves d s) (sym c.self.view_is) now)
    (sym (sym c.in-Some.is ∙ c.key_of.ensures
    ∙ ap (λ (cs : List Chair). living_key (place_in cs c.args.player)) c.as_slice.ensures.value))
    refl (λ k ne. c.take_at.ensures.others k ne)
    (λ e end edits past samples at may. c.in-Ok.ensures.heard e end edits past samples at may)
    c.close.ensures.alive c.close.ensures.ends c.close.ensures.chairs c.close.ensures.rest

pub returns-in-Ok-clause-verdict : goal.returns-in-Ok-clause-verdict
returns-in-Ok-clause-verdict c = λ s seat now at.
    got_verdict _ s c.args.player c.in-Some.key c.take_at.new.ends.slots c.args.bytes.now c.in-Ok.heard seat
    (subst (λ (d : Drive). Serves d s) (sym c.self.view_is) now)
    (sym (sym c.in-Some.is ∙ c.key_of.ensures
    ∙ ap (λ (cs : List Chair). living_key (place_in cs c.args.player)) c.as_slice.ensures.value))
    at (λ e end edits past samples at may. c.in-Ok.ensures.heard e end edits past samples at may)
    ∙ ap (λ (d : Drive). verdict_for (table_in d.layout) seat c.args.bytes.now) c.self.view_is

pub returns-in-Ok-clause-handed : goal.returns-in-Ok-clause-handed
returns-in-Ok-clause-handed c = λ s seat now at.
    subst (λ (d : Drive). map (handover_of d.layout) c.in-Ok.heard.outcome.handed
    ≡ handovers_for (table_in d.layout) s.edits seat c.args.bytes.now) c.self.view_is
    (got_handed _ s c.args.player c.in-Some.key c.take_at.new.ends.slots c.args.bytes.now c.in-Ok.heard seat
    (subst (λ (d : Drive). Serves d s) (sym c.self.view_is) now)
    (sym (sym c.in-Some.is ∙ c.key_of.ensures
    ∙ ap (λ (cs : List Chair). living_key (place_in cs c.args.player)) c.as_slice.ensures.value))
    at (λ e end edits past samples at may. c.in-Ok.ensures.heard e end edits past samples at may))

pub returns-in-Err-clause-memory : goal.returns-in-Err-clause-memory
returns-in-Err-clause-memory c = λ s now.
    dies _ c.die.new.self s c.args.player (Some c.in-Some.key)
    (subst (λ (d : Drive). Serves d s) (sym c.self.view_is) now)
    (sym c.in-Some.is ∙ c.key_of.ensures
    ∙ ap (λ (cs : List Chair). living_key (place_in cs c.args.player)) c.as_slice.ensures.value)
    (λ k ne. c.die.ensures.ends k ne ∙ c.take_at.ensures.others k (λ q. ne (ap (λ (n : ℕ). Some n) (sym q))))
    c.die.ensures.chairs c.die.ensures.rest
