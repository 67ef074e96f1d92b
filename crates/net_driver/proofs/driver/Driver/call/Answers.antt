use Rattle.std.proofs.Common.{◌≡◌, inl, inr, ℕ, ◌+◌, ◌^◌, List, map, Some, None, option_map, refl, sym, ap, ◌∙◌, subst, arith}
use Rattle.std.specs.Option.{option_copied}
use Rattle.std.specs.Prelude.{nat_le}
use Rattle.std.proofs.lemmas.Bool.{false≢true}
use Rattle.std.proofs.lemmas.Option.{none-some}
use Rattle.protocol_model.specs.Value.{call_at}
use Rattle.protocol_model.specs.World.{class_of}
use Rattle.connection_model.specs.Feed.{Past}
use Rattle.connection_model.specs.Feed as feed
use Rattle.class_layout.specs.Tables.{Layout, table_in, entries_in}
use Rattle.class_members.specs.Members.{call_of}
use Rattle.value_codec.specs.Values.{arg_of}
use Rattle.net_driver.specs.Chairs.{place_in, living_key}
use Rattle.net_driver.specs.declared.chair.Chair.{Chair}
use Rattle.table_model.specs.Facts.{IsTable}
use Rattle.net_driver.specs.Ends.{end_at}
use Rattle.net_driver.specs.Served.{Served, end_for, past_for, with_seat, heard}
use Rattle.net_driver.specs.Serves.{Drive, Serves}
use Rattle.net_driver.specs.Calls.{IsMade}
use Rattle.net_driver.proofs.Placing.{dead_is, dies}
use Rattle.net_driver.proofs.Sending.{below}
use Rattle.net_driver.proofs.CallHeard.{heard_by}
use Rattle.net_driver.proofs.Fitting.{fits_call}
use Rattle.net_driver.proofs.Meaning.{IsFitting, made_fits, fits_too, short_call}
use Rattle.net_driver.proofs.CallServed.{IsReady, ready_end, served, answers}
use Rattle.net_driver.proofs.driver.Driver.call.Goals as goal

nobody : (c : goal.In_default-key_of) → living_key (place_in c.args.self.now.chairs c.args.player) ≡ None
nobody c =
    sym (c.key_of.ensures ∙ ap (λ (cs : List Chair). living_key (place_in cs c.args.player)) c.as_slice.ensures.value
    ∙ ap (λ (d : Drive). living_key (place_in d.chairs c.args.player)) c.self.view_is)
    ∙ c.in_default-key_of.is

-- the call that was found is that of the actor's class, in each list of edits that the world stands for
found-dead : (c : goal.In_default-key_of) (s : Served) → Serves c.args.self.now s
    → Some (call_of c.in-Some.called.now)
    ≡ call_at (class_of (table_in c.args.self.now.layout) s.edits c.args.actor) c.args.call
found-dead c s now =
    let h = subst (λ (d : Drive). Serves d s) (sym c.self.view_is) now in
    c.in-Some.ensures s.edits h.world
    ∙ ap (λ (l : Layout). call_at (class_of (table_in l) s.edits c.args.actor) c.args.call) h.layout
    ∙ ap (λ (d : Drive). call_at (class_of (table_in d.layout) s.edits c.args.actor) c.args.call) c.self.view_is

fitting-dead : (c : goal.In_default-key_of) (s : Served) → Serves c.args.self.now s
    → IsFitting (table_in c.args.self.now.layout) s.edits c.args.actor c.args.call c.args.args.now
fitting-dead c s now = elim c.requires.stands [
  | inl spent ↦ absurd (false≢true (sym c.if-self.false ∙ ap (λ (d : Drive). d.spent) c.self.view_is ∙ spent))
  | inr r ↦ fits_too (table_in c.args.self.now.layout) r.0.edits s.edits c.args.actor c.args.call c.args.args.now
      (sym (found-dead c s now) ∙ found-dead c r.0 r.1)
      (made_fits (table_in c.args.self.now.layout) r.0.edits c.args.actor c.args.call c.args.args.now r.3)
]

pub returns-in_default-key_of-clause-serves : goal.returns-in_default-key_of-clause-serves
returns-in_default-key_of-clause-serves c = λ s now.
    let d : Drive = c.args.self.now in
    let tables = subst (λ (d : Drive). IsTable (entries_in d.layout)) c.self.view_is c.keeps_rules.ensures.rules in
    heard_by d s c.args.player d.greatest _ d.ends now (record { more = omega arith; others = λ k ne. refl })
    (λ k t n f i. absurd (none-some k (sym (nobody c) ∙ ap living_key f)))
    (λ t n fit. fits_call (table_in d.layout) s.edits d.graves t c.args.actor c.args.call (map arg_of c.args.args.now) fit
    (short_call d.layout s.edits d.graves t c.args.actor c.args.call c.args.args.now fit tables (fitting-dead c s now)))

pub returns-in_default-key_of-clause-answer : goal.returns-in_default-key_of-clause-answer
returns-in_default-key_of-clause-answer c = λ s seat now at. rw
    (dead_is c.args.self.now s c.args.player seat now at (nobody c)) refl

pub unreachable-requires : goal.unreachable-requires
unreachable-requires c = elim c.requires.stands [
  | inl spent ↦ absurd (false≢true (sym c.if-self.false ∙ ap (λ (d : Drive). d.spent) c.self.view_is ∙ spent))
  | inr r ↦ (let s : Served = r.0 in
      let h = subst (λ (d : Drive). Serves d s) (sym c.self.view_is) r.1 in
      let m = subst (λ (d : Drive). IsMade (table_in d.layout) s.edits c.args.actor c.args.call c.args.args.now)
      (sym c.self.view_is) r.3 in
      absurd (none-some m.call (ap (λ o. option_map call_of (option_copied o)) (sym c.in_default.is)
      ∙ c.called.ensures s.edits h.world
      ∙ ap (λ (l : Layout). call_at (class_of (table_in l) s.edits c.args.actor) c.args.call) h.layout ∙ m.there)))
]

-- the call that was found is that of the actor's class, in each list of edits that the world stands for
found : (c : goal.After-call_at-arg-2-1) (s : Served) → Serves c.args.self.now s
    → Some (call_of c.in-Some.called.now)
    ≡ call_at (class_of (table_in c.args.self.now.layout) s.edits c.args.actor) c.args.call
found c s now =
    let h = subst (λ (d : Drive). Serves d s) (sym c.self.view_is) now in
    c.in-Some.ensures s.edits h.world
    ∙ ap (λ (l : Layout). call_at (class_of (table_in l) s.edits c.args.actor) c.args.call) h.layout
    ∙ ap (λ (d : Drive). call_at (class_of (table_in d.layout) s.edits c.args.actor) c.args.call) c.self.view_is

ready : (c : goal.After-call_at-arg-2-1) (s : Served) → Serves c.args.self.now s
    → IsReady c.args.self.now s c.args.player c.args.actor c.args.call c.in-Some-key_of.key c.in-Some.called.now
    c.args.args.now
ready c s now = record {
  serves = now;
  key_is = sym (sym c.in-Some-key_of.is ∙ c.key_of.ensures
      ∙ ap (λ (cs : List Chair). living_key (place_in cs c.args.player)) c.as_slice.ensures.value
      ∙ ap (λ (d : Drive). living_key (place_in d.chairs c.args.player)) c.self.view_is);
  tables = subst (λ (d : Drive). IsTable (entries_in d.layout)) c.self.view_is c.keeps_rules.ensures.rules;
  fits = elim c.requires.stands [
    | inl spent ↦ absurd (false≢true (sym c.if-self.false ∙ ap (λ (d : Drive). d.spent) c.self.view_is ∙ spent))
    | inr r ↦ fits_too (table_in c.args.self.now.layout) r.0.edits s.edits c.args.actor c.args.call c.args.args.now
        (sym (found c s now)
        ∙ found c r.0 r.1)
        (made_fits (table_in c.args.self.now.layout) r.0.edits c.args.actor c.args.call c.args.args.now r.3)
  ];
  found = found c s now;
  few = (let b = below c.args.self.now.greatest
      (ap (λ (d : Drive). nat_le (2 ^ 59) d.greatest) (sym c.self.view_is) ∙ sym c.is_past.ensures ∙ c.if-is_past.false) in
      omega (arith, b));
}

pub call_at-requires : goal.call_at-requires
call_at-requires c = elim c.requires.stands [
  | inl spent ↦ absurd (false≢true (sym c.if-self.false ∙ ap (λ (d : Drive). d.spent) c.self.view_is ∙ spent))
  | inr r ↦
      (let x = ready_end c.args.self.now r.0 c.args.player c.args.actor c.args.call c.in-Some-key_of.key
      c.in-Some.called.now c.args.args.now (ready c r.0 r.1) in (
        x.end,
        end_for (table_in c.args.self.now.layout) x.seat,
        past_for (table_in c.args.self.now.layout) x.seat,
        x.samples,
        ap (λ (d : Drive). end_at d.ends c.in-Some-key_of.key) c.self.view_is ∙ x.at,
        x.is,
      ))
]

-- the call that was found is that of the actor's class, in each list of edits that the world stands for
found-done : (c : goal.After-self-1) (s : Served) → Serves c.args.self.now s
    → Some (call_of c.in-Some.called.now)
    ≡ call_at (class_of (table_in c.args.self.now.layout) s.edits c.args.actor) c.args.call
found-done c s now =
    let h = subst (λ (d : Drive). Serves d s) (sym c.self.view_is) now in
    c.in-Some.ensures s.edits h.world
    ∙ ap (λ (l : Layout). call_at (class_of (table_in l) s.edits c.args.actor) c.args.call) h.layout
    ∙ ap (λ (d : Drive). call_at (class_of (table_in d.layout) s.edits c.args.actor) c.args.call) c.self.view_is

ready-done : (c : goal.After-self-1) (s : Served) → Serves c.args.self.now s
    → IsReady c.args.self.now s c.args.player c.args.actor c.args.call c.in-Some-key_of.key c.in-Some.called.now
    c.args.args.now
ready-done c s now = record {
  serves = now;
  key_is = sym (sym c.in-Some-key_of.is ∙ c.key_of.ensures
      ∙ ap (λ (cs : List Chair). living_key (place_in cs c.args.player)) c.as_slice.ensures.value
      ∙ ap (λ (d : Drive). living_key (place_in d.chairs c.args.player)) c.self.view_is);
  tables = subst (λ (d : Drive). IsTable (entries_in d.layout)) c.self.view_is c.keeps_rules.ensures.rules;
  fits = elim c.requires.stands [
    | inl spent ↦ absurd (false≢true (sym c.if-self.false ∙ ap (λ (d : Drive). d.spent) c.self.view_is ∙ spent))
    | inr r ↦ fits_too (table_in c.args.self.now.layout) r.0.edits s.edits c.args.actor c.args.call c.args.args.now
        (sym (found-done c s now)
        ∙ found-done c r.0 r.1)
        (made_fits (table_in c.args.self.now.layout) r.0.edits c.args.actor c.args.call c.args.args.now r.3)
  ];
  found = found-done c s now;
  few = (let b = below c.args.self.now.greatest
      (ap (λ (d : Drive). nat_le (2 ^ 59) d.greatest) (sym c.self.view_is) ∙ sym c.is_past.ensures ∙ c.if-is_past.false) in
      omega (arith, b));
}

pub returns-in-Ok-clause-serves : goal.returns-in-Ok-clause-serves
returns-in-Ok-clause-serves c = λ s now.
    subst (λ (d : Drive). Serves (record d { ends = c.call_at.new.ends.slots; greatest = d.greatest + 8192 })
    (with_seat (heard (feed.Call c.args.actor c.args.call (map arg_of c.args.args.now))) c.args.player s))
    (sym c.self.view_is)
    (served c.args.self.now s c.args.player c.args.actor c.args.call c.in-Some-key_of.key c.in-Some.called.now
    c.args.args.now c.call_at.new.ends.slots
    (ready-done c s now)
    (λ k ne. c.in-Ok.ensures.others k ne ∙ ap (λ (d : Drive). end_at d.ends k) c.self.view_is)
    (λ e end past samples at is. c.in-Ok.ensures.stands e end past samples
    (ap (λ (d : Drive). end_at d.ends c.in-Some-key_of.key) c.self.view_is ∙ at) is))

pub returns-in-Ok-clause-answer : goal.returns-in-Ok-clause-answer
returns-in-Ok-clause-answer c = λ s seat now at.
    answers c.args.self.now s c.args.player c.args.actor c.args.call c.in-Some-key_of.key c.in-Some.called.now
    c.args.args.now c.in-Ok.answer seat
    (ready-done c s now) at
    (λ e end past samples at is. c.in-Ok.ensures.answer e end past samples
    (ap (λ (d : Drive). end_at d.ends c.in-Some-key_of.key) c.self.view_is ∙ at) is)

pub returns-then-is_past-clause-memory : goal.returns-then-is_past-clause-memory
returns-then-is_past-clause-memory c = λ s now.
    dies c.args.self.now c.die.new.self s c.args.player (Some c.in-Some-key_of.key) now
    (sym c.in-Some-key_of.is ∙ c.key_of.ensures
    ∙ ap (λ (cs : List Chair). living_key (place_in cs c.args.player)) c.as_slice.ensures.value
    ∙ ap (λ (d : Drive). living_key (place_in d.chairs c.args.player)) c.self.view_is)
    c.die.ensures.ends c.die.ensures.chairs c.die.ensures.rest

pub returns-in-Err-clause-memory : goal.returns-in-Err-clause-memory
returns-in-Err-clause-memory c = λ s now.
    dies _ c.die-in-Err.new.self s c.args.player (Some c.in-Some-key_of.key)
    (subst (λ (d : Drive). Serves d s) (sym c.self.view_is) now)
    (sym c.in-Some-key_of.is ∙ c.key_of.ensures
    ∙ ap (λ (cs : List Chair). living_key (place_in cs c.args.player)) c.as_slice.ensures.value)
    (λ k ne. c.die-in-Err.ensures.ends k ne ∙ c.call_at.ensures.others k (λ q. ne (ap (λ (n : ℕ). Some n) (sym q))))
    c.die-in-Err.ensures.chairs c.die-in-Err.ensures.rest
