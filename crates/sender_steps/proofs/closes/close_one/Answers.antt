use Rattle.std.proofs.Common.{◌≡◌, ◌≢◌, ◌∙◌, inl, inr, ◌∷◌, ◌++◌, [], ℕ, List, true, ap, sym, refl, subst}
use Rattle.std.proofs.lemmas.Bool.{cases_eq}
use Rattle.protocol_model.specs.Search.{is_among}
use Rattle.connection_model.specs.Feed.{Past}
use Rattle.connection_model.specs.Pack.{after_close}
use Rattle.connection_model.specs.State.{is_open}
use Rattle.channel_table.specs.Channels.{Channels}
use Rattle.shadow_changes.specs.Samples.{Samples, samples_of}
use Rattle.sender_laws.specs.States.{is_pending}
use Rattle.sender_records.specs.declared.actor.ActorRecord.{ActorRecord}
use Rattle.sender_records.specs.Actors.{KeepsActor}
use Rattle.sender_records.specs.Handles.{HandlesKept}
use Rattle.sender_records.specs.Life.{state_value}
use Rattle.sender_steps.specs.Sender.{Sender, record_in}
use Rattle.sender_steps.specs.Stands.{KeepsBoth}
use Rattle.sender_steps.proofs.Ends.{EndsOne, ends_one}
use Rattle.sender_steps.proofs.Goes.{close_goes_on}
use Rattle.sender_steps.proofs.Records.{everywhere}
use Rattle.sender_steps.proofs.Pushes.{pushed_itself, pushed_others}
use Rattle.sender_steps.proofs.closes.close_one.Goals as goal

-- by the record that is kept
kept : (s : Sender) (t : Channels) (past : Past) (samples : Samples) (records : List (ℕ × ActorRecord)) (a : ℕ)
    → KeepsBoth s t past samples → s.records ≡ records
    → KeepsActor past (samples_of samples a) a (record_in records a)
kept s t past samples records a both e = subst (λ (rs : List (ℕ × ActorRecord)). KeepsActor past
    (samples_of samples a) a (record_in rs a)) e (both.sender.each a)

pub end_in-requires-clause-stands : goal.end_in-requires-clause-stands
end_in-requires-clause-stands c =
    let both = c.requires.stands.3 in (
      c.requires.stands.1,
      samples_of c.requires.stands.2 c.args.actor,
      kept c.requires.stands.0 c.args.table.now c.requires.stands.1 c.requires.stands.2 c.args.records.now.entries
          c.args.actor both c.requires.stands.4,
      both.table,
      both.sender.low,
    )

pub returns-in_ok-push-clause-keeps : goal.returns-in_ok-push-clause-keeps
returns-in_ok-push-clause-keeps c = λ s past samples both rs ps live tick seen.
    let a : ℕ = c.args.actor in
    let k : KeepsActor past (samples_of samples a) a (record_in c.args.records.now.entries a) =
    kept s c.args.table.now past samples c.args.records.now.entries a both rs in
    let pushed : c.push.new.self.items ≡ s.pending ++ a ∷ [] = c.in_ok-push.ensures.items
    ∙ ap (λ (ns : List ℕ). ns ++ a ∷ []) (sym ps) in
    let one : EndsOne s c.args.table.now c.end_in.new.table (after_close past a) a c.end_in.new.records.entries
    (s.pending ++ a ∷ []) = record {
      others = λ b ne. c.in_ok-end_in.ensures.others b ne ∙ ap (λ (r : List (ℕ × ActorRecord)). record_in r b) (sym rs);
      service = c.in_ok-end_in.ensures.service ∙ ap (λ (r : List (ℕ × ActorRecord)). (record_in r a).service) (sym rs);
      handles = c.in_ok-end_in.ensures.handles ∙ ap (λ (r : List (ℕ × ActorRecord)). (record_in r a).handles) (sym rs);
      life = c.in_ok-end_in.ensures.life past (samples_of samples a) k both.table tick seen;
      was_open = λ o. subst (λ (r : List (ℕ × ActorRecord)). is_open (state_value (record_in r a).life.state) ≡ true)
          (sym rs) (c.in_ok-end_in.ensures.was_open o);
      pends = λ p. pushed_itself s.pending a;
      rest = λ b e. pushed_others s.pending a b e;
      live = live;
      table = c.in_ok-end_in.ensures.table past (samples_of samples a) k both.table tick seen;
      bound = c.in_ok-end_in.ensures.bound;
    } in
    subst (λ (ns : List ℕ). KeepsBoth (record s { records = c.end_in.new.records.entries; pending = ns })
    c.end_in.new.table (after_close past a) samples) (sym pushed)
    (ends_one s c.args.table.now c.end_in.new.table past (after_close past a) samples a c.end_in.new.records.entries
    (s.pending ++ a ∷ []) both (close_goes_on s c.args.table.now past samples both a) one)

pub returns-else-branch-clause-keeps : goal.returns-else-branch-clause-keeps
returns-else-branch-clause-keeps c = λ s past samples both rs ps live tick seen.
    let a : ℕ = c.args.actor in
    let k : KeepsActor past (samples_of samples a) a (record_in c.args.records.now.entries a) =
    kept s c.args.table.now past samples c.args.records.now.entries a both rs in
    let one : EndsOne s c.args.table.now c.end_in.new.table (after_close past a) a c.end_in.new.records.entries
    s.pending = record {
      others = λ b ne. c.in_ok-end_in.ensures.others b ne ∙ ap (λ (r : List (ℕ × ActorRecord)). record_in r b) (sym rs);
      service = c.in_ok-end_in.ensures.service ∙ ap (λ (r : List (ℕ × ActorRecord)). (record_in r a).service) (sym rs);
      handles = c.in_ok-end_in.ensures.handles ∙ ap (λ (r : List (ℕ × ActorRecord)). (record_in r a).handles) (sym rs);
      life = c.in_ok-end_in.ensures.life past (samples_of samples a) k both.table tick seen;
      was_open = λ o. subst (λ (r : List (ℕ × ActorRecord)). is_open (state_value (record_in r a).life.state) ≡ true)
          (sym rs) (c.in_ok-end_in.ensures.was_open o);
      pends = λ p. both.sender.pending a (subst (λ (r : List (ℕ × ActorRecord)). is_pending
          (state_value (record_in r a).life.state) ≡ true) (sym rs)
          (c.in_ok-end_in.ensures.pending c.if-branch.false p));
      rest = λ b e. e;
      live = live;
      table = c.in_ok-end_in.ensures.table past (samples_of samples a) k both.table tick seen;
      bound = c.in_ok-end_in.ensures.bound;
    } in
    subst (λ (ns : List ℕ). KeepsBoth (record s { records = c.end_in.new.records.entries; pending = ns })
    c.end_in.new.table (after_close past a) samples) ps
    (ends_one s c.args.table.now c.end_in.new.table past (after_close past a) samples a c.end_in.new.records.entries
    s.pending both (close_goes_on s c.args.table.now past samples both a) one)

-- the record of one actor alone has changed
module _ (a : ℕ) (now new : List (ℕ × ActorRecord)) (others : (b : ℕ) → a ≢ b → record_in new b ≡ record_in now b)
  where
    same_handles : (record_in new a).handles ≡ (record_in now a).handles → (b : ℕ)
        → (record_in new b).handles ≡ (record_in now b).handles
    same_handles e b = everywhere HandlesKept (λ (r : ActorRecord). r.handles) a now new others e b

    were_open : (is_open (state_value (record_in new a).life.state) ≡ true
        → is_open (state_value (record_in now a).life.state) ≡ true) → (b : ℕ)
        → is_open (state_value (record_in new b).life.state) ≡ true
        → is_open (state_value (record_in now b).life.state) ≡ true
    were_open h b o = elim (cases_eq a b) [
      | inl e ↦ subst (λ (x : ℕ). is_open (state_value (record_in now x).life.state) ≡ true) e
          (h (subst (λ (x : ℕ). is_open (state_value (record_in new x).life.state) ≡ true) (sym e) o))
      | inr ne ↦ sym (ap (λ (r : ActorRecord). is_open (state_value r.life.state)) (others b ne)) ∙ o
    ]

pub returns-in_ok-push-clause-handles : goal.returns-in_ok-push-clause-handles
returns-in_ok-push-clause-handles c = same_handles c.args.actor c.args.records.now.entries
    c.end_in.new.records.entries c.in_ok-end_in.ensures.others c.in_ok-end_in.ensures.handles

pub returns-else-branch-clause-handles : goal.returns-else-branch-clause-handles
returns-else-branch-clause-handles c = same_handles c.args.actor c.args.records.now.entries
    c.end_in.new.records.entries c.in_ok-end_in.ensures.others c.in_ok-end_in.ensures.handles

pub returns-in_ok-push-clause-was_open : goal.returns-in_ok-push-clause-was_open
returns-in_ok-push-clause-was_open c = were_open c.args.actor c.args.records.now.entries
    c.end_in.new.records.entries c.in_ok-end_in.ensures.others c.in_ok-end_in.ensures.was_open

pub returns-else-branch-clause-was_open : goal.returns-else-branch-clause-was_open
returns-else-branch-clause-was_open c = were_open c.args.actor c.args.records.now.entries
    c.end_in.new.records.entries c.in_ok-end_in.ensures.others c.in_ok-end_in.ensures.was_open
