-- Copies go on agreeing with the channels' users, payload by payload.
use Rattle.std.proofs.Common.{◌≡◌, inl, inr, ℕ, ◌==◌, ◌&&◌, List, [], Bool, true, false, refl, sym, ap, ◌∙◌, subst, Option, Some, None}
use Rattle.std.specs.Prelude.{is_some}
use Rattle.std.specs.List.{filter_map, cons_option}
use Rattle.std.specs.Bool.{then_some}
use Rattle.std.proofs.lemmas.Bool.{false≢true, cases_eq, eq-eqb, ne_eqb, eqb-true, and_parts}
use Rattle.protocol_model.specs.Value.{Segment, Class, Call, Arg, Pair}
use Rattle.protocol_model.specs.Payload.{Message, Opens, Closes, Updates, Calls, Gone, actor_of}
use Rattle.connection_model.specs.Feed.{Past, Delivered}
use Rattle.connection_model.specs.Copies.{delivered_of, has_copy, copy_channel, copy_on}
use Rattle.connection_laws.specs.Delivered.{Numbered}
use Rattle.connection_laws.specs.InTurn.{user_said, user_of}
use Rattle.payload_laws.specs.Applied.{Applied}
use Rattle.payload_laws.proofs.CopiesAfter.{channel_none, closes_removes, gone_removes, open_class, open_channel, update_class, update_channel, sleep_channel, others_stay, calls_stay}
use Rattle.payload_laws.proofs.CopyOn.{copy_holds, none_holds}
use Rattle.headline_laws.specs.Agree.{applied_in, user_at, CopiesAgree, ComesInTurn}

-- nothing is not something
none_some : (n : ℕ) → (let o : Option ℕ = None in o) ≡ Some n → ⊥
none_some n e = cc

-- what is found is one
some_is : (x y : ℕ) → (let o : Option ℕ = Some x in o) ≡ Some y → x ≡ y
some_is x y e = cc

-- ---- the holder of a channel is its user

-- the copy that holds a channel is that of its user
pub holder_is_user : (past : Past) → CopiesAgree past → (ch : ℕ) → copy_on past ch ≡ user_at past ch
holder_is_user past h ch = by (user_at past ch) refl
  where
    by : (o : Option ℕ) → user_at past ch ≡ o → copy_on past ch ≡ o
    by None e = none_holds past ch (λ a has q. none_some a (sym e ∙ h.held ch a q))
    by (Some a) e = (let c = h.holds ch a e in copy_holds past ch a c.0 c.1 (λ b has q. some_is b a (sym (h.held ch b q) ∙ e)))

-- copies and users agree at first
pub agree_start : CopiesAgree []
agree_start = record { holds = λ ch a e. absurd (none_some a e); held = λ ch a e. absurd (none_some ch e) }

-- ---- one more payload

module _ (past later : Past) (d : Delivered) (applied : Applied past later d) (h : CopiesAgree past) where
  user_is : (ch : ℕ) → user_at later ch ≡ user_of (cons_option (applied_in ch d) (filter_map (applied_in ch) (delivered_of past)))
  user_is ch = ap (λ (ds : List Delivered). user_of (filter_map (applied_in ch) ds)) applied

  -- where the payload says nothing of the user, or is of another channel
  user_same : (ch : ℕ) → ((d.channel ≡ ch) → user_said d.message ≡ None) → user_at later ch ≡ user_at past ch
  user_same ch quiet = user_is ch ∙ by (d.channel == ch && d.reliable) (λ e. quiet e) refl
    where
      said : (o : Option (Option ℕ)) → o ≡ None → (let x : Option ℕ = elim o [ Some user ↦ user | None ↦ user_at past ch ] in x) ≡ user_at past ch
      said None e = refl
      said (Some x) e = absurd (let never : (let p : Option (Option ℕ) = Some x in p) ≡ None = e in cc)

      by : (b : Bool) → (d.channel ≡ ch → user_said d.message ≡ None) → (d.channel == ch && d.reliable) ≡ b → user_of (cons_option (then_some b (let x : Numbered = (0, d.message) in x)) (filter_map (applied_in ch) (delivered_of past))) ≡ user_at past ch
      by false q e = refl
      by true q e = said (user_said d.message) (q (eqb-true d.channel ch (and_parts (d.channel == ch) d.reliable e).0))

  -- where it says who the user is
  user_new : (u : Option ℕ) → d.reliable ≡ true → user_said d.message ≡ Some u → user_at later d.channel ≡ u
  user_new u r s = user_is d.channel ∙ by (d.channel == d.channel) d.reliable (eq-eqb d.channel d.channel refl) r
    where
      said : (o : Option (Option ℕ)) → o ≡ Some u → (let x : Option ℕ = elim o [ Some user ↦ user | None ↦ user_at past d.channel ] in x) ≡ u
      said None e = absurd (let never : (let p : Option (Option ℕ) = None in p) ≡ Some u = e in cc)
      said (Some x) e = cc

      by : (a b : Bool) → a ≡ true → b ≡ true → user_of (cons_option (then_some (a && b) (let x : Numbered = (0, d.message) in x)) (filter_map (applied_in d.channel) (delivered_of past))) ≡ u
      by true true p q = said (user_said d.message) s
      by true false p q = absurd (false≢true q)
      by false b p q = absurd (false≢true p)

  -- the copies of others stay
  other_copy : (b : ℕ) → (actor_of d.message ≡ b → ⊥) → has_copy later b ≡ has_copy past b
  other_copy b ne = ap (λ (o : Option Class). is_some o) (others_stay past later d b applied (ne_eqb (actor_of d.message) b ne)).class

  other_channel : (b : ℕ) → (actor_of d.message ≡ b → ⊥) → copy_channel later b ≡ copy_channel past b
  other_channel b ne = (others_stay past later d b applied (ne_eqb (actor_of d.message) b ne)).channel

  -- nothing changes
  all_same : ((ch : ℕ) → user_at later ch ≡ user_at past ch) → ((b : ℕ) → has_copy later b ≡ has_copy past b) → ((b : ℕ) → copy_channel later b ≡ copy_channel past b) → CopiesAgree later
  all_same u c k = record {
    holds = λ ch a e. (let q = h.holds ch a (sym (u ch) ∙ e) in (c a ∙ q.0, k a ∙ q.1));
    held = λ ch a e. u ch ∙ h.held ch a (sym (k a) ∙ e);
  }

  open_agrees : (exports : List Segment) (a : ℕ) (class : Class) (values : List Pair) → d.message ≡ Opens exports a class values → d.reliable ≡ true → user_at past d.channel ≡ None → copy_channel past a ≡ None → CopiesAgree later
  open_agrees exports a class values m r free out = record { holds = holds; held = held }
    where
      actor : actor_of d.message ≡ a
      actor = ap actor_of m

      used : user_at later d.channel ≡ Some a
      used = user_new (Some a) r (ap user_said m)

      elsewhere : (ch : ℕ) → (d.channel ≡ ch → ⊥) → user_at later ch ≡ user_at past ch
      elsewhere ch ne = user_same ch (λ e. absurd (ne e))

      holds : (ch b : ℕ) → user_at later ch ≡ Some b → (has_copy later b ≡ true) × (copy_channel later b ≡ Some ch)
      holds ch b e = elim (cases_eq d.channel ch) [
        | inl q ↦ (
            let same : a ≡ b = some_is a b (sym used ∙ ap (user_at later) q ∙ e) in
            subst (λ (x : ℕ). (has_copy later x ≡ true) × (copy_channel later x ≡ Some ch)) same
            (ap (λ (o : Option Class). is_some o) (open_class past later d exports a class values applied m), open_channel past later d exports a class values applied m ∙ ap (λ (n : ℕ). Some n) q))
        | inr ne ↦ before b (h.holds ch b (sym (elsewhere ch ne) ∙ e))
      ]
        where
          before : (b : ℕ) → (has_copy past b ≡ true) × (copy_channel past b ≡ Some ch) → (has_copy later b ≡ true) × (copy_channel later b ≡ Some ch)
          before b c = (other_copy b other ∙ c.0, other_channel b other ∙ c.1)
            where
              other : actor_of d.message ≡ b → ⊥
              other q = none_some ch (sym out ∙ ap (copy_channel past) (sym actor ∙ q) ∙ c.1)

      held : (ch b : ℕ) → copy_channel later b ≡ Some ch → user_at later ch ≡ Some b
      held ch b e = elim (cases_eq a b) [
        | inl q ↦ (
            let at : d.channel ≡ ch = some_is d.channel ch (sym (open_channel past later d exports a class values applied m) ∙ ap (copy_channel later) q ∙ e) in
            ap (user_at later) (sym at) ∙ used ∙ ap (λ (n : ℕ). Some n) q)
        | inr ne ↦ (
            let before : user_at past ch ≡ Some b = h.held ch b (sym (other_channel b (λ q. ne (sym actor ∙ q))) ∙ e) in
            elsewhere ch (λ q. none_some b (sym free ∙ ap (user_at past) q ∙ before)) ∙ before)
      ]

  close_agrees : (a : ℕ) (sleeps : Bool) → d.message ≡ Closes a sleeps → d.reliable ≡ true → user_at past d.channel ≡ Some a → CopiesAgree later
  close_agrees a sleeps m r user = record { holds = holds; held = held }
    where
      actor : actor_of d.message ≡ a
      actor = ap actor_of m

      unused : user_at later d.channel ≡ None
      unused = user_new None r (ap user_said m)

      elsewhere : (ch : ℕ) → (d.channel ≡ ch → ⊥) → user_at later ch ≡ user_at past ch
      elsewhere ch ne = user_same ch (λ e. absurd (ne e))

      gone : (s : Bool) → d.message ≡ Closes a s → copy_channel later a ≡ None
      gone true m = sleep_channel past later d a applied m
      gone false m = channel_none past later d a applied (closes_removes d a m)

      holds : (ch b : ℕ) → user_at later ch ≡ Some b → (has_copy later b ≡ true) × (copy_channel later b ≡ Some ch)
      holds ch b e = elim (cases_eq d.channel ch) [
        | inl q ↦ absurd (none_some b (sym unused ∙ ap (user_at later) q ∙ e))
        | inr ne ↦ (
            let c = h.holds ch b (sym (elsewhere ch ne) ∙ e) in
            let other : actor_of d.message ≡ b → ⊥ = λ q. ne (some_is d.channel ch (sym (h.holds d.channel a user).1 ∙ ap (copy_channel past) (sym actor ∙ q) ∙ c.1)) in
            (other_copy b other ∙ c.0, other_channel b other ∙ c.1))
      ]

      held : (ch b : ℕ) → copy_channel later b ≡ Some ch → user_at later ch ≡ Some b
      held ch b e = elim (cases_eq a b) [
        | inl q ↦ absurd (none_some ch (sym (gone sleeps m) ∙ ap (copy_channel later) q ∙ e))
        | inr ne ↦ (
            let before : user_at past ch ≡ Some b = h.held ch b (sym (other_channel b (λ q. ne (sym actor ∙ q))) ∙ e) in
            elsewhere ch (λ q. ne (some_is a b (sym user ∙ ap (user_at past) q ∙ before))) ∙ before)
      ]

  gone_agrees : (a : ℕ) → d.message ≡ Gone a → copy_channel past a ≡ None → CopiesAgree later
  gone_agrees a m out = record { holds = holds; held = held }
    where
      actor : actor_of d.message ≡ a
      actor = ap actor_of m

      same : (ch : ℕ) → user_at later ch ≡ user_at past ch
      same ch = user_same ch (λ e. ap user_said m)

      holds : (ch b : ℕ) → user_at later ch ≡ Some b → (has_copy later b ≡ true) × (copy_channel later b ≡ Some ch)
      holds ch b e = (
          let c = h.holds ch b (sym (same ch) ∙ e) in
          let other : actor_of d.message ≡ b → ⊥ = λ q. none_some ch (sym out ∙ ap (copy_channel past) (sym actor ∙ q) ∙ c.1) in
          (other_copy b other ∙ c.0, other_channel b other ∙ c.1))

      held : (ch b : ℕ) → copy_channel later b ≡ Some ch → user_at later ch ≡ Some b
      held ch b e = elim (cases_eq a b) [
        | inl q ↦ absurd (none_some ch (sym (channel_none past later d a applied (gone_removes d a m)) ∙ ap (copy_channel later) q ∙ e))
        | inr ne ↦ same ch ∙ h.held ch b (sym (other_channel b (λ q. ne (sym actor ∙ q))) ∙ e)
      ]

  update_agrees : (a : ℕ) (class : Class) (values : List Pair) → d.message ≡ Updates a class values → CopiesAgree later
  update_agrees a class values m = all_same (λ ch. user_same ch (λ e. ap user_said m)) copy channel
    where
      copy : (b : ℕ) → has_copy later b ≡ has_copy past b
      copy b = elim (cases_eq a b) [
        | inl q ↦ subst (λ (x : ℕ). has_copy later x ≡ has_copy past x) q (ap (λ (o : Option Class). is_some o) (update_class past later d a class values applied m))
        | inr ne ↦ other_copy b (λ q. ne (sym (ap actor_of m) ∙ q))
      ]

      channel : (b : ℕ) → copy_channel later b ≡ copy_channel past b
      channel b = elim (cases_eq a b) [
        | inl q ↦ subst (λ (x : ℕ). copy_channel later x ≡ copy_channel past x) q (update_channel past later d a class values applied m)
        | inr ne ↦ other_channel b (λ q. ne (sym (ap actor_of m) ∙ q))
      ]

  call_agrees : (a n : ℕ) (call : Call) (args : List Arg) → d.message ≡ Calls a n call args → CopiesAgree later
  call_agrees a n call args m =
      all_same (λ ch. user_same ch (λ e. ap user_said m)) (λ b. ap (λ (o : Option Class). is_some o) (calls_stay past later d a n call args b applied m).class) (λ b. (calls_stay past later d a n call args b applied m).channel)

  agrees_by : (m : Message) → d.message ≡ m → ComesInTurn past d m → CopiesAgree later
  agrees_by (Opens exports a class values) m t = open_agrees exports a class values m t.0 t.1 t.2
  agrees_by (Closes a sleeps) m t = close_agrees a sleeps m t.0 t.1
  agrees_by (Updates a class values) m t = update_agrees a class values m
  agrees_by (Calls a n call args) m t = call_agrees a n call args m
  agrees_by (Gone a) m t = gone_agrees a m t

  pub agrees_on : ComesInTurn past d d.message → CopiesAgree later
  agrees_on t = agrees_by d.message refl t
