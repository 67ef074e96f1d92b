-- One more actor hears of what has arrived, and gives its channel up where its close has ended.
use Rattle.std.proofs.Common.{◌≡◌, ◌≢◌, ◌⊎◌, inl, inr, ◌∙◌, ℕ, zero, suc, ◌+◌, ◌≤◌, List, [], ◌∷◌, Bool, true, cond, ◌||◌, ap, sym, refl, subst, arith, length, Option, Some, None}
use Rattle.std.specs.List.{slice_get}
use Rattle.std.proofs.lemmas.Bool.{cases_eq, eq-eqb, ne_eqb}
use Rattle.protocol_model.specs.Side.{AtServer}
use Rattle.protocol_model.specs.Search.{is_among}
use Rattle.connection_model.specs.Feed.{Past}
use Rattle.connection_model.specs.State.{is_open}
use Rattle.channel_table.specs.Channels.{Channels}
use Rattle.channel_table.specs.Keeps.{Keeps}
use Rattle.channel_table.specs.Holders.{Bound, channel_bound, actor_bound, IsPaired}
use Rattle.sender_laws.specs.States.{is_pending}
use Rattle.sender_records.specs.declared.actor.ActorRecord.{ActorRecord}
use Rattle.sender_records.specs.declared.service.Service.{Service}
use Rattle.sender_records.specs.Life.{KeepsLife, state_value}
use Rattle.sender_records.specs.Handles.{HandlesKept}
use Rattle.sender_steps.specs.Sender.{record_in}
use Rattle.sender_steps.proofs.Records.{everywhere}
use Rattle.sender_steps.specs.Hearing.{Hearing, IsGrown, IsUnbound, given_up}

-- ---- what is left of a list from a place on

abbrev pub left_at : ℕ → List ℕ → List ℕ
left_at zero xs = xs
left_at (suc n) [] = []
left_at (suc n) (x ∷ xs) = left_at n xs

pub at_place : (xs : List ℕ) (i x : ℕ) → slice_get xs i ≡ Some x → left_at i xs ≡ x ∷ left_at (i + 1) xs
at_place [] i x e = absurd (let no : (let o : Option ℕ = None in o) ≡ Some x = e in cc)
at_place (y ∷ xs) zero x e = (let same : y ≡ x = cc in ap (λ (z : ℕ). z ∷ xs) same)
at_place (y ∷ xs) (suc i) x e =
    let n : suc (i + 1) ≡ suc i + 1 = omega arith in
    subst (λ (n : ℕ). left_at (suc i) (y ∷ xs) ≡ x ∷ left_at n (y ∷ xs)) n (at_place xs i x e)

pub none_left : (xs : List ℕ) (i : ℕ) → length xs ≤ i → left_at i xs ≡ []
none_left [] zero h = refl
none_left [] (suc i) h = refl
none_left (x ∷ xs) zero h = absurd (omega (arith, h))
none_left (x ∷ xs) (suc i) h = none_left xs i (omega (arith, h))

-- ---- the table

with_bound : (t : Channels) (bound : Bound) (past : Past) → Keeps t AtServer past
    → Keeps (record t { bound = bound }) AtServer past
with_bound t bound past k = record { made = k.made; got = k.got; high = k.high }

unbound_keeps : (t later : Channels) (before after : Option ℕ) (past : Past) → IsUnbound before after t later
    → Keeps t AtServer past → Keeps later AtServer past
unbound_keeps t later before after past u k = subst (λ (x : Channels). Keeps x AtServer past) (sym u.rest)
    (with_bound t later.bound past k)

-- the channels of all, by indexes of which one is given up
bound_next : (t later : Channels) (old new : ℕ → Option ℕ) (x : ℕ) → ((a : ℕ) → channel_bound t.bound a ≡ old a)
    → IsPaired t.bound
    → ((a : ℕ) → x ≢ a → new a ≡ old a) → (new x ≡ old x) ⊎ (new x ≡ None) → IsUnbound (old x) (new x) t later
    → (a : ℕ) → channel_bound later.bound a ≡ new a
bound_next t later old new x bound paired others own u a = u.channels a ∙ ap (given_up (old x) (new x)) (bound a)
    ∙ by (cases_eq x a)
  where
    itself : (b n : Option ℕ) → (n ≡ b) ⊎ (n ≡ None) → given_up b n b ≡ n
    itself None None e = refl
    itself None (Some k) (inl e) = sym e
    itself None (Some k) (inr e) = sym e
    itself (Some ch) None e = ap (λ (t : Bool). cond t None (Some ch)) (eq-eqb ch ch refl)
    itself (Some ch) (Some k) (inl e) = sym e
    itself (Some ch) (Some k) (inr e) = absurd (let no : Some k ≡ None = e in cc)

    other : (b n : Option ℕ) → old x ≡ b → x ≢ a → (o : Option ℕ) → old a ≡ o → given_up b n o ≡ o
    other None n p ne o e = refl
    other (Some ch) (Some k) p ne o e = refl
    other (Some ch) None p ne None e = refl
    other (Some ch) None p ne (Some k) e = ap (λ (t : Bool). cond t None (Some k)) (ne_eqb k ch (λ q. ne (held q)))
      where
        held : k ≡ ch → x ≡ a
        held q =
            let one : actor_bound t.bound ch ≡ Some x = paired.forth x ch (bound x ∙ p) in
            let two : actor_bound t.bound ch ≡ Some a = paired.forth a ch (bound a ∙ e ∙ ap (λ (i : ℕ). Some i) q) in
            let both : Some x ≡ Some a = sym one ∙ two in
            cc

    by : (x ≡ a) ⊎ (x ≢ a) → given_up (old x) (new x) (old a) ≡ new a
    by (inl e) = subst (λ (b : ℕ). given_up (old x) (new x) (old b) ≡ new b) e (itself (old x) (new x) own)
    by (inr ne) = other (old x) (new x) refl ne (old a) refl ∙ sym (others a ne)

-- ---- one more actor hears

-- what the first so many of the actors heard
pub record Hears (pending : List ℕ) (count : ℕ) (start now : List (ℕ × ActorRecord))
    (before t : Channels) : Type 0 where
  pub service : (a : ℕ) → (record_in now a).service ≡ (record_in start a).service
  pub handles : (a : ℕ) → (record_in now a).handles ≡ (record_in start a).handles
  pub same_open : (a : ℕ) → is_open (state_value (record_in now a).life.state) ≡ is_open
      (state_value (record_in start a).life.state)
  pub waiting : t.waiting ≡ before.waiting
  pub made : t.made ≡ before.made
  pub hears : (past later : Past) → IsGrown past later → Hearing past later pending start before
      → Hearing past later (left_at count pending) now t

-- what one actor heard
pub record HearsOne (x : ℕ) (now new : List (ℕ × ActorRecord)) (t after : Channels) : Type 0 where
  pub others : (a : ℕ) → x ≢ a → record_in new a ≡ record_in now a
  pub service : (record_in new x).service ≡ (record_in now x).service
  pub handles : (record_in new x).handles ≡ (record_in now x).handles
  pub same_open : is_open (state_value (record_in new x).life.state) ≡ is_open
      (state_value (record_in now x).life.state)
  pub index : ((record_in new x).life.index ≡ (record_in now x).life.index) ⊎ ((record_in new x).life.index ≡ None)
  pub table : IsUnbound (record_in now x).life.index (record_in new x).life.index t after
  pub keeps : (past later : Past) → IsGrown past later → Keeps t AtServer later
      → KeepsLife past x (record_in now x).life → KeepsLife later x (record_in new x).life

hearing_next : (past later : Past) (x : ℕ) (left : List ℕ) (now new : List (ℕ × ActorRecord)) (t after : Channels)
    → IsGrown past later → HearsOne x now new t after
    → Hearing past later (x ∷ left) now t → Hearing past later left new after
hearing_next past later x left now new t after g one h = record {
  each = each;
  table = unbound_keeps t after (index_now x) (index_new x) later one.table h.table;
  bound = bound_next t after index_now index_new x h.bound h.paired
      (λ a ne. ap (λ (r : ActorRecord). r.life.index) (one.others a ne)) one.index one.table;
  paired = one.table.paired h.paired;
}
  where
    index_now : ℕ → Option ℕ
    index_now a = (record_in now a).life.index

    index_new : ℕ → Option ℕ
    index_new a = (record_in new a).life.index

    own : KeepsLife later x (record_in new x).life
    own = elim (h.each x) [
      | inl k ↦ one.keeps later later (record { done = refl; grows = λ ch n q. q }) h.table k
      | inr q ↦ one.keeps past later g h.table q.0
    ]

    left_out : (a : ℕ) → x ≢ a → is_among a (x ∷ left) ≡ true → is_among a left ≡ true
    left_out a ne e = sym (ap (λ (b : Bool). b || is_among a left) (ne_eqb x a ne)) ∙ e

    before : (a : ℕ) → x ≢ a → KeepsLife later a (record_in now a).life
        ⊎ (KeepsLife past a (record_in now a).life × (is_pending (state_value (record_in now a).life.state) ≡ true
        → is_among a left ≡ true))
    before a ne = elim (h.each a) [
      | inl k ↦ inl k
      | inr q ↦ inr (q.0, λ p. left_out a ne (q.1 p))
    ]

    each : (a : ℕ) → KeepsLife later a (record_in new a).life
        ⊎ (KeepsLife past a (record_in new a).life × (is_pending (state_value (record_in new a).life.state) ≡ true
        → is_among a left ≡ true))
    each a = elim (cases_eq x a) [
      | inl e ↦ inl (subst (λ (b : ℕ). KeepsLife later b (record_in new b).life) e own)
      | inr ne ↦ subst (λ (r : ActorRecord). KeepsLife later a r.life
          ⊎ (KeepsLife past a r.life × (is_pending (state_value r.life.state) ≡ true → is_among a left ≡ true)))
          (sym (one.others a ne)) (before a ne)
    ]

pub hears_next : (pending : List ℕ) (count x : ℕ) (start now new : List (ℕ × ActorRecord)) (before t after : Channels)
    → slice_get pending count ≡ Some x
    → HearsOne x now new t after → Hears pending count start now before t
    → Hears pending (count + 1) start new before after
hears_next pending count x start now new before t after at one h = record {
  service = λ a. everywhere Service (λ (r : ActorRecord). r.service) x now new one.others one.service a ∙ h.service a;
  handles = λ a. everywhere HandlesKept (λ (r : ActorRecord). r.handles) x now new one.others one.handles a
      ∙ h.handles a;
  same_open = λ a. everywhere Bool (λ (r : ActorRecord). is_open (state_value r.life.state)) x now new one.others
      one.same_open a ∙ h.same_open a;
  waiting = ap (λ (u : Channels). u.waiting) one.table.rest ∙ h.waiting;
  made = ap (λ (u : Channels). u.made) one.table.rest ∙ h.made;
  hears = λ past later g m. hearing_next past later x (left_at (count + 1) pending) now new t after g one
      (subst (λ (xs : List ℕ). Hearing past later xs now t) (at_place pending count x at) (h.hears past later g m));
}
