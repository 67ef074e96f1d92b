-- A sender that took in a sight and made the closes that it calls for.
use Rattle.std.proofs.Common.{◌≡◌, ◌∙◌, ℕ, ◌+◌, ◌≤◌, List, map, length, true, false, ap, sym, refl, subst, arith}
use Rattle.std.specs.List.{list_any}
use Rattle.protocol_model.specs.Side.{AtServer}
use Rattle.protocol_model.specs.Sight.{Seen}
use Rattle.connection_model.specs.Feed.{End, Past, tick_count}
use Rattle.connection_model.specs.State.{is_open}
use Rattle.connection_laws.specs.Run.{Ascends}
use Rattle.packing_laws.specs.Beginning.{ticked}
use Rattle.channel_laws.proofs.Alike.{alike_ticked}
use Rattle.class_layout.specs.Tables.{Layout}
use Rattle.link_end.specs.Link.{Link}
use Rattle.channel_table.specs.Channels.{Channels}
use Rattle.channel_table.specs.Keeps.{Keeps as KeepsTable}
use Rattle.channel_table.proofs.Kept.{keeps_unseen}
use Rattle.shadow_changes.specs.Samples.{Shadows, Samples}
use Rattle.sender_records.specs.declared.life.Life.{Life}
use Rattle.sender_records.specs.Life.{state_value}
use Rattle.sender_records.specs.Handles.{HandlesKept}
use Rattle.turn_laws.specs.Turns.{closed_up}
use Rattle.sender_steps.specs.declared.sight.Seen.{Seen as SeenValue}
use Rattle.sender_steps.specs.declared.sent.OpenSent.{OpenSent}
use Rattle.sender_steps.specs.Sender.{Sender, record_at, state_kept}
use Rattle.sender_steps.specs.Sights.{sight_value, actors_in}
use Rattle.sender_steps.specs.Stands.{Keeps, KeepsBoth, makes_known}
use Rattle.sender_turns.proofs.Unserved.{actors_ascend}
use Rattle.actor_sender.specs.Serving.{IsCounted, MayBegin}
use Rattle.actor_sender.proofs.Same.{arrivals_closed, tells}

-- the sight was taken in
pub record TookIn (before s : Sender) (t : Channels) (sight : List SeenValue) : Type 0 where
  pub keeps : (layout : Layout) (past : Past) (samples : Samples) → Keeps before past samples
      → KeepsTable t AtServer past → Ascends 0 (actors_in sight)
      → Keeps s (ticked past (sight_value layout sight)) samples
  pub rest : (past : Past) (samples : Samples) → Keeps before past samples → KeepsTable t AtServer past → (g : ℕ)
      → list_any (makes_known past g) s.opens ≡ false
  pub handles : (a : ℕ) → (record_at s a).handles ≡ (record_at before a).handles
  pub life : (a : ℕ) → (record_at s a).life ≡ (record_at before a).life

-- the closes were made
pub record MadeCloses (before s : Sender) (t told : Channels) : Type 0 where
  pub rest : s ≡ record before { records = s.records; pending = s.pending }
  pub handles : (a : ℕ) → (record_at s a).handles ≡ (record_at before a).handles
  pub was_open : (a : ℕ) → is_open (state_kept s a) ≡ true → is_open (state_kept before a) ≡ true
  pub waiting : told.waiting ≡ t.waiting

module _ (s0 s1 : Sender) (l : Link) (t : Channels) (layout : Layout) (changes : Shadows) (sight : List SeenValue)
    (end : End) (past : Past) (samples : Samples) (h : MayBegin s0 l t layout changes sight end past samples)
    (took : TookIn s0 s1 t sight) where
  abbrev given : List Seen
  given = sight_value layout sight

  pub ascends : Ascends 0 (actors_in sight)
  ascends = actors_ascend layout sight 0 h.fed.is_sight

  pub taken : KeepsBoth s1 t (ticked past given) samples
  taken = record {
    sender = took.keeps layout past samples h.stands.sender h.stands.table.bunches ascends;
    table = keeps_unseen t AtServer past (ticked past given) (alike_ticked (tick_count past + 1) given past)
        (record { received = λ ch. refl; channels = refl; handed = refl }) h.stands.table.bunches;
    bound = λ a. h.stands.table.bound a;
    paired = h.stands.table.paired;
  }

  pub counted : (s2 : Sender) (told : Channels) → MadeCloses s1 s2 t told
      → KeepsBoth s2 told (closed_up past given) samples → IsCounted s2 told past (closed_up past given) samples
  counted s2 told made both = record {
    both = both;
    known = tells s2 past (closed_up past given) both.sender.known (arrivals_closed past given)
        (λ g. subst (λ (os : List OpenSent). list_any (makes_known past g) os ≡ false)
        (sym (ap (λ (x : Sender). x.opens) made.rest))
        (took.rest past samples h.stands.sender h.stands.table.bunches g));
    waiting = made.waiting ∙ h.stands.table.waiting;
    earlier = λ a still. (
        let handles : (record_at s2 a).handles ≡ (record_at s0 a).handles = made.handles a ∙ took.handles a in
        let before : is_open (state_kept s0 a) ≡ true =
        sym (ap (λ (x : Life). is_open (state_value x.state)) (took.life a)) ∙ made.was_open a still in
        omega (arith, ap (λ (x : HandlesKept). x.last) handles, ((h.stands.sender.each a).handles before).now));
  }
