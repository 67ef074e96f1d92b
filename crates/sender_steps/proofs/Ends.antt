-- A sender once an actor was closed, or was told as gone.
use Rattle.std.proofs.Common.{◌≡◌, ◌≢◌, ◌∙◌, inl, inr, ℕ, ◌+◌, ◌<◌, ◌≤◌, ◌==◌, List, [], length, Bool, true, false, cond, ◌&&◌, ◌||◌, ap, sym, refl, subst, arith, Some}
use Rattle.std.specs.List.{list_any}
use Rattle.std.proofs.lemmas.Bool.{cases_eq, false≢true}
use Rattle.protocol_model.specs.Limits.{channels_one}
use Rattle.protocol_model.specs.Payload.{Message, parts_of}
use Rattle.protocol_model.specs.Search.{is_among, greatest_of}
use Rattle.protocol_model.specs.Side.{AtServer}
use Rattle.change_model.specs.Changes.{Sample}
use Rattle.connection_model.specs.Feed.{Past, tick_count}
use Rattle.connection_model.specs.Fates.{moved_of, high_of}
use Rattle.connection_model.specs.Bunches.{after_making, made_count, have_arrived}
use Rattle.connection_model.specs.State.{is_open, is_closed, was_opened, index_of, last_mark}
use Rattle.connection_model.specs.Exports.{made_known, exports_segment}
use Rattle.connection_model.specs.Items.{is_open_made}
use Rattle.connection_laws.proofs.ActorMarks.{index_same, mark_made, marks, same_grows}
use Rattle.connection_laws.proofs.Moves.{making_keeps}
use Rattle.channel_table.specs.Channels.{Channels}
use Rattle.channel_table.specs.Holders.{Bound, channel_bound, IsPaired}
use Rattle.channel_table.specs.Keeps.{Keeps as KeepsTable}
use Rattle.shadow_changes.specs.Samples.{Samples, samples_of}
use Rattle.sender_laws.specs.States.{is_pending}
use Rattle.sender_laws.proofs.Makes.{arrivals_under, count_elsewhere, count_under, moved_under, opened_under, service_elsewhere, sight_under, ticks_under}
use Rattle.sender_laws.proofs.Opens.{carry_elsewhere}
use Rattle.sender_records.specs.declared.actor.ActorRecord.{ActorRecord}
use Rattle.sender_records.specs.declared.service.Service.{Service}
use Rattle.sender_records.specs.Life.{KeepsLife, state_value}
use Rattle.sender_records.specs.Service.{KeepsService}
use Rattle.sender_records.specs.Handles.{HandlesKept, KeepsHandles, handle_in}
use Rattle.sender_records.specs.Actors.{KeepsActor}
use Rattle.sender_records.proofs.Frames.{actor_made, handles_like}
use Rattle.sender_records.proofs.ServiceSteps.{service_same}
use Rattle.sender_steps.specs.declared.sent.OpenSent.{OpenSent}
use Rattle.sender_steps.specs.Sender.{Sender, record_in, packet_in}
use Rattle.sender_steps.specs.Stands.{KeepsBoth, KnowsMade, is_update_sent}
use Rattle.sender_steps.proofs.Records.{everywhere}
use Rattle.sender_steps.proofs.KnownMade.{known_next}

-- ---- what goes on

-- one past goes on to another for all but the channel of one actor
pub record GoesOn (past later : Past) (a : ℕ) : Type 0 where
  pub actors : (samples : List Sample) (b : ℕ) (r : ActorRecord) → a ≢ b → KeepsActor past samples b r
      → KeepsActor later samples b r
  pub service : (s : Service) → KeepsService past a s → KeepsService later a s
  pub handles : (samples : List Sample) (t : HandlesKept) → KeepsHandles past samples a t
      → KeepsHandles later samples a t
  pub moved : moved_of later ≡ moved_of past
  pub opened : (b : ℕ) → was_opened past b ≡ true → was_opened later b ≡ true
  pub known : (known : List Bool) (opens : List OpenSent) → KnowsMade past known opens → KnowsMade later known opens
  pub counts : (ch : ℕ) → made_count past ch ≤ made_count later ch
  pub below : (ch : ℕ) → channels_one ≤ ch → made_count later ch ≡ made_count past ch
  pub index : (b : ℕ) → index_of later b ≡ index_of past b
  pub ticks : tick_count later ≡ tick_count past

pub stays : (past : Past) (a : ℕ) → GoesOn past past a
stays past a = record {
  actors = λ samples b r ne k. k;
  service = λ s k. k;
  handles = λ samples t k. k;
  moved = refl;
  opened = λ b e. e;
  known = λ known opens h. h;
  counts = λ ch. omega arith;
  below = λ ch le. refl;
  index = λ b. refl;
  ticks = refl;
}

-- a message that opens nothing, of one actor, on a channel that no other holds
pub record IsEnding (past : Past) (a ch : ℕ) (m : Message) : Type 0 where
  pub unopened : (b : ℕ) → is_open_made b m ≡ false
  pub unknown : (g : ℕ) → exports_segment g m ≡ false
  pub unmarked : (b : ℕ) → a ≢ b → marks b m ≡ false
  pub apart : (b : ℕ) → a ≢ b → index_of past b ≢ Some ch
  pub low : ch < channels_one
  pub index : index_of (after_making past ch m) a ≡ index_of past a

unmade : (x e y : Bool) → e ≡ false → (x && e && y) ≡ false
unmade true false y h = refl
unmade false e y h = refl
unmade true true y h = absurd (false≢true (sym h))

no_segment : (whole past : Past) (ch : ℕ) (m : Message) (g : ℕ) → exports_segment g m ≡ false
    → list_any (made_known whole g) (after_making past ch m) ≡ list_any (made_known whole g) past
no_segment whole past ch m g none =
    making_keeps (λ i before. list_any (made_known whole g) before ≡ list_any (made_known whole g) past) past ch m refl
    (λ i before lt e. ap (λ (b : Bool). b || list_any (made_known whole g) before)
    (unmade (i == 0) (exports_segment g m) (have_arrived whole ch (made_count past ch + 1 + i) (parts_of m)) none) ∙ e)

module _ (past : Past) (a ch : ℕ) (m : Message) (h : IsEnding past a ch m) where
  counts_more : (c : ℕ) → made_count past c ≤ made_count (after_making past ch m) c
  counts_more c = elim (cases_eq ch c) [
    | inl e ↦ subst (λ (x : ℕ). made_count past x ≤ made_count (after_making past ch m) x) e
        (omega (arith, count_under [] past refl ch m))
    | inr ne ↦ omega (arith, count_elsewhere [] past refl ch m c ne)
  ]

  index_elsewhere : (b : ℕ) → a ≢ b → index_of (after_making past ch m) b ≡ index_of past b
  index_elsewhere b ne =
      index_same past (after_making past ch m) (arrivals_under [] past ch m) b
      (mark_made past ch m b ∙ ap (λ (x : Bool). cond x (Some
      (record { channel = ch; number = made_count past ch + 1; message = m })) (last_mark past b))
      (h.unmarked b ne))

  pub goes_on : GoesOn past (after_making past ch m) a
  goes_on = record {
    actors = λ samples b r ne k. actor_made [] past ch m samples b r refl (h.unmarked b ne) (λ p. h.apart b ne) k;
    service = λ s k. service_same past (after_making past ch m) a s (ticks_under [] past ch m)
        (sight_under [] past ch m) (service_elsewhere [] past refl ch m a (h.unopened a)) k;
    handles = λ samples t k. handles_like past (after_making past ch m) samples a t
        (λ n. carry_elsewhere [] past refl ch m a n (h.unopened a)) (moved_under [] past ch m)
        (omega (arith, ap length (ticks_under [] past ch m))) k;
    moved = moved_under [] past ch m;
    opened = λ b e. opened_under [] past refl ch m b ∙ more (is_open_made b m) e;
    known = λ known opens. known_next past (after_making past ch m) known opens
        (λ whole g. no_segment whole past ch m g (h.unknown g))
        (same_grows past (after_making past ch m) (arrivals_under [] past ch m));
    counts = counts_more;
    below = λ c le. count_elsewhere [] past refl ch m c (λ q. absurd (omega (arith, q, le, h.low)));
    index = λ b. elim (cases_eq a b) [
      | inl e ↦ subst (λ (x : ℕ). index_of (after_making past ch m) x ≡ index_of past x) e h.index
      | inr ne ↦ index_elsewhere b ne
    ];
    ticks = ap length (ticks_under [] past ch m);
  }
    where
      more : (x : Bool) {y : Bool} → y ≡ true → (x || y) ≡ true
      more true e = refl
      more false e = e

-- ---- one actor ends

-- its record and its channel alone change
pub record EndsOne (s : Sender) (t after : Channels) (later : Past) (a : ℕ) (records : List (ℕ × ActorRecord))
    (pending : List ℕ) : Type 0 where
  pub others : (b : ℕ) → a ≢ b → record_in records b ≡ record_in s.records b
  pub service : (record_in records a).service ≡ (record_in s.records a).service
  pub handles : (record_in records a).handles ≡ (record_in s.records a).handles
  pub life : KeepsLife later a (record_in records a).life
  pub was_open : is_open (state_value (record_in records a).life.state) ≡ true
      → is_open (state_value (record_in s.records a).life.state) ≡ true
  pub pends : is_pending (state_value (record_in records a).life.state) ≡ true → is_among a pending ≡ true
  pub rest : (b : ℕ) → is_among b s.pending ≡ true → is_among b pending ≡ true
  pub live : is_among a s.live ≡ true
  pub table : KeepsTable after AtServer later
  pub bound : after.bound ≡ t.bound

module _ (s : Sender) (t after : Channels) (past later : Past) (samples : Samples) (a : ℕ)
    (records : List (ℕ × ActorRecord)) (pending : List ℕ)
    (both : KeepsBoth s t past samples) (on : GoesOn past later a) (h : EndsOne s t after later a records pending) where
  each : (b : ℕ) → KeepsActor later (samples_of samples b) b (record_in records b)
  each b = elim (cases_eq a b) [
    | inl e ↦ subst (λ (x : ℕ). KeepsActor later (samples_of samples x) x (record_in records x)) e (record {
      life = h.life;
      service = subst (KeepsService later a) (sym h.service)
          (on.service (record_in s.records a).service (both.sender.each a).service);
      handles = λ o. subst (KeepsHandles later (samples_of samples a) a) (sym h.handles)
          (on.handles (samples_of samples a) (record_in s.records a).handles
          ((both.sender.each a).handles (h.was_open o)));
    })
    | inr ne ↦ subst (KeepsActor later (samples_of samples b) b) (sym (h.others b ne))
        (on.actors (samples_of samples b) b (record_in s.records b) ne (both.sender.each b))
  ]

  packet_same : (b n : ℕ) → packet_in records b n ≡ packet_in s.records b n
  packet_same b n = ap (λ (k : HandlesKept). (handle_in k.handles n).packet)
      (everywhere HandlesKept (λ (r : ActorRecord). r.handles) a s.records records h.others h.handles b)

  were_open : (b : ℕ) → is_open (state_value (record_in records b).life.state) ≡ true
      → is_open (state_value (record_in s.records b).life.state) ≡ true
  were_open b o = elim (cases_eq a b) [
    | inl e ↦ subst (λ (x : ℕ). is_open (state_value (record_in s.records x).life.state) ≡ true) e
        (h.was_open (subst (λ (x : ℕ). is_open (state_value (record_in records x).life.state) ≡ true) (sym e) o))
    | inr ne ↦ sym (ap (λ (r : ActorRecord). is_open (state_value r.life.state)) (h.others b ne)) ∙ o
  ]

  pend : (b : ℕ) → is_pending (state_value (record_in records b).life.state) ≡ true → is_among b pending ≡ true
  pend b o = elim (cases_eq a b) [
    | inl e ↦ subst (λ (x : ℕ). is_among x pending ≡ true) e
        (h.pends (subst (λ (x : ℕ). is_pending (state_value (record_in records x).life.state) ≡ true) (sym e) o))
    | inr ne ↦ h.rest b (both.sender.pending b (sym (ap (λ (r : ActorRecord). is_pending (state_value r.life.state))
        (h.others b ne)) ∙ o))
  ]

  lives : (b : ℕ) → is_closed (state_value (record_in records b).life.state) ≡ false → is_among b s.live ≡ true
  lives b o = elim (cases_eq a b) [
    | inl e ↦ subst (λ (x : ℕ). is_among x s.live ≡ true) e h.live
    | inr ne ↦ both.sender.live b (sym (ap (λ (r : ActorRecord). is_closed (state_value r.life.state)) (h.others b ne))
        ∙ o)
  ]

  pub ends_one : KeepsBoth (record s { records = records; pending = pending }) after later samples
  ends_one = record {
    sender = record {
      each = each;
      under_way = λ b n o lt.
          ap (λ (k : ℕ). list_any (is_update_sent k b) s.updates) (packet_same b n)
          ∙ both.sender.under_way b n (were_open b o) (subst (λ (k : ℕ). high_of past < k) (packet_same b n)
          (subst (λ (k : ℕ). k < packet_in records b n) (ap greatest_of on.moved) lt));
      pending = pend;
      live = lives;
      opened = λ b e. on.opened b (both.sender.opened b e);
      ascends = both.sender.ascends;
      known = on.known s.known s.opens both.sender.known;
      opens = λ i o at. record {
        made = omega (arith, (both.sender.opens i o at).made, on.counts o.channel);
        places =
            (both.sender.opens i o at).places;
      };
      low = λ b ch e. both.sender.low b ch (sym (on.index b) ∙ e);
      below = λ ch le. on.below ch le ∙ both.sender.below ch le;
      ticks = both.sender.ticks ∙ sym on.ticks;
      kept = both.sender.kept;
    };
    table = h.table;
    bound = λ b. ap (λ (x : Bound). channel_bound x b) h.bound ∙ both.bound b ∙ sym (on.index b);
    paired = subst IsPaired (sym h.bound) both.paired;
  }
