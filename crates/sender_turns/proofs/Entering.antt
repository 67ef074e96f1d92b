-- A sender once an open of an actor is made and kept, below packets of its tick.
use Rattle.std.proofs.Common.{◌≡◌, ◌≢◌, ◌∙◌, inl, inr, ◌⊎◌, ℕ, zero, suc, ◌+◌, ◌<◌, ◌≤◌, ◌==◌, List, [], ◌∷◌, ◌++◌, length, Bool, true, false, cond, ◌&&◌, ◌||◌, ap, sym, refl, subst, arith, Option, Some, None, slice_index_or}
use Rattle.std.specs.List.{list_any, slice_get}
use Rattle.std.proofs.lemmas.Bool.{cases_eq, eq-eqb, ne_eqb}
use Rattle.protocol_model.specs.Limits.{channels_one}
use Rattle.protocol_model.specs.Payload.{Message, Opens, parts_of}
use Rattle.protocol_model.specs.Value.{Class, Pair, Segment}
use Rattle.protocol_model.specs.Search.{is_among, greatest_of}
use Rattle.connection_model.specs.Feed.{Past}
use Rattle.connection_model.specs.Fates.{high_of}
use Rattle.connection_model.specs.Bunches.{after_making, made_count, have_arrived}
use Rattle.connection_model.specs.State.{Opening, Opened, Mark, state_at, holds_index, is_open, is_closed, was_opened, index_of, last_mark}
use Rattle.connection_laws.specs.Run.{Ascends}
use Rattle.connection_laws.proofs.ActorMarks.{index_same}
use Rattle.channel_table.specs.Holders.{Bound, channel_bound, actor_bound, IsPaired}
use Rattle.value_codec.specs.declared.pair.Pair.{Pair as PairValue}
use Rattle.shadow_changes.specs.Samples.{Samples, samples_of}
use Rattle.sender_laws.specs.Acts.{are_sent}
use Rattle.sender_laws.specs.States.{is_pending}
use Rattle.sender_laws.proofs.Makes.{arrivals_under, count_elsewhere, count_sent, count_under, mark_under, moved_under, opened_under, ticks_under}
use Rattle.sender_records.specs.declared.actor.ActorRecord.{ActorRecord}
use Rattle.sender_records.specs.Life.{state_value}
use Rattle.sender_records.specs.Actors.{KeepsActor}
use Rattle.sender_records.specs.Handles.{handle_in}
use Rattle.sender_records.proofs.Frames.{actor_made}
use Rattle.sender_records.proofs.LifeSteps.{held_index}
use Rattle.sender_steps.specs.declared.sent.OpenSent.{OpenSent}
use Rattle.sender_turns.specs.Opening.{AreBound, with_open, MayOpen, IsOpenTold}
use Rattle.sender_steps.specs.Sender.{Sender, record_in, packet_in}
use Rattle.sender_steps.specs.Stands.{Keeps, IsOpenMade, is_known_by, is_update_sent, makes_known}
use Rattle.sender_turns.proofs.KnownAfter.{made_opened}
use Rattle.sender_steps.proofs.Pushes.{pushed_itself, pushed_others}

-- what is kept of the open
pub record Enters (s : Sender) (sent past : Past) (samples : Samples) (a : ℕ) (m : Message) (o : OpenSent)
    (records : List (ℕ × ActorRecord)) (live : List ℕ) (known : List Bool) (opens : List OpenSent) : Type 0 where
  pub others : (b : ℕ) → a ≢ b → record_in records b ≡ record_in s.records b
  pub own : KeepsActor (sent ++ after_making past o.channel m) (samples_of samples a) a (record_in records a)
  pub state : state_value (record_in records a).life.state ≡ Opening
  pub unsent : (h : ℕ) → packet_in records a h ≤ high_of (sent ++ past)
  pub among : (b : ℕ) → is_among b live ≡ ((a == b) || is_among b s.live)
  pub ascends : Ascends 0 live
  pub places : (g : ℕ) → is_among g o.guids ≡ true → g < length known
  pub longer : length s.known ≤ length known
  pub known_is : (g : ℕ) → slice_index_or known g false ≡ slice_index_or s.known g false
  pub opens_are : opens ≡ with_open s.opens o

-- an open that is kept is the new one or one of before
behind : (opens : List OpenSent) (o x : OpenSent) (i : ℕ) → slice_get (opens ++ o ∷ []) i ≡ Some x
    → (slice_get opens i ≡ Some x) ⊎ (o ≡ x)
behind [] o x zero e = inr (some o x e)
  where
    some : (o x : OpenSent) → (let p : Option OpenSent = Some o in p) ≡ Some x → o ≡ x
    some o x e = cc
behind [] o x (suc i) e = inl e
behind (y ∷ opens) o x zero e = inl e
behind (y ∷ opens) o x (suc i) e = behind opens o x i e

kept_open : (opens : List OpenSent) (o x : OpenSent) (i : ℕ) (guids : List ℕ) → o.guids ≡ guids
    → slice_get (with_open opens o) i ≡ Some x → (slice_get opens i ≡ Some x) ⊎ (o ≡ x)
kept_open opens o x i [] e at = inl (sym (ap (λ (os : List OpenSent). slice_get os i) (none o e)) ∙ at)
  where
    none : (o : OpenSent) → o.guids ≡ [] → with_open opens o ≡ opens
    none o e = rw e refl
kept_open opens o x i (g ∷ guids) e at =
    behind opens o x i (sym (ap (λ (os : List OpenSent). slice_get os i) (some o e)) ∙ at)
  where
    some : (o : OpenSent) → o.guids ≡ g ∷ guids → with_open opens o ≡ opens ++ o ∷ []
    some o e = rw e refl

-- ---- who holds which index

unmarked : (a b : ℕ) → a ≢ b → ((a == b) && true) ≡ false
unmarked a b ne = ap (λ (x : Bool). x && true) (ne_eqb a b ne)

module _ (sent past : Past) (a ch : ℕ) (exports : List Segment) (shown : Class) (pairs : List Pair)
    (sends : are_sent sent ≡ true) where
  abbrev open_mark : Mark
  open_mark = record {
    channel = ch;
    number = made_count past ch + 1;
    message = Opens exports a shown pairs;
  }

  abbrev opened_past : Past
  opened_past = sent ++ after_making past ch (Opens exports a shown pairs)

  -- the actor holds the index, whether all parts of the open have arrived or not
  pub index_own : index_of opened_past a ≡ Some ch
  index_own =
      held_index opened_past a open_mark marked
      (ap (λ (o : Option Mark). holds_index (state_at opened_past o)) marked
      ∙ holds (have_arrived opened_past ch (made_count past ch + 1) (parts_of (Opens exports a shown pairs))))
    where
      marked : last_mark opened_past a ≡ Some open_mark
      marked = mark_under sent past sends ch (Opens exports a shown pairs) a
          ∙ ap (λ (x : Bool). cond (x && true) (Some open_mark) (last_mark (sent ++ past) a)) (eq-eqb a a refl)

      holds : (x : Bool) → holds_index (cond x Opened Opening) ≡ true
      holds true = refl
      holds false = refl

  -- all others hold what they held
  pub index_other : (b : ℕ) → a ≢ b → index_of opened_past b ≡ index_of (sent ++ past) b
  index_other b ne =
      index_same (sent ++ past) opened_past (arrivals_under sent past ch (Opens exports a shown pairs)) b
      (mark_under sent past sends ch (Opens exports a shown pairs) b
      ∙ ap (λ (x : Bool). cond x (Some open_mark) (last_mark (sent ++ past) b)) (unmarked a b ne))

  pub bound_opened : (old new : Bound) → AreBound old (sent ++ past)
      → ((b : ℕ) → channel_bound new b ≡ cond (b == a) (Some ch) (channel_bound old b)) → IsPaired new
      → AreBound new opened_past
  bound_opened old new h is paired = record {
    index = λ b. is b ∙ elim (cases_eq a b) [
      | inl e ↦ ap (λ (x : Bool). cond x (Some ch) (channel_bound old b)) (eq-eqb b a (sym e)) ∙ sym index_own
          ∙ ap (λ (x : ℕ). index_of opened_past x) e
      | inr ne ↦ ap (λ (x : Bool). cond x (Some ch) (channel_bound old b)) (ne_eqb b a (λ e. ne (sym e))) ∙ h.index b
          ∙ sym (index_other b ne)
    ];
    paired = paired;
  }

-- an index that no actor holds is bound to none
pub none_bound : (bound : Bound) (past : Past) (ch : ℕ) → AreBound bound past
    → ((a : ℕ) → index_of past a ≢ Some ch) → actor_bound bound ch ≡ None
none_bound bound past ch h free = by (actor_bound bound ch) refl
  where
    by : (o : Option ℕ) → actor_bound bound ch ≡ o → o ≡ None
    by None e = refl
    by (Some a) e = absurd (free a (sym (h.index a) ∙ h.paired.back a ch e))

-- ---- what is kept

module _ (s : Sender) (sent past : Past) (samples : Samples) (a tick : ℕ) (exports : List Segment) (shown : Class)
    (pairs : List Pair) (values : List PairValue) (newest : ℕ) (o : OpenSent)
    (told : IsOpenTold s sent past samples a (Opens exports a shown pairs) o)
    (may : MayOpen sent past samples a o.channel tick values newest) where
  abbrev m : Message
  m = Opens exports a shown pairs

  abbrev base : Past
  base = sent ++ past

  abbrev later : Past
  later = sent ++ after_making past o.channel m

  counts_more : (c : ℕ) → made_count base c ≤ made_count later c
  counts_more c = elim (cases_eq o.channel c) [
    | inl e ↦ subst (λ (x : ℕ). made_count base x ≤ made_count later x) e
        (omega (arith, count_under sent past may.sends o.channel m))
    | inr ne ↦ omega (arith, count_elsewhere sent past may.sends o.channel m c ne)
  ]

  more : (x : Bool) {y : Bool} → y ≡ true → (x || y) ≡ true
  more true e = refl
  more false e = e

  module _ (records : List (ℕ × ActorRecord)) (live : List ℕ) (known : List Bool) (opens : List OpenSent)
      (h : Enters s sent past samples a m o records live known opens) where
    each : (b : ℕ) → KeepsActor later (samples_of samples b) b (record_in records b)
    each b = elim (cases_eq a b) [
      | inl e ↦ subst (λ (x : ℕ). KeepsActor later (samples_of samples x) x (record_in records x)) e h.own
      | inr ne ↦ subst (KeepsActor later (samples_of samples b) b) (sym (h.others b ne))
          (actor_made sent past o.channel m (samples_of samples b) b (record_in s.records b) may.sends
          (unmarked a b ne) (λ p. may.free b) (told.sender.each b))
    ]

    under_way : (b n : ℕ) → is_open (state_value (record_in records b).life.state) ≡ true
        → high_of later < packet_in records b n
        → list_any (is_update_sent (packet_in records b n) b) s.updates ≡ true
    under_way b n is lt = elim (cases_eq a b) [
      | inl e ↦ absurd (omega (
        arith,
        high,
        lt,
        h.unsent n,
        ap (λ (x : ℕ). packet_in records x n) e,
      ))
      | inr ne ↦
          let packet : packet_in records b n ≡ packet_in s.records b n =
          ap (λ (r : ActorRecord). (handle_in r.handles.handles n).packet) (h.others b ne) in
          ap (λ (k : ℕ). list_any (is_update_sent k b) s.updates) packet
          ∙ told.sender.under_way b n
          (sym (ap (λ (r : ActorRecord). is_open (state_value r.life.state)) (h.others b ne)) ∙ is)
          (omega (arith, high, lt, packet))
    ]
      where
        high : high_of later ≡ high_of base
        high = ap greatest_of (moved_under sent past o.channel m)

    pend : (b : ℕ) → is_pending (state_value (record_in records b).life.state) ≡ true
        → is_among b (s.pending ++ a ∷ []) ≡ true
    pend b is = elim (cases_eq a b) [
      | inl e ↦ subst (λ (x : ℕ). is_among x (s.pending ++ a ∷ []) ≡ true) e (pushed_itself s.pending a)
      | inr ne ↦ pushed_others s.pending a b (told.sender.pending b
          (sym (ap (λ (r : ActorRecord). is_pending (state_value r.life.state)) (h.others b ne)) ∙ is))
    ]

    lives : (b : ℕ) → is_closed (state_value (record_in records b).life.state) ≡ false → is_among b live ≡ true
    lives b is = h.among b ∙ elim (cases_eq a b) [
      | inl e ↦ ap (λ (x : Bool). x || is_among b s.live) (eq-eqb a b e)
      | inr ne ↦ more (a == b) (told.sender.live b
          (sym (ap (λ (r : ActorRecord). is_closed (state_value r.life.state)) (h.others b ne)) ∙ is))
    ]

    opened : (b : ℕ) → is_among b live ≡ true → was_opened later b ≡ true
    opened b is = opened_under sent past may.sends o.channel m b ∙ elim (cases_eq a b) [
      | inl e ↦ ap (λ (x : Bool). x || was_opened base b) (eq-eqb a b e)
      | inr ne ↦ more (a == b) (told.sender.opened b
          (sym (ap (λ (x : Bool). x || is_among b s.live) (ne_eqb a b ne)) ∙ sym (h.among b) ∙ is))
    ]

    told_opens : (i : ℕ) (x : OpenSent) → slice_get opens i ≡ Some x → IsOpenMade later known x
    told_opens i x at = elim (kept_open s.opens o x i o.guids refl
        (ap (λ (os : List OpenSent). slice_get os i) (sym h.opens_are) ∙ at)) [
          | inl before ↦
              let k = told.sender.opens i x before in
              record {
                made = omega (arith, k.made, counts_more x.channel);
                places = λ g e. omega (arith, k.places g e, h.longer);
              }
          | inr is ↦ subst (IsOpenMade later known) is (record {
            made = omega (
              arith,
              told.last,
              count_under sent past may.sends o.channel m,
              count_sent sent past may.sends o.channel,
            );
            places = h.places;
          })
        ]

    low : (b c : ℕ) → index_of later b ≡ Some c → (1 ≤ c) × (c < channels_one)
    low b c e = elim (cases_eq a b) [
      | inl same ↦
          let is : Some o.channel ≡ Some c = sym (index_own sent past a o.channel exports shown pairs may.sends)
          ∙ ap (λ (x : ℕ). index_of later x) same ∙ e in
          subst (λ (x : ℕ). (1 ≤ x) × (x < channels_one)) (some is) (told.some, told.low)
      | inr ne ↦ told.sender.low b c (sym (index_other sent past a o.channel exports shown pairs may.sends b ne) ∙ e)
    ]
      where
        some : {x y : ℕ} → Some x ≡ Some y → x ≡ y
        some e = cc

    pub keeps_entered : Keeps (record s {
      records = records;
      pending = s.pending ++ a ∷ [];
      live = live;
      known = known;
      opens = opens;
    }) later samples
    keeps_entered = record {
      each = each;
      under_way = under_way;
      pending = pend;
      live = lives;
      opened = opened;
      ascends = h.ascends;
      known = λ after made grows g.
          made_opened sent past m o s.known s.opens may.sends may.clear told.last told.guids told.sender.known after
          made grows g
          ∙ ap (λ (x : Bool). x || list_any (makes_known after g) (with_open s.opens o)) (sym (h.known_is g))
          ∙ ap (λ (os : List OpenSent). is_known_by after known os g) (sym h.opens_are);
      opens = told_opens;
      low = low;
      below = λ c le. count_elsewhere sent past may.sends o.channel m c (λ q. absurd (omega (arith, q, le, told.low)))
          ∙ told.sender.below c le;
      ticks = told.sender.ticks ∙ sym (ap length (ticks_under sent past o.channel m));
      kept = told.sender.kept;
    }
