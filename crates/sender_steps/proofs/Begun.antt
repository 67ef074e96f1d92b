-- A sender once a tick has begun.
use Rattle.std.proofs.Common.{◌≡◌, ◌∙◌, ℕ, ◌+◌, ◌<◌, ◌==◌, List, [], ◌∷◌, Bool, true, false, not, cond, ◌||◌, ap, sym, refl, subst, arith}
use Rattle.std.specs.List.{filter, list_any}
use Rattle.std.proofs.lemmas.Bool.{eqb-true, false≢true}
use Rattle.protocol_model.specs.Search.{is_among}
use Rattle.protocol_model.specs.Sight.{Seen}
use Rattle.connection_model.specs.Feed.{Past, tick_count}
use Rattle.connection_model.specs.Fates.{high_of}
use Rattle.connection_model.specs.State.{is_open, is_closed}
use Rattle.connection_laws.specs.Run.{Ascends}
use Rattle.connection_laws.proofs.ActorMarks.{Grows, index_same}
use Rattle.packing_laws.specs.Beginning.{ticked}
use Rattle.shadow_changes.specs.Samples.{Samples, samples_of}
use Rattle.sender_laws.specs.States.{is_pending}
use Rattle.sender_laws.proofs.Ticks.{count_ticked}
use Rattle.sender_records.specs.declared.actor.ActorRecord.{ActorRecord}
use Rattle.sender_records.specs.declared.life.Life.{Life}
use Rattle.sender_records.specs.Life.{KeepsLife, state_value}
use Rattle.sender_records.specs.Handles.{HandlesKept, KeepsHandles, handle_in}
use Rattle.sender_records.proofs.Frames.{life_ticked, handles_like}
use Rattle.sender_steps.specs.declared.sent.OpenSent.{OpenSent}
use Rattle.sender_steps.specs.Sender.{Sender, record_in, packet_in}
use Rattle.sender_steps.specs.Stands.{Keeps, AreServed, AreOpensMade, is_known_by, is_update_sent}
use Rattle.sender_steps.proofs.KnownMade.{known_sent}

-- what passes the test stays among the rest
pub among_filtered : (p : ℕ → Bool) (ns : List ℕ) (n : ℕ) → is_among n ns ≡ true → p n ≡ true
    → is_among n (filter p ns) ≡ true
among_filtered p [] n e t = e
among_filtered p (m ∷ ns) n e t = by (m == n) (p m) refl refl e (λ q. among_filtered p ns n q t)
  where
    by : (here passes : Bool) → (m == n) ≡ here → p m ≡ passes → (here || is_among n ns) ≡ true
        → (is_among n ns ≡ true → is_among n (filter p ns) ≡ true)
        → is_among n (cond passes (m ∷ filter p ns) (filter p ns)) ≡ true
    by true true q r e more = ap (λ (b : Bool). b || is_among n (filter p ns)) q
    by true false q r e more = absurd (false≢true (sym r ∙ ap p (eqb-true m n q) ∙ t))
    by false true q r e more = ap (λ (b : Bool). b || is_among n (filter p ns)) q ∙ more e
    by false false q r e more = more e

-- and what is left was there before
pub among_left : (p : ℕ → Bool) (ns : List ℕ) (n : ℕ) → is_among n (filter p ns) ≡ true → is_among n ns ≡ true
among_left p [] n e = e
among_left p (m ∷ ns) n e = by (p m) e (among_left p ns n)
  where
    there : (here : Bool) → is_among n ns ≡ true → (here || is_among n ns) ≡ true
    there true e = refl
    there false e = e

    first : (here : Bool) → (here || is_among n (filter p ns)) ≡ true
        → (is_among n (filter p ns) ≡ true → is_among n ns ≡ true) → (here || is_among n ns) ≡ true
    first true e more = refl
    first false e more = more e

    by : (passes : Bool) → is_among n (cond passes (m ∷ filter p ns) (filter p ns)) ≡ true
        → (is_among n (filter p ns) ≡ true → is_among n ns ≡ true)
        → ((m == n) || is_among n ns) ≡ true
    by true e more = first (m == n) e more
    by false e more = there (m == n) (more e)

-- what ascends from a number ascends from each below it
ascends_lower : (ns : List ℕ) (low lower : ℕ) → lower < low → Ascends low ns → Ascends lower ns
ascends_lower [] low lower lt h = tt
ascends_lower (n ∷ ns) low lower lt h = (omega (arith, lt, h.0), h.1)

-- what is left of ascending numbers ascends
pub ascends_filtered : (p : ℕ → Bool) (ns : List ℕ) (low : ℕ) → Ascends low ns → Ascends low (filter p ns)
ascends_filtered p [] low h = h
ascends_filtered p (n ∷ ns) low h = by (p n) (ascends_filtered p ns n h.1)
  where
    by : (passes : Bool) → Ascends n (filter p ns) → Ascends low (cond passes (n ∷ filter p ns) (filter p ns))
    by true more = (h.0, more)
    by false more = ascends_lower (filter p ns) n low h.0 more

-- what a tick takes in of records, segments and opens
pub record TakesIn (s : Sender) (past : Past) (sight : List Seen) (records : List (ℕ × ActorRecord))
    (known : List Bool) (opens : List OpenSent) : Type 0 where
  pub life : (a : ℕ) → (record_in records a).life ≡ (record_in s.records a).life
  pub handles : (a : ℕ) → (record_in records a).handles ≡ (record_in s.records a).handles
  pub served : AreServed (ticked past sight) records
  pub made : AreOpensMade past known opens
  pub learnt : (later : Past) → Grows past later → (g : ℕ)
      → is_known_by later known opens g ≡ is_known_by later s.known s.opens g

abbrev pub pends_in : List (ℕ × ActorRecord) → ℕ → Bool
pends_in records a = is_pending (state_value (record_in records a).life.state)

abbrev pub lives_in : List (ℕ × ActorRecord) → ℕ → Bool
lives_in records a = not (is_closed (state_value (record_in records a).life.state))

module _ (s : Sender) (past : Past) (samples : Samples) (sight : List Seen) (records : List (ℕ × ActorRecord))
    (known : List Bool) (opens : List OpenSent)
    (k : Keeps s past samples) (h : TakesIn s past sight records known opens) where
  same_state : {T : Type 0} (f : Life → T) (a : ℕ) → f (record_in records a).life ≡ f (record_in s.records a).life
  same_state f a = ap f (h.life a)

  handles_kept : (a : ℕ) → is_open (state_value (record_in records a).life.state) ≡ true
      → KeepsHandles (ticked past sight) (samples_of samples a) a (record_in records a).handles
  handles_kept a o = subst (KeepsHandles (ticked past sight) (samples_of samples a) a) (sym (h.handles a))
      (handles_like past (ticked past sight) (samples_of samples a) a (record_in s.records a).handles (λ n. refl) refl
      (omega (arith, count_ticked past (tick_count past + 1) sight))
      ((k.each a).handles (sym (same_state (λ (l : Life). is_open (state_value l.state)) a) ∙ o)))

  packet_same : (a n : ℕ) → packet_in records a n ≡ packet_in s.records a n
  packet_same a n = ap (λ (t : HandlesKept). (handle_in t.handles n).packet) (h.handles a)

  awake : (b : Bool) → b ≡ false → not b ≡ true
  awake b e = ap not e

  pub takes_in : Keeps (record s {
    records = records;
    pending = filter (pends_in records) s.pending;
    live = filter (lives_in records) s.live;
    known = known;
    opens = opens;
    ticks = s.ticks + 1;
  }) (ticked past sight) samples
  takes_in = record {
    each = λ a. record {
      life = subst (KeepsLife (ticked past sight) a) (sym (h.life a))
          (life_ticked past (tick_count past + 1) sight a (record_in s.records a).life (k.each a).life);
      service = h.served a;
      handles = handles_kept a;
    };
    under_way = λ a n o lt.
        ap (λ (m : ℕ). list_any (is_update_sent m a) s.updates) (packet_same a n)
        ∙ k.under_way a n (sym (same_state (λ (l : Life). is_open (state_value l.state)) a) ∙ o)
        (subst (λ (m : ℕ). high_of past < m) (packet_same a n) lt);
    pending = λ a e. among_filtered (pends_in records) s.pending a
        (k.pending a (sym (same_state (λ (l : Life). is_pending (state_value l.state)) a) ∙ e)) e;
    live = λ a e. among_filtered (lives_in records) s.live a
        (k.live a (sym (same_state (λ (l : Life). is_closed (state_value l.state)) a) ∙ e))
        (awake (is_closed (state_value (record_in records a).life.state)) e);
    opened = λ a e. k.opened a (among_left (lives_in records) s.live a e);
    ascends = ascends_filtered (lives_in records) s.live 0 k.ascends;
    known = known_sent past (ticked past sight) known opens refl (λ c n e. e)
        (λ later made grows g. k.known later made grows g ∙ sym (h.learnt later grows g));
    opens = λ i o at. record { made = (h.made i o at).made; places = (h.made i o at).places };
    low = λ a ch e. k.low a ch (sym (index_same past (ticked past sight) (λ c n. refl) a refl) ∙ e);
    below = λ ch le. k.below ch le;
    ticks = omega (arith, k.ticks, count_ticked past (tick_count past + 1) sight);
    kept = k.kept;
  }
