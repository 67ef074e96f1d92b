-- What is kept of a past is kept of each that is the same but for its sights.
use Rattle.std.proofs.Common.{◌≡◌, ◌≢◌, ℕ, ◌+◌, ◌-◌, ◌<◌, ◌≤◌, List, [], ◌∷◌, length, map, min, Bool, true, false, not, cond, ◌&&◌, ◌==◌, nat_lt, refl, sym, ap, ◌∙◌, subst, arith, Option, Some, None, is_some, unwrap_or, slice_get, slice_index_or}
use Rattle.protocol_model.specs.Side.{Side, AtServer}
use Rattle.protocol_model.specs.Payload.{parts_of}
use Rattle.protocol_model.specs.Search.{newest_of, is_among, oldest_of, greatest_of}
use Rattle.protocol_model.specs.declared.Version.{Version}
use Rattle.protocol_model.specs.declared.Version.TheVariants.{One, Two}
use Rattle.change_model.specs.Changes.{Sample}
use Rattle.connection_model.specs.Feed.{End, Past, Ticked, Made as MadeDeed, Waits, Sent, Took, Ended, ticks_of, tick_count, deeds_since_tick}
use Rattle.connection_model.specs.Fates.{taken_of, top_of, moved_of, high_of, fate_of, last_sent, top_when, owed_of, is_lost, is_arrived}
use Rattle.connection_model.specs.Bunches.{made_count, carrier_of, span, span_sum, least_unarrived, have_arrived}
use Rattle.connection_model.specs.Items.{made_as, last_service, first_sight, shown_in}
use Rattle.connection_model.specs.State.{Mark}
use Rattle.connection_model.specs.Pack.{idle_ticks, last_packet_in, owes_head}
use Rattle.connection_model.specs.Past.{sent_bytes}
use Rattle.connection_model.specs.Windows.{received_on, applied_of, kept_of, held_count}
use Rattle.connection_laws.proofs.ActorMarks.{SameArrivals}
use Rattle.receiving_laws.specs.Holders.{is_copied_on}
use Rattle.channel_laws.specs.Known.{known}
use Rattle.channel_laws.specs.Alike.{Alike}
use Rattle.channel_laws.proofs.Alike.{same_span, same_least, same_sum, same_known, same_carries}
use Rattle.sender_laws.specs.States.{IsLast}
use Rattle.sender_laws.proofs.Views.{have_alike}
use Rattle.sight_laws.specs.Differing.{but_sights, SameButSights}
use Rattle.sight_laws.proofs.Unsighted.{alike, arrivals_same, moved_same, sent_same, taken_same, when_same, owed_same, count_same, since_same, fate_same, mark_same, states_same, indexes_same, class_same, carry_same, service_same, entries_same, delivered_same, unresolved_same, packets_same, waiting_same}
use Rattle.sight_laws.proofs.Relevance.{idle_same, oldest_same, first_same}
use Rattle.sight_laws.proofs.Feeds.{bytes_same}
use Rattle.reliable_window.specs.declared.slot.Slot.{Slot}
use Rattle.outgoing_channels.specs.declared.made_bunch.MadeBunch.{MadeBunch}
use Rattle.outgoing_channels.specs.Made.{Made, Outgoing, out_at, bunch_made}
use Rattle.outgoing_channels.specs.Keeps.{KeepsBunch, KeepsOut, KeepsMade}
use Rattle.incoming_channels.specs.Channels.{Incoming, Got, in_at}
use Rattle.incoming_channels.specs.Keeps.{KeepsBunches, KeepsIn, KeepsGot}
use Rattle.channel_table.specs.Channels.{Channels}
use Rattle.channel_table.specs.Keeps.{Keeps}
use Rattle.ack_book.specs.Book.{Book}
use Rattle.ack_book.specs.Keeps.{Keeps as KeepsBook}
use Rattle.link_end.specs.Link.{Link}
use Rattle.link_end.specs.Rests.{Rests, last_tick, silence}
use Rattle.sender_records.specs.declared.handle.HandleRecord.{HandleRecord}
use Rattle.sender_records.specs.declared.life.Life.{Life}
use Rattle.sender_records.specs.declared.service.Service.{Service}
use Rattle.sender_records.specs.declared.actor.ActorRecord.{ActorRecord}
use Rattle.sender_records.specs.declared.state.ActorState.TheVariants as state
use Rattle.sender_records.specs.declared.state.ActorState.{ActorState}
use Rattle.sender_records.specs.Life.{PendsAs, Pends, KeepsLife}
use Rattle.sender_records.specs.Service.{KeepsService}
use Rattle.sender_records.specs.Handles.{HandlesKept, KeepsHandle, KeepsHandles, handle_in}
use Rattle.sender_records.specs.Actors.{KeepsActor}
use Rattle.channel_table.specs.Holders.{channel_bound}
use Rattle.channel_table.specs.Stands.{Stands as StandsTable, waiting_call}
use Rattle.shadow_changes.specs.Samples.{Samples, samples_of}
use Rattle.sender_steps.specs.Sender.{Sender, record_in}
use Rattle.sender_steps.specs.Stands.{Keeps as KeepsSender, Stands, makes}

-- the bunches that were made don't depend on sights
makes_own : (past : Past) → makes (but_sights past) ≡ makes past
makes_own [] = refl
makes_own (Ticked t s ∷ past) = makes_own past
makes_own (MadeDeed c n m i ∷ past) = ap (λ (deeds : Past). MadeDeed c n m i ∷ deeds) (makes_own past)
makes_own (Waits m ∷ past) = makes_own past
makes_own (Sent n t items ∷ past) = makes_own past
makes_own (Took n es ds ∷ past) = makes_own past
makes_own (Ended g ∷ past) = makes_own past

module _ (past other : Past) (h : SameButSights past other) where
  -- ---- records of actors

  pends_as : (mark : Mark) (s : ActorState) (sleeps : Bool) → PendsAs past mark s sleeps → PendsAs other mark s sleeps
  pends_as mark state.Opening sleeps p =
      (p.0, p.1, have_alike past other (arrivals_same past other h.done) mark.channel 1 (mark.number - 1) ∙ p.2)
  pends_as mark state.Closing sleeps p = p
  pends_as mark state.None sleeps p = tt
  pends_as mark state.Opened sleeps p = tt
  pends_as mark state.Asleep sleeps p = tt

  pends_same : (a : ℕ) (l : Life) → Pends past a l → Pends other a l
  pends_same a l p = record {
    mark = p.mark;
    is = mark_same past other h.done a ∙ p.is;
    kind = pends_as p.mark l.state l.sleeps p.kind;
    last = p.last ∙ ap (λ (n : ℕ). n + 1) (sym ((alike past other h.done).made.count p.mark.channel));
  }

  life_same : (a : ℕ) (l : Life) → KeepsLife past a l → KeepsLife other a l
  life_same a l k = record {
    state = k.state ∙ sym (states_same past other h.done a);
    index = k.index ∙ sym (indexes_same past other h.done a);
    opened = k.opened ∙ sym (ap (λ o. is_some o) (class_same past other h.done a));
    flush = k.flush ∙ sym (h.flush a);
    pends = λ e. pends_same a l (k.pends e);
  }

  service_kept : (a : ℕ) (s : Service) → KeepsService past a s → KeepsService other a s
  service_kept a s k = record {
    relevant = omega (arith, k.relevant, idle_same past other h a, count_same past other h.done);
    first = ap (λ (o : Option ℕ). is_some o) (oldest_same past other h a) ∙ k.first;
    served = k.served
        ∙ sym (ap (λ (o : Option ℕ). unwrap_or o (first_sight other a - 1)) (service_same past other h.done a)
        ∙ ap (λ (n : ℕ). unwrap_or (last_service past a) (n - 1)) (first_same past other h a));
    unserved = λ e. service_same past other h.done a ∙ k.unserved e;
    owned = h.owned a ∙ k.owned
        ∙ sym (ap (λ (n : ℕ). not (s.owned_at == 0) && s.owned_at == n) (count_same past other h.done));
    before = omega (arith, k.before, count_same past other h.done);
  }

  handle_same : (samples : List Sample) (a compared last n : ℕ) (r : HandleRecord)
      → KeepsHandle past samples a compared last n r → KeepsHandle other samples a compared last n r
  handle_same samples a compared last n r k = record {
    carry = carry_same past other h.done a n ∙ k.carry;
    lost = k.lost ∙ sym (ap (λ f. not (r.packet == 0) && is_lost f) (fate_same past other h.done r.packet));
    arrived = k.arrived ∙ sym (ap (λ f. not (r.packet == 0) && is_arrived f) (fate_same past other h.done r.packet));
    found = k.found;
    before = k.before;
  }

  handles_same : (samples : List Sample) (a : ℕ) (t : HandlesKept) → KeepsHandles past samples a t
      → KeepsHandles other samples a t
  handles_same samples a t k = record {
    each = λ n. handle_same samples a t.compared t.last n (handle_in t.handles n) (k.each n);
    compared = k.compared;
    some = k.some;
    now = omega (arith, k.now, count_same past other h.done);
  }

  -- what is kept of an actor
  pub actor_kept : (samples : List Sample) (a : ℕ) (r : ActorRecord) → KeepsActor past samples a r
      → KeepsActor other samples a r
  actor_kept samples a r k = record {
    life = life_same a r.life k.life;
    service = service_kept a r.service k.service;
    handles = λ e. handles_same samples a r.handles (k.handles e);
  }

  -- ---- the channels

  bunch_kept : (ch n : ℕ) (s : Slot MadeBunch) → KeepsBunch past ch n s → KeepsBunch other ch n s
  bunch_kept ch n s k = record {
    bunch = (alike past other h.done).made.made ch n ∙ k.bunch;
    carrier = k.carrier ∙ sym ((alike past other h.done).made.carriers ch n);
    fate = λ p e. k.fate p e ∙ sym (same_known past other (alike past other h.done) p);
  }

  out_kept : (ch : ℕ) (o : Outgoing) → KeepsOut past ch o → KeepsOut other ch o
  out_kept ch o k = record {
    next = k.next ∙ ap (λ (n : ℕ). n + 1) (sym ((alike past other h.done).made.count ch));
    count = k.count ∙ sym (same_span past other (alike past other h.done) ch);
    each = λ i s e. subst (λ (n : ℕ). KeepsBunch other ch (n + i) s)
        (sym (same_least past other (alike past other h.done) ch))
        (bunch_kept ch (least_unarrived past ch + i) s (k.each i s e));
  }

  made_kept : (m : Made) → KeepsMade m past → KeepsMade m other
  made_kept m k = record {
    out = λ ch. out_kept ch (out_at m.out ch) (k.out ch);
    span_sum = k.span_sum ∙ sym (same_sum past other (alike past other h.done));
    few = k.few;
    high = k.high ∙ sym (ap greatest_of (moved_same past other h.done));
    carried = same_carries past other (alike past other h.done).made k.carried;
  }

  received_kept : (ch : ℕ) (i : Incoming) → KeepsIn past ch i → KeepsIn other ch i
  received_kept ch i k = record {
    bunches = subst (λ got. KeepsBunches got i) (sym (received_is ch)) k.bunches;
    copied = k.copied ∙ sym (copied_is ch);
  }
    where
      received_is : (ch : ℕ) → received_on other ch ≡ received_on past ch
      received_is ch = rw (entries_same past other h.done) refl

      copied_is : (ch : ℕ) → is_copied_on other ch ≡ is_copied_on past ch
      copied_is ch = rw (delivered_same past other h.done) refl

  got_kept : (g : Got) (side : Side) → KeepsGot g side past → KeepsGot g side other
  got_kept g side k = record {
    server = k.server;
    received = λ ch. received_kept ch (in_at g.incoming ch) (k.received ch);
    held = k.held ∙ sym held_is;
    few_held = k.few_held;
    kept = k.kept;
  }
    where
      held_is : held_count other ≡ held_count past
      held_is = rw (entries_same past other h.done) refl

  -- what the channels keep
  pub table_kept : (t : Channels) (side : Side) → Keeps t side past → Keeps t side other
  table_kept t side k = record {
    made = made_kept t.made k.made;
    got = got_kept t.got side k.got;
    high = k.high ∙ sym (ap greatest_of (moved_same past other h.done));
  }

  -- ---- the link

  book_kept : (b : Book) (v : Version) → KeepsBook b v past → KeepsBook b v other
  book_kept b v k =
      let high : high_of other ≡ high_of past = ap greatest_of (moved_same past other h.done) in
      let top : top_of other ≡ top_of past = ap greatest_of (taken_same past other h.done) in
      record {
        version = k.version;
        sent = k.sent ∙ sym (sent_same past other h.done);
        high = k.high ∙ sym high;
        top = k.top ∙ sym top;
        base = k.base ∙ sym (ap (top_when other) high ∙ when_same past other h.done (high_of past));
        owed = k.owed ∙ sym (owed_same past other h.done v);
        history = λ e i lt. k.history e i lt
            ∙ sym (ap (λ (ns : List ℕ). cond (is_among (greatest_of ns - i) ns) 1 0) (taken_same past other h.done));
        fates = λ n lo hi. k.fates n (omega (arith, lo, high)) (omega (arith, hi, high))
            ∙ sym (ap (is_among n) (moved_same past other h.done));
        told = λ n lo hi. k.told n (omega (arith, lo, high)) (omega (arith, hi, sent_same past other h.done))
            ∙ sym (when_same past other h.done n);
      }

  -- what the link keeps between two ticks
  pub link_kept : (l : Link) (end : End) → Rests l end past → Rests l end other
  link_kept l end k =
      let high : high_of other ≡ high_of past = ap greatest_of (moved_same past other h.done) in
      record {
        book = book_kept l.book end.version k.book;
        budget = k.budget;
        silent = k.silent ∙ ap (λ (n : ℕ). min 8 n) (sym silence_is);
        last = omega (arith, k.last, last_is, count_same past other h.done);
        count = ap length (bytes_same end past other h) ∙ k.count ∙ sym (sent_same past other h.done);
        high = omega (arith, k.high, high, sent_same past other h.done);
        heard = k.heard ∙ sym (owes end.version);
        idle = k.idle;
        kept = k.kept;
      }
    where
      last_is : last_tick other ≡ last_tick past
      last_is = ap (λ (ns : List ℕ). unwrap_or (slice_get ns 0) 0) (packets_same past other h.done)

      silence_is : silence other ≡ silence past
      silence_is = omega (arith, last_is, count_same past other h.done)

      owes : (v : Version) → owes_head v other ≡ owes_head v past
      owes One = refl
      owes Two = ap (λ (ds : Past). nat_lt 0 (length (taken_of ds))) (since_same past other h.done)

  -- ---- all three

  -- what a sender keeps
  pub sender_kept : (s : Sender) (samples : Samples) → KeepsSender s past samples → KeepsSender s other samples
  sender_kept s samples k = record {
    each = λ a. actor_kept (samples_of samples a) a (record_in s.records a) (k.each a);
    under_way = λ a n o lt. k.under_way a n o (omega (arith, lt, ap greatest_of (moved_same past other h.done)));
    pending = k.pending;
    live = k.live;
    opened = λ a e. ap (λ o. is_some o) (class_same past other h.done a) ∙ k.opened a e;
    ascends = k.ascends;
    known = λ later made grows g. k.known later
        (made ∙ sym (makes_own other) ∙ ap makes h.done ∙ makes_own past)
        (λ ch n e. grows ch n (arrivals_same past other h.done ch n ∙ e)) g;
    opens = λ i o at. record {
      made = omega (arith, (k.opens i o at).made, (alike past other h.done).made.count o.channel);
      places = (k.opens i o at).places;
    };
    low = λ a ch e. k.low a ch (sym (indexes_same past other h.done a) ∙ e);
    below = λ ch le. (alike past other h.done).made.count ch ∙ k.below ch le;
    ticks = k.ticks ∙ sym (count_same past other h.done);
    kept = k.kept;
  }

  pub all_kept : (s : Sender) (l : Link) (t : Channels) (end : End) (samples : Samples)
      → Stands s l t end past samples → Stands s l t end other samples
  all_kept s l t end samples k = record {
    sender = sender_kept s samples k.sender;
    link = link_kept l end k.link;
    table = record {
      bunches = table_kept t AtServer k.table.bunches;
      bound = λ a. k.table.bound a ∙ sym (indexes_same past other h.done a);
      paired = k.table.paired;
      waiting = k.table.waiting ∙ ap (map waiting_call) (sym (waiting_same past other h.done));
    };
  }
