-- The pasts of two ends that talk are linked.
use Rattle.std.proofs.Common.{◌≡◌, inl, inr, ℕ, zero, suc, ◌%◌, ◌<◌, ◌≤◌, ◌==◌, List, [], ◌∷◌, ◌++◌, map, reverse, Bool, true, false, cond, refl, sym, ap, ◌∙◌, subst, arith, Option, Some, None, pos, append_assoc, append-nil}
use Rattle.std.specs.Prelude.{int_lt, unsigned_abs}
use Rattle.std.proofs.lemmas.Bool.{cases_Bool, false≢true, cond_both, eqb-true, ltb-true}
use Rattle.std.proofs.lemmas.List.{map-append, reverse-append}
use Rattle.protocol_model.specs.declared.Version.{Version}
use Rattle.protocol_model.specs.declared.Version.TheVariants.{One, Two}
use Rattle.protocol_model.specs.declared.Cause.{Cause}
use Rattle.protocol_model.specs.Bits.{near}
use Rattle.protocol_model.specs.Packet.{Packet}
use Rattle.protocol_model.specs.PacketReading as Reading
use Rattle.protocol_model.specs.Payload.{Message, parts_of}
use Rattle.protocol_model.specs.Search.{is_among, greatest_of}
use Rattle.connection_model.specs.Feed.{End, Past, Event, Tick, Got, Call, Ticked, Made, Waits, Sent, Took, Ended, ByCause, Entry, Told, Delivered, Item, has_ended}
use Rattle.connection_model.specs.Past.{past_of, after_event}
use Rattle.connection_model.specs.Fates.{top_of, taken_of, head_of, last_sent, unresolved_count, number_near, is_new}
use Rattle.connection_model.specs.Bunches.{after_making}
use Rattle.connection_model.specs.Pack.{rec_of, packet_carrying}
use Rattle.connection_model.specs.Verdict.{with_told, with_handed, entry_result, after_entries, entry_of, entries_in, after_packet, after_reading, ack_cause}
use Rattle.connection_laws.specs.Run.{Move, Ticks, Makes, Defers, Sends, Takes, Hears, Hands, Ends, after_move, May, IsRun}
use Rattle.connection_laws.specs.Link.{Said, SaysItem, entry_said, all_said, said_by, MayCome, IsWhole, IsFaithful, IsLink}
use Rattle.connection_laws.specs.Link.IsLink.{start as link_start, left_does, right_does}
use Rattle.connection_laws.specs.Talk.{packet_at, IsPacketOf, MayHear, IsTalk}
use Rattle.connection_laws.specs.Talk.IsTalk.{start, left_hears, right_hears}
use Rattle.connection_laws.proofs.Moves.{making_keeps}
use Rattle.connection_laws.proofs.Counts.{last_sent_sent}
use Rattle.connection_laws.proofs.Searches.{among_here}
use Rattle.connection_laws.proofs.Fates.{last_sent_made, last_sent_told, last_sent_handed, moved_handed, high_told}
use Rattle.connection_laws.proofs.Spans.{some_parts}
use Rattle.connection_laws.proofs.PacketsSay.{said_made, said_old, said_told, said_handed}
use Rattle.connection_laws.proofs.LiveRuns.{IsQuiet, Goes, IsLiveRun, IsDone, alive_handed}
use Rattle.connection_laws.proofs.Calling.{call_runs}
use Rattle.connection_laws.proofs.Hearing.{entry_runs, entry_names}
use Rattle.connection_laws.proofs.Ticking.{tick_runs}
use Rattle.connection_laws.proofs.LinkedEnds.{left_run, right_run}
use Rattle.connection_laws.proofs.LinkLaws.{reads_there, reads_back}

-- ---- what a packet that was sent is

-- what is read of items is what they say
recs_said : (items : List Item) → map entry_of (map rec_of items) ≡ map entry_said (map (λ (item : Item). SaysItem item) items)
recs_said [] = refl
recs_said (item ∷ items) = ap (λ (es : List Entry). entry_of (rec_of item) ∷ es) (recs_said items)

-- what is read of a packet is what it said
packet_said : (v : Version) (end : End) → end.version ≡ v → (past : Past) (number : ℕ) (items : List Item) → entries_in v (packet_carrying end past number items) ≡ map entry_said (all_said v past items)
packet_said One end e past number items = recs_said items
packet_said Two end e past number items = rw e (ap (λ (es : List Entry). Told (head_of Two past) ∷ es) (recs_said items))

-- packet k by its number, its head and what it says
pub record PacketFacts (v : Version) (past : Past) (k : ℕ) (p : Packet) : Type 0 where
  pub number : p.number ≡ k % 16384
  pub entries : entries_in v p ≡ map entry_said (said_by v past k)

-- a packet that was sent is so
pub packet_facts : (v : Version) (end : End) → end.version ≡ v → (past : Past) (k : ℕ) (p : Packet) → packet_at end past k ≡ Some p → PacketFacts v past k p
packet_facts v end e [] k p h = absurd (let never : (let o : Option Packet = None in o) ≡ Some p = h in cc)
packet_facts v end e (Ticked t s ∷ past) k p h = (let f : PacketFacts v past k p = packet_facts v end e past k p h in record { number = f.number; entries = f.entries })
packet_facts v end e (Made c n m i ∷ past) k p h = (let f : PacketFacts v past k p = packet_facts v end e past k p h in record { number = f.number; entries = f.entries })
packet_facts v end e (Waits m ∷ past) k p h = (let f : PacketFacts v past k p = packet_facts v end e past k p h in record { number = f.number; entries = f.entries })
packet_facts v end e (Took n es ds ∷ past) k p h = (let f : PacketFacts v past k p = packet_facts v end e past k p h in record { number = f.number; entries = f.entries })
packet_facts v end e (Ended g ∷ past) k p h = (let f : PacketFacts v past k p = packet_facts v end e past k p h in record { number = f.number; entries = f.entries })
packet_facts v end e (Sent number t items ∷ past) k p h = by (number == k) refl h (λ q. packet_facts v end e past k p q)
  where
    same : (x y : Packet) → (let o : Option Packet = Some x in o) ≡ Some y → x ≡ y
    same x y q = cc

    by : (b : Bool) → (number == k) ≡ b → cond b (Some (packet_carrying end past number items)) (packet_at end past k) ≡ Some p → (packet_at end past k ≡ Some p → PacketFacts v past k p) → PacketFacts v (Sent number t items ∷ past) k p
    by true q h ih =
        let is : packet_carrying end past number items ≡ p = same (packet_carrying end past number items) p h in
        record {
          number = ap (λ (x : Packet). x.number) (sym is) ∙ ap (λ (n : ℕ). n % 16384) (eqb-true number k q);
          entries = ap (entries_in v) (sym is) ∙ packet_said v end e past number items ∙ ap (λ (b : Bool). map entry_said (cond b (all_said v past items) (said_by v past k))) (sym q);
        }
    by false q h ih =
        let f : PacketFacts v past k p = ih h in
        record { number = f.number; entries = f.entries ∙ ap (λ (b : Bool). map entry_said (cond b (all_said v past items) (said_by v past k))) (sym q) }

-- ---- what was said stays

-- what the past said it says later too
pub record Stays (v : Version) (past later : Past) : Type 0 where
  pub more : last_sent past ≤ last_sent later
  pub same : (k : ℕ) → k ≤ last_sent past → said_by v later k ≡ said_by v past k

-- what was said stays where packets say the same
stays_like : (v : Version) (past later next : Past) → last_sent next ≡ last_sent later → ((k : ℕ) → said_by v next k ≡ said_by v later k) → Stays v past later → Stays v past next
stays_like v past later next l s h = record { more = omega (arith, l, h.more); same = λ k le. s k ∙ h.same k le }

-- what was said stays said, move by move
pub stays_on : (v : Version) (past later : Past) (move : Move) → Stays v past later → Stays v past (after_move later move)
stays_on v past later (Ticks sight) h = record { more = h.more; same = h.same }
stays_on v past later (Makes ch m) h = stays_like v past later (after_making later ch m) (last_sent_made later ch m) (said_made v later ch m) h
stays_on v past later (Defers m) h = record { more = h.more; same = h.same }
stays_on v past later (Sends items) h = record {
  more = omega (arith, last_sent_sent later items, h.more);
  same = λ k le. said_old v later items k (omega (arith, h.more)) ∙ h.same k le;
}
stays_on v past later (Takes n) h = record { more = h.more; same = h.same }
stays_on v past later (Hears entry) h = stays_like v past later (with_told entry later) (last_sent_told entry later) (said_told v entry later) h
stays_on v past later (Hands d) h = stays_like v past later (with_handed d later) (last_sent_handed d later) (said_handed v d later) h
stays_on v past later (Ends g) h = record { more = h.more; same = h.same }

-- ---- one end hears an event

-- what goes on with each honest move, where the other end stands still
pub record Talks (v : Version) (mine : End) (other : Past) (R : Past → Type 0) : Type 0 where
  pub is_run : (past : Past) → R past → IsRun mine past
  pub goes : (past : Past) (move : Move) → R past → has_ended past ≡ false → May mine past move → IsFaithful v other past move → R (after_move past move)
  pub reads : (past : Past) → R past → (k : ℕ) → MayCome past other k → near (k % 16384) (pos (top_of past)) 16384 ≡ pos k

-- once a part was made, the packet before was heard to its end
abbrev WholeUpTo : Version → Past → ℕ → Past → Type 0
WholeUpTo v other zero before = Unit {0}
WholeUpTo v other (suc i) before = IsWhole v other before

-- so it is after the whole message
whole_end : (v : Version) (other : Past) (i : ℕ) (before : Past) → 1 ≤ i → WholeUpTo v other i before → IsWhole v other before
whole_end v other zero before lo h = absurd (omega arith)
whole_end v other (suc i) before lo h = h

-- making a message leaves a packet heard to its end
pub whole_made : (v : Version) (other past : Past) (ch : ℕ) (m : Message) → IsWhole v other (after_making past ch m)
whole_made v other past ch m =
    whole_end v other (parts_of m) (after_making past ch m) (some_parts m) (making_keeps (WholeUpTo v other) past ch m tt (λ i before lt h. tt))

module _ (v : Version) (mine : End) (mv : mine.version ≡ v) (other : Past) (R : Past → Type 0) (t : Talks v mine other R) where
  -- with the packet under way heard to its end
  abbrev W : Past → Type 0
  W past = R past × IsWhole v other past

  quiet_goes : (past : Past) (move : Move) → IsQuiet move → W past → has_ended past ≡ false → May mine past move → W (after_move past move)
  quiet_goes past (Ticks sight) quiet h alive may = (t.goes past (Ticks sight) h.0 alive may h.1, tt)
  quiet_goes past (Makes ch m) quiet h alive may = (t.goes past (Makes ch m) h.0 alive may h.1, whole_made v other past ch m)
  quiet_goes past (Defers m) quiet h alive may = (t.goes past (Defers m) h.0 alive may h.1, tt)
  quiet_goes past (Sends items) quiet h alive may = (t.goes past (Sends items) h.0 alive may h.1, tt)
  quiet_goes past (Takes n) quiet h alive may = absurd quiet
  quiet_goes past (Hears entry) quiet h alive may = absurd quiet
  quiet_goes past (Hands d) quiet h alive may = absurd quiet
  quiet_goes past (Ends g) quiet h alive may = (t.goes past (Ends g) h.0 alive may tt, tt)

  goes_quietly : Goes mine W
  goes_quietly = record { is_run = λ past h. t.is_run past h.0; goes = quiet_goes }

  -- in the midst of a packet
  record InPacket (n : ℕ) (es : List Entry) (past now : Past) : Type 0 where
    go_on : R now
    alive : has_ended now ≡ false
    few : unresolved_count now < 4096
    handed : List Delivered
    is : now ≡ Took n es handed ∷ past

  handed_on : (n : ℕ) (es : List Entry) (past : Past) (d : Delivered) (now : Past) → InPacket n es past now → InPacket n es past (with_handed d now)
  handed_on n es past d now q = record {
    go_on = t.goes now (Hands d) q.go_on q.alive tt tt;
    alive = alive_handed d now q.alive;
    few = omega (arith, q.few, last_sent_handed d now, ap greatest_of (moved_handed d now));
    handed = d ∷ q.handed;
    is = ap (with_handed d) q.is;
  }

  entries_talk : (n : ℕ) (past : Past) (after before : List Said) (es : List Entry) (ds : List Delivered) → said_by v other n ≡ before ++ after → es ≡ reverse (map entry_said before)
      → R (Took n es ds ∷ past) → has_ended past ≡ false → unresolved_count (Took n es ds ∷ past) < 4096
      → IsDone W (after_entries mine (Took n es ds ∷ past) (map entry_said after))
  entries_talk n past [] before es ds said told r alive few =
      record { run = (r, told ∙ ap (λ (l : List Said). reverse (map entry_said l)) (sym (said ∙ append-nil before))); few = λ e. few }
  entries_talk n past (s ∷ after) before es ds said told r alive few =
      by (entry_result mine now (entry_said s)).cause refl heard (λ later. entries_talk n past after (before ++ s ∷ []) (entry_said s ∷ es) later)
    where
      now : Past
      now = Took n es ds ∷ past

      heard : InPacket n es past (entry_result mine (Took n es ds ∷ past) (entry_said s)).past
      heard = entry_runs mine (InPacket n es past) (λ d p q. handed_on n es past d p q) (Took n es ds ∷ past) (entry_said s)
          (record { go_on = r; alive = alive; few = few; handed = ds; is = refl })

      one_more : entry_said s ∷ es ≡ reverse (map entry_said (before ++ s ∷ []))
      one_more =
          ap (λ (xs : List Entry). entry_said s ∷ xs) told
          ∙ sym (ap reverse (map-append entry_said before (s ∷ [])) ∙ reverse-append (map entry_said before) (entry_said s ∷ []))

      by : (c : Option Cause) → (entry_result mine (Took n es ds ∷ past) (entry_said s)).cause ≡ c → InPacket n es past (entry_result mine (Took n es ds ∷ past) (entry_said s)).past
          → ((later : List Delivered) → said_by v other n ≡ (before ++ s ∷ []) ++ after → entry_said s ∷ es ≡ reverse (map entry_said (before ++ s ∷ [])) → R (Took n (entry_said s ∷ es) later ∷ past)
          → has_ended past ≡ false → unresolved_count (Took n (entry_said s ∷ es) later ∷ past) < 4096 → IsDone W (after_entries mine (Took n (entry_said s ∷ es) later ∷ past) (map entry_said after)))
          → IsDone W (let later : Past = elim c [ None ↦ after_entries mine (with_told (entry_said s) (entry_result mine (Took n es ds ∷ past) (entry_said s)).past) (map entry_said after) | Some cause ↦ Ended (ByCause cause) ∷ (entry_result mine (Took n es ds ∷ past) (entry_said s)).past ] in later)
      by None e q next =
          let here : Past = Took n es q.handed ∷ past in
          let names : ack_cause here (entry_said s) ≡ None = subst (λ (p : Past). ack_cause p (entry_said s) ≡ None) q.is (entry_names mine (Took n es ds ∷ past) (entry_said s) e) in
          let live : has_ended here ≡ false = subst (λ (p : Past). has_ended p ≡ false) q.is q.alive in
          let small : unresolved_count here < 4096 = subst (λ (p : Past). unresolved_count p < 4096) q.is q.few in
          subst (λ (p : Past). IsDone W (after_entries mine (with_told (entry_said s) p) (map entry_said after))) (sym q.is)
          (next q.handed (said ∙ sym (append_assoc before (s ∷ []) after)) one_more
          (t.goes here (Hears (entry_said s)) (subst R q.is q.go_on) live names (before, s, after, said, told, refl)) alive
          (omega (arith, small, high_told (entry_said s) here)))
      by (Some cause) e q next = record {
        run = (t.goes (entry_result mine (Took n es ds ∷ past) (entry_said s)).past (Ends (ByCause cause)) q.go_on q.alive tt tt, tt);
        few = λ z. absurd (false≢true (sym z));
      }

  packet_talks : (theirs : End) → theirs.version ≡ v → (past : Past) (k : ℕ) (p : Packet) → IsLiveRun W past → MayCome past other k → packet_at theirs other k ≡ Some p → is_new past p.number ≡ true
      → IsDone W (after_packet mine past p)
  packet_talks theirs tv past k p h come sent new =
      let f : PacketFacts v other k p = packet_facts v theirs tv other k p sent in
      let near_k : number_near past p.number ≡ pos k = ap (λ (x : ℕ). near x (pos (top_of past)) 16384) f.number ∙ t.reads past h.run.0 k come in
      let read : unsigned_abs (number_near past p.number) ≡ k = ap unsigned_abs near_k in
      let above : top_of past < k = ltb-true (top_of past) k (ap (int_lt (pos (top_of past))) (sym near_k) ∙ new) in
      subst (λ (x : ℕ). IsDone W (after_entries mine (Took x [] [] ∷ past) (entries_in mine.version p))) (sym read)
      (subst (λ (es : List Entry). IsDone W (after_entries mine (Took k [] [] ∷ past) es)) (sym (ap (λ (w : Version). entries_in w p) mv ∙ f.entries))
      (entries_talk k past (said_by v other k) [] [] [] refl refl
      (t.goes past (Takes k) h.run.0 h.alive above (h.run.1, (k, come, t.reads past h.run.0 k come))) h.alive h.few))

  reading_talks : (theirs : End) → theirs.version ≡ v → (past : Past) (bytes : List ℕ) → IsLiveRun W past → IsPacketOf mine theirs past other bytes → IsDone W (after_reading mine past (Reading.packet_of mine.version bytes))
  reading_talks theirs tv past bytes h q =
      rw q.read (cond_both (is_new past q.packet.number) (after_packet mine past q.packet) past (IsDone W)
      (λ e. packet_talks theirs tv past q.number q.packet h q.come q.sent e) (λ e. record { run = h.run; few = λ z. h.few }))

  pub event_talks : (theirs : End) → theirs.version ≡ v → (past : Past) (event : Event) → IsDone W past → MayHear mine theirs past other event → IsDone W (after_event mine past event)
  event_talks theirs tv past (Tick sight) h q = tick_runs mine W goes_quietly past sight (λ q alive. (t.goes past (Ticks sight) q.0 alive tt q.1, tt)) h
  event_talks theirs tv past (Call a n args) h q = call_runs mine W goes_quietly past h a n args
  event_talks theirs tv past (Got bytes) h q = elim (cases_Bool (has_ended past)) [
    | inl e ↦ rw e h
    | inr e ↦ rw e (reading_talks theirs tv past bytes (record { run = h.run; alive = e; few = h.few e }) q)
  ]

-- ---- both ends

-- a packet was heard to its end where what it said stays
pub whole_stays : (v : Version) (other later me : Past) → ((n : ℕ) → is_among n (taken_of me) ≡ true → said_by v later n ≡ said_by v other n) → IsWhole v other me → IsWhole v later me
whole_stays v other later (Took n es ds ∷ past) h w = w ∙ ap (λ (s : List Said). reverse (map entry_said s)) (sym (h n (among_here n (taken_of past) n refl)))
whole_stays v other later [] h w = tt
whole_stays v other later (Ticked t s ∷ past) h w = tt
whole_stays v other later (Made c n m i ∷ past) h w = tt
whole_stays v other later (Waits m ∷ past) h w = tt
whole_stays v other later (Sent n t items ∷ past) h w = tt
whole_stays v other later (Ended g ∷ past) h w = tt

-- the pasts of a talk are linked, and each packet was heard to its end
pub record Talked (v : Version) (left right : End) (l r : Past) : Type 0 where
  pub link : IsLink left right l r
  pub left_whole : IsWhole v r l
  pub right_whole : IsWhole v l r
  pub left_few : has_ended l ≡ false → unresolved_count l < 4096
  pub right_few : has_ended r ≡ false → unresolved_count r < 4096

module _ (v : Version) (left right : End) (lv : left.version ≡ v) (rv : right.version ≡ v) where
  -- the left end goes on with a link, and with what it said
  left_talks : (l r : Past) → Talks v left r (λ (p : Past). IsLink left right p r × Stays v l p)
  left_talks l r = record {
    is_run = λ past g. left_run left right past r g.0;
    goes = λ past move g alive may faithful. (left_does move g.0 alive may (subst (λ (w : Version). IsFaithful w r past move) (sym lv) faithful), stays_on v l past move g.1);
    reads = λ past g k come. (reads_back left right past r (lv ∙ sym rv) g.0).packet k come;
  }

  right_talks : (l r : Past) → Talks v right l (λ (p : Past). IsLink left right l p × Stays v r p)
  right_talks l r = record {
    is_run = λ past g. right_run left right l past g.0;
    goes = λ past move g alive may faithful. (right_does move g.0 alive may (subst (λ (w : Version). IsFaithful w l past move) (sym rv) faithful), stays_on v r past move g.1);
    reads = λ past g k come. (reads_there left right l past (lv ∙ sym rv) g.0).packet k come;
  }

  -- so it does at each event
  left_done : (l r : Past) (event : Event) → Talked v left right l r → MayHear left right l r event
      → IsDone (λ (p : Past). (IsLink left right p r × Stays v l p) × IsWhole v r p) (after_event left l event)
  left_done l r event h q =
      event_talks v left lv r (λ (p : Past). IsLink left right p r × Stays v l p) (left_talks l r) right rv l event
      (record { run = ((h.link, record { more = omega arith; same = λ k le. refl }), h.left_whole); few = h.left_few }) q

  right_done : (l r : Past) (event : Event) → Talked v left right l r → MayHear right left r l event
      → IsDone (λ (p : Past). (IsLink left right l p × Stays v r p) × IsWhole v l p) (after_event right r event)
  right_done l r event h q =
      event_talks v right rv l (λ (p : Past). IsLink left right l p × Stays v r p) (right_talks l r) left lv r event
      (record { run = ((h.link, record { more = omega arith; same = λ k le. refl }), h.right_whole); few = h.right_few }) q

  left_next : (l r : Past) (event : Event) → Talked v left right l r → MayHear left right l r event → Talked v left right (after_event left l event) r
  left_next l r event h q =
      let done = left_done l r event h q in
      record {
        link = done.run.0.0;
        left_whole = done.run.1;
        right_whole = whole_stays v l (after_event left l event) r (λ n e. done.run.0.1.same n ((reads_there left right l r (lv ∙ sym rv) h.link).taken n e).1) h.right_whole;
        left_few = done.few;
        right_few = h.right_few;
      }

  right_next : (l r : Past) (event : Event) → Talked v left right l r → MayHear right left r l event → Talked v left right l (after_event right r event)
  right_next l r event h q =
      let done = right_done l r event h q in
      record {
        link = done.run.0.0;
        left_whole = whole_stays v r (after_event right r event) l (λ n e. done.run.0.1.same n ((reads_back left right l r (lv ∙ sym rv) h.link).taken n e).1) h.left_whole;
        right_whole = done.run.1;
        left_few = h.left_few;
        right_few = done.few;
      }

  -- what an end said before stays in what it does at an event
  pub left_stays : (l r : Past) (event : Event) → Talked v left right l r → MayHear left right l r event → Stays v l (after_event left l event)
  left_stays l r event h q = (left_done l r event h q).run.0.1

  pub right_stays : (l r : Past) (event : Event) → Talked v left right l r → MayHear right left r l event → Stays v r (after_event right r event)
  right_stays l r event h q = (right_done l r event h q).run.0.1

  pub talked : (l r : List Event) → IsTalk left right l r → Talked v left right (past_of left l) (past_of right r)
  talked l r start = record { link = link_start; left_whole = tt; right_whole = tt; left_few = λ e. omega arith; right_few = λ e. omega arith }
  talked l r (left_hears {l = a} {r = b} event talk q) = left_next (past_of left a) (past_of right b) event (talked a b talk) q
  talked l r (right_hears {l = a} {r = b} event talk q) = right_next (past_of left a) (past_of right b) event (talked a b talk) q
