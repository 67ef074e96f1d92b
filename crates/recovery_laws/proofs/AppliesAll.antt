-- A client that talks with its server is never closed, and applies what is unreliable in each packet that it takes.
use Rattle.std.proofs.Common.{◌≡◌, ◌⊎◌, inl, inr, ℕ, ◌+◌, ◌<◌, ◌≤◌, List, [], ◌∷◌, ◌++◌, map, reverse, fold, Bool, true, false, cond, ◌==◌, nat_le, refl, sym, ap, ◌∙◌, subst, append_assoc, append-nil, Option, Some, None}
use Rattle.std.specs.List.{filter_map, cons_option}
use Rattle.std.proofs.lemmas.Bool.{false≢true, cond_both, cases_Bool}
use Rattle.std.proofs.lemmas.List.{reverse-append}
use Rattle.protocol_model.specs.declared.Version.{Version}
use Rattle.protocol_model.specs.declared.Version.TheVariants.{One, Two}
use Rattle.protocol_model.specs.declared.CallAnswer.{CallAnswer}
use Rattle.protocol_model.specs.declared.CallAnswer.TheVariants.{Queued, Dead, NotOpen, NotOwner, WindowFull}
use Rattle.protocol_model.specs.Payload.{Message, Calls}
use Rattle.protocol_model.specs.Side.{Side, AtServer, AtClient}
use Rattle.protocol_model.specs.Sight.{Seen}
use Rattle.protocol_model.specs.Value.{Arg, Call as ClassCall}
use Rattle.protocol_model.specs.World.{Edits, class_of}
use Rattle.protocol_model.specs.Search.{is_among}
use Rattle.table_model.specs.Facts.{IsTable}
use Rattle.table_model.specs.Rules.{Entry}
use Rattle.table_model.specs.Grammar.{table_of}
use Rattle.connection_model.specs.Feed.{End, Past, Event, Tick, Got, Call, Deed, Ticked, Made, Waits, Sent, Took, Ended, ByStall, Delivered, Item, Owed, Carries, Loose, has_ended, tick_count}
use Rattle.connection_model.specs.Feed as Feed
use Rattle.connection_model.specs.Past.{past_of}
use Rattle.connection_model.specs.Fates.{taken_of, top_of, last_sent, unresolved_count}
use Rattle.connection_model.specs.Bunches.{after_making}
use Rattle.connection_model.specs.State.{opened_actors}
use Rattle.connection_model.specs.CallAnswers.{call_channel, call_of, queued_for, answer_of, after_answer, after_call}
use Rattle.connection_model.specs.Pack.{Packing, after_closes, packing_of, packets_to_send, after_sending, after_stall, after_packing, after_tick}
use Rattle.connection_model.specs.Verdict.{after_entries, after_got}
use Rattle.connection_laws.specs.Run.{Move, Ticks, Makes, Defers, Sends, Takes, Hears, Hands, Ends, after_move, May, IsRun}
use Rattle.connection_laws.specs.Run.IsRun.{does}
use Rattle.connection_laws.specs.Deeds.{DeedsFit}
use Rattle.connection_laws.specs.Link.{Said, SaysItem, entry_said, all_said, said_by, IsWhole, IsLink}
use Rattle.connection_laws.specs.Link.IsLink.{right_does}
use Rattle.connection_laws.specs.Talk.{IsPacketOf, MayHear, IsTalk}
use Rattle.connection_laws.specs.Talk.IsTalk.{start, left_hears, right_hears}
use Rattle.connection_laws.specs.Delivered.{messages_on, is_closed_by}
use Rattle.connection_laws.proofs.Moves.{making_keeps}
use Rattle.connection_laws.proofs.Deeds.{deeds_fit}
use Rattle.connection_laws.proofs.LiveRuns.{IsQuiet, Goes, IsDone, runs_go}
use Rattle.connection_laws.proofs.Ticking.{IsTicking, closes_tick, packing_packs, all_sent, sendable, tick_runs}
use Rattle.connection_laws.proofs.Calling.{call_runs}
use Rattle.connection_laws.proofs.Feeds.{feed_done, feed_runs}
use Rattle.connection_laws.proofs.LinkLaws.{reads_there}
use Rattle.connection_laws.proofs.Searches.{among_here, among_there}
use Rattle.connection_laws.proofs.LinkedEnds.{left_run}
use Rattle.connection_laws.proofs.StoriesTalk.{linked}
use Rattle.connection_laws.proofs.TalksLink.{Talked, talked}
use Rattle.payload_laws.specs.Accepted.{AreAccepted}
use Rattle.headline_laws.specs.Fits.{PastFits}
use Rattle.headline_laws.proofs.ClientHears.{Follower, HeardOne, hears_one, loose_said, loosely}
use Rattle.headline_laws.proofs.EndsAgree.{Agreement, FeedsKnown, agree_talk, one_more, goes_on, read_as, got_by, facts_at, right_still, rest_sees, rest_blind}
use Rattle.headline_laws.proofs.HonestPlayers.{few_parts}
use Rattle.headline_laws.proofs.NextPasses.{ServerFacts}
use Rattle.headline_laws.proofs.PacketsSpelled.{end_fits}
use Rattle.headline_laws.proofs.WholeMessages.{messages_short}
use Rattle.recovery_laws.specs.Faithful.{items_of, loose_in, loose_of, AppliesPacket, AppliesLoose}
use Rattle.recovery_laws.proofs.Moments.{Extends, event_extends}
use Rattle.recovery_laws.proofs.LooseValues.{reversed_twice}
use Rattle.recovery_laws.proofs.SentPackets.{SentAt, sent_at, items_at}

-- ---- what a packet said is what it was sent with

-- a datagram that holds these items says their unreliable messages
held_loose : (items : List Item) → filter_map loose_said (map (λ (item : Item). SaysItem item) items) ≡ filter_map loose_in items
held_loose [] = refl
held_loose (Owed n ∷ items) = held_loose items
held_loose (Carries c n b ∷ items) = held_loose items
held_loose (Loose m b ∷ items) = ap (λ (l : List Message). m ∷ l) (held_loose items)

-- with or without its acknowledgements
all_loose : (v : Version) (past : Past) (items : List Item) → filter_map loose_said (all_said v past items) ≡ filter_map loose_in items
all_loose One past items = held_loose items
all_loose Two past items = held_loose items

-- a packet says the unreliable messages that it was sent with
said_loose : (v : Version) (past : Past) (k : ℕ) → filter_map loose_said (said_by v past k) ≡ loose_of past k
said_loose v [] k = refl
said_loose v (Ticked t s ∷ past) k = said_loose v past k
said_loose v (Made c n m i ∷ past) k = said_loose v past k
said_loose v (Waits m ∷ past) k = said_loose v past k
said_loose v (Took n es ds ∷ past) k = said_loose v past k
said_loose v (Ended g ∷ past) k = said_loose v past k
said_loose v (Sent n t items ∷ past) k = by (n == k) (said_loose v past k)
  where
    by : (b : Bool) → filter_map loose_said (said_by v past k) ≡ loose_of past k → filter_map loose_said (cond b (all_said v past items) (said_by v past k)) ≡ filter_map loose_in (cond b items (items_of past k))
    by true h = all_loose v past items
    by false h = h

-- ---- a server's packets stay as they were

-- what was applied stays so as the sender goes on
loose_later : (from later : Past) (to : Past) → ((n : ℕ) → is_among n (taken_of to) ≡ true → loose_of later n ≡ loose_of from n) → AppliesLoose from to → AppliesLoose later to
loose_later from later [] same h = tt
loose_later from later (Ticked t s ∷ to) same h = (tt, loose_later from later to same h.1)
loose_later from later (Made c n m i ∷ to) same h = (tt, loose_later from later to same h.1)
loose_later from later (Waits m ∷ to) same h = (tt, loose_later from later to same h.1)
loose_later from later (Sent n t items ∷ to) same h = (tt, loose_later from later to same h.1)
loose_later from later (Ended g ∷ to) same h = (tt, loose_later from later to same h.1)
loose_later from later (Took n es ds ∷ to) same h =
    (h.0 ∙ sym (same n (among_here n (taken_of to) n refl)), loose_later from later to (λ k q. same k (among_there n (taken_of to) k q)) h.1)

-- a packet's items stay as the sender goes on
items_stay : (end : End) (more from : Past) → DeedsFit end from → DeedsFit end (more ++ from) → (k : ℕ) → 1 ≤ k → k ≤ last_sent from → items_of (more ++ from) k ≡ items_of from k
items_stay end more from fit later k lo hi = by (sent_at end from fit k lo hi)
  where
    by : SentAt from k → items_of (more ++ from) k ≡ items_of from k
    by s =
        let whole : more ++ from ≡ (more ++ s.later) ++ Sent k s.tick s.items ∷ s.earlier = ap (λ (p : Past). more ++ p) s.split ∙ sym (append_assoc more s.later (Sent k s.tick s.items ∷ s.earlier)) in
        ap (λ (p : Past). items_of p k) whole ∙ items_at end (more ++ s.later) k s.tick s.items s.earlier (subst (DeedsFit end) whole later)
        ∙ sym (ap (λ (p : Past). items_of p k) s.split ∙ items_at end s.later k s.tick s.items s.earlier (subst (DeedsFit end) s.split fit))

-- ---- a client that hears nothing

-- a move that takes nothing leaves what was applied
quiet_loose : (end : End) (from past : Past) (move : Move) → IsQuiet move → IsRun end past × AppliesLoose from past → has_ended past ≡ false → May end past move → IsRun end (after_move past move) × AppliesLoose from (after_move past move)
quiet_loose end from past (Ticks sight) quiet h alive may = absurd quiet
quiet_loose end from past (Makes ch m) quiet h alive may =
    (does (Makes ch m) h.0 alive may, making_keeps (λ i now. AppliesLoose from now) past ch m h.1 (λ i now lt e. (tt, e)))
quiet_loose end from past (Defers m) quiet h alive may = (does (Defers m) h.0 alive may, (tt, h.1))
quiet_loose end from past (Sends items) quiet h alive may = (does (Sends items) h.0 alive may, (tt, h.1))
quiet_loose end from past (Takes n) quiet h alive may = absurd quiet
quiet_loose end from past (Hears entry) quiet h alive may = absurd quiet
quiet_loose end from past (Hands d) quiet h alive may = absurd quiet
quiet_loose end from past (Ends g) quiet h alive may = (does (Ends g) h.0 alive may, (tt, h.1))

-- so does every run of such moves
loose_goes : (end : End) (from : Past) → Goes end (λ (past : Past). IsRun end past × AppliesLoose from past)
loose_goes end from = record { is_run = λ past h. h.0; goes = quiet_loose end from }

-- ---- nothing but a datagram closes an end

-- an end that hasn't ended wasn't closed by a datagram
alive_unclosed : (past : Past) → has_ended past ≡ false → is_closed_by past ≡ false
alive_unclosed [] e = refl
alive_unclosed (Ticked t s ∷ past) e = alive_unclosed past e
alive_unclosed (Made c n m i ∷ past) e = alive_unclosed past e
alive_unclosed (Waits m ∷ past) e = alive_unclosed past e
alive_unclosed (Sent n t items ∷ past) e = alive_unclosed past e
alive_unclosed (Took n es ds ∷ past) e = alive_unclosed past e
alive_unclosed (Ended g ∷ past) e = absurd (false≢true (sym e))

-- a stall closes nothing so
stall_unclosed : (past : Past) → is_closed_by past ≡ false → is_closed_by (after_stall past) ≡ false
stall_unclosed past h = cond_both (nat_le 4096 (unresolved_count past)) (Ended ByStall ∷ past) past (λ (p : Past). is_closed_by p ≡ false) (λ e. h) (λ e. h)

-- nor does a tick
tick_unclosed : (end : End) (past : Past) (sight : List Seen) → IsDone (IsRun end) past → is_closed_by past ≡ false → is_closed_by (after_tick end past sight) ≡ false
tick_unclosed end past sight h closed = elim (cases_Bool (has_ended past)) [
  | inl e ↦ rw e closed
  | inr e ↦ rw e (ticked e)
]
  where
    ticked : has_ended past ≡ false → is_closed_by (after_packing end past (packing_of end past (after_closes (Ticked (tick_count past + 1) sight ∷ past)))) ≡ false
    ticked e =
        let begin : Past = Ticked (tick_count past + 1) sight ∷ past in
        let begun : IsTicking end (IsRun end) past begin = record { run = does (Ticks sight) h.run e tt; alive = e; in_tick = refl; taken = refl; told = refl; unresolved = refl; waits = refl } in
        let closed_now : IsTicking end (IsRun end) past (after_closes begin) = closes_tick end (IsRun end) (runs_go end) past begin (opened_actors begin) begun in
        let packing : Packing = packing_of end past (after_closes begin) in
        let sent = all_sent end (IsRun end) (runs_go end) packing.past (packets_to_send end past packing)
        (sendable end (IsRun end) (runs_go end) past packing (packing_packs end (IsRun end) (runs_go end) past (after_closes begin) h.run closed_now (h.few e))) in
        stall_unclosed (fold after_sending packing.past (packets_to_send end past packing)) (alive_unclosed (fold after_sending packing.past (packets_to_send end past packing)) sent.alive)

-- nor does the making of a message
made_unclosed : (past : Past) (ch : ℕ) (m : Message) → is_closed_by past ≡ false → is_closed_by (after_making past ch m) ≡ false
made_unclosed past ch m h = making_keeps (λ i now. is_closed_by now ≡ false) past ch m h (λ i now lt e. e)

-- nor does a call
call_unclosed : (side : Side) (past : Past) (a n : ℕ) (args : List Arg) → is_closed_by past ≡ false → is_closed_by (after_call side past a n args) ≡ false
call_unclosed side past a n args h = by (answer_of side past a n args)
  where
    queued : (o : Option ℕ) (c : Option ClassCall) → is_closed_by (queued_for past a n args o c) ≡ false
    queued None c = h
    queued (Some ch) None = h
    queued (Some ch) (Some call) = cond_both call.reliable (after_making past ch (Calls a n call args)) (Waits (Calls a n call args) ∷ past) (λ (p : Past). is_closed_by p ≡ false) (λ e. made_unclosed past ch (Calls a n call args) h) (λ e. h)

    by : (answer : CallAnswer) → is_closed_by (after_answer side past a n args answer) ≡ false
    by Queued = queued (call_channel side past a) (call_of side past a n args)
    by Dead = h
    by NotOpen = h
    by NotOwner = h
    by WindowFull = h

-- ---- what one thing said adds

-- one more payload stands at its place when the list is turned round
loose_more : (o : Option Message) (rest : List Message) (before : List Message) → reverse (cons_option o rest) ++ before ≡ reverse rest ++ cons_option o before
loose_more None rest before = refl
loose_more (Some m) rest before = ap (λ (l : List Message). l ++ before) (reverse-append (m ∷ []) rest) ∙ append_assoc (reverse rest) (m ∷ []) before

module _ (entries : List Entry) (is : IsTable entries) (player : ℕ) (edits : Edits) (ok : AreAccepted (table_of entries) edits) (v : Version) (left right : End) (lv : left.version ≡ v) (rv : right.version ≡ v)
    (server : left.side ≡ AtServer) (client : right.side ≡ AtClient) (left_table : left.table ≡ table_of entries) (right_table : right.table ≡ table_of entries) where
  same : left.version ≡ right.version
  same = lv ∙ sym rv

  record HeardLoosely (past : Past) (k : ℕ) (es : List Feed.Entry) (ds : List Delivered) (after : List Said) : Type 0 where
    entries_heard : List Feed.Entry
    news : List Delivered
    ends : after_entries right (Took k es ds ∷ past) (map entry_said after) ≡ Took k entries_heard news ∷ past
    loose : loosely news ≡ reverse (filter_map loose_said after) ++ loosely ds

  hears_loosely : (l past : Past) → ServerFacts entries (class_of (table_of entries) edits) left l → PastFits left l → (k : ℕ) → has_ended past ≡ false → top_of past < k → (after before : List Said) (es : List Feed.Entry) (ds : List Delivered) → said_by v l k ≡ before ++ after → es ≡ reverse (map entry_said before)
      → Follower entries (class_of (table_of entries) edits) left right l (Took k es ds ∷ past) → HeardLoosely past k es ds after
  hears_loosely l past facts fits k alive fresh [] before es ds said told f = record { entries_heard = es; news = ds; ends = refl; loose = refl }
  hears_loosely l past facts fits k alive fresh (s ∷ after) before es ds said told f =
      let h : HeardOne entries is (class_of (table_of entries) edits) left right same client right_table l facts fits (λ ch. few_parts (messages_on l ch) (messages_short left l ch fits)) k past alive fresh es ds s =
      hears_one entries is (class_of (table_of entries) edits) left right same client right_table l facts fits (λ ch. few_parts (messages_on l ch) (messages_short left l ch fits)) k past alive fresh es ds s before after
      (subst (λ w. said_by w l k ≡ before ++ s ∷ after) (sym lv) said) told f in
      let next = hears_loosely l past facts fits k alive fresh after (before ++ s ∷ []) (entry_said s ∷ es) h.news (said ∙ sym (append_assoc before (s ∷ []) after))
      (one_more entries is player edits ok v left right lv rv server client left_table right_table es s before told) h.keeps in
      record {
        entries_heard = next.entries_heard;
        news = next.news;
        ends = goes_on entries is player edits ok v left right lv rv server client left_table right_table right past k es ds h.news s after h.ok ∙ next.ends;
        loose = next.loose ∙ ap (λ (l : List Message). reverse (filter_map loose_said after) ++ l) h.loose ∙ sym (loose_more (loose_said s) (filter_map loose_said after) (loosely ds));
      }

  -- the client takes a packet, or nothing comes of it
  record TakesOne (l me later : Past) : Type 0 where
    k : ℕ
    es : List Feed.Entry
    news : List Delivered
    is_taken : later ≡ Took k es news ∷ me
    applies : AppliesPacket l me (Took k es news)

  abbrev Comes : (l me later : Past) → Type 0
  Comes l me later = (later ≡ me) ⊎ TakesOne l me later

  got_comes : (l r : Past) (bytes : List ℕ) → PastFits left l → Talked v left right l r → Agreement entries player edits left right l r → IsPacketOf right left r l bytes → Comes l r (after_got right r bytes)
  got_comes l r bytes fits t a q = (got_by entries is player edits ok v left right lv rv server client left_table right_table right r bytes q.packet (Comes l r) q.read (inl refl) (λ alive new.
      (let near_k = (reads_there left right l r same a.follower.link).packet q.number q.come in
      let as_read = read_as entries is player edits ok v left right lv rv server client left_table right_table right left rv lv r l q.number q.packet q.sent near_k in
      let above : top_of r < q.number = as_read.1 new in
      let begun : IsLink left right l (Took q.number [] [] ∷ r) = right_does (Takes q.number) a.follower.link alive above (subst (λ w. IsWhole w l r) (sym rv) t.right_whole, (q.number, q.come, near_k)) in
      let start_here : Agreement entries player edits left right l (Took q.number [] [] ∷ r) =
      right_still entries is player edits ok v left right lv rv server client left_table right_table l r (Takes q.number) tt above begun a.blind a in
      let h = hears_loosely l r (facts_at entries is player edits ok v left right lv rv server client left_table right_table l r a) fits q.number alive above (said_by v l q.number) [] [] [] refl refl start_here.follower in (
        q.number,
        h.entries_heard,
        h.news,
        as_read.0 ∙ h.ends,
        inr (record {
          k = q.number;
          es = h.entries_heard;
          news = h.news;
          is_taken = refl;
          applies = ap (λ (ms : List Message). reverse ms) (h.loose ∙ append-nil (reverse (filter_map loose_said (said_by v l q.number)))) ∙ reversed_twice (filter_map loose_said (said_by v l q.number)) ∙ said_loose v l q.number;
        }),
      )))).result

  -- both
  pub record Applies (l r : Past) : Type 0 where
    pub unbroken : is_closed_by r ≡ false
    pub loose : AppliesLoose l r

  left_applies : (l : List Event) (r : Past) (event : Event) → IsLink left right (past_of left l) r → IsRun left (past_of left (event ∷ l)) → Applies (past_of left l) r → Applies (past_of left (event ∷ l)) r
  left_applies l r event link later h = record {
    unbroken = h.unbroken;
    loose = loose_later (past_of left l) (past_of left (event ∷ l)) r (λ n q.
        (let x : Extends (past_of left l) (past_of left (event ∷ l)) = event_extends left l event in
        let sent = (reads_there left right (past_of left l) r same link).taken n q in
        ap (filter_map loose_in) (ap (λ (p : Past). items_of p n) x.1
        ∙ items_stay left x.0 (past_of left l) (deeds_fit left (past_of left l) (left_run left right (past_of left l) r link)) (subst (DeedsFit left) x.1 (deeds_fit left (past_of left (event ∷ l)) later)) n sent.0 sent.1))) h.loose;
  }

  right_applies : (l : Past) (r : List Event) (event : Event) → PastFits left l → Talked v left right l (past_of right r) → Agreement entries player edits left right l (past_of right r) → MayHear right left (past_of right r) l event
      → Applies l (past_of right r) → Applies l (past_of right (event ∷ r))
  right_applies l r (Tick sight) fits t a q h = record {
    unbroken = tick_unclosed right (past_of right r) sight (feed_done right r) h.unbroken;
    loose = (tick_runs right (λ (p : Past). IsRun right p × AppliesLoose l p) (loose_goes right l) (past_of right r) sight (λ x alive. (does (Ticks sight) x.0 alive tt, (tt, x.1)))
        (record { run = ((feed_done right r).run, h.loose); few = (feed_done right r).few })).run.1;
  }
  right_applies l r (Call b n args) fits t a q h = record {
    unbroken = call_unclosed right.side (past_of right r) b n args h.unbroken;
    loose = (call_runs right (λ (p : Past). IsRun right p × AppliesLoose l p) (loose_goes right l) (past_of right r) (record { run = ((feed_done right r).run, h.loose); few = (feed_done right r).few }) b n args).run.1;
  }
  right_applies l r (Got bytes) fits t a q h = by (got_comes l (past_of right r) bytes fits t a q)
    where
      by : Comes l (past_of right r) (after_got right (past_of right r) bytes) → Applies l (past_of right (Got bytes ∷ r))
      by (inl e) = subst (Applies l) (sym e) h
      by (inr c) = subst (Applies l) (sym c.is_taken) (record { unbroken = h.unbroken; loose = (c.applies, h.loose) })

  pub applies_talk : (l r : List Event) → IsTalk left right l r → FeedsKnown entries is player edits ok v left right lv rv server client left_table right_table l r → Applies (past_of left l) (past_of right r)
  applies_talk l r start k = record { unbroken = refl; loose = tt }
  applies_talk l r (left_hears {l = x} {r = y} event talk q) k =
      let known : FeedsKnown entries is player edits ok v left right lv rv server client left_table right_table x y =
      record { sees = rest_sees entries is player edits ok v left right lv rv server client left_table right_table event x k.sees; blind = k.blind; left_fit = k.left_fit.1; right_fit = k.right_fit } in
      left_applies x (past_of right y) event (linked left right x y same talk) (feed_runs left (event ∷ x)) (applies_talk x y talk known)
  applies_talk l r (right_hears {l = x} {r = y} event talk q) k =
      let known : FeedsKnown entries is player edits ok v left right lv rv server client left_table right_table x y =
      record { sees = k.sees; blind = rest_blind entries is player edits ok v left right lv rv server client left_table right_table event y k.blind; left_fit = k.left_fit; right_fit = k.right_fit.1 } in
      right_applies (past_of left x) y event (end_fits left entries is left_table x k.left_fit) (talked v left right lv rv x y talk) (agree_talk entries is player edits ok v left right lv rv server client left_table right_table x y talk known) q
      (applies_talk x y talk known)
