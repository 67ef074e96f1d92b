-- No unreliable call is handed over more often than it was sent.
use Rattle.std.proofs.Common.{◌≡◌, ℕ, ◌+◌, ◌<◌, ◌≤◌, List, [], ◌∷◌, ◌++◌, map, reverse, Bool, true, false, cond, not, ◌==◌, refl, sym, ap, ◌∙◌, subst, arith, append-nil, Option, None}
use Rattle.std.specs.List.{filter_map, cons_option, count_by}
use Rattle.std.specs.Bool.{then_some}
use Rattle.std.proofs.lemmas.Bool.{eqb-true}
use Rattle.std.proofs.lemmas.Bool.Decides.{nat_tests}
use Rattle.std.proofs.lemmas.List.Elements.{filter_map-append}
use Rattle.protocol_model.specs.declared.Version.{Version}
use Rattle.protocol_model.specs.declared.Version.TheVariants.{One, Two}
use Rattle.protocol_model.specs.Payload.{Message}
use Rattle.protocol_model.specs.Side.{AtServer, AtClient}
use Rattle.protocol_model.specs.Search.{is_among, greatest_of}
use Rattle.protocol_model.specs.World.{Edits}
use Rattle.table_model.specs.Facts.{IsTable}
use Rattle.table_model.specs.Rules.{Entry}
use Rattle.table_model.specs.Grammar.{table_of}
use Rattle.connection_model.specs.Feed.{End, Past, Event, Tick, Got, Call, Ticked, Made, Waits, Sent, Took, Ended, Delivered, Item, Owed, Carries, Loose, has_ended}
use Rattle.connection_model.specs.Copies.{delivered_of}
use Rattle.connection_model.specs.Fates.{taken_of}
use Rattle.connection_model.specs.Handed.{Asked, asked_in}
use Rattle.connection_model.specs.Past.{past_of}
use Rattle.connection_laws.specs.Run.{Move, Ticks, Makes, Defers, Sends, Takes, Hears, Hands, Ends, after_move, May, IsRun}
use Rattle.connection_laws.specs.Run.IsRun.{does}
use Rattle.connection_laws.specs.Taken.{Falls}
use Rattle.connection_laws.specs.Link.{Said, SaysItem, all_said, said_by}
use Rattle.connection_laws.specs.Talk.{MayHear, IsTalk}
use Rattle.connection_laws.specs.Talk.IsTalk.{start, left_hears, right_hears}
use Rattle.connection_laws.proofs.LinkLaws.{reads_there, reads_back}
use Rattle.connection_laws.proofs.Calling.{call_runs}
use Rattle.connection_laws.proofs.Feeds.{feed_done, feed_runs}
use Rattle.connection_laws.proofs.LiveRuns.{IsQuiet, Goes}
use Rattle.connection_laws.proofs.Moves.{making_keeps}
use Rattle.connection_laws.proofs.OwedAscend.{taken_falls}
use Rattle.connection_laws.proofs.Searches.{among_here, among_there}
use Rattle.connection_laws.proofs.TalksLink.{Talked, talked, left_stays, right_stays}
use Rattle.connection_laws.proofs.Ticking.{tick_runs}
use Rattle.payload_laws.specs.Accepted.{AreAccepted}
use Rattle.headline_laws.specs.Fits.{PastFits}
use Rattle.headline_laws.specs.Once.{loosely_sent_by, loosely_sent, loosely_handed_in, loosely_handed, loosely_queued}
use Rattle.headline_laws.proofs.EndsAgree.{Agreement, FeedsKnown, agree_talk, client_got_with, server_got_with, rest_sees, rest_blind}
use Rattle.headline_laws.proofs.ClientHears.{loose_said, loosely}
use Rattle.headline_laws.proofs.SentOnce.{count, count_both, count_reverse, messages_reverse, sent_once}
use Rattle.headline_laws.proofs.PacketsSpelled.{end_fits}
use Rattle.protocol_laws.proofs.Greatest.{greatest_of-cons}

module _ (t : Asked → Bool) (v : Version) where
  -- ---- counts of what was said and handed on

  abbrev pub of_said : List Said → ℕ
  of_said ss = count t (filter_map asked_in (filter_map loose_said ss))

  abbrev pub of_handed : List Delivered → ℕ
  of_handed ds = count t (filter_map loosely_handed_in ds)

  handed_is : (ds : List Delivered) → filter_map loosely_handed_in ds ≡ filter_map asked_in (loosely ds)
  handed_is [] = refl
  handed_is (d ∷ ds) = by d.reliable (asked_in d.message) refl (handed_is ds)
    where
      by : (b : Bool) (o : Option Asked) → asked_in d.message ≡ o → filter_map loosely_handed_in ds ≡ filter_map asked_in (loosely ds)
          → cons_option (elim b [ true ↦ None | false ↦ asked_in d.message ]) (filter_map loosely_handed_in ds) ≡ filter_map asked_in (cons_option (then_some (not b) d.message) (loosely ds))
      by true o e h = h
      by false o e h = ap (cons_option (asked_in d.message)) h

  -- what was said of a packet that was taken
  taken_few : (ds : List Delivered) (ss : List Said) → loosely ds ≡ reverse (filter_map loose_said ss) ++ [] → of_handed ds ≤ of_said ss
  taken_few ds ss e =
      let same : of_handed ds ≡ of_said ss = ap (count t) (handed_is ds) ∙ ap (λ (ms : List Message). count t (filter_map asked_in ms)) (e ∙ append-nil (reverse (filter_map loose_said ss))) ∙ messages_reverse t (filter_map loose_said ss) in
      omega (arith, same)

  -- each packet taken handed on no more than it said
  abbrev pub EachTook : (from : Past) → Past → Type 0
  EachTook from [] = Unit {0}
  EachTook from (Took n es ds ∷ past) = (of_handed ds ≤ of_said (said_by v from n)) × EachTook from past
  EachTook from (Ticked n s ∷ past) = EachTook from past
  EachTook from (Made c n m i ∷ past) = EachTook from past
  EachTook from (Waits m ∷ past) = EachTook from past
  EachTook from (Sent n k items ∷ past) = EachTook from past
  EachTook from (Ended g ∷ past) = EachTook from past

  took_later : (from later : Past) (to : Past) → ((n : ℕ) → is_among n (taken_of to) ≡ true → said_by v later n ≡ said_by v from n) → EachTook from to → EachTook later to
  took_later from later [] same h = tt
  took_later from later (Ticked n s ∷ to) same h = took_later from later to same h
  took_later from later (Made c n m i ∷ to) same h = took_later from later to same h
  took_later from later (Waits m ∷ to) same h = took_later from later to same h
  took_later from later (Sent n k items ∷ to) same h = took_later from later to same h
  took_later from later (Ended g ∷ to) same h = took_later from later to same h
  took_later from later (Took n es ds ∷ to) same h =
      (subst (λ (ss : List Said). of_handed ds ≤ of_said ss) (sym (same n (among_here n (taken_of to) n refl))) h.0, took_later from later to (λ k q. same k (among_there n (taken_of to) k q)) h.1)

  quiet_took : (end : End) (from past : Past) (move : Move) → IsQuiet move → IsRun end past × EachTook from past → has_ended past ≡ false → May end past move → IsRun end (after_move past move) × EachTook from (after_move past move)
  quiet_took end from past (Ticks sight) quiet h alive may = absurd quiet
  quiet_took end from past (Makes ch m) quiet h alive may = (does (Makes ch m) h.0 alive may, making_keeps (λ i now. EachTook from now) past ch m h.1 (λ i now lt e. e))
  quiet_took end from past (Defers m) quiet h alive may = (does (Defers m) h.0 alive may, h.1)
  quiet_took end from past (Sends items) quiet h alive may = (does (Sends items) h.0 alive may, h.1)
  quiet_took end from past (Takes n) quiet h alive may = absurd quiet
  quiet_took end from past (Hears entry) quiet h alive may = absurd quiet
  quiet_took end from past (Hands d) quiet h alive may = absurd quiet
  quiet_took end from past (Ends g) quiet h alive may = (does (Ends g) h.0 alive may, h.1)

  took_goes : (end : End) (from : Past) → Goes end (λ (past : Past). IsRun end past × EachTook from past)
  took_goes end from = record { is_run = λ past h. h.0; goes = quiet_took end from }

  -- ---- no packet is taken twice

  abbrev sums : (ℕ → ℕ) → List ℕ → ℕ
  sums g [] = 0
  sums g (n ∷ ns) = g n + sums g ns

  took_sum : (from to : Past) → EachTook from to → of_handed (delivered_of to) ≤ sums (λ n. of_said (said_by v from n)) (taken_of to)
  took_sum from [] h = omega arith
  took_sum from (Ticked n s ∷ to) h = took_sum from to h
  took_sum from (Made c n m i ∷ to) h = took_sum from to h
  took_sum from (Waits m ∷ to) h = took_sum from to h
  took_sum from (Sent n k items ∷ to) h = took_sum from to h
  took_sum from (Ended g ∷ to) h = took_sum from to h
  took_sum from (Took n es ds ∷ to) h =
      let both : of_handed (ds ++ delivered_of to) ≡ of_handed ds + of_handed (delivered_of to) =
      ap (count t) (filter_map-append loosely_handed_in ds (delivered_of to)) ∙ count_both t (filter_map loosely_handed_in ds) (filter_map loosely_handed_in (delivered_of to)) in
      omega (arith, both, h.0, took_sum from to h.1)

  differs : (n k : ℕ) → k < n → (n == k) ≡ false
  differs n k h = grind (arith, nat_tests)

  -- below n nothing changes
  sums_below : (g : ℕ → ℕ) (n a : ℕ) (ns : List ℕ) → Falls ns → greatest_of ns < n → sums (λ k. cond (n == k) a (g k)) ns ≡ sums g ns
  sums_below g n a [] f h = refl
  sums_below g n a (k ∷ ns) f h =
      let low : k < n = omega (arith, h, greatest_of-cons k ns) in
      let other : (n == k) ≡ false = differs n k low in
      let rest : sums (λ j. cond (n == j) a (g j)) ns ≡ sums g ns = sums_below g n a ns f.1 (omega (arith, h, greatest_of-cons k ns)) in
      let here : cond (n == k) a (g k) ≡ g k = ap (λ (b : Bool). cond b a (g k)) other in
      omega (arith, here, rest)

  sums_with : (g : ℕ → ℕ) (n a : ℕ) (ns : List ℕ) → Falls ns → sums (λ k. cond (n == k) a (g k)) ns ≤ a + sums g ns
  sums_with g n a [] f = omega arith
  sums_with g n a (k ∷ ns) f = by (n == k) refl (sums_with g n a ns f.1)
    where
      by : (b : Bool) → (n == k) ≡ b → sums (λ j. cond (n == j) a (g j)) ns ≤ a + sums g ns → cond (n == k) a (g k) + sums (λ j. cond (n == j) a (g j)) ns ≤ a + (g k + sums g ns)
      by true e h =
          let same : n ≡ k = eqb-true n k e in
          let here : cond (n == k) a (g k) ≡ a = ap (λ (b : Bool). cond b a (g k)) e in
          let rest : sums (λ j. cond (n == j) a (g j)) ns ≡ sums g ns = sums_below g n a ns f.1 (omega (arith, same, f.0)) in
          omega (arith, here, rest)
      by false e h = (let here : cond (n == k) a (g k) ≡ g k = ap (λ (b : Bool). cond b a (g k)) e in omega (arith, here, h))

  items_said : (items : List Item) → filter_map asked_in (filter_map loose_said (map (λ (item : Item). SaysItem item) items)) ≡ filter_map loosely_sent_by items
  items_said [] = refl
  items_said (Owed n ∷ items) = items_said items
  items_said (Carries c n b ∷ items) = items_said items
  items_said (Loose m b ∷ items) = ap (cons_option (asked_in m)) (items_said items)

  packet_said : (v : Version) (past : Past) (items : List Item) → filter_map asked_in (filter_map loose_said (all_said v past items)) ≡ filter_map loosely_sent_by items
  packet_said One past items = items_said items
  packet_said Two past items = items_said items

  zeros : (ns : List ℕ) → sums (λ (n : ℕ). of_said (said_by v [] n)) ns ≡ 0
  zeros [] = refl
  zeros (n ∷ ns) = omega (arith, zeros ns)

  sums_same : (g h : ℕ → ℕ) → ((n : ℕ) → g n ≡ h n) → (ns : List ℕ) → sums g ns ≡ sums h ns
  sums_same g h e [] = refl
  sums_same g h e (n ∷ ns) = omega (arith, e n, sums_same g h e ns)

  all_sent_once : (from : Past) (ns : List ℕ) → Falls ns → sums (λ n. of_said (said_by v from n)) ns ≤ count t (loosely_sent from)
  all_sent_once [] ns f = omega (arith, zeros ns)
  all_sent_once (Ticked n s ∷ from) ns f = all_sent_once from ns f
  all_sent_once (Made c n m i ∷ from) ns f = all_sent_once from ns f
  all_sent_once (Waits m ∷ from) ns f = all_sent_once from ns f
  all_sent_once (Took n es ds ∷ from) ns f = all_sent_once from ns f
  all_sent_once (Ended g ∷ from) ns f = all_sent_once from ns f
  all_sent_once (Sent n k items ∷ from) ns f =
      let split : sums (λ j. of_said (said_by v (Sent n k items ∷ from) j)) ns ≡ sums (λ j. cond (n == j) (of_said (all_said v from items)) (of_said (said_by v from j))) ns =
      sums_same (λ j. of_said (said_by v (Sent n k items ∷ from) j)) (λ j. cond (n == j) (of_said (all_said v from items)) (of_said (said_by v from j))) (λ j. each j (n == j)) ns in
      let here : of_said (all_said v from items) ≡ count t (filter_map loosely_sent_by items) = ap (count t) (packet_said v from items) in
      let more : count t (loosely_sent (Sent n k items ∷ from)) ≡ count t (filter_map loosely_sent_by items) + count t (loosely_sent from) = count_both t (filter_map loosely_sent_by items) (loosely_sent from) in
      omega (arith, split, here, more, sums_with (λ j. of_said (said_by v from j)) n (of_said (all_said v from items)) ns f, all_sent_once from ns f)
    where
      each : (j : ℕ) (b : Bool) → of_said (cond b (all_said v from items) (said_by v from j)) ≡ cond b (of_said (all_said v from items)) (of_said (said_by v from j))
      each j true = refl
      each j false = refl

  pub handed_sent : (end : End) (from to : Past) → IsRun end to → EachTook from to → count t (loosely_handed to) ≤ count t (loosely_sent from)
  handed_sent end from to run h =
      omega (arith, count_reverse t (filter_map loosely_handed_in (delivered_of to)), took_sum from to h, all_sent_once from (taken_of to) (taken_falls end to run))

-- ---- a talk

module _ (entries : List Entry) (is : IsTable entries) (player : ℕ) (edits : Edits) (ok : AreAccepted (table_of entries) edits) (v : Version) (left right : End) (lv : left.version ≡ v) (rv : right.version ≡ v)
    (server : left.side ≡ AtServer) (client : right.side ≡ AtClient) (left_table : left.table ≡ table_of entries) (right_table : right.table ≡ table_of entries) (t : Asked → Bool) where
  pub record Once (l r : Past) : Type 0 where
    pub there : EachTook t v l r
    pub back : EachTook t v r l

  left_once : (l : List Event) (r : Past) (event : Event) → PastFits right r → Talked v left right (past_of left l) r → Agreement entries player edits left right (past_of left l) r → MayHear left right (past_of left l) r event
      → Once (past_of left l) r → Once (past_of left (event ∷ l)) r
  left_once l r event fits talk a q h = record {
    there = took_later t v (past_of left l) (past_of left (event ∷ l)) r
        (λ n e. (left_stays v left right lv rv (past_of left l) r event talk q).same n ((reads_there left right (past_of left l) r (lv ∙ sym rv) a.follower.link).taken n e).1) h.there;
    back = by event q;
  }
    where
      by : (event : Event) → MayHear left right (past_of left l) r event → EachTook t v r (past_of left (event ∷ l))
      by (Tick sight) q =
          (tick_runs left (λ (p : Past). IsRun left p × EachTook t v r p) (took_goes t v left r) (past_of left l) sight (λ x alive. (does (Ticks sight) x.0 alive tt, x.1))
          (record { run = ((feed_done left l).run, h.back); few = (feed_done left l).few })).run.1
      by (Call b n args) q =
          (call_runs left (λ (p : Past). IsRun left p × EachTook t v r p) (took_goes t v left r) (past_of left l) (record { run = ((feed_done left l).run, h.back); few = (feed_done left l).few }) b n args).run.1
      by (Got bytes) q =
          (server_got_with entries is player edits ok v left right lv rv server client left_table right_table (past_of left l) r bytes (EachTook t v r) h.back
          (λ k es ds e. (taken_few t v ds (said_by v r k) e, h.back)) fits talk a q).result.1

  right_once : (l : Past) (r : List Event) (event : Event) → PastFits left l → Talked v left right l (past_of right r) → Agreement entries player edits left right l (past_of right r) → MayHear right left (past_of right r) l event
      → Once l (past_of right r) → Once l (past_of right (event ∷ r))
  right_once l r event fits talk a q h = record {
    there = by event q;
    back = took_later t v (past_of right r) (past_of right (event ∷ r)) l
        (λ n e. (right_stays v left right lv rv l (past_of right r) event talk q).same n ((reads_back left right l (past_of right r) (lv ∙ sym rv) a.follower.link).taken n e).1) h.back;
  }
    where
      by : (event : Event) → MayHear right left (past_of right r) l event → EachTook t v l (past_of right (event ∷ r))
      by (Tick sight) q =
          (tick_runs right (λ (p : Past). IsRun right p × EachTook t v l p) (took_goes t v right l) (past_of right r) sight (λ x alive. (does (Ticks sight) x.0 alive tt, x.1))
          (record { run = ((feed_done right r).run, h.there); few = (feed_done right r).few })).run.1
      by (Call b n args) q =
          (call_runs right (λ (p : Past). IsRun right p × EachTook t v l p) (took_goes t v right l) (past_of right r) (record { run = ((feed_done right r).run, h.there); few = (feed_done right r).few }) b n args).run.1
      by (Got bytes) q =
          (client_got_with entries is player edits ok v left right lv rv server client left_table right_table l (past_of right r) bytes (EachTook t v l) h.there
          (λ k es ds e. (taken_few t v ds (said_by v l k) e, h.there)) fits talk a q).result.1

  pub once_talk : (l r : List Event) → IsTalk left right l r → FeedsKnown entries is player edits ok v left right lv rv server client left_table right_table l r → Once (past_of left l) (past_of right r)
  once_talk l r start k = record { there = tt; back = tt }
  once_talk l r (left_hears {l = x} {r = y} event talk q) k =
      let known : FeedsKnown entries is player edits ok v left right lv rv server client left_table right_table x y = record { sees = rest_sees entries is player edits ok v left right lv rv server client left_table right_table event x k.sees; blind = k.blind; left_fit = k.left_fit.1; right_fit = k.right_fit } in
      left_once x (past_of right y) event (end_fits right entries is right_table y k.right_fit) (talked v left right lv rv x y talk) (agree_talk entries is player edits ok v left right lv rv server client left_table right_table x y talk known) q (once_talk x y talk known)
  once_talk l r (right_hears {l = x} {r = y} event talk q) k =
      let known : FeedsKnown entries is player edits ok v left right lv rv server client left_table right_table x y = record { sees = k.sees; blind = rest_blind entries is player edits ok v left right lv rv server client left_table right_table event y k.blind; left_fit = k.left_fit; right_fit = k.right_fit.1 } in
      right_once (past_of left x) y event (end_fits left entries is left_table x k.left_fit) (talked v left right lv rv x y talk) (agree_talk entries is player edits ok v left right lv rv server client left_table right_table x y talk known) q (once_talk x y talk known)

  pub handed_there : (l r : List Event) → IsTalk left right l r → FeedsKnown entries is player edits ok v left right lv rv server client left_table right_table l r → count_by t (loosely_handed (past_of right r)) ≤ count_by t (loosely_queued (past_of left l))
  handed_there l r talk k = omega (arith, handed_sent t v right (past_of left l) (past_of right r) (feed_runs right r) (once_talk l r talk k).there, sent_once t left l)

  pub handed_back : (l r : List Event) → IsTalk left right l r → FeedsKnown entries is player edits ok v left right lv rv server client left_table right_table l r → count_by t (loosely_handed (past_of left l)) ≤ count_by t (loosely_queued (past_of right r))
  handed_back l r talk k = omega (arith, handed_sent t v left (past_of right r) (past_of left l) (feed_runs left l) (once_talk l r talk k).back, sent_once t right r)
