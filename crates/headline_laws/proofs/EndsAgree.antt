-- Two ends that talk agree at every moment, and neither refuses a packet of the other.
use Rattle.std.proofs.Common.{◌≡◌, inl, inr, ℕ, ◌%◌, ◌<◌, List, [], ◌∷◌, ◌++◌, map, reverse, Bool, true, false, cond, refl, sym, ap, ◌∙◌, subst, append_assoc, append-nil, Option, Some, None, Ok, pos}
use Rattle.std.specs.Prelude.{int_lt, unsigned_abs}
use Rattle.std.specs.List.{AllByRecursion, filter_map, cons_option}
use Rattle.std.proofs.lemmas.Bool.{cases_Bool, ltb-true}
use Rattle.std.proofs.lemmas.List.{map-append, reverse-append}
use Rattle.protocol_model.specs.declared.Version.{Version}
use Rattle.protocol_model.specs.declared.Verdict.TheVariants.{Dead, Old}
use Rattle.protocol_model.specs.Bits.{near}
use Rattle.protocol_model.specs.Packet.{Packet}
use Rattle.protocol_model.specs.PacketReading as Reading
use Rattle.protocol_model.specs.Side.{AtServer, AtClient}
use Rattle.protocol_model.specs.Value.{Class}
use Rattle.protocol_model.specs.World.{Edits, class_of}
use Rattle.table_model.specs.Facts.{IsTable}
use Rattle.table_model.specs.Rules.{Entry, segments_of}
use Rattle.table_model.specs.Grammar.{table_of}
use Rattle.connection_model.specs.Feed.{End, Past, Event, Tick, Got, Call, Ticked, Took, Ended, ByCause, Delivered, has_ended, tick_count}
use Rattle.connection_model.specs.Feed as Feed
use Rattle.connection_model.specs.Copies.{delivered_of, handed_in}
use Rattle.connection_model.specs.Fates.{top_of, entries_of, entries_in, number_near, is_new}
use Rattle.connection_model.specs.Past.{past_of}
use Rattle.connection_model.specs.Verdict.{with_told, Progress, entry_result, after_entries, after_packet, after_reading, after_got, verdict_of, verdict_on, verdict_after}
use Rattle.connection_model.specs.Verdict as Verdicts
use Rattle.connection_model.specs.Windows.{received_by, applied_of, wholes_from, wholes_of}
use Rattle.connection_laws.specs.Run.{Move, Ticks, Makes, Defers, Sends, Takes, Hears, Hands, Ends, after_move, May, IsRun}
use Rattle.connection_laws.specs.Delivered.{messages_on, payload_of}
use Rattle.connection_laws.specs.Link.{Said, entry_said, said_by, IsWhole, IsFaithful, IsLink}
use Rattle.connection_laws.specs.Link.IsLink.{start as link_start, left_does, right_does}
use Rattle.connection_laws.specs.Talk.{IsPacketOf, MayHear, IsTalk, packet_at}
use Rattle.connection_laws.specs.Talk.IsTalk.{start, left_hears, right_hears}
use Rattle.connection_laws.proofs.LinkLaws.{reads_there, reads_back}
use Rattle.connection_laws.proofs.Calling.{call_runs}
use Rattle.connection_laws.proofs.LinkedEnds.{left_run, right_run}
use Rattle.connection_laws.proofs.LiveRuns.{IsQuiet, Goes}
use Rattle.connection_laws.proofs.Moves.{made_ignored, made_ignored_all}
use Rattle.connection_laws.proofs.TalksLink.{PacketFacts, packet_facts, whole_made, Talked, talked}
use Rattle.connection_laws.proofs.Ticking.{tick_runs}
use Rattle.payload_laws.specs.Accepted.{AreAccepted}
use Rattle.headline_laws.specs.Fair.{is_fair_verdict}
use Rattle.headline_laws.specs.Fits.{EventFits, PastFits}
use Rattle.headline_laws.specs.Sights.{sight_in, sights_of, Seeing}
use Rattle.protocol_model.specs.Payload.{Message}
use Rattle.headline_laws.proofs.ClientHears.{Follower, HeardOne, hears_one, loose_said, loosely}
use Rattle.headline_laws.proofs.Following.{More, more_by, hands_more, hands_alike, follows_more, more_done, follows_alike, alike_done, follows_start, start_done}
use Rattle.headline_laws.proofs.PastGrows.{opens_export}
use Rattle.headline_laws.proofs.HonestPlayers.{few_parts}
use Rattle.headline_laws.proofs.MarksInOrder.{marks_come}
use Rattle.headline_laws.proofs.NextPasses.{ServerFacts}
use Rattle.headline_laws.proofs.ServerSays.{server_says}
use Rattle.headline_laws.proofs.ServerHears.{ClientSays, says_later, says_move, Served, ServedOne, serves_one}
use Rattle.headline_laws.proofs.Sights.{SeesNothing, shown_by, seeing_rest, feed_sees}
use Rattle.headline_laws.proofs.PacketsSpelled.{end_fits}
use Rattle.headline_laws.proofs.WholeMessages.{messages_short}

-- the client follows the server, the server was handed on what the client called, and the sights are of the world
pub record Agreement (entries : List Entry) (player : ℕ) (edits : Edits) (left right : End) (l r : Past) : Type 0 where
  pub follower : Follower entries (class_of (table_of entries) edits) left right l r
  pub served : Served l r
  pub says : ClientSays entries (class_of (table_of entries) edits) l r
  pub sees : Seeing (table_of entries) player edits (sights_of l)
  pub blind : SeesNothing (sights_of r)

-- ---- a move that hears nothing

-- the move hears nothing, and hands nothing on
abbrev pub IsStill : Move → Type 0
IsStill (Ticks sight) = Unit {0}
IsStill (Makes ch message) = Unit {0}
IsStill (Defers message) = Unit {0}
IsStill (Sends items) = Unit {0}
IsStill (Takes number) = Unit {0}
IsStill (Hears entry) = ⊥
IsStill (Hands d) = ⊥
IsStill (Ends ending) = Unit {0}

-- such a move hands nothing on
delivered_still : (past : Past) (move : Move) → IsStill move → delivered_of (after_move past move) ≡ delivered_of past
delivered_still past (Ticks sight) s = refl
delivered_still past (Makes ch m) s = made_ignored_all handed_in (λ c n m i. refl) past ch m
delivered_still past (Defers m) s = refl
delivered_still past (Sends items) s = refl
delivered_still past (Takes n) s = refl
delivered_still past (Hears entry) s = absurd s
delivered_still past (Hands d) s = absurd s
delivered_still past (Ends g) s = refl

-- it hears nothing
entries_still : (past : Past) (move : Move) → IsStill move → entries_of (after_move past move) ≡ entries_of past
entries_still past (Ticks sight) s = refl
entries_still past (Makes ch m) s = made_ignored_all entries_in (λ c n m i. refl) past ch m
entries_still past (Defers m) s = refl
entries_still past (Sends items) s = refl
entries_still past (Takes n) s = refl
entries_still past (Hears entry) s = absurd s
entries_still past (Hands d) s = absurd s
entries_still past (Ends g) s = refl

-- it receives nothing whole
wholes_still : (past : Past) (move : Move) → IsStill move → (ch : ℕ) → wholes_of (after_move past move) ch ≡ wholes_of past ch
wholes_still past move s ch = ap (λ (es : List Feed.Entry). wholes_from [] (applied_of (received_by es ch))) (entries_still past move s)

-- a quiet move is such a one
quiet_still : (move : Move) → IsQuiet move → IsStill move
quiet_still (Ticks sight) q = tt
quiet_still (Makes ch m) q = tt
quiet_still (Defers m) q = tt
quiet_still (Sends items) q = tt
quiet_still (Takes n) q = tt
quiet_still (Hears entry) q = q
quiet_still (Hands d) q = q
quiet_still (Ends g) q = tt

-- a quiet move sees nothing
sights_quiet : (past : Past) (move : Move) → IsQuiet move → sights_of (after_move past move) ≡ sights_of past
sights_quiet past (Ticks sight) q = absurd q
sights_quiet past (Makes ch m) q = made_ignored sight_in (λ c n m i. refl) past ch m
sights_quiet past (Defers m) q = refl
sights_quiet past (Sends items) q = refl
sights_quiet past (Takes n) q = absurd q
sights_quiet past (Hears entry) q = absurd q
sights_quiet past (Hands d) q = absurd q
sights_quiet past (Ends g) q = refl

-- a packet under way makes nothing more
more_took : (past : Past) (k : ℕ) (es later : List Feed.Entry) (ds news : List Delivered) → More (Took k es ds ∷ past) (Took k later news ∷ past)
more_took past k es later ds news = record { made = λ ch. ([], sym (append-nil (messages_on past ch))); marks = λ a. ([], refl, tt); opened = λ a h. h }

module _ (entries : List Entry) (is : IsTable entries) (player : ℕ) (edits : Edits) (ok : AreAccepted (table_of entries) edits) (v : Version) (left right : End) (lv : left.version ≡ v) (rv : right.version ≡ v)
    (server : left.side ≡ AtServer) (client : right.side ≡ AtClient) (left_table : left.table ≡ table_of entries) (right_table : right.table ≡ table_of entries) where
  abbrev classes : ℕ → Class
  classes a = class_of (table_of entries) edits a

  abbrev Agrees : Past → Past → Type 0
  Agrees l r = Agreement entries player edits left right l r

  pub same_version : left.version ≡ right.version
  same_version = lv ∙ sym rv

  facts_of : (l : Past) → IsRun left l → Seeing (table_of entries) player edits (sights_of l) → ServerFacts entries (class_of (table_of entries) edits) left l
  facts_of l run see = record { side = server; run = run; tells = server_says entries is player edits ok left server l run see; come = marks_come entries is player edits ok left l run see; exports = opens_export left l run }

  pub facts_at : (l r : Past) → Agrees l r → ServerFacts entries (class_of (table_of entries) edits) left l
  facts_at l r a = facts_of l (left_run left right l r a.follower.link) a.sees

  -- ---- moves of either end

  left_still : (l r : Past) (move : Move) → IsStill move → May left l move → IsLink left right (after_move l move) r → Seeing (table_of entries) player edits (sights_of (after_move l move)) → Agrees l r → Agrees (after_move l move) r
  left_still l r move still may link see a =
      let run : IsRun left l = left_run left right l r a.follower.link in
      let more : More l (after_move l move) = more_by left l move run may in
      record {
        follower = record {
          link = link;
          follows = follows_more (segments_of entries) (class_of (table_of entries) edits) left l (after_move l move) r run more a.follower.follows;
          whole = λ ch. a.follower.whole ch ∙ ap (map (payload_of ch)) (sym (more_done (segments_of entries) (class_of (table_of entries) edits) left l (after_move l move) r run more a.follower.follows ch));
        };
        served = record { hands = hands_alike l (after_move l move) (delivered_still l move still) r a.served.hands; whole = λ ch. wholes_still l move still ch ∙ a.served.whole ch };
        says = says_later entries (class_of (table_of entries) edits) l (after_move l move) more.opened r a.says;
        sees = see;
        blind = a.blind;
      }

  pub right_still : (l r : Past) (move : Move) → IsStill move → May right r move → IsLink left right l (after_move r move) → SeesNothing (sights_of (after_move r move)) → Agrees l r → Agrees l (after_move r move)
  right_still l r move still may link blind a =
      let run : IsRun right r = right_run left right l r a.follower.link in
      let e : delivered_of (after_move r move) ≡ delivered_of r = delivered_still r move still in
      record {
        follower = record {
          link = link;
          follows = follows_alike (segments_of entries) (class_of (table_of entries) edits) l r (after_move r move) e a.follower.follows;
          whole = λ ch. wholes_still r move still ch ∙ a.follower.whole ch ∙ ap (map (payload_of ch)) (sym (alike_done (segments_of entries) (class_of (table_of entries) edits) l r (after_move r move) e a.follower.follows ch));
        };
        served = record { hands = hands_more r (after_move r move) l (more_by right r move run may) a.served.hands; whole = a.served.whole };
        says = says_move entries (class_of (table_of entries) edits) left right l (facts_at l r a) client r move a.blind a.follower.follows a.says may;
        sees = a.sees;
        blind = blind;
      }

  -- ---- ticks and calls

  left_goes : (r l : Past) (move : Move) → IsQuiet move → Agrees l r × IsWhole v r l → has_ended l ≡ false → May left l move → Agrees (after_move l move) r × IsWhole v r (after_move l move)
  left_goes r l move quiet h alive may = by move quiet may
    where
      on : (move : Move) → IsQuiet move → May left l move → IsFaithful v r l move → Agrees (after_move l move) r
      on move quiet may honest =
          left_still l r move (quiet_still move quiet) may (left_does move h.0.follower.link alive may (subst (λ w. IsFaithful w r l move) (sym lv) honest)) (subst (Seeing (table_of entries) player edits) (sym (sights_quiet l move quiet)) h.0.sees) h.0

      by : (move : Move) → IsQuiet move → May left l move → Agrees (after_move l move) r × IsWhole v r (after_move l move)
      by (Ticks sight) q may = absurd q
      by (Makes ch m) q may = (on (Makes ch m) q may h.1, whole_made v r l ch m)
      by (Defers m) q may = (on (Defers m) q may h.1, tt)
      by (Sends items) q may = (on (Sends items) q may h.1, tt)
      by (Takes n) q may = absurd q
      by (Hears entry) q may = absurd q
      by (Hands d) q may = absurd q
      by (Ends g) q may = (on (Ends g) q may tt, tt)

  right_goes : (l r : Past) (move : Move) → IsQuiet move → Agrees l r × IsWhole v l r → has_ended r ≡ false → May right r move → Agrees l (after_move r move) × IsWhole v l (after_move r move)
  right_goes l r move quiet h alive may = by move quiet may
    where
      on : (move : Move) → IsQuiet move → May right r move → IsFaithful v l r move → Agrees l (after_move r move)
      on move quiet may honest =
          right_still l r move (quiet_still move quiet) may (right_does move h.0.follower.link alive may (subst (λ w. IsFaithful w l r move) (sym rv) honest)) (subst SeesNothing (sym (sights_quiet r move quiet)) h.0.blind) h.0

      by : (move : Move) → IsQuiet move → May right r move → Agrees l (after_move r move) × IsWhole v l (after_move r move)
      by (Ticks sight) q may = absurd q
      by (Makes ch m) q may = (on (Makes ch m) q may h.1, whole_made v l r ch m)
      by (Defers m) q may = (on (Defers m) q may h.1, tt)
      by (Sends items) q may = (on (Sends items) q may h.1, tt)
      by (Takes n) q may = absurd q
      by (Hears entry) q may = absurd q
      by (Hands d) q may = absurd q
      by (Ends g) q may = (on (Ends g) q may tt, tt)

  left_quiet : (r : Past) → Goes left (λ (l : Past). Agrees l r × IsWhole v r l)
  left_quiet r = record { is_run = λ l h. left_run left right l r h.0.follower.link; goes = left_goes r }

  right_quiet : (l : Past) → Goes right (λ (r : Past). Agrees l r × IsWhole v l r)
  right_quiet l = record { is_run = λ r h. right_run left right l r h.0.follower.link; goes = right_goes l }

  -- ---- a packet is heard

  -- it was heard to its end
  record HeardAll (end : End) (past : Past) (k : ℕ) (es : List Feed.Entry) (ds : List Delivered) (after : List Said) (Result : Past → Type 0) : Type 0 where
    entries_heard : List Feed.Entry
    news : List Delivered
    ends : after_entries end (Took k es ds ∷ past) (map entry_said after) ≡ Took k entries_heard news ∷ past
    result : Result (Took k entries_heard news ∷ past)
    loose : loosely news ≡ reverse (filter_map loose_said after) ++ loosely ds

  pub one_more : (es : List Feed.Entry) (s : Said) (before : List Said) → es ≡ reverse (map entry_said before) → entry_said s ∷ es ≡ reverse (map entry_said (before ++ s ∷ []))
  one_more es s before told = ap (λ (xs : List Feed.Entry). entry_said s ∷ xs) told ∙ sym (ap reverse (map-append entry_said before (s ∷ [])) ∙ reverse-append (map entry_said before) (entry_said s ∷ []))

  pub goes_on : (end : End) (past : Past) (k : ℕ) (es : List Feed.Entry) (ds news : List Delivered) (s : Said) (after : List Said) → entry_result end (Took k es ds ∷ past) (entry_said s) ≡ record { past = Took k es news ∷ past; cause = None }
      → after_entries end (Took k es ds ∷ past) (map entry_said (s ∷ after)) ≡ after_entries end (Took k (entry_said s ∷ es) news ∷ past) (map entry_said after)
  goes_on end past k es ds news s after e =
      ap (λ (p : Progress). (let later : Past = elim p.cause [ None ↦ after_entries end (with_told (entry_said s) p.past) (map entry_said after) | Some cause ↦ Ended (ByCause cause) ∷ p.past ] in later)) e

  loose_more : (o : Option Message) (rest before : List Message) → reverse (cons_option o rest) ++ before ≡ reverse rest ++ cons_option o before
  loose_more None rest before = refl
  loose_more (Some m) rest before = ap (λ (xs : List Message). xs ++ before) (reverse-append (m ∷ []) rest) ∙ append_assoc (reverse rest) (m ∷ []) before

  added : (ds news later : List Delivered) (s : Said) (after : List Said) → loosely news ≡ cons_option (loose_said s) (loosely ds) → loosely later ≡ reverse (filter_map loose_said after) ++ loosely news
      → loosely later ≡ reverse (filter_map loose_said (s ∷ after)) ++ loosely ds
  added ds news later s after e f = f ∙ ap (λ (xs : List Message). reverse (filter_map loose_said after) ++ xs) e ∙ sym (loose_more (loose_said s) (filter_map loose_said after) (loosely ds))

  client_entries : (l past : Past) → PastFits left l → (k : ℕ) → has_ended past ≡ false → top_of past < k → (after before : List Said) (es : List Feed.Entry) (ds : List Delivered) → said_by v l k ≡ before ++ after → es ≡ reverse (map entry_said before)
      → Agrees l (Took k es ds ∷ past) → HeardAll right past k es ds after (Agrees l)
  client_entries l past fits k alive fresh [] before es ds said told a = record { entries_heard = es; news = ds; ends = refl; result = a; loose = refl }
  client_entries l past fits k alive fresh (s ∷ after) before es ds said told a =
      let h : HeardOne entries is (class_of (table_of entries) edits) left right same_version client right_table l (facts_at l (Took k es ds ∷ past) a) fits (λ ch. few_parts (messages_on l ch) (messages_short left l ch fits)) k past alive fresh es ds s =
      hears_one entries is (class_of (table_of entries) edits) left right same_version client right_table l (facts_at l (Took k es ds ∷ past) a) fits (λ ch. few_parts (messages_on l ch) (messages_short left l ch fits)) k past alive fresh es ds s before after
      (subst (λ w. said_by w l k ≡ before ++ s ∷ after) (sym lv) said) told a.follower in
      let next = client_entries l past fits k alive fresh after (before ++ s ∷ []) (entry_said s ∷ es) h.news (said ∙ sym (append_assoc before (s ∷ []) after)) (one_more es s before told)
      (record {
        follower = h.keeps;
        served = record { hands = hands_more (Took k es ds ∷ past) (Took k (entry_said s ∷ es) h.news ∷ past) l (more_took past k es (entry_said s ∷ es) ds h.news) a.served.hands; whole = a.served.whole };
        says = (tt, a.says.1);
        sees = a.sees;
        blind = a.blind;
      }) in
      record { entries_heard = next.entries_heard; news = next.news; ends = goes_on right past k es ds h.news s after h.ok ∙ next.ends; result = next.result; loose = added ds h.news next.news s after h.loose next.loose }

  server_entries : (r past : Past) → PastFits right r → (k : ℕ) → has_ended past ≡ false → top_of past < k → (after before : List Said) (es : List Feed.Entry) (ds : List Delivered) → said_by v r k ≡ before ++ after → es ≡ reverse (map entry_said before)
      → Agrees (Took k es ds ∷ past) r → HeardAll left past k es ds after (λ l. Agrees l r)
  server_entries r past fits k alive fresh [] before es ds said told a = record { entries_heard = es; news = ds; ends = refl; result = a; loose = refl }
  server_entries r past fits k alive fresh (s ∷ after) before es ds said told a =
      let fs : (xs : List Feed.Entry) (ys : List Delivered) → IsLink left right (Took k xs ys ∷ past) r → ServerFacts entries (class_of (table_of entries) edits) left (Took k xs ys ∷ past) =
      λ xs ys link. facts_of (Took k xs ys ∷ past) (left_run left right (Took k xs ys ∷ past) r link) a.sees in
      let ss : (xs : List Feed.Entry) (ys : List Delivered) → ClientSays entries (class_of (table_of entries) edits) (Took k xs ys ∷ past) r =
      λ xs ys. says_later entries (class_of (table_of entries) edits) (Took k es ds ∷ past) (Took k xs ys ∷ past) (λ b h. h) r a.says in
      let h : ServedOne entries is (class_of (table_of entries) edits) left right same_version server r fits (λ ch. few_parts (messages_on r ch) (messages_short right r ch fits)) k past alive fresh fs ss es ds s =
      serves_one entries is (class_of (table_of entries) edits) left right same_version server r fits (λ ch. few_parts (messages_on r ch) (messages_short right r ch fits)) k past alive fresh fs ss es ds s before after
      (subst (λ w. said_by w r k ≡ before ++ s ∷ after) (sym lv) said) told a.follower.link a.served in
      let run : IsRun left (Took k es ds ∷ past) = left_run left right (Took k es ds ∷ past) r a.follower.link in
      let more : More (Took k es ds ∷ past) (Took k (entry_said s ∷ es) h.news ∷ past) = more_took past k es (entry_said s ∷ es) ds h.news in
      let next = server_entries r past fits k alive fresh after (before ++ s ∷ []) (entry_said s ∷ es) h.news (said ∙ sym (append_assoc before (s ∷ []) after)) (one_more es s before told)
      (record {
        follower = record {
          link = h.link;
          follows = follows_more (segments_of entries) (class_of (table_of entries) edits) left (Took k es ds ∷ past) (Took k (entry_said s ∷ es) h.news ∷ past) r run more a.follower.follows;
          whole = λ ch. a.follower.whole ch ∙ ap (map (payload_of ch)) (sym (more_done (segments_of entries) (class_of (table_of entries) edits) left (Took k es ds ∷ past) (Took k (entry_said s ∷ es) h.news ∷ past) r run more a.follower.follows ch));
        };
        served = h.served;
        says = ss (entry_said s ∷ es) h.news;
        sees = a.sees;
        blind = a.blind;
      }) in
      record { entries_heard = next.entries_heard; news = next.news; ends = goes_on left past k es ds h.news s after h.ok ∙ next.ends; result = next.result; loose = added ds h.news next.news s after h.loose next.loose }

  -- what a datagram leaves, and what the end says of it
  pub record Heard (end : End) (past : Past) (bytes : List ℕ) (Result : Past → Type 0) : Type 0 where
    pub result : Result (after_got end past bytes)
    pub fair : is_fair_verdict (verdict_of end past bytes) ≡ true

  -- a packet's number and entries, as they are read
  pub read_as : (end sender : End) (ev : end.version ≡ v) (sv : sender.version ≡ v) (me other : Past) (k : ℕ) (p : Packet) → packet_at sender other k ≡ Some p → near (k % 16384) (pos (top_of me)) 16384 ≡ pos k
      → (after_packet end me p ≡ after_entries end (Took k [] [] ∷ me) (map entry_said (said_by v other k))) × (is_new me p.number ≡ true → top_of me < k)
  read_as end sender ev sv me other k p sent read =
      let f : PacketFacts v other k p = packet_facts v sender sv other k p sent in
      let near_k : number_near me p.number ≡ pos k = ap (λ (x : ℕ). near x (pos (top_of me)) 16384) f.number ∙ read in (
        ap (λ (x : ℕ). after_entries end (Took x [] [] ∷ me) (Verdicts.entries_in end.version p)) (ap unsigned_abs near_k)
            ∙ ap (λ (es : List Feed.Entry). after_entries end (Took k [] [] ∷ me) es) (ap (λ (w : Version). Verdicts.entries_in w p) ev ∙ f.entries),
        λ new. ltb-true (top_of me) k (ap (int_lt (pos (top_of me))) (sym near_k) ∙ new),
      )

  -- by whether the end is alive, and whether the packet is new
  pub got_by : (end : End) (past : Past) (bytes : List ℕ) (p : Packet) (Result : Past → Type 0) → Reading.packet_of end.version bytes ≡ Ok p → Result past
      → (has_ended past ≡ false → is_new past p.number ≡ true → (k : ℕ) × (es : List Feed.Entry) × (ds : List Delivered) × (after_packet end past p ≡ Took k es ds ∷ past) × Result (Took k es ds ∷ past)) → Heard end past bytes Result
  got_by end past bytes p Result read old new = elim (cases_Bool (has_ended past)) [
    | inl e ↦ record {
      result = subst Result (sym (ap (λ (b : Bool). cond b past (after_reading end past (Reading.packet_of end.version bytes))) e)) old;
      fair = ap (λ (b : Bool). is_fair_verdict (cond b Dead (verdict_on end past (Reading.packet_of end.version bytes)))) e;
    }
    | inr e ↦ elim (cases_Bool (is_new past p.number)) [
      | inl n ↦ fresh e n (new e n)
      | inr n ↦ record {
        result = subst Result (sym (after_is e ∙ ap (λ (b : Bool). cond b (after_packet end past p) past) n)) old;
        fair = ap is_fair_verdict (verdict_is e) ∙ ap (λ (b : Bool). is_fair_verdict (cond b (verdict_after (after_packet end past p) (unsigned_abs (number_near past p.number))) (Old (number_near past p.number) (top_of past)))) n;
      }
    ]
  ]
    where
      after_is : has_ended past ≡ false → after_got end past bytes ≡ cond (is_new past p.number) (after_packet end past p) past
      after_is e = ap (λ (b : Bool). cond b past (after_reading end past (Reading.packet_of end.version bytes))) e ∙ ap (after_reading end past) read

      verdict_is : has_ended past ≡ false → verdict_of end past bytes ≡ cond (is_new past p.number) (verdict_after (after_packet end past p) (unsigned_abs (number_near past p.number))) (Old (number_near past p.number) (top_of past))
      verdict_is e = ap (λ (b : Bool). cond b Dead (verdict_on end past (Reading.packet_of end.version bytes))) e ∙ ap (verdict_on end past) read

      fresh : has_ended past ≡ false → is_new past p.number ≡ true → (k : ℕ) × (es : List Feed.Entry) × (ds : List Delivered) × (after_packet end past p ≡ Took k es ds ∷ past) × Result (Took k es ds ∷ past) → Heard end past bytes Result
      fresh e n h = record {
        result = subst Result (sym (after_is e ∙ ap (λ (b : Bool). cond b (after_packet end past p) past) n ∙ h.3)) h.4;
        fair = ap is_fair_verdict (verdict_is e ∙ ap (λ (b : Bool). cond b (verdict_after (after_packet end past p) (unsigned_abs (number_near past p.number))) (Old (number_near past p.number) (top_of past))) n
            ∙ ap (λ (later : Past). verdict_after later (unsigned_abs (number_near past p.number))) h.3);
      }

  -- the packet that an end takes hands on loosely what it said
  abbrev pub OnTaken : (end : End) (from past : Past) (E : Past → Type 0) → Type 0
  OnTaken end from past E = (k : ℕ) (es : List Feed.Entry) (ds : List Delivered) → loosely ds ≡ reverse (filter_map loose_said (said_by v from k)) ++ [] → E (Took k es ds ∷ past)

  pub client_got_with : (l r : Past) (bytes : List ℕ) (E : Past → Type 0) → E r → OnTaken right l r E → PastFits left l → Talked v left right l r → Agrees l r → IsPacketOf right left r l bytes → Heard right r bytes (λ p. Agrees l p × E p)
  client_got_with l r bytes E old then fits t a q = got_by right r bytes q.packet (λ p. Agrees l p × E p) q.read (a, old) (λ alive new.
      (let near_k = (reads_there left right l r same_version a.follower.link).packet q.number q.come in
      let as_read = read_as right left rv lv r l q.number q.packet q.sent near_k in
      let above : top_of r < q.number = as_read.1 new in
      let begun : IsLink left right l (Took q.number [] [] ∷ r) = right_does (Takes q.number) a.follower.link alive above (subst (λ w. IsWhole w l r) (sym rv) t.right_whole, (q.number, q.come, near_k)) in
      let h = client_entries l r fits q.number alive above (said_by v l q.number) [] [] [] refl refl (right_still l r (Takes q.number) tt above begun a.blind a) in
      (q.number, h.entries_heard, h.news, as_read.0 ∙ h.ends, (h.result, then q.number h.entries_heard h.news h.loose))))

  pub server_got_with : (l r : Past) (bytes : List ℕ) (E : Past → Type 0) → E l → OnTaken left r l E → PastFits right r → Talked v left right l r → Agrees l r → IsPacketOf left right l r bytes → Heard left l bytes (λ p. Agrees p r × E p)
  server_got_with l r bytes E old then fits t a q = got_by left l bytes q.packet (λ p. Agrees p r × E p) q.read (a, old) (λ alive new.
      (let near_k = (reads_back left right l r same_version a.follower.link).packet q.number q.come in
      let as_read = read_as left right lv rv l r q.number q.packet q.sent near_k in
      let above : top_of l < q.number = as_read.1 new in
      let begun : IsLink left right (Took q.number [] [] ∷ l) r = left_does (Takes q.number) a.follower.link alive above (subst (λ w. IsWhole w r l) (sym lv) t.left_whole, (q.number, q.come, near_k)) in
      let h = server_entries r l fits q.number alive above (said_by v r q.number) [] [] [] refl refl (left_still l r (Takes q.number) tt above begun a.sees a) in
      (q.number, h.entries_heard, h.news, as_read.0 ∙ h.ends, (h.result, then q.number h.entries_heard h.news h.loose))))

  pub client_got : (l r : Past) (bytes : List ℕ) → PastFits left l → Talked v left right l r → Agrees l r → IsPacketOf right left r l bytes → Heard right r bytes (Agrees l)
  client_got l r bytes fits t a q =
      let h = client_got_with l r bytes (λ p. Unit {0}) tt (λ k es ds e. tt) fits t a q in
      record { result = h.result.0; fair = h.fair }

  pub server_got : (l r : Past) (bytes : List ℕ) → PastFits right r → Talked v left right l r → Agrees l r → IsPacketOf left right l r bytes → Heard left l bytes (λ p. Agrees p r)
  server_got l r bytes fits t a q =
      let h = server_got_with l r bytes (λ p. Unit {0}) tt (λ k es ds e. tt) fits t a q in
      record { result = h.result.0; fair = h.fair }

  -- ---- every event

  left_event : (l : List Event) (r : Past) (event : Event) → PastFits right r → Talked v left right (past_of left l) r → Agrees (past_of left l) r → MayHear left right (past_of left l) r event → Seeing (table_of entries) player edits (shown_by (event ∷ l)) → Agrees (past_of left (event ∷ l)) r
  left_event l r (Tick sight) fits t a q see =
      (tick_runs left (λ (p : Past). Agrees p r × IsWhole v r p) (left_quiet r) (past_of left l) sight
      (λ h alive. (
        left_still (past_of left l) r (Ticks sight) tt tt (left_does (Ticks sight) h.0.follower.link alive tt (subst (λ w. IsWhole w r (past_of left l)) (sym lv) h.1))
            (see.0, see.1, see.2, see.3, see.4, feed_sees left (table_of entries) player see.1 l see.5) h.0,
        tt,
      ))
      (record { run = (a, t.left_whole); few = t.left_few })).run.0
  left_event l r (Call b n args) fits t a q see = (call_runs left (λ (p : Past). Agrees p r × IsWhole v r p) (left_quiet r) (past_of left l) (record { run = (a, t.left_whole); few = t.left_few }) b n args).run.0
  left_event l r (Got bytes) fits t a q see = (server_got (past_of left l) r bytes fits t a q).result

  right_event : (l : Past) (r : List Event) (event : Event) → PastFits left l → Talked v left right l (past_of right r) → Agrees l (past_of right r) → MayHear right left (past_of right r) l event → SeesNothing (shown_by (event ∷ r)) → Agrees l (past_of right (event ∷ r))
  right_event l r (Tick sight) fits t a q blind =
      (tick_runs right (λ (p : Past). Agrees l p × IsWhole v l p) (right_quiet l) (past_of right r) sight
      (λ h alive. (right_still l (past_of right r) (Ticks sight) tt tt (right_does (Ticks sight) h.0.follower.link alive tt (subst (λ w. IsWhole w l (past_of right r)) (sym rv) h.1)) (blind.0, h.0.blind) h.0, tt))
      (record { run = (a, t.right_whole); few = t.right_few })).run.0
  right_event l r (Call b n args) fits t a q blind = (call_runs right (λ (p : Past). Agrees l p × IsWhole v l p) (right_quiet l) (past_of right r) (record { run = (a, t.right_whole); few = t.right_few }) b n args).run.0
  right_event l r (Got bytes) fits t a q blind = (client_got l (past_of right r) bytes fits t a q).result

  agree_first : Agrees [] []
  agree_first = record {
    follower = record {
      link = link_start;
      follows = follows_start (segments_of entries) (class_of (table_of entries) edits);
      whole = λ ch. ap (map (payload_of ch)) (sym (start_done (segments_of entries) (class_of (table_of entries) edits) ch));
    };
    served = record { hands = λ ch. record { done = []; later = []; split = refl; same = refl }; whole = λ ch. refl };
    says = tt;
    sees = tt;
    blind = tt;
  }

  -- what was shown before
  pub rest_sees : (event : Event) (l : List Event) → Seeing (table_of entries) player edits (shown_by (event ∷ l)) → Seeing (table_of entries) player edits (shown_by l)
  rest_sees (Tick sight) l h = seeing_rest (table_of entries) player edits sight (shown_by l) h
  rest_sees (Got bytes) l h = h
  rest_sees (Call b n args) l h = h

  pub rest_blind : (event : Event) (r : List Event) → SeesNothing (shown_by (event ∷ r)) → SeesNothing (shown_by r)
  rest_blind (Tick sight) r h = h.1
  rest_blind (Got bytes) r h = h
  rest_blind (Call b n args) r h = h

  -- what is known of the feeds of both ends
  pub record FeedsKnown (l r : List Event) : Type 0 where
    pub sees : Seeing (table_of entries) player edits (shown_by l)
    pub blind : SeesNothing (shown_by r)
    pub left_fit : AllByRecursion EventFits l
    pub right_fit : AllByRecursion EventFits r

  pub agree_talk : (l r : List Event) → IsTalk left right l r → FeedsKnown l r → Agrees (past_of left l) (past_of right r)
  agree_talk l r start k = agree_first
  agree_talk l r (left_hears {l = x} {r = y} event talk q) k =
      left_event x (past_of right y) event (end_fits right entries is right_table y k.right_fit) (talked v left right lv rv x y talk)
      (agree_talk x y talk (record { sees = rest_sees event x k.sees; blind = k.blind; left_fit = k.left_fit.1; right_fit = k.right_fit })) q k.sees
  agree_talk l r (right_hears {l = x} {r = y} event talk q) k =
      right_event (past_of left x) y event (end_fits left entries is left_table x k.left_fit) (talked v left right lv rv x y talk)
      (agree_talk x y talk (record { sees = k.sees; blind = rest_blind event y k.blind; left_fit = k.left_fit; right_fit = k.right_fit.1 })) q k.blind
