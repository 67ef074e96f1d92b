-- No datagram of a player of whom nothing was forged is refused.
use Rattle.std.proofs.Common.{◌≡◌, inl, inr, ℕ, ◌+◌, ◌-◌, ◌≤◌, ◌==◌, ◌&&◌, ◌||◌, List, [], ◌∷◌, ◌++◌, filter, fold, length, Bool, true, false, not, nat_lt, drop, refl, sym, ap, ◌∙◌, subst, arith, Option, Some, None, slice_get, append_assoc, append-nil, if◌then◌else◌}
use Rattle.std.specs.List.{AllByRecursion, list_all, list_any, filter_map, flat_map, cons_option, range_with_len}
use Rattle.std.specs.Prelude.{option_map}
use Rattle.std.proofs.lemmas.Bool.{cases_Bool, cond_both, eqb-true, and_from, or_parts, not-true, ltb-false}
use Rattle.std.proofs.lemmas.List.Folds.{list_all-append}
use Rattle.std.proofs.lemmas.List.Sums.{fold-append}
use Rattle.protocol_model.specs.Side.{Side, AtServer, AtClient}
use Rattle.protocol_model.specs.Value.{Table, Class}
use Rattle.protocol_model.specs.World.{Edit, Edits, Spawn, Destroy, Set, Own, View, Add, Dormant, Wake, Flush, Switch, Team, Give}
use Rattle.protocol_model.specs.declared.Verdict.{Verdict}
use Rattle.script_model.specs.Lines.{Line, Join, ApplyEdit, TickAll, TickClient, Deliver, DeliverNew, CallTo, CallAll, Dump, AskSettled, Forge}
use Rattle.script_model.specs.Reports.{Report, Answer, Answered, Absent, Late, Says, Forged, Stalled, Copy, Handed}
use Rattle.table_model.specs.Facts.{IsTable}
use Rattle.table_model.specs.Rules.{Entry}
use Rattle.table_model.specs.Grammar.{table_of}
use Rattle.connection_model.specs.Feed.{Delivered, has_ended}
use Rattle.connection_model.specs.Copies.{copied_actors, copy_class, copy_channel}
use Rattle.connection_model.specs.Fates.{top_of}
use Rattle.connection_model.specs.Handed.{handed_by}
use Rattle.replication_model.specs.Headline.{HasJoined, IsHonest, forges}
use Rattle.connection_model.specs.Past.{sent_bytes}
use Rattle.replication_model.specs.Story.{Player, Story, first_story, end_of, past_at, out_at, with_event, other_side, Reported, numbered_from, sent_reports, stalled_report, after_tick_of, call_report, handed_reports, after_datagram, after_forgery, after_delivery, also_delivery, told_before, with_told, is_kept, after_new_deliveries, after_call_of, settled_answer, copy_report, copies_reports, edit_reports, after_line, also_line, story_of, call_verdict, copy_values, tick_event}
use Rattle.connection_model.specs.Verdict.{verdict_of}
use Rattle.connection_laws.specs.Honest.{IsReadable, IsTalking}
use Rattle.connection_laws.proofs.Deeds.{deeds_fit}
use Rattle.connection_laws.proofs.Feeds.{feed_runs}
use Rattle.connection_laws.proofs.StoriesTalk.{comes, delivery_ready, told_ready, delivered_number, told_number, all_from, talks_honestly}
use Rattle.connection_laws.proofs.BytesSent.{bytes_of_sent}
use Rattle.connection_laws.proofs.TalksLink.{Talked, talked}
use Rattle.payload_laws.specs.Accepted.{AreAccepted}
use Rattle.headline_laws.specs.Fair.{is_fair_verdict, is_fair_answer, is_fair, HasFairVerdicts}
use Rattle.headline_laws.proofs.EndsAgree.{Agreement, agree_talk, client_got, server_got}
use Rattle.headline_laws.proofs.CallPrefixes.{feeds_fit}
use Rattle.headline_laws.proofs.PacketsSpelled.{end_fits}
use Rattle.headline_laws.proofs.Stories.{FeedsFit, lines_accepted, readable, all_read}
use Rattle.headline_laws.proofs.Stories as Stories
use Rattle.headline_laws.proofs.StorySights.{ShownTo, player_shown, told_shown}
use Rattle.headline_laws.proofs.StorySights as StorySights
use Rattle.protocol_model.specs.Payload.{Calls, Closes, Gone, Message, Opens, Updates}

-- ---- lists of reports

-- each report is fair
abbrev AllFair : ℕ → List Report → Type 0
AllFair n reports = list_all (is_fair n) reports ≡ true

-- two lists of fair reports
fair_append : (n : ℕ) (xs ys : List Report) → AllFair n xs → AllFair n ys → AllFair n (xs ++ ys)
fair_append n xs ys a b = list_all-append (is_fair n) xs ys ∙ and_from (list_all (is_fair n) xs) (list_all (is_fair n) ys) a b

-- one more fair report
fair_cons : (n : ℕ) (x : Report) (xs : List Report) → is_fair n x ≡ true → AllFair n xs → AllFair n (x ∷ xs)
fair_cons n x xs a b = and_from (is_fair n x) (list_all (is_fair n) xs) a b

-- what is found is fair
fair_found : {A : Type 0} (n : ℕ) (f : A → Option Report) → ((x : A) (r : Report) → f x ≡ Some r → is_fair n r ≡ true) → (xs : List A) → AllFair n (filter_map f xs)
fair_found n f h [] = refl
fair_found n f h (x ∷ xs) = by (f x) refl (fair_found n f h xs)
  where
    by : (o : Option Report) → f x ≡ o → AllFair n (filter_map f xs) → AllFair n (cons_option o (filter_map f xs))
    by None e q = q
    by (Some r) e q = fair_cons n r (filter_map f xs) (h x r e) q

-- the reports of each player are fair
fair_each : (n : ℕ) (f : Player → List Report) → (ps : List Player) → AllByRecursion (λ (p : Player). AllFair n (f p)) ps → AllFair n (flat_map f ps)
fair_each n f [] h = refl
fair_each n f (p ∷ ps) h = fair_append n (f p) (flat_map f ps) h.0 (fair_each n f ps h.1)

-- a report that is found is fair
some_report : (n : ℕ) (x r : Report) → is_fair n x ≡ true → (let o : Option Report = Some x in o) ≡ Some r → is_fair n r ≡ true
some_report n x r h e = (let same : x ≡ r = cc in subst (λ (y : Report). is_fair n y ≡ true) same h)

-- ---- what lines tell besides answers

-- the report of a call is fair
handed_fair : (n : ℕ) (edits : Edits) (side : Side) (player : ℕ) (d : Delivered) (r : Report) → call_report edits side player d ≡ Some r → is_fair n r ≡ true
handed_fair n edits side player d r e = by d.message e
  where
    none : (let o : Option Report = None in o) ≡ Some r → is_fair n r ≡ true
    none q = absurd (cc)

    by : (m : Message) → (let o : Option Report = elim m [
      | Calls actor number call args ↦ Some (Handed side player actor call.name (call_verdict side edits player actor d.held) args)
      | _ ↦ None
    ] in o) ≡ Some r → is_fair n r ≡ true
    by (Calls a k call args) q = some_report n (Handed side player a call.name (call_verdict side edits player a d.held) args) r refl q
    by (Opens exports a class values) q = none q
    by (Closes a sleeps) q = none q
    by (Updates a class values) q = none q
    by (Gone a) q = none q

-- reports of packets sent are fair
sent_fair : (n : ℕ) (side : Side) (player k : ℕ) (packets : List (List ℕ)) → AllFair n (numbered_from side player k packets)
sent_fair n side player k [] = refl
sent_fair n side player k (bytes ∷ packets) = sent_fair n side player (k + 1) packets

-- reports of a tick are fair
tick_fair : (n : ℕ) (table : Table) (edits : Edits) (side : Side) (p : Player) → AllFair n (after_tick_of table edits side p).1
tick_fair n table edits side p = fair_append n (sent_reports side p.number (length (sent_bytes (end_of table side p) (past_at table side p))) (sent_bytes (end_of table side p) (past_at table side new))) (stalled_report side p.number (past_at table side p) (past_at table side new))
    (sent_fair n side p.number (length (sent_bytes (end_of table side p) (past_at table side p)) + 1) (drop (length (sent_bytes (end_of table side p) (past_at table side p))) (sent_bytes (end_of table side p) (past_at table side new))))
    (cond_both (not (has_ended (past_at table side p)) && has_ended (past_at table side new)) (Stalled side p.number ∷ []) [] (AllFair n) (λ e. refl) (λ e. refl))
  where
    new : Player
    new = with_event side (tick_event table edits side p) p

-- reports of copies are fair
copies_fair : (n : ℕ) (table : Table) (p : Player) → AllFair n (copies_reports table p)
copies_fair n table p = fair_found n (copy_report p.number (past_at table AtClient p)) one (copied_actors (past_at table AtClient p))
  where
    one : (a : ℕ) (r : Report) → copy_report p.number (past_at table AtClient p) a ≡ Some r → is_fair n r ≡ true
    one a r e = by (copy_class (past_at table AtClient p) a) e
      where
        by : (o : Option Class) → option_map (λ (class : Class). Copy p.number a class.name (copy_channel (past_at table AtClient p) a) (copy_values (past_at table AtClient p) a class)) o ≡ Some r → is_fair n r ≡ true
        by None q = absurd (let no : (let o : Option Report = None in o) ≡ Some r = q in cc)
        by (Some class) q = some_report n (Copy p.number a class.name (copy_channel (past_at table AtClient p) a) (copy_values (past_at table AtClient p) a class)) r refl q

-- reports of an edit are fair
edit_fair : (n : ℕ) (edits : Edits) (edit : Edit) → AllFair n (edit_reports edits edit)
edit_fair n edits (Spawn class x y) = refl
edit_fair n edits (Destroy b) = refl
edit_fair n edits (Set b h v) = refl
edit_fair n edits (Own b p) = refl
edit_fair n edits (View p x y) = refl
edit_fair n edits (Add b p on) = refl
edit_fair n edits (Dormant b) = refl
edit_fair n edits (Wake b) = refl
edit_fair n edits (Flush b) = refl
edit_fair n edits (Switch b h on) = refl
edit_fair n edits (Team p t) = refl
edit_fair n edits (Give b t) = refl

-- ---- a player at one moment

module _ (entries : List Entry) (is : IsTable entries) (n : ℕ) where
  abbrev table : Table
  table = table_of entries

  record IsAt (edits : Edits) (p : Player) : Type 0 where
    accepted : AreAccepted (table_of entries) edits
    talking : IsTalking (table_of entries) p
    shown : ShownTo (table_of entries) edits p
    fit : FeedsFit p

  reads : (edits : Edits) (p : Player) → IsAt edits p → (side : Side) → IsReadable (table_of entries) side p
  reads edits p h AtServer = readable (table_of entries) AtServer p (end_fits (end_of (table_of entries) AtServer p) entries is refl p.server_feed h.fit.0)
  reads edits p h AtClient = readable (table_of entries) AtClient p (end_fits (end_of (table_of entries) AtClient p) entries is refl p.client_feed h.fit.1)

  -- a packet that comes is fairly judged
  judged : (edits : Edits) (side : Side) (p : Player) (k : ℕ) (bytes : List ℕ) → IsAt edits p → slice_get (out_at (table_of entries) (other_side side) p) (k - 1) ≡ Some bytes → top_of (past_at (table_of entries) side p) ≤ k + 8192
      → is_fair_verdict (verdict_of (end_of (table_of entries) side p) (past_at (table_of entries) side p) bytes) ≡ true
  judged edits side p k bytes h e late = by side e late
    where
      agree : Agreement entries p.number edits (end_of (table_of entries) AtServer p) (end_of (table_of entries) AtClient p) (past_at (table_of entries) AtServer p) (past_at (table_of entries) AtClient p)
      agree = agree_talk entries is p.number edits h.accepted p.version (end_of (table_of entries) AtServer p) (end_of (table_of entries) AtClient p) refl refl refl refl refl refl p.server_feed p.client_feed h.talking
          (record { sees = h.shown.sees; blind = h.shown.blind; left_fit = h.fit.0; right_fit = h.fit.1 })

      talk : Talked p.version (end_of (table_of entries) AtServer p) (end_of (table_of entries) AtClient p) (past_at (table_of entries) AtServer p) (past_at (table_of entries) AtClient p)
      talk = talked p.version (end_of (table_of entries) AtServer p) (end_of (table_of entries) AtClient p) refl refl p.server_feed p.client_feed h.talking

      by : (side : Side) → slice_get (out_at (table_of entries) (other_side side) p) (k - 1) ≡ Some bytes → top_of (past_at (table_of entries) side p) ≤ k + 8192 → is_fair_verdict (verdict_of (end_of (table_of entries) side p) (past_at (table_of entries) side p) bytes) ≡ true
      by AtServer e late =
          (server_got entries is p.number edits h.accepted p.version (end_of (table_of entries) AtServer p) (end_of (table_of entries) AtClient p) refl refl refl refl refl refl (past_at (table_of entries) AtServer p) (past_at (table_of entries) AtClient p) bytes
          (end_fits (end_of (table_of entries) AtClient p) entries is refl p.client_feed h.fit.1) talk agree
          (comes (table_of entries) (end_of (table_of entries) AtServer p) (end_of (table_of entries) AtClient p) p (past_at (table_of entries) AtServer p) (past_at (table_of entries) AtClient p) k bytes refl refl
          (bytes_of_sent (end_of (table_of entries) AtClient p) (past_at (table_of entries) AtClient p) (deeds_fit (end_of (table_of entries) AtClient p) (past_at (table_of entries) AtClient p) (feed_runs (end_of (table_of entries) AtClient p) p.client_feed)) (k - 1) bytes e) (reads edits p h AtClient) late)).fair
      by AtClient e late =
          (client_got entries is p.number edits h.accepted p.version (end_of (table_of entries) AtServer p) (end_of (table_of entries) AtClient p) refl refl refl refl refl refl (past_at (table_of entries) AtServer p) (past_at (table_of entries) AtClient p) bytes
          (end_fits (end_of (table_of entries) AtServer p) entries is refl p.server_feed h.fit.0) talk agree
          (comes (table_of entries) (end_of (table_of entries) AtClient p) (end_of (table_of entries) AtServer p) p (past_at (table_of entries) AtClient p) (past_at (table_of entries) AtServer p) k bytes refl refl
          (bytes_of_sent (end_of (table_of entries) AtServer p) (past_at (table_of entries) AtServer p) (deeds_fit (end_of (table_of entries) AtServer p) (past_at (table_of entries) AtServer p) (feed_runs (end_of (table_of entries) AtServer p) p.server_feed)) (k - 1) bytes e) (reads edits p h AtServer) late)).fair

  -- ---- deliveries

  -- an answer to another player, or a fair one
  answer_fair : (edits : Edits) (side : Side) (p : Player) (k : ℕ) (answer : Answer) → (p.number ≡ n → is_fair_answer answer ≡ true) → is_fair n (Answered side p.number k answer) ≡ true
  answer_fair edits side p k answer h = elim (cases_Bool (p.number == n)) [
    | inr e ↦ ap (λ (b : Bool). not b || is_fair_answer answer) e
    | inl e ↦ last (not (p.number == n)) (is_fair_answer answer) (h (eqb-true p.number n e))
  ]
    where
      last : (x y : Bool) → y ≡ true → (x || y) ≡ true
      last true y q = refl
      last false y q = q

  datagram_fair : (edits : Edits) (side : Side) (report : Verdict → Report) (bytes : List ℕ) (p : Player) → is_fair n (report (verdict_of (end_of (table_of entries) side p) (past_at (table_of entries) side p) bytes)) ≡ true
      → AllFair n (after_datagram (table_of entries) edits side report bytes p).1
  datagram_fair edits side report bytes p h =
      fair_append n (handed_reports edits side p.number (end_of (table_of entries) side p) (past_at (table_of entries) side p) bytes) (report (verdict_of (end_of (table_of entries) side p) (past_at (table_of entries) side p) bytes) ∷ [])
      (fair_found n (call_report edits side p.number) (handed_fair n edits side p.number) (handed_by (end_of (table_of entries) side p) (past_at (table_of entries) side p) bytes))
      (fair_cons n (report (verdict_of (end_of (table_of entries) side p) (past_at (table_of entries) side p) bytes)) [] h refl)

  delivered_fair : (edits : Edits) (side : Side) (k : ℕ) (p : Player) → (p.number ≡ n → IsAt edits p) → (o : Option (List ℕ)) → slice_get (out_at (table_of entries) (other_side side) p) (k - 1) ≡ o
      → AllFair n (let told : Reported = elim o [
        | None ↦ (p, Answered side p.number k Absent ∷ [])
        | Some bytes ↦ (if nat_lt (k + 8192) (top_of (past_at (table_of entries) side p)) then (p, Answered side p.number k Late ∷ [])
            else after_datagram (table_of entries) edits side (λ verdict. Answered side p.number k (Says verdict)) bytes p)
      ] in told.1)
  delivered_fair edits side k p h None e = fair_cons n (Answered side p.number k Absent) [] (answer_fair edits side p k Absent (λ q. refl)) refl
  delivered_fair edits side k p h (Some bytes) e =
      cond_both (nat_lt (k + 8192) (top_of (past_at (table_of entries) side p))) (p, Answered side p.number k Late ∷ [])
      (after_datagram (table_of entries) edits side (λ verdict. Answered side p.number k (Says verdict)) bytes p) (λ (told : Reported). AllFair n told.1)
      (λ q. fair_cons n (Answered side p.number k Late) [] (answer_fair edits side p k Late (λ r. refl)) refl)
      (λ q. datagram_fair edits side (λ verdict. Answered side p.number k (Says verdict)) bytes p
      (answer_fair edits side p k (Says (verdict_of (end_of (table_of entries) side p) (past_at (table_of entries) side p) bytes)) (λ r. judged edits side p k bytes (h r) e (ltb-false (k + 8192) (top_of (past_at (table_of entries) side p)) q))))

  delivery_fair : (edits : Edits) (side : Side) (k : ℕ) (p : Player) → (p.number ≡ n → IsAt edits p) → AllFair n (after_delivery (table_of entries) edits side k p).1
  delivery_fair edits side k p h = delivered_fair edits side k p h (slice_get (out_at (table_of entries) (other_side side) p) (k - 1)) refl

  delivery_at : (edits : Edits) (side : Side) (k : ℕ) (p : Player) → IsAt edits p → IsAt edits (after_delivery (table_of entries) edits side k p).0
  delivery_at edits side k p h = record {
    accepted = h.accepted;
    talking = (delivery_ready (table_of entries) edits side k p (h.talking, reads edits p h (other_side side))).0;
    shown = StorySights.delivery_keeps (table_of entries) edits side k p h.shown;
    fit = Stories.delivery_keeps (table_of entries) edits side k p h.fit;
  }

  deliveries_fair : (edits : Edits) (side : Side) (ks : List ℕ) (told : Reported) → (told.0.number ≡ n → IsAt edits told.0) → AllFair n told.1 → AllFair n (fold (also_delivery (table_of entries) edits side) told ks).1
  deliveries_fair edits side [] told h f = f
  deliveries_fair edits side (k ∷ ks) told h f =
      deliveries_fair edits side ks (also_delivery (table_of entries) edits side told k)
      (λ e. delivery_at edits side k told.0 (h (sym (delivered_number (table_of entries) edits side k told.0 (slice_get (out_at (table_of entries) (other_side side) told.0) (k - 1))) ∙ e)))
      (fair_append n told.1 (after_delivery (table_of entries) edits side k told.0).1 f (delivery_fair edits side k told.0 h))

  told_at : (edits : Edits) (side : Side) (count : ℕ) (p : Player) → IsAt edits p → IsAt edits (with_told side count p)
  told_at edits side count p h = record {
    accepted = h.accepted;
    talking = (told_ready (table_of entries) side count p (h.talking, reads edits p h (other_side side))).0;
    shown = told_shown (table_of entries) edits side count p h.shown;
    fit = Stories.told_keeps side count p h.fit;
  }

  new_fair : (edits : Edits) (side : Side) (every : ℕ) (p : Player) → (p.number ≡ n → IsAt edits p) → AllFair n (after_new_deliveries (table_of entries) edits side every p).1
  new_fair edits side every p h =
      deliveries_fair edits side (filter (is_kept every) (range_with_len (told_before side p + 1) (length (out_at (table_of entries) (other_side side) p) - told_before side p)))
      (with_told side (length (out_at (table_of entries) (other_side side) p)) p, [])
      (λ e. told_at edits side (length (out_at (table_of entries) (other_side side) p)) p (h (sym (told_number side (length (out_at (table_of entries) (other_side side) p)) p) ∙ e))) refl

  forgery_fair : (edits : Edits) (side : Side) (bytes : List ℕ) (p : Player) → (p.number == n) ≡ false → AllFair n (after_forgery (table_of entries) edits side bytes p).1
  forgery_fair edits side bytes p e =
      datagram_fair edits side (Forged side p.number) bytes p (ap (λ (b : Bool). not b || is_fair_verdict (verdict_of (end_of (table_of entries) side p) (past_at (table_of entries) side p) bytes)) e)

  -- ---- lines

  -- each player with the number is at that moment
  abbrev AllAt : Edits → List Player → Type 0
  AllAt edits players = AllByRecursion (λ (p : Player). p.number ≡ n → IsAt edits p) players

  all_fair : (does : Player → Reported) (players : List Player) → AllByRecursion (λ (p : Player). AllFair n (does p).1) players → AllFair n (flat_map (λ (p : Player). (does p).1) players)
  all_fair does players h = fair_each n (λ (p : Player). (does p).1) players h

  one_fair : (does : Player → Reported) (who : ℕ) (edits : Edits) (players : List Player) → ((p : Player) → (p.number == who) ≡ true → (p.number ≡ n → IsAt edits p) → AllFair n (does p).1) → AllAt edits players
      → AllFair n (flat_map (λ (p : Player). if p.number == who then (does p).1 else []) players)
  one_fair does who edits [] f h = refl
  one_fair does who edits (p ∷ players) f h =
      fair_append n (if p.number == who then (does p).1 else []) (flat_map (λ (p : Player). if p.number == who then (does p).1 else []) players)
      (cond_both (p.number == who) (does p).1 [] (AllFair n) (λ e. f p e h.0) (λ e. refl)) (one_fair does who edits players f h.1)

  each : (P : Player → Type 0) → ((p : Player) → P p) → (players : List Player) → AllByRecursion P players
  each P h [] = tt
  each P h (p ∷ players) = (h p, each P h players)

  line_fair : (story : Story) (line : Line) → forges n line ≡ false → AllAt story.edits story.players → AllFair n (after_line (table_of entries) story line).1
  line_fair story (Join player budget version) f h = refl
  line_fair story (ApplyEdit edit) f h = edit_fair n story.edits edit
  line_fair story TickAll f h = all_fair (after_tick_of (table_of entries) story.edits AtServer) story.players (each (λ (p : Player). AllFair n (after_tick_of (table_of entries) story.edits AtServer p).1) (λ p. tick_fair n (table_of entries) story.edits AtServer p) story.players)
  line_fair story (TickClient player) f h = one_fair (after_tick_of (table_of entries) story.edits AtClient) player story.edits story.players (λ p e q. tick_fair n (table_of entries) story.edits AtClient p) h
  line_fair story (Deliver side player k) f h = one_fair (after_delivery (table_of entries) story.edits side k) player story.edits story.players (λ p e q. delivery_fair story.edits side k p q) h
  line_fair story (DeliverNew side player every) f h = one_fair (after_new_deliveries (table_of entries) story.edits side every) player story.edits story.players (λ p e q. new_fair story.edits side every p q) h
  line_fair story (CallTo side player a m args) f h = one_fair (after_call_of (table_of entries) side a m args) player story.edits story.players (λ p e q. refl) h
  line_fair story (CallAll a m args) f h = all_fair (after_call_of (table_of entries) AtServer a m args) story.players (each (λ (p : Player). AllFair n (after_call_of (table_of entries) AtServer a m args p).1) (λ p. refl) story.players)
  line_fair story (Dump player) f h = one_fair (λ (p : Player). (p, copies_reports (table_of entries) p)) player story.edits story.players (λ p e q. copies_fair n (table_of entries) p) h
  line_fair story (AskSettled player a) f h = one_fair (settled_answer (table_of entries) story.edits a) player story.edits story.players (λ p e q. refl) h
  line_fair story (Forge side player bytes) f h =
      one_fair (after_forgery (table_of entries) story.edits side bytes) player story.edits story.players (λ p e q. forgery_fair story.edits side bytes p (ap (λ (x : ℕ). x == n) (eqb-true p.number player e) ∙ f)) h

  honest_before : (some rest : List Line) → list_any (forges n) (some ++ rest) ≡ false → list_any (forges n) some ≡ false
  honest_before [] rest h = refl
  honest_before (line ∷ some) rest h =
      let p = or_parts (forges n line) (list_any (forges n) (some ++ rest)) h in
      both (forges n line) (list_any (forges n) some) p.0 (honest_before some rest p.1)
    where
      both : (x y : Bool) → x ≡ false → y ≡ false → (x || y) ≡ false
      both x y p q = grind arith

  lines_fair : (lines : List Line) → AreAccepted (table_of entries) (story_of (table_of entries) lines).0.edits → list_any (forges n) lines ≡ false → (rest some : List Line) → lines ≡ some ++ rest → AllFair n (story_of (table_of entries) some).1
      → AllFair n (story_of (table_of entries) lines).1
  lines_fair lines ok honest [] some e f = subst (λ (l : List Line). AllFair n (story_of (table_of entries) l).1) (sym (e ∙ append-nil some)) f
  lines_fair lines ok honest (line ∷ rest) some e f =
      let all : story_of (table_of entries) lines ≡ fold (also_line (table_of entries)) (story_of (table_of entries) some) (line ∷ rest) =
      ap (story_of (table_of entries)) e ∙ fold-append (also_line (table_of entries)) (first_story, []) some (line ∷ rest) in
      let accepted : AreAccepted (table_of entries) (story_of (table_of entries) some).0.edits =
      lines_accepted (table_of entries) (line ∷ rest) (story_of (table_of entries) some) (subst (λ (told : Story × List Report). AreAccepted (table_of entries) told.0.edits) all ok) in
      let before : list_any (forges n) some ≡ false = honest_before some (line ∷ rest) (ap (list_any (forges n)) (sym e) ∙ honest) in
      let here : forges n line ≡ false = (or_parts (forges n line) (list_any (forges n) rest) (behind some (ap (list_any (forges n)) (sym e) ∙ honest))).0 in
      let at : AllAt (story_of (table_of entries) some).0.edits (story_of (table_of entries) some).0.players =
      all_from (λ (p : Player). p.number ≡ n → IsAt (story_of (table_of entries) some).0.edits p) (story_of (table_of entries) some).0.players
      (λ p ps qs q number. moment some p (ps, qs, q) number accepted before) in
      let next : story_of (table_of entries) (some ++ line ∷ []) ≡ also_line (table_of entries) (story_of (table_of entries) some) line = fold-append (also_line (table_of entries)) (first_story, []) some (line ∷ []) in
      lines_fair lines ok honest rest (some ++ line ∷ []) (e ∙ sym (append_assoc some (line ∷ []) rest))
      (subst (λ (told : Story × List Report). AllFair n told.1) (sym next) (fair_append n (story_of (table_of entries) some).1 (after_line (table_of entries) (story_of (table_of entries) some).0 line).1 f (line_fair (story_of (table_of entries) some).0 line here at)))
    where
      behind : (some : List Line) → list_any (forges n) (some ++ line ∷ rest) ≡ false → list_any (forges n) (line ∷ rest) ≡ false
      behind [] h = h
      behind (x ∷ some) h = behind some (or_parts (forges n x) (list_any (forges n) (some ++ line ∷ rest)) h).1

      moment : (some : List Line) (p : Player) → HasJoined (story_of (table_of entries) some).0 p → p.number ≡ n → AreAccepted (table_of entries) (story_of (table_of entries) some).0.edits → list_any (forges n) some ≡ false
          → IsAt (story_of (table_of entries) some).0.edits p
      moment some p joined number accepted before = record {
        accepted = accepted;
        talking = talks_honestly (table_of entries) some p joined (ap not (ap (λ (m : ℕ). list_any (forges m) some) number ∙ before)) (all_read entries some p.number is accepted);
        shown = player_shown (table_of entries) some p joined;
        fit = feeds_fit entries some p is accepted joined;
      }

-- no verdict on a datagram of the player is Malformed or Closed
pub verdicts_fair : (entries : List Entry) (lines : List Line) (n : ℕ) → IsTable entries → AreAccepted (table_of entries) (story_of (table_of entries) lines).0.edits → IsHonest lines n → HasFairVerdicts (table_of entries) lines n
verdicts_fair entries lines n is ok honest = lines_fair entries is n lines ok (not-true (list_any (forges n) lines) honest) lines [] refl refl
