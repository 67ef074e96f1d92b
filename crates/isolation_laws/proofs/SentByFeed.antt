-- A player's `sent` lines are those of its server's feed.
use Rattle.std.proofs.Common.{◌≡◌, inl, inr, ℕ, ◌+◌, ◌-◌, ◌==◌, List, [], ◌∷◌, ◌++◌, map, fold, length, drop, Bool, true, false, cond, not, ◌&&◌, nat_lt, refl, sym, ap, ◌∙◌, subst, Option, Some, None, filter_map, flat_map, option_map, slice_get, append-nil, if◌then◌else◌}
use Rattle.std.specs.List.{cons_option, list_any}
use Rattle.std.proofs.lemmas.Bool.{cases_Bool, cond_both, eqb-true, eq-eqb, or_parts, not-true}
use Rattle.std.proofs.lemmas.List.Elements.{filter_map-append}
use Rattle.protocol_model.specs.Side.{Side, AtServer, AtClient}
use Rattle.protocol_model.specs.Value.{Table, Arg, Class}
use Rattle.protocol_model.specs.Payload.{Opens, Closes, Updates, Calls, Gone, Message}
use Rattle.protocol_model.specs.World.{Edit, Edits, Spawn, Destroy, Set, Own, View, Add, Dormant, Wake, Flush, Switch, Team, Give}
use Rattle.protocol_model.specs.declared.Verdict.{Verdict}
use Rattle.script_model.specs.Lines.{Line, Join, ApplyEdit, TickAll, TickClient, Deliver, DeliverNew, CallTo, CallAll, Dump, AskSettled, Forge}
use Rattle.script_model.specs.Reports.{Report, Answered, Late, Says, Forged, Copy, Stalled, Handed}
use Rattle.connection_model.specs.Feed.{End, Event, Tick, Got, Call, Past, Delivered, has_ended}
use Rattle.connection_model.specs.Fates.{top_of}
use Rattle.connection_model.specs.Past.{past_of, sent_bytes}
use Rattle.connection_model.specs.Verdict.{verdict_of}
use Rattle.connection_model.specs.Handed.{handed_by}
use Rattle.connection_model.specs.Copies.{copied_actors, copy_class, copy_channel}
use Rattle.replication_model.specs.Story.{Player, Story, first_story, end_of, feed_of, past_at, out_at, with_event, other_side, Reported, tick_event, numbered_from, sent_reports, stalled_report, tick_reports, call_verdict, call_report, handed_reports, after_tick_of, after_datagram, after_forgery, after_delivery, also_delivery, with_told, after_new_deliveries, after_call_of, settled_answer, copy_values, copy_report, copies_reports, edit_reports, new_player, after_line, also_line, story_of}
use Rattle.connection_laws.proofs.StoriesTalk.{delivered}
use Rattle.isolation_laws.specs.Unseen.{is_unseen}
use Rattle.isolation_laws.specs.Isolation.{heard_by, sent_to, sent_lines, joins, joins_once, SendsByFeed, SendsStayEqual, AnswersByFeed, VerdictsByFeed}
use Rattle.connection_model.specs.CallAnswers.{answer_of}
use Rattle.isolation_laws.proofs.SkippedEdits.{any_skip}
use Rattle.isolation_laws.proofs.UnseenLines.{feeds_stay}
use Rattle.isolation_laws.proofs.OnePlayer.{mine, KeepsNumber, mine_all, mine_one, mine_other, mine_joined, mine_joined_other, found_number, tick_number, deliver_number, deliver_new_number, event_number, ordered, new_for}

module _ (n : ℕ) where
  abbrev pub Sents : Type 0
  Sents = List (ℕ × List ℕ)

  abbrev pub shown_of : List Report → Sents
  shown_of reports = filter_map (sent_to n) reports

  -- what the ticks of a feed send
  abbrev pub sends_of : End → List Event → Sents
  sends_of end [] = []
  sends_of end (Tick s ∷ feed) = sends_of end feed ++ shown_of (tick_reports AtServer n end (past_of end feed) (past_of end (Tick s ∷ feed)))
  sends_of end (Got bytes ∷ feed) = sends_of end feed
  sends_of end (Call a m args ∷ feed) = sends_of end feed

  abbrev pub player_sends : Table → Player → Sents
  player_sends table p = sends_of (end_of table AtServer p) p.server_feed

  abbrev pub sends_in : Table → Option Player → Sents
  sends_in table o = elim o [ None ↦ [] | Some p ↦ player_sends table p ]

  both_none : (xs ys : List Report) → shown_of xs ≡ [] → shown_of ys ≡ [] → shown_of (xs ++ ys) ≡ []
  both_none xs ys e f = filter_map-append (sent_to n) xs ys ∙ ap (λ l. l ++ shown_of ys) e ∙ f

  -- ---- what tells of no packet of the server's

  flat_none : (tell : Player → List Report) → ((p : Player) → shown_of (tell p) ≡ []) → (players : List Player) → shown_of (flat_map tell players) ≡ []
  flat_none tell h [] = refl
  flat_none tell h (p ∷ players) = both_none (tell p) (flat_map tell players) (h p) (flat_none tell h players)

  handed_none : (edits : Edits) (side : Side) (m : ℕ) (ds : List Delivered) → shown_of (filter_map (call_report edits side m) ds) ≡ []
  handed_none edits side m [] = refl
  handed_none edits side m (d ∷ ds) = by d.message (handed_none edits side m ds)
    where
      by : (message : Message) → shown_of (filter_map (call_report edits side m) ds) ≡ []
          → shown_of (cons_option (let o : Option Report = elim message [ Calls actor number call args ↦ Some (Handed side m actor call.name (call_verdict side edits m actor d.held) args) | _ ↦ None ] in o) (filter_map (call_report edits side m) ds)) ≡ []
      by (Opens exports actor class values) e = e
      by (Closes actor sleeps) e = e
      by (Updates actor class values) e = e
      by (Calls actor number call args) e = e
      by (Gone actor) e = e

  datagram_none : (table : Table) (edits : Edits) (side : Side) (report : Verdict → Report) (bytes : List ℕ) (p : Player) → ((v : Verdict) → sent_to n (report v) ≡ None) → shown_of (after_datagram table edits side report bytes p).1 ≡ []
  datagram_none table edits side report bytes p h =
      both_none (handed_reports edits side p.number (end_of table side p) (past_at table side p) bytes) (report (verdict_of (end_of table side p) (past_at table side p) bytes) ∷ [])
      (handed_none edits side p.number (handed_by (end_of table side p) (past_at table side p) bytes)) (ap (λ o. cons_option o []) (h (verdict_of (end_of table side p) (past_at table side p) bytes)))

  delivered_none : (table : Table) (edits : Edits) (side : Side) (k : ℕ) (p : Player) (o : Option (List ℕ)) → shown_of (delivered table edits side k p o).1 ≡ []
  delivered_none table edits side k p None = refl
  delivered_none table edits side k p (Some bytes) =
      cond_both (nat_lt (k + 8192) (top_of (past_at table side p))) (p, Answered side p.number k Late ∷ [])
      (after_datagram table edits side (λ verdict. Answered side p.number k (Says verdict)) bytes p) (λ (told : Reported). shown_of told.1 ≡ []) (λ q. refl)
      (λ q. datagram_none table edits side (λ verdict. Answered side p.number k (Says verdict)) bytes p (λ v. refl))

  deliver_none : (table : Table) (edits : Edits) (side : Side) (k : ℕ) (p : Player) → shown_of (after_delivery table edits side k p).1 ≡ []
  deliver_none table edits side k p = delivered_none table edits side k p (slice_get (out_at table (other_side side) p) (k - 1))

  deliveries_none : (table : Table) (edits : Edits) (side : Side) (ks : List ℕ) (told : Reported) → shown_of told.1 ≡ [] → shown_of (fold (also_delivery table edits side) told ks).1 ≡ []
  deliveries_none table edits side [] told e = e
  deliveries_none table edits side (k ∷ ks) told e =
      deliveries_none table edits side ks (also_delivery table edits side told k) (both_none told.1 (after_delivery table edits side k told.0).1 e (deliver_none table edits side k told.0))

  pub stalled_none : (side : Side) (m : ℕ) (before after : Past) → shown_of (stalled_report side m before after) ≡ []
  stalled_none side m before after = cond_both (not (has_ended before) && has_ended after) (Stalled side m ∷ []) [] (λ (l : List Report). shown_of l ≡ []) (λ e. refl) (λ e. refl)

  client_none : (m k : ℕ) (packets : List (List ℕ)) → shown_of (numbered_from AtClient m k packets) ≡ []
  client_none m k [] = refl
  client_none m k (bytes ∷ packets) = client_none m (k + 1) packets

  other_none : (m k : ℕ) → (m == n) ≡ false → (packets : List (List ℕ)) → shown_of (numbered_from AtServer m k packets) ≡ []
  other_none m k ne [] = refl
  other_none m k ne (bytes ∷ packets) = by (m == n) ne (shown_of (numbered_from AtServer m (k + 1) packets)) (other_none m (k + 1) ne packets)
    where
      by : (b : Bool) → b ≡ false → (xs : Sents) → xs ≡ [] → cons_option (let o : Option (ℕ × List ℕ) = elim b [ true ↦ Some (k, bytes) | false ↦ None ] in o) xs ≡ []
      by true e xs h = absurd (cc)
      by false e xs h = h

  client_sends_none : (m count : ℕ) (out : List (List ℕ)) → shown_of (sent_reports AtClient m count out) ≡ []
  client_sends_none m count out = client_none m (count + 1) (drop count out)

  other_sends_none : (m count : ℕ) → (m == n) ≡ false → (out : List (List ℕ)) → shown_of (sent_reports AtServer m count out) ≡ []
  other_sends_none m count ne out = other_none m (count + 1) ne (drop count out)

  copies_none : (m : ℕ) (past : Past) (actors : List ℕ) → shown_of (filter_map (copy_report m past) actors) ≡ []
  copies_none m past [] = refl
  copies_none m past (a ∷ actors) = by (copy_class past a) (copies_none m past actors)
    where
      by : (o : Option Class) → shown_of (filter_map (copy_report m past) actors) ≡ []
          → shown_of (cons_option (option_map (λ (class : Class). Copy m a class.name (copy_channel past a) (copy_values past a class)) o) (filter_map (copy_report m past) actors)) ≡ []
      by None e = e
      by (Some class) e = e

  edit_none : (edits : Edits) (edit : Edit) → shown_of (edit_reports edits edit) ≡ []
  edit_none edits (Spawn class u v) = refl
  edit_none edits (Destroy b) = refl
  edit_none edits (Set b k v) = refl
  edit_none edits (Own b p) = refl
  edit_none edits (View p u v) = refl
  edit_none edits (Add b p on) = refl
  edit_none edits (Dormant b) = refl
  edit_none edits (Wake b) = refl
  edit_none edits (Flush b) = refl
  edit_none edits (Switch b k on) = refl
  edit_none edits (Team p t) = refl
  edit_none edits (Give b t) = refl

  -- ---- what is done with a player

  -- nothing is sent to it
  pub record Still (table : Table) (does : Player → Reported) : Type 0 where
    pub number : KeepsNumber does
    pub sends : (p : Player) → player_sends table (does p).0 ≡ player_sends table p
    pub silent : (p : Player) → shown_of (does p).1 ≡ []

  -- what is sent to it is told
  pub record Tells (table : Table) (does : Player → Reported) : Type 0 where
    pub number : KeepsNumber does
    pub sends : (p : Player) → p.number ≡ n → player_sends table (does p).0 ≡ player_sends table p ++ shown_of (does p).1
    pub silent : (p : Player) → (p.number == n) ≡ false → shown_of (does p).1 ≡ []

  still_tells : (table : Table) (does : Player → Reported) → Still table does → Tells table does
  still_tells table does s = record {
    number = s.number;
    sends = λ p e. s.sends p ∙ sym (append-nil (player_sends table p)) ∙ ap (λ l. player_sends table p ++ l) (sym (s.silent p));
    silent = λ p e. s.silent p;
  }

  got_sends : (table : Table) (side : Side) (bytes : List ℕ) (p : Player) → player_sends table (with_event side (Got bytes) p) ≡ player_sends table p
  got_sends table AtServer bytes p = refl
  got_sends table AtClient bytes p = refl

  call_sends : (table : Table) (side : Side) (a m : ℕ) (args : List Arg) (p : Player) → player_sends table (with_event side (Call a m args) p) ≡ player_sends table p
  call_sends table AtServer a m args p = refl
  call_sends table AtClient a m args p = refl

  told_sends : (table : Table) (side : Side) (count : ℕ) (p : Player) → player_sends table (with_told side count p) ≡ player_sends table p
  told_sends table AtServer count p = refl
  told_sends table AtClient count p = refl

  delivered_sends : (table : Table) (edits : Edits) (side : Side) (k : ℕ) (p : Player) (o : Option (List ℕ)) → player_sends table (delivered table edits side k p o).0 ≡ player_sends table p
  delivered_sends table edits side k p None = refl
  delivered_sends table edits side k p (Some bytes) =
      cond_both (nat_lt (k + 8192) (top_of (past_at table side p))) (p, Answered side p.number k Late ∷ [])
      (after_datagram table edits side (λ verdict. Answered side p.number k (Says verdict)) bytes p) (λ (told : Reported). player_sends table told.0 ≡ player_sends table p) (λ q. refl) (λ q. got_sends table side bytes p)

  deliver_sends : (table : Table) (edits : Edits) (side : Side) (k : ℕ) (p : Player) → player_sends table (after_delivery table edits side k p).0 ≡ player_sends table p
  deliver_sends table edits side k p = delivered_sends table edits side k p (slice_get (out_at table (other_side side) p) (k - 1))

  deliveries_send : (table : Table) (edits : Edits) (side : Side) (ks : List ℕ) (told : Reported) → player_sends table (fold (also_delivery table edits side) told ks).0 ≡ player_sends table told.0
  deliveries_send table edits side [] told = refl
  deliveries_send table edits side (k ∷ ks) told = deliveries_send table edits side ks (also_delivery table edits side told k) ∙ deliver_sends table edits side k told.0

  deliver_still : (table : Table) (edits : Edits) (side : Side) (k : ℕ) → Still table (after_delivery table edits side k)
  deliver_still table edits side k = record { number = deliver_number table edits side k; sends = deliver_sends table edits side k; silent = deliver_none table edits side k }

  deliver_new_still : (table : Table) (edits : Edits) (side : Side) (every : ℕ) → Still table (after_new_deliveries table edits side every)
  deliver_new_still table edits side every = record {
    number = deliver_new_number table edits side every;
    sends = λ p. deliveries_send table edits side (new_for table side every p) (with_told side (length (out_at table (other_side side) p)) p, []) ∙ told_sends table side (length (out_at table (other_side side) p)) p;
    silent = λ p. deliveries_none table edits side (new_for table side every p) (with_told side (length (out_at table (other_side side) p)) p, []) refl;
  }

  call_still : (table : Table) (side : Side) (a m : ℕ) (args : List Arg) → Still table (after_call_of table side a m args)
  call_still table side a m args = record { number = λ p. event_number side (Call a m args) p; sends = call_sends table side a m args; silent = λ p. refl }

  client_still : (table : Table) (edits : Edits) → Still table (after_tick_of table edits AtClient)
  client_still table edits = record {
    number = tick_number table edits AtClient;
    sends = λ p. refl;
    silent = λ p. both_none (sent_reports AtClient p.number (length (sent_bytes (end_of table AtClient p) (past_at table AtClient p))) (sent_bytes (end_of table AtClient p) (past_at table AtClient (with_event AtClient (tick_event table edits AtClient p) p))))
        (stalled_report AtClient p.number (past_at table AtClient p) (past_at table AtClient (with_event AtClient (tick_event table edits AtClient p) p)))
        (client_sends_none p.number (length (sent_bytes (end_of table AtClient p) (past_at table AtClient p))) (sent_bytes (end_of table AtClient p) (past_at table AtClient (with_event AtClient (tick_event table edits AtClient p) p)))) (stalled_none AtClient p.number (past_at table AtClient p) (past_at table AtClient (with_event AtClient (tick_event table edits AtClient p) p)));
  }

  forge_still : (table : Table) (edits : Edits) (side : Side) (bytes : List ℕ) → Still table (after_forgery table edits side bytes)
  forge_still table edits side bytes = record {
    number = λ p. event_number side (Got bytes) p;
    sends = got_sends table side bytes;
    silent = λ p. datagram_none table edits side (Forged side p.number) bytes p (λ v. refl);
  }

  server_tells : (table : Table) (edits : Edits) → Tells table (after_tick_of table edits AtServer)
  server_tells table edits = record {
    number = tick_number table edits AtServer;
    sends = λ p e. ap (λ (m : ℕ). player_sends table p ++ shown_of (tick_reports AtServer m (end_of table AtServer p) (past_at table AtServer p) (past_at table AtServer (with_event AtServer (tick_event table edits AtServer p) p)))) (sym e);
    silent = λ p e. both_none (sent_reports AtServer p.number (length (sent_bytes (end_of table AtServer p) (past_at table AtServer p))) (sent_bytes (end_of table AtServer p) (past_at table AtServer (with_event AtServer (tick_event table edits AtServer p) p))))
        (stalled_report AtServer p.number (past_at table AtServer p) (past_at table AtServer (with_event AtServer (tick_event table edits AtServer p) p)))
        (other_sends_none p.number (length (sent_bytes (end_of table AtServer p) (past_at table AtServer p))) e (sent_bytes (end_of table AtServer p) (past_at table AtServer (with_event AtServer (tick_event table edits AtServer p) p)))) (stalled_none AtServer p.number (past_at table AtServer p) (past_at table AtServer (with_event AtServer (tick_event table edits AtServer p) p)));
  }

  -- ---- players

  -- no two have this number
  abbrev pub Alone : List Player → Type 0
  Alone [] = Unit {0}
  Alone (p ∷ players) = (p.number ≡ n → mine n players ≡ None) × Alone players

  none_after : (f : Player → Player) → ((p : Player) → (f p).number ≡ p.number) → (players : List Player) → mine n players ≡ None → mine n (map f players) ≡ None
  none_after f k players e = mine_all n (λ (p : Player). (f p, [])) k players ∙ ap (option_map f) e

  alone_after : (f : Player → Player) → ((p : Player) → (f p).number ≡ p.number) → (players : List Player) → Alone players → Alone (map f players)
  alone_after f k [] h = tt
  alone_after f k (p ∷ players) h = ((λ e. none_after f k players (h.0 (sym (k p) ∙ e))), alone_after f k players h.1)

  none_cons : (p : Player) (players : List Player) → mine n (p ∷ players) ≡ None → ((p.number == n) ≡ false) × (mine n players ≡ None)
  none_cons p players e = by (p.number == n) e
    where
      by : (b : Bool) → cond b (Some p) (mine n players) ≡ None → (b ≡ false) × (mine n players ≡ None)
      by true h = absurd (cc)
      by false h = (refl, h)

  alone_joined : (new : Player) (players : List Player) → (new.number ≡ n → mine n players ≡ None) → Alone players → Alone (ordered new players)
  alone_joined new [] e h = ((λ q. refl), tt)
  alone_joined new (p ∷ players) e h =
      cond_both (nat_lt p.number new.number) (p ∷ ordered new players) (new ∷ p ∷ players) Alone
      (λ t. (rest, alone_joined new players (λ q. (none_cons p players (e q)).1) h.1)) (λ t. (e, h))
    where
      rest : p.number ≡ n → mine n (ordered new players) ≡ None
      rest q = elim (cases_Bool (new.number == n)) [
        | inl t ↦ (let f : (p.number == n) ≡ false = (none_cons p players (e (eqb-true new.number n t))).0 in let clash : true ≡ false = sym (eq-eqb p.number n q) ∙ f in absurd (cc))
        | inr t ↦ mine_joined_other n new t players ∙ h.0 q
      ]

  abbrev told_in : (Player → Reported) → Option Player → Sents
  told_in does o = elim o [ None ↦ [] | Some p ↦ shown_of (does p).1 ]

  -- what is told of the players is told of the one
  told_one : (table : Table) (does : Player → Reported) → Tells table does → (players : List Player) → Alone players → shown_of (flat_map (λ (p : Player). (does p).1) players) ≡ told_in does (mine n players)
  told_one table does t [] h = refl
  told_one table does t (p ∷ players) h =
      filter_map-append (sent_to n) (does p).1 (flat_map (λ (q : Player). (does q).1) players) ∙ by (p.number == n) refl (told_one table does t players h.1)
    where
      by : (b : Bool) → (p.number == n) ≡ b → shown_of (flat_map (λ (q : Player). (does q).1) players) ≡ told_in does (mine n players)
          → shown_of (does p).1 ++ shown_of (flat_map (λ (q : Player). (does q).1) players) ≡ told_in does (cond b (Some p) (mine n players))
      by true e later = ap (λ l. shown_of (does p).1 ++ l) (later ∙ ap (told_in does) (h.0 (eqb-true p.number n e))) ∙ append-nil (shown_of (does p).1)
      by false e later = ap (λ l. l ++ shown_of (flat_map (λ (q : Player). (does q).1) players)) (t.silent p e) ∙ later

  -- a line tells what it sends, and the player stays alone
  pub record Goes (table : Table) (players later : List Player) (reports : List Report) : Type 0 where
    pub sends : sends_in table (mine n later) ≡ sends_in table (mine n players) ++ shown_of reports
    pub alone : Alone later

  all_go : (table : Table) (does : Player → Reported) → Tells table does → (players : List Player) → Alone players → Goes table players (map (λ (p : Player). (does p).0) players) (flat_map (λ (p : Player). (does p).1) players)
  all_go table does t players h = record {
    sends = ap (sends_in table) (mine_all n does t.number players) ∙ by (mine n players) refl ∙ ap (λ l. sends_in table (mine n players) ++ l) (sym (told_one table does t players h));
    alone = alone_after (λ (p : Player). (does p).0) t.number players h;
  }
    where
      by : (o : Option Player) → mine n players ≡ o → sends_in table (option_map (λ (p : Player). (does p).0) o) ≡ sends_in table o ++ told_in does o
      by None e = refl
      by (Some p) e = t.sends p (found_number n players p e)

  quiet_go : (table : Table) (players later : List Player) (reports : List Report) → sends_in table (mine n later) ≡ sends_in table (mine n players) → shown_of reports ≡ [] → Alone later → Goes table players later reports
  quiet_go table players later reports e f h = record { sends = e ∙ sym (append-nil (sends_in table (mine n players))) ∙ ap (λ l. sends_in table (mine n players) ++ l) (sym f); alone = h }

  one_goes : (table : Table) (who : ℕ) (does : Player → Reported) → Still table does → (players : List Player) → Alone players
      → Goes table players (map (λ (p : Player). if p.number == who then (does p).0 else p) players) (flat_map (λ (p : Player). if p.number == who then (does p).1 else []) players)
  one_goes table who does s players h =
      quiet_go table players (map (λ (p : Player). if p.number == who then (does p).0 else p) players) (flat_map (λ (p : Player). if p.number == who then (does p).1 else []) players) same
      (flat_none (λ (p : Player). if p.number == who then (does p).1 else []) (λ p. cond_both (p.number == who) (does p).1 [] (λ (l : List Report). shown_of l ≡ []) (λ e. s.silent p) (λ e. refl)) players)
      (alone_after (λ (p : Player). if p.number == who then (does p).0 else p) (λ p. cond_both (p.number == who) (does p).0 p (λ (q : Player). q.number ≡ p.number) (λ e. s.number p) (λ e. refl)) players h)
    where
      by : (o : Option Player) → sends_in table (option_map (λ (p : Player). (does p).0) o) ≡ sends_in table o
      by None = refl
      by (Some p) = s.sends p

      same : sends_in table (mine n (map (λ (p : Player). if p.number == who then (does p).0 else p) players)) ≡ sends_in table (mine n players)
      same = elim (cases_Bool (who == n)) [
        | inl t ↦ subst (λ (w : ℕ). sends_in table (mine n (map (λ (p : Player). if p.number == w then (does p).0 else p) players)) ≡ sends_in table (mine n players)) (sym (eqb-true who n t))
            (ap (sends_in table) (mine_one n does s.number players) ∙ by (mine n players))
        | inr t ↦ ap (sends_in table) (mine_other n who does s.number t players)
      ]

  joined_goes : (table : Table) (new : Player) (players : List Player) → player_sends table new ≡ [] → (new.number ≡ n → mine n players ≡ None) → Alone players → Goes table players (ordered new players) (Report.Joined new.number ∷ [])
  joined_goes table new players e f h = quiet_go table players (ordered new players) (Report.Joined new.number ∷ []) same refl (alone_joined new players f h)
    where
      same : sends_in table (mine n (ordered new players)) ≡ sends_in table (mine n players)
      same = elim (cases_Bool (new.number == n)) [
        | inl t ↦ ap (sends_in table) (mine_joined n new (eqb-true new.number n t) players) ∙ e ∙ sym (ap (sends_in table) (f (eqb-true new.number n t)))
        | inr t ↦ ap (sends_in table) (mine_joined_other n new t players)
      ]

  line_goes : (table : Table) (line : Line) (story : Story) → (joins n line ≡ true → mine n story.players ≡ None) → Alone story.players → Goes table story.players (after_line table story line).0.players (after_line table story line).1
  line_goes table (Join player budget version) story f h = joined_goes table (new_player player budget version) story.players refl (λ e. f (eq-eqb player n e)) h
  line_goes table (ApplyEdit edit) story f h = quiet_go table story.players story.players (edit_reports story.edits edit) refl (edit_none story.edits edit) h
  line_goes table TickAll story f h = all_go table (after_tick_of table story.edits AtServer) (server_tells table story.edits) story.players h
  line_goes table (TickClient player) story f h = one_goes table player (after_tick_of table story.edits AtClient) (client_still table story.edits) story.players h
  line_goes table (Deliver side player k) story f h = one_goes table player (after_delivery table story.edits side k) (deliver_still table story.edits side k) story.players h
  line_goes table (DeliverNew side player every) story f h = one_goes table player (after_new_deliveries table story.edits side every) (deliver_new_still table story.edits side every) story.players h
  line_goes table (CallTo side player a m args) story f h = one_goes table player (after_call_of table side a m args) (call_still table side a m args) story.players h
  line_goes table (CallAll a m args) story f h = all_go table (after_call_of table AtServer a m args) (still_tells table (after_call_of table AtServer a m args) (call_still table AtServer a m args)) story.players h
  line_goes table (Dump player) story f h =
      one_goes table player (λ (p : Player). (p, copies_reports table p)) (record { number = λ p. refl; sends = λ p. refl; silent = λ p. copies_none p.number (past_at table AtClient p) (copied_actors (past_at table AtClient p)) }) story.players h
  line_goes table (AskSettled player a) story f h = one_goes table player (settled_answer table story.edits a) (record { number = λ p. refl; sends = λ p. refl; silent = λ p. refl }) story.players h
  line_goes table (Forge side player bytes) story f h = one_goes table player (after_forgery table story.edits side bytes) (forge_still table story.edits side bytes) story.players h

  -- ---- lines

  -- it hasn't joined, or no line is left in which it does
  abbrev MayJoin : List Line → Option Player → Type 0
  MayJoin lines None = joins_once n lines ≡ true
  MayJoin lines (Some p) = list_any (joins n) lines ≡ false

  none_all : (table : Table) (does : Player → Reported) → KeepsNumber does → (players : List Player) → mine n players ≡ None → mine n (map (λ (p : Player). (does p).0) players) ≡ None
  none_all table does k players e = none_after (λ (p : Player). (does p).0) k players e

  none_one : (who : ℕ) (does : Player → Reported) → KeepsNumber does → (players : List Player) → mine n players ≡ None → mine n (map (λ (p : Player). if p.number == who then (does p).0 else p) players) ≡ None
  none_one who does k players e =
      none_after (λ (p : Player). if p.number == who then (does p).0 else p) (λ p. cond_both (p.number == who) (does p).0 p (λ (q : Player). q.number ≡ p.number) (λ t. k p) (λ t. refl)) players e

  none_stays : (table : Table) (line : Line) (story : Story) → joins n line ≡ false → mine n story.players ≡ None → mine n (after_line table story line).0.players ≡ None
  none_stays table (Join player budget version) story f e = mine_joined_other n (new_player player budget version) f story.players ∙ e
  none_stays table (ApplyEdit edit) story f e = e
  none_stays table TickAll story f e = none_all table (after_tick_of table story.edits AtServer) (tick_number table story.edits AtServer) story.players e
  none_stays table (TickClient player) story f e = none_one player (after_tick_of table story.edits AtClient) (tick_number table story.edits AtClient) story.players e
  none_stays table (Deliver side player k) story f e = none_one player (after_delivery table story.edits side k) (deliver_number table story.edits side k) story.players e
  none_stays table (DeliverNew side player every) story f e = none_one player (after_new_deliveries table story.edits side every) (deliver_new_number table story.edits side every) story.players e
  none_stays table (CallTo side player a m args) story f e = none_one player (after_call_of table side a m args) (λ p. event_number side (Call a m args) p) story.players e
  none_stays table (CallAll a m args) story f e = none_all table (after_call_of table AtServer a m args) (λ p. refl) story.players e
  none_stays table (Dump player) story f e = none_one player (λ (p : Player). (p, copies_reports table p)) (λ p. refl) story.players e
  none_stays table (AskSettled player a) story f e = none_one player (settled_answer table story.edits a) (λ p. refl) story.players e
  none_stays table (Forge side player bytes) story f e = none_one player (after_forgery table story.edits side bytes) (λ p. event_number side (Got bytes) p) story.players e

  none_once : (lines : List Line) → list_any (joins n) lines ≡ false → joins_once n lines ≡ true
  none_once [] h = refl
  none_once (line ∷ lines) h = let parts = or_parts (joins n line) (list_any (joins n) lines) h in rw parts.0 (none_once lines parts.1)

  may_any : (lines : List Line) (o : Option Player) → list_any (joins n) lines ≡ false → MayJoin lines o
  may_any lines None h = none_once lines h
  may_any lines (Some p) h = h

  joins_first : (line : Line) (lines : List Line) (o : Option Player) → MayJoin (line ∷ lines) o → joins n line ≡ true → o ≡ None
  joins_first line lines None h t = refl
  joins_first line lines (Some p) h t = (let parts = or_parts (joins n line) (list_any (joins n) lines) h in let q = parts.0 in absurd (cc))

  may_go : (table : Table) (line : Line) (lines : List Line) (story : Story) (o : Option Player) → mine n story.players ≡ o → MayJoin (line ∷ lines) o → MayJoin lines (mine n (after_line table story line).0.players)
  may_go table line lines story (Some p) e h = may_any lines (mine n (after_line table story line).0.players) (or_parts (joins n line) (list_any (joins n) lines) h).1
  may_go table line lines story None e h = by (joins n line) refl h
    where
      off : (b : Bool) → not b ≡ true → b ≡ false
      off true q = absurd (cc)
      off false q = refl

      by : (b : Bool) → joins n line ≡ b → cond b (not (list_any (joins n) lines)) (joins_once n lines) ≡ true → MayJoin lines (mine n (after_line table story line).0.players)
      by true t q = may_any lines (mine n (after_line table story line).0.players) (off (list_any (joins n) lines) q)
      by false t q = subst (MayJoin lines) (sym (none_stays table line story t e)) q

  lines_go : (table : Table) (lines : List Line) (told : Story × List Report) → MayJoin lines (mine n told.0.players) → Alone told.0.players → shown_of told.1 ≡ sends_in table (mine n told.0.players)
      → (shown_of (fold (also_line table) told lines).1 ≡ sends_in table (mine n (fold (also_line table) told lines).0.players)) × Alone (fold (also_line table) told lines).0.players
  lines_go table [] told m h e = (e, h)
  lines_go table (line ∷ lines) told m h e =
      let g = line_goes table line told.0 (λ t. joins_first line lines (mine n told.0.players) m t) h in
      lines_go table lines (also_line table told line) (may_go table line lines told.0 (mine n told.0.players) refl m) g.alone
      (filter_map-append (sent_to n) told.1 (after_line table told.0 line).1 ∙ ap (λ l. l ++ shown_of (after_line table told.0 line).1) e ∙ sym g.sends)

  -- a player's `sent` lines are what the ticks of its server's feed send
  pub sent_by_feed : (table : Table) (lines : List Line) → joins_once n lines ≡ true → sent_lines table lines n ≡ sends_in table (mine n (story_of table lines).0.players)
  sent_by_feed table lines h = (lines_go table lines (first_story, []) h tt refl).0

  -- no two players of a story have the number
  pub stand_alone : (table : Table) (lines : List Line) → joins_once n lines ≡ true → Alone (story_of table lines).0.players
  stand_alone table lines h = (lines_go table lines (first_story, []) h tt refl).1

  abbrev pub heard_sends : Option (End × List Event) → Sents
  heard_sends o = elim o [ None ↦ [] | Some heard ↦ sends_of heard.0 heard.1 ]

  pub as_heard : (table : Table) (o : Option Player) → sends_in table o ≡ heard_sends (option_map (λ (p : Player). (end_of table AtServer p, feed_of AtServer p)) o)
  as_heard table None = refl
  as_heard table (Some p) = refl

  pub same_sends : (table : Table) (one other : List Line) → joins_once n one ≡ true → joins_once n other ≡ true → heard_by table one AtServer n ≡ heard_by table other AtServer n → sent_lines table one n ≡ sent_lines table other n
  same_sends table one other h k e =
      sent_by_feed table one h ∙ as_heard table (mine n (story_of table one).0.players) ∙ ap heard_sends e
      ∙ sym (as_heard table (mine n (story_of table other).0.players)) ∙ sym (sent_by_feed table other k)

-- equal server feeds give equal packets
pub sends_by_feed : SendsByFeed
sends_by_feed table player one other h k e = same_sends player table one other h k e

-- ---- answers and verdicts

-- what is asked of one end of a player
asked_of : {B : Type 0} (ask : End → List Event → B) (table : Table) (side : Side) (o : Option Player)
    → option_map (λ (p : Player). ask (end_of table side p) (feed_of side p)) o ≡ option_map (λ (heard : End × List Event). ask heard.0 heard.1) (option_map (λ (p : Player). (end_of table side p, feed_of side p)) o)
asked_of ask table side None = refl
asked_of ask table side (Some p) = refl

-- a line that asks leaves what is heard
asked_same : {B : Type 0} (ask : End → List Event → B) (table : Table) (n : ℕ) (one other : List Line) (side : Side) → heard_by table one side n ≡ heard_by table other side n
    → option_map (λ (p : Player). ask (end_of table side p) (feed_of side p)) (mine n (story_of table one).0.players) ≡ option_map (λ (p : Player). ask (end_of table side p) (feed_of side p)) (mine n (story_of table other).0.players)
asked_same ask table n one other side e =
    asked_of ask table side (mine n (story_of table one).0.players) ∙ ap (option_map (λ (heard : End × List Event). ask heard.0 heard.1)) e
    ∙ sym (asked_of ask table side (mine n (story_of table other).0.players))

-- equal feeds give equal verdicts
pub verdicts_by_feed : VerdictsByFeed
verdicts_by_feed table n one other side e bytes = asked_same (λ end feed. verdict_of end (past_of end feed) bytes) table n one other side e

-- equal feeds give equal answers
pub answers_by_feed : AnswersByFeed
answers_by_feed table n one other side e a m args =
    asked_same (λ end feed. answer_of side (past_of end feed) a m args) table n one other side e

-- ---- unseen lines

-- an unseen line joins no player
pub once_without : (n : ℕ) (line : Line) → joins n line ≡ false → (before after : List Line) → joins_once n (before ++ after) ≡ joins_once n (before ++ line ∷ after)
once_without n line f [] after = rw f refl
once_without n line f (first ∷ before) after =
    ap (λ b. cond (joins n first) (not b) (joins_once n (before ++ after))) (any_skip (joins n) line f before after)
    ∙ ap (λ b. cond (joins n first) (not (list_any (joins n) (before ++ line ∷ after))) b) (once_without n line f before after)

-- it isn't the player's join
pub unseen_joins : (table : Table) (n : ℕ) (before : List Line) (line : Line) (after : List Line) → is_unseen table n before line after ≡ true → joins n line ≡ false
unseen_joins table n before (Join player budget version) after h = not-true (player == n) h
unseen_joins table n before (ApplyEdit x) after h = refl
unseen_joins table n before TickAll after h = refl
unseen_joins table n before (TickClient player) after h = refl
unseen_joins table n before (Deliver side player k) after h = refl
unseen_joins table n before (DeliverNew side player every) after h = refl
unseen_joins table n before (CallTo side player a m args) after h = refl
unseen_joins table n before (CallAll a m args) after h = refl
unseen_joins table n before (Dump player) after h = refl
unseen_joins table n before (AskSettled player a) after h = refl
unseen_joins table n before (Forge side player bytes) after h = refl

-- an unseen line leaves the packets
pub sends_stay : SendsStayEqual
sends_stay table n before after line h once =
    sends_by_feed table n (before ++ after) (before ++ line ∷ after) once (sym (once_without n line (unseen_joins table n before line after h) before after) ∙ once) (feeds_stay table n before after line h AtServer)
