-- What is told of a player's connection goes by its own part of the story.
use Rattle.std.proofs.Common.{◌≡◌, inl, inr, ℕ, ◌+◌, ◌-◌, ◌==◌, List, [], ◌∷◌, ◌++◌, fold, length, drop, Bool, true, false, cond, not, ◌&&◌, nat_lt, refl, sym, ap, ◌∙◌, subst, Option, Some, None, option_map, filter_map, flat_map, slice_get, append-nil, append_assoc, if◌then◌else◌}
use Rattle.std.specs.Bool.{then_some}
use Rattle.std.specs.List.{cons_option}
use Rattle.std.proofs.lemmas.Bool.{cases_Bool, cond_both, eqb-true}
use Rattle.std.proofs.lemmas.List.Elements.{filter_map-append}
use Rattle.protocol_model.specs.Payload.{Opens, Closes, Updates, Calls, Gone, Message}
use Rattle.protocol_model.specs.Side.{Side, AtServer, AtClient}
use Rattle.protocol_model.specs.Sight.{Seen, sight}
use Rattle.protocol_model.specs.Value.{Table, Arg, Class}
use Rattle.protocol_model.specs.World.{Edit, Edits, Spawn, Destroy, Set, Own, View, Add, Dormant, Wake, Flush, Switch, Team, Give}
use Rattle.protocol_model.specs.declared.Verdict.{Verdict}
use Rattle.script_model.specs.Lines.{Line, Join, ApplyEdit, TickAll, TickClient, Deliver, DeliverNew, CallTo, CallAll, Dump, AskSettled, Forge}
use Rattle.script_model.specs.Reports.{Report, Answered, Absent, Late, Says, Forged, Called, Copies, Copy, Sent, Settled, Stalled, Handed}
use Rattle.connection_model.specs.CallAnswers.{answer_of}
use Rattle.connection_model.specs.Copies.{copied_actors, copy_class, copy_channel}
use Rattle.connection_model.specs.Fates.{top_of}
use Rattle.connection_model.specs.Feed.{End, Tick, Past, Delivered, has_ended}
use Rattle.connection_model.specs.Handed.{handed_by}
use Rattle.connection_model.specs.Past.{sent_bytes}
use Rattle.connection_model.specs.Settled.{is_settled}
use Rattle.connection_model.specs.Verdict.{verdict_of}
use Rattle.replication_model.specs.Story.{Player, Story, end_of, past_at, out_at, with_event, other_side, Reported, earlier_of, numbered_from, sent_reports, stalled_report, tick_reports, call_verdict, call_report, handed_reports, after_tick_of, after_datagram, after_forgery, after_delivery, also_delivery, with_told, after_new_deliveries, after_call_of, settled_answer, copy_values, copy_report, copies_reports, edit_reports, after_line, story_of}
use Rattle.connection_laws.proofs.StoriesTalk.{delivered, told_number}
use Rattle.isolation_laws.specs.Unseen.{is_unseen}
use Rattle.isolation_laws.specs.Isolation.{joins_once}
use Rattle.isolation_laws.specs.Told.{is_about, unjudged, told_of}
use Rattle.isolation_laws.proofs.AlongLines.{story_edits, story_more, found_in, Course, follow}
use Rattle.isolation_laws.proofs.JoinsOnce.{once_front}
use Rattle.isolation_laws.proofs.OnePlayer.{mine, found_number, ShowSame, deliver_number, deliver_same, new_for, is_other}
use Rattle.isolation_laws.proofs.SentByFeed.{Alone, stand_alone}
use Rattle.isolation_laws.proofs.SettledSeen.{settled_same}

module _ (n : ℕ) where
  abbrev pub told : List Report → List Report
  told reports = filter_map (told_of n) reports

  -- ---- reports of others

  both_quiet : (xs ys : List Report) → told xs ≡ [] → told ys ≡ [] → told (xs ++ ys) ≡ []
  both_quiet xs ys e f = filter_map-append (told_of n) xs ys ∙ ap (λ l. l ++ told ys) e ∙ f

  -- a report about another player
  cons_quiet : (r : Report) (rs : List Report) → is_about n r ≡ false → told rs ≡ [] → told (r ∷ rs) ≡ []
  cons_quiet r rs h e = ap (λ b. cons_option (then_some b (unjudged r)) (told rs)) h ∙ e

  numbered_quiet : (side : Side) (m k : ℕ) → (m == n) ≡ false → (packets : List (List ℕ))
      → told (numbered_from side m k packets) ≡ []
  numbered_quiet side m k ne [] = refl
  numbered_quiet side m k ne (bytes ∷ packets) =
      cons_quiet (Sent side m k bytes) (numbered_from side m (k + 1) packets) ne
      (numbered_quiet side m (k + 1) ne packets)

  stalled_quiet : (side : Side) (m : ℕ) → (m == n) ≡ false → (before after : Past)
      → told (stalled_report side m before after) ≡ []
  stalled_quiet side m ne before after =
      cond_both (not (has_ended before) && has_ended after) (Stalled side m ∷ []) []
      (λ (l : List Report). told l ≡ []) (λ e. cons_quiet (Stalled side m) [] ne refl) (λ e. refl)

  tick_quiet : (side : Side) (m : ℕ) → (m == n) ≡ false → (end : End) (before after : Past)
      → told (tick_reports side m end before after) ≡ []
  tick_quiet side m ne end before after =
      both_quiet (sent_reports side m (length (sent_bytes end before)) (sent_bytes end after))
      (stalled_report side m before after)
      (numbered_quiet side m (length (sent_bytes end before) + 1) ne
      (drop (length (sent_bytes end before)) (sent_bytes end after))) (stalled_quiet side m ne before after)

  handed_quiet : (edits : Edits) (side : Side) (m : ℕ) → (m == n) ≡ false → (ds : List Delivered)
      → told (filter_map (call_report edits side m) ds) ≡ []
  handed_quiet edits side m ne [] = refl
  handed_quiet edits side m ne (d ∷ ds) = by d.message (handed_quiet edits side m ne ds)
    where
      by : (message : Message) → told (filter_map (call_report edits side m) ds) ≡ []
          → told (cons_option
          (let o : Option Report = elim message [
            | Calls actor number call args
                ↦ Some (Handed side m actor call.name (call_verdict side edits m actor d.held) args)
            | _ ↦ None
          ] in o)
          (filter_map (call_report edits side m) ds)) ≡ []
      by (Opens exports actor class values) e = e
      by (Closes actor sleeps) e = e
      by (Updates actor class values) e = e
      by (Calls actor number call args) e =
          cons_quiet (Handed side m actor call.name (call_verdict side edits m actor d.held) args)
          (filter_map (call_report edits side m) ds) ne e
      by (Gone actor) e = e

  -- what is done with other players tells nothing
  abbrev pub Quiet : (Player → Reported) → Type 0
  Quiet does = (p : Player) → (p.number == n) ≡ false → told (does p).1 ≡ []

  datagram_quiet : (table : Table) (edits : Edits) (side : Side) (report : Verdict → Report) (bytes : List ℕ)
      (p : Player) → (p.number == n) ≡ false → ((v : Verdict) → is_about n (report v) ≡ false)
      → told (after_datagram table edits side report bytes p).1 ≡ []
  datagram_quiet table edits side report bytes p ne h =
      both_quiet (handed_reports edits side p.number (end_of table side p) (past_at table side p) bytes)
      (report (verdict_of (end_of table side p) (past_at table side p) bytes) ∷ [])
      (handed_quiet edits side p.number ne (handed_by (end_of table side p) (past_at table side p) bytes))
      (cons_quiet (report (verdict_of (end_of table side p) (past_at table side p) bytes)) []
      (h (verdict_of (end_of table side p) (past_at table side p) bytes)) refl)

  forgery_quiet : (table : Table) (edits : Edits) (side : Side) (bytes : List ℕ)
      → Quiet (after_forgery table edits side bytes)
  forgery_quiet table edits side bytes p ne =
      datagram_quiet table edits side (Forged side p.number) bytes p ne (λ v. ne)

  delivered_quiet : (table : Table) (edits : Edits) (side : Side) (k : ℕ) (p : Player) → (p.number == n) ≡ false
      → (o : Option (List ℕ)) → told (delivered table edits side k p o).1 ≡ []
  delivered_quiet table edits side k p ne None = cons_quiet (Answered side p.number k Absent) [] ne refl
  delivered_quiet table edits side k p ne (Some bytes) =
      cond_both (nat_lt (k + 8192) (top_of (past_at table side p))) (p, Answered side p.number k Late ∷ [])
      (after_datagram table edits side (λ verdict. Answered side p.number k (Says verdict)) bytes p)
      (λ (r : Reported). told r.1 ≡ []) (λ q. cons_quiet (Answered side p.number k Late) [] ne refl)
      (λ q. datagram_quiet table edits side (λ verdict. Answered side p.number k (Says verdict)) bytes p ne (λ v. ne))

  delivery_quiet : (table : Table) (edits : Edits) (side : Side) (k : ℕ) → Quiet (after_delivery table edits side k)
  delivery_quiet table edits side k p ne =
      delivered_quiet table edits side k p ne (slice_get (out_at table (other_side side) p) (k - 1))

  deliveries_quiet : (table : Table) (edits : Edits) (side : Side) (ks : List ℕ) (r : Reported)
      → (r.0.number == n) ≡ false → told r.1 ≡ [] → told (fold (also_delivery table edits side) r ks).1 ≡ []
  deliveries_quiet table edits side [] r ne e = e
  deliveries_quiet table edits side (k ∷ ks) r ne e =
      deliveries_quiet table edits side ks (also_delivery table edits side r k)
      (ap (λ m. m == n) (deliver_number table edits side k r.0) ∙ ne)
      (both_quiet r.1 (after_delivery table edits side k r.0).1 e (delivery_quiet table edits side k r.0 ne))

  new_deliveries_quiet : (table : Table) (edits : Edits) (side : Side) (every : ℕ)
      → Quiet (after_new_deliveries table edits side every)
  new_deliveries_quiet table edits side every p ne =
      let count = length (out_at table (other_side side) p) in
      deliveries_quiet table edits side (new_for table side every p) (with_told side count p, [])
      (ap (λ m. m == n) (told_number side count p) ∙ ne) refl

  call_quiet : (table : Table) (side : Side) (a m : ℕ) (args : List Arg) → Quiet (after_call_of table side a m args)
  call_quiet table side a m args p ne =
      cons_quiet (Called side p.number (answer_of side (past_at table side p) a m args)) [] ne refl

  copy_quiet : (m : ℕ) → (m == n) ≡ false → (past : Past) (actors : List ℕ)
      → told (filter_map (copy_report m past) actors) ≡ []
  copy_quiet m ne past [] = refl
  copy_quiet m ne past (a ∷ actors) = by (copy_class past a) (copy_quiet m ne past actors)
    where
      by : (o : Option Class) → told (filter_map (copy_report m past) actors) ≡ []
          → told (cons_option
          (option_map (λ (class : Class). Copy m a class.name (copy_channel past a) (copy_values past a class)) o)
          (filter_map (copy_report m past) actors)) ≡ []
      by None e = e
      by (Some class) e =
          cons_quiet (Copy m a class.name (copy_channel past a) (copy_values past a class))
          (filter_map (copy_report m past) actors) ne e

  copies_quiet : (table : Table) → Quiet (λ (p : Player). (p, copies_reports table p))
  copies_quiet table p ne =
      cons_quiet (Copies p.number (length (copied_actors (past_at table AtClient p))))
      (filter_map (copy_report p.number (past_at table AtClient p)) (copied_actors (past_at table AtClient p))) ne
      (copy_quiet p.number ne (past_at table AtClient p) (copied_actors (past_at table AtClient p)))

  settled_quiet : (table : Table) (edits : Edits) (a : ℕ) → Quiet (settled_answer table edits a)
  settled_quiet table edits a p ne =
      cons_quiet (Settled p.number a (is_settled table edits p.number (past_at table AtServer p) a)) [] ne refl

  ticks_quiet : (table : Table) (edits : Edits) (side : Side) → Quiet (after_tick_of table edits side)
  ticks_quiet table edits side p ne =
      tick_quiet side p.number ne (end_of table side p) (past_at table side p)
      (past_at table side (after_tick_of table edits side p).0)

  edit_quiet : (edits : Edits) (edit : Edit) → told (edit_reports edits edit) ≡ []
  edit_quiet edits (Spawn class u v) = refl
  edit_quiet edits (Destroy b) = refl
  edit_quiet edits (Set b k v) = refl
  edit_quiet edits (Own b p) = refl
  edit_quiet edits (View p u v) = refl
  edit_quiet edits (Add b p on) = refl
  edit_quiet edits (Dormant b) = refl
  edit_quiet edits (Wake b) = refl
  edit_quiet edits (Flush b) = refl
  edit_quiet edits (Switch b k on) = refl
  edit_quiet edits (Team p t) = refl
  edit_quiet edits (Give b t) = refl

  flat_quiet : (tell : Player → List Report) → ((p : Player) → told (tell p) ≡ []) → (players : List Player)
      → told (flat_map tell players) ≡ []
  flat_quiet tell h [] = refl
  flat_quiet tell h (p ∷ players) = both_quiet (tell p) (flat_map tell players) (h p) (flat_quiet tell h players)

  -- what is done with one other player tells nothing
  other_quiet : (who : ℕ) (does : Player → Reported) → Quiet does → (who == n) ≡ false → (players : List Player)
      → told (flat_map (λ (p : Player). if p.number == who then (does p).1 else []) players) ≡ []
  other_quiet who does quiet ne players =
      flat_quiet (λ (p : Player). if p.number == who then (does p).1 else [])
      (λ p. cond_both (p.number == who) (does p).1 [] (λ (l : List Report). told l ≡ [])
      (λ t. quiet p (ap (λ m. m == n) (eqb-true p.number who t) ∙ ne)) (λ t. refl)) players

  -- a line that the player doesn't see tells nothing of its connection
  pub unseen_quiet : (table : Table) (before : List Line) (line : Line) (after : List Line) (story : Story)
      → is_unseen table n before line after ≡ true → told (after_line table story line).1 ≡ []
  unseen_quiet table before (Join player budget version) after story h =
      cons_quiet (Report.Joined player) [] (is_other player n h) refl
  unseen_quiet table before (ApplyEdit x) after story h = edit_quiet story.edits x
  unseen_quiet table before TickAll after story h = absurd (cc)
  unseen_quiet table before (TickClient player) after story h =
      other_quiet player (after_tick_of table story.edits AtClient) (ticks_quiet table story.edits AtClient)
      (is_other player n h) story.players
  unseen_quiet table before (Deliver side player k) after story h =
      other_quiet player (after_delivery table story.edits side k) (delivery_quiet table story.edits side k)
      (is_other player n h) story.players
  unseen_quiet table before (DeliverNew side player every) after story h =
      other_quiet player (after_new_deliveries table story.edits side every)
      (new_deliveries_quiet table story.edits side every) (is_other player n h) story.players
  unseen_quiet table before (CallTo side player a m args) after story h =
      other_quiet player (after_call_of table side a m args) (call_quiet table side a m args) (is_other player n h)
      story.players
  unseen_quiet table before (CallAll a m args) after story h = absurd (cc)
  unseen_quiet table before (Dump player) after story h =
      other_quiet player (λ (p : Player). (p, copies_reports table p)) (copies_quiet table) (is_other player n h)
      story.players
  unseen_quiet table before (AskSettled player a) after story h =
      other_quiet player (settled_answer table story.edits a) (settled_quiet table story.edits a)
      (is_other player n h) story.players
  unseen_quiet table before (Forge side player bytes) after story h =
      other_quiet player (after_forgery table story.edits side bytes) (forgery_quiet table story.edits side bytes)
      (is_other player n h) story.players

  -- ---- reports of the player, in two worlds

  -- the two tell the same of a player
  abbrev pub TellSame : (does did : Player → Reported) → Type 0
  TellSame does did = (p : Player) → told (does p).1 ≡ told (did p).1

  judged_same : (one other : Edits) (side : Side) (m a : ℕ) (name : List ℕ) (held : Bool) (args : List Arg)
      → told_of n (Handed side m a name (call_verdict side one m a held) args)
      ≡ told_of n (Handed side m a name (call_verdict side other m a held) args)
  judged_same one other AtServer m a name held args = refl
  judged_same one other AtClient m a name held args = refl

  handed_same : (one other : Edits) (side : Side) (m : ℕ) (ds : List Delivered)
      → told (filter_map (call_report one side m) ds) ≡ told (filter_map (call_report other side m) ds)
  handed_same one other side m [] = refl
  handed_same one other side m (d ∷ ds) = by d.message (handed_same one other side m ds)
    where
      by : (message : Message)
          → told (filter_map (call_report one side m) ds) ≡ told (filter_map (call_report other side m) ds)
          → told (cons_option
          (let o : Option Report = elim message [
            | Calls actor number call args
                ↦ Some (Handed side m actor call.name (call_verdict side one m actor d.held) args)
            | _ ↦ None
          ] in o)
          (filter_map (call_report one side m) ds))
          ≡ told (cons_option
          (let o : Option Report = elim message [
            | Calls actor number call args
                ↦ Some (Handed side m actor call.name (call_verdict side other m actor d.held) args)
            | _ ↦ None
          ] in o)
          (filter_map (call_report other side m) ds))
      by (Opens exports actor class values) e = e
      by (Closes actor sleeps) e = e
      by (Updates actor class values) e = e
      by (Calls actor number call args) e =
          ap (λ o. cons_option o (told (filter_map (call_report one side m) ds)))
          (judged_same one other side m actor call.name d.held args)
          ∙ ap (cons_option (told_of n (Handed side m actor call.name (call_verdict side other m actor d.held) args)))
          e
      by (Gone actor) e = e

  datagram_same : (table : Table) (one other : Edits) (side : Side) (report : Verdict → Report) (bytes : List ℕ)
      (p : Player) → told (after_datagram table one side report bytes p).1 ≡ told
      (after_datagram table other side report bytes p).1
  datagram_same table one other side report bytes p =
      let end = end_of table side p in
      let past = past_at table side p in
      filter_map-append (told_of n) (handed_reports one side p.number end past bytes)
      (report (verdict_of end past bytes) ∷ [])
      ∙ ap (λ l. l ++ told (report (verdict_of end past bytes) ∷ []))
      (handed_same one other side p.number (handed_by end past bytes))
      ∙ sym (filter_map-append (told_of n) (handed_reports other side p.number end past bytes)
      (report (verdict_of end past bytes) ∷ []))

  cond_told : (b : Bool) (x y z : Reported) → told y.1 ≡ told z.1 → told (cond b x y).1 ≡ told (cond b x z).1
  cond_told true x y z e = refl
  cond_told false x y z e = e

  delivered_told : (table : Table) (one other : Edits) (side : Side) (k : ℕ) (p : Player) (o : Option (List ℕ))
      → told (delivered table one side k p o).1 ≡ told (delivered table other side k p o).1
  delivered_told table one other side k p None = refl
  delivered_told table one other side k p (Some bytes) =
      cond_told (nat_lt (k + 8192) (top_of (past_at table side p))) (p, Answered side p.number k Late ∷ [])
      (after_datagram table one side (λ verdict. Answered side p.number k (Says verdict)) bytes p)
      (after_datagram table other side (λ verdict. Answered side p.number k (Says verdict)) bytes p)
      (datagram_same table one other side (λ verdict. Answered side p.number k (Says verdict)) bytes p)

  delivery_told : (table : Table) (one other : Edits) (side : Side) (k : ℕ)
      → TellSame (after_delivery table one side k) (after_delivery table other side k)
  delivery_told table one other side k p =
      delivered_told table one other side k p (slice_get (out_at table (other_side side) p) (k - 1))

  deliveries_told : (table : Table) (one other : Edits) (side : Side) (ks : List ℕ) (r q : Reported) → r.0 ≡ q.0
      → told r.1 ≡ told q.1
      → told (fold (also_delivery table one side) r ks).1 ≡ told (fold (also_delivery table other side) q ks).1
  deliveries_told table one other side [] r q e f = f
  deliveries_told table one other side (k ∷ ks) r q e f =
      deliveries_told table one other side ks (also_delivery table one side r k) (also_delivery table other side q k)
      (ap (λ (p : Player). (after_delivery table one side k p).0) e ∙ deliver_same table one other side k q.0)
      (filter_map-append (told_of n) r.1 (after_delivery table one side k r.0).1
      ∙ ap (λ l. l ++ told (after_delivery table one side k r.0).1) f
      ∙ ap (λ l. told q.1 ++ l)
      (ap (λ (p : Player). told (after_delivery table one side k p).1) e ∙ delivery_told table one other side k q.0)
      ∙ sym (filter_map-append (told_of n) q.1 (after_delivery table other side k q.0).1))

  new_deliveries_told : (table : Table) (one other : Edits) (side : Side) (every : ℕ)
      → TellSame (after_new_deliveries table one side every) (after_new_deliveries table other side every)
  new_deliveries_told table one other side every p =
      let count = length (out_at table (other_side side) p) in
      deliveries_told table one other side (new_for table side every p) (with_told side count p, [])
      (with_told side count p, []) refl refl

  -- ---- of all players the one is told of

  abbrev told_in : (Player → Reported) → Option Player → List Report
  told_in does o = elim o [ None ↦ [] | Some p ↦ told (does p).1 ]

  told_one : (does : Player → Reported) → Quiet does → (players : List Player) → Alone n players
      → told (flat_map (λ (p : Player). (does p).1) players) ≡ told_in does (mine n players)
  told_one does quiet [] h = refl
  told_one does quiet (p ∷ players) h =
      filter_map-append (told_of n) (does p).1 (flat_map (λ (q : Player). (does q).1) players)
      ∙ by (p.number == n) refl (told_one does quiet players h.1)
    where
      by : (b : Bool) → (p.number == n) ≡ b
          → told (flat_map (λ (q : Player). (does q).1) players) ≡ told_in does (mine n players)
          → told (does p).1 ++ told (flat_map (λ (q : Player). (does q).1) players)
          ≡ told_in does (cond b (Some p) (mine n players))
      by true e later =
          ap (λ l. told (does p).1 ++ l) (later ∙ ap (told_in does) (h.0 (eqb-true p.number n e)))
          ∙ append-nil (told (does p).1)
      by false e later = ap (λ l. l ++ told (flat_map (λ (q : Player). (does q).1) players)) (quiet p e) ∙ later

  -- both lists of players have the one, alone
  record HaveSame (players others : List Player) : Type 0 where
    pub mine : mine n players ≡ mine n others
    pub alone : Alone n players
    pub alone_too : Alone n others

  all_told : (does did : Player → Reported) → Quiet does → Quiet did → (players others : List Player)
      → HaveSame players others → ((p : Player) → mine n players ≡ Some p → told (does p).1 ≡ told (did p).1)
      → told (flat_map (λ (p : Player). (does p).1) players) ≡ told (flat_map (λ (p : Player). (did p).1) others)
  all_told does did quiet still players others have same =
      told_one does quiet players have.alone ∙ by (mine n players) refl ∙ ap (told_in did) have.mine
      ∙ sym (told_one did still others have.alone_too)
    where
      by : (o : Option Player) → mine n players ≡ o → told_in does o ≡ told_in did o
      by None e = refl
      by (Some p) e = same p e

  one_told : (who : ℕ) (does did : Player → Reported) → Quiet does → Quiet did → (players others : List Player)
      → HaveSame players others → ((p : Player) → mine n players ≡ Some p → told (does p).1 ≡ told (did p).1)
      → told (flat_map (λ (p : Player). if p.number == who then (does p).1 else []) players)
      ≡ told (flat_map (λ (p : Player). if p.number == who then (did p).1 else []) others)
  one_told who does did quiet still players others have same = elim (cases_Bool (who == n)) [
    | inl t ↦ subst
        (λ (w : ℕ). told (flat_map (λ (p : Player). if p.number == w then (does p).1 else []) players)
        ≡ told (flat_map (λ (p : Player). if p.number == w then (did p).1 else []) others)) (sym (eqb-true who n t))
        (all_told (λ (p : Player). (p, if p.number == n then (does p).1 else []))
        (λ (p : Player). (p, if p.number == n then (did p).1 else []))
        (λ p ne. ap (λ b. told (cond b (does p).1 [])) ne) (λ p ne. ap (λ b. told (cond b (did p).1 [])) ne) players
        others have
        (λ p found. by (p.number == n) p (same p found)))
    | inr t ↦ other_quiet who does quiet t players ∙ sym (other_quiet who did still t others)
  ]
    where
      by : (b : Bool) (p : Player) → told (does p).1 ≡ told (did p).1
          → told (cond b (does p).1 []) ≡ told (cond b (did p).1 [])
      by true p e = e
      by false p e = refl

  -- a line tells the same of the player in two stories that show it the same
  line_told : (table : Table) (line : Line) (story other : Story) → HaveSame story.players other.players
      → ShowSame table n story.edits other.edits (mine n story.players)
      → told (after_line table story line).1 ≡ told (after_line table other line).1
  line_told table (Join player budget version) story other have shows = refl
  line_told table (ApplyEdit x) story other have shows = edit_quiet story.edits x ∙ sym (edit_quiet other.edits x)
  line_told table TickAll story other have shows =
      all_told (after_tick_of table story.edits AtServer) (after_tick_of table other.edits AtServer)
      (ticks_quiet table story.edits AtServer) (ticks_quiet table other.edits AtServer) story.players other.players
      have
      (λ p f. ap
      (λ (s : List Seen). told
      (tick_reports AtServer p.number (end_of table AtServer p) (past_at table AtServer p)
      (past_at table AtServer (with_event AtServer (Tick s) p))))
      (subst (λ (m : ℕ). sight table story.edits m (earlier_of p) ≡ sight table other.edits m (earlier_of p))
      (sym (found_number n story.players p f)) (shows p f)))
  line_told table (TickClient player) story other have shows =
      one_told player (after_tick_of table story.edits AtClient) (after_tick_of table other.edits AtClient)
      (ticks_quiet table story.edits AtClient) (ticks_quiet table other.edits AtClient) story.players other.players
      have (λ p f. refl)
  line_told table (Deliver side player k) story other have shows =
      one_told player (after_delivery table story.edits side k) (after_delivery table other.edits side k)
      (delivery_quiet table story.edits side k) (delivery_quiet table other.edits side k) story.players other.players
      have
      (λ p f. delivery_told table story.edits other.edits side k p)
  line_told table (DeliverNew side player every) story other have shows =
      one_told player (after_new_deliveries table story.edits side every)
      (after_new_deliveries table other.edits side every) (new_deliveries_quiet table story.edits side every)
      (new_deliveries_quiet table other.edits side every) story.players other.players have
      (λ p f. new_deliveries_told table story.edits other.edits side every p)
  line_told table (CallTo side player a m args) story other have shows =
      one_told player (after_call_of table side a m args) (after_call_of table side a m args)
      (call_quiet table side a m args) (call_quiet table side a m args) story.players other.players have (λ p f. refl)
  line_told table (CallAll a m args) story other have shows =
      all_told (after_call_of table AtServer a m args) (after_call_of table AtServer a m args)
      (call_quiet table AtServer a m args) (call_quiet table AtServer a m args) story.players other.players have
      (λ p f. refl)
  line_told table (Dump player) story other have shows =
      one_told player (λ (p : Player). (p, copies_reports table p)) (λ (p : Player). (p, copies_reports table p))
      (copies_quiet table) (copies_quiet table) story.players other.players have (λ p f. refl)
  line_told table (AskSettled player a) story other have shows =
      one_told player (settled_answer table story.edits a) (settled_answer table other.edits a)
      (settled_quiet table story.edits a) (settled_quiet table other.edits a) story.players other.players have
      (λ p f. ap (λ (b : Bool). told (Settled p.number a b ∷ []))
      (settled_same table story.edits other.edits p.number (past_at table AtServer p) a (earlier_of p)
      (subst (λ (m : ℕ). sight table story.edits m (earlier_of p) ≡ sight table other.edits m (earlier_of p))
      (sym (found_number n story.players p f)) (shows p f))))
  line_told table (Forge side player bytes) story other have shows =
      one_told player (after_forgery table story.edits side bytes) (after_forgery table other.edits side bytes)
      (forgery_quiet table story.edits side bytes) (forgery_quiet table other.edits side bytes) story.players
      other.players have
      (λ p f. datagram_same table story.edits other.edits side (Forged side p.number) bytes p)

  -- ---- along lines

  -- one more line tells more
  pub line_more : (table : Table) (lines : List Line) (line : Line)
      → told (story_of table (lines ++ line ∷ [])).1 ≡ told (story_of table lines).1 ++ told
      (after_line table (story_of table lines).0 line).1
  line_more table lines line =
      ap (λ (r : Story × List Report). told r.1) (story_more table lines line)
      ∙ filter_map-append (told_of n) (story_of table lines).1 (after_line table (story_of table lines).0 line).1

  -- lines that show the player the same tell the same of it
  pub lines_told : (table : Table) (one other lines : List Line) → Course table n one other lines
      → found_in table n one ≡ found_in table n other
      → joins_once n (one ++ lines) ≡ true → joins_once n (other ++ lines) ≡ true
      → told (story_of table one).1 ≡ told (story_of table other).1
      → told (story_of table (one ++ lines)).1 ≡ told (story_of table (other ++ lines)).1
  lines_told table one other [] h e q r f =
      ap (λ (l : List Line). told (story_of table l).1) (append-nil one) ∙ f
      ∙ sym (ap (λ (l : List Line). told (story_of table l).1) (append-nil other))
  lines_told table one other (line ∷ lines) h e q r f =
      ap (λ (l : List Line). told (story_of table l).1) (sym (append_assoc one (line ∷ []) lines))
      ∙ lines_told table (one ++ line ∷ []) (other ++ line ∷ []) lines h.1
      (follow table n one other (line ∷ []) (h.0, tt) e)
      (ap (joins_once n) (append_assoc one (line ∷ []) lines) ∙ q)
      (ap (joins_once n) (append_assoc other (line ∷ []) lines) ∙ r)
      (line_more table one line ∙ ap (λ l. l ++ told (after_line table (story_of table one).0 line).1) f
      ∙ ap (λ l. told (story_of table other).1 ++ l)
      (line_told table line (story_of table one).0 (story_of table other).0
      (record {
        mine = e;
        alone = stand_alone n table one (once_front n one (line ∷ lines) q);
        alone_too = stand_alone
            n table other (once_front n other (line ∷ lines) r);
      })
      (λ p found. ap (λ (edits : Edits). sight table edits n (earlier_of p)) (story_edits table one) ∙ h.0 p found
      ∙ sym (ap (λ (edits : Edits). sight table edits n (earlier_of p)) (story_edits table other))))
      ∙ sym (line_more table other line))
      ∙ ap (λ (l : List Line). told (story_of table l).1) (append_assoc other (line ∷ []) lines)
