-- What holds of both ends, whatever they do.
use Rattle.std.proofs.Common.{◌≡◌, inl, inr, Bool, None, ℤ, negsuc, nat_lt, ℕ, zero, suc, ◌+◌, ◌<◌, ◌≤◌, List, [], ◌∷◌, ◌++◌, map, length, true, false, refl, sym, ap, ◌∙◌, subst, arith, pos}
use Rattle.std.proofs.lemmas.Bool.{false≢true}
use Rattle.std.proofs.lemmas.List.{length-reverse, length-map}
use Rattle.protocol_model.specs.declared.Version.{Version}
use Rattle.protocol_model.specs.declared.Version.TheVariants.{One, Two}
use Rattle.protocol_model.specs.Payload.{Message, parts_of}
use Rattle.protocol_model.specs.Search.{is_among, greatest_of, newest_of}
use Rattle.connection_model.specs.Feed.{End, Past, Ticked, Made, Waits, Sent, Took, Ended, Ending, Entry, Delivered, Item, has_ended, tick_count}
use Rattle.connection_model.specs.Fates.{taken_of, top_of, moved_of, high_of, last_sent, top_when, entries_in, unresolved_count}
use Rattle.connection_model.specs.Bunches.{made_count, after_making}
use Rattle.connection_model.specs.Items.{made_as}
use Rattle.connection_model.specs.Windows.{received_on, received_by}
use Rattle.connection_model.specs.Verdict.{with_told, with_handed, ack_cause}
use Rattle.connection_model.specs.Fates.{named_by}
use Rattle.protocol_model.specs.declared.Cause.TheVariants.{BadAck}
use Rattle.std.specs.Prelude.{int_lt}
use Rattle.std.specs.List.{filter_map, cons_option, slice_get}
use Rattle.std.specs.Bool.{then_some}
use Rattle.std.proofs.lemmas.Bool.Decides.{nat_tests}
use Rattle.connection_laws.proofs.PacketsSay.{IsIn}
use Rattle.connection_model.specs.Pack.{after_sending}
use Rattle.connection_laws.specs.Run.{Move, Ticks, Makes, Defers, Sends, Takes, Hears, Hands, Ends, after_move, May, IsRun, acknowledged_of, acknowledged_in}
use Rattle.connection_laws.specs.Run.IsRun.{does, start as run_start}
use Rattle.connection_laws.specs.Link.{entry_said, said_by, MayCome, IsWhole, IsNext, IsFaithful, IsLink, done_of}
use Rattle.connection_laws.specs.Link.IsLink.{start, left_does, right_does}
use Rattle.connection_laws.specs.Delivered.{ReadsRight}
use Rattle.connection_laws.proofs.Moves.{making_keeps, made_ignored_all, told_ignored_all, handed_ignored_all}
use Rattle.connection_laws.proofs.Searches.{among_here}
use Rattle.connection_laws.proofs.Deeds.{always, deeds_fit}
use Rattle.connection_laws.proofs.Counts.{made_count_grows, last_sent_sent}
use Rattle.connection_laws.proofs.Arrivals.{moved_made}
use Rattle.connection_laws.proofs.Fates.{last_sent_made, fates_fit}
use Rattle.connection_laws.proofs.Spans.{some_parts}
use Rattle.connection_laws.proofs.AcksInOrder.{told_made, taken_made, tells_taken}
use Rattle.connection_laws.proofs.Items.{made_stays}
use Rattle.connection_laws.proofs.PacketsSay.{said_made, said_old}
use Rattle.connection_laws.proofs.AcksTaken.{done_made, done_told, done_handed, done_taken}
use Rattle.connection_laws.proofs.Transfer.{Way, Transfers, core_start, core_from, core_to, core_takes, core_hears, reads_packet, high_at_most}
use Rattle.connection_laws.proofs.AcksRead.{Fresh, HeadWaits, left_of, fresh_start, fresh_me, fresh_takes, fresh_other, fresh_sends, StaysFresh, NamesSent, next_one, next_two, next_names_one, next_names_two}

-- what holds of both ways between two ends
pub record Both (v : Version) (me other : Past) : Type 0 where
  pub out : Transfers v me other
  pub back : Transfers v other me
  pub heard : Fresh v me other
  pub said : Fresh v other me

-- it holds turned round
pub turned : (v : Version) (me other : Past) → Both v me other → Both v other me
turned v me other b = record { out = b.back; back = b.out; heard = b.said; said = b.heard }

-- ---- what was told was heard to its end

-- what is acknowledged was heard to its end
abbrev TellsDone : Past → Type 0
TellsDone past = (x : ℕ) → is_among x (acknowledged_of past) ≡ true → is_among x (done_of past) ≡ true

-- what is acknowledged was heard to its end
pub tells_done : (end : End) (past : Past) → IsRun end past → (x : ℕ) → is_among x (acknowledged_of past) ≡ true → is_among x (done_of past) ≡ true
tells_done end past run = always end TellsDone (λ x h. absurd (false≢true h)) step past run
  where
    step : (past : Past) (move : Move) → IsRun end past → has_ended past ≡ false → May end past move → TellsDone past → TellsDone (after_move past move)
    step past (Ticks sight) run alive may h x q = (tells_taken end past run).taken x q
    step past (Makes ch m) run alive may h x q = ap (is_among x) (done_made past ch m) ∙ (tells_taken end past run).taken x (ap (is_among x) (sym (told_made past ch m)) ∙ q)
    step past (Defers m) run alive may h x q = (tells_taken end past run).taken x q
    step past (Sends items) run alive may h x q = (tells_taken end (after_sending past items) (does (Sends items) run alive may)).taken x q
    step past (Takes n) run alive may h x q = (tells_taken end past run).taken x q
    step past (Hears entry) run alive may h x q =
        ap (is_among x) (done_told entry past) ∙ h x (ap (is_among x) (sym (told_ignored_all acknowledged_in (λ n e es ds. refl) entry past)) ∙ q)
    step past (Hands d) run alive may h x q =
        ap (is_among x) (done_handed d past) ∙ h x (ap (is_among x) (sym (handed_ignored_all acknowledged_in (λ n es d ds. refl) d past)) ∙ q)
    step past (Ends ending) run alive may h x q = h x q

-- ---- a message is made

-- nothing is left to hear while a message is made
abbrev NothingLeft : Version → Past → ℕ → Past → Type 0
NothingLeft v other zero before = Unit {0}
NothingLeft v other (suc i) before = Way v other before × (left_of v before other ≡ []) × HeadWaits before other

-- nothing is left after a message is made
left_end : (v : Version) (other : Past) (i : ℕ) (before : Past) → 1 ≤ i → NothingLeft v other i before → Way v other before × (left_of v before other ≡ []) × HeadWaits before other
left_end v other zero before lo h = absurd (omega arith)
left_end v other (suc i) before lo h = h

-- so it is while none was
left_made : (v : Version) (other past : Past) (ch : ℕ) (m : Message) → Way v other (after_making past ch m) × (left_of v (after_making past ch m) other ≡ []) × HeadWaits (after_making past ch m) other
left_made v other past ch m =
    left_end v other (parts_of m) (after_making past ch m) (some_parts m)
    (making_keeps (NothingLeft v other) past ch m tt (λ i before lt h. (tt, refl, tt)))

-- making a message receives nothing
received_made : (past : Past) (c : ℕ) (m : Message) (ch : ℕ) → received_on (after_making past c m) ch ≡ received_on past ch
received_made past c m ch = ap (λ (es : List Entry). received_by es ch) (made_ignored_all entries_in (λ c n m i. refl) past c m)

-- making a message leaves what was the greatest number taken
pub top_when_made : (past : Past) (c : ℕ) (m : Message) (k : ℕ) → top_when (after_making past c m) k ≡ top_when past k
top_when_made past c m k = making_keeps (λ i before. top_when before k ≡ top_when past k) past c m refl (λ i before lt e. e)

-- ---- one move

module _ (v : Version) (mine theirs : End) (mv : mine.version ≡ v) (tv : theirs.version ≡ v) (other : Past) (their_run : IsRun theirs other) where
  -- a deed that neither makes, sends nor takes anything
  quiet : (me later : Past) → Both v me other → has_ended me ≡ false → IsWhole v other me
      → ((k : ℕ) → said_by v later k ≡ said_by v me k) → last_sent later ≡ last_sent me → moved_of later ≡ moved_of me → ((ch : ℕ) → made_count me ch ≤ made_count later ch)
      → ((ch n : ℕ) → n ≤ made_count me ch → newest_of (made_as ch n) later ≡ newest_of (made_as ch n) me)
      → taken_of later ≡ taken_of me → done_of later ≡ taken_of me → ((ch : ℕ) → received_on later ch ≡ received_on me ch)
      → Way v other later × (left_of v later other ≡ []) × HeadWaits later other
      → acknowledged_of later ≡ acknowledged_of me → ((k : ℕ) → top_when later k ≡ top_when me k) → Both v later other
  quiet me later b alive whole s l m c a t d r w o p = record {
    out = core_from v me later other b.out (λ k le. s k) (omega (arith, l)) (λ k h. inl (ap (is_among k) (sym m) ∙ h)) c a;
    back = core_to v other me later b.back alive whole t d r w.0;
    heard = fresh_me v me later other m (omega (arith, ap greatest_of t)) w.1 w.2 b.heard;
    said = fresh_other v other me later s o l p b.said;
  }

  takes_step : (me : Past) (n : ℕ) → Both v me other → has_ended me ≡ false → top_of me < n → IsWhole v other me → (k : ℕ) → MayCome me other k → n ≡ k → Both v (Took n [] [] ∷ me) other
  takes_step me n b alive may whole k c e =
      let lo : 1 ≤ n = omega (arith, c.first, e) in
      let hi : n ≤ last_sent other = omega (arith, c.sent, e) in
      record {
        out = core_from v me (Took n [] [] ∷ me) other b.out (λ k le. refl) (omega arith) (λ k h. inl h) (λ ch. omega arith) (λ ch n le. refl);
        back = core_takes v other me n b.back alive whole lo hi;
        heard = fresh_takes v me other n may hi b.heard;
        said = fresh_other v other me (Took n [] [] ∷ me) (λ k. refl) refl refl (λ k. refl) b.said;
      }

  sends_step : (me : Past) (items : List Item) → Both v me other → has_ended me ≡ false → May mine me (Sends items) → IsWhole v other me → Both v (after_sending me items) other
  sends_step me items b alive may whole = record {
    out = core_from v me (after_sending me items) other b.out (λ k le. said_old v me items k le) (omega (arith, last_sent_sent me items)) (λ k h. inl h) (λ ch. omega arith) (λ ch n le. refl);
    back = core_to v other me (after_sending me items) b.back alive whole refl refl (λ ch. refl) tt;
    heard = fresh_me v me (after_sending me items) other refl (omega arith) refl tt b.heard;
    said = fresh_sends v mine mv other me items may (λ k h. (b.out.sent k h).1) (high_at_most v theirs other me their_run b.back) b.said;
  }

  -- the next entry of the packet under way
  told_next : (k : ℕ) (es : List Entry) (ds : List Delivered) (past : Past) (entry : Entry) → IsRun mine (Took k es ds ∷ past) → Both v (Took k es ds ∷ past) other → IsNext v other (Took k es ds ∷ past) entry
      → StaysFresh v (Took k es ds ∷ past) (Took k (entry ∷ es) ds ∷ past) other
  told_next k es ds past entry run b next =
      subst (λ (x : Entry). StaysFresh v (Took k es ds ∷ past) (Took k (x ∷ es) ds ∷ past) other) (sym next.5) (by v refl b.heard)
    where
      long : length es ≡ length next.0
      long = ap length next.4 ∙ length-reverse (map entry_said next.0) ∙ length-map next.0 entry_said

      sent : (x : ℕ) → is_among x (done_of other) ≡ true → x ≤ last_sent past
      sent x h = (b.out.sent x (done_taken other x h)).1

      few : last_sent past ≤ high_of (Took k es ds ∷ past) + 4096
      few = (let u : unresolved_count (Took k es ds ∷ past) ≤ 4096 = (fates_fit mine (Took k es ds ∷ past) run).unresolved in omega arith)

      by : (w : Version) → v ≡ w → Fresh w (Took k es ds ∷ past) other → StaysFresh v (Took k es ds ∷ past) (Took k (entry_said next.1 ∷ es) ds ∷ past) other
      by One e f = subst (λ (w : Version). StaysFresh w (Took k es ds ∷ past) (Took k (entry_said next.1 ∷ es) ds ∷ past) other) (sym e)
          (next_one theirs (tv ∙ e) other (deeds_fit theirs other their_run) k es ds past (tells_done theirs other their_run) sent few f next.1 next.0 next.2
          (subst (λ (w : Version). said_by w other k ≡ next.0 ++ next.1 ∷ next.2) e next.3) long)
      by Two e f = subst (λ (w : Version). StaysFresh w (Took k es ds ∷ past) (Took k (entry_said next.1 ∷ es) ds ∷ past) other) (sym e)
          (next_two theirs (tv ∙ e) other (deeds_fit theirs other their_run) k es ds past sent few (b.back.sent k (among_here k (taken_of past) k refl)).1 f next.1 next.0 next.2
          (subst (λ (w : Version). said_by w other k ≡ next.0 ++ next.1 ∷ next.2) e next.3) next.4)

  -- it names no number above the last sent
  pub names_next : (k : ℕ) (es : List Entry) (ds : List Delivered) (past : Past) (entry : Entry) → IsRun mine (Took k es ds ∷ past) → Both v (Took k es ds ∷ past) other → IsNext v other (Took k es ds ∷ past) entry
      → NamesSent (Took k es ds ∷ past) entry
  names_next k es ds past entry run b next = subst (NamesSent (Took k es ds ∷ past)) (sym next.5) (by v refl b.heard)
    where
      long : length es ≡ length next.0
      long = ap length next.4 ∙ length-reverse (map entry_said next.0) ∙ length-map next.0 entry_said

      sent : (x : ℕ) → is_among x (done_of other) ≡ true → x ≤ last_sent past
      sent x h = (b.out.sent x (done_taken other x h)).1

      few : last_sent past ≤ high_of (Took k es ds ∷ past) + 4096
      few = (let u : unresolved_count (Took k es ds ∷ past) ≤ 4096 = (fates_fit mine (Took k es ds ∷ past) run).unresolved in omega arith)

      by : (w : Version) → v ≡ w → Fresh w (Took k es ds ∷ past) other → NamesSent (Took k es ds ∷ past) (entry_said next.1)
      by One e f = next_names_one theirs (tv ∙ e) other (deeds_fit theirs other their_run) k es ds past (tells_done theirs other their_run) sent few f next.1 next.0 next.2
          (subst (λ (w : Version). said_by w other k ≡ next.0 ++ next.1 ∷ next.2) e next.3) long
      by Two e f = next_names_two theirs (tv ∙ e) other (deeds_fit theirs other their_run) k es ds past sent few (b.back.sent k (among_here k (taken_of past) k refl)).1 f next.1 next.0 next.2
          (subst (λ (w : Version). said_by w other k ≡ next.0 ++ next.1 ∷ next.2) e next.3) next.4

  hears_step : (me : Past) (entry : Entry) → IsRun mine me → Both v me other → IsNext v other me entry → Both v (with_told entry me) other
  hears_step (Took k es ds ∷ past) entry run b next =
      let told : StaysFresh v (Took k es ds ∷ past) (Took k (entry ∷ es) ds ∷ past) other = told_next k es ds past entry run b next in
      record {
        out = core_from v (Took k es ds ∷ past) (Took k (entry ∷ es) ds ∷ past) other b.out (λ k le. refl) (omega arith) told.moved (λ ch. omega arith) (λ ch n le. refl);
        back = core_hears v theirs other k es ds past entry their_run b.back (deeds_fit mine (Took k es ds ∷ past) run).0 next;
        heard = told.fresh;
        said = fresh_other v other (Took k es ds ∷ past) (Took k (entry ∷ es) ds ∷ past) (λ k. refl) refl refl (λ k. refl) b.said;
      }
  hears_step [] entry run b next = b
  hears_step (Ticked t s ∷ past) entry run b next = b
  hears_step (Made c n m i ∷ past) entry run b next = b
  hears_step (Waits m ∷ past) entry run b next = b
  hears_step (Sent n t items ∷ past) entry run b next = b
  hears_step (Ended g ∷ past) entry run b next = b

  waits_handed : (k : ℕ) (es : List Entry) (d : Delivered) (ds : List Delivered) (past : Past) → HeadWaits (Took k es ds ∷ past) other → HeadWaits (Took k es (d ∷ ds) ∷ past) other
  waits_handed k [] d ds past h = h
  waits_handed k (e ∷ es) d ds past h = tt

  fresh_handed : (w : Version) (k : ℕ) (es : List Entry) (d : Delivered) (ds : List Delivered) (past : Past) → Fresh w (Took k es ds ∷ past) other → Fresh w (Took k es (d ∷ ds) ∷ past) other
  fresh_handed One k es d ds past f = record { known = f.known; later = f.later; now = f.now }
  fresh_handed Two k es d ds past f = record { later = f.later; now = waits_handed k es d ds past f.now }

  hands_step : (me : Past) (d : Delivered) → Both v me other → Both v (with_handed d me) other
  hands_step (Took k es ds ∷ past) d b = record {
    out = core_from v (Took k es ds ∷ past) (Took k es (d ∷ ds) ∷ past) other b.out (λ k le. refl) (omega arith) (λ k h. inl h) (λ ch. omega arith) (λ ch n le. refl);
    back = record { sent = b.back.sent; arrived = b.back.arrived; within = b.back.within; same = b.back.same; had = b.back.had; way = b.back.way };
    heard = fresh_handed v k es d ds past b.heard;
    said = fresh_other v other (Took k es ds ∷ past) (Took k es (d ∷ ds) ∷ past) (λ k. refl) refl refl (λ k. refl) b.said;
  }
  hands_step [] d b = b
  hands_step (Ticked t s ∷ past) d b = b
  hands_step (Made c n m i ∷ past) d b = b
  hands_step (Waits m ∷ past) d b = b
  hands_step (Sent n t items ∷ past) d b = b
  hands_step (Ended g ∷ past) d b = b

  ends_step : (me : Past) (g : Ending) → Both v me other → Both v (Ended g ∷ me) other
  ends_step me g b = record {
    out = core_from v me (Ended g ∷ me) other b.out (λ k le. refl) (omega arith) (λ k h. inl h) (λ ch. omega arith) (λ ch n le. refl);
    back = record { sent = b.back.sent; arrived = b.back.arrived; within = b.back.within; same = b.back.same; had = b.back.had; way = tt };
    heard = fresh_me v me (Ended g ∷ me) other refl (omega arith) refl tt b.heard;
    said = fresh_other v other me (Ended g ∷ me) (λ k. refl) refl refl (λ k. refl) b.said;
  }

  pub step : (me : Past) (move : Move) → IsRun mine me → Both v me other → has_ended me ≡ false → May mine me move → IsFaithful v other me move → Both v (after_move me move) other
  step me (Ticks sight) run b alive may honest =
      quiet me (Ticked (tick_count me + 1) sight ∷ me) b alive honest (λ k. refl) refl refl (λ ch. omega arith) (λ ch n le. refl) refl refl (λ ch. refl) (tt, refl, tt) refl (λ k. refl)
  step me (Makes c m) run b alive may honest =
      quiet me (after_making me c m) b alive honest (said_made v me c m) (last_sent_made me c m) (moved_made me c m) (λ ch. made_count_grows me ch c m) (λ ch n le. made_stays me c m ch n le)
      (taken_made me c m) (done_made me c m) (received_made me c m) (left_made v other me c m) (told_made me c m) (top_when_made me c m)
  step me (Defers m) run b alive may honest =
      quiet me (Waits m ∷ me) b alive honest (λ k. refl) refl refl (λ ch. omega arith) (λ ch n le. refl) refl refl (λ ch. refl) (tt, refl, tt) refl (λ k. refl)
  step me (Sends items) run b alive may honest = sends_step me items b alive may honest
  step me (Takes n) run b alive may honest =
      takes_step me n b alive may honest.0 honest.1.0 honest.1.1 (same n honest.1.0 (sym honest.1.2 ∙ reads_packet v theirs other me their_run b.back honest.1.0 honest.1.1))
    where
      same : (x y : ℕ) → pos x ≡ pos y → x ≡ y
      same x y e = cc
  step me (Hears entry) run b alive may honest = hears_step me entry run b honest
  step me (Hands d) run b alive may honest = hands_step me d b
  step me (Ends g) run b alive may honest = ends_step me g b

-- ---- all moves

-- the left end's past is a run
pub left_run : (left right : End) (l r : Past) → IsLink left right l r → IsRun left l
left_run left right l r start = run_start
left_run left right l r (left_does {l = a} {r = b} move link alive may honest) = does move (left_run left right a b link) alive may
left_run left right l r (right_does {l = a} {r = b} move link alive may honest) = left_run left right a b link

-- the right end's past is a run
pub right_run : (left right : End) (l r : Past) → IsLink left right l r → IsRun right r
right_run left right l r start = run_start
right_run left right l r (left_does {l = a} {r = b} move link alive may honest) = right_run left right a b link
right_run left right l r (right_does {l = a} {r = b} move link alive may honest) = does move (right_run left right a b link) alive may

-- linked ends have both ways
pub both : (v : Version) (left right : End) → left.version ≡ v → right.version ≡ v → (l r : Past) → IsLink left right l r → Both v l r
both v left right lv rv l r start = record { out = core_start v; back = core_start v; heard = fresh_start v; said = fresh_start v }
both v left right lv rv l r (left_does {l = a} {r = b} move link alive may honest) =
    step v left right lv rv b (right_run left right a b link) a move (left_run left right a b link) (both v left right lv rv a b link) alive may
    (subst (λ (w : Version). IsFaithful w b a move) lv honest)
both v left right lv rv l r (right_does {l = a} {r = b} move link alive may honest) =
    turned v (after_move b move) a
    (step v right left rv lv a (left_run left right a b link) b move (right_run left right a b link) (turned v a b (both v left right lv rv a b link)) alive may
    (subst (λ (w : Version). IsFaithful w a b move) rv honest))

-- ---- what is heard next names what was sent

-- where each number named is low, none is refused
none_above : (l : ℕ) (zs : List ℤ) → ((z : ℤ) → IsIn z zs → (x : ℕ) → z ≡ pos x → x ≤ l) → newest_of (λ a. then_some (int_lt (pos l) a) (BadAck a l)) zs ≡ None
none_above l [] h = refl
none_above l (negsuc n ∷ zs) h = none_above l zs (λ z q. h z (inr q))
none_above l (pos n ∷ zs) h = ap (λ (b : Bool). slice_get (cons_option (then_some b (BadAck (pos n) l)) (filter_map (λ a. then_some (int_lt (pos l) a) (BadAck a l)) zs)) 0) (low n (h (pos n) (inl refl) n refl)) ∙ none_above l zs (λ z q. h z (inr q))
  where
    low : (n : ℕ) → n ≤ l → nat_lt l n ≡ false
    low n q = grind (arith, nat_tests)

-- an entry that the left end hears names packets that it sent
pub left_names : (left right : End) (k : ℕ) (es : List Entry) (ds : List Delivered) (past r : Past) (entry : Entry) → left.version ≡ right.version → IsLink left right (Took k es ds ∷ past) r → IsNext left.version r (Took k es ds ∷ past) entry
    → ack_cause (Took k es ds ∷ past) entry ≡ None
left_names left right k es ds past r entry same link next =
    none_above (last_sent past) (named_by entry (high_of (Took k es ds ∷ past)))
    (names_next left.version left right refl (sym same) r (right_run left right (Took k es ds ∷ past) r link) k es ds past entry (left_run left right (Took k es ds ∷ past) r link)
    (both left.version left right refl (sym same) (Took k es ds ∷ past) r link) next)

-- and one that the right end hears
pub right_names : (left right : End) (l : Past) (k : ℕ) (es : List Entry) (ds : List Delivered) (past : Past) (entry : Entry) → left.version ≡ right.version → IsLink left right l (Took k es ds ∷ past) → IsNext left.version l (Took k es ds ∷ past) entry
    → ack_cause (Took k es ds ∷ past) entry ≡ None
right_names left right l k es ds past entry same link next =
    none_above (last_sent past) (named_by entry (high_of (Took k es ds ∷ past)))
    (names_next left.version right left (sym same) refl l (left_run left right l (Took k es ds ∷ past) link) k es ds past entry (right_run left right l (Took k es ds ∷ past) link)
    (turned left.version l (Took k es ds ∷ past) (both left.version left right refl (sym same) l (Took k es ds ∷ past) link)) next)

-- ---- the laws

-- numbers are read right one way
pub reads_right : (v : Version) (end : End) (from to : Past) → IsRun end from → Both v from to → ReadsRight from to
reads_right v end from to run b = record {
  packet = λ k c. reads_packet v end from to run b.out k c;
  taken = b.out.sent;
  moved = b.out.arrived;
  received = λ ch n h. (let w : (1 ≤ n) × (n ≤ made_count from ch) = b.out.within ch n h in (w.0, w.1, b.out.same ch n h));
}
