-- A server hears whatever a packet of a client says that follows it: calls of actors that it opened.
use Rattle.std.proofs.Common.{◌≡◌, inl, inr, ℕ, ◌<◌, ◌≤◌, ◌==◌, ◌&&◌, List, [], ◌∷◌, ◌++◌, map, reverse, Bool, true, false, cond, length, refl, sym, ap, ◌∙◌, subst, append_assoc, Option, Some, None, slice_get, unwrap_or}
use Rattle.std.specs.List.{AllByRecursion, filter_map, cons_option}
use Rattle.std.proofs.lemmas.Bool.{false≢true, cases_eq, and_right}
use Rattle.protocol_model.specs.declared.Cause.{Cause}
use Rattle.protocol_model.specs.declared.Cause.TheVariants.{BadChannel}
use Rattle.protocol_model.specs.Packet.{Bunch}
use Rattle.protocol_model.specs.Payload.{Message, Opens, Closes, Updates, Calls, Gone, parts_of, message_bits}
use Rattle.protocol_model.specs.Side.{Side, AtServer, AtClient}
use Rattle.protocol_model.specs.Sight.{Seen}
use Rattle.protocol_model.specs.Value.{Class, Call, Arg}
use Rattle.table_model.specs.Facts.{IsTable}
use Rattle.table_model.specs.Rules.{Entry, segments_of}
use Rattle.connection_model.specs.Feed.{End, Past, Deed, Ticked, Made, Waits, Sent, Took, Ended, Told, Acked, Heard, Delivered, Item, Owed, Carries, Loose, has_ended, sight_of}
use Rattle.connection_model.specs.Feed as Feed
use Rattle.connection_model.specs.Fates.{top_of}
use Rattle.connection_model.specs.Bunches.{made_bunch, is_opening, is_sleeping}
use Rattle.connection_model.specs.CallAnswers.{call_of, call_channel, fitting_call, waits_in}
use Rattle.connection_model.specs.Copies.{copy_class, copy_channel}
use Rattle.connection_model.specs.Items.{loose_bunch, made_as}
use Rattle.connection_model.specs.State.{Mark, is_mark, is_asleep, state_of, state_at, last_mark, was_opened}
use Rattle.connection_model.specs.Verdict.{is_misplaced, lacks_copy, delivery_of, bunches_result, bunch_heard, entry_result, ack_cause}
use Rattle.connection_model.specs.Windows.{Received, received_on, applied_of, kept_of, wholes_from, wholes_of}
use Rattle.connection_laws.specs.Run.{Move, Ticks, Makes, Defers, Sends, Takes, Hears, Hands, Ends, after_move, May, MayMake, MaySend, HasLoosePlace, IsRun}
use Rattle.connection_laws.specs.Deeds.{EachDeed}
use Rattle.connection_laws.specs.Delivered.{Numbered, messages_on, payload_of}
use Rattle.connection_laws.specs.InTurn.{user_of, user_said}
use Rattle.connection_laws.specs.Link.{Said, SaysHead, SaysItem, entry_said, said_by, IsLink}
use Rattle.connection_laws.specs.Link.IsLink.{left_does}
use Rattle.connection_laws.proofs.LinkLaws.{applies_back}
use Rattle.connection_laws.proofs.Deeds.{deeds_fit, each_at}
use Rattle.connection_laws.proofs.HandingOn.{entry_loose}
use Rattle.connection_laws.proofs.InTurn.{OpenMark, held_open}
use Rattle.connection_laws.proofs.Items.{all_weaker, all_reverse}
use Rattle.connection_laws.proofs.LinkedEnds.{left_names, right_run}
use Rattle.connection_laws.proofs.Moves.{making_keeps, told_keeps, handed_keeps}
use Rattle.connection_laws.proofs.PacketsSay.{IsIn, in_middle, all_at, carried_facts}
use Rattle.payload_laws.specs.Passing.{is_gone, is_reliable, CallPasses, Passes}
use Rattle.payload_laws.proofs.First.{made_back, loose_back}
use Rattle.payload_laws.proofs.HeaderRules.{server_placed, loose_placed}
use Rattle.payload_laws.proofs.OthersPassing.{call_passes}
use Rattle.headline_laws.specs.Agree.{user_at}
use Rattle.headline_laws.specs.Fits.{PastFits}
use Rattle.headline_laws.specs.Follows.{HandsOnAll, HandsOnWhole, Follows}
use Rattle.headline_laws.specs.Sights.{sights_of}
use Rattle.headline_laws.specs.Tells.{SaysCall}
use Rattle.headline_laws.specs.Whole.{MadeAt}
use Rattle.headline_laws.proofs.BunchHandsOn.{Steps, CarriedHeard}
use Rattle.headline_laws.proofs.CarriedBunches.{dir_back, hears_carried, whole_after, whole_else}
use Rattle.headline_laws.proofs.ReceivedFirst.{mark_at}
use Rattle.headline_laws.proofs.PastGrows.{SaidAt, said_at}
use Rattle.headline_laws.proofs.HandedOn.{hands_one, done_here, done_else, handed_elsewhere}
use Rattle.headline_laws.proofs.LooseMessages.{loose_handed, fits_back, waited_short}
use Rattle.headline_laws.proofs.PlaceByNumber.{place_at}
use Rattle.headline_laws.proofs.MarksInOrder.{asleep_sleeps}
use Rattle.headline_laws.proofs.NextPasses.{each_made, all_reliable, IsReliable, ServerFacts, Comes, spawned_actor}
use Rattle.headline_laws.proofs.Placed.{Rule, rules}
use Rattle.headline_laws.proofs.ServerSays.{known_limits, opened_is}
use Rattle.headline_laws.proofs.Ticks.{meant}
use Rattle.headline_laws.proofs.ClientHears.{loose_said, loosely}
use Rattle.headline_laws.proofs.NextInTurn.{user_done}
use Rattle.protocol_model.specs.Search.{newest_of}
use Rattle.std.specs.Bool.{then_some}
use Rattle.connection_laws.proofs.ActorMarks.{opened_is_open}
use Rattle.connection_laws.proofs.StoriesTalk.{all_from}
use Rattle.headline_laws.proofs.Sights.{SeesNothing}

-- ---- what a client says

-- a call of an actor that the server opened, by its class
abbrev pub CallKnown : List Entry → (classes : ℕ → Class) → (server : Past) → Message → Type 0
CallKnown entries classes l (Calls a n call args) = SaysCall entries classes AtClient a n call args × (was_opened l a ≡ true)
CallKnown entries classes l (Opens exports a class values) = ⊥
CallKnown entries classes l (Closes a sleeps) = ⊥
CallKnown entries classes l (Updates a class values) = ⊥
CallKnown entries classes l (Gone a) = ⊥

-- an item of a client is a call of an actor that the server opened
abbrev pub ClientItem : List Entry → (classes : ℕ → Class) → (server : Past) → Item → Type 0
ClientItem entries classes l (Owed n) = Unit {0}
ClientItem entries classes l (Carries c n b) = Unit {0}
ClientItem entries classes l (Loose m b) = CallKnown entries classes l m × ((c : ℕ) × ((c == 0) ≡ false) × (b ≡ loose_bunch c m))

-- so is each call that a deed made, left waiting or sent
abbrev pub ClientDeed : List Entry → (classes : ℕ → Class) → (server : Past) → Past → Deed → Type 0
ClientDeed entries classes l past (Ticked t s) = Unit {0}
ClientDeed entries classes l past (Made ch n m i) = ((ch == 0) ≡ false) × CallKnown entries classes l m
ClientDeed entries classes l past (Waits m) = CallKnown entries classes l m
ClientDeed entries classes l past (Sent n t items) = AllByRecursion (ClientItem entries classes l) items
ClientDeed entries classes l past (Took n es ds) = Unit {0}
ClientDeed entries classes l past (Ended g) = Unit {0}

-- a client makes, leaves waiting and sends such calls alone
abbrev pub ClientSays : List Entry → (classes : ℕ → Class) → (server client : Past) → Type 0
ClientSays entries classes l r = EachDeed (ClientDeed entries classes l) r

-- ---- the server goes on

-- a known call stays so
known_later : (entries : List Entry) (classes : ℕ → Class) (l later : Past) → ((a : ℕ) → was_opened l a ≡ true → was_opened later a ≡ true) → (m : Message) → CallKnown entries classes l m → CallKnown entries classes later m
known_later entries classes l later o (Calls a n call args) h = (h.0, o a h.1)
known_later entries classes l later o (Opens exports a class values) h = h
known_later entries classes l later o (Closes a sleeps) h = h
known_later entries classes l later o (Updates a class values) h = h
known_later entries classes l later o (Gone a) h = h

-- so does an item
item_later : (entries : List Entry) (classes : ℕ → Class) (l later : Past) → ((a : ℕ) → was_opened l a ≡ true → was_opened later a ≡ true) → (item : Item) → ClientItem entries classes l item → ClientItem entries classes later item
item_later entries classes l later o (Owed n) h = h
item_later entries classes l later o (Carries c n b) h = h
item_later entries classes l later o (Loose m b) h = (known_later entries classes l later o m h.0, h.1)

-- it stays so while the server goes on
pub says_later : (entries : List Entry) (classes : ℕ → Class) (l later : Past) → ((a : ℕ) → was_opened l a ≡ true → was_opened later a ≡ true) → (r : Past) → ClientSays entries classes l r → ClientSays entries classes later r
says_later entries classes l later o [] h = tt
says_later entries classes l later o (Ticked t s ∷ r) h = (tt, says_later entries classes l later o r h.1)
says_later entries classes l later o (Made c n m i ∷ r) h = ((h.0.0, known_later entries classes l later o m h.0.1), says_later entries classes l later o r h.1)
says_later entries classes l later o (Waits m ∷ r) h = (known_later entries classes l later o m h.0, says_later entries classes l later o r h.1)
says_later entries classes l later o (Sent n t items ∷ r) h = (all_weaker (ClientItem entries classes l) (ClientItem entries classes later) (item_later entries classes l later o) items h.0, says_later entries classes l later o r h.1)
says_later entries classes l later o (Took n es ds ∷ r) h = (tt, says_later entries classes l later o r h.1)
says_later entries classes l later o (Ended g ∷ r) h = (tt, says_later entries classes l later o r h.1)

-- ---- the client goes on

-- channel 0 has no user
user_zero : (ms : List Numbered) → AllByRecursion (λ (x : Numbered). is_gone x.1 ≡ true) ms → user_of ms ≡ None
user_zero [] h = refl
user_zero (x ∷ ms) h = by x.1 refl h.0 (user_zero ms h.1)
  where
    by : (m : Message) → x.1 ≡ m → is_gone x.1 ≡ true → user_of ms ≡ None → user_of (x ∷ ms) ≡ None
    by (Gone a) e g u = ap (λ (o : Option (Option ℕ)). (let y : Option ℕ = elim o [ Some user ↦ user | None ↦ user_of ms ] in y)) (ap user_said e) ∙ u
    by (Opens exports a class values) e g u = absurd (false≢true (sym (ap is_gone e) ∙ g))
    by (Closes a sleeps) e g u = absurd (false≢true (sym (ap is_gone e) ∙ g))
    by (Updates a class values) e g u = absurd (false≢true (sym (ap is_gone e) ∙ g))
    by (Calls a n call args) e g u = absurd (false≢true (sym (ap is_gone e) ∙ g))

-- a call that waited is known
waited_known : (entries : List Entry) (classes : ℕ → Class) (l r : Past) (m : Message) → ClientSays entries classes l r → (newer older : List Message) → filter_map waits_in r ≡ newer ++ m ∷ older → CallKnown entries classes l m
waited_known entries classes l r m h newer older e = at newer (subst (AllByRecursion (CallKnown entries classes l)) e (all r h))
  where
    at : (newer : List Message) → AllByRecursion (CallKnown entries classes l) (newer ++ m ∷ older) → CallKnown entries classes l m
    at [] h = h.0
    at (x ∷ newer) h = at newer h.1

    all : (r : Past) → ClientSays entries classes l r → AllByRecursion (CallKnown entries classes l) (filter_map waits_in r)
    all [] h = tt
    all (Ticked n s ∷ r) h = all r h.1
    all (Made c n w i ∷ r) h = all r h.1
    all (Waits w ∷ r) h = (h.0, all r h.1)
    all (Sent n s items ∷ r) h = all r h.1
    all (Took n es ds ∷ r) h = all r h.1
    all (Ended g ∷ r) h = all r h.1

module _ (entries : List Entry) (classes : ℕ → Class) (left right : End) (l : Past) (facts : ServerFacts entries classes left l) (client : right.side ≡ AtClient) where
  -- the channel of a copy is above 0
  copy_above : (r : Past) → Follows (segments_of entries) classes l r → (a ch : ℕ) → copy_channel r a ≡ Some ch → (ch == 0) ≡ false
  copy_above r f a ch c = by (ch == 0) refl
    where
      by : (b : Bool) → (ch == 0) ≡ b → (ch == 0) ≡ false
      by false e = e
      by true e =
          let gone : AllByRecursion (λ (x : Numbered). is_gone x.1 ≡ true) (f.hands ch).done =
          all_from (λ (x : Numbered). is_gone x.1 ≡ true) (f.hands ch).done (λ x before after q.
          sym (each_made Rule l ch x (rules left l facts.side facts.run) (place_at l ch before x (after ++ (f.hands ch).later) ((f.hands ch).split ∙ ap (λ (z : List Numbered). z ++ (f.hands ch).later) q ∙ append_assoc before (x ∷ after) (f.hands ch).later))).1 ∙ e) in
          let none : user_at r ch ≡ None = user_done r ch (f.hands ch).done (f.hands ch).same ∙ user_zero (reverse (f.hands ch).done) (all_reverse (λ (x : Numbered). is_gone x.1 ≡ true) (f.hands ch).done gone) in
          absurd (let no : (let o : Option ℕ = None in o) ≡ Some a = sym none ∙ f.agree.held ch a c in cc)

  -- a call by the class of a copy
  copy_says : (r : Past) → Follows (segments_of entries) classes l r → (a n : ℕ) (call : Call) (args : List Arg) → call_of AtClient r a n args ≡ Some call → CallKnown entries classes l (Calls a n call args)
  copy_says r f a n call args e =
      let m = meant AtClient n args (copy_class r a) call e in
      let k = f.known a m.0 m.1 in
      let o = opened_is entries classes AtServer l a facts.tells k.1 in
      (record { known = o.1; fits = ap (fitting_call AtClient n args) (sym k.0) ∙ m.2 }, k.1)

  -- it opens nothing
  unopened : (r : Past) → ClientSays entries classes l r → (a ch : ℕ) → OpenMark r a ch → ⊥
  unopened r h a ch o =
      let k = (each_made (ClientDeed entries classes l) r o.mark.channel (o.mark.number, o.mark.message) h (mark_at a r o.mark o.last)).1 in
      by o.mark.message k.1 o.opens
    where
      by : (m : Message) → CallKnown entries classes l m → is_opening m ≡ true → ⊥
      by (Calls x n call args) k e = false≢true e
      by (Opens exports x class values) k e = k
      by (Closes x sleeps) k e = k
      by (Updates x class values) k e = k
      by (Gone x) k e = k

  unslept : (r : Past) → ClientSays entries classes l r → (a : ℕ) → is_asleep (state_of r a) ≡ true → ⊥
  unslept r h a e = by (last_mark r a) refl e
    where
      never : (m : Message) → CallKnown entries classes l m → is_sleeping m ≡ true → ⊥
      never (Calls x n call args) k e = false≢true e
      never (Opens exports x class values) k e = k
      never (Closes x sleeps) k e = k
      never (Updates x class values) k e = k
      never (Gone x) k e = k

      by : (o : Option Mark) → last_mark r a ≡ o → is_asleep (state_at r (last_mark r a)) ≡ true → ⊥
      by None q e = false≢true (sym (ap (λ (o : Option Mark). is_asleep (state_at r o)) q) ∙ e)
      by (Some mark) q e =
          never mark.message (each_made (ClientDeed entries classes l) r mark.channel (mark.number, mark.message) h (mark_at a r mark q)).1.1
          (asleep_sleeps r mark mark.message (sym (ap (λ (o : Option Mark). is_asleep (state_at r o)) q) ∙ e))

  unseen : (r : Past) → SeesNothing (sights_of r) → (i : ℕ) (seen : Seen) → slice_get (sight_of r) i ≡ Some seen → ⊥
  unseen r blind i seen e = by (sights_of r) blind e
    where
      by : (ss : List (List Seen)) → SeesNothing ss → slice_get (unwrap_or (slice_get ss 0) []) i ≡ Some seen → ⊥
      by [] b e = (let no : (let o : Option Seen = None in o) ≡ Some seen = e in cc)
      by (s ∷ ss) b e = (let no : (let o : Option Seen = None in o) ≡ Some seen = sym (ap (λ (x : List Seen). slice_get x i) b.0) ∙ e in cc)

  made_known : (r : Past) (ch : ℕ) (m : Message) → SeesNothing (sights_of r) → Follows (segments_of entries) classes l r → ClientSays entries classes l r → MayMake right r ch m → ((ch == 0) ≡ false) × CallKnown entries classes l m
  made_known r ch (Opens exports a class values) blind f h may = absurd (unseen r blind may.place.4.shown.0 may.place.4.seen may.place.4.shown.1)
  made_known r ch (Closes a sleeps) blind f h may = absurd (unopened r h a ch (held_open r a ch may.place.0 may.place.1))
  made_known r ch (Updates a class values) blind f h may = absurd may.place
  made_known r ch (Calls a n call args) blind f h may = (
    copy_above r f a ch (subst (λ (x : Side). call_channel x r a ≡ Some ch) client may.place.0),
    copy_says r f a n call args (subst (λ (x : Side). call_of x r a n args ≡ Some call) client may.place.1),
  )
  made_known r ch (Gone a) blind f h may = absurd (unslept r h a may.place.1)

  waits_known : (r : Past) (m : Message) → Follows (segments_of entries) classes l r → May right r (Defers m) → CallKnown entries classes l m
  waits_known r (Opens exports a class values) f may = absurd may
  waits_known r (Closes a sleeps) f may = absurd may
  waits_known r (Updates a class values) f may = absurd may
  waits_known r (Calls a n call args) f may = copy_says r f a n call args (subst (λ (x : Side). call_of x r a n args ≡ Some call) client may.1)
  waits_known r (Gone a) f may = absurd may

  loose_known : (r : Past) (ch : ℕ) (m : Message) → Follows (segments_of entries) classes l r → ClientSays entries classes l r → HasLoosePlace right r ch m → CallKnown entries classes l m × ((ch == 0) ≡ false)
  loose_known r ch (Opens exports a class values) f h p = absurd p
  loose_known r ch (Closes a sleeps) f h p = absurd p
  loose_known r ch (Gone a) f h p = absurd p
  loose_known r ch (Updates a class values) f h p = absurd (unopened r h a ch (held_open r a ch p.1 (opened_is_open (state_of r a) p.0)))
  loose_known r ch (Calls a n call args) f h p = (
    waited_known entries classes l r (Calls a n call args) h p.2.0 p.2.1 p.2.2,
    copy_above r f a ch (subst (λ (x : Side). call_channel x r a ≡ Some ch) client p.1),
  )

  items_known : (r : Past) (items : List Item) → Follows (segments_of entries) classes l r → ClientSays entries classes l r → AllByRecursion (MaySend right r) items → AllByRecursion (ClientItem entries classes l) items
  items_known r [] f h m = tt
  items_known r (Owed n ∷ items) f h m = (tt, items_known r items f h m.1)
  items_known r (Carries c n b ∷ items) f h m = (tt, items_known r items f h m.1)
  items_known r (Loose w b ∷ items) f h m = (let k = loose_known r m.0.0 w f h m.0.2 in ((k.0, (m.0.0, k.1, m.0.1)), items_known r items f h m.1))

  pub says_move : (r : Past) (move : Move) → SeesNothing (sights_of r) → Follows (segments_of entries) classes l r → ClientSays entries classes l r → May right r move → ClientSays entries classes l (after_move r move)
  says_move r (Ticks sight) blind f h may = (tt, h)
  says_move r (Makes c m) blind f h may = making_keeps (λ i p. ClientSays entries classes l p) r c m h (λ i p lt q. (made_known r c m blind f h may, q))
  says_move r (Defers m) blind f h may = (waits_known r m f may, h)
  says_move r (Sends items) blind f h may = (items_known r items f h may.each, h)
  says_move r (Takes n) blind f h may = (tt, h)
  says_move r (Hears entry) blind f h may = told_keeps (ClientSays entries classes l) entry r h (λ n es ds before q. (tt, q.1))
  says_move r (Hands d) blind f h may = handed_keeps (ClientSays entries classes l) d r h (λ n es ds before q. (tt, q.1))
  says_move r (Ends g) blind f h may = (tt, h)

-- ---- the server hears

-- of a client's messages the first were handed on, all that were received whole
pub record Served (l r : Past) : Type 0 where
  pub hands : HandsOnAll r l
  pub whole : HandsOnWhole r l hands

-- a call that the server knows passes
call_through : (entries : List Entry) (is : IsTable entries) (classes : ℕ → Class) (left : End) (l : Past) (ch : ℕ) (m : Message) → left.side ≡ AtServer → ServerFacts entries classes left l → CallKnown entries classes l m → Passes left l ch m × (is_gone m ≡ false) × (is_mark m ≡ false)
call_through entries is classes left l ch (Calls a n call args) side facts h = (
  subst (λ (x : Side). CallPasses x l a n call args) (sym side)
      (call_passes AtClient l a n call args (classes a) (known_limits entries is (classes a) h.0.known.stands) (spawned_actor a h.0.known.spawned) h.0.fits (opened_is entries classes AtServer l a facts.tells h.1).0),
  refl,
  refl,
)
call_through entries is classes left l ch (Opens exports a class values) side facts h = absurd h
call_through entries is classes left l ch (Closes a sleeps) side facts h = absurd h
call_through entries is classes left l ch (Updates a class values) side facts h = absurd h
call_through entries is classes left l ch (Gone a) side facts h = absurd h

-- a call is in its place at a server
call_placed : (entries : List Entry) (classes : ℕ → Class) (l : Past) (ch n : ℕ) (m : Message) (i : ℕ) → (ch == 0) ≡ false → CallKnown entries classes l m → is_misplaced AtServer (made_bunch ch n m i) ≡ false
call_placed entries classes l ch n (Calls a x call args) i above h = server_placed ch n a x call args i above
call_placed entries classes l ch n (Opens exports a class values) i above h = absurd h
call_placed entries classes l ch n (Closes a sleeps) i above h = absurd h
call_placed entries classes l ch n (Updates a class values) i above h = absurd h
call_placed entries classes l ch n (Gone a) i above h = absurd h

-- so is a bunch that was made
found_placed : (entries : List Entry) (classes : ℕ → Class) (l r : Past) (ch n : ℕ) (b : Bunch) → ClientSays entries classes l r → newest_of (made_as ch n) r ≡ Some b → is_misplaced AtServer b ≡ false
found_placed entries classes l [] ch n b f e = absurd (let no : (let o : Option Bunch = None in o) ≡ Some b = e in cc)
found_placed entries classes l (Made c k m i ∷ past) ch n b f e = by ((c == ch) && (k == n)) e (λ q. found_placed entries classes l past ch n b f.1 q)
  where
    same : (x y : Bunch) → (let o : Option Bunch = Some x in o) ≡ Some y → x ≡ y
    same x y q = cc

    by : (t : Bool) → slice_get (cons_option (then_some t (made_bunch c k m i)) (filter_map (made_as ch n) past)) 0 ≡ Some b
        → (newest_of (made_as ch n) past ≡ Some b → is_misplaced AtServer b ≡ false) → is_misplaced AtServer b ≡ false
    by true q ih = subst (λ (x : Bunch). is_misplaced AtServer x ≡ false) (same (made_bunch c k m i) b q) (call_placed entries classes l c k m i f.0.0 f.0.1)
    by false q ih = ih q
found_placed entries classes l (Ticked t s ∷ past) ch n b f e = found_placed entries classes l past ch n b f.1 e
found_placed entries classes l (Waits m ∷ past) ch n b f e = found_placed entries classes l past ch n b f.1 e
found_placed entries classes l (Sent k t items ∷ past) ch n b f e = found_placed entries classes l past ch n b f.1 e
found_placed entries classes l (Took k es ds ∷ past) ch n b f e = found_placed entries classes l past ch n b f.1 e
found_placed entries classes l (Ended g ∷ past) ch n b f e = found_placed entries classes l past ch n b f.1 e

module _ (entries : List Entry) (is : IsTable entries) (classes : ℕ → Class) (left right : End) (same : left.version ≡ right.version) (server : left.side ≡ AtServer)
    (r : Past) (fits : PastFits right r) (few : (ch : ℕ) → AllByRecursion (λ (made : Numbered). parts_of made.1 ≤ 10) (messages_on r ch))
    (k : ℕ) (past : Past) (alive : has_ended past ≡ false) (fresh : top_of past < k)
    (facts : (es : List Feed.Entry) (ds : List Delivered) → IsLink left right (Took k es ds ∷ past) r → ServerFacts entries classes left (Took k es ds ∷ past)) (says : (es : List Feed.Entry) (ds : List Delivered) → ClientSays entries classes (Took k es ds ∷ past) r) where
  -- what is heard of one thing that a packet says
  pub record ServedOne (es : List Feed.Entry) (ds : List Delivered) (s : Said) : Type 0 where
    pub news : List Delivered
    pub ok : entry_result left (Took k es ds ∷ past) (entry_said s) ≡ record { past = Took k es news ∷ past; cause = None }
    pub link : IsLink left right (Took k (entry_said s ∷ es) news ∷ past) r
    pub served : Served (Took k (entry_said s ∷ es) news ∷ past) r
    pub loose : loosely news ≡ cons_option (loose_said s) (loosely ds)

  record Mid (es : List Feed.Entry) (ch : ℕ) (base : ℕ → List Numbered) (from : List Delivered) (ds : List Delivered) : Type 0 where
    link : IsLink left right (Took k es ds ∷ past) r
    hands : HandsOnAll r (Took k es ds ∷ past)
    others : (c : ℕ) → (ch ≡ c → ⊥) → (hands c).done ≡ base c
    loose : loosely ds ≡ loosely from

  abbrev mid_done : (es : List Feed.Entry) (ch : ℕ) (base : ℕ → List Numbered) (from : List Delivered) (ds : List Delivered) → Mid es ch base from ds → List Numbered
  mid_done es ch base from ds m = (m.hands ch).done

  mid_steps : (es : List Feed.Entry) (ch : ℕ) (base : ℕ → List Numbered) (from : List Delivered) (ds : List Delivered) (m : Mid es ch base from ds) (made : Numbered) (later : List Numbered) → messages_on r ch ≡ (m.hands ch).done ++ made ∷ later
      → Steps left k es past ch (messages_on r ch) (few ch) (Mid es ch base from) (mid_done es ch base from) ds m made
  mid_steps es ch base from ds m made later split =
      let at : MadeAt r ch made = place_at r ch (m.hands ch).done made later split in
      let known = (each_made (ClientDeed entries classes (Took k es ds ∷ past)) r ch made (says es ds) at).1 in
      let through = call_through entries is classes left (Took k es ds ∷ past) ch made.1 server (facts es ds m.link) known.1 in
      let d : Delivered = delivery_of left (Took k es ds ∷ past) (made_bunch ch made.0 made.1 0) made.1 in
      let next : Comes r (Took k es ds ∷ past) m.hands ch made = record { later = later; split = split } in
      record {
        lacks = ap (λ (x : Side). lacks_copy x (Took k es ds ∷ past) [] (made_bunch ch made.0 made.1 0)) server;
        read = made_back left (Took k es ds ∷ past) ch made.0 made.1 (each_made IsReliable r ch made (all_reliable right r (right_run left right (Took k es ds ∷ past) r m.link)) at).1 (known.0 ∙ sym through.1) through.0;
        next = record {
          link = left_does (Hands d) m.link alive tt tt;
          hands = hands_one r (Took k es ds ∷ past) (Took k es (d ∷ ds) ∷ past) d refl m.hands ch made next refl refl refl;
          others = λ c ne. done_else r (Took k es ds ∷ past) (Took k es (d ∷ ds) ∷ past) d refl m.hands ch made next refl refl refl c ne ∙ m.others c ne;
          loose = m.loose;
        };
        more = done_here r (Took k es ds ∷ past) (Took k es (d ∷ ds) ∷ past) d refl m.hands ch made next refl refl refl;
      }

  module _ (es : List Feed.Entry) (s : Said) (before after : List Said) (said : said_by left.version r k ≡ before ++ s ∷ after) (told : es ≡ reverse (map entry_said before)) where
    among : IsIn s (said_by left.version r k)
    among = subst (IsIn s) (sym said) (in_middle s before after)

    names : (ds : List Delivered) → IsLink left right (Took k es ds ∷ past) r → ack_cause (Took k es ds ∷ past) (entry_said s) ≡ None
    names ds link = left_names left right k es ds past r (entry_said s) same link (before, s, after, said, told, refl)

    hears : (ds : List Delivered) → IsLink left right (Took k es ds ∷ past) r → IsLink left right (Took k (entry_said s ∷ es) ds ∷ past) r
    hears ds link = left_does (Hears (entry_said s)) link alive (names ds link) (before, s, after, said, told, refl)

    abbrev hands_told : (ds : List Delivered) → HandsOnAll r (Took k es ds ∷ past) → HandsOnAll r (Took k (entry_said s ∷ es) ds ∷ past)
    hands_told ds hands c = record { done = (hands c).done; later = (hands c).later; split = (hands c).split; same = (hands c).same }

    told_served : (ds : List Delivered) (hands : HandsOnAll r (Took k es ds ∷ past)) → ((c : ℕ) → wholes_of (Took k (entry_said s ∷ es) ds ∷ past) c ≡ map (payload_of c) (hands c).done) → Served (Took k (entry_said s ∷ es) ds ∷ past) r
    told_served ds hands whole = record { hands = hands_told ds hands; whole = whole }

  told_one : (es : List Feed.Entry) (ds : List Delivered) (s : Said) (before after : List Said) (said : said_by left.version r k ≡ before ++ s ∷ after) (told : es ≡ reverse (map entry_said before)) → IsLink left right (Took k es ds ∷ past) r → Served (Took k es ds ∷ past) r
      → loose_said s ≡ None → entry_result left (Took k es ds ∷ past) (entry_said s) ≡ record { past = Took k es ds ∷ past; cause = ack_cause (Took k es ds ∷ past) (entry_said s) }
      → ((c : ℕ) → wholes_of (Took k (entry_said s ∷ es) ds ∷ past) c ≡ wholes_of (Took k es ds ∷ past) c) → ServedOne es ds s
  told_one es ds s before after said told link f q e w = record {
    news = ds;
    ok = e ∙ ap (λ (o : Option Cause). record { past = Took k es ds ∷ past; cause = o }) (names es s before after said told ds link);
    link = hears es s before after said told ds link;
    served = told_served es s before after said told ds f.hands (λ c. w c ∙ f.whole c);
    loose = ap (λ (o : Option Message). cons_option o (loosely ds)) (sym q);
  }

  carries_one : (es : List Feed.Entry) (ds : List Delivered) (ch n : ℕ) (b : Bunch) (before after : List Said) → said_by left.version r k ≡ before ++ SaysItem (Carries ch n b) ∷ after → es ≡ reverse (map entry_said before)
      → IsLink left right (Took k es ds ∷ past) r → Served (Took k es ds ∷ past) r → ServedOne es ds (SaysItem (Carries ch n b))
  carries_one es ds ch n b before after said told link f =
      let here : IsIn (SaysItem (Carries ch n b)) (said_by left.version r k) = among es (SaysItem (Carries ch n b)) before after said told in
      let start : Mid es ch (λ c. (f.hands c).done) ds ds = record { link = link; hands = f.hands; others = λ c ne. refl; loose = refl } in
      let run : IsRun right r = right_run left right (Took k es ds ∷ past) r link in
      let placed : is_misplaced left.side b ≡ false =
      ap (λ (x : Side). is_misplaced x b) server ∙ found_placed entries classes (Took k es ds ∷ past) r ch n b (says es ds) (carried_facts right left.version r (deeds_fit right r run) ch n k b here).made in
      let dir = dir_back left right (Took k es ds ∷ past) r same link in
      let after_told = applies_back left right (Took k (Heard b ∷ es) ds ∷ past) r same (hears es (SaysItem (Carries ch n b)) before after said told ds link) in
      let c : CarriedHeard left k es past ch (messages_on r ch) (few ch) (Mid es ch (λ c. (f.hands c).done) ds) (mid_done es ch (λ c. (f.hands c).done) ds) (mid_steps es ch (λ c. (f.hands c).done) ds) ds b =
      hears_carried left.version right left r k es past fresh ch n b here (few ch) placed (Mid es ch (λ c. (f.hands c).done) ds) (mid_done es ch (λ c. (f.hands c).done) ds) (mid_steps es ch (λ c. (f.hands c).done) ds) ds start dir after_told (f.whole ch)
      ((f.hands ch).later, (f.hands ch).split) in
      record {
        news = c.news;
        ok = c.ok;
        link = hears es (SaysItem (Carries ch n b)) before after said told c.news c.state.link;
        served = told_served es (SaysItem (Carries ch n b)) before after said told c.news c.state.hands (λ x. elim (cases_eq ch x) [
          | inl e ↦ subst (λ (y : ℕ). wholes_of (Took k (Heard b ∷ es) c.news ∷ past) y ≡ map (payload_of y) (c.state.hands y).done) e
              (whole_after left.version right left r k es past fresh ch n b here (few ch) placed (Mid es ch (λ c. (f.hands c).done) ds) (mid_done es ch (λ c. (f.hands c).done) ds) (mid_steps es ch (λ c. (f.hands c).done) ds) ds start dir after_told (f.whole ch)
              ((f.hands ch).later, (f.hands ch).split) c.news c.state c.whole)
          | inr ne ↦ whole_else left.version right left r k es past fresh ch n b here (few ch) placed (Mid es ch (λ c. (f.hands c).done) ds) (mid_done es ch (λ c. (f.hands c).done) ds) (mid_steps es ch (λ c. (f.hands c).done) ds) ds start dir after_told (f.whole ch)
              ((f.hands ch).later, (f.hands ch).split) c.news x ne ∙ f.whole x ∙ ap (map (payload_of x)) (sym (c.state.others x ne))
        ]);
        loose = c.state.loose;
      }

  loose_one : (es : List Feed.Entry) (ds : List Delivered) (m : Message) (b : Bunch) (before after : List Said) → said_by left.version r k ≡ before ++ SaysItem (Loose m b) ∷ after → es ≡ reverse (map entry_said before)
      → IsLink left right (Took k es ds ∷ past) r → Served (Took k es ds ∷ past) r → ServedOne es ds (SaysItem (Loose m b))
  loose_one es ds m b before after said told link f =
      let at : SaidAt right r k (Loose m b) = said_at left.version right r (right_run left right (Took k es ds ∷ past) r link) k (Loose m b) (among es (SaysItem (Loose m b)) before after said told) in
      let known : ClientItem entries classes (Took k es ds ∷ past) (Loose m b) =
      all_at (ClientItem entries classes (Took k es ds ∷ past)) (Loose m b) at.items (each_at (ClientDeed entries classes (Took k es ds ∷ past)) at.later (Sent k at.t at.items) at.before (subst (EachDeed (ClientDeed entries classes (Took k es ds ∷ past))) at.is (says es ds))) at.among in
      let place = all_at (MaySend right at.before) (Loose m b) at.items at.at.may.each at.among in
      let older : PastFits right at.before = (fits_back right at.later (Sent k at.t at.items ∷ at.before) (subst (PastFits right) at.is fits)).1 in
      let ch : ℕ = known.1.0 in
      let through = call_through entries is classes left (Took k es ds ∷ past) known.1.0 m server (facts es ds link) known.0 in
      let d : Delivered = delivery_of left (Took k es ds ∷ past) (loose_bunch known.1.0 m) m in
      let kept : List Bunch = kept_of (applied_of (received_on (Took k es ds ∷ past) known.1.0)) in
      let lacks : lacks_copy left.side (Took k es ds ∷ past) kept (loose_bunch known.1.0 m) ≡ false = ap (λ (x : Side). lacks_copy x (Took k es ds ∷ past) kept (loose_bunch known.1.0 m)) server in
      let placed : is_misplaced left.side (loose_bunch known.1.0 m) ≡ false = loose_placed left.side known.1.0 m known.1.1 in
      let s = loose_short m known.0 place.0 at.before place.2 older in
      let heard : bunch_heard left (Took k es ds ∷ past) (loose_bunch known.1.0 m) ≡ record { past = Took k es (d ∷ ds) ∷ past; cause = None } =
      ap (λ (t : Bool). cond t (record { past = Took k es ds ∷ past; cause = Some (BadChannel known.1.0) }) (bunches_result left (Took k es ds ∷ past) kept (loose_bunch known.1.0 m ∷ []))) placed
      ∙ loose_handed left (Took k es ds ∷ past) kept known.1.0 m lacks s.0 (loose_back left (Took k es ds ∷ past) known.1.0 m s.1 known.1.1 through.0) in
      let handed : IsLink left right (Took k es (d ∷ ds) ∷ past) r = left_does (Hands d) link alive tt tt in
      record {
        news = d ∷ ds;
        ok = ap (bunch_heard left (Took k es ds ∷ past)) known.1.2 ∙ heard;
        link = hears es (SaysItem (Loose m b)) before after said told (d ∷ ds) handed;
        served = told_served es (SaysItem (Loose m b)) before after said told (d ∷ ds)
            (λ c. record { done = (f.hands c).done; later = (f.hands c).later; split = (f.hands c).split; same = ap (map (λ (x : Delivered). x.message)) (handed_elsewhere (Took k es ds ∷ past) (Took k es (d ∷ ds) ∷ past) d refl c (and_right (d.channel == c) d.reliable refl)) ∙ (f.hands c).same })
            (λ c. ap (λ (got : List Received). wholes_from [] (applied_of got)) (entry_loose (received_on (Took k es ds ∷ past) c) c b (ap (λ (x : Bunch). x.reliable) known.1.2)) ∙ f.whole c);
        loose = refl;
      }
    where
      loose_short : (m : Message) → CallKnown entries classes (Took k es ds ∷ past) m → (c : ℕ) (s : Past) → HasLoosePlace right s c m → PastFits right s → (length (message_bits m) ≤ 7000) × (is_reliable m ≡ false)
      loose_short (Calls a n call args) h c s p older = (waited_short right s (Calls a n call args) older p.2.0 p.2.1 p.2.2, p.0)
      loose_short (Opens exports a class values) h c s p older = absurd h
      loose_short (Closes a sleeps) h c s p older = absurd h
      loose_short (Updates a class values) h c s p older = absurd h
      loose_short (Gone a) h c s p older = absurd h

  pub serves_one : (es : List Feed.Entry) (ds : List Delivered) (s : Said) (before after : List Said) → said_by left.version r k ≡ before ++ s ∷ after → es ≡ reverse (map entry_said before) → IsLink left right (Took k es ds ∷ past) r → Served (Took k es ds ∷ past) r → ServedOne es ds s
  serves_one es ds (SaysHead head) before after said told link f = told_one es ds (SaysHead head) before after said told link f refl refl (λ c. refl)
  serves_one es ds (SaysItem (Owed n)) before after said told link f = told_one es ds (SaysItem (Owed n)) before after said told link f refl refl (λ c. refl)
  serves_one es ds (SaysItem (Carries ch n b)) before after said told link f = carries_one es ds ch n b before after said told link f
  serves_one es ds (SaysItem (Loose m b)) before after said told link f = loose_one es ds m b before after said told link f
