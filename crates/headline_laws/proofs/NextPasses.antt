-- The next message of a channel goes through at a client that follows its server.
use Rattle.std.proofs.Common.{◌≡◌, inl, inr, ℕ, ◌+◌, ◌<◌, ◌≤◌, ◌==◌, ◌&&◌, List, [], ◌∷◌, ◌++◌, map, reverse, filter, Bool, true, false, not, refl, sym, ap, ◌∙◌, subst, arith, Option, Some, None, slice_get}
use Rattle.std.specs.Prelude.{is_some, is_none}
use Rattle.std.specs.List.{cons_option, list_any, AllByRecursion}
use Rattle.std.specs.Bool.{then_some}
use Rattle.std.proofs.lemmas.Bool.{false≢true, or_cases, eqb-true, and_parts, cond_both, eq-eqb}
use Rattle.protocol_model.specs.Side.{Side, AtServer, AtClient}
use Rattle.protocol_model.specs.Payload.{Message, Opens, Closes, Updates, Calls, Gone, actor_of}
use Rattle.protocol_model.specs.Value.{Table, Segment, Class, Pair, class_guid}
use Rattle.table_model.specs.Facts.{IsTable}
use Rattle.table_model.specs.Rules.{Entry, segments_of}
use Rattle.table_model.specs.Grammar.{table_of}
use Rattle.connection_model.specs.Feed.{End, Past, Deed, Ticked, Made, Waits, Sent, Took, Ended, Delivered, has_ended}
use Rattle.connection_model.specs.Bunches.{made_bunch, is_opening, is_closing, is_sleeping}
use Rattle.connection_model.specs.Copies.{delivered_of, copy_class, copy_channel, copy_on, has_copy}
use Rattle.connection_model.specs.Exports.{exports_segment}
use Rattle.connection_model.specs.Names.{name_known, names_of}
use Rattle.connection_model.specs.PayloadReading.{is_elsewhere, is_other_class}
use Rattle.connection_model.specs.State.{Mark, is_mark}
use Rattle.connection_model.specs.Verdict.{lacks_copy}
use Rattle.connection_laws.specs.Run.{Move, Ticks, Makes, Defers, Sends, Takes, Hears, Hands, Ends, after_move, May, MayMake, IsRun}
use Rattle.connection_laws.specs.Deeds.{EachDeed}
use Rattle.connection_laws.specs.Delivered.{on_index, Numbered, messages_on, handed_reliably}
use Rattle.connection_laws.specs.InTurn.{user_of, FitsUse}
use Rattle.connection_laws.proofs.Moves.{making_keeps, told_keeps, handed_keeps}
use Rattle.connection_laws.proofs.Deeds.{always}
use Rattle.connection_laws.proofs.Items.{all_reverse}
use Rattle.payload_laws.specs.Accepted.{StandsIn}
use Rattle.payload_laws.specs.Delivered.{ExportsStand, ExportsKnown}
use Rattle.payload_laws.specs.Learning.{StandAmong, Knows, KnowsAll, KnowsOthers}
use Rattle.payload_laws.specs.Limits.{IsActor}
use Rattle.payload_laws.specs.Passing.{is_gone, is_reliable, OpenPasses, CallPasses, Passes}
use Rattle.payload_laws.proofs.DeliveredNames.{names_among, names_hold}
use Rattle.payload_laws.proofs.Few.{names_few}
use Rattle.payload_laws.proofs.Learning.{known_is}
use Rattle.payload_laws.proofs.Naming.{stand_of, stand_class}
use Rattle.payload_laws.proofs.OpenPassing.{class_gives}
use Rattle.payload_laws.proofs.OthersPassing.{call_passes}
use Rattle.headline_laws.specs.Fits.{IsSpawned}
use Rattle.headline_laws.specs.Follows.{parts_in, HandsOn, HandsOnAll, IsDone, IsAhead, CopyAfter, CopyBy, MarksFollow, Follows}
use Rattle.headline_laws.specs.Marks.{marks_of, without_newest, MarkComes, MarksCome}
use Rattle.headline_laws.specs.Tells.{MessageTells, PastTells, ExportArrived, OpenExports, OpensExport, DeedTells}
use Rattle.headline_laws.specs.Turns.{ComesNext, FindsNoChannel}
use Rattle.headline_laws.specs.Whole.{MadeAt}
use Rattle.headline_laws.proofs.CopiesGoOn.{holder_is_user}
use Rattle.headline_laws.proofs.ReceivedFirst.{clear_at, parts_append}
use Rattle.headline_laws.proofs.PlaceByNumber.{cut, all_mid, all_suffix, at_place, place_at, number_is, marked}
use Rattle.headline_laws.proofs.Placed.{Rule, rules}
use Rattle.headline_laws.proofs.RoomForCopies.{room_for}
use Rattle.headline_laws.proofs.ServerSays.{known_limits}
use Rattle.headline_laws.proofs.NextInTurn.{next_has_copy, next_is_user}

-- ---- what holds of each deed that made a message

-- what holds of each deed holds of a message that was made
pub each_made : (P : Past → Deed → Type 0) (past : Past) (ch : ℕ) (made : Numbered) → EachDeed P past → MadeAt past ch made → (before : Past) × P before (Made ch made.0 made.1 0)
each_made P past ch made each at = in_it past at.newer each at.split
  where
    in_it : (past : Past) (newer : List Numbered) → EachDeed P past → on_index ch past ≡ newer ++ made ∷ at.older → (before : Past) × P before (Made ch made.0 made.1 0)
    in_it [] [] each e = absurd (let no : [] ≡ made ∷ at.older = e in cc)
    in_it [] (x ∷ newer) each e = absurd (let no : [] ≡ x ∷ (newer ++ made ∷ at.older) = e in cc)
    in_it (Ticked t s ∷ past) newer each e = in_it past newer each.1 e
    in_it (Waits m ∷ past) newer each e = in_it past newer each.1 e
    in_it (Sent n t items ∷ past) newer each e = in_it past newer each.1 e
    in_it (Took n es ds ∷ past) newer each e = in_it past newer each.1 e
    in_it (Ended g ∷ past) newer each e = in_it past newer each.1 e
    in_it (Made c n m i ∷ past) newer each e = by (c == ch && i == 0) refl newer e (λ ns q. in_it past ns each.1 q)
      where
        here : (x : Numbered) → x ≡ made → (c == ch && i == 0) ≡ true → x ≡ (n, m) → (before : Past) × P before (Made ch made.0 made.1 0)
        here x p t q =
            let both = and_parts (c == ch) (i == 0) t in
            let is : (n, m) ≡ made = sym q ∙ p in (
              past,
              subst (λ (y : Numbered). P past (Made ch y.0 y.1 0)) is
                  (subst (λ (k : ℕ). P past (Made k n m 0)) (eqb-true c ch both.0) (subst (λ (j : ℕ). P past (Made c n m j)) (eqb-true i 0 both.1) each.0)),
            )

        by : (b : Bool) → (c == ch && i == 0) ≡ b → (newer : List Numbered) → cons_option (then_some b (n, m)) (on_index ch past) ≡ newer ++ made ∷ at.older
            → ((ns : List Numbered) → on_index ch past ≡ ns ++ made ∷ at.older → (before : Past) × P before (Made ch made.0 made.1 0)) → (before : Past) × P before (Made ch made.0 made.1 0)
        by true t [] e ih = here made refl t (sym (head (n, m) made (on_index ch past) at.older e))
          where
            head : (x y : Numbered) (xs ys : List Numbered) → x ∷ xs ≡ y ∷ ys → x ≡ y
            head x y xs ys e = cc
        by true t (x ∷ newer) e ih = ih newer (tail (n, m) x (on_index ch past) (newer ++ made ∷ at.older) e)
          where
            tail : (x y : Numbered) (xs ys : List Numbered) → x ∷ xs ≡ y ∷ ys → xs ≡ ys
            tail x y xs ys e = cc
        by false t newer e ih = ih newer e

-- messages are made reliably, a server's on channel 0 where they are Gones
abbrev pub IsReliable : Past → Deed → Type 0
IsReliable past (Made ch n m i) = is_reliable m ≡ true
IsReliable past (Ticked t s) = Unit {0}
IsReliable past (Waits m) = Unit {0}
IsReliable past (Sent n t items) = Unit {0}
IsReliable past (Took n es ds) = Unit {0}
IsReliable past (Ended g) = Unit {0}

-- a message that may be made is reliable
reliable_made : (end : End) (past : Past) (ch : ℕ) (m : Message) → MayMake end past ch m → is_reliable m ≡ true
reliable_made end past ch (Opens exports a class values) may = refl
reliable_made end past ch (Closes a sleeps) may = refl
reliable_made end past ch (Updates a class values) may = absurd may.place
reliable_made end past ch (Calls a n call args) may = may.place.2
reliable_made end past ch (Gone a) may = refl

-- each message that was made is reliable
pub all_reliable : (end : End) (past : Past) → IsRun end past → EachDeed IsReliable past
all_reliable end past run = always end (EachDeed IsReliable) tt step past run
  where
    step : (past : Past) (move : Move) → IsRun end past → has_ended past ≡ false → May end past move → EachDeed IsReliable past → EachDeed IsReliable (after_move past move)
    step past (Ticks sight) run alive may h = (tt, h)
    step past (Makes c m) run alive may h = making_keeps (λ i before. EachDeed IsReliable before) past c m h (λ i before lt q. (reliable_made end past c m may, q))
    step past (Defers m) run alive may h = (tt, h)
    step past (Sends items) run alive may h = (tt, h)
    step past (Takes n) run alive may h = (tt, h)
    step past (Hears entry) run alive may h = told_keeps (EachDeed IsReliable) entry past h (λ n es ds before q. (tt, q.1))
    step past (Hands d) run alive may h = handed_keeps (EachDeed IsReliable) d past h (λ n es ds before q. (tt, q.1))
    step past (Ends g) run alive may h = (tt, h)

-- ---- what is known of a server, and of what a client was handed on

-- what the laws of a server say of its past
pub record ServerFacts (entries : List Entry) (classes : ℕ → Class) (left : End) (l : Past) : Type 0 where
  pub side : left.side ≡ AtServer
  pub run : IsRun left l
  pub tells : PastTells entries classes AtServer l
  pub come : (a : ℕ) → MarksCome a (marks_of l a)
  pub exports : OpensExport l

-- the open that exports it was handed on
pub record ExportDone (l r : Past) (hands : HandsOnAll l r) (guid : ℕ) : Type 0 where
  pub channel : ℕ
  pub made : Numbered
  pub exports : exports_segment guid made.1 ≡ true
  pub at : MadeAt l channel made
  pub done : made.0 ≤ parts_in (hands channel).done

-- what the server takes for arrived was handed on
pub record Ready (l r : Past) (hands : HandsOnAll l r) : Type 0 where
  pub closed : (a : ℕ) → AllByRecursion (λ (mark : Mark). is_closing mark.message ≡ true → IsDone l r hands mark) (without_newest (marks_of l a))
  pub exported : (guid : ℕ) → ExportArrived l guid → ExportDone l r hands guid

-- this message of the channel comes next
pub record Comes (l r : Past) (hands : HandsOnAll l r) (ch : ℕ) (made : Numbered) : Type 0 where
  pub later : List Numbered
  pub split : messages_on l ch ≡ (hands ch).done ++ made ∷ later

-- the mark is the next of its actor's to be handed on
pub record AtTurn (l r : Past) (hands : HandsOnAll l r) (a : ℕ) (follow : MarksFollow l r hands a) (mark : Mark) : Type 0 where
  pub front : List Mark
  pub is : follow.newer ≡ front ++ mark ∷ []
  pub comes : MarkComes mark mark.message follow.older

-- what holds of all but the first holds behind it
second_at : (P : Mark → Type 0) (xs : List Mark) (y z : Mark) (zs : List Mark) → AllByRecursion P (without_newest (xs ++ y ∷ z ∷ zs)) → P z
second_at P [] y z zs h = h.0
second_at P (x ∷ xs) y z zs h = (all_suffix P xs (y ∷ z ∷ zs) h).1.0

-- a mark comes in turn in its place
come_at : (a : ℕ) (xs : List Mark) (y : Mark) (zs : List Mark) → MarksCome a (xs ++ y ∷ zs) → MarkComes y y.message zs
come_at a [] y zs h = h.0
come_at a (x ∷ xs) y zs h = come_at a xs y zs h.2

-- what lets an actor sleep closes it
sleeping_closes : (m : Message) → is_sleeping m ≡ true → is_closing m ≡ true
sleeping_closes (Closes b sleeps) e = refl
sleeping_closes (Opens exports b class values) e = absurd (false≢true e)
sleeping_closes (Updates b class values) e = absurd (false≢true e)
sleeping_closes (Calls b n call args) e = absurd (false≢true e)
sleeping_closes (Gone b) e = absurd (false≢true e)

-- the mark of the next message is the first of the actor's newer ones
pub at_turn : (left : End) (l r : Past) → IsRun left l → (hands : HandsOnAll l r) → Ready l r hands → (ch : ℕ) (made : Numbered) → Comes l r hands ch made → (a : ℕ) → MarksCome a (marks_of l a) → (follow : MarksFollow l r hands a)
    → actor_of made.1 ≡ a → is_mark made.1 ≡ true → AtTurn l r hands a follow (record { channel = ch; number = made.0; message = made.1 })
at_turn left l r run hands ready ch made next a come follow same it =
    let k = marked ch made a same it l (place_at l ch (hands ch).done made next.later next.split) in
    elim (cut k.newer mark k.older follow.newer follow.older (sym k.split ∙ follow.split)) [
      | inl c ↦ here k.newer c.0 c.1.0 (come_at a k.newer mark k.older (subst (MarksCome a) k.split come)) c.1.1 k.split
      | inr c ↦ absurd (let low : made.0 ≤ parts_in (hands ch).done = all_mid (IsDone l r hands) c.0 mark k.older (subst (AllByRecursion (IsDone l r hands)) c.1.1 follow.done) in omega (arith, low, number))
    ]
  where
    mark : Mark
    mark = record { channel = ch; number = made.0; message = made.1 }

    number : made.0 ≡ parts_in (hands ch).done + 1
    number = number_is left l run ch (hands ch).done made next.later next.split

    -- nothing else of the actor waits before it
    never : (front : List Mark) (z : Mark) (rest older : List Mark) → follow.newer ≡ front ++ record { channel = ch; number = made.0; message = made.1 } ∷ z ∷ rest
        → marks_of l a ≡ front ++ record { channel = ch; number = made.0; message = made.1 } ∷ z ∷ older → (m : Message) → MarkComes (record { channel = ch; number = made.0; message = made.1 }) m (z ∷ older) → ⊥
    never front z rest older e s m c = by m c
      where
        ahead : parts_in (hands z.channel).done < z.number
        ahead = (all_suffix (IsAhead l r hands) front (record { channel = ch; number = made.0; message = made.1 } ∷ z ∷ rest) (subst (AllByRecursion (IsAhead l r hands)) e follow.ahead)).1.0

        closed : is_closing z.message ≡ true → ⊥
        closed q =
            let d : z.number ≤ parts_in (hands z.channel).done =
            second_at (λ (k : Mark). is_closing k.message ≡ true → IsDone l r hands k) front (record { channel = ch; number = made.0; message = made.1 }) z older
            (subst (λ (ks : List Mark). AllByRecursion (λ (k : Mark). is_closing k.message ≡ true → IsDone l r hands k) (without_newest ks)) s (ready.closed a)) q in
            absurd (omega (arith, d, ahead))

        by : (m : Message) → MarkComes (record { channel = ch; number = made.0; message = made.1 }) m (z ∷ older) → ⊥
        by (Opens exports b class values) c = closed c
        by (Closes b sleeps) c = (
            let d : parts_in (hands z.channel).done ≡ parts_in (hands ch).done = ap (λ (k : ℕ). parts_in (hands k).done) c.1 in
            absurd (omega (arith, ahead, d, c.2, number)))
        by (Gone b) c = closed (sleeping_closes z.message c)
        by (Updates b class values) c = c
        by (Calls b n call args) c = c

    here : (front es : List Mark) → follow.newer ≡ front ++ record { channel = ch; number = made.0; message = made.1 } ∷ es → {older : List Mark} → MarkComes (record { channel = ch; number = made.0; message = made.1 }) made.1 older → older ≡ es ++ follow.older
        → marks_of l a ≡ front ++ record { channel = ch; number = made.0; message = made.1 } ∷ older → AtTurn l r hands a follow (record { channel = ch; number = made.0; message = made.1 })
    here front [] e c q s = record { front = front; is = e; comes = subst (MarkComes (record { channel = ch; number = made.0; message = made.1 }) made.1) q c }
    here front (z ∷ es) e c q s =
        absurd (never front z es (es ++ follow.older) e (s ∙ ap (λ (ks : List Mark). front ++ record { channel = ch; number = made.0; message = made.1 } ∷ ks) q) made.1 (subst (MarkComes (record { channel = ch; number = made.0; message = made.1 }) made.1) q c))

-- ---- the copy before the message

-- an open finds no channel
open_finds : (r : Past) (a : ℕ) (mark : Mark) (exports : List Segment) (b : ℕ) (class : Class) (values : List Pair) (older : List Mark) → MarkComes mark (Opens exports b class values) older → CopyBy r a older → copy_channel r a ≡ None
open_finds r a mark exports b class values [] c copy = copy.1
open_finds r a mark exports b class values (last ∷ older) c copy = by last.message c copy
  where
    by : (m : Message) → is_closing m ≡ true → CopyAfter r a last.channel m → copy_channel r a ≡ None
    by (Closes x sleeps) q copy = copy.1
    by (Opens exports x class values) q copy = absurd (false≢true q)
    by (Updates x class values) q copy = absurd (false≢true q)
    by (Calls x n call args) q copy = absurd (false≢true q)
    by (Gone x) q copy = absurd (false≢true q)

-- a Gone finds a sleeping copy
gone_finds : (r : Past) (a : ℕ) (mark : Mark) (b : ℕ) (older : List Mark) → MarkComes mark (Gone b) older → CopyBy r a older → (has_copy r a ≡ true) × (copy_channel r a ≡ None)
gone_finds r a mark b [] c copy = absurd c
gone_finds r a mark b (last ∷ older) c copy = by last.message c copy
  where
    by : (m : Message) → is_sleeping m ≡ true → CopyAfter r a last.channel m → (has_copy r a ≡ true) × (copy_channel r a ≡ None)
    by (Closes x sleeps) q copy = (copy.0 ∙ q, copy.1)
    by (Opens exports x class values) q copy = absurd (false≢true q)
    by (Updates x class values) q copy = absurd (false≢true q)
    by (Calls x n call args) q copy = absurd (false≢true q)
    by (Gone x) q copy = absurd (false≢true q)

-- a close finds a copy
pub close_finds : (r : Past) (a : ℕ) (mark : Mark) (b : ℕ) (sleeps : Bool) (older : List Mark) → MarkComes mark (Closes b sleeps) older → CopyBy r a older → has_copy r a ≡ true
close_finds r a mark b sleeps [] c copy = absurd c
close_finds r a mark b sleeps (last ∷ older) c copy = by last.message c.0 copy
  where
    by : (m : Message) → is_opening m ≡ true → CopyAfter r a last.channel m → has_copy r a ≡ true
    by (Opens exports x class values) q copy = copy.0
    by (Closes x sleeps) q copy = absurd (false≢true q)
    by (Updates x class values) q copy = absurd (false≢true q)
    by (Calls x n call args) q copy = absurd (false≢true q)
    by (Gone x) q copy = absurd (false≢true q)

-- a spawned actor's guid is an actor's
pub spawned_actor : (a : ℕ) → IsSpawned a → IsActor a
spawned_actor a s = record { even = omega (arith, s.1); least = omega (arith, s.1, s.2); below = omega (arith, s.1, s.3) }

-- ---- the names of a client

-- the segments that a message exports
abbrev pub exports_in : Message → List Segment
exports_in m = elim m [ Opens exports actor class values ↦ exports | _ ↦ [] ]

-- what a message exports stands in the table, and is known
abbrev ExportsFit : (segments names : List Segment) → Message → Type 0
ExportsFit segments names m = StandAmong segments (exports_in m) × KnowsAll names (exports_in m)

-- what was exported fits the names learnt
exports_fit : (segments names : List Segment) (ds : List Delivered) → ExportsStand segments ds → ExportsKnown names ds → AllByRecursion (λ (d : Delivered). ExportsFit segments names d.message) ds
exports_fit segments names [] s k = tt
exports_fit segments names (d ∷ ds) s k = ((s.0, k.0), exports_fit segments names ds s.1 k.1)

-- what holds of all holds of those that pass
filtered : (P : Delivered → Type 0) (test : Delivered → Bool) (ds : List Delivered) → AllByRecursion P ds → AllByRecursion P (filter test ds)
filtered P test [] h = tt
filtered P test (d ∷ ds) h = cond_both (test d) (d ∷ filter test ds) (filter test ds) (AllByRecursion P) (λ e. (h.0, filtered P test ds h.1)) (λ e. filtered P test ds h.1)

-- what holds of the messages of payloads holds of them mapped
mapped : (P : Message → Type 0) (ds : List Delivered) → AllByRecursion (λ (d : Delivered). P d.message) ds → AllByRecursion P (map (λ (d : Delivered). d.message) ds)
mapped P [] h = tt
mapped P (d ∷ ds) h = (h.0, mapped P ds h.1)

-- and the other way round
unmapped : (P : Message → Type 0) (ms : List Numbered) → AllByRecursion P (map (λ (x : Numbered). x.1) ms) → AllByRecursion (λ (x : Numbered). P x.1) ms
unmapped P [] h = tt
unmapped P (x ∷ ms) h = (h.0, unmapped P ms h.1)

-- one of the messages handed on
pub in_done : (left : End) (l r : Past) → IsRun left l → (ch : ℕ) (hands : HandsOn l r ch) (made : Numbered) → MadeAt l ch made → made.0 ≤ parts_in hands.done → (before after : List Numbered) × (hands.done ≡ before ++ made ∷ after)
in_done left l r run ch hands made at low = elim (cut (reverse at.older) made (reverse at.newer) hands.done hands.later (sym (at_place l ch made at) ∙ hands.split)) [
  | inl c ↦ (reverse at.older, c.0, c.1.0)
  | inr c ↦ absurd (omega (arith, low, number_is left l run ch (reverse at.older) made (reverse at.newer) (at_place l ch made at), ap parts_in c.1.0, parts_append hands.done c.0))
]

-- a segment that stands under the guid
record Found (segments names : List Segment) (guid : ℕ) : Type 0 where
  segment : Segment
  place : ℕ
  there : slice_get segments place ≡ Some segment
  knows : Knows names segment
  guid_is : segment.guid ≡ guid

-- a segment of names that are all known is found
found_among : (segments names : List Segment) (guid : ℕ) (xs : List Segment) → list_any (λ (s : Segment). s.guid == guid) xs ≡ true → StandAmong segments xs → KnowsAll names xs → Found segments names guid
found_among segments names guid [] h s k = absurd (false≢true h)
found_among segments names guid (x ∷ xs) h s k = elim (or_cases (x.guid == guid) (list_any (λ (s : Segment). s.guid == guid) xs) h) [
  | inl e ↦ record { segment = x; place = s.0.0; there = s.0.1; knows = k.0; guid_is = eqb-true x.guid guid e }
  | inr e ↦ found_among segments names guid xs e s.1 k.1
]

-- a segment that a message exports is found
found_export : (segments names : List Segment) (guid : ℕ) (m : Message) → exports_segment guid m ≡ true → ExportsFit segments names m → Found segments names guid
found_export segments names guid (Opens exports a class values) h f = found_among segments names guid exports h f.0 f.1
found_export segments names guid (Closes a sleeps) h f = absurd (false≢true h)
found_export segments names guid (Updates a class values) h f = absurd (false≢true h)
found_export segments names guid (Calls a n call args) h f = absurd (false≢true h)
found_export segments names guid (Gone a) h f = absurd (false≢true h)

module _ (entries : List Entry) (is : IsTable entries) (classes : ℕ → Class) (left : End) (l r : Past) (run : IsRun left l) (f : Follows (segments_of entries) classes l r) (ready : Ready l r f.hands) where
  knows_export : (guid : ℕ) → ExportArrived l guid → Found (segments_of entries) (names_of r) guid
  knows_export guid e =
      let d = ready.exported guid e in
      let p = in_done left l r run d.channel (f.hands d.channel) d.made d.at d.done in
      let all : AllByRecursion (λ (x : Delivered). ExportsFit (segments_of entries) (names_of r) x.message) (delivered_of r) =
      exports_fit (segments_of entries) (names_of r) (delivered_of r) f.exports (names_hold entries r is f.exports) in
      let some : AllByRecursion (λ (x : Delivered). ExportsFit (segments_of entries) (names_of r) x.message) (handed_reliably r d.channel) =
      all_reverse (λ (x : Delivered). ExportsFit (segments_of entries) (names_of r) x.message) (filter (λ (x : Delivered). x.channel == d.channel && x.reliable) (delivered_of r))
      (filtered (λ (x : Delivered). ExportsFit (segments_of entries) (names_of r) x.message) (λ (x : Delivered). x.channel == d.channel && x.reliable) (delivered_of r) all) in
      let done : AllByRecursion (λ (x : Numbered). ExportsFit (segments_of entries) (names_of r) x.1) (f.hands d.channel).done =
      unmapped (ExportsFit (segments_of entries) (names_of r)) (f.hands d.channel).done
      (subst (AllByRecursion (ExportsFit (segments_of entries) (names_of r))) (f.hands d.channel).same (mapped (ExportsFit (segments_of entries) (names_of r)) (handed_reliably r d.channel) some)) in
      found_export (segments_of entries) (names_of r) guid d.made.1 d.exports
      (all_mid (λ (x : Numbered). ExportsFit (segments_of entries) (names_of r) x.1) p.0 d.made p.1 (subst (AllByRecursion (λ (x : Numbered). ExportsFit (segments_of entries) (names_of r) x.1)) p.2 done))

  others_known : (known : ℕ → Bool) → ((guid : ℕ) → known guid ≡ true → ExportArrived l guid) → (path : List Segment) → StandAmong (segments_of entries) path → KnowsOthers (names_of r) (λ (s : Segment). not (known s.guid)) path
  others_known known arrived [] st = tt
  others_known known arrived (s ∷ path) st = (one, others_known known arrived path st.1)
    where
      was : (b : Bool) → not b ≡ false → b ≡ true
      was true e = refl
      was false e = absurd (false≢true (sym e))

      one : not (known s.guid) ≡ false → Knows (names_of r) s
      one e =
          let x = knows_export s.guid (arrived s.guid (was (known s.guid) e)) in
          let at : name_known (names_of r) s.guid ≡ Some x.segment = ap (name_known (names_of r)) (sym x.guid_is) ∙ x.knows in
          let same = known_is (segments_of entries) (names_of r) s x.segment st.0.0 is.segments.same (names_among entries r is f.exports) st.0.1 at in
          at ∙ ap (λ (t : Segment). Some t) same.is

-- a class's path stands among the segments of its table
pub path_stands : (entries : List Entry) (class : Class) → StandsIn entries class → StandAmong (segments_of entries) class.path
path_stands entries class st =
    subst (λ (c : Class). StandAmong (segments_of entries) c.path) st.4
    (stand_class (segments_of entries) st.0 st.1 st.2 (subst (λ (xs : List Entry). StandAmong (segments_of entries) (segments_of xs)) st.3 (stand_of (segments_of entries) (segments_of entries) (λ n s e. (n, e)))))

-- ---- the next message

-- what the client has to know
pub record CanHand (right : End) (r : Past) (ch : ℕ) (made : Numbered) : Type 0 where
  pub passes : Passes right r ch made.1
  pub there : lacks_copy AtClient r [] (made_bunch ch made.0 made.1 0) ≡ false
  pub finds : FindsNoChannel r made.1
  pub reliable : is_reliable made.1 ≡ true
  pub place : (ch == 0) ≡ is_gone made.1

module _ (entries : List Entry) (is : IsTable entries) (classes : ℕ → Class) (left right : End) (l r : Past) (facts : ServerFacts entries classes left l) (f : Follows (segments_of entries) classes l r) (ready : Ready l r f.hands)
    (client : right.side ≡ AtClient) (table : right.table ≡ table_of entries) (ch : ℕ) (made : Numbered) (next : Comes l r f.hands ch made) where
  here : MadeAt l ch made
  here = place_at l ch (f.hands ch).done made next.later next.split

  comes_next : ComesNext l r ch (f.hands ch).done made
  comes_next = record { later = next.later; split = next.split; same = (f.hands ch).same }

  holder : copy_on r ch ≡ user_of (reverse (f.hands ch).done)
  holder = holder_is_user r f.agree ch ∙ (next_is_user left l r facts.side facts.run ch (f.hands ch).done made comes_next).0

  other_class : (a : ℕ) (class : Class) → class ≡ classes a → is_other_class class (copy_class r a) ≡ false
  other_class a class same = by (copy_class r a) refl
    where
      by : (o : Option Class) → copy_class r a ≡ o → is_other_class class o ≡ false
      by None e = refl
      by (Some c) e = ap (λ (x : Class). not (class_guid x == class_guid class)) ((f.known a c e).0 ∙ sym same) ∙ ap not (eq-eqb (class_guid class) (class_guid class) refl)

  -- the copy that the user of the channel has
  user_class : (a : ℕ) → user_of (reverse (f.hands ch).done) ≡ Some a → copy_class r a ≡ Some (classes a)
  user_class a u = by (copy_class r a) refl (f.agree.holds ch a ((next_is_user left l r facts.side facts.run ch (f.hands ch).done made comes_next).0 ∙ u)).0
    where
      by : (o : Option Class) → copy_class r a ≡ o → is_some o ≡ true → copy_class r a ≡ Some (classes a)
      by None e h = absurd (false≢true h)
      by (Some c) e h = e ∙ ap (λ (x : Class). Some x) (f.known a c e).0

  turn : (a : ℕ) → actor_of made.1 ≡ a → is_mark made.1 ≡ true → AtTurn l r f.hands a (f.marks a) (record { channel = ch; number = made.0; message = made.1 })
  turn a same it = at_turn left l r facts.run f.hands ready ch made next a (facts.come a) (f.marks a) same it

  turn_as : (m : Message) → made.1 ≡ m → is_mark m ≡ true → MarkComes (record { channel = ch; number = made.0; message = made.1 }) m (f.marks (actor_of m)).older
  turn_as m e it = subst (λ (w : Message). MarkComes (record { channel = ch; number = made.0; message = made.1 }) w (f.marks (actor_of m)).older) e (turn (actor_of m) (ap actor_of e) (ap is_mark e ∙ it)).comes

  passes_by : (m : Message) → made.1 ≡ m → MessageTells entries classes AtServer m → OpenExports l m → FitsUse (reverse (f.hands ch).done) m → Passes right r ch m
  passes_by (Opens exports a class values) e tells ex fit =
      let st : StandsIn entries class = subst (StandsIn entries) (sym tells.same) tells.known.stands in
      let among = names_among entries r is f.exports in
      let none : copy_channel r a ≡ None = open_finds r a (record { channel = ch; number = made.0; message = made.1 }) exports a class values (f.marks a).older (turn_as (Opens exports a class values) e refl) (f.marks a).copy in
      let give = class_gives entries class (names_of r) (λ (s : Segment). not (ex.known s.guid)) is st among (others_known entries is classes left l r facts.run f ready ex.known ex.arrived class.path (path_stands entries class st)) (omega (arith, names_few entries r is among)) in
      let passing : OpenPasses (table_of entries) r ch (filter (λ (s : Segment). not (ex.known s.guid)) class.path) a (class_guid class) class values = record {
        few = give.few;
        learnt = give.learnt;
        is_actor = spawned_actor a tells.known.spawned;
        here = ap (is_elsewhere ch) none;
        room = room_for r a f.spawned tells.known.spawned;
        same = other_class a class tells.same;
        guid_below = give.guid;
        named = give.named;
        limits = known_limits entries is class st;
        all_fit = tells.all_fit;
      } in
      (client, subst (λ (t : Table). OpenPasses t r ch exports a (class_guid class) class values) (sym table) (subst (λ (xs : List Segment). OpenPasses (table_of entries) r ch xs a (class_guid class) class values) (sym ex.is) passing))
  passes_by (Closes a sleeps) e tells ex fit = (client, holder ∙ fit)
  passes_by (Updates a class values) e tells ex fit = absurd fit
  passes_by (Calls a n call args) e tells ex fit =
      subst (λ (side : Side). CallPasses side r a n call args) (sym client)
      (call_passes AtServer r a n call args (classes a) (known_limits entries is (classes a) tells.known.stands) (spawned_actor a tells.known.spawned) tells.fits (user_class a fit))
  passes_by (Gone a) e tells ex fit =
      let g = gone_finds r a (record { channel = ch; number = made.0; message = made.1 }) a (f.marks a).older (turn_as (Gone a) e refl) (f.marks a).copy in
      (client, spawned_actor a tells, sleeps (has_copy r a) (copy_channel r a) g.0 g.1)
    where
      sleeps : (b : Bool) (o : Option ℕ) → b ≡ true → o ≡ None → (b && is_none o) ≡ true
      sleeps true None p q = refl
      sleeps true (Some x) p q = absurd (let no : (let o : Option ℕ = Some x in o) ≡ None = q in cc)
      sleeps false o p q = absurd (false≢true p)

  finds_by : (m : Message) → made.1 ≡ m → FindsNoChannel r m
  finds_by (Opens exports a class values) e = record {
    opens = λ q. open_finds r a (record { channel = ch; number = made.0; message = made.1 }) exports a class values (f.marks a).older (turn_as (Opens exports a class values) e refl) (f.marks a).copy;
    gone = λ q. absurd (false≢true q);
  }
  finds_by (Gone a) e = record {
    opens = λ q. absurd (false≢true q);
    gone = λ q. (gone_finds r a (record { channel = ch; number = made.0; message = made.1 }) a (f.marks a).older (turn_as (Gone a) e refl) (f.marks a).copy).1;
  }
  finds_by (Closes a sleeps) e = record { opens = λ q. absurd (false≢true q); gone = λ q. absurd (false≢true q) }
  finds_by (Updates a class values) e = record { opens = λ q. absurd (false≢true q); gone = λ q. absurd (false≢true q) }
  finds_by (Calls a n call args) e = record { opens = λ q. absurd (false≢true q); gone = λ q. absurd (false≢true q) }

  pub can_hand : CanHand right r ch made
  can_hand =
      let place : (ch == 0) ≡ is_gone made.1 = (each_made Rule l ch made (rules left l facts.side facts.run) here).1 in
      record {
        passes = passes_by made.1 refl (each_made (DeedTells entries classes AtServer) l ch made facts.tells here).1
            (clear_at (λ (x : Numbered). OpenExports l x.1) here.newer made here.older (subst (AllByRecursion (λ (x : Numbered). OpenExports l x.1)) here.split (facts.exports ch)))
            (next_is_user left l r facts.side facts.run ch (f.hands ch).done made comes_next).1;
        there = next_has_copy left l r facts.side facts.run f.agree ch (f.hands ch).done made place comes_next;
        finds = finds_by made.1 refl;
        reliable = (each_made IsReliable l ch made (all_reliable left l facts.run) here).1;
        place = place;
      }
