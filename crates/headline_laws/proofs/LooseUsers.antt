-- Where a packet with an unreliable message is heard, the message's actor uses the channel at the client.
use Rattle.std.proofs.Common.{◌≡◌, inl, inr, ℕ, ◌+◌, ◌<◌, ◌≤◌, ◌==◌, ◌&&◌, List, [], ◌∷◌, ◌++◌, map, reverse, Bool, true, false, length, refl, sym, ap, ◌∙◌, subst, arith, append_assoc, Option, Some, None, ◌⊎◌, slice_get}
use Rattle.std.specs.List.{AllByRecursion, filter_map, cons_option}
use Rattle.std.specs.Bool.{then_some}
use Rattle.std.proofs.lemmas.Bool.{false≢true, cases_lt, eqb-true, and_parts}
use Rattle.std.proofs.lemmas.List.{length-append, reverse-append, reverse-reverse, length-map}
use Rattle.protocol_model.specs.Payload.{Message, Opens, Closes, Updates, Calls, Gone, parts_of, actor_of}
use Rattle.protocol_model.specs.Side.{AtServer}
use Rattle.connection_model.specs.Feed.{End, Past, Ticked, Made, Waits, Sent, Took, Ended, Item, Delivered, Entry}
use Rattle.connection_model.specs.Fates.{top_of, taken_of}
use Rattle.connection_model.specs.Bunches.{made_count, is_opening}
use Rattle.connection_model.specs.State.{Mark, is_mark, mark_in, state_of, state_at, is_opened, index_of, last_mark}
use Rattle.connection_model.specs.Windows.{received_on, next_of, wholes_from}
use Rattle.connection_laws.specs.Run.{IsRun}
use Rattle.connection_laws.specs.Link.{IsLink}
use Rattle.connection_laws.specs.Delivered.{on_index, Numbered, messages_on, payload_of}
use Rattle.connection_laws.specs.InTurn.{user_said, user_of, FitsUse, Brackets}
use Rattle.connection_laws.proofs.InTurn.{OpenMark, held_open, brackets_fit}
use Rattle.connection_laws.proofs.Items.{all_reverse}
use Rattle.connection_laws.proofs.LinkedEnds.{left_run}
use Rattle.connection_laws.proofs.Receiving.{below_next, next_low}
use Rattle.connection_laws.proofs.Searches.{among_most}
use Rattle.connection_laws.proofs.Spans.{some_parts}
use Rattle.headline_laws.specs.Agree.{user_at}
use Rattle.headline_laws.specs.Follows.{parts_in, HandsOnAll, HandsOnWhole}
use Rattle.headline_laws.specs.Marks.{marks_of}
use Rattle.headline_laws.specs.Position.{all_bunches}
use Rattle.headline_laws.specs.Whole.{MadeAt, ArrivedBelow, IsReceived}
use Rattle.headline_laws.proofs.BunchHandsOn.{same_prefix, wholes_are}
use Rattle.headline_laws.proofs.CameInPackets.{came, made_before}
use Rattle.headline_laws.proofs.ReceivedFirst.{mark_at, marked_arrived, parts_append, parts_reverse, whole_there}
use Rattle.headline_laws.proofs.PastGrows.{SaidAt, made_grows, below_grows}
use Rattle.headline_laws.proofs.HandedOn.{Fall, marks_fall}
use Rattle.headline_laws.proofs.RunPosition.{position_there}
use Rattle.headline_laws.proofs.PlaceByNumber.{at_place, place_at, number_is, count_is, marked, all_mid}
use Rattle.headline_laws.proofs.NextInTurn.{user_done}
use Rattle.headline_laws.proofs.WholeMessages.{longer, applied_length, bunches_length}
use Rattle.protocol_laws.proofs.Greatest.{greatest_of-cons}
use Rattle.connection_laws.proofs.ActorMarks.{opened_is_open}
use Rattle.connection_laws.proofs.StoriesTalk.{all_from}

-- ---- what was received whole was handed on

-- a message that was received whole is among those handed on
pub received_done : (left : End) (l r : Past) → IsRun left l → (hands : HandsOnAll l r) → HandsOnWhole l r hands → (ch : ℕ) (made : Numbered) (rec : IsReceived l r ch made)
    → (more : List Numbered) × ((hands ch).done ≡ reverse (made ∷ rec.at.older) ++ more)
received_done left l r run hands whole ch made rec =
    let first : List Numbered = reverse (made ∷ rec.at.older) in
    let same : map (payload_of ch) (hands ch).done ≡ map (payload_of ch) first ++ rec.rest = sym (whole ch) ∙ rec.whole in
    let long : length (reverse (made ∷ rec.at.older)) ≤ length (hands ch).done =
    omega (arith, sym (length-map (hands ch).done (payload_of ch)) ∙ ap length same ∙ length-append (map (payload_of ch) (reverse (made ∷ rec.at.older))) rec.rest, length-map (reverse (made ∷ rec.at.older)) (payload_of ch)) in
    let order : messages_on l ch ≡ reverse (made ∷ rec.at.older) ++ reverse rec.at.newer = ap reverse rec.at.split ∙ reverse-append rec.at.newer (made ∷ rec.at.older) in
    longer (hands ch).done (hands ch).later (reverse (made ∷ rec.at.older)) (reverse rec.at.newer) (sym (hands ch).split ∙ order) long

-- so its number is not above theirs
pub received_low : (left : End) (l r : Past) → IsRun left l → (hands : HandsOnAll l r) → HandsOnWhole l r hands → (ch : ℕ) (made : Numbered) → IsReceived l r ch made → made.0 ≤ parts_in (hands ch).done
received_low left l r run hands whole ch made rec =
    let d = received_done left l r run hands whole ch made rec in
    let n : made.0 ≡ parts_in (reverse rec.at.older) + 1 = number_is left l run ch (reverse rec.at.older) made (reverse rec.at.newer) (at_place l ch made rec.at) in
    omega (arith, n, ap parts_in d.1, parts_append (reverse (made ∷ rec.at.older)) d.0, parts_reverse (made ∷ rec.at.older), parts_reverse rec.at.older, some_parts made.1)

-- ---- the user stays while its actor isn't marked again

-- older messages stand in their uses
brackets_back : (xs ys : List Numbered) → Brackets (xs ++ ys) → Brackets ys
brackets_back [] ys h = h
brackets_back (x ∷ xs) ys h = brackets_back xs ys h.1

-- the message is no mark of the actor
abbrev NoMark : ℕ → Numbered → Type 0
NoMark a x = actor_of x.1 ≡ a → is_mark x.1 ≡ true → ⊥

user_stays : (a : ℕ) (xs tail : List Numbered) → Brackets (xs ++ tail) → user_of tail ≡ Some a → AllByRecursion (NoMark a) xs → user_of (xs ++ tail) ≡ Some a
user_stays a [] tail b u h = u
user_stays a (x ∷ xs) tail b u h = by x.1 refl b.0 (user_stays a xs tail b.1 u h.1)
  where
    some_is : (x y : ℕ) → (let o : Option ℕ = Some x in o) ≡ Some y → x ≡ y
    some_is x y e = cc

    said : (m : Message) → x.1 ≡ m → user_said m ≡ None → user_of (xs ++ tail) ≡ Some a → user_of (x ∷ (xs ++ tail)) ≡ Some a
    said m e q u = ap (λ (o : Option (Option ℕ)). (let y : Option ℕ = elim o [ Some user ↦ user | None ↦ user_of (xs ++ tail) ] in y)) (ap user_said e ∙ q) ∙ u

    by : (m : Message) → x.1 ≡ m → FitsUse (xs ++ tail) x.1 → user_of (xs ++ tail) ≡ Some a → user_of (x ∷ (xs ++ tail)) ≡ Some a
    by (Opens exports c class values) e f u = absurd (let fit : user_of (xs ++ tail) ≡ None = subst (FitsUse (xs ++ tail)) e f in let no : (let o : Option ℕ = None in o) ≡ Some a = sym fit ∙ u in cc)
    by (Closes c sleeps) e f u = absurd (let fit : user_of (xs ++ tail) ≡ Some c = subst (FitsUse (xs ++ tail)) e f in h.0 (ap actor_of e ∙ some_is c a (sym fit ∙ u)) (ap is_mark e))
    by (Updates c class values) e f u = absurd (subst (FitsUse (xs ++ tail)) e f)
    by (Calls c n call args) e f u = said (Calls c n call args) e refl u
    by (Gone c) e f u = said (Gone c) e refl u

-- of two prefixes one goes on from the other
two_prefixes : (xs ys us vs : List Numbered) → xs ++ ys ≡ us ++ vs → ((es : List Numbered) × (us ≡ xs ++ es)) ⊎ ((e : Numbered) × (es : List Numbered) × (xs ≡ us ++ e ∷ es))
two_prefixes [] ys us vs e = inl (us, refl)
two_prefixes (x ∷ xs) ys [] vs e = inr (x, xs, refl)
two_prefixes (x ∷ xs) ys (u ∷ us) vs e = by (two_prefixes xs ys us vs (tail x u (xs ++ ys) (us ++ vs) e)) (head x u (xs ++ ys) (us ++ vs) e)
  where
    head : (x y : Numbered) (xs ys : List Numbered) → x ∷ xs ≡ y ∷ ys → x ≡ y
    head x y xs ys e = cc

    tail : (x y : Numbered) (xs ys : List Numbered) → x ∷ xs ≡ y ∷ ys → xs ≡ ys
    tail x y xs ys e = cc

    by : ((es : List Numbered) × (us ≡ xs ++ es)) ⊎ ((e : Numbered) × (es : List Numbered) × (xs ≡ us ++ e ∷ es)) → x ≡ u → ((es : List Numbered) × (u ∷ us ≡ x ∷ (xs ++ es))) ⊎ ((e : Numbered) × (es : List Numbered) × (x ∷ xs ≡ u ∷ (us ++ e ∷ es)))
    by (inl r) q = inl (r.0, ap (λ (l : List Numbered). u ∷ l) r.1 ∙ ap (λ (y : Numbered). y ∷ (xs ++ r.0)) (sym q))
    by (inr r) q = inr (r.0, r.1, ap (λ (l : List Numbered). x ∷ l) r.2 ∙ ap (λ (y : Numbered). y ∷ (us ++ r.0 ∷ r.1)) q)

-- an actor's last mark is its own
pub mark_actor : (a : ℕ) (past : Past) (mark : Mark) → last_mark past a ≡ Some mark → actor_of mark.message ≡ a
mark_actor a [] mark e = absurd (let no : (let o : Option Mark = None in o) ≡ Some mark = e in cc)
mark_actor a (Ticked t x ∷ past) mark e = mark_actor a past mark e
mark_actor a (Waits m ∷ past) mark e = mark_actor a past mark e
mark_actor a (Sent n t items ∷ past) mark e = mark_actor a past mark e
mark_actor a (Took n es ds ∷ past) mark e = mark_actor a past mark e
mark_actor a (Ended g ∷ past) mark e = mark_actor a past mark e
mark_actor a (Made c n m i ∷ past) mark e = by (actor_of m == a && is_mark m && i == 0) refl e (λ q. mark_actor a past mark q)
  where
    same : (x y : Mark) → (let o : Option Mark = Some x in o) ≡ Some y → x ≡ y
    same x y e = cc

    by : (b : Bool) → (actor_of m == a && is_mark m && i == 0) ≡ b → slice_get (cons_option (then_some b (let k : Mark = record { channel = c; number = n; message = m } in k)) (filter_map (mark_in a) past)) 0 ≡ Some mark
        → (last_mark past a ≡ Some mark → actor_of mark.message ≡ a) → actor_of mark.message ≡ a
    by true t e ih = ap (λ (z : Mark). actor_of z.message) (sym (same (record { channel = c; number = n; message = m }) mark e)) ∙ eqb-true (actor_of m) a (and_parts (actor_of m == a) (is_mark m) (and_parts (actor_of m == a && is_mark m) (i == 0) t).0).0
    by false t e ih = ih e

-- ---- the law

module _ (left right : End) (l : Past) (k : ℕ) (es : List Entry) (ds : List Delivered) (past : Past) (side : left.side ≡ AtServer) (same : left.version ≡ right.version)
    (link : IsLink left right l (Took k es ds ∷ past)) (fresh : top_of past < k) (hands : HandsOnAll l (Took k es ds ∷ past)) (whole : HandsOnWhole l (Took k es ds ∷ past) hands)
    (item : Item) (at : SaidAt left l k item) (a ch : ℕ) (opened : is_opened (state_of at.before a) ≡ true) (index : index_of at.before a ≡ Some ch) where
  abbrev s : Past
  s = at.before

  run : IsRun left l
  run = left_run left right l (Took k es ds ∷ past) link

  opening : OpenMark at.before a ch
  opening = held_open at.before a ch index (opened_is_open (state_of at.before a) opened)

  abbrev first : Numbered
  first = (opening.mark.number, opening.mark.message)

  made : MadeAt at.before ch first
  made = subst (λ (c : ℕ). MadeAt at.before c (opening.mark.number, opening.mark.message)) opening.on (mark_at a at.before opening.mark opening.last)

  arrived : ArrivedBelow at.before ch (first.0 + parts_of first.1)
  arrived =
      subst (λ (c : ℕ). ArrivedBelow at.before c (opening.mark.number + parts_of opening.mark.message)) opening.on
      (marked_arrived left at.before at.at.run a opening.mark opening.last opening.mark.message refl (inl (sym (ap (λ (o : Option Mark). is_opened (state_at at.before o)) opening.last) ∙ opened)))

  received : IsReceived l (Took k es ds ∷ past) ch first
  received = whole_there left right l (Took k es ds ∷ past) same link ch first (made_grows at.before l at.at.grows ch first made) (below_grows at.before l at.at.grows ch (first.0 + parts_of first.1) arrived)

  -- no more was handed on than was made by then
  few : parts_in (hands ch).done ≤ made_count at.before ch
  few = elim (cases_lt 0 (parts_in (hands ch).done)) [
    | inr q ↦ omega (arith, q)
    | inl q ↦ (
        let p = position_there left right l (Took k es ds ∷ past) same link ch in
        let mapped : map (payload_of ch) p.done ≡ map (payload_of ch) (hands ch).done = sym (wholes_are ch p.done p.later p.i p.rest p.begun) ∙ ap (wholes_from []) (sym p.is) ∙ whole ch in
        let are : p.done ≡ (hands ch).done = same_prefix p.done p.later (hands ch).done (hands ch).later (sym p.split ∙ (hands ch).split)
        (sym (length-map p.done (payload_of ch)) ∙ ap length mapped ∙ length-map (hands ch).done (payload_of ch)) in
        let long : parts_in (hands ch).done < next_of (received_on (Took k es ds ∷ past) ch) =
        omega (arith, applied_length (received_on (Took k es ds ∷ past) ch), ap length p.is, length-append (all_bunches ch p.done) p.rest, bunches_length ch p.done, ap parts_in are, next_low (received_on (Took k es ds ∷ past) ch)) in
        let c = came left.version left right refl (sym same) l (Took k es ds ∷ past) link ch (parts_in (hands ch).done) (below_next (received_on (Took k es ds ∷ past) ch) (parts_in (hands ch).done) q long) in
        let top : c.packet ≤ k = (let t : c.packet ≤ top_of (Took k es ds ∷ past) = among_most (taken_of (Took k es ds ∷ past)) c.packet c.taken in omega (arith, t, fresh, greatest_of-cons k (taken_of past))) in
        made_before left.version left l run c.packet k ch (parts_in (hands ch).done) c.bunch item at c.said top)
  ]

  -- what was handed on was made by then
  by_then : (rest : List Numbered) × (messages_on at.before ch ≡ (hands ch).done ++ rest)
  by_then = elim (two_prefixes (hands ch).done (hands ch).later (messages_on at.before ch) (reverse (at.at.grows.made ch).0)
      (sym (hands ch).split ∙ ap reverse (at.at.grows.made ch).1 ∙ reverse-append (at.at.grows.made ch).0 (on_index ch at.before))) [
        | inl r ↦ r
        | inr r ↦ absurd (omega (arith, few, count_is left at.before at.at.run ch, ap parts_in r.2, parts_append (messages_on at.before ch) (r.0 ∷ r.1), some_parts r.0.1))
      ]

  done : (more : List Numbered) × ((hands ch).done ≡ reverse (first ∷ received.at.older) ++ more)
  done = received_done left l (Took k es ds ∷ past) run hands whole ch first received

  -- what came after the open doesn't mark the actor
  unmarked : AllByRecursion (NoMark a) done.0
  unmarked = all_from (NoMark a) done.0 one
    where
      one : (x : Numbered) (before after : List Numbered) → done.0 ≡ before ++ x ∷ after → NoMark a x
      one x before after e = λ actor it.
          let split : messages_on at.before ch ≡ (reverse (first ∷ received.at.older) ++ before) ++ x ∷ (after ++ by_then.0) =
          by_then.1 ∙ ap (λ (z : List Numbered). z ++ by_then.0) (done.1 ∙ ap (λ (z : List Numbered). reverse (first ∷ received.at.older) ++ z) e ∙ sym (append_assoc (reverse (first ∷ received.at.older)) before (x ∷ after)))
          ∙ append_assoc (reverse (first ∷ received.at.older) ++ before) (x ∷ after) by_then.0 in
          let n : x.0 ≡ parts_in (reverse (first ∷ received.at.older) ++ before) + 1 = number_is left at.before at.at.run ch (reverse (first ∷ received.at.older) ++ before) x (after ++ by_then.0) split in
          let f : first.0 ≡ parts_in (reverse received.at.older) + 1 = number_is left l run ch (reverse received.at.older) first (reverse received.at.newer) (at_place l ch first received.at) in
          let above : first.0 < x.0 = omega (arith, n, f, parts_append (reverse (first ∷ received.at.older)) before, parts_reverse (first ∷ received.at.older), parts_reverse received.at.older, some_parts first.1) in
          let m = marked ch x a actor it at.before (place_at at.before ch (reverse (first ∷ received.at.older) ++ before) x (after ++ by_then.0) split) in
          low x above m.newer m.older m.split (subst Fall m.split (marks_fall left at.before at.at.run a))
        where
          first_is : first.0 ≡ opening.mark.number
          first_is = refl

          low : (x : Numbered) → first.0 < x.0 → (newer older : List Mark) → marks_of at.before a ≡ newer ++ record { channel = ch; number = x.0; message = x.1 } ∷ older → Fall (newer ++ record { channel = ch; number = x.0; message = x.1 } ∷ older) → ⊥
          low x above [] older q fall =
              let is : opening.mark ≡ record { channel = ch; number = x.0; message = x.1 } = some_mark opening.mark (record { channel = ch; number = x.0; message = x.1 }) (sym opening.last ∙ ap (λ (ks : List Mark). slice_get ks 0) q) in
              absurd (omega (arith, above, first_is, ap (λ (z : Mark). z.number) is))
            where
              some_mark : (x y : Mark) → (let o : Option Mark = Some x in o) ≡ Some y → x ≡ y
              some_mark x y e = cc
          low x above (z ∷ newer) older q fall =
              let is : opening.mark ≡ z = some_mark opening.mark z (sym opening.last ∙ ap (λ (ks : List Mark). slice_get ks 0) q) in
              let less : x.0 < z.number = all_mid (λ (y : Mark). y.channel ≡ z.channel → y.number < z.number) newer (record { channel = ch; number = x.0; message = x.1 }) older fall.0 (sym opening.on ∙ ap (λ (y : Mark). y.channel) is) in
              absurd (omega (arith, above, first_is, ap (λ (y : Mark). y.number) is, less))
            where
              some_mark : (x y : Mark) → (let o : Option Mark = Some x in o) ≡ Some y → x ≡ y
              some_mark x y e = cc

  opens_user : user_of (first ∷ received.at.older) ≡ Some a
  opens_user = by opening.mark.message refl opening.opens
    where
      actor : actor_of opening.mark.message ≡ a
      actor = mark_actor a at.before opening.mark opening.last

      by : (m : Message) → opening.mark.message ≡ m → is_opening m ≡ true → user_of ((opening.mark.number, opening.mark.message) ∷ received.at.older) ≡ Some a
      by (Opens exports b class values) e o = ap (λ (m : Message). user_of ((opening.mark.number, m) ∷ received.at.older)) e ∙ ap (λ (x : ℕ). Some x) (sym (ap actor_of e) ∙ actor)
      by (Closes b sleeps) e o = absurd (false≢true o)
      by (Updates b class values) e o = absurd (false≢true o)
      by (Calls b n call args) e o = absurd (false≢true o)
      by (Gone b) e o = absurd (false≢true o)

  pub loose_user : user_at (Took k es ds ∷ past) ch ≡ Some a
  loose_user =
      let turned : reverse (hands ch).done ≡ reverse done.0 ++ first ∷ received.at.older =
      ap reverse done.1 ∙ reverse-append (reverse (first ∷ received.at.older)) done.0 ∙ ap (λ (z : List Numbered). reverse done.0 ++ z) (reverse-reverse (first ∷ received.at.older)) in
      let all : on_index ch at.before ≡ reverse by_then.0 ++ (reverse done.0 ++ first ∷ received.at.older) =
      sym (reverse-reverse (on_index ch at.before)) ∙ ap reverse by_then.1 ∙ reverse-append (hands ch).done by_then.0 ∙ ap (λ (z : List Numbered). reverse by_then.0 ++ z) turned in
      let brackets : Brackets (reverse done.0 ++ first ∷ received.at.older) = brackets_back (reverse by_then.0) (reverse done.0 ++ first ∷ received.at.older) (subst Brackets all (brackets_fit left side at.before at.at.run ch)) in
      user_done (Took k es ds ∷ past) ch (hands ch).done (hands ch).same ∙ ap user_of turned
      ∙ user_stays a (reverse done.0) (first ∷ received.at.older) brackets opens_user (all_reverse (NoMark a) done.0 unmarked)
