-- What a client handed on of each packet that it took, and what it had handed on by then.
use Rattle.std.proofs.Common.{◌≡◌, inl, inr, ℕ, zero, suc, ◌+◌, ◌<◌, ◌≤◌, List, [], ◌∷◌, ◌++◌, length, Bool, true, false, cond, ◌==◌, ◌&&◌, refl, sym, ap, ◌∙◌, subst, arith, append_assoc}
use Rattle.std.specs.List.{filter_map, cons_option, slice_get, list_all, range_with_len, AllByRecursion}
use Rattle.std.specs.Bool.{then_some}
use Rattle.std.proofs.lemmas.Bool.{false≢true, and_from, and_parts, eq-eqb}
use Rattle.std.proofs.lemmas.List.{length-append, length-reverse, length-map}
use Rattle.std.proofs.lemmas.List.Elements.{filter_map-append}
use Rattle.protocol_model.specs.Value.{Segment, Class, Pair}
use Rattle.protocol_model.specs.Payload.{Message, Opens, Closes, Updates, Calls, Gone, parts_of, actor_of}
use Rattle.protocol_model.specs.Search.{is_among}
use Rattle.connection_model.specs.Feed.{End, Past, Deed, Ticked, Made, Waits, Sent, Took, Ended, Item, Entry, Delivered}
use Rattle.connection_model.specs.Fates.{taken_of, top_of, last_sent}
use Rattle.connection_model.specs.Bunches.{has_arrived, have_arrived}
use Rattle.connection_model.specs.State.{Mark, Opened, Opening, is_mark, mark_in, last_mark, state_of, state_at, state_after, closed_as, is_opened}
use Rattle.connection_model.specs.Windows.{received_on, wholes_of}
use Rattle.connection_model.specs.Copies.{delivered_of}
use Rattle.connection_laws.specs.Run.{IsRun}
use Rattle.connection_laws.specs.Deeds.{FitsBefore, DeedsFit}
use Rattle.connection_laws.specs.Delivered.{on_index, Numbered, numbered_in, messages_on, payload_of, handed_reliably, HandsReceived}
use Rattle.connection_laws.proofs.Deeds.{deeds_fit}
use Rattle.connection_laws.proofs.Searches.{among_cons, among_here, among_there, among_most}
use Rattle.connection_laws.proofs.Items.{all_append}
use Rattle.connection_laws.proofs.Receiving.{has}
use Rattle.connection_laws.proofs.LinkedEnds.{Both, both, left_run, right_run}
use Rattle.connection_laws.proofs.LinkLaws.{applies_there, receives_there}
use Rattle.headline_laws.specs.Whole.{ArrivedBelow}
use Rattle.headline_laws.proofs.ReceivedFirst.{arrived_each, open_arrived}
use Rattle.recovery_laws.specs.Faithful.{AppliesPacket, AppliesLoose}
use Rattle.headline_laws.proofs.CameInPackets.{came, CameIn}
use Rattle.recovery_laws.proofs.Moments.{Moment}
use Rattle.recovery_laws.proofs.ArrivalsKnown.{arrivals_stay, read_lengths, received_count, first_received}
use Rattle.recovery_laws.proofs.FoundOpens.{begins_open, OpenedAt}
use Rattle.recovery_laws.proofs.SentPackets.{SentAt, sent_at, sent_least, made_before, made_before_at, made_when_carried}
use Rattle.recovery_laws.proofs.HandedTrail.{from_index}

-- ---- where a packet was taken

-- where packet k was taken
pub record TookAt (past : Past) (k : ℕ) : Type 0 where
  pub later : Past
  pub entries : List Entry
  pub handed : List Delivered
  pub before : Past
  pub split : past ≡ later ++ Took k entries handed ∷ before

-- what was taken below a deed was taken
took_behind : (past : Past) (k : ℕ) (deed : Deed) → TookAt past k → TookAt (deed ∷ past) k
took_behind past k deed t = record { later = deed ∷ t.later; entries = t.entries; handed = t.handed; before = t.before; split = ap (λ (l : Past). deed ∷ l) t.split }

-- each packet taken was taken somewhere
pub took_at : (past : Past) (k : ℕ) → is_among k (taken_of past) ≡ true → TookAt past k
took_at [] k h = absurd (false≢true h)
took_at (Ticked t s ∷ past) k h = took_behind past k (Ticked t s) (took_at past k h)
took_at (Made c n m i ∷ past) k h = took_behind past k (Made c n m i) (took_at past k h)
took_at (Waits m ∷ past) k h = took_behind past k (Waits m) (took_at past k h)
took_at (Sent n t items ∷ past) k h = took_behind past k (Sent n t items) (took_at past k h)
took_at (Ended g ∷ past) k h = took_behind past k (Ended g) (took_at past k h)
took_at (Took n es ds ∷ past) k h = elim (among_cons n (taken_of past) k h) [
  | inl e ↦ record { later = []; entries = es; handed = ds; before = past; split = ap (λ (x : ℕ). Took x es ds ∷ past) e }
  | inr q ↦ took_behind past k (Took n es ds) (took_at past k q)
]

-- a packet that was taken in the middle is among those taken
took_least : (later : Past) (k : ℕ) (es : List Entry) (ds : List Delivered) (before : Past) → is_among k (taken_of (later ++ Took k es ds ∷ before)) ≡ true
took_least [] k es ds before = among_here k (taken_of before) k refl
took_least (Ticked t s ∷ later) k es ds before = took_least later k es ds before
took_least (Made c n m i ∷ later) k es ds before = took_least later k es ds before
took_least (Waits m ∷ later) k es ds before = took_least later k es ds before
took_least (Sent n t items ∷ later) k es ds before = took_least later k es ds before
took_least (Ended g ∷ later) k es ds before = took_least later k es ds before
took_least (Took n xs zs ∷ later) k es ds before = among_there n (taken_of (later ++ Took k es ds ∷ before)) k (took_least later k es ds before)

-- what was handed on by all packets taken after it
pub later_packets : (Q : Message → Type 0) (end : End) (from : Past) (k : ℕ) → ((n : ℕ) → k < n → (ds : List Delivered) → (es : List Entry) (before : Past) → AppliesPacket from before (Took n es ds) → AllByRecursion (λ (d : Delivered). d.reliable ≡ false → Q d.message) ds)
    → (later : Past) (es : List Entry) (ds : List Delivered) (before : Past) → DeedsFit end (later ++ Took k es ds ∷ before) → AppliesLoose from (later ++ Took k es ds ∷ before)
    → AllByRecursion (λ (d : Delivered). d.reliable ≡ false → Q d.message) (delivered_of later)
later_packets Q end from k each [] es ds before fit loose = tt
later_packets Q end from k each (Ticked t s ∷ later) es ds before fit loose = later_packets Q end from k each later es ds before fit.1 loose.1
later_packets Q end from k each (Made c n m i ∷ later) es ds before fit loose = later_packets Q end from k each later es ds before fit.1 loose.1
later_packets Q end from k each (Waits m ∷ later) es ds before fit loose = later_packets Q end from k each later es ds before fit.1 loose.1
later_packets Q end from k each (Sent n t items ∷ later) es ds before fit loose = later_packets Q end from k each later es ds before fit.1 loose.1
later_packets Q end from k each (Ended g ∷ later) es ds before fit loose = later_packets Q end from k each later es ds before fit.1 loose.1
later_packets Q end from k each (Took n xs zs ∷ later) es ds before fit loose =
    let above : k ≤ top_of (later ++ Took k es ds ∷ before) = among_most (taken_of (later ++ Took k es ds ∷ before)) k (took_least later k es ds before) in
    all_append (λ (d : Delivered). d.reliable ≡ false → Q d.message) zs (delivered_of later)
    (each n (omega (arith, fit.0, above)) zs xs (later ++ Took k es ds ∷ before) loose.0) (later_packets Q end from k each later es ds before fit.1 loose.1)

-- ---- how many were handed on

-- of each index as many payloads were handed on as were received whole
pub handed_count : (end : End) (past : Past) (ch : ℕ) → HandsReceived end past → length (from_index ch (delivered_of past)) ≡ length (wholes_of past ch)
handed_count end past ch h = sym (length-reverse (from_index ch (delivered_of past))) ∙ read_lengths end (handed_reliably past ch) (wholes_of past ch) (h ch)

-- the messages of an index, over two pasts
pub index_append : (ch : ℕ) (more past : Past) → on_index ch (more ++ past) ≡ on_index ch more ++ on_index ch past
index_append ch more past = filter_map-append (numbered_in ch) more past

-- what the index has of the open that was made last
pub opened_index : (past : Past) (a : ℕ) (o : OpenedAt past a) → on_index o.channel past ≡ on_index o.channel o.newer ++ (o.number, Opens o.exports a o.class o.values) ∷ on_index o.channel o.older
opened_index past a o =
    ap (on_index o.channel) o.split ∙ index_append o.channel o.newer (Made o.channel o.number (Opens o.exports a o.class o.values) 0 ∷ o.older)
    ∙ ap (λ (t : Bool). on_index o.channel o.newer ++ cons_option (then_some (t && true) (o.number, Opens o.exports a o.class o.values)) (on_index o.channel o.older)) (eq-eqb o.channel o.channel refl)

-- a list's end that is long enough has the item
pub end_has : (xs ys newer : List Numbered) (made : Numbered) (older : List Numbered) → xs ++ ys ≡ newer ++ made ∷ older → length older < length ys → (rest : List Numbered) × (ys ≡ rest ++ made ∷ older)
end_has [] ys newer made older e lt = (newer, e)
end_has (x ∷ xs) ys [] made older e lt = absurd (omega (arith, lt, ap length e, length-append xs ys))
end_has (x ∷ xs) ys (y ∷ newer) made older e lt = end_has xs ys newer made older (same_tail x y (xs ++ ys) (newer ++ made ∷ older) e) lt
  where
    same_tail : (x y : Numbered) (xs ys : List Numbered) → x ∷ xs ≡ y ∷ ys → xs ≡ ys
    same_tail x y xs ys e = cc

-- ---- the state when an update was sent

-- a channel that closes isn't opened
closed_unopened : (t s : Bool) → is_opened (closed_as t s) ≡ false
closed_unopened false s = refl
closed_unopened true true = refl
closed_unopened true false = refl

-- only an open leaves an actor opened
pub unopened : (whole : Past) (mark : Mark) (m : Message) → ((exports : List Segment) (actor : ℕ) (class : Class) (values : List Pair) → m ≡ Opens exports actor class values → ⊥) → is_opened (state_after whole mark m) ≡ false
unopened whole mark (Opens exports actor class values) h = absurd (h exports actor class values refl)
unopened whole mark (Closes actor sleeps) h = closed_unopened (have_arrived whole mark.channel 1 mark.number) sleeps
unopened whole mark (Updates actor class values) h = refl
unopened whole mark (Calls actor number call args) h = refl
unopened whole mark (Gone actor) h = refl

opened_by : (t : Bool) → is_opened (cond t Opened Opening) ≡ true → t ≡ true
opened_by true e = refl
opened_by false e = absurd (false≢true e)

-- where an actor is opened, its open is the last mark
pub opened_mark : (whole : Past) (a : ℕ) (newer : Past) (ch n : ℕ) (exports : List Segment) (class : Class) (values : List Pair) (older : Past) → AllByRecursion (λ (d : Deed). begins_open a d ≡ false) newer
    → is_opened (state_at whole (last_mark (newer ++ Made ch n (Opens exports a class values) 0 ∷ older) a)) ≡ true → have_arrived whole ch n (parts_of (Opens exports a class values)) ≡ true
opened_mark whole a [] ch n exports class values older none h =
    opened_by (have_arrived whole ch n (parts_of (Opens exports a class values)))
    (sym (ap (λ (t : Bool). is_opened (state_at whole (slice_get (cons_option (then_some ((t && true) && true) (let mark : Mark = record { channel = ch; number = n; message = Opens exports a class values } in mark)) (filter_map (mark_in a) older)) 0))) (eq-eqb a a refl)) ∙ h)
opened_mark whole a (Made c x m i ∷ newer) ch n exports class values older none h =
    by ((actor_of m == a) && is_mark m && (i == 0)) refl h (λ q. opened_mark whole a newer ch n exports class values older none.1 q)
  where
    other : (m : Message) → begins_open a (Made c x m i) ≡ false → ((actor_of m == a) && is_mark m && (i == 0)) ≡ true → (es : List Segment) (b : ℕ) (k : Class) (vs : List Pair) → m ≡ Opens es b k vs → ⊥
    other (Opens es b k vs) free t fs b' k' ws e =
        let p = and_parts ((b == a) && true) (i == 0) t in
        absurd (false≢true (sym free ∙ and_from (b == a) (i == 0) (and_parts (b == a) true p.0).0 p.1))
    other (Closes b s) free t fs b' k' ws e = cc
    other (Updates b k vs) free t fs b' k' ws e = cc
    other (Calls b y k vs) free t fs b' k' ws e = cc
    other (Gone b) free t fs b' k' ws e = cc

    by : (t : Bool) → ((actor_of m == a) && is_mark m && (i == 0)) ≡ t
        → is_opened (state_at whole (slice_get (cons_option (then_some t (let mark : Mark = record { channel = c; number = x; message = m } in mark)) (filter_map (mark_in a) (newer ++ Made ch n (Opens exports a class values) 0 ∷ older))) 0)) ≡ true
        → (is_opened (state_at whole (last_mark (newer ++ Made ch n (Opens exports a class values) 0 ∷ older) a)) ≡ true → have_arrived whole ch n (parts_of (Opens exports a class values)) ≡ true)
        → have_arrived whole ch n (parts_of (Opens exports a class values)) ≡ true
    by false t q ih = ih q
    by true t q ih = absurd (false≢true (sym (unopened whole (record { channel = c; number = x; message = m }) m (other m none.0 t)) ∙ q))
opened_mark whole a (Ticked t s ∷ newer) ch n exports class values older none h = opened_mark whole a newer ch n exports class values older none.1 h
opened_mark whole a (Waits m ∷ newer) ch n exports class values older none h = opened_mark whole a newer ch n exports class values older none.1 h
opened_mark whole a (Sent x t items ∷ newer) ch n exports class values older none h = opened_mark whole a newer ch n exports class values older none.1 h
opened_mark whole a (Took x es ds ∷ newer) ch n exports class values older none h = opened_mark whole a newer ch n exports class values older none.1 h
opened_mark whole a (Ended g ∷ newer) ch n exports class values older none h = opened_mark whole a newer ch n exports class values older none.1 h

-- ---- places of packets are one

-- a packet is sent once
sent_once : (end : End) (k : ℕ) (xs : Past) (t : ℕ) (items : List Item) (ys us : Past) (u : ℕ) (others : List Item) (vs : Past) → DeedsFit end (xs ++ Sent k t items ∷ ys) → xs ++ Sent k t items ∷ ys ≡ us ++ Sent k u others ∷ vs
    → (ys ≡ vs) × (items ≡ others)
sent_once end k [] t items ys [] u others vs fit e = ((let q : ys ≡ vs = cc in q), (let q : items ≡ others = cc in q))
sent_once end k [] t items ys (x ∷ us) u others vs fit e =
    let tail : ys ≡ us ++ Sent k u others ∷ vs = cc in
    absurd (omega (arith, fit.0.0, ap last_sent tail, sent_least us k u others vs))
sent_once end k (x ∷ xs) t items ys [] u others vs fit e =
    let tail : xs ++ Sent k t items ∷ ys ≡ vs = cc in
    let head : x ≡ Sent k u others = cc in
    let first : FitsBefore end (xs ++ Sent k t items ∷ ys) (Sent k u others) = subst (FitsBefore end (xs ++ Sent k t items ∷ ys)) head fit.0 in
    absurd (omega (arith, first.0, sent_least xs k t items ys))
sent_once end k (x ∷ xs) t items ys (y ∷ us) u others vs fit e =
    sent_once end k xs t items ys us u others vs fit.1 (let q : xs ++ Sent k t items ∷ ys ≡ us ++ Sent k u others ∷ vs = cc in q)

-- ---- what is known of the client when a packet was sent or taken

-- each bunch from one on has arrived
each_arrived : (past : Past) (ch count from : ℕ) → ((i : ℕ) → from ≤ i → i < from + count → has_arrived past ch i ≡ true) → list_all (has_arrived past ch) (range_with_len from count) ≡ true
each_arrived past ch zero from h = refl
each_arrived past ch (suc count) from h =
    and_from (has_arrived past ch from) (list_all (has_arrived past ch) (range_with_len (from + 1) count)) (h from (omega arith) (omega arith)) (each_arrived past ch count (from + 1) (λ i lo hi. h i (omega (arith, lo)) (omega (arith, hi))))

module _ (left right : End) (same : left.version ≡ right.version) (from : Past) (fit : DeedsFit left from) where
  -- an open that had arrived when packet k was sent was handed on when the client took it
  pub open_handed : (a ch n : ℕ) (exports : List Segment) (class : Class) (values : List Pair) (later : Past) (k t : ℕ) (items : List Item) (newer older : Past)
      → from ≡ later ++ Sent k t items ∷ (newer ++ Made ch n (Opens exports a class values) 0 ∷ older) → AllByRecursion (λ (d : Deed). begins_open a d ≡ false) newer
      → is_opened (state_of (newer ++ Made ch n (Opens exports a class values) 0 ∷ older) a) ≡ true → (before after : Past) → Moment left right from before after k → 1 ≤ k
      → length (on_index ch older) < length (from_index ch (delivered_of before))
  open_handed a ch n exports class values later k t items newer older split none opened before after m low = by (sent_at left m.server server_fit k low m.sent)
    where
      run : IsRun left m.server
      run = left_run left right m.server before m.link

      server_fit : DeedsFit left m.server
      server_fit = deeds_fit left m.server run

      past : Past
      past = newer ++ Made ch n (Opens exports a class values) 0 ∷ older

      by : SentAt m.server k → length (on_index ch older) < length (from_index ch (delivered_of before))
      by s =
          let whole : later ++ Sent k t items ∷ past ≡ (m.more ++ s.later) ++ Sent k s.tick s.items ∷ s.earlier =
          sym split ∙ m.grown ∙ ap (λ (l : Past). m.more ++ l) s.split ∙ sym (append_assoc m.more s.later (Sent k s.tick s.items ∷ s.earlier)) in
          let there = sent_once left k later t items past (m.more ++ s.later) s.tick s.items s.earlier (subst (DeedsFit left) split fit) whole in
          let is : m.server ≡ s.later ++ Sent k s.tick s.items ∷ past = s.split ∙ ap (λ (l : Past). s.later ++ Sent k s.tick s.items ∷ l) (sym there.0) in
          let was : have_arrived past ch n (parts_of (Opens exports a class values)) ≡ true = opened_mark past a newer ch n exports class values older none opened in
          let now : have_arrived m.server ch n (parts_of (Opens exports a class values)) ≡ true =
          each_arrived m.server ch (parts_of (Opens exports a class values)) n
          (λ i lo hi. arrivals_stay left m.server run s.later k s.tick s.items past is ch i (arrived_each past ch (parts_of (Opens exports a class values)) n was i lo hi)) in
          let front : Past = s.later ++ Sent k s.tick s.items ∷ newer in
          let index : on_index ch m.server ≡ on_index ch front ++ (n, Opens exports a class values) ∷ on_index ch older =
          ap (on_index ch) (is ∙ sym (append_assoc s.later (Sent k s.tick s.items ∷ newer) (Made ch n (Opens exports a class values) 0 ∷ older)))
          ∙ index_append ch front (Made ch n (Opens exports a class values) 0 ∷ older)
          ∙ ap (λ (b : Bool). on_index ch front ++ cons_option (then_some (b && true) (n, Opens exports a class values)) (on_index ch older)) (eq-eqb ch ch refl) in
          let below : ArrivedBelow m.server ch (n + parts_of (Opens exports a class values)) =
          open_arrived left m.server run ch (n, Opens exports a class values) (record { newer = on_index ch front; older = on_index ch older; split = index }) refl now in
          let both_ends : Both left.version m.server before = both left.version left right refl (sym same) m.server before m.link in
          let count = received_count left.version left m.server before run both_ends.out (applies_there left right m.server before same m.link) ch (on_index ch front) (n, Opens exports a class values) (on_index ch older) index below in
          omega (arith, count, handed_count right before ch m.hands)

  -- where a message was handed on by the end of packet k, packet k was sent after it was made
  pub made_then : (ch n : ℕ) (message : Message) (newer older : List Numbered) → on_index ch from ≡ newer ++ (n, message) ∷ older → (k : ℕ) (entries : List Entry) (handed : List Delivered) (before : Past)
      → Moment left right from before (Took k entries handed ∷ before) k → length older < length (from_index ch (delivered_of (Took k entries handed ∷ before))) → n ≤ made_before from k ch
  made_then ch n message newer older split k entries handed before m few =
      let after : Past = Took k entries handed ∷ before in
      let run : IsRun left m.server = left_run left right m.server before m.link in
      let few_wholes : length older < length (wholes_of after ch) = omega (arith, few, handed_count right after ch m.hands_after) in
      let p = receives_there left right m.server after same m.link_after ch in
      let long : length older < length (on_index ch m.server) =
      omega (arith, few_wholes, ap length p.1, length-append (wholes_of after ch) p.0, length-map (messages_on m.server ch) (payload_of ch), length-reverse (on_index ch m.server)) in
      let all : on_index ch m.more ++ on_index ch m.server ≡ newer ++ (n, message) ∷ older = sym (index_append ch m.more m.server) ∙ ap (on_index ch) (sym m.grown) ∙ split in
      let there = end_has (on_index ch m.more) (on_index ch m.server) newer (n, message) older all long in
      let both_ends : Both left.version m.server after = both left.version left right refl (sym same) m.server after m.link_after in
      let got : has (received_on after ch) n ≡ true =
      first_received left.version left m.server after run both_ends.out (applies_there left right m.server after same m.link_after) ch there.0 (n, message) older there.1 few_wholes in
      let c : CameIn left.version m.server after ch n = came left.version left right refl (sym same) m.server after m.link_after ch n got in
      let top : top_of before < k = (deeds_fit right after (right_run left right m.server after m.link_after)).0 in
      let le : c.packet ≤ k = elim (among_cons k (taken_of before) c.packet c.taken) [ inl e ↦ omega (arith, e) | inr q ↦ omega (arith, top, among_most (taken_of before) c.packet q) ] in
      let server_fit : DeedsFit left m.server = deeds_fit left m.server run in
      let n_le : n ≤ made_before m.server k ch = made_when_carried left.version left m.server server_fit ch n c.packet k c.bunch c.said le (omega (arith, top)) m.sent in
      let s = sent_at left m.server server_fit k (omega (arith, top)) m.sent in
      let whole : from ≡ (m.more ++ s.later) ++ Sent k s.tick s.items ∷ s.earlier = m.grown ∙ ap (λ (l : Past). m.more ++ l) s.split ∙ sym (append_assoc m.more s.later (Sent k s.tick s.items ∷ s.earlier)) in
      omega (
        arith,
        n_le,
        ap (λ (p : Past). made_before p k ch) s.split,
        made_before_at left s.later k s.tick s.items s.earlier (subst (DeedsFit left) s.split server_fit) ch,
        ap (λ (p : Past). made_before p k ch) whole,
        made_before_at left (m.more ++ s.later) k s.tick s.items s.earlier (subst (DeedsFit left) whole fit) ch,
      )
