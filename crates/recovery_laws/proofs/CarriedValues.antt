-- A carry that has arrived is the copy's value.
use Rattle.std.proofs.Common.{◌≡◌, inl, inr, ℕ, ◌<◌, ◌≤◌, List, [], ◌∷◌, ◌++◌, length, Bool, true, false, cond, ◌==◌, ◌&&◌, refl, sym, ap, ◌∙◌, subst, arith, Option, Some, None, ℤ, append_assoc}
use Rattle.std.specs.List.{filter_map, AllByRecursion}
use Rattle.std.specs.Bool.{then_some}
use Rattle.std.proofs.lemmas.Bool.{cases_lt, eq-eqb, eqb-true}
use Rattle.std.proofs.lemmas.List.{length-append}
use Rattle.std.proofs.lemmas.List.Concat.{flat_map-append}
use Rattle.protocol_model.specs.Value.{Pair, value_among}
use Rattle.protocol_model.specs.Payload.{Message, Opens, Closes, Updates, Calls, Gone}
use Rattle.protocol_model.specs.Search.{is_among, newest_of, or_else}
use Rattle.connection_model.specs.Feed.{End, Past, Deed, Ticked, Made, Waits, Sent, Took, Ended, Item, Owed, Carries, Loose, Delivered}
use Rattle.connection_model.specs.Fates.{top_of, moved_of}
use Rattle.connection_model.specs.State.{state_of, is_opened}
use Rattle.connection_model.specs.Carry.{Carry, carry_in, value_in_update, open_values, update_carry, carry_of}
use Rattle.connection_model.specs.Copies.{delivered_of, handed_in, removes, value_applied, copy_value}
use Rattle.connection_laws.specs.Run.{MaySend, MaySendAll}
use Rattle.connection_laws.specs.Deeds.{FitsBefore, DeedsFit}
use Rattle.connection_laws.specs.Link.{IsLink}
use Rattle.connection_laws.specs.Delivered.{on_index, Numbered}
use Rattle.connection_laws.specs.InTurn.{FitsUse, Brackets, BracketsFit}
use Rattle.connection_laws.proofs.Deeds.{each_at, deeds_fit}
use Rattle.connection_laws.proofs.Items.{all_append, all_weaker}
use Rattle.connection_laws.proofs.PacketsSay.{IsIn, in_right, all_at, in_middle}
use Rattle.connection_laws.proofs.AcksTaken.{done_taken}
use Rattle.connection_laws.proofs.LinkedEnds.{Both, both, left_run, right_run}
use Rattle.headline_laws.proofs.WholeMessages.{longer}
use Rattle.recovery_laws.specs.Faithful.{items_of, loose_in, loose_of, AppliesPacket, AppliesLoose}
use Rattle.recovery_laws.proofs.Moments.{Moment, MomentAt, Moments}
use Rattle.recovery_laws.proofs.FoundOpens.{FoundIn, newest_found, newest_none, begins_open, OpenedAt, Front, front_of}
use Rattle.recovery_laws.proofs.SentPackets.{SentHas, items_at, items_after, items_behind, made_before}
use Rattle.recovery_laws.proofs.LooseValues.{value_said, IsOneOf, PlainItem, items_plain, loose_say, loose_one, handed_all, handed_each}
use Rattle.recovery_laws.specs.Initial.{IsQuietOf}
use Rattle.recovery_laws.proofs.NewestPayloads.{value_is, quiet_stays, removes_said, opens_said}
use Rattle.recovery_laws.proofs.HandedTrail.{same_end, from_index, from_append, Trail, all_handed, all_first, all_second, among_from, HandedAt, handed_at, handed_is}
use Rattle.recovery_laws.proofs.HandedInOrder.{TookAt, took_at, later_packets, opened_index, open_handed, made_then}

-- what holds of each item of a list holds of all by recursion
pub all_by_among : {A : Type 0} (P : A → Type 0) (xs : List A) → ((x : A) → IsIn x xs → P x) → AllByRecursion P xs
all_by_among P [] h = tt
all_by_among P (x ∷ xs) h = (h x (inl refl), all_by_among P xs (λ y q. h y (inr q)))

-- ---- no update is reliable

-- the message is no update
abbrev pub NoUpdate : Message → Type 0
NoUpdate (Opens exports actor class values) = Unit {0}
NoUpdate (Closes actor sleeps) = Unit {0}
NoUpdate (Updates actor class values) = ⊥
NoUpdate (Calls actor number call args) = Unit {0}
NoUpdate (Gone actor) = Unit {0}

-- a reliable message is no update
no_update : (before : List Numbered) (m : Message) → FitsUse before m → NoUpdate m
no_update before (Opens exports actor class values) h = tt
no_update before (Closes actor sleeps) h = tt
no_update before (Updates actor class values) h = h
no_update before (Calls actor number call args) h = tt
no_update before (Gone actor) h = tt

-- nor are the messages of an index
no_updates : (ms : List Numbered) → Brackets ms → AllByRecursion (λ (x : Numbered). NoUpdate x.1) ms
no_updates [] h = tt
no_updates (made ∷ before) h = (no_update before made.1 h.0, no_updates before h.1)

-- what was handed on reliably is no update
pub reliables : (server client : Past) → BracketsFit server → ((ch : ℕ) → Trail server client ch) → AllByRecursion (λ (d : Delivered). d.reliable ≡ true → NoUpdate d.message) (delivered_of client)
reliables server client fit trails = all_by_among (λ (d : Delivered). d.reliable ≡ true → NoUpdate d.message) (delivered_of client) one
  where
    one : (d : Delivered) → IsIn d (delivered_of client) → d.reliable ≡ true → NoUpdate d.message
    one d a r =
        among_from (λ (x : Delivered). NoUpdate x.message) d.channel (delivered_of client)
        (all_handed NoUpdate server client d.channel (trails d.channel) (no_updates (on_index d.channel server) (fit d.channel))) d a
        (ap (λ (t : Bool). (d.channel == d.channel) && t) r ∙ ap (λ (t : Bool). t && true) (eq-eqb d.channel d.channel refl))

-- ---- what the payloads say

-- a message that neither opens nor updates the actor sets nothing
quiet_says : (a h : ℕ) (m : Message) → NoUpdate m → opens_said a m ≡ None → value_said a h m ≡ None
quiet_says a h (Opens exports actor class values) n e = by (actor == a) e
  where
    by : (t : Bool) → then_some t class ≡ None → cond t (value_among values h) None ≡ None
    by true e = absurd (let never : Some class ≡ None = e in cc)
    by false e = refl
quiet_says a h (Closes actor sleeps) n e = refl
quiet_says a h (Updates actor class values) n e = absurd n
quiet_says a h (Calls actor number call args) n e = refl
quiet_says a h (Gone actor) n e = refl

-- of an actor's quiet payloads, each that sets the handle sets this value
pub says_one : (a h : ℕ) (v : ℤ) (ds : List Delivered) → AllByRecursion (IsQuietOf a) ds → AllByRecursion (λ (d : Delivered). d.reliable ≡ true → NoUpdate d.message) ds
    → AllByRecursion (λ (d : Delivered). d.reliable ≡ false → IsOneOf v (value_said a h d.message)) ds → AllByRecursion (λ (d : Delivered). IsOneOf v (value_applied a h d)) ds
says_one a h v [] q r l = tt
says_one a h v (d ∷ ds) q r l = (by d.reliable refl, says_one a h v ds q.1 r.1 l.1)
  where
    by : (t : Bool) → d.reliable ≡ t → IsOneOf v (value_applied a h d)
    by true e = inl (quiet_says a h d.message (r.0 e) q.0.1)
    by false e = l.0 e

-- ---- an update in a packet

-- its actor was opened when the packet was sent
pub update_opened : (end : End) (past : Past) (a h : ℕ) (item : Item) (v : ℤ) → value_in_update a h item ≡ Some v → MaySend end past item → is_opened (state_of past a) ≡ true
update_opened end past a h (Owed number) v e may = absurd (let never : (let o : Option ℤ = None in o) ≡ Some v = e in cc)
update_opened end past a h (Carries c n b) v e may = absurd (let never : (let o : Option ℤ = None in o) ≡ Some v = e in cc)
update_opened end past a h (Loose (Opens exports actor class values) b) v e may = absurd may.2
update_opened end past a h (Loose (Closes actor sleeps) b) v e may = absurd may.2
update_opened end past a h (Loose (Gone actor) b) v e may = absurd may.2
update_opened end past a h (Loose (Calls actor number call args) b) v e may = absurd (let never : (let o : Option ℤ = None in o) ≡ Some v = e in cc)
update_opened end past a h (Loose (Updates actor class values) b) v e may = by (actor == a) refl e
  where
    by : (t : Bool) → (actor == a) ≡ t → cond t (value_among values h) None ≡ Some v → is_opened (state_of past a) ≡ true
    by true q e = subst (λ (x : ℕ). is_opened (state_of past x) ≡ true) (eqb-true actor a q) may.2.0
    by false q e = absurd (let never : (let o : Option ℤ = None in o) ≡ Some v = e in cc)

-- the items of one packet agree on each handle of an actor
abbrev pub SameValues : List Item → Type 0
SameValues items = (a h : ℕ) (v w : ℤ) (x y : Item) → IsIn x items → IsIn y items → value_in_update a h x ≡ Some v → value_in_update a h y ≡ Some w → v ≡ w

-- none of these says anything of the handle
abbrev pub SaysNothing : (actor handle : ℕ) → List Item → Type 0
SaysNothing a h items = AllByRecursion (λ (item : Item). value_in_update a h item ≡ None) items

-- a deed without a carry sends nothing for the handle
says_nothing : (a h : ℕ) (deed : Deed) → update_carry a h deed ≡ None → SentHas (SaysNothing a h) deed
says_nothing a h (Sent n t items) e = newest_none (value_in_update a h) items (by (newest_of (value_in_update a h) items) refl e)
  where
    by : (o : Option ℤ) → newest_of (value_in_update a h) items ≡ o → carry_in (Some n) o ≡ None → newest_of (value_in_update a h) items ≡ None
    by None q e = q
    by (Some v) q e = absurd (let never : (let o : Option Carry = Some (record { packet = Some n; value = v }) in o) ≡ None = e in cc)
says_nothing a h (Ticked t s) e = tt
says_nothing a h (Made c n m i) e = tt
says_nothing a h (Waits m) e = tt
says_nothing a h (Took n es ds) e = tt
says_nothing a h (Ended g) e = tt

-- nor do deeds without one
all_nothing : (a h : ℕ) (past : Past) → AllByRecursion (λ (d : Deed). update_carry a h d ≡ None) past → AllByRecursion (SentHas (SaysNothing a h)) past
all_nothing a h past all = all_weaker (λ (d : Deed). update_carry a h d ≡ None) (SentHas (SaysNothing a h)) (λ d e. says_nothing a h d e) past all

-- a packet whose update is the carry
record CarriedBy (a h : ℕ) (deed : Deed) (c : Carry) : Type 0 where
  number : ℕ
  tick : ℕ
  items : List Item
  is : deed ≡ Sent number tick items
  packet : c.packet ≡ Some number
  value : newest_of (value_in_update a h) items ≡ Some c.value

-- where a deed carries the handle, an item of its packet does
carried_by : (a h : ℕ) (deed : Deed) (c : Carry) → update_carry a h deed ≡ Some c → CarriedBy a h deed c
carried_by a h (Sent n t items) c e = by (newest_of (value_in_update a h) items) refl e
  where
    same : (x y : Carry) → (let o : Option Carry = Some x in o) ≡ Some y → x ≡ y
    same x y q = cc

    by : (o : Option ℤ) → newest_of (value_in_update a h) items ≡ o → carry_in (Some n) o ≡ Some c → CarriedBy a h (Sent n t items) c
    by None q e = absurd (let never : (let o : Option Carry = None in o) ≡ Some c = e in cc)
    by (Some v) q e =
        let is : record { packet = Some n; value = v } ≡ c = same (record { packet = Some n; value = v }) c e in
        record { number = n; tick = t; items = items; is = refl; packet = ap (λ (x : Carry). x.packet) (sym is); value = q ∙ ap (λ (x : Carry). Some x.value) is }
carried_by a h (Ticked t s) c e = absurd (let never : (let o : Option Carry = None in o) ≡ Some c = e in cc)
carried_by a h (Made d n m i) c e = absurd (let never : (let o : Option Carry = None in o) ≡ Some c = e in cc)
carried_by a h (Waits m) c e = absurd (let never : (let o : Option Carry = None in o) ≡ Some c = e in cc)
carried_by a h (Took n es ds) c e = absurd (let never : (let o : Option Carry = None in o) ≡ Some c = e in cc)
carried_by a h (Ended g) c e = absurd (let never : (let o : Option Carry = None in o) ≡ Some c = e in cc)

-- ---- what was handed on after the open

module _ (left right : End) (same : left.version ≡ right.version) (server : Past) (fit : DeedsFit left server) (ch n : ℕ) (message : Message) (newer older : List Numbered) (index : on_index ch server ≡ newer ++ (n, message) ∷ older)
    (Q : Message → Type 0) (each : (k : ℕ) → n ≤ made_before server k ch → AllByRecursion Q (loose_of server k)) where
  pub late_packets : (client : Past) → Moments left right server client → AppliesLoose server client → (after before : List Delivered) → delivered_of client ≡ after ++ before → length older < length (from_index ch before)
      → AllByRecursion (λ (d : Delivered). d.reliable ≡ false → Q d.message) after
  late_packets [] ms loose [] before e few = tt
  late_packets [] ms loose (d ∷ after) before e few = absurd (cc)
  late_packets (Ticked t s ∷ past) ms loose after before e few = late_packets past ms.1 loose.1 after before e few
  late_packets (Made c x m i ∷ past) ms loose after before e few = late_packets past ms.1 loose.1 after before e few
  late_packets (Waits m ∷ past) ms loose after before e few = late_packets past ms.1 loose.1 after before e few
  late_packets (Sent x t items ∷ past) ms loose after before e few = late_packets past ms.1 loose.1 after before e few
  late_packets (Ended g ∷ past) ms loose after before e few = late_packets past ms.1 loose.1 after before e few
  late_packets (Took k es ds ∷ past) ms loose after before e few =
      let count : length older < length (from_index ch (ds ++ delivered_of past)) =
      omega (arith, few, ap (λ (l : List Delivered). length (from_index ch l)) e, ap length (from_append ch after before), length-append (from_index ch after) (from_index ch before)) in
      let here : AllByRecursion (λ (d : Delivered). d.reliable ≡ false → Q d.message) ds =
      handed_all Q ds (loose_of server k) loose.0 (each k (made_then left right same server fit ch n message newer older index k es ds past ms.0 count)) in
      elim (cases_lt (length after) (length ds)) [
        | inl lt ↦ within here (longer ds (delivered_of past) after before e (omega (arith, lt)))
        | inr ge ↦ beyond here (longer after before ds (delivered_of past) (sym e) ge) (λ more q. late_packets past ms.1 loose.1 more before q few)
      ]
    where
      within : AllByRecursion (λ (d : Delivered). d.reliable ≡ false → Q d.message) ds → (more : List Delivered) × (ds ≡ after ++ more) → AllByRecursion (λ (d : Delivered). d.reliable ≡ false → Q d.message) after
      within here m = all_first (λ (d : Delivered). d.reliable ≡ false → Q d.message) after m.0 (subst (AllByRecursion (λ (d : Delivered). d.reliable ≡ false → Q d.message)) m.1 here)

      beyond : AllByRecursion (λ (d : Delivered). d.reliable ≡ false → Q d.message) ds → (more : List Delivered) × (after ≡ ds ++ more)
          → ((more : List Delivered) → delivered_of past ≡ more ++ before → AllByRecursion (λ (d : Delivered). d.reliable ≡ false → Q d.message) more) → AllByRecursion (λ (d : Delivered). d.reliable ≡ false → Q d.message) after
      beyond here m ih =
          subst (AllByRecursion (λ (d : Delivered). d.reliable ≡ false → Q d.message)) (sym m.1)
          (all_append (λ (d : Delivered). d.reliable ≡ false → Q d.message) ds m.0 here
          (ih m.0 (same_end ds (delivered_of past) (m.0 ++ before) (e ∙ ap (λ (l : List Delivered). l ++ before) m.1 ∙ append_assoc ds m.0 before))))

-- ---- the law

module _ (left right : End) (same : left.version ≡ right.version) (server client : Past) (link : IsLink left right server client) (moments : Moments left right server client) (loose : AppliesLoose server client)
    (trails : (ch : ℕ) → Trail server client ch) (brackets : BracketsFit server) (agrees : (k : ℕ) → SameValues (items_of server k))
    (a : ℕ) (o : OpenedAt server a)
    (fresh : (newer older : List Delivered) → delivered_of client ≡ newer ++ older → length (on_index o.channel o.older) < length (from_index o.channel older) → AllByRecursion (IsQuietOf a) newer)
    (handed : length (on_index o.channel o.older) < length (from_index o.channel (delivered_of client))) (h : ℕ) where
  fit : DeedsFit left server
  fit = deeds_fit left server (left_run left right server client link)

  client_fit : DeedsFit right client
  client_fit = deeds_fit right client (right_run left right server client link)

  abbrev message : Message
  message = Opens o.exports a o.class o.values

  index : on_index o.channel server ≡ on_index o.channel o.newer ++ (o.number, message) ∷ on_index o.channel o.older
  index = opened_index server a o

  f : Front server a o.newer o.values
  f = subst (λ (p : Past). Front p a o.newer o.values) (sym o.split) (front_of left a o.channel o.number o.exports o.class o.values o.older o.newer (subst (DeedsFit left) o.split fit) o.none)

  plain_messages : (Q : Option ℤ → Type 0) (k : ℕ) → AllByRecursion (λ (item : Item). Q (value_in_update a h item)) (items_of server k) → AllByRecursion (λ (m : Message). Q (value_said a h m)) (loose_of server k)
  plain_messages Q k all = loose_say Q a h (items_of server k) (items_plain left server fit k) all

  nothing_one : (v : ℤ) (k : ℕ) → SaysNothing a h (items_of server k) → AllByRecursion (λ (m : Message). IsOneOf v (value_said a h m)) (loose_of server k)
  nothing_one v k all = plain_messages (IsOneOf v) k (all_weaker (λ (item : Item). value_in_update a h item ≡ None) (λ (item : Item). IsOneOf v (value_in_update a h item)) (λ item e. inl e) (items_of server k) all)

  no_reliable : AllByRecursion (λ (d : Delivered). d.reliable ≡ true → NoUpdate d.message) (delivered_of client)
  no_reliable = reliables server client brackets trails

  -- an update is the carry
  by_update : (c : Carry) → FoundIn (update_carry a h) f.front c → ((k : ℕ) → c.packet ≡ Some k → is_among k (moved_of server) ≡ true) → copy_value client a h ≡ c.value
  by_update c found arrived = by (carried_by a h found.item c found.gives)
    where
      by : CarriedBy a h found.item c → copy_value client a h ≡ c.value
      by b =
          let k : ℕ = b.number in
          let rest : Past = found.after ++ f.parts in
          let past : Past = rest ++ Made o.channel o.number (Opens o.exports a o.class o.values) 0 ∷ o.older in
          let newer_is : o.newer ≡ found.before ++ Sent k b.tick b.items ∷ rest =
          f.split ∙ ap (λ (l : Past). l ++ f.parts) (found.split ∙ ap (λ (d : Deed). found.before ++ d ∷ found.after) b.is) ∙ append_assoc found.before (Sent k b.tick b.items ∷ found.after) f.parts in
          let split : server ≡ found.before ++ Sent k b.tick b.items ∷ past =
          o.split ∙ ap (λ (l : Past). l ++ Made o.channel o.number (Opens o.exports a o.class o.values) 0 ∷ o.older) newer_is ∙ append_assoc found.before (Sent k b.tick b.items ∷ rest) (Made o.channel o.number (Opens o.exports a o.class o.values) 0 ∷ o.older) in
          let server_fit : DeedsFit left (found.before ++ Sent k b.tick b.items ∷ past) = subst (DeedsFit left) split fit in
          let none : AllByRecursion (λ (d : Deed). begins_open a d ≡ false) rest =
          (all_second (λ (d : Deed). begins_open a d ≡ false) found.before (Sent k b.tick b.items ∷ rest) (subst (AllByRecursion (λ (d : Deed). begins_open a d ≡ false)) newer_is o.none)).1 in
          let item = newest_found (value_in_update a h) b.items c.value b.value in
          let items_are : items_of server k ≡ b.items = ap (λ (p : Past). items_of p k) split ∙ items_at left found.before k b.tick b.items past server_fit in
          let among_item : IsIn item.item b.items = subst (IsIn item.item) (sym item.split) (in_middle item.item item.before item.after) in
          let may : MaySendAll left past b.items = (each_at (FitsBefore left) found.before (Sent k b.tick b.items) past server_fit).2 in
          let opened : is_opened (state_of past a) ≡ true = update_opened left past a h item.item c.value item.gives (all_at (MaySend left past) item.item b.items may.each among_item) in
          let ends : Both left.version server client = both left.version left right refl (sym same) server client link in
          let t : TookAt client k = took_at client k (done_taken client k (ends.out.arrived k (arrived k b.packet))) in
          let moment : Moment left right server t.before (Took k t.entries t.handed ∷ t.before) k =
          each_at (MomentAt left right server) t.later (Took k t.entries t.handed) t.before (subst (Moments left right server) t.split moments) in
          let low : top_of t.before < k = each_at (FitsBefore right) t.later (Took k t.entries t.handed) t.before (subst (DeedsFit right) t.split client_fit) in
          let count = open_handed left right same server fit a o.channel o.number o.exports o.class o.values found.before k b.tick b.items rest o.older split none opened t.before (Took k t.entries t.handed ∷ t.before) moment (omega (arith, low)) in
          let newer : List Delivered = delivered_of t.later ++ t.handed in
          let all : delivered_of client ≡ newer ++ delivered_of t.before =
          ap delivered_of t.split ∙ flat_map-append handed_in t.later (Took k t.entries t.handed ∷ t.before) ∙ sym (append_assoc (delivered_of t.later) t.handed (delivered_of t.before)) in
          let quiet : AllByRecursion (IsQuietOf a) newer = fresh newer (delivered_of t.before) all count in
          let nothing : AllByRecursion (SentHas (SaysNothing a h)) found.before = all_nothing a h found.before found.none in
          let client_loose : AppliesLoose server (t.later ++ Took k t.entries t.handed ∷ t.before) = subst (AppliesLoose server) t.split loose in
          let packet : AppliesPacket server t.before (Took k t.entries t.handed) = each_at (AppliesPacket server) t.later (Took k t.entries t.handed) t.before client_loose in
          let here : AllByRecursion (λ (d : Delivered). d.reliable ≡ false → IsOneOf c.value (value_said a h d.message)) t.handed =
          handed_all (λ (m : Message). IsOneOf c.value (value_said a h m)) t.handed (loose_of server k) packet
          (plain_messages (IsOneOf c.value) k (all_by_among (λ (x : Item). IsOneOf c.value (value_in_update a h x)) (items_of server k)
          (λ x q. alike x q item.item (subst (IsIn item.item) (sym items_are) among_item) item.gives))) in
          let later : AllByRecursion (λ (d : Delivered). d.reliable ≡ false → IsOneOf c.value (value_said a h d.message)) (delivered_of t.later) =
          later_packets (λ (m : Message). IsOneOf c.value (value_said a h m)) right server k
          (λ j lt ds es before applies. handed_all (λ (m : Message). IsOneOf c.value (value_said a h m)) ds (loose_of server j) applies
          (nothing_one c.value j (subst (λ (p : Past). SaysNothing a h (items_of p j)) (sym split) (items_after (SaysNothing a h) tt left found.before k b.tick b.items past server_fit nothing j lt))))
          t.later t.entries t.handed t.before (subst (DeedsFit right) t.split client_fit) client_loose in
          let one = loose_one a h c.value item.before item.item item.after (subst (AllByRecursion PlainItem) (items_are ∙ item.split) (items_plain left server fit k)) item.gives in
          let said : IsIn one.message (loose_of server k) = subst (λ (l : List Item). IsIn one.message (filter_map loose_in l)) (sym (items_are ∙ item.split)) one.among in
          let d = handed_each t.handed (loose_of server k) packet one.message said in
          value_is client a h c.value newer (delivered_of t.before) all (quiet_stays a newer quiet)
          (says_one a h c.value newer quiet (all_first (λ (x : Delivered). x.reliable ≡ true → NoUpdate x.message) newer (delivered_of t.before) (subst (AllByRecursion (λ (x : Delivered). x.reliable ≡ true → NoUpdate x.message)) all no_reliable))
          (all_append (λ (x : Delivered). x.reliable ≡ false → IsOneOf c.value (value_said a h x.message)) (delivered_of t.later) t.handed later here))
          d.delivered (in_right d.delivered (delivered_of t.later) t.handed d.among) (ap (value_said a h) d.is ∙ one.says)
        where
          alike : (x : Item) → IsIn x (items_of server b.number) → (y : Item) → IsIn y (items_of server b.number) → value_in_update a h y ≡ Some c.value → IsOneOf c.value (value_in_update a h x)
          alike x q y r e = cases (value_in_update a h x) refl
            where
              cases : (o : Option ℤ) → value_in_update a h x ≡ o → IsOneOf c.value o
              cases None s = inl refl
              cases (Some w) s = inr (ap (λ (z : ℤ). Some z) (agrees b.number a h w c.value x y q r s e))

  -- the open is
  by_open : (v : ℤ) → AllByRecursion (λ (d : Deed). update_carry a h d ≡ None) f.front → value_among o.values h ≡ Some v → copy_value client a h ≡ v
  by_open v none e =
      let at : HandedAt o.channel (delivered_of client) (length (on_index o.channel o.older)) = handed_at o.channel (delivered_of client) (length (on_index o.channel o.older)) handed in
      let is : at.delivered.message ≡ message = handed_is server client o.channel (trails o.channel) (on_index o.channel o.newer) (o.number, message) (on_index o.channel o.older) index at in
      let few : length (on_index o.channel o.older) < length (from_index o.channel (at.delivered ∷ at.before)) =
      omega (arith, at.count_is, ap (λ (t : Bool). length (cond t (at.delivered ∷ from_index o.channel at.before) (from_index o.channel at.before))) at.from) in
      let quiet : AllByRecursion (IsQuietOf a) at.after = fresh at.after (at.delivered ∷ at.before) at.split few in
      let nothing : AllByRecursion (SentHas (SaysNothing a h)) f.front = all_nothing a h f.front none in
      let split : server ≡ f.front ++ f.parts ++ Made o.channel o.number message 0 ∷ o.older =
      o.split ∙ ap (λ (l : Past). l ++ Made o.channel o.number (Opens o.exports a o.class o.values) 0 ∷ o.older) f.split in
      let server_fit : DeedsFit left (f.front ++ f.parts ++ Made o.channel o.number message 0 ∷ o.older) = subst (DeedsFit left) split fit in
      let later : AllByRecursion (λ (d : Delivered). d.reliable ≡ false → IsOneOf v (value_said a h d.message)) at.after =
      late_packets left right same server fit o.channel o.number message (on_index o.channel o.newer) (on_index o.channel o.older) index (λ (m : Message). IsOneOf v (value_said a h m))
      (λ k le. nothing_one v k (subst (λ (p : Past). SaysNothing a h (items_of p k)) (sym split)
      (items_behind (SaysNothing a h) tt left f.front f.parts o.channel o.number message o.older nothing f.made server_fit k (subst (λ (p : Past). o.number ≤ made_before p k o.channel) split le))))
      client moments loose at.after (at.delivered ∷ at.before) at.split few in
      let newer : List Delivered = at.after ++ at.delivered ∷ [] in
      let all : delivered_of client ≡ newer ++ at.before = at.split ∙ sym (append_assoc at.after (at.delivered ∷ []) at.before) in
      let says : value_applied a h at.delivered ≡ Some v = ap (value_said a h) is ∙ ap (λ (t : Bool). cond t (value_among o.values h) None) (eq-eqb a a refl) ∙ e in
      value_is client a h v newer at.before all
      (all_append (λ (d : Delivered). removes a d ≡ false) at.after (at.delivered ∷ []) (quiet_stays a at.after quiet) (ap (removes_said a) is, tt))
      (all_append (λ (d : Delivered). IsOneOf v (value_applied a h d)) at.after (at.delivered ∷ [])
      (says_one a h v at.after quiet (all_first (λ (x : Delivered). x.reliable ≡ true → NoUpdate x.message) at.after (at.delivered ∷ at.before) (subst (AllByRecursion (λ (x : Delivered). x.reliable ≡ true → NoUpdate x.message)) at.split no_reliable)) later)
      (inr says, tt))
      at.delivered (in_right at.delivered at.after (at.delivered ∷ []) (inl refl)) says

  pub carried : (c : Carry) → carry_of server a h ≡ Some c → ((k : ℕ) → c.packet ≡ Some k → is_among k (moved_of server) ≡ true) → copy_value client a h ≡ c.value
  carried c e arrived = by (newest_of (update_carry a h) f.front) refl (ap (λ (l : Past). or_else (newest_of (update_carry a h) l) (carry_in None (value_among (open_values server a) h))) (sym f.since) ∙ e)
    where
      same_carry : (x y : Carry) → (let o : Option Carry = Some x in o) ≡ Some y → x ≡ y
      same_carry x y q = cc

      by : (u : Option Carry) → newest_of (update_carry a h) f.front ≡ u → or_else u (carry_in None (value_among (open_values server a) h)) ≡ Some c → copy_value client a h ≡ c.value
      by (Some d) q e = by_update c (newest_found (update_carry a h) f.front c (q ∙ e)) arrived
      by None q e = open_is (value_among o.values h) refl (ap (λ (vs : List Pair). carry_in None (value_among vs h)) (sym f.values_are) ∙ e)
        where
          open_is : (v : Option ℤ) → value_among o.values h ≡ v → carry_in None v ≡ Some c → copy_value client a h ≡ c.value
          open_is None r e = absurd (let never : (let o : Option Carry = None in o) ≡ Some c = e in cc)
          open_is (Some v) r e = by_open v (newest_none (update_carry a h) f.front q) r ∙ ap (λ (x : Carry). x.value) (same_carry (record { packet = None; value = v }) c e)
