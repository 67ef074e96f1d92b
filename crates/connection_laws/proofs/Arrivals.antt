-- What has arrived, and how moves change it: by what is heard alone, and what has arrived stays so.
use Rattle.connection_model.specs.Feed.{End}
use Rattle.std.proofs.Common.{◌≡◌, ◌⊎◌, inl, inr, ℕ, ◌+◌, ◌<◌, ◌≤◌, List, [], ◌∷◌, ◌++◌, Bool, true, false, ◌&&◌, eqb, nat_lt, refl, sym, ap, ◌∙◌, subst₂, arith, Option, Some, None, ℤ, pos, negsuc}
use Rattle.std.specs.Prelude.{int_lt}
use Rattle.std.specs.List.{filter_map, cons_option, list_any, slice_get, AllByRecursion}
use Rattle.std.specs.Bool.{then_some}
use Rattle.std.proofs.lemmas.Bool.{cases_Bool, false≢true, and_parts, or_cases, eqb-true, ltb-true, ltb-false}
use Rattle.protocol_model.specs.Packet.{Bunch}
use Rattle.protocol_model.specs.Payload.{Message}
use Rattle.protocol_model.specs.Search.{newest_of, is_among, greatest_of}
use Rattle.protocol_model.specs.declared.Cause.{Cause}
use Rattle.connection_model.specs.Feed.{Past, Sent, Entry, Delivered, Item, Owed, Carries, Loose, tick_count}
use Rattle.connection_model.specs.Fates.{fate_of, is_arrived, moved_of, moved_by, high_of, last_sent, named_by, number_above, entries_of, entries_in}
use Rattle.connection_model.specs.Bunches.{has_arrived, carrier_of, carrier_in, is_carried_as, shows_arrival, option_fate, after_making}
use Rattle.connection_model.specs.Verdict.{with_told, with_handed}
use Rattle.connection_model.specs.Pack.{after_sending}
use Rattle.connection_laws.specs.Run.{MaySend, IsWaiting}
use Rattle.connection_laws.proofs.Searches.{among_cons, among_right, greatest_below, newest_hit, newest_miss}
use Rattle.connection_laws.proofs.Moves.{made_ignored, made_ignored_all, told_ignored, handed_ignored, handed_ignored_all, told_keeps}
use Rattle.protocol_laws.proofs.Greatest.{among_above}

-- ---- a packet has arrived if its number moved

-- a packet has arrived where its number moved
pub arrived_is_moved : (past : Past) (n : ℕ) → is_arrived (fate_of past n) ≡ is_among n (moved_of past)
arrived_is_moved past n = elim (cases_Bool (nat_lt (high_of past) n)) [
  | inl e ↦ rw e (sym (among_above n (moved_of past) (ltb-true (high_of past) n e)))
  | inr e ↦ rw e (elim (cases_Bool (is_among n (moved_of past))) [ inl t ↦ rw t refl | inr t ↦ rw t refl ])
]

-- the packet is there, and is among those moved
abbrev pub carried_among : Option ℕ → List ℕ → Bool
carried_among None moved = false
carried_among (Some k) moved = is_among k moved

-- a bunch has arrived where its carrier moved
by_carrier : (past : Past) (o : Option ℕ) → shows_arrival (option_fate past o) ≡ carried_among o (moved_of past)
by_carrier past None = refl
by_carrier past (Some k) = arrived_is_moved past k

-- a bunch has arrived where its carrier did
pub arrival_is : (past : Past) (ch n : ℕ) → has_arrived past ch n ≡ carried_among (carrier_of past ch n) (moved_of past)
arrival_is past ch n = by_carrier past (carrier_of past ch n)

-- it stays where the carrier and what moved stay
pub arrival_same : (past later : Past) (ch n : ℕ) → carrier_of later ch n ≡ carrier_of past ch n → moved_of later ≡ moved_of past
    → has_arrived later ch n ≡ has_arrived past ch n
arrival_same past later ch n c m =
    arrival_is later ch n ∙ ap (λ o. carried_among o (moved_of later)) c ∙ ap (carried_among (carrier_of past ch n)) m ∙ sym (arrival_is past ch n)

-- ---- a message is made

-- making a message moves no number
pub moved_made : (past : Past) (ch : ℕ) (m : Message) → moved_of (after_making past ch m) ≡ moved_of past
moved_made past ch m = ap moved_by (made_ignored_all entries_in (λ c n m i. refl) past ch m)

-- making a message carries no bunch
pub carrier_made : (past : Past) (c : ℕ) (m : Message) (ch n : ℕ) → carrier_of (after_making past c m) ch n ≡ carrier_of past ch n
carrier_made past c m ch n = ap (λ (ks : List ℕ). slice_get ks 0) (made_ignored (carrier_in ch n) (λ c n m i. refl) past c m)

-- making a message lets nothing arrive
pub arrival_made : (past : Past) (c : ℕ) (m : Message) (ch n : ℕ) → has_arrived (after_making past c m) ch n ≡ has_arrived past ch n
arrival_made past c m ch n =
    arrival_same past (after_making past c m) ch n (carrier_made past c m ch n) (moved_made past c m)

-- ---- a packet is sent

-- a bunch that a packet may carry was made, and hasn't arrived
pub carried_waits : (end : End) (past : Past) (items : List Item) (ch n : ℕ) → AllByRecursion (MaySend end past) items → list_any (is_carried_as ch n) items ≡ true
    → (bunch : Bunch) × IsWaiting past ch n bunch
carried_waits end past [] ch n all h = absurd (false≢true h)
carried_waits end past (Owed k ∷ items) ch n all h = carried_waits end past items ch n all.1 h
carried_waits end past (Loose m b ∷ items) ch n all h = carried_waits end past items ch n all.1 h
carried_waits end past (Carries c k b ∷ items) ch n all h =
    by (or_cases (eqb c ch && eqb k n) (list_any (is_carried_as ch n) items) h) all.0 (λ q. carried_waits end past items ch n all.1 q)
  where
    by : (((eqb c ch && eqb k n) ≡ true) ⊎ (list_any (is_carried_as ch n) items ≡ true)) → IsWaiting past c k b
        → (list_any (is_carried_as ch n) items ≡ true → (bunch : Bunch) × IsWaiting past ch n bunch) → (bunch : Bunch) × IsWaiting past ch n bunch
    by (inl e) w later =
        let q : (eqb c ch ≡ true) × (eqb k n ≡ true) = and_parts (eqb c ch) (eqb k n) e in
        (b, subst₂ (λ (x y : ℕ). IsWaiting past x y b) (eqb-true c ch q.0) (eqb-true k n q.1) w)
    by (inr e) w later = later e

-- what hasn't moved hasn't arrived
none_above : (past : Past) (k : ℕ) → ((n : ℕ) → is_among n (moved_of past) ≡ true → n ≤ last_sent past) → last_sent past < k → is_among k (moved_of past) ≡ false
none_above past k most lt = among_above k (moved_of past) (let le : greatest_of (moved_of past) ≤ last_sent past = greatest_below (moved_of past) (last_sent past) most in omega arith)

-- sending a packet lets nothing arrive
pub arrival_sent : (end : End) (past : Past) (items : List Item) → ((n : ℕ) → is_among n (moved_of past) ≡ true → n ≤ last_sent past)
    → AllByRecursion (MaySend end past) items → (ch n : ℕ) → has_arrived (after_sending past items) ch n ≡ has_arrived past ch n
arrival_sent end past items most all ch n = by (list_any (is_carried_as ch n) items) refl
  where
    k : ℕ
    k = last_sent past + 1

    by : (b : Bool) → list_any (is_carried_as ch n) items ≡ b → has_arrived (after_sending past items) ch n ≡ has_arrived past ch n
    by true e =
        arrival_is (after_sending past items) ch n
        ∙ ap (λ o. carried_among o (moved_of past))
        (newest_hit (carrier_in ch n) (Sent k (tick_count past) items) past k (ap (λ t. then_some t k) e))
        ∙ none_above past k most (omega arith)
        ∙ sym (carried_waits end past items ch n all e).1.unarrived
    by false e =
        arrival_same past (after_sending past items) ch n
        (newest_miss (carrier_in ch n) (Sent k (tick_count past) items) past (ap (λ t. then_some t k) e)) refl

-- ---- an entry is heard

-- the numbers that an entry names are at most the last sent, or it breaks a rule
named_step : (last : ℕ) (a : ℤ) (zs : List ℤ) (c : ℤ → Cause) → newest_of (λ z. then_some (int_lt (pos last) z) (c z)) (a ∷ zs) ≡ None
    → (int_lt (pos last) a ≡ false) × (newest_of (λ z. then_some (int_lt (pos last) z) (c z)) zs ≡ None)
named_step last a zs c h = by (int_lt (pos last) a) refl h
  where
    by : (b : Bool) → int_lt (pos last) a ≡ b → slice_get (cons_option (then_some b (c a)) (filter_map (λ z. then_some (int_lt (pos last) z) (c z)) zs)) 0 ≡ None
        → (int_lt (pos last) a ≡ false) × (newest_of (λ z. then_some (int_lt (pos last) z) (c z)) zs ≡ None)
    by true e q = absurd (let no : Some (c a) ≡ None = q in cc)
    by false e q = (e, q)

-- a number that is not refused is at most the last one sent
above_step : (high last n : ℕ) (a : ℤ) (ns : List ℕ) → int_lt (pos last) a ≡ false
    → is_among n (cons_option (number_above high a) ns) ≡ true → ((high < n) × (n ≤ last)) ⊎ (is_among n ns ≡ true)
above_step high last n (negsuc a) ns e h = inr h
above_step high last n (pos a) ns e h = by (nat_lt high a) refl h
  where
    by : (b : Bool) → nat_lt high a ≡ b → is_among n (cons_option (then_some b a) ns) ≡ true → ((high < n) × (n ≤ last)) ⊎ (is_among n ns ≡ true)
    by true q h = elim (among_cons a ns n h) [
      | inl same ↦ inl (let up : high < a = ltb-true high a q in let low : a ≤ last = ltb-false last a e in (omega arith, omega arith))
      | inr more ↦ inr more
    ]
    by false q h = inr h

-- where no number is refused, each that a history names is at most the last one sent
pub named_within : (high last : ℕ) (zs : List ℤ) (c : ℤ → Cause) → newest_of (λ z. then_some (int_lt (pos last) z) (c z)) zs ≡ None
    → (n : ℕ) → is_among n (filter_map (number_above high) zs) ≡ true → (high < n) × (n ≤ last)
named_within high last [] c h n e = absurd (false≢true e)
named_within high last (a ∷ zs) c h n e =
    let q : (int_lt (pos last) a ≡ false) × (newest_of (λ z. then_some (int_lt (pos last) z) (c z)) zs ≡ None) = named_step last a zs c h in
    elim (above_step high last n a (filter_map (number_above high) zs) q.0 e) [
      | inl r ↦ r
      | inr r ↦ named_within high last zs c q.1 n r
    ]

-- what moved before has moved
pub moved_grows : (entry : Entry) (past : Past) (n : ℕ) → is_among n (moved_of past) ≡ true → is_among n (moved_of (with_told entry past)) ≡ true
moved_grows entry past n h =
    told_keeps (λ later. is_among n (moved_of later) ≡ true) entry past h
    (λ k es ds before e. among_right (filter_map (number_above (greatest_of (moved_by (es ++ entries_of before)))) (named_by entry (greatest_of (moved_by (es ++ entries_of before))))) (moved_by (es ++ entries_of before)) n e)

-- hearing an entry carries no bunch
pub carrier_told : (entry : Entry) (past : Past) (ch n : ℕ) → carrier_of (with_told entry past) ch n ≡ carrier_of past ch n
carrier_told entry past ch n = ap (λ (ks : List ℕ). slice_get ks 0) (told_ignored (carrier_in ch n) (λ n e es ds. refl) entry past)

-- what was carried by what moved was, when more moved
carried_grows : (o : Option ℕ) (ms ns : List ℕ) → ((n : ℕ) → is_among n ms ≡ true → is_among n ns ≡ true) → carried_among o ms ≡ true → carried_among o ns ≡ true
carried_grows None ms ns h e = e
carried_grows (Some k) ms ns h e = h k e

-- what has arrived stays so
pub arrival_told : (entry : Entry) (past : Past) (ch n : ℕ) → has_arrived past ch n ≡ true → has_arrived (with_told entry past) ch n ≡ true
arrival_told entry past ch n h =
    arrival_is (with_told entry past) ch n
    ∙ ap (λ o. carried_among o (moved_of (with_told entry past))) (carrier_told entry past ch n)
    ∙ carried_grows (carrier_of past ch n) (moved_of past) (moved_of (with_told entry past)) (moved_grows entry past) (sym (arrival_is past ch n) ∙ h)

-- ---- a payload is handed on

-- handing a payload on lets nothing arrive
pub arrival_handed : (d : Delivered) (past : Past) (ch n : ℕ) → has_arrived (with_handed d past) ch n ≡ has_arrived past ch n
arrival_handed d past ch n =
    arrival_same past (with_handed d past) ch n
    (ap (λ (ks : List ℕ). slice_get ks 0) (handed_ignored (carrier_in ch n) (λ n es d ds. refl) d past))
    (ap moved_by (handed_ignored_all entries_in (λ n es d ds. refl) d past))
