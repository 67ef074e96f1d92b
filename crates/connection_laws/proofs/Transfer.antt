-- What holds between an end that sends and the other that receives.
use Rattle.std.proofs.Common.{◌≡◌, ◌⊎◌, inl, inr, ℕ, suc, ◌+◌, ◌%◌, ◌<◌, ◌≤◌, List, [], ◌∷◌, ◌++◌, map, reverse, take, length, Bool, true, false, cond, not, ◌==◌, ◌&&◌, refl, sym, ap, ◌∙◌, subst, arith, Option, Some, None, pos}
use Rattle.std.proofs.lemmas.Bool.{false≢true, cases_eq, cases_lt, not-false, eq-eqb, ne_eqb}
use Rattle.std.proofs.lemmas.List.{length-reverse, length-map, take_at, take_all, append_assoc, length-append, map-append, reverse-append}
use Rattle.protocol_model.specs.declared.Version.{Version}
use Rattle.protocol_model.specs.Bits.{near}
use Rattle.protocol_model.specs.Packet.{Bunch}
use Rattle.protocol_model.specs.Search.{newest_of, is_among}
use Rattle.connection_model.specs.Feed.{End, Past, Ticked, Made, Waits, Sent, Took, Ended, Entry, Heard, Delivered, Owed, Carries, Loose, has_ended}
use Rattle.connection_model.specs.Fates.{taken_of, top_of, moved_of, high_of, last_sent, unresolved_count}
use Rattle.connection_model.specs.Bunches.{made_count, has_arrived, carrier_of, span}
use Rattle.connection_model.specs.Items.{made_as}
use Rattle.connection_model.specs.Windows.{Received, received_on, as_number, with_bunch, with_entry}
use Rattle.connection_laws.specs.Run.{IsRun}
use Rattle.connection_laws.specs.Link.{Said, SaysHead, SaysItem, entry_said, said_by, MayCome, IsWhole, IsNext, done_of}
use Rattle.connection_laws.proofs.Searches.{among_cons, among_here, among_most, greatest_below, least_below}
use Rattle.connection_laws.proofs.Deeds.{deeds_fit}
use Rattle.connection_laws.proofs.Fates.{fates_fit}
use Rattle.connection_laws.proofs.Spans.{spans_fit}
use Rattle.connection_laws.proofs.Arrivals.{arrival_is, carried_among}
use Rattle.connection_laws.proofs.PacketsSay.{IsIn, in_either, in_middle, carried_facts, CarriedFacts, carrier_said, loose_unreliable}
use Rattle.connection_laws.proofs.AcksTaken.{done_taken}
use Rattle.connection_laws.proofs.Receiving.{has, Good, InSpan, After, received_after, MadeFacts, made_facts}
use Rattle.connection_laws.proofs.NearNumber.{near_number}

-- of the packet under way, what was heard is a prefix of what it said, and its bunches were received
abbrev pub Way : Version → (from to : Past) → Type 0
Way v from (Took k es ds ∷ past) =
    (es ≡ reverse (map entry_said (take (length es) (said_by v from k))))
    × ((ch n : ℕ) (b : Bunch) → IsIn (SaysItem (Carries ch n b)) (take (length es) (said_by v from k)) → has (received_on (Took k es ds ∷ past) ch) n ≡ true)
Way v from past = Unit {0}

-- one way from an end that sends to the one that receives
pub record Transfers (v : Version) (from to : Past) : Type 0 where
  -- what was taken was sent, and what moved was taken
  pub sent : (k : ℕ) → is_among k (taken_of to) ≡ true → (1 ≤ k) × (k ≤ last_sent from)
  pub arrived : (k : ℕ) → is_among k (moved_of from) ≡ true → is_among k (done_of to) ≡ true
  -- what was received was made, as it was made
  pub within : (ch n : ℕ) → has (received_on to ch) n ≡ true → (1 ≤ n) × (n ≤ made_count from ch)
  pub same : (ch n : ℕ) → has (received_on to ch) n ≡ true → newest_of (as_number n) (received_on to ch) ≡ newest_of (made_as ch n) from
  -- what a packet carried that was heard to its end was received
  pub had : (ch n k : ℕ) (b : Bunch) → is_among k (done_of to) ≡ true → IsIn (SaysItem (Carries ch n b)) (said_by v from k) → has (received_on to ch) n ≡ true
  pub way : Way v from to

-- nothing was sent at first
pub core_start : (v : Version) → Transfers v [] []
core_start v = record {
  sent = λ k h. absurd (false≢true h);
  arrived = λ k h. absurd (false≢true h);
  within = λ ch n h. absurd (false≢true h);
  same = λ ch n h. absurd (false≢true h);
  had = λ ch n k b h q. absurd q;
  way = tt;
}

-- ---- what follows

module _ (v : Version) (end : End) (from to : Past) (run : IsRun end from) (g : Transfers v from to) where
  pub arrived_received : (ch n : ℕ) → has_arrived from ch n ≡ true → has (received_on to ch) n ≡ true
  arrived_received ch n h = by (carrier_of from ch n) refl (sym (arrival_is from ch n) ∙ h)
    where
      by : (o : Option ℕ) → carrier_of from ch n ≡ o → carried_among o (moved_of from) ≡ true → has (received_on to ch) n ≡ true
      by None e q = absurd (false≢true q)
      by (Some c) e q = (let s = carrier_said end v from (deeds_fit end from run) ch n c e in g.had ch n c s.0 (g.arrived c q) s.1)

  all_but_span : (ch n : ℕ) → 1 ≤ n → n + 256 ≤ made_count from ch → has_arrived from ch n ≡ true
  all_but_span ch n lo hi =
      let s : span from ch ≤ 256 = (spans_fit end from run).each ch in
      not-false (has_arrived from ch n) (least_below (λ k. not (has_arrived from ch k)) (made_count from ch) 1 n lo (omega arith))

  pub good : (ch : ℕ) → Good (λ n. newest_of (made_as ch n) from) (made_count from ch) (received_on to ch)
  good ch = record {
    within = g.within ch;
    same = g.same ch;
    span = λ n lo hi. arrived_received ch n (all_but_span ch n lo hi);
  }

  -- a bunch in a packet that isn't heard to its end hasn't arrived, and so is in span
  pub in_span_of : (k : ℕ) → ((x : ℕ) → is_among x (done_of to) ≡ true → x < k) → (ch n : ℕ) (b : Bunch) → IsIn (SaysItem (Carries ch n b)) (said_by v from k) → InSpan (made_count from ch) n
  in_span_of k new ch n b h =
      let f : CarriedFacts from ch n k b = carried_facts end v from (deeds_fit end from run) ch n k b h in
      record { low = f.low; high = f.high; close = elim (cases_lt (made_count from ch) (n + 256)) [ inl q ↦ q | inr q ↦ absurd (late f (all_but_span ch n f.low q)) ] }
    where
      late : CarriedFacts from ch n k b → has_arrived from ch n ≡ true → ⊥
      late f a =
          let c : ℕ = f.carrier.0 in
          let moved : is_among c (moved_of from) ≡ true = ap (λ o. carried_among o (moved_of from)) (sym f.carrier.1) ∙ sym (arrival_is from ch n) ∙ a in
          let before : c < k = new c (g.arrived c moved) in
          let after : k ≤ c = f.carrier.2 in
          absurd (omega arith)

  pub high_at_most : high_of from ≤ top_of to
  high_at_most = greatest_below (moved_of from) (top_of to) (λ n h. among_most (taken_of to) n (done_taken to n (g.arrived n h)))

  -- a packet that may come is read as the number that it has
  pub reads_packet : (k : ℕ) → MayCome to from k → near (k % 16384) (pos (top_of to)) 16384 ≡ pos k
  reads_packet k c =
      let few : unresolved_count from ≤ 4096 = (fates_fit end from run).unresolved in
      let high : high_of from ≤ top_of to = high_at_most in
      near_number k (top_of to) c.recent (omega (arith, c.sent))

-- ---- the sender goes on

-- the packet under way is as it was where it says the same
way_from : (v : Version) (from later to : Past) → ((k : ℕ) → is_among k (taken_of to) ≡ true → said_by v later k ≡ said_by v from k) → Way v from to → Way v later to
way_from v from later (Took k es ds ∷ past) h w =
    let e : said_by v later k ≡ said_by v from k = h k (among_here k (taken_of past) k refl) in (
      w.0 ∙ ap (λ (s : List Said). reverse (map entry_said (take (length es) s))) (sym e),
      λ ch n b q. w.1 ch n b (subst (λ (s : List Said). IsIn (SaysItem (Carries ch n b)) (take (length es) s)) e q),
    )
way_from v from later [] h w = tt
way_from v from later (Ticked t s ∷ past) h w = tt
way_from v from later (Made c n m i ∷ past) h w = tt
way_from v from later (Waits m ∷ past) h w = tt
way_from v from later (Sent n t items ∷ past) h w = tt
way_from v from later (Ended x ∷ past) h w = tt

-- what the sender makes and sends, and what moves if it was heard to its end
pub core_from : (v : Version) (from later to : Past) → Transfers v from to
    → ((k : ℕ) → k ≤ last_sent from → said_by v later k ≡ said_by v from k) → last_sent from ≤ last_sent later
    → ((k : ℕ) → is_among k (moved_of later) ≡ true → (is_among k (moved_of from) ≡ true) ⊎ (is_among k (done_of to) ≡ true))
    → ((ch : ℕ) → made_count from ch ≤ made_count later ch)
    → ((ch n : ℕ) → n ≤ made_count from ch → newest_of (made_as ch n) later ≡ newest_of (made_as ch n) from)
    → Transfers v later to
core_from v from later to g s l m c a = record {
  sent = λ k h. (let b : (1 ≤ k) × (k ≤ last_sent from) = g.sent k h in (b.0, omega (arith, b.1)));
  arrived = λ k h. elim (m k h) [ inl q ↦ g.arrived k q | inr q ↦ q ];
  within = λ ch n h. (let b : (1 ≤ n) × (n ≤ made_count from ch) = g.within ch n h in (b.0, omega (arith, b.1, c ch)));
  same = λ ch n h. g.same ch n h ∙ sym (a ch n (g.within ch n h).1);
  had = λ ch n k b h q. g.had ch n k b h (subst (IsIn (SaysItem (Carries ch n b))) (s k (g.sent k (done_taken to k h)).1) q);
  way = way_from v from later to (λ k h. s k (g.sent k h).1) g.way;
}

-- ---- the receiver goes on

-- what a packet that was heard to its end carried was received
pub whole_had : (v : Version) (from to : Past) → Transfers v from to → has_ended to ≡ false → IsWhole v from to → (ch n k : ℕ) (b : Bunch) → is_among k (taken_of to) ≡ true
    → IsIn (SaysItem (Carries ch n b)) (said_by v from k) → has (received_on to ch) n ≡ true
whole_had v from [] g alive w ch n k b h q = absurd (false≢true h)
whole_had v from (Took j es ds ∷ past) g alive w ch n k b h q = elim (among_cons j (taken_of past) k h) [
  | inr r ↦ g.had ch n k b r q
  | inl r ↦ g.way.1 ch n b (subst (IsIn (SaysItem (Carries ch n b))) (all r) q)
]
  where
    all : j ≡ k → said_by v from k ≡ take (length es) (said_by v from j)
    all r =
        let long : length es ≡ length (said_by v from j) =
        ap length w ∙ length-reverse (map entry_said (said_by v from j)) ∙ length-map (said_by v from j) entry_said in
        ap (said_by v from) (sym r) ∙ sym (take_all (length es) (said_by v from j) (omega arith))
whole_had v from (Ticked t s ∷ past) g alive w ch n k b h q = g.had ch n k b h q
whole_had v from (Made c x m i ∷ past) g alive w ch n k b h q = g.had ch n k b h q
whole_had v from (Waits m ∷ past) g alive w ch n k b h q = g.had ch n k b h q
whole_had v from (Sent x t items ∷ past) g alive w ch n k b h q = g.had ch n k b h q
whole_had v from (Ended x ∷ past) g alive w ch n k b h q = absurd (false≢true (sym alive))

-- nothing more is received
pub core_to : (v : Version) (from to later : Past) → Transfers v from to → has_ended to ≡ false → IsWhole v from to
    → taken_of later ≡ taken_of to → done_of later ≡ taken_of to → ((ch : ℕ) → received_on later ch ≡ received_on to ch) → Way v from later → Transfers v from later
core_to v from to later g alive whole t d r way = record {
  sent = λ k h. g.sent k (ap (is_among k) (sym t) ∙ h);
  arrived = λ k h. ap (is_among k) d ∙ done_taken to k (g.arrived k h);
  within = λ ch n h. g.within ch n (ap (λ (got : List Received). has got n) (sym (r ch)) ∙ h);
  same = λ ch n h. ap (newest_of (as_number n)) (r ch) ∙ g.same ch n (ap (λ (got : List Received). has got n) (sym (r ch)) ∙ h);
  had = λ ch n k b h q. ap (λ (got : List Received). has got n) (r ch) ∙ whole_had v from to g alive whole ch n k b (ap (is_among k) (sym d) ∙ h) q;
  way = way;
}

-- a packet is begun
pub core_takes : (v : Version) (from to : Past) (n : ℕ) → Transfers v from to → has_ended to ≡ false → IsWhole v from to → 1 ≤ n → n ≤ last_sent from → Transfers v from (Took n [] [] ∷ to)
core_takes v from to n g alive whole lo hi = record {
  sent = λ k h. elim (among_cons n (taken_of to) k h) [ inl e ↦ (omega (arith, e), omega (arith, e)) | inr e ↦ g.sent k e ];
  arrived = λ k h. done_taken to k (g.arrived k h);
  within = g.within;
  same = g.same;
  had = λ ch m k b h q. whole_had v from to g alive whole ch m k b h q;
  way = (refl, λ ch m b q. absurd q);
}

-- ---- one more entry

-- one more thing that was said was heard on an index
pub record ReceivesSaid (from : Past) (ch : ℕ) (got new : List Received) (s : Said) : Type 0 where
  pub within : (n : ℕ) → has new n ≡ true → (1 ≤ n) × (n ≤ made_count from ch)
  pub same : (n : ℕ) → has new n ≡ true → newest_of (as_number n) new ≡ newest_of (made_as ch n) from
  pub more : (n : ℕ) → has got n ≡ true → has new n ≡ true
  pub here : (n : ℕ) (b : Bunch) → s ≡ SaysItem (Carries ch n b) → has new n ≡ true

-- what is no bunch of the index receives nothing there
nothing_new : (v : Version) (from to : Past) (g : Transfers v from to) (ch : ℕ) (s : Said) → ((n : ℕ) (b : Bunch) → s ≡ SaysItem (Carries ch n b) → ⊥) → ReceivesSaid from ch (received_on to ch) (received_on to ch) s
nothing_new v from to g ch s never = record { within = g.within ch; same = g.same ch; more = λ n h. h; here = λ n b e. absurd (never n b e) }

-- an entry that is heard receives what it says
entry_heard : (v : Version) (end : End) (from to : Past) → IsRun end from → Transfers v from to → (k : ℕ) → ((x : ℕ) → is_among x (done_of to) ≡ true → x < k)
    → (s : Said) → IsIn s (said_by v from k) → (ch : ℕ) → ReceivesSaid from ch (received_on to ch) (with_entry (received_on to ch) ch (entry_said s)) s
entry_heard v end from to run g k new (SaysHead head) q ch = nothing_new v from to g ch (SaysHead head) (λ n b e. absurd (no n b e))
  where
    no : (n : ℕ) (b : Bunch) → SaysHead head ≡ SaysItem (Carries ch n b) → ⊥
    no n b e = cc
entry_heard v end from to run g k new (SaysItem (Owed x)) q ch = nothing_new v from to g ch (SaysItem (Owed x)) (λ n b e. absurd (no n b e))
  where
    no : (n : ℕ) (b : Bunch) → SaysItem (Owed x) ≡ SaysItem (Carries ch n b) → ⊥
    no n b e = cc
entry_heard v end from to run g k new (SaysItem (Loose m b)) q ch =
    subst (λ (got : List Received). ReceivesSaid from ch (received_on to ch) got (SaysItem (Loose m b)))
    (sym (ap (λ (t : Bool). cond (t && (b.channel == ch)) (with_bunch (received_on to ch) b) (received_on to ch)) (loose_unreliable end v from (deeds_fit end from run) m b k q)))
    (nothing_new v from to g ch (SaysItem (Loose m b)) (λ n c e. absurd (no n c e)))
  where
    no : (n : ℕ) (c : Bunch) → SaysItem (Loose m b) ≡ SaysItem (Carries ch n c) → ⊥
    no n c e = cc
entry_heard v end from to run g k new (SaysItem (Carries c n b)) q ch =
    let f : CarriedFacts from c n k b = carried_facts end v from (deeds_fit end from run) c n k b q in
    let m : MadeFacts c n b = made_facts c n from b f.made in
    elim (cases_eq c ch) [
      | inl e ↦ same e f m
      | inr e ↦ other e m
    ]
  where
    is_number : (x y : ℕ) (a d : Bunch) → SaysItem (Carries c x a) ≡ SaysItem (Carries ch y d) → x ≡ y
    is_number x y a d e = cc

    is_channel : (y : ℕ) (d : Bunch) → SaysItem (Carries c n b) ≡ SaysItem (Carries ch y d) → c ≡ ch
    is_channel y d e = cc

    result : (t : Bool) → (b.reliable && (b.channel == ch)) ≡ t → with_entry (received_on to ch) ch (Heard b) ≡ cond t (with_bunch (received_on to ch) b) (received_on to ch)
    result t e = ap (λ (x : Bool). cond x (with_bunch (received_on to ch) b) (received_on to ch)) e

    same : c ≡ ch → CarriedFacts from c n k b → MadeFacts c n b → ReceivesSaid from ch (received_on to ch) (with_entry (received_on to ch) ch (Heard b)) (SaysItem (Carries c n b))
    same e f m =
        let span : InSpan (made_count from ch) n = subst (λ (x : ℕ). InSpan (made_count from x) n) e (in_span_of v end from to run g k new c n b q) in
        let made : newest_of (made_as ch n) from ≡ Some b = subst (λ (x : ℕ). newest_of (made_as x n) from ≡ Some b) e f.made in
        let after : After (λ n. newest_of (made_as ch n) from) (made_count from ch) (received_on to ch) (with_bunch (received_on to ch) b) n =
        received_after (λ n. newest_of (made_as ch n) from) (made_count from ch) (received_on to ch) b n (good v end from to run g ch) span m.seq made in
        subst (λ (got : List Received). ReceivesSaid from ch (received_on to ch) got (SaysItem (Carries c n b)))
        (sym (result true (both b.reliable (b.channel == ch) m.reliable (eq-eqb b.channel ch (m.channel ∙ e)))))
        (record {
          within = after.good.within;
          same = after.good.same;
          more = after.more;
          here = λ y d r. subst (λ (x : ℕ). has (with_bunch (received_on to ch) b) x ≡ true) (is_number n y b d r) after.here;
        })
      where
        both : (x y : Bool) → x ≡ true → y ≡ true → (x && y) ≡ true
        both x y p q = grind arith

    other : (c ≡ ch → ⊥) → MadeFacts c n b → ReceivesSaid from ch (received_on to ch) (with_entry (received_on to ch) ch (Heard b)) (SaysItem (Carries c n b))
    other ne m =
        subst (λ (got : List Received). ReceivesSaid from ch (received_on to ch) got (SaysItem (Carries c n b)))
        (sym (result false (second b.reliable (b.channel == ch) (ne_eqb b.channel ch (λ r. ne (sym m.channel ∙ r))))))
        (nothing_new v from to g ch (SaysItem (Carries c n b)) (λ y d r. ne (is_channel y d r)))
      where
        second : (x y : Bool) → y ≡ false → (x && y) ≡ false
        second x y q = grind arith

-- one more of what a packet said, where so much was heard
take_next : (all before : List Said) (s : Said) (after : List Said) (n : ℕ) → all ≡ before ++ s ∷ after → n ≡ length before → (take n all ≡ before) × (take (suc n) all ≡ before ++ s ∷ [])
take_next all before s after n e l = (
  ap (take n) e ∙ take_at before (s ∷ after) n (sym l),
  ap (take (suc n)) (e ∙ sym (append_assoc before (s ∷ []) after)) ∙ take_at (before ++ s ∷ []) after (suc n) (omega (arith, length-append before (s ∷ []), l)),
)

-- it goes on when the next thing that a packet said is heard
pub core_hears : (v : Version) (end : End) (from : Past) (k : ℕ) (es : List Entry) (ds : List Delivered) (past : Past) (entry : Entry)
    → IsRun end from → Transfers v from (Took k es ds ∷ past) → top_of past < k → IsNext v from (Took k es ds ∷ past) entry → Transfers v from (Took k (entry ∷ es) ds ∷ past)
core_hears v end from k es ds past entry run g fresh next =
    let before : List Said = next.0 in
    let s : Said = next.1 in
    let long : length es ≡ length before = ap length next.4 ∙ length-reverse (map entry_said before) ∙ length-map before entry_said in
    let taken = take_next (said_by v from k) before s next.2 (length es) next.3 long in
    let here : IsIn s (said_by v from k) = subst (IsIn s) (sym next.3) (in_middle s before next.2) in
    let heard : (ch : ℕ) → ReceivesSaid from ch (received_on (Took k es ds ∷ past) ch) (received_on (Took k (entry ∷ es) ds ∷ past) ch) s =
    λ ch. subst (λ (x : Entry). ReceivesSaid from ch (received_on (Took k es ds ∷ past) ch) (with_entry (received_on (Took k es ds ∷ past) ch) ch x) s) (sym next.5)
    (entry_heard v end from (Took k es ds ∷ past) run g k (λ x h. (let le : x ≤ top_of past = among_most (taken_of past) x h in omega arith)) s here ch) in
    record {
      sent = g.sent;
      arrived = g.arrived;
      within = λ ch n h. (heard ch).within n h;
      same = λ ch n h. (heard ch).same n h;
      had = λ ch n j b h q. (heard ch).more n (g.had ch n j b h q);
      way = (
        told before s next.4 next.5 ∙ ap (λ (l : List Said). reverse (map entry_said l)) (sym taken.1),
        λ ch n b q. elim (in_either (SaysItem (Carries ch n b)) before (s ∷ []) (subst (IsIn (SaysItem (Carries ch n b))) taken.1 q)) [
          | inl r ↦ (heard ch).more n (g.way.1 ch n b (subst (IsIn (SaysItem (Carries ch n b))) (sym taken.0) r))
          | inr r ↦ (heard ch).here n b (only ch n b r)
        ],
      );
    }
  where
    told : (before : List Said) (s : Said) → es ≡ reverse (map entry_said before) → entry ≡ entry_said s → entry ∷ es ≡ reverse (map entry_said (before ++ s ∷ []))
    told before s p q =
        ap (λ (x : Entry). x ∷ es) q ∙ ap (λ (xs : List Entry). entry_said s ∷ xs) p
        ∙ sym (ap reverse (map-append entry_said before (s ∷ [])) ∙ reverse-append (map entry_said before) (entry_said s ∷ []))

    only : (ch n : ℕ) (b : Bunch) → IsIn (SaysItem (Carries ch n b)) (next.1 ∷ []) → next.1 ≡ SaysItem (Carries ch n b)
    only ch n b (inl e) = e
    only ch n b (inr e) = absurd e
