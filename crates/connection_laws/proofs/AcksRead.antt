-- What an end's packets tell of those that it took is read right by the other, in each version.
use Rattle.std.proofs.Common.{◌≡◌, ◌⊎◌, inl, inr, ℕ, suc, ◌+◌, ◌%◌, ◌<◌, ◌≤◌, ◌==◌, max, List, [], ◌∷◌, ◌++◌, map, reverse, drop, length, Bool, true, false, cond, nat_lt, refl, sym, ap, ◌∙◌, subst, arith, Option, None, ℤ, pos, negsuc}
use Rattle.std.specs.List.{filter_map, cons_option}
use Rattle.std.specs.Bool.{then_some}
use Rattle.std.proofs.lemmas.Bool.{false≢true, eqb-false, ne_eqb, lt-ltb}
use Rattle.std.proofs.lemmas.List.{drop_at, append_assoc, length-append}
use Rattle.std.proofs.lemmas.List.Elements.{filter_map-append}
use Rattle.protocol_model.specs.declared.Version.{Version}
use Rattle.protocol_model.specs.declared.Version.TheVariants.{One, Two}
use Rattle.protocol_model.specs.Bits.{near}
use Rattle.protocol_model.specs.Packet.{Bunch, Head}
use Rattle.protocol_model.specs.Search.{is_among, greatest_of}
use Rattle.connection_model.specs.Feed.{End, Past, Ticked, Made, Waits, Sent, Took, Ended, Entry, Told, Acked, Heard, Delivered, Item, Owed, Carries, Loose, tick_count}
use Rattle.connection_model.specs.Fates.{taken_of, top_of, moved_of, high_of, last_sent, sent_in, top_when, head_of, named_by, named_numbers, number_above, history_of}
use Rattle.connection_laws.specs.Run.{owed_by, acknowledged_of, MaySendAll, Ascends, Acknowledges}
use Rattle.connection_laws.specs.Deeds.{DeedsFit}
use Rattle.connection_laws.specs.Link.{Said, SaysHead, SaysItem, entry_said, all_said, said_by, done_of}
use Rattle.connection_laws.proofs.Searches.{among_cons, among_here, among_append, among_right, among_most, greatest_below}
use Rattle.connection_laws.proofs.PacketsSay.{IsIn, in_middle}
use Rattle.connection_laws.proofs.AcksTaken.{ack_in, acks_by, acks_said, acks_told, acks_ascend, acks_order, no_acks, ascends_middle, ascends_above, tops_rise, HeadFacts, head_facts, history_names}
use Rattle.connection_laws.proofs.NearNumber.{near_number}
use Rattle.protocol_laws.proofs.Greatest.{greatest_of-cons}

-- what is still to be heard of the packet under way
abbrev pub left_of : Version → (me other : Past) → List ℕ
left_of v (Took k es ds ∷ past) other = filter_map ack_in (drop (length es) (said_by v other k))
left_of v past other = []

-- what was told was taken by then; what is told next is above all that moved
pub record FreshOne (me other : Past) : Type 0 where
  pub known : (x : ℕ) → is_among x (moved_of me) ≡ true → is_among x (acknowledged_of other) ≡ true
  pub later : (k x : ℕ) → top_of me < k → is_among x (acks_by One other k) ≡ true → high_of me < x
  pub now : (x : ℕ) → is_among x (left_of One me other) ≡ true → high_of me < x

-- the top that the packet under way tells, before its head was heard
abbrev pub HeadWaits : (me other : Past) → Type 0
HeadWaits (Took k [] ds ∷ past) other = high_of (Took k [] ds ∷ past) ≤ top_when other k
HeadWaits past other = Unit {0}

-- no top that is told next is below what moved
pub record FreshTwo (me other : Past) : Type 0 where
  pub later : (k : ℕ) → top_of me < k → k ≤ last_sent other → high_of me ≤ top_when other k
  pub now : HeadWaits me other

-- what is left to hear of acknowledgements is above what is known, in either version
abbrev pub Fresh : Version → (me other : Past) → Type 0
Fresh One me other = FreshOne me other
Fresh Two me other = FreshTwo me other

-- nothing is left at first
pub fresh_start : (v : Version) → Fresh v [] []
fresh_start One = record { known = λ x h. absurd (false≢true h); later = λ k x lt h. absurd (false≢true h); now = λ x h. absurd (false≢true h) }
fresh_start Two = record { later = λ k lt h. omega arith; now = tt }

-- ---- the end that is told does something else

-- it stays so where the hearing end learns nothing and goes no further back
pub fresh_me : (v : Version) (me after other : Past) → moved_of after ≡ moved_of me → top_of me ≤ top_of after → left_of v after other ≡ [] → HeadWaits after other → Fresh v me other → Fresh v after other
fresh_me One me after other m t l w f = record {
  known = λ x h. f.known x (ap (is_among x) (sym m) ∙ h);
  later = λ k x lt h. (let high : high_of after ≡ high_of me = ap greatest_of m in let q : high_of me < x = f.later k x (omega arith) h in omega arith);
  now = λ x h. absurd (false≢true (ap (is_among x) (sym l) ∙ h));
}
fresh_me Two me after other m t l w f = record {
  later = λ k lt le. (let high : high_of after ≡ high_of me = ap greatest_of m in let q : high_of me ≤ top_when other k = f.later k (omega arith) le in omega arith);
  now = w;
}

-- it begins a packet
pub fresh_takes : (v : Version) (me other : Past) (n : ℕ) → top_of me < n → n ≤ last_sent other → Fresh v me other → Fresh v (Took n [] [] ∷ me) other
fresh_takes One me other n lt hi f = record {
  known = f.known;
  later = λ k x l h. f.later k x (omega (arith, greatest_of-cons n (taken_of me), l)) h;
  now = λ x h. f.later n x lt h;
}
fresh_takes Two me other n lt hi f = record {
  later = λ k l h. f.later k (omega (arith, greatest_of-cons n (taken_of me), l)) h;
  now = f.later n lt hi;
}

-- ---- the end that tells goes on

-- the same is left where the packets taken say the same
left_same : (v : Version) (me other after : Past) → ((k : ℕ) → is_among k (taken_of me) ≡ true → said_by v after k ≡ said_by v other k) → left_of v me after ≡ left_of v me other
left_same v (Took k es ds ∷ past) other after h = ap (λ (s : List Said). filter_map ack_in (drop (length es) s)) (h k (among_here k (taken_of past) k refl))
left_same v [] other after h = refl
left_same v (Ticked t s ∷ past) other after h = refl
left_same v (Made c n m i ∷ past) other after h = refl
left_same v (Waits m ∷ past) other after h = refl
left_same v (Sent n t items ∷ past) other after h = refl
left_same v (Ended g ∷ past) other after h = refl

-- a head still waits there
waits_same : (me other after : Past) → ((k : ℕ) → is_among k (taken_of me) ≡ true → top_when after k ≡ top_when other k) → HeadWaits me other → HeadWaits me after
waits_same (Took k [] ds ∷ past) other after h w = (let e : top_when after k ≡ top_when other k = h k (among_here k (taken_of past) k refl) in omega (arith, w))
waits_same (Took k (e ∷ es) ds ∷ past) other after h w = tt
waits_same [] other after h w = tt
waits_same (Ticked t s ∷ past) other after h w = tt
waits_same (Made c n m i ∷ past) other after h w = tt
waits_same (Waits m ∷ past) other after h w = tt
waits_same (Sent n t items ∷ past) other after h w = tt
waits_same (Ended g ∷ past) other after h w = tt

-- it sends nothing
pub fresh_other : (v : Version) (me other after : Past) → ((k : ℕ) → said_by v after k ≡ said_by v other k) → acknowledged_of after ≡ acknowledged_of other → last_sent after ≡ last_sent other
    → ((k : ℕ) → top_when after k ≡ top_when other k) → Fresh v me other → Fresh v me after
fresh_other One me other after s t l w f = record {
  known = λ x h. ap (is_among x) t ∙ f.known x h;
  later = λ k x lt h. f.later k x lt (ap (λ (said : List Said). is_among x (filter_map ack_in said)) (sym (s k)) ∙ h);
  now = λ x h. f.now x (ap (is_among x) (sym (left_same One me other after (λ k q. s k))) ∙ h);
}
fresh_other Two me other after s t l w f = record {
  later = λ k lt le. (let e : top_when after k ≡ top_when other k = w k in let q : high_of me ≤ top_when other k = f.later k lt (omega arith) in omega arith);
  now = waits_same me other after (λ k q. w k) f.now;
}

-- it sends a packet
pub fresh_sends : (v : Version) (end : End) → end.version ≡ v → (me other : Past) (items : List Item) → MaySendAll end other items
    → ((k : ℕ) → is_among k (taken_of me) ≡ true → k ≤ last_sent other) → high_of me ≤ top_of other → Fresh v me other
    → Fresh v me (Sent (last_sent other + 1) (tick_count other) items ∷ other)
fresh_sends One end one me other items may old high f = record {
  known = λ x h. among_right (owed_by items) (acknowledged_of other) x (f.known x h);
  later = λ k x lt h. by k x (last_sent other + 1 == k) refl lt h;
  now = λ x h. f.now x (ap (is_among x) (sym (left_same One me other after (λ k q. same k (old k q)))) ∙ h);
}
  where
    after : Past
    after = Sent (last_sent other + 1) (tick_count other) items ∷ other

    same : (k : ℕ) → k ≤ last_sent other → said_by One (Sent (last_sent other + 1) (tick_count other) items ∷ other) k ≡ said_by One other k
    same k le = ap (λ (b : Bool). cond b (all_said One other items) (said_by One other k)) (ne_eqb (last_sent other + 1) k (λ q. absurd (omega arith)))

    ascends : Ascends (greatest_of (acknowledged_of other)) (owed_by items)
    ascends = subst (λ (w : Version). Acknowledges w (greatest_of (acknowledged_of other)) (owed_by items)) one may.told

    below : high_of me ≤ greatest_of (acknowledged_of other)
    below = greatest_below (moved_of me) (greatest_of (acknowledged_of other)) (λ n e. among_most (acknowledged_of other) n (f.known n e))

    by : (k x : ℕ) (b : Bool) → (last_sent other + 1 == k) ≡ b → top_of me < k → is_among x (filter_map ack_in (cond b (all_said One other items) (said_by One other k))) ≡ true → high_of me < x
    by k x true e lt h = (let q : greatest_of (acknowledged_of other) < x = ascends_above (greatest_of (acknowledged_of other)) (owed_by items) x ascends (ap (is_among x) (sym (acks_said One other items)) ∙ h) in omega (arith, below))
    by k x false e lt h = f.later k x lt h
fresh_sends Two end two me other items may old high f = record {
  later = λ k lt le. by k (last_sent other + 1 == k) refl lt le;
  now = waits_same me other (Sent (last_sent other + 1) (tick_count other) items ∷ other) (λ k q. same k (old k q)) f.now;
}
  where
    same : (k : ℕ) → k ≤ last_sent other → top_when (Sent (last_sent other + 1) (tick_count other) items ∷ other) k ≡ top_when other k
    same k le = ap (λ (b : Bool). cond b (top_of other) (top_when other k)) (ne_eqb (last_sent other + 1) k (λ q. absurd (omega arith)))

    top : last_sent (Sent (last_sent other + 1) (tick_count other) items ∷ other) ≡ max (last_sent other + 1) (last_sent other)
    top = greatest_of-cons (last_sent other + 1) (filter_map sent_in other)

    by : (k : ℕ) (b : Bool) → (last_sent other + 1 == k) ≡ b → top_of me < k → k ≤ last_sent (Sent (last_sent other + 1) (tick_count other) items ∷ other) → high_of me ≤ cond b (top_of other) (top_when other k)
    by k true e lt le = high
    by k false e lt le = f.later k lt (small (eqb-false (last_sent other + 1) k e))
      where
        small : (last_sent other + 1 ≡ k → ⊥) → k ≤ last_sent other
        small ne = omega (arith, le, top)

-- ---- an entry is heard

-- what moves was taken by the end that tells, and what it tells next is read right too
-- each number that the entry names was sent
abbrev pub NamesSent : Past → Entry → Type 0
NamesSent past entry = (z : ℤ) → IsIn z (named_by entry (high_of past)) → (x : ℕ) → z ≡ pos x → x ≤ last_sent past

-- after an entry: each packet that is known to have arrived was known before, or was heard to its end
pub record StaysFresh (v : Version) (me after other : Past) : Type 0 where
  pub moved : (x : ℕ) → is_among x (moved_of after) ≡ true → (is_among x (moved_of me) ≡ true) ⊎ (is_among x (done_of other) ≡ true)
  pub fresh : Fresh v after other

-- the left ones after one more
left_next : (all before : List Said) (s : Said) (rest : List Said) (n : ℕ) → all ≡ before ++ s ∷ rest → n ≡ length before → (drop n all ≡ s ∷ rest) × (drop (suc n) all ≡ rest)
left_next all before s rest n e l = (
  ap (drop n) e ∙ drop_at before (s ∷ rest) n (sym l),
  ap (drop (suc n)) (e ∙ sym (append_assoc before (s ∷ []) rest)) ∙ drop_at (before ++ s ∷ []) rest (suc n) (omega (arith, length-append before (s ∷ []), l)),
)

-- no item is a head
items_no_head : (head : Head) (items : List Item) → IsIn (SaysHead head) (map (λ (item : Item). SaysItem item) items) → ⊥
items_no_head head [] h = h
items_no_head head (item ∷ items) (inl e) = never e
  where
    never : SaysItem item ≡ SaysHead head → ⊥
    never e = cc
items_no_head head (item ∷ items) (inr h) = items_no_head head items h

-- in version One no packet has a head, in version Two it comes first
no_heads : (past : Past) (k : ℕ) (head : Head) → IsIn (SaysHead head) (said_by One past k) → ⊥
no_heads [] k head h = h
no_heads (Ticked t s ∷ past) k head h = no_heads past k head h
no_heads (Made c n m i ∷ past) k head h = no_heads past k head h
no_heads (Waits m ∷ past) k head h = no_heads past k head h
no_heads (Took n es ds ∷ past) k head h = no_heads past k head h
no_heads (Ended g ∷ past) k head h = no_heads past k head h
no_heads (Sent number t items ∷ past) k head h = by (number == k) h (λ q. no_heads past k head q)
  where
    by : (b : Bool) → IsIn (SaysHead head) (cond b (all_said One past items) (said_by One past k)) → (IsIn (SaysHead head) (said_by One past k) → ⊥) → ⊥
    by true h ih = items_no_head head items h
    by false h ih = ih h

-- what comes after the first
abbrev rest_of : List Said → List Said
rest_of [] = []
rest_of (s ∷ said) = said

-- a head comes first, if there is one
head_first : (past : Past) (k : ℕ) (head : Head) → IsIn (SaysHead head) (rest_of (said_by Two past k)) → ⊥
head_first [] k head h = h
head_first (Ticked t s ∷ past) k head h = head_first past k head h
head_first (Made c n m i ∷ past) k head h = head_first past k head h
head_first (Waits m ∷ past) k head h = head_first past k head h
head_first (Took n es ds ∷ past) k head h = head_first past k head h
head_first (Ended g ∷ past) k head h = head_first past k head h
head_first (Sent number t items ∷ past) k head h = by (number == k) h (λ q. head_first past k head q)
  where
    by : (b : Bool) → IsIn (SaysHead head) (rest_of (cond b (all_said Two past items) (said_by Two past k))) → (IsIn (SaysHead head) (rest_of (said_by Two past k)) → ⊥) → ⊥
    by true h ih = items_no_head head items h
    by false h ih = ih h

-- so nothing comes before it
none_before : (past : Past) (k : ℕ) (head : Head) (before rest : List Said) → said_by Two past k ≡ before ++ SaysHead head ∷ rest → before ≡ []
none_before past k head [] rest e = refl
none_before past k head (s ∷ before) rest e = absurd (head_first past k head (subst (IsIn (SaysHead head)) (sym (ap rest_of e)) (in_middle (SaysHead head) before rest)))

-- what a named number is
above_named : (high : ℕ) (zs : List ℤ) (x : ℕ) → is_among x (filter_map (number_above high) zs) ≡ true → (z : ℤ) × IsIn z zs × (z ≡ pos x)
above_named high [] x h = absurd (false≢true h)
above_named high (negsuc z ∷ zs) x h = (let r = above_named high zs x h in (r.0, inr r.1, r.2))
above_named high (pos z ∷ zs) x h = by (nat_lt high z) h (λ q. above_named high zs x q)
  where
    by : (b : Bool) → is_among x (cons_option (then_some b z) (filter_map (number_above high) zs)) ≡ true → (is_among x (filter_map (number_above high) zs) ≡ true → (z : ℤ) × IsIn z zs × (z ≡ pos x)) → (y : ℤ) × IsIn y (pos z ∷ zs) × (y ≡ pos x)
    by true h ih = elim (among_cons z (filter_map (number_above high) zs) x h) [
      | inl e ↦ (pos z, inl refl, ap pos e)
      | inr q ↦ (let r = ih q in (r.0, inr r.1, r.2))
    ]
    by false h ih = (let r = ih h in (r.0, inr r.1, r.2))

-- ---- version One

module _ (end : End) (one : end.version ≡ One) (other : Past) (fit : DeedsFit end other) (k : ℕ) (es : List Entry) (ds : List Delivered) (past : Past)
    (known : (x : ℕ) → is_among x (acknowledged_of other) ≡ true → is_among x (done_of other) ≡ true)
    (sent : (x : ℕ) → is_among x (done_of other) ≡ true → x ≤ last_sent past) (few : last_sent past ≤ high_of (Took k es ds ∷ past) + 4096)
    (f : FreshOne (Took k es ds ∷ past) other) where
  -- a bunch tells nothing
  pub heard_one : (b : Bunch) (s : Said) (before rest : List Said) → ack_in s ≡ None → said_by One other k ≡ before ++ s ∷ rest → length es ≡ length before
      → StaysFresh One (Took k es ds ∷ past) (Took k (Heard b ∷ es) ds ∷ past) other
  heard_one b s before rest none e l =
      let left = left_next (said_by One other k) before s rest (length es) e l in
      record {
        moved = λ x h. inl h;
        fresh = record {
          known = f.known;
          later = f.later;
          now = λ x h. f.now x (ap (λ (said : List Said). is_among x (filter_map ack_in said)) left.0 ∙ ap (λ (o : Option ℕ). is_among x (cons_option o (filter_map ack_in rest))) none ∙ ap (λ (said : List Said). is_among x (filter_map ack_in said)) (sym left.1) ∙ h);
        };
      }

  pub acked_one : (n : ℕ) (before rest : List Said) → said_by One other k ≡ before ++ SaysItem (Owed n) ∷ rest → length es ≡ length before
      → StaysFresh One (Took k es ds ∷ past) (Took k (Acked (n % 16384) ∷ es) ds ∷ past) other
  acked_one n before rest e l =
      let me : Past = Took k es ds ∷ past in
      let left = left_next (said_by One other k) before (SaysItem (Owed n)) rest (length es) e l in
      let acks : acks_by One other k ≡ filter_map ack_in before ++ n ∷ filter_map ack_in rest = ap (filter_map ack_in) e ∙ filter_map-append ack_in before (SaysItem (Owed n) ∷ rest) in
      let said : is_among n (acks_by One other k) ≡ true = ap (is_among n) acks ∙ among_right (filter_map ack_in before) (n ∷ filter_map ack_in rest) n (among_here n (filter_map ack_in rest) n refl) in
      let done : is_among n (done_of other) ≡ true = known n (acks_told One other n k said) in
      let above : high_of me < n = f.now n (ap (λ (s : List Said). is_among n (filter_map ack_in s)) left.0 ∙ among_here n (filter_map ack_in rest) n refl) in
      let low : n ≤ last_sent past = sent n done in
      let read : near (n % 16384) (pos (high_of me)) 16384 ≡ pos n = near_number n (high_of me) (omega arith) (omega arith) in
      let moved : moved_of (Took k (Acked (n % 16384) ∷ es) ds ∷ past) ≡ n ∷ moved_of me =
      ap (λ (z : ℤ). filter_map (number_above (high_of me)) (z ∷ []) ++ moved_of me) read
      ∙ ap (λ (b : Bool). cons_option (then_some b n) [] ++ moved_of me) (lt-ltb (high_of me) n above) in
      let high : high_of (Took k (Acked (n % 16384) ∷ es) ds ∷ past) ≡ n = ap greatest_of moved ∙ greatest_of-cons n (moved_of me) ∙ omega arith in
      record {
        moved = λ x h. elim (among_cons n (moved_of me) x (ap (is_among x) (sym moved) ∙ h)) [
          | inl q ↦ inr (subst (λ (y : ℕ). is_among y (done_of other) ≡ true) q done)
          | inr q ↦ inl q
        ];
        fresh = record {
          known = λ x h. elim (among_cons n (moved_of me) x (ap (is_among x) (sym moved) ∙ h)) [
            | inl q ↦ subst (λ (y : ℕ). is_among y (acknowledged_of other) ≡ true) q (acks_told One other n k said)
            | inr q ↦ f.known x q
          ];
          later = λ j x lt h. (
              let before_j : k < j = omega (arith, greatest_of-cons k (taken_of past), lt) in
              let q : n < x = acks_order end one One other fit k j n x before_j said h in
              omega (arith, high));
          now = λ x h. (
              let q : n < x = ascends_above n (filter_map ack_in rest) x (ascends_middle 0 (filter_map ack_in before) n (filter_map ack_in rest) (subst (Ascends 0) acks (acks_ascend end one One other fit k)))
              (ap (λ (s : List Said). is_among x (filter_map ack_in s)) (sym left.1) ∙ h) in
              omega (arith, high));
        };
      }

  acked_names : (n : ℕ) (before rest : List Said) → said_by One other k ≡ before ++ SaysItem (Owed n) ∷ rest → length es ≡ length before → NamesSent (Took k es ds ∷ past) (Acked (n % 16384))
  acked_names n before rest e l =
      let me : Past = Took k es ds ∷ past in
      let left = left_next (said_by One other k) before (SaysItem (Owed n)) rest (length es) e l in
      let acks : acks_by One other k ≡ filter_map ack_in before ++ n ∷ filter_map ack_in rest = ap (filter_map ack_in) e ∙ filter_map-append ack_in before (SaysItem (Owed n) ∷ rest) in
      let said : is_among n (acks_by One other k) ≡ true = ap (is_among n) acks ∙ among_right (filter_map ack_in before) (n ∷ filter_map ack_in rest) n (among_here n (filter_map ack_in rest) n refl) in
      let done : is_among n (done_of other) ≡ true = known n (acks_told One other n k said) in
      let above : high_of me < n = f.now n (ap (λ (s : List Said). is_among n (filter_map ack_in s)) left.0 ∙ among_here n (filter_map ack_in rest) n refl) in
      let low : n ≤ last_sent past = sent n done in
      let read : near (n % 16384) (pos (high_of me)) 16384 ≡ pos n = near_number n (high_of me) (omega arith) (omega arith) in
      λ z h x q. by z h x q read low
    where
      by : (z : ℤ) → IsIn z (near (n % 16384) (pos (high_of (Took k es ds ∷ past))) 16384 ∷ []) → (x : ℕ) → z ≡ pos x → near (n % 16384) (pos (high_of (Took k es ds ∷ past))) 16384 ≡ pos n → n ≤ last_sent past → x ≤ last_sent past
      by z (inl e) x q read low = (let same : pos x ≡ pos n = sym q ∙ sym e ∙ read in let is : x ≡ n = cc in omega (arith, is, low))
      by z (inr h) x q read low = absurd h

  no_names : (b : Bunch) → NamesSent (Took k es ds ∷ past) (Heard b)
  no_names b z h x q = absurd h

  pub next_names_one : (s : Said) (before rest : List Said) → said_by One other k ≡ before ++ s ∷ rest → length es ≡ length before → NamesSent (Took k es ds ∷ past) (entry_said s)
  next_names_one (SaysHead head) before rest e l = absurd (no_heads other k head (subst (IsIn (SaysHead head)) (sym e) (in_middle (SaysHead head) before rest)))
  next_names_one (SaysItem (Owed n)) before rest e l = acked_names n before rest e l
  next_names_one (SaysItem (Carries c n b)) before rest e l = no_names b
  next_names_one (SaysItem (Loose m b)) before rest e l = no_names b

  pub next_one : (s : Said) (before rest : List Said) → said_by One other k ≡ before ++ s ∷ rest → length es ≡ length before
      → StaysFresh One (Took k es ds ∷ past) (Took k (entry_said s ∷ es) ds ∷ past) other
  next_one (SaysHead head) before rest e l = absurd (no_heads other k head (subst (IsIn (SaysHead head)) (sym e) (in_middle (SaysHead head) before rest)))
  next_one (SaysItem (Owed n)) before rest e l = acked_one n before rest e l
  next_one (SaysItem (Carries c n b)) before rest e l = heard_one b (SaysItem (Carries c n b)) before rest refl e l
  next_one (SaysItem (Loose m b)) before rest e l = heard_one b (SaysItem (Loose m b)) before rest refl e l

-- ---- version Two

module _ (end : End) (two : end.version ≡ Two) (other : Past) (fit : DeedsFit end other) (k : ℕ) (es : List Entry) (ds : List Delivered) (past : Past)
    (sent : (x : ℕ) → is_among x (done_of other) ≡ true → x ≤ last_sent past) (few : last_sent past ≤ high_of (Took k es ds ∷ past) + 4096)
    (took : k ≤ last_sent other) (f : FreshTwo (Took k es ds ∷ past) other) where
  pub heard_two : (b : Bunch) → StaysFresh Two (Took k es ds ∷ past) (Took k (Heard b ∷ es) ds ∷ past) other
  heard_two b = record { moved = λ x h. inl h; fresh = record { later = f.later; now = tt } }

  pub told_two : (head : Head) → es ≡ [] → IsIn (SaysHead head) (said_by Two other k) → StaysFresh Two (Took k es ds ∷ past) (Took k (Told head ∷ es) ds ∷ past) other
  told_two head first q =
      let me : Past = Took k es ds ∷ past in
      let facts : HeadFacts other k head = head_facts end other fit k head q in
      let waits : high_of me ≤ top_when other k = by_first es first f.now in
      let top_low : top_of facts.before ≤ last_sent past = greatest_below (taken_of facts.before) (last_sent past) (λ n h. sent n (facts.taken n h)) in
      let read : near head.top (pos (high_of me)) 16384 ≡ pos (top_of facts.before) =
      ap (λ (h : Head). near h.top (pos (high_of me)) 16384) facts.is ∙ near_number (top_of facts.before) (high_of me) (omega (arith, waits, facts.top)) (omega (arith, few, top_low)) in
      let named : named_by (Told head) (high_of me) ≡ named_numbers (pos (top_of facts.before)) (history_of (head_of Two facts.before)) =
      ap (λ (z : ℤ). named_numbers z (history_of head)) read ∙ ap (λ (h : Head). named_numbers (pos (top_of facts.before)) (history_of h)) facts.is in
      let each : (x : ℕ) → is_among x (moved_of (Took k (Told head ∷ es) ds ∷ past)) ≡ true → (is_among x (moved_of me) ≡ true) ⊎ (is_among x (taken_of facts.before) ≡ true) =
      λ x h. which x (taken_of facts.before) (λ z r e. history_names facts.before facts.positive z (subst (IsIn z) named r) x e)
      (among_append (filter_map (number_above (high_of me)) (named_by (Told head) (high_of me))) (moved_of me) x h) in
      let high : high_of (Took k (Told head ∷ es) ds ∷ past) ≤ top_when other k =
      greatest_below (moved_of (Took k (Told head ∷ es) ds ∷ past)) (top_when other k)
      (λ x h. at_most x (top_when other k) (taken_of facts.before) waits (omega (arith, facts.top)) (each x h)) in
      record {
        moved = λ x h. elim (each x h) [ inl r ↦ inl r | inr r ↦ inr (facts.taken x r) ];
        fresh = record {
          later = λ j lt le. (
              let before_j : k ≤ j = omega (arith, greatest_of-cons k (taken_of past), lt) in
              let rise : top_when other k ≤ top_when other j = tops_rise end other fit k j before_j le in
              omega (arith, high));
          now = tt;
        };
      }
    where
      by_first : (xs : List Entry) → xs ≡ [] → HeadWaits (Took k xs ds ∷ past) other → high_of (Took k xs ds ∷ past) ≤ top_when other k
      by_first [] e w = w
      by_first (x ∷ xs) e w = absurd (let never : x ∷ xs ≡ [] = e in cc)

      which : (x : ℕ) (ts : List ℕ) → ((z : ℤ) → IsIn z (named_by (Told head) (high_of (Took k es ds ∷ past))) → z ≡ pos x → is_among x ts ≡ true)
          → ((is_among x (filter_map (number_above (high_of (Took k es ds ∷ past))) (named_by (Told head) (high_of (Took k es ds ∷ past)))) ≡ true) ⊎ (is_among x (moved_of (Took k es ds ∷ past)) ≡ true))
          → (is_among x (moved_of (Took k es ds ∷ past)) ≡ true) ⊎ (is_among x ts ≡ true)
      which x ts h (inr q) = inl q
      which x ts h (inl q) = (let r = above_named (high_of (Took k es ds ∷ past)) (named_by (Told head) (high_of (Took k es ds ∷ past))) x q in inr (h r.0 r.1 r.2))

      at_most : (x top : ℕ) (ts : List ℕ) → high_of (Took k es ds ∷ past) ≤ top → greatest_of ts ≤ top → ((is_among x (moved_of (Took k es ds ∷ past)) ≡ true) ⊎ (is_among x ts ≡ true)) → x ≤ top
      at_most x top ts hi lo (inl q) = (let le : x ≤ high_of (Took k es ds ∷ past) = among_most (moved_of (Took k es ds ∷ past)) x q in omega arith)
      at_most x top ts hi lo (inr q) = (let le : x ≤ greatest_of ts = among_most ts x q in omega arith)

  told_names : (head : Head) → es ≡ [] → IsIn (SaysHead head) (said_by Two other k) → NamesSent (Took k es ds ∷ past) (Told head)
  told_names head first q =
      let me : Past = Took k es ds ∷ past in
      let facts : HeadFacts other k head = head_facts end other fit k head q in
      let waits : high_of me ≤ top_when other k = by_first es first f.now in
      let top_low : top_of facts.before ≤ last_sent past = greatest_below (taken_of facts.before) (last_sent past) (λ n h. sent n (facts.taken n h)) in
      let read : near head.top (pos (high_of me)) 16384 ≡ pos (top_of facts.before) =
      ap (λ (h : Head). near h.top (pos (high_of me)) 16384) facts.is ∙ near_number (top_of facts.before) (high_of me) (omega (arith, waits, facts.top)) (omega (arith, few, top_low)) in
      let named : named_by (Told head) (high_of me) ≡ named_numbers (pos (top_of facts.before)) (history_of (head_of Two facts.before)) =
      ap (λ (z : ℤ). named_numbers z (history_of head)) read ∙ ap (λ (h : Head). named_numbers (pos (top_of facts.before)) (history_of h)) facts.is in
      λ z h x r. sent x (facts.taken x (history_names facts.before facts.positive z (subst (IsIn z) named h) x r))
    where
      by_first : (xs : List Entry) → xs ≡ [] → HeadWaits (Took k xs ds ∷ past) other → high_of (Took k xs ds ∷ past) ≤ top_when other k
      by_first [] e w = w
      by_first (x ∷ xs) e w = absurd (let never : x ∷ xs ≡ [] = e in cc)

  nothing_named : (b : Bunch) → NamesSent (Took k es ds ∷ past) (Heard b)
  nothing_named b z h x q = absurd h

  pub next_names_two : (s : Said) (before rest : List Said) → said_by Two other k ≡ before ++ s ∷ rest → es ≡ reverse (map entry_said before) → NamesSent (Took k es ds ∷ past) (entry_said s)
  next_names_two (SaysHead head) before rest e l =
      told_names head (l ∙ ap (λ (b : List Said). reverse (map entry_said b)) (none_before other k head before rest e)) (subst (IsIn (SaysHead head)) (sym e) (in_middle (SaysHead head) before rest))
  next_names_two (SaysItem (Owed n)) before rest e l =
      absurd (false≢true (sym (ap (is_among n) (no_acks end two Two other fit k))
      ∙ ap (λ (said : List Said). is_among n (filter_map ack_in said)) e ∙ ap (is_among n) (filter_map-append ack_in before (SaysItem (Owed n) ∷ rest))
      ∙ among_right (filter_map ack_in before) (n ∷ filter_map ack_in rest) n (among_here n (filter_map ack_in rest) n refl)))
  next_names_two (SaysItem (Carries c n b)) before rest e l = nothing_named b
  next_names_two (SaysItem (Loose m b)) before rest e l = nothing_named b

  pub next_two : (s : Said) (before rest : List Said) → said_by Two other k ≡ before ++ s ∷ rest → es ≡ reverse (map entry_said before)
      → StaysFresh Two (Took k es ds ∷ past) (Took k (entry_said s ∷ es) ds ∷ past) other
  next_two (SaysHead head) before rest e l =
      told_two head (l ∙ ap (λ (b : List Said). reverse (map entry_said b)) (none_before other k head before rest e)) (subst (IsIn (SaysHead head)) (sym e) (in_middle (SaysHead head) before rest))
  next_two (SaysItem (Owed n)) before rest e l =
      absurd (false≢true (sym (ap (is_among n) (no_acks end two Two other fit k))
      ∙ ap (λ (said : List Said). is_among n (filter_map ack_in said)) e ∙ ap (is_among n) (filter_map-append ack_in before (SaysItem (Owed n) ∷ rest))
      ∙ among_right (filter_map ack_in before) (n ∷ filter_map ack_in rest) n (among_here n (filter_map ack_in rest) n refl)))
  next_two (SaysItem (Carries c n b)) before rest e l = heard_two b
  next_two (SaysItem (Loose m b)) before rest e l = heard_two b
