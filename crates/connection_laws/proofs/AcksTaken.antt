-- What the packets of one end tell of the packets that it took.
use Rattle.std.proofs.Common.{◌≡◌, inl, inr, ℕ, zero, suc, ◌+◌, ◌-◌, ◌*◌, ◌<◌, ◌≤◌, max, List, [], ◌∷◌, ◌++◌, map, length, Bool, true, false, cond, ◌==◌, refl, sym, ap, ◌∙◌, subst, arith, Option, None, ℤ, pos, ◌-ℤ◌}
use Rattle.std.specs.List.{filter_map, flat_map, cons_option, range_with_len}
use Rattle.std.proofs.lemmas.Bool.{cases_Bool, false≢true, cases_lt, eqb-true, eqb-false}
use Rattle.std.proofs.lemmas.Int.{ints}
use Rattle.std.proofs.lemmas.List.FromFn.{length-map-range_with_len}
use Rattle.protocol_model.specs.declared.Version.{Version}
use Rattle.protocol_model.specs.declared.Version.TheVariants.{One, Two}
use Rattle.protocol_model.specs.Bits.{digits, number_of, fixed_bits}
use Rattle.protocol_model.specs.Packet.{Head}
use Rattle.protocol_model.specs.Payload.{Message, parts_of}
use Rattle.protocol_model.specs.Search.{is_among, greatest_of}
use Rattle.connection_model.specs.Feed.{End, Past, Ticked, Made, Waits, Sent, Took, Ended, Entry, Delivered, Item}
use Rattle.connection_model.specs.Fates.{last_sent, sent_in, head_of, taken_of, top_of, top_when, word_count, history_word, history_of, named_numbers}
use Rattle.connection_model.specs.Bunches.{made_count, after_making}
use Rattle.connection_model.specs.Verdict.{with_told, with_handed}
use Rattle.connection_laws.specs.Run.{owed_by, owed_in, acknowledged_of, Ascends, Acknowledges}
use Rattle.connection_laws.specs.Deeds.{DeedsFit}
use Rattle.connection_laws.specs.Link.{Said, SaysHead, SaysItem, all_said, said_by, done_of}
use Rattle.connection_laws.proofs.Searches.{among_cons, among_there, among_left, among_right, among_most}
use Rattle.connection_laws.proofs.Moves.{making_keeps}
use Rattle.connection_laws.proofs.Spans.{some_parts}
use Rattle.connection_laws.proofs.PacketsSay.{IsIn, in_either, said_sent}
use Rattle.protocol_laws.proofs.Reading.{digits-number_of}
use Rattle.protocol_laws.proofs.Greatest.{greatest_of-cons}

-- ---- what was heard to its end was taken

-- what was heard to its end was taken
pub done_taken : (past : Past) (x : ℕ) → is_among x (done_of past) ≡ true → is_among x (taken_of past) ≡ true
done_taken [] x h = h
done_taken (Took n es ds ∷ past) x h = among_there n (taken_of past) x h
done_taken (Ended g ∷ past) x h = done_taken past x h
done_taken (Ticked t s ∷ past) x h = h
done_taken (Made c n m i ∷ past) x h = h
done_taken (Waits m ∷ past) x h = h
done_taken (Sent n t items ∷ past) x h = h

-- once a part was made, all that was taken was heard to its end
abbrev IsDoneBy : Past → ℕ → Past → Type 0
IsDoneBy past zero before = taken_of before ≡ taken_of past
IsDoneBy past (suc i) before = (taken_of before ≡ taken_of past) × (done_of before ≡ taken_of past)

-- each part of a message leaves it so
done_step : (past : Past) (ch n : ℕ) (m : Message) (j i : ℕ) (before : Past) → IsDoneBy past i before → IsDoneBy past (suc i) (Made ch n m j ∷ before)
done_step past ch n m j zero before h = (h, h)
done_step past ch n m j (suc i) before h = (h.0, h.0)

-- so does the whole message
done_end : (past : Past) (i : ℕ) (before : Past) → 1 ≤ i → IsDoneBy past i before → done_of before ≡ taken_of past
done_end past zero before lo h = absurd (omega arith)
done_end past (suc i) before lo h = h.1

-- where a message is made, no packet is under way
pub done_made : (past : Past) (ch : ℕ) (m : Message) → done_of (after_making past ch m) ≡ taken_of past
done_made past ch m =
    done_end past (parts_of m) (after_making past ch m) (some_parts m)
    (making_keeps (IsDoneBy past) past ch m refl (λ i before lt h. done_step past ch (made_count past ch + 1 + i) m i i before h))

-- hearing an entry ends no packet
pub done_told : (entry : Entry) (past : Past) → done_of (with_told entry past) ≡ done_of past
done_told entry (Took n es ds ∷ past) = refl
done_told entry past = refl

-- handing a payload on ends no packet
pub done_handed : (d : Delivered) (past : Past) → done_of (with_handed d past) ≡ done_of past
done_handed d (Took n es ds ∷ past) = refl
done_handed d past = refl

-- ---- acknowledgements

-- the number that is acknowledged
abbrev pub ack_in : Said → Option ℕ
ack_in (SaysItem item) = owed_in item
ack_in (SaysHead head) = None

-- those of packet k
abbrev pub acks_by : Version → Past → ℕ → List ℕ
acks_by v past k = filter_map ack_in (said_by v past k)

-- the acknowledgements among items are those that they owe
held_acks : (items : List Item) → filter_map ack_in (map (λ (item : Item). SaysItem item) items) ≡ owed_by items
held_acks [] = refl
held_acks (item ∷ items) = ap (cons_option (owed_in item)) (held_acks items)

-- the acknowledgements that a packet says are those of its items
pub acks_said : (v : Version) (past : Past) (items : List Item) → filter_map ack_in (all_said v past items) ≡ owed_by items
acks_said One past items = held_acks items
acks_said Two past items = held_acks items

-- some ack was said in a packet that was sent
ack_said : (said : List Said) (x : ℕ) → is_among x (filter_map ack_in said) ≡ true → (s : Said) × IsIn s said
ack_said [] x h = absurd (false≢true h)
ack_said (s ∷ said) x h = (s, inl refl)

-- a packet that acknowledges was sent
pub ack_sent : (end : End) (v : Version) (past : Past) → DeedsFit end past → (x k : ℕ) → is_among x (acks_by v past k) ≡ true → k ≤ last_sent past
ack_sent end v past fit x k h = (let s = ack_said (said_by v past k) x h in (said_sent end v past fit s.0 k s.1).1)

-- what a packet acknowledges was acknowledged
pub acks_told : (v : Version) (past : Past) (x k : ℕ) → is_among x (acks_by v past k) ≡ true → is_among x (acknowledged_of past) ≡ true
acks_told v [] x k h = absurd (false≢true h)
acks_told v (Ticked t s ∷ past) x k h = acks_told v past x k h
acks_told v (Made c n m i ∷ past) x k h = acks_told v past x k h
acks_told v (Waits m ∷ past) x k h = acks_told v past x k h
acks_told v (Took n es ds ∷ past) x k h = acks_told v past x k h
acks_told v (Ended g ∷ past) x k h = acks_told v past x k h
acks_told v (Sent number t items ∷ past) x k h = by (number == k) h (λ q. acks_told v past x k q)
  where
    by : (b : Bool) → is_among x (filter_map ack_in (cond b (all_said v past items) (said_by v past k))) ≡ true → (is_among x (acks_by v past k) ≡ true → is_among x (acknowledged_of past) ≡ true)
        → is_among x (owed_by items ++ acknowledged_of past) ≡ true
    by true h ih = among_left (owed_by items) (acknowledged_of past) x (ap (is_among x) (sym (acks_said v past items)) ∙ h)
    by false h ih = among_right (owed_by items) (acknowledged_of past) x (ih h)

-- each of ascending numbers is above where they begin
pub ascends_above : (low : ℕ) (ns : List ℕ) (x : ℕ) → Ascends low ns → is_among x ns ≡ true → low < x
ascends_above low [] x h e = absurd (false≢true e)
ascends_above low (n ∷ ns) x h e = elim (among_cons n ns x e) [ inl q ↦ omega (arith, h.0) | inr q ↦ (let l : n < x = ascends_above n ns x h.1 q in omega (arith, h.0)) ]

-- numbers that ascend from somewhere ascend from 0
ascends_lower : (low : ℕ) (ns : List ℕ) → Ascends low ns → Ascends 0 ns
ascends_lower low [] h = tt
ascends_lower low (n ∷ ns) h = (omega (arith, h.0), h.1)

-- numbers that ascend do so from each of them on
pub ascends_middle : (low : ℕ) (xs : List ℕ) (x : ℕ) (ys : List ℕ) → Ascends low (xs ++ x ∷ ys) → Ascends x ys
ascends_middle low [] x ys h = h.1
ascends_middle low (z ∷ xs) x ys h = ascends_middle z xs x ys h.1

-- in each packet they ascend
pub acks_ascend : (end : End) → end.version ≡ One → (v : Version) (past : Past) → DeedsFit end past → (k : ℕ) → Ascends 0 (acks_by v past k)
acks_ascend end one v [] fit k = tt
acks_ascend end one v (Ticked t s ∷ past) fit k = acks_ascend end one v past fit.1 k
acks_ascend end one v (Made c n m i ∷ past) fit k = acks_ascend end one v past fit.1 k
acks_ascend end one v (Waits m ∷ past) fit k = acks_ascend end one v past fit.1 k
acks_ascend end one v (Took n es ds ∷ past) fit k = acks_ascend end one v past fit.1 k
acks_ascend end one v (Ended g ∷ past) fit k = acks_ascend end one v past fit.1 k
acks_ascend end one v (Sent number t items ∷ past) fit k = by (number == k) (acks_ascend end one v past fit.1 k)
  where
    ascends : Ascends (greatest_of (acknowledged_of past)) (owed_by items)
    ascends = subst (λ (w : Version). Acknowledges w (greatest_of (acknowledged_of past)) (owed_by items)) one fit.0.2.told

    by : (b : Bool) → Ascends 0 (acks_by v past k) → Ascends 0 (filter_map ack_in (cond b (all_said v past items) (said_by v past k)))
    by true ih = subst (Ascends 0) (sym (acks_said v past items)) (ascends_lower (greatest_of (acknowledged_of past)) (owed_by items) ascends)
    by false ih = ih

-- and from packet to packet
pub acks_order : (end : End) → end.version ≡ One → (v : Version) (past : Past) → DeedsFit end past → (j k x y : ℕ) → j < k
    → is_among x (acks_by v past j) ≡ true → is_among y (acks_by v past k) ≡ true → x < y
acks_order end one v [] fit j k x y lt h i = absurd (false≢true h)
acks_order end one v (Ticked t s ∷ past) fit j k x y lt h i = acks_order end one v past fit.1 j k x y lt h i
acks_order end one v (Made c n m a ∷ past) fit j k x y lt h i = acks_order end one v past fit.1 j k x y lt h i
acks_order end one v (Waits m ∷ past) fit j k x y lt h i = acks_order end one v past fit.1 j k x y lt h i
acks_order end one v (Took n es ds ∷ past) fit j k x y lt h i = acks_order end one v past fit.1 j k x y lt h i
acks_order end one v (Ended g ∷ past) fit j k x y lt h i = acks_order end one v past fit.1 j k x y lt h i
acks_order end one v (Sent number t items ∷ past) fit j k x y lt h i =
    by (number == j) (number == k) refl refl h i (λ p q. acks_order end one v past fit.1 j k x y lt p q)
  where
    ascends : Ascends (greatest_of (acknowledged_of past)) (owed_by items)
    ascends = subst (λ (w : Version). Acknowledges w (greatest_of (acknowledged_of past)) (owed_by items)) one fit.0.2.told

    by : (b c : Bool) → (number == j) ≡ b → (number == k) ≡ c
        → is_among x (filter_map ack_in (cond b (all_said v past items) (said_by v past j))) ≡ true
        → is_among y (filter_map ack_in (cond c (all_said v past items) (said_by v past k))) ≡ true
        → (is_among x (acks_by v past j) ≡ true → is_among y (acks_by v past k) ≡ true → x < y) → x < y
    by true true p q h i ih = (let a : number ≡ j = eqb-true number j p in let b : number ≡ k = eqb-true number k q in absurd (omega arith))
    by true false p q h i ih =
        let a : number ≡ j = eqb-true number j p in
        let s : k ≤ last_sent past = ack_sent end v past fit.1 y k i in
        absurd (omega (arith, fit.0.0))
    by false true p q h i ih =
        let le : x ≤ greatest_of (acknowledged_of past) = among_most (acknowledged_of past) x (acks_told v past x j h) in
        let gt : greatest_of (acknowledged_of past) < y = ascends_above (greatest_of (acknowledged_of past)) (owed_by items) y ascends (ap (is_among y) (sym (acks_said v past items)) ∙ i) in
        omega arith
    by false false p q h i ih = ih h i

-- version Two has none
pub no_acks : (end : End) → end.version ≡ Two → (v : Version) (past : Past) → DeedsFit end past → (k : ℕ) → acks_by v past k ≡ []
no_acks end two v [] fit k = refl
no_acks end two v (Ticked t s ∷ past) fit k = no_acks end two v past fit.1 k
no_acks end two v (Made c n m i ∷ past) fit k = no_acks end two v past fit.1 k
no_acks end two v (Waits m ∷ past) fit k = no_acks end two v past fit.1 k
no_acks end two v (Took n es ds ∷ past) fit k = no_acks end two v past fit.1 k
no_acks end two v (Ended g ∷ past) fit k = no_acks end two v past fit.1 k
no_acks end two v (Sent number t items ∷ past) fit k = by (number == k) (no_acks end two v past fit.1 k)
  where
    none : owed_by items ≡ []
    none = subst (λ (w : Version). Acknowledges w (greatest_of (acknowledged_of past)) (owed_by items)) two fit.0.2.told

    by : (b : Bool) → acks_by v past k ≡ [] → filter_map ack_in (cond b (all_said v past items) (said_by v past k)) ≡ []
    by true ih = acks_said v past items ∙ none
    by false ih = ih

-- ---- heads

-- the greatest number after one more is taken
top_taken : (n : ℕ) (es : List Entry) (ds : List Delivered) (past : Past) → top_of (Took n es ds ∷ past) ≡ max n (top_of past)
top_taken n es ds past = greatest_of-cons n (taken_of past)

-- the greatest number taken when a packet was sent is below the greatest now
pub top_when_le : (past : Past) (k : ℕ) → top_when past k ≤ top_of past
top_when_le [] k = omega arith
top_when_le (Ticked t s ∷ past) k = top_when_le past k
top_when_le (Made c n m i ∷ past) k = top_when_le past k
top_when_le (Waits m ∷ past) k = top_when_le past k
top_when_le (Took n es ds ∷ past) k = omega (arith, top_taken n es ds past, top_when_le past k)
top_when_le (Ended g ∷ past) k = top_when_le past k
top_when_le (Sent number t items ∷ past) k = by (number == k) (top_when_le past k)
  where
    by : (b : Bool) → top_when past k ≤ top_of past → cond b (top_of past) (top_when past k) ≤ top_of past
    by true ih = omega arith
    by false ih = ih

-- the tops told rise
pub tops_rise : (end : End) (past : Past) → DeedsFit end past → (j k : ℕ) → j ≤ k → k ≤ last_sent past → top_when past j ≤ top_when past k
tops_rise end [] fit j k le hi = omega arith
tops_rise end (Ticked t s ∷ past) fit j k le hi = tops_rise end past fit.1 j k le hi
tops_rise end (Made c n m i ∷ past) fit j k le hi = tops_rise end past fit.1 j k le hi
tops_rise end (Waits m ∷ past) fit j k le hi = tops_rise end past fit.1 j k le hi
tops_rise end (Took n es ds ∷ past) fit j k le hi = tops_rise end past fit.1 j k le hi
tops_rise end (Ended g ∷ past) fit j k le hi = tops_rise end past fit.1 j k le hi
tops_rise end (Sent number t items ∷ past) fit j k le hi = by (number == j) (number == k) refl refl (λ h. tops_rise end past fit.1 j k le h)
  where
    top : last_sent (Sent number t items ∷ past) ≡ max number (last_sent past)
    top = greatest_of-cons number (filter_map sent_in past)

    by : (b c : Bool) → (number == j) ≡ b → (number == k) ≡ c → (k ≤ last_sent past → top_when past j ≤ top_when past k)
        → cond b (top_of past) (top_when past j) ≤ cond c (top_of past) (top_when past k)
    by true true p q ih = omega arith
    by true false p q ih = absurd (let a : number ≡ j = eqb-true number j p in apart (eqb-false number k q) a)
      where
        apart : (number ≡ k → ⊥) → number ≡ j → ⊥
        apart ne a = (let lt : k ≤ number = omega (arith, hi, top, fit.0.0) in ne (omega arith))
    by false true p q ih = top_when_le past j
    by false false p q ih = ih (other (eqb-false number k q))
      where
        other : (number ≡ k → ⊥) → k ≤ last_sent past
        other ne = omega (arith, hi, top, fit.0.0)

-- what a head tells
pub record HeadFacts (past : Past) (k : ℕ) (head : Head) : Type 0 where
  pub before : Past
  pub is : head ≡ head_of Two before
  pub top : top_of before ≡ top_when past k
  pub taken : (x : ℕ) → is_among x (taken_of before) ≡ true → is_among x (done_of past) ≡ true
  pub positive : is_among 0 (taken_of before) ≡ false

-- no packet 0 is taken
taken_positive : (end : End) (past : Past) → DeedsFit end past → is_among 0 (taken_of past) ≡ false
taken_positive end [] fit = refl
taken_positive end (Ticked t s ∷ past) fit = taken_positive end past fit.1
taken_positive end (Made c n m i ∷ past) fit = taken_positive end past fit.1
taken_positive end (Waits m ∷ past) fit = taken_positive end past fit.1
taken_positive end (Sent n t items ∷ past) fit = taken_positive end past fit.1
taken_positive end (Ended g ∷ past) fit = taken_positive end past fit.1
taken_positive end (Took n es ds ∷ past) fit = elim (cases_Bool (is_among 0 (n ∷ taken_of past))) [
  | inr e ↦ e
  | inl e ↦ elim (among_cons n (taken_of past) 0 e) [
    | inl q ↦ absurd (omega (arith, fit.0))
    | inr q ↦ absurd (false≢true (sym (taken_positive end past fit.1) ∙ q))
  ]
]

-- the head stays right while more is heard to its end
same_facts : (past later : Past) (k : ℕ) (head : Head) → top_when later k ≡ top_when past k → ((x : ℕ) → is_among x (done_of past) ≡ true → is_among x (done_of later) ≡ true) → HeadFacts past k head → HeadFacts later k head
same_facts past later k head t d f = record { before = f.before; is = f.is; top = f.top ∙ sym t; taken = λ x h. d x (f.taken x h); positive = f.positive }

-- the head that a packet says is the one of its past
tells_head : (past : Past) (items : List Item) (head : Head) → IsIn (SaysHead head) (all_said Two past items) → head_of Two past ≡ head
tells_head past items head (inl e) = same e
  where
    same : SaysHead (head_of Two past) ≡ SaysHead head → head_of Two past ≡ head
    same e = cc
tells_head past items head (inr h) = absurd (none items h)
  where
    none : (items : List Item) → IsIn (SaysHead head) (map (λ (item : Item). SaysItem item) items) → ⊥
    none [] h = h
    none (item ∷ items) (inl e) = no e
      where
        no : SaysItem item ≡ SaysHead head → ⊥
        no e = cc
    none (item ∷ items) (inr h) = none items h

-- the head of a packet names packets that were taken before it was sent
pub head_facts : (end : End) (past : Past) → DeedsFit end past → (k : ℕ) (head : Head) → IsIn (SaysHead head) (said_by Two past k) → HeadFacts past k head
head_facts end [] fit k head h = absurd h
head_facts end (Ticked t s ∷ past) fit k head h = same_facts past (Ticked t s ∷ past) k head refl (done_taken past) (head_facts end past fit.1 k head h)
head_facts end (Made c n m i ∷ past) fit k head h = same_facts past (Made c n m i ∷ past) k head refl (done_taken past) (head_facts end past fit.1 k head h)
head_facts end (Waits m ∷ past) fit k head h = same_facts past (Waits m ∷ past) k head refl (done_taken past) (head_facts end past fit.1 k head h)
head_facts end (Took n es ds ∷ past) fit k head h = same_facts past (Took n es ds ∷ past) k head refl (done_taken past) (head_facts end past fit.1 k head h)
head_facts end (Ended g ∷ past) fit k head h = same_facts past (Ended g ∷ past) k head refl (λ x q. q) (head_facts end past fit.1 k head h)
head_facts end (Sent number t items ∷ past) fit k head h = by (number == k) refl h (λ q. head_facts end past fit.1 k head q)
  where
    by : (b : Bool) → (number == k) ≡ b → IsIn (SaysHead head) (cond b (all_said Two past items) (said_by Two past k)) → (IsIn (SaysHead head) (said_by Two past k) → HeadFacts past k head)
        → HeadFacts (Sent number t items ∷ past) k head
    by true e h ih = record {
      before = past;
      is = sym (tells_head past items head h);
      top = ap (λ (b : Bool). cond b (top_of past) (top_when past k)) (sym e);
      taken = λ x q. q;
      positive = taken_positive end past fit.1;
    }
    by false e h ih = same_facts past (Sent number t items ∷ past) k head (ap (λ (b : Bool). cond b (top_of past) (top_when past k)) e) (done_taken past) (ih h)

-- ---- the numbers that a history names

-- the numbers that a history names are those of its parts
pub named-append : (a : ℤ) (xs ys : List Bool) → named_numbers a (xs ++ ys) ≡ named_numbers a xs ++ named_numbers (a -ℤ pos (length xs)) ys
named-append a [] ys = (let e : a -ℤ pos 0 ≡ a = omega (arith, ints) in rw e refl)
named-append a (true ∷ xs) ys = (let e : (a -ℤ pos 1) -ℤ pos (length xs) ≡ a -ℤ pos (suc (length xs)) = omega (arith, ints) in ap (λ (zs : List ℤ). a ∷ zs) (named-append (a -ℤ pos 1) xs ys ∙ ap (λ (z : ℤ). named_numbers (a -ℤ pos 1) xs ++ named_numbers z ys) e))
named-append a (false ∷ xs) ys = (let e : (a -ℤ pos 1) -ℤ pos (length xs) ≡ a -ℤ pos (suc (length xs)) = omega (arith, ints) in named-append (a -ℤ pos 1) xs ys ∙ ap (λ (z : ℤ). named_numbers (a -ℤ pos 1) xs ++ named_numbers z ys) e)

module _ (ts : List ℕ) (top : ℕ) (positive : is_among 0 ts ≡ false) where
  -- the numbers named in a word that begins `base` below the top
  word_names : (base i count : ℕ) (z : ℤ) → IsIn z (named_numbers (pos top -ℤ pos (base + i)) (map (λ (j : ℕ). is_among (top - base - j) ts) (range_with_len i count)))
      → (n : ℕ) → z ≡ pos n → is_among n ts ≡ true
  word_names base i zero z h n e = absurd h
  word_names base i (suc count) z h n e =
      let next : (pos top -ℤ pos (base + i)) -ℤ pos 1 ≡ pos top -ℤ pos (base + (i + 1)) = omega (arith, ints) in
      by (is_among (top - base - i) ts) refl h
      (λ q. word_names base (i + 1) count z (subst (λ (a : ℤ). IsIn z (named_numbers a (map (λ (j : ℕ). is_among (top - base - j) ts) (range_with_len (i + 1) count)))) next q) n e)
    where
      here : is_among (top - base - i) ts ≡ true → pos top -ℤ pos (base + i) ≡ z → is_among n ts ≡ true
      here t q = elim (cases_lt top (base + i)) [
        | inl lt ↦ (let zero_is : top - base - i ≡ 0 = omega arith in absurd (false≢true (sym positive ∙ ap (λ (k : ℕ). is_among k ts) (sym zero_is) ∙ t)))
        | inr le ↦ (
            let same : pos top -ℤ pos (base + i) ≡ pos n = q ∙ e in
            let is : top - base - i ≡ n = omega (arith, ints, same) in
            ap (λ (k : ℕ). is_among k ts) (sym is) ∙ t)
      ]

      by : (b : Bool) → is_among (top - base - i) ts ≡ b → IsIn z (named_numbers (pos top -ℤ pos (base + i)) (b ∷ map (λ (j : ℕ). is_among (top - base - j) ts) (range_with_len (i + 1) count)))
          → (IsIn z (named_numbers ((pos top -ℤ pos (base + i)) -ℤ pos 1) (map (λ (j : ℕ). is_among (top - base - j) ts) (range_with_len (i + 1) count))) → is_among n ts ≡ true) → is_among n ts ≡ true
      by true t (inl q) ih = here t q
      by true t (inr q) ih = ih q
      by false t q ih = ih q

-- a history names what was taken
module _ (before : Past) (positive : is_among 0 (taken_of before) ≡ false) where
  words_name : (w count : ℕ) (z : ℤ)
      → IsIn z (named_numbers (pos (top_of before) -ℤ pos (32 * w)) (flat_map (λ word. fixed_bits 32 word) (map (λ w. history_word before (top_of before - 32 * w)) (range_with_len w count))))
      → (n : ℕ) → z ≡ pos n → is_among n (taken_of before) ≡ true
  words_name w zero z h n e = absurd h
  words_name w (suc count) z h n e =
      let bits : List Bool = map (λ (j : ℕ). is_among (top_of before - 32 * w - j) (taken_of before)) (range_with_len 0 32) in
      let rest : List Bool = flat_map (λ word. fixed_bits 32 word) (map (λ w. history_word before (top_of before - 32 * w)) (range_with_len (w + 1) count)) in
      let long : length bits ≡ 32 = length-map-range_with_len (λ (j : ℕ). is_among (top_of before - 32 * w - j) (taken_of before)) 0 32 in
      let spelled : fixed_bits 32 (history_word before (top_of before - 32 * w)) ≡ bits =
      subst (λ (k : ℕ). digits k (number_of bits) ≡ bits) long (digits-number_of bits) in
      let split : IsIn z (named_numbers (pos (top_of before) -ℤ pos (32 * w)) bits ++ named_numbers ((pos (top_of before) -ℤ pos (32 * w)) -ℤ pos (length bits)) rest) =
      subst (IsIn z) (ap (λ (bs : List Bool). named_numbers (pos (top_of before) -ℤ pos (32 * w)) (bs ++ rest)) spelled ∙ named-append (pos (top_of before) -ℤ pos (32 * w)) bits rest) h in
      let next : (pos (top_of before) -ℤ pos (32 * w)) -ℤ pos (length bits) ≡ pos (top_of before) -ℤ pos (32 * (w + 1)) = omega (arith, ints, long) in
      let start : 32 * w ≡ 32 * w + 0 = omega arith in
      elim (in_either z (named_numbers (pos (top_of before) -ℤ pos (32 * w)) bits) (named_numbers ((pos (top_of before) -ℤ pos (32 * w)) -ℤ pos (length bits)) rest) split) [
        | inl q ↦ word_names (taken_of before) (top_of before) positive (32 * w) 0 32 z (subst (λ (k : ℕ). IsIn z (named_numbers (pos (top_of before) -ℤ pos k) bits)) start q) n e
        | inr q ↦ words_name (w + 1) count z (subst (λ (a : ℤ). IsIn z (named_numbers a rest)) next q) n e
      ]

  pub history_names : (z : ℤ) → IsIn z (named_numbers (pos (top_of before)) (history_of (head_of Two before))) → (n : ℕ) → z ≡ pos n → is_among n (taken_of before) ≡ true
  history_names z h n e =
      let zero_less : pos (top_of before) ≡ pos (top_of before) -ℤ pos (32 * 0) = omega (arith, ints) in
      words_name 0 (word_count before) z
      (subst (λ (a : ℤ). IsIn z (named_numbers a (history_of (head_of Two before)))) zero_less h) n e
