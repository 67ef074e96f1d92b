-- What a move leaves alone.
use Rattle.std.proofs.Common.{◌≡◌, ℕ, zero, suc, ◌+◌, ◌<◌, ◌≤◌, List, [], ◌∷◌, ◌++◌, refl, ap, ◌∙◌, subst, arith, Option, None}
use Rattle.std.specs.List.{fold, filter_map, flat_map, cons_option, range_with_len}
use Rattle.protocol_model.specs.Payload.{Message, parts_of}
use Rattle.connection_model.specs.Feed.{Past, Deed, Made, Took, Entry, Delivered}
use Rattle.connection_model.specs.Bunches.{made_count, after_making}
use Rattle.connection_model.specs.Verdict.{with_told, with_handed}

-- ---- making a message, part by part

-- what each part keeps the parts from some place on keep
parts_from : (P : ℕ → Past → Type 0) (ch first : ℕ) (m : Message) (count i : ℕ) (past : Past) → P i past
    → ((j : ℕ) (before : Past) → i ≤ j → j < i + count → P j before → P (suc j) (Made ch (first + j) m j ∷ before))
    → P (i + count) (fold (λ (before : Past) (j : ℕ). Made ch (first + j) m j ∷ before) past (range_with_len i count))
parts_from P ch first m zero i past h step = (let e : i + 0 ≡ i = omega arith in rw e h)
parts_from P ch first m (suc count) i past h step =
    let e : i + suc count ≡ (i + 1) + count = omega arith in
    let s : suc i ≡ i + 1 = omega arith in
    let one : P (i + 1) (Made ch (first + i) m i ∷ past) =
    subst (λ (n : ℕ). P n (Made ch (first + i) m i ∷ past)) s (step i past (omega arith) (omega arith) h) in
    rw e (parts_from P ch first m count (i + 1) (Made ch (first + i) m i ∷ past) one
    (λ j before lo hi p. step j before (omega arith) (omega arith) p))

-- what holds of a past and 0 and goes on with each part holds after the message is made
pub making_keeps : (P : ℕ → Past → Type 0) (past : Past) (ch : ℕ) (m : Message) → P 0 past
    → ((i : ℕ) (before : Past) → i < parts_of m → P i before → P (suc i) (Made ch (made_count past ch + 1 + i) m i ∷ before))
    → P (parts_of m) (after_making past ch m)
making_keeps P past ch m h step =
    let e : 0 + parts_of m ≡ parts_of m = omega arith in
    let all : P (0 + parts_of m) (after_making past ch m) =
    parts_from P ch (made_count past ch + 1) m (parts_of m) 0 past h (λ j before lo hi p. step j before (omega arith) p) in
    rw e at all

-- what finds nothing in a bunch made finds the same after a message is made
pub made_ignored : {B : Type 0} (f : Deed → Option B) → ((ch n : ℕ) (m : Message) (i : ℕ) → f (Made ch n m i) ≡ None)
    → (past : Past) (ch : ℕ) (m : Message) → filter_map f (after_making past ch m) ≡ filter_map f past
made_ignored f h past ch m =
    making_keeps (λ i before. filter_map f before ≡ filter_map f past) past ch m refl
    (λ i before lt e. ap (λ o. cons_option o (filter_map f before)) (h ch (made_count past ch + 1 + i) m i) ∙ e)

-- the same of what finds lists
pub made_ignored_all : {B : Type 0} (f : Deed → List B) → ((ch n : ℕ) (m : Message) (i : ℕ) → f (Made ch n m i) ≡ [])
    → (past : Past) (ch : ℕ) (m : Message) → flat_map f (after_making past ch m) ≡ flat_map f past
made_ignored_all f h past ch m =
    making_keeps (λ i before. flat_map f before ≡ flat_map f past) past ch m refl
    (λ i before lt e. ap (λ o. o ++ flat_map f before) (h ch (made_count past ch + 1 + i) m i) ∙ e)

-- ---- the packet under way

-- what holds of the past, and of it with one more entry where a packet is under way, holds after an entry
pub told_keeps : (P : Past → Type 0) (entry : Entry) (past : Past) → P past
    → ((n : ℕ) (es : List Entry) (ds : List Delivered) (before : Past) → P (Took n es ds ∷ before) → P (Took n (entry ∷ es) ds ∷ before))
    → P (with_told entry past)
told_keeps P entry (Took n es ds ∷ past) h step = step n es ds past h
told_keeps P entry past h step = h

-- what stays when the packet under way hands on stays
pub handed_keeps : (P : Past → Type 0) (d : Delivered) (past : Past) → P past
    → ((n : ℕ) (es : List Entry) (ds : List Delivered) (before : Past) → P (Took n es ds ∷ before) → P (Took n es (d ∷ ds) ∷ before))
    → P (with_handed d past)
handed_keeps P d (Took n es ds ∷ past) h step = step n es ds past h
handed_keeps P d past h step = h

-- what finds the same with one more entry
pub told_ignored : {B : Type 0} (f : Deed → Option B)
    → ((n : ℕ) (e : Entry) (es : List Entry) (ds : List Delivered) → f (Took n (e ∷ es) ds) ≡ f (Took n es ds))
    → (entry : Entry) (past : Past) → filter_map f (with_told entry past) ≡ filter_map f past
told_ignored f h entry (Took n es ds ∷ past) = ap (λ o. cons_option o (filter_map f past)) (h n entry es ds)
told_ignored f h entry past = refl

-- what finds the same with one more payload
pub handed_ignored : {B : Type 0} (f : Deed → Option B)
    → ((n : ℕ) (es : List Entry) (d : Delivered) (ds : List Delivered) → f (Took n es (d ∷ ds)) ≡ f (Took n es ds))
    → (d : Delivered) (past : Past) → filter_map f (with_handed d past) ≡ filter_map f past
handed_ignored f h d (Took n es ds ∷ past) = ap (λ o. cons_option o (filter_map f past)) (h n es d ds)
handed_ignored f h d past = refl

-- the same of what finds lists
pub told_ignored_all : {B : Type 0} (f : Deed → List B)
    → ((n : ℕ) (e : Entry) (es : List Entry) (ds : List Delivered) → f (Took n (e ∷ es) ds) ≡ f (Took n es ds))
    → (entry : Entry) (past : Past) → flat_map f (with_told entry past) ≡ flat_map f past
told_ignored_all f h entry (Took n es ds ∷ past) = ap (λ o. o ++ flat_map f past) (h n entry es ds)
told_ignored_all f h entry past = refl

-- the same of what finds lists
pub handed_ignored_all : {B : Type 0} (f : Deed → List B)
    → ((n : ℕ) (es : List Entry) (d : Delivered) (ds : List Delivered) → f (Took n es (d ∷ ds)) ≡ f (Took n es ds))
    → (d : Delivered) (past : Past) → flat_map f (with_handed d past) ≡ flat_map f past
handed_ignored_all f h d (Took n es ds ∷ past) = ap (λ o. o ++ flat_map f past) (h n es d ds)
handed_ignored_all f h d past = refl
