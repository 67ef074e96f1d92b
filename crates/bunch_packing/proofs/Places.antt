-- Due bunches by channel and number, and those that are left from a place on.
use Rattle.std.proofs.Common.{◌≡◌, inl, inr, ℕ, zero, suc, ◌+◌, ◌<◌, ◌≤◌, List, [], ◌∷◌, ◌++◌, map, Bool, true, false, not, ◌&&◌, ◌||◌, ◌==◌, nat_lt, Option, Some, None, option_map, refl, sym, ap, ◌∙◌, subst, arith}
use Rattle.std.specs.Prelude.{⊤}
use Rattle.std.specs.List.{find, filter, filter_map, flat_map, cons_option, range_with_len, AllByRecursion}
use Rattle.std.proofs.lemmas.Bool.{cases_Bool, cond_both}
use Rattle.std.proofs.lemmas.Bool.Decides.{nat_tests}
use Rattle.std.proofs.lemmas.List.Elements.{filter_map-append}
use Rattle.protocol_model.specs.Search.{is_among}
use Rattle.connection_model.specs.Feed.{Past, Item}
use Rattle.connection_model.specs.Bunches.{made_count, channels_of, channel_in, is_due}
use Rattle.connection_model.specs.Items.{carrying_item, due_items}
use Rattle.connection_laws.proofs.Items.{all_weaker, all_append}
use Rattle.connection_laws.proofs.Searches.{among_here, among_there}
use Rattle.channel_laws.specs.Due.{due_on, due_places, is_from}
use Rattle.channel_laws.proofs.Orders.{Ascend, ascending, find_front, find_back, find_mapped}

-- ---- the items of places

abbrev pub item_at : Past → (place : ℕ × ℕ) → Option Item
item_at past place = carrying_item past place.0 place.1

items_on : (past : Past) (ch : ℕ) (ns : List ℕ)
    → filter_map (item_at past) (map (λ n. (ch, n)) ns) ≡ filter_map (carrying_item past ch) ns
items_on past ch [] = refl
items_on past ch (n ∷ ns) = ap (cons_option (carrying_item past ch n)) (items_on past ch ns)

items_over : (past : Past) (cs : List ℕ)
    → flat_map (λ ch. filter_map (carrying_item past ch) (filter (is_due past ch)
    (range_with_len 1 (made_count past ch)))) cs
    ≡ filter_map (item_at past) (flat_map (due_on past) cs)
items_over past [] = refl
items_over past (ch ∷ cs) =
    ap (λ (xs : List Item). filter_map (carrying_item past ch)
    (filter (is_due past ch) (range_with_len 1 (made_count past ch))) ++ xs)
    (items_over past cs)
    ∙ ap (λ (xs : List Item). xs ++ filter_map (item_at past) (flat_map (due_on past) cs))
    (sym (items_on past ch (filter (is_due past ch) (range_with_len 1 (made_count past ch)))))
    ∙ sym (filter_map-append (item_at past) (due_on past ch) (flat_map (due_on past) cs))

-- the due items are those of the due places
pub due_items_are : (past : Past) → due_items past ≡ filter_map (item_at past) (due_places past)
due_items_are past = items_over past (channels_of past)

-- ---- in which order they stand

-- a place after another one
abbrev pub Follows : ℕ × ℕ → ℕ × ℕ → Type 0
Follows x y = is_from x.0 (x.1 + 1) y ≡ true

-- each place is before those that stand behind it
abbrev pub Rising : List (ℕ × ℕ) → Type 0
Rising [] = ⊤
Rising (x ∷ xs) = AllByRecursion (Follows x) xs × Rising xs

rising_append : (xs ys : List (ℕ × ℕ)) → Rising xs → Rising ys
    → AllByRecursion (λ x. AllByRecursion (Follows x) ys) xs → Rising (xs ++ ys)
rising_append [] ys a b h = b
rising_append (x ∷ xs) ys a b h = (all_append (Follows x) xs ys a.0 h.0, rising_append xs ys a.1 b h.1)

-- a place of a channel, from a number on
abbrev pub IsOn : (channel from : ℕ) → ℕ × ℕ → Type 0
IsOn ch k y = (y.0 ≡ ch) × (k ≤ y.1)

numbers_on : (past : Past) (ch k n : ℕ)
    → AllByRecursion (IsOn ch k) (map (λ n. (ch, n)) (filter (is_due past ch) (range_with_len k n)))
numbers_on past ch k zero = tt
numbers_on past ch k (suc n) =
    let rest = all_weaker (IsOn ch (k + 1)) (IsOn ch k) (λ y h. (h.0, omega (arith, h.1)))
    (map (λ n. (ch, n)) (filter (is_due past ch) (range_with_len (k + 1) n))) (numbers_on past ch (k + 1) n) in
    cond_both (is_due past ch k) (k ∷ filter (is_due past ch) (range_with_len (k + 1) n))
    (filter (is_due past ch) (range_with_len (k + 1) n)) (λ ns. AllByRecursion (IsOn ch k) (map (λ n. (ch, n)) ns))
    (λ e. ((refl, omega arith), rest)) (λ e. rest)

follows_number : (ch k : ℕ) (y : ℕ × ℕ) → IsOn ch (k + 1) y → Follows (ch, k) y
follows_number ch k y h = after y.0 y.1 ch k h.0 h.1
  where
    after : (c n ch k : ℕ) → c ≡ ch → k + 1 ≤ n → (nat_lt ch c || (c == ch && not (nat_lt n (k + 1)))) ≡ true
    after c n ch k e h = grind (arith, nat_tests)

follows_channel : (x y : ℕ × ℕ) → x.0 < y.0 → Follows x y
follows_channel x y h = after x.0 x.1 y.0 y.1 h
  where
    after : (c n d m : ℕ) → c < d → (nat_lt c d || (d == c && not (nat_lt m (n + 1)))) ≡ true
    after c n d m h = grind (arith, nat_tests)

rising_on : (past : Past) (ch k n : ℕ) → Rising (map (λ n. (ch, n)) (filter (is_due past ch) (range_with_len k n)))
rising_on past ch k zero = tt
rising_on past ch k (suc n) =
    cond_both (is_due past ch k) (k ∷ filter (is_due past ch) (range_with_len (k + 1) n))
    (filter (is_due past ch) (range_with_len (k + 1) n)) (λ ns. Rising (map (λ n. (ch, n)) ns))
    (λ e. (
      all_weaker (IsOn ch (k + 1)) (Follows (ch, k)) (follows_number ch k)
          (map (λ n. (ch, n)) (filter (is_due past ch) (range_with_len (k + 1) n))) (numbers_on past ch (k + 1) n),
      rising_on past ch (k + 1) n,
    ))
    (λ e. rising_on past ch (k + 1) n)

later_channels : (past : Past) (ch : ℕ) (cs : List ℕ) → ((k : ℕ) → is_among k cs ≡ true → ch < k)
    → AllByRecursion (λ (y : ℕ × ℕ). ch < y.0) (flat_map (due_on past) cs)
later_channels past ch [] h = tt
later_channels past ch (c ∷ cs) h =
    let below : ch < c = h c (among_here c cs c refl) in
    all_append (λ (y : ℕ × ℕ). ch < y.0) (due_on past c) (flat_map (due_on past) cs)
    (all_weaker (IsOn c 1) (λ (y : ℕ × ℕ). ch < y.0) (λ y on. omega (arith, on.0, below)) (due_on past c)
    (numbers_on past c 1 (made_count past c)))
    (later_channels past ch cs (λ k q. h k (among_there c cs k q)))

rising_over : (past : Past) (cs : List ℕ) → Ascend cs → Rising (flat_map (due_on past) cs)
rising_over past [] a = tt
rising_over past (c ∷ cs) a =
    let later = later_channels past c cs a.0 in
    rising_append (due_on past c) (flat_map (due_on past) cs) (rising_on past c 1 (made_count past c))
    (rising_over past cs a.1)
    (all_weaker (IsOn c 1) (λ x. AllByRecursion (Follows x) (flat_map (due_on past) cs))
    (λ x on. all_weaker (λ (y : ℕ × ℕ). c < y.0) (Follows x) (λ y h. follows_channel x y (omega (arith, on.0, h)))
    (flat_map (due_on past) cs) later)
    (due_on past c) (numbers_on past c 1 (made_count past c)))

pub rising : (past : Past) → Rising (due_places past)
rising past = rising_over past (channels_of past) (ascending (filter_map channel_in past))

-- ---- those that are left

filter_all : {A : Type 0} (p : A → Bool) (xs : List A) → AllByRecursion (λ x. p x ≡ true) xs → filter p xs ≡ xs
filter_all p [] h = refl
filter_all p (x ∷ xs) h = rw (h.0, filter_all p xs h.1) refl

-- a place from one on, and one after that
from_trans : (ch from c n : ℕ) (y : ℕ × ℕ) → is_from ch from (c, n) ≡ true → Follows (c, n) y
    → is_from ch from y ≡ true
from_trans ch from c n y a b = by ch from c n y.0 y.1 a b
  where
    by : (ch from c n d m : ℕ) → (nat_lt ch c || (c == ch && not (nat_lt n from))) ≡ true
        → (nat_lt c d || (d == c && not (nat_lt m (n + 1)))) ≡ true
        → (nat_lt ch d || (d == ch && not (nat_lt m from))) ≡ true
    by ch from c n d m a b = grind (arith, nat_tests)

-- what is before a place is before each from it on
pub before_all : (ch from c n : ℕ) (y : ℕ × ℕ) → is_from ch from (c, n) ≡ true → is_from ch from y ≡ false
    → is_from c (n + 1) y ≡ false
before_all ch from c n y a b = by ch from c n y.0 y.1 a b
  where
    by : (ch from c n d m : ℕ) → (nat_lt ch c || (c == ch && not (nat_lt n from))) ≡ true
        → (nat_lt ch d || (d == ch && not (nat_lt m from))) ≡ false
        → (nat_lt c d || (d == c && not (nat_lt m (n + 1)))) ≡ false
    by ch from c n d m a b = grind (arith, nat_tests)

pub not_itself : (c n : ℕ) → is_from c (n + 1) (c, n) ≡ false
not_itself c n = grind (arith, nat_tests)

some_is : (x y : ℕ × ℕ) → ◌≡◌ {A = Option (ℕ × ℕ)} (Some x) (Some y) → x ≡ y
some_is x y e = cc

pub found_from : (p : ℕ × ℕ → Bool) (ys : List (ℕ × ℕ)) (y : ℕ × ℕ) → find p ys ≡ Some y → p y ≡ true
found_from p [] y e = absurd cc
found_from p (x ∷ xs) y e = elim (cases_Bool (p x)) [
  | inl q ↦ ap p (some_is y x (sym e ∙ rw q refl)) ∙ q
  | inr q ↦ found_from p xs y (sym (rw q refl) ∙ e)
]

-- the first from a place on stands before those after it
pub left_first : (ch from : ℕ) (places : List (ℕ × ℕ)) (c n : ℕ) → Rising places
    → find (is_from ch from) places ≡ Some (c, n)
    → filter (is_from ch from) places ≡ (c, n) ∷ filter (is_from c (n + 1)) places
left_first ch from [] c n r e = absurd cc
left_first ch from (y ∷ ys) c n r e =
    by (is_from ch from y) refl (λ found. left_first ch from ys c n r.1 found)
  where
    by : (b : Bool) → is_from ch from y ≡ b
        → (find (is_from ch from) ys ≡ Some (c, n)
        → filter (is_from ch from) ys ≡ (c, n) ∷ filter (is_from c (n + 1)) ys)
        → filter (is_from ch from) (y ∷ ys) ≡ (c, n) ∷ filter (is_from c (n + 1)) (y ∷ ys)
    by true q rest =
        let is : y ≡ (c, n) = some_is y (c, n) (sym (rw q refl) ∙ e) in
        let from_it : is_from ch from (c, n) ≡ true = ap (is_from ch from) (sym is) ∙ q in
        let follow : AllByRecursion (Follows (c, n)) ys =
        subst (λ (x : ℕ × ℕ). AllByRecursion (Follows x) ys) is r.0 in
        let itself : is_from c (n + 1) y ≡ false = ap (is_from c (n + 1)) is ∙ not_itself c n in
        let all = filter_all (is_from ch from) ys
        (all_weaker (Follows (c, n)) (λ y. is_from ch from y ≡ true)
        (λ y h. from_trans ch from c n y from_it h) ys follow) in
        let same = filter_all (is_from c (n + 1)) ys follow in
        rw (q, itself) (rw (all, same) (ap (λ (x : ℕ × ℕ). x ∷ ys) is))
    by false q rest =
        let found : find (is_from ch from) ys ≡ Some (c, n) = sym (rw q refl) ∙ e in
        let from_it = found_from (is_from ch from) ys (c, n) found in
        rw (q, before_all ch from c n y from_it q) (rest found)

pub left_none : (p : ℕ × ℕ → Bool) (places : List (ℕ × ℕ)) → find p places ≡ None → filter p places ≡ []
left_none p [] e = refl
left_none p (y ∷ ys) e = elim (cases_Bool (p y)) [
  | inl q ↦ absurd (let f : ◌≡◌ {A = Option (ℕ × ℕ)} (Some y) None = sym (rw q refl) ∙ e in cc)
  | inr q ↦ rw q (left_none p ys (sym (rw q refl) ∙ e))
]

-- at first all are left
all_from_one : (past : Past) (cs : List ℕ)
    → AllByRecursion (λ y. is_from 0 1 y ≡ true) (flat_map (due_on past) cs)
all_from_one past [] = tt
all_from_one past (c ∷ cs) =
    all_append (λ y. is_from 0 1 y ≡ true) (due_on past c) (flat_map (due_on past) cs)
    (all_weaker (IsOn c 1) (λ y. is_from 0 1 y ≡ true) (λ y on. by y.0 y.1 on.1) (due_on past c)
    (numbers_on past c 1 (made_count past c)))
    (all_from_one past cs)
  where
    by : (c n : ℕ) → 1 ≤ n → (nat_lt 0 c || (c == 0 && not (nat_lt n 1))) ≡ true
    by c n h = grind (arith, nat_tests)

pub all_left : (past : Past) → filter (is_from 0 1) (due_places past) ≡ due_places past
all_left past = filter_all (is_from 0 1) (due_places past) (all_from_one past (channels_of past))

-- ---- what is found in another past

find_range : (p q : ℕ → Bool) (k n : ℕ) → ((i : ℕ) → k ≤ i → p i ≡ q i)
    → find p (range_with_len k n) ≡ find q (range_with_len k n)
find_range p q k zero h = refl
find_range p q k (suc n) h =
    rw (h k (omega arith), find_range p q (k + 1) n (λ i le. h i (omega (arith, le)))) refl

find_over : {A : Type 0} (p q : A → Bool) (f g : ℕ → List A) (cs : List ℕ)
    → ((c : ℕ) → find p (f c) ≡ find q (g c)) → find p (flat_map f cs) ≡ find q (flat_map g cs)
find_over {A} p q f g [] h = refl
find_over {A} p q f g (c ∷ cs) h = by (find p (f c)) refl (find_over p q f g cs h)
  where
    by : (o : Option A) → find p (f c) ≡ o → find p (flat_map f cs) ≡ find q (flat_map g cs)
        → find p (flat_map f (c ∷ cs)) ≡ find q (flat_map g (c ∷ cs))
    by None e rest =
        find_back p (f c) (flat_map f cs) e ∙ rest
        ∙ sym (find_back q (g c) (flat_map g cs) (sym (h c) ∙ e))
    by (Some x) e rest =
        find_front p (f c) (flat_map f cs) x e ∙ sym (find_front q (g c) (flat_map g cs) x (sym (h c) ∙ e))

-- two pasts with the same numbers made, and two tests of places, that let the same due places through
pub found_alike : (past later : Past) (p q : ℕ × ℕ → Bool) → channels_of later ≡ channels_of past
    → ((ch : ℕ) → made_count later ch ≡ made_count past ch)
    → ((c n : ℕ) → 1 ≤ n → (is_due later c n && p (c, n)) ≡ (is_due past c n && q (c, n)))
    → find p (due_places later) ≡ find q (due_places past)
found_alike past later p q channels made same =
    ap (λ (cs : List ℕ). find p (flat_map (due_on later) cs)) channels
    ∙ find_over p q (due_on later) (due_on past) (channels_of past) on
  where
    on : (c : ℕ) → find p (due_on later c) ≡ find q (due_on past c)
    on c =
        find_mapped p (is_due later c) (λ n. (c, n)) (range_with_len 1 (made_count later c))
        ∙ ap (λ (o : Option ℕ). option_map {U = ℕ × ℕ} (λ n. (c, n)) o)
        (ap (λ (k : ℕ). find (λ n. is_due later c n && p (c, n)) (range_with_len 1 k)) (made c)
        ∙ find_range (λ n. is_due later c n && p (c, n)) (λ n. is_due past c n && q (c, n)) 1 (made_count past c)
        (λ i le. same c i le))
        ∙ sym (find_mapped q (is_due past c) (λ n. (c, n)) (range_with_len 1 (made_count past c)))
