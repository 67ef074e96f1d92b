-- Lists of changes that ascend by handle.
use Rattle.std.proofs.Common.{◌≡◌, ℕ, zero, suc, ◌+◌, ◌<◌, ◌≤◌, List, [], ◌∷◌, Bool, true, false, ◌==◌, nat_lt, if◌then◌else◌, Option, Some, None, refl, sym, ap, ◌∙◌, subst, arith, take, length, filter}
use Rattle.std.specs.Prelude.{slice_get, filter_map, option_map, slice_index_or}
use Rattle.std.specs.Bool.{then_some}
use Rattle.std.specs.List.{range_with_len, cons_option}
use Rattle.std.proofs.lemmas.Bool.{ltb-true, lt-ltb, eq-eqb, eqb-true}
use Rattle.change_model.specs.Changes.{handle_of}
use Rattle.shadow_changes.specs.declared.change.Change.{Change}
use Rattle.shadow_changes.specs.Lists.{tick_of, above, AreListed, IsHandle}
use Rattle.shadow_changes.proofs.Ranges.{noted_at, filter_map_none, handle_rises, handle_next, handle_index, apart, apart_back, place, Here, Later}

-- ---- bounds

pub listed_from : (xs : List Change) (count newest least less : ℕ) → AreListed count newest least xs → less ≤ least
    → AreListed count newest less xs
listed_from [] count newest least less l e = tt
listed_from (c ∷ xs) count newest least less l e =
    let low : less ≤ c.prop = omega (arith, l.0) in (low, l.1, l.2, l.3)

pub listed_more : (xs : List Change) (count more newest later least : ℕ) → AreListed count newest least xs
    → count ≤ more → newest ≤ later
    → AreListed more later least xs
listed_more [] count more newest later least l e f = tt
listed_more (c ∷ xs) count more newest later least l e f =
    let most : c.tick ≤ later = omega (arith, l.1) in
    let under : l.2.0 < more = omega (arith, l.2.1) in
    (l.0, most, (l.2.0, under, l.2.2), listed_more xs count more newest later (c.prop + 1) l.3 e f)

-- what holds of each change of a list
pub record IsListed (count newest least : ℕ) (c : Change) : Type 0 where
  pub low : least ≤ c.prop
  pub most : c.tick ≤ newest
  pub handle : IsHandle count c.prop

pub listed_at : (xs : List Change) (count newest least i : ℕ) (c : Change) → AreListed count newest least xs
    → slice_get xs i ≡ Some c
    → IsListed count newest least c
listed_at [] count newest least i c l e = cc
listed_at (x ∷ xs) count newest least zero c l e =
    let same : x ≡ c = cc in subst (IsListed count newest least) same (record { low = l.0; most = l.1; handle = l.2 })
listed_at (x ∷ xs) count newest least (suc i) c l e =
    let h = listed_at xs count newest (x.prop + 1) i c l.3 e in
    let low : least ≤ c.prop = omega (arith, h.low, l.0) in
    record { low = low; most = h.most; handle = h.handle }

-- a handle below the least isn't there
tick_low : (xs : List Change) (count newest least h : ℕ) → AreListed count newest least xs → h < least
    → tick_of xs h ≡ None
tick_low [] count newest least h l low = refl
tick_low (c ∷ xs) count newest least h l low =
    let under : h < c.prop = omega (arith, l.0) in
    ap (λ (b : Bool). if b then Some c.tick else tick_of xs h) (apart_back c.prop h under)
    ∙ tick_low xs count newest (c.prop + 1) h l.3 (omega (arith, under))

-- a handle isn't there before its own place
pub tick_before_at : (xs : List Change) (count newest least i : ℕ) (c : Change) → AreListed count newest least xs
    → slice_get xs i ≡ Some c
    → tick_of (take i xs) c.prop ≡ None
tick_before_at [] count newest least i c l e = cc
tick_before_at (x ∷ xs) count newest least zero c l e = refl
tick_before_at (x ∷ xs) count newest least (suc i) c l e =
    let above = (listed_at xs count newest (x.prop + 1) i c l.3 e).low in
    ap (λ (b : Bool). if b then Some x.tick else tick_of (take i xs) c.prop) (apart x.prop c.prop (omega
    (arith, above)))
    ∙ tick_before_at xs count newest (x.prop + 1) i c l.3 e

-- handles below one stand before all others
pub parted : (xs : List Change) (count newest least h i j : ℕ) (d : Change) → AreListed count newest least xs
    → i ≤ j → j < length xs
    → nat_lt (slice_index_or xs j d).prop h ≡ true → nat_lt (slice_index_or xs i d).prop h ≡ true
parted [] count newest least h i j d l e f t = absurd (omega arith)
parted (x ∷ xs) count newest least h zero zero d l e f t = t
parted (x ∷ xs) count newest least h zero (suc j) d l e f t =
    let low = low_at xs count newest (x.prop + 1) j d l.3 (omega arith) in
    lt-ltb x.prop h (omega (arith, low, ltb-true (slice_index_or xs j d).prop h t))
  where
    low_at : (xs : List Change) (count newest least j : ℕ) (d : Change) → AreListed count newest least xs
        → j < length xs
        → least ≤ (slice_index_or xs j d).prop
    low_at [] count newest least j d l f = absurd (omega arith)
    low_at (x ∷ xs) count newest least zero d l f = l.0
    low_at (x ∷ xs) count newest least (suc j) d l f =
        let low = low_at xs count newest (x.prop + 1) j d l.3 (omega arith) in omega (arith, low, l.0)
parted (x ∷ xs) count newest least h (suc i) zero d l e f t = absurd (omega arith)
parted (x ∷ xs) count newest least h (suc i) (suc j) d l e f t =
    parted xs count newest (x.prop + 1) h i j d l.3 (omega arith) (omega arith) t

-- ---- the changes above a tick

abbrev pub is_later : ℕ → Change → Bool
is_later tick c = nat_lt tick c.tick

pub listed_later : (xs : List Change) (count newest least tick : ℕ) → AreListed count newest least xs
    → AreListed count newest least (filter (is_later tick) xs)
listed_later [] count newest least tick l = tt
listed_later (c ∷ xs) count newest least tick l =
    by (nat_lt tick c.tick) (listed_later xs count newest (c.prop + 1) tick l.3)
  where
    by : (b : Bool) → AreListed count newest (c.prop + 1) (filter (is_later tick) xs)
        → AreListed count newest least (if b then c ∷ filter (is_later tick) xs else filter (is_later tick) xs)
    by true rest = (l.0, l.1, l.2, rest)
    by false rest = listed_from (filter (is_later tick) xs) count newest (c.prop + 1) least rest (omega (arith, l.0))

pub tick_later : (xs : List Change) (count newest least tick h : ℕ) → AreListed count newest least xs
    → tick_of (filter (is_later tick) xs) h ≡ above tick (tick_of xs h)
tick_later [] count newest least tick h l = refl
tick_later (c ∷ xs) count newest least tick h l =
    by (tick_later xs count newest (c.prop + 1) tick h l.3) (nat_lt tick c.tick) refl (c.prop == h) refl
  where
    by : tick_of (filter (is_later tick) xs) h ≡ above tick (tick_of xs h)
        → (b : Bool) → nat_lt tick c.tick ≡ b → (d : Bool) → (c.prop == h) ≡ d
        → tick_of (if b then c ∷ filter (is_later tick) xs else filter (is_later tick) xs) h
        ≡ above tick (if d then Some c.tick else tick_of xs h)
    by rest true e true f =
        ap (λ (b : Bool). if b then Some c.tick else tick_of (filter (is_later tick) xs) h) f
        ∙ sym (ap (λ (b : Bool). then_some b c.tick) e)
    by rest true e false f =
        ap (λ (b : Bool). if b then Some c.tick else tick_of (filter (is_later tick) xs) h) f ∙ rest
    by rest false e true f =
        let same : c.prop ≡ h = eqb-true c.prop h f in
        let none : tick_of xs h ≡ None = tick_low xs count newest (c.prop + 1) h l.3 (omega (arith, same)) in
        rest ∙ ap (above tick) none ∙ sym (ap (λ (b : Bool). then_some b c.tick) e)
    by rest false e false f = rest

-- ---- a list is what it says of each handle

listed_next : (xs : List Change) (count newest a : ℕ) → AreListed count newest (handle_of a + 1) xs
    → AreListed count newest (handle_of (a + 1)) xs
listed_next [] count newest a l = tt
listed_next (c ∷ xs) count newest a l =
    let up : handle_of a + 1 ≤ handle_of l.2.0 = subst (λ (h : ℕ). handle_of a + 1 ≤ h) l.2.2 l.0 in
    (subst (λ (h : ℕ). handle_of (a + 1) ≤ h) (sym l.2.2) (handle_next a l.2.0 up), l.1, l.2, l.3)

pub listed_is : (xs : List Change) (g : ℕ → Option ℕ) (count newest k a : ℕ) → a + k ≡ count
    → AreListed count newest (handle_of a) xs
    → ((i : ℕ) → a ≤ i → i < a + k → tick_of xs (handle_of i) ≡ g i)
    → xs ≡ filter_map (λ i. option_map (noted_at i) (g i)) (range_with_len a k)
listed_is [] g count newest k a e l says =
    sym (filter_map_none (λ i. option_map (noted_at i) (g i)) a k (λ i low high. ap (option_map (noted_at i)) (sym
    (says i low high))))
listed_is (c ∷ xs) g count newest zero a e l says =
    let up : handle_of a ≤ handle_of l.2.0 = subst (λ (h : ℕ). handle_of a ≤ h) l.2.2 l.0 in
    absurd (omega (arith, handle_index a l.2.0 up, l.2.1, e))
listed_is (c ∷ xs) g count newest (suc k) a e l says =
    elim (place a j (handle_index a j up)) [
      | Here same ↦
          let at : c.prop ≡ handle_of a = l.2.2 ∙ ap handle_of (sym same) in
          let one : (if c.prop == handle_of a then Some c.tick else tick_of xs (handle_of a)) ≡ Some c.tick =
          ap (λ (b : Bool). if b then Some c.tick else tick_of xs (handle_of a)) (eq-eqb c.prop (handle_of a) at) in
          let here : g a ≡ Some c.tick = sym (says a (omega arith) (omega arith)) ∙ one in
          let first : c ≡ noted_at a c.tick = ap (λ (h : ℕ). record { prop = h; tick = c.tick }) at in
          let from : AreListed count newest (handle_of a + 1) xs = listed_from xs count newest (c.prop + 1)
          (handle_of a + 1) l.3 (omega (arith, at)) in
          ap (λ (x : Change). x ∷ xs) first
          ∙ ap (λ (ys : List Change). noted_at a c.tick ∷ ys)
          (listed_is xs g count newest k (a + 1) (omega (arith, e)) (listed_next xs count newest a from)
          (λ i low high.
          let other : handle_of a < handle_of i = handle_rises a i (omega (arith, low)) in
          sym (ap (λ (b : Bool). if b then Some c.tick else tick_of xs (handle_of i)) (apart c.prop (handle_of i)
          (omega (arith, at, other))))
          ∙ says i (omega (arith, low)) (omega (arith, high))))
          ∙ sym (ap (λ (o : Option ℕ). cons_option (option_map (noted_at a) o) (filter_map (λ i. option_map
          (noted_at i) (g i)) (range_with_len (a + 1) k))) here)
      | Later later ↦
          let under : handle_of a < c.prop = subst (λ (h : ℕ). handle_of a < h) (sym l.2.2)
          (handle_rises a j later) in
          let from : AreListed count newest c.prop (c ∷ xs) = (omega arith, l.1, l.2, l.3) in
          let none : g a ≡ None = sym (says a (omega arith) (omega arith))
          ∙ tick_low (c ∷ xs) count newest c.prop (handle_of a) from under in
          let next : AreListed count newest (handle_of a + 1) (c ∷ xs) = listed_from (c ∷ xs) count newest c.prop
          (handle_of a + 1) from (omega (arith, under)) in
          listed_is (c ∷ xs) g count newest k (a + 1) (omega (arith, e)) (listed_next (c ∷ xs) count newest a next)
          (λ i low high. says i (omega (arith, low)) (omega (arith, high)))
          ∙ sym (ap (λ (o : Option ℕ). cons_option (option_map (noted_at a) o) (filter_map (λ i. option_map
          (noted_at i) (g i)) (range_with_len (a + 1) k))) none)
    ]
  where
    j : ℕ
    j = l.2.0

    up : handle_of a ≤ handle_of j
    up = subst (λ (h : ℕ). handle_of a ≤ h) l.2.2 l.0
