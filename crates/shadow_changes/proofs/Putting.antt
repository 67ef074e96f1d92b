-- A change that is put into a list, and the changes of one list put into another.
use Rattle.std.proofs.Common.{◌≡◌, ℕ, zero, suc, ◌+◌, ◌<◌, ◌≤◌, List, [], ◌∷◌, ◌++◌, Bool, true, false, ◌==◌, nat_lt, if◌then◌else◌, Option, Some, None, refl, sym, ap, ◌∙◌, subst, arith, take, length}
use Rattle.std.specs.Prelude.{slice_get, slice_index_or, slice_set, insert}
use Rattle.std.specs.List.Sorted.{IsPartitionPoint}
use Rattle.std.proofs.lemmas.Option.{get_or_from_slice_get}
use Rattle.std.proofs.lemmas.List.{take_more}
use Rattle.std.proofs.lemmas.Bool.{ltb-true, ltb-false, lt-ltb, le-ltb, eqb-true}
use Rattle.std.proofs.lemmas.Bool.Decides.{nat_tests}
use Rattle.protocol_model.specs.Search.{or_else}
use Rattle.shadow_changes.specs.declared.change.Change.{Change}
use Rattle.shadow_changes.specs.Lists.{tick_of, AreListed, IsHandle}
use Rattle.shadow_changes.specs.Puts.{put_in, IsPlace}
use Rattle.shadow_changes.proofs.Ascending.{listed_at, listed_from, tick_before_at}

pub or_else_assoc : {A : Type 0} (a b c : Option A) → or_else (or_else a b) c ≡ or_else a (or_else b c)
or_else_assoc None b c = refl
or_else_assoc (Some x) b c = refl

pub or_else_none : {A : Type 0} (a : Option A) → or_else a None ≡ a
or_else_none None = refl
or_else_none (Some x) = refl

-- ---- the three places of a change

put_less : (c x : Change) (xs : List Change) → nat_lt x.prop c.prop ≡ true → put_in c (x ∷ xs) ≡ x ∷ put_in c xs
put_less c x xs e = ap (λ (b : Bool). if b then x ∷ put_in c xs else if x.prop == c.prop then c ∷ xs else c ∷ x ∷ xs) e

put_same : (c x : Change) (xs : List Change) → nat_lt x.prop c.prop ≡ false → (x.prop == c.prop) ≡ true
    → put_in c (x ∷ xs) ≡ c ∷ xs
put_same c x xs e f =
    ap (λ (b : Bool). if b then x ∷ put_in c xs else if x.prop == c.prop then c ∷ xs else c ∷ x ∷ xs) e
    ∙ ap (λ (b : Bool). if b then c ∷ xs else c ∷ x ∷ xs) f

put_before : (c x : Change) (xs : List Change) → nat_lt x.prop c.prop ≡ false → (x.prop == c.prop) ≡ false
    → put_in c (x ∷ xs) ≡ c ∷ x ∷ xs
put_before c x xs e f =
    ap (λ (b : Bool). if b then x ∷ put_in c xs else if x.prop == c.prop then c ∷ xs else c ∷ x ∷ xs) e
    ∙ ap (λ (b : Bool). if b then c ∷ xs else c ∷ x ∷ xs) f

pub get_low : {X : Type 0} (xs : List X) (i : ℕ) (x : X) → slice_get xs i ≡ Some x → i < length xs
get_low [] i x e = cc
get_low (y ∷ xs) zero x e = omega arith
get_low (y ∷ xs) (suc i) x e = let low = get_low xs i x e in omega arith

-- the place that a search finds
pub place_is : (xs : List Change) (h p : ℕ)
    → IsPartitionPoint (λ (x : Change). nat_lt x.prop h ≡ true) (λ (x : Change). nat_lt x.prop h ≡ false) xs p
    → IsPlace h xs p
place_is xs h p at = (
  λ i c get low. ltb-true c.prop h (subst (λ (x : Change). nat_lt x.prop h ≡ true)
      (get_or_from_slice_get xs i c c get)
      (at.0 i c (omega arith) low)),
  λ c get. ltb-false c.prop h (subst (λ (x : Change). nat_lt x.prop h ≡ false) (get_or_from_slice_get xs p c c get)
      (at.1 p c (omega arith) (get_low xs p c get))),
)

-- the same of a list that was lent
pub placed : (xs lent : List Change) (p h count newest : ℕ) → lent ≡ xs
    → ((count newest : ℕ) → AreListed count newest 0 lent → IsPlace h lent p) → AreListed count newest 0 xs
    → IsPlace h xs p
placed xs lent p h count newest e at l =
    subst (λ (ys : List Change). IsPlace h ys p) e (at count newest (subst (AreListed count newest 0) (sym e) l))

-- inserted at the place of its handle, where no change of the handle is
pub put_insert : (xs : List Change) (p : ℕ) (c : Change) → IsPlace c.prop xs p → p ≤ length xs
    → ((x : Change) → slice_get xs p ≡ Some x → (x.prop == c.prop) ≡ false) → insert xs p c ≡ put_in c xs
put_insert [] zero c at e other = refl
put_insert [] (suc p) c at e other = absurd (omega arith)
put_insert (x ∷ xs) zero c at e other = sym (put_before c x xs (le-ltb x.prop c.prop (at.1 x refl)) (other x refl))
put_insert (x ∷ xs) (suc p) c at e other =
    ap (λ (ys : List Change). x ∷ ys)
    (put_insert xs p c (λ i y get low. at.0 (suc i) y get (omega arith), λ y get. at.1 y get) (omega arith) other)
    ∙ sym (put_less c x xs (lt-ltb x.prop c.prop (at.0 zero x refl (omega arith))))

-- no other change is at the place of one
pub no_other : (xs : List Change) (p h : ℕ) (x : Change) → x ≡ slice_index_or xs p x → (x.prop == h) ≡ false
    → (y : Change) → slice_get xs p ≡ Some y → (y.prop == h) ≡ false
no_other xs p h x e f y get = subst (λ (z : Change). (z.prop == h) ≡ false) (e ∙ get_or_from_slice_get xs p y x get) f

-- and none is past the end
pub none_past : (xs : List Change) (p h : ℕ) → length xs ≤ p → (y : Change) → slice_get xs p ≡ Some y
    → (y.prop == h) ≡ false
none_past xs p h e y get = absurd (omega (arith, get_low xs p y get))

-- ---- what the list says then

swap : (x_is c_is : Bool) (x c : ℕ) (o : Option ℕ) → (x_is ≡ true → c_is ≡ false)
    → (if x_is then Some x else or_else (if c_is then Some c else None) o) ≡ or_else
    (if c_is then Some c else None) (if x_is then Some x else o)
swap true true x c o e = let f = e refl in cc
swap true false x c o e = refl
swap false c_is x c o e = refl

over : (x_is c_is : Bool) (x c : ℕ) (o : Option ℕ) → x_is ≡ c_is
    → (if c_is then Some c else o) ≡ or_else (if c_is then Some c else None) (if x_is then Some x else o)
over true true x c o e = refl
over true false x c o e = cc
over false true x c o e = cc
over false false x c o e = refl

ahead : (c_is : Bool) (c : ℕ) (o : Option ℕ)
    → (if c_is then Some c else o) ≡ or_else (if c_is then Some c else None) o
ahead true c o = refl
ahead false c o = refl

other_handle : (a b h : ℕ) → a < b → (a == h) ≡ true → (b == h) ≡ false
other_handle a b h e f = grind (arith, nat_tests)

pub tick_put : (xs : List Change) (c : Change) (h : ℕ)
    → tick_of (put_in c xs) h ≡ or_else (tick_of (c ∷ []) h) (tick_of xs h)
tick_put [] c h = sym (or_else_none (tick_of (c ∷ []) h))
tick_put (x ∷ xs) c h = by (tick_put xs c h) (nat_lt x.prop c.prop) refl (x.prop == c.prop) refl
  where
    by : tick_of (put_in c xs) h ≡ or_else (tick_of (c ∷ []) h) (tick_of xs h) → (b : Bool)
        → nat_lt x.prop c.prop ≡ b → (d : Bool) → (x.prop == c.prop) ≡ d
        → tick_of (put_in c (x ∷ xs)) h ≡ or_else (tick_of (c ∷ []) h) (tick_of (x ∷ xs) h)
    by rest true e d f =
        ap (λ ys. tick_of ys h) (put_less c x xs e)
        ∙ ap (λ (o : Option ℕ). if x.prop == h then Some x.tick else o) rest
        ∙ swap (x.prop == h) (c.prop == h) x.tick c.tick (tick_of xs h) (other_handle x.prop c.prop h
        (ltb-true x.prop c.prop e))
    by rest false e true f =
        ap (λ ys. tick_of ys h) (put_same c x xs e f)
        ∙ over (x.prop == h) (c.prop == h) x.tick c.tick (tick_of xs h) (ap (λ (k : ℕ). k == h)
        (eqb-true x.prop c.prop f))
    by rest false e false f =
        ap (λ ys. tick_of ys h) (put_before c x xs e f) ∙ ahead (c.prop == h) c.tick (tick_of (x ∷ xs) h)

apart_below : (a b : ℕ) → nat_lt a b ≡ false → (a == b) ≡ false → b + 1 ≤ a
apart_below a b h k = grind (arith, nat_tests)

pub listed_put : (xs : List Change) (c : Change) (count newest least : ℕ) → AreListed count newest least xs
    → least ≤ c.prop → c.tick ≤ newest → IsHandle count c.prop → AreListed count newest least (put_in c xs)
listed_put [] c count newest least l low most handle = (low, most, handle, tt)
listed_put (x ∷ xs) c count newest least l low most handle =
    by (λ up. listed_put xs c count newest (x.prop + 1) l.3 up most handle) (nat_lt x.prop c.prop) refl
    (x.prop == c.prop) refl
  where
    by : (x.prop + 1 ≤ c.prop → AreListed count newest (x.prop + 1) (put_in c xs)) → (b : Bool)
        → nat_lt x.prop c.prop ≡ b → (d : Bool) → (x.prop == c.prop) ≡ d
        → AreListed count newest least (put_in c (x ∷ xs))
    by rest true e d f =
        let up : x.prop + 1 ≤ c.prop = omega (arith, ltb-true x.prop c.prop e) in
        subst (AreListed count newest least) (sym (put_less c x xs e))
        (l.0, l.1, l.2, rest up)
    by rest false e true f =
        let same : x.prop ≡ c.prop = eqb-true x.prop c.prop f in
        subst (AreListed count newest least) (sym (put_same c x xs e f))
        (low, most, handle, listed_from xs count newest (x.prop + 1) (c.prop + 1) l.3 (omega (arith, same)))
    by rest false e false f =
        subst (AreListed count newest least) (sym (put_before c x xs e f))
        (low, most, handle, (apart_below x.prop c.prop e f, l.1, l.2, l.3))

-- set at its place, where a change of the handle is
pub put_set : (xs : List Change) (p : ℕ) (c x : Change) → IsPlace c.prop xs p → slice_get xs p ≡ Some x
    → (x.prop == c.prop) ≡ true
    → slice_set xs p c ≡ put_in c xs
put_set [] p c x at e same = cc
put_set (y ∷ xs) zero c x at e same =
    let is : y ≡ x = cc in
    let test : (y.prop == c.prop) ≡ true = subst (λ (z : Change). (z.prop == c.prop) ≡ true) (sym is) same in
    sym (put_same c y xs (le-ltb y.prop c.prop (at.1 y refl)) test)
put_set (y ∷ xs) (suc p) c x at e same =
    ap (λ (ys : List Change). y ∷ ys) (put_set xs p c x (
      λ i z get low. at.0 (suc i) z get
          (omega arith),
      λ z get. at.1 z get,
    ) e same)
    ∙ sym (put_less c y xs (lt-ltb y.prop c.prop (at.0 zero y refl (omega arith))))

-- ---- one more change of a newer list

if_or : (b : Bool) (t : ℕ) (a c : Option ℕ)
    → (if b then Some t else or_else a c) ≡ or_else (if b then Some t else a) c
if_or true t a c = refl
if_or false t a c = refl

tick_of-append : (xs ys : List Change) (h : ℕ) → tick_of (xs ++ ys) h ≡ or_else (tick_of xs h) (tick_of ys h)
tick_of-append [] ys h = refl
tick_of-append (c ∷ xs) ys h =
    ap (λ (o : Option ℕ). if c.prop == h then Some c.tick else o) (tick_of-append xs ys h)
    ∙ if_or (c.prop == h) c.tick (tick_of xs h) (tick_of ys h)

-- the next item goes to the end of those before it
pub take_next : {X : Type 0} (xs : List X) (i : ℕ) (x : X) → slice_get xs i ≡ Some x
    → take (i + 1) xs ≡ take i xs ++ x ∷ []
take_next xs i x e =
    take_more xs i x (get_low xs i x e) ∙ ap (λ y. take i xs ++ y ∷ []) (get_or_from_slice_get xs i x x e)

tick_of_more : (xs : List Change) (i : ℕ) (x : Change) (h : ℕ) → slice_get xs i ≡ Some x
    → tick_of (take (i + 1) xs) h ≡ or_else (tick_of (take i xs) h) (tick_of (x ∷ []) h)
tick_of_more xs i x h e =
    ap (λ cs. tick_of cs h) (take_next xs i x e) ∙ tick_of-append (take i xs) (x ∷ []) h

-- no change before it has its handle, so either may be looked at first
exchange : (newer : List Change) (count newest i : ℕ) (c : Change) (h : ℕ) → AreListed count newest 0 newer
    → slice_get newer i ≡ Some c
    → or_else (tick_of (c ∷ []) h) (tick_of (take i newer) h) ≡ or_else (tick_of (take i newer) h) (tick_of
    (c ∷ []) h)
exchange newer count newest i c h l e = by (c.prop == h) refl
  where
    by : (b : Bool) → (c.prop == h) ≡ b
        → or_else (if b then Some c.tick else None) (tick_of (take i newer) h) ≡ or_else (tick_of (take i newer) h)
        (if b then Some c.tick else None)
    by true f =
        let none : tick_of (take i newer) h ≡ None =
        ap (tick_of (take i newer)) (sym (eqb-true c.prop h f)) ∙ tick_before_at newer count newest 0 i c l e in
        sym (ap (λ (o : Option ℕ). or_else o (Some c.tick)) none)
    by false f = sym (or_else_none (tick_of (take i newer) h))

-- a list after some changes of a newer one, and after one more
pub record IsPutOver (count newest i : ℕ) (old newer now : List Change) : Type 0 where
  pub listed : AreListed count newest 0 now
  pub says : (h : ℕ) → tick_of now h ≡ or_else (tick_of (take i newer) h) (tick_of old h)

pub put_over : (count newest i : ℕ) (old newer now : List Change) (c : Change) → AreListed count newest 0 newer
    → slice_get newer i ≡ Some c
    → IsPutOver count newest i old newer now → IsPutOver count newest (i + 1) old newer (put_in c now)
put_over count newest i old newer now c l e before =
    let one = listed_at newer count newest 0 i c l e in
    record {
      listed = listed_put now c count newest 0 before.listed one.low one.most one.handle;
      says = λ h.
          tick_put now c h ∙ ap (or_else (tick_of (c ∷ []) h)) (before.says h)
          ∙ sym (or_else_assoc (tick_of (c ∷ []) h) (tick_of (take i newer) h) (tick_of old h))
          ∙ ap (λ (o : Option ℕ). or_else o (tick_of old h)) (exchange newer count newest i c h l e
          ∙ sym (tick_of_more newer i c h e));
    }
