-- What was handed on from an index against the messages made there, the newest first.
use Rattle.std.proofs.Common.{◌≡◌, ◌⊎◌, inl, inr, ℕ, suc, ◌<◌, List, [], ◌∷◌, ◌++◌, map, reverse, filter, length, Bool, true, false, cond, ◌==◌, ◌&&◌, refl, sym, ap, ◌∙◌, subst, arith}
use Rattle.std.specs.List.{AllByRecursion}
use Rattle.std.proofs.lemmas.Bool.{false≢true, cases_lt}
use Rattle.std.proofs.lemmas.List.{length-append, length-map, map-append, reverse-append}
use Rattle.protocol_model.specs.Payload.{Message}
use Rattle.connection_model.specs.Feed.{Past, Delivered}
use Rattle.connection_model.specs.Copies.{delivered_of}
use Rattle.connection_laws.specs.Delivered.{on_index, Numbered}
use Rattle.connection_laws.proofs.PacketsSay.{IsIn}
use Rattle.headline_laws.specs.Follows.{HandsOn}
use Rattle.headline_laws.proofs.WholeMessages.{longer}
use Rattle.recovery_laws.proofs.LooseValues.{reversed_twice}

-- a reliable payload of the channel
abbrev pub is_from : ℕ → Delivered → Bool
is_from ch d = (d.channel == ch) && d.reliable

-- those among some payloads
abbrev pub from_index : ℕ → List Delivered → List Delivered
from_index ch ds = filter (is_from ch) ds

-- the payloads of an index, over two lists
pub from_append : (ch : ℕ) (xs ys : List Delivered) → from_index ch (xs ++ ys) ≡ from_index ch xs ++ from_index ch ys
from_append ch [] ys = refl
from_append ch (d ∷ xs) ys = by (is_from ch d) (from_append ch xs ys)
  where
    by : (b : Bool) → from_index ch (xs ++ ys) ≡ from_index ch xs ++ from_index ch ys → cond b (d ∷ from_index ch (xs ++ ys)) (from_index ch (xs ++ ys)) ≡ cond b (d ∷ from_index ch xs) (from_index ch xs) ++ from_index ch ys
    by true e = ap (λ (l : List Delivered). d ∷ l) e
    by false e = e

-- the same front, so the same end
pub same_end : {A : Type 0} (xs ys zs : List A) → xs ++ ys ≡ xs ++ zs → ys ≡ zs
same_end [] ys zs e = e
same_end {A} (x ∷ xs) ys zs e = same_end xs ys zs (tail x (xs ++ ys) (xs ++ zs) e)
  where
    tail : (x : A) (ys zs : List A) → x ∷ ys ≡ x ∷ zs → ys ≡ zs
    tail x ys zs e = cc

-- a list turned round and mapped
map_reversed : {A B : Type 0} (f : A → B) (xs : List A) → map f (reverse xs) ≡ reverse (map f xs)
map_reversed f [] = refl
map_reversed {A} {B} f (x ∷ xs) =
    ap (map f) (reverse-append (x ∷ []) xs) ∙ map-append f (reverse xs) (x ∷ []) ∙ ap (λ (l : List B). l ++ f x ∷ []) (map_reversed f xs) ∙ sym (reverse-append (f x ∷ []) (map f xs))

-- of the messages made on the index, those that weren't handed on yet, and those that were
pub record Trail (from to : Past) (ch : ℕ) : Type 0 where
  pub ahead : List Numbered
  pub done : List Numbered
  pub split : on_index ch from ≡ ahead ++ done
  pub same : map (λ (d : Delivered). d.message) (from_index ch (delivered_of to)) ≡ map (λ (x : Numbered). x.1) done

-- what was handed on from an index is the newest first of what was made
pub trail : (from to : Past) (ch : ℕ) → HandsOn from to ch → Trail from to ch
trail from to ch h = record {
  ahead = reverse h.later;
  done = reverse h.done;
  split = sym (reversed_twice (on_index ch from)) ∙ ap (λ (l : List Numbered). reverse l) h.split ∙ reverse-append h.done h.later;
  same = sym (reversed_twice (map (λ (d : Delivered). d.message) (from_index ch (delivered_of to))))
      ∙ ap (λ (l : List Message). reverse l) (sym (map_reversed (λ (d : Delivered). d.message) (from_index ch (delivered_of to))) ∙ h.same)
      ∙ sym (map_reversed (λ (x : Numbered). x.1) h.done);
}

-- the payloads of the trail are those handed on, turned round
pub trail_done : (from to : Past) (ch : ℕ) (h : HandsOn from to ch) → (trail from to ch h).done ≡ reverse h.done
unfolding trail
trail_done from to ch h = refl

-- what is mapped in two parts
record Mapped {A B : Type 0} (f : A → B) (zs : List A) (xs ys : List B) : Type 0 where
  first : List A
  second : List A
  split : zs ≡ first ++ second
  xs_are : xs ≡ map f first
  ys_are : ys ≡ map f second

-- two mapped lists split at the same place
mapped_split : {A B : Type 0} (f : A → B) (zs : List A) (xs ys : List B) → xs ++ ys ≡ map f zs → Mapped f zs xs ys
mapped_split f zs [] ys e = record { first = []; second = zs; split = refl; xs_are = refl; ys_are = e }
mapped_split f [] (x ∷ xs) ys e = absurd (cc)
mapped_split {A} {B} f (z ∷ zs) (x ∷ xs) ys e =
    let r = mapped_split f zs xs ys (same_tail x (f z) (xs ++ ys) (map f zs) e) in
    record {
      first = z ∷ r.first;
      second = r.second;
      split = ap (λ (l : List A). z ∷ l) r.split;
      xs_are = ap (λ (y : B). y ∷ xs) (same_head x (f z) (xs ++ ys) (map f zs) e) ∙ ap (λ (l : List B). f z ∷ l) r.xs_are;
      ys_are = r.ys_are;
    }
  where
    same_head : {A : Type 0} (x y : A) (xs ys : List A) → x ∷ xs ≡ y ∷ ys → x ≡ y
    same_head x y xs ys e = cc

    same_tail : {A : Type 0} (x y : A) (xs ys : List A) → x ∷ xs ≡ y ∷ ys → xs ≡ ys
    same_tail x y xs ys e = cc

-- what holds of two lists holds of the first
pub all_first : {A : Type 0} (P : A → Type 0) (xs ys : List A) → AllByRecursion P (xs ++ ys) → AllByRecursion P xs
all_first P [] ys h = tt
all_first P (x ∷ xs) ys h = (h.0, all_first P xs ys h.1)

-- and of the second
pub all_second : {A : Type 0} (P : A → Type 0) (xs ys : List A) → AllByRecursion P (xs ++ ys) → AllByRecursion P ys
all_second P [] ys h = h
all_second P (x ∷ xs) ys h = all_second P xs ys h.1

-- the payloads' messages are those that were made
as_mapped : (P : Message → Type 0) (ds : List Delivered) (ms : List Numbered) → map (λ (d : Delivered). d.message) ds ≡ map (λ (x : Numbered). x.1) ms
    → AllByRecursion (λ (x : Numbered). P x.1) ms → AllByRecursion (λ (d : Delivered). P d.message) ds
as_mapped P [] ms e h = tt
as_mapped P (d ∷ ds) [] e h = absurd (cc)
as_mapped P (d ∷ ds) (x ∷ ms) e h =
    (subst P (sym (same_head d.message x.1 (map (λ (d : Delivered). d.message) ds) (map (λ (x : Numbered). x.1) ms) e)) h.0, as_mapped P ds ms (same_tail d.message x.1 (map (λ (d : Delivered). d.message) ds) (map (λ (x : Numbered). x.1) ms) e) h.1)
  where
    same_head : {A : Type 0} (x y : A) (xs ys : List A) → x ∷ xs ≡ y ∷ ys → x ≡ y
    same_head x y xs ys e = cc

    same_tail : {A : Type 0} (x y : A) (xs ys : List A) → x ∷ xs ≡ y ∷ ys → xs ≡ ys
    same_tail x y xs ys e = cc

-- so they are as many
mapped_length : (ds : List Delivered) (ms : List Numbered) → map (λ (d : Delivered). d.message) ds ≡ map (λ (x : Numbered). x.1) ms → length ds ≡ length ms
mapped_length ds ms e = sym (length-map ds (λ (d : Delivered). d.message)) ∙ ap length e ∙ length-map ms (λ (x : Numbered). x.1)

-- what holds of each message made holds of each handed on
pub all_handed : (P : Message → Type 0) (from to : Past) (ch : ℕ) → Trail from to ch → AllByRecursion (λ (x : Numbered). P x.1) (on_index ch from) → AllByRecursion (λ (d : Delivered). P d.message) (from_index ch (delivered_of to))
all_handed P from to ch t h =
    as_mapped P (from_index ch (delivered_of to)) t.done t.same (all_second (λ (x : Numbered). P x.1) t.ahead t.done (subst (AllByRecursion (λ (x : Numbered). P x.1)) t.split h))

-- what holds of the messages made after one holds of what was handed on after it
pub later_handed : (P : Message → Type 0) (from to : Past) (ch : ℕ) → Trail from to ch → (newer : List Numbered) (made : Numbered) (older : List Numbered) → on_index ch from ≡ newer ++ made ∷ older
    → AllByRecursion (λ (x : Numbered). P x.1) newer → (after before : List Delivered) → delivered_of to ≡ after ++ before → length older < length (from_index ch before)
    → AllByRecursion (λ (d : Delivered). P d.message) (from_index ch after)
later_handed P from to ch t newer made older e all after before d few =
    let both : map (λ (x : Delivered). x.message) (from_index ch after) ++ map (λ (x : Delivered). x.message) (from_index ch before) ≡ map (λ (x : Numbered). x.1) t.done =
    sym (map-append (λ (x : Delivered). x.message) (from_index ch after) (from_index ch before)) ∙ ap (map (λ (x : Delivered). x.message)) (sym (from_append ch after before)) ∙ ap (λ (l : List Delivered). map (λ (x : Delivered). x.message) (from_index ch l)) (sym d) ∙ t.same in
    let m = mapped_split (λ (x : Numbered). x.1) t.done (map (λ (x : Delivered). x.message) (from_index ch after)) (map (λ (x : Delivered). x.message) (from_index ch before)) both in
    let whole : newer ++ made ∷ older ≡ (t.ahead ++ m.first) ++ m.second = sym e ∙ t.split ∙ ap (λ (l : List Numbered). t.ahead ++ l) m.split ∙ again t.ahead m.first m.second in
    let l = longer newer (made ∷ older) (t.ahead ++ m.first) m.second whole
    (omega (arith, few, mapped_length (from_index ch before) m.second m.ys_are, ap length whole, length-append newer (made ∷ older), length-append (t.ahead ++ m.first) m.second)) in
    as_mapped P (from_index ch after) m.first m.xs_are
    (all_second (λ (x : Numbered). P x.1) t.ahead m.first (all_first (λ (x : Numbered). P x.1) (t.ahead ++ m.first) l.0 (subst (AllByRecursion (λ (x : Numbered). P x.1)) l.1 all)))
  where
    again : (xs ys zs : List Numbered) → xs ++ (ys ++ zs) ≡ (xs ++ ys) ++ zs
    again [] ys zs = refl
    again (x ∷ xs) ys zs = ap (λ (l : List Numbered). x ∷ l) (again xs ys zs)

-- of all payloads of the index, in a list of all
pub among_from : (P : Delivered → Type 0) (ch : ℕ) (ds : List Delivered) → AllByRecursion P (from_index ch ds) → (d : Delivered) → IsIn d ds → is_from ch d ≡ true → P d
among_from P ch [] h d a e = absurd a
among_from P ch (x ∷ ds) h d a e = by (is_from ch x) refl h a (λ q s. among_from P ch ds q d s e)
  where
    by : (b : Bool) → is_from ch x ≡ b → AllByRecursion P (cond b (x ∷ from_index ch ds) (from_index ch ds)) → (x ≡ d) ⊎ IsIn d ds → (AllByRecursion P (from_index ch ds) → IsIn d ds → P d) → P d
    by true q h (inl s) ih = subst P s h.0
    by true q h (inr s) ih = ih h.1 s
    by false q h (inl s) ih = absurd (false≢true (sym q ∙ ap (is_from ch) s ∙ e))
    by false q h (inr s) ih = ih h s

-- the payload with so many before it on the index
pub record HandedAt (ch : ℕ) (ds : List Delivered) (count : ℕ) : Type 0 where
  pub after : List Delivered
  pub delivered : Delivered
  pub before : List Delivered
  pub split : ds ≡ after ++ delivered ∷ before
  pub from : is_from ch delivered ≡ true
  pub count_is : length (from_index ch before) ≡ count

-- the payload at a place from the oldest
pub handed_at : (ch : ℕ) (ds : List Delivered) (count : ℕ) → count < length (from_index ch ds) → HandedAt ch ds count
handed_at ch [] count lt = absurd (omega (arith, lt))
handed_at ch (d ∷ ds) count lt = by (is_from ch d) refl lt (λ q. handed_at ch ds count q)
  where
    later : HandedAt ch ds count → HandedAt ch (d ∷ ds) count
    later r = record { after = d ∷ r.after; delivered = r.delivered; before = r.before; split = ap (λ (l : List Delivered). d ∷ l) r.split; from = r.from; count_is = r.count_is }

    by : (b : Bool) → is_from ch d ≡ b → count < length (cond b (d ∷ from_index ch ds) (from_index ch ds)) → (count < length (from_index ch ds) → HandedAt ch ds count) → HandedAt ch (d ∷ ds) count
    by false q lt ih = later (ih lt)
    by true q lt ih = elim (cases_lt count (length (from_index ch ds))) [
      | inl s ↦ later (ih s)
      | inr s ↦ record { after = []; delivered = d; before = ds; split = refl; from = q; count_is = omega (arith, s, lt) }
    ]

-- it is the message with so many before it
pub handed_is : (from to : Past) (ch : ℕ) → Trail from to ch → (newer : List Numbered) (made : Numbered) (older : List Numbered) → on_index ch from ≡ newer ++ made ∷ older
    → (h : HandedAt ch (delivered_of to) (length older)) → h.delivered.message ≡ made.1
handed_is from to ch t newer made older e h =
    let f : List Delivered = from_index ch (delivered_of to) in
    let f_is : from_index ch (delivered_of to) ≡ from_index ch h.after ++ h.delivered ∷ from_index ch h.before =
    ap (from_index ch) h.split ∙ from_append ch h.after (h.delivered ∷ h.before) ∙ ap (λ (b : Bool). from_index ch h.after ++ cond b (h.delivered ∷ from_index ch h.before) (from_index ch h.before)) h.from in
    let both : map (λ (x : Delivered). x.message) (from_index ch h.after) ++ map (λ (x : Delivered). x.message) (h.delivered ∷ from_index ch h.before) ≡ map (λ (x : Numbered). x.1) t.done =
    sym (map-append (λ (x : Delivered). x.message) (from_index ch h.after) (h.delivered ∷ from_index ch h.before)) ∙ ap (map (λ (x : Delivered). x.message)) (sym f_is) ∙ t.same in
    let m = mapped_split (λ (x : Numbered). x.1) t.done (map (λ (x : Delivered). x.message) (from_index ch h.after)) (map (λ (x : Delivered). x.message) (h.delivered ∷ from_index ch h.before)) both in
    let whole : (t.ahead ++ m.first) ++ m.second ≡ newer ++ made ∷ older = sym (sym e ∙ t.split ∙ ap (λ (l : List Numbered). t.ahead ++ l) m.split ∙ again t.ahead m.first m.second) in
    last m.second m.ys_are (same_end (t.ahead ++ m.first) m.second newer (made ∷ older) whole (mapped_length (h.delivered ∷ from_index ch h.before) m.second m.ys_are))
  where
    again : (xs ys zs : List Numbered) → xs ++ (ys ++ zs) ≡ (xs ++ ys) ++ zs
    again [] ys zs = refl
    again (x ∷ xs) ys zs = ap (λ (l : List Numbered). x ∷ l) (again xs ys zs)

    drop_same : (xs ys : List Numbered) → xs ++ ys ≡ newer ++ made ∷ older → length ys ≡ suc (length older) → ys ≡ made ∷ older
    drop_same xs ys e l = ends xs ys newer (made ∷ older) e l
      where
        ends : (xs ys us vs : List Numbered) → xs ++ ys ≡ us ++ vs → length ys ≡ length vs → ys ≡ vs
        ends [] ys [] vs e l = e
        ends [] ys (u ∷ us) vs e l = absurd (omega (arith, l, ap length e, length-append us vs))
        ends (x ∷ xs) ys [] vs e l = absurd (omega (arith, l, ap length e, length-append xs ys))
        ends (x ∷ xs) ys (u ∷ us) vs e l = ends xs ys us vs (same_tail x u (xs ++ ys) (us ++ vs) e) l
          where
            same_tail : (x y : Numbered) (xs ys : List Numbered) → x ∷ xs ≡ y ∷ ys → xs ≡ ys
            same_tail x y xs ys e = cc

    same_end : (xs ys us vs : List Numbered) → xs ++ ys ≡ newer ++ made ∷ older → suc (length (from_index ch h.before)) ≡ length ys → ys ≡ made ∷ older
    same_end xs ys us vs e l = drop_same xs ys e (omega (arith, l, h.count_is))

    last : (ms : List Numbered) → map (λ (x : Delivered). x.message) (h.delivered ∷ from_index ch h.before) ≡ map (λ (x : Numbered). x.1) ms → ms ≡ made ∷ older → h.delivered.message ≡ made.1
    last ms e q = first_same h.delivered.message made.1 (map (λ (x : Delivered). x.message) (from_index ch h.before)) (map (λ (x : Numbered). x.1) older) (e ∙ ap (map (λ (x : Numbered). x.1)) q)
      where
        first_same : (x y : Message) (xs ys : List Message) → x ∷ xs ≡ y ∷ ys → x ≡ y
        first_same x y xs ys e = cc

-- where the message of a payload was made on the index
pub record PlaceOf (from : Past) (ch : ℕ) (m : Message) (count : ℕ) : Type 0 where
  pub newer : List Numbered
  pub made : Numbered
  pub older : List Numbered
  pub split : on_index ch from ≡ newer ++ made ∷ older
  pub is : m ≡ made.1
  pub count_is : length older ≡ count

-- where a payload stands among those of its index
pub handed_place : (from to : Past) (ch : ℕ) → Trail from to ch → (after : List Delivered) (d : Delivered) (before : List Delivered) → delivered_of to ≡ after ++ d ∷ before → is_from ch d ≡ true
    → PlaceOf from ch d.message (length (from_index ch before))
handed_place from to ch t after d before e f =
    let f_is : from_index ch (delivered_of to) ≡ from_index ch after ++ d ∷ from_index ch before =
    ap (from_index ch) e ∙ from_append ch after (d ∷ before) ∙ ap (λ (b : Bool). from_index ch after ++ cond b (d ∷ from_index ch before) (from_index ch before)) f in
    let both : map (λ (x : Delivered). x.message) (from_index ch after) ++ map (λ (x : Delivered). x.message) (d ∷ from_index ch before) ≡ map (λ (x : Numbered). x.1) t.done =
    sym (map-append (λ (x : Delivered). x.message) (from_index ch after) (d ∷ from_index ch before)) ∙ ap (map (λ (x : Delivered). x.message)) (sym f_is) ∙ t.same in
    let m = mapped_split (λ (x : Numbered). x.1) t.done (map (λ (x : Delivered). x.message) (from_index ch after)) (map (λ (x : Delivered). x.message) (d ∷ from_index ch before)) both in
    place m.second m.ys_are (t.ahead ++ m.first) (t.split ∙ ap (λ (l : List Numbered). t.ahead ++ l) m.split ∙ again t.ahead m.first m.second)
  where
    again : (xs ys zs : List Numbered) → xs ++ (ys ++ zs) ≡ (xs ++ ys) ++ zs
    again [] ys zs = refl
    again (x ∷ xs) ys zs = ap (λ (l : List Numbered). x ∷ l) (again xs ys zs)

    place : (ms : List Numbered) → map (λ (x : Delivered). x.message) (d ∷ from_index ch before) ≡ map (λ (x : Numbered). x.1) ms → (front : List Numbered) → on_index ch from ≡ front ++ ms → PlaceOf from ch d.message (length (from_index ch before))
    place [] q front w = absurd (cc)
    place (x ∷ ms) q front w = record {
      newer = front;
      made = x;
      older = ms;
      split = w;
      is = same_head d.message x.1 (map (λ (y : Delivered). y.message) (from_index ch before)) (map (λ (y : Numbered). y.1) ms) q;
      count_is = sym (mapped_length (from_index ch before) ms (same_tail d.message x.1 (map (λ (y : Delivered). y.message) (from_index ch before)) (map (λ (y : Numbered). y.1) ms) q));
    }
      where
        same_head : {A : Type 0} (x y : A) (xs ys : List A) → x ∷ xs ≡ y ∷ ys → x ≡ y
        same_head x y xs ys e = cc

        same_tail : {A : Type 0} (x y : A) (xs ys : List A) → x ∷ xs ≡ y ∷ ys → xs ≡ ys
        same_tail x y xs ys e = cc
