-- An update that goes into a packet, and the values that went.
use Rattle.std.proofs.Common.{◌≡◌, inl, inr, ◌⊎◌, ℕ, zero, suc, ◌+◌, ◌<◌, ◌≤◌, List, [], ◌∷◌, ◌++◌, map, length, take, Bool, true, false, cond, ◌&&◌, ◌||◌, Option, Some, None, refl, sym, ap, ◌∙◌, subst, arith, ℤ}
use Rattle.std.specs.List.{filter, list_any, list_all, slice_get}
use Rattle.std.proofs.lemmas.Bool.{false≢true, cases_eq, eq-eqb, ne_eqb}
use Rattle.std.proofs.lemmas.List.Elements.{filter-append}
use Rattle.protocol_model.specs.Value.{Pair, value_among}
use Rattle.change_model.specs.Changes.{Sample}
use Rattle.connection_model.specs.Feed.{End, Past, Sent, Item, tick_count}
use Rattle.connection_model.specs.Fates.{last_sent, high_of}
use Rattle.connection_model.specs.Items.{is_update_of}
use Rattle.connection_model.specs.Pack.{Packing, has_room, fits_current, items_with, after_offer}
use Rattle.packing_laws.specs.Sendings.{sent_all}
use Rattle.packing_laws.proofs.Packings.{sent_all-cons, last_sent_all, high_all, ticks_all}
use Rattle.link_end.specs.Packs.{sent_now}
use Rattle.link_end.proofs.Offers.{offer_some}
use Rattle.value_codec.specs.declared.pair.Pair.{Pair as PairValue}
use Rattle.sender_laws.specs.Acts.{sent_more}
use Rattle.sender_records.specs.declared.actor.ActorRecord.{ActorRecord}
use Rattle.sender_records.specs.Actors.{KeepsActor}
use Rattle.sender_records.specs.Handles.{AreApart, Agrees, AllBelow, pairs_of, pair_value}
use Rattle.sender_records.proofs.Writes.{take_step}
use Rattle.sender_records.proofs.Frames.{actor_begun}

-- ---- values that pass a test

filter_next : {X : Type 0} (m : X → Bool) (xs : List X) (i : ℕ) (x : X) → slice_get xs i ≡ Some x
    → filter m (take (i + 1) xs) ≡ filter m (take i xs) ++ cond (m x) (x ∷ []) []
filter_next m xs i x at = ap (filter m) (take_step xs i x at) ∙ filter-append m (take i xs) (x ∷ [])

pub filter_in : {X : Type 0} (m : X → Bool) (xs : List X) (i : ℕ) (x : X) → slice_get xs i ≡ Some x → m x ≡ true
    → filter m (take (i + 1) xs) ≡ filter m (take i xs) ++ x ∷ []
filter_in m xs i x at e =
    filter_next m xs i x at ∙ ap (λ (b : Bool). filter m (take i xs) ++ cond b (x ∷ []) []) e

pub filter_out : {X : Type 0} (m : X → Bool) (xs : List X) (i : ℕ) (x : X) → slice_get xs i ≡ Some x → m x ≡ false
    → filter m (take (i + 1) xs) ≡ filter m (take i xs)
filter_out m xs i x at e =
    filter_next m xs i x at ∙ ap (λ (b : Bool). filter m (take i xs) ++ cond b (x ∷ []) []) e
    ∙ end (filter m (take i xs))
  where
    end : {X : Type 0} (ys : List X) → ys ++ [] ≡ ys
    end [] = refl
    end (y ∷ ys) = ap (λ zs. y ∷ zs) (end ys)

-- two tests after one another are one test
pub filters_one : (g u : Pair → Bool) (m : PairValue → Bool) (xs : List PairValue)
    → ((x : PairValue) → m x ≡ (u (pair_value x) && g (pair_value x)))
    → map pair_value (filter m xs) ≡ filter g (filter u (map pair_value xs))
filters_one g u m [] same = refl
filters_one g u m (x ∷ xs) same =
    ap (λ (b : Bool). map pair_value (cond b (x ∷ filter m xs) (filter m xs))) (same x)
    ∙ by (filters_one g u m xs same) (u (pair_value x)) (g (pair_value x)) refl
  where
    by : map pair_value (filter m xs) ≡ filter g (filter u (map pair_value xs)) → (a b : Bool) → g (pair_value x) ≡ b
        → map pair_value (cond (a && b) (x ∷ filter m xs) (filter m xs))
        ≡ filter g (cond a (pair_value x ∷ filter u (map pair_value xs)) (filter u (map pair_value xs)))
    by rest false b e = rest
    by rest true true e =
        ap (λ (ps : List Pair). pair_value x ∷ ps) rest
        ∙ ap (λ (b : Bool). cond b (pair_value x ∷ filter g (filter u (map pair_value xs)))
        (filter g (filter u (map pair_value xs)))) (sym e)
    by rest true false e =
        rest
        ∙ ap (λ (b : Bool). cond b (pair_value x ∷ filter g (filter u (map pair_value xs)))
        (filter g (filter u (map pair_value xs)))) (sym e)

pub all_filtered : (f m : PairValue → Bool) (xs : List PairValue) → list_all f xs ≡ true
    → list_all f (filter m xs) ≡ true
all_filtered f m [] e = refl
all_filtered f m (x ∷ xs) e = by (all_filtered f m xs) (f x) (m x) refl e
  where
    by : (list_all f xs ≡ true → list_all f (filter m xs) ≡ true) → (a b : Bool) → f x ≡ a
        → (a && list_all f xs) ≡ true → list_all f (cond b (x ∷ filter m xs) (filter m xs)) ≡ true
    by rest false b q e = absurd (false≢true e)
    by rest true false q e = rest e
    by rest true true q e = ap (λ (c : Bool). c && list_all f (filter m xs)) q ∙ rest e

-- some of the values, in their order
abbrev pub Part : List PairValue → List PairValue → Type 0
Part [] ys = Unit {0}
Part (x ∷ xs) [] = ⊥
Part (x ∷ xs) (y ∷ ys) = ((x ≡ y) × Part xs ys) ⊎ Part (x ∷ xs) ys

part_more : (xs : List PairValue) (y : PairValue) (ys : List PairValue) → Part xs ys → Part xs (y ∷ ys)
part_more [] y ys h = tt
part_more (x ∷ xs) y ys h = inr h

pub part_of : (m : PairValue → Bool) (n : ℕ) (xs : List PairValue) → Part (take n (filter m xs)) xs
part_of m zero xs = tt
part_of m (suc n) [] = tt
part_of m (suc n) (x ∷ xs) = by (part_of m n xs) (part_of m (suc n) xs) (m x)
  where
    by : Part (take n (filter m xs)) xs → Part (take (suc n) (filter m xs)) xs → (b : Bool)
        → Part (take (suc n) (cond b (x ∷ filter m xs) (filter m xs))) (x ∷ xs)
    by fewer more true = inl (refl, fewer)
    by fewer more false = part_more (take (suc n) (filter m xs)) x xs more

miss : (p : Pair) (ps : List Pair) (h : ℕ) → (p.handle ≡ h → ⊥) → value_among (p ∷ ps) h ≡ value_among ps h
miss p ps h ne = ap (λ (b : Bool). cond b (Some p.value) (value_among ps h)) (ne_eqb p.handle h ne)

hit : (p : Pair) (ps : List Pair) (h : ℕ) → p.handle ≡ h → value_among (p ∷ ps) h ≡ Some p.value
hit p ps h e = ap (λ (b : Bool). cond b (Some p.value) (value_among ps h)) (eq-eqb p.handle h e)

clash : {v : ℤ} → (let o : Option ℤ = None in o) ≡ Some v → ⊥
clash e = cc

-- a handle that isn't among all isn't among some
part_none : (xs ys : List PairValue) (h : ℕ) → Part xs ys → value_among (pairs_of ys) h ≡ None
    → value_among (pairs_of xs) h ≡ None
part_none [] ys h part e = refl
part_none (x ∷ xs) [] h part e = absurd part
part_none (x ∷ xs) (y ∷ ys) h part e = elim (cases_eq (pair_value y).handle h) [
  | inl is ↦ absurd (clash (sym e ∙ hit (pair_value y) (pairs_of ys) h is))
  | inr ne ↦ (let below = sym (miss (pair_value y) (pairs_of ys) h ne) ∙ e in elim part [
    | inl q ↦ ap (λ (z : PairValue). value_among (pair_value z ∷ pairs_of xs) h) q.0
        ∙ miss (pair_value y) (pairs_of xs) h ne ∙ part_none xs ys h q.1 below
    | inr q ↦ part_none (x ∷ xs) ys h q below
  ])
]

-- some of values of which each handle stands once
pub part_apart : (xs ys : List PairValue) → Part xs ys → AreApart (pairs_of ys) → AreApart (pairs_of xs)
part_apart [] ys part a = tt
part_apart (x ∷ xs) [] part a = absurd part
part_apart (x ∷ xs) (y ∷ ys) part a = elim part [
  | inl q ↦ (
    part_none xs ys (pair_value x).handle q.1
        (ap (λ (z : PairValue). value_among (pairs_of ys) (pair_value z).handle) q.0 ∙ a.0),
    part_apart xs ys q.1 a.1,
  )
  | inr q ↦ part_apart (x ∷ xs) ys q a.1
]

part_value : (xs ys : List PairValue) (h : ℕ) (v : ℤ) → Part xs ys → AreApart (pairs_of ys)
    → value_among (pairs_of xs) h ≡ Some v → value_among (pairs_of ys) h ≡ Some v
part_value [] ys h v part a e = absurd (clash e)
part_value (x ∷ xs) [] h v part a e = absurd part
part_value (x ∷ xs) (y ∷ ys) h v part a e = elim part [
  | inl q ↦ elim (cases_eq (pair_value y).handle h) [
    | inl is ↦ hit (pair_value y) (pairs_of ys) h is
        ∙ sym (hit (pair_value y) (pairs_of xs) h is)
        ∙ ap (λ (z : PairValue). value_among (pair_value z ∷ pairs_of xs) h) (sym q.0) ∙ e
    | inr ne ↦ miss (pair_value y) (pairs_of ys) h ne
        ∙ part_value xs ys h v q.1 a.1 (sym (miss (pair_value y) (pairs_of xs) h ne)
        ∙ ap (λ (z : PairValue). value_among (pair_value z ∷ pairs_of xs) h) (sym q.0) ∙ e)
  ]
  | inr q ↦ (let below = part_value (x ∷ xs) ys h v q a.1 e in elim (cases_eq (pair_value y).handle h) [
    | inl is ↦ absurd (clash (sym a.0 ∙ ap (value_among (pairs_of ys)) is ∙ below))
    | inr ne ↦ miss (pair_value y) (pairs_of ys) h ne ∙ below
  ])
]

pub part_agrees : (samples : List Sample) (xs ys : List PairValue) → Part xs ys → AreApart (pairs_of ys)
    → Agrees samples (pairs_of ys) → Agrees samples (pairs_of xs)
part_agrees samples xs ys part a agrees h v e = agrees h v (part_value xs ys h v part a e)

no_pair : (i : ℕ) (p : PairValue) → slice_get {X = PairValue} [] i ≡ Some p → ⊥
no_pair zero p e = cc
no_pair (suc i) p e = cc

pub part_below : (n : ℕ) (xs ys : List PairValue) → Part xs ys → AllBelow n ys → AllBelow n xs
part_below n [] ys part a i p at = absurd (no_pair i p at)
part_below n (x ∷ xs) [] part a i p at = absurd part
part_below n (x ∷ xs) (y ∷ ys) part a i p at = elim part [
  | inl q ↦ both i q.0 (part_below n xs ys q.1 (λ j z e. a (suc j) z e)) at
  | inr q ↦ part_below n (x ∷ xs) ys q (λ j z e. a (suc j) z e) i p at
]
  where
    both : (i : ℕ) → x ≡ y → AllBelow n xs → slice_get (x ∷ xs) i ≡ Some p → p.prop < n
    both zero q rest at = a zero p (ap (λ (z : PairValue). let o : Option PairValue = Some z in o) (sym q) ∙ at)
    both (suc i) q rest at = rest i p at

-- ---- the packet

-- an actor's record before an update of it goes into a packet, and the past with that
pub record Goes (end : End) (p : Packing) (item : Item) (a : ℕ) (samples : List Sample) (r : ActorRecord) (n tick : ℕ)
    : Type 0 where
  pub items : List Item
  pub below : Past
  pub before : KeepsActor (Sent n tick items ∷ below) samples a r
  pub none : list_any (is_update_of a) items ≡ false
  pub high : high_of below < n
  pub after : sent_now (after_offer end p item) ≡ sent_more n tick items item below

module _ (end : End) (p : Packing) (item : Item) (a : ℕ) (samples : List Sample) (r : ActorRecord) (n tick : ℕ)
    (high : high_of p.past ≤ last_sent p.past) (tick_is : tick ≡ tick_count p.past) where
  -- a packet behind some others
  abbrev behind_all : List (List Item) → Past
  behind_all packets = sent_all p.past packets

  number_is : (packets : List (List Item)) → n ≡ last_sent p.past + suc (length packets)
      → last_sent (behind_all packets) + 1 ≡ n
  number_is packets e = omega (arith, last_sent_all p.past packets, e)

  sent_is : (items : List Item) (packets : List (List Item)) → n ≡ last_sent p.past + suc (length packets)
      → sent_all p.past (items ∷ packets) ≡ Sent n tick items ∷ behind_all packets
  sent_is items packets e =
      sent_all-cons p.past items packets
      ∙ ap (λ (k : ℕ). Sent k (tick_count (behind_all packets)) items ∷ behind_all packets) (number_is packets e)
      ∙ ap (λ (k : ℕ). Sent n k items ∷ behind_all packets) (ticks_all p.past packets ∙ sym tick_is)

  above : (packets : List (List Item)) → n ≡ last_sent p.past + suc (length packets) → high_of (behind_all packets) <
      n
  above packets e = omega (arith, high, high_all p.past packets, e)

  goes_new : (packets with : List (List Item)) → with ≡ (item ∷ []) ∷ packets
      → sent_now (after_offer end p item) ≡ sent_all p.past with
      → n ≡ last_sent p.past + length with → KeepsActor (behind_all packets) samples a r
      → Goes end p item a samples r n tick
  goes_new packets with is after number k =
      let e : n ≡ last_sent p.past + suc (length packets) = number ∙ ap (λ (ps : List (List Item)). last_sent p.past
      + length ps) is in
      record {
        items = [];
        below = behind_all packets;
        before = actor_begun n tick (behind_all packets) samples a r k;
        none = refl;
        high = above packets e;
        after = after ∙ ap (sent_all p.past) is ∙ sent_is (item ∷ []) packets e;
      }

  goes_current : (current : List Item) (packets : List (List Item))
      → sent_now (after_offer end p item) ≡ sent_all p.past ((current ++ item ∷ []) ∷ packets)
      → n ≡ last_sent p.past + suc (length packets) → KeepsActor (behind_all (current ∷ packets)) samples a r
      → list_any (is_update_of a) current ≡ false → Goes end p item a samples r n tick
  goes_current current packets after e k none = record {
    items = current;
    below = behind_all packets;
    before = subst (λ (past : Past). KeepsActor past samples a r) (sent_is current packets e) k;
    none = none;
    high = above packets e;
    after = after ∙ sent_is (current ++ item ∷ []) packets e;
  }

  pub goes : p.full ≡ false → has_room end p item ≡ true
      → n ≡ last_sent p.past + length (after_offer end p item).packets → KeepsActor (sent_now p) samples a r
      → list_any (list_any (is_update_of a)) p.packets ≡ false → Goes end p item a samples r n tick
  goes ready room number k none =
      by p.packets (fits_current end p.past p.packets item)
      (ap sent_now (offer_some end p item ready room))
      (number ∙ ap (λ (q : Packing). last_sent p.past + length q.packets) (offer_some end p item ready room)) k none
    where
      first : (x y : Bool) → (x || y) ≡ false → x ≡ false
      first false y e = refl
      first true y e = absurd (false≢true (sym e))

      by : (packets : List (List Item)) (b : Bool)
          → sent_now (after_offer end p item) ≡ sent_all p.past (items_with packets b item)
          → n ≡ last_sent p.past + length (items_with packets b item)
          → KeepsActor (sent_all p.past packets) samples a r
          → list_any (list_any (is_update_of a)) packets ≡ false → Goes end p item a samples r n tick
      by [] true after number k none = goes_new [] ((item ∷ []) ∷ []) refl after number k
      by [] false after number k none = goes_new [] ((item ∷ []) ∷ []) refl after number k
      by (current ∷ packets) true after number k none =
          goes_current current packets after number k
          (first (list_any (is_update_of a) current) (list_any (list_any (is_update_of a)) packets) none)
      by (current ∷ packets) false after number k none =
          goes_new (current ∷ packets) ((item ∷ []) ∷ current ∷ packets) refl after number k
