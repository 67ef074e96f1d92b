-- The copies of an index by actor, as a list: each is found by its actor, and by its channel.
use Rattle.std.proofs.Common.{◌≡◌, ◌≢◌, ℕ, suc, ◌+◌, ◌<◌, ◌≤◌, ◌==◌, List, [], ◌∷◌, length, Bool, true, false, cond, nat_lt, Less, Equal, Greater, Option, Some, None, is_some, option_map, filter_map, refl, sym, ap, ◌∙◌, subst, arith}
use Rattle.std.specs.Prelude.{option_and_then}
use Rattle.std.specs.List.{AllByRecursion, cons_option}
use Rattle.std.specs.List.Sorted.{IsStrictlySortedBy}
use Rattle.std.specs.Ordering.{nat_cmp, is_eq}
use Rattle.std.specs.Map.{lookup, keys_of, values_of}
use Rattle.std.specs.BTreeMap.{BTreeMap, is_at, get as key_at}
use Rattle.std.proofs.lemmas.Bool.{eqb-true, eq-eqb}
use Rattle.std.proofs.lemmas.Bool.Decides.{nat_tests}
use Rattle.std.proofs.lemmas.Option.{same_Some}
use Rattle.slab.specs.Slab.{Slab, get as stored_at}
use Rattle.connection_model.specs.Copies.{is_on}
use Rattle.actor_copies.specs.declared.copy.ActorCopy.{ActorCopy}
use Rattle.actor_copies.specs.Index.{actor_number, channel_number, key_on, listed, IsIndexed}
use Rattle.actor_copies.specs.Keyed.{Ascends, at_key, Put}
use Rattle.actor_copies.specs.Kept.{copy_actor, kept_on}
use Rattle.actor_copies.proofs.Indexes.{on_is, is_there, apart}
use Rattle.actor_copies.proofs.Keyed.{first_passes, one_passes}

-- ---- numbers in order

pub same_cmp : (a q : ℕ) → is_at (nat_cmp a) q ≡ (a == q)
same_cmp a q = by (nat_lt a q) refl
  where
    equal : (t : Bool) → is_eq (cond t Equal Greater) ≡ t
    equal true = refl
    equal false = refl

    by : (b : Bool) → nat_lt a q ≡ b → is_eq (cond b Less (cond (a == q) Equal Greater)) ≡ (a == q)
    by true e = let no : (a == q) ≡ false = grind (arith, nat_tests) in sym no
    by false e = equal (a == q)

less_of : (a q : ℕ) → nat_cmp a q ≡ Less → a < q
less_of a q h = by (nat_lt a q) refl (a == q) h
  where
    by : (b : Bool) → nat_lt a q ≡ b → (t : Bool) → cond b Less (cond t Equal Greater) ≡ Less → a < q
    by true e t h = grind (arith, nat_tests)
    by false e true h = absurd (cc)
    by false e false h = absurd (cc)

-- ---- the entries of an index by actor

-- each entry's copy is of its actor
abbrev AreNamed : (ℕ → Option ActorCopy) → List (ℕ × ℕ) → Type 0
AreNamed stored es = AllByRecursion (λ (e : ℕ × ℕ). option_and_then actor_number (stored e.1) ≡ Some e.0) es

above : (least : ℕ) (es : List (ℕ × ℕ)) (n k : ℕ) → AllByRecursion (λ (y : ℕ). nat_cmp least y ≡ Less) (keys_of es)
    → lookup (is_at (nat_cmp n)) es ≡ Some k → least < n
above least [] n k all e = absurd (cc)
above least (f ∷ es) n k all e = by (n == f.0) refl (sym (ap (λ (b : Bool). cond b (Some f.1)
    (lookup (is_at (nat_cmp n)) es)) (same_cmp n f.0)) ∙ e) (λ h. above least es n k all.1 h)
  where
    by : (b : Bool) → (n == f.0) ≡ b → cond b (Some f.1) (lookup (is_at (nat_cmp n)) es) ≡ Some k
        → (lookup (is_at (nat_cmp n)) es ≡ Some k → least < n) → least < n
    by true t h rest = subst (λ (m : ℕ). least < m) (sym (eqb-true n f.0 t)) (less_of least f.0 all.0)
    by false t h rest = rest h

are_named : (stored : ℕ → Option ActorCopy) (es : List (ℕ × ℕ)) → IsStrictlySortedBy nat_cmp (keys_of es)
    → ((n k : ℕ) → lookup (is_at (nat_cmp n)) es ≡ Some k → option_and_then actor_number (stored k) ≡ Some n)
    → AreNamed stored es
unfolding IsStrictlySortedBy
are_named stored [] sorted there = tt
are_named stored (e ∷ es) sorted there =
    (there e.0 e.1 first, are_named stored es sorted.1 (λ n k h. there n k (later n k h)))
  where
    first : cond (is_at (nat_cmp e.0) e.0) (Some e.1) (lookup (is_at (nat_cmp e.0)) es) ≡ Some e.1
    first = ap (λ (b : Bool). cond b (Some e.1) (lookup (is_at (nat_cmp e.0)) es))
        (same_cmp e.0 e.0 ∙ eq-eqb e.0 e.0 refl)

    later : (n k : ℕ) → lookup (is_at (nat_cmp n)) es ≡ Some k
        → cond (is_at (nat_cmp n) e.0) (Some e.1) (lookup (is_at (nat_cmp n)) es) ≡ Some k
    later n k h =
        let l = above e.0 es n k sorted.0 h in
        let no : (n == e.0) ≡ false = grind (arith, nat_tests) in
        ap (λ (b : Bool). cond b (Some e.1) (lookup (is_at (nat_cmp n)) es)) (same_cmp n e.0 ∙ no) ∙ h

flipped : (a b : ℕ) → (a == b) ≡ (b == a)
flipped a b = by (a == b) refl
  where
    by : (t : Bool) → (a == b) ≡ t → t ≡ (b == a)
    by true e = grind (arith, nat_tests)
    by false e = grind (arith, nat_tests)

finds : (stored : ℕ → Option ActorCopy) (es : List (ℕ × ℕ)) (a : ℕ) → AreNamed stored es
    → at_key copy_actor (listed stored es) a ≡ option_and_then stored (lookup (is_at (nat_cmp a)) es)
finds stored [] a all = refl
finds stored (e ∷ es) a all = by (stored e.1) refl all.0 (finds stored es a all.1)
  where
    tests : (c : ActorCopy) (t : Bool) → stored e.1 ≡ Some c
        → at_key copy_actor (listed stored es) a ≡ option_and_then stored (lookup (is_at (nat_cmp a)) es)
        → cond t (Some c) (at_key copy_actor (listed stored es) a)
        ≡ option_and_then stored (cond t (Some e.1) (lookup (is_at (nat_cmp a)) es))
    tests c true s rest = sym s
    tests c false s rest = rest

    by : (o : Option ActorCopy) → stored e.1 ≡ o → option_and_then actor_number o ≡ Some e.0
        → at_key copy_actor (listed stored es) a ≡ option_and_then stored (lookup (is_at (nat_cmp a)) es)
        → at_key copy_actor (cons_option o (listed stored es)) a
        ≡ option_and_then stored (cond (is_at (nat_cmp a) e.0) (Some e.1) (lookup (is_at (nat_cmp a)) es))
    by None s h rest = absurd (cc)
    by (Some c) s h rest =
        let named : c.actor ≡ e.0 = same_Some c.actor e.0 h in
        tests c (c.actor == a) s rest
        ∙ ap (λ (t : Bool). option_and_then stored (cond t (Some e.1) (lookup (is_at (nat_cmp a)) es)))
        (ap (λ (n : ℕ). n == a) named ∙ flipped e.0 a ∙ sym (same_cmp a e.0))

ascends : (stored : ℕ → Option ActorCopy) (es : List (ℕ × ℕ)) (least : ℕ) → AreNamed stored es
    → IsStrictlySortedBy nat_cmp (keys_of es) → AllByRecursion (λ (y : ℕ). least ≤ y) (keys_of es)
    → Ascends copy_actor least (listed stored es)
unfolding IsStrictlySortedBy
ascends stored [] least all sorted low = tt
ascends stored (e ∷ es) least all sorted low =
    by (stored e.1) all.0 (ascends stored es (e.0 + 1) all.1 sorted.1 (higher (keys_of es) sorted.0))
  where
    higher : (ys : List ℕ) → AllByRecursion (λ (y : ℕ). nat_cmp e.0 y ≡ Less) ys
        → AllByRecursion (λ (y : ℕ). e.0 + 1 ≤ y) ys
    higher [] all = tt
    higher (y ∷ ys) all = (let l = less_of e.0 y all.0 in omega (arith, l), higher ys all.1)

    by : (o : Option ActorCopy) → option_and_then actor_number o ≡ Some e.0
        → Ascends copy_actor (e.0 + 1) (listed stored es)
        → Ascends copy_actor least (cons_option o (listed stored es))
    by None h rest = absurd (cc)
    by (Some c) h rest =
        let named : e.0 ≡ c.actor = sym (same_Some c.actor e.0 h) in (
          subst (λ (n : ℕ). least ≤ n) named low.0,
          subst (λ (n : ℕ). Ascends copy_actor (n + 1) (listed stored es)) named rest,
        )

-- ---- copies with both indexes

named : (copies : Slab ActorCopy) (by_actor : BTreeMap ℕ ℕ) (by_channel : List (Option ℕ))
    → IsIndexed copies by_actor by_channel → AreNamed (stored_at copies) by_actor.entries
named copies by_actor by_channel i = are_named (stored_at copies) by_actor.entries i.ordered i.actors.there

-- a copy is found by its actor
pub found_of : (copies : Slab ActorCopy) (by_actor : BTreeMap ℕ ℕ) (by_channel : List (Option ℕ)) (a : ℕ)
    → IsIndexed copies by_actor by_channel
    → at_key copy_actor (listed (stored_at copies) by_actor.entries) a
    ≡ option_and_then (stored_at copies) (key_at nat_cmp by_actor a)
found_of copies by_actor by_channel a i =
    finds (stored_at copies) by_actor.entries a (named copies by_actor by_channel i)

all_least : (ys : List ℕ) → AllByRecursion (λ (y : ℕ). 0 ≤ y) ys
all_least [] = tt
all_least (y ∷ ys) = (omega arith, all_least ys)

-- the copies ascend by actor
pub copies_ascend : (copies : Slab ActorCopy) (by_actor : BTreeMap ℕ ℕ) (by_channel : List (Option ℕ))
    → IsIndexed copies by_actor by_channel → Ascends copy_actor 0 (listed (stored_at copies) by_actor.entries)
copies_ascend copies by_actor by_channel i =
    ascends (stored_at copies) by_actor.entries 0 (named copies by_actor by_channel i) i.ordered
    (all_least (keys_of by_actor.entries))

-- there are as many as actors
pub count_of : (copies : Slab ActorCopy) (by_actor : BTreeMap ℕ ℕ) (by_channel : List (Option ℕ))
    → IsIndexed copies by_actor by_channel
    → length (listed (stored_at copies) by_actor.entries) ≡ length by_actor.entries
count_of copies by_actor by_channel i = all by_actor.entries (named copies by_actor by_channel i)
  where
    one : (e : ℕ × ℕ) (es : List (ℕ × ℕ)) (o : Option ActorCopy) → option_and_then actor_number o ≡ Some e.0
        → length (listed (stored_at copies) es) ≡ length es
        → length (cons_option o (listed (stored_at copies) es)) ≡ length (e ∷ es)
    one e es None h rest = absurd (cc)
    one e es (Some c) h rest = ap (λ (n : ℕ). suc n) rest

    all : (es : List (ℕ × ℕ)) → AreNamed (stored_at copies) es → length (listed (stored_at copies) es) ≡ length es
    all [] h = refl
    all (e ∷ es) h = one e es (stored_at copies e.1) h.0 (all es h.1)

-- the keys alone give the same copies
pub values_listed : (stored : ℕ → Option ActorCopy) (es : List (ℕ × ℕ))
    → filter_map stored (values_of es) ≡ listed stored es
values_listed stored [] = refl
values_listed stored (e ∷ es) = ap (cons_option (stored e.1)) (values_listed stored es)

-- a copy is found by its channel
pub found_on : (copies : Slab ActorCopy) (by_actor : BTreeMap ℕ ℕ) (by_channel : List (Option ℕ)) (ch : ℕ)
    → IsIndexed copies by_actor by_channel
    → kept_on (listed (stored_at copies) by_actor.entries) ch
    ≡ option_and_then (stored_at copies) (key_on by_channel ch)
found_on copies by_actor by_channel ch i =
    by (kept_on (listed (stored_at copies) by_actor.entries) ch) refl (key_on by_channel ch) refl
  where
    test : ActorCopy → Bool
    test c = is_on ch c.channel

    by_key : (c : ActorCopy) (o : Option ℕ) → key_at nat_cmp by_actor c.actor ≡ o
        → option_and_then (stored_at copies) o ≡ Some c → is_on ch c.channel ≡ true
        → Some c ≡ option_and_then (stored_at copies) (key_on by_channel ch)
    by_key c None e s on = absurd (cc)
    by_key c (Some k) e s on =
        let at = i.channels.found ch k (ap (option_and_then channel_number) s ∙ on_is ch c.channel on) in
        sym s ∙ sym (ap (option_and_then (stored_at copies)) at)

    no_copy : (k : ℕ) (o : Option ActorCopy) → stored_at copies k ≡ o
        → option_and_then channel_number o ≡ Some ch
        → kept_on (listed (stored_at copies) by_actor.entries) ch ≡ None → None ≡ o
    no_copy k None s on none = refl
    no_copy k (Some c) s on none =
        let key = i.actors.found c.actor k (ap (option_and_then actor_number) s) in
        let there : at_key copy_actor (listed (stored_at copies) by_actor.entries) c.actor ≡ Some c =
        found_of copies by_actor by_channel c.actor i
        ∙ ap (option_and_then (stored_at copies)) key ∙ s in
        let some = one_passes copy_actor test (listed (stored_at copies) by_actor.entries) c.actor c there
        (is_there ch c.channel on) in
        let no : true ≡ false = sym some ∙ ap is_some none in
        absurd (cc)

    by : (o : Option ActorCopy) → kept_on (listed (stored_at copies) by_actor.entries) ch ≡ o
        → (key : Option ℕ) → key_on by_channel ch ≡ key
        → o ≡ option_and_then (stored_at copies) (key_on by_channel ch)
    by (Some c) e key k =
        let first = first_passes copy_actor test 0 (listed (stored_at copies) by_actor.entries) c
        (copies_ascend copies by_actor by_channel i) e in
        by_key c (key_at nat_cmp by_actor c.actor) refl
        (sym (found_of copies by_actor by_channel c.actor i) ∙ first.2) first.0
    by None e None k = sym (ap (option_and_then (stored_at copies)) k)
    by None e (Some k) at =
        no_copy k (stored_at copies k) refl (i.channels.there ch k at) e
        ∙ sym (ap (option_and_then (stored_at copies)) at)

-- ---- one copy is put in the place of an actor's

pub record Puts (old new : Slab ActorCopy) (before after : BTreeMap ℕ ℕ) (actor key : ℕ)
    (item : Option ActorCopy) : Type 0 where
  pub at : stored_at new key ≡ item
  pub others : (k : ℕ) → k ≢ key → stored_at new k ≡ stored_at old k
  pub was : (n : ℕ) → option_and_then actor_number (stored_at old key) ≡ Some n → n ≡ actor
  pub keys : (q : ℕ) → key_at nat_cmp after q
      ≡ cond (actor == q) (option_map (λ (c : ActorCopy). key) item) (key_at nat_cmp before q)

pub puts : (old new : Slab ActorCopy) (before after : BTreeMap ℕ ℕ) (channels later : List (Option ℕ))
    (actor key : ℕ) (item : Option ActorCopy) → IsIndexed old before channels → IsIndexed new after later
    → Puts old new before after actor key item
    → Put copy_actor actor item (listed (stored_at old) before.entries) (listed (stored_at new) after.entries)
puts old new before after channels later actor key item i j p = record {
  ascends = copies_ascend new after later j;
  at = λ q. found_of new after later q j ∙ ap (option_and_then (stored_at new)) (p.keys q)
      ∙ by q (actor == q) refl;
}
  where
    here : (o : Option ActorCopy) → stored_at new key ≡ o
        → option_and_then (stored_at new) (option_map (λ (c : ActorCopy). key) o) ≡ o
    here None e = refl
    here (Some c) e = e

    other : (q : ℕ) → (actor == q) ≡ false → (o : Option ℕ) → key_at nat_cmp before q ≡ o
        → option_and_then (stored_at new) o ≡ option_and_then (stored_at old) o
    other q e None k = refl
    other q e (Some m) k = p.others m (λ same. apart actor q e (sym (p.was q
        (subst (λ (n : ℕ). option_and_then actor_number (stored_at old n) ≡ Some q) same
        (i.actors.there q m k)))))

    by : (q : ℕ) (t : Bool) → (actor == q) ≡ t
        → option_and_then (stored_at new) (cond t (option_map (λ (c : ActorCopy). key) item)
        (key_at nat_cmp before q))
        ≡ cond t item (at_key copy_actor (listed (stored_at old) before.entries) q)
    by q true e = here item p.at
    by q false e =
        other q e (key_at nat_cmp before q) refl ∙ sym (found_of old before channels q i)
