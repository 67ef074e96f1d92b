-- Actors are bound to channels and unbound.
use Rattle.std.proofs.Common.{◌≡◌, inl, inr, ℕ, ◌<◌, ◌≤◌, ◌==◌, List, [], ◌∷◌, length, set, true, false, cond, nat_eq, Option, Some, None, is_some, if◌then◌else◌, refl, sym, ap, ◌∙◌, arith, ⊎_elim}
use Rattle.std.specs.List.{IsDistinct, AllByRecursion}
use Rattle.std.specs.Map.{lookup, keys_of}
use Rattle.std.proofs.lemmas.Bool.{cases_Bool, cases_eq, cases_lt, eq-eqb, ne_eqb, eqb-true}
use Rattle.std.proofs.lemmas.List.{get_or-set_same, get_or-set_other, get_or_past}
use Rattle.reliable_window.specs.Bits.{bit_in}
use Rattle.channel_table.specs.Holders.{Bound, channel_bound, actor_bound, IsPaired, other_than, holder_at, IsHeld}

-- ---- tests

at_same : {X : Type 0} (i k : ℕ) (x y : X) → i ≡ k → (if i == k then x else y) ≡ x
at_same i k x y e = rw (eq-eqb i k e) refl

at_other : {X : Type 0} (i k : ℕ) (x y : X) → (i ≡ k → ⊥) → (if i == k then x else y) ≡ y
at_other i k x y ne = rw (ne_eqb i k ne) refl

-- a key's test with its sides turned round
turned : {X : Type 0} (k i : ℕ) (x y : X) → cond (nat_eq k i) x y ≡ (if i == k then x else y)
turned k i x y = ⊎_elim
    (λ (e : i ≡ k). (let yes : nat_eq k i ≡ true = eq-eqb k i (sym e) in rw yes (sym (at_same i k x y e))))
    (λ (ne : i ≡ k → ⊥).
    (let no : nat_eq k i ≡ false = ne_eqb k i (λ e. ne (sym e)) in rw no (sym (at_other i k x y ne))))
    (cases_eq i k)

some_is : (x y : ℕ) → Some x ≡ Some y → x ≡ y
some_is x y e = cc

not_none : {A : Type 0} (o : Option ℕ) (x : ℕ) → o ≡ None → o ≡ Some x → A
not_none o x e f = absurd cc

-- a look-up by actor
pub looked_up : (xs : Bound) (a : ℕ) → lookup (nat_eq a) xs ≡ channel_bound xs a
looked_up [] a = refl
looked_up (b ∷ xs) a = ⊎_elim
    (λ (q : b.0 ≡ a). (let l : nat_eq a b.0 ≡ true = eq-eqb a b.0 (sym q) in let r : (b.0 == a) ≡ true =
    eq-eqb b.0 a q in rw (l, r) refl))
    (λ (ne : b.0 ≡ a → ⊥). (let l : nat_eq a b.0 ≡ false = ne_eqb a b.0 (λ q. ne (sym q)) in let r :
    (b.0 == a) ≡ false = ne_eqb b.0 a ne in rw (l, r) (looked_up xs a)))
    (cases_eq b.0 a)

-- after an actor's entry is set or taken out
pub read_channels : (xs ys : Bound) (a : ℕ) (o : Option ℕ)
    → ((q : ℕ) → lookup (nat_eq q) ys ≡ cond (nat_eq a q) o (lookup (nat_eq q) xs)) → (q : ℕ)
    → channel_bound ys q ≡ (if q == a then o else channel_bound xs q)
read_channels xs ys a o h q =
    sym (looked_up ys q) ∙ h q ∙ turned a q o (lookup (nat_eq q) xs)
    ∙ ap (λ (held : Option ℕ). if q == a then o else held) (looked_up xs q)

-- ---- one look-up says what the other one does, where no actor stands twice

-- an actor whose channel is found isn't one that stands nowhere
found_apart : (k : ℕ) (xs : Bound) (q c : ℕ) → AllByRecursion (λ y. nat_eq k y ≡ false) (keys_of xs)
    → channel_bound xs q ≡ Some c → nat_eq k q ≡ false
found_apart k [] q c all e = not_none None c refl e
found_apart k (b ∷ xs) q c all e = elim (cases_Bool (b.0 == q)) [
  | inl t ↦ ap (nat_eq k) (sym (eqb-true b.0 q t)) ∙ all.0
  | inr t ↦ found_apart k xs q c all.1 (rw t at e)
]

-- the channel of the actor that is found by a channel
found_back : (xs : Bound) (q c : ℕ) → IsDistinct nat_eq (keys_of xs) → actor_bound xs c ≡ Some q
    → channel_bound xs q ≡ Some c
unfolding IsDistinct
found_back [] q c once e = not_none None q refl e
found_back (b ∷ xs) q c once e = elim (cases_Bool (b.1 == c)) [
  | inl t ↦ (
      let is : b.0 ≡ q = some_is b.0 q (rw t at e) in
      let yes : (b.0 == q) ≡ true = eq-eqb b.0 q is in
      rw yes (ap Some (eqb-true b.1 c t)))
  | inr t ↦ (
      let held : channel_bound xs q ≡ Some c = found_back xs q c once.1 (rw t at e) in
      let no : (b.0 == q) ≡ false = found_apart b.0 xs q c once.0 held in
      rw no held)
]

-- a channel that an actor has is found
found_there : {A : Type 0} (xs : Bound) (q c : ℕ) → channel_bound xs q ≡ Some c → actor_bound xs c ≡ None → A
found_there [] q c e none = not_none None c refl e
found_there (b ∷ xs) q c e none = elim (cases_Bool (b.1 == c)) [
  | inl t ↦ absurd (let never = rw t at none in cc)
  | inr t ↦ elim (cases_Bool (b.0 == q)) [
    | inl s ↦ (let is : b.1 ≡ c = some_is b.1 c (rw s at e) in
        absurd (let no = sym t ∙ eq-eqb b.1 c is in cc))
    | inr s ↦ found_there xs q c (rw s at e) (rw t at none)
  ]
]

-- pairs are read by channel as `o` says
pub record IsRead (xs : Bound) (o : ℕ → Option ℕ) : Type 0 where
  pub forth : (q c : ℕ) → channel_bound xs q ≡ Some c → o c ≡ Some q
  pub back : (q c : ℕ) → o c ≡ Some q → channel_bound xs q ≡ Some c

pub read_actor : (xs : Bound) (o : ℕ → Option ℕ) → IsDistinct nat_eq (keys_of xs) → IsRead xs o → (c : ℕ)
    → actor_bound xs c ≡ o c
read_actor xs o once h c = by (actor_bound xs c) (o c) refl refl
  where
    by : (x y : Option ℕ) → actor_bound xs c ≡ x → o c ≡ y → x ≡ y
    by (Some q) y e f = sym (h.forth q c (found_back xs q c once e)) ∙ f
    by None None e f = refl
    by None (Some q) e f = found_there xs q c (h.back q c f) e

pub read_paired : (xs : Bound) (o : ℕ → Option ℕ) → IsDistinct nat_eq (keys_of xs) → IsRead xs o → IsPaired xs
read_paired xs o once h = record {
  forth = λ q c e. read_actor xs o once h c ∙ h.forth q c e;
  back = λ q c e. found_back xs q c once e;
}

-- ---- one more

-- the actors by channel, with one more
abbrev pub actors_with : Bound → (a ch : ℕ) → ℕ → Option ℕ
actors_with xs a ch c = if c == ch then Some a else actor_bound xs c

pub read_more : (xs ys : Bound) (a ch : ℕ) → IsPaired xs → actor_bound xs ch ≡ None → channel_bound xs a ≡ None
    → ((q : ℕ) → channel_bound ys q ≡ (if q == a then Some ch else channel_bound xs q))
    → IsRead ys (actors_with xs a ch)
read_more xs ys a ch h none free channels = record {
  forth = λ q c e. ⊎_elim
      (λ (is : q ≡ a).
      (let so : c ≡ ch = some_is c ch (sym e ∙ channels q ∙ at_same q a _ _ is) in
      at_same c ch _ _ so ∙ ap Some (sym is)))
      (λ (ne : q ≡ a → ⊥).
      (let held : actor_bound xs c ≡ Some q = h.forth q c (sym (at_other q a _ _ ne) ∙ sym (channels q) ∙ e) in
      at_other c ch _ _ (λ (so : c ≡ ch). not_none (actor_bound xs ch) q none
      (ap (actor_bound xs) (sym so) ∙ held)) ∙ held))
      (cases_eq q a);
  back = λ q c e. ⊎_elim
      (λ (is : c ≡ ch).
      (let so : q ≡ a = some_is q a (sym e ∙ at_same c ch _ _ is) in
      channels q ∙ at_same q a _ _ so ∙ ap Some (sym is)))
      (λ (ne : c ≡ ch → ⊥).
      (let held : channel_bound xs q ≡ Some c = h.back q c (sym (at_other c ch _ _ ne) ∙ e) in
      channels q ∙ at_other q a _ _ (λ (so : q ≡ a). not_none (channel_bound xs a) c free
      (ap (channel_bound xs) (sym so) ∙ held)) ∙ held))
      (cases_eq c ch);
}

-- ---- one less

-- the actors by channel, without one
abbrev pub actors_without : Bound → (ch : ℕ) → ℕ → Option ℕ
actors_without xs ch c = if c == ch then None else actor_bound xs c

other_self : (ch : ℕ) (o : Option ℕ) → o ≡ Some ch → other_than ch o ≡ None
other_self ch None e = refl
other_self ch (Some c) e = at_same c ch _ _ (some_is c ch e)

other_kept : (ch : ℕ) (o : Option ℕ) → (o ≡ Some ch → ⊥) → other_than ch o ≡ o
other_kept ch None ne = refl
other_kept ch (Some c) ne = at_other c ch _ _ (λ e. ne (ap Some e))

-- the channel's actor goes
pub without_holder : (xs : Bound) (a ch q : ℕ) → IsPaired xs → actor_bound xs ch ≡ Some a
    → (if q == a then None else channel_bound xs q) ≡ other_than ch (channel_bound xs q)
without_holder xs a ch q h held = ⊎_elim
    (λ (is : q ≡ a). at_same q a _ _ is ∙ sym (other_self ch (channel_bound xs q)
    (ap (channel_bound xs) is ∙ h.back a ch held)))
    (λ (ne : q ≡ a → ⊥). at_other q a _ _ ne ∙ sym (other_kept ch (channel_bound xs q)
    (λ f. ne (some_is q a (sym (h.forth q ch f) ∙ held)))))
    (cases_eq q a)

pub read_less : (xs ys : Bound) (a ch : ℕ) → IsPaired xs → actor_bound xs ch ≡ Some a
    → ((q : ℕ) → channel_bound ys q ≡ (if q == a then None else channel_bound xs q))
    → IsRead ys (actors_without xs ch)
read_less xs ys a ch h held channels = record {
  forth = λ q c e. ⊎_elim
      (λ (is : q ≡ a). not_none (channel_bound ys q) c (channels q ∙ at_same q a _ _ is) e)
      (λ (ne : q ≡ a → ⊥).
      (let was : actor_bound xs c ≡ Some q = h.forth q c (sym (at_other q a _ _ ne) ∙ sym (channels q) ∙ e) in
      at_other c ch _ _ (λ (so : c ≡ ch). ne (some_is q a
      (sym was ∙ ap (actor_bound xs) so ∙ held))) ∙ was))
      (cases_eq q a);
  back = λ q c e. ⊎_elim
      (λ (is : c ≡ ch). not_none (actors_without xs ch c) q (at_same c ch _ _ is) e)
      (λ (ne : c ≡ ch → ⊥).
      (let was : channel_bound xs q ≡ Some c = h.back q c (sym (at_other c ch _ _ ne) ∙ e) in
      channels q ∙ at_other q a _ _ (λ (so : q ≡ a). ne (some_is c ch
      (sym was ∙ ap (channel_bound xs) so ∙ h.back a ch held))) ∙ was))
      (cases_eq c ch);
}

-- a channel that nobody holds leaves all as it is
pub none_goes : (xs : Bound) (ch q : ℕ) → IsPaired xs → actor_bound xs ch ≡ None
    → channel_bound xs q ≡ other_than ch (channel_bound xs q)
none_goes xs ch q h none =
    sym (other_kept ch (channel_bound xs q) (λ f. not_none (actor_bound xs ch) q none (h.forth q ch f)))

pub none_read : (xs : Bound) (ch c : ℕ) → actor_bound xs ch ≡ None → actor_bound xs c ≡ actors_without xs ch c
none_read xs ch c none = ⊎_elim
    (λ (is : c ≡ ch). ap (actor_bound xs) is ∙ none ∙ sym (at_same c ch None (actor_bound xs c) is))
    (λ (ne : c ≡ ch → ⊥). sym (at_other c ch None (actor_bound xs c) ne))
    (cases_eq c ch)

-- ---- what is kept beside

-- one place gets another holder, and all others keep theirs
set_at : (holders : List (Option ℕ)) (ch c : ℕ) (o : Option ℕ) → ch < length holders
    → holder_at (set holders ch o) c ≡ (if c == ch then o else holder_at holders c)
set_at holders ch c o within = ⊎_elim
    (λ (is : c ≡ ch). ap (holder_at (set holders ch o)) is ∙ get_or-set_same holders ch o None within
    ∙ sym (at_same c ch o (holder_at holders c) is))
    (λ (ne : c ≡ ch → ⊥). get_or-set_other holders ch c o None ne ∙ sym (at_other c ch o (holder_at holders c) ne))
    (cases_eq c ch)

-- a bit is set or cleared where a channel gets another holder
bit_at : (c ch b used : ℕ) (o : Option ℕ) (held : Option ℕ) → used ≡ (if is_some held then 1 else 0)
    → b ≡ (if is_some o then 1 else 0)
    → (if c == ch then b else used) ≡ (if is_some (if c == ch then o else held) then 1 else 0)
bit_at c ch b used o held was is = ⊎_elim
    (λ (q : c ≡ ch). (let yes : (c == ch) ≡ true = eq-eqb c ch q in rw yes is))
    (λ (ne : c ≡ ch → ⊥). (let no : (c == ch) ≡ false = ne_eqb c ch ne in rw no was))
    (cases_eq c ch)

-- all that is kept goes on to hold where one channel gets another holder, or none
pub holds : (xs ys : Bound) (holders grown : List (Option ℕ)) (used later : List ℕ) (ch b : ℕ) (o : Option ℕ)
    → IsHeld xs holders used → IsDistinct nat_eq (keys_of ys)
    → IsRead ys (λ c. if c == ch then o else actor_bound xs c)
    → ((c : ℕ) → holder_at grown c ≡ holder_at holders c) → ch < length grown → ch < 32768
    → b ≡ (if is_some o then 1 else 0)
    → ((i : ℕ) → bit_in later i ≡ (if i == ch then b else bit_in used i))
    → IsHeld ys (set grown ch o) later
holds xs ys holders grown used later ch b o h once read same within low is bits =
    let now : (c : ℕ) → actor_bound ys c ≡ (if c == ch then o else actor_bound xs c) = read_actor ys _ once read in
    record {
      paired = read_paired ys _ once read;
      at = λ c. set_at grown ch c o within
          ∙ ap (λ (x : Option ℕ). if c == ch then o else x) (same c ∙ h.at c) ∙ sym (now c);
      marked = λ c l. bits c ∙ bit_at c ch b (bit_in used c) o (actor_bound xs c) (h.marked c l) is
          ∙ ap (λ (x : Option ℕ). if is_some x then 1 else 0) (sym (now c));
      most = λ c high. now c ∙ at_other c ch o (actor_bound xs c) (λ (q : c ≡ ch). absurd (omega (arith, q, high, low)))
          ∙ h.most c high;
    }

pub none_paired : IsPaired []
none_paired = record { forth = λ a ch e. not_none None ch refl e; back = λ a ch e. not_none None a refl e }

pub holds_new : (used : List ℕ) → ((i : ℕ) → bit_in used i ≡ 0) → IsHeld [] [] used
holds_new used none = record {
  paired = none_paired;
  at = λ ch. refl;
  marked = λ ch low. none ch;
  most = λ ch high. refl;
}

-- an actor that holds a channel stands at its place
pub held_within : (holders : List (Option ℕ)) (ch a : ℕ) → holder_at holders ch ≡ Some a → ch < length holders
held_within holders ch a e = ⊎_elim
    (λ (low : ch < length holders). low)
    (λ (high : length holders ≤ ch). not_none (holder_at holders ch) a (get_or_past holders ch None high) e)
    (cases_lt ch (length holders))

pub held_low : (xs : Bound) (holders : List (Option ℕ)) (used : List ℕ) (ch a : ℕ) → IsHeld xs holders used
    → actor_bound xs ch ≡ Some a → ch < 32768
held_low xs holders used ch a h e = ⊎_elim
    (λ (low : ch < 32768). low)
    (λ (high : 32768 ≤ ch). not_none (actor_bound xs ch) a (h.most ch high) e)
    (cases_lt ch 32768)
