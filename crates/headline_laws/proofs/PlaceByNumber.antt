-- Where a message stands among those of its index, by its number.
use Rattle.std.proofs.Common.{◌≡◌, inl, inr, ℕ, ◌+◌, ◌<◌, ◌==◌, ◌&&◌, List, [], ◌∷◌, ◌++◌, reverse, Bool, true, false, refl, sym, ap, ◌∙◌, subst, arith, append_assoc, ◌⊎◌, Option, Some, None}
use Rattle.std.specs.List.{cons_option, AllByRecursion}
use Rattle.std.specs.Bool.{then_some}
use Rattle.std.proofs.lemmas.Bool.{eq-eqb, eqb-true, and_parts, and_from}
use Rattle.std.proofs.lemmas.List.{reverse-append, reverse-reverse}
use Rattle.protocol_model.specs.Payload.{Message, parts_of, actor_of}
use Rattle.connection_model.specs.Feed.{End, Past, Deed, Ticked, Made, Waits, Sent, Took, Ended}
use Rattle.connection_model.specs.Bunches.{made_count}
use Rattle.connection_model.specs.State.{Mark, is_mark, mark_in}
use Rattle.connection_laws.specs.Run.{IsRun}
use Rattle.connection_laws.specs.Delivered.{on_index, Numbered, messages_on}
use Rattle.connection_laws.proofs.Spans.{some_parts}
use Rattle.headline_laws.specs.Follows.{parts_in}
use Rattle.headline_laws.specs.Marks.{marks_of}
use Rattle.headline_laws.specs.Whole.{MadeAt}
use Rattle.headline_laws.proofs.ReceivedFirst.{row_at, parts_append, parts_reverse}
use Rattle.headline_laws.proofs.WholeMessages.{InRow, rows}

-- ---- two places in a list

-- one place, or one before the other
pub data Places {A : Type 0} (ws : List A) (x : A) (bs cs : List A) (y : A) (ds : List A) : Type 0 where
  one : ws ≡ cs → x ≡ y → bs ≡ ds → Places ws x bs cs y ds
  first_later : (es : List A) → ws ≡ cs ++ y ∷ es → ds ≡ es ++ x ∷ bs → Places ws x bs cs y ds
  second_later : (es : List A) → cs ≡ ws ++ x ∷ es → bs ≡ es ++ y ∷ ds → Places ws x bs cs y ds

-- two places in one list: one is before, at or behind the other
pub places : {A : Type 0} (ws : List A) (x : A) (bs cs : List A) (y : A) (ds : List A) → ws ++ x ∷ bs ≡ cs ++ y ∷ ds → Places ws x bs cs y ds
places {A} [] x bs [] y ds e = one refl (head x y bs ds e) (tail x y bs ds e)
  where
    head : (x y : A) (xs ys : List A) → x ∷ xs ≡ y ∷ ys → x ≡ y
    head x y xs ys e = cc

    tail : (x y : A) (xs ys : List A) → x ∷ xs ≡ y ∷ ys → xs ≡ ys
    tail x y xs ys e = cc
places {A} [] x bs (c ∷ cs) y ds e = second_later cs (ap (λ (z : A). z ∷ cs) (sym (head x c bs (cs ++ y ∷ ds) e))) (tail x c bs (cs ++ y ∷ ds) e)
  where
    head : (x y : A) (xs ys : List A) → x ∷ xs ≡ y ∷ ys → x ≡ y
    head x y xs ys e = cc

    tail : (x y : A) (xs ys : List A) → x ∷ xs ≡ y ∷ ys → xs ≡ ys
    tail x y xs ys e = cc
places {A} (a ∷ ws) x bs [] y ds e = first_later ws (ap (λ (z : A). z ∷ ws) (head a y (ws ++ x ∷ bs) ds e)) (sym (tail a y (ws ++ x ∷ bs) ds e))
  where
    head : (x y : A) (xs ys : List A) → x ∷ xs ≡ y ∷ ys → x ≡ y
    head x y xs ys e = cc

    tail : (x y : A) (xs ys : List A) → x ∷ xs ≡ y ∷ ys → xs ≡ ys
    tail x y xs ys e = cc
places {A} (a ∷ ws) x bs (c ∷ cs) y ds e = by (places ws x bs cs y ds (tail a c (ws ++ x ∷ bs) (cs ++ y ∷ ds) e)) (head a c (ws ++ x ∷ bs) (cs ++ y ∷ ds) e)
  where
    head : (x y : A) (xs ys : List A) → x ∷ xs ≡ y ∷ ys → x ≡ y
    head x y xs ys e = cc

    tail : (x y : A) (xs ys : List A) → x ∷ xs ≡ y ∷ ys → xs ≡ ys
    tail x y xs ys e = cc

    by : Places ws x bs cs y ds → a ≡ c → Places (a ∷ ws) x bs (c ∷ cs) y ds
    by (one p q r) h = one (ap (λ (l : List A). a ∷ l) p ∙ ap (λ (z : A). z ∷ cs) h) q r
    by (first_later es p q) h = first_later es (ap (λ (l : List A). a ∷ l) p ∙ ap (λ (z : A). z ∷ (cs ++ y ∷ es)) h) q
    by (second_later es p q) h = second_later es (ap (λ (l : List A). c ∷ l) p ∙ ap (λ (z : A). z ∷ (ws ++ x ∷ es)) (sym h)) q

-- a list that is cut in two ways, where an item stands behind the first part of one
pub cut : {A : Type 0} (ws : List A) (x : A) (bs cs ds : List A) → ws ++ x ∷ bs ≡ cs ++ ds → ((es : List A) × ((cs ≡ ws ++ x ∷ es) × (bs ≡ es ++ ds))) ⊎ ((es : List A) × ((ws ≡ cs ++ es) × (ds ≡ es ++ x ∷ bs)))
cut {A} ws x bs [] ds e = inr (ws, (refl, sym e))
cut {A} [] x bs (c ∷ cs) ds e = inl (cs, (ap (λ (z : A). z ∷ cs) (sym (head x c bs (cs ++ ds) e)), tail x c bs (cs ++ ds) e))
  where
    head : (x y : A) (xs ys : List A) → x ∷ xs ≡ y ∷ ys → x ≡ y
    head x y xs ys e = cc

    tail : (x y : A) (xs ys : List A) → x ∷ xs ≡ y ∷ ys → xs ≡ ys
    tail x y xs ys e = cc
cut {A} (a ∷ ws) x bs (c ∷ cs) ds e = by (cut ws x bs cs ds (tail a c (ws ++ x ∷ bs) (cs ++ ds) e)) (head a c (ws ++ x ∷ bs) (cs ++ ds) e)
  where
    head : (x y : A) (xs ys : List A) → x ∷ xs ≡ y ∷ ys → x ≡ y
    head x y xs ys e = cc

    tail : (x y : A) (xs ys : List A) → x ∷ xs ≡ y ∷ ys → xs ≡ ys
    tail x y xs ys e = cc

    by : ((es : List A) × ((cs ≡ ws ++ x ∷ es) × (bs ≡ es ++ ds))) ⊎ ((es : List A) × ((ws ≡ cs ++ es) × (ds ≡ es ++ x ∷ bs))) → a ≡ c
        → ((es : List A) × ((c ∷ cs ≡ a ∷ ws ++ x ∷ es) × (bs ≡ es ++ ds))) ⊎ ((es : List A) × ((a ∷ ws ≡ c ∷ cs ++ es) × (ds ≡ es ++ x ∷ bs)))
    by (inl r) h = inl (r.0, (ap (λ (l : List A). c ∷ l) r.1.0 ∙ ap (λ (z : A). z ∷ (ws ++ x ∷ r.0)) (sym h), r.1.1))
    by (inr r) h = inr (r.0, (ap (λ (l : List A). a ∷ l) r.1.0 ∙ ap (λ (z : A). z ∷ (cs ++ r.0)) h, r.1.1))

-- what holds of all holds in the middle
pub all_mid : {A : Type 0} (P : A → Type 0) (xs : List A) (y : A) (zs : List A) → AllByRecursion P (xs ++ y ∷ zs) → P y
all_mid P [] y zs h = h.0
all_mid P (x ∷ xs) y zs h = all_mid P xs y zs h.1

-- what holds of both lists holds of the first
pub all_prefix : {A : Type 0} (P : A → Type 0) (xs ys : List A) → AllByRecursion P (xs ++ ys) → AllByRecursion P xs
all_prefix P [] ys h = tt
all_prefix P (x ∷ xs) ys h = (h.0, all_prefix P xs ys h.1)

-- what holds of both lists holds of the second
pub all_suffix : {A : Type 0} (P : A → Type 0) (xs ys : List A) → AllByRecursion P (xs ++ ys) → AllByRecursion P ys
all_suffix P [] ys h = h
all_suffix P (x ∷ xs) ys h = all_suffix P xs ys h.1

-- ---- numbers

-- a message's place in the order made
pub at_place : (past : Past) (ch : ℕ) (made : Numbered) (at : MadeAt past ch made) → messages_on past ch ≡ reverse at.older ++ made ∷ reverse at.newer
at_place past ch made at =
    ap reverse at.split ∙ reverse-append at.newer (made ∷ at.older) ∙ ap (λ (l : List Numbered). l ++ reverse at.newer) (reverse-append (made ∷ []) at.older)
    ∙ append_assoc (reverse at.older) (made ∷ []) (reverse at.newer)

-- a place among messages is one among those of the index
pub place_at : (past : Past) (ch : ℕ) (before : List Numbered) (made : Numbered) (after : List Numbered) → messages_on past ch ≡ before ++ made ∷ after → MadeAt past ch made
place_at past ch before made after e = record {
  newer = reverse after;
  older = reverse before;
  split = sym (reverse-reverse (on_index ch past)) ∙ ap reverse e ∙ reverse-append before (made ∷ after)
      ∙ ap (λ (l : List Numbered). l ++ reverse before) (reverse-append (made ∷ []) after) ∙ append_assoc (reverse after) (made ∷ []) (reverse before);
}

-- a message is numbered by the parts before it
pub number_is : (end : End) (past : Past) → IsRun end past → (ch : ℕ) (before : List Numbered) (made : Numbered) (after : List Numbered) → messages_on past ch ≡ before ++ made ∷ after → made.0 ≡ parts_in before + 1
unfolding place_at
number_is end past run ch before made after e =
    let at = place_at past ch before made after e in
    let n : made.0 ≡ parts_in (reverse before) + 1 = row_at (reverse after) made (reverse before) (subst InRow at.split (rows end past run ch).row) in
    omega (arith, n, parts_reverse before)

-- the bunches made are the parts of the messages
pub count_is : (end : End) (past : Past) → IsRun end past → (ch : ℕ) → parts_in (messages_on past ch) ≡ made_count past ch
count_is end past run ch = parts_reverse (on_index ch past) ∙ sym (rows end past run ch).count

-- a message that isn't among the first, and isn't the next, is behind that
pub behind_next : (end : End) (past : Past) → IsRun end past → (ch : ℕ) (done : List Numbered) (next : Numbered) (later : List Numbered) → messages_on past ch ≡ done ++ next ∷ later
    → (made : Numbered) → MadeAt past ch made → parts_in done < made.0 → (made ≡ next) ⊎ (parts_in done + parts_of next.1 < made.0)
behind_next end past run ch done next later e made at above =
    by (places (reverse at.older) made (reverse at.newer) done next later (sym (at_place past ch made at) ∙ e))
  where
    n : made.0 ≡ parts_in (reverse at.older) + 1
    n = number_is end past run ch (reverse at.older) made (reverse at.newer) (at_place past ch made at)

    by : Places (reverse at.older) made (reverse at.newer) done next later → (made ≡ next) ⊎ (parts_in done + parts_of next.1 < made.0)
    by (one p q r) = inl q
    by (first_later es p q) = inr (omega (arith, n, ap parts_in p, parts_append done (next ∷ es)))
    by (second_later es p q) = absurd (omega (arith, above, n, ap parts_in p, parts_append (reverse at.older) (made ∷ es), some_parts made.1))

-- ---- marks among the messages made

-- the mark is one of the actor's
pub record IsMarked (past : Past) (a : ℕ) (mark : Mark) : Type 0 where
  pub newer : List Mark
  pub older : List Mark
  pub split : marks_of past a ≡ newer ++ mark ∷ older

-- a mark that was made on an index is one of its actor's
pub marked : (ch : ℕ) (made : Numbered) (a : ℕ) → actor_of made.1 ≡ a → is_mark made.1 ≡ true → (past : Past) → MadeAt past ch made → IsMarked past a (record { channel = ch; number = made.0; message = made.1 })
marked ch made a same it past at = at_in past at.newer at.older at.split
  where
    mark : Mark
    mark = record { channel = ch; number = made.0; message = made.1 }

    more : (deed : Deed) (past : Past) → IsMarked past a (record { channel = ch; number = made.0; message = made.1 }) → IsMarked (deed ∷ past) a (record { channel = ch; number = made.0; message = made.1 })
    more deed past k = record { newer = cons_option (mark_in a deed) k.newer; older = k.older; split = by (mark_in a deed) }
      where
        by : (o : Option Mark) → cons_option o (marks_of past a) ≡ cons_option o k.newer ++ record { channel = ch; number = made.0; message = made.1 } ∷ k.older
        by None = k.split
        by (Some x) = ap (λ (l : List Mark). x ∷ l) k.split

    at_in : (past : Past) (newer older : List Numbered) → on_index ch past ≡ newer ++ made ∷ older → IsMarked past a (record { channel = ch; number = made.0; message = made.1 })
    at_in [] [] older e = absurd (let no : [] ≡ made ∷ older = e in cc)
    at_in [] (x ∷ newer) older e = absurd (let no : [] ≡ x ∷ (newer ++ made ∷ older) = e in cc)
    at_in (Ticked t s ∷ past) newer older e = more (Ticked t s) past (at_in past newer older e)
    at_in (Waits m ∷ past) newer older e = more (Waits m) past (at_in past newer older e)
    at_in (Sent n t items ∷ past) newer older e = more (Sent n t items) past (at_in past newer older e)
    at_in (Took n es ds ∷ past) newer older e = more (Took n es ds) past (at_in past newer older e)
    at_in (Ended g ∷ past) newer older e = more (Ended g) past (at_in past newer older e)
    at_in (Made c n m i ∷ past) newer older e = by (c == ch && i == 0) refl newer e (λ ns q. at_in past ns older q)
      where
        here : (x : Numbered) → x ≡ made → (c == ch && i == 0) ≡ true → x ≡ (n, m) → IsMarked (Made c n m i ∷ past) a (record { channel = ch; number = made.0; message = made.1 })
        here x p t q =
            let both = and_parts (c == ch) (i == 0) t in
            let on : c ≡ ch = eqb-true c ch both.0 in
            let is : made ≡ (n, m) = sym p ∙ q in
            let test : (actor_of m == a && is_mark m && i == 0) ≡ true =
            and_from (actor_of m == a && is_mark m) (i == 0) (and_from (actor_of m == a) (is_mark m) (eq-eqb (actor_of m) a (ap (λ (y : Numbered). actor_of y.1) (sym is) ∙ same)) (ap (λ (y : Numbered). is_mark y.1) (sym is) ∙ it)) both.1 in
            record {
              newer = [];
              older = marks_of past a;
              split = ap (λ (b : Bool). cons_option (then_some b (let k : Mark = record { channel = c; number = n; message = m } in k)) (marks_of past a)) test
                  ∙ ap (λ (k : Mark). k ∷ marks_of past a) (mark_same c ch n made.0 m made.1 on (ap (λ (y : Numbered). y.0) (sym is)) (ap (λ (y : Numbered). y.1) (sym is)));
            }
          where
            mark_same : (c d n k : ℕ) (m w : Message) → c ≡ d → n ≡ k → m ≡ w → ◌≡◌ {A = Mark} (record { channel = c; number = n; message = m }) (record { channel = d; number = k; message = w })
            mark_same c d n k m w p q r = rw (p, q, r) refl

        by : (b : Bool) → (c == ch && i == 0) ≡ b → (newer : List Numbered) → cons_option (then_some b (n, m)) (on_index ch past) ≡ newer ++ made ∷ older
            → ((ns : List Numbered) → on_index ch past ≡ ns ++ made ∷ older → IsMarked past a (record { channel = ch; number = made.0; message = made.1 })) → IsMarked (Made c n m i ∷ past) a (record { channel = ch; number = made.0; message = made.1 })
        by true t [] e ih = here made refl t (sym (head (n, m) made (on_index ch past) older e))
          where
            head : (x y : Numbered) (xs ys : List Numbered) → x ∷ xs ≡ y ∷ ys → x ≡ y
            head x y xs ys e = cc
        by true t (x ∷ newer) e ih = more (Made c n m i) past (ih newer (tail (n, m) x (on_index ch past) (newer ++ made ∷ older) e))
          where
            tail : (x y : Numbered) (xs ys : List Numbered) → x ∷ xs ≡ y ∷ ys → xs ≡ ys
            tail x y xs ys e = cc
        by false t newer e ih = more (Made c n m i) past (ih newer e)
