-- Which copy holds a channel.
use Rattle.std.proofs.Common.{◌≡◌, ◌≢◌, ℕ, ◌==◌, List, [], ◌∷◌, Bool, true, false, ◌||◌, cond, nat_lt, Option, Some, None, is_some, filter, find, refl, sym, ap, ◌∙◌}
use Rattle.std.specs.Bool.{then_some}
use Rattle.std.specs.List.{filter_map, cons_option}
use Rattle.std.proofs.lemmas.Bool.{eqb-true, eq-eqb, or_right}
use Rattle.protocol_model.specs.Search.{is_among, newest_of, items_since, insert_in_order, in_order, each_once, ascending_numbers}
use Rattle.protocol_model.specs.Value.{Class}
use Rattle.protocol_model.specs.Payload.{Message, Opens, Closes, Updates, Calls, Gone}
use Rattle.connection_model.specs.Feed.{Past, Delivered}
use Rattle.connection_model.specs.Copies.{delivered_of, removes, class_opened, has_copy, copy_channel, actor_opened, copied_actors, is_on, copy_on}

-- ---- lists of numbers

or_same : (x y z : Bool) → (x || (y || z)) ≡ (y || (x || z))
or_same true true z = refl
or_same true false z = refl
or_same false true z = refl
or_same false false z = refl

-- an insertion adds its item
among_insert : (a x : ℕ) (ys : List ℕ) → is_among a (insert_in_order nat_lt x ys) ≡ (x == a || is_among a ys)
among_insert a x [] = refl
among_insert a x (y ∷ ys) = by_order (nat_lt y x) (among_insert a x ys)
  where
    by_order : (b : Bool) → is_among a (insert_in_order nat_lt x ys) ≡ (x == a || is_among a ys) → is_among a (cond b (y ∷ insert_in_order nat_lt x ys) (x ∷ y ∷ ys)) ≡ (x == a || (y == a || is_among a ys))
    by_order true e = ap (λ (t : Bool). y == a || t) e ∙ or_same (y == a) (x == a) (is_among a ys)
    by_order false e = refl

-- an ordered list has the same items
among_order : (a : ℕ) (ns : List ℕ) → is_among a (in_order nat_lt ns) ≡ is_among a ns
among_order a [] = refl
among_order a (n ∷ ns) = among_insert a n (in_order nat_lt ns) ∙ ap (λ (t : Bool). n == a || t) (among_order a ns)

-- so has a list with each item once
among_once : (a : ℕ) (ns : List ℕ) → is_among a ns ≡ true → is_among a (each_once ns) ≡ true
among_once a [] h = h
among_once a (n ∷ ns) h = by_test (is_among n ns) refl (n == a) refl h (λ k. among_once a ns k)
  where
    by_test : (b : Bool) → is_among n ns ≡ b → (t : Bool) → (n == a) ≡ t → (t || is_among a ns) ≡ true → (is_among a ns ≡ true → is_among a (each_once ns) ≡ true) → is_among a (cond b (each_once ns) (n ∷ each_once ns)) ≡ true
    by_test true e true t h later = later (ap (λ (k : ℕ). is_among k ns) (sym (eqb-true n a t)) ∙ e)
    by_test true e false t h later = later h
    by_test false e true t h later = rw t refl
    by_test false e false t h later = or_right (n == a) (is_among a (each_once ns)) (later h)

-- an item that passes the test stays
among_filter : (p : ℕ → Bool) (a : ℕ) (ns : List ℕ) → is_among a ns ≡ true → p a ≡ true → is_among a (filter p ns) ≡ true
among_filter p a [] h t = h
among_filter p a (n ∷ ns) h t = by_test (p n) refl (n == a) refl h (λ k. among_filter p a ns k t)
  where
    by_test : (b : Bool) → p n ≡ b → (s : Bool) → (n == a) ≡ s → (s || is_among a ns) ≡ true → (is_among a ns ≡ true → is_among a (filter p ns) ≡ true) → is_among a (cond b (n ∷ filter p ns) (filter p ns)) ≡ true
    by_test true e true s h later = rw s refl
    by_test true e false s h later = or_right (n == a) (is_among a (filter p ns)) (later h)
    by_test false e true s h later = let no : true ≡ false = sym t ∙ ap p (sym (eqb-true n a s)) ∙ e in absurd (cc)
    by_test false e false s h later = later h

-- each that is left passes
filter_passes : (p : ℕ → Bool) (a : ℕ) (ns : List ℕ) → is_among a (filter p ns) ≡ true → p a ≡ true
filter_passes p a [] h = absurd (cc)
filter_passes p a (n ∷ ns) h = by_test (p n) refl h (λ k. filter_passes p a ns k)
  where
    by_here : (s : Bool) → (n == a) ≡ s → p n ≡ true → (s || is_among a (filter p ns)) ≡ true → (is_among a (filter p ns) ≡ true → p a ≡ true) → p a ≡ true
    by_here true s e h later = ap p (sym (eqb-true n a s)) ∙ e
    by_here false s e h later = later h

    by_test : (b : Bool) → p n ≡ b → is_among a (cond b (n ∷ filter p ns) (filter p ns)) ≡ true → (is_among a (filter p ns) ≡ true → p a ≡ true) → p a ≡ true
    by_test true e h later = by_here (n == a) refl e h later
    by_test false e h later = later h

-- the one that passes is found
find_one : (test : ℕ → Bool) (a : ℕ) (ns : List ℕ) → is_among a ns ≡ true → test a ≡ true → ((b : ℕ) → is_among b ns ≡ true → test b ≡ true → b ≡ a) → find test ns ≡ Some a
find_one test a [] h t one = absurd (cc)
find_one test a (n ∷ ns) h t one = by_test (test n) refl (n == a) refl h (λ k. find_one test a ns k t (λ b m u. one b (or_right (n == b) (is_among b ns) m) u))
  where
    here : is_among n (n ∷ ns) ≡ true
    here = rw (eq-eqb n n refl) refl

    by_test : (b : Bool) → test n ≡ b → (s : Bool) → (n == a) ≡ s → (s || is_among a ns) ≡ true → (is_among a ns ≡ true → find test ns ≡ Some a) → cond b (Some n) (find test ns) ≡ Some a
    by_test true e s q h later = ap (λ (k : ℕ). Some k) (one n here e)
    by_test false e true q h later = let no : true ≡ false = sym t ∙ ap test (sym (eqb-true n a q)) ∙ e in absurd (cc)
    by_test false e false q h later = later h

-- what is found stands there and passes
found_is : (test : ℕ → Bool) (a : ℕ) (ns : List ℕ) → find test ns ≡ Some a → (is_among a ns ≡ true) × (test a ≡ true)
found_is test a [] h = absurd (cc)
found_is test a (n ∷ ns) h = by_test (test n) refl h (λ k. found_is test a ns k)
  where
    same : (x y : ℕ) → Some x ≡ Some y → x ≡ y
    same x y e = cc

    by_test : (b : Bool) → test n ≡ b → cond b (Some n) (find test ns) ≡ Some a → (find test ns ≡ Some a → (is_among a ns ≡ true) × (test a ≡ true)) → (is_among a (n ∷ ns) ≡ true) × (test a ≡ true)
    by_test true e h later = let is = same n a h in (rw (eq-eqb n a is) refl, ap test (sym is) ∙ e)
    by_test false e h later = let l = later h in (or_right (n == a) (is_among a ns) l.0, l.1)

-- ---- copies

-- where an open is found the actor was opened
opened_by : (a : ℕ) (d : Delivered) (message : Message) → d.message ≡ message → is_some (class_opened a d) ≡ true → actor_opened d ≡ Some a
opened_by a d (Opens exports actor class values) m h = by_actor (actor == a) refl (rw m at h)
  where
    by_actor : (b : Bool) → (actor == a) ≡ b → is_some (then_some b class) ≡ true → actor_opened d ≡ Some a
    by_actor true e h = rw m (ap (λ (n : ℕ). Some n) (eqb-true actor a e))
    by_actor false e h = absurd (cc)
opened_by a d (Closes actor sleeps) m h = let no : false ≡ true = rw m at h in absurd (cc)
opened_by a d (Updates actor class values) m h = let no : false ≡ true = rw m at h in absurd (cc)
opened_by a d (Calls actor number call args) m h = let no : false ≡ true = rw m at h in absurd (cc)
opened_by a d (Gone actor) m h = let no : false ≡ true = rw m at h in absurd (cc)

-- an actor with a copy was opened
among_opened : (a : ℕ) (ds : List Delivered) → is_some (newest_of (class_opened a) (items_since (removes a) ds)) ≡ true → is_among a (filter_map actor_opened ds) ≡ true
among_opened a [] h = absurd (cc)
among_opened a (d ∷ ds) h = by_removed (removes a d) refl h (λ k. among_opened a ds k)
  where
    skipped : (o : Option ℕ) → is_among a (filter_map actor_opened ds) ≡ true → is_among a (cons_option o (filter_map actor_opened ds)) ≡ true
    skipped None h = h
    skipped (Some n) h = or_right (n == a) (is_among a (filter_map actor_opened ds)) h

    by_class : (o : Option Class) → class_opened a d ≡ o → is_some (newest_of (class_opened a) (d ∷ items_since (removes a) ds)) ≡ true → (is_some (newest_of (class_opened a) (items_since (removes a) ds)) ≡ true → is_among a (filter_map actor_opened ds) ≡ true)
        → is_among a (cons_option (actor_opened d) (filter_map actor_opened ds)) ≡ true
    by_class None e h later = skipped (actor_opened d) (later (rw e at h))
    by_class (Some c) e h later =
        let opened : actor_opened d ≡ Some a = opened_by a d d.message refl (ap (λ (o : Option Class). is_some o) e) in
        rw (opened, eq-eqb a a refl) refl

    by_removed : (b : Bool) → removes a d ≡ b → is_some (newest_of (class_opened a) (cond b [] (d ∷ items_since (removes a) ds))) ≡ true → (is_some (newest_of (class_opened a) (items_since (removes a) ds)) ≡ true → is_among a (filter_map actor_opened ds) ≡ true)
        → is_among a (cons_option (actor_opened d) (filter_map actor_opened ds)) ≡ true
    by_removed true e h later = absurd (cc)
    by_removed false e h later = by_class (class_opened a d) refl h later

-- an actor with a copy is among those copied
pub copied : (past : Past) (a : ℕ) → has_copy past a ≡ true → is_among a (copied_actors past) ≡ true
copied past a h =
    let opened : List ℕ = filter_map actor_opened (delivered_of past) in
    among_filter (has_copy past) a (ascending_numbers opened) (among_order a (each_once opened) ∙ among_once a opened (among_opened a (delivered_of past) h)) h

-- a copy with this channel is on it
on_is : (ch : ℕ) (o : Option ℕ) → o ≡ Some ch → is_on ch o ≡ true
on_is ch o e = rw e (eq-eqb ch ch refl)

-- and the other way round
on_of : (ch : ℕ) (o : Option ℕ) → is_on ch o ≡ true → o ≡ Some ch
on_of ch None h = absurd (cc)
on_of ch (Some n) h = ap (λ (k : ℕ). Some k) (eqb-true n ch h)

-- the only copy on a channel holds it
pub copy_holds : (past : Past) (ch a : ℕ) → has_copy past a ≡ true → copy_channel past a ≡ Some ch → ((b : ℕ) → has_copy past b ≡ true → copy_channel past b ≡ Some ch → b ≡ a) → copy_on past ch ≡ Some a
copy_holds past ch a h c one =
    find_one (λ a. is_on ch (copy_channel past a)) a (copied_actors past) (copied past a h) (on_is ch (copy_channel past a) c)
    (λ b m t. one b (filter_passes (has_copy past) b (ascending_numbers (filter_map actor_opened (delivered_of past))) m) (on_of ch (copy_channel past b) t))

-- and what holds it is a copy on it
pub holder_is : (past : Past) (ch a : ℕ) → copy_on past ch ≡ Some a → (has_copy past a ≡ true) × (copy_channel past a ≡ Some ch)
holder_is past ch a h =
    let f = found_is (λ a. is_on ch (copy_channel past a)) a (copied_actors past) h in
    (filter_passes (has_copy past) a (ascending_numbers (filter_map actor_opened (delivered_of past))) f.0, on_of ch (copy_channel past a) f.1)

-- no copy answers where none is on the channel
none_by : (past : Past) (ch : ℕ) (o : Option ℕ) → copy_on past ch ≡ o → ((a : ℕ) → has_copy past a ≡ true → copy_channel past a ≢ Some ch) → o ≡ None
none_by past ch None e none = refl
none_by past ch (Some a) e none = let is = holder_is past ch a e in absurd (none a is.0 is.1)

-- where no copy is on the channel none holds it
pub none_holds : (past : Past) (ch : ℕ) → ((a : ℕ) → has_copy past a ≡ true → copy_channel past a ≢ Some ch) → copy_on past ch ≡ None
none_holds past ch none = none_by past ch (copy_on past ch) refl none
