-- What one change of a stored copy makes of the indexes and of the list.
use Rattle.std.proofs.Common.{◌≡◌, ◌≢◌, ℕ, ◌==◌, List, [], Bool, true, false, cond, Option, Some, None, option_map, refl, sym, ap, ◌∙◌, subst}
use Rattle.std.specs.Prelude.{option_and_then}
use Rattle.std.specs.Ordering.{nat_cmp}
use Rattle.std.specs.BTreeMap.{BTreeMap, IsOrdered, is_at, get as key_at}
use Rattle.std.proofs.lemmas.Bool.{eqb-true}
use Rattle.std.proofs.lemmas.Option.{same_Some}
use Rattle.slab.specs.Slab.{Slab, Updates, get as stored_at}
use Rattle.connection_model.specs.Copies.{is_on}
use Rattle.actor_copies.specs.declared.copy.ActorCopy.{ActorCopy}
use Rattle.actor_copies.specs.Index.{actor_number, channel_number, key_on, listed, IsIndexed}
use Rattle.actor_copies.specs.Keyed.{Put}
use Rattle.value_codec.specs.declared.pair.Pair.{Pair}
use Rattle.actor_copies.specs.Kept.{copy_actor, kept_of, kept_on, IsNumbered, set_all, changed, Becomes}
use Rattle.actor_copies.proofs.Indexes.{moved, same_keys, on_is, apart}
use Rattle.actor_copies.proofs.Listed.{puts, found_of, found_on, same_cmp}
use Rattle.actor_copies.proofs.ValueSteps.{set_numbered}

-- the copy x of a key became y, both of the actor, in the slab and in both indexes
pub record Replaces (old new : Slab ActorCopy) (before after : BTreeMap ℕ ℕ) (channels later : List (Option ℕ))
    (actor key : ℕ) (x y : Option ActorCopy) : Type 0 where
  pub was : stored_at old key ≡ x
  pub now : stored_at new key ≡ y
  pub others : (k : ℕ) → k ≢ key → stored_at new k ≡ stored_at old k
  pub ordered : IsOrdered nat_cmp after
  pub keys : (q : ℕ) → key_at nat_cmp after q
      ≡ cond (actor == q) (option_map (λ (c : ActorCopy). key) y) (key_at nat_cmp before q)
  pub places : (n : ℕ) → key_on later n ≡ cond (is_on n (option_and_then channel_number y)) (Some key)
      (cond (is_on n (option_and_then channel_number x)) None (key_on channels n))
  pub named_x : (c : ActorCopy) → x ≡ Some c → c.actor ≡ actor
  pub named_y : (c : ActorCopy) → y ≡ Some c → c.actor ≡ actor
  pub fresh : x ≡ None → key_at nat_cmp before actor ≡ None
  pub free : (ch k : ℕ) → option_and_then channel_number y ≡ Some ch → key_on channels ch ≡ Some k → k ≡ key
  pub numbered : (c : ActorCopy) → y ≡ Some c → IsNumbered 1 c.values

-- the actor of a copy, where it is known
number_of : (actor : ℕ) (o : Option ActorCopy) → ((c : ActorCopy) → o ≡ Some c → c.actor ≡ actor)
    → option_and_then actor_number o ≡ option_map (λ (c : ActorCopy). actor) o
number_of actor None named = refl
number_of actor (Some c) named = ap (λ (n : ℕ). Some n) (named c refl)

two_tests : (actor key n : ℕ) (x y : Option ActorCopy) (before : Option ℕ) (t : Bool) → (actor == n) ≡ t
    → (t ≡ true → x ≡ None → before ≡ None)
    → cond t (option_map (λ (c : ActorCopy). key) y) before
    ≡ cond (is_on n (option_map (λ (c : ActorCopy). actor) y)) (Some key)
    (cond (is_on n (option_map (λ (c : ActorCopy). actor) x)) None before)
two_tests actor key n None None before true e new = sym (new refl refl)
two_tests actor key n None None before false e new = refl
two_tests actor key n (Some d) None before true e new = rw e refl
two_tests actor key n (Some d) None before false e new = rw e refl
two_tests actor key n None (Some c) before true e new = rw e refl
two_tests actor key n None (Some c) before false e new = rw e refl
two_tests actor key n (Some d) (Some c) before true e new = rw e refl
two_tests actor key n (Some d) (Some c) before false e new = rw e refl

pub replaced : (old new : Slab ActorCopy) (before after : BTreeMap ℕ ℕ) (channels later : List (Option ℕ))
    (actor key : ℕ) (x y : Option ActorCopy) → IsIndexed old before channels
    → Replaces old new before after channels later actor key x y → IsIndexed new after later
replaced old new before after channels later actor key x y i r = record {
  ordered = r.ordered;
  actors = moved actor_number (stored_at old) (stored_at new) (key_at nat_cmp before) (key_at nat_cmp after) key
      i.actors (record {
        others = r.others;
        at = λ n. r.keys n
            ∙ two_tests actor key n x y (key_at nat_cmp before n) (actor == n) refl
            (λ t none. ap (key_at nat_cmp before) (sym (eqb-true actor n (same n t))) ∙ r.fresh none)
            ∙ numbers n;
        free = λ n k now at. key_is n k x refl now at;
      });
  channels = moved channel_number (stored_at old) (stored_at new) (key_on channels) (key_on later) key i.channels
      (record {
        others = r.others;
        at = λ n. r.places n ∙ tests n;
        free = λ n k now at. r.free n k (sym (ap (option_and_then channel_number) r.now) ∙ now) at;
      });
  numbered = λ k c e. numbered k c (k == key) refl e;
}
  where
    same : (n : ℕ) → (actor == n) ≡ true → (actor == n) ≡ true
    same n t = t

    tests : (n : ℕ) → cond (is_on n (option_and_then channel_number y)) (Some key)
        (cond (is_on n (option_and_then channel_number x)) None (key_on channels n))
        ≡ cond (is_on n (option_and_then channel_number (stored_at new key))) (Some key)
        (cond (is_on n (option_and_then channel_number (stored_at old key))) None (key_on channels n))
    tests n = rw (r.now, r.was) refl

    numbers : (n : ℕ) → cond (is_on n (option_map (λ (c : ActorCopy). actor) y)) (Some key)
        (cond (is_on n (option_map (λ (c : ActorCopy). actor) x)) None (key_at nat_cmp before n))
        ≡ cond (is_on n (option_and_then actor_number (stored_at new key))) (Some key)
        (cond (is_on n (option_and_then actor_number (stored_at old key))) None (key_at nat_cmp before n))
    numbers n =
        rw (r.now, r.was, number_of actor y r.named_y, number_of actor x r.named_x) refl

    actor_now : (n : ℕ) → option_and_then actor_number (stored_at new key) ≡ Some n → actor ≡ n
    actor_now n now = by y r.named_y (sym (ap (option_and_then actor_number) r.now) ∙ now)
      where
        by : (o : Option ActorCopy) → ((c : ActorCopy) → o ≡ Some c → c.actor ≡ actor)
            → option_and_then actor_number o ≡ Some n → actor ≡ n
        by None named e = absurd (cc)
        by (Some c) named e = sym (named c refl) ∙ same_Some c.actor n e

    key_is : (n k : ℕ) (o : Option ActorCopy) → x ≡ o
        → option_and_then actor_number (stored_at new key) ≡ Some n → key_at nat_cmp before n ≡ Some k → k ≡ key
    key_is n k None e now at =
        let no : None ≡ Some k = sym (r.fresh e) ∙ ap (key_at nat_cmp before) (actor_now n now) ∙ at in absurd (cc)
    key_is n k (Some d) e now at =
        let was = i.actors.found d.actor key (ap (option_and_then actor_number) (r.was ∙ e)) in
        same_Some k key (sym at ∙ ap (key_at nat_cmp before) (sym (actor_now n now))
        ∙ ap (key_at nat_cmp before) (sym (r.named_x d e)) ∙ was)

    numbered : (k : ℕ) (c : ActorCopy) (t : Bool) → (k == key) ≡ t → stored_at new k ≡ Some c
        → IsNumbered 1 c.values
    numbered k c true t e = r.numbered c (sym r.now ∙ ap (stored_at new) (sym (eqb-true k key t)) ∙ e)
    numbered k c false t e = i.numbered k c (sym (r.others k (apart k key t)) ∙ e)

pub put_there : (old new : Slab ActorCopy) (before after : BTreeMap ℕ ℕ) (channels later : List (Option ℕ))
    (actor key : ℕ) (x y : Option ActorCopy) → IsIndexed old before channels
    → Replaces old new before after channels later actor key x y
    → Put copy_actor actor y (listed (stored_at old) before.entries) (listed (stored_at new) after.entries)
put_there old new before after channels later actor key x y i r =
    puts old new before after channels later actor key y i
    (replaced old new before after channels later actor key x y i r) (record {
      at = r.now;
      others = r.others;
      was = λ n e. was n x r.named_x (sym (ap (option_and_then actor_number) r.was) ∙ e);
      keys = r.keys;
    })
  where
    was : (n : ℕ) (o : Option ActorCopy) → ((c : ActorCopy) → o ≡ Some c → c.actor ≡ actor)
        → option_and_then actor_number o ≡ Some n → n ≡ actor
    was n None named e = absurd (cc)
    was n (Some c) named e = sym (same_Some c.actor n e) ∙ named c refl

-- ---- indexes that stay as they are

pub keys_stay : (copies : Slab ActorCopy) (by_actor : BTreeMap ℕ ℕ) (channels : List (Option ℕ)) (key q : ℕ)
    (x : ActorCopy) → IsIndexed copies by_actor channels → stored_at copies key ≡ Some x
    → key_at nat_cmp by_actor q ≡ cond (x.actor == q) (Some key) (key_at nat_cmp by_actor q)
keys_stay copies by_actor channels key q x i e = by (x.actor == q) refl
  where
    by : (t : Bool) → (x.actor == q) ≡ t
        → key_at nat_cmp by_actor q ≡ cond t (Some key) (key_at nat_cmp by_actor q)
    by true t =
        ap (key_at nat_cmp by_actor) (sym (eqb-true x.actor q t))
        ∙ i.actors.found x.actor key (ap (option_and_then actor_number) e)
    by false t = refl

pub places_stay : (copies : Slab ActorCopy) (by_actor : BTreeMap ℕ ℕ) (channels : List (Option ℕ)) (key n : ℕ)
    (x : ActorCopy) → IsIndexed copies by_actor channels → stored_at copies key ≡ Some x
    → key_on channels n ≡ cond (is_on n x.channel) (Some key) (cond (is_on n x.channel) None (key_on channels n))
places_stay copies by_actor channels key n x i e = by (is_on n x.channel) refl
  where
    by : (t : Bool) → is_on n x.channel ≡ t
        → key_on channels n ≡ cond t (Some key) (cond t None (key_on channels n))
    by true t =
        i.channels.found n key (ap (option_and_then channel_number) e ∙ on_is n x.channel t)
    by false t = refl

-- ---- each change

-- what comes of a copy of this kind, if it was there
abbrev pub Done : (old new : Slab ActorCopy) (before after : BTreeMap ℕ ℕ) (later : List (Option ℕ))
    → (List ActorCopy → Option ActorCopy) → (ActorCopy → Option ActorCopy) → Type 0
Done old new before after later kept item =
    IsIndexed new after later
    × Becomes (listed (stored_at old) before.entries) (listed (stored_at new) after.entries)
    (kept (listed (stored_at old) before.entries)) item

one_there : (number : ActorCopy → Option ℕ) (o : Option ActorCopy) (n : ℕ) → option_and_then number o ≡ Some n
    → (x : ActorCopy) × (o ≡ Some x) × (number x ≡ Some n)
one_there number None n e = absurd (cc)
one_there number (Some x) n e = (x, refl, e)

on_channel : (copies : Slab ActorCopy) (by_actor : BTreeMap ℕ ℕ) (channels : List (Option ℕ)) (ch key : ℕ)
    (x : ActorCopy) → IsIndexed copies by_actor channels → key_on channels ch ≡ Some key
    → stored_at copies key ≡ Some x → kept_on (listed (stored_at copies) by_actor.entries) ch ≡ Some x
on_channel copies by_actor channels ch key x i e s =
    found_on copies by_actor channels ch i ∙ ap (option_and_then (stored_at copies)) e ∙ s

of_actor : (copies : Slab ActorCopy) (by_actor : BTreeMap ℕ ℕ) (channels : List (Option ℕ)) (a key : ℕ)
    (x : ActorCopy) → IsIndexed copies by_actor channels → key_at nat_cmp by_actor a ≡ Some key
    → stored_at copies key ≡ Some x → kept_of (listed (stored_at copies) by_actor.entries) a ≡ Some x
of_actor copies by_actor channels a key x i e s =
    found_of copies by_actor channels a i ∙ ap (option_and_then (stored_at copies)) e ∙ s

-- from a replacement of a copy that is there
done : (old new : Slab ActorCopy) (before after : BTreeMap ℕ ℕ) (channels later : List (Option ℕ)) (key : ℕ)
    (x : ActorCopy) (kept : List ActorCopy → Option ActorCopy) (item : ActorCopy → Option ActorCopy)
    → IsIndexed old before channels → kept (listed (stored_at old) before.entries) ≡ Some x
    → Replaces old new before after channels later x.actor key (Some x) (item x)
    → Done old new before after later kept item
done old new before after channels later key x kept item i e r = (
  replaced old new before after channels later x.actor key (Some x) (item x) i r,
  subst (λ (o : Option ActorCopy). Becomes (listed (stored_at old) before.entries)
      (listed (stored_at new) after.entries) o item) (sym e)
      (put_there old new before after channels later x.actor key (Some x) (item x) i r),
)

named_same : (x y : ActorCopy) (a : ℕ) → y.actor ≡ a → Some y ≡ Some x → x.actor ≡ a
named_same x y a e same = ap copy_actor (sym (same_Some y x same)) ∙ e

still_numbered : (copies : Slab ActorCopy) (by_actor : BTreeMap ℕ ℕ) (channels : List (Option ℕ)) (key : ℕ)
    (x : ActorCopy) (on : Option ℕ) (pairs : List Pair) (c : ActorCopy) → IsIndexed copies by_actor channels
    → stored_at copies key ≡ Some x → Some (changed x on pairs) ≡ Some c → IsNumbered 1 c.values
still_numbered copies by_actor channels key x on pairs c i s e =
    subst (λ (c : ActorCopy). IsNumbered 1 c.values) (same_Some (changed x on pairs) c e)
    (set_numbered 1 x.values (set_all pairs) (λ q. refl) (i.numbered key x s))

-- the copy that holds a channel is given values
pub set_done : (old new : Slab ActorCopy) (tree : BTreeMap ℕ ℕ) (channels : List (Option ℕ)) (ch key : ℕ)
    (pairs : List Pair) → IsIndexed old tree channels → key_on channels ch ≡ Some key
    → stored_at new key ≡ option_map (λ (c : ActorCopy). changed c (Some ch) pairs) (stored_at old key)
    → ((k : ℕ) → k ≢ key → stored_at new k ≡ stored_at old k)
    → Done old new tree tree channels (λ copies. kept_on copies ch) (λ x. Some (changed x (Some ch) pairs))
set_done old new tree channels ch key pairs i e at others =
    by (one_there channel_number (stored_at old key) ch (i.channels.there ch key e))
  where
    by : (x : ActorCopy) × (stored_at old key ≡ Some x) × (x.channel ≡ Some ch)
        → Done old new tree tree channels (λ copies. kept_on copies ch) (λ x. Some (changed x (Some ch) pairs))
    by t = done old new tree tree channels channels key t.0 (λ copies. kept_on copies ch)
        (λ x. Some (changed x (Some ch) pairs)) i (on_channel old tree channels ch key t.0 i e t.1) (record {
          was = t.1;
          now = at ∙ ap (option_map (λ (c : ActorCopy). changed c (Some ch) pairs)) t.1;
          others = others;
          ordered = i.ordered;
          keys = λ q. keys_stay old tree channels key q t.0 i t.1;
          places = λ n. subst (λ (o : Option ℕ). key_on channels n
              ≡ cond (is_on n o) (Some key) (cond (is_on n t.0.channel) None (key_on channels n))) t.2
              (places_stay old tree channels key n t.0 i t.1);
          named_x = λ c s. named_same c t.0 t.0.actor refl s;
          named_y = λ c s. named_same c (changed t.0 (Some ch) pairs) t.0.actor refl s;
          fresh = λ none. absurd (cc);
          free = λ c k now there. same_Some k key
              (sym there ∙ ap (key_on channels) (sym (same_Some ch c now)) ∙ e);
          numbered = λ c s. still_numbered old tree channels key t.0 (Some ch) pairs c i t.1 s;
        })

-- it is left without a channel
pub sleep_done : (old new : Slab ActorCopy) (tree : BTreeMap ℕ ℕ) (channels later : List (Option ℕ)) (ch key : ℕ)
    → IsIndexed old tree channels → key_on channels ch ≡ Some key
    → stored_at new key ≡ option_map (λ (c : ActorCopy). changed c None []) (stored_at old key)
    → ((k : ℕ) → k ≢ key → stored_at new k ≡ stored_at old k)
    → ((n : ℕ) → key_on later n ≡ cond (is_on n (Some ch)) None (key_on channels n))
    → Done old new tree tree later (λ copies. kept_on copies ch) (λ x. Some (changed x None []))
sleep_done old new tree channels later ch key i e at others places =
    by (one_there channel_number (stored_at old key) ch (i.channels.there ch key e))
  where
    by : (x : ActorCopy) × (stored_at old key ≡ Some x) × (x.channel ≡ Some ch)
        → Done old new tree tree later (λ copies. kept_on copies ch) (λ x. Some (changed x None []))
    by t = done old new tree tree channels later key t.0 (λ copies. kept_on copies ch)
        (λ x. Some (changed x None [])) i (on_channel old tree channels ch key t.0 i e t.1) (record {
          was = t.1;
          now = at ∙ ap (option_map (λ (c : ActorCopy). changed c None [])) t.1;
          others = others;
          ordered = i.ordered;
          keys = λ q. keys_stay old tree channels key q t.0 i t.1;
          places = λ n. subst (λ (o : Option ℕ). key_on later n ≡ cond (is_on n o) None (key_on channels n))
              (sym t.2) (places n);
          named_x = λ c s. named_same c t.0 t.0.actor refl s;
          named_y = λ c s. named_same c (changed t.0 None []) t.0.actor refl s;
          fresh = λ none. absurd (cc);
          free = λ c k now there. absurd (cc);
          numbered = λ c s. still_numbered old tree channels key t.0 None [] c i t.1 s;
        })

-- it is given a channel that no copy holds
pub wake_done : (old new : Slab ActorCopy) (tree : BTreeMap ℕ ℕ) (channels later : List (Option ℕ))
    (a ch key : ℕ) (pairs : List Pair) → IsIndexed old tree channels → key_at nat_cmp tree a ≡ Some key
    → kept_on (listed (stored_at old) tree.entries) ch ≡ None
    → stored_at new key ≡ option_map (λ (c : ActorCopy). changed c (Some ch) pairs) (stored_at old key)
    → ((k : ℕ) → k ≢ key → stored_at new k ≡ stored_at old k)
    → ((n : ℕ) → key_on later n ≡ cond (ch == n) (Some key)
    (cond (is_on n (option_and_then channel_number (stored_at old key))) None (key_on channels n)))
    → Done old new tree tree later (λ copies. kept_of copies a) (λ x. Some (changed x (Some ch) pairs))
wake_done old new tree channels later a ch key pairs i e empty at others places =
    by (one_there actor_number (stored_at old key) a (i.actors.there a key e))
  where
    free : (c k : ℕ) → ◌≡◌ {A = Option ℕ} (Some ch) (Some c) → key_on channels c ≡ Some k → k ≡ key
    free c k now there =
        let x = one_there channel_number (stored_at old k) c (i.channels.there c k there) in
        let no : None ≡ Some x.0 = sym empty ∙ ap (kept_on (listed (stored_at old) tree.entries))
        (same_Some ch c now) ∙ on_channel old tree channels c k x.0 i there x.1 in
        absurd (cc)

    by : (x : ActorCopy) × (stored_at old key ≡ Some x) × ◌≡◌ {A = Option ℕ} (Some x.actor) (Some a)
        → Done old new tree tree later (λ copies. kept_of copies a) (λ x. Some (changed x (Some ch) pairs))
    by t = done old new tree tree channels later key t.0 (λ copies. kept_of copies a)
        (λ x. Some (changed x (Some ch) pairs)) i (of_actor old tree channels a key t.0 i e t.1) (record {
          was = t.1;
          now = at ∙ ap (option_map (λ (c : ActorCopy). changed c (Some ch) pairs)) t.1;
          others = others;
          ordered = i.ordered;
          keys = λ q. keys_stay old tree channels key q t.0 i t.1;
          places = λ n. places n ∙ ap (λ (o : Option ActorCopy). cond (ch == n) (Some key)
              (cond (is_on n (option_and_then channel_number o)) None (key_on channels n))) t.1;
          named_x = λ c s. named_same c t.0 t.0.actor refl s;
          named_y = λ c s. named_same c (changed t.0 (Some ch) pairs) t.0.actor refl s;
          fresh = λ none. absurd (cc);
          free = free;
          numbered = λ c s. still_numbered old tree channels key t.0 (Some ch) pairs c i t.1 s;
        })

-- a copy is taken out
pub out_done : (old new : Slab ActorCopy) (before after : BTreeMap ℕ ℕ) (channels later : List (Option ℕ))
    (key : ℕ) (x : ActorCopy) (kept : List ActorCopy → Option ActorCopy) → IsIndexed old before channels
    → kept (listed (stored_at old) before.entries) ≡ Some x → stored_at old key ≡ Some x
    → stored_at new key ≡ None → ((k : ℕ) → k ≢ key → stored_at new k ≡ stored_at old k)
    → IsOrdered nat_cmp after
    → ((q : ℕ) → key_at nat_cmp after q ≡ cond (x.actor == q) None (key_at nat_cmp before q))
    → ((n : ℕ) → key_on later n ≡ cond (is_on n x.channel) None (key_on channels n))
    → Done old new before after later kept (λ x. None)
out_done old new before after channels later key x kept i e s at others ordered keys places =
    done old new before after channels later key x kept (λ x. None) i e (record {
      was = s;
      now = at;
      others = others;
      ordered = ordered;
      keys = keys;
      places = places;
      named_x = λ c s. named_same c x x.actor refl s;
      named_y = λ c s. absurd (cc);
      fresh = λ none. absurd (cc);
      free = λ c k now there. absurd (cc);
      numbered = λ c s. absurd (cc);
    })

pub out_on : (old new : Slab ActorCopy) (before after : BTreeMap ℕ ℕ) (channels later : List (Option ℕ))
    (ch key : ℕ) → IsIndexed old before channels → key_on channels ch ≡ Some key
    → stored_at new key ≡ None → ((k : ℕ) → k ≢ key → stored_at new k ≡ stored_at old k)
    → IsOrdered nat_cmp after
    → ((x : ActorCopy) → stored_at old key ≡ Some x → (q : ℕ)
    → key_at nat_cmp after q ≡ cond (x.actor == q) None (key_at nat_cmp before q))
    → ((x : ActorCopy) → stored_at old key ≡ Some x → (n : ℕ)
    → key_on later n ≡ cond (is_on n x.channel) None (key_on channels n))
    → Done old new before after later (λ copies. kept_on copies ch) (λ x. None)
out_on old new before after channels later ch key i e at others ordered keys places =
    by (one_there channel_number (stored_at old key) ch (i.channels.there ch key e))
  where
    by : (x : ActorCopy) × (stored_at old key ≡ Some x) × (x.channel ≡ Some ch)
        → Done old new before after later (λ copies. kept_on copies ch) (λ x. None)
    by t = out_done old new before after channels later key t.0 (λ copies. kept_on copies ch) i
        (on_channel old before channels ch key t.0 i e t.1) t.1 at others ordered (keys t.0 t.1)
        (places t.0 t.1)

pub out_of : (old new : Slab ActorCopy) (before after : BTreeMap ℕ ℕ) (channels later : List (Option ℕ))
    (a key : ℕ) → IsIndexed old before channels → key_at nat_cmp before a ≡ Some key
    → stored_at new key ≡ None → ((k : ℕ) → k ≢ key → stored_at new k ≡ stored_at old k)
    → IsOrdered nat_cmp after
    → ((x : ActorCopy) → stored_at old key ≡ Some x → (q : ℕ)
    → key_at nat_cmp after q ≡ cond (x.actor == q) None (key_at nat_cmp before q))
    → ((x : ActorCopy) → stored_at old key ≡ Some x → (n : ℕ)
    → key_on later n ≡ cond (is_on n x.channel) None (key_on channels n))
    → Done old new before after later (λ copies. kept_of copies a) (λ x. None)
out_of old new before after channels later a key i e at others ordered keys places =
    by (one_there actor_number (stored_at old key) a (i.actors.there a key e))
  where
    by : (x : ActorCopy) × (stored_at old key ≡ Some x) × ◌≡◌ {A = Option ℕ} (Some x.actor) (Some a)
        → Done old new before after later (λ copies. kept_of copies a) (λ x. None)
    by t = out_done old new before after channels later key t.0 (λ copies. kept_of copies a) i
        (of_actor old before channels a key t.0 i e t.1) t.1 at others ordered (keys t.0 t.1)
        (places t.0 t.1)

-- a new copy is put on a channel that no copy holds
pub put_done : (old new : Slab ActorCopy) (before after : BTreeMap ℕ ℕ) (channels later : List (Option ℕ))
    (ch key : ℕ) (c : ActorCopy) → IsIndexed old before channels
    → kept_of (listed (stored_at old) before.entries) c.actor ≡ None
    → kept_on (listed (stored_at old) before.entries) ch ≡ None → c.channel ≡ Some ch
    → IsNumbered 1 c.values → stored_at old key ≡ None → stored_at new key ≡ Some c
    → ((k : ℕ) → k ≢ key → stored_at new k ≡ stored_at old k) → IsOrdered nat_cmp after
    → ((q : ℕ) → key_at nat_cmp after q ≡ cond (c.actor == q) (Some key) (key_at nat_cmp before q))
    → ((n : ℕ) → key_on later n ≡ cond (ch == n) (Some key) (key_on channels n))
    → IsIndexed new after later
    × Put copy_actor c.actor (Some c) (listed (stored_at old) before.entries) (listed (stored_at new) after.entries)
put_done old new before after channels later ch key c i none empty on numbered was now others ordered keys places = (
  replaced old new before after channels later c.actor key None (Some c) i r,
  put_there old new before after channels later c.actor key None (Some c) i r,
)
  where
    no_key : (o : Option ℕ) → key_at nat_cmp before c.actor ≡ o → o ≡ None
    no_key None e = refl
    no_key (Some k) e =
        let x = one_there actor_number (stored_at old k) c.actor (i.actors.there c.actor k e) in
        let no : None ≡ Some x.0 = sym none ∙ of_actor old before channels c.actor k x.0 i e x.1 in
        absurd (cc)

    free : (n k : ℕ) → c.channel ≡ Some n → key_on channels n ≡ Some k → k ≡ key
    free n k e there =
        let x = one_there channel_number (stored_at old k) n (i.channels.there n k there) in
        let no : None ≡ Some x.0 = sym empty ∙ ap (kept_on (listed (stored_at old) before.entries))
        (same_Some ch n (sym on ∙ e)) ∙ on_channel old before channels n k x.0 i there x.1 in
        absurd (cc)

    r : Replaces old new before after channels later c.actor key None (Some c)
    r = record {
      was = was;
      now = now;
      others = others;
      ordered = ordered;
      keys = keys;
      places = λ n. places n ∙ ap (λ (o : Option ℕ). cond (is_on n o) (Some key) (key_on channels n)) (sym on);
      named_x = λ x s. absurd (cc);
      named_y = λ x s. named_same x c c.actor refl s;
      fresh = λ e. no_key (key_at nat_cmp before c.actor) refl;
      free = free;
      numbered = λ x s. subst (λ (x : ActorCopy). IsNumbered 1 x.values) (same_Some c x s) numbered;
    }

-- ---- as a list shows it

-- where there was no such copy nothing changed
pub no_change : (kept : List ActorCopy → Option ActorCopy) (item : ActorCopy → Option ActorCopy)
    (inside now : List ActorCopy) → inside ≡ now → kept inside ≡ None → Becomes now now (kept now) item
no_change kept item inside now seen none =
    subst (λ (o : Option ActorCopy). Becomes now now o item) (sym (ap kept (sym seen) ∙ none)) refl

pub as_seen : (kept : List ActorCopy → Option ActorCopy) (item : ActorCopy → Option ActorCopy)
    (inside now new : List ActorCopy) → inside ≡ now → Becomes inside new (kept inside) item
    → Becomes now new (kept now) item
as_seen kept item inside now new seen b =
    subst (λ (copies : List ActorCopy). Becomes copies new (kept copies) item) seen b

-- no copy is found where there is no key
pub none_on : (copies : Slab ActorCopy) (by_actor : BTreeMap ℕ ℕ) (channels : List (Option ℕ)) (ch : ℕ)
    → IsIndexed copies by_actor channels → key_on channels ch ≡ None
    → kept_on (listed (stored_at copies) by_actor.entries) ch ≡ None
none_on copies by_actor channels ch i e =
    found_on copies by_actor channels ch i ∙ ap (option_and_then (stored_at copies)) e

pub none_of : (copies : Slab ActorCopy) (by_actor : BTreeMap ℕ ℕ) (channels : List (Option ℕ)) (a : ℕ)
    → IsIndexed copies by_actor channels → key_at nat_cmp by_actor a ≡ None
    → kept_of (listed (stored_at copies) by_actor.entries) a ≡ None
none_of copies by_actor channels a i e =
    found_of copies by_actor channels a i ∙ ap (option_and_then (stored_at copies)) e

-- more places without keys change no index
pub placed_more : (copies : Slab ActorCopy) (by_actor : BTreeMap ℕ ℕ) (channels more : List (Option ℕ))
    → IsIndexed copies by_actor channels → ((n : ℕ) → key_on more n ≡ key_on channels n)
    → IsIndexed copies by_actor more
placed_more copies by_actor channels more i same = record {
  ordered = i.ordered;
  actors = i.actors;
  channels = same_keys channel_number (stored_at copies) (key_on channels) (key_on more) i.channels same;
  numbered = i.numbered;
}

-- as the code does it: room is made first, and the copy goes under the slab's next key
pub put_with_room : (old room new : Slab ActorCopy) (before after : BTreeMap ℕ ℕ)
    (channels more later : List (Option ℕ)) (ch inside key next : ℕ) (capacity : ℕ) (c : ActorCopy)
    (now : List ActorCopy) → IsIndexed old before channels
    → listed (stored_at old) before.entries ≡ now → kept_of now c.actor ≡ None → kept_on now ch ≡ None
    → c.channel ≡ Some ch → IsNumbered 1 c.values → inside ≡ c.actor
    → ((n : ℕ) → key_on more n ≡ key_on channels n) → room ≡ record old { capacity = capacity }
    → stored_at room key ≡ None → next ≡ key → Updates room new next (Some c) → IsOrdered nat_cmp after
    → ((q : ℕ) → key_at nat_cmp after q ≡ cond (is_at (nat_cmp inside) q) (Some key) (key_at nat_cmp before q))
    → ((n : ℕ) → key_on later n ≡ cond (ch == n) (Some key) (key_on more n))
    → IsIndexed new after later × Put copy_actor c.actor (Some c) now (listed (stored_at new) after.entries)
put_with_room old room new before after channels more later ch inside key next capacity c now
    i seen none empty on numbered is same kept vacant at updates ordered keys places = (
      all.0,
      subst (λ (copies : List ActorCopy). Put copy_actor c.actor (Some c) copies (listed (stored_at new) after.entries))
          seen all.1,
    )
  where
    slot : (k : ℕ) → stored_at room k ≡ stored_at old k
    slot k = ap (λ (s : Slab ActorCopy). stored_at s k) kept

    stored : Updates room new key (Some c)
    stored = subst (λ (k : ℕ). Updates room new k (Some c)) at updates

    all : IsIndexed new after later
        × Put copy_actor c.actor (Some c) (listed (stored_at old) before.entries)
        (listed (stored_at new) after.entries)
    all = put_done old new before after channels later ch key c i
        (ap (λ (copies : List ActorCopy). kept_of copies c.actor) seen ∙ none)
        (ap (λ (copies : List ActorCopy). kept_on copies ch) seen ∙ empty) on numbered
        (sym (slot key) ∙ vacant) stored.changed (λ k apart. stored.others k apart ∙ slot k) ordered
        (λ q. keys q ∙ ap (λ (b : Bool). cond b (Some key) (key_at nat_cmp before q))
        (same_cmp inside q ∙ ap (λ (n : ℕ). n == q) is))
        (λ n. places n ∙ ap (λ (o : Option ℕ). cond (ch == n) (Some key) o) (same n))
