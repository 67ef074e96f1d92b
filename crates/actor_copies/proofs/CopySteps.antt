-- What one more payload does to an actor's copy.
use Rattle.std.proofs.Common.{◌≡◌, ℕ, ℤ, pos, ◌==◌, List, [], ◌∷◌, map, true, false, Option, Some, None, unwrap_or, option_map, refl, sym, ap, ◌∙◌}
use Rattle.protocol_model.specs.Search.{newest_of, items_since}
use Rattle.protocol_model.specs.Value.{Pair, Class, Prop, Segment, handles_of, value_among, initial_value}
use Rattle.protocol_model.specs.Payload.{Opens, Closes, Updates, Gone, actor_of}
use Rattle.connection_model.specs.Feed.{Past, Delivered}
use Rattle.connection_model.specs.Copies.{copy_class, copy_channel, copy_value, since_removed, value_applied, removes}
use Rattle.connection_laws.proofs.Searches.{newest_miss}
use Rattle.payload_laws.specs.Applied.{Applied, Stays}
use Rattle.payload_laws.proofs.CopiesAfter.{open_class, open_channel, open_value, open_kept, update_class, update_channel, update_value, update_kept, close_class, gone_class, sleep_class, sleep_channel, sleep_value, others_stay, opens_keeps, opens_value}
use Rattle.actor_copies.specs.Copies.{Copy, copy_of, initial_values, overlay, values_of}
use Rattle.actor_copies.specs.Stands.{IsClean}

-- ---- values

map_same : {A B : Type 0} (f g : A → B) → ((x : A) → f x ≡ g x) → (xs : List A) → map f xs ≡ map g xs
map_same f g same [] = refl
map_same {A = A} {B = B} f g same (x ∷ xs) = joined (f x) (g x) (map f xs) (map g xs) (same x) (map_same f g same xs)
  where
    joined : (a b : B) (xs ys : List B) → a ≡ b → xs ≡ ys → a ∷ xs ≡ b ∷ ys
    joined a b xs ys e f = cc

map_twice : {A B C : Type 0} (f : A → B) (g : B → C) (xs : List A) → map g (map f xs) ≡ map (λ x. g (f x)) xs
map_twice f g [] = refl
map_twice f g (x ∷ xs) = ap (λ l. g (f x) ∷ l) (map_twice f g xs)

pair_same : (h : ℕ) (v w : ℤ) → v ≡ w → ◌≡◌ {A = Pair} (record { handle = h; value = v })
    (record { handle = h; value = w })
pair_same h v w e = ap (λ (v : ℤ). record { handle = h; value = v }) e

values_same : (past later : Past) (a : ℕ) (class : Class) → ((h : ℕ) → copy_value later a h ≡ copy_value past a h)
    → values_of later a class ≡ values_of past a class
values_same past later a class same = map_same _ _
    (λ (entry : ℕ × Prop). pair_same entry.0 (copy_value later a entry.0) (copy_value past a entry.0)
    (same entry.0)) (handles_of class)

values_under : (past later : Past) (a : ℕ) (class : Class) (pairs : List Pair)
    → ((h : ℕ) → copy_value later a h ≡ unwrap_or (value_among pairs h) (copy_value past a h))
    → values_of later a class ≡ map (overlay pairs) (values_of past a class)
values_under past later a class pairs same =
    map_same _ _ (λ (entry : ℕ × Prop). pair_same entry.0 (copy_value later a entry.0)
    (unwrap_or (value_among pairs entry.0) (copy_value past a entry.0)) (same entry.0)) (handles_of class)
    ∙ sym (map_twice (λ (entry : ℕ × Prop). record { handle = entry.0; value = copy_value past a entry.0 })
    (overlay pairs) (handles_of class))

values_begun : (later : Past) (a : ℕ) (class : Class) (pairs : List Pair)
    → ((h : ℕ) → copy_value later a h ≡ unwrap_or (value_among pairs h) (initial_value class h))
    → values_of later a class ≡ map (overlay pairs) (initial_values class)
values_begun later a class pairs same =
    map_same _ _ (λ (entry : ℕ × Prop). pair_same entry.0 (copy_value later a entry.0)
    (unwrap_or (value_among pairs entry.0) (initial_value class entry.0)) (same entry.0)) (handles_of class)
    ∙ sym (map_twice (λ (entry : ℕ × Prop). record { handle = entry.0; value = initial_value class entry.0 })
    (overlay pairs) (handles_of class))

-- ---- a copy by its parts

pub copy_is : (past : Past) (a : ℕ) (class : Class) (channel : Option ℕ) (values : List Pair)
    → copy_class past a ≡ Some class → copy_channel past a ≡ channel → values_of past a class ≡ values
    → copy_of past a ≡ Some (record { actor = a; class = class; channel = channel; values = values })
copy_is past a class channel values c h v =
    ap (option_map (λ (class : Class). record {
      actor = a;
      class = class;
      channel = copy_channel past a;
      values =
          values_of past a class;
    })) c
    ∙ parts (copy_channel past a) channel (values_of past a class) values h v
  where
    parts : (x y : Option ℕ) (v w : List Pair) → x ≡ y → v ≡ w
        → ◌≡◌ {A = Option Copy} (Some (record { actor = a; class = class; channel = x; values = v }))
        (Some (record { actor = a; class = class; channel = y; values = w }))
    parts x y v w e f = rw (e, f) refl

pub no_copy : (past : Past) (a : ℕ) → copy_class past a ≡ None → copy_of past a ≡ None
no_copy past a e = ap (option_map (λ (class : Class). record {
  actor = a;
  class = class;
  channel =
      copy_channel past a;
  values = values_of past a class;
})) e

pub stays_same : (past later : Past) (a : ℕ) → Stays past later a → copy_of later a ≡ copy_of past a
stays_same past later a s = by (copy_class past a) refl
  where
    by : (o : Option Class) → copy_class past a ≡ o → copy_of later a ≡ copy_of past a
    by None e = no_copy later a (s.class ∙ e) ∙ sym (no_copy past a e)
    by (Some class) e =
        copy_is later a class (copy_channel past a) (values_of past a class) (s.class ∙ e) s.channel
        (values_same past later a class s.value)
        ∙ sym (copy_is past a class (copy_channel past a) (values_of past a class) e refl refl)

-- ---- each payload

-- the value of a list, or else the one that stood
by_value : (pairs : List Pair) (h : ℕ) (now before : ℤ) → ((v : ℤ) → value_among pairs h ≡ Some v → now ≡ v)
    → (value_among pairs h ≡ None → now ≡ before) → now ≡ unwrap_or (value_among pairs h) before
by_value pairs h now before there none = by (value_among pairs h) refl
  where
    by : (o : Option ℤ) → value_among pairs h ≡ o → now ≡ unwrap_or o before
    by (Some v) e = there v e
    by None e = none e

pub updated : (past later : Past) (d : Delivered) (actor : ℕ) (class : Class) (values : List Pair)
    → Applied past later d → d.message ≡ Updates actor class values → copy_class past actor ≡ Some class
    → copy_of later actor ≡ Some (record {
      actor = actor;
      class = class;
      channel = copy_channel past actor;
      values =
          map (overlay values) (values_of past actor class);
    })
updated past later d actor class values e m c =
    copy_is later actor class (copy_channel past actor) (map (overlay values) (values_of past actor class))
    (update_class past later d actor class values e m ∙ c) (update_channel past later d actor class values e m)
    (values_under past later actor class values
    (λ h. by_value values h (copy_value later actor h) (copy_value past actor h)
    (λ v k. update_value past later d actor class values h v e m k)
    (λ k. update_kept past later d actor class values h e m k)))

pub reopened : (past later : Past) (d : Delivered) (exports : List Segment) (actor : ℕ) (class : Class)
    (values : List Pair) → Applied past later d → d.message ≡ Opens exports actor class values
    → copy_class past actor ≡ Some class
    → copy_of later actor ≡ Some (record {
      actor = actor;
      class = class;
      channel = Some d.channel;
      values =
          map (overlay values) (values_of past actor class);
    })
reopened past later d exports actor class values e m c =
    copy_is later actor class (Some d.channel) (map (overlay values) (values_of past actor class))
    (open_class past later d exports actor class values e m)
    (open_channel past later d exports actor class values e m)
    (values_under past later actor class values
    (λ h. by_value values h (copy_value later actor h) (copy_value past actor h)
    (λ v k. open_value past later d exports actor class values h v e m k)
    (λ k. open_kept past later d exports actor class values h e m k c)))

pub opened : (past later : Past) (d : Delivered) (exports : List Segment) (actor : ℕ) (class : Class)
    (values : List Pair) → Applied past later d → d.message ≡ Opens exports actor class values
    → copy_class past actor ≡ None → IsClean past
    → copy_of later actor ≡ Some (record {
      actor = actor;
      class = class;
      channel = Some d.channel;
      values =
          map (overlay values) (initial_values class);
    })
opened past later d exports actor class values e m c clean =
    copy_is later actor class (Some d.channel) (map (overlay values) (initial_values class))
    (open_class past later d exports actor class values e m)
    (open_channel past later d exports actor class values e m)
    (values_begun later actor class values (λ h. by_value values h (copy_value later actor h)
    (initial_value class h) (λ v k. open_value past later d exports actor class values h v e m k)
    (λ k. begins h k)))
  where
    since : since_removed later actor ≡ d ∷ since_removed past actor
    since = ap (items_since (removes actor)) e ∙ rw (opens_keeps d exports actor class values actor m) refl

    begins : (h : ℕ) → value_among values h ≡ None → copy_value later actor h ≡ initial_value class h
    begins h k =
        let nothing : newest_of (value_applied actor h) (since_removed later actor) ≡ None =
        ap (newest_of (value_applied actor h)) since
        ∙ newest_miss (value_applied actor h) d (since_removed past actor)
        (opens_value d exports actor class values h m ∙ k) ∙ clean.none actor h c in
        ap (λ (o : Option ℤ). unwrap_or o (unwrap_or
        (option_map (λ (class : Class). initial_value class h) (copy_class later actor)) (pos 0))) nothing
        ∙ ap (λ (o : Option Class). unwrap_or (option_map (λ (class : Class). initial_value class h) o) (pos 0))
        (open_class past later d exports actor class values e m)

pub slept : (past later : Past) (d : Delivered) (actor : ℕ) (class : Class) → Applied past later d
    → d.message ≡ Closes actor true → copy_class past actor ≡ Some class
    → copy_of later actor ≡ Some (record {
      actor = actor;
      class = class;
      channel = None;
      values =
          values_of past actor class;
    })
slept past later d actor class e m c =
    copy_is later actor class None (values_of past actor class) (sleep_class past later d actor e m ∙ c)
    (sleep_channel past later d actor e m)
    (values_same past later actor class (λ h. sleep_value past later d actor h e m))

pub closed : (past later : Past) (d : Delivered) (actor : ℕ) → Applied past later d → d.message ≡ Closes actor false
    → copy_of later actor ≡ None
closed past later d actor e m = no_copy later actor (close_class past later d actor e m)

pub gone : (past later : Past) (d : Delivered) (actor : ℕ) → Applied past later d → d.message ≡ Gone actor
    → copy_of later actor ≡ None
gone past later d actor e m = no_copy later actor (gone_class past later d actor e m)

pub others_same : (past later : Past) (d : Delivered) (a : ℕ) → Applied past later d
    → (actor_of d.message == a) ≡ false → copy_of later a ≡ copy_of past a
others_same past later d a e o = stays_same past later a (others_stay past later d a e o)
