-- The copies that are kept go on standing for those of the definitions, payload by payload.
use Rattle.std.proofs.Common.{◌≡◌, ℕ, ℤ, ◌==◌, List, [], ◌∷◌, map, Bool, true, false, cond, Option, Some, None, option_map, unwrap_or, refl, sym, ap, ◌∙◌}
use Rattle.std.proofs.lemmas.Bool.{eqb-true}
use Rattle.protocol_model.specs.Value as Model
use Rattle.protocol_model.specs.World.{class_at}
use Rattle.protocol_model.specs.Payload.{Message, Opens, Closes, Updates, Gone, actor_of}
use Rattle.connection_model.specs.Feed.{Past, Delivered}
use Rattle.connection_model.specs.Copies.{copy_class, copy_channel}
use Rattle.value_codec.specs.Values.{whole_of}
use Rattle.class_layout.specs.Tables.{Layout, table_in}
use Rattle.value_codec.specs.declared.pair.Pair.{Pair}
use Rattle.value_codec.specs.declared.value.Value.{Value}
use Rattle.payload_laws.specs.Applied.{Applied}
use Rattle.payload_reading.specs.Values.{pair_value, pair_values}
use Rattle.actor_copies.specs.declared.copy.ActorCopy.{ActorCopy}
use Rattle.actor_copies.specs.Copies.{Copy, copy_of, copy_value_of, initial_values, overlay, values_of}
use Rattle.actor_copies.specs.Kept.{copy_actor, value_in, set_all, changed}
use Rattle.actor_copies.specs.Keyed.{Put, at_key}
use Rattle.actor_copies.specs.Stands.{Shows, IsClean, actor_key}
use Rattle.actor_copies.proofs.Keyed.{mapped_at, mapped_ascends}
use Rattle.actor_copies.proofs.CopySteps.{updated, reopened, opened, slept, closed, gone, others_same}

-- ---- a copy is put in the place of an actor

put_shows : (layout : Layout) (old new : List ActorCopy) (past later : Past) (actor : ℕ) (item : Option ActorCopy)
    → Shows layout old past → Put copy_actor actor item old new
    → option_map (copy_value_of layout) item ≡ copy_of later actor
    → ((a : ℕ) → (actor == a) ≡ false → copy_of later a ≡ copy_of past a) → Shows layout new later
put_shows layout old new past later actor item shows put is others = record {
  ascends = mapped_ascends (copy_value_of layout) copy_actor actor_key (λ c. refl) 0 new put.ascends;
  each = λ a. mapped_at (copy_value_of layout) copy_actor actor_key (λ c. refl) new a
      ∙ ap (option_map (copy_value_of layout)) (put.at a) ∙ by a (actor == a) refl;
}
  where
    by : (a : ℕ) (t : Bool) → (actor == a) ≡ t
        → option_map (copy_value_of layout) (cond t item (at_key copy_actor old a)) ≡ copy_of later a
    by a true e = is ∙ ap (copy_of later) (eqb-true actor a e)
    by a false e = sym (mapped_at (copy_value_of layout) copy_actor actor_key (λ c. refl) old a) ∙ shows.each a
        ∙ sym (others a e)

-- ---- values

found_same : (pairs : List Pair) (h : ℕ) → Model.value_among (pair_values pairs) h ≡ option_map whole_of
    (value_in pairs h)
found_same [] h = refl
found_same (p ∷ pairs) h = by (p.prop == h) (found_same pairs h)
  where
    by : (b : Bool) → Model.value_among (pair_values pairs) h ≡ option_map whole_of (value_in pairs h)
        → cond b (Some (whole_of p.value)) (Model.value_among (pair_values pairs) h) ≡ option_map whole_of
        (cond b (Some p.value) (value_in pairs h))
    by true e = refl
    by false e = e

or_whole : (o : Option Value) (v : Value) → unwrap_or (option_map whole_of o) (whole_of v) ≡ whole_of (unwrap_or o v)
or_whole None v = refl
or_whole (Some w) v = refl

one_same : (pairs : List Pair) (q : Pair) → pair_value (set_all pairs q) ≡ overlay (pair_values pairs) (pair_value q)
one_same pairs q =
    ap (λ (v : ℤ). let p : Model.Pair = record { handle = q.prop; value = v } in p)
    (sym (ap (λ (o : Option ℤ). unwrap_or o (whole_of q.value)) (found_same pairs q.prop)
    ∙ or_whole (value_in pairs q.prop) q.value))

pub values_set : (pairs values : List Pair) → pair_values (map (set_all pairs) values) ≡ map
    (overlay (pair_values pairs)) (pair_values values)
values_set pairs [] = refl
values_set pairs (q ∷ values) = joined _ _ _ _ (one_same pairs q) (values_set pairs values)
  where
    joined : (a b : Model.Pair) (xs ys : List Model.Pair) → a ≡ b → xs ≡ ys → a ∷ xs ≡ b ∷ ys
    joined a b xs ys e f = cc

-- ---- what is kept of an actor

copy_parts : (a : ℕ) (class : Model.Class) (channel : Option ℕ) (v w : List Model.Pair) → v ≡ w
    → ◌≡◌ {A = Option Copy} (Some (record { actor = a; class = class; channel = channel; values = v }))
    (Some (record { actor = a; class = class; channel = channel; values = w }))
copy_parts a class channel v w e = ap (λ (l : List Model.Pair). Some
    (record { actor = a; class = class; channel = channel; values = l })) e

changed_is : (layout : Layout) (x : ActorCopy) (channel : Option ℕ) (pairs : List Pair)
    → option_map (copy_value_of layout) (Some (changed x channel pairs)) ≡ Some
    (record {
      actor = x.actor;
      class = class_at (table_in layout) x.class;
      channel = channel;
      values =
          map (overlay (pair_values pairs)) (pair_values x.values);
    })
changed_is layout x channel pairs = copy_parts x.actor (class_at (table_in layout) x.class) channel _ _
    (values_set pairs x.values)

copy_same : (a b : ℕ) (class : Model.Class) (ch on : Option ℕ) (v w : List Model.Pair) → a ≡ b → ch ≡ on → v ≡ w
    → ◌≡◌ {A = Option Copy} (Some (record { actor = a; class = class; channel = ch; values = v }))
    (Some (record { actor = b; class = class; channel = on; values = w }))
copy_same a b class ch on v w e f g = rw (e, f, g) refl

-- the copy of an actor that is kept
pub record IsKept (layout : Layout) (past : Past) (actor : ℕ) (x : ActorCopy) : Type 0 where
  pub named : x.actor ≡ actor
  pub class : copy_class past actor ≡ Some (class_at (table_in layout) x.class)
  pub channel : copy_channel past actor ≡ x.channel
  pub values : values_of past actor (class_at (table_in layout) x.class) ≡ pair_values x.values

kept_by : (layout : Layout) (past : Past) (actor : ℕ) (x : ActorCopy) (o : Option Model.Class)
    → copy_class past actor ≡ o
    → option_map (copy_value_of layout) (Some x) ≡ option_map
    (λ (class : Model.Class). record {
      actor = actor;
      class = class;
      channel = copy_channel past actor;
      values =
          values_of past actor class;
    }) o → IsKept layout past actor x
kept_by layout past actor x None c e = absurd (cc)
kept_by layout past actor x (Some class) c e =
    let same : ◌≡◌ {A = Copy} (copy_value_of layout x)
    (record {
      actor = actor;
      class = class;
      channel = copy_channel past actor;
      values =
          values_of past actor class;
    }) = cc in
    let is : class_at (table_in layout) x.class ≡ class = ap (λ (c : Copy). c.class) same in
    record {
      named = ap (λ (c : Copy). c.actor) same;
      class = c ∙ ap (λ (c : Model.Class). Some c) (sym is);
      channel = sym (ap (λ (c : Copy). c.channel) same);
      values = ap (values_of past actor) is ∙ sym (ap (λ (c : Copy). c.values) same);
    }

pub is_kept : (layout : Layout) (copies : List ActorCopy) (past : Past) (actor : ℕ) (x : ActorCopy)
    → Shows layout copies past → at_key copy_actor copies actor ≡ Some x → IsKept layout past actor x
is_kept layout copies past actor x shows e =
    kept_by layout past actor x (copy_class past actor) refl
    (ap (option_map (copy_value_of layout)) (sym e)
    ∙ sym (mapped_at (copy_value_of layout) copy_actor actor_key (λ c. refl) copies actor) ∙ shows.each actor)

-- ---- each payload

-- where the message is of this actor, the copies of all others stay
others : (past later : Past) (d : Delivered) (actor : ℕ) (m : Message) → Applied past later d → d.message ≡ m
    → actor_of m ≡ actor → (a : ℕ) → (actor == a) ≡ false → copy_of later a ≡ copy_of past a
others past later d actor m e is of a o = others_same past later d a e
    (ap (λ (m : Message). actor_of m == a) is ∙ ap (λ (n : ℕ). n == a) of ∙ o)

-- an update sets its values
pub update_shows : (layout : Layout) (old new : List ActorCopy) (past later : Past) (d : Delivered) (actor : ℕ)
    (x : ActorCopy) (pairs : List Pair) → Shows layout old past → at_key copy_actor old actor ≡ Some x
    → Applied past later d → d.message ≡ Updates actor (class_at (table_in layout) x.class) (pair_values pairs)
    → Put copy_actor actor (Some (changed x x.channel pairs)) old new → Shows layout new later
update_shows layout old new past later d actor x pairs shows e applied m put =
    let k = is_kept layout old past actor x shows e in
    put_shows layout old new past later actor _ shows put
    (changed_is layout x x.channel pairs ∙ same k
    ∙ sym (updated past later d actor (class_at (table_in layout) x.class) (pair_values pairs) applied m k.class))
    (others past later d actor _ applied m refl)
  where
    same : IsKept layout past actor x → ◌≡◌ {A = Option Copy}
        (Some (record {
          actor = x.actor;
          class = class_at (table_in layout) x.class;
          channel = x.channel;
          values =
              map (overlay (pair_values pairs)) (pair_values x.values);
        }))
        (Some (record {
          actor = actor;
          class = class_at (table_in layout) x.class;
          channel =
              copy_channel past actor;
          values = map (overlay (pair_values pairs))
              (values_of past actor (class_at (table_in layout) x.class));
        }))
    same k = copy_same x.actor actor (class_at (table_in layout) x.class) x.channel
        (copy_channel past actor) _ _ k.named (sym k.channel) (ap (map (overlay (pair_values pairs))) (sym k.values))

-- an open of an actor that has a copy gives it the channel, and sets its values
pub reopen_shows : (layout : Layout) (old new : List ActorCopy) (past later : Past) (d : Delivered)
    (exports : List Model.Segment) (actor ch : ℕ) (x : ActorCopy) (pairs : List Pair) → Shows layout old past
    → at_key copy_actor old actor ≡ Some x
    → Applied past later d → d.message ≡ Opens exports actor (class_at (table_in layout) x.class)
    (pair_values pairs) → d.channel ≡ ch → Put copy_actor actor (Some (changed x (Some ch) pairs)) old new
    → Shows layout new later
reopen_shows layout old new past later d exports actor ch x pairs shows e applied m on put =
    let k = is_kept layout old past actor x shows e in
    put_shows layout old new past later actor _ shows put
    (changed_is layout x (Some ch) pairs ∙ same k
    ∙ sym (reopened past later d exports actor (class_at (table_in layout) x.class)
    (pair_values pairs) applied m k.class))
    (others past later d actor _ applied m refl)
  where
    same : IsKept layout past actor x → ◌≡◌ {A = Option Copy}
        (Some (record {
          actor = x.actor;
          class = class_at (table_in layout) x.class;
          channel = Some ch;
          values =
              map (overlay (pair_values pairs)) (pair_values x.values);
        }))
        (Some (record {
          actor = actor;
          class = class_at (table_in layout) x.class;
          channel =
              Some d.channel;
          values = map (overlay (pair_values pairs))
              (values_of past actor (class_at (table_in layout) x.class));
        }))
    same k = copy_same x.actor actor (class_at (table_in layout) x.class) (Some ch) (Some d.channel) _ _ k.named
        (ap (λ (n : ℕ). Some n) (sym on)) (ap (map (overlay (pair_values pairs))) (sym k.values))

-- a dormant close takes its channel away
pub sleep_shows : (layout : Layout) (old new : List ActorCopy) (past later : Past) (d : Delivered) (actor : ℕ)
    (x : ActorCopy) → Shows layout old past → at_key copy_actor old actor ≡ Some x
    → Applied past later d → d.message ≡ Closes actor true → Put copy_actor actor (Some (changed x None [])) old new
    → Shows layout new later
sleep_shows layout old new past later d actor x shows e applied m put =
    let k = is_kept layout old past actor x shows e in
    put_shows layout old new past later actor _ shows put
    (changed_is layout x None [] ∙ same k ∙ sym
    (slept past later d actor (class_at (table_in layout) x.class) applied m k.class))
    (others past later d actor _ applied m refl)
  where
    none : (l : List Model.Pair) → map (overlay []) l ≡ l
    none [] = refl
    none (p ∷ l) = ap (λ (l : List Model.Pair). p ∷ l) (none l)

    same : IsKept layout past actor x → ◌≡◌ {A = Option Copy}
        (Some (record {
          actor = x.actor;
          class = class_at (table_in layout) x.class;
          channel = None;
          values =
              map (overlay []) (pair_values x.values);
        }))
        (Some (record {
          actor = actor;
          class = class_at (table_in layout) x.class;
          channel = None;
          values =
              values_of past actor (class_at (table_in layout) x.class);
        }))
    same k = copy_same x.actor actor (class_at (table_in layout) x.class) None None _ _ k.named refl
        (none (pair_values x.values) ∙ sym k.values)

-- a new copy begins with the values of its class
pub open_shows : (layout : Layout) (old new : List ActorCopy) (past later : Past) (d : Delivered)
    (exports : List Model.Segment) (c : ActorCopy) (ch : ℕ) (begun pairs : List Pair) → Shows layout old past
    → IsClean past → copy_class past c.actor ≡ None
    → Applied past later d → d.message ≡ Opens exports c.actor (class_at (table_in layout) c.class)
    (pair_values pairs) → d.channel ≡ ch → c.channel ≡ Some ch → c.values ≡ map (set_all pairs) begun
    → pair_values begun ≡ initial_values (class_at (table_in layout) c.class)
    → Put copy_actor c.actor (Some c) old new → Shows layout new later
open_shows layout old new past later d exports c ch begun pairs shows clean none applied m on channel values begins
    put =
    put_shows layout old new past later c.actor (Some c) shows put
    (same ∙ sym (opened past later d exports c.actor (class_at (table_in layout) c.class)
    (pair_values pairs) applied m none clean))
    (others past later d c.actor _ applied m refl)
  where
    put_values : pair_values c.values ≡ map (overlay (pair_values pairs))
        (initial_values (class_at (table_in layout) c.class))
    put_values = ap pair_values values ∙ values_set pairs begun ∙ ap (map (overlay (pair_values pairs))) begins

    parts : (a b : Option ℕ) (v w : List Model.Pair) → a ≡ b → v ≡ w
        → ◌≡◌ {A = Option Copy} (Some (record {
          actor = c.actor;
          class =
              class_at (table_in layout) c.class;
          channel = a;
          values = v;
        }))
        (Some (record { actor = c.actor; class = class_at (table_in layout) c.class; channel = b; values = w }))
    parts a b v w e f = rw (e, f) refl

    same : option_map (copy_value_of layout) (Some c) ≡ Some
        (record {
          actor = c.actor;
          class = class_at (table_in layout) c.class;
          channel = Some d.channel;
          values =
              map (overlay (pair_values pairs)) (initial_values (class_at (table_in layout) c.class));
        })
    same = parts c.channel (Some d.channel) (pair_values c.values) _
        (channel ∙ ap (λ (n : ℕ). Some n) (sym on)) put_values

-- a plain close removes it, and so does a Gone
pub close_shows : (layout : Layout) (old new : List ActorCopy) (past later : Past) (d : Delivered) (actor : ℕ)
    → Shows layout old past → Applied past later d → d.message ≡ Closes actor false
    → Put copy_actor actor None old new → Shows layout new later
close_shows layout old new past later d actor shows applied m put =
    put_shows layout old new past later actor None shows put (sym (closed past later d actor applied m))
    (others past later d actor _ applied m refl)

pub gone_shows : (layout : Layout) (old new : List ActorCopy) (past later : Past) (d : Delivered) (actor : ℕ)
    → Shows layout old past → Applied past later d → d.message ≡ Gone actor → Put copy_actor actor None old new
    → Shows layout new later
gone_shows layout old new past later d actor shows applied m put =
    put_shows layout old new past later actor None shows put (sym (gone past later d actor applied m))
    (others past later d actor _ applied m refl)
