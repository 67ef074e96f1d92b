-- The last open made of an actor, and what the server's packets said after it.
use Rattle.std.proofs.Common.{◌≡◌, ℕ, zero, suc, ◌-◌, List, [], ◌∷◌, ◌++◌, Bool, true, false, cond, ◌==◌, ◌&&◌, refl, sym, ap, ◌∙◌, Option, Some, None}
use Rattle.std.specs.Prelude.{unwrap_or}
use Rattle.std.specs.List.{filter_map, cons_option, slice_get, AllByRecursion}
use Rattle.std.specs.Bool.{then_some}
use Rattle.std.proofs.lemmas.Bool.{false≢true, eq-eqb, eqb-true}
use Rattle.protocol_model.specs.Value.{Segment, Class, Pair}
use Rattle.protocol_model.specs.Payload.{Opens, Closes, Updates, Calls, Gone}
use Rattle.protocol_model.specs.Search.{newest_of, items_since}
use Rattle.connection_model.specs.Feed.{End, Past, Deed, Ticked, Made, Waits, Sent, Took, Ended}
use Rattle.connection_model.specs.Carry.{is_open_of, open_values_in, open_values}
use Rattle.connection_laws.specs.Deeds.{DeedsFit}
use Rattle.connection_laws.proofs.Searches.{newest_hit, newest_miss}

-- ---- searches

-- what is found is found in some item, and in none before it
pub record FoundIn {A B : Type 0} (f : A → Option B) (xs : List A) (y : B) : Type 0 where
  pub before : List A
  pub item : A
  pub after : List A
  pub split : xs ≡ before ++ item ∷ after
  pub gives : f item ≡ Some y
  pub none : AllByRecursion (λ (x : A). f x ≡ None) before

-- what is found, and where
pub newest_found : {A B : Type 0} (f : A → Option B) (xs : List A) (y : B) → newest_of f xs ≡ Some y → FoundIn f xs y
newest_found {A} {B} f [] y e = absurd (let no : (let o : Option B = None in o) ≡ Some y = e in cc)
newest_found {A} {B} f (x ∷ xs) y e = by (f x) refl e (λ q. newest_found f xs y q)
  where
    by : (o : Option B) → f x ≡ o → slice_get (cons_option o (filter_map f xs)) 0 ≡ Some y → (newest_of f xs ≡ Some y → FoundIn f xs y) → FoundIn f (x ∷ xs) y
    by None q e ih = (let r = ih e in record { before = x ∷ r.before; item = r.item; after = r.after; split = ap (λ (l : List A). x ∷ l) r.split; gives = r.gives; none = (q, r.none) })
    by (Some z) q e ih = record { before = []; item = x; after = xs; split = refl; gives = q ∙ e; none = tt }

-- where nothing is found, nothing is said
pub newest_none : {A B : Type 0} (f : A → Option B) (xs : List A) → newest_of f xs ≡ None → AllByRecursion (λ (x : A). f x ≡ None) xs
newest_none f [] e = tt
newest_none {A} {B} f (x ∷ xs) e = by (f x) refl e (λ q. newest_none f xs q)
  where
    by : (o : Option B) → f x ≡ o → slice_get (cons_option o (filter_map f xs)) 0 ≡ None → (newest_of f xs ≡ None → AllByRecursion (λ (x : A). f x ≡ None) xs) → AllByRecursion (λ (x : A). f x ≡ None) (x ∷ xs)
    by None q e ih = (q, ih e)
    by (Some z) q e ih = absurd (let no : Some z ≡ None = e in cc)

-- ---- the last open

-- the deed makes the first part of the actor's open
abbrev pub begins_open : ℕ → Deed → Bool
begins_open a (Made channel number (Opens exports actor class values) i) = (actor == a) && (i == 0)
begins_open a deed = false

-- the last open made of the actor, with what was done after and before its first part
pub record OpenedAt (past : Past) (a : ℕ) : Type 0 where
  pub channel : ℕ
  pub number : ℕ
  pub exports : List Segment
  pub class : Class
  pub values : List Pair
  pub newer : Past
  pub older : Past
  pub split : past ≡ newer ++ Made channel number (Opens exports a class values) 0 ∷ older
  pub none : AllByRecursion (λ (d : Deed). begins_open a d ≡ false) newer

-- the deed makes a message
abbrev pub IsMade : Deed → Type 0
IsMade (Made channel number message i) = Unit {0}
IsMade (Ticked t s) = ⊥
IsMade (Waits m) = ⊥
IsMade (Sent n t items) = ⊥
IsMade (Took n es ds) = ⊥
IsMade (Ended g) = ⊥

-- what was done after its parts
pub record Front (past : Past) (a : ℕ) (newer : Past) (values : List Pair) : Type 0 where
  pub front : Past
  pub parts : Past
  pub split : newer ≡ front ++ parts
  pub since : items_since (is_open_of a) past ≡ front
  pub made : AllByRecursion IsMade parts
  pub values_are : open_values past a ≡ values

module _ (end : End) (a ch n : ℕ) (exports : List Segment) (class : Class) (values : List Pair) (older : Past) where
  first : Deed
  first = Made ch n (Opens exports a class values) 0

  -- what stands between the first part and a later one is parts
  all_parts : (newer : Past) (c m : ℕ) (es : List Segment) (b : ℕ) (k : Class) (vs : List Pair) (j : ℕ) (before : Past) → newer ++ Made ch n (Opens exports a class values) 0 ∷ older ≡ Made c m (Opens es b k vs) j ∷ before
      → b ≡ a → DeedsFit end (newer ++ Made ch n (Opens exports a class values) 0 ∷ older) → AllByRecursion (λ (d : Deed). begins_open a d ≡ false) newer → AllByRecursion IsMade newer × (vs ≡ values)
  all_parts [] c m es b k vs j before e same fit none = (tt, (let q : values ≡ vs = cc in sym q))
  all_parts (Made d x (Opens fs g l ws) zero ∷ newer) c m es b k vs j before e same fit none =
      absurd (false≢true (sym none.0 ∙ ap (λ (t : Bool). t && true) (eq-eqb g a ((let q : g ≡ b = cc in q) ∙ same))))
  all_parts (Made d x (Opens fs g l ws) (suc i) ∷ newer) c m es b k vs j before e same fit none =
      let r = all_parts newer d (x - 1) fs g l ws i fit.0.2.0 fit.0.2.1 ((let q : g ≡ b = cc in q) ∙ same) fit.1 none.1 in
      ((tt, r.0), (let q : ws ≡ vs = cc in sym q ∙ r.1))
  all_parts (Made d x (Closes g s) i ∷ newer) c m es b k vs j before e same fit none = absurd (cc)
  all_parts (Made d x (Updates g l ws) i ∷ newer) c m es b k vs j before e same fit none = absurd (cc)
  all_parts (Made d x (Calls g y l ws) i ∷ newer) c m es b k vs j before e same fit none = absurd (cc)
  all_parts (Made d x (Gone g) i ∷ newer) c m es b k vs j before e same fit none = absurd (cc)
  all_parts (Ticked t s ∷ newer) c m es b k vs j before e same fit none = absurd (cc)
  all_parts (Waits x ∷ newer) c m es b k vs j before e same fit none = absurd (cc)
  all_parts (Sent x t items ∷ newer) c m es b k vs j before e same fit none = absurd (cc)
  all_parts (Took x xs ds ∷ newer) c m es b k vs j before e same fit none = absurd (cc)
  all_parts (Ended g ∷ newer) c m es b k vs j before e same fit none = absurd (cc)

  whole : Past → Past
  whole newer = newer ++ Made ch n (Opens exports a class values) 0 ∷ older

  skip : (newer : Past) (d : Deed) → is_open_of a d ≡ false → open_values_in a d ≡ None → Front (newer ++ Made ch n (Opens exports a class values) 0 ∷ older) a newer values
      → Front (d ∷ newer ++ Made ch n (Opens exports a class values) 0 ∷ older) a (d ∷ newer) values
  skip newer d o v r = record {
    front = d ∷ r.front;
    parts = r.parts;
    split = ap (λ (l : Past). d ∷ l) r.split;
    since = ap (λ (t : Bool). cond t [] (d ∷ items_since (is_open_of a) (newer ++ Made ch n (Opens exports a class values) 0 ∷ older))) o ∙ ap (λ (l : Past). d ∷ l) r.since;
    made = r.made;
    values_are = ap (λ (x : Option (List Pair)). unwrap_or x []) (newest_miss (open_values_in a) d (newer ++ Made ch n (Opens exports a class values) 0 ∷ older) v) ∙ r.values_are;
  }

  pub front_of : (newer : Past) → DeedsFit end (newer ++ Made ch n (Opens exports a class values) 0 ∷ older) → AllByRecursion (λ (d : Deed). begins_open a d ≡ false) newer
      → Front (newer ++ Made ch n (Opens exports a class values) 0 ∷ older) a newer values
  front_of [] fit none = record {
    front = [];
    parts = [];
    split = refl;
    since = ap (λ (t : Bool). cond t [] (Made ch n (Opens exports a class values) 0 ∷ items_since (is_open_of a) older)) (eq-eqb a a refl);
    made = tt;
    values_are = ap (λ (x : Option (List Pair)). unwrap_or x [])
        (newest_hit (open_values_in a) (Made ch n (Opens exports a class values) 0) older values (ap (λ (t : Bool). then_some t values) (eq-eqb a a refl)));
  }
  front_of (Made d x (Opens fs g l ws) zero ∷ newer) fit none =
      by (g == a) refl none.0 (front_of newer fit.1 none.1)
    where
      by : (t : Bool) → (g == a) ≡ t → (t && true) ≡ false → Front (newer ++ Made ch n (Opens exports a class values) 0 ∷ older) a newer values → Front (Made d x (Opens fs g l ws) zero ∷ newer ++ Made ch n (Opens exports a class values) 0 ∷ older) a (Made d x (Opens fs g l ws) zero ∷ newer) values
      by true e q r = absurd (false≢true (sym q))
      by false e q r = skip newer (Made d x (Opens fs g l ws) zero) e (ap (λ (t : Bool). then_some t ws) e) r
  front_of (Made d x (Opens fs g l ws) (suc i) ∷ newer) fit none = by (g == a) refl (front_of newer fit.1 none.1)
    where
      by : (t : Bool) → (g == a) ≡ t → Front (newer ++ Made ch n (Opens exports a class values) 0 ∷ older) a newer values → Front (Made d x (Opens fs g l ws) (suc i) ∷ newer ++ Made ch n (Opens exports a class values) 0 ∷ older) a (Made d x (Opens fs g l ws) (suc i) ∷ newer) values
      by false e rest = skip newer (Made d x (Opens fs g l ws) (suc i)) e (ap (λ (t : Bool). then_some t ws) e) rest
      by true e rest =
          let r = all_parts newer d (x - 1) fs g l ws i fit.0.2.0 fit.0.2.1 (eqb-true g a e) fit.1 none.1 in
          record {
            front = [];
            parts = Made d x (Opens fs g l ws) (suc i) ∷ newer;
            split = refl;
            since = ap (λ (t : Bool). cond t [] (Made d x (Opens fs g l ws) (suc i) ∷ items_since (is_open_of a) (newer ++ Made ch n (Opens exports a class values) 0 ∷ older))) e;
            made = (tt, r.0);
            values_are = ap (λ (y : Option (List Pair)). unwrap_or y [])
                (newest_hit (open_values_in a) (Made d x (Opens fs g l ws) (suc i)) (newer ++ Made ch n (Opens exports a class values) 0 ∷ older) ws (ap (λ (t : Bool). then_some t ws) e)) ∙ r.1;
          }
  front_of (Made d x (Closes g s) i ∷ newer) fit none = skip newer (Made d x (Closes g s) i) refl refl (front_of newer fit.1 none.1)
  front_of (Made d x (Updates g l ws) i ∷ newer) fit none = skip newer (Made d x (Updates g l ws) i) refl refl (front_of newer fit.1 none.1)
  front_of (Made d x (Calls g y l ws) i ∷ newer) fit none = skip newer (Made d x (Calls g y l ws) i) refl refl (front_of newer fit.1 none.1)
  front_of (Made d x (Gone g) i ∷ newer) fit none = skip newer (Made d x (Gone g) i) refl refl (front_of newer fit.1 none.1)
  front_of (Ticked t s ∷ newer) fit none = skip newer (Ticked t s) refl refl (front_of newer fit.1 none.1)
  front_of (Waits x ∷ newer) fit none = skip newer (Waits x) refl refl (front_of newer fit.1 none.1)
  front_of (Sent x t items ∷ newer) fit none = skip newer (Sent x t items) refl refl (front_of newer fit.1 none.1)
  front_of (Took x xs ds ∷ newer) fit none = skip newer (Took x xs ds) refl refl (front_of newer fit.1 none.1)
  front_of (Ended g ∷ newer) fit none = skip newer (Ended g) refl refl (front_of newer fit.1 none.1)
