-- The values in the packets of a server are those of the worlds that it saw.
use Rattle.std.proofs.Common.{◌≡◌, ℕ, zero, suc, List, [], ◌∷◌, ◌++◌, take, map, length, Bool, true, false, cond, not, ◌==◌, ◌&&◌, refl, sym, ap, ◌∙◌, subst, Option, Some, None, ℤ, pos, append_assoc, nat_le}
use Rattle.std.specs.Prelude.{unwrap_or, slice_get, filter}
use Rattle.std.specs.List.{AllByRecursion}
use Rattle.std.proofs.lemmas.Bool.{cond_both, eqb-true}
use Rattle.std.proofs.lemmas.List.Elements.{filter_map-append}
use Rattle.protocol_model.specs.Value.{Table, Class, Prop, Pair, value_among, handles_of}
use Rattle.protocol_model.specs.World.{Edits, actors_of, lives, owns, class_of, is_on}
use Rattle.protocol_model.specs.Cond.{visible}
use Rattle.protocol_model.specs.Sight.{Seen, seen_of, destroyed_of, entry_of, is_relevant, sight, seen_value}
use Rattle.protocol_model.specs.Search.{is_among, longest_prefix}
use Rattle.protocol_model.specs.Payload.{Opens, Closes, Updates, Calls, Gone, message_bits}
use Rattle.connection_model.specs.Feed.{End, Past, Ticked, Made, Waits, Sent, Took, Ended, Item, Owed, Carries, Loose, sight_of}
use Rattle.connection_model.specs.Carry.{value_in_update, due_pairs, is_due_pair, updatable_pairs, is_updatable}
use Rattle.connection_model.specs.Items.{update_message, update_pairs}
use Rattle.connection_laws.specs.Run.{MaySend, UpdatesSeen}
use Rattle.connection_laws.specs.Deeds.{DeedsFit}
use Rattle.connection_laws.proofs.ActorsShown.{all_filtered}
use Rattle.connection_laws.proofs.PacketsSay.{all_at}
use Rattle.payload_laws.proofs.SightSpelling.{from}
use Rattle.payload_laws.proofs.WorldValues.{same_some}
use Rattle.headline_laws.specs.Sights.{sight_in, sights_of, Seeing}
use Rattle.recovery_laws.specs.Faithful.{items_of}
use Rattle.recovery_laws.proofs.CarriedValues.{SameValues}

-- the pairs have the values of a world
abbrev ArePairsOf : (ℕ → ℕ → ℤ) → (actor : ℕ) → List Pair → Type 0
ArePairsOf world a pairs = AllByRecursion (λ (p : Pair). p.value ≡ world a p.handle) pairs

-- ---- a sight

-- a sight's pairs have the values that the player sees
visible_are : (table : Table) (edits : Edits) (player a : ℕ) (hs : List (ℕ × Prop)) → ArePairsOf (seen_value table edits player) a (map (λ (e : ℕ × Prop). record { handle = e.0; value = seen_value table edits player a e.0 }) hs)
visible_are table edits player a [] = tt
visible_are table edits player a (e ∷ hs) = (refl, visible_are table edits player a hs)

-- so have those of an entry
entry_values : (table : Table) (edits : Edits) (player a : ℕ) (seen : Seen) (r d : Bool) → cond r (Some (seen_of table edits player a)) (cond d (Some (destroyed_of table edits a)) None) ≡ Some seen → ArePairsOf (seen_value table edits player) seen.actor seen.values
entry_values table edits player a seen true d e =
    subst (λ (s : Seen). ArePairsOf (seen_value table edits player) s.actor s.values) (same_some (seen_of table edits player a) seen e)
    (visible_are table edits player a (filter (λ (entry : ℕ × Prop). visible entry.1.cond (owns edits player a) (is_on edits a entry.0)) (handles_of (class_of table edits a))))
entry_values table edits player a seen false true e = subst (λ (s : Seen). ArePairsOf (seen_value table edits player) s.actor s.values) (same_some (destroyed_of table edits a) seen e) tt
entry_values table edits player a seen false false e = absurd (let never : (let o : Option Seen = None in o) ≡ Some seen = e in cc)

-- so have those of each entry
sight_values : (table : Table) (edits : Edits) (player : ℕ) (earlier : List ℕ) (i : ℕ) (seen : Seen) → slice_get (sight table edits player earlier) i ≡ Some seen → ArePairsOf (seen_value table edits player) seen.actor seen.values
sight_values table edits player earlier i seen e =
    let r = from (entry_of table edits player earlier) (actors_of edits) i seen e in
    entry_values table edits player r.item seen (is_relevant table edits player r.item) (not (lives edits r.item) && is_among r.item earlier) r.gives

-- ---- the sight at a moment

-- the sight was the player's of some world
pub record SightOf (table : Table) (player : ℕ) (edits : Edits) (shown : List Seen) : Type 0 where
  pub more : Edits
  pub before : Edits
  pub earlier : List ℕ
  pub grown : edits ≡ more ++ before
  pub is : shown ≡ sight table before player earlier

-- what was seen before was of a world that has grown since
pub seeing_behind : (table : Table) (player : ℕ) (edits : Edits) (xs ys : List (List Seen)) → Seeing table player edits (xs ++ ys) → (more before : Edits) × (edits ≡ more ++ before) × Seeing table player before ys
seeing_behind table player edits [] ys h = ([], edits, refl, h)
seeing_behind table player edits (x ∷ xs) ys h =
    let r = seeing_behind table player h.1 xs ys h.5 in
    (h.0 ++ r.0, r.1, h.3 ∙ ap (λ (l : Edits). h.0 ++ l) r.2 ∙ sym (append_assoc h.0 r.0 r.1), r.3)

-- a sight with an entry was that of the last tick
pub seen_at : (table : Table) (player : ℕ) (edits : Edits) (later past : Past) → Seeing table player edits (sights_of (later ++ past)) → (i : ℕ) (seen : Seen) → slice_get (sight_of past) i ≡ Some seen → SightOf table player edits (sight_of past)
seen_at table player edits later past h i seen e =
    let r = seeing_behind table player edits (sights_of later) (sights_of past) (subst (Seeing table player edits) (filter_map-append sight_in later past) h) in
    by (sights_of past) r.0 r.1 r.2 r.3 e
  where
    by : (ss : List (List Seen)) (more before : Edits) → edits ≡ more ++ before → Seeing table player before ss → slice_get (unwrap_or (slice_get ss 0) []) i ≡ Some seen → SightOf table player edits (unwrap_or (slice_get ss 0) [])
    by [] more before g h e = absurd (let never : (let o : Option Seen = None in o) ≡ Some seen = e in cc)
    by (s ∷ ss) more before g h e = record { more = more ++ h.0; before = h.1; earlier = h.2; grown = g ∙ ap (λ (l : Edits). more ++ l) h.3 ∙ sym (append_assoc more h.0 h.1); is = h.4 }

-- ---- updates

-- what holds of a list holds of what is taken of it
all_taken : {A : Type 0} (P : A → Type 0) (n : ℕ) (xs : List A) → AllByRecursion P xs → AllByRecursion P (take n xs)
all_taken P zero xs h = tt
all_taken P (suc n) [] h = tt
all_taken P (suc n) (x ∷ xs) h = (h.0, all_taken P n xs h.1)

-- and of its longest prefix
all_in_prefix : {A : Type 0} (P : A → Type 0) (test : List A → Bool) (most : ℕ) (xs : List A) → AllByRecursion P xs → AllByRecursion P (longest_prefix test most xs)
all_in_prefix P test zero xs h = tt
all_in_prefix P test (suc most) xs h = cond_both (test (take (suc most) xs)) (take (suc most) xs) (longest_prefix test most xs) (AllByRecursion P) (λ e. all_taken P (suc most) xs h) (λ e. all_in_prefix P test most xs h)

-- what holds of each pair of a sight's entry that may be updated holds of each pair of its update
pub update_all : (P : Pair → Type 0) (at : Past) (seen : Seen) → AllByRecursion P (updatable_pairs seen) → AllByRecursion P (update_pairs seen (due_pairs at seen))
update_all P at seen h =
    all_in_prefix P (λ pairs. nat_le (length (message_bits (update_message seen pairs))) 6000) (length (due_pairs at seen)) (due_pairs at seen)
    (all_filtered P (is_due_pair at seen.actor) (updatable_pairs seen) h)

-- the value among such pairs is the one seen
value_of_pairs : (world : ℕ → ℕ → ℤ) (a h : ℕ) (v : ℤ) (pairs : List Pair) → ArePairsOf world a pairs → value_among pairs h ≡ Some v → v ≡ world a h
value_of_pairs world a h v [] all e = absurd (let never : (let o : Option ℤ = None in o) ≡ Some v = e in cc)
value_of_pairs world a h v (p ∷ pairs) all e = by (p.handle == h) refl e (λ q. value_of_pairs world a h v pairs all.1 q)
  where
    some_is : (x y : ℤ) → (let o : Option ℤ = Some x in o) ≡ Some y → x ≡ y
    some_is x y q = cc

    by : (t : Bool) → (p.handle == h) ≡ t → cond t (Some p.value) (value_among pairs h) ≡ Some v → (value_among pairs h ≡ Some v → v ≡ world a h) → v ≡ world a h
    by true t e ih = sym (some_is p.value v e) ∙ all.0 ∙ ap (world a) (eqb-true p.handle h t)
    by false t e ih = ih e

-- an item says of a handle what the world has
abbrev ItemOf : (ℕ → ℕ → ℤ) → Item → Type 0
ItemOf world item = (a h : ℕ) (v : ℤ) → value_in_update a h item ≡ Some v → v ≡ world a h

-- an update has its sight's actor and the due pairs
pub update_values : (actor : ℕ) (class : Class) (values : List Pair) (seen : Seen) (pairs : List Pair) → Updates actor class values ≡ update_message seen pairs → (actor ≡ seen.actor) × (values ≡ pairs)
update_values actor class values seen pairs e = ((let q : actor ≡ seen.actor = cc in q), (let q : values ≡ pairs = cc in q))

module _ (table : Table) (player : ℕ) (edits : Edits) (end : End) where
  item_of : (past : Past) (shown : (i : ℕ) (seen : Seen) → slice_get (sight_of past) i ≡ Some seen → SightOf table player edits (sight_of past)) (world : ℕ → ℕ → ℤ)
      → ((i : ℕ) (seen : Seen) → slice_get (sight_of past) i ≡ Some seen → ArePairsOf world seen.actor seen.values) → (item : Item) → MaySend end past item → ItemOf world item
  item_of past shown world all (Owed number) may a h v e = absurd (let never : (let o : Option ℤ = None in o) ≡ Some v = e in cc)
  item_of past shown world all (Carries c n b) may a h v e = absurd (let never : (let o : Option ℤ = None in o) ≡ Some v = e in cc)
  item_of past shown world all (Loose (Opens exports actor class values) b) may a h v e = absurd may.2
  item_of past shown world all (Loose (Closes actor sleeps) b) may a h v e = absurd may.2
  item_of past shown world all (Loose (Gone actor) b) may a h v e = absurd may.2
  item_of past shown world all (Loose (Calls actor number call args) b) may a h v e = absurd (let never : (let o : Option ℤ = None in o) ≡ Some v = e in cc)
  item_of past shown world all (Loose (Updates actor class values) b) may a h v e =
      let u : UpdatesSeen past (Updates actor class values) = may.2.2 in
      let same = update_values actor class values u.seen (update_pairs u.seen (due_pairs u.at u.seen)) u.says in
      let values_are : ArePairsOf world actor values =
      subst (λ (x : ℕ). ArePairsOf world x values) (sym same.0) (subst (ArePairsOf world u.seen.actor) (sym same.1)
      (update_all (λ (p : Pair). p.value ≡ world u.seen.actor p.handle) u.at u.seen (all_filtered (λ (p : Pair). p.value ≡ world u.seen.actor p.handle) (is_updatable u.seen) u.seen.values (all u.shown.0 u.seen u.shown.1)))) in
      by (actor == a) refl e values_are
    where
      by : (t : Bool) → (actor == a) ≡ t → cond t (value_among values h) None ≡ Some v → ArePairsOf world actor values → v ≡ world a h
      by true t e p = value_of_pairs world a h v values (subst (λ (x : ℕ). ArePairsOf world x values) (eqb-true actor a t) p) e
      by false t e p = absurd (let never : (let o : Option ℤ = None in o) ≡ Some v = e in cc)

  -- what one sight shows is of one world
  world_of : (shown : List Seen) → ((i : ℕ) (seen : Seen) → slice_get shown i ≡ Some seen → SightOf table player edits shown) → (world : ℕ → ℕ → ℤ) × ((i : ℕ) (seen : Seen) → slice_get shown i ≡ Some seen → ArePairsOf world seen.actor seen.values)
  world_of [] h = ((λ a k. pos 0), λ i seen e. absurd (let never : (let o : Option Seen = None in o) ≡ Some seen = e in cc))
  world_of (s ∷ shown) h =
      let o : SightOf table player edits (s ∷ shown) = h 0 s refl in
      (seen_value table o.before player, λ i seen e. sight_values table o.before player o.earlier i seen (ap (λ (l : List Seen). slice_get l i) (sym o.is) ∙ e))

  -- so each packet's updates agree
  pub packets_agree : (later past : Past) → DeedsFit end past → Seeing table player edits (sights_of (later ++ past)) → (k : ℕ) → SameValues (items_of past k)
  packets_agree later [] fit h k = λ a i v w x y q r e f. absurd q
  packets_agree later (Ticked t s ∷ past) fit h k = packets_agree (later ++ Ticked t s ∷ []) past fit.1 (subst (λ (l : Past). Seeing table player edits (sights_of l)) (sym (append_assoc later (Ticked t s ∷ []) past)) h) k
  packets_agree later (Made c n m i ∷ past) fit h k = packets_agree (later ++ Made c n m i ∷ []) past fit.1 (subst (λ (l : Past). Seeing table player edits (sights_of l)) (sym (append_assoc later (Made c n m i ∷ []) past)) h) k
  packets_agree later (Waits m ∷ past) fit h k = packets_agree (later ++ Waits m ∷ []) past fit.1 (subst (λ (l : Past). Seeing table player edits (sights_of l)) (sym (append_assoc later (Waits m ∷ []) past)) h) k
  packets_agree later (Took n es ds ∷ past) fit h k = packets_agree (later ++ Took n es ds ∷ []) past fit.1 (subst (λ (l : Past). Seeing table player edits (sights_of l)) (sym (append_assoc later (Took n es ds ∷ []) past)) h) k
  packets_agree later (Ended g ∷ past) fit h k = packets_agree (later ++ Ended g ∷ []) past fit.1 (subst (λ (l : Past). Seeing table player edits (sights_of l)) (sym (append_assoc later (Ended g ∷ []) past)) h) k
  packets_agree later (Sent n t items ∷ past) fit h k =
      let behind : Seeing table player edits (sights_of ((later ++ Sent n t items ∷ []) ++ past)) = subst (λ (l : Past). Seeing table player edits (sights_of l)) (sym (append_assoc later (Sent n t items ∷ []) past)) h in
      by (n == k) (packets_agree (later ++ Sent n t items ∷ []) past fit.1 behind k) behind
    where
      by : (b : Bool) → SameValues (items_of past k) → Seeing table player edits (sights_of ((later ++ Sent n t items ∷ []) ++ past)) → SameValues (cond b items (items_of past k))
      by false ih behind = ih
      by true ih behind =
          let shown : (i : ℕ) (seen : Seen) → slice_get (sight_of past) i ≡ Some seen → SightOf table player edits (sight_of past) = λ i seen e. seen_at table player edits (later ++ Sent n t items ∷ []) past behind i seen e in
          let w = world_of (sight_of past) shown in
          λ a h v u x y q r e f.
          item_of past shown w.0 w.1 x (all_at (MaySend end past) x items fit.0.2.each q) a h v e ∙ sym (item_of past shown w.0 w.1 y (all_at (MaySend end past) y items fit.0.2.each r) a h u f)
