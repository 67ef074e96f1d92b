-- Initial-only properties of a copy are those of the tick that made its last open.
use Rattle.std.proofs.Common.{◌≡◌, ℕ, zero, suc, ◌+◌, List, [], ◌∷◌, ◌++◌, map, Bool, true, false, cond, not, ◌==◌, ◌&&◌, refl, sym, ap, ◌∙◌, subst, arith, Option, Some, None, ℤ, pos, append_assoc}
use Rattle.std.specs.Prelude.{unwrap_or, option_map, slice_get, filter}
use Rattle.std.specs.List.{AllByRecursion}
use Rattle.std.proofs.lemmas.Bool.{false≢true, cond_both, eqb-true, eq-eqb, ne_eqb}
use Rattle.protocol_model.specs.declared.Cond.{Cond}
use Rattle.protocol_model.specs.declared.Cond.TheVariants.{Always, InitialOnly}
use Rattle.protocol_model.specs.Value.{Table, Class, Prop, Pair, value_among, prop_at, props_of, numbered_from}
use Rattle.protocol_model.specs.World.{Edits, actors_of, lives, owns, class_of, is_on, value_of}
use Rattle.protocol_model.specs.Cond.{visible, updatable}
use Rattle.protocol_model.specs.Sight.{Seen, seen_of, destroyed_of, entry_of, is_relevant, sight, seen_value, visible_pairs}
use Rattle.protocol_model.specs.Search.{is_among}
use Rattle.protocol_model.specs.Payload.{Opens, Closes, Updates, Calls, Gone}
use Rattle.connection_model.specs.Feed.{End, Past, Ticked, Made, Waits, Sent, Took, Ended, Item, Owed, Carries, Loose}
use Rattle.connection_model.specs.Carry.{value_in_update, due_pairs, is_updatable}
use Rattle.connection_model.specs.Items.{update_pairs}
use Rattle.table_model.specs.Facts.{IsTable}
use Rattle.table_model.specs.Rules.{Entry}
use Rattle.table_model.specs.Grammar.{table_of}
use Rattle.connection_laws.specs.Run.{MaySend, Shows, UpdatesSeen}
use Rattle.connection_laws.specs.Deeds.{DeedsFit}
use Rattle.connection_laws.proofs.Items.{all_weaker}
use Rattle.payload_laws.specs.Accepted.{AreAccepted}
use Rattle.payload_laws.proofs.SightSpelling.{from}
use Rattle.payload_laws.proofs.WorldValues.{same_some}
use Rattle.std.proofs.lemmas.List.Elements.{filter_map-append}
use Rattle.headline_laws.specs.Sights.{sight_in, sights_of, Seeing}
use Rattle.headline_laws.proofs.Sights.{seeing_later, shown_by_last}
use Rattle.recovery_laws.specs.Faithful.{items_of}
use Rattle.recovery_laws.specs.Initial.{IsInitial}
use Rattle.recovery_laws.proofs.CarriedValues.{SaysNothing}
use Rattle.recovery_laws.proofs.SightsAgree.{seeing_behind, update_all, update_values}

-- ---- no update has an initial-only handle

-- what a test keeps passes it
kept_by_test : (test : Pair → Bool) (ps : List Pair) → AllByRecursion (λ (p : Pair). test p ≡ true) (filter test ps)
kept_by_test test [] = tt
kept_by_test test (p ∷ ps) = cond_both (test p) (p ∷ filter test ps) (filter test ps) (AllByRecursion (λ (x : Pair). test x ≡ true)) (λ e. (e, kept_by_test test ps)) (λ e. kept_by_test test ps)

-- an initial-only handle isn't updatable
not_updatable : (seen : Seen) (p : Pair) (h : ℕ) → IsInitial seen.class h → p.handle ≡ h → is_updatable seen p ≡ true → ⊥
not_updatable seen p h i e u =
    let found : prop_at seen.class p.handle ≡ Some i.0 = ap (prop_at seen.class) e ∙ i.1 in
    let says : is_updatable seen p ≡ false = ap (λ (o : Option Prop). unwrap_or (option_map (λ (prop : Prop). updatable prop.cond seen.owns true) o) false) found ∙ ap (λ (c : Cond). updatable c seen.owns true) i.2 in
    false≢true (sym says ∙ u)

-- so no update has it
no_handle : (seen : Seen) (h : ℕ) → IsInitial seen.class h → (pairs : List Pair) → AllByRecursion (λ (p : Pair). is_updatable seen p ≡ true) pairs → value_among pairs h ≡ None
no_handle seen h i [] all = refl
no_handle seen h i (p ∷ pairs) all = ap (λ (t : Bool). cond t (Some p.value) (value_among pairs h)) (ne_eqb p.handle h (λ e. not_updatable seen p h i e all.0)) ∙ no_handle seen h i pairs all.1

module _ (entries : List Entry) (is : IsTable entries) (player : ℕ) (edits : Edits) (ok : AreAccepted (table_of entries) edits) (end : End) (a h : ℕ) (initial : IsInitial (class_of (table_of entries) edits a) h) where
  item_says : (past : Past) → ((i : ℕ) (seen : Seen) → Shows past seen → seen.class ≡ class_of (table_of entries) edits seen.actor) → (item : Item) → MaySend end past item → value_in_update a h item ≡ None
  item_says past same (Owed number) may = refl
  item_says past same (Carries c n b) may = refl
  item_says past same (Loose (Opens exports actor class values) b) may = refl
  item_says past same (Loose (Closes actor sleeps) b) may = refl
  item_says past same (Loose (Gone actor) b) may = refl
  item_says past same (Loose (Calls actor number call args) b) may = refl
  item_says past same (Loose (Updates actor class values) b) may = by (actor == a) refl may.2.2
    where
      by : (t : Bool) → (actor == a) ≡ t → UpdatesSeen past (Updates actor class values) → cond t (value_among values h) None ≡ None
      by false t u = refl
      by true t u =
          let u_is = update_values actor class values u.seen (update_pairs u.seen (due_pairs u.at u.seen)) u.says in
          let class_is : u.seen.class ≡ class_of (table_of entries) edits a = same u.shown.0 u.seen u.shown ∙ ap (class_of (table_of entries) edits) (sym u_is.0 ∙ eqb-true actor a t) in
          let here : IsInitial u.seen.class h = subst (λ (c : Class). IsInitial c h) (sym class_is) initial in
          ap (λ (ps : List Pair). value_among ps h) u_is.1
          ∙ no_handle u.seen h here (update_pairs u.seen (due_pairs u.at u.seen)) (update_all (λ (p : Pair). is_updatable u.seen p ≡ true) u.at u.seen (kept_by_test (is_updatable u.seen) u.seen.values))

  classes_seen : (later past : Past) → Seeing (table_of entries) player edits (sights_of (later ++ past)) → (i : ℕ) (seen : Seen) → Shows past seen → seen.class ≡ class_of (table_of entries) edits seen.actor
  classes_seen later past see i seen shows =
      let r = seeing_behind (table_of entries) player edits (sights_of later) (sights_of past)
      (subst (Seeing (table_of entries) player edits) (filter_map-append sight_in later past) see) in
      let all : Seeing (table_of entries) player edits (sights_of past) = subst (λ (l : Edits). Seeing (table_of entries) player l (sights_of past)) (sym r.2) (seeing_later (table_of entries) player r.0 r.1 (sights_of past) r.3) in
      (shown_by_last entries is player edits ok (sights_of past) all shows.0 seen shows.1).look.same

  pub nothing_initial : (later past : Past) → DeedsFit end past → Seeing (table_of entries) player edits (sights_of (later ++ past)) → (k : ℕ) → SaysNothing a h (items_of past k)
  nothing_initial later [] fit see k = tt
  nothing_initial later (Ticked t s ∷ past) fit see k = nothing_initial (later ++ Ticked t s ∷ []) past fit.1 (subst (λ (l : Past). Seeing (table_of entries) player edits (sights_of l)) (sym (append_assoc later (Ticked t s ∷ []) past)) see) k
  nothing_initial later (Made c n m i ∷ past) fit see k = nothing_initial (later ++ Made c n m i ∷ []) past fit.1 (subst (λ (l : Past). Seeing (table_of entries) player edits (sights_of l)) (sym (append_assoc later (Made c n m i ∷ []) past)) see) k
  nothing_initial later (Waits m ∷ past) fit see k = nothing_initial (later ++ Waits m ∷ []) past fit.1 (subst (λ (l : Past). Seeing (table_of entries) player edits (sights_of l)) (sym (append_assoc later (Waits m ∷ []) past)) see) k
  nothing_initial later (Took n es ds ∷ past) fit see k = nothing_initial (later ++ Took n es ds ∷ []) past fit.1 (subst (λ (l : Past). Seeing (table_of entries) player edits (sights_of l)) (sym (append_assoc later (Took n es ds ∷ []) past)) see) k
  nothing_initial later (Ended g ∷ past) fit see k = nothing_initial (later ++ Ended g ∷ []) past fit.1 (subst (λ (l : Past). Seeing (table_of entries) player edits (sights_of l)) (sym (append_assoc later (Ended g ∷ []) past)) see) k
  nothing_initial later (Sent n t items ∷ past) fit see k =
      let behind : Seeing (table_of entries) player edits (sights_of ((later ++ Sent n t items ∷ []) ++ past)) = subst (λ (l : Past). Seeing (table_of entries) player edits (sights_of l)) (sym (append_assoc later (Sent n t items ∷ []) past)) see in
      by (n == k) (nothing_initial (later ++ Sent n t items ∷ []) past fit.1 behind k) behind
    where
      by : (b : Bool) → SaysNothing a h (items_of past k) → Seeing (table_of entries) player edits (sights_of ((later ++ Sent n t items ∷ []) ++ past)) → SaysNothing a h (cond b items (items_of past k))
      by false ih behind = ih
      by true ih behind = all_weaker (MaySend end past) (λ (item : Item). value_in_update a h item ≡ None) (λ item may. item_says past (classes_seen (later ++ Sent n t items ∷ []) past behind) item may) items fit.0.2.each

-- ---- an open has each initial-only handle

-- the value of a visible handle
seen_there : (world : ℕ → ℤ) (vis : ℕ × Prop → Bool) (props : List Prop) (n i : ℕ) (prop : Prop) → slice_get props i ≡ Some prop → vis (n + i, prop) ≡ true
    → value_among (map (λ (e : ℕ × Prop). record { handle = e.0; value = world e.0 }) (filter vis (numbered_from n props))) (n + i) ≡ Some (world (n + i))
seen_there world vis [] n i prop e v = absurd (let never : (let o : Option Prop = None in o) ≡ Some prop = e in cc)
seen_there world vis (p ∷ props) n zero prop e v =
    let at : n + 0 ≡ n = omega arith in
    let same : p ≡ prop = cc in
    let shown : vis (n, p) ≡ true = ap (λ (x : ℕ). vis (x, p)) (sym at) ∙ ap (λ (x : Prop). vis (n + 0, x)) same ∙ v in
    ap (λ (l : List (ℕ × Prop)). value_among (map (λ (e : ℕ × Prop). record { handle = e.0; value = world e.0 }) l) (n + 0)) (ap (λ (t : Bool). cond t ((n, p) ∷ filter vis (numbered_from (n + 1) props)) (filter vis (numbered_from (n + 1) props))) shown)
    ∙ ap (λ (t : Bool). cond t (Some (world n)) (value_among (map (λ (e : ℕ × Prop). record { handle = e.0; value = world e.0 }) (filter vis (numbered_from (n + 1) props))) (n + 0))) (eq-eqb n (n + 0) (sym at))
    ∙ ap (λ (x : ℕ). Some (world x)) (sym at)
seen_there world vis (p ∷ props) n (suc i) prop e v =
    let at : n + suc i ≡ n + 1 + i = omega arith in
    let rest : value_among (map (λ (e : ℕ × Prop). record { handle = e.0; value = world e.0 }) (filter vis (numbered_from (n + 1) props))) (n + suc i) ≡ Some (world (n + suc i)) =
    subst (λ (x : ℕ). value_among (map (λ (e : ℕ × Prop). record { handle = e.0; value = world e.0 }) (filter vis (numbered_from (n + 1) props))) x ≡ Some (world x)) (sym at) (seen_there world vis props (n + 1) i prop e (ap (λ (x : ℕ). vis (x, prop)) (sym at) ∙ v)) in
    cond_both (vis (n, p)) ((n, p) ∷ filter vis (numbered_from (n + 1) props)) (filter vis (numbered_from (n + 1) props))
    (λ (l : List (ℕ × Prop)). value_among (map (λ (e : ℕ × Prop). record { handle = e.0; value = world e.0 }) l) (n + suc i) ≡ Some (world (n + suc i)))
    (λ t. ap (λ (b : Bool). cond b (Some (world n)) (value_among (map (λ (e : ℕ × Prop). record { handle = e.0; value = world e.0 }) (filter vis (numbered_from (n + 1) props))) (n + suc i))) (ne_eqb n (n + suc i) (λ q. absurd (omega (arith, q)))) ∙ rest)
    (λ t. rest)

-- an initial-only value is visible to all
initial_visible : (c : Cond) (owner on : Bool) → c ≡ InitialOnly → visible c owner on ≡ true
initial_visible c owner on e = ap (λ (x : Cond). visible x owner on) e

-- the role's handle isn't initial-only
not_role : (class : Class) (h : ℕ) → IsInitial class h → (h == 3) ≡ false
not_role class h i = ne_eqb h 3 (λ e. never (ap (prop_at class) (sym e) ∙ i.1) i.2)
  where
    never : prop_at class 3 ≡ Some i.0 → i.0.cond ≡ InitialOnly → ⊥
    never q r = (let role : Always ≡ InitialOnly = ap (λ (o : Option Prop). unwrap_or (option_map (λ (p : Prop). p.cond) o) Always) q ∙ r in cc)

-- what a relevant actor's entry has
pub entry_has : (table : Table) (edits : Edits) (player a h : ℕ) → IsInitial (class_of table edits a) h → value_among (visible_pairs table edits player a) h ≡ Some (value_of table edits a h)
entry_has table edits player a zero i = absurd (let never : (let o : Option Prop = None in o) ≡ Some i.0 = i.1 in cc)
entry_has table edits player a (suc n) i =
    let at : 1 + n ≡ suc n = omega arith in
    let vis : ℕ × Prop → Bool = λ (entry : ℕ × Prop). visible entry.1.cond (owns edits player a) (is_on edits a entry.0) in
    subst (λ (x : ℕ). value_among (visible_pairs table edits player a) x ≡ Some (seen_value table edits player a x)) at
    (seen_there (seen_value table edits player a) (λ (entry : ℕ × Prop). visible entry.1.cond (owns edits player a) (is_on edits a entry.0)) (props_of (class_of table edits a)) 1 n i.0 i.1
    (initial_visible i.0.cond (owns edits player a) (is_on edits a (1 + n)) i.2))
    ∙ ap (λ (t : Bool). Some (cond t (pos (cond (owns edits player a) 1 0)) (value_of table edits a (suc n)))) (not_role (class_of table edits a) (suc n) i)

-- a relevant entry is that of the actor as it is
relevant_entry : (table : Table) (edits : Edits) (player a : ℕ) (seen : Seen) (r d : Bool) → cond r (Some (seen_of table edits player a)) (cond d (Some (destroyed_of table edits a)) None) ≡ Some seen → seen.relevant ≡ true → seen ≡ seen_of table edits player a
relevant_entry table edits player a seen true d e q = sym (same_some (seen_of table edits player a) seen e)
relevant_entry table edits player a seen false true e q = absurd (false≢true (ap (λ (s : Seen). s.relevant) (same_some (destroyed_of table edits a) seen e) ∙ q))
relevant_entry table edits player a seen false false e q = absurd (let never : (let o : Option Seen = None in o) ≡ Some seen = e in cc)

-- an entry that shows the actor relevant shows it as the player sees it
pub relevant_seen : (table : Table) (edits : Edits) (player : ℕ) (earlier : List ℕ) (i : ℕ) (seen : Seen) → slice_get (sight table edits player earlier) i ≡ Some seen → seen.relevant ≡ true → seen ≡ seen_of table edits player seen.actor
relevant_seen table edits player earlier i seen e q =
    let r = from (entry_of table edits player earlier) (actors_of edits) i seen e in
    let s = relevant_entry table edits player r.item seen (is_relevant table edits player r.item) (not (lives edits r.item) && is_among r.item earlier) r.gives q in
    s ∙ ap (seen_of table edits player) (sym (ap (λ (x : Seen). x.actor) s))
