-- New packets, delivered one after another.
use Rattle.std.proofs.Common.{◌≡◌, ℕ, zero, suc, ◌+◌, ◌-◌, ◌≤◌, List, [], ◌∷◌, ◌++◌, map, length, Bool, true, false, refl, ap, sym, ◌∙◌, subst, arith, append-nil, if◌then◌else◌, cond}
use Rattle.std.specs.Prelude.{filter}
use Rattle.std.specs.List.{fold, range_with_len}
use Rattle.protocol_model.specs.Side.{Side, AtServer, AtClient}
use Rattle.protocol_model.specs.World.{Edits}
use Rattle.protocol_model.specs.Value.{Table}
use Rattle.script_model.specs.Reports.{Report}
use Rattle.replication_model.specs.Story.{Player, Reported, also_delivery, after_delivery, after_new_deliveries, out_at, with_told, is_kept}
use Rattle.class_layout.specs.Tables.{Layout, table_in}
use Rattle.script_lines.specs.declared.event.Event.{Event}
use Rattle.script_lines.specs.ReportOf.{report_of}
use Rattle.replay_places.specs.declared.place.Place.{Place}
use Rattle.replay_places.specs.Places.{IsPlace}
use Rattle.replay_places.specs.Doing.{IsDone, kept_delivery}
use Rattle.replay_places.proofs.Ticked.{adds_both}

-- one packet more, unless its number is a multiple
abbrev pub also_kept : Table → Edits → Side → (every : ℕ) → Reported → (number : ℕ) → Reported
also_kept table edits side every told k =
    let next = kept_delivery table edits side every k told.0 in (next.0, told.1 ++ next.1)

-- after so many of the packets behind the first `from`
abbrev pub delivered : Table → Edits → Side → (every from : ℕ) → Reported → (count : ℕ) → Reported
delivered table edits side every from told count =
    fold (also_delivery table edits side) told (filter (is_kept every) (range_with_len (from + 1) count))

range_more : (a n : ℕ) → range_with_len a (suc n) ≡ range_with_len a n ++ (a + n) ∷ []
range_more a zero = let e : a + 0 ≡ a = omega arith in ap (λ k. k ∷ []) (sym e)
range_more a (suc n) =
    let e : a + 1 + n ≡ a + suc n = omega arith in
    ap (λ (l : List ℕ). a ∷ l) (range_more (a + 1) n ∙ ap (λ k. range_with_len (a + 1) n ++ k ∷ []) e)

kept_more : (f : ℕ → Bool) (xs : List ℕ) (k : ℕ) → filter f (xs ++ k ∷ []) ≡ filter f xs ++ (if f k then k ∷ [] else [])
kept_more f [] k = by (f k)
  where
    by : (b : Bool) → (if b then k ∷ [] else []) ≡ (if b then k ∷ [] else [])
    by b = refl
kept_more f (x ∷ xs) k = by (f x) (kept_more f xs k)
  where
    by : (b : Bool) → filter f (xs ++ k ∷ []) ≡ filter f xs ++ (if f k then k ∷ [] else [])
        → cond b (x ∷ filter f (xs ++ k ∷ [])) (filter f (xs ++ k ∷ [])) ≡ cond b (x ∷ filter f xs) (filter f xs)
        ++ (if f k then k ∷ [] else [])
    by true e = ap (λ (l : List ℕ). x ∷ l) e
    by false e = e

fold_more : {A : Type 0} (f : A → ℕ → A) (a : A) (xs ys : List ℕ) → fold f a (xs ++ ys) ≡ fold f (fold f a xs) ys
fold_more f a [] ys = refl
fold_more f a (x ∷ xs) ys = fold_more f (f a x) xs ys

-- one more packet
pub one_more : (table : Table) (edits : Edits) (side : Side) (every from : ℕ) (told : Reported) (n : ℕ)
    → delivered table edits side every from told (suc n)
    ≡ also_kept table edits side every (delivered table edits side every from told n) (from + 1 + n)
one_more table edits side every from told n =
    let k = from + 1 + n in
    let before = range_with_len (from + 1) n in
    ap (λ (l : List ℕ). fold (also_delivery table edits side) told (filter (is_kept every) l)) (range_more (from + 1) n)
    ∙ ap (fold (also_delivery table edits side) told) (kept_more (is_kept every) before k)
    ∙ fold_more (also_delivery table edits side) told (filter (is_kept every) before)
    (if is_kept every k then k ∷ [] else [])
    ∙ by (delivered table edits side every from told n) k (is_kept every k) refl
  where
    by : (now : Reported) (k : ℕ) (b : Bool) → is_kept every k ≡ b
        → fold (also_delivery table edits side) now (if is_kept every k then k ∷ [] else [])
        ≡ also_kept table edits side every now k
    by now k true e = rw e refl
    by now k false e = rw e (ap (λ (rs : List Report). let r : Reported = (now.0, rs) in r) (sym (append-nil now.1)))

-- ---- at a place

-- a packet that isn't lost
pub kept_done : (layout : Layout) (l : Place) (edits : Edits) (p : Player) (every n : ℕ) (before told : List Event)
    → is_kept every n ≡ true
    → IsDone layout l before told (after_delivery (table_in layout) edits AtClient n p)
    → IsDone layout l before told (kept_delivery (table_in layout) edits AtClient every n p)
kept_done layout l edits p every n before told e h = rw e h

-- one that is
pub lost_done : (layout : Layout) (k : Place) (edits : Edits) (p : Player) (every n : ℕ) (events : List Event)
    → IsPlace layout k p → is_kept every n ≡ false
    → IsDone layout k events events (kept_delivery (table_in layout) edits AtClient every n p)
lost_done layout k edits p every n events i e =
    rw e (record { stands = i; adds = sym (append-nil (map (report_of (table_in layout)) events)) })

-- before the first of them
pub begins : (layout : Layout) (k : Place) (edits : Edits) (p : Player) (every from to : ℕ) (events : List Event)
    → IsPlace layout k p
    → IsDone layout (record k { told_down = to }) events events
    (delivered (table_in layout) edits AtClient every from (with_told AtClient to p, []) (from - from))
begins layout k edits p every from to events i =
    let none : from - from ≡ 0 = omega arith in
    rw none (record {
      stands = record {
        number = i.number;
        classes = i.classes;
        version = i.version;
        plays = i.plays;
        down = i.down;
        up = i.up;
        told_down = refl;
        told_up = i.told_up;
      };
      adds = sym (append-nil (map (report_of (table_in layout)) events));
    })

-- one more of them
pub also_done : (layout : Layout) (k l : Place) (edits : Edits) (every from at n : ℕ) (start : Reported)
    (before told all : List Event) → from ≤ at → n ≡ at + 1
    → IsDone layout k before told (delivered (table_in layout) edits AtClient every from start (at - from))
    → ((p : Player) → IsPlace layout k p → IsDone layout l told all
    (kept_delivery (table_in layout) edits AtClient every n p))
    → IsDone layout l before all (delivered (table_in layout) edits AtClient every from start (at + 1 - from))
also_done layout k l edits every from at n start before told all low number so does =
    let done = delivered (table_in layout) edits AtClient every from start (at - from) in
    let next = does done.0 so.stands in
    let count : at + 1 - from ≡ suc (at - from) = omega arith in
    let last : from + 1 + (at - from) ≡ n = omega arith in
    let both : IsDone layout l before all (also_kept (table_in layout) edits AtClient every done n) = record {
      stands = next.stands;
      adds = adds_both (table_in layout) before told all done.1
          (kept_delivery (table_in layout) edits AtClient every n done.0).1 so.adds next.adds;
    } in
    subst (IsDone layout l before all)
    (ap (also_kept (table_in layout) edits AtClient every done) (sym last)
    ∙ sym (one_more (table_in layout) edits AtClient every from start (at - from))
    ∙ ap (delivered (table_in layout) edits AtClient every from start) (sym count)) both

-- all of them
pub new_done : (layout : Layout) (k l : Place) (edits : Edits) (p : Player) (every from to at : ℕ)
    (before told : List Event) → IsPlace layout k p
    → from ≡ k.told_down → to ≡ length k.down → to - from ≡ at - from
    → IsDone layout l before told (delivered (table_in layout) edits AtClient every from (with_told AtClient to p, [])
    (at - from))
    → IsDone layout l before told (after_new_deliveries (table_in layout) edits AtClient every p)
new_done layout k l edits p every from to at before told i f t last so =
    let first : from ≡ p.told_client = f ∙ i.told_down in
    let count : to ≡ length (out_at (table_in layout) AtServer p) = t ∙ ap length i.down in
    subst (λ m. IsDone layout l before told (delivered (table_in layout) edits AtClient every p.told_client
    (with_told AtClient m p, []) (m - p.told_client))) count
    (subst (λ m. IsDone layout l before told (delivered (table_in layout) edits AtClient every m
    (with_told AtClient to p, []) (to - m))) first
    (subst (λ m. IsDone layout l before told (delivered (table_in layout) edits AtClient every from
    (with_told AtClient to p, []) m)) (sym last) so))
