-- A tick of the server, and a call to each player.
use Rattle.std.proofs.Common.{◌≡◌, ℕ, suc, ◌+◌, ◌<◌, ◌≤◌, List, [], ◌∷◌, ◌++◌, map, length, drop, add-one, length-append, Some, refl, ap, sym, ◌∙◌, subst, arith, append-nil, append_assoc}
use Rattle.std.proofs.Math.Seq.{drop-cons}
use Rattle.std.proofs.Math.ListN.{get_or, drop_of_length-le}
use Rattle.std.specs.Prelude.{slice_get, slice_set}
use Rattle.std.proofs.lemmas.Option.{same_Some}
use Rattle.protocol_model.specs.Side.{AtServer}
use Rattle.protocol_model.specs.Value.{Table, Arg}
use Rattle.protocol_model.specs.World.{Edits}
use Rattle.script_model.specs.Lines.{TickAll, CallAll}
use Rattle.script_model.specs.Reports.{Report}
use Rattle.replication_model.specs.Story.{Story, Player, Reported, after_line, after_tick_of, after_call_of}
use Rattle.class_layout.specs.Tables.{Layout, table_in}
use Rattle.net_driver.specs.Served.{Seat, Served, TickOf, tick_of, ticked, after_ticks}
use Rattle.net_driver.specs.Serves.{Drive, Serves}
use Rattle.net_driver.specs.Ticks.{tick_value}
use Rattle.net_driver.specs.declared.report.PlayerTick.{PlayerTick}
use Rattle.script_lines.specs.declared.event.Event.{Event}
use Rattle.script_lines.specs.ReportOf.{report_of}
use Rattle.replay_places.specs.declared.place.Place.{Place}
use Rattle.replay_places.specs.Places.{IsPlace}
use Rattle.replay_places.specs.Doing.{Adds, IsDone}
use Rattle.replay_places.proofs.Ticked.{adds_both}
use Rattle.replay_core.specs.Kept.{Kept}
use Rattle.replay_core.specs.Stands.{Stands, Serving, Ascend, ArePlaces, seat_in}
use Rattle.replay_core.specs.Lines.{IsAt, IsTickOf, AreTicked, AreKept, AreServed, all_after, all_told}
use Rattle.replay_core.specs.Lines as lines
use Rattle.replay_core.proofs.Heard.{place_calls}

-- ---- the driver's tick

-- the seats hear it as their players do
seats_ticked : (table : Table) (edits : Edits) (players : List Player)
    → map (ticked table edits) (map seat_in players) ≡ map seat_in
    (all_after (after_tick_of table edits AtServer) players)
seats_ticked table edits [] = refl
seats_ticked table edits (p ∷ players) = ap (λ (l : List Seat). ticked table edits (seat_in p) ∷ l)
    (seats_ticked table edits players)

pub ticks_serve : (layout : Layout) (old new : Drive) (edits : Edits) (players : List Player)
    → Serving layout old edits players
    → ((s : Served) → Serves old s → Serves new (after_ticks (table_in old.layout) s)) → new.layout ≡ old.layout
    → Serving layout new edits (all_after (after_tick_of (table_in layout) edits AtServer) players)
ticks_serve layout old new edits players h serves classes = record {
  served = after_ticks (table_in old.layout) h.served;
  same_edits = h.same_edits;
  same_seats = ap (λ (l : Layout). map (ticked (table_in l) h.served.edits) h.served.seats) h.classes
      ∙ ap (λ (e : Edits). map (ticked (table_in layout) e) h.served.seats) h.same_edits
      ∙ ap (map (ticked (table_in layout) edits)) h.same_seats ∙ seats_ticked (table_in layout) edits players;
  serves = serves h.served h.serves;
  classes = classes ∙ h.classes;
}

one_tick : (table : Table) (edits : Edits) (p : Player) (t : PlayerTick)
    → tick_value t ≡ tick_of table edits (seat_in p) → IsTickOf table edits p t
one_tick table edits p t e = record {
  packets = ap (λ (k : TickOf). k.sent) e;
  stalls = ap (λ (k : TickOf). k.stalled) e;
}

head_same : (x y : TickOf) (xs ys : List TickOf) → x ∷ xs ≡ y ∷ ys → x ≡ y
head_same x y xs ys e = same_Some x y (ap (λ (l : List TickOf). slice_get l 0) e)

abbrev tail_of : List TickOf → List TickOf
tail_of [] = []
tail_of (x ∷ xs) = xs

are_ticked : (table : Table) (edits : Edits) (players : List Player) (ts : List PlayerTick)
    → map tick_value ts ≡ map (tick_of table edits) (map seat_in players) → AreTicked table edits players ts
are_ticked table edits [] [] e = tt
are_ticked table edits [] (t ∷ ts) e = absurd (cc)
are_ticked table edits (p ∷ players) [] e = absurd (cc)
are_ticked table edits (p ∷ players) (t ∷ ts) e =
    (one_tick table edits p t (head_same _ _ _ _ e), are_ticked table edits players ts (ap tail_of e))

-- what it answers is of each player
pub ticks_of : (layout : Layout) (old : Drive) (edits : Edits) (players : List Player) (ts : List PlayerTick)
    → Serving layout old edits players
    → ((s : Served) → Serves old s → map tick_value ts ≡ map (tick_of (table_in old.layout) s.edits) s.seats)
    → AreTicked (table_in layout) edits players ts
ticks_of layout old edits players ts h sent =
    are_ticked (table_in layout) edits players ts
    (sent h.served h.serves ∙ ap (λ (l : Layout). map (tick_of (table_in l) h.served.edits) h.served.seats) h.classes
    ∙ ap (λ (e : Edits). map (tick_of (table_in layout) e) h.served.seats) h.same_edits
    ∙ ap (map (tick_of (table_in layout) edits)) h.same_seats)

-- ---- a list in two parts

pub get_behind : (xs : List Player) (p : Player) (ys : List Player) → slice_get (xs ++ p ∷ ys) (length xs) ≡ Some p
get_behind [] p ys = refl
get_behind (x ∷ xs) p ys = get_behind xs p ys

pub set_behind : (xs : List Player) (p q : Player) (ys : List Player)
    → slice_set (xs ++ p ∷ ys) (length xs) q ≡ xs ++ q ∷ ys
set_behind [] p q ys = refl
set_behind (x ∷ xs) p q ys = ap (λ (l : List Player). x ∷ l) (set_behind xs p q ys)

pub one_behind : (xs : List Player) (p : Player) (ys : List Player) → xs ++ p ∷ ys ≡ (xs ++ p ∷ []) ++ ys
one_behind xs p ys = sym (append_assoc xs (p ∷ []) ys)

pub told_more : (does : Player → Reported) (xs : List Player) (p : Player)
    → all_told does (xs ++ p ∷ []) ≡ all_told does xs ++ (does p).1
told_more does [] p = append-nil (does p).1
told_more does (x ∷ xs) p =
    ap (λ (l : List Report). (does x).1 ++ l) (told_more does xs p)
    ∙ sym (append_assoc (does x).1 (all_told does xs) (does p).1)

pub after_more : (does : Player → Reported) (xs : List Player) (p : Player)
    → all_after does (xs ++ p ∷ []) ≡ all_after does xs ++ (does p).0 ∷ []
after_more does [] p = refl
after_more does (x ∷ xs) p = ap (λ (l : List Player). (does x).0 ∷ l) (after_more does xs p)

-- the order stays where numbers do
pub ascend_all : (does : Player → Reported) (low : ℕ) (xs ys : List Player)
    → ((p : Player) → (does p).0.number ≡ p.number)
    → Ascend low (xs ++ ys) → Ascend low (all_after does xs ++ ys)
ascend_all does low [] ys same a = a
ascend_all does low (x ∷ xs) ys same a = (
  subst (λ n. low < n) (sym (same x)) a.0,
  subst (λ n. Ascend n (all_after does xs ++ ys)) (sym (same x)) (ascend_all does x.number xs ys same a.1),
)

-- ---- kept at the places one after another

length_after : (does : Player → Reported) (xs : List Player) → length (all_after does xs) ≡ length xs
length_after does [] = refl
length_after does (x ∷ xs) = ap suc (length_after does xs)

-- the first players' parts went on, and the others' are to come
pub record KeptSoFar (layout : Layout) (edits : Edits) (players : List Player) (now : List Place)
    (left : List PlayerTick) (i : ℕ)
    (before told : List Event) : Type 0 where
  pub front : List Player
  pub rest : List Player
  pub split : players ≡ front ++ rest
  pub index : i ≡ length front
  pub places : ArePlaces layout now (all_after (after_tick_of (table_in layout) edits AtServer) front ++ rest)
  pub ticked : AreTicked (table_in layout) edits rest left
  pub adds : Adds (table_in layout) before told (all_told (after_tick_of (table_in layout) edits AtServer) front)

nothing_told : (table : Table) (events : List Event) → Adds table events events []
nothing_told table events = sym (append-nil (map (report_of table) events))

pub kept_none : (layout : Layout) (edits : Edits) (players : List Player) (now : List Place) (ts : List PlayerTick)
    (events : List Event)
    → ArePlaces layout now players → AreTicked (table_in layout) edits players ts
    → KeptSoFar layout edits players now ts 0 events events
kept_none layout edits players now ts events a t = record {
  front = [];
  rest = players;
  split = refl;
  index = refl;
  places = a;
  ticked = t;
  adds = nothing_told (table_in layout) events;
}

-- the next player, at whose place the tick is kept
next_place : (layout : Layout) (xs : List Player) (now : List Place) (rest : List Player)
    → ArePlaces layout now (xs ++ rest) → length xs < length now
    → (p : Player) × (more : List Player) × (rest ≡ p ∷ more)
next_place layout [] [] [] a h = absurd (omega arith)
next_place layout [] [] (p ∷ rest) a h = absurd a
next_place layout [] (k ∷ now) [] a h = absurd a
next_place layout [] (k ∷ now) (p ∷ rest) a h = (p, rest, refl)
next_place layout (x ∷ xs) [] rest a h = absurd a
next_place layout (x ∷ xs) (k ∷ now) rest a h = next_place layout xs now rest a.1 (omega arith)

-- who stands there
stands_at : (layout : Layout) (xs : List Player) (now : List Place) (p : Player) (rest : List Player) (k : Place)
    → ArePlaces layout now (xs ++ p ∷ rest)
    → slice_get now (length xs) ≡ Some k → IsPlace layout k p
stands_at layout [] [] p rest k a e = absurd a
stands_at layout [] (x ∷ now) p rest k a e = subst (λ (k : Place). IsPlace layout k p) (same_Some x k e) a.0
stands_at layout (y ∷ xs) [] p rest k a e = absurd a
stands_at layout (y ∷ xs) (x ∷ now) p rest k a e = stands_at layout xs now p rest k a.1 e

-- one place and its player go on
sets_at : (layout : Layout) (xs : List Player) (now : List Place) (p q : Player) (rest : List Player) (k : Place)
    → ArePlaces layout now (xs ++ p ∷ rest)
    → IsPlace layout k q → ArePlaces layout (slice_set now (length xs) k) ((xs ++ q ∷ []) ++ rest)
sets_at layout [] [] p q rest k a h = absurd a
sets_at layout [] (x ∷ now) p q rest k a h = (h, a.1)
sets_at layout (y ∷ xs) [] p q rest k a h = absurd a
sets_at layout (y ∷ xs) (x ∷ now) p q rest k a h = (a.0, sets_at layout xs now p q rest k a.1 h)

-- the tick of the next player
pub kept_next : (layout : Layout) (edits : Edits) (players : List Player) (now : List Place) (t : PlayerTick)
    (ts : List PlayerTick) (i : ℕ)
    (before told : List Event) (k : Place) → KeptSoFar layout edits players now (t ∷ ts) i before told → i < length now
    → slice_get now i ≡ Some k
    → (p : Player) × IsPlace layout k p × IsTickOf (table_in layout) edits p t
kept_next layout edits players now t ts i before told k s few e =
    let does = after_tick_of (table_in layout) edits AtServer in
    let counted : i ≡ length (all_after does s.front) = s.index ∙ sym (length_after does s.front) in
    let next = next_place layout (all_after does s.front) now s.rest s.places (omega arith) in
    let here = subst (λ (l : List Player). ArePlaces layout now (all_after does s.front ++ l)) next.2 s.places in
    let of = subst (λ (l : List Player). AreTicked (table_in layout) edits l (t ∷ ts)) next.2 s.ticked in (
      next.0,
      stands_at layout (all_after does s.front) now next.0 next.1 k here (ap (slice_get now) (sym counted) ∙ e),
      of.0,
    )

-- and it was kept
pub kept_one : (layout : Layout) (edits : Edits) (players : List Player) (now : List Place) (t : PlayerTick)
    (ts : List PlayerTick) (i : ℕ)
    (before told all : List Event) (k l : Place) → KeptSoFar layout edits players now (t ∷ ts) i before told
    → i < length now → slice_get now i ≡ Some k
    → ((p : Player) → IsTickOf (table_in layout) edits p t → IsPlace layout k p
    → IsDone layout l told all (after_tick_of (table_in layout) edits AtServer p))
    → KeptSoFar layout edits players (slice_set now i l) ts (i + 1) before all
kept_one layout edits players now t ts i before told all k l s few e goes =
    let does = after_tick_of (table_in layout) edits AtServer in
    let counted : i ≡ length (all_after does s.front) = s.index ∙ sym (length_after does s.front) in
    let next = next_place layout (all_after does s.front) now s.rest s.places (omega arith) in
    let p = next.0 in
    let here = subst (λ (l : List Player). ArePlaces layout now (all_after does s.front ++ l)) next.2 s.places in
    let of = subst (λ (l : List Player). AreTicked (table_in layout) edits l (t ∷ ts)) next.2 s.ticked in
    let stands = stands_at layout (all_after does s.front) now p next.1 k here (ap (slice_get now) (sym counted) ∙ e) in
    let done = goes p of.0 stands in
    record {
      front = s.front ++ p ∷ [];
      rest = next.1;
      split = s.split ∙ ap (λ (l : List Player). s.front ++ l) next.2 ∙ one_behind s.front p next.1;
      index = longer i s.front p s.index;
      places = subst (λ n. ArePlaces layout (slice_set now n l) (all_after does (s.front ++ p ∷ []) ++ next.1))
          (sym counted)
          (subst (λ (ps : List Player). ArePlaces layout (slice_set now (length (all_after does s.front)) l)
          (ps ++ next.1)) (sym (after_more does s.front p))
          (sets_at layout (all_after does s.front) now p (does p).0 next.1 l here done.stands));
      ticked = of.1;
      adds = subst (Adds (table_in layout) before all) (sym (told_more does s.front p))
          (adds_both (table_in layout) before told all (all_told does s.front) (does p).1 s.adds done.adds);
    }
  where
    longer : (i : ℕ) (xs : List Player) (p : Player) → i ≡ length xs → i + 1 ≡ length (xs ++ p ∷ [])
    longer i xs p e = ap (λ n. n + 1) e ∙ sym (length-append xs (p ∷ []))

-- no tick is missing
pub kept_left : (layout : Layout) (edits : Edits) (players : List Player) (now : List Place) (i : ℕ)
    (before told : List Event)
    → KeptSoFar layout edits players now [] i before told → i < length now → ⊥
kept_left layout edits players now i before told s few =
    let does = after_tick_of (table_in layout) edits AtServer in
    let counted : i ≡ length (all_after does s.front) = s.index ∙ sym (length_after does s.front) in
    let next = next_place layout (all_after does s.front) now s.rest s.places (omega arith) in
    subst (λ (l : List Player). AreTicked (table_in layout) edits l []) next.2 s.ticked

-- after the last place all are kept
pub kept_all : (layout : Layout) (edits : Edits) (players : List Player) (now : List Place) (ts : List PlayerTick)
    (i : ℕ) (before told : List Event)
    → KeptSoFar layout edits players now ts i before told → length now ≤ i
    → AreKept layout now before told (after_tick_of (table_in layout) edits AtServer) players
kept_all layout edits players now ts i before told s last =
    let does = after_tick_of (table_in layout) edits AtServer in
    let counted : i ≡ length (all_after does s.front) = s.index ∙ sym (length_after does s.front) in
    let none = over layout (all_after does s.front) now s.rest s.places (omega arith) in
    let whole : players ≡ s.front = s.split ∙ ap (λ (l : List Player). s.front ++ l) none ∙ append-nil s.front in
    record {
      places = subst (λ (ps : List Player). ArePlaces layout now (all_after does ps)) (sym whole)
          (subst (ArePlaces layout now) (ap (λ (l : List Player). all_after does s.front ++ l) none
          ∙ append-nil (all_after does s.front)) s.places);
      adds = subst (λ (ps : List Player). Adds (table_in layout) before told (all_told does ps)) (sym whole) s.adds;
    }
  where
    over : (layout : Layout) (xs : List Player) (now : List Place) (rest : List Player)
        → ArePlaces layout now (xs ++ rest) → length now ≤ length xs → rest ≡ []
    over layout [] [] [] a h = refl
    over layout [] [] (p ∷ rest) a h = absurd a
    over layout [] (k ∷ now) rest a h = absurd (omega arith)
    over layout (x ∷ xs) [] rest a h = absurd a
    over layout (x ∷ xs) (k ∷ now) rest a h = over layout xs now rest a.1 (omega arith)

-- ---- a call to each player

-- the first players were called
pub record CalledSoFar (layout : Layout) (d : Drive) (edits : Edits) (does : Player → Reported) (players : List Player)
    (left : List Place)
    (before told : List Event) : Type 0 where
  pub front : List Player
  pub rest : List Player
  pub split : players ≡ front ++ rest
  pub places : ArePlaces layout left rest
  pub serving : Serving layout d edits (all_after does front ++ rest)
  pub ascend : Ascend 0 (all_after does front ++ rest)
  pub adds : Adds (table_in layout) before told (all_told does front)

pub called_none : (layout : Layout) (d : Drive) (edits : Edits) (does : Player → Reported) (players : List Player)
    (left : List Place) (events : List Event)
    → Serving layout d edits players → Ascend 0 players → ArePlaces layout left players
    → CalledSoFar layout d edits does players left events events
called_none layout d edits does players left events h a p = record {
  front = [];
  rest = players;
  split = refl;
  places = p;
  serving = h;
  ascend = a;
  adds = nothing_told (table_in layout) events;
}

pub first_left : (layout : Layout) (k : Place) (left : List Place) (rest : List Player) → ArePlaces layout (k ∷ left) rest
    → (p : Player) × (more : List Player) × (rest ≡ p ∷ more) × IsPlace layout k p × ArePlaces layout left more
first_left layout k left [] a = absurd a
first_left layout k left (p ∷ rest) a = (p, rest, refl, a.0, a.1)

-- the next player stands behind those that were called
pub called_next : (layout : Layout) (d : Drive) (edits : Edits) (does : Player → Reported) (players : List Player)
    (k : Place) (left : List Place)
    (before told : List Event) → (s : CalledSoFar layout d edits does players (k ∷ left) before told)
    → (p : Player) × (all : List Player) × (i : ℕ) × Serving layout d edits all × IsAt all i p × (k.player ≡ p.number)
called_next layout d edits does players k left before told s =
    let next = first_left layout k left s.rest s.places in
    let all = all_after does s.front ++ next.0 ∷ next.1 in
    let same = ap (λ (l : List Player). all_after does s.front ++ l) next.2 in (
      next.0,
      all,
      length (all_after does s.front),
      subst (Serving layout d edits) same s.serving,
      record { ascend = subst (Ascend 0) same s.ascend; there = get_behind (all_after does s.front) next.0 next.1 },
      next.3.number,
    )

-- and was called
pub called_one : (layout : Layout) (d later : Drive) (edits : Edits) (does : Edits → Player → Reported)
    (players : List Player) (k : Place) (left : List Place)
    (before told all : List Event) → ((p : Player) → (does edits p).0.number ≡ p.number)
    → CalledSoFar layout d edits (does edits) players (k ∷ left) before told
    → lines.Serves layout does k.player d later told all
    → CalledSoFar layout later edits (does edits) players left before all
called_one layout d later edits does players k left before told all numbers s serves =
    let part = does edits in
    let next = first_left layout k left s.rest s.places in
    let p = next.0 in
    let more = next.1 in
    let ahead = all_after part s.front in
    let same = ap (λ (l : List Player). ahead ++ l) next.2 in
    let ascend = subst (Ascend 0) same s.ascend in
    let done = serves edits (ahead ++ p ∷ more) (length ahead) p (subst (Serving layout d edits) same s.serving)
    (record { ascend = ascend; there = get_behind ahead p more }) next.3.number in
    let now : slice_set (ahead ++ p ∷ more) (length ahead) (part p).0 ≡ all_after part (s.front ++ p ∷ []) ++ more =
    set_behind ahead p (part p).0 more ∙ one_behind ahead (part p).0 more
    ∙ ap (λ (l : List Player). l ++ more) (sym (after_more part s.front p)) in
    let whole : players ≡ (s.front ++ p ∷ []) ++ more = s.split ∙ ap (λ (l : List Player). s.front ++ l) next.2
    ∙ one_behind s.front p more in
    record {
      front = s.front ++ p ∷ [];
      rest = more;
      split = whole;
      places = next.4;
      serving = subst (Serving layout later edits) now done.serving;
      ascend = subst (Ascend 0) now (set_ascends ahead p (part p).0 more ascend (numbers p));
      adds = subst (Adds (table_in layout) before all) (sym (told_more part s.front p))
          (adds_both (table_in layout) before told all (all_told part s.front) (part p).1 s.adds done.adds);
    }
  where
    sets : (low : ℕ) (xs : List Player) (p q : Player) (ys : List Player) → Ascend low (xs ++ p ∷ ys)
        → q.number ≡ p.number
        → Ascend low (slice_set (xs ++ p ∷ ys) (length xs) q)
    sets low [] p q ys a e = (subst (λ n. low < n) (sym e) a.0, subst (λ n. Ascend n ys) (sym e) a.1)
    sets low (x ∷ xs) p q ys a e = (a.0, sets x.number xs p q ys a.1 e)

    set_ascends : (xs : List Player) (p q : Player) (ys : List Player) → Ascend 0 (xs ++ p ∷ ys) → q.number ≡ p.number
        → Ascend 0 (slice_set (xs ++ p ∷ ys) (length xs) q)
    set_ascends xs p q ys a e = sets 0 xs p q ys a e

-- all were
pub called_all : (layout : Layout) (d : Drive) (edits : Edits) (does : Player → Reported) (players : List Player)
    (before told : List Event)
    → CalledSoFar layout d edits does players [] before told → AreServed layout d before told edits does players
called_all layout d edits does players before told s =
    let none = over layout s.rest s.places in
    let whole : players ≡ s.front = s.split ∙ ap (λ (l : List Player). s.front ++ l) none ∙ append-nil s.front in
    record {
      serving = subst (λ (ps : List Player). Serving layout d edits (all_after does ps)) (sym whole)
          (subst (Serving layout d edits) (ap (λ (l : List Player). all_after does s.front ++ l) none
          ∙ append-nil (all_after does s.front)) s.serving);
      adds = subst (λ (ps : List Player). Adds (table_in layout) before told (all_told does ps)) (sym whole) s.adds;
    }
  where
    over : (layout : Layout) (rest : List Player) → ArePlaces layout [] rest → rest ≡ []
    over layout [] a = refl
    over layout (p ∷ rest) a = absurd a

-- the place that is next
pub next_item : (places : List Place) (i : ℕ) (k : Place) → k ≡ get_or places i k → i < length places
    → drop i places ≡ k ∷ drop (i + 1) places
next_item places i k is within = rw (add-one, drop-cons places i k)
    (ap (λ (x : Place). x ∷ drop (suc i) places) (sym is))

pub none_left : (places : List Place) (i : ℕ) → length places ≤ i → drop i places ≡ []
none_left places i h = drop_of_length-le places h

-- ---- the whole

-- the order stays where numbers do
whole_ascends : (does : Player → Reported) (players : List Player) → ((p : Player) → (does p).0.number ≡ p.number)
    → Ascend 0 players
    → Ascend 0 (all_after does players)
whole_ascends does players same a =
    subst (Ascend 0) (append-nil (all_after does players))
    (ascend_all does 0 players [] same (subst (Ascend 0) (sym (append-nil players)) a))

-- a call that the server makes leaves the places
places_called : (layout : Layout) (places : List Place) (players : List Player) (a n : ℕ) (args : List Arg)
    → ArePlaces layout places players
    → ArePlaces layout places (all_after (after_call_of (table_in layout) AtServer a n args) players)
places_called layout [] [] a n args h = tt
places_called layout [] (p ∷ players) a n args h = absurd h
places_called layout (k ∷ places) [] a n args h = absurd h
places_called layout (k ∷ places) (p ∷ players) a n args h = (
  place_calls layout k p a n args h.0,
  places_called layout
      places players a n args h.1,
)

-- the server ticked, and all of it was kept and told
pub all_ticked : (r : Kept) (story : Story) (d : Drive) (now : List Place) (ts : List PlayerTick)
    (before told : List Event) → Stands r story
    → ((edits : Edits) (players : List Player) → Serving r.layout r.driver edits players
    → Serving r.layout d edits (all_after (after_tick_of (table_in r.layout) edits AtServer) players))
    → ((edits : Edits) (players : List Player) → Serving r.layout r.driver edits players
    → AreTicked (table_in r.layout) edits players ts)
    → ((edits : Edits) (players : List Player) → ArePlaces r.layout r.places players
    → AreTicked (table_in r.layout) edits players ts
    → AreKept r.layout now before told (after_tick_of (table_in r.layout) edits AtServer) players)
    → before ≡ []
    → Stands (record r { driver = d; places = now }) (after_line (table_in r.layout) story TickAll).0
    × (map (report_of (table_in r.layout)) told ≡ (after_line (table_in r.layout) story TickAll).1)
all_ticked r story d now ts before told s serves sent kept none =
    let does = after_tick_of (table_in r.layout) story.edits AtServer in
    let all = kept story.edits story.players s.places (sent story.edits story.players s.serving) in (
      record {
        serving = serves story.edits story.players s.serving;
        places = all.places;
        ascend = whole_ascends does story.players (λ p. refl) s.ascend;
        kept = s.kept;
      },
      all.adds ∙ ap (λ (es : List Event). map (report_of (table_in r.layout)) es ++ all_told does story.players) none,
    )

-- each player was called
pub all_called : (r : Kept) (story : Story) (d : Drive) (a n : ℕ) (args : List Arg) (before told : List Event)
    → Stands r story
    → ((edits : Edits) (players : List Player) → Serving r.layout r.driver edits players → Ascend 0 players
    → ArePlaces r.layout r.places players
    → AreServed r.layout d before told edits (after_call_of (table_in r.layout) AtServer a n args) players)
    → before ≡ []
    → Stands (record r { driver = d }) (after_line (table_in r.layout) story (CallAll a n args)).0
    × (map (report_of (table_in r.layout)) told ≡ (after_line (table_in r.layout) story (CallAll a n args)).1)
all_called r story d a n args before told s called none =
    let does = after_call_of (table_in r.layout) AtServer a n args in
    let all = called story.edits story.players s.serving s.ascend s.places in (
      record {
        serving = all.serving;
        places = places_called r.layout r.places story.players a n args s.places;
        ascend = whole_ascends does story.players (λ p. refl) s.ascend;
        kept = s.kept;
      },
      all.adds ∙ ap (λ (es : List Event). map (report_of (table_in r.layout)) es ++ all_told does story.players) none,
    )
