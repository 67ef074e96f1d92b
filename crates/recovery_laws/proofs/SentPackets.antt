-- The packets of a server by their numbers.
use Rattle.std.proofs.Common.{◌≡◌, inl, inr, ℕ, ◌<◌, ◌≤◌, max, List, [], ◌∷◌, ◌++◌, Bool, true, false, cond, ◌==◌, refl, sym, ap, ◌∙◌, subst, arith, if◌then◌else◌}
use Rattle.std.specs.List.{filter_map, AllByRecursion}
use Rattle.std.proofs.lemmas.Bool.{cases_eq, eq-eqb, ne_eqb}
use Rattle.protocol_model.specs.declared.Version.{Version}
use Rattle.protocol_model.specs.Packet.{Bunch}
use Rattle.protocol_model.specs.Payload.{Message}
use Rattle.connection_model.specs.Feed.{End, Past, Deed, Ticked, Made, Waits, Sent, Took, Ended, Item, Carries}
use Rattle.connection_model.specs.Fates.{last_sent, sent_in}
use Rattle.connection_model.specs.Bunches.{made_count}
use Rattle.protocol_laws.proofs.Greatest.{greatest_of-cons}
use Rattle.connection_laws.specs.Deeds.{DeedsFit}
use Rattle.connection_laws.specs.Link.{SaysItem, all_said, said_by}
use Rattle.connection_laws.proofs.Counts.{made_count_same, made_count_other}
use Rattle.connection_laws.proofs.PacketsSay.{IsIn, carried_facts}
use Rattle.recovery_laws.specs.Faithful.{items_of}
use Rattle.recovery_laws.proofs.FoundOpens.{IsMade}

-- ---- where a packet stands

-- where packet k was sent, and with which items
pub record SentAt (past : Past) (k : ℕ) : Type 0 where
  pub later : Past
  pub tick : ℕ
  pub items : List Item
  pub earlier : Past
  pub split : past ≡ later ++ Sent k tick items ∷ earlier

-- what was sent below a deed was sent
sent_behind : (past : Past) (k : ℕ) (deed : Deed) → SentAt past k → SentAt (deed ∷ past) k
sent_behind past k deed s = record { later = deed ∷ s.later; tick = s.tick; items = s.items; earlier = s.earlier; split = ap (λ (l : Past). deed ∷ l) s.split }

-- each packet up to the last one was sent
pub sent_at : (end : End) (past : Past) → DeedsFit end past → (k : ℕ) → 1 ≤ k → k ≤ last_sent past → SentAt past k
sent_at end [] fit k lo hi = absurd (omega (arith, lo, hi))
sent_at end (Ticked t s ∷ past) fit k lo hi = sent_behind past k (Ticked t s) (sent_at end past fit.1 k lo hi)
sent_at end (Made c n m i ∷ past) fit k lo hi = sent_behind past k (Made c n m i) (sent_at end past fit.1 k lo hi)
sent_at end (Waits m ∷ past) fit k lo hi = sent_behind past k (Waits m) (sent_at end past fit.1 k lo hi)
sent_at end (Took n es ds ∷ past) fit k lo hi = sent_behind past k (Took n es ds) (sent_at end past fit.1 k lo hi)
sent_at end (Ended g ∷ past) fit k lo hi = sent_behind past k (Ended g) (sent_at end past fit.1 k lo hi)
sent_at end (Sent n t items ∷ past) fit k lo hi = elim (cases_eq n k) [
  | inl e ↦ record { later = []; tick = t; items = items; earlier = past; split = ap (λ (x : ℕ). Sent x t items ∷ past) e }
  | inr ne ↦ sent_behind past k (Sent n t items) (sent_at end past fit.1 k lo (below ne))
]
  where
    below : (n ≡ k → ⊥) → k ≤ last_sent past
    below ne = omega (arith, ne, hi, fit.0.0, greatest_of-cons n (filter_map sent_in past))

-- its number is among those sent
pub sent_least : (later : Past) (k t : ℕ) (items : List Item) (earlier : Past) → k ≤ last_sent (later ++ Sent k t items ∷ earlier)
sent_least [] k t items earlier = omega (arith, greatest_of-cons k (filter_map sent_in earlier))
sent_least (Ticked x s ∷ later) k t items earlier = sent_least later k t items earlier
sent_least (Made c n m i ∷ later) k t items earlier = sent_least later k t items earlier
sent_least (Waits m ∷ later) k t items earlier = sent_least later k t items earlier
sent_least (Took n es ds ∷ later) k t items earlier = sent_least later k t items earlier
sent_least (Ended g ∷ later) k t items earlier = sent_least later k t items earlier
sent_least (Sent n x others ∷ later) k t items earlier = omega (arith, greatest_of-cons n (filter_map sent_in (later ++ Sent k t items ∷ earlier)), sent_least later k t items earlier)

-- ---- the items of a packet

-- a packet not sent yet has no items
items_above : (end : End) (past : Past) → DeedsFit end past → (k : ℕ) → last_sent past < k → items_of past k ≡ []
items_above end [] fit k lt = refl
items_above end (Ticked t s ∷ past) fit k lt = items_above end past fit.1 k lt
items_above end (Made c n m i ∷ past) fit k lt = items_above end past fit.1 k lt
items_above end (Waits m ∷ past) fit k lt = items_above end past fit.1 k lt
items_above end (Took n es ds ∷ past) fit k lt = items_above end past fit.1 k lt
items_above end (Ended g ∷ past) fit k lt = items_above end past fit.1 k lt
items_above end (Sent n t items ∷ past) fit k lt =
    let top : last_sent (Sent n t items ∷ past) ≡ max n (last_sent past) = greatest_of-cons n (filter_map sent_in past) in
    ap (λ (b : Bool). cond b items (items_of past k)) (ne_eqb n k (λ e. absurd (omega (arith, e, lt, top)))) ∙ items_above end past fit.1 k (omega (arith, lt, top))

-- the items of a packet are those that it was sent with
pub items_at : (end : End) (later : Past) (k t : ℕ) (items : List Item) (earlier : Past) → DeedsFit end (later ++ Sent k t items ∷ earlier) → items_of (later ++ Sent k t items ∷ earlier) k ≡ items
items_at end [] k t items earlier fit = ap (λ (b : Bool). cond b items (items_of earlier k)) (eq-eqb k k refl)
items_at end (Ticked x s ∷ later) k t items earlier fit = items_at end later k t items earlier fit.1
items_at end (Made c n m i ∷ later) k t items earlier fit = items_at end later k t items earlier fit.1
items_at end (Waits m ∷ later) k t items earlier fit = items_at end later k t items earlier fit.1
items_at end (Took n es ds ∷ later) k t items earlier fit = items_at end later k t items earlier fit.1
items_at end (Ended g ∷ later) k t items earlier fit = items_at end later k t items earlier fit.1
items_at end (Sent n x others ∷ later) k t items earlier fit =
    ap (λ (b : Bool). cond b others (items_of (later ++ Sent k t items ∷ earlier) k)) (ne_eqb n k (λ e. absurd (omega (arith, e, fit.0.0, sent_least later k t items earlier))))
    ∙ items_at end later k t items earlier fit.1

-- ---- what holds of the packets of some deeds

-- what holds of the items of a deed that sends
abbrev pub SentHas : (List Item → Type 0) → Deed → Type 0
SentHas P (Sent n t items) = P items
SentHas P (Ticked t s) = Unit {0}
SentHas P (Made c n m i) = Unit {0}
SentHas P (Waits m) = Unit {0}
SentHas P (Took n es ds) = Unit {0}
SentHas P (Ended g) = Unit {0}

-- the later packets
pub items_after : (P : List Item → Type 0) → P [] → (end : End) (later : Past) (k t : ℕ) (items : List Item) (earlier : Past) → DeedsFit end (later ++ Sent k t items ∷ earlier)
    → AllByRecursion (SentHas P) later → (n : ℕ) → k < n → P (items_of (later ++ Sent k t items ∷ earlier) n)
items_after P nil end [] k t items earlier fit all n lt =
    subst P (sym (ap (λ (b : Bool). cond b items (items_of earlier n)) (ne_eqb k n (λ e. absurd (omega (arith, e, lt)))) ∙ items_above end earlier fit.1 n (omega (arith, lt, fit.0.0)))) nil
items_after P nil end (Ticked x s ∷ later) k t items earlier fit all n lt = items_after P nil end later k t items earlier fit.1 all.1 n lt
items_after P nil end (Made c x m i ∷ later) k t items earlier fit all n lt = items_after P nil end later k t items earlier fit.1 all.1 n lt
items_after P nil end (Waits m ∷ later) k t items earlier fit all n lt = items_after P nil end later k t items earlier fit.1 all.1 n lt
items_after P nil end (Took x es ds ∷ later) k t items earlier fit all n lt = items_after P nil end later k t items earlier fit.1 all.1 n lt
items_after P nil end (Ended g ∷ later) k t items earlier fit all n lt = items_after P nil end later k t items earlier fit.1 all.1 n lt
items_after P nil end (Sent x y others ∷ later) k t items earlier fit all n lt =
    by (x == n) (items_after P nil end later k t items earlier fit.1 all.1 n lt)
  where
    by : (b : Bool) → P (items_of (later ++ Sent k t items ∷ earlier) n) → P (cond b others (items_of (later ++ Sent k t items ∷ earlier) n))
    by true h = all.0
    by false h = h

-- ---- what was made when a packet was sent

-- how many bunches of the channel were made when packet k was sent
abbrev pub made_before : Past → (k ch : ℕ) → ℕ
made_before [] k ch = 0
made_before (Sent n t items ∷ past) k ch = if n == k then made_count past ch else made_before past k ch
made_before (Ticked t s ∷ past) k ch = made_before past k ch
made_before (Made c n m i ∷ past) k ch = made_before past k ch
made_before (Waits m ∷ past) k ch = made_before past k ch
made_before (Took n es ds ∷ past) k ch = made_before past k ch
made_before (Ended g ∷ past) k ch = made_before past k ch

-- the count of bunches grows
count_grows : (c n : ℕ) (m : Message) (i : ℕ) (past : Past) (ch : ℕ) → made_count past ch ≤ made_count (Made c n m i ∷ past) ch
count_grows c n m i past ch = elim (cases_eq c ch) [
  | inl e ↦ subst (λ (x : ℕ). made_count past ch ≤ made_count (Made x n m i ∷ past) ch) (sym e) (omega (arith, made_count_same ch n m i past))
  | inr e ↦ omega (arith, made_count_other ch c n m i past e)
]

-- what was made before is at most what is made now
made_before_most : (past : Past) (k ch : ℕ) → made_before past k ch ≤ made_count past ch
made_before_most [] k ch = omega arith
made_before_most (Ticked t s ∷ past) k ch = made_before_most past k ch
made_before_most (Made c n m i ∷ past) k ch = omega (arith, made_before_most past k ch, count_grows c n m i past ch)
made_before_most (Waits m ∷ past) k ch = made_before_most past k ch
made_before_most (Took n es ds ∷ past) k ch = made_before_most past k ch
made_before_most (Ended g ∷ past) k ch = made_before_most past k ch
made_before_most (Sent n t items ∷ past) k ch = by (n == k) (made_before_most past k ch)
  where
    by : (b : Bool) → made_before past k ch ≤ made_count past ch → cond b (made_count past ch) (made_before past k ch) ≤ made_count past ch
    by true h = omega arith
    by false h = h

-- that is their count in the past below the sending
pub made_before_at : (end : End) (later : Past) (k t : ℕ) (items : List Item) (earlier : Past) → DeedsFit end (later ++ Sent k t items ∷ earlier) → (ch : ℕ) → made_before (later ++ Sent k t items ∷ earlier) k ch ≡ made_count earlier ch
made_before_at end [] k t items earlier fit ch = ap (λ (b : Bool). cond b (made_count earlier ch) (made_before earlier k ch)) (eq-eqb k k refl)
made_before_at end (Ticked x s ∷ later) k t items earlier fit ch = made_before_at end later k t items earlier fit.1 ch
made_before_at end (Made c n m i ∷ later) k t items earlier fit ch = made_before_at end later k t items earlier fit.1 ch
made_before_at end (Waits m ∷ later) k t items earlier fit ch = made_before_at end later k t items earlier fit.1 ch
made_before_at end (Took n es ds ∷ later) k t items earlier fit ch = made_before_at end later k t items earlier fit.1 ch
made_before_at end (Ended g ∷ later) k t items earlier fit ch = made_before_at end later k t items earlier fit.1 ch
made_before_at end (Sent n x others ∷ later) k t items earlier fit ch =
    ap (λ (b : Bool). cond b (made_count (later ++ Sent k t items ∷ earlier) ch) (made_before (later ++ Sent k t items ∷ earlier) k ch)) (ne_eqb n k (λ e. absurd (omega (arith, e, fit.0.0, sent_least later k t items earlier))))
    ∙ made_before_at end later k t items earlier fit.1 ch

-- a packet that was sent when this bunch was made is one of those sent after it
pub items_behind : (P : List Item → Type 0) → P [] → (end : End) (front parts : Past) (ch n : ℕ) (m : Message) (older : Past) → AllByRecursion (SentHas P) front → AllByRecursion IsMade parts
    → DeedsFit end (front ++ parts ++ Made ch n m 0 ∷ older) → (k : ℕ) → n ≤ made_before (front ++ parts ++ Made ch n m 0 ∷ older) k ch → P (items_of (front ++ parts ++ Made ch n m 0 ∷ older) k)
items_behind P nil end [] [] ch n m older all made fit k le = absurd (omega (arith, le, made_before_most older k ch, fit.0.0))
items_behind P nil end [] (Made c x y i ∷ parts) ch n m older all made fit k le = items_behind P nil end [] parts ch n m older tt made.1 fit.1 k le
items_behind P nil end [] (Ticked t s ∷ parts) ch n m older all made fit k le = absurd made.0
items_behind P nil end [] (Waits x ∷ parts) ch n m older all made fit k le = absurd made.0
items_behind P nil end [] (Sent x t items ∷ parts) ch n m older all made fit k le = absurd made.0
items_behind P nil end [] (Took x es ds ∷ parts) ch n m older all made fit k le = absurd made.0
items_behind P nil end [] (Ended g ∷ parts) ch n m older all made fit k le = absurd made.0
items_behind P nil end (Ticked t s ∷ front) parts ch n m older all made fit k le = items_behind P nil end front parts ch n m older all.1 made fit.1 k le
items_behind P nil end (Made c x y i ∷ front) parts ch n m older all made fit k le = items_behind P nil end front parts ch n m older all.1 made fit.1 k le
items_behind P nil end (Waits x ∷ front) parts ch n m older all made fit k le = items_behind P nil end front parts ch n m older all.1 made fit.1 k le
items_behind P nil end (Took x es ds ∷ front) parts ch n m older all made fit k le = items_behind P nil end front parts ch n m older all.1 made fit.1 k le
items_behind P nil end (Ended g ∷ front) parts ch n m older all made fit k le = items_behind P nil end front parts ch n m older all.1 made fit.1 k le
items_behind P nil end (Sent x t items ∷ front) parts ch n m older all made fit k le =
    by (x == k) le (λ q. items_behind P nil end front parts ch n m older all.1 made fit.1 k q)
  where
    by : (b : Bool) → n ≤ cond b (made_count (front ++ parts ++ Made ch n m 0 ∷ older) ch) (made_before (front ++ parts ++ Made ch n m 0 ∷ older) k ch)
        → (n ≤ made_before (front ++ parts ++ Made ch n m 0 ∷ older) k ch → P (items_of (front ++ parts ++ Made ch n m 0 ∷ older) k)) → P (cond b items (items_of (front ++ parts ++ Made ch n m 0 ∷ older) k))
    by true q ih = all.0
    by false q ih = ih q

-- ---- a bunch that a packet carried was made before that packet and before each later one

-- a bunch that packet k says was sent first in packet j, not after it
said_at : (v : Version) (end : End) (later : Past) (k t : ℕ) (items : List Item) (earlier : Past) → DeedsFit end (later ++ Sent k t items ∷ earlier) → (j : ℕ) → j ≤ k
    → said_by v (later ++ Sent k t items ∷ earlier) j ≡ said_by v (Sent k t items ∷ earlier) j
said_at v end [] k t items earlier fit j le = refl
said_at v end (Ticked x s ∷ later) k t items earlier fit j le = said_at v end later k t items earlier fit.1 j le
said_at v end (Made c n m i ∷ later) k t items earlier fit j le = said_at v end later k t items earlier fit.1 j le
said_at v end (Waits m ∷ later) k t items earlier fit j le = said_at v end later k t items earlier fit.1 j le
said_at v end (Took n es ds ∷ later) k t items earlier fit j le = said_at v end later k t items earlier fit.1 j le
said_at v end (Ended g ∷ later) k t items earlier fit j le = said_at v end later k t items earlier fit.1 j le
said_at v end (Sent n x others ∷ later) k t items earlier fit j le =
    ap (λ (b : Bool). cond b (all_said v (later ++ Sent k t items ∷ earlier) others) (said_by v (later ++ Sent k t items ∷ earlier) j))
    (ne_eqb n j (λ e. absurd (omega (arith, e, le, fit.0.0, sent_least later k t items earlier))))
    ∙ said_at v end later k t items earlier fit.1 j le

-- the deeds below one fit
fit_behind : (end : End) (later past : Past) → DeedsFit end (later ++ past) → DeedsFit end past
fit_behind end [] past fit = fit
fit_behind end (deed ∷ later) past fit = fit_behind end later past fit.1

-- a bunch that a packet carries was made before it was sent
pub made_when_carried : (v : Version) (end : End) (past : Past) → DeedsFit end past → (ch n j k : ℕ) (b : Bunch) → IsIn (SaysItem (Carries ch n b)) (said_by v past j) → j ≤ k → 1 ≤ k → k ≤ last_sent past → n ≤ made_before past k ch
made_when_carried v end past fit ch n j k b h le lo hi = by (sent_at end past fit k lo hi)
  where
    by : SentAt past k → n ≤ made_before past k ch
    by s =
        let f : DeedsFit end (s.later ++ Sent k s.tick s.items ∷ s.earlier) = subst (DeedsFit end) s.split fit in
        let said : IsIn (SaysItem (Carries ch n b)) (said_by v (Sent k s.tick s.items ∷ s.earlier) j) =
        subst (IsIn (SaysItem (Carries ch n b))) (said_at v end s.later k s.tick s.items s.earlier f j le) (subst (λ (p : Past). IsIn (SaysItem (Carries ch n b)) (said_by v p j)) s.split h) in
        let c = carried_facts end v (Sent k s.tick s.items ∷ s.earlier) (fit_behind end s.later (Sent k s.tick s.items ∷ s.earlier) f) ch n j b said in
        omega (arith, c.high, ap (λ (p : Past). made_before p k ch) s.split, made_before_at end s.later k s.tick s.items s.earlier f ch)
