-- A player's part of a story goes on by the lines about it, and by the sights of its ticks.
use Rattle.std.proofs.Common.{◌≡◌, inl, inr, ℕ, ◌+◌, ◌-◌, ◌==◌, List, [], ◌∷◌, map, filter, fold, length, Bool, true, false, cond, not, nat_lt, refl, sym, ap, ◌∙◌, subst, arith, Option, Some, None, find, option_map, slice_get, if◌then◌else◌}
use Rattle.std.specs.List.{range_with_len}
use Rattle.std.proofs.lemmas.Bool.{cases_Bool, eqb-true, eq-eqb}
use Rattle.std.proofs.lemmas.Bool.Decides.{nat_tests}
use Rattle.protocol_model.specs.Search.{insert_in_order}
use Rattle.protocol_model.specs.Side.{Side, AtServer, AtClient}
use Rattle.protocol_model.specs.Sight.{Seen, sight}
use Rattle.protocol_model.specs.Value.{Table}
use Rattle.protocol_model.specs.World.{Edits}
use Rattle.script_model.specs.Lines.{Line, Join, ApplyEdit, TickAll, TickClient, Deliver, DeliverNew, CallTo, CallAll, Dump, AskSettled, Forge}
use Rattle.script_model.specs.Reports.{Answered, Late, Says}
use Rattle.connection_model.specs.Feed.{Event, Tick, Got, Call}
use Rattle.connection_model.specs.Fates.{top_of}
use Rattle.replication_model.specs.Story.{Player, Story, past_at, out_at, with_event, other_side, Reported, earlier_of, after_tick_of, after_datagram, after_forgery, after_delivery, also_delivery, told_before, with_told, is_kept, after_new_deliveries, after_call_of, settled_answer, copies_reports, new_player, after_line}
use Rattle.payload_laws.proofs.WorldValues.{same_some}
use Rattle.connection_laws.proofs.StoriesTalk.{delivered, delivered_number, told_number}
use Rattle.isolation_laws.specs.Unseen.{is_of_other}

-- the player of this number
abbrev pub mine : ℕ → List Player → Option Player
mine n players = find (λ (p : Player). p.number == n) players

-- ---- what is done with players

-- what is done with a player keeps its number
abbrev pub KeepsNumber : (Player → Reported) → Type 0
KeepsNumber does = (p : Player) → (does p).0.number ≡ p.number

-- what is done to each player is done to this one
pub mine_all : (n : ℕ) (does : Player → Reported) → KeepsNumber does → (players : List Player) → mine n (map (λ (p : Player). (does p).0) players) ≡ option_map (λ (p : Player). (does p).0) (mine n players)
mine_all n does k [] = refl
mine_all n does k (p ∷ players) =
    ap (λ m. cond (m == n) (Some (does p).0) (mine n (map (λ (q : Player). (does q).0) players))) (k p) ∙ by (p.number == n) (mine n (map (λ (q : Player). (does q).0) players)) (mine n players) (mine_all n does k players)
  where
    by : (b : Bool) (x y : Option Player) → x ≡ option_map (λ (q : Player). (does q).0) y → cond b (Some (does p).0) x ≡ option_map (λ (q : Player). (does q).0) (cond b (Some p) y)
    by true x y e = refl
    by false x y e = e

-- what is done to this player alone
pub mine_one : (n : ℕ) (does : Player → Reported) → KeepsNumber does → (players : List Player) → mine n (map (λ (p : Player). if p.number == n then (does p).0 else p) players) ≡ option_map (λ (p : Player). (does p).0) (mine n players)
mine_one n does k [] = refl
mine_one n does k (p ∷ players) = by (p.number == n) refl (mine n (map (λ (q : Player). if q.number == n then (does q).0 else q) players)) (mine n players) (mine_one n does k players)
  where
    by : (b : Bool) → (p.number == n) ≡ b → (x y : Option Player) → x ≡ option_map (λ (q : Player). (does q).0) y → (let q : Player = cond b (does p).0 p in cond (q.number == n) (Some q) x) ≡ option_map (λ (q : Player). (does q).0) (cond b (Some p) y)
    by true e x y h = ap (λ m. cond (m == n) (Some (does p).0) x) (k p) ∙ ap (λ b. cond b (Some (does p).0) x) e
    by false e x y h = ap (λ b. cond b (Some p) x) e ∙ h

-- what is done to another player leaves this one
pub mine_other : (n who : ℕ) (does : Player → Reported) → KeepsNumber does → (who == n) ≡ false → (players : List Player) → mine n (map (λ (p : Player). if p.number == who then (does p).0 else p) players) ≡ mine n players
mine_other n who does k ne [] = refl
mine_other n who does k ne (p ∷ players) = by (p.number == who) refl (mine n (map (λ (q : Player). if q.number == who then (does q).0 else q) players)) (mine n players) (mine_other n who does k ne players)
  where
    by : (b : Bool) → (p.number == who) ≡ b → (x y : Option Player) → x ≡ y → (let q : Player = cond b (does p).0 p in cond (q.number == n) (Some q) x) ≡ cond (p.number == n) (Some p) y
    by true e x y h =
        let other : (p.number == n) ≡ false = ap (λ m. m == n) (eqb-true p.number who e) ∙ ne in
        ap (λ m. cond (m == n) (Some (does p).0) x) (k p) ∙ ap (λ b. cond b (Some (does p).0) x) other ∙ h ∙ sym (ap (λ b. cond b (Some p) y) other)
    by false e x y h = ap (λ o. cond (p.number == n) (Some p) o) h

-- ---- joins

-- a new player stands in order of numbers
abbrev pub ordered : Player → List Player → List Player
ordered new players = insert_in_order (λ (one : Player) (two : Player). nat_lt one.number two.number) new players

-- a lower number is another
below_other : (k m n : ℕ) → nat_lt k m ≡ true → m ≡ n → (k == n) ≡ false
below_other k m n h e = grind (arith, nat_tests)

-- a player who joins stands before one of the same number
pub mine_joined : (n : ℕ) (new : Player) → new.number ≡ n → (players : List Player) → mine n (ordered new players) ≡ Some new
mine_joined n new e [] = ap (λ b. cond b (Some new) None) (eq-eqb new.number n e)
mine_joined n new e (p ∷ players) = by (nat_lt p.number new.number) refl (mine_joined n new e players)
  where
    by : (b : Bool) → nat_lt p.number new.number ≡ b → mine n (ordered new players) ≡ Some new → mine n (cond b (p ∷ ordered new players) (new ∷ p ∷ players)) ≡ Some new
    by true h later = ap (λ b. cond b (Some p) (mine n (ordered new players))) (below_other p.number new.number n h e) ∙ later
    by false h later = ap (λ b. cond b (Some new) (mine n (p ∷ players))) (eq-eqb new.number n e)

-- another player's join leaves this one
pub mine_joined_other : (n : ℕ) (new : Player) → (new.number == n) ≡ false → (players : List Player) → mine n (ordered new players) ≡ mine n players
mine_joined_other n new ne [] = ap (λ b. cond b (Some new) None) ne
mine_joined_other n new ne (p ∷ players) = by (nat_lt p.number new.number) (mine_joined_other n new ne players)
  where
    by : (b : Bool) → mine n (ordered new players) ≡ mine n players → mine n (cond b (p ∷ ordered new players) (new ∷ p ∷ players)) ≡ mine n (p ∷ players)
    by true later = ap (λ o. cond (p.number == n) (Some p) o) later
    by false later = ap (λ b. cond b (Some new) (mine n (p ∷ players))) ne

-- ---- numbers stay

-- an event leaves the player's number
pub event_number : (side : Side) (event : Event) (p : Player) → (with_event side event p).number ≡ p.number
event_number AtServer event p = refl
event_number AtClient event p = refl

-- so does a tick
pub tick_number : (table : Table) (edits : Edits) (side : Side) → KeepsNumber (after_tick_of table edits side)
tick_number table edits AtServer p = refl
tick_number table edits AtClient p = refl

-- so does a delivery
pub deliver_number : (table : Table) (edits : Edits) (side : Side) (k : ℕ) → KeepsNumber (after_delivery table edits side k)
deliver_number table edits side k p = delivered_number table edits side k p (slice_get (out_at table (other_side side) p) (k - 1))

-- deliveries leave the player's number
deliveries_number : (table : Table) (edits : Edits) (side : Side) (ks : List ℕ) (told : Reported) → (fold (also_delivery table edits side) told ks).0.number ≡ told.0.number
deliveries_number table edits side [] told = refl
deliveries_number table edits side (k ∷ ks) told = deliveries_number table edits side ks (also_delivery table edits side told k) ∙ deliver_number table edits side k told.0

-- what is to be delivered of the new packets
abbrev pub new_for : Table → Side → ℕ → Player → List ℕ
new_for table side every p = filter (is_kept every) (range_with_len (told_before side p + 1) (length (out_at table (other_side side) p) - told_before side p))

-- so do deliveries of what is new
pub deliver_new_number : (table : Table) (edits : Edits) (side : Side) (every : ℕ) → KeepsNumber (after_new_deliveries table edits side every)
deliver_new_number table edits side every p =
    deliveries_number table edits side (new_for table side every p) (with_told side (length (out_at table (other_side side) p)) p, []) ∙ told_number side (length (out_at table (other_side side) p)) p

-- ---- the world decides the sights of ticks alone

-- both cases leave the player alike
cond_same : (b : Bool) (x y z : Reported) → y.0 ≡ z.0 → (cond b x y).0 ≡ (cond b x z).0
cond_same true x y z e = refl
cond_same false x y z e = e

-- a delivery does the same in both worlds
delivered_same : (table : Table) (one other : Edits) (side : Side) (k : ℕ) (p : Player) (o : Option (List ℕ)) → (delivered table one side k p o).0 ≡ (delivered table other side k p o).0
delivered_same table one other side k p None = refl
delivered_same table one other side k p (Some bytes) =
    cond_same (nat_lt (k + 8192) (top_of (past_at table side p))) (p, Answered side p.number k Late ∷ [])
    (after_datagram table one side (λ verdict. Answered side p.number k (Says verdict)) bytes p) (after_datagram table other side (λ verdict. Answered side p.number k (Says verdict)) bytes p) refl

-- two ways to go on that do the same with each player
abbrev pub DoSame : (does did : Player → Reported) → Type 0
DoSame does did = (p : Player) → (does p).0 ≡ (did p).0

-- so does a delivery by number
pub deliver_same : (table : Table) (one other : Edits) (side : Side) (k : ℕ) → DoSame (after_delivery table one side k) (after_delivery table other side k)
deliver_same table one other side k p = delivered_same table one other side k p (slice_get (out_at table (other_side side) p) (k - 1))

-- so do several
deliveries_same : (table : Table) (one other : Edits) (side : Side) (ks : List ℕ) (told tell : Reported) → told.0 ≡ tell.0 → (fold (also_delivery table one side) told ks).0 ≡ (fold (also_delivery table other side) tell ks).0
deliveries_same table one other side [] told tell e = e
deliveries_same table one other side (k ∷ ks) told tell e =
    deliveries_same table one other side ks (also_delivery table one side told k) (also_delivery table other side tell k)
    (ap (λ (p : Player). (after_delivery table one side k p).0) e ∙ deliver_same table one other side k tell.0)

-- so do deliveries of what is new
deliver_new_same : (table : Table) (one other : Edits) (side : Side) (every : ℕ) → DoSame (after_new_deliveries table one side every) (after_new_deliveries table other side every)
deliver_new_same table one other side every p =
    deliveries_same table one other side (new_for table side every p) (with_told side (length (out_at table (other_side side) p)) p, []) (with_told side (length (out_at table (other_side side) p)) p, []) refl

-- one answer, whichever function gives it
option_same : {A B : Type 0} (f g : A → B) (o : Option A) → ((x : A) → o ≡ Some x → f x ≡ g x) → option_map f o ≡ option_map g o
option_same f g None h = refl
option_same f g (Some x) h = ap Some (h x refl)

-- what does the same to each player leaves the same player
all_same : (n : ℕ) (does did : Player → Reported) → KeepsNumber does → KeepsNumber did → (players others : List Player) → mine n players ≡ mine n others → ((p : Player) → mine n players ≡ Some p → (does p).0 ≡ (did p).0)
    → mine n (map (λ (p : Player). (does p).0) players) ≡ mine n (map (λ (p : Player). (did p).0) others)
all_same n does did k l players others e h =
    mine_all n does k players ∙ option_same (λ (p : Player). (does p).0) (λ (p : Player). (did p).0) (mine n players) h
    ∙ ap (option_map (λ (p : Player). (did p).0)) e ∙ sym (mine_all n did l others)

-- so does what is done to one
one_same : (n who : ℕ) (does did : Player → Reported) → KeepsNumber does → KeepsNumber did → (players others : List Player) → mine n players ≡ mine n others → DoSame does did
    → mine n (map (λ (p : Player). if p.number == who then (does p).0 else p) players) ≡ mine n (map (λ (p : Player). if p.number == who then (did p).0 else p) others)
one_same n who does did k l players others e h = elim (cases_Bool (who == n)) [
  | inl t ↦ subst (λ (w : ℕ). mine n (map (λ (p : Player). if p.number == w then (does p).0 else p) players) ≡ mine n (map (λ (p : Player). if p.number == w then (did p).0 else p) others)) (sym (eqb-true who n t))
      (mine_one n does k players ∙ option_same (λ (p : Player). (does p).0) (λ (p : Player). (did p).0) (mine n players) (λ p f. h p)
      ∙ ap (option_map (λ (p : Player). (did p).0)) e ∙ sym (mine_one n did l others))
  | inr t ↦ mine_other n who does k t players ∙ e ∙ sym (mine_other n who did l t others)
]

-- so does a join
joined_same : (n : ℕ) (new : Player) (players others : List Player) → mine n players ≡ mine n others → mine n (ordered new players) ≡ mine n (ordered new others)
joined_same n new players others e = elim (cases_Bool (new.number == n)) [
  | inl t ↦ mine_joined n new (eqb-true new.number n t) players ∙ sym (mine_joined n new (eqb-true new.number n t) others)
  | inr t ↦ mine_joined_other n new t players ∙ e ∙ sym (mine_joined_other n new t others)
]

-- who is found under a number has it
pub found_number : (n : ℕ) (players : List Player) (p : Player) → mine n players ≡ Some p → p.number ≡ n
found_number n [] p e = absurd (cc)
found_number n (q ∷ players) p e = by (q.number == n) refl (found_number n players p) e
  where
    by : (b : Bool) → (q.number == n) ≡ b → (mine n players ≡ Some p → p.number ≡ n) → cond b (Some q) (mine n players) ≡ Some p → p.number ≡ n
    by true t later h = ap (λ (r : Player). r.number) (sym (same_some q p h)) ∙ eqb-true q.number n t
    by false t later h = later h

-- the worlds show the player who is found the same
abbrev pub ShowSame : Table → ℕ → (one other : Edits) → Option Player → Type 0
ShowSame table n one other found = (p : Player) → found ≡ Some p → sight table one n (earlier_of p) ≡ sight table other n (earlier_of p)

-- one line for both
pub line_same : (table : Table) (n : ℕ) (line : Line) (story other : Story) → mine n story.players ≡ mine n other.players → ShowSame table n story.edits other.edits (mine n story.players)
    → mine n (after_line table story line).0.players ≡ mine n (after_line table other line).0.players
line_same table n (Join player budget version) story other e h = joined_same n (new_player player budget version) story.players other.players e
line_same table n (ApplyEdit edit) story other e h = e
line_same table n TickAll story other e h =
    all_same n (after_tick_of table story.edits AtServer) (after_tick_of table other.edits AtServer) (tick_number table story.edits AtServer) (tick_number table other.edits AtServer) story.players other.players e
    (λ p f. ap (λ (s : List Seen). with_event AtServer (Tick s) p)
    (subst (λ (m : ℕ). sight table story.edits m (earlier_of p) ≡ sight table other.edits m (earlier_of p)) (sym (found_number n story.players p f)) (h p f)))
line_same table n (TickClient player) story other e h =
    one_same n player (after_tick_of table story.edits AtClient) (after_tick_of table other.edits AtClient) (tick_number table story.edits AtClient) (tick_number table other.edits AtClient) story.players other.players e (λ p. refl)
line_same table n (Deliver side player k) story other e h =
    one_same n player (after_delivery table story.edits side k) (after_delivery table other.edits side k) (deliver_number table story.edits side k) (deliver_number table other.edits side k) story.players other.players e
    (deliver_same table story.edits other.edits side k)
line_same table n (DeliverNew side player every) story other e h =
    one_same n player (after_new_deliveries table story.edits side every) (after_new_deliveries table other.edits side every) (deliver_new_number table story.edits side every) (deliver_new_number table other.edits side every) story.players other.players e
    (deliver_new_same table story.edits other.edits side every)
line_same table n (CallTo side player a m args) story other e h =
    one_same n player (after_call_of table side a m args) (after_call_of table side a m args) (λ p. event_number side (Call a m args) p) (λ p. event_number side (Call a m args) p) story.players other.players e (λ p. refl)
line_same table n (CallAll a m args) story other e h =
    all_same n (after_call_of table AtServer a m args) (after_call_of table AtServer a m args) (λ p. refl) (λ p. refl) story.players other.players e (λ p f. refl)
line_same table n (Dump player) story other e h =
    one_same n player (λ (p : Player). (p, copies_reports table p)) (λ (p : Player). (p, copies_reports table p)) (λ p. refl) (λ p. refl) story.players other.players e (λ p. refl)
line_same table n (AskSettled player a) story other e h =
    one_same n player (settled_answer table story.edits a) (settled_answer table other.edits a) (λ p. refl) (λ p. refl) story.players other.players e (λ p. refl)
line_same table n (Forge side player bytes) story other e h =
    one_same n player (after_forgery table story.edits side bytes) (after_forgery table other.edits side bytes) (λ p. event_number side (Got bytes) p) (λ p. event_number side (Got bytes) p) story.players other.players e (λ p. refl)

-- ---- lines about others

-- another number is another player
pub is_other : (who n : ℕ) → not (who == n) ≡ true → (who == n) ≡ false
is_other who n h = grind (arith, nat_tests)

-- a line about another player leaves this one
pub other_line : (table : Table) (n : ℕ) (line : Line) (story : Story) → is_of_other n line ≡ true → mine n (after_line table story line).0.players ≡ mine n story.players
other_line table n (Join player budget version) story h = mine_joined_other n (new_player player budget version) (is_other player n h) story.players
other_line table n (ApplyEdit edit) story h = refl
other_line table n TickAll story h = absurd (cc)
other_line table n (TickClient player) story h = mine_other n player (after_tick_of table story.edits AtClient) (tick_number table story.edits AtClient) (is_other player n h) story.players
other_line table n (Deliver side player k) story h = mine_other n player (after_delivery table story.edits side k) (deliver_number table story.edits side k) (is_other player n h) story.players
other_line table n (DeliverNew side player every) story h = mine_other n player (after_new_deliveries table story.edits side every) (deliver_new_number table story.edits side every) (is_other player n h) story.players
other_line table n (CallTo side player a m args) story h = mine_other n player (after_call_of table side a m args) (λ p. event_number side (Call a m args) p) (is_other player n h) story.players
other_line table n (CallAll a m args) story h = absurd (cc)
other_line table n (Dump player) story h = mine_other n player (λ (p : Player). (p, copies_reports table p)) (λ p. refl) (is_other player n h) story.players
other_line table n (AskSettled player a) story h = mine_other n player (settled_answer table story.edits a) (λ p. refl) (is_other player n h) story.players
other_line table n (Forge side player bytes) story h = mine_other n player (after_forgery table story.edits side bytes) (λ p. event_number side (Got bytes) p) (is_other player n h) story.players
