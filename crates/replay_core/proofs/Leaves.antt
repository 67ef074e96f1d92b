-- What a line leaves of a player: the number always, and the server's side where the client does it.
use Rattle.std.proofs.Common.{◌≡◌, ℕ, ◌+◌, ◌-◌, List, [], ◌∷◌, Option, Some, None, refl, ◌∙◌, nat_lt, if◌then◌else◌, length}
use Rattle.std.specs.Prelude.{slice_get, filter}
use Rattle.std.specs.List.{fold, range_with_len}
use Rattle.protocol_model.specs.Side.{Side, AtServer, AtClient}
use Rattle.protocol_model.specs.Value.{Table}
use Rattle.protocol_model.specs.World.{Edits}
use Rattle.connection_model.specs.Feed.{Event, Got, Call}
use Rattle.connection_model.specs.Fates.{top_of}
use Rattle.std.proofs.lemmas.Bool.{cond_both}
use Rattle.script_model.specs.Reports.{Answered, Absent, Late, Says}
use Rattle.script_model.specs.Lines.{Line, Join, ApplyEdit, TickAll, TickClient, Deliver, DeliverNew, CallTo, CallAll, Dump, AskSettled, Forge}
use Rattle.replication_model.specs.Story.{Player, Reported, after_datagram, other_side, with_event, with_told, past_at, out_at, after_delivery, also_delivery, is_kept, told_before}
use Rattle.replay_core.specs.Stands.{seat_in}
use Rattle.replay_core.specs.Lines.{line_does, line_side}

-- what a datagram leaves, if there is one
found : {X : Type 0} (f : Player → X) (table : Table) (edits : Edits) (side : Side) (n : ℕ) (p : Player)
    → ((bytes : List ℕ) (q : Player) → f (with_event side (Got bytes) q) ≡ f q)
    → (o : Option (List ℕ)) → f (let told : Reported = elim o [
      | None ↦ (p, Answered side p.number n Absent ∷ [])
      | Some bytes ↦ (if nat_lt (n + 8192) (top_of (past_at table side p)) then (p, Answered side p.number n Late ∷ [])
          else after_datagram table edits side (λ verdict. Answered side p.number n (Says verdict)) bytes p)
    ] in told.0) ≡ f p
found {X} f table edits side n p h None = refl
found {X} f table edits side n p h (Some bytes) =
    cond_both (nat_lt (n + 8192) (top_of (past_at table side p))) (p, Answered side p.number n Late ∷ [])
    (after_datagram table edits side (λ verdict. Answered side p.number n (Says verdict)) bytes p)
    (λ (told : Reported). f told.0 ≡ f p)
    (λ q. refl) (λ q. h bytes p)

-- what a delivery leaves
pub by_delivery : {X : Type 0} (f : Player → X) (table : Table) (edits : Edits) (side : Side) (n : ℕ) (p : Player)
    → ((bytes : List ℕ) (q : Player) → f (with_event side (Got bytes) q) ≡ f q)
    → f (after_delivery table edits side n p).0 ≡ f p
by_delivery {X} f table edits side n p h = found f table edits side n p h
    (slice_get (out_at table (other_side side) p) (n - 1))

-- what deliveries leave
pub by_deliveries : {X : Type 0} (f : Player → X) (table : Table) (edits : Edits) (side : Side) (ns : List ℕ)
    (told : Reported)
    → ((bytes : List ℕ) (q : Player) → f (with_event side (Got bytes) q) ≡ f q)
    → f (fold (also_delivery table edits side) told ns).0 ≡ f told.0
by_deliveries {X} f table edits side [] told h = refl
by_deliveries {X} f table edits side (n ∷ ns) told h =
    by_deliveries f table edits side ns (also_delivery table edits side told n) h
    ∙ by_delivery f table edits side n told.0 h

-- ---- the number

event_number : (side : Side) (event : Event) (p : Player) → (with_event side event p).number ≡ p.number
event_number AtServer event p = refl
event_number AtClient event p = refl

told_number : (side : Side) (count : ℕ) (p : Player) → (with_told side count p).number ≡ p.number
told_number AtServer count p = refl
told_number AtClient count p = refl

pub delivery_number : (table : Table) (edits : Edits) (side : Side) (n : ℕ) (p : Player)
    → (after_delivery table edits side n p).0.number ≡ p.number
delivery_number table edits side n p = by_delivery (λ (q : Player). q.number) table edits side n p
    (λ bytes q. event_number side (Got bytes) q)

-- of a line
pub line_number : (table : Table) (line : Line) (edits : Edits) (p : Player)
    → (line_does table line edits p).0.number ≡ p.number
line_number table (Join player budget version) edits p = refl
line_number table (ApplyEdit edit) edits p = refl
line_number table TickAll edits p = refl
line_number table (TickClient player) edits p = refl
line_number table (Deliver side player n) edits p = delivery_number table edits side n p
line_number table (DeliverNew side player every) edits p =
    let count = length (out_at table (other_side side) p) in
    by_deliveries (λ (q : Player). q.number) table edits side
    (filter (is_kept every) (range_with_len (told_before side p + 1) (count - told_before side p)))
    (with_told side count p, [])
    (λ bytes q. event_number side (Got bytes) q) ∙ told_number side count p
line_number table (CallTo side player a n args) edits p = event_number side (Call a n args) p
line_number table (CallAll a n args) edits p = refl
line_number table (Dump player) edits p = refl
line_number table (AskSettled player a) edits p = refl
line_number table (Forge side player bytes) edits p = event_number side (Got bytes) p

-- ---- the server's side

-- of a line of the client
pub client_seat : (table : Table) (line : Line) (edits : Edits) (p : Player) → line_side line ≡ AtClient
    → seat_in (line_does table line edits p).0 ≡ seat_in p
client_seat table (Join player budget version) edits p e = refl
client_seat table (ApplyEdit edit) edits p e = refl
client_seat table TickAll edits p e = refl
client_seat table (TickClient player) edits p e = refl
client_seat table (Deliver AtClient player n) edits p e = by_delivery seat_in table edits AtClient n p (λ bytes q. refl)
client_seat table (Deliver AtServer player n) edits p e = absurd (cc)
client_seat table (DeliverNew AtClient player every) edits p e =
    let count = length (out_at table AtServer p) in
    by_deliveries seat_in table edits AtClient (filter (is_kept every)
    (range_with_len (p.told_client + 1) (count - p.told_client)))
    (with_told AtClient count p, []) (λ bytes q. refl)
client_seat table (DeliverNew AtServer player every) edits p e = absurd (cc)
client_seat table (CallTo AtClient player a n args) edits p e = refl
client_seat table (CallTo AtServer player a n args) edits p e = absurd (cc)
client_seat table (CallAll a n args) edits p e = refl
client_seat table (Dump player) edits p e = refl
client_seat table (AskSettled player a) edits p e = refl
client_seat table (Forge AtClient player bytes) edits p e = refl
client_seat table (Forge AtServer player bytes) edits p e = absurd (cc)
