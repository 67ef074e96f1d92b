-- An actor is settled for a player.
use Rattle.std.proofs.Common.{◌≡◌, ◌≢◌, ℕ, Bool, true, false, ◌&&◌, not, Some, None, is_some, refl, sym, ap, ◌∙◌, subst}
use Rattle.std.proofs.lemmas.Bool.{false≢true, and_parts}
use Rattle.protocol_model.specs.Sight.{is_relevant, seen_of, reaches}
use Rattle.protocol_model.specs.Value.{Table}
use Rattle.protocol_model.specs.World.{Edits, spawn_of, class_of, lives}
use Rattle.connection_model.specs.Feed.{Past, has_ended}
use Rattle.connection_model.specs.Settled.{is_settled_as}
use Rattle.class_layout.specs.Tables.{table_in}
use Rattle.shadow_changes.specs.Samples.{Samples}
use Rattle.sender_steps.specs.Stands.{StandsBoth}
use Rattle.net_driver.specs.declared.chair.Place.TheVariants.{Living}
use Rattle.server_end.specs.declared.server_end.ServerEnd.{ServerEnd}
use Rattle.net_driver.specs.Chairs.{place_in, living_key}
use Rattle.net_driver.specs.Ends.{end_at}
use Rattle.net_driver.specs.Served.{Seat, Served, seat_of, past_for, settled_for}
use Rattle.net_driver.specs.Serves.{Drive, Serves}
use Rattle.net_driver.proofs.Placing.{for_place, living_is, dead_is}
use Rattle.std.proofs.lemmas.Option.{same_Some}

-- an actor that is relevant was spawned
pub relevant_spawned : (table : Table) (edits : Edits) (player a : ℕ) → is_relevant table edits player a ≡ true
    → spawn_of edits a ≢ None
relevant_spawned table edits player a e none =
    let l = (and_parts (lives edits a) (reaches (class_of table edits a).reach table edits player a) e).0 in
    false≢true (sym (ap is_some none) ∙ (and_parts (is_some (spawn_of edits a)) _ l).0)

-- without a living end nothing is settled
pub none_settled : (d : Drive) (s : Served) (player a : ℕ) (seat : Seat) → Serves d s → seat_of s player ≡ Some seat
    → living_key (place_in d.chairs player) ≡ None → false ≡ settled_for (table_in d.layout) s.edits seat a
none_settled d s player a seat h at none = rw (dead_is d s player seat h at none) refl

-- at a living end it is settled as the end says
pub settled_is : (d : Drive) (s : Served) (player a key : ℕ) (seat : Seat) (e : ServerEnd) (answer : Bool) → Serves d s
    → seat_of s player ≡ Some seat → living_key (place_in d.chairs player) ≡ Some key → end_at d.ends key ≡ Some e
    → ((past : Past) (samples : Samples) → StandsBoth e.sender e.table past samples
    → answer ≡ (is_relevant (table_in d.layout) s.edits e.player a
    && is_settled_as past (seen_of (table_in d.layout) s.edits e.player a)))
    → answer ≡ settled_for (table_in d.layout) s.edits seat a
settled_is d s player a key seat e answer h at is found says =
    let f = for_place d s player (Living key) h (living_is (place_in d.chairs player) key is) in
    let same : f.is.0 ≡ e = same_Some f.is.0 e (sym f.is.1 ∙ found) in
    let seats : f.seat ≡ seat = same_Some f.seat seat (sym f.at ∙ at) in
    let stands = f.is.2.stands in
    let number : e.player ≡ seat.number =
    ap (λ (e : ServerEnd). e.player) (sym same) ∙ f.is.2.player ∙ ap (λ (t : Seat). t.number) seats in
    let past : Past = past_for (table_in d.layout) seat in
    let both : StandsBoth e.sender e.table past f.is.2.before =
    subst (λ (t : Seat). StandsBoth e.sender e.table (past_for (table_in d.layout) t) f.is.2.before) seats
    (subst (λ (e : ServerEnd). StandsBoth e.sender e.table (past_for (table_in d.layout) f.seat) f.is.2.before) same
    (record { sender = stands.sender; table = stands.table })) in
    let alive : has_ended past ≡ false =
    ap (λ (t : Seat). has_ended (past_for (table_in d.layout) t)) (sym seats) ∙ f.is.2.alive in
    says past f.is.2.before both
    ∙ ap (λ (p : ℕ). is_relevant (table_in d.layout) s.edits p a
    && is_settled_as past (seen_of (table_in d.layout) s.edits p a)) number
    ∙ ap (λ (b : Bool). not b && is_relevant (table_in d.layout) s.edits seat.number a
    && is_settled_as past (seen_of (table_in d.layout) s.edits seat.number a)) (sym alive)
