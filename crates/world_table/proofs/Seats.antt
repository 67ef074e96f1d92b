-- How a world goes along with an edit of a player, and with a pair that is added.
use Rattle.std.proofs.Common.{◌≡◌, ◌∙◌, ℕ, ℤ, List, ◌∷◌, Bool, true, false, ◌==◌, ◌&&◌, sym, ap, refl, arith, if◌then◌else◌}
use Rattle.std.specs.List.{filter_map}
use Rattle.std.proofs.lemmas.Bool.Decides.{nat_tests}
use Rattle.protocol_model.specs.World.{Edits, View, Team, Add, team_of, viewer_of, is_added, added_in}
use Rattle.world_table.specs.declared.seat.Seat.{Seat}
use Rattle.world_table.specs.Kept.{Kept, seat_at, has_pair}
use Rattle.world_table.specs.Stands.{Stands, seat_of}
use Rattle.world_table.proofs.Numbers.{same_number}
use Rattle.world_table.proofs.Telling.{newest_or}

-- ---- where a player looks from

seat_viewed : (edits : Edits) (player p : ℕ) (x y : ℤ) (team : ℕ) (t : Bool) → (p == player) ≡ t
    → team ≡ team_of edits player
    → (if t then record { x = x; y = y; team = team } else seat_of edits p) ≡ seat_of (View player x y ∷ edits) p
seat_viewed edits player p x y team true e is =
    rw e (ap (λ (n : ℕ). record { x = x; y = y; team = n }) (is ∙ ap (team_of edits) (sym (same_number p player e))))
seat_viewed edits player p x y team false e is = rw e refl

pub view_stands : (w : Kept) (edits : Edits) (player : ℕ) (x y : ℤ) (seats : List Seat) → Stands w edits
    → ((p : ℕ)
    → seat_at seats p
    ≡ (if p == player then record { x = x; y = y; team = (seat_at w.seats player).team } else seat_at w.seats p))
    → Stands (record w { seats = seats }) (View player x y ∷ edits)
view_stands w edits player x y seats stands each =
    let team : ℕ = (seat_at w.seats player).team in
    record {
      count = stands.count;
      actors = stands.actors;
      apart = stands.apart;
      seats = λ p.
          each p
          ∙ ap (λ (s : Seat). if p == player then record { x = x; y = y; team = team } else s) (stands.seats p)
          ∙ seat_viewed edits player p x y team (p == player) refl (ap (λ (s : Seat). s.team) (stands.seats player));
      added = stands.added;
    }

-- ---- a player's team

seat_joined : (edits : Edits) (player p : ℕ) (x y : ℤ) (team : ℕ) (t : Bool) → (p == player) ≡ t
    → x ≡ (viewer_of edits player).0 → y ≡ (viewer_of edits player).1
    → (if t then record { x = x; y = y; team = team } else seat_of edits p) ≡ seat_of (Team player team ∷ edits) p
seat_joined edits player p x y team true e x_is y_is =
    let who : player ≡ p = sym (same_number p player e) in
    rw e
    (ap (λ (z : ℤ). record { x = z; y = y; team = team }) (x_is ∙ ap (λ (n : ℕ). (viewer_of edits n).0) who)
    ∙ ap (λ (z : ℤ). record { x = (viewer_of edits p).0; y = z; team = team })
    (y_is ∙ ap (λ (n : ℕ). (viewer_of edits n).1) who))
seat_joined edits player p x y team false e x_is y_is = rw e refl

pub team_stands : (w : Kept) (edits : Edits) (player team : ℕ) (seats : List Seat) → Stands w edits
    → ((p : ℕ)
    → seat_at seats p
    ≡ (if p == player then record { x = (seat_at w.seats player).x; y = (seat_at w.seats player).y; team = team }
    else seat_at w.seats p))
    → Stands (record w { seats = seats }) (Team player team ∷ edits)
team_stands w edits player team seats stands each =
    let x : ℤ = (seat_at w.seats player).x in
    let y : ℤ = (seat_at w.seats player).y in
    record {
      count = stands.count;
      actors = stands.actors;
      apart = stands.apart;
      seats = λ p.
          each p
          ∙ ap (λ (s : Seat). if p == player then record { x = x; y = y; team = team } else s) (stands.seats p)
          ∙ seat_joined edits player p x y team (p == player) refl (ap (λ (s : Seat). s.x) (stands.seats player))
          (ap (λ (s : Seat). s.y) (stands.seats player));
      added = stands.added;
    }

-- ---- a pair

turned : (a b : ℕ) → (a == b) ≡ (b == a)
turned a b = grind (arith, nat_tests)

pub add_stands : (w : Kept) (edits : Edits) (a player : ℕ) (on : Bool) (added : List (ℕ × ℕ)) → Stands w edits
    → ((b p : ℕ) → has_pair added b p ≡ (if a == b && player == p then on else has_pair w.added b p))
    → Stands (record w { added = added }) (Add a player on ∷ edits)
add_stands w edits a player on added stands each = record {
  count = stands.count;
  actors = stands.actors;
  apart = stands.apart;
  seats = stands.seats;
  added = λ b p.
      each b p
      ∙ ap (λ (old : Bool). if a == b && player == p then on else old) (stands.added b p)
      ∙ ap (λ (t : Bool). if t && player == p then on else is_added edits b p) (turned a b)
      ∙ ap (λ (t : Bool). if b == a && t then on else is_added edits b p) (turned player p)
      ∙ sym (newest_or (b == a && p == player) on false (filter_map (added_in b p) edits));
}
