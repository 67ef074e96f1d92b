-- A player joins.
use Rattle.std.proofs.Common.{◌≡◌, ℕ, ◌<◌, ◌≤◌, ◌==◌, List, [], ◌∷◌, ◌++◌, map, Bool, true, false, Some, refl, ap, sym, ◌∙◌, subst, arith, nat_lt, if◌then◌else◌}
use Rattle.std.specs.Prelude.{is_some}
use Rattle.std.proofs.lemmas.Bool.Decides.{nat_tests}
use Rattle.protocol_model.specs.Search.{insert_in_order}
use Rattle.protocol_model.specs.declared.Version.{Version}
use Rattle.replication_model.specs.Story.{Story, Player, new_player, after_line}
use Rattle.replication_model.specs.Story as tale
use Rattle.script_model.specs.Lines as lines
use Rattle.class_layout.specs.Tables.{Layout, table_in}
use Rattle.script_lines.specs.declared.event.Event.{Event}
use Rattle.script_lines.specs.declared.event.Event.TheVariants as event
use Rattle.script_lines.specs.ReportOf.{report_of}
use Rattle.net_driver.specs.Served.{Seat, Served, new_seat, with_joined}
use Rattle.net_driver.specs.Serves.{Drive, Serves}
use Rattle.replay_places.specs.declared.place.Place.{Place}
use Rattle.replay_places.specs.Places.{IsPlace}
use Rattle.replay_core.specs.Kept.{Kept}
use Rattle.replay_core.specs.Stands.{Stands, Ascend, ArePlaces, seat_in, player_in}
use Rattle.replay_core.specs.Lines.{sits_before}

abbrev pub plays_before : Player → Player → Bool
plays_before one two = nat_lt one.number two.number

abbrev pub seat_before : Seat → Seat → Bool
seat_before one two = nat_lt one.number two.number

-- seats are those of the players, also with the new one
pub seats_joined : (p : Player) (players : List Player)
    → insert_in_order seat_before (seat_in p) (map seat_in players)
    ≡ map seat_in (insert_in_order plays_before p players)
seats_joined p [] = refl
seats_joined p (q ∷ players) = by (nat_lt q.number p.number) (seats_joined p players)
  where
    by : (b : Bool) → insert_in_order seat_before (seat_in p) (map seat_in players)
        ≡ map seat_in (insert_in_order plays_before p players)
        → (if b then seat_in q ∷ insert_in_order seat_before (seat_in p) (map seat_in players) else seat_in p
        ∷ seat_in q ∷ map seat_in players)
        ≡ map seat_in (if b then q ∷ insert_in_order plays_before p players else p ∷ q ∷ players)
    by true e = ap (λ (l : List Seat). seat_in q ∷ l) e
    by false e = refl

-- ---- the places

-- the new place stands among the others as its player does
pub places_joined : (layout : Layout) (places : List Place) (players : List Player) (k : Place) (p : Player)
    → ArePlaces layout places players → IsPlace layout k p
    → ArePlaces layout (insert_in_order sits_before k places) (insert_in_order plays_before p players)
places_joined layout [] [] k p a new = (new, tt)
places_joined layout [] (q ∷ players) k p a new = absurd a
places_joined layout (x ∷ places) [] k p a new = absurd a
places_joined layout (x ∷ places) (q ∷ players) k p a new =
    by (nat_lt x.player k.player) (nat_lt q.number p.number) (same x.player q.number k.player p.number a.0.number
    new.number)
    (places_joined layout places players k p a.1 new)
  where
    same : (a b c d : ℕ) → a ≡ b → c ≡ d → nat_lt a c ≡ nat_lt b d
    same a b c d e f = rw (e, f) refl

    by : (one two : Bool) → one ≡ two → ArePlaces layout (insert_in_order sits_before k places)
        (insert_in_order plays_before p players)
        → ArePlaces layout (if one then x ∷ insert_in_order sits_before k places else k ∷ x ∷ places)
        (if two then q ∷ insert_in_order plays_before p players else p ∷ q ∷ players)
    by true true e h = (a.0, h)
    by false false e h = (new, a)
    by true false e h = absurd (cc)
    by false true e h = absurd (cc)

-- the players ascend, also with a new one
pub ascend_joined : (low : ℕ) (players : List Player) (p : Player) → Ascend low players → low < p.number
    → is_some (player_in players p.number) ≡ false
    → Ascend low (insert_in_order plays_before p players)
ascend_joined low [] p a h none = (h, tt)
ascend_joined low (q ∷ players) p a h none =
    by (λ t none. ascend_joined q.number players p a.1 t none) (q.number == p.number) refl (nat_lt q.number p.number)
    refl none
  where
    above : (m n : ℕ) → (m == n) ≡ false → nat_lt m n ≡ false → n < m
    above m n e t = grind (arith, nat_tests, e, t)

    below : (m n : ℕ) → nat_lt m n ≡ true → m < n
    below m n t = grind (arith, nat_tests, t)

    by : (q.number < p.number → is_some (player_in players p.number) ≡ false
        → Ascend q.number (insert_in_order plays_before p players))
        → (same : Bool) → (q.number == p.number) ≡ same → (before : Bool) → nat_lt q.number p.number ≡ before
        → is_some (if same then Some q else player_in players p.number) ≡ false
        → Ascend low (if before then q ∷ insert_in_order plays_before p players else p ∷ q ∷ players)
    by later true e before t none = absurd (cc)
    by later false e true t none = (a.0, later (below q.number p.number t) none)
    by later false e false t none = (h, (above q.number p.number e t, a.1))

-- ---- the whole

-- a player joined
pub joined : (r : Kept) (story : Story) (player budget : ℕ) (version : Version) (d : Drive) (k : Place)
    (places : List Place) → Stands r story
    → 1 ≤ player → is_some (player_in story.players player) ≡ false
    → ((s : Served) → Serves r.driver s → Serves d (with_joined (new_seat player budget version) s))
    → d.layout ≡ r.driver.layout
    → ((budget : ℕ) → IsPlace r.layout k (new_player player budget version))
    → places ≡ insert_in_order sits_before k r.places
    → Stands (record r { driver = d; places = places })
    (record story { players = tale.with_joined (new_player player budget version) story.players })
joined r story player budget version d k places s least new serves classes place is = let low : 0 < player =
    omega arith in record {
      serving = record {
        served = with_joined (new_seat player budget version) s.serving.served;
        same_edits = s.serving.same_edits;
        same_seats = ap (insert_in_order seat_before (new_seat player budget version)) s.serving.same_seats
            ∙ seats_joined (new_player player budget version) story.players;
        serves = serves s.serving.served s.serving.serves;
        classes = classes ∙ s.serving.classes;
      };
      places = subst (λ (ks : List Place). ArePlaces r.layout ks (insert_in_order plays_before
          (new_player player budget version) story.players)) (sym is)
          (places_joined r.layout r.places story.players k (new_player player budget version) s.places (place budget));
      ascend = ascend_joined 0 story.players (new_player player budget version) s.ascend low new;
      kept = s.kept;
    }

-- what a join tells
pub join_told : (layout : Layout) (story : Story) (player budget : ℕ) (version : Version) (before after : List Event)
    → before ≡ []
    → after ≡ before ++ event.Joined player ∷ []
    → map (report_of (table_in layout)) after ≡ (after_line (table_in layout) story
    (lines.Join player budget version)).1
join_told layout story player budget version before after none pushed =
    rw (pushed, none) refl
