-- The players' chairs by number.
use Rattle.std.proofs.Common.{◌≡◌, ℕ, suc, ◌+◌, ◌≤◌, List, [], ◌∷◌, length, Bool, true, false, cond, not, nat_le, nat_lt, refl, ap, ◌∙◌, arith, Option, Some, None, option_map, unwrap_or}
use Rattle.std.specs.List.{position, insert}
use Rattle.std.proofs.lemmas.Bool.Decides.{nat_tests}
use Rattle.class_layout.proofs.Finding.{position_step}
use Rattle.protocol_model.specs.Search.{insert_in_order}
use Rattle.net_driver.specs.declared.chair.Chair.{Chair}
use Rattle.net_driver.specs.declared.chair.Place.{Place}
use Rattle.net_driver.specs.Chairs.{sits_before}

-- where a new chair of this player goes
abbrev pub place_for : (player : ℕ) → List Chair → ℕ
place_for player chairs = unwrap_or (position (λ (x : Chair). nat_le player x.player) chairs) (length chairs)

later : (o : Option ℕ) (n : ℕ) → unwrap_or (option_map (λ k. k + 1) o) (suc n) ≡ suc (unwrap_or o n)
later None n = refl
later (Some k) n = omega arith

place_step : (player : ℕ) (x : Chair) (chairs : List Chair)
    → place_for player (x ∷ chairs) ≡ cond (nat_le player x.player) 0 (suc (place_for player chairs))
place_step player x chairs =
    ap (λ (o : Option ℕ). unwrap_or o (suc (length chairs)))
    (position_step (λ (x : Chair). nat_le player x.player) x chairs)
    ∙ go (nat_le player x.player)
  where
    go : (b : Bool)
        → unwrap_or
        (cond b (Some 0) (option_map (λ k. k + 1) (position (λ (x : Chair). nat_le player x.player) chairs)))
        (suc (length chairs))
        ≡ cond b 0 (suc (place_for player chairs))
    go true = refl
    go false = later (position (λ (x : Chair). nat_le player x.player) chairs) (length chairs)

pub place_within : (player : ℕ) (chairs : List Chair) → place_for player chairs ≤ length chairs
place_within player [] = omega arith
place_within player (x ∷ chairs) = rw (place_step player x chairs)
    (go (nat_le player x.player) (place_within player chairs))
  where
    go : (b : Bool) → place_for player chairs ≤ length chairs
        → cond b 0 (suc (place_for player chairs)) ≤ suc (length chairs)
    go true h = omega arith
    go false h = omega arith

-- a new chair goes before the first one of no lesser player
pub inserted : (chairs : List Chair) (c : Chair)
    → insert chairs (place_for c.player chairs) c ≡ insert_in_order sits_before c chairs
inserted [] c = refl
inserted (x ∷ chairs) c =
    ap (λ (i : ℕ). insert (x ∷ chairs) i c) (place_step c.player x chairs)
    ∙ step (nat_le c.player x.player) (nat_lt x.player c.player) (turned c.player x.player) (inserted chairs c)
  where
    turned : (m n : ℕ) → nat_lt n m ≡ not (nat_le m n)
    turned m n = grind (arith, nat_tests)

    step : (le lt : Bool) → lt ≡ not le
        → insert chairs (place_for c.player chairs) c ≡ insert_in_order sits_before c chairs
        → insert (x ∷ chairs) (cond le 0 (suc (place_for c.player chairs))) c
        ≡ cond lt (x ∷ insert_in_order sits_before c chairs) (c ∷ x ∷ chairs)
    step true lt e ih = rw e refl
    step false lt e ih = rw e (ap (λ (cs : List Chair). x ∷ cs) ih)

-- a chair that was put in its place
pub added : (player : ℕ) (place : Place) (old slice new : List Chair) (o : Option ℕ) (i : ℕ) → slice ≡ old
    → o ≡ position (λ (x : Chair). nat_le player x.player) slice → i ≡ unwrap_or o (length old)
    → new ≡ insert old i (record { player = player; place = place })
    → new ≡ insert_in_order sits_before (record { player = player; place = place }) old
added player place old slice new o i s f at e =
    e
    ∙ ap (λ (i : ℕ). insert old i (record { player = player; place = place }))
    (at ∙ ap (λ (o : Option ℕ). unwrap_or o (length old)) (f ∙ ap (position (λ (x : Chair). nat_le player x.player)) s))
    ∙ inserted old (record { player = player; place = place })
