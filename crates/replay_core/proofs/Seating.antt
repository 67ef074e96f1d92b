-- The places by number of their players.
use Rattle.std.proofs.Common.{◌≡◌, ℕ, suc, ◌+◌, ◌≤◌, List, [], ◌∷◌, length, Bool, true, false, cond, not, nat_le, nat_lt, refl, ap, ◌∙◌, arith, Option, Some, None, option_map, unwrap_or}
use Rattle.std.specs.List.{position, insert}
use Rattle.std.proofs.lemmas.Bool.Decides.{nat_tests}
use Rattle.class_layout.proofs.Finding.{position_step}
use Rattle.protocol_model.specs.Search.{insert_in_order}
use Rattle.replay_places.specs.declared.place.Place.{Place}
use Rattle.replay_core.specs.Lines.{sits_before, place_among}

later : (o : Option ℕ) (n : ℕ) → unwrap_or (option_map (λ k. k + 1) o) (suc n) ≡ suc (unwrap_or o n)
later None n = refl
later (Some k) n = omega arith

place_step : (player : ℕ) (x : Place) (places : List Place)
    → place_among player (x ∷ places) ≡ cond (nat_le player x.player) 0 (suc (place_among player places))
place_step player x places =
    ap (λ (o : Option ℕ). unwrap_or o (suc (length places)))
    (position_step (λ (x : Place). nat_le player x.player) x places)
    ∙ go (nat_le player x.player)
  where
    go : (b : Bool)
        → unwrap_or
        (cond b (Some 0) (option_map (λ k. k + 1) (position (λ (x : Place). nat_le player x.player) places)))
        (suc (length places))
        ≡ cond b 0 (suc (place_among player places))
    go true = refl
    go false = later (position (λ (x : Place). nat_le player x.player) places) (length places)

pub place_within : (player : ℕ) (places : List Place) → place_among player places ≤ length places
place_within player [] = omega arith
place_within player (x ∷ places) = rw (place_step player x places)
    (go (nat_le player x.player) (place_within player places))
  where
    go : (b : Bool) → place_among player places ≤ length places
        → cond b 0 (suc (place_among player places)) ≤ suc (length places)
    go true h = omega arith
    go false h = omega arith

-- a new place goes before the first one of no lesser player
pub inserted : (places : List Place) (c : Place)
    → insert places (place_among c.player places) c ≡ insert_in_order sits_before c places
inserted [] c = refl
inserted (x ∷ places) c =
    ap (λ (i : ℕ). insert (x ∷ places) i c) (place_step c.player x places)
    ∙ step (nat_le c.player x.player) (nat_lt x.player c.player) (turned c.player x.player) (inserted places c)
  where
    turned : (m n : ℕ) → nat_lt n m ≡ not (nat_le m n)
    turned m n = grind (arith, nat_tests)

    step : (le lt : Bool) → lt ≡ not le
        → insert places (place_among c.player places) c ≡ insert_in_order sits_before c places
        → insert (x ∷ places) (cond le 0 (suc (place_among c.player places))) c
        ≡ cond lt (x ∷ insert_in_order sits_before c places) (c ∷ x ∷ places)
    step true lt e ih = rw e refl
    step false lt e ih = rw e (ap (λ (cs : List Place). x ∷ cs) ih)

-- a place that was put in
pub added : (k : Place) (old slice new : List Place) (i : ℕ) → slice ≡ old → i ≡ place_among k.player slice
    → new ≡ insert old i k
    → new ≡ insert_in_order sits_before k old
added k old slice new i s at e =
    e ∙ ap (λ (i : ℕ). insert old i k) (at ∙ ap (place_among k.player) s) ∙ inserted old k

-- it is put in within them, or behind
pub within : (k : Place) (slice : List Place) (i len : ℕ) → i ≡ place_among k.player slice → length slice ≡ len
    → i ≤ len
within k slice i len e l = let h = place_within k.player slice in omega arith
