-- One end of several goes on, and the others stay.
use Rattle.std.proofs.Common.{◌≡◌, ℕ, zero, suc, ◌<◌, ◌≤◌, List, [], ◌∷◌, length, get_or, refl, ap, arith}
use Rattle.std.specs.Prelude.{slice_set}
use Rattle.live_links.specs.Told.{at_end}

-- there are as many ends as before
pub length_at_end : {E : Type 0} (step : E → E) (n : ℕ) (ends : List E) → length (at_end step n ends) ≡ length ends
length_at_end step n [] = refl
length_at_end step zero (e ∷ ends) = refl
length_at_end step (suc n) (e ∷ ends) = ap suc (length_at_end step n ends)

-- an end that is written from what it was has gone on
pub set_at_end : {E : Type 0} (step : E → E) (ends : List E) (n : ℕ) (was now : E) → n < length ends
    → was ≡ get_or ends n was → now ≡ step was → slice_set ends n now ≡ at_end step n ends
set_at_end step [] n was now lt is new = absurd (omega arith)
set_at_end step (e ∷ ends) zero was now lt is new = let f = ap step is in cc
set_at_end step (e ∷ ends) (suc n) was now lt is new =
    let rest = set_at_end step ends n was now (omega arith) is new in cc

-- one that is written back as it was before a step
pub set_before : {E : Type 0} (step : E → E) (before : List E) (n : ℕ) (was now : E)
    → n < length (at_end step n before) → was ≡ get_or (at_end step n before) n was
    → ((e : E) → was ≡ step e → now ≡ e) → slice_set (at_end step n before) n now ≡ before
set_before step [] n was now lt is back = absurd (omega arith)
set_before step (e ∷ before) zero was now lt is back = let f = back e is in cc
set_before step (e ∷ before) (suc n) was now lt is back =
    let rest = set_before step before n was now (omega arith) is back in cc

pub set_back : {E : Type 0} (step : E → E) (ends before : List E) (n : ℕ) (was now : E) → ends ≡ at_end step n before
    → n < length ends → was ≡ get_or ends n was → ((e : E) → was ≡ step e → now ≡ e) → slice_set ends n now ≡ before
set_back step ends before n was now h lt is back =
    rw h (set_before step before n was now (rw h at lt) (rw h at is) back)

-- where it isn't open, nothing goes on
pub at_end_past : {E : Type 0} (step : E → E) (ends : List E) (n : ℕ) → length ends ≤ n → at_end step n ends ≡ ends
at_end_past step [] n h = refl
at_end_past step (e ∷ ends) zero h = absurd (omega arith)
at_end_past step (e ∷ ends) (suc n) h = let rest = at_end_past step ends n (omega arith) in cc
