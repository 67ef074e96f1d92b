-- What a sample notes, by the sample before it.
use Rattle.std.specs.Prelude.{◌≡◌, refl, ℕ, List, [], ◌∷◌, length, Bool, true, false, not, ◌&&◌, nat_lt, Option, filter_map}
use Rattle.std.specs.List.{range_with_len}
use Rattle.std.specs.Bool.{then_some}
use Rattle.std.proofs.Common.{ap}
use Rattle.std.proofs.lemmas.Bool.Decides.{Decides-int_eq}
use Rattle.protocol_model.specs.Search.{or_else}
use Rattle.change_model.specs.Changes.{Sample, sampled_value, is_noted, noted_tick, change_of, changes_since}

-- the test of a value against the same one
pub same_is_not_noted : (now before : Sample) (samples : List Sample) (i : ℕ) → sampled_value now i ≡ sampled_value before i
    → is_noted now (before ∷ samples) i ≡ false
same_is_not_noted now before samples i h = ap not ((Decides-int_eq (sampled_value now i) (sampled_value before i)).1 h)

-- what isn't noted leaves the tick noted before
not_noted : (above noted : Bool) (tick : ℕ) (earlier : Option ℕ) → noted ≡ false
    → or_else (then_some (above && noted) tick) earlier ≡ earlier
not_noted true false tick earlier h = refl
not_noted false false tick earlier h = refl
not_noted above true tick earlier h = absurd (cc)

pub same_keeps_tick : (now before : Sample) (samples : List Sample) (tick i : ℕ)
    → sampled_value now i ≡ sampled_value before i
    → noted_tick (now ∷ before ∷ samples) tick i ≡ noted_tick (before ∷ samples) tick i
same_keeps_tick now before samples tick i h =
    not_noted (nat_lt tick now.tick) (is_noted now (before ∷ samples) i) now.tick (noted_tick (before ∷ samples) tick i)
    (same_is_not_noted now before samples i h)

-- two functions that agree find the same
same_found : {A B : Type 0} (f g : A → Option B) (xs : List A) → ((x : A) → f x ≡ g x) → filter_map f xs ≡ filter_map g xs
same_found f g [] h = refl
same_found f g (x ∷ xs) h = rw (h x, same_found f g xs h) refl

-- a sample with the values of the one before it, at a later tick
abbrev again : ℕ → Sample → Sample
again at before = record { tick = at; values = before.values }

pub same_changes : (at tick : ℕ) (before : Sample) (samples : List Sample)
    → changes_since (again at before ∷ before ∷ samples) tick ≡ changes_since (before ∷ samples) tick
same_changes at tick before samples =
    same_found (change_of (again at before ∷ before ∷ samples) tick) (change_of (before ∷ samples) tick)
    (range_with_len 0 (length before.values))
    (λ i. rw (same_keeps_tick (again at before) before samples tick i refl) refl)
