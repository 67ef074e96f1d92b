-- A name begins with a letter.
use Rattle.std.proofs.Common.{◌≡◌, ℕ, List, [], ◌∷◌, Bool, true, false, ◌&&◌, ◌||◌, Some, refl, sym, ap, ◌∙◌, slice_get}
use Rattle.std.specs.List.{list_all}
use Rattle.connection_model.specs.Names.{is_letter, is_name_char, is_segment_name}

with_letter : (a b c : Bool) → a ≡ true → ((a || b) || c) ≡ true
with_letter true b c h = refl
with_letter false b c h = absurd (cc)

and_same : (a b x : Bool) → a ≡ true → b ≡ true → (a && x) ≡ (b && x)
and_same a b x h k = rw (h, k) refl

letter_same : (first c : ℕ) → Some c ≡ Some first → first ≡ c
letter_same first c e = cc

-- where the first character is a letter, the rest have to be characters of names
pub begins : (bytes : List ℕ) (first : ℕ) → slice_get bytes 0 ≡ Some first → is_letter first ≡ true
    → is_segment_name bytes ≡ list_all is_name_char bytes
begins [] first e h = absurd (cc)
begins (c ∷ bytes) first e h =
    let here : is_letter c ≡ true = ap is_letter (sym (letter_same first c e)) ∙ h in
    and_same (is_letter c) (is_name_char c) (list_all is_name_char bytes) here (with_letter _ _ _ here)
