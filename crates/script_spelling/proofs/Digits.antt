-- What digits are worth.
use Rattle.std.proofs.Common.{◌≡◌, ◌+◌, ◌-◌, [], ◌∷◌, length, get_or, refl, arith, Bool, true, not, ◌&&◌, nat_lt, nat_eq}
use Rattle.std.specs.List.{list_all}
use Rattle.std.specs.Bool.{then_some}
use Rattle.std.proofs.lemmas.Bool.Decides.{nat_tests}
use Rattle.script_model.specs.Lines.{Text}
use Rattle.script_model.specs.Script.{is_digit, digits_value, natural_of}

-- the digits of a number: one or more, and no leading zero but in 0
abbrev pub has_digits : Text → Bool
has_digits text =
    nat_lt 0 (length text) && not (nat_lt 1 (length text) && nat_eq (get_or text 0 0) 48) && list_all is_digit text

pub natural_of-digits : (text : Text) → natural_of text ≡ then_some (has_digits text) (digits_value 0 text)
natural_of-digits [] = refl
natural_of-digits (c ∷ []) =
    let e : (is_digit c && true) ≡ is_digit c = grind (arith, nat_tests) in
    let z : 0 + (c - 48) ≡ c - 48 = omega arith in rw (e, z) refl
natural_of-digits (c ∷ d ∷ cs) =
    let long : nat_lt 1 (length (c ∷ d ∷ cs)) ≡ true = grind (arith, nat_tests) in
    let some : nat_lt 0 (length (c ∷ d ∷ cs)) ≡ true = grind (arith, nat_tests) in
    rw (long, some) refl
