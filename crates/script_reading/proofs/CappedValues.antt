-- A number that counts as a lesser one is no value of any kind, and neither is that one.
use Rattle.std.proofs.Common.{◌≡◌, ℕ, ◌-◌, ◌≤◌, ◌^◌, min, refl, sym, ◌∙◌, ap, arith, Bool, true, false, nat_lt, nat_le, Option, Some, None, option_map, option_and_then, Result, Ok, Err, ℤ, pos, negsuc}
use Rattle.std.specs.Bool.{then_some}
use Rattle.std.specs.Option.{ok_or}
use Rattle.std.proofs.lemmas.Bool.Decides.{nat_tests}
use Rattle.protocol_model.specs.declared.Kind.{Kind}
use Rattle.protocol_model.specs.declared.Kind.TheVariants.{U8, I32, U32, I64, Packed, Guid, Enum, Bytes}
use Rattle.protocol_model.specs.declared.LineWhy.{LineWhy}
use Rattle.protocol_model.specs.declared.LineWhy.TheVariants as why
use Rattle.protocol_model.specs.Value.{Arg, Scalar, fits, is_below, is_within}
use Rattle.script_model.specs.Lines.{Text}
use Rattle.script_model.specs.Script.{number_of}
use Rattle.script_model.specs.ScriptRules.{scalar_of, arg_of}
use Rattle.script_spelling.specs.Capped.{capped, most_size}
use Rattle.script_reading.specs.Judging.{value_of}
use Rattle.script_reading.specs.Taken.{IsSmall, in_kind}

below_capped : (max : ℕ) (z : ℤ) → max ≤ most_size
    → then_some (is_below max (capped z)) (capped z) ≡ then_some (is_below max z) z
below_capped max (negsuc n) few = refl
below_capped max (pos n) few = by_test (nat_le n most_size) refl
  where
    by_test : (t : Bool) → nat_le n most_size ≡ t
        → then_some (nat_lt (min most_size n) max) (pos (min most_size n)) ≡ then_some (nat_lt n max) (pos n)
    by_test true h = let e : min most_size n ≡ n = grind (arith, nat_tests) in rw e refl
    by_test false h =
        let e : min most_size n ≡ most_size = grind (arith, nat_tests) in
        let f : nat_lt n max ≡ false = grind (arith, nat_tests) in
        let g : nat_lt most_size max ≡ false = grind (arith, nat_tests) in rw (e, f, g) refl

within_capped : (half : ℕ) (z : ℤ) → half ≤ most_size - 1
    → then_some (is_within half (capped z)) (capped z) ≡ then_some (is_within half z) z
within_capped half (pos n) few = below_capped half (pos n) (omega arith)
within_capped half (negsuc n) few = by_test (nat_le n (most_size - 1)) refl
  where
    by_test : (t : Bool) → nat_le n (most_size - 1) ≡ t
        → then_some (nat_lt (min (most_size - 1) n) half) (negsuc (min (most_size - 1) n))
        ≡ then_some (nat_lt n half) (negsuc n)
    by_test true h = let e : min (most_size - 1) n ≡ n = grind (arith, nat_tests) in rw e refl
    by_test false h =
        let e : min (most_size - 1) n ≡ most_size - 1 = grind (arith, nat_tests) in
        let f : nat_lt n half ≡ false = grind (arith, nat_tests) in
        let g : nat_lt (most_size - 1) half ≡ false = grind (arith, nat_tests) in rw (e, f, g) refl

fits_capped : (kind : Kind) (z : ℤ) → IsSmall kind
    → then_some (fits kind (capped z)) (capped z) ≡ then_some (fits kind z) z
fits_capped Kind.Bool z few = below_capped 2 z (omega arith)
fits_capped U8 z few = below_capped (2 ^ 8) z (omega arith)
fits_capped I32 z few = within_capped (2 ^ 31) z (omega arith)
fits_capped U32 z few = below_capped (2 ^ 32) z (omega arith)
fits_capped I64 z few = within_capped (2 ^ 63) z (omega arith)
fits_capped Packed z few = below_capped (2 ^ 32) z (omega arith)
fits_capped Guid z few = below_capped (2 ^ 32) z (omega arith)
fits_capped (Enum count) z few = below_capped count z (omega arith)
fits_capped (Bytes most) z few = refl

-- a value that is asked for in two steps
in_steps : (kind : Kind) (text : Text) → value_of kind text ≡ in_kind kind (number_of text)
unfolding value_of
in_steps kind text = by_number (number_of text) refl
  where
    by_number : (o : Option ℤ) → number_of text ≡ o → value_of kind text ≡ in_kind kind (number_of text)
    by_number None h = rw h refl
    by_number (Some z) h = rw h refl

-- the value that a text spells, by the number that it counts as
pub value_is : (kind : Kind) (text : Text) (n : Option ℤ) → IsSmall kind → n ≡ option_map capped (number_of text)
    → in_kind kind n ≡ value_of kind text
value_is kind text n few h = ap (in_kind kind) h ∙ by_number (number_of text) ∙ sym (in_steps kind text)
  where
    by_number : (o : Option ℤ) → in_kind kind (option_map capped o) ≡ in_kind kind o
    by_number None = refl
    by_number (Some z) = ap (λ o. ok_or o why.Value) (fits_capped kind z few)

-- a value is an argument
abbrev pub scalar_in : Result ℤ LineWhy → Option Arg
scalar_in (Ok z) = Some (Scalar z)
scalar_in (Err why) = None

pub scalar_is : (kind : Kind) (text : Text) → scalar_in (value_of kind text) ≡ scalar_of kind text
scalar_is kind text = ap scalar_in (in_steps kind text) ∙ by_number (number_of text)
  where
    by_fit : (t : Bool) (z : ℤ) → scalar_in (ok_or (then_some t z) why.Value) ≡ then_some t (Scalar z)
    by_fit true z = refl
    by_fit false z = refl

    by_number : (o : Option ℤ)
        → scalar_in (in_kind kind o) ≡ option_and_then (λ v. then_some (fits kind v) (Scalar v)) o
    by_number None = refl
    by_number (Some z) = by_fit (fits kind z) z

-- an argument that isn't of bytes is a value
pub scalar_kind : (kind : Kind) (text : Text) → ((most : ℕ) → kind ≡ Bytes most → ⊥)
    → scalar_of kind text ≡ arg_of kind text
scalar_kind Kind.Bool text h = refl
scalar_kind U8 text h = refl
scalar_kind I32 text h = refl
scalar_kind U32 text h = refl
scalar_kind I64 text h = refl
scalar_kind Packed text h = refl
scalar_kind Guid text h = refl
scalar_kind (Enum count) text h = refl
scalar_kind (Bytes most) text h = absurd (h most refl)
