-- Bytes in hex are as the reports ask.
use Rattle.std.proofs.Common.{◌≡◌, ℕ, zero, suc, ◌/◌, ◌%◌, ◌<◌, List, [], ◌∷◌, get_or, slice_index, length, refl, ◌∙◌, ap, arith}
use Rattle.std.specs.List.{flat_map}
use Rattle.hex.specs.Hex.{encode_lower, encode_with, lower_digits}
use Rattle.script_model.specs.Reports.{hex_digit, hex_of}

-- one digit
digit-is : (n : ℕ) → n < 16 → slice_index lower_digits n ≡ hex_digit n
digit-is zero h = refl
digit-is (suc zero) h = refl
digit-is (suc (suc zero)) h = refl
digit-is (suc (suc (suc zero))) h = refl
digit-is (suc (suc (suc (suc zero)))) h = refl
digit-is (suc (suc (suc (suc (suc zero))))) h = refl
digit-is (suc (suc (suc (suc (suc (suc zero)))))) h = refl
digit-is (suc (suc (suc (suc (suc (suc (suc zero))))))) h = refl
digit-is (suc (suc (suc (suc (suc (suc (suc (suc zero)))))))) h = refl
digit-is (suc (suc (suc (suc (suc (suc (suc (suc (suc zero))))))))) h = refl
digit-is (suc (suc (suc (suc (suc (suc (suc (suc (suc (suc zero)))))))))) h = refl
digit-is (suc (suc (suc (suc (suc (suc (suc (suc (suc (suc (suc zero))))))))))) h = refl
digit-is (suc (suc (suc (suc (suc (suc (suc (suc (suc (suc (suc (suc zero)))))))))))) h = refl
digit-is (suc (suc (suc (suc (suc (suc (suc (suc (suc (suc (suc (suc (suc zero))))))))))))) h = refl
digit-is (suc (suc (suc (suc (suc (suc (suc (suc (suc (suc (suc (suc (suc (suc zero)))))))))))))) h = refl
digit-is (suc (suc (suc (suc (suc (suc (suc (suc (suc (suc (suc (suc (suc (suc (suc zero))))))))))))))) h = refl
digit-is (suc (suc (suc (suc (suc (suc (suc (suc (suc (suc (suc (suc (suc (suc (suc (suc n)))))))))))))))) h =
    absurd (omega arith)

-- the digits of a byte
abbrev digits_of : ℕ → List ℕ
digits_of n = hex_digit (n / 16) ∷ hex_digit (n % 16) ∷ []

digits-are : (bytes : List ℕ) → ((i : ℕ) → get_or bytes i 0 < 256) → encode_lower bytes ≡ flat_map digits_of bytes
unfolding encode_with
digits-are [] h = refl
digits-are (b ∷ bytes) h =
    let byte : b < 256 = h 0 in
    let high : b / 16 < 16 = omega arith in
    let low : b % 16 < 16 = omega arith in
    ap (λ d. d ∷ slice_index lower_digits (b % 16) ∷ encode_lower bytes) (digit-is (b / 16) high)
    ∙ ap (λ d. hex_digit (b / 16) ∷ d ∷ encode_lower bytes) (digit-is (b % 16) low)
    ∙ ap (λ ds. hex_digit (b / 16) ∷ hex_digit (b % 16) ∷ ds) (digits-are bytes (λ i. h (suc i)))

pub hex_of-is : (bytes : List ℕ) → ((i : ℕ) → get_or bytes i 0 < 256) → 0 < length bytes
    → encode_lower bytes ≡ hex_of bytes
hex_of-is [] h some = absurd (omega arith)
hex_of-is (b ∷ bytes) h some = digits-are (b ∷ bytes) h
