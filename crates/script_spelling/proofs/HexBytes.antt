-- Bytes of a line are those that hex digits spell.
use Rattle.std.proofs.Common.{◌≡◌, ℕ, suc, ◌+◌, ◌-◌, ◌*◌, ◌%◌, ◌≤◌, ◌<◌, List, [], ◌∷◌, length, refl, sym, ◌∙◌, ap, arith, ◌⊎◌, inl, inr, Bool, true, false, ◌&&◌, nat_le, nat_eq, Option, Some, None, is_some, cond, Result, Ok, Err, codes}
use Rattle.std.specs.List.{list_all}
use Rattle.std.specs.Str.{bytes_eq}
use Rattle.std.specs.Bool.{then_some}
use Rattle.std.proofs.lemmas.Bool.Decides.{nat_tests}
use Rattle.hex.specs.Hex as hex
use Rattle.hex.specs.Hex.{decode_of, decode_pairs, hex_digit_value, digit_or_error, pair_value}
use Rattle.hex.specs.declared.error.FromHexError.{FromHexError}
use Rattle.hex.specs.declared.error.FromHexError.TheVariants.{OddLength, OutOfMemory}
use Rattle.script_model.specs.Lines.{Text}
use Rattle.script_model.specs.Script.{hex_bytes, hex_value, byte_of, cons_if, octets_of, datagram_of, ◌>>=◌}

-- what was decoded
abbrev pub bytes_in : Result (List ℕ) FromHexError → Option (List ℕ)
bytes_in (Ok bytes) = Some bytes
bytes_in (Err e) = None

-- the two crates have one value for a digit
digit-is : (c : ℕ) → hex_digit_value c ≡ hex_value c
digit-is c =
    by_tests (nat_le 65 c && nat_le c 70) (nat_le 97 c && nat_le c 102) (nat_le 48 c && nat_le c 57) refl refl refl
  where
    by_tests : (t u v : Bool) → (nat_le 65 c && nat_le c 70) ≡ t → (nat_le 97 c && nat_le c 102) ≡ u
        → (nat_le 48 c && nat_le c 57) ≡ v
        → cond t (Some (c - 55)) (cond u (Some (c - 87)) (cond v (Some (c - 48)) None))
        ≡ cond v (Some (c - 48)) (cond u (Some (c - 87)) (cond t (Some (c - 55)) None))
    by_tests true true v h k l = absurd (grind (arith, nat_tests))
    by_tests true false true h k l = absurd (grind (arith, nat_tests))
    by_tests true false false h k l = refl
    by_tests false true true h k l = absurd (grind (arith, nat_tests))
    by_tests false true false h k l = refl
    by_tests false false true h k l = refl
    by_tests false false false h k l = refl

pairs-are : (i : ℕ) (text : Text) → bytes_in (decode_pairs i text) ≡ hex_bytes text
unfolding decode_pairs
pairs-are i [] = refl
pairs-are i (c ∷ []) = refl
pairs-are i (c ∷ d ∷ cs) =
    by_digits (hex_digit_value c) (hex_digit_value d) (decode_pairs (i + 2) cs)
    (sym (digit-is c)) (sym (digit-is d)) (pairs-are (i + 2) cs)
  where
    by_digits : (u v : Option ℕ) (r : Result (List ℕ) FromHexError) → hex_value c ≡ u → hex_value d ≡ v
        → bytes_in r ≡ hex_bytes cs
        → bytes_in (hex.◌>>=◌ (hex.◌>>=◌ (digit_or_error c i u)
        (λ h. hex.◌>>=◌ (digit_or_error d (i + 1) v) (λ l. Ok (h * 16 + l))))
        (λ byte. hex.◌>>=◌ r (λ bytes. Ok (byte ∷ bytes))))
        ≡ cons_if (byte_of (hex_value c) (hex_value d)) (hex_bytes cs)
    by_digits None v r h k l = rw h refl
    by_digits (Some x) None r h k l = rw (h, k) refl
    by_digits (Some x) (Some y) (Err e) h k l = rw (h, k, ← l) refl
    by_digits (Some x) (Some y) (Ok bytes) h k l = rw (h, k, ← l) (ap (λ b. Some (b ∷ bytes)) (omega arith))

pub odd-none : (text : Text) → length text % 2 ≡ 1 → hex_bytes text ≡ None
odd-none [] h = absurd (omega arith)
odd-none (c ∷ []) h = refl
odd-none (c ∷ d ∷ cs) h = rw (odd-none cs (omega arith)) (none-last (byte_of (hex_value c) (hex_value d)))
  where
    none-last : (o : Option ℕ) → cons_if o None ≡ None
    none-last None = refl
    none-last (Some b) = refl

-- what is decoded is what the digits spell
pub decoded-is : (text : Text) → bytes_in (decode_of text) ≡ hex_bytes text
decoded-is text = by_test (nat_eq (length text % 2) 1) refl
  where
    by_test : (t : Bool) → nat_eq (length text % 2) 1 ≡ t
        → bytes_in (cond t (Err OddLength) (decode_pairs 0 text)) ≡ hex_bytes text
    by_test true h = sym (odd-none text (grind (arith, nat_tests)))
    by_test false h = pairs-are 0 text

-- each digit is one, and they come in pairs
pub pairs-some : (text : Text) → length text % 2 ≡ 0
    → is_some (hex_bytes text) ≡ list_all (λ c. is_some (hex_value c)) text
pairs-some [] h = refl
pairs-some (c ∷ []) h = absurd (omega arith)
pairs-some (c ∷ d ∷ cs) h =
    by_values (hex_value c) (hex_value d) (hex_bytes cs)
    ∙ ap (λ b. is_some (hex_value c) && (is_some (hex_value d) && b)) (pairs-some cs (omega arith))
  where
    by_values : (u v : Option ℕ) (o : Option (List ℕ))
        → is_some (cons_if (byte_of u v) o) ≡ (is_some u && (is_some v && is_some o))
    by_values None v o = refl
    by_values (Some x) None o = refl
    by_values (Some x) (Some y) None = refl
    by_values (Some x) (Some y) (Some bytes) = refl

-- two digits a byte
pub pairs-length : (text : Text) (bytes : List ℕ) → hex_bytes text ≡ Some bytes → length text ≡ 2 * length bytes
pairs-length [] bytes h = let e : [] ≡ bytes = cc in rw (← e) refl
pairs-length (c ∷ []) bytes h = absurd cc
pairs-length (c ∷ d ∷ cs) bytes h =
    by_values (byte_of (hex_value c) (hex_value d)) (hex_bytes cs) (λ rest e. pairs-length cs rest e) h
  where
    by_values : (u : Option ℕ) (o : Option (List ℕ)) → ((rest : List ℕ) → o ≡ Some rest → length cs ≡ 2 * length rest)
        → cons_if u o ≡ Some bytes → suc (suc (length cs)) ≡ 2 * length bytes
    by_values None o f h = absurd cc
    by_values (Some b) None f h = absurd cc
    by_values (Some b) (Some rest) f h = let e : b ∷ rest ≡ bytes = cc in rw (← e) (omega (arith, f rest refl))

-- a datagram in digits
pub datagram-is : (text : Text) → octets_of text ≡ hex_bytes text → length text ≤ 4096
    → is_some (datagram_of text) ≡ is_some (hex_bytes text)
datagram-is text h short = rw h (by_value (hex_bytes text) refl)
  where
    by_value : (o : Option (List ℕ)) → hex_bytes text ≡ o
        → is_some (o >>= (λ bytes. then_some (nat_le (length bytes) 2048) bytes)) ≡ is_some o
    by_value None e = refl
    by_value (Some bytes) e =
        let few : nat_le (length bytes) 2048 ≡ true = grind (arith, nat_tests, pairs-length text bytes e) in rw few refl

pub datagram-long : (text : Text) → octets_of text ≡ hex_bytes text → 4096 < length text
    → is_some (datagram_of text) ≡ false
datagram-long text h long = rw h (by_value (hex_bytes text) refl)
  where
    by_value : (o : Option (List ℕ)) → hex_bytes text ≡ o
        → is_some (o >>= (λ bytes. then_some (nat_le (length bytes) 2048) bytes)) ≡ false
    by_value None e = refl
    by_value (Some bytes) e =
        let many : nat_le (length bytes) 2048 ≡ false =
        grind (arith, nat_tests, pairs-length text bytes e) in rw many refl

-- what was decoded, and what wasn't
pub decoded-some : (text bytes : List ℕ) → decode_of text ≡ Ok bytes → Some bytes ≡ hex_bytes text
decoded-some text bytes h = ap bytes_in (sym h) ∙ decoded-is text

pub decoded-none : (text : List ℕ) (e : FromHexError) → (e ≡ OutOfMemory) ⊎ (decode_of text ≡ Err e)
    → (e ≡ OutOfMemory → ⊥)
    → None ≡ hex_bytes text
decoded-none text e (inl h) other = absurd (other h)
decoded-none text e (inr h) other = ap bytes_in (sym h) ∙ decoded-is text

-- a text that isn't empty, nor `-`, is of digits
pub octets-digits : (text : List ℕ) → bytes_eq text (codes "-") ≡ false → 0 < length text
    → octets_of text ≡ hex_bytes text
octets-digits [] h some = absurd (omega arith)
octets-digits (c ∷ cs) h some = rw h refl
