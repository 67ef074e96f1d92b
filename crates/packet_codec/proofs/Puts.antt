-- Putting one thing behind another.
use Rattle.std.proofs.Common.{◌≡◌, ℕ, zero, suc, true, false, replicate, ◌<◌, ◌≤◌, ◌+◌, ◌*◌, List, [], ◌∷◌, ◌++◌, Bool, sym, ap, ◌∙◌, subst, arith, length, length-append, append_assoc, append-nil, take, get_or}
use Rattle.std.specs.List.{flat_map, list_all}
use Rattle.std.proofs.lemmas.List.{take_more}
use Rattle.std.proofs.lemmas.Grind.{flat_map-append}
use Rattle.protocol_model.specs.Bits.{bytes_of}
use Rattle.bit_io.specs.Written.{Written, Appends}
use Rattle.protocol_laws.proofs.BytesLaws.{bits_of-bytes_of}
use Rattle.protocol_laws.proofs.Lengths.{length-bits_of}
use Rattle.protocol_laws.proofs.Booleans.{left_of, right_of}

-- nothing is put
pub appends_none : (w : Written) → Appends w w []
appends_none w = record { bits = sym (append-nil w.bits); spare = omega arith }

-- these bits are put, and then those
pub appends_then : (a b c : Written) (x y : List Bool) → Appends a b x → Appends b c y → Appends a c (x ++ y)
appends_then a b c x y p q = record {
  bits = q.bits ∙ ap (λ (z : List Bool). z ++ y) p.bits ∙ append_assoc a.bits x y;
  spare = let e = p.spare in let f = q.spare in omega (arith, length-append x y, e, f);
}

-- the same, of what is put for one more element of a list
pub appends_more : {X : Type 0} (f : X → List Bool) (xs : List X) (i : ℕ) (d : X) (a b c : Written) → i < length xs → Appends a b (flat_map f (take i xs)) → Appends b c (f (get_or xs i d)) → Appends a c (flat_map f (take (i + 1) xs))
appends_more f xs i d a b c h p q =
    let more : flat_map f (take (i + 1) xs) ≡ flat_map f (take i xs) ++ f (get_or xs i d) =
    ap (flat_map f) (take_more xs i d h) ∙ flat_map-append f (take i xs) (get_or xs i d ∷ []) ∙ ap (λ (last : List Bool). flat_map f (take i xs) ++ last) (append-nil (f (get_or xs i d))) in
    subst (λ (bits : List Bool). Appends a c bits) (sym more) (appends_then a b c (flat_map f (take i xs)) (f (get_or xs i d)) p q)

-- how long the spellings are with one element more
pub length_more : {X : Type 0} (f : X → List Bool) (xs : List X) (i : ℕ) (d : X) → i < length xs → length (flat_map f (take (i + 1) xs)) ≡ length (flat_map f (take i xs)) + length (f (get_or xs i d))
length_more f xs i d h =
    let more : flat_map f (take (i + 1) xs) ≡ flat_map f (take i xs) ++ (f (get_or xs i d) ++ []) = ap (flat_map f) (take_more xs i d h) ∙ flat_map-append f (take i xs) (get_or xs i d ∷ []) in
    ap length more ∙ length-append (flat_map f (take i xs)) (f (get_or xs i d) ++ []) ∙ omega (arith, length-append (f (get_or xs i d)) [])

-- five parts, one behind the other
pub appends_five : (w0 w1 w2 w3 w4 w5 : Written) (a b c d e : List Bool) → Appends w0 w1 a → Appends w1 w2 b → Appends w2 w3 c → Appends w3 w4 d → Appends w4 w5 e → Appends w0 w5 (a ++ (b ++ (c ++ (d ++ e))))
appends_five w0 w1 w2 w3 w4 w5 a b c d e p q r s t =
    appends_then w0 w1 w5 a (b ++ (c ++ (d ++ e))) p (appends_then w1 w2 w5 b (c ++ (d ++ e)) q (appends_then w2 w3 w5 c (d ++ e) r (appends_then w3 w4 w5 d e s t)))

-- what holds of each element of a list holds of the one at an index
pub list_all-get : {X : Type 0} (test : X → Bool) (xs : List X) (i : ℕ) (d : X) → list_all test xs ≡ true → i < length xs → test (get_or xs i d) ≡ true
list_all-get test [] i d h l = absurd (omega arith)
list_all-get test (x ∷ xs) zero d h l = left_of (test x) (list_all test xs) h
list_all-get test (x ∷ xs) (suc i) d h l = list_all-get test xs i d (right_of (test x) (list_all test xs) h) (omega arith)

-- so many bits are in as many bytes
pub bits_in_bytes : (bits : List Bool) (most : ℕ) → length (bytes_of bits) ≤ most → length bits ≤ 8 * most
bits_in_bytes bits most h =
    let held = bits_of-bytes_of bits in
    let whole : 8 * length (bytes_of bits) ≡ length bits + length (replicate held.0 false) = sym (length-bits_of (bytes_of bits)) ∙ ap length held.2 ∙ length-append bits (replicate held.0 false) in
    omega (arith, whole, h)
