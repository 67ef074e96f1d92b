-- What stands between separators.
use Rattle.std.proofs.Common.{◌≡◌, ℕ, suc, ◌+◌, ◌-◌, ◌≤◌, List, [], ◌∷◌, length, drop, take, take_all, length-drop, refl, sym, ◌∙◌, ap, arith, Bool, true, false, not, nat_lt, Some, None, cond, count_by}
use Rattle.std.specs.List.{position_or_len, position}
use Rattle.std.specs.Bool.{◌==◌}
use Rattle.std.proofs.lemmas.Bool.Decides.{nat_tests}
use Rattle.std.proofs.lemmas.Option.{none-some}
use Rattle.std.proofs.lemmas.List.Sums.{prefix_len-le-length, sum_by-cons}
use Rattle.script_model.specs.Lines.{Text}
use Rattle.script_model.specs.Script.{pieces, add_to_first}
use Rattle.script_spelling.specs.Fields.{is_nil}

-- there is a piece, however short
pub pieces-some : (separator : ℕ) (text : Text) → is_nil (pieces separator text) ≡ false
pieces-some s [] = refl
pieces-some s (b ∷ bytes) = by_test (b == s) (pieces s bytes)
  where
    added : (rest : List Text) → is_nil (add_to_first b rest) ≡ false
    added [] = refl
    added (p ∷ ps) = refl

    by_test : (t : Bool) (rest : List Text) → is_nil (cond t ([] ∷ rest) (add_to_first b rest)) ≡ false
    by_test true rest = refl
    by_test false rest = added rest

-- the pieces after the first, if there was a separator
abbrev pub rest_of : ℕ → Bool → Text → List Text
rest_of s true text = pieces s text
rest_of s false text = []

-- the first piece ends at the first separator
pub pieces-first : (s : ℕ) (text : Text) → let n =
    position_or_len (λ b. b == s) text in pieces s text
    ≡ take n text ∷ rest_of s (nat_lt n (length text)) (drop (n + 1) text)
pieces-first s [] = refl
pieces-first s (b ∷ bytes) = by_test (b == s) (pieces-first s bytes)
  where
    n : ℕ
    n = position_or_len (λ b. b == s) bytes

    Goal : Bool → ℕ → Type 0
    Goal t m = cond t ([] ∷ pieces s bytes) (add_to_first b (pieces s bytes))
        ≡ take m (b ∷ bytes) ∷ rest_of s (nat_lt m (suc (length bytes))) (drop (m + 1) (b ∷ bytes))

    by_test : (t : Bool) → pieces s bytes ≡ take n bytes ∷ rest_of s (nat_lt n (length bytes)) (drop (n + 1) bytes)
        → Goal t (cond (not t) (1 + n) 0)
    by_test true h = let e : nat_lt 0 (suc (length bytes)) ≡ true = grind (arith, nat_tests) in rw e refl
    by_test false h =
        let e : 1 + n ≡ suc n = omega arith in
        let t : nat_lt (suc n) (suc (length bytes)) ≡ nat_lt n (length bytes) = grind (arith, nat_tests) in
        let d : suc n + 1 ≡ suc (n + 1) = omega arith in
        rw (e, t, d) (rw h refl)

-- the bytes after the first separator, as a slice of the text
pub pieces-found : (s : ℕ) (text : Text) (k : ℕ) → position (λ b. b == s) text ≡ Some k
    → pieces s text ≡ take k text ∷ pieces s (take (length text - (k + 1)) (drop (k + 1) text))
pieces-found s text k = by_test (nat_lt n (length text)) (pieces-first s text)
  where
    n : ℕ
    n = position_or_len (λ b. b == s) text

    by_test : (t : Bool) → pieces s text ≡ take n text ∷ rest_of s t (drop (n + 1) text)
        → cond t (Some n) None ≡ Some k
        → pieces s text ≡ take k text ∷ pieces s (take (length text - (k + 1)) (drop (k + 1) text))
    by_test true h e =
        let same : n ≡ k = cc in
        let long : length (drop (k + 1) text) ≡ length text - (k + 1) = length-drop (k + 1) text in
        let whole : take (length text - (k + 1)) (drop (k + 1) text) ≡ drop (k + 1) text =
        take_all _ (drop (k + 1) text) (omega (arith, long)) in
        rw (whole, ← same) h
    by_test false h e = absurd (none-some _ e)

-- without a separator there's one piece
pub pieces-missing : (s : ℕ) (text : Text) → position (λ b. b == s) text ≡ None → pieces s text ≡ text ∷ []
pieces-missing s text =
    by_test (nat_lt n (length text)) (prefix_len-le-length (λ b. not (b == s)) text) (pieces-first s text) refl
  where
    n : ℕ
    n = position_or_len (λ b. b == s) text

    by_test : (t : Bool) → n ≤ length text → pieces s text ≡ take n text ∷ rest_of s t (drop (n + 1) text)
        → nat_lt n (length text) ≡ t → cond t (Some n) None ≡ None → pieces s text ≡ text ∷ []
    by_test true within h t e = absurd (none-some _ (sym e))
    by_test false within h t e =
        let long : length text ≤ n = grind (arith, nat_tests) in
        let same : n ≡ length text = omega arith in
        h ∙ ap (λ m. take m text ∷ []) same ∙ ap (λ p. p ∷ []) (take_all _ text (omega arith))

-- one piece more than there are separators
pub pieces-count : (s : ℕ) (text : Text) → length (pieces s text) ≡ count_by (λ b. b == s) text + 1
pieces-count s [] = refl
pieces-count s (b ∷ bytes) =
    by_test (b == s) (pieces s bytes) (pieces-some s bytes) (pieces-count s bytes)
    ∙ ap (λ n. n + 1) (sym (sum_by-cons (λ c. cond (c == s) 1 0) b bytes))
  where
    by_test : (t : Bool) (rest : List Text) → is_nil rest ≡ false → length rest ≡ count_by (λ b. b == s) bytes + 1
        → length (cond t ([] ∷ rest) (add_to_first b rest)) ≡ cond t 1 0 + count_by (λ b. b == s) bytes + 1
    by_test true rest some h = omega (arith, h)
    by_test false [] some h = absurd cc
    by_test false (p ∷ ps) some h = omega (arith, h)
