-- What is found among the due bunches was made, and is due.
use Rattle.std.proofs.Common.{◌≡◌, ℕ, ◌≤◌, List, [], ◌∷◌, ◌++◌, Bool, true, ◌&&◌, Option, Some, None, option_map, unwrap_or, refl, sym, ap, ◌∙◌, arith}
use Rattle.std.specs.List.{find, flat_map, range_with_len}
use Rattle.std.proofs.lemmas.Bool.{and_parts}
use Rattle.connection_model.specs.Feed.{Past}
use Rattle.connection_model.specs.Bunches.{made_count, channels_of, is_due}
use Rattle.reliable_window.proofs.Least.{find_was}
use Rattle.channel_laws.specs.Due.{due_on, is_from, next_due}
use Rattle.channel_laws.proofs.Orders.{find_front, find_back, find_mapped}

-- the bunch was made, and is due
abbrev pub WasDue : Past → (channel number : ℕ) → Type 0
WasDue past c n = (is_due past c n ≡ true) × (1 ≤ n) × (n ≤ made_count past c)

on_channel : (past : Past) (p : ℕ × ℕ → Bool) (k c n : ℕ) → find p (due_on past k) ≡ Some (c, n)
    → WasDue past c n
on_channel past p k c n e =
    go (find (λ i. is_due past k i && p (k, i)) (range_with_len 1 (made_count past k))) refl
    (sym (find_mapped p (is_due past k) (λ i. (k, i)) (range_with_len 1 (made_count past k))) ∙ e)
  where
    go : (o : Option ℕ) → find (λ i. is_due past k i && p (k, i)) (range_with_len 1 (made_count past k)) ≡ o
        → ◌≡◌ {A = Option (ℕ × ℕ)} (option_map {U = ℕ × ℕ} (λ (i : ℕ). (k, i)) o) (Some (c, n))
        → WasDue past c n
    go None f h = absurd cc
    go (Some m) f h =
        let same : (k, m) ≡ (c, n) = ap (λ (o : Option (ℕ × ℕ)). unwrap_or o (k, m)) h in
        let ch : k ≡ c = ap (λ (x : ℕ × ℕ). x.0) same in
        let num : m ≡ n = ap (λ (x : ℕ × ℕ). x.1) same in
        let was = find_was (λ i. is_due past k i && p (k, i)) 1 (made_count past k) m f in
        let top : made_count past k ≡ made_count past c = ap (made_count past) ch in (
          sym (ap (is_due past k) num ∙ ap (λ x. is_due past x n) ch) ∙
              (and_parts (is_due past k m) (p (k, m)) was.2).0,
          omega (arith, was.0, num),
          omega
              (arith, was.1, num, top),
        )

step : (past : Past) (p : ℕ × ℕ → Bool) (c n k : ℕ) (cs : List ℕ)
    → (find p (flat_map (due_on past) cs) ≡ Some (c, n) → WasDue past c n)
    → (o : Option (ℕ × ℕ)) → find p (due_on past k) ≡ o
    → find p (due_on past k ++ flat_map (due_on past) cs) ≡ Some (c, n) → WasDue past c n
step past p c n k cs rest None f e =
    rest (sym (find_back p (due_on past k) (flat_map (due_on past) cs) f) ∙ e)
step past p c n k cs rest (Some x) f e =
    on_channel past p k c n (f ∙ sym (find_front p (due_on past k) (flat_map (due_on past) cs) x f) ∙ e)

among : (past : Past) (p : ℕ × ℕ → Bool) (c n : ℕ) (cs : List ℕ)
    → find p (flat_map (due_on past) cs) ≡ Some (c, n) → WasDue past c n
among past p c n [] e = absurd cc
among past p c n (k ∷ cs) e = step past p c n k cs (among past p c n cs) (find p (due_on past k)) refl e

pub next_due_was : (past : Past) (ch from c n : ℕ) → next_due past ch from ≡ Some (c, n) → WasDue past c n
next_due_was past ch from c n e = among past (is_from ch from) c n (channels_of past) e
