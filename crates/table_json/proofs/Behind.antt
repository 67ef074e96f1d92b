-- What stands behind a word.
use Rattle.std.proofs.Common.{◌≡◌, ◌≢◌, ℕ, List, [], ◌∷◌, ◌++◌, sym, refl, ap, ◌∙◌, arith, Bool, true, false, nat_eq, cond, Option, Some, None, option_map, Bor}
use Rattle.std.proofs.lemmas.Bool.Decides.{nat_tests}
use Rattle.std.specs.Option.{MatchOption}
use Rattle.std.specs.Str.Pattern.{FindsTextPrefix, StripsPrefix}
use Rattle.script_model.specs.Lines.{Text}
use Rattle.table_model.specs.Words.{behind}

-- a word and what stands behind it
behind-append : (word rest : Text) → behind word (word ++ rest) ≡ Some rest
behind-append [] rest = refl
behind-append (c ∷ word) rest =
    let e : nat_eq c c ≡ true = grind (arith, nat_tests) in rw e (behind-append word rest)

-- where something stands behind a word, the text is both
behind-some : (word text rest : Text) → behind word text ≡ Some rest → text ≡ word ++ rest
behind-some [] text rest e = cc
behind-some (c ∷ word) [] rest e = cc
behind-some (c ∷ word) (b ∷ text) rest e = by_test (nat_eq c b) refl (λ h. behind-some word text rest h) e
  where
    by_test : (t : Bool) → nat_eq c b ≡ t → (behind word text ≡ Some rest → text ≡ word ++ rest)
        → cond t (behind word text) None ≡ Some rest → b ∷ text ≡ c ∷ (word ++ rest)
    by_test true same later e =
        let head : b ≡ c = grind (arith, nat_tests) in let tail : text ≡ word ++ rest = later e in cc
    by_test false other later e = cc

-- where the text doesn't begin with the word, nothing does
behind-none : (word text : Text) → ((rest : Text) → text ≢ word ++ rest) → behind word text ≡ None
behind-none word text h = by_value (behind word text) refl
  where
    by_value : (o : Option Text) → behind word text ≡ o → o ≡ None
    by_value None e = refl
    by_value (Some rest) e = absurd (h rest (behind-some word text rest e))

-- what is left where the word is stripped
pub stripped : (word text : Text) (r : Option (Bor (List ℕ)))
    → MatchOption r (FindsTextPrefix word text None) (λ x. StripsPrefix (FindsTextPrefix word) text x.now)
    → option_map (λ (x : Bor (List ℕ)). x.now) r ≡ behind word text
stripped word text None h = sym (behind-none word text h)
stripped word text (Some x) h =
    let whole : text ≡ word ++ x.now = cc in
    sym (ap (behind word) whole ∙ behind-append word x.now)
