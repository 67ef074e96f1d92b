-- Kinds of arguments that are read one after another, and how many bits they take.
use Rattle.std.proofs.Common.{◌≡◌, ℕ, ◌%◌, ◌^◌, ◌<◌, ◌≤◌, List, [], ◌∷◌, ◌++◌, refl, sym, ap, Result, Ok, Err, true, arith, rules}
use Rattle.std.proofs.lemmas.List.{append_assoc}
use Rattle.protocol_laws.proofs.Widths.{int_width-is}
use Rattle.protocol_model.specs.Bits.{int_width}
use Rattle.protocol_model.specs.declared.Kind.{Kind}
use Rattle.table_model.specs.Rules.{arg_kinds}
use Rattle.table_model.specs.Words.{type_of}
use Rattle.table_model.specs.declared.TableWhy.{TableWhy}

-- the kinds that are read, behind those that were
abbrev pub behind_these : List Kind → Result (List Kind) TableWhy → Result (List Kind) TableWhy
behind_these done read = elim read [ Ok kinds ↦ Ok (done ++ kinds) | Err why ↦ Err why ]

pub behind_none : (read : Result (List Kind) TableWhy) → behind_these [] read ≡ read
behind_none (Ok kinds) = refl
behind_none (Err why) = refl

-- a type that is one goes behind the others
pub kind_taken : (done : List Kind) (word : List ℕ) (words : List (List ℕ)) (kind : Kind) → type_of true word ≡ Ok kind
    → behind_these done (arg_kinds (word ∷ words)) ≡ behind_these (done ++ kind ∷ []) (arg_kinds words)
kind_taken done word words kind h = rw h (by_rest (arg_kinds words))
  where
    by_rest : (rest : Result (List Kind) TableWhy)
        → behind_these done (elim rest [ Ok kinds ↦ Ok (kind ∷ kinds) | Err why ↦ Err why ])
        ≡ behind_these (done ++ kind ∷ []) rest
    by_rest (Ok kinds) = ap Ok (sym (append_assoc done (kind ∷ []) kinds))
    by_rest (Err why) = refl

-- a type that is none ends them
pub kind_refused : (done : List Kind) (word : List ℕ) (words : List (List ℕ)) (why : TableWhy)
    → type_of true word ≡ Err why
    → behind_these done (arg_kinds (word ∷ words)) ≡ Err why
kind_refused done word words why h = rw h refl

-- ---- how many bits the longest arguments take

zero_mod : (i : ℕ) → 0 % 2 ^ i ≡ 0
zero_mod i = search (rules, arith)

-- the least width whose power reaches the bound
pub width_found : (max k : ℕ) → max ≤ 65536 → ((i : ℕ) → i < k → 2 ^ i < max) → max ≤ 2 ^ k → k ≡ int_width max 0
width_found max k most less enough = sym (int_width-is max 0 k (omega arith) (record {
  enough = rw (zero_mod k) (omega (arith, enough));
  least = λ i h. rw (zero_mod i) (omega (arith, less i h));
}))
