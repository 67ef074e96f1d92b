-- What the bytes of a text are as JSON, and any others.
use Rattle.std.proofs.Common.{◌≡◌, ℕ, List, Bool, true, false, None, cond, refl, IsUtf8}
use Rattle.std.specs.Str.{is_utf8}
use Rattle.std.proofs.lemmas.Str.{IsUtf8-from_is_utf8, is_utf8-from_IsUtf8}
use Rattle.serde_json.specs.Read.{read}
use Rattle.table_model.specs.Grammar.{json_of}

-- a text is read
pub json_of-text : (bytes : List ℕ) → IsUtf8 bytes → json_of bytes ≡ read bytes
json_of-text bytes h = rw (is_utf8-from_IsUtf8 bytes h) refl

-- other bytes are no JSON
pub json_of-other : (bytes : List ℕ) → (IsUtf8 bytes → ⊥) → json_of bytes ≡ None
json_of-other bytes h = by_test (is_utf8 bytes) (λ e. h (IsUtf8-from_is_utf8 bytes e))
  where
    by_test : (t : Bool) → (t ≡ true → ⊥) → cond t (read bytes) None ≡ None
    by_test true h = absurd (h refl)
    by_test false h = refl
