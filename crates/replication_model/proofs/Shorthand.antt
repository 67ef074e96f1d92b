-- Words that lay out worked scripts: what stands there many times, and bytes in hex.
use Rattle.std.specs.Prelude.{ℕ, zero, suc, List, [], ◌++◌, unwrap_or}
use Rattle.script_model.specs.Lines.{Text}
use Rattle.script_model.specs.Script.{hex_bytes}

-- the list, `count` times
unfoldable pub again : {A : Type 0} → (count : ℕ) → List A → List A
again zero xs = []
again (suc count) xs = xs ++ again count xs

-- the bytes that hex digits spell
unfoldable pub datagram : Text → List ℕ
datagram text = unwrap_or (hex_bytes text) []
