use Rattle.std.proofs.Common.{◌≡◌, ℕ, List, false, Option, Some, Bor, sym}
use Rattle.script_spelling.specs.Fields.{pieces_after, is_nil}
use Rattle.script_spelling.proofs.Pieces.{pieces-some}
use Rattle.script_spelling.proofs.fields.is_done.Goals as goal

undone : (fields : Option (Bor (List ℕ))) (rest : Bor (List ℕ)) → fields ≡ Some rest
    → false ≡ is_nil (pieces_after 32 fields)
undone fields rest e = rw e (sym (pieces-some 32 rest.now))

pub returns-in-Some : goal.returns-in-Some
returns-in-Some c = undone _ _ c.in-Some.is
