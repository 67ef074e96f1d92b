-- What an answer of `World::apply` tells of the edit, for a caller who hands the edit on to the graph.
use Rattle.std.proofs.Common.{◌≡◌, ◌∙◌, ℕ, Option, Some, None, Result, Ok, Err, refl, sym}
use Rattle.std.specs.Prelude.{◌↔◌, IsErrOf}
use Rattle.protocol_model.specs.World as refusal
use Rattle.world_table.specs.declared.edit.EditRefusal.{EditRefusal}

ok_err : (x : Option ℕ) (e : EditRefusal) → (let r : Result (Option ℕ) EditRefusal = Ok x in r) ≡ Err e → ⊥
ok_err x e q = cc

-- an edit was taken, so nothing stood against it: `IsTurn.accepted` from the clauses of `World::apply`
pub none_stands : (why : Option refusal.EditRefusal) (r : Result (Option ℕ) EditRefusal) (x : Option ℕ) → r ≡ Ok x
    → (IsErrOf r EditRefusal.NoActor ↔ (why ≡ Some refusal.NoActor))
    → (IsErrOf r EditRefusal.OutOfRange ↔ (why ≡ Some refusal.OutOfRange))
    → (IsErrOf r EditRefusal.ActorsFull ↔ (why ≡ Some refusal.ActorsFull)) → why ≡ None
none_stands None r x e a b c = refl
none_stands (Some refusal.NoActor) r x e a b c = absurd (ok_err x EditRefusal.NoActor (sym e ∙ a.1 refl))
none_stands (Some refusal.OutOfRange) r x e a b c = absurd (ok_err x EditRefusal.OutOfRange (sym e ∙ b.1 refl))
none_stands (Some refusal.ActorsFull) r x e a b c = absurd (ok_err x EditRefusal.ActorsFull (sym e ∙ c.1 refl))
