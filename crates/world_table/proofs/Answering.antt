-- What an answer says of each refusal.
use Rattle.std.proofs.Common.{◌≡◌, ℕ, Option, Some, None, Result, Ok, Err, refl}
use Rattle.std.specs.Prelude.{◌↔◌, IfOk, IsErrOf}
use Rattle.protocol_model.specs.World as model
use Rattle.world_table.specs.declared.edit.EditRefusal.{EditRefusal}
use Rattle.world_table.specs.Answers.{IsAnswer}

pub answers_guid : (why : Option model.EditRefusal) (guid : Option ℕ) (r : Result (Option ℕ) EditRefusal)
    → IsAnswer why guid r
    → IfOk r (λ got. got ≡ guid)
answers_guid why guid (Ok got) h = h.1
answers_guid why guid (Err e) h = tt

pub answers_no_actor : (why : Option model.EditRefusal) (guid : Option ℕ) (r : Result (Option ℕ) EditRefusal)
    → IsAnswer why guid r
    → (IsErrOf r EditRefusal.NoActor ↔ (why ≡ Some model.NoActor))
answers_no_actor why guid (Ok got) h = let none : why ≡ None = h.0 in (λ x. absurd (cc), λ e. absurd (cc))
answers_no_actor why guid (Err EditRefusal.NoActor) h = (λ x. h, λ e. refl)
answers_no_actor why guid (Err EditRefusal.OutOfRange) h = (λ x. absurd (cc), λ e. absurd (cc))
answers_no_actor why guid (Err EditRefusal.ActorsFull) h = (λ x. absurd (cc), λ e. absurd (cc))
answers_no_actor why guid (Err EditRefusal.Memory) h = (λ x. absurd (cc), λ e. absurd (cc))

pub answers_out_of_range : (why : Option model.EditRefusal) (guid : Option ℕ) (r : Result (Option ℕ) EditRefusal)
    → IsAnswer why guid r
    → (IsErrOf r EditRefusal.OutOfRange ↔ (why ≡ Some model.OutOfRange))
answers_out_of_range why guid (Ok got) h = let none : why ≡ None = h.0 in (λ x. absurd (cc), λ e. absurd (cc))
answers_out_of_range why guid (Err EditRefusal.NoActor) h = (λ x. absurd (cc), λ e. absurd (cc))
answers_out_of_range why guid (Err EditRefusal.OutOfRange) h = (λ x. h, λ e. refl)
answers_out_of_range why guid (Err EditRefusal.ActorsFull) h = (λ x. absurd (cc), λ e. absurd (cc))
answers_out_of_range why guid (Err EditRefusal.Memory) h = (λ x. absurd (cc), λ e. absurd (cc))

pub answers_actors_full : (why : Option model.EditRefusal) (guid : Option ℕ) (r : Result (Option ℕ) EditRefusal)
    → IsAnswer why guid r
    → (IsErrOf r EditRefusal.ActorsFull ↔ (why ≡ Some model.ActorsFull))
answers_actors_full why guid (Ok got) h = let none : why ≡ None = h.0 in (λ x. absurd (cc), λ e. absurd (cc))
answers_actors_full why guid (Err EditRefusal.NoActor) h = (λ x. absurd (cc), λ e. absurd (cc))
answers_actors_full why guid (Err EditRefusal.OutOfRange) h = (λ x. absurd (cc), λ e. absurd (cc))
answers_actors_full why guid (Err EditRefusal.ActorsFull) h = (λ x. h, λ e. refl)
answers_actors_full why guid (Err EditRefusal.Memory) h = (λ x. absurd (cc), λ e. absurd (cc))

pub answers_memory : (why : Option model.EditRefusal) (guid : Option ℕ) (r : Result (Option ℕ) EditRefusal)
    → IsAnswer why guid r
    → IsErrOf r EditRefusal.Memory → why ≡ None
answers_memory why guid (Ok got) h x = h.0
answers_memory why guid (Err EditRefusal.NoActor) h x = absurd (cc)
answers_memory why guid (Err EditRefusal.OutOfRange) h x = absurd (cc)
answers_memory why guid (Err EditRefusal.ActorsFull) h x = absurd (cc)
answers_memory why guid (Err EditRefusal.Memory) h x = h
