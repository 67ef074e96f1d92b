-- What a server that tests play keeps to.
use Rattle.std.proofs.Common.{◌≡◌, ◌⊎◌, ◌∷◌, inl, inr, ℕ, ◌+◌, ◌≤◌, length, Result, Ok, Err, IsErr, OnOk, IsErrOf, true, refl, sym, subst, arith}
use Rattle.protocol_model.specs.World.{Edit}
use Rattle.world_table.specs.declared.edit.EditRefusal.{EditRefusal}
use Rattle.world_table.specs.declared.edit.EditRefusal.TheVariants as edits
use Rattle.net_driver.specs.declared.refusal.JoinRefusal.{JoinRefusal}
use Rattle.net_driver.specs.declared.refusal.JoinRefusal.TheVariants as joins
use Rattle.net_driver.specs.Served.{Served, Seat, with_joined, has_joined}
use Rattle.net_driver.specs.Serves.{Drive, Serves, IsSpent}
use Rattle.driver_tests.specs.Playing.{IsPlaying}

-- more edits are said to have been taken
pub more : (d : Drive) (few many : ℕ) → few ≤ many → IsPlaying d few → IsPlaying d many
more d few many le h = elim h [
  | inl spent ↦ inl spent
  | inr r ↦ inr (r.0, r.1, (let l = r.2 in omega (arith, l, le)))
]

pub serving : (d : Drive) (n : ℕ) → IsPlaying d n → IsSpent d ⊎ ((s : Served) × Serves d s)
serving d n h = elim h [ inl spent ↦ inl spent | inr r ↦ inr (r.0, r.1) ]

-- an edit was taken or refused, or memory was missing
pub after_edit : {A : Type 0} (old new : Drive) (n : ℕ) (edit : Edit) (r : Result A EditRefusal)
    → OnOk r ((s : Served) → Serves old s → Serves new (record s { edits = edit ∷ s.edits }))
    → (IsErr r → (IsErrOf r edits.Memory → ⊥) → new ≡ old)
    → (IsErrOf r edits.Memory → IsSpent new) → (IsSpent old → IsErrOf r edits.Memory)
    → IsPlaying old n → IsPlaying new (n + 1)
after_edit {A} old new n edit (Ok x) serves refused spent after h = elim h [
  | inl e ↦ absurd (let q = after e in cc)
  | inr r ↦ inr (_, serves r.0 r.1, (let l = r.2 in omega (arith, l)))
]
after_edit {A} old new n edit (Err edits.NoActor) serves refused spent after h =
    subst (λ (d : Drive). IsPlaying d (n + 1)) (sym (refused refl (λ q. absurd (cc))))
    (more old n (n + 1) (omega arith) h)
after_edit {A} old new n edit (Err edits.OutOfRange) serves refused spent after h =
    subst (λ (d : Drive). IsPlaying d (n + 1)) (sym (refused refl (λ q. absurd (cc))))
    (more old n (n + 1) (omega arith) h)
after_edit {A} old new n edit (Err edits.ActorsFull) serves refused spent after h =
    subst (λ (d : Drive). IsPlaying d (n + 1)) (sym (refused refl (λ q. absurd (cc))))
    (more old n (n + 1) (omega arith) h)
after_edit {A} old new n edit (Err edits.Memory) serves refused spent after h = inl (spent refl)

-- a player joined or didn't, or memory was missing
pub after_join : {A : Type 0} (old new : Drive) (n : ℕ) (seat : Seat) (r : Result A JoinRefusal)
    → OnOk r ((s : Served) → Serves old s → Serves new (with_joined seat s))
    → (IsErr r → (IsErrOf r joins.Memory → ⊥) → new ≡ old)
    → (IsErrOf r joins.Memory → IsSpent new) → (IsSpent old → IsErrOf r joins.Memory)
    → IsPlaying old n → IsPlaying new n
after_join {A} old new n seat (Ok x) serves refused spent after h = elim h [
  | inl e ↦ absurd (let q = after e in cc)
  | inr r ↦ inr (_, serves r.0 r.1, r.2)
]
after_join {A} old new n seat (Err joins.Joined) serves refused spent after h =
    subst (λ (d : Drive). IsPlaying d n) (sym (refused refl (λ q. absurd (cc)))) h
after_join {A} old new n seat (Err joins.ServerFull) serves refused spent after h =
    subst (λ (d : Drive). IsPlaying d n) (sym (refused refl (λ q. absurd (cc)))) h
after_join {A} old new n seat (Err joins.Memory) serves refused spent after h = inl (spent refl)

-- a server that tests play, which a player joined
abbrev pub HasPlayer : Drive → (n player : ℕ) → Type 0
HasPlayer d n player =
    IsSpent d ⊎ ((s : Served) × Serves d s × (has_joined s player ≡ true) × (length s.edits ≤ n))

-- one who is told so joined before
pub is_joined : {A : Type 0} (old new : Drive) (n player : ℕ) (r : Result A JoinRefusal) → r ≡ Err joins.Joined
    → ((s : Served) → Serves old s → IsErrOf r joins.Joined → has_joined s player ≡ true)
    → (IsErr r → (IsErrOf r joins.Memory → ⊥) → new ≡ old)
    → IsPlaying old n → HasPlayer new n player
is_joined {A} old new n player r e joined refused h =
    subst (λ (d : Drive). HasPlayer d n player) (sym (same r e refused)) (elim h [
      | inl spent ↦ inl spent
      | inr t ↦ inr (t.0, t.1, joined t.0 t.1 e, t.2)
    ])
  where
    same : (r : Result A JoinRefusal) → r ≡ Err joins.Joined
        → (IsErr r → (IsErrOf r joins.Memory → ⊥) → new ≡ old) → new ≡ old
    same (Err joins.Joined) e refused = refused refl (λ q. absurd (cc))
    same (Err joins.ServerFull) e refused = refused refl (λ q. absurd (cc))
    same (Err joins.Memory) e refused = absurd (cc)
    same (Ok x) e refused = absurd (cc)

pub more_ok : {A E : Type 0} (r : Result A E) (d : Drive) (few many : ℕ) → few ≤ many → OnOk r (IsPlaying d few)
    → OnOk r (IsPlaying d many)
more_ok (Ok x) d few many le h = more d few many le h
more_ok (Err e) d few many le h = tt
