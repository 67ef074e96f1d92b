-- Records of actors of which one changed.
use Rattle.std.proofs.Common.{◌≡◌, ◌≢◌, inl, inr, ℕ, List, ap, subst}
use Rattle.std.proofs.lemmas.Bool.{cases_eq}
use Rattle.sender_records.specs.declared.actor.ActorRecord.{ActorRecord}
use Rattle.sender_steps.specs.Sender.{record_in}

-- what stays for the one that changed stays for all
pub everywhere : (T : Type 0) (f : ActorRecord → T) (x : ℕ) (now new : List (ℕ × ActorRecord))
    → ((a : ℕ) → x ≢ a → record_in new a ≡ record_in now a)
    → f (record_in new x) ≡ f (record_in now x) → (a : ℕ) → f (record_in new a) ≡ f (record_in now a)
everywhere T f x now new others own a = elim (cases_eq x a) [
  | inl e ↦ subst (λ (b : ℕ). f (record_in new b) ≡ f (record_in now b)) e own
  | inr ne ↦ ap f (others a ne)
]
