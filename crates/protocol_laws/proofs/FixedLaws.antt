-- Numbers of a fixed width begin no other one.
use Rattle.std.proofs.Common.{◌≡◌, ◌≢◌, ℕ, ◌<◌, ◌^◌, List, [], ◌++◌, Bool, Option, Some, None, refl, sym, ap, ◌∙◌, append-nil}
use Rattle.std.specs.Prelude.{◌↔◌}
use Rattle.protocol_model.specs.Bits.{fixed_bits}
use Rattle.protocol_model.specs.Numbers.{leading_fixed}
use Rattle.protocol_laws.proofs.Reading.{leading_fixed-append, leading_fixed-spelled, same_read}

pub fixed-alone : (width v w : ℕ) (more : List Bool) → v < 2 ^ width → w < 2 ^ width → fixed_bits width w ≡ fixed_bits width v ++ more → (v ≡ w) × (more ≡ [])
fixed-alone width v w more a b h =
    same_read v w more [] (sym (leading_fixed-append width v more a) ∙ ap (leading_fixed width) (sym h ∙ sym (append-nil (fixed_bits width w))) ∙ leading_fixed-append width w [] b)

not_read : (x : ℕ × List Bool) → None ≡ Some x → ⊥
not_read x h = cc

refused_where : (o : Option (ℕ × List Bool)) (width : ℕ) (bits : List Bool) → leading_fixed width bits ≡ o → ((v : ℕ) (rest : List Bool) → v < 2 ^ width → bits ≢ fixed_bits width v ++ rest) → o ≡ None
refused_where None width bits h none = refl
refused_where (Some (v, rest)) width bits h none = let s = leading_fixed-spelled width v bits rest h in absurd (none v rest s.0 s.1)

pub fixed-refused : (width : ℕ) (bits : List Bool) → (leading_fixed width bits ≡ None) ↔ ((v : ℕ) (rest : List Bool) → v < 2 ^ width → bits ≢ fixed_bits width v ++ rest)
fixed-refused width bits = (
  λ e v rest small h. not_read (v, rest) (sym e ∙ ap (leading_fixed width) h ∙ leading_fixed-append width v rest small),
  refused_where (leading_fixed width bits) width bits refl,
)
