use Rattle.std.proofs.Common.{arith, ◌≡◌, ◌∙◌, ap, ◌/◌}
use Rattle.std.specs.Prelude.{pos, ◌+ℤ◌, ◌-ℤ◌}
use Rattle.std.specs.Int.{int_rem_euclid, w64}
use Rattle.std.proofs.lemmas.Int.{ints}
use mir.Val.{to_z, of_z}
use Rattle.bit_io.proofs.relative.near.Goals as goal

pub returns : goal.returns
returns c =
    let v = c.args.v in
    let r = c.args.reference in
    let half = c.args.max / 2 in
    let over = c.rem_euclid-over.result in
    let top : to_z w64 c.args.max ≡ pos c.args.max = omega (arith, ints) in
    let from : to_z w64 (of_z w64 (to_z w64 (of_z w64 (to_z w64 v -ℤ to_z w64 (of_z w64 r))) +ℤ to_z w64 half)) ≡ (pos v -ℤ r) +ℤ pos half = omega (arith, ints) in
    let is : over ≡ int_rem_euclid ((pos v -ℤ r) +ℤ pos half) (pos c.args.max) = c.rem_euclid-over.ensures.value ∙ ap (λ z. int_rem_euclid z (to_z w64 c.args.max)) from ∙ ap (int_rem_euclid ((pos v -ℤ r) +ℤ pos half)) top in
    rw (← is) (omega (arith, ints))
