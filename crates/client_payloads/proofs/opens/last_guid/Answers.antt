use Rattle.std.proofs.Common.{◌≡◌, ℕ, zero, suc, ◌+◌, ◌-◌, List, [], ◌∷◌, Some, length, ◌∙◌, arith, slice_get}
use Rattle.client_payloads.specs.Messages.{last_of}
use Rattle.client_payloads.proofs.opens.last_guid.Goals as goal

one : (x y : ℕ) → Some x ≡ Some y → x ≡ y
one x y e = cc

last_is : (path : List ℕ) (g n : ℕ) → n + 1 ≡ length path → Some g ≡ slice_get path n → g ≡ last_of path
last_is [] g n l e = absurd (cc)
last_is (x ∷ []) g zero l e = one g x e
last_is (x ∷ []) g (suc n) l e = absurd (omega (arith, l))
last_is (x ∷ y ∷ path) g zero l e = absurd (omega (arith, l))
last_is (x ∷ y ∷ path) g (suc n) l e = last_is (y ∷ path) g n (omega (arith, l)) e

pub returns-in-Some : goal.returns-in-Some
returns-in-Some c =
    let some = c.in-Some.ensures.item.3.0 in
    c.guid.view_is ∙ last_is c.args.path.now c.in-Some.guid.now (length c.args.path.now - 1)
    (omega (arith, some)) c.in-Some.ensures.value
