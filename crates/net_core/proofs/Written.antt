-- What a sink took in several writes.
use Rattle.std.proofs.Common.{ℕ, ◌+◌, ◌≤◌, List, ◌++◌, length, take, ap, ◌∙◌, sym, subst, arith, append_assoc, length-append, Option, Some, None}
use Rattle.std.proofs.Math.Seq.{take-append-add}
use Rattle.std.proofs.lemmas.List.{take-append-le}
use Rattle.std.specs.Io.KnownBytes.{Appends}
use Rattle.net_core.specs.Taken.{AppendsPrefix}

-- two pieces in a row are one
pub Appends-append : (old mid new : Option (List ℕ)) (xs ys : List ℕ) → Appends old mid xs → Appends mid new ys → Appends old new (xs ++ ys)
Appends-append None mid new xs ys p q = tt
Appends-append (Some o) None new xs ys p q = absurd p
Appends-append (Some o) (Some m) None xs ys p q = absurd q
Appends-append (Some o) (Some m) (Some n) xs ys p q = q ∙ ap (λ zs. zs ++ ys) p ∙ append_assoc o xs ys

-- a piece and then a prefix of the next is a prefix of both
pub AppendsPrefix-append : (old mid new : Option (List ℕ)) (xs ys : List ℕ) → Appends old mid xs → AppendsPrefix mid new ys → AppendsPrefix old new (xs ++ ys)
AppendsPrefix-append old mid new xs ys p q =
    let n = q.0 in
    let P : List ℕ → Type 0 = λ zs. Appends old new zs in
    (length xs + n, omega (arith, q.1, length-append xs ys), subst P (sym (take-append-add xs ys n)) (Appends-append old mid new xs (take n ys) p q.2))

-- a prefix of a text is a prefix of each longer one
pub AppendsPrefix-longer : (old new : Option (List ℕ)) (xs ys : List ℕ) → AppendsPrefix old new xs → AppendsPrefix old new (xs ++ ys)
AppendsPrefix-longer old new xs ys q =
    let n = q.0 in
    let P : List ℕ → Type 0 = λ zs. Appends old new zs in
    let within : n ≤ length xs = omega (arith, q.1) in
    (n, omega (arith, q.1, length-append xs ys), subst P (sym (take-append-le n xs ys within)) q.2)
