-- A text that is written in three pieces.
use Rattle.std.proofs.Common.{ℕ, List, ◌++◌, Option, arith}
use Rattle.std.specs.Io.KnownBytes.{Appends}
use Rattle.net_core.specs.Taken.{AppendsPrefix}
use Rattle.net_core.proofs.Written.{Appends-append, AppendsPrefix-append, AppendsPrefix-longer}
use Rattle.transcripts.specs.Takes.{TakesPrefix}

-- a prefix without the last byte is a prefix
pub prefix : (old new : Option (List ℕ)) (text : List ℕ) → AppendsPrefix old new text → TakesPrefix old new text
prefix old new text taken = (taken.0, omega (arith, taken.1), taken.2)

-- the first piece was taken in part
pub in_first : (old new : Option (List ℕ)) (xs ys zs : List ℕ) → AppendsPrefix old new xs → TakesPrefix old new (xs ++ (ys ++ zs))
in_first old new xs ys zs taken = prefix old new (xs ++ (ys ++ zs)) (AppendsPrefix-longer old new xs (ys ++ zs) taken)

-- the first piece was taken, and the second in part
pub in_second : (old mid new : Option (List ℕ)) (xs ys zs : List ℕ) → Appends old mid xs → AppendsPrefix mid new ys → TakesPrefix old new (xs ++ (ys ++ zs))
in_second old mid new xs ys zs first taken =
    prefix old new (xs ++ (ys ++ zs)) (AppendsPrefix-append old mid new xs (ys ++ zs) first (AppendsPrefix-longer mid new ys zs taken))

-- two pieces were taken, and the third in part
pub in_third : (old mid late new : Option (List ℕ)) (xs ys zs : List ℕ) → Appends old mid xs → Appends mid late ys → AppendsPrefix late new zs → TakesPrefix old new (xs ++ (ys ++ zs))
in_third old mid late new xs ys zs first second taken =
    prefix old new (xs ++ (ys ++ zs)) (AppendsPrefix-append old mid new xs (ys ++ zs) first (AppendsPrefix-append mid late new ys zs second taken))

-- all three were taken
pub all_three : (old mid late new : Option (List ℕ)) (xs ys zs : List ℕ) → Appends old mid xs → Appends mid late ys → Appends late new zs → Appends old new (xs ++ (ys ++ zs))
all_three old mid late new xs ys zs first second third =
    Appends-append old mid new xs (ys ++ zs) first (Appends-append mid late new ys zs second third)
