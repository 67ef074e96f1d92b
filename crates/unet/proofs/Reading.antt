-- Reading and writing the rest, where it is known.
use Rattle.std.proofs.Common.{◌≡◌, ℕ, ◌+◌, ◌≤◌, List, ◌++◌, length, take, Option, Some, None, IfSome, Result, Ok, Err, refl, ◌∙◌, ap, arith}
use Rattle.std.proofs.lemmas.Grind.{common_steps}
use Rattle.std.specs.Option.{option_map}
use Rattle.std.specs.Io.KnownBytes.{Keeps, Appends, WriteAppends}

under : (bytes all : List ℕ) (most : ℕ) → bytes ≡ take (most + 1) all → length bytes ≤ most → bytes ≡ all
under bytes all most h le = grind (arith, common_steps)

-- what was read of one byte more than the most, and isn't that long, is all
pub whole : (known : Option (List ℕ)) (bytes : List ℕ) (most : ℕ) → IfSome (option_map (take (most + 1)) known) (λ xs. bytes ≡ xs) → length bytes ≤ most → IfSome known (λ all. bytes ≡ all)
whole None bytes most h le = tt
whole (Some all) bytes most h le = under bytes all most h le

pub same : (old : Option (List ℕ)) → Keeps old old
same None = tt
same (Some xs) = refl

pub still : (old mid new : Option (List ℕ)) → Keeps old mid → Keeps mid new → Keeps old new
still None mid new p q = tt
still (Some xs) None new p q = absurd p
still (Some xs) (Some ys) None p q = absurd q
still (Some xs) (Some ys) (Some zs) p q = q ∙ p

later : (old mid new : Option (List ℕ)) (bs : List ℕ) → Keeps old mid → Appends mid new bs → Appends old new bs
later None mid new bs p q = tt
later (Some xs) None new bs p q = absurd p
later (Some xs) (Some ys) None bs p q = absurd q
later (Some xs) (Some ys) (Some zs) bs p q = q ∙ ap (λ l. l ++ bs) p

-- a write after ones that took nothing
pub retried : {E : Type 0} (old mid new : Option (List ℕ)) (r : Result ℕ E) (buf : List ℕ) → Keeps old mid → WriteAppends mid new r buf → WriteAppends old new r buf
retried old mid new (Ok n) buf p q = later old mid new (take n buf) p q
retried old mid new (Err e) buf p q = still old mid new p q
