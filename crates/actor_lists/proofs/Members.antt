-- Lists with the same members.
use Rattle.std.proofs.Common.{◌≡◌, ℕ, List, Contains, sym, ◌∙◌}
use Rattle.std.specs.Prelude.{nat_eq}
use Rattle.std.specs.List.{list_any}
use Rattle.std.specs.Cmp.{nat_eq_equiv}
use Rattle.std.proofs.lemmas.Bool.{eqb-true}
use Rattle.std.proofs.lemmas.Map.Views.{list_any-from_Contains, Contains-from_any}

-- the numbers that a search finds in the one, it finds in the other
abbrev pub HaveSame : List ℕ → List ℕ → Type 0
HaveSame xs ys = (a : ℕ) → list_any (nat_eq a) xs ≡ list_any (nat_eq a) ys

pub member_of : (xs ys : List ℕ) → HaveSame xs ys → (a : ℕ) → Contains xs a → Contains ys a
member_of xs ys same a h =
    Contains-from_any eqb-true a ys (sym (same a) ∙ list_any-from_Contains nat_eq_equiv a xs h)

pub member_back : (xs ys : List ℕ) → HaveSame xs ys → (a : ℕ) → Contains ys a → Contains xs a
member_back xs ys same a h =
    Contains-from_any eqb-true a xs (same a ∙ list_any-from_Contains nat_eq_equiv a ys h)
