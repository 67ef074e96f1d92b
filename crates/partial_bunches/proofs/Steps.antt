-- A bunch is joined to the parts before it.
use Rattle.std.proofs.Common.{◌≡◌, ℕ, ◌+◌, List, [], ◌∷◌, ◌++◌, length, reverse, Bool, true, false, Option, Some, None, if◌then◌else◌, refl, sym, ap, ◌∙◌, arith}
use Rattle.std.specs.List.{flat_map}
use Rattle.std.proofs.lemmas.Grind.{flat_map-append}
use Rattle.std.proofs.lemmas.List.{reverse-append}
use Rattle.bit_io.specs.Written.{Written}
use Rattle.protocol_model.specs.Packet.{Bunch}
use Rattle.connection_model.specs.Windows.{ends_payload}
use Rattle.partial_bunches.specs.Joins.{Kept, Joins, HasRoom, kept_after}

add_nil : {X : Type 0} (xs : List X) → xs ++ [] ≡ xs
add_nil [] = refl
add_nil (x ∷ xs) = ap (λ (l : _). x ∷ l) (add_nil xs)

-- the bits of one more part go last
pub one_more : (kept : List Bunch) (b : Bunch) → flat_map (λ (p : Bunch). p.payload) (reverse (b ∷ kept)) ≡ flat_map (λ (p : Bunch). p.payload) (reverse kept) ++ b.payload
one_more kept b =
    ap (flat_map (λ (p : Bunch). p.payload)) (reverse-append (b ∷ []) kept)
    ∙ flat_map-append (λ (p : Bunch). p.payload) (reverse kept) (b ∷ [])
    ∙ ap (λ (l : List Bool). flat_map (λ (p : Bunch). p.payload) (reverse kept) ++ l) (add_nil b.payload)

-- a part that isn't the last
pub more_joins : (k : Kept) (kept : List Bunch) (b : Bunch) (bits : List Bool) → Joins k kept → ends_payload b ≡ false → bits ≡ k.bits ++ b.payload
    → Joins (record { count = k.count + 1; bits = bits }) (kept_after kept b)
more_joins k kept b bits h more is = rw more (record {
  count = omega (arith, h.count);
  bits = is ∙ ap (λ (l : List Bool). l ++ b.payload) h.bits ∙ sym (one_more kept b);
})

-- the last part of several
pub whole_joins : (kept : List Bunch) (b : Bunch) → ends_payload b ≡ true → b.reliable ≡ true → Joins (record { count = 0; bits = [] }) (kept_after kept b)
whole_joins kept b ends reliable = rw ends (rw reliable (record { count = refl; bits = refl }))

no_kept : (kept : List Bunch) → length kept ≡ 0 → kept ≡ []
no_kept [] e = refl
no_kept (b ∷ kept) e = absurd (omega arith)

-- a whole bunch, or one that isn't joined
pub same_joins : (k : Kept) (kept : List Bunch) (b : Bunch) → Joins k kept → ends_payload b ≡ true → (b.reliable ≡ true → k.count ≡ 0) → Joins k (kept_after kept b)
same_joins k kept b h ends none = rw ends (go b.reliable none)
  where
    go : (r : Bool) → (r ≡ true → k.count ≡ 0) → Joins k (if r then [] else kept)
    go true n = let empty : kept ≡ [] = no_kept kept (omega (arith, h.count, n refl)) in rw (sym empty) h
    go false n = h

-- where nothing was written none is kept
pub none_count : (count : ℕ) (o : Option Written) → HasRoom count o → o ≡ None → count ≡ 0
none_count count None h e = h
none_count count (Some w) h e = cc

-- the parts kept as the fields show them
pub joins_as : (j k : Kept) (kept : List Bunch) → j ≡ k → Joins k kept → Joins j kept
joins_as j k kept e h = rw e h
