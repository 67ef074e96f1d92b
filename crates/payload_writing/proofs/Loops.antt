-- Items that are written one after another.
use Rattle.std.proofs.Common.{◌≡◌, ℕ, zero, suc, ◌+◌, ◌<◌, ◌≤◌, List, [], ◌∷◌, ◌++◌, Bool, map, length, drop, get_or, refl, sym, ap, subst, ◌∙◌, arith, append_assoc, length-append, append-nil}
use Rattle.std.specs.List.{flat_map}
use Rattle.std.proofs.lemmas.List.{drop_more}
use Rattle.bit_io.specs.Written.{Written, Appends}

-- once the rest is put the whole is
pub record IsLeft (old now : Written) (whole rest : List Bool) : Type 0 where
  pub bits : now.bits ++ rest ≡ old.bits ++ whole
  pub spare : now.spare + length whole ≡ old.spare + length rest

-- nothing is put yet
pub all_left : (w : Written) (whole : List Bool) → IsLeft w w whole whole
all_left w whole = record { bits = refl; spare = refl }

-- one more item is
pub one_put : (old now next : Written) (whole one rest : List Bool) → IsLeft old now whole (one ++ rest)
    → Appends now next one → IsLeft old next whole rest
one_put old now next whole one rest left put = record {
  bits = ap (λ (bits : List Bool). bits ++ rest) put.bits ∙ append_assoc now.bits one rest ∙ left.bits;
  spare = omega (arith, left.spare, put.spare, length-append one rest);
}

-- all are
pub all_put : (old now : Written) (whole : List Bool) → IsLeft old now whole [] → Appends old now whole
all_put old now whole left = record {
  bits = sym (append-nil now.bits) ∙ left.bits;
  spare = omega (arith, left.spare);
}

-- the next of some items, and the end
pub next_item : {A : Type 0} (xs : List A) (i : ℕ) (d x : A) → i < length xs → x ≡ get_or xs i d
    → drop i xs ≡ x ∷ drop (i + 1) xs
next_item xs i d x l e = drop_more xs i d l ∙ ap (λ y. y ∷ drop (i + 1) xs) (sym e)

pub no_item : {A : Type 0} (xs : List A) (i : ℕ) → length xs ≤ i → drop i xs ≡ []
no_item [] zero l = refl
no_item [] (suc i) l = refl
no_item (x ∷ xs) zero l = absurd (omega (arith, l))
no_item (x ∷ xs) (suc i) l = no_item xs i (omega (arith, l))

-- five parts that were put one after another
pub five_put : {w b c d e f : Written}
    → (one two three four five : List Bool) → w.bits ≡ [] → Appends w b one → Appends b c two → Appends c d three
    → Appends d e four → Appends e f five → f.bits ≡ one ++ two ++ three ++ (four ++ five)
five_put one two three four five none h1 h2 h3 h4 h5 =
    rw (h5.bits, h4.bits, h3.bits, h2.bits, h1.bits, none) (append_assoc (one ++ two ++ three) four five)

-- what is put is taken from the room
pub room_kept : {old new : Written} {more : List Bool} → Appends old new more
    → length new.bits + new.spare ≡ length old.bits + old.spare
room_kept {old} {new} {more} put = omega (arith, ap length put.bits, put.spare, length-append old.bits more)

-- ---- loops over items, each written as what it stands for

pub mapped_put : {X Y : Type 0} (f : Y → List Bool) (v : X → Y) (xs : List X) (i : ℕ) (x : X) (old now next : Written)
    → i < length xs → x ≡ get_or xs i x → IsLeft old now (flat_map f (map v xs)) (flat_map f (map v (drop i xs)))
    → Appends now next (f (v x)) → IsLeft old next (flat_map f (map v xs)) (flat_map f (map v (drop (i + 1) xs)))
mapped_put {X} f v xs i x old now next l e left put =
    one_put old now next (flat_map f (map v xs)) (f (v x)) (flat_map f (map v (drop (i + 1) xs)))
    (subst (λ (rest : List X). IsLeft old now (flat_map f (map v xs)) (flat_map f (map v rest)))
    (next_item xs i x x l e) left) put

pub mapped_all : {X Y : Type 0} (f : Y → List Bool) (v : X → Y) (xs : List X) (i : ℕ) (old now : Written)
    → length xs ≤ i → IsLeft old now (flat_map f (map v xs)) (flat_map f (map v (drop i xs)))
    → Appends old now (flat_map f (map v xs))
mapped_all {X} f v xs i old now l left =
    all_put old now (flat_map f (map v xs))
    (subst (λ (rest : List X). IsLeft old now (flat_map f (map v xs)) (flat_map f (map v rest))) (no_item xs i l) left)
