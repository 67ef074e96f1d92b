-- Acts that are added one after another.
use Rattle.std.proofs.Common.{◌≡◌, ℕ, zero, suc, ◌+◌, ◌<◌, ◌≤◌, List, [], ◌∷◌, ◌++◌, map, length, drop, get_or, append-nil, append_assoc, add-one, drop-cons, refl, ap, sym, ◌∙◌, arith, Result, Ok, Err, OnOk}
use Rattle.std.proofs.lemmas.List.{map-append}
use Rattle.std.specs.List.{flat_map}
use Rattle.std.proofs.lemmas.List.Concat.{flat_map-append}
use Rattle.live_model.specs.Outside.{Act, Writes}
use Rattle.live_acts.specs.declared.act.Act.{Act as ActCode}
use Rattle.live_acts.specs.declared.act.Act.TheVariants as code
use Rattle.live_acts.specs.Acts.{act_of, AddsActs}

-- none
pub adds_none : (l : List ActCode) → AddsActs l l []
adds_none l = sym (append-nil (map act_of l))

-- one
pub adds_one : (before after : List ActCode) (a : ActCode) → after ≡ before ++ a ∷ []
    → AddsActs before after (act_of a ∷ [])
adds_one before after a e = ap (map act_of) e ∙ map-append act_of before (a ∷ [])

-- a line
pub adds_text : (before after : List ActCode) (text wanted : List ℕ) → text ≡ wanted
    → after ≡ before ++ code.Writes text ∷ [] → AddsActs before after (Writes wanted ∷ [])
adds_text before after text wanted e pushed =
    adds_one before after (code.Writes text) pushed
    ∙ ap (λ (t : List ℕ). map act_of before ++ Writes t ∷ []) e

-- a line that was printed behind nothing
pub adds_printed : (before after : List ActCode) (first text wanted : List ℕ) → first ≡ [] → text ≡ first ++ wanted
    → after ≡ before ++ code.Writes text ∷ [] → AddsActs before after (Writes wanted ∷ [])
adds_printed before after first text wanted none e pushed =
    adds_text before after text wanted (e ∙ ap (λ (t : List ℕ). t ++ wanted) none) pushed

-- these, and then those
pub adds_both : (before mid after : List ActCode) (xs ys : List Act) → AddsActs before mid xs → AddsActs mid after ys
    → AddsActs before after (xs ++ ys)
adds_both before mid after xs ys one two =
    two ∙ ap (λ (l : List Act). l ++ ys) one ∙ append_assoc (map act_of before) xs ys

-- the acts of one thing more
pub adds_more : {X : Type 0} (f : X → List Act) (before mid after : List ActCode) (xs : List X) (x : X)
    → AddsActs before mid (flat_map f xs) → AddsActs mid after (f x) → AddsActs before after (flat_map f (xs ++ x ∷ []))
adds_more f before mid after xs x one two =
    adds_both before mid after (flat_map f xs) (f x) one two
    ∙ ap (λ (l : List Act). map act_of before ++ l) (sym (flat_map-append f xs (x ∷ []) ∙ alone))
  where
    alone : flat_map f xs ++ flat_map f (x ∷ []) ≡ flat_map f xs ++ f x
    alone = ap (λ (l : List Act). flat_map f xs ++ l) (append-nil (f x))

-- of a list, an act for each item, from a place on
pub turn : {X Y : Type 0} (g : Y → Act) (f : X → Y) (whole : List Act) (now next : List ActCode) (xs : List X) (i : ℕ)
    (x : X) → i < length xs → x ≡ get_or xs i x → AddsActs now next (g (f x) ∷ [])
    → map act_of now ++ map g (map f (drop i xs)) ≡ whole → map act_of next ++ map g (map f (drop (i + 1) xs)) ≡ whole
turn g f whole now next xs i x h item added before =
    let split : drop i xs ≡ get_or xs i x ∷ drop (i + 1) xs = rw (add-one, drop-cons xs i x) refl in
    let here : drop i xs ≡ x ∷ drop (i + 1) xs = split ∙ ap (λ y. y ∷ drop (i + 1) xs) (sym item) in
    ap (λ l. l ++ map g (map f (drop (i + 1) xs))) added
    ∙ append_assoc (map act_of now) (g (f x) ∷ []) (map g (map f (drop (i + 1) xs)))
    ∙ ap (λ ys. map act_of now ++ map g (map f ys)) (sym here) ∙ before

-- up to its end
pub turned : {X Y : Type 0} (g : Y → Act) (f : X → Y) (whole : List Act) (now : List ActCode) (xs : List X) (i : ℕ)
    → length xs ≤ i → map act_of now ++ map g (map f (drop i xs)) ≡ whole → map act_of now ≡ whole
turned {X = X} g f whole now xs i h before =
    sym (append-nil (map act_of now)) ∙ ap (λ ys. map act_of now ++ map g (map f ys)) (sym (none xs i h)) ∙ before
  where
    none : (ys : List X) (k : ℕ) → length ys ≤ k → drop k ys ≡ []
    none [] zero l = refl
    none [] (suc k) l = refl
    none (y ∷ ys) zero l = absurd (omega arith)
    none (y ∷ ys) (suc k) l = none ys k (omega arith)

-- ---- clauses of answers

pub on_ok_then : {A E : Type 0} (r : Result A E) (P Q : Type 0) → OnOk r P → (P → Q) → OnOk r Q
on_ok_then (Ok x) P Q h f = f h
on_ok_then (Err e) P Q h f = tt
