-- Texts that are drawn one after another.
use Rattle.std.proofs.Common.{◌≡◌, Bool, true, ℕ, suc, ◌+◌, ◌-◌, ◌<◌, ◌≤◌, [], ◌∷◌, ◌++◌, map, append_assoc, append-nil, refl, sym, ◌∙◌, ap, subst, arith, string_bytes}
use Rattle.std.specs.List.{flat_map, range_with_len}
use Rattle.rand_pcg.specs.Lcg.{Lcg}
use Rattle.script_model.specs.Lines.{Text}
use Rattle.sample_script.specs.SampleScript.{Drawing, give, in_turn, text_if, ◌>>=◌}
use Rattle.sample_script.specs.declared.drawing.Sample.{Sample}
use Rattle.sample_script.specs.Writes.{Writes, Appends}

-- one text after another
abbrev pub both : Drawing Text → Drawing Text → Drawing Text
both one two g = let first = one g in let second = two first.1 in (first.0 ++ second.0, second.1)

pub one_by_one : (one two : Drawing Text) (a b c : Sample) → Writes one a b → Writes two b c → Writes (both one two) a c
one_by_one one two a b c first second = (
  second.0 ∙ ap (λ n. string_bytes b.text ++ (two n).0) first.1
      ∙ ap (λ t. t ++ (two (one a.numbers).1).0) first.0
      ∙ append_assoc (string_bytes a.text) (one a.numbers).0 (two (one a.numbers).1).0,
  second.1 ∙ ap (λ n. (two n).1) first.1,
)

-- nothing is written
pub nothing : (a : Sample) → Writes (give []) a a
nothing a = (sym (append-nil (string_bytes a.text)), refl)

-- what is left to write leads from here to the end of the whole
abbrev pub Remains : (whole rest : Drawing Text) (start here : Sample) → Type 0
Remains whole rest start here = (end : Sample) → Writes rest here end → Writes whole start end

pub range-step : (k n : ℕ) → k < n → range_with_len k (n - k) ≡ k ∷ range_with_len (k + 1) (n - (k + 1))
range-step k n h = let e : n - k ≡ suc (n - (k + 1)) = omega arith in rw e refl

pub range-done : (k n : ℕ) → n ≤ k → range_with_len k (n - k) ≡ []
range-done k n h = let e : n - k ≡ 0 = omega arith in rw e refl

-- texts that are drawn for the numbers of a range
abbrev pub drawn_from : (ℕ → Drawing Text) → (k n : ℕ) → Drawing Text
drawn_from f k n = in_turn (map f (range_with_len k (n - k)))

pub drawn_step : (f : ℕ → Drawing Text) (whole : Drawing Text) (k n : ℕ) (start here next : Sample) → k < n
    → Remains whole (drawn_from f k n) start here → Writes (f k) here next
    → Remains whole (drawn_from f (k + 1) n) start next
drawn_step f whole k n start here next h before now = λ end rest.
    before end (subst (λ ks. Writes (in_turn (map f ks)) here end) (sym (range-step k n h))
    (one_by_one (f k) (drawn_from f (k + 1) n) here next end now rest))

pub drawn_done : (f : ℕ → Drawing Text) (whole : Drawing Text) (k n : ℕ) (start here : Sample) → n ≤ k
    → Remains whole (drawn_from f k n) start here → Writes whole start here
drawn_done f whole k n start here h before =
    before here (subst (λ ks. Writes (in_turn (map f ks)) here here) (sym (range-done k n h)) (nothing here))

-- texts for the numbers of a range
abbrev pub told_from : (ℕ → Text) → (k n : ℕ) → Drawing Text
told_from f k n = give (flat_map f (range_with_len k (n - k)))

pub told_step : (f : ℕ → Text) (whole : Drawing Text) (k n : ℕ) (start here next : Sample) → k < n
    → Remains whole (told_from f k n) start here → Appends (f k) here next
    → Remains whole (told_from f (k + 1) n) start next
told_step f whole k n start here next h before now = λ end rest.
    before end (subst (λ ks. Writes (give (flat_map f ks)) here end) (sym (range-step k n h))
    (one_by_one (give (f k)) (told_from f (k + 1) n) here next end now rest))

pub told_done : (f : ℕ → Text) (whole : Drawing Text) (k n : ℕ) (start here : Sample) → n ≤ k
    → Remains whole (told_from f k n) start here → Writes whole start here
told_done f whole k n start here h before =
    before here (subst (λ ks. Writes (give (flat_map f ks)) here here) (sym (range-done k n h)) (nothing here))

-- texts for numbers counted from 1
abbrev pub ticked_from : (ℕ → Drawing Text) → (k n : ℕ) → Drawing Text
ticked_from f k n = in_turn (map f (range_with_len (k + 1) (n - k)))

one-more : (k n : ℕ) → k < n → range_with_len (k + 1) (n - k) ≡ (k + 1) ∷ range_with_len (k + 1 + 1) (n - (k + 1))
one-more k n h = let e : n - k ≡ suc (n - (k + 1)) = omega arith in rw e refl

no-more : (k n : ℕ) → n ≤ k → range_with_len (k + 1) (n - k) ≡ []
no-more k n h = let e : n - k ≡ 0 = omega arith in rw e refl

pub ticked_step : (f : ℕ → Drawing Text) (whole : Drawing Text) (k n : ℕ) (start here next : Sample) → k < n
    → Remains whole (ticked_from f k n) start here → Writes (f (k + 1)) here next
    → Remains whole (ticked_from f (k + 1) n) start next
ticked_step f whole k n start here next h before now = λ end rest.
    before end (subst (λ ks. Writes (in_turn (map f ks)) here end) (sym (one-more k n h))
    (one_by_one (f (k + 1)) (ticked_from f (k + 1) n) here next end now rest))

pub ticked_done : (f : ℕ → Drawing Text) (whole : Drawing Text) (k n : ℕ) (start here : Sample) → n ≤ k
    → Remains whole (ticked_from f k n) start here → Writes whole start here
ticked_done f whole k n start here h before =
    before here (subst (λ ks. Writes (in_turn (map f ks)) here here) (sym (no-more k n h)) (nothing here))

-- ---- one after another

pub appended : (s t : Text) (a b c : Sample) → Appends s a b → Appends t b c → Appends (s ++ t) a c
appended s t a b c first second = one_by_one (give s) (give t) a b c first second

-- where it is due
pub written_if : (due : Bool) (one : Drawing Text) (a b : Sample) → due ≡ true → Writes one a b
    → Writes (text_if due one) a b
written_if due one a b is first = subst (λ d. Writes (text_if d one) a b) (sym is) first

-- four drawings and a text
abbrev pub four_and : (one two three four : Drawing Text) → Text → Drawing Text
four_and one two three four t = do
  w ← one
  x ← two
  y ← three
  z ← four
  give (w ++ x ++ y ++ z ++ t)

pub four_and_text : (one two three four : Drawing Text) (t : Text) (a b c d e f : Sample)
    → Writes one a b → Writes two b c → Writes three c d → Writes four d e → Appends t e f
    → Writes (four_and one two three four t) a f
four_and_text one two three four t a b c d e f h i j k l =
    one_by_one (both (both (both one two) three) four) (give t) a e f
    (one_by_one (both (both one two) three) four a d e
    (one_by_one (both one two) three a c d (one_by_one one two a b c h i) j) k) l

-- two drawings between texts
abbrev pub two_between : Text → (one two : Drawing Text) → Text → Drawing Text
two_between s one two t = do
  x ← one
  y ← two
  give (s ++ x ++ y ++ t)

pub two_between_texts : (s : Text) (one two : Drawing Text) (t : Text) (a b c d e : Sample)
    → Appends s a b → Writes one b c → Writes two c d → Appends t d e → Writes (two_between s one two t) a e
two_between_texts s one two t a b c d e h i j k =
    one_by_one (both (both (give s) one) two) (give t) a d e
    (one_by_one (both (give s) one) two a c d (one_by_one (give s) one a b c h i) j) k

-- from nothing
pub from_nothing : (whole : Drawing Text) (numbers : Lcg) (start end : Sample) → string_bytes start.text ≡ []
    → start.numbers ≡ numbers → Writes whole start end → string_bytes end.text ≡ (whole numbers).0
from_nothing whole numbers start end empty is done =
    done.0 ∙ ap (λ t. t ++ (whole start.numbers).0) empty ∙ ap (λ n. (whole n).0) is
