-- What a line comes to, one thing after another, is the first reason of the chain that holds against it.
use Rattle.std.proofs.Common.{◌≡◌, ℕ, refl, Bool, true, false, not, ◌&&◌, ◌||◌, Option, Some, None, is_some, is_none, unwrap_or, Result, Ok, Err, ℤ}
use Rattle.std.specs.Bool.{if◌then◌else◌}
use Rattle.std.specs.Option.{ok_or}
use Rattle.protocol_model.specs.declared.LineWhy.{LineWhy}
use Rattle.protocol_model.specs.declared.LineWhy.TheVariants.{Place, Range, NoPlayer, Taken, NoClass, NoActor, NoName, Full}
use Rattle.protocol_model.specs.declared.LineWhy.TheVariants as why
use Rattle.protocol_model.specs.Value.{Table, Class}
use Rattle.protocol_model.specs.World as world
use Rattle.script_model.specs.Lines as story
use Rattle.script_model.specs.Lines.{Line, Text}
use Rattle.script_model.specs.Script.{Spelled}
use Rattle.script_model.specs.ScriptRules.{Before, refusal_of, line_of}
use Rattle.script_reading.specs.Judging.{must, ◌>>=◌}

-- the first of the reasons whose test passes
abbrev pub chain : (a b c d e f g h i j : Bool) → Option LineWhy
chain a b c d e f g h i j =
    if a then Some Place else if b then Some Range else if c then Some NoPlayer else if d then Some Taken
    else if e then Some NoClass else if f then Some NoActor else if g then Some NoName else if h then Some why.Kind
    else if i then Some why.Value else if j then Some Full else None

-- the line, where no reason is against it
abbrev pub outcome : Option LineWhy → Line → Result Line LineWhy
outcome None line = Ok line
outcome (Some why) line = Err why

-- what the rules of every script say of a line
abbrev pub ruled : Table → (live : Bool) → Before → Spelled → Result Line LineWhy
ruled table live before line = outcome (refusal_of table live before line) (line_of table before line)

-- ---- by kinds of lines

-- an actor
abbrev pub found : Bool → ℕ → Class → Result (ℕ × Class) LineWhy
found a g c = if a then Ok (g, c) else Err NoActor

-- a number in range
abbrev pub ranged : {A : Type 0} → Bool → A → Result A LineWhy
ranged r n = if r then Ok n else Err Range

pub edit_rule : (l a : Bool) (g : ℕ) (c : Class) (make : ℕ → world.Edit)
    → (found a g c >>= (λ x. Ok (story.ApplyEdit (make x.0))))
    ≡ outcome (chain (l && false) false (not l && false) false false (not a) false false false false)
    (story.ApplyEdit (make g))
edit_rule true true g c make = refl
edit_rule true false g c make = refl
edit_rule false true g c make = refl
edit_rule false false g c make = refl

pub ranged_edit_rule : (l r a : Bool) (n g : ℕ) (c : Class) (make : ℕ → ℕ → world.Edit)
    → (ranged r n >>= (λ p. found a g c >>= (λ x. Ok (story.ApplyEdit (make p x.0)))))
    ≡ outcome (chain (l && false) (not r) (not l && false) false false (not a) false false false false)
    (story.ApplyEdit (make n g))
ranged_edit_rule true true true n g c make = refl
ranged_edit_rule true true false n g c make = refl
ranged_edit_rule true false a n g c make = refl
ranged_edit_rule false true true n g c make = refl
ranged_edit_rule false true false n g c make = refl
ranged_edit_rule false false a n g c make = refl

pub two_ranged_rule : (l r s : Bool) (n k : ℕ) (make : ℕ → ℕ → Line)
    → (ranged r n >>= (λ p. ranged s k >>= (λ t. Ok (make p t))))
    ≡ outcome (chain (l && false) (not (r && s)) (not l && false) false false false false false false false)
    (make n k)
two_ranged_rule true true true n k make = refl
two_ranged_rule true true false n k make = refl
two_ranged_rule true false s n k make = refl
two_ranged_rule false true true n k make = refl
two_ranged_rule false true false n k make = refl
two_ranged_rule false false s n k make = refl

pub view_rule : (l r s t : Bool) (n : ℕ) (x y : ℤ) (make : ℕ → ℤ → ℤ → Line)
    → (ranged r n >>= (λ p. ranged s x >>= (λ x. ranged t y >>= (λ y. Ok (make p x y)))))
    ≡ outcome (chain (l && false) (not (r && s && t)) (not l && false) false false false false false false false)
    (make n x y)
view_rule true true true true n x y make = refl
view_rule true true true false n x y make = refl
view_rule true true false t n x y make = refl
view_rule true false s t n x y make = refl
view_rule false true true true n x y make = refl
view_rule false true true false n x y make = refl
view_rule false true false t n x y make = refl
view_rule false false s t n x y make = refl

pub spawn_rule : (l s t f : Bool) (o : Option ℕ) (x y : ℤ) (make : ℕ → ℤ → ℤ → Line)
    → (ranged s x >>= (λ x. ranged t y
    >>= (λ y. ok_or o NoClass >>= (λ n. must (not f) Full >>= (λ _. Ok (make n x y))))))
    ≡ outcome (chain (l && false) (not (s && t)) (not l && false) false (not (is_some o)) false false false false f)
    (make (unwrap_or o 0) x y)
spawn_rule true true true true (Some n) x y make = refl
spawn_rule true true true false (Some n) x y make = refl
spawn_rule true true true f None x y make = refl
spawn_rule true true false f o x y make = refl
spawn_rule true false t f o x y make = refl
spawn_rule false true true true (Some n) x y make = refl
spawn_rule false true true false (Some n) x y make = refl
spawn_rule false true true f None x y make = refl
spawn_rule false true false f o x y make = refl
spawn_rule false false t f o x y make = refl

pub join_rule : (l r s : Bool) (kept_in in_before : ℕ → Bool) (f : Bool) (n k : ℕ) (make : ℕ → ℕ → Line)
    → kept_in n ≡ in_before n
    → (must (not l) Place >>= (λ _. ranged r n >>= (λ p. ranged s k >>= (λ b. must (not (kept_in p)) Taken
    >>= (λ _. must (not f) Full) >>= (λ _. Ok (make p b))))))
    ≡ outcome (chain (l && true) (not (r && s)) (not l && false) (in_before n) false false false false false f)
    (make n k)
join_rule true r s ki ib f n k make same = refl
join_rule false false s ki ib f n k make same = refl
join_rule false true false ki ib f n k make same = refl
join_rule false true true ki ib f n k make same = rw same (by_taken (ib n) f)
  where
    by_taken : (t f : Bool) → (must (not t) Taken >>= (λ _. must (not f) Full) >>= (λ _. Ok (make n k)))
        ≡ outcome (chain false false false t false false false false false f) (make n k)
    by_taken true f = refl
    by_taken false true = refl
    by_taken false false = refl

-- a player who joined
pub joined_rule : (l r : Bool) (kept_in in_before : ℕ → Bool) (n : ℕ) (make : ℕ → Line)
    → kept_in n ≡ in_before n
    → (must (not l) Place >>= (λ _. ranged r n >>= (λ p. must (l || kept_in p) NoPlayer >>= (λ _. Ok p)))
    >>= (λ p. Ok (make p)))
    ≡ outcome (chain (l && true) (not r) (not l && not (in_before n)) false false false false false false false)
    (make n)
joined_rule true r ki ib n make same = refl
joined_rule false false ki ib n make same = refl
joined_rule false true ki ib n make same = rw same (by_joined (ib n))
  where
    by_joined : (j : Bool) → (must j NoPlayer >>= (λ _. Ok n) >>= (λ p. Ok (make p)))
        ≡ outcome (chain false false (not j) false false false false false false false) (make n)
    by_joined true = refl
    by_joined false = refl

pub numbered_rule : (l r s : Bool) (kept_in in_before : ℕ → Bool) (n k : ℕ) (make : ℕ → ℕ → Line)
    → kept_in n ≡ in_before n
    → (must (not l) Place >>= (λ _. ranged r n >>= (λ p. ranged s k >>= (λ m. must (l || kept_in p) NoPlayer
    >>= (λ _. Ok (p, m))))) >>= (λ (p : ℕ × ℕ). Ok (make p.0 p.1)))
    ≡ outcome (chain (l && true) (not (r && s)) (not l && not (in_before n)) false false false false false false false)
    (make n k)
numbered_rule true r s ki ib n k make same = refl
numbered_rule false false s ki ib n k make same = refl
numbered_rule false true false ki ib n k make same = refl
numbered_rule false true true ki ib n k make same = rw same (by_joined (ib n))
  where
    by_joined : (j : Bool) → (must j NoPlayer >>= (λ _. Ok (n, k)) >>= (λ (p : ℕ × ℕ). Ok (make p.0 p.1)))
        ≡ outcome (chain false false (not j) false false false false false false false) (make n k)
    by_joined true = refl
    by_joined false = refl

pub settled_rule : (l r a : Bool) (kept_in in_before : ℕ → Bool) (n g : ℕ) (c : Class) (make : ℕ → ℕ → Line)
    → kept_in n ≡ in_before n
    → (must (not l) Place >>= (λ _. ranged r n >>= (λ p. must (l || kept_in p) NoPlayer >>= (λ _. Ok p)))
    >>= (λ p. found a g c >>= (λ x. Ok (make p x.0))))
    ≡ outcome (chain (l && true) (not r) (not l && not (in_before n)) false false (not a) false false false false)
    (make n g)
settled_rule true r a ki ib n g c make same = refl
settled_rule false false a ki ib n g c make same = refl
settled_rule false true a ki ib n g c make same = rw same (by_joined (ib n) a)
  where
    by_joined : (j a : Bool) → (must j NoPlayer >>= (λ _. Ok n) >>= (λ p. found a g c >>= (λ x. Ok (make p x.0))))
        ≡ outcome (chain false false (not j) false false (not a) false false false false) (make n g)
    by_joined true true = refl
    by_joined true false = refl
    by_joined false a = refl

switch_tail : (make : ℕ → Line) (o : Option ℕ)
    → (ok_or o NoName >>= (λ h. Ok (make h)))
    ≡ outcome (chain false false false false false false (is_none o) false false false) (make (unwrap_or o 0))
switch_tail make None = refl
switch_tail make (Some h) = refl

pub switch_rule : (l a : Bool) (g : ℕ) (c : Class) (handle : Class → Option ℕ) (make : ℕ → ℕ → Line)
    → (found a g c >>= (λ x. ok_or (handle x.1) NoName >>= (λ h. Ok (make x.0 h))))
    ≡ outcome (chain (l && false) false (not l && false) false false (not a) (is_none (handle c)) false false false)
    (make g (unwrap_or (handle c) 0))
switch_rule true true g c handle make = switch_tail (make g) (handle c)
switch_rule true false g c handle make = refl
switch_rule false true g c handle make = switch_tail (make g) (handle c)
switch_rule false false g c handle make = refl
