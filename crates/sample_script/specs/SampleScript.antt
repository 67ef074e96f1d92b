-- The sample script: its lines, with numbers that are drawn one after another.
use Rattle.std.specs.Prelude.{ℕ, ◌+◌, ◌-◌, ◌%◌, ◌==◌, List, [], ◌∷◌, ◌++◌, map, Bool, nat_lt, nat_le, if◌then◌else◌, ℤ, pos, ◌-ℤ◌, codes, decimal}
use Rattle.std.specs.Fmt.{signed_decimal}
use Rattle.std.specs.List.{flat_map, range_with_len}
use Rattle.rand_pcg.specs.Lcg.{Lcg, started, increment_of}
use Rattle.rand_pcg.specs.Pcg.{multiplier_64, pcg32}
use Rattle.script_model.specs.Lines.{Text}
use Rattle.script_model.specs.Reports.{words}

-- ---- draws

-- what is made of the next numbers, and the generator after them
abbrev pub Drawing : Type 0 → Type 0
Drawing A = Lcg → A × Lcg

-- one after another
infixl 10 ◌>>=◌
abbrev pub ◌>>=◌ : {A B : Type 0} → Drawing A → (A → Drawing B) → Drawing B
(first >>= next) g = let drawn = first g in next drawn.0 drawn.1

-- what needs no number
abbrev pub give : {A : Type 0} → A → Drawing A
give x g = (x, g)

-- all texts in order
abbrev pub in_turn : List (Drawing Text) → Drawing Text
in_turn [] = give []
in_turn (drawing ∷ drawings) = do
  text ← drawing
  texts ← in_turn drawings
  give (text ++ texts)

-- the next number's remainder
abbrev pub draw : ℕ → Drawing ℕ
draw k g = let next = pcg32 g in (next.0 % k, next.1)

-- from -2,000 to 2,000
abbrev pub place : Drawing ℤ
place = do
  n ← draw 4001
  give (pos n -ℤ pos 2000)

-- from 1 to 200
abbrev pub actor : Drawing ℕ
actor = do
  n ← draw 200
  give (n + 1)

-- ---- lines

-- words as a line
abbrev pub line : List Text → Text
line ws = words ws ++ 10 ∷ []

-- each of the eight players
abbrev pub players : List ℕ
players = range_with_len 1 8

-- a player joins
abbrev pub join_line : ℕ → Text
join_line p = line (codes "join" ∷ decimal p ∷ codes "20000" ∷ [])

-- the class of the a-th actor
abbrev pub class_name : ℕ → Text
class_name a = if a % 10 == 0 then codes "Flag" else if a % 10 == 1 then codes "Purse" else codes "Pawn"

-- the first 80 actors have owners
abbrev pub own_line : ℕ → Text
own_line a =
    if nat_le a 80 then line (codes "own" ∷ decimal a ∷ decimal ((a - 1) % 8 + 1) ∷ []) else []

-- the a-th actor is spawned at a place
abbrev pub spawn_at : (actor : ℕ) → (x y : ℤ) → Text
spawn_at a x y = line (codes "spawn" ∷ class_name a ∷ signed_decimal x ∷ signed_decimal y ∷ []) ++ own_line a

-- the a-th actor is spawned
abbrev pub spawn_lines : ℕ → Drawing Text
spawn_lines a = do
  x ← place
  y ← place
  give (spawn_at a x y)

-- the property that is set of the a-th actor, neither x nor y
abbrev pub property_name : ℕ → Text
property_name a = if a % 10 == 0 then codes "score" else if a % 10 == 1 then codes "gold" else codes "ammo"

-- a property gets a value
abbrev pub set_line : (actor : ℕ) → (name : Text) → ℤ → Text
set_line a name v = line (codes "set" ∷ decimal a ∷ name ∷ signed_decimal v ∷ [])

-- x for 0 or 1, y for 2, and the other property for 3
abbrev pub set_drawn : (actor e : ℕ) → Drawing Text
set_drawn a e =
    if nat_lt e 3 then place >>= (λ v. give (set_line a (if e == 2 then codes "y" else codes "x") v))
    else draw 1000 >>= (λ v. give (set_line a (property_name a) (pos v)))

-- some value of some actor is set
abbrev pub set_lines : Drawing Text
set_lines = do
  a ← actor
  e ← draw 4
  set_drawn a e

-- a player looks from a place
abbrev pub view_at : (player : ℕ) → (x y : ℤ) → Text
view_at p x y = line (codes "view" ∷ decimal p ∷ signed_decimal x ∷ signed_decimal y ∷ [])

-- where a player looks from
abbrev pub view_line : ℕ → Drawing Text
view_line p = do
  x ← place
  y ← place
  give (view_at p x y)

-- some actor, after this word
abbrev pub actor_line : Text → Drawing Text
actor_line word = do
  a ← actor
  give (line (word ∷ decimal a ∷ []))

-- where it holds, this; else nothing
abbrev pub text_if : Bool → Drawing Text → Drawing Text
text_if b drawing = if b then drawing else give []

-- a player's packets both ways but those whose number is a multiple
abbrev pub exchange_line : (every player : ℕ) → Text
exchange_line every p =
    line (codes "downnew" ∷ decimal p ∷ decimal every ∷ []) ++ line (codes "ctick" ∷ decimal p ∷ [])
    ++ line (codes "upnew" ∷ decimal p ∷ decimal every ∷ [])

-- the tick, and each player's packets
abbrev pub exchange_lines : (every : ℕ) → Text
exchange_lines every = line (codes "tick" ∷ []) ++ flat_map (exchange_line every) players

-- the i-th tick with the edits before it
abbrev pub tick_lines : ℕ → Drawing Text
tick_lines i = do
  sets ← in_turn (map (λ n. set_lines) (range_with_len 0 20))
  views ← text_if (i % 10 == 0) (in_turn (map view_line players))
  sleeps ← text_if (i % 50 == 0) (actor_line (codes "dormant"))
  wakes ← text_if (i % 50 == 25) (actor_line (codes "wake"))
  give (sets ++ views ++ sleeps ++ wakes ++ exchange_lines 10)

-- joins, spawns, ticks with edits, and then 40 ticks in which nothing is lost
abbrev pub sample_lines : (ticks : ℕ) → Drawing Text
sample_lines n = do
  spawns ← in_turn (map spawn_lines (range_with_len 1 200))
  ticks ← in_turn (map tick_lines (range_with_len 1 n))
  give (flat_map join_line players ++ spawns ++ ticks ++ flat_map (λ i. exchange_lines 0) (range_with_len 0 40))

-- the script of so many ticks, with the numbers that begin from it
abbrev pub sample_script : (ticks : ℕ) → Text
sample_script n = (sample_lines n (started 64 multiplier_64 n (increment_of 64 1))).0
