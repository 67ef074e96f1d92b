-- A JSON text has no array of more elements than it has bytes.
use Rattle.std.proofs.Common.{◌≡◌, ℕ, zero, suc, ◌+◌, ◌<◌, ◌≤◌, max, Bool, true, false, List, [], ◌∷◌, length, Option, Some, None, option_map, option_and_then, cond, IfSome, Ordering, Less, Equal, Greater, refl, subst, arith}
use Rattle.std.specs.Prelude.{⊤}
use Rattle.std.specs.Ordering.{match_ordering}
use Rattle.std.specs.Str.{is_utf8}
use Rattle.json.specs.Token.{Token}
use Rattle.json.specs.Lex.{tokens}
use Rattle.json.specs.Json as json
use Rattle.serde_json.specs.Data.{Data, number, array, object, Items, item, Members, no_members, member, put}
use Rattle.serde_json.specs.Events.{items_len}
use Rattle.serde_json.specs.Read.{number_of, of_json, of_items, of_members, max_depth, read}
use Rattle.table_model.specs.Grammar.{json_of}
use Rattle.table_model.specs.Sizes.{longest_array, longest_in_items, longest_in_members}
use Rattle.table_model.proofs.Tokens.{tokens_most}

-- ---- the tree of a text, whose arrays are as long as those of its value

abbrev count : json.Items → ℕ
count json.no_items = 0
count (json.item j js) = suc (count js)

abbrev mutual
  longest : json.Json → ℕ
  longest json.null = 0
  longest (json.boolean b) = 0
  longest (json.number s) = 0
  longest (json.string s) = 0
  longest (json.array js) = max (count js) (items_longest js)
  longest (json.object ms) = members_longest ms

  items_longest : json.Items → ℕ
  items_longest json.no_items = 0
  items_longest (json.item j js) = max (longest j) (items_longest js)

  members_longest : json.Members → ℕ
  members_longest json.no_members = 0
  members_longest (json.member k j ms) = max (longest j) (members_longest ms)

-- ---- each element takes a token

-- what is read of m tokens takes so many of them at least, and its arrays have fewer elements than m
abbrev Takes : {A : Type 0} → (A → ℕ) → (A → ℕ) → ℕ → Option (A × List Token) → Type 0
Takes least longest_of m None = ⊤
Takes least longest_of m (Some p) = (least p.0 + length p.1 ≤ m) × (longest_of p.0 < m)

-- the same of whichever tokens
abbrev TakesOf : {A : Type 0} → (A → ℕ) → (A → ℕ) → json.Parse A → Type 0
TakesOf least longest_of p = (ts : List Token) → Takes least longest_of (length ts) (p ts)

-- a value takes one at least, and members may take none
abbrev one : json.Json → ℕ
one j = 1

abbrev none : json.Members → ℕ
none ms = 0

-- of more tokens it is the same
takes_more : {A : Type 0} (f g : A → ℕ) (m n : ℕ) → m ≤ n → (o : Option (A × List Token)) → Takes f g m o
    → Takes f g n o
takes_more f g m n le None t = tt
takes_more f g m n le (Some p) t = let first = t.0 in let last = t.1 in (omega arith, omega arith)

mapped : {A B : Type 0} (f g : A → ℕ) (p q : B → ℕ) (m n : ℕ) (h : A → B)
    → ((a : A) (l : ℕ) → f a + l ≤ m → g a < m → (p (h a) + l ≤ n) × (q (h a) < n))
    → (o : Option (A × List Token)) → Takes f g m o → Takes p q n (json.parse_map h o)
mapped f g p q m n h k None t = tt
mapped f g p q m n h k (Some r) t = k r.0 (length r.1) t.0 t.1

-- a value, and what follows it
and_more : {B : Type 0} (f g : B → ℕ) (m : ℕ) (h : json.Json → B → B)
    → ((j : json.Json) (b : B) → (f (h j b) ≤ suc (f b)) × (g (h j b) ≡ max (longest j) (g b)))
    → (more : json.Parse B) → TakesOf f g more → (o : Option (json.Json × List Token)) → Takes one longest m o
    → Takes f g m (option_and_then (λ q. json.parse_map (h q.0) (more q.1)) o)
and_more f g m h is more takes None t = tt
and_more f g m h is more takes (Some q) t =
    mapped f g f g (length q.1) m (h q.0)
    (λ b l x y. let s = is q.0 b in let first = t.0 in let last = t.1 in (omega (arith, s.0), omega (arith, s.1))) _
    (takes q.1)

-- a bracket that closes an array is one of the tokens
abbrev Fewer : ℕ → Option (List Token) → Type 0
Fewer m None = ⊤
Fewer m (Some r) = length r < m

closing : (ts : List Token) → Fewer (length ts) (json.after_end_array ts)
closing [] = tt
closing (Token.begin_object ∷ ts) = tt
closing (Token.end_object ∷ ts) = tt
closing (Token.begin_array ∷ ts) = tt
closing (Token.end_array ∷ ts) = omega arith
closing (Token.key s ∷ ts) = tt
closing (Token.string s ∷ ts) = tt
closing (Token.number s ∷ ts) = tt
closing (Token.boolean b ∷ ts) = tt
closing (Token.null ∷ ts) = tt
closing (Token.bad ∷ ts) = tt

-- so is a key, or the brace that closes an object
abbrev FewerWith : {A : Type 0} → ℕ → Option (A × List Token) → Type 0
FewerWith m None = ⊤
FewerWith m (Some p) = length p.1 < m

naming : (ts : List Token) → FewerWith (length ts) (json.read_key ts)
naming [] = tt
naming (Token.begin_object ∷ ts) = tt
naming (Token.end_object ∷ ts) = omega arith
naming (Token.begin_array ∷ ts) = tt
naming (Token.end_array ∷ ts) = tt
naming (Token.key s ∷ ts) = omega arith
naming (Token.string s ∷ ts) = tt
naming (Token.number s ∷ ts) = tt
naming (Token.boolean b ∷ ts) = tt
naming (Token.null ∷ ts) = tt
naming (Token.bad ∷ ts) = tt

module _ (p : json.Parse json.Json) (takes : TakesOf one longest p) where
  item_turn : (more : json.Parse json.Items) → TakesOf count items_longest more → (ts : List Token)
      → (o : Option (List Token)) → Fewer (length ts) o
      → Takes count items_longest (length ts) (json.items_step p more ts o)
  item_turn more again ts (Some r) h = (omega arith, omega arith)
  item_turn more again ts None h =
      and_more count items_longest (length ts) json.item (λ j b. (omega arith, refl)) more again (p ts) (takes ts)

  items_take : (n : ℕ) → TakesOf count items_longest (json.items p n)
  unfolding json.items
  items_take zero ts = tt
  items_take (suc n) ts =
      item_turn (json.items p n) (items_take n) ts (json.after_end_array ts) (closing ts)

  member_turn : (more : json.Parse json.Members) → TakesOf none members_longest more → (m : ℕ)
      → (o : Option (Option (List ℕ) × List Token)) → FewerWith m o
      → Takes none members_longest m (option_and_then (λ q. json.members_step p more q.0 q.1) o)
  member_turn more again m None h = tt
  member_turn more again m (Some (None, s)) h = (omega arith, omega arith)
  member_turn more again m (Some (Some k, s)) h =
      takes_more none members_longest (length s) m (omega arith) _
      (and_more none members_longest (length s) (json.member k) (λ j b. (omega arith, refl)) more again (p s) (takes s))

  members_take : (n : ℕ) → TakesOf none members_longest (json.members p n)
  unfolding json.members
  members_take zero ts = tt
  members_take (suc n) ts = member_turn (json.members p n) (members_take n) (length ts) (json.read_key ts) (naming ts)

-- the tokens within the brackets are one fewer
level_takes : (a : json.Parse json.Items) (o : json.Parse json.Members) → TakesOf count items_longest a
    → TakesOf none members_longest o → TakesOf one longest (json.value_with a o)
level_takes a o p q [] = tt
level_takes a o p q (Token.begin_object ∷ ts) =
    mapped none members_longest one longest (length ts) (suc (length ts)) json.object
    (λ ms l x y. (omega arith, omega arith)) (o ts) (q ts)
level_takes a o p q (Token.end_object ∷ ts) = tt
level_takes a o p q (Token.begin_array ∷ ts) =
    mapped count items_longest one longest (length ts) (suc (length ts)) json.array
    (λ js l x y. (omega arith, omega arith)) (a ts) (p ts)
level_takes a o p q (Token.end_array ∷ ts) = tt
level_takes a o p q (Token.key s ∷ ts) = tt
level_takes a o p q (Token.string s ∷ ts) = (omega arith, omega arith)
level_takes a o p q (Token.number s ∷ ts) = (omega arith, omega arith)
level_takes a o p q (Token.boolean b ∷ ts) = (omega arith, omega arith)
level_takes a o p q (Token.null ∷ ts) = (omega arith, omega arith)
level_takes a o p q (Token.bad ∷ ts) = tt

value_takes : (depth : ℕ) → TakesOf one longest (json.value depth)
unfolding json.value
value_takes zero = level_takes (λ ts. None) (λ ts. None) (λ ts. tt) (λ ts. tt)
value_takes (suc d) =
    level_takes (λ ts. json.items (json.value d) (length ts) ts) (λ ts. json.members (json.value d) (length ts) ts)
    (λ ts. items_take (json.value d) (value_takes d) (length ts) ts)
    (λ ts. members_take (json.value d) (value_takes d) (length ts) ts)

-- the whole text is one value
last_takes : (o : Option (json.Json × List Token)) (n : ℕ) → Takes one longest (suc n) o
    → IfSome (option_and_then (λ p. json.if_last p.0 p.1) o) (λ j. longest j ≤ n)
last_takes None n t = tt
last_takes (Some (j, [])) n t = let last = t.1 in omega arith
last_takes (Some (j, x ∷ r)) n t = tt

-- ---- the value of a tree

some_map : {A B : Type 0} (P : A → Type 0) (Q : B → Type 0) (f : A → B) → ((a : A) → P a → Q (f a))
    → (o : Option A) → IfSome o P → IfSome (option_map f o) Q
some_map P Q f k None h = tt
some_map P Q f k (Some a) h = k a h

some_and_then : {A B : Type 0} (P : A → Type 0) (Q : B → Type 0) (f : A → Option B)
    → ((a : A) → P a → IfSome (f a) Q) → (o : Option A) → IfSome o P → IfSome (option_and_then f o) Q
some_and_then P Q f k None h = tt
some_and_then P Q f k (Some a) h = k a h

some_any : {A : Type 0} (o : Option A) → IfSome o (λ a. ⊤)
some_any None = tt
some_any (Some a) = tt

either_longest : (o : Ordering) (a b c : Members) (n : ℕ) → longest_in_members a ≤ n → longest_in_members b ≤ n
    → longest_in_members c ≤ n → longest_in_members (match_ordering o a b c) ≤ n
either_longest Less a b c n p q r = p
either_longest Equal a b c n p q r = q
either_longest Greater a b c n p q r = r

put_longest : (k : List ℕ) (d : Data) (ms : Members) (n : ℕ) → longest_array d ≤ n → longest_in_members ms ≤ n
    → longest_in_members (put k d ms) ≤ n
put_longest k d no_members n p q = omega arith
put_longest k d (member l e ms) n p q =
    either_longest _ (member k d (member l e ms)) (member l d ms) (member l e (put k d ms)) n (omega arith)
    (omega arith) (omega (arith, put_longest k d ms n p (omega arith)))

-- as many elements, and no longer arrays in them
abbrev SameCount : ℕ → ℕ → Items → Type 0
SameCount c n ds = (items_len ds ≡ c) × (longest_in_items ds ≤ n)

abbrev AtMost : ℕ → Data → Type 0
AtMost n d = longest_array d ≤ n

mutual
  of_json_longest : (j : json.Json) (n : ℕ) → longest j ≤ n → IfSome (of_json j) (AtMost n)
  of_json_longest json.null n h = omega arith
  of_json_longest (json.boolean b) n h = omega arith
  of_json_longest (json.number s) n h =
      some_map (λ a. ⊤) (AtMost n) number (λ a x. omega arith) (number_of s) (some_any _)
  of_json_longest (json.string s) n h = omega arith
  of_json_longest (json.array js) n h =
      some_map (SameCount (count js) n) (AtMost n) array (λ ds x. let c = x.0 in let l = x.1 in omega arith) _
      (of_items_longest js n (omega arith))
  of_json_longest (json.object ms) n h =
      some_map (λ ms. longest_in_members ms ≤ n) (AtMost n) object (λ ms x. x) _
      (of_members_longest ms no_members n h (omega arith))

  of_items_longest : (js : json.Items) (n : ℕ) → items_longest js ≤ n
      → IfSome (of_items js) (SameCount (count js) n)
  of_items_longest json.no_items n h = (refl, omega arith)
  of_items_longest (json.item j js) n h =
      some_and_then (AtMost n) (SameCount (suc (count js)) n) _
      (λ d x. some_map (SameCount (count js) n) (SameCount (suc (count js)) n) (item d)
      (λ ds y. let c = y.0 in let l = y.1 in (omega arith, omega arith)) _ (of_items_longest js n (omega arith)))
      _ (of_json_longest j n (omega arith))

  of_members_longest : (ms : json.Members) (found : Members) (n : ℕ) → members_longest ms ≤ n
      → longest_in_members found ≤ n → IfSome (of_members ms found) (λ ms. longest_in_members ms ≤ n)
  of_members_longest json.no_members found n h k = k
  of_members_longest (json.member name j ms) found n h k =
      some_and_then (AtMost n) (λ ms. longest_in_members ms ≤ n) _
      (λ d x. of_members_longest ms (put name d found) n (omega arith) (put_longest name d found n x k)) _
      (of_json_longest j n (omega arith))

-- ---- the value of a text

-- no array of a JSON text has more elements than the text has bytes
pub read_within : (bytes : List ℕ) (d : Data) → read bytes ≡ Some d → longest_array d ≤ length bytes
read_within bytes d e =
    let n = length bytes in
    let takes = value_takes max_depth (tokens bytes) in
    let last = last_takes _ n (takes_more one longest (length (tokens bytes)) (suc n) (tokens_most bytes) _ takes) in
    subst (λ o. IfSome o (AtMost n)) e
    (some_and_then (λ j. longest j ≤ n) (AtMost n) of_json (λ j x. of_json_longest j n x) _ last)

-- nor has one of a file
pub json_within : (bytes : List ℕ) (d : Data) → json_of bytes ≡ Some d → longest_array d ≤ length bytes
json_within bytes d e = by_text (is_utf8 bytes) e
  where
    by_text : (b : Bool) → cond b (read bytes) None ≡ Some d → longest_array d ≤ length bytes
    by_text true h = read_within bytes d h
    by_text false h = absurd (cc)
