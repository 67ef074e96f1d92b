-- A text has at most one token a byte, and one at its end that is bad.
use Rattle.std.proofs.Common.{ℕ, suc, ◌≤◌, List, [], ◌∷◌, length, Bool, true, false, arith}
use Rattle.json.specs.Token.{Token, begin_object, end_object, begin_array, end_array, key, string, number, boolean, null, bad}
use Rattle.json.specs.Lex.{Lexeme, token, comma, colon, Class, quote, backslash, operator, space, other, class, Mode, between, in_word, in_string, in_escape, lex_byte, lex}
use Rattle.json.specs.Lex.{Place, fresh, after_value, after_comma, after_key, begins_colon, may_begin, may_close, if_allowed, place_token, punctuate, tokens}

-- a byte begins one lexeme at most
byte_most : (m : Mode) (c : Class) (x : ℕ) (xs : List ℕ) (k : Mode → List Lexeme) (n : ℕ)
    → ((next : Mode) → length (k next) ≤ n) → length (lex_byte m c x xs k) ≤ suc n
byte_most between quote x xs k n h = omega (arith, h in_string)
byte_most between backslash x xs k n h = omega (arith, h in_word)
byte_most between operator x xs k n h = omega (arith, h between)
byte_most between space x xs k n h = omega (arith, h between)
byte_most between other x xs k n h = omega (arith, h in_word)
byte_most in_word quote x xs k n h = omega (arith, h in_word)
byte_most in_word backslash x xs k n h = omega (arith, h in_word)
byte_most in_word operator x xs k n h = omega (arith, h between)
byte_most in_word space x xs k n h = omega (arith, h between)
byte_most in_word other x xs k n h = omega (arith, h in_word)
byte_most in_string quote x xs k n h = omega (arith, h between)
byte_most in_string backslash x xs k n h = omega (arith, h in_escape)
byte_most in_string operator x xs k n h = omega (arith, h in_string)
byte_most in_string space x xs k n h = omega (arith, h in_string)
byte_most in_string other x xs k n h = omega (arith, h in_string)
byte_most in_escape c x xs k n h = omega (arith, h in_string)

lexemes_most : (bytes : List ℕ) (m : Mode) → length (lex m bytes) ≤ length bytes
unfolding lex
lexemes_most [] m = omega arith
lexemes_most (x ∷ xs) m = byte_most m (class x) x xs (λ next. lex next xs) (length xs) (lexemes_most xs)

-- a lexeme gives one token at most
allowed_most : (b : Bool) (t : Token) (k : Place → List Token) (next : Place) (n : ℕ) → length (k next) ≤ n
    → length (if_allowed b t k next) ≤ suc n
allowed_most true t k next n h = omega arith
allowed_most false t k next n h = omega arith

token_most : (p : Place) (t : Token) (b : Bool) (k : Place → List Token) (n : ℕ)
    → ((next : Place) → length (k next) ≤ n) → length (place_token p t b k) ≤ suc n
token_most p begin_object b k n h = allowed_most (may_begin p) begin_object k fresh n (h fresh)
token_most p end_object b k n h = allowed_most (may_close p) end_object k after_value n (h after_value)
token_most p begin_array b k n h = allowed_most (may_begin p) begin_array k fresh n (h fresh)
token_most p end_array b k n h = allowed_most (may_close p) end_array k after_value n (h after_value)
token_most p (key s) b k n h = omega arith
token_most p (string s) true k n h = allowed_most (may_begin p) (key s) k after_key n (h after_key)
token_most p (string s) false k n h = allowed_most (may_begin p) (string s) k after_value n (h after_value)
token_most p (number s) b k n h = allowed_most (may_begin p) (number s) k after_value n (h after_value)
token_most p (boolean v) b k n h = allowed_most (may_begin p) (boolean v) k after_value n (h after_value)
token_most p null b k n h = allowed_most (may_begin p) null k after_value n (h after_value)
token_most p bad b k n h = omega arith

placed_most : (ls : List Lexeme) (p : Place) → length (punctuate p ls) ≤ suc (length ls)
unfolding punctuate
placed_most [] fresh = omega arith
placed_most [] after_value = omega arith
placed_most [] after_comma = omega arith
placed_most [] after_key = omega arith
placed_most (token t ∷ ls) p =
    token_most p t (begins_colon ls) (λ next. punctuate next ls) (suc (length ls)) (placed_most ls)
placed_most (comma ∷ ls) fresh = omega arith
placed_most (comma ∷ ls) after_value = omega (arith, placed_most ls after_comma)
placed_most (comma ∷ ls) after_comma = omega arith
placed_most (comma ∷ ls) after_key = omega arith
placed_most (colon ∷ ls) fresh = omega arith
placed_most (colon ∷ ls) after_value = omega arith
placed_most (colon ∷ ls) after_comma = omega arith
placed_most (colon ∷ ls) after_key = omega (arith, placed_most ls fresh)

-- at most one token more than bytes
pub tokens_most : (bytes : List ℕ) → length (tokens bytes) ≤ suc (length bytes)
tokens_most bytes = omega (arith, placed_most (lex between bytes) fresh, lexemes_most bytes between)
