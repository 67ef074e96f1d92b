-- Each word's line is the one that the grammar reads, with numbers as far as they are told apart.
use Rattle.std.proofs.Common.{◌≡◌, ℕ, List, [], ◌∷◌, ◌++◌, map, refl, sym, ◌∙◌, ap, Bool, true, false, Option, Some, None, option_map, is_some, unwrap_or, nat_le, length, cond, ℤ, codes}
use Rattle.std.specs.Bool.{then_some, if◌then◌else◌}
use Rattle.std.specs.Str.{bytes_eq}
use Rattle.protocol_model.specs.declared.Version.TheVariants.{One, Two}
use Rattle.protocol_model.specs.Side.{Side, AtServer, AtClient}
use Rattle.protocol_model.specs.Search.{or_else}
use Rattle.script_model.specs.Lines.{Text}
use Rattle.script_model.specs.Script.{Spelled, Join, Spawn, Destroy, Set, Own, View, Add, Dormant, Wake, Flush, Switch, Team, Give, Tick, ClientTick, Deliver, DeliverNew, CallTo, CallAll, Dump, AskSettled, Forge, number_of, name_of, on_of, octets_of, datagram_of, one_number, two_numbers, three_numbers, no_fields, spawn_of, set_of, switch_of, call_of, multi_of, forge_of, words, read_by, pieces, spelled_of, ◌>>=◌}
use Rattle.script_spelling.specs.Capped.{capped}
use Rattle.script_spelling.specs.Fields.{is_nil, take_name}
use Rattle.script_spelling.specs.Shapes.{one_in, two_in, text_in, last_in, named_in}
use Rattle.script_spelling.specs.Words.{word_of}
use Rattle.script_spelling.specs.Reading.{one_as, two_as, three_as, spawn_as, set_as, switch_as, call_as, multi_as, forge_as, spelled_as}
use Rattle.script_spelling.specs.SpelledBy.{capped_line}
use Rattle.script_spelling.specs.declared.word.Word.{Word}
use Rattle.script_spelling.specs.declared.word.Word.TheVariants as word

-- a number beside the fields after it
abbrev beside : List Text → Option ℤ → Option (ℤ × List Text)
beside fields o = option_map (λ z. (capped z, fields)) o

-- a name beside the fields after it
abbrev beside_name : List Text → Option Text → Option (Text × List Text)
beside_name fields o = option_map (λ name. (name, fields)) o

-- what shapes make of their first field
abbrev one-from : Option (ℤ × List Text) → Option ℤ
one-from o = do
  a ← o
  then_some (is_nil a.1) a.0

abbrev two-from : Option (ℤ × List Text) → Option (ℤ × ℤ)
two-from o = do
  a ← o
  b ← one_in a.1
  Some (a.0, b)

abbrev three-from : Option (ℤ × List Text) → Option (ℤ × ℤ × ℤ)
three-from o = do
  a ← o
  b ← two_in a.1
  Some (a.0, b.0, b.1)

abbrev place-from : Option (Text × List Text) → Option (Text × ℤ × ℤ)
place-from o = do
  name ← o
  place ← two_in name.1
  Some (name.0, place.0, place.1)

abbrev last-from : ℤ → Option (Text × List Text) → Option (ℤ × Text × Text)
last-from a o = do
  name ← o
  text ← last_in name.1
  Some (a, name.0, text)

abbrev text-from : Option (ℤ × List Text) → Option (ℤ × Text × Text)
text-from o = do
  a ← o
  name ← take_name a.1
  text ← last_in name.1
  Some (a.0, name.0, text)

abbrev name-from : ℤ → Option (Text × List Text) → Option (ℤ × Text × List Text)
name-from a o = do
  name ← o
  Some (a, name.0, name.1)

abbrev named-from : Option (ℤ × List Text) → Option (ℤ × Text × List Text)
named-from o = do
  a ← o
  name ← take_name a.1
  Some (a.0, name.0, name.1)

abbrev called-from : Option (ℤ × List Text) → Option (ℤ × ℤ × Text × List Text)
called-from o = do
  a ← o
  named ← named_in a.1
  Some (a.0, named.0, named.1, named.2)

abbrev datagram-from : Option (ℤ × List Text) → Option (ℤ × Text)
datagram-from o = do
  a ← o
  text ← last_in a.1
  then_some (is_some (datagram_of text)) (a.0, text)

-- what is made of a shape
abbrev two-made : (ℤ → ℤ → Spelled) → Option (ℤ × ℤ) → Option Spelled
two-made make o = option_map (λ (ns : ℤ × ℤ). make ns.0 ns.1) o

abbrev three-made : (ℤ → ℤ → ℤ → Spelled) → Option (ℤ × ℤ × ℤ) → Option Spelled
three-made make o = option_map (λ (ns : ℤ × ℤ × ℤ). make ns.0 ns.1 ns.2) o

abbrev spawn-made : Option (Text × ℤ × ℤ) → Option Spelled
spawn-made o = option_map (λ (place : Text × ℤ × ℤ). Spawn place.0 place.1 place.2) o

abbrev set-made : Option (ℤ × Text × Text) → Option Spelled
set-made o = option_map (λ (named : ℤ × Text × Text). Set named.0 named.1 named.2) o

abbrev switch-made : Option (ℤ × Text × Text) → Option Spelled
switch-made o = do
  named ← o
  on ← on_of named.2
  Some (Switch named.0 named.1 on)

abbrev multi-made : Option (ℤ × Text × List Text) → Option Spelled
multi-made o = option_map (λ (named : ℤ × Text × List Text). CallAll named.0 named.1 named.2) o

abbrev call-made : Side → Option (ℤ × ℤ × Text × List Text) → Option Spelled
call-made side o =
    option_map (λ (called : ℤ × ℤ × Text × List Text). CallTo side called.0 called.1 called.2 called.3) o

abbrev forge-made : Side → Option (ℤ × Text) → Option Spelled
forge-made side o = option_map (λ (d : ℤ × Text). Forge side d.0 (unwrap_or (octets_of d.1) [])) o

-- what the grammar makes of its fields
abbrev both : Option ℤ → Option ℤ → Option (ℤ × ℤ)
both u v = do
  a ← u
  b ← v
  Some (capped a, capped b)

abbrev name_text : Option ℤ → Option Text → Text → Option (ℤ × Text × Text)
name_text u v text = do
  a ← u
  name ← v
  Some (capped a, name, text)

abbrev name_fields : Option ℤ → Option Text → List Text → Option (ℤ × Text × List Text)
name_fields u v args = do
  a ← u
  name ← v
  Some (capped a, name, args)

abbrev two-read : (ℤ → ℤ → Spelled) → Option ℤ → Option ℤ → Option Spelled
two-read make u v = do
  a ← u
  b ← v
  Some (make a b)

abbrev three-read : (ℤ → ℤ → ℤ → Spelled) → Option ℤ → Option ℤ → Option ℤ → Option Spelled
three-read make u v w = do
  a ← u
  b ← v
  c ← w
  Some (make a b c)

-- ---- numbers

alone : (o : Option ℤ) → one-from (beside [] o) ≡ option_map capped o
alone None = refl
alone (Some z) = refl

not-alone : (f : Text) (fields : List Text) (o : Option ℤ) → one-from (beside (f ∷ fields) o) ≡ None
not-alone f fields None = refl
not-alone f fields (Some z) = refl

one-more : (a b : Text) (fields : List Text) → one_in (a ∷ b ∷ fields) ≡ None
one-more a b fields = not-alone b fields (number_of a)

one-alone : (a : Text) → one_in (a ∷ []) ≡ option_map capped (number_of a)
one-alone a = alone (number_of a)

one_is : (make : ℤ → Spelled) → ((a : ℤ) → capped_line (make a) ≡ make (capped a)) → (fields : List Text)
    → option_map capped_line (one_number make fields) ≡ one_as make fields
one_is make h [] = refl
one_is make h (a ∷ b ∷ fields) = ap (λ o. option_map make o) (sym (one-more a b fields))
one_is make h (a ∷ []) = by_value (number_of a) ∙ ap (λ o. option_map make o) (sym (one-alone a))
  where
    by_value : (o : Option ℤ)
        → option_map capped_line (o >>= (λ a. Some (make a))) ≡ option_map make (option_map capped o)
    by_value None = refl
    by_value (Some z) = ap (λ s. Some s) (h z)

two-short : (a : Text) → two_in (a ∷ []) ≡ None
two-short a = by_value (number_of a)
  where
    by_value : (o : Option ℤ) → two-from (beside [] o) ≡ None
    by_value None = refl
    by_value (Some z) = refl

two-more : (a b c : Text) (fields : List Text) → two_in (a ∷ b ∷ c ∷ fields) ≡ None
two-more a b c fields = by_value (number_of a)
  where
    by_value : (o : Option ℤ) → two-from (beside (b ∷ c ∷ fields) o) ≡ None
    by_value None = refl
    by_value (Some z) = rw (one-more b c fields) refl

two-alone : (a b : Text) → two_in (a ∷ b ∷ []) ≡ both (number_of a) (number_of b)
two-alone a b = by_value (number_of a)
  where
    second : (z : ℤ) (o : Option ℤ) → option_map capped o >>= (λ b. Some (capped z, b)) ≡ both (Some z) o
    second z None = refl
    second z (Some y) = refl

    by_value : (o : Option ℤ) → two-from (beside (b ∷ []) o) ≡ both o (number_of b)
    by_value None = refl
    by_value (Some z) = rw (one-alone b) (second z (number_of b))

two_is : (make : ℤ → ℤ → Spelled) → ((a b : ℤ) → capped_line (make a b) ≡ make (capped a) (capped b))
    → (fields : List Text)
    → option_map capped_line (two_numbers make fields) ≡ two_as make fields
two_is make h [] = refl
two_is make h (a ∷ []) = ap (two-made make) (sym (two-short a))
two_is make h (a ∷ b ∷ c ∷ fields) = ap (two-made make) (sym (two-more a b c fields))
two_is make h (a ∷ b ∷ []) = by_values (number_of a) (number_of b) ∙ ap (two-made make) (sym (two-alone a b))
  where
    by_values : (u v : Option ℤ) → option_map capped_line (two-read make u v) ≡ two-made make (both u v)
    by_values None v = refl
    by_values (Some a) None = refl
    by_values (Some a) (Some b) = ap (λ s. Some s) (h a b)

three_is : (make : ℤ → ℤ → ℤ → Spelled)
    → ((a b c : ℤ) → capped_line (make a b c) ≡ make (capped a) (capped b) (capped c))
    → (fields : List Text) → option_map capped_line (three_numbers make fields) ≡ three_as make fields
three_is make h [] = refl
three_is make h (a ∷ []) = by_value (number_of a)
  where
    by_value : (o : Option ℤ) → None ≡ three-made make (three-from (beside [] o))
    by_value None = refl
    by_value (Some z) = refl
three_is make h (a ∷ b ∷ []) = by_value (number_of a)
  where
    by_value : (o : Option ℤ) → None ≡ three-made make (three-from (beside (b ∷ []) o))
    by_value None = refl
    by_value (Some z) = rw (two-short b) refl
three_is make h (a ∷ b ∷ c ∷ d ∷ fields) = by_value (number_of a)
  where
    by_value : (o : Option ℤ) → None ≡ three-made make (three-from (beside (b ∷ c ∷ d ∷ fields) o))
    by_value None = refl
    by_value (Some z) = rw (two-more b c d fields) refl
three_is make h (a ∷ b ∷ c ∷ []) = by_value (number_of a)
  where
    rest : (z : ℤ) (u v : Option ℤ) → option_map capped_line (two-read (make z) u v)
        ≡ three-made make (both u v >>= (λ (b : ℤ × ℤ). Some (capped z, b.0, b.1)))
    rest z None v = refl
    rest z (Some x) None = refl
    rest z (Some x) (Some y) = ap (λ s. Some s) (h z x y)

    by_value : (o : Option ℤ) → option_map capped_line (three-read make o (number_of b) (number_of c))
        ≡ three-made make (three-from (beside (b ∷ c ∷ []) o))
    by_value None = refl
    by_value (Some z) = rw (two-alone b c) (rest z (number_of b) (number_of c))

-- ---- names

abbrev spawn-read : Option Text → Option ℤ → Option ℤ → Option Spelled
spawn-read o u v = do
  name ← o
  x ← u
  y ← v
  Some (Spawn name x y)

spawn_is : (fields : List Text) → option_map capped_line (spawn_of fields) ≡ spawn_as fields
spawn_is [] = refl
spawn_is (a ∷ []) = by_value (name_of a)
  where
    by_value : (o : Option Text) → None ≡ spawn-made (place-from (beside_name [] o))
    by_value None = refl
    by_value (Some n) = refl
spawn_is (a ∷ b ∷ []) = by_value (name_of a)
  where
    by_value : (o : Option Text) → None ≡ spawn-made (place-from (beside_name (b ∷ []) o))
    by_value None = refl
    by_value (Some n) = rw (two-short b) refl
spawn_is (a ∷ b ∷ c ∷ d ∷ fields) = by_value (name_of a)
  where
    by_value : (o : Option Text) → None ≡ spawn-made (place-from (beside_name (b ∷ c ∷ d ∷ fields) o))
    by_value None = refl
    by_value (Some n) = rw (two-more b c d fields) refl
spawn_is (a ∷ b ∷ c ∷ []) = by_value (name_of a)
  where
    rest : (n : Text) (u v : Option ℤ) → option_map capped_line (two-read (Spawn n) u v)
        ≡ spawn-made (both u v >>= (λ (place : ℤ × ℤ). Some (n, place.0, place.1)))
    rest n None v = refl
    rest n (Some x) None = refl
    rest n (Some x) (Some y) = refl

    by_value : (o : Option Text) → option_map capped_line (spawn-read o (number_of b) (number_of c))
        ≡ spawn-made (place-from (beside_name (b ∷ c ∷ []) o))
    by_value None = refl
    by_value (Some n) = rw (two-alone b c) (rest n (number_of b) (number_of c))

text-short : (a : Text) → text_in (a ∷ []) ≡ None
text-short a = by_value (number_of a)
  where
    by_value : (o : Option ℤ) → text-from (beside [] o) ≡ None
    by_value None = refl
    by_value (Some z) = refl

text-half : (a b : Text) → text_in (a ∷ b ∷ []) ≡ None
text-half a b = by_value (number_of a)
  where
    named : (z : ℤ) (o : Option Text) → last-from z (beside_name [] o) ≡ None
    named z None = refl
    named z (Some n) = refl

    by_value : (o : Option ℤ) → text-from (beside (b ∷ []) o) ≡ None
    by_value None = refl
    by_value (Some z) = named (capped z) (name_of b)

text-more : (a b c d : Text) (fields : List Text) → text_in (a ∷ b ∷ c ∷ d ∷ fields) ≡ None
text-more a b c d fields = by_value (number_of a)
  where
    named : (z : ℤ) (o : Option Text) → last-from z (beside_name (c ∷ d ∷ fields) o) ≡ None
    named z None = refl
    named z (Some n) = refl

    by_value : (o : Option ℤ) → text-from (beside (b ∷ c ∷ d ∷ fields) o) ≡ None
    by_value None = refl
    by_value (Some z) = named (capped z) (name_of b)

text-alone : (a b c : Text) → text_in (a ∷ b ∷ c ∷ []) ≡ name_text (number_of a) (name_of b) c
text-alone a b c = by_value (number_of a)
  where
    named : (z : ℤ) (o : Option Text) → last-from (capped z) (beside_name (c ∷ []) o) ≡ name_text (Some z) o c
    named z None = refl
    named z (Some n) = refl

    by_value : (o : Option ℤ) → text-from (beside (b ∷ c ∷ []) o) ≡ name_text o (name_of b) c
    by_value None = refl
    by_value (Some z) = named z (name_of b)

abbrev set-read : Option ℤ → Option Text → Text → Option Spelled
set-read u v text = do
  a ← u
  name ← v
  Some (Set a name text)

set_is : (fields : List Text) → option_map capped_line (set_of fields) ≡ set_as fields
set_is [] = refl
set_is (a ∷ []) = ap set-made (sym (text-short a))
set_is (a ∷ b ∷ []) = ap set-made (sym (text-half a b))
set_is (a ∷ b ∷ c ∷ d ∷ fields) = ap set-made (sym (text-more a b c d fields))
set_is (a ∷ b ∷ c ∷ []) = by_values (number_of a) (name_of b) ∙ ap set-made (sym (text-alone a b c))
  where
    by_values : (u : Option ℤ) (v : Option Text) → option_map capped_line (set-read u v c) ≡ set-made (name_text u v c)
    by_values None v = refl
    by_values (Some z) None = refl
    by_values (Some z) (Some n) = refl

abbrev switch-read : Option ℤ → Option Text → Option Bool → Option Spelled
switch-read u v w = do
  a ← u
  name ← v
  on ← w
  Some (Switch a name on)

switch_is : (fields : List Text) → option_map capped_line (switch_of fields) ≡ switch_as fields
switch_is [] = refl
switch_is (a ∷ []) = ap switch-made (sym (text-short a))
switch_is (a ∷ b ∷ []) = ap switch-made (sym (text-half a b))
switch_is (a ∷ b ∷ c ∷ d ∷ fields) = ap switch-made (sym (text-more a b c d fields))
switch_is (a ∷ b ∷ c ∷ []) = by_values (number_of a) (name_of b) ∙ ap switch-made (sym (text-alone a b c))
  where
    last : (z : ℤ) (n : Text) (o : Option Bool) → option_map capped_line (switch-read (Some z) (Some n) o)
        ≡ switch-read (Some (capped z)) (Some n) o
    last z n None = refl
    last z n (Some on) = refl

    by_values : (u : Option ℤ) (v : Option Text)
        → option_map capped_line (switch-read u v (on_of c)) ≡ switch-made (name_text u v c)
    by_values None v = refl
    by_values (Some z) None = refl
    by_values (Some z) (Some n) = last z n (on_of c)

-- ---- calls

named-short : (a : Text) → named_in (a ∷ []) ≡ None
named-short a = by_value (number_of a)
  where
    by_value : (o : Option ℤ) → named-from (beside [] o) ≡ None
    by_value None = refl
    by_value (Some z) = refl

named-alone : (a b : Text) (args : List Text) → named_in (a ∷ b ∷ args) ≡ name_fields (number_of a) (name_of b) args
named-alone a b args = by_value (number_of a)
  where
    named : (z : ℤ) (o : Option Text) → name-from (capped z) (beside_name args o) ≡ name_fields (Some z) o args
    named z None = refl
    named z (Some n) = refl

    by_value : (o : Option ℤ) → named-from (beside (b ∷ args) o) ≡ name_fields o (name_of b) args
    by_value None = refl
    by_value (Some z) = named z (name_of b)

abbrev multi-read : Option ℤ → Option Text → List Text → Option Spelled
multi-read u v args = do
  a ← u
  name ← v
  Some (CallAll a name args)

multi_is : (fields : List Text) → option_map capped_line (multi_of fields) ≡ multi_as fields
multi_is [] = refl
multi_is (a ∷ []) = ap multi-made (sym (named-short a))
multi_is (a ∷ b ∷ args) = by_values (number_of a) (name_of b) ∙ ap multi-made (sym (named-alone a b args))
  where
    by_values : (u : Option ℤ) (v : Option Text)
        → option_map capped_line (multi-read u v args) ≡ multi-made (name_fields u v args)
    by_values None v = refl
    by_values (Some z) None = refl
    by_values (Some z) (Some n) = refl

abbrev call-read : Side → Option ℤ → Option ℤ → Option Text → List Text → Option Spelled
call-read side o u v args = do
  player ← o
  a ← u
  name ← v
  Some (CallTo side player a name args)

abbrev called-with : ℤ → Option (ℤ × Text × List Text) → Option (ℤ × ℤ × Text × List Text)
called-with a o = do
  named ← o
  Some (a, named.0, named.1, named.2)

call_is : (side : Side) (fields : List Text) → option_map capped_line (call_of side fields) ≡ call_as side fields
call_is side [] = refl
call_is side (a ∷ []) = by_value (number_of a)
  where
    by_value : (o : Option ℤ) → None ≡ call-made side (called-from (beside [] o))
    by_value None = refl
    by_value (Some z) = refl
call_is side (a ∷ b ∷ []) = by_value (number_of a)
  where
    by_value : (o : Option ℤ) → None ≡ call-made side (called-from (beside (b ∷ []) o))
    by_value None = refl
    by_value (Some z) = rw (named-short b) refl
call_is side (a ∷ b ∷ c ∷ args) = by_value (number_of a)
  where
    rest : (z : ℤ) (u : Option ℤ) (v : Option Text) → option_map capped_line (call-read side (Some z) u v args)
        ≡ call-made side (called-with (capped z) (name_fields u v args))
    rest z None v = refl
    rest z (Some y) None = refl
    rest z (Some y) (Some n) = refl

    by_value : (o : Option ℤ) → option_map capped_line (call-read side o (number_of b) (name_of c) args)
        ≡ call-made side (called-from (beside (b ∷ c ∷ args) o))
    by_value None = refl
    by_value (Some z) = rw (named-alone b c args) (rest z (number_of b) (name_of c))

-- ---- datagrams

-- the bytes where they are few enough
abbrev few : Option (List ℕ) → Option (List ℕ)
few o = do
  bytes ← o
  then_some (nat_le (length bytes) 2048) bytes

abbrev forge-read : Side → Option ℤ → Option (List ℕ) → Option Spelled
forge-read side u v = do
  a ← u
  bytes ← v
  Some (Forge side a bytes)

-- the bytes of some text, where the test passes
abbrev told-if : Side → ℤ → List ℕ → Bool → Option Spelled
told-if side z bytes t = then_some t (Forge side z bytes)

few-forged : (side : Side) (z : ℤ) (o : Option (List ℕ)) → option_map capped_line (forge-read side (Some z) (few o))
    ≡ told-if side (capped z) (unwrap_or o []) (is_some (few o))
few-forged side z None = refl
few-forged side z (Some bytes) = by_test (nat_le (length bytes) 2048)
  where
    by_test : (t : Bool)
        → option_map capped_line (forge-read side (Some z) (then_some t bytes))
        ≡ told-if side (capped z) bytes (is_some (then_some t bytes))
    by_test true = refl
    by_test false = refl

told-made : (side : Side) (z : ℤ) (text : Text) (t : Bool)
    → told-if side z (unwrap_or (octets_of text) []) t ≡ forge-made side (then_some t (z, text))
told-made side z text true = refl
told-made side z text false = refl

forge_is : (side : Side) (fields : List Text) → option_map capped_line (forge_of side fields) ≡ forge_as side fields
forge_is side [] = refl
forge_is side (a ∷ []) = by_value (number_of a)
  where
    by_value : (o : Option ℤ) → None ≡ forge-made side (datagram-from (beside [] o))
    by_value None = refl
    by_value (Some z) = refl
forge_is side (a ∷ b ∷ c ∷ fields) = by_value (number_of a)
  where
    by_value : (o : Option ℤ) → None ≡ forge-made side (datagram-from (beside (b ∷ c ∷ fields) o))
    by_value None = refl
    by_value (Some z) = refl
forge_is side (a ∷ b ∷ []) = by_value (number_of a)
  where
    by_value : (o : Option ℤ)
        → option_map capped_line (forge-read side o (datagram_of b))
        ≡ forge-made side (datagram-from (beside (b ∷ []) o))
    by_value None = refl
    by_value (Some z) = few-forged side z (octets_of b) ∙ told-made side (capped z) b (is_some (datagram_of b))

-- ---- words

no_fields-is : (fields : List Text) → option_map capped_line (no_fields Tick fields) ≡ then_some (is_nil fields) Tick
no_fields-is [] = refl
no_fields-is (f ∷ fields) = refl

-- the fields as the grammar has them for the word
abbrev read_as : Word → List Text → Option Spelled
read_as word.Join fields = two_numbers (Join One) fields
read_as word.Join2 fields = two_numbers (Join Two) fields
read_as word.Spawn fields = spawn_of fields
read_as word.Destroy fields = one_number Destroy fields
read_as word.Set fields = set_of fields
read_as word.Own fields = two_numbers Own fields
read_as word.View fields = three_numbers View fields
read_as word.Add fields = two_numbers (Add true) fields
read_as word.Unadd fields = two_numbers (Add false) fields
read_as word.Dormant fields = one_number Dormant fields
read_as word.Wake fields = one_number Wake fields
read_as word.Flush fields = one_number Flush fields
read_as word.Switch fields = switch_of fields
read_as word.Team fields = two_numbers Team fields
read_as word.Give fields = two_numbers Give fields
read_as word.Tick fields = no_fields Tick fields
read_as word.ClientTick fields = one_number ClientTick fields
read_as word.Down fields = two_numbers (Deliver AtClient) fields
read_as word.Up fields = two_numbers (Deliver AtServer) fields
read_as word.DownNew fields = two_numbers (DeliverNew AtClient) fields
read_as word.UpNew fields = two_numbers (DeliverNew AtServer) fields
read_as word.Call fields = call_of AtServer fields
read_as word.ClientCall fields = call_of AtClient fields
read_as word.Multi fields = multi_of fields
read_as word.Dump fields = one_number Dump fields
read_as word.Settled fields = two_numbers AskSettled fields
read_as word.Forge fields = forge_of AtServer fields
read_as word.ClientForge fields = forge_of AtClient fields

read_as-is : (w : Word) (fields : List Text) → option_map capped_line (read_as w fields) ≡ spelled_as w fields
read_as-is word.Join fields = two_is (Join One) (λ a b. refl) fields
read_as-is word.Join2 fields = two_is (Join Two) (λ a b. refl) fields
read_as-is word.Spawn fields = spawn_is fields
read_as-is word.Destroy fields = one_is Destroy (λ a. refl) fields
read_as-is word.Set fields = set_is fields
read_as-is word.Own fields = two_is Own (λ a b. refl) fields
read_as-is word.View fields = three_is View (λ a b c. refl) fields
read_as-is word.Add fields = two_is (Add true) (λ a b. refl) fields
read_as-is word.Unadd fields = two_is (Add false) (λ a b. refl) fields
read_as-is word.Dormant fields = one_is Dormant (λ a. refl) fields
read_as-is word.Wake fields = one_is Wake (λ a. refl) fields
read_as-is word.Flush fields = one_is Flush (λ a. refl) fields
read_as-is word.Switch fields = switch_is fields
read_as-is word.Team fields = two_is Team (λ a b. refl) fields
read_as-is word.Give fields = two_is Give (λ a b. refl) fields
read_as-is word.Tick fields = no_fields-is fields
read_as-is word.ClientTick fields = one_is ClientTick (λ a. refl) fields
read_as-is word.Down fields = two_is (Deliver AtClient) (λ a b. refl) fields
read_as-is word.Up fields = two_is (Deliver AtServer) (λ a b. refl) fields
read_as-is word.DownNew fields = two_is (DeliverNew AtClient) (λ a b. refl) fields
read_as-is word.UpNew fields = two_is (DeliverNew AtServer) (λ a b. refl) fields
read_as-is word.Call fields = call_is AtServer fields
read_as-is word.ClientCall fields = call_is AtClient fields
read_as-is word.Multi fields = multi_is fields
read_as-is word.Dump fields = one_is Dump (λ a. refl) fields
read_as-is word.Settled fields = two_is AskSettled (λ a b. refl) fields
read_as-is word.Forge fields = forge_is AtServer fields
read_as-is word.ClientForge fields = forge_is AtClient fields

-- the words of joins and edits, and the others
abbrev world_words : List (Text × Word)
world_words =
    (codes "join", word.Join) ∷ (codes "join2", word.Join2) ∷ (codes "spawn", word.Spawn) ∷
    (codes "destroy", word.Destroy) ∷ (codes "set", word.Set) ∷ (codes "own", word.Own) ∷
    (codes "view", word.View) ∷ (codes "add", word.Add) ∷ (codes "unadd", word.Unadd) ∷
    (codes "dormant", word.Dormant) ∷ (codes "wake", word.Wake) ∷ (codes "flush", word.Flush) ∷
    (codes "switch", word.Switch) ∷ (codes "team", word.Team) ∷ (codes "give", word.Give) ∷ []

abbrev play_words : List (Text × Word)
play_words =
    (codes "tick", word.Tick) ∷ (codes "ctick", word.ClientTick) ∷ (codes "down", word.Down) ∷
    (codes "up", word.Up) ∷ (codes "downnew", word.DownNew) ∷ (codes "upnew", word.UpNew) ∷
    (codes "call", word.Call) ∷ (codes "ccall", word.ClientCall) ∷ (codes "multi", word.Multi) ∷
    (codes "dump", word.Dump) ∷ (codes "settled", word.Settled) ∷ (codes "forge", word.Forge) ∷
    (codes "cforge", word.ClientForge) ∷ []

-- the first of these words that the text is
abbrev find_word : List (Text × Word) → Text → Option Word
find_word [] text = None
find_word (w ∷ ws) text = if bytes_eq w.0 text then Some w.1 else find_word ws text

find-both : (vs ws : List (Text × Word)) (text : Text)
    → find_word (vs ++ ws) text ≡ or_else (find_word vs text) (find_word ws text)
find-both [] ws text = refl
find-both (v ∷ vs) ws text = by_test (bytes_eq v.0 text) (find-both vs ws text)
  where
    by_test : (t : Bool) → find_word (vs ++ ws) text ≡ or_else (find_word vs text) (find_word ws text)
        → cond t (Some v.1) (find_word (vs ++ ws) text)
        ≡ or_else (cond t (Some v.1) (find_word vs text)) (find_word ws text)
    by_test true h = refl
    by_test false h = h

-- the word with the reading of its fields
abbrev reading : Text × Word → Text × (List Text → Option Spelled)
reading w = (w.0, (λ fields. read_as w.1 fields))

read-found : (ws : List (Text × Word)) (text : Text) (fields : List Text)
    → read_by (map reading ws) text fields ≡ find_word ws text >>= (λ w. read_as w fields)
read-found [] text fields = refl
read-found (w ∷ ws) text fields = by_test (bytes_eq w.0 text) (read-found ws text fields)
  where
    by_test : (t : Bool) → read_by (map reading ws) text fields ≡ find_word ws text >>= (λ w. read_as w fields)
        → elim t [ true ↦ read_as w.1 fields | false ↦ read_by (map reading ws) text fields ]
        ≡ cond t (Some w.1) (find_word ws text) >>= (λ w. read_as w fields)
    by_test true h = refl
    by_test false h = h

words-are : words ≡ map reading (world_words ++ play_words)
words-are = refl

found-is : (text : Text) → find_word (world_words ++ play_words) text ≡ word_of text
found-is text = find-both world_words play_words text

mapped : (o : Option Word) (fields : List Text)
    → option_map capped_line (o >>= (λ w. read_as w fields)) ≡ o >>= (λ w. spelled_as w fields)
mapped None fields = refl
mapped (Some w) fields = read_as-is w fields

-- the line of a word and its fields
pub spelled_is : (text : Text) (fields : List Text)
    → option_map capped_line (read_by words text fields) ≡ word_of text >>= (λ w. spelled_as w fields)
spelled_is text fields =
    ap (λ o. option_map capped_line o) (ap (λ ws. read_by ws text fields) words-are
    ∙ read-found (world_words ++ play_words) text fields
    ∙ ap (λ (o : Option Word). o >>= (λ w. read_as w fields)) (found-is text))
    ∙ mapped (word_of text) fields

-- the line of a text, by its first piece
pub spelled_text : (line text : Text) (fields : List Text) → pieces 32 line ≡ text ∷ fields
    → option_map capped_line (spelled_of line) ≡ word_of text >>= (λ w. spelled_as w fields)
spelled_text line text fields h = rw h (spelled_is text fields)
