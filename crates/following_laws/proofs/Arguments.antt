-- A call that a line names is one of its actor's class, and the arguments that were read fit.
use Rattle.std.proofs.Common.{◌≡◌, ℕ, suc, ◌+◌, ◌-◌, ◌*◌, ◌<◌, List, [], ◌∷◌, length, get_or, Bool, true, false, ◌&&◌, ◌==◌, cond, nat_lt, nat_le, ℤ, refl, sym, ap, ◌∙◌, subst, arith, Option, Some, None, is_some, is_none, unwrap_or, option_map, option_and_then, position, codes}
use Rattle.std.specs.Bool.{then_some}
use Rattle.std.specs.List.{list_all}
use Rattle.std.specs.Str.{bytes_eq}
use Rattle.std.proofs.lemmas.Bool.Decides.{nat_tests}
use Rattle.std.proofs.lemmas.List.Quantifiers.{position-Some}
use Rattle.std.proofs.lemmas.Option.{slice_get-get_or}
use Rattle.protocol_model.specs.declared.Kind.{Kind}
use Rattle.protocol_model.specs.declared.Kind.TheVariants.{Bytes}
use Rattle.protocol_model.specs.declared.Way.{Way}
use Rattle.protocol_model.specs.declared.Way.TheVariants.{Multicast}
use Rattle.protocol_model.specs.Value.{Table, Class, Call, Arg, Scalar, Octets, fits, goes_up, arg_fits, args_fit, call_at}
use Rattle.protocol_model.specs.World.{Edits, spawn_of, class_of, lives}
use Rattle.script_model.specs.Lines.{Text}
use Rattle.script_model.specs.Script.{number_of, hex_value, byte_of, cons_if, hex_bytes, octets_of, ◌>>=◌}
use Rattle.script_model.specs.ScriptRules.{if_there, call_named, scalar_of, octets_arg, arg_of, args_of}
use Rattle.protocol_laws.proofs.Booleans.{left_of, both}
use Rattle.following_laws.specs.Following.{MayCall}

-- ---- what is found

-- what is found by two steps is found by each
bound : {A B : Type 0} (o : Option A) (f : A → Option B) (b : B) → option_and_then f o ≡ Some b
    → (a : A) × (o ≡ Some a) × (f a ≡ Some b)
bound None f b h = absurd (cc)
bound (Some a) f b h = (a, refl, h)

-- what is kept passed
kept : {A : Type 0} (t : Bool) (a b : A) → then_some t a ≡ Some b → (t ≡ true) × (a ≡ b)
kept true a b h = (refl, cc)
kept false a b h = absurd (cc)

-- ---- bytes

-- each is below 256
abbrev are_bytes : List ℕ → Bool
are_bytes bytes = list_all (λ b. nat_lt b 256) bytes

-- a hex digit is below 16
digit_below : (c v : ℕ) → hex_value c ≡ Some v → v < 16
digit_below c v h =
    by (nat_le 48 c && nat_le c 57) (nat_le 97 c && nat_le c 102) (nat_le 65 c && nat_le c 70) refl refl refl h
  where
    by : (t u w : Bool) → (nat_le 48 c && nat_le c 57) ≡ t → (nat_le 97 c && nat_le c 102) ≡ u
        → (nat_le 65 c && nat_le c 70) ≡ w
        → cond t (Some (c - 48)) (cond u (Some (c - 87)) (cond w (Some (c - 55)) None)) ≡ Some v → v < 16
    by true u w e f g h = let same : c - 48 ≡ v = cc in grind (arith, nat_tests)
    by false true w e f g h = let same : c - 87 ≡ v = cc in grind (arith, nat_tests)
    by false false true e f g h = let same : c - 55 ≡ v = cc in grind (arith, nat_tests)
    by false false false e f g h = absurd (cc)

-- two of them make a byte
byte_below : (high low : ℕ) → high < 16 → low < 16 → nat_lt (16 * high + low) 256 ≡ true
byte_below high low h l = grind (arith, nat_tests)

-- hex digits spell bytes
bytes_below : (text : Text) (bytes : List ℕ) → hex_bytes text ≡ Some bytes → are_bytes bytes ≡ true
bytes_below [] bytes h = let same : [] ≡ bytes = cc in subst (λ (bs : List ℕ). are_bytes bs ≡ true) same refl
bytes_below (c ∷ []) bytes h = absurd (cc)
bytes_below (c ∷ d ∷ cs) bytes h =
    by (hex_value c) (hex_value d) (hex_bytes cs) refl refl (λ rest e. bytes_below cs rest e) h
  where
    by : (u v : Option ℕ) (o : Option (List ℕ)) → hex_value c ≡ u → hex_value d ≡ v
        → ((rest : List ℕ) → o ≡ Some rest → are_bytes rest ≡ true)
        → cons_if (byte_of u v) o ≡ Some bytes → are_bytes bytes ≡ true
    by None v o e f k h = absurd (cc)
    by (Some high) None o e f k h = absurd (cc)
    by (Some high) (Some low) None e f k h = absurd (cc)
    by (Some high) (Some low) (Some rest) e f k h =
        let same : (16 * high + low) ∷ rest ≡ bytes = cc in
        subst (λ (bs : List ℕ). are_bytes bs ≡ true) same
        (both (nat_lt (16 * high + low) 256) _ (byte_below high low (digit_below c high e) (digit_below d low f))
        (k rest refl))

-- so does `-`, which spells none
octets_below : (text : Text) (bytes : List ℕ) → octets_of text ≡ Some bytes → are_bytes bytes ≡ true
octets_below [] bytes h = absurd (cc)
octets_below (c ∷ cs) bytes h = by (bytes_eq (c ∷ cs) (codes "-")) h
  where
    by : (t : Bool) → cond t (Some []) (hex_bytes (c ∷ cs)) ≡ Some bytes → are_bytes bytes ≡ true
    by true h = let same : [] ≡ bytes = cc in subst (λ (bs : List ℕ). are_bytes bs ≡ true) same refl
    by false h = bytes_below (c ∷ cs) bytes h

-- ---- arguments

-- a number that is read is of its kind
scalar_is : (kind : Kind) (text : Text) (a : Arg) → ((v : ℤ) → arg_fits kind (Scalar v) ≡ fits kind v)
    → scalar_of kind text ≡ Some a → arg_fits kind a ≡ true
scalar_is kind text a same h =
    let v = bound (number_of text) _ a h in
    let stays = kept (fits kind v.0) (Scalar v.0) a v.2 in
    subst (λ (b : Arg). arg_fits kind b ≡ true) stays.1 (same v.0 ∙ stays.0)

-- bytes that are read are bytes, and not too many
octets_are : (most : ℕ) (text : Text) (a : Arg) → octets_arg most text ≡ Some a → arg_fits (Bytes most) a ≡ true
octets_are most text a h =
    let bytes = bound (octets_of text) _ a h in
    let stays = kept (nat_le (length bytes.0) most) (Octets bytes.0) a bytes.2 in
    subst (λ (b : Arg). arg_fits (Bytes most) b ≡ true) stays.1
    (both (nat_le (length bytes.0) most) _ stays.0 (octets_below text bytes.0 bytes.1))

-- an argument that is read fits
arg_is : (kind : Kind) (text : Text) (a : Arg) → arg_of kind text ≡ Some a → arg_fits kind a ≡ true
arg_is (Bytes most) text a h = octets_are most text a h
arg_is kind text a h = scalar_is kind text a (λ v. refl) h

-- so do all
args_are : (kinds : List Kind) (texts : List Text) (args : List Arg) → args_of kinds texts ≡ Some args
    → args_fit kinds args ≡ true
args_are [] texts args h = let same : [] ≡ args = cc in subst (λ (all : List Arg). args_fit [] all ≡ true) same refl
args_are (kind ∷ kinds) [] args h = absurd (cc)
args_are (kind ∷ kinds) (text ∷ texts) args h =
    let a = bound (arg_of kind text) _ args h in
    let rest = bound (args_of kinds texts) _ args a.2 in
    let same : a.0 ∷ rest.0 ≡ args = cc in
    subst (λ (all : List Arg). args_fit (kind ∷ kinds) all ≡ true) same
    (both (arg_fits kind a.0) _ (arg_is kind text a.0 a.1) (args_are kinds texts rest.0 rest.1))

-- ---- calls

-- the number of the call that is named
abbrev number_of_call : Class → Text → List Text → Option ℕ
number_of_call class name texts = call_named class name (length texts)

-- the call that is named
abbrev call_of : Class → Text → List Text → Option Call
call_of class name texts = number_of_call class name texts >>= call_at class

-- its arguments
abbrev args_for : List Text → Option Call → List Arg
args_for texts o = unwrap_or (o >>= (λ (call : Call). args_of call.args texts)) []

-- the class has a call of this number that goes this way, with arguments that fit
record HasCall (class : Class) (goes : Way → Bool) (number : ℕ) (args : List Arg) : Type 0 where
  call : Call
  there : call_at class number ≡ Some call
  way : goes call.way ≡ true
  fit : args_fit call.args args ≡ true

-- what stands in the place of a call that the class hasn't
no_call : Call
no_call = record { name = []; way = Multicast; reliable = false; args = [] }

-- a call that is named is there
named_call : (class : Class) (name : Text) (texts : List Text) (n : ℕ) → number_of_call class name texts ≡ Some n
    → (call : Call) × (call_at class n ≡ Some call)
named_call class name texts n h = by (position named class.calls) refl h
  where
    named : Call → Bool
    named call = bytes_eq call.name name && length call.args == length texts

    by : (o : Option ℕ) → position named class.calls ≡ o → option_map (λ m. m + 1) o ≡ Some n
        → (call : Call) × (call_at class n ≡ Some call)
    by None e h = absurd (cc)
    by (Some m) e h =
        let same : m + 1 ≡ n = cc in
        let is : suc m ≡ n = omega (arith, same) in
        let inside = (position-Some named class.calls m no_call e).0 in
        let call = get_or class.calls m no_call in
        (call, subst (λ k. call_at class k ≡ Some call) is (slice_get-get_or class.calls m no_call inside))

-- a call that passed its tests is there
has_call : (class : Class) (name : Text) (texts : List Text) (goes : Way → Bool)
    → is_none (number_of_call class name texts) ≡ false
    → if_there (λ (call : Call). goes call.way) (call_of class name texts) ≡ true
    → if_there (λ (call : Call). is_some (args_of call.args texts)) (call_of class name texts) ≡ true
    → HasCall class goes (unwrap_or (number_of_call class name texts) 0) (args_for texts (call_of class name texts))
has_call class name texts goes named way value =
    by_number (number_of_call class name texts) refl named way value
  where
    by_args : (n : ℕ) (call : Call) → call_at class n ≡ Some call → goes call.way ≡ true
        → (o : Option (List Arg)) → args_of call.args texts ≡ o → is_some o ≡ true
        → HasCall class goes n (unwrap_or o [])
    by_args n call there way None e h = absurd (cc)
    by_args n call there way (Some args) e h =
        record { call = call; there = there; way = way; fit = args_are call.args texts args e }

    by_call : (n : ℕ) (o : Option Call) → call_at class n ≡ o → number_of_call class name texts ≡ Some n
        → if_there (λ (call : Call). goes call.way) o ≡ true
        → if_there (λ (call : Call). is_some (args_of call.args texts)) o ≡ true
        → HasCall class goes n (args_for texts o)
    by_call n None e is way value =
        let there = named_call class name texts n is in
        let clash : None ≡ Some there.0 = sym e ∙ there.1 in absurd (cc)
    by_call n (Some call) e is way value = by_args n call e way (args_of call.args texts) refl value

    by_number : (o : Option ℕ) → number_of_call class name texts ≡ o → is_none o ≡ false
        → if_there (λ (call : Call). goes call.way) (o >>= call_at class) ≡ true
        → if_there (λ (call : Call). is_some (args_of call.args texts)) (o >>= call_at class) ≡ true
        → HasCall class goes (unwrap_or o 0) (args_for texts (o >>= call_at class))
    by_number None e named way value = absurd (cc)
    by_number (Some n) e named way value = by_call n (call_at class n) refl e way value

-- a call of an actor that lives, where it goes to clients, may be made
pub may_call : (table : Table) (edits : Edits) (actor : ℕ) (name : Text) (texts : List Text) (goes : Way → Bool)
    → ((way : Way) → goes way ≡ true → goes_up way ≡ false) → lives edits actor ≡ true
    → is_none (number_of_call (class_of table edits actor) name texts) ≡ false
    → if_there (λ (call : Call). goes call.way) (call_of (class_of table edits actor) name texts) ≡ true
    → if_there (λ (call : Call). is_some (args_of call.args texts)) (call_of (class_of table edits actor) name texts)
    ≡ true
    → MayCall table edits actor (unwrap_or (number_of_call (class_of table edits actor) name texts) 0)
    (args_for texts (call_of (class_of table edits actor) name texts))
may_call table edits actor name texts goes down alive named way value =
    let has = has_call (class_of table edits actor) name texts goes named way value in
    record {
      spawned = λ none. (
          let clash : true ≡ false = sym (left_of (is_some (spawn_of edits actor)) _ alive) ∙ ap is_some none in
          absurd (cc));
      call = has.call;
      there = has.there;
      way = down has.call.way has.way;
      fit = has.fit;
    }
