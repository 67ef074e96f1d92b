-- Arguments that are taken one after another are those of the fields.
use Rattle.std.proofs.Common.{◌≡◌, ℕ, zero, suc, ◌+◌, ◌≤◌, ◌<◌, List, [], ◌∷◌, ◌++◌, map, length, drop, get_or, refl, sym, ◌∙◌, ap, arith, Option, Some, None, option_map, option_and_then, append_assoc, append-nil, Bor}
use Rattle.std.proofs.lemmas.List.{map-append}
use Rattle.protocol_model.specs.declared.Kind.{Kind}
use Rattle.protocol_model.specs.Value.{Arg}
use Rattle.value_codec.specs.Values as codec
use Rattle.value_codec.specs.declared.args.Arg as codec_arg
use Rattle.script_model.specs.Lines.{Text}
use Rattle.script_model.specs.ScriptRules.{arg_of, args_of}
use Rattle.script_spelling.specs.Fields.{pieces_after}
use Rattle.script_reading.specs.Taken.{take_arg}

-- arguments before the others, if these are there
abbrev pub joined : List Arg → Option (List Arg) → Option (List Arg)
joined done None = None
joined done (Some more) = Some (done ++ more)

pub joined_none : (o : Option (List Arg)) → joined [] o ≡ o
joined_none None = refl
joined_none (Some args) = refl

-- the arguments after the first, if it is there
abbrev first_and : List Kind → Option (Arg × List Text) → Option (List Arg)
first_and kinds None = None
first_and kinds (Some a) = joined (a.0 ∷ []) (args_of kinds a.1)

first_is : (kind : Kind) (kinds : List Kind) (texts : List Text)
    → args_of (kind ∷ kinds) texts ≡ first_and kinds (take_arg kind texts)
first_is kind kinds [] = refl
first_is kind kinds (text ∷ texts) = by_first (arg_of kind text) (args_of kinds texts) refl
  where
    by_first : (o : Option Arg) (p : Option (List Arg)) → args_of kinds texts ≡ p
        → option_and_then (λ a. option_and_then (λ args. Some (a ∷ args)) p) o
        ≡ first_and kinds (option_map (λ a. (a, texts)) o)
    by_first None p h = refl
    by_first (Some a) None h = rw h refl
    by_first (Some a) (Some args) h = rw h refl

joined_on : (done : List Arg) (a : Arg) (o : Option (List Arg))
    → joined done (joined (a ∷ []) o) ≡ joined (done ++ a ∷ []) o
joined_on done a None = refl
joined_on done a (Some more) = ap (λ args. Some args) (sym (append_assoc done (a ∷ []) more))

turn : (kinds : List Kind) (i : ℕ) (kind d : Kind) → i < length kinds → kind ≡ get_or kinds i d
    → drop i kinds ≡ kind ∷ drop (i + 1) kinds
turn [] i kind d h is = absurd (omega (arith, h))
turn (k ∷ kinds) zero kind d h is = ap (λ k. k ∷ kinds) (sym is)
turn (k ∷ kinds) (suc i) kind d h is =
    let e : suc i + 1 ≡ suc (i + 1) = omega arith in rw e (turn kinds i kind d (omega (arith, h)) is)

-- one more argument
pub taken_step : (kinds : List Kind) (i : ℕ) (kind d : Kind) (done after : List Arg) (texts later : List Text) (a : Arg)
    (whole : Option (List Arg)) → i < length kinds → kind ≡ get_or kinds i d → Some (a, later) ≡ take_arg kind texts
    → after ≡ done ++ a ∷ [] → joined done (args_of (drop i kinds) texts) ≡ whole
    → joined after (args_of (drop (i + 1) kinds) later) ≡ whole
taken_step kinds i kind d done after texts later a whole h is taken behind before =
    ap (λ l. joined l (args_of (drop (i + 1) kinds) later)) behind
    ∙ sym (joined_on done a (args_of (drop (i + 1) kinds) later))
    ∙ ap (λ o. joined done (first_and (drop (i + 1) kinds) o)) taken
    ∙ ap (joined done) (sym (first_is kind (drop (i + 1) kinds) texts))
    ∙ ap (λ ks. joined done (args_of ks texts)) (sym (turn kinds i kind d h is)) ∙ before

-- or none
pub taken_stop : (kinds : List Kind) (i : ℕ) (kind d : Kind) (done : List Arg) (texts : List Text)
    (whole : Option (List Arg)) → i < length kinds → kind ≡ get_or kinds i d → None ≡ take_arg kind texts
    → joined done (args_of (drop i kinds) texts) ≡ whole → None ≡ whole
taken_stop kinds i kind d done texts whole h is taken before =
    ap (λ o. joined done (first_and (drop (i + 1) kinds) o)) taken
    ∙ ap (joined done) (sym (first_is kind (drop (i + 1) kinds) texts))
    ∙ ap (λ ks. joined done (args_of ks texts)) (sym (turn kinds i kind d h is)) ∙ before

past : {A : Type 0} (xs : List A) (i : ℕ) → length xs ≤ i → drop i xs ≡ []
past [] zero h = refl
past [] (suc i) h = refl
past (x ∷ xs) zero h = absurd (omega arith)
past (x ∷ xs) (suc i) h = past xs i (omega arith)

-- each kind has one
pub taken_all : (kinds : List Kind) (i : ℕ) (done : List Arg) (texts : List Text) (whole : Option (List Arg))
    → length kinds ≤ i → joined done (args_of (drop i kinds) texts) ≡ whole → Some done ≡ whole
taken_all kinds i done texts whole h before =
    ap (λ args. Some args) (sym (append-nil done))
    ∙ ap (λ ks. joined done (args_of ks texts)) (sym (past kinds i h)) ∙ before

-- what was taken in memory
abbrev pub seen_taken : codec_arg.Arg × Option (Bor (List ℕ)) → Arg × List Text
seen_taken a = (codec.arg_of a.0, pieces_after 32 a.1)

pub none_seen : (o : Option (codec_arg.Arg × Option (Bor (List ℕ)))) (t : Option (Arg × List Text)) → o ≡ None
    → option_map seen_taken o ≡ t → None ≡ t
none_seen o t is h = sym (ap (option_map seen_taken) is) ∙ h

pub some_seen : (o : Option (codec_arg.Arg × Option (Bor (List ℕ)))) (t : Option (Arg × List Text))
    (a : codec_arg.Arg × Option (Bor (List ℕ))) → o ≡ Some a → option_map seen_taken o ≡ t → Some (seen_taken a) ≡ t
some_seen o t a is h = sym (ap (option_map seen_taken) is) ∙ h

pub one_more_arg : (after args : List codec_arg.Arg) (a : codec_arg.Arg) → after ≡ args ++ a ∷ []
    → map codec.arg_of after ≡ map codec.arg_of args ++ codec.arg_of a ∷ []
one_more_arg after args a h = ap (map codec.arg_of) h ∙ map-append codec.arg_of args (a ∷ [])
