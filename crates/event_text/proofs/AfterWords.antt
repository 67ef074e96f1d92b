-- Words, each after a space.
use Rattle.std.proofs.Common.{◌≡◌, ℕ, ◌+◌, ◌<◌, List, [], ◌∷◌, ◌++◌, map, length, get_or, drop, append_assoc, append-nil, refl, sym, ◌∙◌, ap, String, Global, Result, Ok, Err, IfOk, string_bytes, add-one, drop-cons, ℤ, Option, codes, decimal}
use Rattle.std.specs.Prelude.{slice_get}
use Rattle.std.specs.Borrow.{Bor}
use Rattle.std.specs.Option.{option_copied}
use Rattle.std.specs.Fmt.{signed_decimal}
use Rattle.protocol_model.specs.Value as Model
use Rattle.protocol_model.specs.World.{class_at}
use Rattle.script_model.specs.Lines.{Text}
use Rattle.script_model.specs.Reports.{words, report_text, state_word, handed_word, actor_text, arg_text}
use Rattle.value_codec.specs.Values.{arg_of, whole_of}
use Rattle.value_codec.specs.declared.handed.Handed.{Handed}
use Rattle.value_codec.specs.declared.pair.Pair.{Pair}
use Rattle.bit_io.specs.declared.Memory.{Memory}
use Rattle.class_layout.specs.Tables.{Layout, table_in}
use Rattle.class_layout.specs.declared.class.Class.{Class}
use Rattle.script_lines.specs.ReportOf.{call_name, handle_name, named_value}
use Rattle.event_text.specs.Found.{called_at, class_name, called_name}
use Rattle.event_text.specs.Words.{line, after_words, word_of, value_text, handed_text, copy_text, handed_words, copied_report}
use Rattle.event_text.proofs.Naming.{found-is, class-named, handle-named, number-named}

-- words after the first one
pub words-after : (w : Text) (ws : List Text) → words (w ∷ ws) ≡ w ++ after_words ws
words-after w [] = sym (append-nil w)
words-after w (x ∷ ws) = ap (λ rest. w ++ 32 ∷ rest) (words-after x ws)

-- one word more
pub turn : {X : Type 0} (f : X → Text) (whole text next : Text) (xs : List X) (i : ℕ) (x : X) → i < length xs
    → x ≡ get_or xs i x → next ≡ text ++ 32 ∷ f x
    → text ++ after_words (map f (drop i xs)) ≡ whole → next ++ after_words (map f (drop (i + 1) xs)) ≡ whole
turn f whole text next xs i x h item e before =
    let split : drop i xs ≡ get_or xs i x ∷ drop (i + 1) xs = rw (add-one, drop-cons xs i x) refl in
    let here : drop i xs ≡ x ∷ drop (i + 1) xs = split ∙ ap (λ y. y ∷ drop (i + 1) xs) (sym item) in
    ap (λ t. t ++ after_words (map f (drop (i + 1) xs))) e
    ∙ append_assoc text (32 ∷ f x) (after_words (map f (drop (i + 1) xs)))
    ∙ ap (λ ys. text ++ after_words (map f ys)) (sym here) ∙ before

-- two functions one after another
twice : {X Y Z : Type 0} (f : Y → Z) (g : X → Y) (xs : List X) → map f (map g xs) ≡ map (λ x. f (g x)) xs
twice f g [] = refl
twice f g (x ∷ xs) = ap (λ zs. f (g x) ∷ zs) (twice f g xs)

-- two functions with the same values
alike : {X Y : Type 0} (f g : X → Y) → ((x : X) → f x ≡ g x) → (xs : List X) → map f xs ≡ map g xs
alike f g h [] = refl
alike f g h (x ∷ xs) = ap (λ y. y ∷ map f xs) (h x) ∙ ap (λ ys. g x ∷ ys) (alike f g h xs)

-- ---- calls

handed-is : (layout : Layout) (word : Text) (player : ℕ) (o : Option (Bor Class)) (h : Handed)
    → option_copied o ≡ slice_get layout.classes h.class
    → handed_text word player o h ≡ line (word ∷ handed_words (table_in layout) player h)
handed-is layout word player o h found =
    let name : called_name (called_at o h.call) ≡ call_name (class_at (table_in layout) h.class) h.call =
    number-named layout.segments o h.call ∙ ap (λ c. call_name c h.call) (found-is layout h.class o found) in
    ap (λ n. line (word ∷ decimal player ∷ actor_text h.actor ∷ n
    ∷ (handed_word h.verdict ++ after_words (map word_of h.args)) ∷ [])) name
    ∙ ap (λ tail. line (word ∷ decimal player ∷ actor_text h.actor
    ∷ call_name (class_at (table_in layout) h.class) h.call ∷ tail ∷ []))
    (sym (words-after (handed_word h.verdict) (map word_of h.args)))
    ∙ ap (λ ws. line (word ∷ decimal player ∷ actor_text h.actor
    ∷ call_name (class_at (table_in layout) h.class) h.call ∷ handed_word h.verdict ∷ ws))
    (sym (twice arg_text arg_of h.args))

-- what is written in the one form is written in the other
pub handed_written : (r : Result (String Global) Memory) (layout : Layout) (word : Text) (player : ℕ)
    (o : Option (Bor Class)) (h : Handed) → option_copied o ≡ slice_get layout.classes h.class
    → IfOk r (λ text. string_bytes text ≡ handed_text word player o h)
    → IfOk r (λ text. string_bytes text ≡ line (word ∷ handed_words (table_in layout) player h))
handed_written (Ok text) layout word player o h found e = e ∙ handed-is layout word player o h found
handed_written (Err m) layout word player o h found e = e

-- ---- copies

-- a value after its name
abbrev named_word : List ℕ × ℤ → Text
named_word v = v.0 ++ 61 ∷ signed_decimal v.1

values-are : (layout : Layout) (n : ℕ) (o : Option (Bor Class)) → option_copied o ≡ slice_get layout.classes n
    → (values : List Pair)
    → map (value_text o) values ≡ map named_word (map (named_value (class_at (table_in layout) n)) values)
values-are layout n o found values =
    alike (value_text o) (λ (p : Pair). named_word (named_value (class_at (table_in layout) n) p)) (λ p.
    ap (λ name. name ++ 61 ∷ signed_decimal (whole_of p.value))
    (handle-named layout.segments o p.prop ∙ ap (λ c. handle_name c p.prop) (found-is layout n o found))) values
    ∙ sym (twice named_word (named_value (class_at (table_in layout) n)) values)

copy-is : (layout : Layout) (player actor n : ℕ) (o : Option (Bor Class)) (channel : Option ℕ) (values : List Pair)
    → option_copied o ≡ slice_get layout.classes n
    → copy_text player actor o channel values
    ≡ report_text (copied_report (table_in layout) player actor n channel values)
copy-is layout player actor n o channel values found =
    let name : class_name o ≡ (class_at (table_in layout) n).name =
    class-named layout.segments o ∙ ap (λ (c : Model.Class). c.name) (found-is layout n o found) in
    ap (λ t. line (codes "copy" ∷ decimal player ∷ actor_text actor ∷ t
    ∷ (state_word channel ++ after_words (map (value_text o) values)) ∷ [])) name
    ∙ ap (λ tail. line (codes "copy" ∷ decimal player ∷ actor_text actor
    ∷ (class_at (table_in layout) n).name ∷ tail ∷ []))
    (sym (words-after (state_word channel) (map (value_text o) values)))
    ∙ ap (λ ws. line (codes "copy" ∷ decimal player ∷ actor_text actor
    ∷ (class_at (table_in layout) n).name ∷ state_word channel ∷ ws))
    (values-are layout n o found values)

pub copy_written : (r : Result (String Global) Memory) (layout : Layout) (player actor n : ℕ) (o : Option (Bor Class))
    (channel : Option ℕ) (values : List Pair) → option_copied o ≡ slice_get layout.classes n
    → IfOk r (λ text. string_bytes text ≡ copy_text player actor o channel values)
    → IfOk r (λ text. string_bytes text
    ≡ report_text (copied_report (table_in layout) player actor n channel values))
copy_written (Ok text) layout player actor n o channel values found e =
    e ∙ copy-is layout player actor n o channel values found
copy_written (Err m) layout player actor n o channel values found e = e
