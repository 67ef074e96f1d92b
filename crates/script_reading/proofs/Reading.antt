-- The lines of a script by what is kept are those that the rules of every script read.
use Rattle.std.proofs.Common.{◌≡◌, ℕ, ◌+◌, List, [], ◌∷◌, length, refl, ap, Bool, true, false, nat_lt, Option, Some, None}
use Rattle.std.specs.List.{list_all}
use Rattle.protocol_model.specs.declared.LineWhy.{LineWhy}
use Rattle.protocol_model.specs.Limits.{line_bytes}
use Rattle.protocol_model.specs.Value.{Table}
use Rattle.script_model.specs.Lines.{Text}
use Rattle.script_model.specs.Script.{Spelled, spelled_of}
use Rattle.script_model.specs.ScriptRules.{Before, refusal_of, line_of, after_spelled, does_nothing, lines_from, cons_ok}
use Rattle.script_reading.specs.Kept.{Kept, kept_after}
use Rattle.script_reading.specs.Judging.{judged, spelled_line, lines_by}
use Rattle.script_reading.specs.Stands.{Stands}
use Rattle.script_reading.proofs.Judged.{outcome}
use Rattle.script_reading.proofs.Ruled.{judged_is}
use Rattle.script_reading.proofs.After.{after_is}

step : (table : Table) (live : Bool) (kept : Kept) (before : Before) (n : ℕ) (text : Text) (texts : List Text)
    → Stands table kept before
    → lines_by table live kept (n + 1) texts ≡ lines_from table live before (n + 1) texts
    → ((line : Spelled) → refusal_of table live before line ≡ None
    → lines_by table live (kept_after table kept (line_of table before line)) (n + 1) texts
    ≡ lines_from table live (after_spelled table before line) (n + 1) texts)
    → lines_by table live kept n (text ∷ texts) ≡ lines_from table live before n (text ∷ texts)
unfolding spelled_line
step table live kept before n text texts s same later = by_long (nat_lt line_bytes (length text)) refl
  where
    by_refusal : (line : Spelled) (r : Option LineWhy) → nat_lt line_bytes (length text) ≡ false
        → list_all (λ c. nat_lt c 128) text ≡ true → does_nothing text ≡ false → spelled_of text ≡ Some line
        → judged table live kept line ≡ outcome r (line_of table before line) → refusal_of table live before line ≡ r
        → lines_by table live kept n (text ∷ texts) ≡ lines_from table live before n (text ∷ texts)
    by_refusal line None a b c d e f =
        rw (a, b, c, d, e, f, lines_by, lines_from) (ap (cons_ok (line_of table before line)) (later line f))
    by_refusal line (Some why) a b c d e f = rw (a, b, c, d, e, f, lines_by, lines_from) refl

    by_spelled : (o : Option Spelled) → nat_lt line_bytes (length text) ≡ false
        → list_all (λ c. nat_lt c 128) text ≡ true → does_nothing text ≡ false → spelled_of text ≡ o
        → lines_by table live kept n (text ∷ texts) ≡ lines_from table live before n (text ∷ texts)
    by_spelled None a b c d = rw (a, b, c, d, lines_by, lines_from) refl
    by_spelled (Some line) a b c d =
        by_refusal line (refusal_of table live before line) a b c d (judged_is table live kept before line s) refl

    by_nothing : (t : Bool) → nat_lt line_bytes (length text) ≡ false → list_all (λ c. nat_lt c 128) text ≡ true
        → does_nothing text ≡ t
        → lines_by table live kept n (text ∷ texts) ≡ lines_from table live before n (text ∷ texts)
    by_nothing true a b c = rw (a, b, c, lines_by, lines_from) same
    by_nothing false a b c = by_spelled (spelled_of text) a b c refl

    by_ascii : (t : Bool) → nat_lt line_bytes (length text) ≡ false → list_all (λ c. nat_lt c 128) text ≡ t
        → lines_by table live kept n (text ∷ texts) ≡ lines_from table live before n (text ∷ texts)
    by_ascii false a b = rw (a, b, lines_by, lines_from) refl
    by_ascii true a b = by_nothing (does_nothing text) a b refl

    by_long : (t : Bool) → nat_lt line_bytes (length text) ≡ t
        → lines_by table live kept n (text ∷ texts) ≡ lines_from table live before n (text ∷ texts)
    by_long true a = rw (a, lines_by, lines_from) refl
    by_long false a = by_ascii (list_all (λ c. nat_lt c 128) text) a refl

pub lines_is : (table : Table) (live : Bool) (kept : Kept) (before : Before) (n : ℕ) (texts : List Text)
    → Stands table kept before → lines_by table live kept n texts ≡ lines_from table live before n texts
lines_is table live kept before n [] s = refl
lines_is table live kept before n (text ∷ texts) s =
    step table live kept before n text texts s (lines_is table live kept before (n + 1) texts s)
    (λ line none. lines_is table live (kept_after table kept (line_of table before line))
    (after_spelled table before line)
    (n + 1) texts (after_is table live kept before line s none))
