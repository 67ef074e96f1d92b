-- The kinds that the types' words name, and the names of a path's text.
use Rattle.std.proofs.Common.{◌≡◌, ℕ, List, [], ◌∷◌, length, Bool, true, false, ◌&&◌, nat_le, Option, Some, None, Result, Ok, Err, cond, codes, refl, subst}
use Rattle.std.specs.Bool.{then_some}
use Rattle.std.specs.List.{list_all}
use Rattle.std.specs.Str.{bytes_eq}
use Rattle.std.proofs.lemmas.Bool.{and_parts, and_from}
use Rattle.std.proofs.lemmas.Option.{none-some, same_Some, option_and_then_some}
use Rattle.protocol_model.specs.declared.Kind.{Kind}
use Rattle.script_model.specs.Script.{pieces}
use Rattle.table_model.specs.declared.TableWhy.{TableWhy}
use Rattle.table_model.specs.declared.TableWhy.TheVariants.{Range}
use Rattle.table_model.specs.Words.{meaning_in, is_name, names_behind, path_of, plain_types, number_behind, counted, bytes_type, counted_type, type_of}
use Rattle.table_model.specs.Rules.{arg_kinds}
use Rattle.table_model.specs.Facts.{is_type}
use Rattle.table_model.proofs.Checking.{then_ok, test_some, same_ok}

-- ---- kinds

-- a test that each meaning of a list of words passes is passed by the one that is found
pub meaning_passes : {A : Type 0} (test : A → Bool) (words : List (List ℕ × A)) (word : List ℕ) (a : A)
    → list_all (λ w. test w.1) words ≡ true → meaning_in words word ≡ Some a → test a ≡ true
meaning_passes test [] word a all h = absurd (none-some a h)
meaning_passes test (w ∷ words) word a all h =
    let p = and_parts (test w.1) (list_all (λ v. test v.1) words) all in
    by_word (bytes_eq w.0 word) p.0 (meaning_passes test words word a p.1) h
  where
    by_word : (b : Bool) → test w.1 ≡ true → (meaning_in words word ≡ Some a → test a ≡ true)
        → cond b (Some w.1) (meaning_in words word) ≡ Some a → test a ≡ true
    by_word true here rest e = subst (λ x. test x ≡ true) (same_Some _ a e) here
    by_word false here rest e = rest e

counted_where : (b : Bool) (kind : ℕ → Kind) (n : ℕ) (k : Kind) → cond b (Ok (kind n)) (Err Range) ≡ Ok k
    → (b ≡ true) × (kind n ≡ k)
counted_where true kind n k h = (refl, same_ok (kind n) k h)
counted_where false kind n k h = absurd (cc)

enum_is : (argument : Bool) (m : ℕ) (k : Kind) → counted 2 65535 Kind.Enum m ≡ Ok k → is_type argument k ≡ true
enum_is argument m k h =
    let p = counted_where (nat_le 2 m && nat_le m 65535) Kind.Enum m k h in
    subst (λ x. is_type argument x ≡ true) p.1 p.0

bytes_is : (argument : Bool) (n : Option ℕ) (k : Kind) → bytes_type argument n ≡ Ok k → is_type argument k ≡ true
bytes_is true (Some n) k h =
    let p = counted_where (nat_le 1 n && nat_le n 2048) Kind.Bytes n k h in
    subst (λ x. is_type true x ≡ true) p.1 p.0
bytes_is true None k h = absurd (cc)
bytes_is false n k h = absurd (cc)

counted_is : (argument : Bool) (text : List ℕ) (k : Kind) → counted_type argument text ≡ Ok k
    → is_type argument k ≡ true
counted_is argument text k h = by_number (number_behind (codes "enum:") text) h
  where
    other : Result Kind TableWhy
    other = bytes_type argument (number_behind (codes "bytes:") text)

    by_number : (o : Option ℕ)
        → ◌≡◌ {A = Result Kind TableWhy} (elim o [ Some m ↦ counted 2 65535 Kind.Enum m | None ↦ other ]) (Ok k)
        → is_type argument k ≡ true
    by_number (Some m) e = enum_is argument m k e
    by_number None e = bytes_is argument (number_behind (codes "bytes:") text) k e

plain_are : (argument : Bool) → list_all (λ (w : List ℕ × Kind). is_type argument w.1) plain_types ≡ true
plain_are argument = refl

-- a type's word names a kind that a table may have
pub type_is : (argument : Bool) (text : List ℕ) (k : Kind) → type_of argument text ≡ Ok k → is_type argument k ≡ true
type_is argument text k h = by_word (meaning_in plain_types text) refl h
  where
    by_word : (o : Option Kind) → meaning_in plain_types text ≡ o
        → ◌≡◌ {A = Result Kind TableWhy} (elim o [ Some kind ↦ Ok kind | None ↦ counted_type argument text ]) (Ok k)
        → is_type argument k ≡ true
    by_word (Some kind) m e =
        let plain = meaning_passes (is_type argument) plain_types text kind (plain_are argument) m in
        subst (λ x. is_type argument x ≡ true) (same_ok kind k e) plain
    by_word None m e = counted_is argument text k e

-- and so do the words of a call's arguments
pub kinds_are : (types : List (List ℕ)) (kinds : List Kind) → arg_kinds types ≡ Ok kinds
    → list_all (is_type true) kinds ≡ true
kinds_are [] kinds h = subst (λ ks. list_all (is_type true) ks ≡ true) (same_ok [] kinds h) refl
kinds_are (type ∷ types) kinds h =
    let k = then_ok (type_of true type) _ kinds h in
    let ks = then_ok (arg_kinds types) _ kinds k.2 in
    let all = and_from _ _ (type_is true type k.0 k.1) (kinds_are types ks.0 ks.1) in
    subst (λ ks. list_all (is_type true) ks ≡ true) (same_ok (k.0 ∷ ks.0) kinds ks.2) all

-- ---- paths

-- 1 to 8 names
abbrev pub are_path_names : List (List ℕ) → Bool
are_path_names names = nat_le 1 (length names) && nat_le (length names) 8 && list_all is_name names

-- a path has 1 to 8 names
pub path_is : (text : List ℕ) (names : List (List ℕ)) → path_of text ≡ Some names → are_path_names names ≡ true
path_is text names h =
    option_and_then_some _ (names_behind (pieces 47 text)) names h (λ found behind e. tested found e)
  where
    tested : (found : List (List ℕ)) → then_some (are_path_names found) found ≡ Some names → are_path_names names ≡ true
    tested found e =
        let t = test_some (are_path_names found) found names e in subst (λ ns. are_path_names ns ≡ true) t.1 t.0
